-- The natives of the base library, by type, name and signature.
use Rattle.std.specs.Prelude.{codes, ℕ, Bool, true, false, ◌&&◌, List, [], ◌∷◌, slice_get, Option, Some, None}
use Rattle.std.specs.List.{find}
use Rattle.std.specs.Option.{option_map}
use Rattle.plain_types.specs.declared.elem.Elem.{Elem}
use Rattle.plain_types.specs.declared.elem.Elem.TheVariants as elem
use Rattle.machine.specs.Data.{Id}
use Rattle.machine.specs.Texts.{same_text}
use Rattle.machine.specs.Throw.{on_some}
use Rattle.machine.specs.Program.{NativeName, ObjectToString, EnumEquals, EnumToString, ArrayLength, ArrayCopy, StringLength, StringChars, StringConcat, StringSubstring, StringEquals, StringCompare, StringFromChars, StringFromChar, NumberSigned, NumberUnsigned, InitializeArray, DebugPrint, Body, Native, Missing}
use Rattle.classes.specs.Classes.{SigType, Spelt, ClassToken, ValueToken, ArraySig, Direct, Signature}
use Rattle.classes.specs.Queries.{method_signature_eq, some_eq}
use Rattle.assemblies.specs.Rows.{MethodRow, Assembly, Nowhere}
use Rattle.assemblies.specs.Binding.{type_in, all_some, expanded_signature, method_owner}
use Rattle.world_rows.specs.Kinds.{system_type}

-- a type in the signature of a native
pub data NativeType : Type 0 where
  Plain : (elem : Elem) → NativeType
  Characters : NativeType
  AnyArray : NativeType
  FieldHandle : NativeType

pub record NativeRow : Type 0 where
  pub number : NativeName
  -- the file, and its type
  pub file : ℕ
  pub namespace : List ℕ
  pub type : List ℕ
  pub name : List ℕ
  pub has_this : Bool
  pub returns : Option Elem
  pub parameters : List NativeType

abbrev pub own : NativeName → List ℕ → List ℕ → Option Elem → List NativeType → NativeRow
own number type name returns parameters =
    record { number = number; file = 0; namespace = codes "System"; type = type; name = name; has_this = true; returns = returns; parameters = parameters }

abbrev pub fixed : NativeName → List ℕ → List ℕ → Option Elem → List NativeType → NativeRow
fixed number type name returns parameters =
    record { number = number; file = 0; namespace = codes "System"; type = type; name = name; has_this = false; returns = returns; parameters = parameters }

abbrev pub string : NativeType
string = Plain elem.String

abbrev pub int : NativeType
int = Plain elem.I4

-- by their numbers from 1
abbrev pub natives : List NativeRow
natives =
    own ObjectToString (codes "Object") (codes "ToString") (Some elem.String) []
    ∷ own EnumEquals (codes "Enum") (codes "Equals") (Some elem.Bool) (Plain elem.Object ∷ [])
    ∷ own EnumToString (codes "Enum") (codes "ToString") (Some elem.String) []
    ∷ own ArrayLength (codes "Array") (codes "get_Length") (Some elem.I4) []
    ∷ fixed ArrayCopy (codes "Array") (codes "Copy") None (AnyArray ∷ int ∷ AnyArray ∷ int ∷ int ∷ [])
    ∷ own StringLength (codes "String") (codes "get_Length") (Some elem.I4) []
    ∷ own StringChars (codes "String") (codes "get_Chars") (Some elem.Char) (int ∷ [])
    ∷ fixed StringConcat (codes "String") (codes "Concat") (Some elem.String) (string ∷ string ∷ [])
    ∷ own StringSubstring (codes "String") (codes "Substring") (Some elem.String) (int ∷ int ∷ [])
    ∷ fixed StringEquals (codes "String") (codes "Equals") (Some elem.Bool) (string ∷ string ∷ [])
    ∷ fixed StringCompare (codes "String") (codes "Compare") (Some elem.I4) (string ∷ string ∷ [])
    ∷ fixed StringFromChars (codes "String") (codes "FromChars") (Some elem.String) (Characters ∷ int ∷ int ∷ [])
    ∷ fixed StringFromChar (codes "String") (codes "FromChar") (Some elem.String) (Plain elem.Char ∷ [])
    ∷ fixed NumberSigned (codes "Number") (codes "Signed") (Some elem.String) (Plain elem.I8 ∷ [])
    ∷ fixed NumberUnsigned (codes "Number") (codes "Unsigned") (Some elem.String) (Plain elem.U8 ∷ [])
    ∷ record {
      number = InitializeArray;
      file = 0;
      namespace = codes "System.Runtime.CompilerServices";
      type = codes "RuntimeHelpers";
      name = codes "InitializeArray";
      has_this = false;
      returns = None;
      parameters = AnyArray ∷ FieldHandle ∷ [];
    }
    ∷ record {
      number = DebugPrint;
      file = 1;
      namespace = codes "Microsoft.SPOT";
      type = codes "Debug";
      name = codes "Print";
      has_this = false;
      returns = None;
      parameters = string ∷ [];
    }
    ∷ []

abbrev pub type_meant : List Assembly → NativeType → Option SigType
type_meant ps (Plain e) = Some (Spelt e)
type_meant ps Characters = Some (ArraySig (Spelt elem.Char))
type_meant ps AnyArray = option_map ClassToken (system_type ps (codes "Array"))
type_meant ps FieldHandle = option_map ValueToken (system_type ps (codes "RuntimeFieldHandle"))

abbrev pub signature_meant : List Assembly → NativeRow → Option Signature
signature_meant ps r =
    option_map (λ parameters. record { has_this = r.has_this; returns = option_map Spelt r.returns; parameters = parameters }) (all_some (λ t. option_map Direct (type_meant ps t)) r.parameters)

abbrev pub type_of_native : List Assembly → NativeRow → Option Id
type_of_native ps r = type_in ps r.file None (record { scope = Nowhere; namespace = r.namespace; name = r.type })

-- whether a method of a type is the native of the row
abbrev pub is_native : ℕ → List Assembly → ℕ → Option Id → MethodRow → NativeRow → Bool
is_native k ps file owner m r =
    same_text m.name r.name
    && (some_eq owner (type_of_native ps r) && method_signature_eq (expanded_signature k ps file m.signature) (signature_meant ps r))

abbrev pub native_at : ℕ → List Assembly → Id → Option NativeRow
native_at k ps c =
    on_some (slice_get ps c.file) (λ p. on_some (slice_get p.methods c.row) (λ m. find (is_native k ps c.file (method_owner ps c) m) natives))

abbrev pub native_body : Option NativeRow → Body
native_body (Some r) = Native r.number
native_body None = Missing

-- what an internal call is
unfoldable pub body_of_native : ℕ → List Assembly → Id → Body
body_of_native k ps c = native_body (native_at k ps c)
