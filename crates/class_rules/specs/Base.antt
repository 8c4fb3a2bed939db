-- What classes have because their first two files are the base library.
use Rattle.std.specs.Prelude.{◌≡◌, codes, ℕ, true, false, ◌&&◌, not, List, [], ◌∷◌, ◌++◌, map, Option, Some, None, slice_get, is_some, Bool}
use Rattle.std.specs.Option.{option_map}
use Rattle.board_types.specs.declared.board.Known.{Known}
use Rattle.plain_types.specs.declared.elem.Elem.{Elem}
use Rattle.plain_types.specs.declared.elem.Elem.TheVariants as elem
use Rattle.machine.specs.Data.{Id, id_eq, Basic, ClassOf, ValueOf, ArrayOf, PlaceType, Plain, elem_cell, To, type_eq}
use Rattle.machine.specs.Program.{Native, NativeName, ObjectToString, EnumEquals, EnumToString, ArrayLength, ArrayCopy, StringLength, StringChars, StringConcat, StringSubstring, StringEquals, StringCompare, StringFromChars, StringFromChar, NumberSigned, NumberUnsigned, InitializeArray, DebugPrint, Body}
use Rattle.machine_typed.specs.Typing.{is_number}
use Rattle.classes.specs.Classes.{Classes, OwnMethod, Signature, Reference, Class, TypeKind}
use Rattle.classes.specs.Queries.{parents, superclass_of, is_interface, own_instance_fields, methods_of, basic, array, known, library_class, fields, place_of, type_of, kind_of, some_eq, elements, knowns}
use Rattle.classes.specs.Listed.{this_before}
use Rattle.class_rules.specs.Rules.{holds_some, is_user, may_be_extended, under_object, is_filled, only_if, is_none_there}
use Rattle.class_rules.specs.Made.{is_made}
use Rattle.std.specs.List.{list_all}

-- what a native takes and gives, with the classes Enum, Array and RuntimeFieldHandle
abbrev pub word : Elem → PlaceType
word e = Plain (Basic e)

abbrev pub native_takes : Id → Id → Id → NativeName → List PlaceType
native_takes enums arrays handle ObjectToString = word elem.Object ∷ []
native_takes enums arrays handle EnumEquals = Plain (ClassOf enums) ∷ word elem.Object ∷ []
native_takes enums arrays handle EnumToString = Plain (ClassOf enums) ∷ []
native_takes enums arrays handle ArrayLength = Plain (ClassOf arrays) ∷ []
native_takes enums arrays handle ArrayCopy = Plain (ClassOf arrays) ∷ word elem.I4 ∷ Plain (ClassOf arrays) ∷ word elem.I4 ∷ word elem.I4 ∷ []
native_takes enums arrays handle StringLength = word elem.String ∷ []
native_takes enums arrays handle StringChars = word elem.String ∷ word elem.I4 ∷ []
native_takes enums arrays handle StringConcat = word elem.String ∷ word elem.String ∷ []
native_takes enums arrays handle StringSubstring = word elem.String ∷ word elem.I4 ∷ word elem.I4 ∷ []
native_takes enums arrays handle StringEquals = word elem.String ∷ word elem.String ∷ []
native_takes enums arrays handle StringCompare = word elem.String ∷ word elem.String ∷ []
native_takes enums arrays handle StringFromChars = Plain (ArrayOf (Basic elem.Char)) ∷ word elem.I4 ∷ word elem.I4 ∷ []
native_takes enums arrays handle StringFromChar = word elem.Char ∷ []
native_takes enums arrays handle NumberSigned = word elem.I8 ∷ []
native_takes enums arrays handle NumberUnsigned = word elem.U8 ∷ []
native_takes enums arrays handle InitializeArray = Plain (ClassOf arrays) ∷ Plain (ValueOf handle) ∷ []
native_takes enums arrays handle DebugPrint = word elem.String ∷ []

abbrev pub native_gives : NativeName → Option PlaceType
native_gives ObjectToString = Some (word elem.String)
native_gives EnumEquals = Some (word elem.Bool)
native_gives EnumToString = Some (word elem.String)
native_gives ArrayLength = Some (word elem.I4)
native_gives ArrayCopy = None
native_gives StringLength = Some (word elem.I4)
native_gives StringChars = Some (word elem.Char)
native_gives StringConcat = Some (word elem.String)
native_gives StringSubstring = Some (word elem.String)
native_gives StringEquals = Some (word elem.Bool)
native_gives StringCompare = Some (word elem.I4)
native_gives StringFromChars = Some (word elem.String)
native_gives StringFromChar = Some (word elem.String)
native_gives NumberSigned = Some (word elem.String)
native_gives NumberUnsigned = Some (word elem.String)
native_gives InitializeArray = None
native_gives DebugPrint = None

-- the base library: each fact is about the two files alone, and is true of them by computation
pub record IsBase (cs : Classes) : Type 0 where
  pub object : Id
  pub string : Id
  pub value : Id
  pub enums : Id
  pub arrays : Id
  pub exception : Id
  pub handle : Id
  pub object_is : basic cs elem.Object ≡ Some object
  pub string_is : basic cs elem.String ≡ Some string
  pub value_is : library_class cs (codes "ValueType") ≡ Some value
  pub enums_is : library_class cs (codes "Enum") ≡ Some enums
  pub arrays_is : array cs ≡ Some arrays
  pub exception_is : library_class cs (codes "Exception") ≡ Some exception
  pub basics : (e : Elem) → is_some (elem_cell e) ≡ true → is_some (basic cs e) ≡ true
  -- what stands above them
  pub object_top : parents cs object ≡ []
  pub arrays_top : parents cs arrays ≡ object ∷ []
  pub string_super : superclass_of cs string ≡ Some object
  pub value_super : superclass_of cs value ≡ Some object
  pub enums_super : superclass_of cs enums ≡ Some value
  pub exception_super : superclass_of cs exception ≡ Some object
  pub number_super : (e : Elem) (c : Id) → is_number (Basic e) ≡ true → basic cs e ≡ Some c → superclass_of cs c ≡ Some value
  -- what they are
  pub object_class : is_interface cs object ≡ false
  pub value_kind : kind_of cs value ≡ Some Reference
  pub enums_kind : kind_of cs enums ≡ Some Reference
  pub arrays_kind : kind_of cs arrays ≡ Some Reference
  pub exception_kind : kind_of cs exception ≡ Some Reference
  pub enums_abstract : holds_some (cs.class enums) (λ k. k.is_abstract) ≡ true
  pub string_whole : holds_some (cs.class string) (λ k. not k.is_abstract) ≡ true
  pub value_not_arrays : id_eq value arrays ≡ false
  pub exception_not_value : id_eq exception value ≡ false
  pub exception_not_arrays : id_eq exception arrays ≡ false
  -- without instance fields
  pub object_bare : own_instance_fields cs object ≡ []
  pub string_bare : own_instance_fields cs string ≡ []
  pub value_bare : own_instance_fields cs value ≡ []
  pub enums_bare : own_instance_fields cs enums ≡ []
  pub arrays_bare : own_instance_fields cs arrays ≡ []
  -- rule 24 asks it of the user's classes alone: nothing in the library extends Array, String or a value type
  pub low : (c d : Id) → is_user c ≡ false → superclass_of cs c ≡ Some d → may_be_extended cs d ≡ true
  -- rule 31 passes over Array, which is abstract; yet arrays are made
  pub arrays_filled : is_filled cs arrays ≡ true
  -- the machine's exceptions
  pub throws : (k : Known) → holds_some (known cs k) (λ c. is_made cs c && (under_object cs c && is_some (fields cs c))) ≡ true
  -- natives
  pub natives : (c : Id) (i : ℕ) (m : OwnMethod) (s : Signature) (name : NativeName) → is_user c ≡ false → slice_get (methods_of cs c) i ≡ Some m → m.signature ≡ Some s → m.body ≡ Native name → (this_before cs c s ++ map (place_of cs) s.parameters ≡ native_takes enums arrays handle name) × (option_map (λ r. Plain (type_of cs r)) s.returns ≡ native_gives name)

-- ---- the same as a test, over the types of the two files

abbrev pub where_some : {A : Type 0} → Option A → (A → Bool) → Bool
where_some None test = true
where_some (Some x) test = test x

abbrev pub is_alone : Id → List Id → Bool
is_alone c (d ∷ []) = id_eq c d
is_alone c _ = false

abbrev pub is_class_kind : Option TypeKind → Bool
is_class_kind (Some Reference) = true
is_class_kind _ = false

abbrev pub place_eq : PlaceType → PlaceType → Bool
place_eq (Plain a) (Plain b) = type_eq a b
place_eq (To a) (To b) = type_eq a b
place_eq _ _ = false

abbrev pub places_eq : List PlaceType → List PlaceType → Bool
places_eq [] [] = true
places_eq (a ∷ as') (b ∷ bs) = place_eq a b && places_eq as' bs
places_eq _ _ = false

abbrev pub result_eq : Option PlaceType → Option PlaceType → Bool
result_eq None None = true
result_eq (Some a) (Some b) = place_eq a b
result_eq _ _ = false

module _ (cs : Classes) where
  abbrev pub extends_low : Id → Bool
  extends_low c = where_some (superclass_of cs c) (may_be_extended cs)

  abbrev pub is_under : Option Id → Id → Bool
  is_under top c = some_eq (superclass_of cs c) top

  abbrev pub takes_well : Id → Id → Id → Id → Signature → Body → Bool
  takes_well enums arrays handle c s (Native name) =
      places_eq (this_before cs c s ++ map (place_of cs) s.parameters) (native_takes enums arrays handle name)
      && result_eq (option_map (λ r. Plain (type_of cs r)) s.returns) (native_gives name)
  takes_well enums arrays handle c s _ = true

  abbrev pub natives_fit : Id → Id → Id → Id → Bool
  natives_fit enums arrays handle c = list_all (λ m. where_some m.signature (λ s. takes_well enums arrays handle c s m.body)) (methods_of cs c)

  abbrev pub facts : List Id → Id → Id → Id → Id → Id → Id → Id → List Bool
  facts types object string value enums arrays exception handle =
      list_all (λ e. is_some (basic cs e)) elements
      ∷ is_none_there (parents cs object)
      ∷ is_alone object (parents cs arrays)
      ∷ is_under (Some object) string
      ∷ is_under (Some object) value
      ∷ is_under (Some value) enums
      ∷ is_under (Some object) exception
      ∷ list_all (λ e. only_if (is_number (Basic e)) (holds_some (basic cs e) (is_under (Some value)))) elements
      ∷ not (is_interface cs object)
      ∷ is_class_kind (kind_of cs value)
      ∷ is_class_kind (kind_of cs enums)
      ∷ is_class_kind (kind_of cs arrays)
      ∷ is_class_kind (kind_of cs exception)
      ∷ holds_some (cs.class enums) (λ k. k.is_abstract)
      ∷ holds_some (cs.class string) (λ k. not k.is_abstract)
      ∷ not (id_eq value arrays)
      ∷ not (id_eq exception value)
      ∷ not (id_eq exception arrays)
      ∷ is_none_there (own_instance_fields cs object)
      ∷ is_none_there (own_instance_fields cs string)
      ∷ is_none_there (own_instance_fields cs value)
      ∷ is_none_there (own_instance_fields cs enums)
      ∷ is_none_there (own_instance_fields cs arrays)
      ∷ list_all extends_low types
      ∷ is_filled cs arrays
      ∷ list_all (λ k. holds_some (known cs k) (λ c. is_made cs c && (under_object cs c && is_some (fields cs c)))) knowns
      ∷ list_all (natives_fit enums arrays handle) types
      ∷ []

  abbrev pub is_base : List Id → Bool
  is_base types =
      holds_some (basic cs elem.Object) (λ object.
      holds_some (basic cs elem.String) (λ string.
      holds_some (library_class cs (codes "ValueType")) (λ value.
      holds_some (library_class cs (codes "Enum")) (λ enums.
      holds_some (array cs) (λ arrays.
      holds_some (library_class cs (codes "Exception")) (λ exception.
      holds_some (library_class cs (codes "RuntimeFieldHandle")) (λ handle.
      list_all (λ b. b) (facts types object string value enums arrays exception handle))))))))

-- the types of the first two files are among these
abbrev pub HasTypes : Classes → List Id → Type 0
HasTypes cs types = (c : Id) (k : Class) → is_user c ≡ false → cs.class c ≡ Some k → (i : ℕ) × (slice_get types i ≡ Some c)
