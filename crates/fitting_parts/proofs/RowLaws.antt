-- The parts of rows with small numbers fit, table by table.
use Rattle.std.proofs.Common.{◌≡◌, ℕ, zero, suc, ◌+◌, ◌≤◌, Bool, true, false, List, [], ◌∷◌, map, length, Option, Some, None, arith}
use Rattle.std.specs.List.{flat_map}
use Rattle.std.proofs.lemmas.List.{length-append}
use Rattle.machine.specs.Program.{Body, NativeName, ObjectToString, EnumEquals, EnumToString, ArrayLength, ArrayCopy, StringLength, StringChars, StringConcat, StringSubstring, StringEquals, StringCompare, StringFromChars, StringFromChar, NumberSigned, NumberUnsigned, InitializeArray, DebugPrint, native_number}
use Rattle.classes.specs.Classes.{FieldKind}
use Rattle.assemblies.specs.Chosen.{first_of}
use Rattle.assemblies.specs.Closed.{Each}
use Rattle.assemblies.specs.Rows.{TypeToken, RawType, RawKind, RawCatch, RawFinally, RawOther, RawClause, RawCode, AssemblyRow, TypeRefRow, FieldRefRow, MethodRefRow, TypeRow, FieldRow, MethodRow, Assembly}
use Rattle.kept_closure.specs.Named.{InOption}
use Rattle.image_form.specs.Signatures.{type_word}
use Rattle.image_form.specs.Form.{or_none, type_flags, is_native, Manner, clauses_in, data_of}
use Rattle.image_form.specs.Whole.{Methods, interfaces_of, clauses_of, datas_of}
use Rattle.image_form.specs.Limits.{TypeIsSmall}
use Rattle.msspot_write.specs.declared.parts.Column.TheVariants.{Number}
use Rattle.msspot_write.specs.declared.parts.PartRow.{PartRow}
use Rattle.msspot_write.specs.Spelt.{numbers, assembly_part, ref_part, field_ref_part, method_ref_part, type_part, type_parts, interface_part, field_numbers, field_parts, locals_column, body_columns, method_parts, clause_numbers, clause_part, spec_part, data_part, parts_for}
use Rattle.converted.specs.Images.{ColumnFits, NumbersFit}
use Rattle.fitting_parts.specs.Small.{IsSmall, ScopeIsSmall, RawIsSmall, KindIsSmall, ClauseIsSmall, CodeIsSmall, FieldRefIsSmall, MethodRefIsSmall, TypeRowIsSmall, MethodIsSmall, HasSmallNumbers}
use Rattle.fitting_parts.proofs.ByteLaws.{word_small, scope_small, or_none_small, type_flags_small, method_flags_small, raw_bytes, signature_bytes, locals_bytes}

abbrev RowFits : PartRow → Type 0
RowFits r = Each ColumnFits r.columns

-- ---- lists

mapped : {A B : Type 0} (P : A → Type 0) (Q : B → Type 0) (f : A → B) → ((x : A) → P x → Q (f x)) → (xs : List A) → Each P xs → Each Q (map f xs)
mapped P Q f h [] each = tt
mapped P Q f h (x ∷ xs) each = (h x each.0, mapped P Q f h xs each.1)

always : {A : Type 0} (Q : A → Type 0) → ((x : A) → Q x) → (xs : List A) → Each Q xs
always Q h [] = tt
always Q h (x ∷ xs) = (h x, always Q h xs)

numbers_fit : (ns : List ℕ) → Each IsSmall ns → Each ColumnFits (numbers ns)
numbers_fit ns small = mapped IsSmall ColumnFits (λ n. Number n) (λ n h. h) ns small

-- ranges that lie one behind the other

first_below : (first count : ℕ) → first_of first count ≤ first
first_below first zero = omega arith
first_below first (suc n) = omega arith

module _ {A B : Type 0} (range : A → List B) (at : ℕ) (x : A) (xs : List A) (few : IsSmall (at + length (flat_map range (x ∷ xs)))) where
  whole : length (flat_map range (x ∷ xs)) ≡ length (range x) + length (flat_map range xs)
  whole = length-append (range x) (flat_map range xs)

  first_small : IsSmall (first_of at (length (range x)))
  first_small = omega (arith, few, first_below at (length (range x)))

  count_small : IsSmall (length (range x))
  count_small = omega (arith, few, whole)

  rest_small : IsSmall (at + length (range x) + length (flat_map range xs))
  rest_small = omega (arith, few, whole)

-- ---- references and specifications

assembly_fits : (a : AssemblyRow) → Each IsSmall a.version → RowFits (assembly_part a)
assembly_fits a small = (tt, numbers_fit a.version small)

ref_fits : (r : TypeRefRow) → ScopeIsSmall r.scope → RowFits (ref_part r)
ref_fits r small = (scope_small r.scope small, (tt, (tt, tt)))

field_ref_fits : (r : FieldRefRow) → FieldRefIsSmall r → RowFits (field_ref_part r)
field_ref_fits r small = (word_small r.parent small.parent, (tt, (raw_bytes r.signature [] small.signature tt, tt)))

method_ref_fits : (r : MethodRefRow) → MethodRefIsSmall r → RowFits (method_ref_part r)
method_ref_fits r small = (word_small r.parent small.parent, (tt, (signature_bytes r.signature small.signature, tt)))

spec_fits : (s : RawType) → RawIsSmall s → RowFits (spec_part s)
spec_fits s small = (raw_bytes s [] small tt, tt)

data_fits : (bytes : List ℕ) → RowFits (data_part bytes)
data_fits bytes = (tt, tt)

-- ---- types

same_number : (n : ℕ) → IsSmall n → IsSmall n
same_number n small = small

type_fits : (at : ℕ) (t : TypeRow) → TypeRowIsSmall t → IsSmall (first_of at (length t.interfaces)) → IsSmall (length t.interfaces) → RowFits (type_part at t)
type_fits at t small first count = (
  tt,
  (
    tt,
    numbers_fit
        (or_none (λ n. n) t.enclosing ∷ or_none type_word t.extends ∷ type_flags t.kind t.is_interface t.is_abstract t.is_lazy ∷ first_of at (length t.interfaces) ∷ length t.interfaces ∷ t.first_field ∷ t.field_count ∷ t.first_method ∷ t.method_count ∷ []) (
          or_none_small IsSmall (λ n. n) same_number t.enclosing small.enclosing,
          (
            or_none_small TypeIsSmall type_word word_small t.extends small.extends,
            (
              type_flags_small t.kind t.is_interface t.is_abstract t.is_lazy,
              (first, (count, (small.first_field, (small.field_count, (small.first_method, (small.method_count, tt)))))),
            ),
          ),
        ),
  ),
)

abbrev interfaces : TypeRow → List TypeToken
interfaces t = t.interfaces

types_fit : (at : ℕ) (ts : List TypeRow) → Each TypeRowIsSmall ts → IsSmall (at + length (flat_map interfaces ts)) → Each RowFits (type_parts at ts)
types_fit at [] each few = tt
types_fit at (t ∷ ts) each few = (
  type_fits at t each.0 (first_small interfaces at t ts few) (count_small interfaces at t ts few),
  types_fit (at + length t.interfaces) ts each.1 (rest_small interfaces at t ts few),
)

interface_fits : (t : TypeToken) → TypeIsSmall t → RowFits (interface_part t)
interface_fits t small = (word_small t small, tt)

-- ---- fields

abbrev data_in : FieldRow → List (List ℕ)
data_in f = data_of f.kind

kind_fits : (n : ℕ) (kind : FieldKind) → IsSmall n → Each ColumnFits (numbers (field_numbers n kind))
kind_fits n FieldKind.InstanceField small = (omega arith, (omega arith, tt))
kind_fits n FieldKind.StaticField small = (omega arith, (omega arith, tt))
kind_fits n FieldKind.LiteralField small = (omega arith, (omega arith, tt))
kind_fits n (FieldKind.DataField bytes) small = (omega arith, (small, tt))

fields_fit : (n : ℕ) (fs : List FieldRow) → Each (λ (x : FieldRow). RawIsSmall x.signature) fs → IsSmall (n + length (flat_map data_in fs)) → Each RowFits (field_parts n fs)
fields_fit n [] each few = tt
fields_fit n (f ∷ fs) each few = (
  (tt, (raw_bytes f.signature [] each.0 tt, kind_fits n f.kind (omega (arith, few)))),
  fields_fit (n + length (data_of f.kind)) fs each.1 (rest_small data_in n f fs few),
)

-- ---- methods

native_small : (name : NativeName) → IsSmall (native_number name)
native_small ObjectToString = omega arith
native_small EnumEquals = omega arith
native_small EnumToString = omega arith
native_small ArrayLength = omega arith
native_small ArrayCopy = omega arith
native_small StringLength = omega arith
native_small StringChars = omega arith
native_small StringConcat = omega arith
native_small StringSubstring = omega arith
native_small StringEquals = omega arith
native_small StringCompare = omega arith
native_small StringFromChars = omega arith
native_small StringFromChar = omega arith
native_small NumberSigned = omega arith
native_small NumberUnsigned = omega arith
native_small InitializeArray = omega arith
native_small DebugPrint = omega arith

locals_fit : (has : Bool) (ts : List RawType) → IsSmall (length ts) → Each RawIsSmall ts → ColumnFits (locals_column has ts)
locals_fit true ts few small = locals_bytes ts few small
locals_fit false ts few small = omega arith

no_code_fits : (n : ℕ) → IsSmall n → Each ColumnFits (numbers (n ∷ 0 ∷ 65535 ∷ 0 ∷ 0 ∷ 0 ∷ []))
no_code_fits n small = (small, (omega arith, (omega arith, (omega arith, (omega arith, (omega arith, tt))))))

module _ (clause : ℕ) (k : Manner) where
  code_fits : (c : RawCode) → CodeIsSmall c → IsSmall (first_of clause (length c.clauses)) → IsSmall (length c.clauses) → Each ColumnFits (body_columns clause k Body.Code (Some c))
  code_fits c small first count = (tt, (tt, (locals_fit k.has_locals c.locals small.local_count small.locals, (small.max_stack, (first, (count, tt))))))

  body_fits : (b : Body) (o : Option RawCode) → InOption CodeIsSmall o → IsSmall (first_of clause (length (clauses_in o))) → IsSmall (length (clauses_in o)) → Each ColumnFits (body_columns clause k b o)
  body_fits (Body.Native name) o small first count = no_code_fits (native_number name) (native_small name)
  body_fits Body.Code None small first count = no_code_fits 65535 (omega arith)
  body_fits Body.Missing None small first count = no_code_fits 65535 (omega arith)
  body_fits Body.Code (Some c) small first count = code_fits c small first count
  body_fits Body.Missing (Some c) small first count = code_fits c small first count

abbrev clauses : Manner × MethodRow → List RawClause
clauses x = clauses_in x.1.code

methods_fit : (clause : ℕ) (xs : Methods) → Each (λ (x : Manner × MethodRow). MethodIsSmall x.1) xs → IsSmall (clause + length (flat_map clauses xs)) → Each RowFits (method_parts clause xs)
methods_fit clause [] each few = tt
methods_fit clause (x ∷ xs) each few = (
  (
    tt,
    (
      signature_bytes x.1.signature each.0.signature,
      (
        method_flags_small x.1.is_static x.1.is_virtual x.1.is_newslot x.1.is_abstract (is_native x.1.body),
        body_fits clause x.0 x.1.body x.1.code each.0.code (first_small clauses clause x xs few) (count_small clauses clause x xs few),
      ),
    ),
  ),
  methods_fit (clause + length (clauses_in x.1.code)) xs each.1 (rest_small clauses clause x xs few),
)

-- ---- clauses

kind_and_places : (kind : RawKind) (places : List ℕ) → KindIsSmall kind → Each IsSmall places → Each IsSmall (clause_numbers kind places)
kind_and_places (RawCatch t) places small h = (omega arith, (word_small t small, h))
kind_and_places RawFinally places small h = (omega arith, (omega arith, h))
kind_and_places RawOther places small h = (omega arith, (omega arith, h))

clause_fits : (c : RawClause) → ClauseIsSmall c → RowFits (clause_part c)
clause_fits c small =
    numbers_fit (clause_numbers c.kind (c.try_start ∷ c.try_end ∷ c.start ∷ c.end ∷ []))
    (kind_and_places c.kind (c.try_start ∷ c.try_end ∷ c.start ∷ c.end ∷ []) small.kind (small.try_start, (small.try_end, (small.start, (small.end, tt)))))

-- ---- all tables

pub small_fits : (p : Assembly) (ms : Methods) → HasSmallNumbers p ms → NumbersFit (parts_for p ms)
small_fits p ms small =
    record {
      version = small.version;
      entry = or_none_small IsSmall (λ n. n) same_number p.entry small.entry;
      tables = (
        mapped (λ (a : AssemblyRow). Each IsSmall a.version) RowFits assembly_part assembly_fits p.assemblies small.versions,
        (
          mapped (λ (r : TypeRefRow). ScopeIsSmall r.scope) RowFits ref_part ref_fits p.refs small.refs,
          (
            mapped FieldRefIsSmall RowFits field_ref_part field_ref_fits p.field_refs small.field_refs,
            (
              mapped MethodRefIsSmall RowFits method_ref_part method_ref_fits p.method_refs small.method_refs,
              (
                types_fit 0 p.types small.types (omega (arith, small.interface_count)),
                (
                  mapped TypeIsSmall RowFits interface_part interface_fits (interfaces_of p) small.interfaces,
                  (
                    fields_fit 0 p.fields small.fields (omega (arith, small.data_count)),
                    (
                      methods_fit 0 ms small.methods (omega (arith, small.clause_count)),
                      (
                        mapped ClauseIsSmall RowFits clause_part clause_fits (clauses_of ms) small.clauses,
                        (mapped RawIsSmall RowFits spec_part spec_fits p.specs small.specs, (mapped (λ (bytes : List ℕ). Unit {0}) RowFits data_part (λ bytes any. data_fits bytes) (datas_of p) (always (λ (bytes : List ℕ). Unit {0}) (λ bytes. tt) (datas_of p)), tt)),
                      ),
                    ),
                  ),
                ),
              ),
            ),
          ),
        ),
      );
    }
