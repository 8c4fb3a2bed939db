-- The kinds of types and fields, and the arrays of specifications, have a spelling.
use Rattle.std.proofs.Common.{◌≡◌, ◌∙◌, ℕ, zero, suc, ◌<◌, ◌≤◌, Bool, true, false, cond, List, [], ◌∷◌, length, Option, Some, None, Ok, Err, refl, sym, ap, subst, arith}
use Rattle.std.specs.Prelude.{not, is_some, if◌then◌else◌, slice_get}
use Rattle.std.specs.List.{find, list_all}
use Rattle.std.specs.Option.{option_map}
use Rattle.std.proofs.lemmas.Bool.{and_parts}
use Rattle.plain_types.specs.declared.elem.Elem.{Elem}
use Rattle.plain_types.specs.declared.elem.Elem.TheVariants as elem
use Rattle.file_tables.specs.Metadata.{MetadataPart, row_count}
use Rattle.cil_sig.specs.declared.sig.SigType.{SigType}
use Rattle.cil_sig.specs.Reading.{Part, whole_spec}
use Rattle.cil_sig.proofs.Wholes.{spec_takes}
use Rattle.machine.specs.Data.{Id}
use Rattle.machine.specs.Throw.{on_some}
use Rattle.classes.specs.Classes.{Classes, ClassToken, FieldKind, TypeKind, Reference, Builtin, Enumeration, OtherValue}
use Rattle.classes.specs.Queries.{elements, is_integer, own_instance_fields}
use Rattle.class_rules.specs.Rules.{value_well, is_one_of}
use Rattle.assemblies.specs.Rows.{RawType, Assembly}
use Rattle.assemblies.specs.Binding.{id_at, expanded}
use Rattle.image_form.specs.Signatures.{elem_byte, elem_at}
use Rattle.image_form.specs.Form.{enum_kind, only_array}
use Rattle.image_form.specs.Fits.{KindFits, IsNoLiteral}
use Rattle.kept_closure.specs.Kept.{is_literal}
use Rattle.world_rows.specs.Tokens.{type_defs}
use Rattle.world_rows.specs.Signatures.{raw_element, in_brackets, faulty_type, type_from, spec_signature}
use Rattle.world_rows.specs.Kinds.{is_class_of, element_of, is_enum, is_value, enum_element, number_of, derived_kind, kind_by, kind_of}

-- ---- elements that a byte alone spells

abbrev plain : Elem → Bool
plain elem.Void = false
plain elem.Class = false
plain elem.Value = false
plain _ = true

all_plain : list_all plain elements ≡ true
all_plain = refl

plain_byte : (e : Elem) → plain e ≡ true → elem_at (elem_byte e) ≡ Some e
plain_byte elem.Void h = absurd (cc h)
plain_byte elem.Bool h = refl
plain_byte elem.Char h = refl
plain_byte elem.I1 h = refl
plain_byte elem.U1 h = refl
plain_byte elem.I2 h = refl
plain_byte elem.U2 h = refl
plain_byte elem.I4 h = refl
plain_byte elem.U4 h = refl
plain_byte elem.I8 h = refl
plain_byte elem.U8 h = refl
plain_byte elem.String h = refl
plain_byte elem.Value h = absurd (cc h)
plain_byte elem.Class h = absurd (cc h)
plain_byte elem.Object h = refl

enum_fits : (e : Elem) → is_integer e ≡ true → enum_kind (elem_at (elem_byte e)) ≡ TypeKind.Enumeration e
enum_fits elem.Void h = absurd (cc h)
enum_fits elem.Bool h = absurd (cc h)
enum_fits elem.Char h = absurd (cc h)
enum_fits elem.I1 h = refl
enum_fits elem.U1 h = refl
enum_fits elem.I2 h = refl
enum_fits elem.U2 h = refl
enum_fits elem.I4 h = refl
enum_fits elem.U4 h = refl
enum_fits elem.I8 h = refl
enum_fits elem.U8 h = refl
enum_fits elem.String h = absurd (cc h)
enum_fits elem.Value h = absurd (cc h)
enum_fits elem.Class h = absurd (cc h)
enum_fits elem.Object h = absurd (cc h)

found_plain : (test : Elem → Bool) (xs : List Elem) (e : Elem) → find test xs ≡ Some e → list_all plain xs ≡ true → plain e ≡ true
found_plain test [] e at all = absurd (cc at)
found_plain test (x ∷ xs) e at all = by (test x) at (λ later. found_plain test xs e later (and_parts (plain x) (list_all plain xs) all).1)
  where
    by : (b : Bool) → cond b (Some x) (find test xs) ≡ Some e → (find test xs ≡ Some e → plain e ≡ true) → plain e ≡ true
    by true h later = let same : x ≡ e = cc h in subst (λ y. plain y ≡ true) same (and_parts (plain x) (list_all plain xs) all).0
    by false h later = later h

module _ (k : ℕ) (ps : List Assembly) (c : Id) where
  derived : (a b : Bool) (n e : Elem) → (if a then Enumeration n else if b then OtherValue else Reference) ≡ Builtin e → plain e ≡ true
  derived true b n e h = absurd (cc h)
  derived false true n e h = absurd (cc h)
  derived false false n e h = absurd (cc h)

  is_builtin : (e : Elem) → kind_of k ps c ≡ Builtin e → plain e ≡ true
  unfolding kind_of
  is_builtin e h = by (element_of ps c) refl h
    where
      by : (o : Option Elem) → element_of ps c ≡ o → kind_by o (derived_kind k ps c) ≡ Builtin e → plain e ≡ true
      by (Some x) at h = let same : x ≡ e = cc h in subst (λ y. plain y ≡ true) same (found_plain (is_class_of ps c) elements x at all_plain)
      by None at h = derived (is_enum k ps c) (is_value k ps c) (enum_element (number_of ps c)) e h

  pub kind_fits : (cs : Classes) (d : Id) (kind : TypeKind) → kind ≡ kind_of k ps c → value_well cs d kind ≡ true → KindFits kind
  kind_fits cs d (Builtin e) is well = plain_byte e (is_builtin e (sym is))
  kind_fits cs d (Enumeration e) is well = enum_fits e (and_parts (is_integer e) (is_one_of e (own_instance_fields cs d)) well).0
  kind_fits cs d _ is well = tt

pub not_literal : (kind : FieldKind) → not (is_literal kind) ≡ true → IsNoLiteral kind
not_literal FieldKind.LiteralField h = absurd (cc h)
not_literal _ h = tt

-- ---- specifications of arrays

is_array : (n : ℕ) (s : RawType) → 0 < n → only_array (in_brackets n s) ≡ Some (in_brackets n s)
is_array zero s h = absurd (omega (arith, h))
is_array (suc n) s h = refl

past : {A : Type 0} (xs : List A) (n : ℕ) → length xs ≤ n → slice_get xs n ≡ None
past [] n h = refl
past (x ∷ xs) zero h = absurd (omega (arith, h))
past (x ∷ xs) (suc n) h = past xs n (omega (arith, h))

none_there : {A : Type 0} (o : Option A) → o ≡ None → is_some o ≡ true → ⊥
none_there None e h = cc h
none_there (Some x) e h = cc e

module _ (k : ℕ) (ps : List Assembly) (f : ℕ) (p : Assembly) (at : slice_get ps f ≡ Some p) (m : MetadataPart) (all : length p.types ≡ row_count m type_defs) where
  no_class : expanded k ps f (faulty_type m) ≡ None
  no_class =
      ap (λ (o : Option Assembly). option_map ClassToken (on_some o (λ (q : Assembly). option_map (λ t. id_at f (row_count m type_defs)) (slice_get q.types (row_count m type_defs))))) at
      ∙ ap (λ o. option_map ClassToken (option_map (λ t. id_at f (row_count m type_defs)) o)) (past p.types (row_count m type_defs) (omega (arith, all)))

  pub spec_is_array : (blob : List ℕ) → is_some (expanded k ps f (spec_signature m blob)) ≡ true → only_array (spec_signature m blob) ≡ Some (spec_signature m blob)
  unfolding spec_signature
  spec_is_array blob named = by (whole_spec blob) refl named
    where
      by : (r : Part SigType) → whole_spec blob ≡ r → is_some (expanded k ps f (type_from m r)) ≡ true → only_array (type_from m r) ≡ Some (type_from m r)
      by (Ok s) e h = is_array s.ranks (raw_element m s.elem s.token) (spec_takes blob s e).1
      by (Err left) e h = absurd (none_there (expanded k ps f (faulty_type m)) no_class h)
