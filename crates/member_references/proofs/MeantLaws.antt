-- What a reference means, by its class, its name and its signature.
use Rattle.std.proofs.Common.{◌≡◌, ℕ, Bool, true, false, cond, List, [], ◌∷◌, Option, Some, None, refl, sym, ap, ◌∙◌}
use Rattle.std.specs.Prelude.{◌&&◌, slice_get, slice_index}
use Rattle.std.specs.List.{find}
use Rattle.std.specs.Option.{option_map}
use Rattle.file_tables.specs.declared.schema.Coded.TheVariants.{MemberRefParent}
use Rattle.file_tables.specs.Metadata.{MetadataPart}
use Rattle.file_tables.specs.File.{FilePart}
use Rattle.machine.specs.Data.{Id}
use Rattle.machine.specs.Texts.{same_text}
use Rattle.machine.specs.Throw.{on_some}
use Rattle.classes.specs.Classes.{SigType, Signature, OwnField, OwnMethod, Classes}
use Rattle.classes.specs.Queries.{field_signature_eq, method_signature_eq, is_named, is_field_named, methods_of, fields_of, or_else, first_some, chain, find_method, find_field}
use Rattle.assemblies.specs.Rows.{Assembly}
use Rattle.assemblies.specs.Binding.{resolve, expanded, expanded_signature, classes_of}
use Rattle.world_rows.specs.Tokens.{text_at, bytes_at, coded_type}
use Rattle.world_rows.specs.Signatures.{field_signature, method_signature}
use Rattle.world_rows.specs.Rows.{field_ref, method_ref}
use Rattle.world_rows.specs.World.{rows_alone, assemblies_of, size_of}
use Rattle.world_rows.proofs.Alone.{resolve_alone}
use Rattle.type_names.specs.Resolved.{class_coded}
use Rattle.class_table.specs.declared.rows.ClassTable.{ClassTable}
use Rattle.class_table.specs.Seen.{classes_seen}
use Rattle.class_table.specs.Whole.{IsTable}
use Rattle.class_table.proofs.TableLaws.{table_law}
use Rattle.member_reading.specs.Meant.{field_type_meant, method_signature_meant}
use Rattle.member_references.specs.Meant.{field_meant, method_meant}

-- ---- a signature that is none equals none

find_never : {A : Type 0} (test : A → Bool) → ((x : A) → test x ≡ false) → (xs : List A) → find test xs ≡ None
find_never test never [] = refl
find_never test never (x ∷ xs) = ap (λ b. cond b (Some x) (find test xs)) (never x) ∙ find_never test never xs

first_never : {A B : Type 0} (look : A → Option B) → ((x : A) → look x ≡ None) → (xs : List A) → first_some look xs ≡ None
first_never look never [] = refl
first_never look never (x ∷ xs) = ap (λ o. or_else o (first_some look xs)) (never x) ∙ first_never look never xs

and_false : (b : Bool) → (b && false) ≡ false
and_false true = refl
and_false false = refl

no_field_type : (o : Option SigType) → field_signature_eq o None ≡ false
no_field_type None = refl
no_field_type (Some s) = refl

no_method_signature : (o : Option Signature) → method_signature_eq o None ≡ false
no_method_signature None = refl
no_method_signature (Some s) = refl

field_untyped : (cs : Classes) (c : Id) (name : List ℕ) → find_field cs c name None ≡ None
field_untyped cs c name =
    first_never (λ d. find (is_field_named name None) (fields_of cs d))
    (λ d. find_never (is_field_named name None) (λ (x : OwnField). ap (λ b. same_text x.name name && b) (no_field_type x.signature) ∙ and_false (same_text x.name name)) (fields_of cs d))
    (chain cs c)

method_untyped : (cs : Classes) (c : Id) (name : List ℕ) → find_method cs c name None ≡ None
method_untyped cs c name =
    first_never (λ d. find (is_named name None) (methods_of cs d))
    (λ d. find_never (is_named name None) (λ (x : OwnMethod). ap (λ b. same_text x.name name && b) (no_method_signature x.signature) ∙ and_false (same_text x.name name)) (methods_of cs d))
    (chain cs c)

-- ---- by the tables of a file

module _ (files : List FilePart) (file : ℕ) (m : MetadataPart) (there : option_map (λ (p : FilePart). p.metadata) (slice_get files file) ≡ Some m) where
  abbrev k : ℕ
  k = size_of (rows_alone files)

  abbrev ps : List Assembly
  ps = assemblies_of files

  abbrev cs : Classes
  cs = classes_of k ps

  by_tables : {A : Type 0} (look : MetadataPart → Option A) → on_some (slice_get files file) (λ f. look f.metadata) ≡ look m
  by_tables {A} look = go (slice_get files file) there
    where
      go : (o : Option FilePart) → option_map (λ (p : FilePart). p.metadata) o ≡ Some m → on_some o (λ f. look f.metadata) ≡ look m
      go None e = absurd (cc e)
      go (Some f) e = let same : f.metadata ≡ m = cc e in ap look same

  class_is : (n : ℕ) → class_coded files file MemberRefParent n ≡ resolve k ps file (coded_type m MemberRefParent n)
  class_is n = by_tables (λ x. resolve k (rows_alone files) file (coded_type x MemberRefParent n)) ∙ sym (resolve_alone files k file (coded_type m MemberRefParent n))

  -- ---- fields

  field_by : (row : List ℕ) (c : Option Id) (s : Option SigType) → class_coded files file MemberRefParent (slice_index row 0) ≡ c → field_type_meant files file (bytes_at m (slice_index row 2)) ≡ s → field_meant files file (field_ref m row) ≡ on_some c (λ d. option_map (λ x. x.id) (find_field cs d (text_at m (slice_index row 1)) s))
  field_by row c s of_class of_type =
      ap (λ o. on_some o (λ d. option_map (λ (x : OwnField). x.id) (find_field cs d (text_at m (slice_index row 1)) (expanded k ps file (field_signature m (bytes_at m (slice_index row 2))))))) (sym (class_is (slice_index row 0)) ∙ of_class)
      ∙ ap (λ o. on_some c (λ d. option_map (λ (x : OwnField). x.id) (find_field cs d (text_at m (slice_index row 1)) o))) (sym (by_tables (λ x. expanded k ps file (field_signature x (bytes_at m (slice_index row 2))))) ∙ of_type)

  pub field_without_class : (row : List ℕ) → class_coded files file MemberRefParent (slice_index row 0) ≡ None → field_meant files file (field_ref m row) ≡ None
  field_without_class row e = field_by row None (field_type_meant files file (bytes_at m (slice_index row 2))) e refl

  pub field_without_type : (row : List ℕ) → field_type_meant files file (bytes_at m (slice_index row 2)) ≡ None → field_meant files file (field_ref m row) ≡ None
  field_without_type row e = field_by row (class_coded files file MemberRefParent (slice_index row 0)) None refl e ∙ go (class_coded files file MemberRefParent (slice_index row 0))
    where
      go : (o : Option Id) → on_some o (λ d. option_map (λ (x : OwnField). x.id) (find_field cs d (text_at m (slice_index row 1)) None)) ≡ None
      go None = refl
      go (Some d) = ap (option_map (λ (x : OwnField). x.id)) (field_untyped cs d (text_at m (slice_index row 1)))

  pub field_found : (t : ClassTable) → IsTable files t → (row : List ℕ) (d : Id) (s : SigType) → class_coded files file MemberRefParent (slice_index row 0) ≡ Some d → field_type_meant files file (bytes_at m (slice_index row 2)) ≡ Some s → option_map (λ x. x.id) (find_field (classes_seen t) d (text_at m (slice_index row 1)) (Some s)) ≡ field_meant files file (field_ref m row)
  field_found t table row d s of_class of_type =
      ap (λ (x : Classes). option_map (λ (y : OwnField). y.id) (find_field x d (text_at m (slice_index row 1)) (Some s))) (table_law files t table)
      ∙ sym (field_by row (Some d) (Some s) of_class of_type)

  -- ---- methods

  method_by : (row : List ℕ) (c : Option Id) (s : Option Signature) → class_coded files file MemberRefParent (slice_index row 0) ≡ c → method_signature_meant files file (bytes_at m (slice_index row 2)) ≡ s → method_meant files file (method_ref m row) ≡ on_some c (λ d. option_map (λ x. x.id) (find_method cs d (text_at m (slice_index row 1)) s))
  method_by row c s of_class of_type =
      ap (λ o. on_some o (λ d. option_map (λ (x : OwnMethod). x.id) (find_method cs d (text_at m (slice_index row 1)) (expanded_signature k ps file (method_signature m (bytes_at m (slice_index row 2))))))) (sym (class_is (slice_index row 0)) ∙ of_class)
      ∙ ap (λ o. on_some c (λ d. option_map (λ (x : OwnMethod). x.id) (find_method cs d (text_at m (slice_index row 1)) o))) (sym (by_tables (λ x. expanded_signature k ps file (method_signature x (bytes_at m (slice_index row 2))))) ∙ of_type)

  pub method_without_class : (row : List ℕ) → class_coded files file MemberRefParent (slice_index row 0) ≡ None → method_meant files file (method_ref m row) ≡ None
  method_without_class row e = method_by row None (method_signature_meant files file (bytes_at m (slice_index row 2))) e refl

  pub method_without_signature : (row : List ℕ) → method_signature_meant files file (bytes_at m (slice_index row 2)) ≡ None → method_meant files file (method_ref m row) ≡ None
  method_without_signature row e = method_by row (class_coded files file MemberRefParent (slice_index row 0)) None refl e ∙ go (class_coded files file MemberRefParent (slice_index row 0))
    where
      go : (o : Option Id) → on_some o (λ d. option_map (λ (x : OwnMethod). x.id) (find_method cs d (text_at m (slice_index row 1)) None)) ≡ None
      go None = refl
      go (Some d) = ap (option_map (λ (x : OwnMethod). x.id)) (method_untyped cs d (text_at m (slice_index row 1)))

  pub method_found : (t : ClassTable) → IsTable files t → (row : List ℕ) (d : Id) (s : Signature) → class_coded files file MemberRefParent (slice_index row 0) ≡ Some d → method_signature_meant files file (bytes_at m (slice_index row 2)) ≡ Some s → option_map (λ x. x.id) (find_method (classes_seen t) d (text_at m (slice_index row 1)) (Some s)) ≡ method_meant files file (method_ref m row)
  method_found t table row d s of_class of_type =
      ap (λ (x : Classes). option_map (λ (y : OwnMethod). y.id) (find_method x d (text_at m (slice_index row 1)) (Some s))) (table_law files t table)
      ∙ sym (method_by row (Some d) (Some s) of_class of_type)
