-- The rows of fields and methods of accepted files: their signatures are told (rule 27), and the entry is a method (rule 23).
use Rattle.std.proofs.Common.{◌≡◌, ℕ, suc, true, List, [], Some, None, refl, sym, ap, ◌∙◌, subst}
use Rattle.std.specs.Prelude.{◌==◌, if◌then◌else◌, slice_get, slice_index, unwrap_or}
use Rattle.std.specs.Option.{option_map}
use Rattle.file_tables.specs.Metadata.{rows_of}
use Rattle.file_tables.specs.File.{FilePart}
use Rattle.machine.specs.Throw.{on_some}
use Rattle.classes.specs.Classes.{Classes}
use Rattle.class_rules.specs.Rules.{holds_some, sig_fits, data_sig_fits, is_data_kind, signature_fits}
use Rattle.class_rules.proofs.Kept.{holds_inv}
use Rattle.assemblies.specs.Rows.{FieldRow, MethodRow, Assembly}
use Rattle.assemblies.specs.Binding.{id_at, own_field, expanded, expanded_signature}
use Rattle.assemblies.proofs.Belong.{some_map}
use Rattle.kept_closure.specs.Named.{Stands, InType, InSignature}
use Rattle.kept_closure.specs.Kept.{NamesClass}
use Rattle.world_rows.specs.Tokens.{fields, methods, bytes_at}
use Rattle.world_rows.specs.Rows as rows
use Rattle.world_rows.specs.Kinds.{data_of}
use Rattle.world_rows.specs.World.{size_of, rows_alone, assemblies_of, ecma_sources}
use Rattle.verdict_rules.specs.Order.{phase_fault}
use Rattle.verdict_rules.specs.World.{World, world_of, field_row}
use Rattle.verdict_rules.specs.Members.{field_wrong, field_tests, method_wrong, method_tests}
use Rattle.verdict_rules.specs.Verdict.{member_rules}
use Rattle.verdict_laws.proofs.Kept.{tests_kept, row_kept}
use Rattle.verdict_laws.proofs.Rows.{native, from_zero, whole, file_at}
use Rattle.verdict_laws.proofs.Signatures.{none_wrong, field_fits, method_fits}
use Rattle.rows_resolved.proofs.Named.{type_named, signature_named}
use Rattle.rows_resolved.proofs.Types.{file_of}

module _ (files : List FilePart) where
  abbrev w : World
  w = world_of files

  abbrev size : ℕ
  size = size_of (rows_alone files)

  abbrev cs : Classes
  cs = (ecma_sources files).classes

  abbrev filled : ℕ → ℕ → List ℕ
  filled f n = unwrap_or (data_of size files (rows_alone files) (id_at f n)) []

  -- the row of a method
  pub record OfMethod (f n : ℕ) (m : MethodRow) : Type 0 where
    pub file : FilePart
    pub row : List ℕ
    pub is_file : slice_get files f ≡ Some file
    pub is_row : slice_get (rows_of file.metadata methods) n ≡ Some row
    pub is : rows.method_row file (native files f) n row ≡ m

  pub method_of : (f n : ℕ) (p : Assembly) (m : MethodRow) → Stands (assemblies_of files) (λ q. q.methods) f n p m → OfMethod f n m
  method_of f n p m s =
      let x = file_of files f p s.0 in
      let r = some_map (rows.method_row x.0 (native files f) n) (slice_get (rows_of x.0.metadata methods) n) m (sym (from_zero (rows.method_row x.0 (native files f)) n (rows_of x.0.metadata methods)) ∙ (ap (λ (q : Assembly). slice_get q.methods n) x.2 ∙ s.1)) in
      record { file = x.0; row = r.0; is_file = x.1; is_row = r.1; is = r.2 }

  module _ (in_members : phase_fault (member_rules w) files ≡ None) where
    field_told : (f n : ℕ) (x : FilePart) (row : List ℕ) → slice_get files f ≡ Some x → slice_get (rows_of x.metadata fields) n ≡ Some row → InType (NamesClass size (assemblies_of files) f) (rows.field_row x.metadata (filled f) n row).signature
    field_told f n x row at here =
        let z = rows.field_row x.metadata (filled f) n row in
        let there : slice_get (whole files f x).fields n ≡ Some z = from_zero (rows.field_row x.metadata (filled f)) n (rows_of x.metadata fields) ∙ ap (option_map (rows.field_row x.metadata (filled f) n)) here in
        let own : field_row w f n ≡ Some (own_field size (assemblies_of files) f n z) = ap (λ o. on_some o (λ (p : Assembly). option_map (own_field size (assemblies_of files) f n) (slice_get p.fields n))) (file_at files f x at) ∙ ap (option_map (own_field size (assemblies_of files) f n)) there in
        let kept = row_kept (member_rules w) files in_members f x at 0 (record { table = fields; tests = field_tests w f x.metadata }) n row refl here in
        let none = none_wrong 27 (field_wrong w f n (bytes_at x.metadata (slice_index row 2))) (tests_kept f fields (suc n) (field_tests w f x.metadata n row) 0 kept) in
        let fits = field_fits files f x.metadata (bytes_at x.metadata (slice_index row 2)) n (own_field size (assemblies_of files) f n z) none own in
        let t = holds_inv (expanded size (assemblies_of files) f z.signature) (λ s. if is_data_kind z.kind then data_sig_fits cs s else sig_fits cs s) fits in
        type_named size (assemblies_of files) f z.signature t.0 t.1

    pub fields_mean : (f n : ℕ) (p : Assembly) (z : FieldRow) → Stands (assemblies_of files) (λ q. q.fields) f n p z → InType (NamesClass size (assemblies_of files) f) z.signature
    fields_mean f n p z s =
        let x = file_of files f p s.0 in
        let r = some_map (rows.field_row x.0.metadata (filled f) n) (slice_get (rows_of x.0.metadata fields) n) z (sym (from_zero (rows.field_row x.0.metadata (filled f)) n (rows_of x.0.metadata fields)) ∙ (ap (λ (q : Assembly). slice_get q.fields n) x.2 ∙ s.1)) in
        subst (λ (z : FieldRow). InType (NamesClass size (assemblies_of files) f) z.signature) r.2 (field_told f n x.0 r.0 x.1 r.1)

    -- the signature of a method
    pub signature_told : (f n : ℕ) (m : MethodRow) → OfMethod f n m → holds_some (expanded_signature size (assemblies_of files) f m.signature) (signature_fits cs (id_at f n)) ≡ true
    signature_told f n m r =
        let kept = row_kept (member_rules w) files in_members f r.file r.is_file 1 (record { table = methods; tests = method_tests w f r.file }) n r.row refl r.is_row in
        let none = none_wrong 27 (method_wrong w f r.file.metadata (f == 0) (bytes_at r.file.metadata (slice_index r.row 4))) (tests_kept f methods (suc n) (method_tests w f r.file n r.row) 0 kept) in
        ap (λ (z : MethodRow). holds_some (expanded_signature size (assemblies_of files) f z.signature) (signature_fits cs (id_at f n))) (sym r.is)
        ∙ method_fits files f r.file.metadata (bytes_at r.file.metadata (slice_index r.row 4)) (id_at f n) refl none

    pub signatures_mean : (f n : ℕ) (p : Assembly) (m : MethodRow) → Stands (assemblies_of files) (λ q. q.methods) f n p m → InSignature (NamesClass size (assemblies_of files) f) m.signature
    signatures_mean f n p m s =
        let t = holds_inv (expanded_signature size (assemblies_of files) f m.signature) (signature_fits cs (id_at f n)) (signature_told f n m (method_of f n p m s)) in
        signature_named size (assemblies_of files) f m.signature t.0 t.1
