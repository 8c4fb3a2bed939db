-- The methods of a file by their numbers, and what stands for what they run.
use Rattle.std.proofs.Common.{◌≡◌, ℕ, suc, ◌+◌, List, [], ◌∷◌, map, length, Option, Some, None, refl, sym, ap, ◌∙◌, zero-add}
use Rattle.std.specs.Prelude.{is_some, slice_get}
use Rattle.std.specs.Option.{option_map, option_map_or}
use Rattle.std.proofs.lemmas.List.{length-map}
use Rattle.file_tables.specs.Metadata.{MetadataPart, rows_of}
use Rattle.file_tables.specs.File.{FilePart}
use Rattle.cil_code.specs.Bodies.{BodyPart}
use Rattle.machine.specs.Program.{Body, native_number}
use Rattle.kept_rows.specs.Select.{select}
use Rattle.short_code.specs.Short.{to_short}
use Rattle.code_shrink.specs.Shrunk.{pieces_of}
use Rattle.assemblies.specs.Rows.{RawCode, MethodRow}
use Rattle.assemblies.specs.Binding.{numbered}
use Rattle.assemblies.specs.Chosen.{clause_to}
use Rattle.assemblies.proofs.Numbered.{get_numbered}
use Rattle.image_form.specs.Form.{Manner, is_native, clauses_in}
use Rattle.world_rows.specs.Tokens.{methods}
use Rattle.world_rows.specs.Lines.{raw_clause}
use Rattle.class_table.specs.declared.rows.MethodRow.{MethodRow as MethodColumns}
use Rattle.msspot_write.specs.declared.parts.PartRow.{PartRow}
use Rattle.msspot_write.specs.Spelt.{numbers, body_columns, method_parts}
use Rattle.row_numbers.specs.declared.table.Table.TheVariants as table
use Rattle.kept_marks.specs.Masks.{Masks, choice_of_rows}
use Rattle.converted.specs.Images.{row_cut}
use Rattle.kept_bodies.specs.Kept.{body_at, code_kept}
use Rattle.image_methods.specs.Methods.{signature_at, method_made, part_made, method_rows}
use Rattle.image_methods.specs.Columns.{native_of, code_columns}
use Rattle.kept_bodies.specs.Walk.{parts_from}
use Rattle.kept_bodies.proofs.WalkLaws.{walked, by_rows}

as_many : {A B : Type 0} (make : ℕ → A → B) (n : ℕ) (xs : List A) → length (numbered make n xs) ≡ length xs
as_many make n [] = refl
as_many make n (x ∷ xs) = ap suc (as_many make (suc n) xs)

-- the clauses of a body
abbrev pub clause_count : Option BodyPart → ℕ
clause_count b = option_map_or (λ (x : BodyPart). length x.clauses) b 0

clauses_counted : (kept : Masks) (m : MetadataPart) (b : Option BodyPart) → clause_count b ≡ length (clauses_in (code_kept kept m b))
clauses_counted kept m None = refl
clauses_counted kept m (Some b) = sym (length-map (map (raw_clause m) b.clauses) (clause_to (choice_of_rows kept) (to_short (pieces_of b.code))) ∙ length-map b.clauses (raw_clause m))

-- what stands for a body, by what runs

module _ (first : ℕ) (k : Manner) where
  pub native_columns : (run : Body) (n : ℕ) (code : Option RawCode) → Some n ≡ native_of run → numbers (n ∷ 0 ∷ 65535 ∷ 0 ∷ 0 ∷ 0 ∷ []) ≡ body_columns first k run code
  native_columns (Body.Native name) n code e = let same : n ≡ native_number name = cc e in ap (λ i. numbers (i ∷ 0 ∷ 65535 ∷ 0 ∷ 0 ∷ 0 ∷ [])) same
  native_columns Body.Code n code e = absurd (cc e)
  native_columns Body.Missing n code e = absurd (cc e)

  pub missing_columns : (run : Body) → None ≡ native_of run → numbers (65535 ∷ 0 ∷ 65535 ∷ 0 ∷ 0 ∷ 0 ∷ []) ≡ body_columns first k run None
  missing_columns (Body.Native name) e = absurd (cc e)
  missing_columns Body.Code e = refl
  missing_columns Body.Missing e = refl

  pub coded_columns : (run : Body) (c : RawCode) → None ≡ native_of run → code_columns first k.has_locals c ≡ body_columns first k run (Some c)
  coded_columns (Body.Native name) c e = absurd (cc e)
  coded_columns Body.Code c e = refl
  coded_columns Body.Missing c e = refl

-- the flag of a native
pub native_flag : (run : Body) → is_some (native_of run) ≡ is_native run
native_flag (Body.Native name) = refl
native_flag Body.Code = refl
native_flag Body.Missing = refl

module _ (kept : Masks) (x : FilePart) where
  abbrev told : ℕ → MethodColumns → Manner × MethodRow
  told n c = method_made kept x.metadata c (signature_at x.metadata n) (body_at x n)

  abbrev clauses : Manner × MethodRow → ℕ
  clauses y = length (clauses_in y.1.code)

  abbrev part_at : ℕ → ℕ → Option MethodColumns → List PartRow
  part_at first n o = option_map_or (λ c. part_made first (told n c) ∷ []) o []

  agrees : (n : ℕ) (o : Option MethodColumns) (y : Manner × MethodRow) → option_map (told (0 + n)) o ≡ Some y → (clause_count (body_at x n) ≡ clauses y) × ((at : ℕ) → part_at at n o ≡ part_made at y ∷ [])
  agrees n None y e = absurd (cc e)
  agrees n (Some c) y e =
      let same : told (0 + n) c ≡ y = cc e in
      let is : told n c ≡ y = ap (λ k. told k c) (sym (zero-add n)) ∙ same in
      (clauses_counted kept x.metadata (body_at x n) ∙ ap clauses is, λ at. ap (λ z. part_made at z ∷ []) is)

  in_order : (at : ℕ) (ys : List (Manner × MethodRow)) → walked (λ k y. part_made k y ∷ []) clauses at ys ≡ map row_cut (method_parts at ys)
  in_order at [] = refl
  in_order at (y ∷ ys) = ap (λ ps. part_made at y ∷ ps) (in_order (at + clauses y) ys)

  pub methods_walked : (cs : List MethodColumns) → length cs ≡ length (rows_of x.metadata methods) → parts_from (kept table.MethodDef) (λ first n. part_at first n (slice_get cs n)) (λ n. clause_count (body_at x n)) (length (rows_of x.metadata methods)) 0 0 ≡ method_rows kept x cs
  methods_walked cs many =
      ap (λ k. parts_from (kept table.MethodDef) (λ first n. part_at first n (slice_get cs n)) (λ n. clause_count (body_at x n)) k 0 0) (sym many ∙ sym (as_many told 0 cs))
      ∙ by_rows (kept table.MethodDef) (λ first n. part_at first n (slice_get cs n)) (λ n. clause_count (body_at x n)) (λ k y. part_made k y ∷ []) clauses (kept table.MethodDef) 0 0 (numbered told 0 cs)
      (λ i. ap (kept table.MethodDef) (zero-add i))
      (λ i y h. let at : 0 + i ≡ i = zero-add i in
      let a = agrees i (slice_get cs i) y (sym (get_numbered told 0 i cs) ∙ h) in
      (ap (λ k. clause_count (body_at x k)) at ∙ a.0, λ first. ap (λ k. part_at first k (slice_get cs k)) at ∙ a.1 first))
      ∙ in_order 0 (select (kept table.MethodDef) (numbered told 0 cs))
