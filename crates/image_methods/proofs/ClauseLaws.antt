-- Clauses of bodies and of files.
use Rattle.std.proofs.Common.{◌≡◌, ◌≢◌, ℕ, ◌+◌, Bool, List, [], ◌∷◌, ◌++◌, map, length, Some, refl, sym, ap, ◌∙◌, arith}
use Rattle.std.specs.Prelude.{◌==◌, if◌then◌else◌, slice_index_or}
use Rattle.std.specs.List.{flat_map}
use Rattle.std.proofs.lemmas.Bool.{eq-eqb, ne_eqb}
use Rattle.file_tables.specs.Metadata.{MetadataPart, rows_of}
use Rattle.file_tables.specs.File.{FilePart}
use Rattle.cil_code.specs.declared.clause.Clause.{Clause}
use Rattle.cil_code.specs.Bodies.{BodyPart}
use Rattle.kept_rows.specs.Select.{select}
use Rattle.short_code.specs.Short.{to_short}
use Rattle.code_shrink.specs.Shrunk.{pieces_of}
use Rattle.assemblies.specs.Rows.{RawKind, RawCatch, RawFinally, RawOther}
use Rattle.assemblies.specs.Chosen.{kind_to, token_to}
use Rattle.image_form.specs.Signatures.{type_word}
use Rattle.world_rows.specs.Tokens.{methods, table_of, number_of, type_token, type_named}
use Rattle.world_rows.specs.Lines.{raw_kind}
use Rattle.msspot_write.specs.declared.parts.Column.{Column}
use Rattle.msspot_write.specs.declared.parts.Column.TheVariants.{Number}
use Rattle.msspot_write.specs.declared.parts.PartRow.{PartRow}
use Rattle.msspot_write.specs.Spelt.{numbers, clause_numbers}
use Rattle.row_numbers.specs.declared.table.Table.TheVariants as table
use Rattle.kept_marks.specs.Masks.{Masks, choice_of_rows}
use Rattle.converted.specs.Bodies.{body_of}
use Rattle.converted.specs.Cut.{two_bytes}
use Rattle.converted.specs.Images.{column_cut}
use Rattle.kept_bodies.specs.Kept.{body_at}
use Rattle.kept_bodies.specs.Walk.{parts_from}
use Rattle.kept_bodies.proofs.WalkLaws.{walked, by_rows, row_there}
use Rattle.image_methods.specs.Methods.{clause_made, clauses_made, clause_rows}

-- ---- one clause

module _ (kept : Masks) (m : MetadataPart) (kind token : ℕ) where
  abbrev numbers_are : List ℕ
  numbers_are = clause_numbers (kind_to (choice_of_rows kept) (raw_kind m kind token)) []

  kind_by : Bool → Bool → RawKind
  kind_by a b = if a then RawCatch (type_named m token) else if b then RawFinally else RawOther

  pub catch_numbers : (t r w : ℕ) → kind ≡ 0 → t ≡ table_of token → r ≡ number_of token → w ≡ type_word (token_to (choice_of_rows kept) (type_token m t r)) → 0 ∷ w ∷ [] ≡ numbers_are
  catch_numbers t r w is table row word =
      ap (λ n. 0 ∷ n ∷ []) (word ∙ ap (λ k. type_word (token_to (choice_of_rows kept) (type_token m k r))) table ∙ ap (λ k. type_word (token_to (choice_of_rows kept) (type_token m (table_of token) k))) row)
      ∙ sym (ap (λ b. clause_numbers (kind_to (choice_of_rows kept) (if b then RawCatch (type_named m token) else if kind == 2 then RawFinally else RawOther)) []) (eq-eqb kind 0 is))

  pub finally_numbers : kind ≡ 2 → 2 ∷ 65535 ∷ [] ≡ numbers_are
  finally_numbers is = sym (ap (λ k. clause_numbers (kind_to (choice_of_rows kept) (raw_kind m k token)) []) is)

  pub other_numbers : kind ≢ 0 → kind ≢ 2 → 1 ∷ 65535 ∷ [] ≡ numbers_are
  other_numbers a b =
      sym (ap (λ c. clause_numbers (kind_to (choice_of_rows kept) (if c then RawCatch (type_named m token) else if kind == 2 then RawFinally else RawOther)) []) (ne_eqb kind 0 a)
      ∙ ap (λ c. clause_numbers (kind_to (choice_of_rows kept) (if c then RawFinally else RawOther)) []) (ne_eqb kind 2 b))

pub clause_columns : (x : RawKind) (kind class : ℕ) (places : List ℕ) → kind ∷ class ∷ [] ≡ clause_numbers x [] → Number (two_bytes kind) ∷ Number (two_bytes class) ∷ map column_cut (numbers places) ≡ map column_cut (numbers (clause_numbers x places))
clause_columns x kind class places e = go x e
  where
    columns : List ℕ → List Column
    columns ns = map column_cut (numbers ns) ++ map column_cut (numbers places)

    go : (x : RawKind) → kind ∷ class ∷ [] ≡ clause_numbers x [] → Number (two_bytes kind) ∷ Number (two_bytes class) ∷ map column_cut (numbers places) ≡ map column_cut (numbers (clause_numbers x places))
    go (RawCatch t) h = ap columns h
    go RawFinally h = ap columns h
    go RawOther h = ap columns h

-- ---- those of a body

module _ (kept : Masks) (m : MetadataPart) where
  pub body_clauses : (b : BodyPart) (places : ℕ → ℕ) (cs : List Clause) → places ≡ to_short (pieces_of b.code) → cs ≡ b.clauses → map (clause_made kept m places) cs ≡ clauses_made kept m (Some b)
  body_clauses b places cs way is = ap (λ p. map (clause_made kept m p) cs) way ∙ ap (map (clause_made kept m (to_short (pieces_of b.code)))) is ∙ fused b.clauses
    where
      fused : (xs : List Clause) → map (clause_made kept m (to_short (pieces_of b.code))) xs ≡ clauses_made kept m (Some (record { max_stack = b.max_stack; locals_token = b.locals_token; code = b.code; clauses = xs }))
      fused [] = refl
      fused (x ∷ xs) = ap (λ ps. clause_made kept m (to_short (pieces_of b.code)) x ∷ ps) (fused xs)

-- ---- those of a file

module _ (kept : Masks) (x : FilePart) where
  abbrev of_row : List ℕ → List PartRow
  of_row row = clauses_made kept x.metadata (body_of x row)

  flat : (first : ℕ) (rows : List (List ℕ)) → walked (λ at row. of_row row) (λ row. 0) first rows ≡ flat_map of_row rows
  flat first [] = refl
  flat first (row ∷ rows) = ap (λ ps. of_row row ++ ps) (flat (first + 0) rows)

  pub clauses_walked : parts_from (kept table.MethodDef) (λ first n. clauses_made kept x.metadata (body_at x n)) (λ n. 0) (length (rows_of x.metadata methods)) 0 0 ≡ clause_rows kept x
  clauses_walked =
      by_rows (kept table.MethodDef) (λ first n. clauses_made kept x.metadata (body_at x n)) (λ n. 0) (λ at row. of_row row) (λ row. 0) (kept table.MethodDef) 0 0 (rows_of x.metadata methods)
      (λ i. let same : 0 + i ≡ i = omega arith in ap (kept table.MethodDef) same)
      (λ i row e. let same : 0 + i ≡ i = omega arith in (refl, λ at. ap (λ k. of_row (slice_index_or (rows_of x.metadata methods) k [])) same ∙ ap of_row (row_there (rows_of x.metadata methods) i row e)))
      ∙ flat 0 (select (kept table.MethodDef) (rows_of x.metadata methods))
