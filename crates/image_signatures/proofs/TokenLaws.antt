-- The numbers of tokens by their tables.
use Rattle.std.proofs.Common.{◌≡◌, ◌≢◌, ℕ, ◌+◌, sym, ap, ◌∙◌}
use Rattle.std.specs.Prelude.{if◌then◌else◌, ◌==◌}
use Rattle.std.proofs.lemmas.Bool.{ne_eqb}
use Rattle.file_tables.specs.Metadata.{MetadataPart, row_count}
use Rattle.kept_rows.specs.Select.{below}
use Rattle.assemblies.specs.Rows.{TypeDef, TypeRef, TypeSpec}
use Rattle.assemblies.specs.Chosen.{token_to}
use Rattle.image_form.specs.Signatures.{type_word}
use Rattle.world_rows.specs.Tokens.{type_refs, type_defs, type_specs, from_zero, type_token, no_type}
use Rattle.row_numbers.specs.declared.table.Table.TheVariants as table
use Rattle.kept_marks.specs.Masks.{Masks, choice_of_rows}

module _ (kept : Masks) (m : MetadataPart) (t r : ℕ) where
  abbrev word : ℕ → ℕ
  word k = type_word (token_to (choice_of_rows kept) (type_token m k r))

  pub of_type : t ≡ type_defs → below (kept table.TypeDef) (from_zero (row_count m type_defs) r) ≡ type_word (token_to (choice_of_rows kept) (type_token m t r))
  unfolding type_token
  of_type e = ap word (sym e)

  pub of_reference : t ≡ type_refs → 16384 + below (kept table.TypeRef) (from_zero (row_count m type_refs) r) ≡ type_word (token_to (choice_of_rows kept) (type_token m t r))
  unfolding type_token
  of_reference e = ap word (sym e)

  pub of_specification : t ≡ type_specs → 32768 + below (kept table.TypeSpec) (from_zero (row_count m type_specs) r) ≡ type_word (token_to (choice_of_rows kept) (type_token m t r))
  unfolding type_token
  of_specification e = ap word (sym e)

  pub of_none : t ≢ type_defs → t ≢ type_refs → t ≢ type_specs → below (kept table.TypeDef) (row_count m type_defs) ≡ type_word (token_to (choice_of_rows kept) (type_token m t r))
  unfolding type_token
  of_none d e s =
      sym
      (ap (λ b. type_word (token_to (choice_of_rows kept) (if b then TypeDef (from_zero (row_count m type_defs) r) else if t == type_refs then TypeRef (from_zero (row_count m type_refs) r) else if t == type_specs then TypeSpec (from_zero (row_count m type_specs) r) else no_type m))) (ne_eqb t type_defs d)
      ∙ ap (λ b. type_word (token_to (choice_of_rows kept) (if b then TypeRef (from_zero (row_count m type_refs) r) else if t == type_specs then TypeSpec (from_zero (row_count m type_specs) r) else no_type m))) (ne_eqb t type_refs e)
      ∙ ap (λ b. type_word (token_to (choice_of_rows kept) (if b then TypeSpec (from_zero (row_count m type_specs) r) else no_type m))) (ne_eqb t type_specs s))
