-- The numbers of scopes by their tables.
use Rattle.std.proofs.Common.{◌≡◌, ◌≢◌, ℕ, ◌+◌, sym, ap, ◌∙◌}
use Rattle.std.specs.Prelude.{if◌then◌else◌, ◌==◌}
use Rattle.std.proofs.lemmas.Bool.{eq-eqb, ne_eqb}
use Rattle.file_tables.specs.declared.schema.Coded.TheVariants.{ResolutionScope}
use Rattle.file_tables.specs.Metadata.{MetadataPart, row_count, token_table, token_row}
use Rattle.kept_rows.specs.Select.{below}
use Rattle.assemblies.specs.Rows.{Scope, OfAssembly, Inside, Nowhere}
use Rattle.assemblies.specs.Chosen.{scope_to}
use Rattle.image_form.specs.Form.{scope_word}
use Rattle.world_rows.specs.Tokens.{type_refs, assembly_refs, from_zero, scope_of}
use Rattle.row_numbers.specs.declared.table.Table.TheVariants as table
use Rattle.kept_marks.specs.Masks.{Masks, choice_of_rows}

module _ (kept : Masks) (m : MetadataPart) where
  abbrev word : Scope → ℕ
  word s = scope_word (scope_to (choice_of_rows kept) s)

  module _ (n t r : ℕ) (named : t ≡ token_table ResolutionScope n) (row : r ≡ token_row ResolutionScope n) where
    abbrev inner : Scope
    inner = Inside (from_zero (row_count m type_refs) (token_row ResolutionScope n))

    abbrev outer : Scope
    outer = OfAssembly (from_zero (row_count m assembly_refs) (token_row ResolutionScope n))

    pub assembly_scope : t ≡ assembly_refs → below (kept table.AssemblyRef) (from_zero (row_count m assembly_refs) r) ≡ scope_word (scope_to (choice_of_rows kept) (scope_of m n))
    unfolding scope_of
    assembly_scope e =
        ap (λ k. below (kept table.AssemblyRef) (from_zero (row_count m assembly_refs) k)) row
        ∙ sym (ap (λ b. word (if b then outer else if token_table ResolutionScope n == type_refs then inner else Nowhere)) (eq-eqb (token_table ResolutionScope n) assembly_refs (sym named ∙ e)))

    pub inner_scope : t ≢ assembly_refs → t ≡ type_refs → 16384 + below (kept table.TypeRef) (from_zero (row_count m type_refs) r) ≡ scope_word (scope_to (choice_of_rows kept) (scope_of m n))
    unfolding scope_of
    inner_scope a e =
        ap (λ k. 16384 + below (kept table.TypeRef) (from_zero (row_count m type_refs) k)) row
        ∙ sym (ap (λ b. word (if b then outer else if token_table ResolutionScope n == type_refs then inner else Nowhere)) (ne_eqb (token_table ResolutionScope n) assembly_refs (λ z. a (named ∙ z)))
        ∙ ap (λ b. word (if b then inner else Nowhere)) (eq-eqb (token_table ResolutionScope n) type_refs (sym named ∙ e)))

    pub no_scope : t ≢ assembly_refs → t ≢ type_refs → 65535 ≡ scope_word (scope_to (choice_of_rows kept) (scope_of m n))
    unfolding scope_of
    no_scope a e =
        sym (ap (λ b. word (if b then outer else if token_table ResolutionScope n == type_refs then inner else Nowhere)) (ne_eqb (token_table ResolutionScope n) assembly_refs (λ z. a (named ∙ z)))
        ∙ ap (λ b. word (if b then inner else Nowhere)) (ne_eqb (token_table ResolutionScope n) type_refs (λ z. e (named ∙ z))))
