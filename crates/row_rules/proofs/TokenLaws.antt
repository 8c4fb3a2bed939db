-- The rows of tokens by their tables.
use Rattle.std.proofs.Common.{◌≡◌, ◌≢◌, ℕ, ◌/◌, ◌^◌, [], ◌∷◌, refl, sym, ap, ◌∙◌}
use Rattle.std.specs.Prelude.{if◌then◌else◌, ◌==◌}
use Rattle.std.proofs.lemmas.Bool.{eq-eqb, ne_eqb}
use Rattle.file_tables.specs.declared.schema.Coded.TheVariants.{TypeDefOrRef, ResolutionScope}
use Rattle.file_tables.specs.Schema.{tag_bits_of}
use Rattle.file_tables.specs.Metadata.{MetadataPart, row_count, token_table, token_row}
use Rattle.kept_rules.specs.Row.{by_type, in_scope, in_option, token_row as kept_token, TypeAt, TypeRefAt, SpecAt, AssemblyRefAt}
use Rattle.assemblies.specs.Rows.{TypeDef, TypeRef, TypeSpec, OfAssembly, Inside, Nowhere}
use Rattle.world_rows.specs.Rows.{first_of}
use Rattle.world_rows.specs.Tokens.{type_refs, type_defs, type_specs, assembly_refs, from_zero, type_token, no_type, coded_type, superclass_token, scope_of}

module _ (f : ℕ) (m : MetadataPart) where
  module _ (t r : ℕ) where
    pub type_def : t ≡ type_defs → TypeAt f (from_zero (row_count m type_defs) r) ≡ by_type f (type_token m t r)
    unfolding type_token
    type_def e = ap (λ k. by_type f (type_token m k r)) (sym e)

    pub type_ref : t ≡ type_refs → TypeRefAt f (from_zero (row_count m type_refs) r) ≡ by_type f (type_token m t r)
    unfolding type_token
    type_ref e = ap (λ k. by_type f (type_token m k r)) (sym e)

    pub type_spec : t ≡ type_specs → SpecAt f (from_zero (row_count m type_specs) r) ≡ by_type f (type_token m t r)
    unfolding type_token
    type_spec e = ap (λ k. by_type f (type_token m k r)) (sym e)

    pub other_type : t ≢ type_defs → t ≢ type_refs → t ≢ type_specs → TypeAt f (from_zero (row_count m type_defs) 0) ≡ by_type f (type_token m t r)
    unfolding type_token
    other_type d e s =
        sym
        (ap (λ b. by_type f (if b then TypeDef (from_zero (row_count m type_defs) r) else if t == type_refs then TypeRef (from_zero (row_count m type_refs) r) else if t == type_specs then TypeSpec (from_zero (row_count m type_specs) r) else no_type m)) (ne_eqb t type_defs d)
        ∙ ap (λ b. by_type f (if b then TypeRef (from_zero (row_count m type_refs) r) else if t == type_specs then TypeSpec (from_zero (row_count m type_specs) r) else no_type m)) (ne_eqb t type_refs e)
        ∙ ap (λ b. by_type f (if b then TypeSpec (from_zero (row_count m type_specs) r) else no_type m)) (ne_eqb t type_specs s))

  module _ (n t r : ℕ) (table : t ≡ token_table ResolutionScope n) (row : r ≡ token_row ResolutionScope n) where
    pub assembly_scope : t ≡ assembly_refs → AssemblyRefAt f (from_zero (row_count m assembly_refs) r) ∷ [] ≡ in_scope f (scope_of m n)
    unfolding scope_of
    assembly_scope e =
        ap (λ k. AssemblyRefAt f (from_zero (row_count m assembly_refs) k) ∷ []) row
        ∙ sym (ap (λ b. in_scope f (if b then OfAssembly (from_zero (row_count m assembly_refs) (token_row ResolutionScope n)) else if token_table ResolutionScope n == type_refs then Inside (from_zero (row_count m type_refs) (token_row ResolutionScope n)) else Nowhere)) (eq-eqb (token_table ResolutionScope n) assembly_refs (sym table ∙ e)))

    pub inner_scope : t ≢ assembly_refs → t ≡ type_refs → TypeRefAt f (from_zero (row_count m type_refs) r) ∷ [] ≡ in_scope f (scope_of m n)
    unfolding scope_of
    inner_scope a e =
        ap (λ k. TypeRefAt f (from_zero (row_count m type_refs) k) ∷ []) row
        ∙ sym (ap (λ b. in_scope f (if b then OfAssembly (from_zero (row_count m assembly_refs) (token_row ResolutionScope n)) else if token_table ResolutionScope n == type_refs then Inside (from_zero (row_count m type_refs) (token_row ResolutionScope n)) else Nowhere)) (ne_eqb (token_table ResolutionScope n) assembly_refs (λ z. a (table ∙ z)))
        ∙ ap (λ b. in_scope f (if b then Inside (from_zero (row_count m type_refs) (token_row ResolutionScope n)) else Nowhere)) (eq-eqb (token_table ResolutionScope n) type_refs (sym table ∙ e)))

    pub no_scope : t ≢ assembly_refs → t ≢ type_refs → [] ≡ in_scope f (scope_of m n)
    unfolding scope_of
    no_scope a e =
        sym (ap (λ b. in_scope f (if b then OfAssembly (from_zero (row_count m assembly_refs) (token_row ResolutionScope n)) else if token_table ResolutionScope n == type_refs then Inside (from_zero (row_count m type_refs) (token_row ResolutionScope n)) else Nowhere)) (ne_eqb (token_table ResolutionScope n) assembly_refs (λ z. a (table ∙ z)))
        ∙ ap (λ b. in_scope f (if b then Inside (from_zero (row_count m type_refs) (token_row ResolutionScope n)) else Nowhere)) (ne_eqb (token_table ResolutionScope n) type_refs (λ z. e (table ∙ z))))

  two_bits : tag_bits_of TypeDefOrRef ≡ 2
  unfolding tag_bits_of
  two_bits = refl

  row_is : (n : ℕ) → token_row TypeDefOrRef n ≡ n / 4
  row_is n = ap (λ bits. n / 2 ^ bits) two_bits

  pub extends_none : (n : ℕ) → n / 4 ≡ 0 → in_option (kept_token f) (first_of (superclass_token m n)) ≡ []
  extends_none n e = ap (λ b. in_option (kept_token f) (first_of (if b then [] else coded_type m TypeDefOrRef n ∷ []))) (eq-eqb (token_row TypeDefOrRef n) 0 (row_is n ∙ e))

  pub extends_one : (n : ℕ) → n / 4 ≢ 0 → in_option (kept_token f) (first_of (superclass_token m n)) ≡ by_type f (coded_type m TypeDefOrRef n) ∷ []
  extends_one n apart = ap (λ b. in_option (kept_token f) (first_of (if b then [] else coded_type m TypeDefOrRef n ∷ []))) (ne_eqb (token_row TypeDefOrRef n) 0 (λ e. apart (sym (row_is n) ∙ e)))
