-- The parts of a TypeDefOrRef.
use Rattle.std.proofs.Common.{◌≡◌, ◌≢◌, ℕ, ◌/◌, ◌%◌, ◌^◌, [], ◌∷◌, get_or, refl, ap, sym, subst, ◌∙◌}
use Rattle.std.specs.Prelude.{if◌then◌else◌}
use Rattle.std.proofs.lemmas.Bool.{eq-eqb, ne_eqb}
use Rattle.file_tables.specs.declared.schema.Coded.TheVariants.{TypeDefOrRef}
use Rattle.file_tables.specs.declared.numbers.TheConstants.{NO_TABLE}
use Rattle.file_tables.specs.Schema.{tag_bits_of, tables_of}
use Rattle.file_tables.specs.Metadata.{token_table, token_row}
use Rattle.world_rows.specs.Looked.{token_from, named_by_extends}
use Rattle.looked_rows.specs.declared.looked.Looked.{Looked}
use Rattle.looked_rows.specs.Looked.{Looks}
use Rattle.looked_rows.proofs.LookLaws.{looks_none}

two_bits : tag_bits_of TypeDefOrRef ≡ 2
unfolding tag_bits_of
two_bits = refl

pub table_is : (index : ℕ) → token_table TypeDefOrRef index ≡ get_or (tables_of TypeDefOrRef) (index % 4) NO_TABLE
table_is index = ap (λ bits. get_or (tables_of TypeDefOrRef) (index % 2 ^ bits) NO_TABLE) two_bits

pub row_is : (index : ℕ) → token_row TypeDefOrRef index ≡ index / 4
row_is index = ap (λ bits. index / 2 ^ bits) two_bits

pub extends_none : (index : ℕ) (a : Looked) → index / 4 ≡ 0 → Looks (named_by_extends index) a a
extends_none index a e =
    let none : named_by_extends index ≡ [] = ap (λ b. if b then [] else token_from TypeDefOrRef index ∷ []) (eq-eqb (token_row TypeDefOrRef index) 0 (row_is index ∙ e)) in
    subst (λ ts. Looks ts a a) (sym none) (looks_none a)

pub extends_some : (index : ℕ) (a b : Looked) → index / 4 ≢ 0 → Looks (token_from TypeDefOrRef index ∷ []) a b → Looks (named_by_extends index) a b
extends_some index a b apart looks =
    let one : named_by_extends index ≡ token_from TypeDefOrRef index ∷ [] = ap (λ b. if b then [] else token_from TypeDefOrRef index ∷ []) (ne_eqb (token_row TypeDefOrRef index) 0 (λ e. apart (sym (row_is index) ∙ e))) in
    subst (λ ts. Looks ts a b) (sym one) looks
