-- The columns behind the references of the constant.
use Rattle.std.proofs.Common.{◌≡◌, ℕ, List, [], map, Bor, sym, get_or, ◌∙◌, ap}
use Rattle.std.proofs.Math.ListN.{get_or-map}
use Rattle.file_tables.specs.Schema.{columns_of}
use Rattle.file_tables.specs.declared.schema.Column.{Column}
use Rattle.file_tables.specs.declared.schema.TheConstants.{SCHEMA}

pub columns_at : (schema : List (Bor (List Column))) (table : ℕ) (none : Bor (List Column)) → none.now ≡ [] → map (λ columns. columns.now) schema ≡ map (λ columns. columns.now) SCHEMA → (get_or schema table none).now ≡ columns_of table
unfolding columns_of
columns_at schema table none e same =
    sym (get_or-map (λ (columns : Bor (List Column)). columns.now) schema table none)
    ∙ ap (λ x. get_or (map (λ (columns : Bor (List Column)). columns.now) schema) table x) e
    ∙ ap (λ x. get_or x table []) same
