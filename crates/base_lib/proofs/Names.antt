-- The names of natives behind the references of the constant.
use Rattle.std.proofs.Common.{◌≡◌, ℕ, List, [], map, Bor, sym, get_or, ◌∙◌, ap}
use Rattle.std.proofs.Math.ListN.{get_or-map}
use Rattle.base_tables.specs.declared.library.TheConstants.{NATIVES}

-- a name that is found there is the constant's
pub name_at : (names : List (Bor (List ℕ))) (number : ℕ) (none : Bor (List ℕ)) → none.now ≡ [] → map (λ name. name.now) names ≡ map (λ name. name.now) NATIVES
    → (get_or names number none).now ≡ get_or (map (λ name. name.now) NATIVES) number []
name_at names number none e same =
    sym (get_or-map (λ (name : Bor (List ℕ)). name.now) names number none)
    ∙ ap (λ x. get_or (map (λ (name : Bor (List ℕ)). name.now) names) number x) e
    ∙ ap (λ x. get_or x number []) same
