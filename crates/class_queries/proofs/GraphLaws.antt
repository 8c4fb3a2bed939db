-- The graph of a table: where the number of a class leads.
use Rattle.std.proofs.Common.{◌≡◌, ℕ, zero, suc, ◌<◌, List, [], ◌∷◌, map, length, Option, Some, None, refl, sym, ap, ◌∙◌, arith}
use Rattle.std.specs.Prelude.{slice_get, unwrap_or}
use Rattle.std.specs.Option.{option_map}
use Rattle.std.proofs.lemmas.Option.{slice_get-map}
use Rattle.member_keys.specs.declared.keys.ClassId.{ClassId}
use Rattle.member_keys.specs.Seen.{class_seen}
use Rattle.class_table.specs.declared.rows.ClassTable.{ClassTable}
use Rattle.class_table.specs.Seen.{classes_seen}
use Rattle.class_queries.specs.declared.chains.Way.{Way}
use Rattle.class_queries.specs.Chains.{nexts}
use Rattle.class_queries.specs.Numbers.{number_of}
use Rattle.class_queries.specs.Edges.{all_classes, edges_of, graph_next}

module _ (t : ClassTable) (w : Way) (classes : List ClassId) (listed : map class_seen classes ≡ all_classes t) where
  pub next_at : (a : ℕ) (c : ClassId) → slice_get classes a ≡ Some c → graph_next t w a ≡ edges_of t w (class_seen c)
  next_at a c e = ap (λ o. unwrap_or (option_map (edges_of t w) o) []) (sym (ap (λ xs. slice_get xs a) listed) ∙ slice_get-map class_seen classes a ∙ ap (option_map class_seen) e)

  pub next_none : (a : ℕ) → slice_get classes a ≡ None → graph_next t w a ≡ []
  next_none a e = ap (λ o. unwrap_or (option_map (edges_of t w) o) []) (sym (ap (λ xs. slice_get xs a) listed) ∙ slice_get-map class_seen classes a ∙ ap (option_map class_seen) e)

  pub step_at : (a edge : ℕ) (c : ClassId) (o : Option ClassId) → slice_get classes a ≡ Some c → option_map class_seen o ≡ slice_get (nexts w (classes_seen t) (class_seen c)) edge → slice_get (graph_next t w a) edge ≡ option_map (λ d. number_of t (class_seen d)) o
  step_at a edge c o e f = ap (λ xs. slice_get xs edge) (next_at a c e) ∙ slice_get-map (number_of t) (nexts w (classes_seen t) (class_seen c)) edge ∙ ap (option_map (number_of t)) (sym f) ∙ go o
    where
      go : (o : Option ClassId) → option_map (number_of t) (option_map class_seen o) ≡ option_map (λ d. number_of t (class_seen d)) o
      go None = refl
      go (Some d) = refl

pub no_place : (xs : List ℕ) (edge : ℕ) → edge < length xs → slice_get xs edge ≡ None → ⊥
no_place [] edge inside e = omega (arith, inside)
no_place (x ∷ xs) zero inside e = cc e
no_place (x ∷ xs) (suc n) inside e = no_place xs n (omega (arith, inside)) e
