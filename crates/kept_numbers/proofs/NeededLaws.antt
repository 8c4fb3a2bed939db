-- The closure of the rules over numbers has the rows that are needed.
use Rattle.std.proofs.Common.{◌≡◌, ℕ, Bool, true, false, ◌&&◌, List, Option, Some, None, sym, ap, ◌∙◌, subst}
use Rattle.std.specs.Prelude.{slice_get}
use Rattle.std.proofs.lemmas.Bool.{and_parts}
use Rattle.row_closure.specs.declared.rule.Rule.{Rule}
use Rattle.row_closure.specs.Closure.{IsClosed, IsWithin, IsClosure}
use Rattle.assemblies.specs.Rows.{Assembly}
use Rattle.assemblies.specs.Chosen.{Choice}
use Rattle.kept_closure.specs.Kept.{HasAll, IsNeeded}
use Rattle.kept_rules.specs.Row.{Row, marks}
use Rattle.kept_rules.specs.Rules.{Root, root_row, RowRule, first_row, second_row, then_row, IsRuled, MembersStand}
use Rattle.kept_rules.proofs.LeastLaws.{and_both, rooted, spans, stands, least_is_needed}
use Rattle.kept_numbers.specs.Numbers.{IsThere, all_rows, number_of}
use Rattle.kept_numbers.specs.Made.{rule_of, AreThere, AreMade}
use Rattle.kept_numbers.proofs.NumberLaws.{stands_at_number}

-- whether the row at a place is one of a set
abbrev has_row : (Row → Bool) → Option Row → Bool
has_row has None = false
has_row has (Some r) = has r

module _ (size : ℕ) (ps : List Assembly) (base keep : ℕ → Choice) (rules : List Rule) (roots closure : ℕ → Bool) (has : HasAll ps base) (stand : MembersStand size ps base) (made : AreMade size ps base roots rules) (closes : IsClosure rules roots closure) (is : (r : Row) → marks keep r ≡ (marks base r && closure (number_of ps r))) where
  parts : (r : Row) → marks keep r ≡ true → (marks base r ≡ true) × (closure (number_of ps r) ≡ true)
  parts r k = and_parts (marks base r) (closure (number_of ps r)) (sym (is r) ∙ k)

  joined : (r : Row) → marks base r ≡ true → closure (number_of ps r) ≡ true → marks keep r ≡ true
  joined r b c = is r ∙ and_both (marks base r) (closure (number_of ps r)) b c

  given : (r : RowRule size ps) → marks base (first_row size ps r) ≡ true → marks base (then_row size ps r) ≡ true
  given r k = spans size ps base has r (stands size ps base has stand r k) k

  rooted_there : (r : Root size ps) → marks base (root_row size ps r) ≡ true
  rooted_there r = rooted size ps base has stand.entry r

  ruled : IsRuled size ps (marks keep)
  ruled = record {
    roots = λ r. joined (root_row size ps r) (rooted_there r) (closes.has (number_of ps (root_row size ps r)) (made.has_root r));
    rules = λ r k l.
        let first = parts (first_row size ps r) k in
        let second = parts (second_row size ps r) l in
        let rule = made.has_rule r (first.0, second.0) in
        joined (then_row size ps r) (given r first.0) (closes.closed rule.0 (rule_of size ps r) rule.1 first.1 second.1);
  }

  module _ (other : Row → Bool) (closed : IsRuled size ps other) where
    -- the other set, as numbers
    abbrev by_number : ℕ → Bool
    by_number n = has_row other (slice_get (all_rows ps) n)

    there : (r : Row) → IsThere ps r → by_number (number_of ps r) ≡ other r
    there r t = ap (has_row other) (stands_at_number ps r t)

    same : (r : Row) → marks base r ≡ true → by_number (number_of ps r) ≡ other r
    same r b = there r (made.there r b)

    has_roots : IsWithin roots by_number
    has_roots n e =
        let root = made.is_root n e in
        ap by_number root.1 ∙ same (root_row size ps root.0) (rooted_there root.0) ∙ closed.roots root.0

    ruled_by : (r : RowRule size ps) → AreThere size ps r → by_number (rule_of size ps r).first ≡ true → by_number (rule_of size ps r).second ≡ true → by_number (rule_of size ps r).then ≡ true
    ruled_by r t k l =
        there (then_row size ps r) t.2
        ∙ closed.rules r (sym (there (first_row size ps r) t.0) ∙ k) (sym (there (second_row size ps r) t.1) ∙ l)

    has_rules : IsClosed rules by_number
    has_rules k x e =
        let rule = made.is_rule k x e in
        subst (λ (y : Rule). by_number y.first ≡ true → by_number y.second ≡ true → by_number y.then ≡ true) (sym rule.2) (ruled_by rule.0 rule.1)

    least : (r : Row) → marks keep r ≡ true → other r ≡ true
    least r k =
        let p = parts r k in
        sym (same r p.0) ∙ closes.least by_number has_roots has_rules (number_of ps r) p.1

  pub closure_is_needed : IsNeeded size ps keep
  closure_is_needed = least_is_needed size ps base has stand keep (record { ruled = ruled; least = least })
