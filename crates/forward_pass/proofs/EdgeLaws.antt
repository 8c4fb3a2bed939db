-- Edges one behind another, and the table behind them.
use Rattle.std.proofs.Common.{◌≡◌, ℕ, zero, suc, ◌+◌, ◌<◌, ◌≤◌, Bool, true, false, cond, List, [], ◌∷◌, ◌++◌, length, take, Option, Some, None, Result, Ok, Err, refl, sym, ap, ◌∙◌, arith, append_assoc, subst}
use Rattle.std.specs.Prelude.{slice_get, IfOk, nat_lt}
use Rattle.std.specs.Borrow.{Bor}
use Rattle.std.specs.Global.{Vec}
use Rattle.std.specs.Option.{option_copied}
use Rattle.std.specs.BTreeMap.{BTreeMap}
use Rattle.std.proofs.lemmas.Bool.{lt-ltb, le-ltb, cond-true, cond-false}
use Rattle.std.proofs.lemmas.List.{take_more, append-nil}
use Rattle.std.proofs.lemmas.Option.{get_or_from_slice_get}
use Rattle.ecma_types.specs.declared.stack.StackType.{StackType as WorldType}
use Rattle.machine_typed.specs.Typing.{StackType}
use Rattle.code_rules.specs.Pass.{Lattice, Entry, cons_merged, if_fits, merge_all, fit_all, recorded, fits_standing, standing, with_record, with_fit, edge, edges}
use Rattle.forward_pass.specs.Seen.{AllNeeded, Keeps, seen_there, seen_falling}
use Rattle.forward_pass.specs.Told.{lowest_of, lower_of, Leaves}
use Rattle.verdict_rules.specs.Code.{lowest}
use Rattle.forward_pass.proofs.RuleLaws.{lowest_append, lowest_of_append}

pub needed_at : (needed : ℕ → Bool) (tos : List ℕ) (i to : ℕ) → AllNeeded needed tos → slice_get tos i ≡ Some to → needed to ≡ true
needed_at needed [] i to all at = cc at
needed_at needed (x ∷ xs) zero to all at = subst (λ y. needed y ≡ true) (cc at) all.0
needed_at needed (x ∷ xs) (suc i) to all at = needed_at needed xs i to all.1 at

-- one more edge behind others
abbrev pub with_edge : List ℕ × List Entry → List ℕ × List Entry → List ℕ × List Entry
with_edge before one = (before.0 ++ one.0, one.1)

module _ (l : Lattice) (from : ℕ) (us : List StackType) where
  edges_push : (tos : List ℕ) (to : ℕ) (entries : List Entry) → edges l from us (tos ++ to ∷ []) entries ≡ with_edge (edges l from us tos entries) (edge l from us to (edges l from us tos entries).1)
  edges_push [] to entries = ap (λ rules. (rules, (edge l from us to entries).1)) (append-nil (edge l from us to entries).0)
  edges_push (x ∷ xs) to entries =
      let one = edge l from us x entries in
      ap (λ (rest : List ℕ × List Entry). (one.0 ++ rest.0, rest.1)) (edges_push xs to one.1)
      ∙ ap (λ rules. (rules, (edge l from us to (edges l from us xs one.1).1).1)) (sym (append_assoc one.0 (edges l from us xs one.1).0 (edge l from us to (edges l from us xs one.1).1).0))

  pub edges_more : (tos : List ℕ) (i to : ℕ) (entries : List Entry) → i < length tos → slice_get tos i ≡ Some to → edges l from us (take (i + 1) tos) entries ≡ with_edge (edges l from us (take i tos) entries) (edge l from us to (edges l from us (take i tos) entries).1)
  edges_more tos i to entries within at =
      ap (λ xs. edges l from us xs entries) (take_more tos i to within ∙ ap (λ x. take i tos ++ x ∷ []) (get_or_from_slice_get tos i to to at))
      ∙ edges_push (take i tos) to entries

  pub lowest_more : (before one : List ℕ × List Entry) (so_far rule : Option ℕ) → so_far ≡ lowest_of before.0 → rule ≡ lowest_of one.0 → lower_of so_far rule ≡ lowest_of (with_edge before one).0
  lowest_more before one so_far rule e f = ap (λ o. lower_of o rule) e ∙ ap (lower_of (lowest_of before.0)) f ∙ sym (lowest_of_append before.0 one.0)

-- ---- the rules that stacks break: each is the lowest of itself

abbrev pub IsRule : Option ℕ → Type 0
IsRule None = Unit
IsRule (Some rule) = (52 ≤ rule) × (rule ≤ 54)

abbrev pub FailsSo : {A : Type 0} → Result A ℕ → Type 0
FailsSo (Ok x) = Unit
FailsSo (Err rule) = (52 ≤ rule) × (rule ≤ 54)

merge_rule : (o : Option StackType) (r : Result (List StackType) ℕ) → FailsSo r → FailsSo (cons_merged o r)
merge_rule None (Ok ts) h = (omega arith, omega arith)
merge_rule None (Err rule) h = h
merge_rule (Some t) (Ok ts) h = tt
merge_rule (Some t) (Err rule) h = h

fit_rule : (b : Bool) (o : Option ℕ) → IsRule o → IsRule (if_fits b o)
fit_rule true o h = h
fit_rule false None h = (omega arith, omega arith)
fit_rule false (Some rule) h = h

module _ (l : Lattice) where
  pub merge_rules : (ts us : List StackType) → FailsSo (merge_all l ts us)
  merge_rules [] [] = tt
  merge_rules [] (u ∷ us) = (omega arith, omega arith)
  merge_rules (t ∷ ts) [] = (omega arith, omega arith)
  merge_rules (t ∷ ts) (u ∷ us) = merge_rule (l.merge t u) (merge_all l ts us) (merge_rules ts us)

  fit_rules : (ts us : List StackType) → IsRule (fit_all l ts us)
  fit_rules [] [] = tt
  fit_rules [] (u ∷ us) = (omega arith, omega arith)
  fit_rules (t ∷ ts) [] = (omega arith, omega arith)
  fit_rules (t ∷ ts) (u ∷ us) = fit_rule (l.assignable t u) (fit_all l ts us) (fit_rules ts us)

  record_rules : (there : Option (List StackType)) (us : List StackType) → FailsSo (recorded l there us)
  record_rules None us = tt
  record_rules (Some ts) us = merge_rules ts us

  compare_rules : (us : List StackType) (there : Option (List StackType)) → IsRule (fits_standing l us there)
  compare_rules us None = tt
  compare_rules us (Some ts) = fit_rules us ts

pub one_rule : (rule : ℕ) → rule ≤ 54 → Some rule ≡ lowest_of (rule ∷ [])
one_rule rule h = ap (λ n. Some n) (omega arith)

-- ---- one edge

pub if_ok : {X Y : Type 0} (r : Result X Y) {P Q : X → Type 0} → IfOk r P → ((x : X) → P x → Q x) → IfOk r Q
if_ok (Ok x) p f = f x p
if_ok (Err y) p f = tt

module _ (seen : WorldType → StackType) where
  pub there_seen : (there : Option (Bor (Vec WorldType))) → seen_there seen there ≡ seen_falling seen (option_copied there)
  there_seen None = refl
  there_seen (Some types) = refl

  module _ (l : Lattice) (needed : ℕ → Bool) (table : BTreeMap ℕ (Vec WorldType)) (entries : List Entry) (keeps : Keeps seen needed table entries) where
    pub record_failed : (to rule : ℕ) (us : List StackType) → Err rule ≡ recorded l (standing entries to) us → Leaves seen needed table (Some rule) (with_record to entries (recorded l (standing entries to) us))
    record_failed to rule us e =
        let so : (52 ≤ rule) × (rule ≤ 54) = subst FailsSo (sym e) (record_rules l (standing entries to) us) in
        subst (λ r. Leaves seen needed table (Some rule) (with_record to entries r)) e (one_rule rule so.1, keeps)

    compared : (o : Option ℕ) → IsRule o → Leaves seen needed table o (with_fit entries o)
    compared None h = (refl, keeps)
    compared (Some rule) h = (one_rule rule h.1, keeps)

    pub backwards : (from to : ℕ) (us : List StackType) (rule : Option ℕ) → to ≤ from → rule ≡ fits_standing l us (standing entries to) → Leaves seen needed table rule (edge l from us to entries)
    backwards from to us rule back e =
        subst (λ r. Leaves seen needed table rule r) (sym (cond-false (nat_lt from to) (with_record to entries (recorded l (standing entries to) us)) (with_fit entries (fits_standing l us (standing entries to))) (le-ltb from to back)))
        (subst (λ o. Leaves seen needed table o (with_fit entries (fits_standing l us (standing entries to)))) (sym e) (compared (fits_standing l us (standing entries to)) (compare_rules l us (standing entries to))))

  pub forwards : (l : Lattice) (needed : ℕ → Bool) (table : BTreeMap ℕ (Vec WorldType)) (entries : List Entry) (from to : ℕ) (us : List StackType) (rule : Option ℕ) → from < to → Leaves seen needed table rule (with_record to entries (recorded l (standing entries to) us)) → Leaves seen needed table rule (edge l from us to entries)
  forwards l needed table entries from to us rule on leaves =
      subst (λ r. Leaves seen needed table rule r) (sym (cond-true (nat_lt from to) (with_record to entries (recorded l (standing entries to) us)) (with_fit entries (fits_standing l us (standing entries to))) (lt-ltb from to on))) leaves

-- ---- what edges break

record_high : (to : ℕ) (entries : List Entry) (r : Result (List StackType) ℕ) → FailsSo r → 52 ≤ lowest (with_record to entries r).0
record_high to entries (Ok ts) h = omega arith
record_high to entries (Err rule) h = omega (arith, h.0)

fit_high : (entries : List Entry) (o : Option ℕ) → IsRule o → 52 ≤ lowest (with_fit entries o).0
fit_high entries None h = omega arith
fit_high entries (Some rule) h = omega (arith, h.0)

either_high : (b : Bool) (x y : List ℕ × List Entry) → 52 ≤ lowest x.0 → 52 ≤ lowest y.0 → 52 ≤ lowest (cond b x y).0
either_high true x y h k = h
either_high false x y h k = k

pub edges_high : (l : Lattice) (from : ℕ) (us : List StackType) (tos : List ℕ) (entries : List Entry) → 52 ≤ lowest (edges l from us tos entries).0
edges_high l from us [] entries = omega arith
edges_high l from us (to ∷ tos) entries =
    let one : List ℕ × List Entry = edge l from us to entries in
    let rest : List ℕ × List Entry = edges l from us tos one.1 in
    let high : 52 ≤ lowest one.0 =
    either_high (nat_lt from to) (with_record to entries (recorded l (standing entries to) us)) (with_fit entries (fits_standing l us (standing entries to)))
    (record_high to entries (recorded l (standing entries to) us) (record_rules l (standing entries to) us))
    (fit_high entries (fits_standing l us (standing entries to)) (compare_rules l us (standing entries to))) in
    omega (arith, lowest_append one.0 rest.0, high, edges_high l from us tos one.1)
