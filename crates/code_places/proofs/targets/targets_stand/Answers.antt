use Rattle.std.proofs.Common.{◌≡◌, ◌≤◌, ◌<◌, ℕ, Bool, true, false, List, length, get_or, sym, ap, ◌∙◌, arith}
use Rattle.std.specs.Prelude.{◌&&◌}
use Rattle.std.specs.List.{list_all}
use Rattle.std.proofs.lemmas.List.{take_all}
use Rattle.std.proofs.lemmas.List.Folds.{list_all_more, list_all_at}
use Rattle.std.proofs.lemmas.Option.{slice_get_within, get_or_from_slice_get}
use Rattle.cil_code.specs.Walk.{Placed}
use Rattle.code_places.specs.Places.{targets_at}
use Rattle.code_places.proofs.targets.targets_stand.Goals as goal

pub target-requires-clause-counted : goal.target-requires-clause-counted
target-requires-clause-counted c = let n = c.target_count-k-end.ensures c.args.code.now c.args.at in omega (arith, n, c.loop-k-test.true)

pub returns-then-not-has : goal.returns-then-not-has
returns-then-not-has c =
    let p : Placed = record { at = c.args.at; instr = c.args.instr.now } in
    let ts : List ℕ = targets_at c.args.code.now p in
    let test : ℕ → Bool = λ place. get_or c.args.starts.now place false in
    let inside : c.loop-k.k < length ts = slice_get_within ts c.loop-k.k c.target.result c.target.ensures in
    let bad : test (get_or ts c.loop-k.k 0) ≡ false = ap test (get_or_from_slice_get ts c.loop-k.k c.target.result 0 c.target.ensures) ∙ sym c.has.ensures ∙ c.if-not-has.true in
    sym (list_all_at test ts c.loop-k.k 0 inside bad)

pub loop-k-preserved : goal.loop-k-preserved
loop-k-preserved c =
    let p : Placed = record { at = c.args.at; instr = c.args.instr.now } in
    let ts : List ℕ = targets_at c.args.code.now p in
    let test : ℕ → Bool = λ place. get_or c.args.starts.now place false in
    let inside : c.loop-k.k < length ts = slice_get_within ts c.loop-k.k c.target.result c.target.ensures in
    let good : test (get_or ts c.loop-k.k 0) ≡ true = ap test (get_or_from_slice_get ts c.loop-k.k c.target.result 0 c.target.ensures) ∙ sym c.has.ensures ∙ c.if-not-has.false in
    list_all_more test ts c.loop-k.k 0 inside ∙ ap (λ b. b && test (get_or ts c.loop-k.k 0)) c.loop-k.invariant ∙ good

pub returns : goal.returns
returns c =
    let p : Placed = record { at = c.args.at; instr = c.args.instr.now } in
    let ts : List ℕ = targets_at c.args.code.now p in
    let test : ℕ → Bool = λ place. get_or c.args.starts.now place false in
    let n = c.target_count-k-end.ensures c.args.code.now c.args.at in
    let past : length ts ≤ c.loop-k.k = omega (arith, n, c.loop-k-test.false) in
    sym (ap (list_all test) (sym (take_all c.loop-k.k ts past)) ∙ c.loop-k.invariant)
