use Rattle.std.proofs.Common.{◌≡◌, ◌≤◌, ◌<◌, ℕ, Bool, true, false, List, map, length, get_or, sym, ap, ◌∙◌, arith}
use Rattle.std.specs.Prelude.{◌&&◌}
use Rattle.std.specs.List.{list_all}
use Rattle.std.proofs.lemmas.List.{take_all}
use Rattle.std.proofs.lemmas.List.Folds.{list_all_more, list_all_at}
use Rattle.std.proofs.lemmas.Option.{slice_get_within, get_or_from_slice_get}
use Rattle.cil_code.specs.declared.clause.Clause.{Clause}
use Rattle.cil_code.specs.Walk.{Placed}
use Rattle.code_places.specs.Places.{targets_at}
use Rattle.code_places.specs.Clauses.{clause_seen}
use Rattle.step_facts.specs.Parts.{lets}
use Rattle.step_facts.proofs.transfers.all_let.Goals as goal

pub target_of-requires-clause-counted : goal.target_of-requires-clause-counted
target_of-requires-clause-counted c = let n = c.target_count-k-end.ensures c.args.listing.now.code c.args.at in omega (arith, n, c.loop-k-test.true)

pub returns-then-not-lets : goal.returns-then-not-lets
returns-then-not-lets c =
    λ well.
    let p : Placed = record { at = c.args.at; instr = c.args.instr.now } in
    let ts : List ℕ = targets_at c.args.listing.now.code p in
    let test : ℕ → Bool = lets (map clause_seen c.args.listing.now.clauses) c.args.leaves c.args.at in
    let there = c.target_of.ensures well in
    let inside : c.loop-k.k < length ts = slice_get_within ts c.loop-k.k c.target_of.result there in
    let told : c.lets.result ≡ test c.target_of.result = c.lets.ensures ∙ ap (λ (cs : List Clause). lets (map clause_seen cs) c.args.leaves c.args.at c.target_of.result) c.clauses.ensures in
    let bad : test (get_or ts c.loop-k.k 0) ≡ false = ap test (get_or_from_slice_get ts c.loop-k.k c.target_of.result 0 there) ∙ sym told ∙ c.if-not-lets.true in
    sym (list_all_at test ts c.loop-k.k 0 inside bad)

pub loop-k-preserved : goal.loop-k-preserved
loop-k-preserved c =
    λ well.
    let p : Placed = record { at = c.args.at; instr = c.args.instr.now } in
    let ts : List ℕ = targets_at c.args.listing.now.code p in
    let test : ℕ → Bool = lets (map clause_seen c.args.listing.now.clauses) c.args.leaves c.args.at in
    let there = c.target_of.ensures well in
    let inside : c.loop-k.k < length ts = slice_get_within ts c.loop-k.k c.target_of.result there in
    let told : c.lets.result ≡ test c.target_of.result = c.lets.ensures ∙ ap (λ (cs : List Clause). lets (map clause_seen cs) c.args.leaves c.args.at c.target_of.result) c.clauses.ensures in
    let good : test (get_or ts c.loop-k.k 0) ≡ true = ap test (get_or_from_slice_get ts c.loop-k.k c.target_of.result 0 there) ∙ sym told ∙ c.if-not-lets.false in
    list_all_more test ts c.loop-k.k 0 inside ∙ ap (λ b. b && test (get_or ts c.loop-k.k 0)) (c.loop-k.invariant well) ∙ good

pub returns : goal.returns
returns c =
    λ well.
    let p : Placed = record { at = c.args.at; instr = c.args.instr.now } in
    let ts : List ℕ = targets_at c.args.listing.now.code p in
    let test : ℕ → Bool = lets (map clause_seen c.args.listing.now.clauses) c.args.leaves c.args.at in
    let n = c.target_count-k-end.ensures c.args.listing.now.code c.args.at in
    let past : length ts ≤ c.loop-k.k = omega (arith, n, c.loop-k-test.false) in
    sym (ap (list_all test) (sym (take_all c.loop-k.k ts past)) ∙ c.loop-k.invariant well)
