use Rattle.std.proofs.Common.{ℕ, ◌+◌, ◌*◌, [], ◌∷◌, map, sym, arith}
use Rattle.std.specs.List.{range_with_len}
use Rattle.std.proofs.lemmas.List.FromFn.{map-range_with_len_more}
use Rattle.cil_code.specs.Sections.{clause_at, clause_len}
use Rattle.cil_code.proofs.Unrolled.{regrouped}
use Rattle.cil_code.proofs.sections.push_clauses.Goals as goal

pub loop-k-preserved : goal.loop-k-preserved
loop-k-preserved c =
    let f = λ (k : ℕ). clause_at c.args.section.form c.args.bytes.now (4 + clause_len c.args.section.form * k) in
    let k = c.loop-k.k in
    let more = map-range_with_len_more f 0 k k (omega arith) in
    rw (c.in_ok-push.ensures.items, c.clause_of.ensures, c.clause_len-len.ensures, c.loop-k.invariant) (regrouped c.args.all.now.items (map f (range_with_len 0 k)) (f k ∷ []) (map f (range_with_len 0 (k + 1))) (sym more))
