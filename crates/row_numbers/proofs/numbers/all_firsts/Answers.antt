use Rattle.std.proofs.Common.{◌≡◌, ◌+◌, sym, arith, subst, length}
use Rattle.std.proofs.lemmas.Option.{slice_get-get_or}
use Rattle.row_numbers.proofs.NumberLaws.{AreFirstFew, few_none, few_more, few_all}
use Rattle.row_numbers.proofs.numbers.all_firsts.Goals as goal

pub loop-k-init : goal.loop-k-init
loop-k-init c = record { few = subst (λ xs. AreFirstFew c.args.counts.now xs 0 0) (sym c.new-tables.ensures.items) (few_none c.args.counts.now) }

pub loop-k-preserved : goal.loop-k-preserved
loop-k-preserved c =
    let there = slice_get-get_or c.args.counts.now c.loop-k.k (record { assembly_refs = 0; type_refs = 0; field_refs = 0; method_refs = 0; types = 0; fields = 0; methods = 0; specs = 0 }) (omega (arith, c.loop-k-test.true)) in
    record { few = subst (λ xs. AreFirstFew c.args.counts.now xs (c.loop-k.k + 1) c.in-Some.first.end) (sym c.in_ok-push.ensures.items) (few_more c.args.counts.now c.loop-k.tables.items c.loop-k.k c.loop-k.end _ c.in-Some.first c.loop-k.invariant.few there c.in-Some.ensures) }

pub returns : goal.returns
returns c =
    let whole : c.loop-k.k ≡ length c.args.counts.now = omega (arith, c.loop-k-test.false, c.loop-k.auto.k-end) in
    few_all c.args.counts.now c.loop-k.tables.items c.loop-k.k c.loop-k.end whole c.loop-k.invariant.few
