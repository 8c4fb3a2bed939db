use Rattle.std.proofs.Common.{◌≡◌, ◌<◌, ◌∙◌, true, false, sym, ap, get_or, [], arith}
use Rattle.std.specs.Prelude.{not}
use Rattle.std.specs.List.{list_all}
use Rattle.image_form.specs.Form as form
use Rattle.assemblies.specs.Rows.{RawClause}
use Rattle.msspot_read.specs.Held.{clause_of, clauses}
use Rattle.msspot_read.proofs.PartLaws.{all_more, all_stops, all_done}
use Rattle.msspot_read.proofs.BodyLaws.{range_long, range_at}
use Rattle.msspot_read.proofs.body.no_catch.Goals as goal

pub returns-then-not-is_no_catch : goal.returns-then-not-is_no_catch
returns-then-not-is_no_catch c =
    let i = c.args.known.now in
    let k = c.loop-k.k in
    let cs = form.part c.args.first c.args.count (clauses i) in
    let h : k < c.args.count = c.loop-k-test.true in
    let long = range_long i c.args.first c.args.count c.requires.inside in
    let bad : (λ (x : RawClause). not (form.is_catch x)) (get_or cs k (clause_of [])) ≡ false = ap (λ (x : RawClause). not (form.is_catch x)) (range_at i c.args.first c.args.count c.requires.inside k h) ∙ sym c.is_no_catch.ensures ∙ c.if-not-is_no_catch.true in
    sym (all_stops (λ (x : RawClause). not (form.is_catch x)) cs k (clause_of []) (list_all (λ (x : RawClause). not (form.is_catch x)) cs) (omega (arith, long, h)) bad c.loop-k.invariant)

pub loop-k-preserved : goal.loop-k-preserved
loop-k-preserved c =
    let i = c.args.known.now in
    let k = c.loop-k.k in
    let cs = form.part c.args.first c.args.count (clauses i) in
    let h : k < c.args.count = c.loop-k-test.true in
    let long = range_long i c.args.first c.args.count c.requires.inside in
    let good : (λ (x : RawClause). not (form.is_catch x)) (get_or cs k (clause_of [])) ≡ true = ap (λ (x : RawClause). not (form.is_catch x)) (range_at i c.args.first c.args.count c.requires.inside k h) ∙ sym c.is_no_catch.ensures ∙ c.if-not-is_no_catch.false in
    all_more (λ (x : RawClause). not (form.is_catch x)) cs k (clause_of []) (list_all (λ (x : RawClause). not (form.is_catch x)) cs) (omega (arith, long, h)) good c.loop-k.invariant

pub returns : goal.returns
returns c =
    let i = c.args.known.now in
    let cs = form.part c.args.first c.args.count (clauses i) in
    let long = range_long i c.args.first c.args.count c.requires.inside in
    sym (all_done (λ (x : RawClause). not (form.is_catch x)) cs c.loop-k.k (list_all (λ (x : RawClause). not (form.is_catch x)) cs) (omega (arith, long, c.loop-k-test.false)) c.loop-k.invariant)
