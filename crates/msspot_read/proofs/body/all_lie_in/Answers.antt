use Rattle.std.proofs.Common.{◌≡◌, ◌<◌, ◌∙◌, true, false, sym, ap, get_or, [], arith}
use Rattle.std.specs.List.{list_all}
use Rattle.image_form.specs.Form as form
use Rattle.msspot_read.specs.Held.{clause_of, clauses}
use Rattle.msspot_read.proofs.PartLaws.{all_more, all_stops, all_done}
use Rattle.msspot_read.proofs.BodyLaws.{range_long, range_at}
use Rattle.msspot_read.proofs.body.all_lie_in.Goals as goal

pub returns-then-not-lies_in : goal.returns-then-not-lies_in
returns-then-not-lies_in c =
    let i = c.args.known.now in
    let k = c.loop-k.k in
    let cs = form.part c.args.first c.args.count (clauses i) in
    let h : k < c.args.count = c.loop-k-test.true in
    let long = range_long i c.args.first c.args.count c.requires.inside in
    let bad : (form.lies_in c.args.size) (get_or cs k (clause_of [])) ≡ false = ap (form.lies_in c.args.size) (range_at i c.args.first c.args.count c.requires.inside k h) ∙ sym c.lies_in.ensures ∙ c.if-not-lies_in.true in
    sym (all_stops (form.lies_in c.args.size) cs k (clause_of []) (list_all (form.lies_in c.args.size) cs) (omega (arith, long, h)) bad c.loop-k.invariant)

pub loop-k-preserved : goal.loop-k-preserved
loop-k-preserved c =
    let i = c.args.known.now in
    let k = c.loop-k.k in
    let cs = form.part c.args.first c.args.count (clauses i) in
    let h : k < c.args.count = c.loop-k-test.true in
    let long = range_long i c.args.first c.args.count c.requires.inside in
    let good : (form.lies_in c.args.size) (get_or cs k (clause_of [])) ≡ true = ap (form.lies_in c.args.size) (range_at i c.args.first c.args.count c.requires.inside k h) ∙ sym c.lies_in.ensures ∙ c.if-not-lies_in.false in
    all_more (form.lies_in c.args.size) cs k (clause_of []) (list_all (form.lies_in c.args.size) cs) (omega (arith, long, h)) good c.loop-k.invariant

pub returns : goal.returns
returns c =
    let i = c.args.known.now in
    let cs = form.part c.args.first c.args.count (clauses i) in
    let long = range_long i c.args.first c.args.count c.requires.inside in
    sym (all_done (form.lies_in c.args.size) cs c.loop-k.k (list_all (form.lies_in c.args.size) cs) (omega (arith, long, c.loop-k-test.false)) c.loop-k.invariant)
