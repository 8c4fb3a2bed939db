use Rattle.std.proofs.Common.{◌≡◌, ◌<◌, ◌∙◌, true, false, sym, ap, get_or, [], map, arith}
use Rattle.std.specs.List.{list_all}
use Rattle.classes.specs.Clauses as lie
use Rattle.image_form.specs.Form as form
use Rattle.msspot_read.specs.Held.{clause_of, clauses}
use Rattle.msspot_read.specs.Lying.{code_clause}
use Rattle.msspot_read.proofs.PartLaws.{all_more, all_stops, all_done}
use Rattle.msspot_read.proofs.BodyLaws.{regions_long, regions_at}
use Rattle.msspot_read.proofs.body.well_before.Goals as goal

pub returns-then-not-lies_well : goal.returns-then-not-lies_well
returns-then-not-lies_well c =
    let i = c.args.known.now in
    let k = c.loop-k.k in
    let cs = map form.regions_of (form.part c.args.first c.args.count (clauses i)) in
    let h : k < c.args.count = c.loop-k-test.true in
    let long = regions_long i c.args.first c.args.count c.requires.inside in
    let bad : (lie.lies_well (code_clause c.args.clause)) (get_or cs k (form.regions_of (clause_of []))) ≡ false = ap (lie.lies_well (code_clause c.args.clause)) (regions_at i c.args.first c.args.count c.requires.inside k h) ∙ ap (lie.lies_well (code_clause c.args.clause)) (sym c.regions.ensures) ∙ sym c.lies_well.ensures ∙ c.if-not-lies_well.true in
    sym (all_stops (lie.lies_well (code_clause c.args.clause)) cs k (form.regions_of (clause_of [])) (list_all (lie.lies_well (code_clause c.args.clause)) cs) (omega (arith, long, h)) bad c.loop-k.invariant)

pub loop-k-preserved : goal.loop-k-preserved
loop-k-preserved c =
    let i = c.args.known.now in
    let k = c.loop-k.k in
    let cs = map form.regions_of (form.part c.args.first c.args.count (clauses i)) in
    let h : k < c.args.count = c.loop-k-test.true in
    let long = regions_long i c.args.first c.args.count c.requires.inside in
    let good : (lie.lies_well (code_clause c.args.clause)) (get_or cs k (form.regions_of (clause_of []))) ≡ true = ap (lie.lies_well (code_clause c.args.clause)) (regions_at i c.args.first c.args.count c.requires.inside k h) ∙ ap (lie.lies_well (code_clause c.args.clause)) (sym c.regions.ensures) ∙ sym c.lies_well.ensures ∙ c.if-not-lies_well.false in
    all_more (lie.lies_well (code_clause c.args.clause)) cs k (form.regions_of (clause_of [])) (list_all (lie.lies_well (code_clause c.args.clause)) cs) (omega (arith, long, h)) good c.loop-k.invariant

pub returns : goal.returns
returns c =
    let i = c.args.known.now in
    let cs = map form.regions_of (form.part c.args.first c.args.count (clauses i)) in
    let long = regions_long i c.args.first c.args.count c.requires.inside in
    sym (all_done (lie.lies_well (code_clause c.args.clause)) cs c.loop-k.k (list_all (lie.lies_well (code_clause c.args.clause)) cs) (omega (arith, long, c.loop-k-test.false)) c.loop-k.invariant)
