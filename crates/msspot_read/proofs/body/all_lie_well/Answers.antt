use Rattle.std.proofs.Common.{◌∙◌, sym, map}
use Rattle.classes.specs.Clauses as lie
use Rattle.image_form.specs.Form as form
use Rattle.msspot_read.specs.Held.{clauses}
use Rattle.msspot_read.specs.Lying.{code_clause}
use Rattle.msspot_read.proofs.BodyLaws.{well_improper, well_clash, well_more, well_done}
use Rattle.msspot_read.proofs.body.all_lie_well.Goals as goal

pub returns-then-not-is_proper : goal.returns-then-not-is_proper
returns-then-not-is_proper c =
    well_improper c.args.known.now c.args.first c.args.count c.requires.inside c.loop-k.k (code_clause c.regions-clause.result) (lie.lie_well (map form.regions_of (form.part c.args.first c.args.count (clauses c.args.known.now)))) c.loop-k-test.true c.regions-clause.ensures (sym c.is_proper.ensures ∙ c.if-not-is_proper.true) c.loop-k.invariant

pub returns-then-not-well_before : goal.returns-then-not-well_before
returns-then-not-well_before c =
    well_clash c.args.known.now c.args.first c.args.count c.requires.inside c.loop-k.k (code_clause c.regions-clause.result) (lie.lie_well (map form.regions_of (form.part c.args.first c.args.count (clauses c.args.known.now)))) c.loop-k-test.true c.regions-clause.ensures (sym c.is_proper.ensures ∙ c.if-not-is_proper.false) (sym c.well_before.ensures ∙ c.if-not-well_before.true) c.loop-k.invariant

pub loop-k-preserved : goal.loop-k-preserved
loop-k-preserved c =
    well_more c.args.known.now c.args.first c.args.count c.requires.inside c.loop-k.k (code_clause c.regions-clause.result) (lie.lie_well (map form.regions_of (form.part c.args.first c.args.count (clauses c.args.known.now)))) c.loop-k-test.true c.regions-clause.ensures (sym c.is_proper.ensures ∙ c.if-not-is_proper.false) (sym c.well_before.ensures ∙ c.if-not-well_before.false) c.loop-k.invariant

pub returns : goal.returns
returns c =
    well_done c.args.known.now c.args.first c.args.count c.requires.inside c.loop-k.k (lie.lie_well (map form.regions_of (form.part c.args.first c.args.count (clauses c.args.known.now)))) c.loop-k-test.false c.loop-k.invariant
