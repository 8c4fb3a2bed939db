use Rattle.std.proofs.Common.{◌+◌, ◌&&◌, ◌||◌, ◌∙◌, refl, sym, ap, length}
use Rattle.std.specs.Prelude.{nat_eq}
use Rattle.image_form.specs.Whole.{texts_in}
use Rattle.msspot_read.specs.Forms.{fits}
use Rattle.msspot_read.specs.Marked.{is_marked}
use Rattle.msspot_read.proofs.EntryLaws.{walk_starts, walk_stops, walk_goes_on}
use Rattle.msspot_read.proofs.entries.entries_of.Goals as goal

pub entries-init : goal.entries-init
entries-init c = walk_starts c.pool-pool.result.now (fits c.args.parts.now c.args.form) c.none-marks.result.words c.none-marks.ensures

pub returns-in-None-clause-none : goal.returns-in-None-clause-none
returns-in-None-clause-none c =
    ap texts_in (sym c.pool-pool.ensures.pool)
    ∙ walk_stops c.pool-pool.result.now c.entries.at (fits c.args.parts.now c.args.form) c.entries.marks.words c.entries.invariant c.entries-test.true c.in-None.ensures

pub entries-preserved : goal.entries-preserved
entries-preserved c =
    walk_goes_on c.pool-pool.result.now c.entries.at (c.entries.at + (2 + length c.in-Some.entry.now)) (fits c.args.parts.now c.args.form) c.entries.marks.words c.note.new.self.words c.in-Some.entry.now c.entries.invariant c.entries-test.true c.in-Some.ensures refl
    (λ k. c.note.ensures k ∙ ap (λ b. nat_eq k c.entries.at && b || is_marked c.entries.marks.words k) c.has_form-on.ensures)
