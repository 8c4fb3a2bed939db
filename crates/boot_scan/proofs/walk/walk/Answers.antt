use Rattle.std.proofs.Common.{◌+◌, ap, sym, ◌∙◌}
use Rattle.deploy_model.specs.Banks.{ends}
use Rattle.boot_scan.specs.Images.{image_size, image_entry}
use Rattle.boot_scan.proofs.WalkLaws.{begins, done, one_too_many, missing, goes_on_to, byte_is}
use Rattle.boot_scan.proofs.walk.walk.Goals as goal

pub images-init : goal.images-init
images-init c =
    begins c.args.bytes.now c.args.start c.empty-set.result.count c.empty-set.result.at c.empty-set.result.size c.requires.begins c.empty-set.ensures.count c.empty-set.ensures.at c.empty-set.ensures.size

pub returns-then-from-eq-MOST_IMAGES-clause-walked : goal.returns-then-from-eq-MOST_IMAGES-clause-walked
returns-then-from-eq-MOST_IMAGES-clause-walked c =
    one_too_many c.args.bytes.now c.args.start c.images.place c.images.set.count c.images.set.at c.images.set.size c.images.entries c.images.invariant
    (sym c.from.ensures ∙ c.if-from-eq-MOST_IMAGES.true)
    (sym (ap ends c.rest_of.ensures) ∙ sym c.ends.ensures ∙ c.images-test.true)

pub returns-in-None-clause-walked : goal.returns-in-None-clause-walked
returns-in-None-clause-walked c =
    missing c.args.bytes.now c.args.start c.images.place c.images.set.count c.images.set.at c.images.set.size c.images.entries c.images.invariant
    (λ full. c.if-from-eq-MOST_IMAGES.false (c.from.ensures ∙ full))
    (sym (ap ends c.rest_of.ensures) ∙ sym c.ends.ensures ∙ c.images-test.true)
    (sym (ap image_size c.rest_of-in-images.ensures) ∙ sym c.in-None.ensures.size)

pub images-preserved : goal.images-preserved
images-preserved c =
    goes_on_to c.args.bytes.now c.args.start c.images.place c.images.set.count c.images.set.at c.images.set.size c.images.entries c.images.invariant
    c.in-Some.image.size c.in-Some.image.has_entry
    (λ full. c.if-from-eq-MOST_IMAGES.false (c.from.ensures ∙ full))
    (sym (ap ends c.rest_of.ensures) ∙ sym c.ends.ensures ∙ c.images-test.true)
    (sym (ap image_size c.rest_of-in-images.ensures) ∙ sym c.in-Some.ensures.size)
    (c.in-Some.ensures.entry ∙ ap image_entry c.rest_of-in-images.ensures)
    c.add.new.self.count c.add.new.self.at c.add.new.self.size _ c.requires.long c.add.ensures.count c.add.ensures.at c.add.ensures.size
    (ap (λ k. c.images.entries + k) (byte_is c.in-Some.image.has_entry))

pub returns-clause-walked : goal.returns-clause-walked
returns-clause-walked c =
    done c.args.bytes.now c.args.start c.images.place c.images.set.count c.images.set.at c.images.set.size c.images.entries c.images.invariant
    (sym (ap ends c.rest_of.ensures) ∙ sym c.ends.ensures ∙ c.images-test.false)
