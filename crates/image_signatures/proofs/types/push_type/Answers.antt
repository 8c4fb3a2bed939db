use Rattle.std.proofs.Common.{replicate}
use Rattle.std.proofs.lemmas.Result.{on_ok_weaker}
use Rattle.kept_marks.specs.Masks.{masks_of}
use Rattle.image_signatures.specs.Spelt.{element_spelt, type_spelt}
use Rattle.image_signatures.proofs.SpellLaws.{both_pushed, type_parts}
use Rattle.image_signatures.proofs.types.push_type.Goals as goal

pub returns : goal.returns
returns c =
    let kept = masks_of c.args.choice.now in
    let m = c.args.tables.now in
    let of = c.args.of.now in
    on_ok_weaker c.push_element.result
    (λ e. both_pushed c.args.out.now.items c.push_ranks.new.out.items c.push_element.new.out.items (replicate of.ranks 29) (element_spelt kept m of.elem of.token) (type_spelt kept m of) c.in_ok-push_ranks.ensures e (type_parts kept m of))
    c.push_element.ensures
