use Rattle.std.proofs.Common.{◌≡◌, ◌-◌, [], sym, ap, ◌∙◌, subst, rules}
use Rattle.std.specs.Prelude.{unsigned_abs}
use Rattle.board_ids.specs.Ids.{cli_type}
use Rattle.tiny_native.specs.Copies.{elements_of, places_copied, elements_copied}
use Rattle.tiny_native.specs.Ends.{Meets}
use Rattle.tiny_native.proofs.TypeSame.{type_same}
use Rattle.tiny_native.proofs.CopyOutcomes.{copy_negative, copy_within}
use Rattle.tiny_native.proofs.arrays.copy_same.Goals as goal

pub returns-then-has_negative : goal.returns-then-has_negative
returns-then-has_negative c s d e h a b types =
    (h.keeps, copy_negative s.program s.state s.frame s.callers s.next s.rest [] (c.args.target.thing - 1) (cli_type d.shape.of) (cli_type e.shape.of) (elements_of s d) (elements_of s e) c.args.by.from c.args.by.to c.args.by.count (type_same d.shape.of e.shape.of types) (sym c.has_negative.ensures ∙ c.if-has_negative.true))

pub returns : goal.returns
returns c s d e h a b types =
    let from : c.unsigned_abs-from.result ≡ unsigned_abs c.args.by.from = search rules in
    let to : c.unsigned_abs-to.result ≡ unsigned_abs c.args.by.to = search rules in
    let count : c.unsigned_abs-count.result ≡ unsigned_abs c.args.by.count = search rules in
    let outcome : elements_copied s c.args.target.thing d e c.args.by.from c.args.by.to c.args.by.count ≡ places_copied s c.args.target.thing d e c.unsigned_abs-from.result c.unsigned_abs-to.result c.unsigned_abs-count.result =
    copy_within s.program s.state s.frame s.callers s.next s.rest [] (c.args.target.thing - 1) (cli_type d.shape.of) (cli_type e.shape.of) (elements_of s d) (elements_of s e) c.args.by.from c.args.by.to c.args.by.count (type_same d.shape.of e.shape.of types) (sym c.has_negative.ensures ∙ c.if-has_negative.false)
    ∙ ap (λ x. places_copied s c.args.target.thing d e x (unsigned_abs c.args.by.to) (unsigned_abs c.args.by.count)) (sym from)
    ∙ ap (λ x. places_copied s c.args.target.thing d e c.unsigned_abs-from.result x (unsigned_abs c.args.by.count)) (sym to)
    ∙ ap (λ x. places_copied s c.args.target.thing d e c.unsigned_abs-from.result c.unsigned_abs-to.result x) (sym count) in
    subst (λ o. Meets s c.copy_places.new.ram o c.copy_places.result) (sym outcome) (c.copy_places.ensures s d e h a b types)
