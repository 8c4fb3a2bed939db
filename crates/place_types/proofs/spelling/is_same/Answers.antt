use Rattle.std.proofs.Common.{◌≡◌, ◌↔◌, subst}
use Rattle.std.specs.Prelude.{IsTrue}
use Rattle.ecma_types.specs.declared.stack.PlaceType.{PlaceType as WorldPlace}
use Rattle.place_types.specs.Types.{spelt}
use Rattle.place_types.proofs.Spellings.{same_spelling}
use Rattle.place_types.proofs.spelling.is_same.Goals as goal

pub returns : goal.returns
returns c =
    let e : IsTrue c.is_equal.result ↔ (spelt c.args.a.now ≡ spelt c.args.b.now) =
    subst (λ (x : WorldPlace). IsTrue c.is_equal.result ↔ (x ≡ spelt c.args.b.now)) c.spelt.ensures
    (subst (λ (y : WorldPlace). IsTrue c.is_equal.result ↔ (c.spelt.result ≡ y)) c.spelt-2.ensures c.is_equal.ensures) in
    same_spelling c.is_equal.result c.args.a.now c.args.b.now e
