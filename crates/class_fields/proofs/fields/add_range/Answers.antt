use Rattle.std.proofs.Common.{◌≡◌, ◌∙◌, suc, ◌+◌, ◌-◌, ◌++◌, map, sym, ap, arith}
use Rattle.std.proofs.lemmas.List.{append-nil}
use Rattle.class_fields.specs.Fields.{instance_seen}
use Rattle.class_fields.proofs.FieldLaws.{ends_at, goes_on}
use Rattle.class_fields.proofs.fields.add_range.Goals as goal

pub loop-place-preserved : goal.loop-place-preserved
loop-place-preserved c = record {
  low = omega (arith, c.loop-place-test.true, c.min-end.ensures);
  told =
      λ n e.
      goes_on c.args.file c.args.rows.now (map instance_seen c.loop-place.fields.items) (map instance_seen c.add_field.new.fields.items) c.loop-place.place n _ (omega (arith, c.loop-place-test.true, c.min-end.ensures)) c.in_ok-add_field.ensures
      ∙ c.loop-place.invariant.told (suc n) (omega (arith, e));
}

pub returns : goal.returns
returns c =
    let told = map instance_seen c.loop-place.fields.items in
    let place = c.loop-place.place in
    let n = c.args.first + c.args.count - place in
    let left : n + place ≡ c.args.first + c.args.count = omega (arith, c.loop-place.invariant.low) in
    let none = ends_at c.args.file c.args.rows.now place n (λ low. omega (arith, low, c.loop-place-test.false, c.min-end.ensures)) in
    sym (append-nil told) ∙ (ap (λ fs. told ++ fs) (sym none) ∙ c.loop-place.invariant.told n left)
