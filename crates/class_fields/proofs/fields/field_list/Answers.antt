use Rattle.std.proofs.Common.{◌≡◌, ◌∙◌, ap, arith, drop, map}
use Rattle.member_keys.specs.Seen.{class_seen}
use Rattle.class_table.specs.Seen.{classes_seen}
use Rattle.class_fields.proofs.FieldLaws.{by_chain, fields_up}
use Rattle.class_fields.proofs.fields.field_list.Goals as goal

pub returns : goal.returns
returns c =
    let cs = classes_seen c.args.table.now in
    let none : c.loop-place.place ≡ 0 = omega (arith, c.loop-place-test.false) in
    c.loop-place.invariant
    ∙ (ap (λ n. fields_up cs (map class_seen (drop n c.in_ok-classes.classes.items))) none
    ∙ (ap (fields_up cs) c.in_ok-classes.ensures
    ∙ by_chain cs cs.size (class_seen c.args.class)))
