use Rattle.std.proofs.Common.{◌+◌, ◌<◌, length, sym, ap, ◌∙◌, arith}
use Rattle.class_checks.specs.declared.values.Instances.{Instances}
use Rattle.class_checks.specs.Fields.{last_signature}
use Rattle.class_checks.proofs.FieldLaws.{one_more, now_last, no_more}
use Rattle.class_checks.proofs.values.find_instances.Goals as goal
use Rattle.class_checks.proofs.values.find_instances.Goals.{then-is_instance, else-is_instance}

pub loop-field-preserved : goal.loop-field-preserved
loop-field-preserved c =
    let within : c.loop-field.field-index < length c.args.fields.now = omega arith in
    elim c.if-is_instance.branch [
      | then-is_instance w ↦
          (let it = sym c.is_instance.ensures ∙ w.if-is_instance.true in
          let count = ap (λ (x : Instances). x.count) w.found-is in
          record {
            count = count ∙ ap (λ n. n + 1) c.loop-field.invariant.count ∙ sym (one_more c.args.fields.now c.loop-field.field-index _ within it);
            last = ap (λ (x : Instances). x.last) w.found-is ∙ sym (now_last c.args.fields.now c.loop-field.field-index _ within it);
            few = omega (arith, count, c.loop-field.invariant.few);
          })
      | else-is_instance w ↦
          (let it = sym c.is_instance.ensures ∙ w.if-is_instance.false in
          let count = ap (λ (x : Instances). x.count) w.found-is in
          record {
            count = count ∙ c.loop-field.invariant.count ∙ sym (ap length (no_more c.args.fields.now c.loop-field.field-index _ within it));
            last = ap (λ (x : Instances). x.last) w.found-is ∙ c.loop-field.invariant.last ∙ sym (ap last_signature (no_more c.args.fields.now c.loop-field.field-index _ within it));
            few = omega (arith, count, c.loop-field.invariant.few);
          })
    ]
