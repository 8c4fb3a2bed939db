use Rattle.std.proofs.Common.{◌≡◌, ◌+◌, ◌<◌, ◌≤◌, ap, ◌∙◌, arith}
use Rattle.file_tables.specs.Metadata.{row_count}
use Rattle.world_rows.specs.Tokens.{member_refs}
use Rattle.kept_marks.specs.Masks.{masks_of}
use Rattle.image_numbers.proofs.ReferenceLaws.{fields_before, few_fields, counted_more, number_is, numbers_more}
use Rattle.image_numbers.proofs.members.reference_numbers.Goals as goal

pub loop-n-preserved : goal.loop-n-preserved
loop-n-preserved c =
    let m = c.args.tables.now in
    let kept = masks_of c.args.choice.now in
    let n = c.loop-n.n in
    let within : n < row_count m member_refs = omega arith in
    let all : n + 1 ≤ row_count m member_refs = omega (arith, within) in
    let next : c.loop-n.fields + c.from-fields.result ≡ fields_before m (n + 1) =
    ap (λ k. c.loop-n.fields + k) c.from-fields.ensures ∙ counted_more m n c.loop-n.fields c.is_field_reference-is_field.result within c.is_field_reference-is_field.ensures c.loop-n.invariant.counted in
    record {
      counted = next;
      few = few_fields m (n + 1) (c.loop-n.fields + c.from-fields.result) all next;
      made = numbers_more m kept c.loop-n.numbers.items _ n c.reference_number.result c.loop-n.invariant.made c.in_ok-push.ensures.items
          (c.reference_number.ensures ∙ number_is m kept n c.loop-n.fields c.is_field_reference-is_field.result within c.is_field_reference-is_field.ensures c.loop-n.invariant.counted);
    }
