use Rattle.std.proofs.Common.{◌≡◌, ◌+◌, ◌<◌, [], ◌∷◌, ◌++◌, map, sym, ap, ◌∙◌, arith}
use Rattle.std.specs.List.{range_with_len}
use Rattle.std.proofs.lemmas.List.FromFn.{map-range_with_len_more}
use Rattle.file_tables.specs.Metadata.{row_count}
use Rattle.world_rows.specs.Tokens.{member_refs}
use Rattle.body_rules.specs.References.{fields_before}
use Rattle.body_rules.proofs.RefLaws.{counted_more, apart}
use Rattle.body_rules.proofs.references.count_fields.Goals as goal

pub loop-n-preserved : goal.loop-n-preserved
loop-n-preserved c =
    let m = c.args.tables.now in
    let n = c.loop-n.n in
    let within : n < row_count m member_refs = omega arith in
    let next : c.loop-n.count + c.from-count.result ≡ fields_before m (n + 1) =
    ap (λ k. k + c.from-count.result) c.loop-n.invariant.counted ∙ ap (λ k. fields_before m n + k) c.from-count.ensures ∙ sym (counted_more m n c.is_field_reference.result within (sym c.is_field_reference.ensures)) in
    let same : 0 + (n + 1) ≡ n + 1 = omega arith in
    record {
      counted = next;
      few = omega (arith, next, apart m (n + 1) (omega (arith, within)));
      made = c.in_ok-push.ensures.items ∙ ap (λ xs. xs ++ (c.loop-n.count + c.from-count.result) ∷ []) c.loop-n.invariant.made
          ∙ ap (λ k. map (fields_before m) (range_with_len 0 (n + 1)) ++ k ∷ []) next
          ∙ sym (map-range_with_len_more (fields_before m) 0 (n + 1) (n + 1) same);
    }
