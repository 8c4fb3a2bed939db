use Rattle.std.proofs.Common.{◌≡◌, ◌+◌, ◌<◌, ◌^◌, length, sym, ap, ◌∙◌, subst, arith}
use Rattle.std.specs.Prelude.{slice_index, unwrap_or}
use Rattle.std.specs.Option.{option_map}
use Rattle.assemblies.specs.Rows.{Assembly}
use Rattle.scope_walk.proofs.Lists.{longer}
use Rattle.tiny_rows.specs.Rows.{rows_seen}
use Rattle.set_names.specs.Names.{seen_all}
use Rattle.board_model.specs.Bound.{row_counts, rows_at, named}
use Rattle.set_binding.proofs.ColumnLaws.{StandNamed, none_named, named_more, all_named, fields_past}
use Rattle.set_binding.proofs.members.resolve_fields.Goals as goal

pub loop-n-init : goal.loop-n-init
loop-n-init c =
    let s = c.args.subject.now in
    record { size = ap length c.new-found.ensures.items; so = none_named (named (seen_all s.names.now) s.tokens.file 2) c.new-found.result.items }

pub loop-n-preserved : goal.loop-n-preserved
loop-n-preserved c =
    let s = c.args.subject.now in
    let thing = named (seen_all s.names.now) s.tokens.file 2 in
    let pushed = c.in_ok-push.ensures.items in
    let added = c.find_field.result in
    record {
      size = ap length pushed ∙ longer c.loop-n.found.items added ∙ ap (λ k. k + 1) c.loop-n.invariant.size;
      so =
          subst (λ xs. StandNamed thing xs (c.loop-n.n + 1)) (sym pushed)
          (named_more thing c.loop-n.found.items c.loop-n.n added c.loop-n.invariant.size (c.find_field.ensures ∙ ap thing c.from.ensures) c.loop-n.invariant.so);
    }

pub returns : goal.returns
returns c =
    let s = c.args.subject.now in
    let ps = seen_all s.names.now in
    let rows : rows_at ps s.tokens.file 2 ≡ length (rows_seen s.image.now).field_refs = ap (λ o. unwrap_or (option_map (λ (p : Assembly). slice_index (row_counts p) 2) o) 0) c.requires.subject.here in
    let size : length c.loop-n.found.items ≡ rows_at ps s.tokens.file 2 = omega (arith, rows, c.loop-n.invariant.size, c.loop-n-test.false, c.loop-n.auto.n-end, c.field_ref_count-n-end.ensures) in
    let few : length c.loop-n.found.items < 2 ^ 32 = omega (arith, c.loop-n.invariant.size, c.loop-n.auto.n-end, c.field_ref_count-n-end.type_inv) in
    all_named ps s.tokens.file 2 c.loop-n.found.items size few (λ n past. fields_past ps s.tokens.file n past)
    (subst (StandNamed (named ps s.tokens.file 2) c.loop-n.found.items) (sym c.loop-n.invariant.size) c.loop-n.invariant.so)
