use Rattle.std.proofs.Common.{◌≡◌, ◌+◌, ◌<◌, ◌^◌, length, sym, ap, ◌∙◌, subst, arith}
use Rattle.std.specs.Prelude.{slice_get, slice_index, unwrap_or}
use Rattle.std.specs.Option.{option_map}
use Rattle.machine.specs.Throw.{on_some}
use Rattle.assemblies.specs.Rows.{Assembly}
use Rattle.assemblies.specs.Binding.{id_at}
use Rattle.member_keys.specs.Seen.{class_seen}
use Rattle.scope_walk.proofs.Lists.{longer}
use Rattle.tiny_rows.specs.Rows.{rows_seen}
use Rattle.set_names.specs.Names.{seen_all}
use Rattle.set_table.proofs.SubjectLaws.{image_there}
use Rattle.board_model.specs.Bound.{row_counts, rows_at, named}
use Rattle.set_binding.proofs.ColumnLaws.{StandNamed, none_named, named_more, all_named, assemblies_past}
use Rattle.set_binding.proofs.file.bind_assemblies.Goals as goal

pub loop-n-init : goal.loop-n-init
loop-n-init c = record { size = ap length c.new-found.ensures.items; so = none_named (named (seen_all c.args.names.now) c.args.file 0) c.new-found.result.items }

pub loop-n-preserved : goal.loop-n-preserved
loop-n-preserved c =
    let thing = named (seen_all c.args.names.now) c.args.file 0 in
    let pushed = c.in_ok-push.ensures.items in
    let added = c.assembly_at.result in
    let is : option_map class_seen added ≡ thing c.loop-n.n =
    c.assembly_at.ensures
    ∙ ap (λ xs. option_map (λ f. id_at f 0) (on_some (slice_get xs c.loop-n.n) (λ o. o))) c.deref.ensures.value
    ∙ ap (option_map (λ f. id_at f 0)) (c.in_ok-assemblies.ensures.each c.loop-n.n) in
    record {
      size = ap length pushed ∙ longer c.loop-n.found.items added ∙ ap (λ k. k + 1) c.loop-n.invariant.size;
      so = subst (λ xs. StandNamed thing xs (c.loop-n.n + 1)) (sym pushed) (named_more thing c.loop-n.found.items c.loop-n.n added c.loop-n.invariant.size is c.loop-n.invariant.so);
    }

pub returns : goal.returns
returns c =
    let ps = seen_all c.args.names.now in
    let rows : rows_at ps c.args.file 0 ≡ length (rows_seen c.args.image.now).assemblies =
    ap (λ o. unwrap_or (option_map (λ (p : Assembly). slice_index (row_counts p) 0) o) 0) (image_there c.args.names.now c.args.file c.args.image.now (sym c.requires)) in
    let size : length c.loop-n.found.items ≡ rows_at ps c.args.file 0 = omega (arith, rows, c.loop-n.invariant.size, c.loop-n-test.false, c.loop-n.auto.n-end, c.assembly_ref_count-n-end.ensures) in
    let few : length c.loop-n.found.items < 2 ^ 32 = omega (arith, c.loop-n.invariant.size, c.loop-n.auto.n-end, c.assembly_ref_count-n-end.type_inv) in
    all_named ps c.args.file 0 c.loop-n.found.items size few (λ n past. assemblies_past ps c.args.file n past)
    (subst (StandNamed (named ps c.args.file 0) c.loop-n.found.items) (sym c.loop-n.invariant.size) c.loop-n.invariant.so)
