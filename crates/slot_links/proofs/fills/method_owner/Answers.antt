use Rattle.std.proofs.Common.{◌∙◌, sym, ap}
use Rattle.std.specs.Option.{option_map}
use Rattle.assemblies.specs.Binding.{id_at}
use Rattle.member_keys.specs.Seen.{class_seen}
use Rattle.class_targets.proofs.RowLaws.{owner_at, owner_is}
use Rattle.slot_links.proofs.OwnLinks.{none_owns}
use Rattle.slot_links.proofs.fills.method_owner.Goals as goal

pub returns-in_err-row : goal.returns-in_err-row
returns-in_err-row c = ap (option_map class_seen) c.from_residual.ensures ∙ sym (none_owns c.args.table.now (class_seen c.args.method) (sym c.in_err-row.ensures))

pub returns-in_err-owner : goal.returns-in_err-owner
returns-in_err-owner c =
    let id = class_seen c.args.method in
    ap (option_map class_seen) c.from_residual-in_err-owner.ensures ∙ sym (owner_is c.args.table.now id c.in_ok-row.row.now (sym c.in_ok-row.ensures) ∙ ap (option_map (id_at id.file)) c.in_err-owner.was)

pub returns : goal.returns
returns c = sym (owner_at c.args.table.now (class_seen c.args.method) c.in_ok-row.row.now (sym c.in_ok-row.ensures) c.in_ok-owner.owner c.in_ok-owner.was)
