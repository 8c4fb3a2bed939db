use Rattle.std.proofs.Common.{length, sym, ap, ◌∙◌, ◌+◌, subst}
use Rattle.type_names.proofs.Resolving.{longer}
use Rattle.cil_world.specs.Members.{IsMembers, AreMembers}
use Rattle.cil_world.proofs.FileLaws.{members_more}
use Rattle.cil_world.proofs.table.read_members.Goals as goal

pub loop-file-preserved : goal.loop-file-preserved
loop-file-preserved c =
    let files = c.args.types.now.names.now in
    let pushed = c.in_ok-push.ensures.items in
    let added = c.in_ok-read_file.field-0 in
    record {
      size = ap length pushed ∙ longer c.loop-file.all.items added ∙ ap (λ k. k + 1) c.loop-file.invariant.size;
      members =
          subst (AreMembers files) (sym pushed)
          (members_more files c.loop-file.all.items added c.loop-file.invariant.members (subst (λ k. IsMembers files k added) (sym c.loop-file.invariant.size) c.in_ok-read_file.ensures));
    }
