use Rattle.std.proofs.Common.{length, sym, ap, ◌∙◌, ◌+◌, subst}
use Rattle.scope_walk.proofs.Lists.{longer}
use Rattle.set_names.specs.Names.{seen_all}
use Rattle.set_table.specs.Whole.{IsSetFile, AreFiles}
use Rattle.set_table.proofs.TableLaws.{files_more}
use Rattle.set_table.proofs.table.read_files.Goals as goal

pub loop-file-preserved : goal.loop-file-preserved
loop-file-preserved c =
    let ps = seen_all c.args.names.now in
    let pushed = c.in_ok-push.ensures.items in
    let added = c.in_ok-read_file.field-0 in
    record {
      size = ap length pushed ∙ longer c.loop-file.files.items added ∙ ap (λ k. k + 1) c.loop-file.invariant.size;
      files =
          subst (AreFiles ps) (sym pushed)
          (files_more ps c.loop-file.files.items added c.loop-file.invariant.files (subst (λ k. IsSetFile ps k added) (sym c.loop-file.invariant.size) c.in_ok-read_file.ensures));
    }
