use Rattle.std.proofs.Common.{◌≡◌, ℕ, ◌+◌, Some, length, sym, ap, ◌∙◌, subst}
use Rattle.std.specs.Prelude.{slice_get}
use Rattle.scope_walk.proofs.Lists.{longer}
use Rattle.set_names.specs.Names.{seen_all}
use Rattle.set_binding.specs.declared.tables.FileBindings.{FileBindings}
use Rattle.set_binding.specs.Columns.{IsBoundFile}
use Rattle.set_binding.proofs.ColumnLaws.{none_bound, bound_more}
use Rattle.set_binding.proofs.file.bind_files.Goals as goal

pub loop-file-init : goal.loop-file-init
loop-file-init c = record { size = ap length c.new-files.ensures.items; each = none_bound (seen_all c.args.names.now) c.new-files.result.items c.new-files.ensures.items }

pub bind_file-requires-clause-members : goal.bind_file-requires-clause-members
bind_file-requires-clause-members c = c.in_ok-members.ensures (seen_all c.args.names.now) c.requires.table

pub loop-file-preserved : goal.loop-file-preserved
loop-file-preserved c =
    let ps = seen_all c.args.names.now in
    let pushed = c.in_ok-push.ensures.items in
    let added = c.in_ok-bind_file.field-0 in
    record {
      size = ap length pushed ∙ longer c.loop-file.files.items added ∙ ap (λ k. k + 1) c.loop-file.invariant.size;
      each =
          subst (λ fs. (file : ℕ) (b : FileBindings) → slice_get fs file ≡ Some b → IsBoundFile ps file b) (sym pushed)
          (bound_more ps c.loop-file.files.items added c.loop-file.invariant.each (subst (λ k. IsBoundFile ps k added) (sym c.loop-file.invariant.size) c.in_ok-bind_file.ensures));
    }

pub returns-clause-each : goal.returns-clause-each
returns-clause-each c = c.loop-file.invariant.each
