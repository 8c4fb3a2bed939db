use Rattle.std.proofs.Common.{◌≡◌, Some, None, sym, ap, ◌∙◌}
use Rattle.std.specs.Prelude.{slice_get}
use Rattle.std.proofs.lemmas.Option.{slice_get_past}
use Rattle.machine.specs.Throw.{on_some}
use Rattle.scope_walk.specs.Walk.{value_at}
use Rattle.scope_walk.proofs.Lists.{stands_at}
use Rattle.set_binding.specs.declared.tables.FileBindings.{FileBindings}
use Rattle.set_binding.specs.Tables.{number_of}
use Rattle.set_binding.specs.Columns.{column_at}
use Rattle.set_binding.proofs.bindings.Bindings.resolved.Goals as goal

pub returns-in-Some : goal.returns-in-Some
returns-in-Some c =
    let look = c.in-Some.ensures.lookup in
    let there : slice_get c.args.self.now.files.items c.args.assembly ≡ Some c.in-Some.bound.now = stands_at c.deref.result.now c.args.self.now.files.items c.args.assembly c.in-Some.bound.now c.deref.ensures.value look.3.0 look.1 in
    c.resolved.ensures
    ∙ sym (ap (λ o. on_some o (λ (b : FileBindings). value_at (column_at b (number_of c.args.table)) c.args.row)) there)

pub returns-in-None : goal.returns-in-None
returns-in-None c =
    let gone : slice_get c.args.self.now.files.items c.args.assembly ≡ None = ap (λ xs. slice_get xs c.args.assembly) (sym c.deref.ensures.value) ∙ slice_get_past c.deref.result.now c.args.assembly c.in-None.ensures.lookup.3 in
    sym (ap (λ o. on_some o (λ (b : FileBindings). value_at (column_at b (number_of c.args.table)) c.args.row)) gone)
