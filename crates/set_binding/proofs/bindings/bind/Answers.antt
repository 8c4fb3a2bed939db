use Rattle.std.proofs.Common.{◌≡◌, List, Some, length, sym, ap, ◌∙◌, subst}
use Rattle.std.specs.Prelude.{slice_get}
use Rattle.std.proofs.lemmas.List.{length-map}
use Rattle.tiny_rows.specs.Rows.{rows_seen}
use Rattle.set_names.specs.Names.{seen_all}
use Rattle.set_binding.specs.Columns.{AreBound}
use Rattle.set_binding.proofs.ColumnLaws.{bound_names}
use Rattle.set_binding.proofs.bindings.bind.Goals as goal

pub bind_files-requires : goal.bind_files-requires
bind_files-requires c = record { few = c.requires; table = c.in_ok-table.ensures.classes }

pub first_lacking-requires : goal.first_lacking-requires
first_lacking-requires c =
    let ps = seen_all c.args.names.now in
    let bound : AreBound ps c.in_ok-files.files.items = record { count = c.in_ok-files.ensures.count ∙ sym (length-map c.args.names.now rows_seen); each = c.in_ok-files.ensures.each } in
    record { few = c.requires; files = subst (AreBound ps) (sym c.deref.ensures.value) bound }

pub first_circle-requires : goal.first_circle-requires
first_circle-requires c = record { few = c.requires; table = c.in_ok-table.ensures.classes }

pub returns-in-Some-clause-refused : goal.returns-in-Some-clause-refused
returns-in-Some-clause-refused c = sym c.in-Some.ensures

pub returns-in-Some-2-clause-refused : goal.returns-in-Some-2-clause-refused
returns-in-Some-2-clause-refused c = (sym c.in_default.ensures, sym c.in_ok-assembly.ensures ∙ c.in-Some-2.is)

pub returns-clause-bound : goal.returns-clause-bound
returns-clause-bound c =
    let ps = seen_all c.args.names.now in
    bound_names ps c.in_ok-files.files.items (record { count = c.in_ok-files.ensures.count ∙ sym (length-map c.args.names.now rows_seen); each = c.in_ok-files.ensures.each })

pub returns-clause-whole : goal.returns-clause-whole
returns-clause-whole c = (sym c.in_default.ensures, sym c.in_ok-assembly.ensures ∙ c.in_default-2.is)
