use Rattle.std.proofs.Common.{◌≡◌, ◌∙◌, ◌++◌, List, map, sym, ap, subst}
use Rattle.std.specs.Prelude.{OnOk}
use Rattle.std.specs.List.{filter}
use Rattle.std.specs.Option.{option_copied}
use Rattle.std.proofs.lemmas.List.{append-nil}
use Rattle.classes.specs.Classes.{OwnField}
use Rattle.classes.specs.Queries.{is_instance}
use Rattle.assemblies.specs.Binding.{numbered, range}
use Rattle.member_keys.specs.Seen.{class_seen}
use Rattle.class_table.specs.declared.rows.FieldRow.{FieldRow}
use Rattle.class_table.specs.Seen.{field_seen}
use Rattle.class_fields.specs.Fields.{instance_seen}
use Rattle.class_fields.proofs.FieldLaws.{no_file, no_class, in_class}
use Rattle.class_fields.proofs.fields.add_own.Goals as goal

pub returns-in-None : goal.returns-in-None
returns-in-None c =
    let old = map instance_seen c.args.fields.now.items in
    let gone = no_file c.args.table.now (class_seen c.args.class) (sym c.find_file.ensures ∙ ap option_copied c.in-None.is) in
    sym (append-nil old) ∙ ap (λ fs. old ++ fs) (sym gone)

pub returns-in-None-found : goal.returns-in-None-found
returns-in-None-found c =
    let old = map instance_seen c.args.fields.now.items in
    let here = sym c.find_file.ensures ∙ ap option_copied c.in-Some.is in
    let gone = no_class c.args.table.now (class_seen c.args.class) c.in-Some.file.now here (option_copied c.find_class-found.result) c.find_class-found.ensures (ap option_copied c.in-None-found.is) in
    sym (append-nil old) ∙ ap (λ fs. old ++ fs) (sym gone)

pub returns-in-Some-found : goal.returns-in-Some-found
returns-in-Some-found c =
    let here = sym c.find_file.ensures ∙ ap option_copied c.in-Some.is in
    let there = in_class c.args.table.now (class_seen c.args.class) c.in-Some.file.now here (option_copied c.find_class-found.result) c.find_class-found.ensures c.in-Some-found.row.now (ap option_copied c.in-Some-found.is) in
    let row = c.in-Some-found.row.now in
    let items = ap (λ (xs : List FieldRow). filter is_instance (numbered (field_seen c.args.class.file) row.first_field (range row.first_field row.field_count xs))) c.deref.ensures.value in
    let P : List OwnField → Type 0 = λ fs. OnOk c.add_range.result (map instance_seen c.add_range.new.fields.items ≡ map instance_seen c.args.fields.now.items ++ fs) in
    subst P (items ∙ sym there) c.add_range.ensures
