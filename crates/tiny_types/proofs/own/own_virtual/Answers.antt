use Rattle.std.proofs.Common.{◌∙◌, List, sym, ap, arith}
use Rattle.std.specs.List.{find}
use Rattle.std.specs.Option.{option_map}
use Rattle.std.proofs.lemmas.Option.{slice_get_within}
use Rattle.assemblies.specs.Binding.{numbered, range}
use Rattle.classes.specs.Classes.{OwnMethod}
use Rattle.classes.specs.Queries.{is_virtual_named}
use Rattle.member_keys.specs.Seen.{class_seen}
use Rattle.class_table.specs.declared.rows.MethodRow.{MethodRow}
use Rattle.class_table.specs.Seen.{method_seen}
use Rattle.class_targets.specs.Virtual.{slot_of}
use Rattle.tiny_types.specs.Named.{slot_seen}
use Rattle.tiny_types.proofs.OwnLaws.{no_class, no_file, in_class}
use Rattle.tiny_types.proofs.own.own_virtual.Goals as goal

pub returns-in_err-row : goal.returns-in_err-row
returns-in_err-row c =
    λ m is.
    ap (option_map slot_seen) c.from_residual.ensures
    ∙ sym (ap (λ (xs : List OwnMethod). option_map slot_of (find (is_virtual_named m) xs)) (no_class c.args.table.now (class_seen c.args.class) (sym c.in_err-row.ensures)))

pub returns-in_err-file : goal.returns-in_err-file
returns-in_err-file c =
    λ m is.
    ap (option_map slot_seen) c.from_residual-in_err-file.ensures
    ∙ sym (ap (λ (xs : List OwnMethod). option_map slot_of (find (is_virtual_named m) xs)) (no_file c.args.table.now (class_seen c.args.class) (sym c.in_err-file.ensures)))

pub first_wanted-requires-clause-file : goal.first_wanted-requires-clause-file
first_wanted-requires-clause-file c =
    let inside = slice_get_within c.args.table.now.files.items c.args.class.file c.in_ok-file.file.now (sym c.in_ok-file.ensures) in
    omega (arith, inside, c.requires.files)

pub first_wanted-requires-clause-rows : goal.first_wanted-requires-clause-rows
first_wanted-requires-clause-rows c =
    let few = (c.requires.each c.args.class.file c.in_ok-file.file.now (sym c.in_ok-file.ensures)).methods in
    omega (arith, few, c.deref.ensures.len)

pub returns : goal.returns
returns c =
    λ m is.
    let row = c.in_ok-row.row.now in
    let file = c.in_ok-file.file.now in
    c.first_wanted.ensures m is
    ∙ ap (λ (xs : List MethodRow). option_map slot_of (find (is_virtual_named m) (numbered (method_seen c.args.class.file) row.first_method (range row.first_method row.method_count xs)))) c.deref.ensures.value
    ∙ sym (ap (λ (xs : List OwnMethod). option_map slot_of (find (is_virtual_named m) xs)) (in_class c.args.table.now (class_seen c.args.class) file row (sym c.in_ok-file.ensures) (sym c.in_ok-row.ensures)))
