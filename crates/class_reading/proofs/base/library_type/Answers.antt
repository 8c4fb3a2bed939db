use Rattle.std.proofs.Common.{sym, ap, ◌∙◌, arith}
use Rattle.std.specs.Option.{option_map}
use Rattle.assemblies.specs.Binding.{id_at}
use Rattle.member_keys.specs.Seen.{class_seen}
use Rattle.class_reading.proofs.LibraryLaws.{library_within, in_library}
use Rattle.class_reading.proofs.base.library_type.Goals as goal

pub overflow_cast-file : goal.overflow_cast-file
overflow_cast-file c =
    let low = library_within c.args.names.now c.in_ok-file.file (sym c.requires ∙ c.in_ok-file.was) in
    omega (arith, low, c.files-most.ensures.count)

pub tables-requires : goal.tables-requires
tables-requires c = library_within c.args.names.now c.in_ok-file.file (sym c.requires ∙ c.in_ok-file.was)

pub returns-in_err-row : goal.returns-in_err-row
returns-in_err-row c =
    ap (option_map class_seen) c.from_residual-in_err-row.ensures
    ∙ sym
    (in_library c.args.names.now c.in_ok-file.file c.tables.result.now c.tables.ensures c.args.name.now (sym c.requires ∙ c.in_ok-file.was)
    ∙ ap (option_map (id_at c.in_ok-file.file)) (sym c.find_system.ensures ∙ c.in_err-row.was))

pub returns : goal.returns
returns c =
    sym
    (in_library c.args.names.now c.in_ok-file.file c.tables.result.now c.tables.ensures c.args.name.now (sym c.requires ∙ c.in_ok-file.was)
    ∙ ap (option_map (id_at c.in_ok-file.file)) (sym c.find_system.ensures ∙ c.in_ok-row.was))
