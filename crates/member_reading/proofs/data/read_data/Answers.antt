use Rattle.std.proofs.Common.{ap, sym, ◌∙◌}
use Rattle.std.specs.Option.{option_copied, option_map}
use Rattle.member_keys.specs.Seen.{type_seen}
use Rattle.member_reading.proofs.DataLaws.{rva_none}
use Rattle.member_reading.proofs.data.read_data.Goals as goal

pub returns-in_err-row : goal.returns-in_err-row
returns-in_err-row c =
    ap option_copied c.from_residual.ensures
    ∙ sym (rva_none c.args.types.now.names.now c.args.file c.args.n c.tables.result.now (option_map type_seen c.args.of) c.tables.ensures (c.in_err-row.ensures 0))
