use Rattle.std.proofs.Common.{sym, ◌∙◌}
use Rattle.std.specs.Option.{option_map}
use Rattle.member_keys.specs.Seen.{class_seen}
use Rattle.method_facts.proofs.ClassLaws.{flagged}
use Rattle.method_facts.proofs.method.flags_of.Goals as goal

pub returns : goal.returns
returns c = flagged c.args.table.now (option_map class_seen c.args.array) (class_seen c.args.class) c.in_ok-row.row.now c.class_flags.result (sym c.in_ok-row.ensures) (c.class_flags.ensures.is_unmade ∙ c.is_unmade.ensures) c.class_flags.ensures.is_interface
