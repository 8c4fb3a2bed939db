use Rattle.std.proofs.Common.{◌∙◌, sym}
use Rattle.member_keys.specs.Seen.{class_seen}
use Rattle.class_queries.proofs.BelowLaws.{known_told}
use Rattle.class_queries.proofs.below.is_below.Goals as goal

pub returns-in-Some : goal.returns-in-Some
returns-in-Some c = sym (known_told c.args.table.now (class_seen c.args.other) c.args.known.now c.requires.below (class_seen c.args.class) c.in-Some.answer (sym c.known_at.ensures ∙ c.in-Some.is))
