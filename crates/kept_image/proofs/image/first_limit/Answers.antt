use Rattle.std.proofs.Common.{◌≡◌, None}
use Rattle.std.specs.Option.{option_or}
use Rattle.msspot_write.specs.Parts.{over_of_parts}
use Rattle.converted.specs.Over.{over_distances, over_switches}
use Rattle.kept_image.proofs.AnswerLaws.{later}
use Rattle.kept_image.proofs.image.first_limit.Goals as goal

pub returns-in-Ok-None : goal.returns-in-Ok-None
returns-in-Ok-None c codes long same past =
    let none : over_of_parts c.args.parts.now codes ≡ None = cc (c.in-Ok-None.ensures codes same, c.in-Ok-None.field-0-is) in
    later c.codes_limit.result c.args.file (over_of_parts c.args.parts.now codes) (option_or (over_distances c.args.file long) (over_switches c.args.file long)) none (c.codes_limit.ensures long past)
