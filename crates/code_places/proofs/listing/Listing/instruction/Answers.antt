use Rattle.std.proofs.Common.{sym, ap, ◌∙◌}
use Rattle.cil_code.specs.Bodies.{BodyPart}
use Rattle.code_places.proofs.WalkLaws.{no_fault_at}
use Rattle.code_places.proofs.listing.Listing.instruction.Goals as goal

pub unreachable-requires : goal.unreachable-requires
unreachable-requires c =
    no_fault_at c.args.self.now.code c.code.result.now c.args.at c.in-Err.field-0 c.requires (c.code.ensures ∙ ap (λ (b : BodyPart). b.code) c.self.view_is) (sym c.in-Err.ensures.exact)
