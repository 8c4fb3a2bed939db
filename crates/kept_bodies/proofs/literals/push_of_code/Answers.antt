use Rattle.std.proofs.Common.{◌++◌, List, sym, ap, ◌∙◌}
use Rattle.cil_code.specs.Walk.{instructions_of}
use Rattle.code_shrink.specs.Starts.{way}
use Rattle.msspot_write.specs.declared.parts.PartLiteral.{PartLiteral}
use Rattle.msspot_write.specs.Spelt.{operand_parts}
use Rattle.kept_bodies.specs.Literals.{loaded_by, literals_of}
use Rattle.kept_bodies.proofs.LiteralLaws.{loaded_on, faulty_end, code_end}
use Rattle.kept_bodies.proofs.literals.push_of_code.Goals as goal

pub returns-in_default : goal.returns-in_default
returns-in_default c =
    let whole : List PartLiteral = c.args.out.now.items ++ literals_of c.args.tables.now c.args.method (way c.args.places.now) (instructions_of c.args.code.now) in
    faulty_end c.args.tables.now c.args.method (way c.args.places.now) c.args.code.now c.walk.at c.walk.out.items whole c.walk.invariant.rest c.in_default.field-0 c.walk-test.true (sym c.instruction.ensures.exact ∙ c.in_default.is)

pub walk-preserved : goal.walk-preserved
walk-preserved c =
    let whole : List PartLiteral = c.args.out.now.items ++ literals_of c.args.tables.now c.args.method (way c.args.places.now) (instructions_of c.args.code.now) in
    record {
      inside = c.in-Ok.ensures.inside;
      rest =
          loaded_on c.args.tables.now c.args.method (way c.args.places.now) c.args.code.now c.walk.at c.walk.out.items whole c.walk.invariant.rest c.in-Ok.instr c.push_loaded.new.out.items (sym c.instruction.ensures.exact ∙ c.in-Ok.is)
          (c.in_ok-push_loaded.ensures {u = tt} ∙ ap (λ k. c.walk.out.items ++ operand_parts c.args.method k (loaded_by c.args.tables.now c.in-Ok.instr)) c.short.ensures);
    }

pub returns : goal.returns
returns c =
    let whole : List PartLiteral = c.args.out.now.items ++ literals_of c.args.tables.now c.args.method (way c.args.places.now) (instructions_of c.args.code.now) in
    code_end c.args.tables.now c.args.method (way c.args.places.now) c.args.code.now c.walk.at c.walk.out.items whole c.walk.invariant.rest c.walk-test.false
