use Rattle.std.proofs.Common.{Some, None, map, arith}
use Rattle.std.proofs.lemmas.List.{length-map}
use Rattle.cil_opcodes.specs.declared.shape.IntegerType.TheVariants.{U2}
use Rattle.machine.specs.Data.{Bits}
use Rattle.machine.specs.Natives.{or_empty}
use Rattle.tiny_native.specs.Seen.{unit_place, text_entry}
use Rattle.tiny_native.proofs.Copying.{copied_none}
use Rattle.tiny_native.proofs.Concat.{units_kind}
use Rattle.tiny_native.proofs.pieces.put_text.Goals as goal

pub returns-then-text-gt0 : goal.returns-then-text-gt0
returns-then-text-gt0 c m e None keeps he p t room = absurd (omega (arith, c.if-text-gt0.true, t.1))
returns-then-text-gt0 c m e (Some units) keeps he p t room =
    c.copy.ensures m (text_entry units) e (Bits U2) keeps t.2 he p (omega (arith, t.1, length-map units unit_place)) room (units_kind units 0 c.args.text.count (omega (arith, t.1)))

pub returns-else-text-gt0 : goal.returns-else-text-gt0
returns-else-text-gt0 c m e a keeps he p t room =
    copied_none c.args.ram.now m c.args.thing e (Bits U2) (map unit_place (or_empty a)) 0 c.args.index 0 c.args.text.count keeps he (omega (arith, c.if-text-gt0.false))
