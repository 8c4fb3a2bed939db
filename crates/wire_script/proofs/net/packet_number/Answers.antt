use Rattle.std.proofs.Common.{◌≤◌, sym, arith}
use Rattle.wire_script.specs.declared.net.TheConstants.{MOST_NUMBER}
use Rattle.wire_script.proofs.Each.{number_up_to-le}
use Rattle.wire_script.proofs.net.packet_number.Goals as goal

pub overflow_cast-result : goal.overflow_cast-result
overflow_cast-result c = let small : c.in-Some.found ≤ MOST_NUMBER = number_up_to-le MOST_NUMBER c.args.word.now c.in-Some.found (sym c.in-Some.ensures) in omega arith
