use Rattle.std.proofs.Common.{arith}
use Rattle.tool_session.proofs.TextLaws.{four_bytes}
use Rattle.tool_session.proofs.tool.text_length.Goals as goal

pub returns : goal.returns
returns c = omega (arith, four_bytes 14 c.args.end.now)
