use Rattle.wire_session.proofs.Sessions.{turns_left}
use Rattle.wire_session.proofs.laws.eight_turns.Goals as goal

pub returns : goal.returns
returns c asking command payload n = turns_left asking command payload n
