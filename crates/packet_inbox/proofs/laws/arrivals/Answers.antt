use Rattle.std.proofs.Common.{[]}
use Rattle.packet_inbox.proofs.Steps.{arrived_none, arrived_joined, arrived_silent, arrived_failed, arrived_sent, received_is}
use Rattle.packet_inbox.proofs.laws.arrivals.Goals as goal

pub returns : goal.returns
returns c =
    record {
      joined = arrived_joined;
      nothing = arrived_none;
      silent = λ old new. arrived_silent [] old old new (arrived_none old);
      failed = λ old new. arrived_failed [] old old new (arrived_none old);
      sent = λ old new. arrived_sent [] old old new (arrived_none old);
      told = received_is;
    }
