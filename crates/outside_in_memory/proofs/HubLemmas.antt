-- What a call of the link says of its hub.
use Rattle.std.proofs.Common.{ℕ, ◌+◌, List, refl, ap, arith}
use Rattle.std.specs.Prelude.{min}
use Rattle.mf_types.specs.LinkCalls.{LinkState, HubState, IsSent, IsSentInPart, SendKeeps, FailsToReceive, ReceiveKeeps}
use Rattle.mf_types.specs.Received.{Receives}
use Rattle.outside_in_memory.specs.HubStates.{over_link}
use Rattle.outside_in_memory.specs.declared.memory_hub.Connection.{Connection}
use Rattle.mf_types.specs.declared.link.Got.{Got}
use Rattle.mf_types.specs.declared.link.Got.TheVariants.{Bytes, Silent}

-- the faults of a hub over those of its link
abbrev sum_of : ℕ → ℕ → ℕ
sum_of faults n = min (n + faults) 0xFFFF_FFFF_FFFF_FFFF

send_keeps : (s t : LinkState) (c : Connection) (d : ℕ) (h : HubState) → SendKeeps s t → SendKeeps (over_link s c d h) (over_link t c d h)
send_keeps s t c d h k =
    record { ready = refl; datagrams = refl; telling = k.telling; coming = k.coming; silences = k.silences; answers = k.answers; taken = k.taken; hub = refl }

receive_keeps : (s t : LinkState) (c : Connection) (d : ℕ) (h : HubState) → ReceiveKeeps s t → ReceiveKeeps (over_link s c d h) (over_link t c d h)
receive_keeps s t c d h k =
    record { ready = refl; datagrams = refl; telling = k.telling; sends = k.sends; schedule = k.schedule; hub = refl }

pub hub_sent : (bytes : List ℕ) (s t : LinkState) (c : Connection) (d : ℕ) (h : HubState) → IsSent bytes s t → IsSent bytes (over_link s c d h) (over_link t c d h)
hub_sent bytes s t c d h is =
    record { sends = is.sends; faults = ap (sum_of d) is.faults; schedule = is.schedule; others = send_keeps s t c d h is.others }

pub hub_sent_in_part : (bytes : List ℕ) (s t : LinkState) (c : Connection) (d : ℕ) (h : HubState) → IsSentInPart bytes s t → IsSentInPart bytes (over_link s c d h) (over_link t c d h)
hub_sent_in_part bytes s t c d h is =
    record { sends = is.sends; faults = let f = is.faults in omega arith; schedule = is.schedule; others = send_keeps s t c d h is.others }

pub hub_received : (got : Got) (into : List ℕ) (s t : LinkState) (c : Connection) (d : ℕ) (h : HubState) → Receives got into s t → Receives got into (over_link s c d h) (over_link t c d h)
hub_received (Bytes n) into s t c d h is =
    record {
      some = is.some;
      most = is.most;
      coming = is.coming;
      faults = ap (sum_of d) is.faults;
      silences = is.silences;
      answers = is.answers;
      taken = is.taken;
      others = receive_keeps s t c d h is.others;
    }
hub_received Silent into s t c d h is =
    record {
      coming = is.coming;
      faults = ap (sum_of d) is.faults;
      silences = is.silences;
      answers = is.answers;
      taken = is.taken;
      others = receive_keeps s t c d h is.others;
    }

pub hub_failed : (s t : LinkState) (c : Connection) (d : ℕ) (h : HubState) → FailsToReceive s t → FailsToReceive (over_link s c d h) (over_link t c d h)
hub_failed s t c d h is =
    record {
      coming = is.coming;
      faults = let f = is.faults in omega arith;
      silences = is.silences;
      answers = is.answers;
      taken = is.taken;
      others = receive_keeps s t c d h is.others;
    }
