-- What is known of a link in memory.
use Rattle.std.specs.Prelude.{true, false, Some}
use Rattle.mf_types.specs.LinkCalls.{LinkState, no_hub}
use Rattle.outside_in_memory.specs.Schedules.{schedule_of}
use Rattle.outside_in_memory.specs.SendLog.{sends_of}
use Rattle.outside_in_memory.specs.declared.memory_link.MemoryLink.{MemoryLink}

abbrev pub link_of : MemoryLink → LinkState
link_of l =
    record {
      ready = true;
      datagrams = false;
      tells = true;
      sends = sends_of l.log.entries.items l.log.bytes.items;
      coming = l.coming;
      faults = l.faults;
      silences = l.silences;
      answers = l.answers;
      taken = l.taken;
      schedule = Some (schedule_of l.calls l.log.spare);
      hub = no_hub;
    }
