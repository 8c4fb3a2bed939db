-- What is known of a hub in memory.
use Rattle.std.specs.Prelude.{ℕ, ◌+◌, min, Bool, true, false, Some, if◌then◌else◌}
use Rattle.mf_types.specs.LinkCalls as calls
use Rattle.mf_types.specs.LinkCalls.{LinkState, HubState, Role}
use Rattle.outside_in_memory.specs.LinkStates.{link_of}
use Rattle.outside_in_memory.specs.Schedules.{schedule_of}
use Rattle.outside_in_memory.specs.declared.memory_hub.Kind.{Kind}
use Rattle.outside_in_memory.specs.declared.memory_hub.Kind.TheVariants as kinds
use Rattle.outside_in_memory.specs.declared.memory_hub.Connection.{Connection}
use Rattle.outside_in_memory.specs.declared.memory_hub.Connection.TheVariants as connections
use Rattle.outside_in_memory.specs.declared.memory_hub.MemoryHub.{MemoryHub}

abbrev pub role_of : Kind → ℕ → Role
role_of kinds.Unused port = calls.Unused
role_of kinds.Starter port = calls.Starter port
role_of (kinds.Listener asked begun) port = calls.Listener asked (if begun then port else 0)

abbrev pub hub_of : MemoryHub → HubState
hub_of h = record { role = role_of h.kind h.port; start_faults = h.start_faults; schedule = Some (schedule_of h.calls 0) }

abbrev pub is_ready : Connection → Bool
is_ready connections.None = false
is_ready connections.Bytes = true
is_ready connections.Datagrams = true

abbrev pub has_datagrams : Connection → Bool
has_datagrams connections.None = false
has_datagrams connections.Bytes = false
has_datagrams connections.Datagrams = true

-- the link of the newest connection; its faults are those of the link and of the calls that begin connections
abbrev pub over_link : LinkState → Connection → ℕ → HubState → LinkState
over_link s connection faults hub =
    record {
      ready = is_ready connection;
      datagrams = has_datagrams connection;
      tells = s.tells;
      sends = s.sends;
      coming = s.coming;
      faults = min (s.faults + faults) 0xFFFF_FFFF_FFFF_FFFF;
      silences = s.silences;
      answers = s.answers;
      taken = s.taken;
      schedule = s.schedule;
      hub = hub;
    }

abbrev pub hub_link : MemoryHub → LinkState
hub_link h = over_link (link_of h.link) h.connection h.dial_faults (hub_of h)
