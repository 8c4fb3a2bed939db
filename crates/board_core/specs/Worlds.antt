-- What a board makes of a packet, as the world tells it.
use Rattle.std.specs.Prelude.{◌≡◌, ℕ, ◌==◌, ◌||◌, Bool, true, false, List, [], Option, Some, None, slice_index}
use Rattle.flash_trait.specs.Flash.{Operation, IsStopped}
use Rattle.flash_trait.specs.FlashCalls.{FlashState, Completes, AtEachMoment}
use Rattle.wire_packets.specs.declared.packet.Packet.{Packet}
use Rattle.wire_packets.specs.declared.command.TheConstants.{FLASH_FAILED, NO_MEMORY}
use Rattle.wire_session.specs.Answering.{nothing_done}
use Rattle.deploy_model.specs.Board.{Outcome, Works, Fails, LacksMemory, operation_asked}
use Rattle.deploy_model.specs.Tool.{Tool}
use Rattle.deploy_model.specs.World.{World}
use Rattle.board_core.specs.Handling.{CoreState}

-- a world with this board and this content
abbrev pub world_of : CoreState → List ℕ → Tool → List Packet → List Packet → List ℕ → World
world_of core content tool requests replies start =
    record { content = content; on = true; board = core.board; text = core.text; tool = tool; requests = requests; replies = replies; start = start }

-- a world whose power stopped and left this content
abbrev pub dark_world : List ℕ → Tool → List Packet → List Packet → List ℕ → World
dark_world content tool requests replies start =
    record { content = content; on = false; board = nothing_done; text = []; tool = tool; requests = requests; replies = replies; start = start }

-- an outcome of a packet that this content allows
abbrev pub CanBe : Packet → List ℕ → Outcome → Type 0
CanBe p content Works = Unit {0}
CanBe p content (Fails left) = (op : Operation) → operation_asked p ≡ Some op → IsStopped op content left
CanBe p content LacksMemory = Unit {0}

-- the reply tells that the flash failed or that memory lacks
abbrev pub tells_trouble : Packet → Bool
tells_trouble r = (slice_index r.payload.items 0 == FLASH_FAILED) || (slice_index r.payload.items 0 == NO_MEMORY)

-- the operation that a packet was due to do, where it was due to do one, was done whole
abbrev pub WentWell : Option Operation → FlashState → FlashState → Type 0
WentWell None f g = g ≡ f
WentWell (Some op) f g = Completes op f g

-- at each moment the content was the old one, or one that a stop of the operation that was due may leave
abbrev pub Leaves : Option Operation → FlashState → FlashState → Type 0
Leaves None f g = g ≡ f
Leaves (Some op) f g = AtEachMoment f g (IsStopped op f.content)
