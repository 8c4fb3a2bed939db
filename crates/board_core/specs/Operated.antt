-- What a request that asks for an operation comes to.
use Rattle.std.specs.Prelude.{◌≡◌, List, ℕ, Some, Result, Ok, Err}
use Rattle.flash_trait.specs.Flash.{Operation}
use Rattle.flash_trait.specs.FlashCalls.{FlashState, IsCut}
use Rattle.wire_packets.specs.declared.packet.Packet.{Packet}
use Rattle.deploy_model.specs.Board.{Parts, Outcome, Yields, operation_asked, does, reply_to}
use Rattle.board_core.specs.declared.operating.PowerOff.{PowerOff}

-- the operation was made or failed, and the reply and the content are those of the model for that outcome
pub record Answers (p reply : Packet) (old new : FlashState) : Type 0 where
  pub operation : Operation
  pub asked : operation_asked p ≡ Some operation
  pub outcome : Outcome
  pub yields : Yields operation old new outcome
  pub answer : (parts : Parts) (text : List ℕ) → reply ≡ reply_to p (does parts old.content text p outcome).payload
  pub kept : (parts : Parts) (text : List ℕ) → text ≡ (does parts old.content text p outcome).text
  pub left : (parts : Parts) (text : List ℕ) → new.content ≡ (does parts old.content text p outcome).content

-- the power stopped inside the operation
pub record Stops (p : Packet) (old new : FlashState) : Type 0 where
  pub operation : Operation
  pub asked : operation_asked p ≡ Some operation
  pub cut : IsCut operation old new

abbrev pub Operates : Packet → FlashState → FlashState → Result Packet PowerOff → Type 0
Operates p old new (Ok reply) = Answers p reply old new
Operates p old new (Err off) = Stops p old new
