-- What the board does with a request that it does.
use Rattle.std.specs.Prelude.{◌≡◌, ℕ, ◌+◌, ◌-◌, ◌==◌, ◌&&◌, Bool, nat_lt, nat_le, if◌then◌else◌, List, [], ◌∷◌, ◌++◌, length, take, drop, Option, Some, None}
use Rattle.byteorder.specs.Endian.{little_bytes}
use Rattle.flash_trait.specs.Flash.{Operation, Program, Erase, after}
use Rattle.flash_trait.specs.declared.flash.TheConstants.{FLASH_SIZE, SECTORS}
use Rattle.flash_trait.specs.FlashCalls.{FlashState, Completes, IsFailed}
use Rattle.wire_packets.specs.declared.packet.Packet.{Packet}
use Rattle.wire_packets.specs.declared.packet.TheConstants.{REPLY}
use Rattle.wire_packets.specs.declared.command.TheConstants.{OPEN, READ, PROGRAM, ERASE, RUN, FETCH, CLOSE, BANKS, DONE, NO_REQUEST, FLASH_FAILED, NO_MEMORY}
use Rattle.wire_packets.specs.declared.payload.TheConstants.{PROGRAM_AT, PROGRAM_BYTES, ERASE_SECTOR, ERASE_SIZE, RANGE_AT, RANGE_LENGTH, RANGE_SIZE, RUN_STEPS, RUN_CELLS, RUN_SIZE}
use Rattle.wire_packets.specs.Made.{packet_with}
use Rattle.little_endian.specs.Numbers.{number}
use Rattle.wire_session.specs.Replies.{flash_shape}
use Rattle.deploy_model.specs.Banks.{Format}
use Rattle.deploy_model.specs.Deployment.{banks, banks_bytes, PIECE}

-- how a run ended, with its text
pub record Ended : Type 0 where
  pub kind : ℕ
  pub a : ℕ
  pub b : ℕ
  pub c : ℕ
  pub text : List ℕ

-- what a board knows: how images are read, and what a content comes to when it is booted and run
pub record Parts : Type 0 where
  pub format : Format
  pub runs : List ℕ → ℕ → ℕ → Ended

-- the bytes lie inside the flash
abbrev pub lies_inside : ℕ → ℕ → Bool
lies_inside at size = nat_le (at + size) FLASH_SIZE

abbrev pub program_asked : List ℕ → Option Operation
program_asked payload =
    if (nat_le (PROGRAM_BYTES + 1) (length payload) && nat_le (length payload) (PIECE + PROGRAM_BYTES)) && lies_inside (number 4 PROGRAM_AT payload) (length payload - PROGRAM_BYTES)
    then Some (Program (number 4 PROGRAM_AT payload) (drop PROGRAM_BYTES payload)) else None

abbrev pub erase_asked : List ℕ → Option Operation
erase_asked payload =
    if (length payload == ERASE_SIZE) && nat_lt (number 4 ERASE_SECTOR payload) SECTORS then Some (Erase (number 4 ERASE_SECTOR payload)) else None

-- the operation that a request asks for
unfoldable pub operation_asked : Packet → Option Operation
operation_asked p =
    if p.command == PROGRAM then program_asked p.payload.items else (if p.command == ERASE then erase_asked p.payload.items else None)

-- how an operation or a run goes: as it should, with a failure of the flash that leaves a content, or without memory
pub data Outcome : Type 0 where
  Works : Outcome
  Fails : (content : List ℕ) → Outcome
  LacksMemory : Outcome

-- what a request comes to
pub record Did : Type 0 where
  pub content : List ℕ
  pub text : List ℕ
  -- the payload of its reply
  pub payload : List ℕ

abbrev pub did : List ℕ → List ℕ → List ℕ → Did
did content text payload = record { content = content; text = text; payload = payload }

abbrev pub did_operation : Operation → List ℕ → List ℕ → Outcome → Did
did_operation op content text Works = did (after op content) text (DONE ∷ [])
did_operation op content text (Fails left) = did left text (FLASH_FAILED ∷ [])
did_operation op content text LacksMemory = did (after op content) text (DONE ∷ [])

-- a piece of at most 1,016 bytes that lies inside
abbrev pub piece_of : List ℕ → List ℕ → List ℕ
piece_of payload bytes =
    if (length payload == RANGE_SIZE) && (nat_le (number 4 RANGE_LENGTH payload) PIECE && nat_le (number 4 RANGE_AT payload + number 4 RANGE_LENGTH payload) (length bytes))
    then DONE ∷ take (number 4 RANGE_LENGTH payload) (drop (number 4 RANGE_AT payload) bytes) else NO_REQUEST ∷ []

abbrev pub if_empty : List ℕ → List ℕ → List ℕ
if_empty payload reply = if length payload == 0 then DONE ∷ reply else NO_REQUEST ∷ []

abbrev pub end_bytes : Ended → List ℕ
end_bytes e = e.kind ∷ little_bytes 4 e.a ++ little_bytes 4 e.b ++ little_bytes 4 e.c ++ little_bytes 4 (length e.text)

abbrev pub MOST_CELLS : ℕ
MOST_CELLS = 4194304

-- steps, and cells
abbrev pub is_run : List ℕ → Bool
is_run payload = (length payload == RUN_SIZE) && (nat_le 1 (number 4 RUN_CELLS payload) && nat_le (number 4 RUN_CELLS payload) MOST_CELLS)

-- how the content ends by the run that is asked for
abbrev pub run_asked : Parts → List ℕ → List ℕ → Ended
run_asked parts content payload = parts.runs content (number 8 RUN_STEPS payload) (number 4 RUN_CELLS payload)

abbrev pub did_run : Parts → List ℕ → List ℕ → List ℕ → Outcome → Did
did_run parts content text payload Works = did content (run_asked parts content payload).text (DONE ∷ end_bytes (run_asked parts content payload))
did_run parts content text payload (Fails left) = did content (run_asked parts content payload).text (DONE ∷ end_bytes (run_asked parts content payload))
did_run parts content text payload LacksMemory = did content text (NO_MEMORY ∷ [])

-- requests that leave the flash
abbrev pub did_other : Parts → List ℕ → List ℕ → ℕ → List ℕ → Outcome → Did
did_other parts content text command payload outcome =
    if (command == RUN) && is_run payload then did_run parts content text payload outcome
    else did content text
    (if command == OPEN then if_empty payload flash_shape
    else (if command == BANKS then if_empty payload (banks_bytes (banks parts.format content))
    else (if command == READ then piece_of payload content
    else (if command == FETCH then piece_of payload text
    else (if command == CLOSE then if_empty payload [] else NO_REQUEST ∷ [])))))

abbrev pub did_asked : Parts → List ℕ → List ℕ → Packet → Outcome → Option Operation → Did
did_asked parts content text p outcome None = did_other parts content text p.command p.payload.items outcome
did_asked parts content text p outcome (Some op) = did_operation op content text outcome

unfoldable pub does : Parts → List ℕ → List ℕ → Packet → Outcome → Did
does parts content text p outcome = did_asked parts content text p outcome (operation_asked p)

abbrev pub reply_to : Packet → List ℕ → Packet
reply_to p payload = packet_with p.command 0 p.seq REPLY payload

-- ---- by a flash
-- a flash on which an operation was made goes so
abbrev pub Yields : Operation → FlashState → FlashState → Outcome → Type 0
Yields op old new Works = Completes op old new
Yields op old new (Fails left) = IsFailed op old new × (new.content ≡ left)
Yields op old new LacksMemory = ⊥
