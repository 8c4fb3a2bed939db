-- What the tool asks to deploy a set: the reply to Banks, the plan that it gives, and the requests in order.
use Rattle.std.specs.Prelude.{ℕ, ◌+◌, ◌-◌, ◌*◌, ◌/◌, ◌%◌, ◌==◌, ◌&&◌, ◌||◌, Bool, nat_le, if◌then◌else◌, List, [], ◌∷◌, ◌++◌, length, take, drop, map, slice_index, slice_get, Option, Some, None}
use Rattle.std.specs.List.{range_with_len}
use Rattle.byteorder.specs.Endian.{little_bytes}
use Rattle.wire_packets.specs.declared.command.TheConstants.{OPEN, PROGRAM, ERASE, BANKS, FLASH_FAILED}
use Rattle.wire_packets.specs.declared.payload.TheConstants.{MAX_PIECE, BANKS_KIND, BANKS_BANK, BANKS_NUMBER, BANKS_MARKS, BANKS_SIZE, NOT_FOUND, LATE_OLD_FORMAT, IN_A_BANK, FIRST_MARK, SECOND_MARK}
use Rattle.little_endian.specs.Numbers.{number}
use Rattle.flash_trait.specs.Flash.{Operation, Program, Erase, after}
use Rattle.deploy_model.specs.Banks.{Format, base, BODY, LAST_NUMBER, image_marker, bank_marker, number_bytes, holds, Located, locate}

-- what the reply to Banks tells
pub record Banks : Type 0 where
  pub kind : ℕ
  pub bank : ℕ
  pub number : ℕ
  -- the flash begins with one of the two markers
  pub first : Bool
  -- bank 1 begins with the bank marker
  pub second : Bool

abbrev pub banks_at : Located → List ℕ → Banks
banks_at at content =
    record {
      kind = at.kind;
      bank = at.bank;
      number = at.number;
      first = holds image_marker 0 content || holds bank_marker 0 content;
      second = holds bank_marker (base 1) content;
    }

abbrev pub banks : Format → List ℕ → Banks
banks f content = banks_at (locate f content) content

-- what is deployed where
pub record Plan : Type 0 where
  pub target : ℕ
  pub number : ℕ
  -- the first eight bytes of the flash are zeroed
  pub front : Bool
  -- the marker of bank 1 is zeroed
  pub back : Bool

-- the bank that is written
abbrev pub target_at : ℕ → ℕ → ℕ
target_at kind bank = if kind == NOT_FOUND then 0 else (if kind == IN_A_BANK then 1 - bank else 1)

abbrev pub target_of : Banks → ℕ
target_of b = target_at b.kind b.bank

abbrev pub plan_for : Banks → Plan
plan_for b =
    record {
      target = target_of b;
      number = if b.kind == IN_A_BANK then b.number + 1 else 1;
      front = (b.kind == LATE_OLD_FORMAT) || ((target_of b == 0) && b.first);
      back = (target_of b == 1) && b.second;
    }

-- no number follows the one that was found
abbrev pub is_spent : Banks → Bool
is_spent b = (b.kind == IN_A_BANK) && nat_le LAST_NUMBER b.number

-- how many bytes of the set a request programs
abbrev pub PIECE : ℕ
PIECE = MAX_PIECE

abbrev pub eight_zeros : List ℕ
eight_zeros = 0 ∷ 0 ∷ 0 ∷ 0 ∷ 0 ∷ 0 ∷ 0 ∷ 0 ∷ []

-- a content whose first eight bytes are zeroed, where a set of the format before that ends behind bank 0 gives way
abbrev pub given_way : Bool → List ℕ → List ℕ
given_way late content = if late then eight_zeros ++ drop 8 content else content

abbrev pub zeroings : Plan → List Operation
zeroings p = (if p.front then Program 0 eight_zeros ∷ [] else []) ++ (if p.back then Program (base 1) eight_zeros ∷ [] else [])

abbrev pub erases : ℕ → List Operation
erases target = map (λ i. Erase (16 * target + i)) (range_with_len 0 15)

abbrev pub piece : ℕ → List ℕ → ℕ → Operation
piece target set i = Program (base target + BODY + PIECE * i) (take PIECE (drop (PIECE * i) set))

abbrev pub piece_count : List ℕ → ℕ
piece_count set = (length set + (PIECE - 1)) / PIECE

abbrev pub pieces : ℕ → List ℕ → List Operation
pieces target set = map (piece target set) (range_with_len 0 (piece_count set))

-- all but the zeroings and the marker
abbrev pub fillings : Plan → List ℕ → List Operation
fillings p set = erases p.target ++ pieces p.target set ++ Program (base p.target + 8) (number_bytes p.number) ∷ []

abbrev pub last_operation : Plan → Operation
last_operation p = Program (base p.target) bank_marker

-- the operations of a deployment in their order
unfoldable pub operations : Plan → List ℕ → List Operation
operations p set = zeroings p ++ fillings p set ++ last_operation p ∷ []

-- the content after operations
abbrev pub after_all : List Operation → List ℕ → List ℕ
after_all [] content = content
after_all (op ∷ ops) content = after_all ops (after op content)

-- ---- as requests

abbrev pub command_of : Operation → ℕ
command_of (Program at bytes) = PROGRAM
command_of (Erase sector) = ERASE

abbrev pub payload_of : Operation → List ℕ
payload_of (Program at bytes) = little_bytes 4 at ++ bytes
payload_of (Erase sector) = little_bytes 4 sector

-- the reply to Banks, behind its status
abbrev pub marks_of : Banks → ℕ
marks_of b = (if b.first then FIRST_MARK else 0) + (if b.second then SECOND_MARK else 0)

abbrev pub banks_bytes : Banks → List ℕ
banks_bytes b = b.kind ∷ little_bytes 4 b.bank ++ little_bytes 4 b.number ++ marks_of b ∷ []

-- what a reply to Banks tells, behind its status
abbrev pub banks_told : List ℕ → Banks
banks_told payload =
    record {
      kind = slice_index payload (1 + BANKS_KIND);
      bank = number 4 (1 + BANKS_BANK) payload;
      number = number 4 (1 + BANKS_NUMBER) payload;
      first = slice_index payload (1 + BANKS_MARKS) % 2 == FIRST_MARK;
      second = slice_index payload (1 + BANKS_MARKS) / 2 == 1;
    }

-- a deployment that goes on: the set, how many requests were asked, and the plan once Banks was answered
pub record Deploying : Type 0 where
  pub set : List ℕ
  pub asked : ℕ
  pub plan : Plan

pub data Next : Type 0 where
  Asks : (command : ℕ) (payload : List ℕ) → Next
  IsDeployed : Next
  HasFailed : Next
  IsSpent : Next

-- a deployment that hasn't begun, with any plan
abbrev pub beginning : List ℕ → Plan → Deploying
beginning set plan = record { set = set; asked = 0; plan = plan }

abbrev pub asks_operation : Deploying → Option Operation → Next × Deploying
asks_operation d None = (IsDeployed, d)
asks_operation d (Some op) = (Asks (command_of op) (payload_of op), record { set = d.set; asked = d.asked + 1; plan = d.plan })

-- the i-th operation
abbrev pub asks_nth : Deploying → ℕ → Next × Deploying
asks_nth d i = asks_operation d (slice_get (operations d.plan d.set) i)

abbrev pub asks_planned : Deploying → Banks → Next × Deploying
asks_planned d b = if is_spent b then (IsSpent, d) else asks_nth (record { set = d.set; asked = d.asked; plan = plan_for b }) 0

-- the length of a reply to Banks that tells them
abbrev pub TOLD_SIZE : ℕ
TOLD_SIZE = 1 + BANKS_SIZE

-- a reply of another length tells nothing, and ends the deployment; none such is awaited
abbrev pub asks_told : Deploying → List ℕ → Next × Deploying
asks_told d payload = if length payload == TOLD_SIZE then asks_planned d (banks_told payload) else (HasFailed, d)

-- Open, Banks, and then the operations of the plan, one after the other; a failure of the flash ends it
unfoldable pub next_of : Deploying → Option (List ℕ) → Next × Deploying
next_of d None = (Asks OPEN [], record { set = d.set; asked = 1; plan = d.plan })
next_of d (Some payload) =
    if slice_index payload 0 == FLASH_FAILED then (HasFailed, d)
    else (if d.asked == 1 then (Asks BANKS [], record { set = d.set; asked = 2; plan = d.plan })
    else (if d.asked == 2 then asks_told d payload
    else asks_nth d (d.asked - 2)))
