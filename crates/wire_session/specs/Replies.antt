-- Which reply a request waits for.
use Rattle.std.specs.Prelude.{ℕ, ◌==◌, ◌&&◌, ◌||◌, not, Bool, true, false, nat_le, nat_lt, if◌then◌else◌, List, [], ◌∷◌, ◌++◌, length, slice_index, Option, Some, None}
use Rattle.std.specs.Str.{bytes_eq}
use Rattle.byteorder.specs.Endian.{little_bytes}
use Rattle.flash_trait.specs.declared.flash.TheConstants.{SECTORS, SECTOR_SIZE}
use Rattle.wire_packets.specs.declared.command.TheConstants.{OPEN, READ, PROGRAM, ERASE, RUN, FETCH, CLOSE, BANKS, HELLO, START, BREAK, CONTINUE, FRAME, VALUE, DONE, FLASH_FAILED, NO_MEMORY, ENDED, NO_SET, BAD_SET, UNRESOLVED, BAD_CODE}
use Rattle.wire_packets.specs.declared.payload.TheConstants.{RANGE_LENGTH, RANGE_SIZE, MAX_PIECE, NO_PLACE, END_KIND, END_FIRST, END_SECOND, END_THIRD, END_TEXT, END_SIZE, MAX_TEXT, BANKS_KIND, BANKS_BANK, BANKS_NUMBER, BANKS_MARKS, BANKS_SIZE, IN_A_BANK, STATE_KIND, STATE_COUNT, STATE_SIZE, STOPPED, FINISHED, SEEN_SIZE, SHOWN_KIND, SHOWN_SIZE, METHOD}
use Rattle.wire_packets.specs.declared.packet.Packet.{Packet}
use Rattle.wire_packets.specs.declared.packet.TheConstants.{REPLY}
use Rattle.little_endian.specs.Numbers.{number}

-- what a flash of this kind has: 32 sectors of 8,192 bytes
abbrev pub flash_shape : List ℕ
flash_shape = little_bytes 4 SECTORS ++ little_bytes 4 SECTOR_SIZE

-- as many bytes as the request asks for, which are at most 1,016
unfoldable pub has_asked_length : List ℕ → List ℕ → Bool
has_asked_length payload body =
    (length payload == RANGE_SIZE) && (nat_le (number 4 RANGE_LENGTH payload) MAX_PIECE && (length body == number 4 RANGE_LENGTH payload))

-- of the three numbers of an end those that its kind doesn't use are 0
abbrev pub numbers_fit : ℕ → ℕ → ℕ → ℕ → Bool
numbers_fit kind a b c =
    if kind == UNRESOLVED then true
    else (if (kind == BAD_SET) || (kind == BAD_CODE) then (b == 0) && (c == 0)
    else ((kind == ENDED) || (kind == NO_SET)) && ((a == 0) && ((b == 0) && (c == 0))))

-- the end of a run, with a text of at most so many bytes
unfoldable pub is_end : ℕ → List ℕ → Bool
is_end most body =
    (length body == END_SIZE)
    && (numbers_fit (slice_index body END_KIND) (number 4 END_FIRST body) (number 4 END_SECOND body) (number 4 END_THIRD body)
    && nat_le (number 4 END_TEXT body) most)

-- the same of a run of which nothing was executed: it has no bad code and no text
unfoldable pub is_start : List ℕ → Bool
is_start [] = false
is_start (kind ∷ rest) = not (kind == BAD_CODE) && is_end 0 (kind ∷ rest)

-- a set stands in one of two banks, with a number; of every other kind both are 0
abbrev pub banks_fit : ℕ → ℕ → ℕ → Bool
banks_fit kind bank number =
    if kind == IN_A_BANK then nat_lt bank 2 else (nat_lt kind IN_A_BANK && (bank == 0)) && (number == 0)

-- the kind of what is found, its bank and number, and which markers stand
unfoldable pub is_banks : List ℕ → Bool
is_banks body =
    ((length body == BANKS_SIZE) && banks_fit (slice_index body BANKS_KIND) (number 4 BANKS_BANK body) (number 4 BANKS_NUMBER body))
    && nat_lt (slice_index body BANKS_MARKS) 4

-- the last Break that was asked told that the run isn't to stop; the argument is its place
abbrev pub stops_nowhere : Option ℕ → Bool
stops_nowhere None = false
stops_nowhere (Some place) = place == NO_PLACE

-- a run that goes on stops where it may, ends with a text, or comes to bad code
abbrev pub state_fits : Option ℕ → ℕ → ℕ → Bool
state_fits last_break kind count =
    if kind == STOPPED then not (stops_nowhere last_break)
    else (if kind == FINISHED then nat_le count MAX_TEXT else kind == BAD_CODE)

unfoldable pub is_state : Option ℕ → List ℕ → Bool
is_state last_break body =
    (length body == STATE_SIZE) && state_fits last_break (slice_index body STATE_KIND) (number 4 STATE_COUNT body)

-- a value of one of the kinds
unfoldable pub is_shown : List ℕ → Bool
is_shown body = (length body == SHOWN_SIZE) && nat_le (slice_index body SHOWN_KIND) METHOD

-- the bytes that follow DONE in the reply to a request, while the last Break that was asked has this place
unfoldable pub fits : Option ℕ → ℕ → List ℕ → List ℕ → Bool
fits last_break command payload body =
    if command == OPEN then bytes_eq body flash_shape
    else (if (command == READ) || (command == FETCH) then has_asked_length payload body
    else (if command == RUN then is_end MAX_TEXT body
    else (if command == BANKS then is_banks body
    else (if command == START then is_start body
    else (if command == CONTINUE then is_state last_break body
    else (if command == FRAME then length body == SEEN_SIZE
    else (if command == VALUE then is_shown body
    else (((((command == PROGRAM) || (command == ERASE)) || (command == CLOSE)) || (command == HELLO)) || (command == BREAK)) && (length body == 0))))))))

-- a payload that answers a request: done, with what the request asks for, or a failure of the flash or want of memory
-- alone
unfoldable pub answers : Option ℕ → Packet → List ℕ → Bool
answers last_break request [] = false
answers last_break request (status ∷ body) =
    if status == DONE then fits last_break request.command request.payload.items body
    else ((status == FLASH_FAILED) || (status == NO_MEMORY)) && (length body == 0)

-- the packet is a reply that the open request waits for, while the last Break that was asked has this place
unfoldable pub matches : Option ℕ → Packet → Packet → Bool
matches last_break request reply =
    ((reply.flags == REPLY) && (reply.command == request.command))
    && ((reply.reply_seq == request.seq) && answers last_break request reply.payload.items)
