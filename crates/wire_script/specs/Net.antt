-- The words that script a network.
use Rattle.std.specs.Prelude.{◌≡◌, ℕ, ◌==◌, nat_le, Result, Ok, Err, if◌then◌else◌, List, [], ◌∷◌, length, Option, Some, None, option_and_then, option_map}
use Rattle.std.specs.Str.{bytes_eq}
use Rattle.std.specs.Option.{option_or}
use Rattle.std.specs.List.{slice_split}
use Rattle.numerals.specs.Numerals.{number_up_to}
use Rattle.wire_script.specs.declared.net.Item.{Item}
use Rattle.wire_script.specs.declared.net.Item.TheVariants.{Newest, Turn}
use Rattle.wire_script.specs.declared.net.NetRefusal.{NetRefusal}
use Rattle.wire_script.specs.declared.net.NetRefusal.TheVariants.{NotNet, NoMemory}
use Rattle.wire_script.specs.declared.net.TheConstants.{MOST_NUMBER, MOST_ITEMS}

-- the pieces of a word between the bytes c
abbrev pub pieces : ℕ → List ℕ → List (List ℕ)
pieces c word = slice_split (λ byte. byte == c) word

-- the value of each word, where each has one
abbrev pub each : {X : Type 0} → (List ℕ → Option X) → List (List ℕ) → Option (List X)
each value [] = Some []
each value (word ∷ words) = option_and_then (λ x. option_map (λ xs. x ∷ xs) (each value words)) (value word)

abbrev pub packet_number : List ℕ → Option ℕ
packet_number word = number_up_to MOST_NUMBER word

-- numbers up to 65,535 with `,` between them, or none
unfoldable pub number_list : List ℕ → Option (List ℕ)
number_list [] = Some []
number_list (byte ∷ word) = each packet_number (pieces 44 (byte ∷ word))

-- `*n`: so many turns, 1 to 65,535, that deliver the newest
abbrev pub newest_item : List (List ℕ) → Option Item
newest_item ([] ∷ count ∷ []) = option_and_then (λ n. if n == 0 then None else Some (Newest n)) (packet_number count)
newest_item other = None

-- `A:B`: a turn that delivers these requests and then these replies
abbrev pub turn_item : List (List ℕ) → Option Item
turn_item (requests ∷ replies ∷ []) =
    option_and_then (λ a. option_map (λ b. Turn a b) (number_list replies)) (number_list requests)
turn_item other = None

-- `*n` has the byte 42 in front, and `A:B` the byte 58 in between
unfoldable pub item : List ℕ → Option Item
item word = option_or (newest_item (pieces 42 word)) (turn_item (pieces 58 word))

-- `-`, or at most 4,096 items with `;` between them
unfoldable pub script : List ℕ → Option (List Item)
script word =
    if bytes_eq word (45 ∷ []) then Some []
    else (if nat_le (length (pieces 59 word)) MOST_ITEMS then each item (pieces 59 word) else None)

-- what a function that reads words returned, seen by view, is what the words spell, unless memory ran out
abbrev pub Gives : {X Y : Type 0} → (X → Y) → Result X NetRefusal → Option Y → Type 0
Gives view (Ok x) value = value ≡ Some (view x)
Gives view (Err NotNet) value = value ≡ None
Gives view (Err NoMemory) value = Unit {0}
