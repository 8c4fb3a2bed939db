-- The bytes behind the parts of a signature.
use Rattle.std.specs.Prelude.{ℕ, zero, suc, ◌+◌, ◌*◌, Bool, false, is_some, nat_eq, if◌then◌else◌, List, [], ◌∷◌, take, drop, Option, Some, None}
use Rattle.std.specs.List.{prefix_len}
use Rattle.machine.specs.Throw.{on_some}
use Rattle.image_bytes.specs.Layout.{Image}
use Rattle.image_form.specs.Signatures.{elem_at}
use Rattle.msspot_read.specs.declared.signature.Slot.{Slot}
use Rattle.msspot_read.specs.declared.signature.Slot.TheVariants as slots
use Rattle.msspot_read.specs.Forms.{plain_in, ends}

-- a token that a signature may have
unfoldable pub after_token : Image → List ℕ → Option (List ℕ)
after_token i [] = None
after_token i (low ∷ []) = None
after_token i (low ∷ high ∷ rest) = if is_some (plain_in i (low + 256 * high)) then Some rest else None

-- a type without brackets
unfoldable pub after_leaf : Image → ℕ → List ℕ → Option (List ℕ)
after_leaf i code rest =
    if nat_eq code 18 then after_token i rest else (if nat_eq code 17 then after_token i rest else (if is_some (elem_at code) then Some rest else None))

-- at most 255 brackets
abbrev pub brackets : List ℕ → ℕ
brackets bytes = prefix_len (λ code. nat_eq code 29) (take 255 bytes)

unfoldable pub after_brackets : Image → List ℕ → Option (List ℕ)
after_brackets i [] = None
after_brackets i (code ∷ rest) = after_leaf i code rest

unfoldable pub after_type : Image → List ℕ → Option (List ℕ)
after_type i bytes = after_brackets i (drop (brackets bytes) bytes)

unfoldable pub after_place : Image → List ℕ → Option (List ℕ)
after_place i [] = after_type i []
after_place i (code ∷ rest) = if nat_eq code 16 then after_type i rest else after_type i (code ∷ rest)

unfoldable pub after_result : Image → List ℕ → Option (List ℕ)
after_result i [] = after_type i []
after_result i (code ∷ rest) = if nat_eq code 1 then Some rest else after_type i (code ∷ rest)

abbrev pub after_slot : Image → Slot → List ℕ → Option (List ℕ)
after_slot i slots.Parameter bytes = after_place i bytes
after_slot i slots.Local bytes = after_type i bytes

unfoldable pub after_slots : Image → Slot → ℕ → List ℕ → Option (List ℕ)
after_slots i slot zero bytes = Some bytes
after_slots i slot (suc n) bytes = on_some (after_slot i slot bytes) (after_slots i slot n)

-- a count of two bytes, and as many
unfoldable pub after_counted : Image → Slot → List ℕ → Option (List ℕ)
after_counted i slot [] = None
after_counted i slot (low ∷ []) = None
after_counted i slot (low ∷ high ∷ rest) = after_slots i slot (low + 256 * high) rest

-- behind the mark of a method: its count, result and parameters
unfoldable pub after_mark : Image → List ℕ → Option (List ℕ)
after_mark i [] = None
after_mark i (low ∷ []) = None
after_mark i (low ∷ high ∷ rest) = on_some (after_result i rest) (after_slots i slots.Parameter (low + 256 * high))

unfoldable pub after_method : Image → List ℕ → Option (List ℕ)
after_method i [] = None
after_method i (mark ∷ rest) = if nat_eq mark 32 then after_mark i rest else (if nat_eq mark 0 then after_mark i rest else None)

-- an array alone
unfoldable pub is_array : Image → List ℕ → Bool
is_array i [] = false
is_array i (code ∷ rest) = if nat_eq code 29 then ends (after_type i (code ∷ rest)) else false
