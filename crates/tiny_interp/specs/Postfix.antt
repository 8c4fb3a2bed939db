-- Code that is a postfix expression over numbers of 32 bits.
use Rattle.std.specs.Prelude.{suc, zero, ℕ, ℤ, pos, ◌+◌, ◌-ℤ◌, ◌==◌, ◌&&◌, nat_lt, nat_le, if◌then◌else◌, List, [], ◌∷◌, length, take, drop, Option, Some, None, option_and_then, option_map}
use Rattle.std.specs.Option.{option_map_or}
use Rattle.std.specs.Int.{Width, w8, w32, byte_len, from_le_bytes, cast_signed, int_wrapping_add, int_wrapping_sub, int_wrapping_mul}
use Rattle.tiny_interp.specs.declared.postfix.Item.{Item}
use Rattle.tiny_interp.specs.declared.postfix.Item.TheVariants.{Number, Add, Subtract, Multiply, Return}

-- a signed number of this width, and the bytes after it
abbrev pub number_at : Width → List ℕ → Option (Item × List ℕ)
number_at w bytes =
    if nat_lt (length bytes) (byte_len w)
    then None
    else Some (Number (cast_signed w (from_le_bytes w (take (byte_len w) bytes))), drop (byte_len w) bytes)

-- the instruction at the front (ECMA-335 III.3.1, III.3.40, III.3.48, III.3.56, III.3.65), and the bytes after it
unfoldable pub item_at : List ℕ → Option (Item × List ℕ)
item_at [] = None
item_at (op ∷ rest) =
    if nat_le 0x15 op && nat_le op 0x1E then Some (Number (pos op -ℤ pos 0x16), rest)
    else if op == 0x1F then number_at w8 rest
    else if op == 0x20 then number_at w32 rest
    else if op == 0x58 then Some (Add, rest)
    else if op == 0x59 then Some (Subtract, rest)
    else if op == 0x5A then Some (Multiply, rest)
    else if op == 0x2A then Some (Return, rest)
    else None

-- an instruction before the rest of a code, whose items are these; the return ends the code
abbrev pub before : Item → List ℕ → Option (List Item) → Option (List Item)
before Return rest items = if length rest == 0 then Some [] else None
before item rest items = option_map (λ others. item ∷ others) items

-- the numbers and operations of a code that ends with its one return, and has at most n instructions
abbrev pub items_within : ℕ → List ℕ → Option (List Item)
items_within zero code = None
items_within (suc n) code = option_and_then (λ (p : Item × List ℕ). before p.0 p.1 (items_within n p.1)) (item_at code)

-- the numbers and operations of a code; each instruction has at least one byte
abbrev pub items_of : List ℕ → Option (List Item)
items_of code = items_within (length code) code

-- how many values the stack holds at most
abbrev pub MOST : ℕ
MOST = 8

-- what an operation makes of two numbers
abbrev pub combined : Item → ℤ → ℤ → Option ℤ
combined Add x y = Some (int_wrapping_add w32 x y)
combined Subtract x y = Some (int_wrapping_sub w32 x y)
combined Multiply x y = Some (int_wrapping_mul w32 x y)
combined _ x y = None

-- what an item makes of the stack, whose top comes first
abbrev pub stack_after : Item → List ℤ → Option (List ℤ)
stack_after (Number n) stack = if nat_lt (length stack) MOST then Some (n ∷ stack) else None
stack_after item (y ∷ x ∷ stack) = option_map (λ value. value ∷ stack) (combined item x y)
stack_after item _ = None

-- what a list of items makes of it
abbrev pub evaluated : List Item → List ℤ → Option (List ℤ)
evaluated [] stack = Some stack
evaluated (item ∷ items) stack = option_and_then (evaluated items) (stack_after item stack)

-- the one value of a stack
abbrev pub single : List ℤ → Option ℤ
single (value ∷ []) = Some value
single _ = None

-- the value of a code as a postfix expression, where it is one
abbrev pub first_value : List ℕ → Option ℤ
first_value code = option_and_then single (option_and_then (λ items. evaluated items []) (items_of code))

-- the number of a code's instructions, its return counted
abbrev pub first_count : List ℕ → ℕ
first_count code = option_map_or (λ (items : List Item). length items + 1) (items_of code) 0
