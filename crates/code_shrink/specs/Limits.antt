-- What 16 bits can't say: distances outside -32,768 to 32,767, and switches of more than 255 targets.
use Rattle.std.specs.Prelude.{◌≡◌, ℕ, ℤ, pos, negsuc, ◌+◌, ◌<◌, ◌^◌, unsigned_abs, Bool, nat_lt, if◌then◌else◌, List, [], ◌∷◌, length, map, Option, Some, None}
use Rattle.std.specs.Option.{option_or}
use Rattle.cil_opcodes.specs.declared.shape.Operand.{Operand}
use Rattle.cil_opcodes.specs.declared.shape.Operand.TheVariants as kinds
use Rattle.assemblies.specs.Closed.{Each}
use Rattle.image_form.specs.Codes.{Plain, Instr, FitsIn, lie_of, distances_of, size, long, short}
use Rattle.short_code.specs.Short.{to_short}
use Rattle.code_shrink.specs.declared.refusal.ShrinkRefusal.{ShrinkRefusal}
use Rattle.code_shrink.specs.declared.refusal.ShrinkRefusal.TheVariants.{Branch, Switch, NoMemory}
use Rattle.code_shrink.specs.Shrunk.{instrs_in, pieces_of, moved, plain_to, targets_of}

abbrev pub is_near : ℤ → Bool
is_near (pos n) = nat_lt n 32768
is_near (negsuc n) = nat_lt n 32768

abbrev pub first_far : List ℤ → Option ℤ
first_far [] = None
first_far (z ∷ zs) = if is_near z then first_far zs else Some z

module _ (place : ℕ → ℕ) where
  -- the distances of an instruction that get two bytes
  abbrev pub wide_distances : Operand → ℕ → Plain → List ℤ
  wide_distances kinds.BranchLong next p = map (moved place next) (distances_of p)
  wide_distances kinds.Switch next p = map (moved place next) (distances_of p)
  wide_distances _ next p = []

  -- the first that is outside, of the instructions from a place on
  abbrev pub far_from : ℕ → List Instr → Option ℤ
  far_from at [] = None
  far_from at (i ∷ is) = option_or (first_far (wide_distances i.row.operand (at + size long i) i.operand)) (far_from (at + size long i) is)

abbrev pub too_many : Operand → Plain → Option ℕ
too_many kinds.Switch p = if nat_lt 255 (length (distances_of p)) then Some (length (distances_of p)) else None
too_many _ p = None

-- the targets of the first switch that has too many
abbrev pub first_wide : List Instr → Option ℕ
first_wide [] = None
first_wide (i ∷ is) = option_or (too_many i.row.operand i.operand) (first_wide is)

-- of a file's code
abbrev pub far_in : List ℕ → Option ℤ
far_in code = far_from (to_short (pieces_of code)) 0 (instrs_in code)

abbrev pub wide_in : List ℕ → Option ℕ
wide_in code = first_wide (instrs_in code)

-- why code isn't shortened; a distance outside is told before a switch that is too long
abbrev pub IsRefused : List ℕ → ShrinkRefusal → Type 0
IsRefused code (Branch d) = far_in code ≡ Some d
IsRefused code (Switch n) = (far_in code ≡ None) × (wide_in code ≡ Some n)
IsRefused code NoMemory = Unit {0}

-- ---- what can be written

-- each target's number has four bytes
abbrev pub AllNear : ℕ → List Instr → Type 0
AllNear at [] = Unit {0}
AllNear at (i ∷ is) = Each (λ z. unsigned_abs z < 2 ^ 32) (targets_of i.row.operand (at + size long i) i.operand) × AllNear (at + size long i) is

module _ (place : ℕ → ℕ) where
  -- an operand that fits its bytes in the image, of an instruction that ends at a place
  pub record CanWrite (kind : Operand) (next : ℕ) (p : Plain) : Type 0 where
    pub near : Each (λ z. unsigned_abs z < 2 ^ 32) (targets_of kind next p)
    pub fits : (token : ℕ → ℕ) → FitsIn short (lie_of short kind) (plain_to place token kind next p)
    pub few : too_many kind p ≡ None

  abbrev pub AllCanWrite : ℕ → List Instr → Type 0
  AllCanWrite at [] = Unit {0}
  AllCanWrite at (i ∷ is) = CanWrite i.row.operand (at + size long i) i.operand × AllCanWrite (at + size long i) is
