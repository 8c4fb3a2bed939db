-- Types and tables of the code as the pass of the rules has them.
use Rattle.std.specs.Prelude.{◌≡◌, ℕ, ◌<◌, Bool, true, ◌||◌, nat_eq, nat_le, List, [], ◌∷◌, map, reverse, Option, Result, Ok, Err}
use Rattle.std.specs.Ordering.{nat_cmp}
use Rattle.std.specs.List.{list_any, find}
use Rattle.std.specs.Option.{option_map}
use Rattle.std.specs.Borrow.{Bor}
use Rattle.std.specs.Global.{Vec}
use Rattle.std.specs.BTreeMap.{BTreeMap, get}
use Rattle.ecma_types.specs.declared.stack.StackType.{StackType as WorldType}
use Rattle.machine_typed.specs.Typing.{StackType}
use Rattle.code_rules.specs.Pass.{Lattice, Step, Entry, standing}

-- ---- types

-- the order of the code's types is that of the pass
pub record Agrees (seen : WorldType → StackType) (assignable : WorldType → WorldType → Bool) (merges : WorldType → WorldType → Option WorldType → Type 0) (l : Lattice) : Type 0 where
  pub fits : (a b : WorldType) → assignable a b ≡ l.assignable (seen a) (seen b)
  pub joins : (a b : WorldType) (both : Option WorldType) → merges a b both → option_map seen both ≡ l.merge (seen a) (seen b)

-- a stack, whose last type is the topmost one, from the topmost one down
abbrev pub seen_stack : (WorldType → StackType) → List WorldType → List StackType
seen_stack seen types = reverse (map seen types)

abbrev pub seen_types : (WorldType → StackType) → Result (Vec WorldType) ℕ → Result (List StackType) ℕ
seen_types seen (Ok types) = Ok (seen_stack seen types.items)
seen_types seen (Err rule) = Err rule

abbrev pub seen_there : (WorldType → StackType) → Option (Bor (Vec WorldType)) → Option (List StackType)
seen_there seen there = option_map (λ types. seen_stack seen types.now.items) there

abbrev pub seen_falling : (WorldType → StackType) → Option (Vec WorldType) → Option (List StackType)
seen_falling seen falling = option_map (λ types. seen_stack seen types.items) falling

-- ---- instructions

-- the instruction that begins at an offset
abbrev pub step_at : List Step → ℕ → Option Step
step_at steps at = find (λ s. nat_eq s.at at) steps

-- a branch leads to an offset
abbrev pub is_target : List Step → ℕ → Bool
is_target steps to = list_any (λ s. list_any (nat_eq to) s.goes) steps

-- the instructions stand behind one another from an offset to the end of the code (41, 42)
abbrev pub LieFrom : List Step → ℕ → ℕ → Type 0
LieFrom [] at size = at ≡ size
LieFrom (s ∷ steps) at size = (s.at ≡ at) × (s.at < s.next) × LieFrom steps s.next size

-- ---- the table

-- what stands at an offset is asked for, from an offset on
abbrev pub is_needed : List Step → ℕ → ℕ → Bool
is_needed steps from to = is_target steps to || nat_le from to

abbrev pub AllNeeded : (ℕ → Bool) → List ℕ → Type 0
AllNeeded needed [] = Unit
AllNeeded needed (to ∷ tos) = (needed to ≡ true) × AllNeeded needed tos

-- the types that are kept for an offset
abbrev pub kept_at : (WorldType → StackType) → BTreeMap ℕ (Vec WorldType) → ℕ → Option (List StackType)
kept_at seen table to = seen_falling seen (get nat_cmp table to)

-- what is asked for is kept as it stands
abbrev pub Keeps : (WorldType → StackType) → (ℕ → Bool) → BTreeMap ℕ (Vec WorldType) → List Entry → Type 0
Keeps seen needed table entries = (to : ℕ) → needed to ≡ true → kept_at seen table to ≡ standing entries to
