-- What is told of instructions, and of what they break.
use Rattle.std.specs.Prelude.{◌≡◌, ℕ, ◌≤◌, min, Bool, true, false, List, [], ◌∷◌, Option, Some, None, Result, Ok, Err, length}
use Rattle.std.specs.Global.{Vec}
use Rattle.std.specs.BTreeMap.{BTreeMap}
use Rattle.ecma_types.specs.declared.stack.StackType.{StackType as WorldType}
use Rattle.machine_typed.specs.Typing.{StackType}
use Rattle.code_rules.specs.Pass.{Step, Entry, After, falls_with}
use Rattle.verdict_rules.specs.Code.{lowest}
use Rattle.forward_pass.specs.declared.steps.Begins.{Begins}
use Rattle.forward_pass.specs.declared.steps.Begins.TheVariants as begins
use Rattle.forward_pass.specs.declared.steps.StepFacts.{StepFacts}
use Rattle.forward_pass.specs.Seen.{seen_stack, seen_falling, Keeps}

-- the lowest of some rules, if there is one
abbrev pub lowest_of : List ℕ → Option ℕ
lowest_of [] = None
lowest_of (rule ∷ rules) = Some (lowest (rule ∷ rules))

abbrev pub lower_of : Option ℕ → Option ℕ → Option ℕ
lower_of None b = b
lower_of (Some a) None = Some a
lower_of (Some a) (Some b) = Some (min a b)

-- the types with which a handler begins
abbrev pub begun : (WorldType → StackType) → Begins → Option (List StackType)
begun seen begins.Nothing = None
begun seen begins.Empty = Some []
begun seen (begins.Exception of) = Some (seen of ∷ [])

-- what is told of an instruction is so
pub record Tells (seen : WorldType → StackType) (s : Step) (is_targeted : Bool) (facts : StepFacts) : Type 0 where
  pub next : facts.next ≡ s.next
  pub begins : begun seen facts.begins ≡ s.begins
  pub tries : facts.tries ≡ s.tries
  pub broken : facts.broken ≡ lowest_of s.broken
  pub branches : facts.branches ≡ length s.goes
  -- nothing is said of one that acts on no stack
  pub falls : (types left : List StackType) → s.act types ≡ Ok left → facts.falls ≡ s.falls
  pub falls_well : facts.falls_well ≡ s.falls_well
  pub targeted : is_targeted ≡ true → facts.targeted ≡ true

-- an instruction makes one stack of another, or breaks rules of which the lowest is told
abbrev pub Acts : (WorldType → StackType) → Step → List WorldType → List WorldType → Option ℕ → Type 0
Acts seen s old new None = s.act (seen_stack seen old) ≡ Ok (seen_stack seen new)
Acts seen s old new (Some rule) = (rules : List ℕ) × (s.act (seen_stack seen old) ≡ Err rules) × (lowest_of rules ≡ Some rule)

-- what an instruction breaks whatever lies on the stack is lower than what it breaks with the types there, and than 52 to 54
abbrev pub IsRanked : Step → Type 0
IsRanked s = (rule : ℕ) → lowest_of s.broken ≡ Some rule → (rule ≤ 52) × ((types : List StackType) (rules : List ℕ) → s.act types ≡ Err rules → rule ≤ lowest rules)

abbrev pub AreRanked : List Step → Type 0
AreRanked [] = Unit
AreRanked (s ∷ steps) = IsRanked s × AreRanked steps

-- the table behind edges, and the lowest rule that they break
abbrev pub Leaves : (WorldType → StackType) → (ℕ → Bool) → BTreeMap ℕ (Vec WorldType) → Option ℕ → List ℕ × List Entry → Type 0
Leaves seen needed table rule after = (rule ≡ lowest_of after.0) × Keeps seen needed table after.1

-- an instruction acts on some stack
abbrev pub Acted : Step → Type 0
Acted s = (types : List StackType) × (left : List StackType) × (s.act types ≡ Ok left)

-- the same of an instruction, and where nothing is broken what falls through behind it
abbrev pub Goes : (WorldType → StackType) → (ℕ → Bool) → Step → BTreeMap ℕ (Vec WorldType) → List WorldType → Option ℕ → After → Type 0
Goes seen needed s table stack rule after =
    (rule ≡ lowest_of after.broken) × (rule ≡ None → Keeps seen needed table after.table × (falls_with s (seen_stack seen stack) ≡ after.falling) × Acted s)

abbrev pub left_behind : Option ℕ → Bool → Vec WorldType → Result (Option (Vec WorldType)) ℕ
left_behind (Some rule) falls stack = Err rule
left_behind None true stack = Ok (Some stack)
left_behind None false stack = Ok None

abbrev pub Behind : (WorldType → StackType) → (ℕ → Bool) → BTreeMap ℕ (Vec WorldType) → Result (Option (Vec WorldType)) ℕ → After → Type 0
Behind seen needed table (Ok falling) after = (after.broken ≡ []) × Keeps seen needed table after.table × (seen_falling seen falling ≡ after.falling)
Behind seen needed table (Err rule) after = lowest_of after.broken ≡ Some rule
