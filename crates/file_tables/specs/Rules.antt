-- Rules of refusal as data: each with the place that it names and whether the bytes keep it.
use Rattle.std.specs.Prelude.{ℕ, Bool, cond, List, [], ◌∷◌, Option, Some, None, Result, Ok, Err}
use Rattle.plain_types.specs.declared.fault.Fault.{Fault}

pub record Rule : Type 0 where
  pub fault : Fault
  pub is_kept : Bool

-- a rule of the file, and a rule of a row
abbrev pub rule_at : ℕ → ℕ → Bool → Rule
rule_at number offset is_kept = record { fault = record { rule = number; place = record { file = 0; table = 255; row = 0; offset = offset } }; is_kept = is_kept }

abbrev pub rule_of_row : ℕ → ℕ → ℕ → Bool → Rule
rule_of_row number table row is_kept = record { fault = record { rule = number; place = record { file = 0; table = table; row = row; offset = 0 } }; is_kept = is_kept }

-- the first of the rules that is broken
abbrev pub first_broken : List Rule → Option Fault
first_broken [] = None
first_broken (r ∷ rs) = cond r.is_kept (first_broken rs) (Some r.fault)

-- the parts, unless a rule is broken
abbrev pub unless_broken : {A : Type 0} → Option Fault → A → Result A Fault
unless_broken None parts = Ok parts
unless_broken (Some fault) parts = Err fault
