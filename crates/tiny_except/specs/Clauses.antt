-- Clauses of a method that are looked for.
use Rattle.std.specs.Prelude.{ℕ, suc, Bool, ◌&&◌, ◌||◌, not, ◌==◌, if◌then◌else◌, List, [], ◌∷◌, Option, Some, None}
use Rattle.board_types.specs.declared.board.TypeAt.{TypeAt}
use Rattle.board_types.specs.declared.board.ClauseAt.{ClauseAt}
use Rattle.memory_states.specs.Told.{Told, in_try, in_handler, is_round}
use Rattle.tiny_except.specs.declared.clauses.Found.{Found}
use Rattle.tiny_except.specs.declared.clauses.Sought.{Sought}
use Rattle.tiny_except.specs.declared.clauses.Regions.{Regions}
use Rattle.tiny_except.specs.declared.clauses.Regions.TheVariants.{Try, Round, Handler}
use Rattle.tiny_except.specs.declared.clauses.Goal.{Goal}
use Rattle.tiny_except.specs.declared.clauses.Goal.TheVariants.{Catch, Stop, Finally, Leaving}

abbrev pub counts : Regions → ClauseAt → Bool
counts (Try at) c = in_try c at
counts (Round inner) c = is_round c inner
counts (Handler at) c = in_handler c at

-- a catch takes objects of its class and of those below it
abbrev pub takes : Told → TypeAt → ClauseAt → Bool
takes t class c = (c.kind == 0) && t.sub class c.class

abbrev pub is_finally : ClauseAt → Bool
is_finally c = c.kind == 2

abbrev pub meets : Told → Goal → ClauseAt → Bool
meets t (Catch class) c = takes t class c
meets t (Stop class) c = is_finally c || takes t class c
meets t Finally c = is_finally c
meets t (Leaving target) c = is_finally c && not (in_try c target)

abbrev pub is_sought : Told → Sought → ClauseAt → Bool
is_sought t s c = counts s.regions c && meets t s.goal c

-- the first of the clauses, which have numbers from k on
abbrev pub first_sought : Told → Sought → ℕ → List ClauseAt → Option Found
first_sought t s k [] = None
first_sought t s k (c ∷ cs) = if is_sought t s c then Some (record { number = k; clause = c }) else first_sought t s (suc k) cs
