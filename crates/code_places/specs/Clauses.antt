-- The exception clauses of a file by their offsets and kinds; which class a catch takes is left out.
use Rattle.std.specs.Prelude.{ℕ, Bool, ◌&&◌, ◌||◌, ◌==◌, nat_eq, if◌then◌else◌, List, None}
use Rattle.std.specs.List.{list_all}
use Rattle.cil_code.specs.declared.clause.Clause.{Clause}
use Rattle.cil_code.specs.Walk.{starts_of}
use Rattle.classes.specs.Code.{CodeClause, CodeClauseKind, CatchOf, Finally, OtherKind}
use Rattle.classes.specs.Clauses.{is_proper, lies_well}
use Rattle.clause_regions.specs.declared.Regions.{Regions}
use Rattle.code_places.specs.Among.{is_among}
use Rattle.code_places.specs.Places.{end_of}

abbrev pub kind_seen : ℕ → CodeClauseKind
kind_seen kind = if kind == 0 then CatchOf None else if kind == 2 then Finally else OtherKind

abbrev pub clause_seen : Clause → CodeClause
clause_seen c = record { kind = kind_seen c.kind; try_start = c.try_start; try_end = c.try_end; start = c.start; end = c.end }

abbrev pub regions_of : Clause → Regions
regions_of c = record { attempt = record { from = c.try_start; to = c.try_end }; handler = record { from = c.start; to = c.end } }

-- 44: regions begin where instructions start, and end there or where the code does
abbrev pub is_bound : List ℕ → ℕ → Bool
is_bound code place = is_among (starts_of code) place || nat_eq place (end_of code)

abbrev pub stands_on_starts : List ℕ → CodeClause → Bool
stands_on_starts code c =
    is_among (starts_of code) c.start && (is_among (starts_of code) c.try_start && (is_bound code c.try_end && is_bound code c.end))

-- and they lie well among one another, and against the clauses before them
abbrev pub stands_well : List ℕ → List CodeClause → CodeClause → Bool
stands_well code before c = stands_on_starts code c && (is_proper c && list_all (λ b. lies_well b c) before)
