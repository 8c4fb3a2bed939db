-- What is told of a bound set of images: which classes are below which, and the exception clauses of methods.
use Rattle.std.specs.Prelude.{ℕ, Bool, ◌&&◌, nat_le, nat_lt, List, take}
use Rattle.board_types.specs.declared.board.TypeAt.{TypeAt}
use Rattle.board_types.specs.declared.board.ClauseAt.{ClauseAt}

pub record Told : Type 0 where
  pub sub : TypeAt → TypeAt → Bool
  pub clauses : TypeAt → List ClauseAt

-- clauses are told by numbers of 16 bits
abbrev pub told : (TypeAt → TypeAt → Bool) → (TypeAt → List ClauseAt) → Told
told sub clauses = record { sub = sub; clauses = λ method. take 65536 (clauses method) }

abbrev pub is_between : ℕ → ℕ → ℕ → Bool
is_between from to at = nat_le from at && nat_lt at to

abbrev pub in_try : ClauseAt → ℕ → Bool
in_try c at = is_between c.try_start c.try_end at

abbrev pub in_handler : ClauseAt → ℕ → Bool
in_handler c at = is_between c.start c.end at

-- the try of the first holds that of the second
abbrev pub is_round : ClauseAt → ClauseAt → Bool
is_round c inner = nat_le c.try_start inner.try_start && nat_le inner.try_end c.try_end
