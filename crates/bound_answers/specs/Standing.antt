-- Rows of images that stand, and which clauses of a method hold others.
use Rattle.std.specs.Prelude.{◌≡◌, ℕ, ◌<◌, ◌≤◌, ◌^◌, Bool, false, List, length, Option, Some, IsSome, slice_get}
use Rattle.std.specs.Str.{IsUtf8}
use Rattle.board_types.specs.declared.board.TypeAt.{TypeAt}
use Rattle.board_types.specs.declared.board.ClauseAt.{ClauseAt}
use Rattle.board_model.specs.Bound.{bound_classes}
use Rattle.machine.specs.Data.{Id}
use Rattle.assemblies.specs.Rows.{Assembly, TypeRow, RawClause, RawCode, MethodRow}
use Rattle.memory_states.specs.Told.{is_round}
use Rattle.tiny_clauses.specs.Clauses.{AreKnown}
use Rattle.bound_answers.specs.Told.{clauses}

-- a class of the set
abbrev pub IsThere : List Assembly → Id → Type 0
IsThere ps c = IsSome ((bound_classes ps).class c)

-- the rows and the places in code have numbers of 16 bits
pub record HasWords (c : RawCode) : Type 0 where
  pub clauses : length c.clauses ≤ 65535
  pub starts : (k : ℕ) (x : RawClause) → slice_get c.clauses k ≡ Some x → x.start < 2 ^ 16

-- what every image says of types and clauses
pub record IsImage (p : Assembly) : Type 0 where
  pub types : length p.types ≤ 65535
  pub names : (n : ℕ) (t : TypeRow) → slice_get p.types n ≡ Some t → IsUtf8 t.namespace × IsUtf8 t.name
  pub known : AreKnown p
  pub words : (n : ℕ) (m : MethodRow) (c : RawCode) → slice_get p.methods n ≡ Some m → m.code ≡ Some c → HasWords c

abbrev pub AreImages : List Assembly → Type 0
AreImages ps = (file : ℕ) (p : Assembly) → slice_get ps file ≡ Some p → IsImage p

-- whether the try of a method's clause holds that of another
abbrev pub round_at : Option ClauseAt → Option ClauseAt → Bool
round_at (Some c) (Some inner) = is_round c inner
round_at _ _ = false

abbrev pub outer : List Assembly → Id → ℕ → ℕ → Bool
outer ps id j k =
    let method : TypeAt = record { assembly = id.file; row = id.row } in
    round_at (slice_get (clauses ps method) j) (slice_get (clauses ps method) k)
