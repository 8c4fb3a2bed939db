-- What is told of a set by its images' rows.
use Rattle.std.specs.Prelude.{ℕ, Bool, ◌&&◌, not, List, [], map, Option, Some, None, slice_get, unwrap_or}
use Rattle.std.specs.Option.{option_map}
use Rattle.board_types.specs.declared.board.TypeAt.{TypeAt}
use Rattle.board_types.specs.declared.board.ClauseAt.{ClauseAt}
use Rattle.board_types.specs.declared.board.TheConstants.{NO_ROW}
use Rattle.board_ids.specs.Ids.{id_of, is_no_row}
use Rattle.board_model.specs.Bound.{bound_classes}
use Rattle.machine.specs.Data.{Id}
use Rattle.machine.specs.Throw.{on_some}
use Rattle.classes.specs.Queries.{data_of, is_sub}
use Rattle.assemblies.specs.Rows.{Assembly, FieldRow, RawKind, RawCatch, RawFinally, RawOther, RawClause}
use Rattle.assemblies.specs.Binding.{resolve}
use Rattle.world_rows.specs.World.{size_of}
use Rattle.tiny_clauses.specs.Clauses.{clauses_at}

abbrev pub NO_TYPE : TypeAt
NO_TYPE = record { assembly = 0; row = NO_ROW }

-- the row that is none is below no class, and no class below it
abbrev pub sub : List Assembly → TypeAt → TypeAt → Bool
sub ps a b = not (is_no_row b) && is_sub (bound_classes ps) (id_of a) (id_of b)

-- ---- clauses

abbrev pub type_at : Option Id → TypeAt
type_at None = NO_TYPE
type_at (Some id) = record { assembly = id.file; row = id.row }

abbrev pub kind_number : RawKind → ℕ
kind_number (RawCatch class) = 0
kind_number RawFinally = 2
kind_number RawOther = 0

-- the class that a catch takes; none where its token names none, as that of a specification
abbrev pub class_taken : List Assembly → ℕ → RawKind → TypeAt
class_taken ps file (RawCatch class) = type_at (resolve (size_of ps) ps file class)
class_taken ps file RawFinally = NO_TYPE
class_taken ps file RawOther = NO_TYPE

abbrev pub clause_told : List Assembly → ℕ → RawClause → ClauseAt
clause_told ps file c =
    record { kind = kind_number c.kind; class = class_taken ps file c.kind; try_start = c.try_start; try_end = c.try_end; start = c.start; end = c.end }

abbrev pub clauses : List Assembly → TypeAt → List ClauseAt
clauses ps method = map (clause_told ps method.assembly) (unwrap_or (option_map (λ (p : Assembly). clauses_at p method.row) (slice_get ps method.assembly)) [])

-- ---- bytes

-- those of the field of an assembly's row
abbrev pub data_in : Assembly → ℕ → List ℕ
data_in p row = unwrap_or (on_some (slice_get p.fields row) (λ (f : FieldRow). data_of f.kind)) []

abbrev pub bytes : List Assembly → TypeAt → List ℕ
bytes ps field = unwrap_or (option_map (λ (p : Assembly). data_in p field.row) (slice_get ps field.assembly)) []
