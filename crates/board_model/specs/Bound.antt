-- What the references of a found set name, and what keeps it from being bound (II.22).
-- Of assemblies of one name and version the first counts.
use Rattle.std.specs.Prelude.{ℕ, zero, suc, Bool, not, ◌&&◌, is_some, if◌then◌else◌, List, [], ◌∷◌, map, length, Option, Some, None, slice_get, slice_index, unwrap_or}
use Rattle.std.specs.Option.{option_map}
use Rattle.machine.specs.Data.{Id}
use Rattle.machine.specs.Program.{Program}
use Rattle.classes.specs.Classes.{Classes}
use Rattle.classes.specs.Code.{Sources}
use Rattle.classes.specs.Listed.{program_of}
use Rattle.classes.specs.Queries.{listed, ends, above, interfaces_of, enclosing_of}
use Rattle.assemblies.specs.Rows.{Assembly, Reference}
use Rattle.assemblies.specs.Binding.{id_at, assembly_of, resolve_ref, resolve_field, resolve_method, classes_of, sources_of}
use Rattle.world_rows.specs.World.{size_of}
use Rattle.image_form.specs.Whole.{seen}
use Rattle.deploy_model.specs.Banks.{Image}
use Rattle.tiny_rows.specs.Rows.{NO_ASSEMBLY}
use Rattle.board_model.specs.First.{first_from}

-- ---- a found set as assemblies

abbrev pub assembly_in : Image → Assembly
assembly_in x = unwrap_or (option_map (λ s. s.1) (seen x.bytes)) NO_ASSEMBLY

abbrev pub set_rows : List Image → List Assembly
set_rows images = map assembly_in images

-- what the names of a set mean, and its program
abbrev pub bound_sources : List Assembly → Sources
bound_sources ps = sources_of (size_of ps) ps

abbrev pub bound_classes : List Assembly → Classes
bound_classes ps = classes_of (size_of ps) ps

abbrev pub bound_program : List Assembly → Program
bound_program ps = program_of (bound_sources ps)

-- ---- references: tables 0 to 3 are those to assemblies, types, fields and methods

abbrev pub row_counts : Assembly → List ℕ
row_counts p = length p.assemblies ∷ length p.refs ∷ length p.field_refs ∷ length p.method_refs ∷ []

abbrev pub rows_at : List Assembly → ℕ → ℕ → ℕ
rows_at ps file table = unwrap_or (option_map (λ p. slice_index (row_counts p) table) (slice_get ps file)) 0

-- what a row of an assembly's table names; of an assembly the row is 0
abbrev pub named : List Assembly → ℕ → ℕ → ℕ → Option Id
named ps file zero n = option_map (λ f. id_at f 0) (assembly_of ps file n)
named ps file (suc zero) n = resolve_ref (size_of ps) ps file n
named ps file (suc (suc zero)) n = resolve_field (size_of ps) ps file (Reference n)
named ps file (suc (suc (suc table))) n = resolve_method (size_of ps) ps file (Reference n)

pub record Row : Type 0 where
  pub assembly : ℕ
  pub table : ℕ
  pub row : ℕ

abbrev pub lacking_row : List Assembly → ℕ → ℕ → ℕ → Option Row
lacking_row ps file table n = if is_some (named ps file table n) then None else Some (record { assembly = file; table = table; row = n })

abbrev pub lacking_table : List Assembly → ℕ → ℕ → Option Row
lacking_table ps file table = first_from (rows_at ps file table) 0 (lacking_row ps file table)

abbrev pub lacking_assembly : List Assembly → ℕ → Option Row
lacking_assembly ps file = first_from 4 0 (lacking_table ps file)

-- the first row that names nothing, by assembly, table and row
abbrev pub first_lacking : List Assembly → Option Row
first_lacking ps = first_from (length ps) 0 (lacking_assembly ps)

-- ---- circles

-- of superclasses, of interfaces or of enclosing types, also one to which the way only leads
abbrev pub goes_in_circle : Classes → Id → Bool
goes_in_circle cs c = not (ends cs.size (above cs) c && (ends cs.size (interfaces_of cs) c && ends cs.size (λ d. listed (enclosing_of cs d)) c))

abbrev pub types_at : List Assembly → ℕ → ℕ
types_at ps file = unwrap_or (option_map (λ (p : Assembly). length p.types) (slice_get ps file)) 0

abbrev pub circle_in : List Assembly → ℕ → Option ℕ
circle_in ps file = first_from (types_at ps file) 0 (λ n. if goes_in_circle (bound_classes ps) (id_at file n) then Some file else None)

-- the assembly of the first type that goes in a circle
abbrev pub first_circle : List Assembly → Option ℕ
first_circle ps = first_from (length ps) 0 (circle_in ps)
