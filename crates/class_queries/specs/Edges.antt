-- The classes by their numbers, and where their edges lead.
use Rattle.std.specs.Prelude.{ℕ, zero, suc, ◌+◌, List, [], ◌∷◌, ◌++◌, map, length, slice_get, unwrap_or}
use Rattle.std.specs.Option.{option_map}
use Rattle.machine.specs.Data.{Id}
use Rattle.assemblies.specs.Binding.{id_at}
use Rattle.class_table.specs.declared.rows.ClassTable.{ClassTable}
use Rattle.class_table.specs.Seen.{classes_seen}
use Rattle.class_queries.specs.declared.chains.Way.{Way}
use Rattle.class_queries.specs.Chains.{nexts}
use Rattle.class_queries.specs.Numbers.{count_at, total_of, number_of}

-- the first classes of a file
abbrev pub file_classes : ℕ → ℕ → List Id
file_classes k zero = []
file_classes k (suc n) = file_classes k n ++ id_at k n ∷ []

-- those of the first files
abbrev pub first_classes : ClassTable → ℕ → List Id
first_classes t zero = []
first_classes t (suc k) = first_classes t k ++ file_classes k (count_at t k)

abbrev pub all_classes : ClassTable → List Id
all_classes t = first_classes t (length t.files.items)

abbrev pub edges_of : ClassTable → Way → Id → List ℕ
edges_of t w c = map (number_of t) (nexts w (classes_seen t) c)

-- a table and a way as a graph of numbers
abbrev pub graph_size : ClassTable → ℕ
graph_size t = total_of t + 1

abbrev pub graph_next : ClassTable → Way → ℕ → List ℕ
graph_next t w a = unwrap_or (option_map (edges_of t w) (slice_get (all_classes t) a)) []
