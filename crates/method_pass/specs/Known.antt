-- What is asked of a method with a body, and of its world, to tell its pass.
use Rattle.std.specs.Prelude.{◌≡◌, ℕ, true, List, map, Some, None, slice_get}
use Rattle.std.specs.Option.{option_map}
use Rattle.cil_code.specs.Bodies.{BodyPart}
use Rattle.file_tables.specs.File.{FilePart}
use Rattle.machine.specs.Program.{Method}
use Rattle.classes.specs.Queries.{type_of}
use Rattle.assemblies.specs.Binding.{id_at}
use Rattle.world_rows.specs.Lines.{is_locals_token}
use Rattle.world_rows.specs.World.{ecma_sources}
use Rattle.class_table.specs.declared.rows.ClassTable.{ClassTable}
use Rattle.class_table.specs.Whole.{IsTable}
use Rattle.place_types.specs.Types.{place_of, place_up}
use Rattle.verify_ops.specs.Facts.{result_of}
use Rattle.ecma_effects.specs.Known.{AllLoaded}
use Rattle.cil_types.specs.Spelt.{AreSpelt}
use Rattle.method_facts.specs.declared.method.MethodPlaces.{MethodPlaces}
use Rattle.method_facts.specs.Members.{PlacesTold}
use Rattle.method_facts.specs.Places.{type_to}
use Rattle.local_places.specs.Locals.{locals_meant}
use Rattle.verdict_rules.specs.World.{world_of}
use Rattle.code_tests.specs.Tests.{first_broken, tests_before}
use Rattle.method_pass.specs.Steps.{AreKnown}

-- the places that a table tells of a method
pub record HasPlaces (files : List FilePart) (file row : ℕ) (m : Method) : Type 0 where
  pub there : (t : ClassTable) → IsTable files t → PlacesTold t (id_at file row) None → ⊥
  pub arguments : (t : ClassTable) (p : MethodPlaces) → IsTable files t → PlacesTold t (id_at file row) (Some p) → map place_of p.arguments.items ≡ map place_up m.arguments
  pub result : (t : ClassTable) (p : MethodPlaces) → IsTable files t → PlacesTold t (id_at file row) (Some p) → result_of p.result ≡ option_map place_up m.returns
  pub loaded : (t : ClassTable) (p : MethodPlaces) → IsTable files t → PlacesTold t (id_at file row) (Some p) → AllLoaded m.arguments

-- the locals that the token of a body tells, and its stack
pub record HasLocals (files : List FilePart) (file : ℕ) (x : FilePart) (m : Method) (b : BodyPart) : Type 0 where
  pub token : is_locals_token x.metadata b.locals_token ≡ true
  pub locals : map place_of (map (λ s. type_to (type_of (ecma_sources files).classes s)) (locals_meant files file x b.locals_token)) ≡ map place_up m.locals
  pub loaded : AllLoaded m.locals
  pub max_stack : m.max_stack ≡ b.max_stack

-- a method with a body that keeps 41 to 44, of a world the classes of which are known
pub record IsKnownMethod (files : List FilePart) (file row : ℕ) (x : FilePart) (m : Method) (b : BodyPart) : Type 0 where
  pub part : slice_get files file ≡ Some x
  pub spelt : AreSpelt (ecma_sources files).classes
  pub operands : AreKnown files file x
  pub places : HasPlaces files file row m
  pub locals : HasLocals files file x m b
  pub before : first_broken (tests_before (world_of files) file x m b) ≡ None
