-- When a method's instructions are those of a method as the machine has it.
use Rattle.std.specs.Prelude.{◌≡◌, ℕ, ℤ, true, List, map, Some, Ok, slice_get}
use Rattle.std.specs.List.{list_all}
use Rattle.std.specs.Option.{option_map}
use Rattle.cil_opcodes.specs.declared.shape.Operand.{Operand as Kind}
use Rattle.cil_code.specs.declared.instructions.Instr.{Instr}
use Rattle.cil_code.specs.Instructions.{instruction_at}
use Rattle.cil_code.specs.Walk.{starts_of}
use Rattle.file_tables.specs.File.{FilePart}
use Rattle.machine.specs.Data.{ClassOf}
use Rattle.machine.specs.Program.{Method}
use Rattle.classes.specs.Clauses.{is_proper}
use Rattle.classes.specs.Queries.{array}
use Rattle.world_rows.specs.World.{ecma_sources}
use Rattle.code_rules.specs.Pass.{Step}
use Rattle.code_places.specs.Among.{is_among}
use Rattle.code_places.specs.Places.{goes_well}
use Rattle.code_places.specs.Clauses.{clause_seen}
use Rattle.class_table.specs.Seen.{classes_seen}
use Rattle.place_types.specs.Types.{place_of, place_up, type_of, type_up}
use Rattle.verify_ops.specs.declared.facts.Operand.{Operand}
use Rattle.verify_ops.specs.Facts.{result_of}
use Rattle.ecma_effects.specs.Known.{AllLoaded, IsOperand}
use Rattle.cil_types.specs.Spelt.{AreSpelt}
use Rattle.operand_facts.specs.Operands.{OperandTold, operand_of}
use Rattle.verdict_rules.specs.World.{exception_of, world_of}
use Rattle.pass_steps.specs.Listed.{steps_here}
use Rattle.method_pass.specs.declared.method.MethodSteps.{MethodSteps}

-- what is known of an operand of a file's code is all that is asked of it
abbrev pub AreKnown : List FilePart → ℕ → FilePart → Type 0
AreKnown files file x =
    (code : List ℕ) (at next : ℕ) (kind : Kind) (n : ℤ) (known : Operand)
    → OperandTold (ecma_sources files).classes (array (ecma_sources files).classes) (operand_of files file x code at next kind n) known → IsOperand (ecma_sources files).classes (operand_of files file x code at next kind n) known

pub record AreSteps (s : MethodSteps) (listed : List Step) : Type 0 where
  pub part : FilePart
  pub method : Method
  pub part_is : slice_get s.world.now s.file ≡ Some part
  pub listed_is : listed ≡ steps_here (world_of s.world.now) s.file part method s.listing.now
  -- the code keeps 43, and its clauses have regions
  pub goes : (at : ℕ) (instr : Instr) → is_among (starts_of s.listing.now.code) at ≡ true → instruction_at s.listing.now.code at ≡ Ok instr → goes_well s.listing.now.code (record { at = at; instr = instr }) ≡ true
  pub proper : list_all is_proper (map clause_seen s.listing.now.clauses) ≡ true
  -- the places are those of the method
  pub arguments : map place_of s.arguments.now ≡ map place_up method.arguments
  pub locals : map place_of s.locals.now ≡ map place_up method.locals
  pub result : result_of s.result ≡ option_map place_up method.returns
  pub exception : type_of s.exception ≡ type_up (ClassOf (exception_of (world_of s.world.now)))
  pub max_stack : s.listing.now.max_stack ≡ method.max_stack
  pub arguments_loaded : AllLoaded method.arguments
  pub locals_loaded : AllLoaded method.locals
  -- the classes are known, and are those of the order of types
  pub spelt : AreSpelt (ecma_sources s.world.now).classes
  pub operands : AreKnown s.world.now s.file part
  pub lattice : classes_seen s.lattice.now ≡ (ecma_sources s.world.now).classes
