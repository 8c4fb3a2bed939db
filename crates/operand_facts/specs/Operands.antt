-- An operand of code as what is known of it.
use Rattle.std.specs.Prelude.{◌≡◌, ◌⊎◌, ℕ, ℤ, List, Option, Some, None}
use Rattle.cil_opcodes.specs.declared.shape.Operand.{Operand as Kind}
use Rattle.file_tables.specs.File.{FilePart}
use Rattle.machine.specs.Data.{Id}
use Rattle.classes.specs.Classes.{Classes}
use Rattle.classes.specs.Code.{Operand as CodeOperand, NoOperand, Number, Targets, OfType, OfField, OfMethod, OfText, Unresolved}
use Rattle.classes.specs.Queries.{type_of}
use Rattle.assemblies.specs.Binding.{operand}
use Rattle.world_rows.specs.Lines.{raw_operand}
use Rattle.world_rows.specs.World.{assemblies_of}
use Rattle.member_reading.specs.Meant.{scopes}
use Rattle.verify_ops.specs.declared.facts.Operand.{Operand}
use Rattle.verify_ops.specs.declared.facts.Operand.TheVariants as known
use Rattle.verify_ops.specs.declared.facts.FieldOperand.{FieldOperand}
use Rattle.verify_ops.specs.declared.facts.MethodOperand.{MethodOperand}
use Rattle.method_facts.specs.Places.{type_to}
use Rattle.method_facts.specs.Members.{FieldTold, MethodTold}

abbrev pub field_or_none : Option FieldOperand → Operand
field_or_none None = known.Unresolved
field_or_none (Some f) = known.Field f

abbrev pub method_or_none : Option MethodOperand → Operand
method_or_none None = known.Unresolved
method_or_none (Some m) = known.Method m

-- what is known is what the rows tell of what the operand names, where it names something, and where the class of arrays is known
abbrev pub OperandTold : Classes → Option Id → CodeOperand → Operand → Type 0
OperandTold cs arrays NoOperand p = (p ≡ known.Nothing) ⊎ (p ≡ known.Unresolved)
OperandTold cs arrays (Number n) p = p ≡ known.Nothing
OperandTold cs arrays (Targets to) p = p ≡ known.Nothing
OperandTold cs arrays (OfType s) p = p ≡ known.OfType (type_to (type_of cs s))
OperandTold cs arrays (OfField id) p = (o : Option FieldOperand) × FieldTold cs id o × (p ≡ field_or_none o)
OperandTold cs arrays (OfMethod id) p = (o : Option MethodOperand) × MethodTold cs arrays id o × (p ≡ method_or_none o)
OperandTold cs arrays (OfText units) p = p ≡ known.Text
OperandTold cs arrays Unresolved p = p ≡ known.Unresolved

-- the operand of an instruction whose operand has a kind and a number
abbrev pub operand_of : List FilePart → ℕ → FilePart → List ℕ → ℕ → ℕ → Kind → ℤ → CodeOperand
operand_of files file f code at next kind n = operand (scopes files) (assemblies_of files) file (raw_operand f.metadata code at next kind n)
