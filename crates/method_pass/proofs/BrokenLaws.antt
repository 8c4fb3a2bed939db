-- What is broken whatever lies on the stack, by what is known of an instruction.
use Rattle.std.proofs.Common.{◌≡◌, ℕ, ℤ, Bool, true, false, Option, refl, sym, ap, ◌∙◌}
use Rattle.cil_opcodes.specs.declared.shape.Shape.{Shape}
use Rattle.machine.specs.Data.{CliType}
use Rattle.machine.specs.Program.{Method, Instruction}
use Rattle.classes.specs.Code.{Operand as CodeOperand, MethodCode, Sources}
use Rattle.classes.specs.Listed.{instruction_of}
use Rattle.code_rules.specs.Verdict.{numbered, stands}
use Rattle.code_rules.specs.Verdict.{operand_fits as operand_fits_in}
use Rattle.verify_ops.specs.declared.facts.Facts.{Facts}
use Rattle.verify_ops.specs.Facts.{instruction_by, method_by, operand_fits}
use Rattle.operand_rules.specs.Numbers.{lowest_of_two}
use Rattle.ecma_effects.specs.Known.{IsKnown, IsWhole}
use Rattle.ecma_effects.proofs.Shapes.{same}
use Rattle.pass_steps.specs.Listed.{lowest_unless}
use Rattle.pass_steps.specs.Seen.{fits_seen}
use Rattle.pass_steps.proofs.OrderLaws.{up_order}

module _ (x : Sources) (exception : CliType) (m : Method) (code : MethodCode) (at : ℕ) (o : CodeOperand) (f : Facts) (n : ℤ) (known : IsKnown x exception m o f) (s : Shape) (whole : IsWhole s o n) (well : stands code.clauses at s (instruction_of x.classes code at s o) ≡ true) where
  abbrev here : Option Instruction
  here = instruction_of x.classes code at s o

  abbrev there : Option Instruction
  there = instruction_by s n f.operand

  by : (b : Bool) → operand_fits_in x.classes s o ≡ b → lowest_of_two (operand_fits s f.operand) (numbered (method_by f) there) ≡ lowest_unless true (operand_fits_in x.classes s o) (numbered m here)
  by true e =
      let k = same x exception m code at o f n (fits_seen x) (up_order x) known s in
      let r = k.rows e whole well in
      ap (λ b. lowest_of_two b (numbered (method_by f) there)) (k.takes ∙ e)
      ∙ ap (λ i. lowest_of_two true (numbered (method_by f) i)) r.there
      ∙ ap (λ b. lowest_of_two true b) r.number
      ∙ sym (ap (λ b. lowest_unless true b (numbered m here)) e ∙ ap (λ i. lowest_unless true true (numbered m i)) r.here)
  by false e =
      let k = same x exception m code at o f n (fits_seen x) (up_order x) known s in
      ap (λ b. lowest_of_two b (numbered (method_by f) there)) (k.takes ∙ e)
      ∙ sym (ap (λ b. lowest_unless true b (numbered m here)) e)

  pub broken_same : lowest_of_two (operand_fits s f.operand) (numbered (method_by f) there) ≡ lowest_unless true (operand_fits_in x.classes s o) (numbered m here)
  broken_same = by (operand_fits_in x.classes s o) refl
