-- The operand of an instruction by its token.
use Rattle.std.proofs.Common.{◌≡◌, ℕ, ℤ, true, List, Option, refl}
use Rattle.std.specs.Prelude.{pos, unsigned_abs}
use Rattle.cil_opcodes.specs.declared.shape.Operand.{Operand as Kind}
use Rattle.cil_opcodes.specs.declared.shape.Operand.TheVariants as kinds
use Rattle.file_tables.specs.File.{FilePart}
use Rattle.machine.specs.Data.{Id}
use Rattle.classes.specs.Classes.{Classes}
use Rattle.verify_ops.specs.declared.facts.Operand.{Operand}
use Rattle.operand_facts.specs.Operands.{OperandTold, operand_of}
use Rattle.step_facts.specs.Parts.{is_token}

-- of an operand that isn't a token the number isn't asked
pub by_token : (cs : Classes) (arrays : Option Id) (files : List FilePart) (file : ℕ) (x : FilePart) (code : List ℕ) (at next : ℕ) (known : Operand) (kind : Kind) (n : ℤ) (token : ℕ) → (is_token kind ≡ true → unsigned_abs n ≡ token)
    → ((k : ℤ) → unsigned_abs k ≡ token → OperandTold cs arrays (operand_of files file x code at next kind k) known) → OperandTold cs arrays (operand_of files file x code at next kind n) known
by_token cs arrays files file x code at next known kinds.TypeToken n token is told = told n (is refl)
by_token cs arrays files file x code at next known kinds.FieldToken n token is told = told n (is refl)
by_token cs arrays files file x code at next known kinds.MethodToken n token is told = told n (is refl)
by_token cs arrays files file x code at next known kinds.StringToken n token is told = told n (is refl)
by_token cs arrays files file x code at next known kinds.AnyToken n token is told = told n (is refl)
by_token cs arrays files file x code at next known kinds.Nothing n token is told = told (pos token) refl
by_token cs arrays files file x code at next known kinds.Int8 n token is told = told (pos token) refl
by_token cs arrays files file x code at next known kinds.UInt8 n token is told = told (pos token) refl
by_token cs arrays files file x code at next known kinds.UInt16 n token is told = told (pos token) refl
by_token cs arrays files file x code at next known kinds.Int32 n token is told = told (pos token) refl
by_token cs arrays files file x code at next known kinds.Int64 n token is told = told (pos token) refl
by_token cs arrays files file x code at next known kinds.BranchShort n token is told = told (pos token) refl
by_token cs arrays files file x code at next known kinds.BranchLong n token is told = told (pos token) refl
by_token cs arrays files file x code at next known kinds.Switch n token is told = told (pos token) refl
