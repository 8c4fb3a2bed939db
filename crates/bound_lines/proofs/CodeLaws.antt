-- Instructions of an image as lines, and literals.
use Rattle.std.proofs.Common.{◌≡◌, ℕ, zero, suc, ◌+◌, ◌≤◌, List, [], drop, length, Option, Some, None, refl, sym, ap, ◌∙◌, arith}
use Rattle.std.specs.Prelude.{IfSome, slice_get, slice_index, unwrap_or}
use Rattle.std.specs.Option.{option_map}
use Rattle.std.proofs.lemmas.List.{get_or_past, length-take}
use Rattle.cil_opcodes.specs.Rows.{row_of as opcode_row}
use Rattle.machine.specs.Throw.{on_some}
use Rattle.assemblies.specs.Rows.{Assembly}
use Rattle.assemblies.specs.Binding.{operand}
use Rattle.image_bytes.specs.Layout.{Image, rows_of}
use Rattle.image_form.specs.Codes.{short, size, Instr, read_instr, line_of, text_operand}
use Rattle.image_form.specs.Form.{part, units_of, meaning}
use Rattle.image_form.specs.Whole.{table, bytes_at, texts_in}
use Rattle.image_pools.specs.Pools.{text_at}
use Rattle.msspot_read.specs.Held.{held_of}
use Rattle.msspot_read.specs.Rows.{row_of, column_of, code_of, text_in}
use Rattle.board_program.specs.Code.{raw_at}
use Rattle.tiny_rows.proofs.Parts.{rows_are}
use Rattle.tiny_code.specs.declared.instruction.CodeInstr.{CodeInstr}
use Rattle.tiny_code.specs.Numbers.{instr_of, instr_seen}
use Rattle.bound_lines.specs.Lines.{literal_at, text_seen, raw_seen}

-- ---- code

nothing_left : (at : ℕ) → drop {A = ℕ} at [] ≡ []
nothing_left zero = refl
nothing_left (suc at) = refl

-- past the last method
pub no_code : (i : Image) (n at : ℕ) → rows_of i 7 ≤ n → None ≡ raw_at i n at
no_code i n at high =
    let many = rows_are i 7 in
    let none : row_of i 7 n ≡ [] = get_or_past (table i 7) n [] (omega (arith, high, many)) in
    sym (ap (λ (r : List ℕ). option_map (λ (x : Instr × List ℕ). line_of (meaning (held_of i)) short at x.0) (read_instr opcode_row short (drop at (part (slice_index r 3) (slice_index r 4) (bytes_at i 2))))) none
    ∙ ap (λ (bytes : List ℕ). option_map (λ (x : Instr × List ℕ). line_of (meaning (held_of i)) short at x.0) (read_instr opcode_row short bytes)) (nothing_left at))

pub code_few : (i : Image) (n size : ℕ) (code : List ℕ) → code ≡ code_of i n → size ≡ column_of i 7 n 4 → length code ≤ size
code_few i n size code is e =
    let long = ap length is ∙ length-take (column_of i 7 n 4) (drop (column_of i 7 n 3) (bytes_at i 2)) in
    omega (arith, long, e)

pub raw_is : (i : Image) (n at : ℕ) (code : List ℕ) (r : Option CodeInstr) → code ≡ code_of i n → option_map (instr_seen code) r ≡ read_instr opcode_row short (drop at code) → IfSome r (λ x. x.next ≡ at + size short (instr_of x)) → option_map (raw_seen i at) r ≡ raw_at i n at
raw_is i n at code None is e place = ap (option_map (λ (x : Instr × List ℕ). line_of (meaning (held_of i)) short at x.0)) (e ∙ ap (λ (bytes : List ℕ). read_instr opcode_row short (drop at bytes)) is)
raw_is i n at code (Some x) is e place =
    ap (λ (next : ℕ). Some (raw_seen i at (record x { next = next }))) place
    ∙ ap (option_map (λ (y : Instr × List ℕ). line_of (meaning (held_of i)) short at y.0)) (e ∙ ap (λ (bytes : List ℕ). read_instr opcode_row short (drop at bytes)) is)

-- ---- literals

no_units : (o : Option (List (List ℕ))) (at : ℕ) → on_some (on_some o (λ ts. text_at ts at)) units_of ≡ on_some (text_at (unwrap_or o []) at) units_of
no_units None at = refl
no_units (Some ts) at = refl

told : (k : ℕ) (ps : List Assembly) (f : ℕ) (o : Option (List ℕ)) → text_seen o ≡ operand k ps f (text_operand o)
told k ps f None = refl
told k ps f (Some units) = refl

pub text_is : (images : List Image) (i : Image) (k : ℕ) (ps : List Assembly) (f at : ℕ) → Some i ≡ slice_get images f → text_seen (literal_at images f at) ≡ operand k ps f (text_operand ((meaning (held_of i)).text at))
text_is images i k ps f at here =
    ap (λ (o : Option Image). text_seen (on_some o (λ x. on_some (text_in x 0 at) units_of))) (sym here)
    ∙ ap text_seen (no_units (texts_in (bytes_at i 0)) at)
    ∙ told k ps f ((meaning (held_of i)).text at)
