-- Literals of instructions, of bodies and of files.
use Rattle.std.proofs.Common.{◌≡◌, ◌≢◌, ℕ, suc, ◌+◌, ◌-◌, ◌*◌, ◌/◌, ◌%◌, ◌^◌, ◌<◌, ◌≤◌, Bool, true, false, List, [], ◌∷◌, ◌++◌, map, length, take, Option, Some, None, Ok, Err, refl, sym, ap, ◌∙◌, arith, append_assoc}
use Rattle.std.specs.Prelude.{◌==◌, ◌||◌, if◌then◌else◌, unsigned_abs, slice_index, slice_index_or, option_and_then}
use Rattle.std.specs.List.{flat_map, filter_map}
use Rattle.std.specs.Option.{option_map, option_map_or}
use Rattle.std.proofs.lemmas.Bool.{eqb-true}
use Rattle.std.proofs.lemmas.List.{length-take, append-nil}
use Rattle.file_tables.specs.Heaps.{blob_at, units_of, user_string_at}
use Rattle.file_tables.specs.Metadata.{MetadataPart, rows_of}
use Rattle.file_tables.specs.File.{FilePart}
use Rattle.cil_opcodes.specs.declared.shape.Operand.{Operand}
use Rattle.cil_opcodes.specs.declared.shape.Operand.TheVariants as kinds
use Rattle.cil_opcodes.specs.declared.shape.Row.{Row}
use Rattle.cil_opcodes.specs.Rows.{row_of}
use Rattle.cil_code.specs.declared.fault.CodeFault.{CodeFault}
use Rattle.cil_code.specs.declared.instructions.Instr.{Instr}
use Rattle.cil_code.specs.Instructions.{instruction_at}
use Rattle.cil_code.specs.Walk.{Placed, Walk, walk_from, instructions_of}
use Rattle.cil_code.specs.Bodies.{BodyPart}
use Rattle.cil_code.proofs.Walked.{walk_ends, walk_fails, walk_goes}
use Rattle.kept_rows.specs.Select.{select, below}
use Rattle.short_code.specs.Short.{to_short}
use Rattle.code_shrink.specs.Shrunk.{pieces_of}
use Rattle.assemblies.specs.Rows.{RawOperand, RawNothing, RawNumber, RawTargets, RawTypeOf, RawField, RawMethod, RawText, RawLine}
use Rattle.assemblies.specs.Chosen.{line_to, operand_to}
use Rattle.image_form.specs.Form.{units_onto}
use Rattle.world_rows.specs.Tokens.{methods}
use Rattle.world_rows.specs.Lines.{units_from, raw_operand, raw_line, line_by, lines_of}
use Rattle.msspot_write.specs.declared.parts.PartLiteral.{PartLiteral}
use Rattle.msspot_write.specs.Spelt.{operand_parts}
use Rattle.row_numbers.specs.declared.table.Table.TheVariants as table
use Rattle.kept_marks.specs.Masks.{Masks, choice_of_rows}
use Rattle.converted.specs.Bodies.{body_of}
use Rattle.kept_bodies.specs.Kept.{body_at}
use Rattle.kept_bodies.specs.Literals.{loaded_as, loaded_by, literals_of, literals_made, literals_from, literal_rows}
use Rattle.kept_bodies.specs.Walk.{parts_from}
use Rattle.kept_bodies.proofs.WalkLaws.{walked, by_places, row_there}

-- ---- units in bytes

either : (a b : Bool) → (a || b) ≡ true → (b ≡ false → a ≡ true)
either true b e h = refl
either false true e h = absurd (cc h)
either false false e h = e

even_units : (entry bytes : List ℕ) → units_of entry ≡ Some bytes → length bytes % 2 ≡ 0
unfolding units_of
even_units entry bytes e = go (length entry == 0) (length entry % 2 == 1) refl refl e
  where
    even : (length entry ≡ 0 → ⊥) → length entry % 2 ≡ 1 → (length entry - 1) % 2 ≡ 0
    even some odd = omega (arith, some, odd)

    go : (a b : Bool) → (length entry == 0) ≡ a → (length entry % 2 == 1) ≡ b → (if a || b then Some (take (length entry - 1) entry) else None) ≡ Some bytes → length bytes % 2 ≡ 0
    go true b p q h =
        let same : take (length entry - 1) entry ≡ bytes = cc h in
        let none = eqb-true (length entry) 0 p in
        let count : length bytes ≡ 0 = sym (ap length same) ∙ omega (arith, none, length-take (length entry - 1) entry) in
        omega (arith, count)
    go false true p q h =
        let same : take (length entry - 1) entry ≡ bytes = cc h in
        let odd = eqb-true (length entry % 2) 1 q in
        let count : length bytes ≡ length entry - 1 = sym (ap length same) ∙ omega (arith, length-take (length entry - 1) entry) in
        omega (arith, count, odd)
    go false false p q h = absurd (cc h)

pub even_text : (heap : List ℕ) (at : ℕ) (bytes : List ℕ) → user_string_at heap at ≡ Some bytes → length bytes % 2 ≡ 0
unfolding user_string_at
even_text heap at bytes e = go (blob_at heap at) e
  where
    go : (o : Option (List ℕ)) → option_and_then units_of o ≡ Some bytes → length bytes % 2 ≡ 0
    go None h = absurd (cc h)
    go (Some entry) h = even_units entry bytes h

pub units_back : (bytes : List ℕ) → length bytes % 2 ≡ 0 → ((k : ℕ) → slice_index bytes k < 2 ^ 8) → units_onto (units_from bytes) ≡ bytes
units_back [] even small = refl
units_back (a ∷ []) even small = absurd (omega (arith, even))
units_back (a ∷ b ∷ bytes) even small =
    let low : a < 256 = small 0 in
    let first : (a + 256 * b) % 256 ≡ a = omega (arith, low) in
    let second : (a + 256 * b) / 256 ≡ b = omega (arith, low) in
    ap (λ n. n ∷ (a + 256 * b) / 256 ∷ units_onto (units_from bytes)) first
    ∙ ap (λ n. a ∷ n ∷ units_onto (units_from bytes)) second
    ∙ ap (λ ns. a ∷ b ∷ ns) (units_back bytes (omega (arith, even)) (λ k. small (suc (suc k))))

-- ---- instructions

pub other_operand : (m : MetadataPart) (kind : Operand) (n : ℕ) → kind ≢ kinds.StringToken → loaded_as m kind n ≡ RawNothing
other_operand m kinds.Nothing n h = refl
other_operand m kinds.Int8 n h = refl
other_operand m kinds.UInt8 n h = refl
other_operand m kinds.UInt16 n h = refl
other_operand m kinds.Int32 n h = refl
other_operand m kinds.Int64 n h = refl
other_operand m kinds.BranchShort n h = refl
other_operand m kinds.BranchLong n h = refl
other_operand m kinds.Switch n h = refl
other_operand m kinds.TypeToken n h = refl
other_operand m kinds.FieldToken n h = refl
other_operand m kinds.MethodToken n h = refl
other_operand m kinds.StringToken n h = absurd (h refl)
other_operand m kinds.AnyToken n h = refl

no_line : {A B : Type 0} (f : A → Option B) (x : A) (xs : List A) → f x ≡ None → filter_map f (x ∷ xs) ≡ filter_map f xs
no_line f x xs e = rw e refl

one_line : {A B : Type 0} (f : A → Option B) (x : A) (xs : List A) (y : B) → f x ≡ Some y → filter_map f (x ∷ xs) ≡ y ∷ filter_map f xs
one_line f x xs y e = rw e refl

module _ (kept : Masks) (m : MetadataPart) (method : ℕ) (short : ℕ → ℕ) where
  -- an operand that is moved loads what it loaded
  moved : (at : ℕ) (o : RawOperand) → operand_parts method at (operand_to (choice_of_rows kept) short o) ≡ operand_parts method at o
  moved at RawNothing = refl
  moved at (RawNumber n) = refl
  moved at (RawTargets to) = refl
  moved at (RawTypeOf t) = refl
  moved at (RawField t) = refl
  moved at (RawMethod t) = refl
  moved at (RawText units) = refl

  loads : (code : List ℕ) (at next : ℕ) (kind : Operand) (i : Instr) → operand_parts method (short at) (raw_operand m code at next kind i.operand) ≡ operand_parts method (short at) (loaded_as m kind (unsigned_abs i.operand))
  loads code at next kinds.Nothing i = refl
  loads code at next kinds.Int8 i = refl
  loads code at next kinds.UInt8 i = refl
  loads code at next kinds.UInt16 i = refl
  loads code at next kinds.Int32 i = refl
  loads code at next kinds.Int64 i = refl
  loads code at next kinds.BranchShort i = refl
  loads code at next kinds.BranchLong i = refl
  loads code at next kinds.Switch i = refl
  loads code at next kinds.TypeToken i = refl
  loads code at next kinds.FieldToken i = refl
  loads code at next kinds.MethodToken i = refl
  loads code at next kinds.StringToken i = refl
  loads code at next kinds.AnyToken i = refl

  abbrev line_parts : RawLine → List PartLiteral
  line_parts l = operand_parts method l.at l.operand

  abbrev to : RawLine → RawLine
  to l = line_to (choice_of_rows kept) short l

  abbrev loaded : Instr → Option Row → RawOperand
  loaded i o = option_map_or (λ row. loaded_as m row.operand (unsigned_abs i.operand)) o RawNothing

  of_lines : (code : List ℕ) (is : List Placed) → flat_map line_parts (map to (filter_map (raw_line m code) is)) ≡ literals_of m method short is
  of_lines code [] = refl
  of_lines code (i ∷ is) = go (row_of i.instr.op) refl (of_lines code is)
    where
      go : (o : Option Row) → row_of i.instr.op ≡ o → flat_map line_parts (map to (filter_map (raw_line m code) is)) ≡ literals_of m method short is → flat_map line_parts (map to (filter_map (raw_line m code) (i ∷ is))) ≡ operand_parts method (short i.at) (loaded_by m i.instr) ++ literals_of m method short is
      go None e rest =
          ap (λ ls. flat_map line_parts (map to ls)) (no_line (raw_line m code) i is (ap (option_map (line_by m code i)) e))
          ∙ rest
          ∙ sym (ap (λ o. operand_parts method (short i.at) (loaded i.instr o) ++ literals_of m method short is) e)
      go (Some row) e rest =
          let next = i.at + i.instr.length in
          ap (λ ls. flat_map line_parts (map to ls)) (one_line (raw_line m code) i is (line_by m code i row) (ap (option_map (line_by m code i)) e))
          ∙ ap (λ ls. ls ++ flat_map line_parts (map to (filter_map (raw_line m code) is))) (moved (short i.at) (raw_operand m code i.at next row.operand i.instr.operand) ∙ loads code i.at next row.operand i.instr)
          ∙ ap (λ ls. operand_parts method (short i.at) (loaded_as m row.operand (unsigned_abs i.instr.operand)) ++ ls) rest
          ∙ sym (ap (λ o. operand_parts method (short i.at) (loaded i.instr o) ++ literals_of m method short is) e)

-- ---- bodies

pub body_literals : (kept : Masks) (m : MetadataPart) (method : ℕ) (b : BodyPart) → literals_of m method (to_short (pieces_of b.code)) (instructions_of b.code) ≡ literals_made kept m method (Some b)
unfolding lines_of
body_literals kept m method b = sym (of_lines kept m method (to_short (pieces_of b.code)) b.code (instructions_of b.code))

-- ---- code, instruction by instruction

module _ (m : MetadataPart) (method : ℕ) (short : ℕ → ℕ) (code : List ℕ) (at : ℕ) (now whole : List PartLiteral) (before : now ++ literals_of m method short (walk_from code at).met ≡ whole) where
  pub loaded_on : (instr : Instr) (next : List PartLiteral) → instruction_at code at ≡ Ok instr → next ≡ now ++ operand_parts method (short at) (loaded_by m instr) → next ++ literals_of m method short (walk_from code (at + instr.length)).met ≡ whole
  loaded_on instr next stands pushed =
      ap (λ ls. ls ++ literals_of m method short (walk_from code (at + instr.length)).met) pushed
      ∙ append_assoc now (operand_parts method (short at) (loaded_by m instr)) (literals_of m method short (walk_from code (at + instr.length)).met)
      ∙ sym (ap (λ (w : Walk). now ++ literals_of m method short w.met) (walk_goes code at instr stands))
      ∙ before

  pub faulty_end : (fault : CodeFault) → at < length code → instruction_at code at ≡ Err fault → now ≡ whole
  faulty_end fault inside stands = sym (append-nil now) ∙ sym (ap (λ (w : Walk). now ++ literals_of m method short w.met) (walk_fails code at fault inside stands)) ∙ before

  pub code_end : length code ≤ at → now ≡ whole
  code_end past = sym (append-nil now) ∙ sym (ap (λ (w : Walk). now ++ literals_of m method short w.met) (walk_ends code at past)) ∙ before

-- ---- a file

module _ (kept : Masks) (x : FilePart) where
  abbrev of_row : ℕ → List ℕ → List PartLiteral
  of_row number row = literals_made kept x.metadata number (body_of x row)

  one_by_one : (number : ℕ) (rows : List (List ℕ)) → walked of_row (λ row. 1) number rows ≡ literals_from kept x number rows
  one_by_one number [] = refl
  one_by_one number (row ∷ rows) = ap (λ ls. of_row number row ++ ls) (one_by_one (number + 1) rows)

  pub literals_walked : parts_from (kept table.MethodDef) (λ first n. literals_made kept x.metadata (below (kept table.MethodDef) n) (body_at x n)) (λ n. 0) (length (rows_of x.metadata methods)) 0 0 ≡ literal_rows kept x
  literals_walked =
      by_places (kept table.MethodDef) (λ first n. literals_made kept x.metadata (below (kept table.MethodDef) n) (body_at x n)) of_row (kept table.MethodDef) 0 0 (rows_of x.metadata methods)
      (λ i. let same : 0 + i ≡ i = omega arith in ap (kept table.MethodDef) same)
      (λ i row e at. let same : 0 + i ≡ i = omega arith in ap (λ k. of_row (below (kept table.MethodDef) (0 + i)) (slice_index_or (rows_of x.metadata methods) k [])) same ∙ ap (of_row (below (kept table.MethodDef) (0 + i))) (row_there (rows_of x.metadata methods) i row e))
      ∙ one_by_one 0 (select (kept table.MethodDef) (rows_of x.metadata methods))
