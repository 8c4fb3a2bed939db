-- The code of files that the verdict accepts can be shortened, and names what is there (rules 41 to 46).
use Rattle.std.proofs.Common.{◌≡◌, ℕ, zero, suc, ◌-◌, ◌<◌, Bool, true, false, cond, List, [], ◌∷◌, ◌++◌, map, length, Option, Some, None, refl, sym, ap, ◌∙◌, subst, arith}
use Rattle.std.specs.Prelude.{◌&&◌, nat_lt, is_some, unsigned_abs, if◌then◌else◌, slice_get}
use Rattle.std.specs.Option.{option_map}
use Rattle.std.proofs.lemmas.Bool.{and_parts}
use Rattle.cil_opcodes.specs.declared.shape.Operand.{Operand as Kind}
use Rattle.cil_opcodes.specs.declared.shape.Operand.TheVariants as kinds
use Rattle.cil_opcodes.specs.declared.shape.Shape.{Shape}
use Rattle.cil_opcodes.specs.declared.shape.Shape.TheVariants as shape
use Rattle.cil_opcodes.specs.declared.shape.Row.{Row}
use Rattle.cil_opcodes.specs.declared.table.TheConstants.{ONE_BYTE, TWO_BYTES}
use Rattle.cil_opcodes.specs.Rows.{entry_of, row_of}
use Rattle.cil_code.specs.declared.fault.CodeFault.{CodeFault}
use Rattle.cil_code.specs.Bodies.{BodyPart}
use Rattle.cil_code.specs.Walk.{code_fault}
use Rattle.file_tables.specs.Metadata.{rows_of}
use Rattle.file_tables.specs.File.{FilePart}
use Rattle.machine.specs.Data.{ClassOf}
use Rattle.classes.specs.Code.{MethodCode}
use Rattle.classes.specs.Listed.{text_of}
use Rattle.assemblies.specs.Rows.{MethodRow, Assembly}
use Rattle.assemblies.specs.Binding.{numbered, operand}
use Rattle.assemblies.specs.Chosen.{Choice}
use Rattle.assemblies.specs.Closed.{Each}
use Rattle.image_form.specs.Codes.{Instr, IsSound, operand_of, text_operand, line_of, long, number_of}
use Rattle.kept_closure.specs.Named.{InOption, InOperand, InLine, InCode}
use Rattle.kept_closure.specs.Kept.{HasType, HasMethod, HasField, HasNamed}
use Rattle.world_rows.specs.Tokens.{methods}
use Rattle.world_rows.specs.Lines.{raw_code, lines_of as file_lines}
use Rattle.world_rows.specs.Rows.{method_row}
use Rattle.world_rows.specs.World.{size_of, rows_alone, assemblies_of, ecma_sources}
use Rattle.code_rules.specs.Pass.{Step}
use Rattle.code_rules.specs.Judgement.{lattice_of, steps_of}
use Rattle.code_rules.specs.Verdict.{operand_fits, passed}
use Rattle.verdict_rules.specs.Order.{Test, first_fault}
use Rattle.verdict_rules.specs.World.{World, world_of, exception_of}
use Rattle.verdict_rules.specs.Code.{walk_test, target_test, clause_test, pass_test, listed_tests}
use Rattle.verdict_laws.proofs.Kept.{head_kept}
use Rattle.verdict_laws.proofs.Rows.{native, from_zero, whole, file_at}
use Rattle.rows_resolved.specs.Resolved.{IsAccepted}
use Rattle.rows_resolved.proofs.Codes.{BodyKept}
use Rattle.rows_resolved.proofs.Accepted.{bodies}
use Rattle.code_places.specs.Places.{first_astray}
use Rattle.code_tests.specs.Tests.{first_broken, code_meant, tests_of, tests_before, handles_well, clause_keeps, first_wrong}
use Rattle.code_tests.proofs.TestLaws.{told, whole as told_law}
use Rattle.code_shrink.specs.FileLines.{literal_units, file_meaning}
use Rattle.code_shrink.specs.Lines.{AreBytes}
use Rattle.code_shrink.specs.Shrunk.{CanShrink, instrs_in}
use Rattle.code_shrink.proofs.FileLines.{lines_same}
use Rattle.code_shrink.proofs.Lie.{all_sound}
use Rattle.code_shrink.proofs.Walking.{whole_of}
use Rattle.converted.specs.Bodies.{body_of}
use Rattle.image_numbers.specs.Named.{IsNamed, NamesKept, AllNameKept}
use Rattle.image_numbers.proofs.LiteralLaws.{line_at, code_is}
use Rattle.image_codes.specs.Bytes.{HasBytes}
use Rattle.image_codes.proofs.ByteLaws.{code_part}
use Rattle.image_codes.proofs.SoundLaws.{can_shrink}

-- ---- the tests before the forward pass

module _ (f t r : ℕ) where
  none_broken : (xs ys zs : List Test) → first_fault f t r (xs ++ (ys ++ zs)) ≡ None → first_broken (xs ++ ys) ≡ None
  none_broken [] [] zs e = refl
  none_broken [] (y ∷ ys) zs e =
      let h = head_kept f t r y (ys ++ zs) e in
      ap (λ b. cond b (first_broken ys) (Some y)) h.0 ∙ none_broken [] ys zs h.1
  none_broken (x ∷ xs) ys zs e =
      let h = head_kept f t r x (xs ++ (ys ++ zs)) e in
      ap (λ b. cond b (first_broken (xs ++ ys)) (Some x)) h.0 ∙ none_broken xs ys zs h.1

no_fault : (o : Option CodeFault) → (walk_test o).is_kept ≡ true → o ≡ None
no_fault None e = refl
no_fault (Some fault) e = absurd (cc e)

no_astray : (fault : Option CodeFault) (astray wrong : Option ℕ) → fault ≡ None → told fault astray wrong ≡ None → astray ≡ None
no_astray None None wrong f e = refl
no_astray None (Some at) wrong f e = absurd (cc e)
no_astray (Some x) astray wrong f e = absurd (cc f)

module _ (files : List FilePart) (f n : ℕ) (z : FilePart) (b : BodyPart) (k : BodyKept files f n z b) where
  abbrev w : World
  w = world_of files

  abbrev code : MethodCode
  code = code_meant (world_of files) f z b

  abbrev steps : List Step
  steps = steps_of (ecma_sources files) (ClassOf (exception_of (world_of files))) k.method code

  parts : ((walk_test (code_fault b.code)).is_kept ≡ true) × (first_fault f methods (suc n) (listed_tests (world_of files) k.method (code_meant (world_of files) f z b)) ≡ None)
  parts = head_kept f methods (suc n) (walk_test (code_fault b.code)) (listed_tests (world_of files) k.method (code_meant (world_of files) f z b)) k.tests

  fault_none : code_fault b.code ≡ None
  fault_none = no_fault (code_fault b.code) parts.0

  tests_none : first_broken (tests_of w code steps) ≡ None
  tests_none =
      none_broken f methods (suc n) (map (target_test w code steps) code.lines) (numbered (clause_test w steps code.clauses) 0 code.clauses)
      (pass_test (passed (ecma_sources files) (lattice_of (ecma_sources files)) (ClassOf (exception_of (world_of files))) k.method code) ∷ []) parts.1

  before_none : first_broken (tests_before (world_of files) f z k.method b) ≡ None
  before_none = ap (λ c. cond c (first_broken (tests_of w code steps)) (Some (walk_test (code_fault b.code)))) parts.0 ∙ tests_none

  astray_none : first_astray b.code ≡ None
  astray_none =
      let handled = map (handles_well w f z) b.clauses in
      let wrong = first_wrong (clause_keeps handled b) 0 b.clauses in
      no_astray (code_fault b.code) (first_astray b.code) wrong fault_none
      (told_law w f z k.method b handled refl (code_fault b.code) (first_astray b.code) wrong refl refl refl ∙ before_none)

  pub sound : AreBytes b.code → length b.code < 2147483648 → CanShrink b.code
  sound bytes short = can_shrink b.code bytes short fault_none astray_none

-- ---- an instruction that takes a literal loads it

abbrev loads_text : Shape → Bool
loads_text shape.LoadString = true
loads_text _ = false

abbrev loads : Kind → Shape → Bool
loads kinds.StringToken s = loads_text s
loads _ s = true

abbrev row_loads : Option Row → Bool
row_loads None = true
row_loads (Some row) = loads row.operand row.shape

abbrev all_load : List (Option Row) → Bool
all_load [] = true
all_load (row ∷ rows) = row_loads row && all_load rows

one_loads : (n : ℕ) (rows : List (Option Row)) (row : Row) → all_load rows ≡ true → entry_of rows n ≡ Some row → loads row.operand row.shape ≡ true
one_loads n [] row h e = absurd (cc e)
one_loads zero (x ∷ rows) row h e = subst (λ (o : Option Row). row_loads o ≡ true) e (and_parts (row_loads x) (all_load rows) h).0
one_loads (suc n) (x ∷ rows) row h e = one_loads n rows row (and_parts (row_loads x) (all_load rows) h).1 e

one_byte : all_load ONE_BYTE ≡ true
one_byte = refl

two_bytes : all_load TWO_BYTES ≡ true
two_bytes = refl

table_loads : (op : ℕ) (row : Row) → row_of op ≡ Some row → loads row.operand row.shape ≡ true
table_loads op row = by (nat_lt op 0xFE00)
  where
    by : (b : Bool) → (if b then entry_of ONE_BYTE op else entry_of TWO_BYTES (op - 0xFE00)) ≡ Some row → loads row.operand row.shape ≡ true
    by true e = one_loads op ONE_BYTE row one_byte e
    by false e = one_loads (op - 0xFE00) TWO_BYTES row two_bytes e

loaded : (s : Shape) → loads_text s ≡ true → s ≡ shape.LoadString
loaded shape.LoadString e = refl
loaded _ e = absurd (cc e)

-- ---- what the lines of code name

each_get : {A : Type 0} (P : A → Type 0) (xs : List A) (j : ℕ) (x : A) → Each P xs → slice_get xs j ≡ Some x → P x
each_get P [] j x each e = absurd (cc e)
each_get P (y ∷ xs) zero x each e = let same : y ≡ x = cc e in subst P same each.0
each_get P (y ∷ xs) (suc j) x each e = each_get P xs j x each.1 e

each_at : {A : Type 0} (P : A → Type 0) (xs : List A) → ((j : ℕ) (x : A) → slice_get xs j ≡ Some x → P x) → Each P xs
each_at P [] h = tt
each_at P (x ∷ xs) h = (h 0 x refl, each_at P xs (λ j y e. h (suc j) y e))

module _ (size : ℕ) (ps : List Assembly) (f : ℕ) where
  text_there : (o : Option (List ℕ)) → is_some (text_of (operand size ps f (text_operand o))) ≡ true → (units : List ℕ) × (o ≡ Some units)
  text_there None e = absurd (cc e)
  text_there (Some units) e = (units, refl)

-- ---- of the kept rows of accepted files

module _ (files : List FilePart) (accepted : IsAccepted files) (f : ℕ) (z : FilePart) (at : slice_get files f ≡ Some z) (has : HasBytes z) where
  module _ (n : ℕ) (row : List ℕ) (b : BodyPart) (here : slice_get (rows_of z.metadata methods) n ≡ Some row) (is : body_of z row ≡ Some b) where
    tested : BodyKept files f n z b
    tested = bodies files accepted f n z row b at here is

    pub code_bytes : AreBytes b.code
    code_bytes = (code_part z row b has is).are

    short_code : length b.code < 2147483648
    short_code = let few = has.few in let part = (code_part z row b has is).few in omega (arith, few, part)

    pub code_sound : CanShrink b.code
    code_sound = sound files f n z b tested code_bytes short_code

    line_there : (j : ℕ) (i : Instr) → slice_get (instrs_in b.code) j ≡ Some i → (q : ℕ) × (slice_get (file_lines z.metadata b.code) j ≡ Some (line_of (file_meaning z.metadata) long q i))
    line_there j i e =
        let l = line_at (file_meaning z.metadata) 0 j (instrs_in b.code) i e in
        (l.0, ap (λ ls. slice_get ls j) (lines_same z.metadata b.code code_bytes code_sound.whole) ∙ l.1)

    row_sound : (j : ℕ) (i : Instr) → slice_get (instrs_in b.code) j ≡ Some i → row_of i.row.opcode ≡ Some i.row
    row_sound j i e = (each_get (IsSound row_of long) (instrs_in b.code) j i (all_sound (length b.code) b.code 0 code_bytes (whole_of b.code code_sound.whole) (omega arith)) e).known

    -- rule 46: a literal that is loaded is there
    literal_named : (j : ℕ) (i : Instr) → slice_get (instrs_in b.code) j ≡ Some i → i.row.operand ≡ kinds.StringToken → (units : List ℕ) × ((file_meaning z.metadata).text (unsigned_abs (number_of i.operand)) ≡ Some units)
    literal_named j i e kind =
        let l = line_there j i e in
        let takes : loads_text i.row.shape ≡ true = sym (ap (λ o. loads o i.row.shape) kind) ∙ table_loads i.row.opcode i.row (row_sound j i e) in
        let fits = tested.fit j (line_of (file_meaning z.metadata) long l.0 i) l.1 in
        let text = literal_units z.metadata (unsigned_abs (number_of i.operand)) in
        let asked : is_some (text_of (operand (size_of (rows_alone files)) (assemblies_of files) f (text_operand text))) ≡ true =
        sym (ap (λ s. operand_fits (ecma_sources files).classes s (operand (size_of (rows_alone files)) (assemblies_of files) f (operand_of (file_meaning z.metadata) i.row.operand (line_of (file_meaning z.metadata) long l.0 i).next i.operand))) (loaded i.row.shape takes)
        ∙ ap (λ o. operand_fits (ecma_sources files).classes shape.LoadString (operand (size_of (rows_alone files)) (assemblies_of files) f (operand_of (file_meaning z.metadata) o (line_of (file_meaning z.metadata) long l.0 i).next i.operand))) kind)
        ∙ fits in
        text_there (size_of (rows_alone files)) (assemblies_of files) f text asked

    module _ (keep : ℕ → Choice) (named : HasNamed (assemblies_of files) keep) (kept : (keep f).methods n ≡ true) where
      code_names : InCode (HasType (keep f)) (HasType (keep f)) (HasMethod (keep f)) (HasField (keep f)) (raw_code z.metadata b)
      code_names =
          let m : MethodRow = method_row z (native files f) n row in
          let there : slice_get (whole files f z).methods n ≡ Some m = from_zero (method_row z (native files f)) n (rows_of z.metadata methods) ∙ ap (option_map (method_row z (native files f) n)) here in
          let all = named.methods f n (whole files f z) m (file_at files f z at, there) kept in
          subst (InOption (InCode (HasType (keep f)) (HasType (keep f)) (HasMethod (keep f)) (HasField (keep f)))) (code_is z row ∙ ap (option_map (raw_code z.metadata)) is) all.1

      line_names : (j : ℕ) (i : Instr) → slice_get (instrs_in b.code) j ≡ Some i → (q : ℕ) × InOperand (HasType (keep f)) (HasMethod (keep f)) (HasField (keep f)) (line_of (file_meaning z.metadata) long q i).operand
      line_names j i e =
          let l = line_there j i e in
          (l.0, each_get (InLine (HasType (keep f)) (HasMethod (keep f)) (HasField (keep f))) (file_lines z.metadata b.code) j (line_of (file_meaning z.metadata) long l.0 i) code_names.2 l.1)

      one_named : (j : ℕ) (i : Instr) → slice_get (instrs_in b.code) j ≡ Some i → IsNamed (keep f) (file_meaning z.metadata) i.row.operand (unsigned_abs (number_of i.operand))
      one_named j i e = by i.row.operand refl (line_names j i e).1
        where
          by : (kind : Kind) → i.row.operand ≡ kind → InOperand (HasType (keep f)) (HasMethod (keep f)) (HasField (keep f)) (operand_of (file_meaning z.metadata) kind (line_of (file_meaning z.metadata) long (line_names j i e).0 i).next i.operand) → IsNamed (keep f) (file_meaning z.metadata) kind (unsigned_abs (number_of i.operand))
          by kinds.TypeToken s h = h
          by kinds.FieldToken s h = h
          by kinds.MethodToken s h = h
          by kinds.StringToken s h = literal_named j i e s
          by kinds.AnyToken s h = h
          by _ s h = tt

      names_kept : NamesKept (keep f) z.metadata b.code
      names_kept = record { bytes = code_bytes; sound = code_sound; named = each_at _ (instrs_in b.code) one_named }

  pub all_name_kept : (keep : ℕ → Choice) → HasNamed (assemblies_of files) keep → AllNameKept (keep f) z
  all_name_kept keep named n row b here kept is = names_kept n row b here is keep named kept
