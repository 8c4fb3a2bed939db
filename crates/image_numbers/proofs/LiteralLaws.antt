-- The literals of a file's kept code are in the pool of its image's strings.
use Rattle.std.proofs.Common.{◌≡◌, ℕ, zero, suc, ◌+◌, Bool, true, false, ◌||◌, List, [], ◌∷◌, map, Option, Some, None, refl, ap, ◌∙◌, arith}
use Rattle.std.specs.Prelude.{◌==◌, ◌&&◌, if◌then◌else◌, is_some, slice_get, slice_index, unsigned_abs}
use Rattle.std.specs.List.{flat_map, list_any, zip}
use Rattle.std.specs.Option.{option_map}
use Rattle.std.proofs.lemmas.Bool.{eq-eqb}
use Rattle.std.proofs.lemmas.List.Folds.{list_any-append}
use Rattle.std.proofs.lemmas.Option.{slice_get-map}
use Rattle.cil_opcodes.specs.declared.shape.Operand.TheVariants as kinds
use Rattle.cil_code.specs.Bodies.{BodyPart}
use Rattle.file_tables.specs.Heaps.{user_string_at}
use Rattle.file_tables.specs.Metadata.{MetadataPart, rows_of}
use Rattle.file_tables.specs.File.{FilePart}
use Rattle.machine.specs.Program.{Body}
use Rattle.machine.specs.Texts.{same_text}
use Rattle.kept_rows.specs.Select.{below}
use Rattle.kept_rows.proofs.SelectLaws.{there}
use Rattle.assemblies.specs.Rows.{RawOperand, RawText, RawLine, RawCode, MethodRow, Assembly}
use Rattle.assemblies.specs.Binding.{numbered}
use Rattle.assemblies.specs.Chosen.{Choice, line_to, code_to, operand_to}
use Rattle.assemblies.proofs.Numbered.{get_numbered}
use Rattle.image_pools.specs.Pools.{Entry, same_entry, pool, offset}
use Rattle.image_form.specs.Codes.{Meaning, Instr, operand_of, text_operand, line_of, lines_of, size, long, number_of}
use Rattle.image_form.specs.Form.{Manner, units_onto}
use Rattle.image_form.specs.Whole.{Methods, strings_walk}
use Rattle.chosen_image.specs.Spells.{chosen_method, chosen_methods}
use Rattle.world_rows.specs.Tokens.{methods, literals, table_of, number_of as row_number}
use Rattle.world_rows.specs.Lines.{units_from, raw_code, body_part, lines_of as file_lines}
use Rattle.world_rows.specs.Rows.{is_internal, method_row, code_of}
use Rattle.msspot_write.specs.declared.parts.PartLiteral.{PartLiteral}
use Rattle.msspot_write.specs.declared.parts.Parts.{Parts}
use Rattle.msspot_write.specs.Parts.{found, literal_of, pools_of}
use Rattle.msspot_write.specs.Spelt.{operand_parts, code_parts, literal_parts, parts_for}
use Rattle.code_shrink.specs.FileLines.{literal_units, file_meaning}
use Rattle.code_shrink.specs.Shrunk.{instrs_in}
use Rattle.code_shrink.proofs.FileLines.{lines_same}
use Rattle.converted.specs.Bodies.{body_of, manner_in}
use Rattle.image_numbers.specs.Named.{NamesKept}
use Rattle.image_numbers.proofs.StringLaws.{strings_law}

-- ---- a literal of a line is one of its method's, and that is one of all

same_itself : (xs : List ℕ) → same_text xs xs ≡ true
same_itself [] = refl
same_itself (x ∷ xs) = ap (λ b. b && same_text xs xs) (eq-eqb x x refl) ∙ same_itself xs

abbrev pub has_text : List ℕ → PartLiteral → Bool
has_text text l = same_text text l.text

first_any : (a b : Bool) → a ≡ true → (a || b) ≡ true
first_any true b e = refl
first_any false b e = absurd (cc e)

second_any : (a b : Bool) → b ≡ true → (a || b) ≡ true
second_any true b e = refl
second_any false b e = e

module _ (units : List ℕ) where
  abbrev text : List ℕ
  text = units_onto units

  abbrev any : List PartLiteral → Bool
  any ls = list_any (has_text (units_onto units)) ls

  operand_any : (method at : ℕ) (o : RawOperand) → o ≡ RawText units → any (operand_parts method at o) ≡ true
  operand_any method at o e = ap (λ o. any (operand_parts method at o)) e ∙ first_any (same_text (units_onto units) (units_onto units)) false (same_itself (units_onto units))

  lines_any : (method j : ℕ) (ls : List RawLine) (l : RawLine) → slice_get ls j ≡ Some l → l.operand ≡ RawText units → any (flat_map (λ (l : RawLine). operand_parts method l.at l.operand) ls) ≡ true
  lines_any method j [] l at e = absurd (cc at)
  lines_any method zero (x ∷ ls) l at e =
      let same : x ≡ l = cc at in
      list_any-append (has_text (units_onto units)) (operand_parts method x.at x.operand) (flat_map (λ (l : RawLine). operand_parts method l.at l.operand) ls)
      ∙ first_any (any (operand_parts method x.at x.operand)) _ (operand_any method x.at x.operand (ap (λ (z : RawLine). z.operand) same ∙ e))
  lines_any method (suc j) (x ∷ ls) l at e =
      list_any-append (has_text (units_onto units)) (operand_parts method x.at x.operand) (flat_map (λ (l : RawLine). operand_parts method l.at l.operand) ls)
      ∙ second_any (any (operand_parts method x.at x.operand)) _ (lines_any method j ls l at e)

  code_any : (method j : ℕ) (o : Option RawCode) (c : RawCode) (l : RawLine) → o ≡ Some c → slice_get c.lines j ≡ Some l → l.operand ≡ RawText units → any (code_parts method o) ≡ true
  code_any method j o c l is at e = ap (λ o. any (code_parts method o)) is ∙ lines_any method j c.lines l at e

  methods_any : (start i j : ℕ) (ms : Methods) (y : Manner × MethodRow) (c : RawCode) (l : RawLine) → slice_get ms i ≡ Some y → y.1.code ≡ Some c → slice_get c.lines j ≡ Some l → l.operand ≡ RawText units → any (literal_parts start ms) ≡ true
  methods_any start i j [] y c l at is there e = absurd (cc at)
  methods_any start zero j (x ∷ ms) y c l at is there e =
      let same : x ≡ y = cc at in
      list_any-append (has_text (units_onto units)) (code_parts start x.1.code) (literal_parts (start + 1) ms)
      ∙ first_any (any (code_parts start x.1.code)) _ (code_any start j x.1.code c l (ap (λ (z : Manner × MethodRow). z.1.code) same ∙ is) there e)
  methods_any start (suc i) j (x ∷ ms) y c l at is there e =
      list_any-append (has_text (units_onto units)) (code_parts start x.1.code) (literal_parts (start + 1) ms)
      ∙ second_any (any (code_parts start x.1.code)) _ (methods_any (start + 1) i j ms y c l at is there e)

-- ---- so it is found where the pool has it

entry_found : (entries : List Entry) (e : Entry) → is_some (found entries e) ≡ true → found entries e ≡ Some (offset entries e)
entry_found entries e = by (list_any (same_entry e) entries)
  where
    by : (b : Bool) → is_some (if b then Some (offset entries e) else None) ≡ true → (if b then Some (offset entries e) else None) ≡ Some (offset entries e)
    by true h = refl
    by false h = absurd (cc h)

-- a literal has an offset exactly where the parts have it
abbrev pub AreFound : Type 0
AreFound = (p : Parts) (text : List ℕ) → is_some (found (pools_of p).strings (literal_of text)) ≡ list_any (λ (l : PartLiteral). same_text text l.text) p.literals

pub literal_found : AreFound → (p : Assembly) (ms : Methods) (text : List ℕ) → list_any (has_text text) (literal_parts 0 ms) ≡ true → found (pools_of (parts_for p ms)).strings (literal_of text) ≡ Some (offset (pool (strings_walk p ms)) (literal_of text))
literal_found are p ms text has =
    entry_found (pools_of (parts_for p ms)).strings (literal_of text) (are (parts_for p ms) text ∙ has)
    ∙ ap (λ walk. Some (offset (pool walk) (literal_of text))) (strings_law p ms)

-- ---- the lines of a kept method of a file

pub line_at : (m : Meaning) (at j : ℕ) (is : List Instr) (i : Instr) → slice_get is j ≡ Some i → (n : ℕ) × (slice_get (lines_of m long at is) j ≡ Some (line_of m long n i))
line_at m at j [] i e = absurd (cc e)
line_at m at zero (x ∷ is) i e = let same : x ≡ i = cc e in (at, ap (λ z. Some (line_of m long at z)) same)
line_at m at (suc j) (x ∷ is) i e = line_at m (at + size long x) j is i e

get_zip : {A B : Type 0} (xs : List A) (ys : List B) (n : ℕ) (x : A) (y : B) → slice_get xs n ≡ Some x → slice_get ys n ≡ Some y → slice_get (zip xs ys) n ≡ Some (x, y)
get_zip [] ys n x y a b = absurd (cc a)
get_zip (x' ∷ xs) [] n x y a b = absurd (cc b)
get_zip (x' ∷ xs) (y' ∷ ys) zero x y a b =
    let first : x' ≡ x = cc a in
    let second : y' ≡ y = cc b in
    λ i. Some (first i, second i)
get_zip (x' ∷ xs) (y' ∷ ys) (suc n) x y a b = get_zip xs ys n x y a b

-- the code of a row is that of its body
pub code_is : (x : FilePart) (row : List ℕ) → code_of x row ≡ option_map (raw_code x.metadata) (body_of x row)
code_is x row = by (is_internal row) (body_part x (slice_index row 0))
  where
    by : (internal : Bool) (o : Option BodyPart) → (if internal then None else option_map (raw_code x.metadata) o) ≡ option_map (raw_code x.metadata) (if internal then None else o)
    by true o = refl
    by false o = refl

-- of a file's methods, whatever its natives are
module _ (k : Choice) (x : FilePart) (native : ℕ → Body) where
  abbrev all : Methods
  all = zip (map (λ row. manner_in (body_of x row)) (rows_of x.metadata methods)) (numbered (method_row x native) 0 (rows_of x.metadata methods))

  method_at : (n : ℕ) (row : List ℕ) → slice_get (rows_of x.metadata methods) n ≡ Some row → slice_get all n ≡ Some (manner_in (body_of x row), method_row x native n row)
  method_at n row at =
      get_zip _ _ n _ _
      (slice_get-map (λ row. manner_in (body_of x row)) (rows_of x.metadata methods) n ∙ ap (option_map (λ row. manner_in (body_of x row))) at)
      (get_numbered (method_row x native) 0 n (rows_of x.metadata methods) ∙ ap (option_map (method_row x native (0 + n))) at ∙ ap (λ j. Some (method_row x native j row)) (omega arith))

  chosen_at : (n : ℕ) (row : List ℕ) → slice_get (rows_of x.metadata methods) n ≡ Some row → k.methods n ≡ true → slice_get (chosen_methods k all) (below k.methods n) ≡ Some (chosen_method k n (manner_in (body_of x row), method_row x native n row))
  chosen_at n row at kept =
      there k.methods (numbered (chosen_method k) 0 all) n kept
      ∙ get_numbered (chosen_method k) 0 n all
      ∙ ap (option_map (chosen_method k (0 + n))) (method_at n row at)
      ∙ ap (λ j. Some (chosen_method k j (manner_in (body_of x row), method_row x native n row))) (omega arith)

  module _ (n : ℕ) (row : List ℕ) (b : BodyPart) (at : slice_get (rows_of x.metadata methods) n ≡ Some row) (kept : k.methods n ≡ true) (is : body_of x row ≡ Some b) (names : NamesKept k x.metadata b.code) where
    code_there : (chosen_method k n (manner_in (body_of x row), method_row x native n row)).1.code ≡ Some (code_to k (k.short n) (raw_code x.metadata b))
    code_there = ap (option_map (code_to k (k.short n))) (code_is x row ∙ ap (option_map (raw_code x.metadata)) is)

    line_there : (j : ℕ) (i : Instr) → slice_get (instrs_in b.code) j ≡ Some i → (q : ℕ) × (slice_get (code_to k (k.short n) (raw_code x.metadata b)).lines j ≡ Some (line_to k (k.short n) (line_of (file_meaning x.metadata) long q i)))
    line_there j i e =
        let l = line_at (file_meaning x.metadata) 0 j (instrs_in b.code) i e in (
          l.0,
          slice_get-map (line_to k (k.short n)) (file_lines x.metadata b.code) j
              ∙ ap (λ ls. option_map (line_to k (k.short n)) (slice_get ls j)) (lines_same x.metadata b.code names.bytes names.sound.whole)
              ∙ ap (option_map (line_to k (k.short n))) l.1,
        )

    pub literal_there : (j : ℕ) (i : Instr) (units : List ℕ) → slice_get (instrs_in b.code) j ≡ Some i → i.row.operand ≡ kinds.StringToken → literal_units x.metadata (unsigned_abs (number_of i.operand)) ≡ Some units → list_any (has_text (units_onto units)) (literal_parts 0 (chosen_methods k all)) ≡ true
    literal_there j i units e kind text =
        let l = line_there j i e in
        let operand : operand_to k (k.short n) (line_of (file_meaning x.metadata) long l.0 i).operand ≡ RawText units =
        ap (λ o. operand_to k (k.short n) (operand_of (file_meaning x.metadata) o (line_of (file_meaning x.metadata) long l.0 i).next i.operand)) kind
        ∙ ap (λ o. operand_to k (k.short n) (text_operand o)) text in
        methods_any units 0 (below k.methods n) j (chosen_methods k all) _ _ _ (chosen_at n row at kept) code_there l.1 operand

-- ---- a token of a literal

-- the text of a literal that a token names, and its units
pub record Literal (m : MetadataPart) (token : ℕ) (units : List ℕ) : Type 0 where
  pub in_heap : (table_of token == literals) ≡ true
  pub text : List ℕ
  pub read : user_string_at m.user_strings (row_number token) ≡ Some text
  pub are : units_from text ≡ units

pub literal_of_token : (m : MetadataPart) (token : ℕ) (units : List ℕ) → literal_units m token ≡ Some units → Literal m token units
literal_of_token m token units = by (table_of token == literals) refl (user_string_at m.user_strings (row_number token)) refl
  where
    by : (b : Bool) → (table_of token == literals) ≡ b → (o : Option (List ℕ)) → user_string_at m.user_strings (row_number token) ≡ o → (if b then option_map units_from o else None) ≡ Some units → Literal m token units
    by true e None r h = absurd (cc h)
    by true e (Some text) r h = record { in_heap = e; text = text; read = r; are = cc h }
    by false e o r h = absurd (cc h)
