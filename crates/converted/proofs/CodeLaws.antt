-- The codes that are laid for the kept methods of a file are its shortened codes.
use Rattle.std.proofs.Common.{◌≡◌, ℕ, suc, ◌+◌, Bool, true, false, List, [], ◌∷◌, map, Option, Some, None, refl, sym, ap, ◌∙◌, subst, arith}
use Rattle.std.specs.Prelude.{if◌then◌else◌, slice_get, slice_index}
use Rattle.std.specs.Option.{option_map}
use Rattle.std.specs.List.{zip}
use Rattle.cil_code.specs.Bodies.{BodyPart}
use Rattle.cil_opcodes.specs.Rows.{row_of}
use Rattle.file_tables.specs.Metadata.{MetadataPart, rows_of}
use Rattle.file_tables.specs.File.{FilePart}
use Rattle.machine.specs.Program.{Body}
use Rattle.kept_rows.specs.Select.{select}
use Rattle.assemblies.specs.Rows.{RawLine, RawCode, MethodRow}
use Rattle.assemblies.specs.Binding.{numbered}
use Rattle.assemblies.specs.Chosen.{Choice, line_to, code_to}
use Rattle.image_form.specs.Codes.{instrs_to, instrs_onto, short}
use Rattle.image_form.specs.Form.{Offsets, Manner, words, bytes_in}
use Rattle.image_form.specs.Whole.{Methods}
use Rattle.short_code.specs.Short.{to_short}
use Rattle.chosen_image.specs.Spells.{chosen_method, chosen_methods}
use Rattle.code_shrink.specs.FileLines.{file_meaning}
use Rattle.code_shrink.specs.Lines.{rows_in, lines_in}
use Rattle.code_shrink.specs.Shrunk.{pieces_of, shrunk_bytes}
use Rattle.code_shrink.proofs.FileLines.{lines_same}
use Rattle.code_shrink.proofs.Whole.{spelling_law}
use Rattle.world_rows.specs.Tokens.{methods}
use Rattle.world_rows.specs.Lines.{lines_of, raw_code, body_part}
use Rattle.world_rows.specs.Rows.{is_internal, code_of, method_row}
use Rattle.converted.specs.Bodies.{body_of, code_in, codes_of, manner_in}
use Rattle.converted.specs.Numbered.{GetsNumbers, AllGetNumbers}

-- the code of a row is that of its body
code_by : (m : MetadataPart) (internal : Bool) (o : Option BodyPart) → (if internal then None else option_map (raw_code m) o) ≡ option_map (raw_code m) (if internal then None else o)
code_by m true o = refl
code_by m false o = refl

code_is : (x : FilePart) (row : List ℕ) → code_of x row ≡ option_map (raw_code x.metadata) (body_of x row)
code_is x row = code_by x.metadata (is_internal row) (body_part x (slice_index row 0))

module _ (k : Choice) (m : MetadataPart) (o : Offsets) (token : ℕ → ℕ) where
  bytes_of : (place : ℕ → ℕ) (b : BodyPart) → GetsNumbers k m (words o) token b.code → place ≡ to_short (pieces_of b.code) → bytes_in o (manner_in (Some b)) (Some (code_to k place (raw_code m b))) ≡ shrunk_bytes token b.code
  bytes_of place b gets same =
      let lines : lines_of m b.code ≡ lines_in (file_meaning m) b.code = lines_same m b.code gets.bytes gets.sound.whole in
      ap (λ is. instrs_onto row_of short is [])
      (ap (λ (ls : List RawLine). instrs_to (words o) (rows_in b.code) (map (line_to k place) ls)) lines
      ∙ ap (λ (p : ℕ → ℕ). instrs_to (words o) (rows_in b.code) (map (line_to k p) (lines_in (file_meaning m) b.code))) same
      ∙ spelling_law k (file_meaning m) (words o) token b.code gets.bytes gets.sound gets.numbered)

  bytes_by : (place : ℕ → ℕ) (body : Option BodyPart) → ((b : BodyPart) → body ≡ Some b → GetsNumbers k m (words o) token b.code) → ((b : BodyPart) → body ≡ Some b → place ≡ to_short (pieces_of b.code)) → bytes_in o (manner_in body) (option_map (code_to k place) (option_map (raw_code m) body)) ≡ shrunk_bytes token (code_in body)
  bytes_by place None gets same = refl
  bytes_by place (Some b) gets same = bytes_of place b (gets b refl) (same b refl)

-- of two lists whose first items are kept or not
first_selected : {A B C : Type 0} (f : A → C) (g : B → C) (b : Bool) (x : A) (xs : List A) (y : B) (ys : List B) → (b ≡ true → f x ≡ g y) → map f xs ≡ map g ys → map f (if b then x ∷ xs else xs) ≡ map g (if b then y ∷ ys else ys)
first_selected f g true x xs y ys first rest = λ i. (first refl i) ∷ (rest i)
first_selected f g false x xs y ys first rest = rest

-- the places of a choice are those of the rows' codes
abbrev pub HasPlaces : Choice → FilePart → Type 0
HasPlaces k x = (n : ℕ) (row : List ℕ) (b : BodyPart) → slice_get (rows_of x.metadata methods) n ≡ Some row → body_of x row ≡ Some b → k.short n ≡ to_short (pieces_of b.code)

module _ (k : Choice) (x : FilePart) (o : Offsets) (token : ℕ → ℕ) (native : ℕ → Body) where
  abbrev pairs : ℕ → List (List ℕ) → Methods
  pairs n rows = zip (map (λ row. manner_in (body_of x row)) rows) (numbered (method_row x native) n rows)

  abbrev bytes : Manner × MethodRow → List ℕ
  bytes y = bytes_in o y.0 y.1.code

  abbrev Gets : ℕ → List ℕ → Type 0
  Gets n row = (b : BodyPart) → body_of x row ≡ Some b → GetsNumbers k x.metadata (words o) token b.code

  abbrev Places : ℕ → List ℕ → Type 0
  Places n row = (b : BodyPart) → body_of x row ≡ Some b → k.short n ≡ to_short (pieces_of b.code)

  row_bytes : (n : ℕ) (row : List ℕ) → Gets n row → Places n row → bytes (chosen_method k n (manner_in (body_of x row), method_row x native n row)) ≡ shrunk_bytes token (code_in (body_of x row))
  row_bytes n row gets places =
      ap (λ (c : Option RawCode). bytes_in o (manner_in (body_of x row)) (option_map (code_to k (k.short n)) c)) (code_is x row)
      ∙ bytes_by k x.metadata o token (k.short n) (body_of x row) gets places

  -- rows from a number on, of which some are kept
  rows_bytes : (keep : ℕ → Bool) (n : ℕ) (rows : List (List ℕ)) → ((i : ℕ) (row : List ℕ) → slice_get rows i ≡ Some row → keep i ≡ true → Gets (n + i) row) → ((i : ℕ) (row : List ℕ) → slice_get rows i ≡ Some row → Places (n + i) row) → map bytes (select keep (numbered (chosen_method k) n (pairs n rows))) ≡ map (shrunk_bytes token) (select keep (map (λ row. code_in (body_of x row)) rows))
  rows_bytes keep n [] gets places = refl
  rows_bytes keep n (row ∷ rows) gets places =
      let zero_sum : n + 0 ≡ n = omega arith in
      let step : (i : ℕ) → n + suc i ≡ suc n + i = λ i. omega arith in
      let rest = rows_bytes (λ i. keep (suc i)) (suc n) rows (λ i r at kept. subst (λ j. Gets j r) (step i) (gets (suc i) r at kept)) (λ i r at. subst (λ j. Places j r) (step i) (places (suc i) r at)) in
      first_selected bytes (shrunk_bytes token) (keep 0) (chosen_method k n (manner_in (body_of x row), method_row x native n row))
      (select (λ i. keep (suc i)) (numbered (chosen_method k) (suc n) (pairs (suc n) rows)))
      (code_in (body_of x row))
      (select (λ i. keep (suc i)) (map (λ r. code_in (body_of x r)) rows))
      (λ kept. row_bytes n row (subst (λ j. Gets j row) zero_sum (gets 0 row refl kept)) (subst (λ j. Places j row) zero_sum (places 0 row refl)))
      rest

  pub codes_law : AllGetNumbers k x (words o) token → HasPlaces k x → map bytes (chosen_methods k (pairs 0 (rows_of x.metadata methods))) ≡ map (shrunk_bytes token) (select k.methods (codes_of x))
  codes_law gets places =
      let none : (i : ℕ) → i ≡ 0 + i = λ i. omega arith in
      rows_bytes k.methods 0 (rows_of x.metadata methods)
      (λ i row at kept b is. gets i row b at kept is)
      (λ i row at b is. ap k.short (sym (none i)) ∙ places i row b at is)
