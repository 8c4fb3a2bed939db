-- The tokens of a file's kept code get the words that its image has for what they name.
use Rattle.std.proofs.Common.{◌≡◌, ℕ, suc, Bool, true, List, [], ◌∷◌, Some, None, refl, sym, ap, ◌∙◌, subst}
use Rattle.std.specs.Prelude.{◌==◌, if◌then◌else◌, unsigned_abs, slice_get}
use Rattle.std.specs.List.{list_any}
use Rattle.std.specs.Option.{option_map_or}
use Rattle.cil_opcodes.specs.declared.shape.Operand.{Operand}
use Rattle.cil_opcodes.specs.declared.shape.Operand.TheVariants as kinds
use Rattle.cil_code.specs.Bodies.{BodyPart}
use Rattle.file_tables.specs.Metadata.{rows_of}
use Rattle.file_tables.specs.File.{FilePart}
use Rattle.assemblies.specs.Rows.{Assembly}
use Rattle.assemblies.specs.Chosen.{Choice, chosen}
use Rattle.assemblies.specs.Closed.{Each}
use Rattle.image_form.specs.Codes.{Instr, number_of}
use Rattle.image_form.specs.Form.{words, units_onto}
use Rattle.image_form.specs.Whole.{Methods, literal_entry, offsets, strings_walk}
use Rattle.image_pools.specs.Pools.{Entry, pool, offset}
use Rattle.chosen_image.specs.Spells.{chosen_methods}
use Rattle.world_rows.specs.Tokens.{methods, fields, member_refs, table_of, number_of as row_number}
use Rattle.world_rows.specs.World.{assemblies_of}
use Rattle.msspot_write.specs.Parts.{found, literal_of, pools_of}
use Rattle.msspot_write.specs.Spelt.{literal_parts}
use Rattle.row_numbers.specs.declared.table.Table.{Table}
use Rattle.kept_marks.specs.Kept.{is_kept}
use Rattle.kept_marks.specs.Masks.{Masks, masks_of}
use Rattle.kept_marks.proofs.RankLaws.{marked_is}
use Rattle.code_shrink.specs.FileLines.{file_meaning}
use Rattle.code_shrink.specs.Lines.{AreBytes, IsNumbered, AllNumbered}
use Rattle.code_shrink.specs.Shrunk.{instrs_in}
use Rattle.converted.specs.Cut.{two_bytes}
use Rattle.converted.specs.Bodies.{body_of, methods_of}
use Rattle.converted.specs.Choosing.{choice_of}
use Rattle.converted.specs.Images.{parts_at, image_at}
use Rattle.converted.specs.Numbered.{AllGetNumbers}
use Rattle.converted.specs.Over.{over_counts}
use Rattle.converted.proofs.BodyLaws.{assembly_is}
use Rattle.image_numbers.specs.Numbers.{uncut, reference_at, field_number, method_number, type_number, literal_number, number_for, InImage, token_number, token_word}
use Rattle.image_numbers.specs.Named.{IsNamed, NamesKept, AllNameKept, AreNumbersOf}
use Rattle.image_numbers.proofs.WordLaws.{type_law, field_law, method_law}
use Rattle.image_numbers.proofs.ByteLaws.{literal_text, spelt_again}
use Rattle.image_numbers.proofs.LiteralLaws.{has_text, AreFound, literal_found, literal_there, Literal, literal_of_token}
use Rattle.image_numbers.proofs.FitLaws.{long, fits}

each_from : {A : Type 0} (P Q : A → Type 0) (xs : List A) → Each P xs → ((j : ℕ) (x : A) → slice_get xs j ≡ Some x → P x → Q x) → Each Q xs
each_from P Q [] each h = tt
each_from P Q (x ∷ xs) each h = (h 0 x refl each.0, each_from P Q xs each.1 (λ j y at. h (suc j) y at))

module _ (found_law : AreFound) (files : List FilePart) (marks : List Bool) (f : ℕ) (x : FilePart) (p : Assembly) (there : slice_get files f ≡ Some x) (at : slice_get (assemblies_of files) f ≡ Some p) where
  abbrev k : Choice
  k = choice_of files marks f

  abbrev keep : Masks
  keep t = is_kept (assemblies_of files) marks t f

  abbrev ms : Methods
  ms = chosen_methods (choice_of files marks f) (methods_of x p)

  abbrev strings : List Entry
  strings = (pools_of (parts_at files marks f x p)).strings

  -- ---- a literal

  abbrev rest : ℕ → ℕ
  rest token =
      if table_of token == member_refs then reference_at uncut keep x.metadata (row_number token)
      else if table_of token == fields then field_number uncut keep x.metadata (row_number token)
      else if table_of token == methods then method_number uncut keep x.metadata (row_number token)
      else type_number uncut keep x.metadata (table_of token) (row_number token)

  literal_law : (token : ℕ) (units : List ℕ) → AreBytes x.metadata.user_strings → Literal x.metadata token units → list_any (has_text (units_onto units)) (literal_parts 0 ms) ≡ true → number_for uncut keep x.metadata strings token ≡ offset (pool (strings_walk (chosen k p) ms)) (literal_entry units)
  literal_law token units bytes l has =
      let again : l.text ≡ units_onto units = sym (spelt_again l.text (literal_text x.metadata.user_strings (row_number token) l.text bytes l.read)) ∙ ap units_onto l.are in
      let has_it : list_any (has_text l.text) (literal_parts 0 ms) ≡ true = ap (λ t. list_any (has_text t) (literal_parts 0 ms)) again ∙ has in
      ap (λ b. if b then literal_number uncut keep x.metadata strings (row_number token) else rest token) l.in_heap
      ∙ ap (λ o. option_map_or (λ text. option_map_or uncut (found strings (literal_of text)) 0) o 0) l.read
      ∙ ap (λ o. option_map_or uncut o 0) (literal_found found_law (chosen k p) ms l.text has_it)
      ∙ ap (λ t. offset (pool (strings_walk (chosen k p) ms)) (literal_of t)) again

  -- ---- the tokens of a kept method's code

  module _ (bytes : AreBytes x.metadata.user_strings) (token : ℕ → ℕ) (are : (n : ℕ) → token n ≡ number_for uncut (λ t. is_kept (assemblies_of files) marks t f) x.metadata (pools_of (parts_at files marks f x p)).strings n) (n : ℕ) (row : List ℕ) (b : BodyPart) (here : slice_get (rows_of x.metadata methods) n ≡ Some row) (kept : (choice_of files marks f).methods n ≡ true) (is : body_of x row ≡ Some b) (names : NamesKept (choice_of files marks f) x.metadata b.code) where
    literal_has : (j : ℕ) (i : Instr) (units : List ℕ) → slice_get (instrs_in b.code) j ≡ Some i → i.row.operand ≡ kinds.StringToken → (file_meaning x.metadata).text (unsigned_abs (number_of i.operand)) ≡ Some units → list_any (has_text (units_onto units)) (literal_parts 0 (chosen_methods (choice_of files marks f) (methods_of x p))) ≡ true
    literal_has j i units e kind text =
        subst (λ (q : Assembly). list_any (has_text (units_onto units)) (literal_parts 0 (chosen_methods (choice_of files marks f) (methods_of x q))) ≡ true) (assembly_is files f x p there at)
        (literal_there k x _ n row b here kept is names j i units e kind text)

    one : (j : ℕ) (i : Instr) → slice_get (instrs_in b.code) j ≡ Some i → IsNamed k (file_meaning x.metadata) i.row.operand (unsigned_abs (number_of i.operand)) → IsNumbered k (file_meaning x.metadata) (words (offsets (chosen k p) ms)) token i.row.operand (unsigned_abs (number_of i.operand))
    one j i e = by i.row.operand refl
      where
        by : (kind : Operand) → i.row.operand ≡ kind → IsNamed (choice_of files marks f) (file_meaning x.metadata) kind (unsigned_abs (number_of i.operand)) → IsNumbered (choice_of files marks f) (file_meaning x.metadata) (words (offsets (chosen (choice_of files marks f) p) (chosen_methods (choice_of files marks f) (methods_of x p)))) token kind (unsigned_abs (number_of i.operand))
        by kinds.TypeToken s h = are (unsigned_abs (number_of i.operand)) ∙ type_law (assemblies_of files) marks f p at x.metadata (long files marks f x p there at) k.short k.long strings (table_of (unsigned_abs (number_of i.operand))) (row_number (unsigned_abs (number_of i.operand))) h
        by kinds.FieldToken s h = are (unsigned_abs (number_of i.operand)) ∙ field_law (assemblies_of files) marks f p at x.metadata (long files marks f x p there at) k.short k.long strings (table_of (unsigned_abs (number_of i.operand))) (row_number (unsigned_abs (number_of i.operand))) h
        by kinds.MethodToken s h = are (unsigned_abs (number_of i.operand)) ∙ method_law (assemblies_of files) marks f p at x.metadata (long files marks f x p there at) k.short k.long strings (table_of (unsigned_abs (number_of i.operand))) (row_number (unsigned_abs (number_of i.operand))) h
        by kinds.StringToken s h = (h.0, h.1, are (unsigned_abs (number_of i.operand)) ∙ literal_law (unsigned_abs (number_of i.operand)) h.0 bytes (literal_of_token x.metadata (unsigned_abs (number_of i.operand)) h.0 h.1) (literal_has j i h.0 e s h.1))
        by kinds.AnyToken s h = are (unsigned_abs (number_of i.operand)) ∙ field_law (assemblies_of files) marks f p at x.metadata (long files marks f x p there at) k.short k.long strings (table_of (unsigned_abs (number_of i.operand))) (row_number (unsigned_abs (number_of i.operand))) h
        by _ s h = tt

    all_numbered : AllNumbered (choice_of files marks f) (file_meaning x.metadata) (words (offsets (chosen (choice_of files marks f) p) (chosen_methods (choice_of files marks f) (methods_of x p)))) token (instrs_in b.code)
    all_numbered = each_from _ _ (instrs_in b.code) names.named one

  abbrev Gets : (ℕ → ℕ) → Type 0
  Gets token = AllGetNumbers (choice_of files marks f) x (words (offsets (chosen (choice_of files marks f) p) (chosen_methods (choice_of files marks f) (methods_of x p)))) token

  get_numbers : AreBytes x.metadata.user_strings → AllNameKept (choice_of files marks f) x → (token : ℕ → ℕ) → ((n : ℕ) → token n ≡ number_for uncut (λ t. is_kept (assemblies_of files) marks t f) x.metadata (pools_of (parts_at files marks f x p)).strings n) → Gets token
  get_numbers bytes all token are n row b here kept is =
      let names = all n row b here kept is in
      record { bytes = names.bytes; sound = names.sound; numbered = all_numbered bytes token are n row b here kept is names }

  -- ---- the numbers of an image

  module _ (i : InImage) (numbers : AreNumbersOf files marks f x p i) where
    masks_same : (t : Table) (n : ℕ) → masks_of i.kept t n ≡ is_kept (assemblies_of files) marks t f n
    masks_same t n =
        marked_is (assemblies_of files) i.kept.kept t i.kept.file n numbers.counted
        ∙ ap (λ m. is_kept (assemblies_of files) m t i.kept.file n) numbers.are_marks
        ∙ ap (λ g. is_kept (assemblies_of files) marks t g n) numbers.is_file

    masks : ◌≡◌ {A = Masks} (masks_of i.kept) (λ t. is_kept (assemblies_of files) marks t f)
    masks = λ j t n. masks_same t n j

    same : (cut : ℕ → ℕ) (n : ℕ) → number_for cut (masks_of i.kept) i.metadata i.strings n ≡ number_for cut (λ t. is_kept (assemblies_of files) marks t f) x.metadata (pools_of (parts_at files marks f x p)).strings n
    same cut n = λ j. number_for cut (masks j) (numbers.is_metadata j) (numbers.are_strings j) n

    pub words_law : AreBytes x.metadata.user_strings → AllNameKept (choice_of files marks f) x → Gets (token_word i)
    words_law bytes all = get_numbers bytes all (token_word i) (same uncut)

    fit_law : over_counts f (image_at files marks f (x, p)) ≡ None → (n : ℕ) → token_number i n ≡ number_for uncut (λ t. is_kept (assemblies_of files) marks t f) x.metadata (pools_of (parts_at files marks f x p)).strings n
    fit_law none n = same two_bytes n ∙ fits files marks f x p there at none n

    pub numbers_law : over_counts f (image_at files marks f (x, p)) ≡ None → (n : ℕ) → token_number i n ≡ token_word i n
    numbers_law none n = fit_law none n ∙ sym (same uncut n)

    pub numbered_law : AreBytes x.metadata.user_strings → AllNameKept (choice_of files marks f) x → over_counts f (image_at files marks f (x, p)) ≡ None → Gets (token_number i)
    numbered_law bytes all none = get_numbers bytes all (token_number i) (fit_law none)
