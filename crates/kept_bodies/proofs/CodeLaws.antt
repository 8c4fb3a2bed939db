-- The code of a file's kept methods is the one that its parts are made of.
use Rattle.std.proofs.Common.{◌≡◌, ℕ, zero, suc, ◌+◌, Bool, true, false, List, [], ◌∷◌, map, Option, Some, None, refl, sym, ap, ◌∙◌, arith}
use Rattle.std.specs.Prelude.{if◌then◌else◌, slice_get, slice_index, unwrap_or}
use Rattle.std.specs.List.{zip}
use Rattle.std.specs.Option.{option_map}
use Rattle.cil_code.specs.Bodies.{BodyPart}
use Rattle.file_tables.specs.Metadata.{MetadataPart, rows_of}
use Rattle.file_tables.specs.File.{FilePart}
use Rattle.machine.specs.Program.{Body}
use Rattle.machine.specs.Throw.{on_some}
use Rattle.kept_rows.specs.Select.{select}
use Rattle.short_code.specs.Short.{to_short}
use Rattle.code_shrink.specs.Shrunk.{pieces_of}
use Rattle.assemblies.specs.Rows.{RawCode, MethodRow, Assembly}
use Rattle.assemblies.specs.Binding.{id_at, numbered}
use Rattle.assemblies.specs.Chosen.{Choice, code_to, method_row_to}
use Rattle.assemblies.proofs.Numbered.{get_numbered}
use Rattle.image_form.specs.Form.{Manner}
use Rattle.image_form.specs.Whole.{Methods}
use Rattle.chosen_image.specs.Spells.{chosen_method, chosen_methods}
use Rattle.world_rows.specs.Tokens.{methods}
use Rattle.world_rows.specs.Lines.{raw_code, body_part}
use Rattle.world_rows.specs.Rows.{is_internal, code_of, method_row}
use Rattle.world_rows.specs.Natives.{body_of_native}
use Rattle.world_rows.specs.World.{size_of, assembly_with, rows_alone, assemblies_of}
use Rattle.row_numbers.specs.declared.table.Table.TheVariants as table
use Rattle.kept_marks.specs.Masks.{Masks, choice_with, choice_of_rows}
use Rattle.converted.specs.Bodies.{body_of, code_in, codes_of, manner_in, manners_of, methods_of}
use Rattle.converted.specs.Choosing.{code_at, choice_of}
use Rattle.kept_bodies.specs.Kept.{code_kept}
use Rattle.kept_bodies.proofs.TokenLaws.{code_same}

get_map : {A B : Type 0} (g : A → B) (xs : List A) (n : ℕ) → slice_get (map g xs) n ≡ option_map g (slice_get xs n)
get_map g [] n = refl
get_map g (x ∷ xs) zero = refl
get_map g (x ∷ xs) (suc n) = get_map g xs n

zip_numbered : {A B C : Type 0} (g : A → B) (h : ℕ → A → C) (n : ℕ) (xs : List A) → zip (map g xs) (numbered h n xs) ≡ numbered (λ i x. (g x, h i x)) n xs
zip_numbered g h n [] = refl
zip_numbered g h n (x ∷ xs) = ap (λ ys. (g x, h n x) ∷ ys) (zip_numbered g h (suc n) xs)

numbered_twice : {A B C : Type 0} (g : ℕ → B → C) (h : ℕ → A → B) (n : ℕ) (xs : List A) → numbered g n (numbered h n xs) ≡ numbered (λ i x. g i (h i x)) n xs
numbered_twice g h n [] = refl
numbered_twice g h n (x ∷ xs) = ap (λ ys. g n (h n x) ∷ ys) (numbered_twice g h (suc n) xs)

-- what is read of each kept one goes by the rows alone
selected : {X Y Z : Type 0} (made : ℕ → X → Y) (g : Y → Z) (h : X → Z) (keep : ℕ → Bool) (n : ℕ) (xs : List X) → ((i : ℕ) (x : X) → slice_get xs i ≡ Some x → g (made (n + i) x) ≡ h x) → map g (select keep (numbered made n xs)) ≡ map h (select keep xs)
selected made g h keep n [] same = refl
selected made g h keep n (x ∷ xs) same =
    let at : n + 0 ≡ n = omega arith in
    go (keep 0) (sym (ap (λ k. g (made k x)) at) ∙ same 0 x refl) (selected made g h (λ i. keep (suc i)) (suc n) xs (λ i y e. let next : suc n + i ≡ n + suc i = omega arith in ap (λ k. g (made k y)) next ∙ same (suc i) y e))
  where
    go : (b : Bool) → g (made n x) ≡ h x → map g (select (λ i. keep (suc i)) (numbered made (suc n) xs)) ≡ map h (select (λ i. keep (suc i)) xs) → map g (if b then made n x ∷ select (λ i. keep (suc i)) (numbered made (suc n) xs) else select (λ i. keep (suc i)) (numbered made (suc n) xs)) ≡ map h (if b then x ∷ select (λ i. keep (suc i)) xs else select (λ i. keep (suc i)) xs)
    go true here rest = ap (λ z. z ∷ map g (select (λ i. keep (suc i)) (numbered made (suc n) xs))) here ∙ ap (λ zs. h x ∷ zs) rest
    go false here rest = rest

-- ---- one method

module _ (kept : Masks) (short long : ℕ → ℕ → ℕ) (m : MetadataPart) where
  abbrev k : Choice
  k = choice_with kept short long

  moved : (place place' : ℕ → ℕ) (c : RawCode) → place ≡ place' → code_to k place c ≡ code_to (choice_of_rows kept) place' c
  moved place place' c e = ap (λ p. code_to k p c) e ∙ code_same kept short long place' c

  code_by : (b : Bool) (o : Option BodyPart) (place : ℕ → ℕ) → place ≡ to_short (pieces_of (code_in (if b then None else o))) → option_map (code_to k place) (if b then None else option_map (raw_code m) o) ≡ code_kept kept m (if b then None else o)
  code_by true o place e = refl
  code_by false None place e = refl
  code_by false (Some b) place e = ap (λ c. Some c) (moved place (to_short (pieces_of b.code)) (raw_code m b) e)

-- ---- the methods of a file

module _ (files : List FilePart) (f : ℕ) (x : FilePart) (p : Assembly) (at : slice_get files f ≡ Some x) (of : slice_get (assemblies_of files) f ≡ Some p) where
  assembly_is : p ≡ assembly_with (size_of (rows_alone files)) files (rows_alone files) (0 + f) x
  unfolding assemblies_of
  assembly_is =
      let there = sym of ∙ get_numbered (assembly_with (size_of (rows_alone files)) files (rows_alone files)) 0 f files ∙ ap (option_map (assembly_with (size_of (rows_alone files)) files (rows_alone files) (0 + f))) at in
      cc there

  abbrev pub native : ℕ → Body
  native row = body_of_native (size_of (rows_alone files)) (rows_alone files) (id_at (0 + f) row)

  abbrev pub rows : List (List ℕ)
  rows = rows_of x.metadata methods

  pub methods_are : p.methods ≡ numbered (method_row x native) 0 rows
  methods_are = ap (λ (a : Assembly). a.methods) assembly_is

  -- ---- where places lie

  module _ (marks : List Bool) where
    codes_there : (n : ℕ) (row : List ℕ) → slice_get rows n ≡ Some row → code_at files marks f n ≡ code_in (body_of x row)
    codes_there n row e =
        ap (λ o. unwrap_or (on_some o (λ (y : FilePart). slice_get (codes_of y) n)) []) at
        ∙ ap (λ o. unwrap_or o []) (get_map (λ row. code_in (body_of x row)) rows n)
        ∙ ap (λ o. unwrap_or (option_map (λ row. code_in (body_of x row)) o) []) e

    module _ (kept : Masks) where
      abbrev pub chosen_by : Choice
      chosen_by = choice_with kept (choice_of files marks f).short (choice_of files marks f).long

      pub code_is : (n : ℕ) (row : List ℕ) → slice_get rows n ≡ Some row → option_map (code_to chosen_by (chosen_by.short n)) (code_of x row) ≡ code_kept kept x.metadata (body_of x row)
      code_is n row e =
          code_by kept (choice_of files marks f).short (choice_of files marks f).long x.metadata (is_internal row) (body_part x (slice_index row 0)) (chosen_by.short n)
          (ap (λ code. to_short (pieces_of code)) (codes_there n row e))

      abbrev pub made : ℕ → List ℕ → Manner × MethodRow
      made n row = (manner_in (body_of x row), method_row_to chosen_by n (method_row x native n row))

      pub chosen_are : chosen_methods chosen_by (methods_of x p) ≡ select (kept table.MethodDef) (numbered made 0 rows)
      chosen_are =
          ap (λ (ms : List MethodRow). select (kept table.MethodDef) (numbered (chosen_method chosen_by) 0 (zip (manners_of x) ms))) methods_are
          ∙ ap (λ (ms : Methods). select (kept table.MethodDef) (numbered (chosen_method chosen_by) 0 ms)) (zip_numbered (λ row. manner_in (body_of x row)) (method_row x native) 0 rows)
          ∙ ap (select (kept table.MethodDef)) (numbered_twice (chosen_method chosen_by) (λ n row. (manner_in (body_of x row), method_row x native n row)) 0 rows)

      -- the code of each kept method
      pub codes_are : map (λ (y : Manner × MethodRow). y.1.code) (chosen_methods chosen_by (methods_of x p)) ≡ map (λ row. code_kept kept x.metadata (body_of x row)) (select (kept table.MethodDef) rows)
      codes_are =
          ap (map (λ (y : Manner × MethodRow). y.1.code)) chosen_are
          ∙ selected made (λ (y : Manner × MethodRow). y.1.code) (λ row. code_kept kept x.metadata (body_of x row)) (kept table.MethodDef) 0 rows
          (λ n row e. let same : 0 + n ≡ n = omega arith in ap (λ j. option_map (code_to chosen_by (chosen_by.short j)) (code_of x row)) same ∙ code_is n row e)
