-- The images that are found in a bank have the parts that were written, and show the rows that are kept.
use Rattle.std.proofs.Common.{◌≡◌, ◌∙◌, ℕ, zero, suc, ◌+◌, Bool, List, [], ◌∷◌, map, length, Some, refl, sym, ap, subst, arith}
use Rattle.std.specs.Prelude.{slice_get, unwrap_or, is_some, IsSome}
use Rattle.std.specs.Option.{option_map}
use Rattle.file_tables.specs.File.{FilePart}
use Rattle.assemblies.specs.Rows.{Assembly}
use Rattle.assemblies.specs.Binding.{numbered}
use Rattle.assemblies.specs.Chosen.{Choice, chosen, chosen_set}
use Rattle.image_bytes.specs.Layout as layout
use Rattle.image_bytes.specs.Layout.{onto}
use Rattle.image_form.specs.Whole.{image_rows}
use Rattle.tiny_rows.specs.Rows.{NO_ASSEMBLY}
use Rattle.deploy_model.specs.Banks.{images_at}
use Rattle.board_program.specs.Parts.{NO_PARTS, set_parts, rows_of_parts}
use Rattle.converted.specs.Choosing.{choice_of}
use Rattle.converted.specs.Images.{image_at}
use Rattle.set_found.proofs.SeenLaws.{has_rows}
use Rattle.set_found.proofs.WalkLaws.{AllGood, bytes_from}

module _ (files : List FilePart) (marks : List Bool) where
  pub parts_are : (f at : ℕ) (xs : List (FilePart × Assembly)) → AllGood files marks f xs → set_parts (images_at at (bytes_from files marks f xs)) ≡ numbered (image_at files marks) f xs
  parts_are f at [] h = refl
  parts_are f at (x ∷ xs) h =
      let i : layout.Image = image_at files marks f x in
      let rest = parts_are (suc f) (at + length (onto i [])) xs h.1 in
      ap (λ o. unwrap_or (option_map (λ (s : layout.Image × Assembly). s.0) o) NO_PARTS ∷ set_parts (images_at (at + length (onto i [])) (bytes_from files marks (suc f) xs))) (h.0.seen_as [])
      ∙ ap (λ is. i ∷ is) rest

  -- by a choice of the rows of these files alone
  pub rows_are : (f : ℕ) (xs : List (FilePart × Assembly)) (keep : ℕ → Choice) → ((j : ℕ) → keep j ≡ choice_of files marks (f + j)) → AllGood files marks f xs → rows_of_parts (numbered (image_at files marks) f xs) ≡ chosen_set keep (map (λ (x : FilePart × Assembly). x.1) xs)
  rows_are f [] keep same h = refl
  rows_are f (x ∷ xs) keep same h =
      let i : layout.Image = image_at files marks f x in
      let first : keep 0 ≡ choice_of files marks f = same 0 ∙ (let here : f + 0 ≡ f = omega arith in ap (choice_of files marks) here) in
      let rest = rows_are (suc f) xs (λ j. keep (suc j)) (λ j. same (suc j) ∙ (let there : f + suc j ≡ suc f + j = omega arith in ap (choice_of files marks) there)) h.1 in
      ap (λ o. unwrap_or o NO_ASSEMBLY ∷ rows_of_parts (numbered (image_at files marks) (suc f) xs)) (has_rows i (chosen (choice_of files marks f) x.1) h.0)
      ∙ ap (λ k. chosen k x.1 ∷ rows_of_parts (numbered (image_at files marks) (suc f) xs)) (sym first)
      ∙ ap (λ ps. chosen (keep 0) x.1 ∷ ps) rest

  pub each_stands : (f : ℕ) (xs : List (FilePart × Assembly)) → AllGood files marks f xs → (k : ℕ) (i : layout.Image) → slice_get (numbered (image_at files marks) f xs) k ≡ Some i → IsSome (image_rows i)
  each_stands f [] h k i e = absurd (cc e)
  each_stands f (x ∷ xs) h zero i e =
      let same : image_at files marks f x ≡ i = cc e in
      subst (λ j. IsSome (image_rows j)) same (ap is_some (has_rows (image_at files marks f x) (chosen (choice_of files marks f) x.1) h.0))
  each_stands f (x ∷ xs) h (suc k) i e = each_stands (suc f) xs h.1 k i e
