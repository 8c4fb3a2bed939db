-- The images of a set one after the other, as a walk over them meets them.
use Rattle.std.proofs.Common.{◌≡◌, ◌∙◌, inl, inr, ⊎_elim, ℕ, suc, ◌+◌, ◌-◌, ◌*◌, ◌≤◌, Bool, false, List, [], ◌∷◌, ◌++◌, map, length, Option, Some, None, refl, sym, ap, subst, arith, length-append}
use Rattle.std.specs.Prelude.{◌⊎◌, ◌||◌, is_some, if◌then◌else◌, slice_get}
use Rattle.std.specs.List.{flat_map}
use Rattle.std.specs.Option.{option_map}
use Rattle.std.proofs.lemmas.Bool.{ne_eqb, cases_lt}
use Rattle.file_tables.specs.File.{FilePart}
use Rattle.assemblies.specs.Rows.{Assembly}
use Rattle.assemblies.specs.Binding.{numbered}
use Rattle.assemblies.specs.Chosen.{chosen}
use Rattle.image_bytes.specs.Layout as layout
use Rattle.image_bytes.specs.Layout.{counts_of, lengths_of, onto}
use Rattle.msspot_read.specs.Rows.{size_of}
use Rattle.std.proofs.lemmas.List.{length-map}
use Rattle.deploy_model.specs.Banks.{ends, holds, entries, joined, images_at, IsImage, AreImages}
use Rattle.boot_scan.specs.Images.{has_entry, image_size, image_entry, FORMAT}
use Rattle.converted.specs.Choosing.{choice_of}
use Rattle.converted.specs.Images.{image_at}
use Rattle.set_found.specs.Set.{entry_count}
use Rattle.set_found.proofs.SizeLaws.{onto_size, in_fours}
use Rattle.set_found.proofs.SeenLaws.{IsGood}

-- ---- one image

module _ (i : layout.Image) (q : Assembly) (g : IsGood i q) where
  own_size : length (onto i []) ≡ size_of i
  own_size =
      let whole = onto_size i [] g.shape (length-map i.tables length ∙ g.shape.count) (length-map i.pools length ∙ g.shape.pools) in
      omega (arith, whole)

  long : 4 ≤ length (onto i [])
  long = omega (arith, own_size)

  stands : image_size (onto i []) ≡ Some (length (onto i []))
  unfolding image_size
  stands = ap (λ o. option_map (λ (x : layout.Image × Assembly). size_of x.0) o) (g.seen_as []) ∙ ap Some (sym own_size)

  begins : ends (onto i []) ≡ false
  begins = ap (λ b. b || holds (0xFF ∷ 0xFF ∷ 0xFF ∷ 0xFF ∷ []) 0 (onto i [])) (ne_eqb (length (onto i [])) 0 (λ e. omega (arith, e, long)))

  pub is_image : IsImage FORMAT (onto i [])
  is_image = record { size = stands; four = long; begins = begins }

  pub entry_told : image_entry (onto i []) ≡ is_some q.entry
  unfolding image_entry
  entry_told = ap has_entry (g.seen_as []) ∙ g.entry

  pub has_fours : (n : ℕ) × (length (onto i []) ≡ 4 * n)
  has_fours = let h = in_fours i in (h.0, own_size ∙ h.1)

mapped_some : {A B : Type 0} (g : A → B) (o : Option A) → is_some (option_map g o) ≡ is_some o
mapped_some g None = refl
mapped_some g (Some x) = refl

pub joined_is : (is : List layout.Image) → joined (map (λ (i : layout.Image). onto i []) is) ≡ flat_map (λ (i : layout.Image). onto i []) is
joined_is [] = refl
joined_is (i ∷ is) = ap (λ ys. onto i [] ++ ys) (joined_is is)

-- a set leaves nothing of its bank, or four bytes
pub room_left : (n q : ℕ) → n ≡ 4 * q → n ≤ 122864 → (122864 - n ≡ 0) ⊎ (4 ≤ 122864 - n)
room_left n q e h =
    ⊎_elim (λ lt. inr (omega (arith, e, lt))) (λ ge. inl (omega (arith, ge))) (cases_lt n 122864)

-- ---- the images of files from a number on

module _ (files : List FilePart) (marks : List Bool) where
  abbrev pub AllGood : ℕ → List (FilePart × Assembly) → Type 0
  AllGood f [] = Unit {0}
  AllGood f (x ∷ xs) = IsGood (image_at files marks f x) (chosen (choice_of files marks f) x.1) × AllGood (suc f) xs

  pub all_good : (f : ℕ) (xs : List (FilePart × Assembly)) → ((j : ℕ) (x : FilePart × Assembly) → slice_get xs j ≡ Some x → IsGood (image_at files marks (f + j) x) (chosen (choice_of files marks (f + j)) x.1)) → AllGood f xs
  all_good f [] h = tt
  all_good f (x ∷ xs) h =
      let here : f + 0 ≡ f = omega arith in (
        subst (λ n. IsGood (image_at files marks n x) (chosen (choice_of files marks n) x.1)) here (h 0 x refl),
        all_good (suc f) xs
            (λ j y at.
            let there : f + suc j ≡ suc f + j = omega arith in
            subst (λ n. IsGood (image_at files marks n y) (chosen (choice_of files marks n) y.1)) there (h (suc j) y at)),
      )

  abbrev pub bytes_from : ℕ → List (FilePart × Assembly) → List (List ℕ)
  bytes_from f xs = map (λ (i : layout.Image). onto i []) (numbered (image_at files marks) f xs)

  pub are_images : (f : ℕ) (xs : List (FilePart × Assembly)) → AllGood f xs → AreImages FORMAT (bytes_from f xs)
  are_images f [] h = tt
  are_images f (x ∷ xs) h = (is_image (image_at files marks f x) (chosen (choice_of files marks f) x.1) h.0, are_images (suc f) xs h.1)

  pub all_fours : (f : ℕ) (xs : List (FilePart × Assembly)) → AllGood f xs → (n : ℕ) × (length (joined (bytes_from f xs)) ≡ 4 * n)
  all_fours f [] h = (0, refl)
  all_fours f (x ∷ xs) h =
      let first = has_fours (image_at files marks f x) (chosen (choice_of files marks f) x.1) h.0 in
      let rest = all_fours (suc f) xs h.1 in
      let both = length-append (onto (image_at files marks f x) []) (joined (bytes_from (suc f) xs)) in
      (first.0 + rest.0, omega (arith, both, first.1, rest.1))

  pub entries_are : (f at : ℕ) (xs : List (FilePart × Assembly)) → AllGood f xs → entries FORMAT (images_at at (bytes_from f xs)) ≡ entry_count (map (λ (x : FilePart × Assembly). x.1) xs)
  entries_are f at [] h = refl
  entries_are f at (x ∷ xs) h =
      let i : layout.Image = image_at files marks f x in
      let rest = entries_are (suc f) (at + length (onto i [])) xs h.1 in
      let told : image_entry (onto i []) ≡ is_some x.1.entry = entry_told i (chosen (choice_of files marks f) x.1) h.0 ∙ mapped_some _ x.1.entry in
      ap (λ b. if b then suc (entries FORMAT (images_at (at + length (onto i [])) (bytes_from (suc f) xs))) else entries FORMAT (images_at (at + length (onto i [])) (bytes_from (suc f) xs))) told
      ∙ ap (λ n. if is_some x.1.entry then suc n else n) rest
