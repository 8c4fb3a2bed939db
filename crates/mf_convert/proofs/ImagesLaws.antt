-- The images of files one after the other: those of the first files are there, and what the others come to is left.
use Rattle.std.proofs.Common.{Vec, Global, ◌≡◌, ◌∙◌, ℕ, zero, suc, ◌+◌, ◌<◌, ◌≤◌, Bool, List, [], ◌∷◌, ◌++◌, length, drop, Option, Some, None, refl, sym, ap, arith, append_assoc, append-nil}
use Rattle.std.specs.Prelude.{slice_get, Ok, Err}
use Rattle.std.specs.List.{flat_map, zip}
use Rattle.plain_types.specs.declared.fault.Limit.{Limit}
use Rattle.file_tables.specs.File.{FilePart}
use Rattle.classes.specs.Queries.{first_some}
use Rattle.assemblies.specs.Rows.{Assembly}
use Rattle.assemblies.specs.Binding.{numbered}
use Rattle.image_bytes.specs.Layout.{onto}
use Rattle.world_rows.specs.World.{assemblies_of}
use Rattle.converted.specs.Images.{image_at, set_bytes}
use Rattle.converted.specs.Over.{over_at, over_files}
use Rattle.convert_kept.specs.declared.refusal.ConvertRefusal.{ConvertRefusal}
use Rattle.convert_kept.specs.declared.refusal.ConvertRefusal.TheVariants as refusal
use Rattle.convert_kept.specs.Conversion.{unless_over, conversion_at, Gives}
use Rattle.mf_convert.specs.Conversion.{images_within}

abbrev pub items : Vec ℕ Global → List ℕ
items bytes = bytes.items

-- ---- lists

numbered_length : {A B : Type 0} (make : ℕ → A → B) (n : ℕ) (xs : List A) → length (numbered make n xs) ≡ length xs
numbered_length make n [] = refl
numbered_length make n (x ∷ xs) = ap suc (numbered_length make (suc n) xs)

a_pair : {A B : Type 0} (xs : List A) (ys : List B) (k : ℕ) → k < length xs → length ys ≡ length xs → (z : A × B) × (slice_get (zip xs ys) k ≡ Some z)
a_pair [] ys k lt same = absurd (omega (arith, lt))
a_pair (x ∷ xs) [] k lt same = absurd (omega (arith, same))
a_pair (x ∷ xs) (y ∷ ys) zero lt same = ((x, y), refl)
a_pair (x ∷ xs) (y ∷ ys) (suc k) lt same = a_pair xs ys k (omega (arith, lt)) (omega (arith, same))

few_pairs : {A B : Type 0} (xs : List A) (ys : List B) → length (zip xs ys) ≤ length xs
few_pairs [] ys = omega arith
few_pairs (x ∷ xs) [] = omega arith
few_pairs (x ∷ xs) (y ∷ ys) = omega (arith, few_pairs xs ys)

drop_at : {A : Type 0} (xs : List A) (k : ℕ) (x : A) → slice_get xs k ≡ Some x → drop k xs ≡ x ∷ drop (k + 1) xs
drop_at [] k x at = absurd (cc at)
drop_at (y ∷ xs) zero x at = let same : y ≡ x = cc at in ap (λ z. z ∷ xs) same
drop_at (y ∷ xs) (suc k) x at =
    let next : suc (k + 1) ≡ suc k + 1 = omega arith in
    drop_at xs k x at ∙ ap (λ n. x ∷ drop n (y ∷ xs)) next

drop_all : {A : Type 0} (xs : List A) (k : ℕ) → length xs ≤ k → drop k xs ≡ []
drop_all [] zero le = refl
drop_all [] (suc k) le = refl
drop_all (x ∷ xs) zero le = absurd (omega (arith, le))
drop_all (x ∷ xs) (suc k) le = drop_all xs k (omega (arith, le))

-- ---- files

module _ (files : List FilePart) (marks : List Bool) where
  abbrev pub pairs : List (FilePart × Assembly)
  pairs = zip files (assemblies_of files)

  as_many : length (assemblies_of files) ≡ length files
  unfolding assemblies_of
  as_many = numbered_length _ 0 files

  pub a_file : (k : ℕ) → k < length files → (x : FilePart × Assembly) × (slice_get pairs k ≡ Some x)
  a_file k lt = a_pair files (assemblies_of files) k lt as_many

  -- the bytes of the files from a number on, and the first limit that they pass
  abbrev pub bytes_from : ℕ → List ℕ
  bytes_from k = flat_map (λ i. onto i []) (numbered (image_at files marks) k (drop k pairs))

  abbrev pub over_from : ℕ → Option Limit
  over_from k = first_some (λ o. o) (numbered (over_at files marks) k (drop k pairs))

  -- so many files are converted into these bytes
  pub record AreDone (k : ℕ) (set : List ℕ) : Type 0 where
    pub bytes : set_bytes files marks ≡ set ++ bytes_from k
    pub within : over_files files marks ≡ over_from k

  pub none_done : AreDone 0 []
  none_done = record { bytes = refl; within = refl }

  abbrev bytes_in : ℕ → List (FilePart × Assembly) → List ℕ
  bytes_in k xs = flat_map (λ i. onto i []) (numbered (image_at files marks) k xs)

  abbrev over_in : ℕ → List (FilePart × Assembly) → Option Limit
  over_in k xs = first_some (λ o. o) (numbered (over_at files marks) k xs)

  abbrev within_in : List (FilePart × Assembly) → ℕ → FilePart × Assembly → Option Limit → Option Limit
  within_in xs k x None = over_in (k + 1) xs
  within_in xs k x (Some l) = Some l

  next_number : (k : ℕ) (xs : List (FilePart × Assembly)) → bytes_in (suc k) xs ≡ bytes_in (k + 1) xs
  next_number k xs = let one : suc k ≡ k + 1 = omega arith in ap (λ n. bytes_in n xs) one

  next_over : (k : ℕ) (xs : List (FilePart × Assembly)) → over_in (suc k) xs ≡ over_in (k + 1) xs
  next_over k xs = let one : suc k ≡ k + 1 = omega arith in ap (λ n. over_in n xs) one

  module _ (k : ℕ) (set : List ℕ) (x : FilePart × Assembly) (done : AreDone k set) (at : slice_get pairs k ≡ Some x) where
    -- one file more
    pub one_done : (image : List ℕ) → Ok image ≡ conversion_at files marks k x → AreDone (k + 1) (set ++ image)
    one_done image told = by (over_at files marks k x) refl told
      where
        by : (o : Option Limit) → over_at files marks k x ≡ o → Ok image ≡ unless_over o (onto (image_at files marks k x) []) → AreDone (k + 1) (set ++ image)
        by None none told =
            let same : image ≡ onto (image_at files marks k x) [] = cc told in
            record {
              bytes =
                  done.bytes
                  ∙ ap (λ xs. set ++ bytes_in k xs) (drop_at pairs k x at)
                  ∙ ap (λ zs. set ++ (onto (image_at files marks k x) [] ++ zs)) (next_number k (drop (k + 1) pairs))
                  ∙ ap (λ zs. set ++ (zs ++ bytes_from (k + 1))) (sym same)
                  ∙ sym (append_assoc set image (bytes_from (k + 1)));
              within =
                  done.within
                  ∙ ap (λ xs. over_in k xs) (drop_at pairs k x at)
                  ∙ ap (λ o. first_some (λ o. o) (o ∷ numbered (over_at files marks) (suc k) (drop (k + 1) pairs))) none
                  ∙ next_over k (drop (k + 1) pairs);
            }
        by (Some l) some told = absurd (cc told)

    -- or the first limit
    pub is_over : (l : Limit) → Err l ≡ conversion_at files marks k x → Err l ≡ images_within files marks
    is_over l told = by (over_at files marks k x) refl told
      where
        by : (o : Option Limit) → over_at files marks k x ≡ o → Err l ≡ unless_over o (onto (image_at files marks k x) []) → Err l ≡ images_within files marks
        by None none told = absurd (cc told)
        by (Some m) some told =
            told
            ∙ ap (λ o. unless_over o (set_bytes files marks))
            (sym
            (done.within
            ∙ ap (λ xs. over_in k xs) (drop_at pairs k x at)
            ∙ ap (λ o. first_some (λ o. o) (o ∷ numbered (over_at files marks) (suc k) (drop (k + 1) pairs))) some))

  -- the first limit of a file is that of all, and want of memory is free
  pub is_refused : (k : ℕ) (set : List ℕ) (x : FilePart × Assembly) (e : ConvertRefusal) → AreDone k set → slice_get pairs k ≡ Some x → Gives items (Err e) (λ found. found ≡ conversion_at files marks k x) → Gives items (Err e) (λ found. found ≡ images_within files marks)
  is_refused k set x (refusal.Limit l) done at told = is_over k set x done at l told
  is_refused k set x refusal.NoMemory done at told = tt

  pub all_done : (k : ℕ) (set : List ℕ) → length files ≤ k → AreDone k set → Ok set ≡ images_within files marks
  all_done k set all done =
      let none : drop k pairs ≡ [] = drop_all pairs k (omega (arith, all, few_pairs files (assemblies_of files))) in
      let whole : set_bytes files marks ≡ set = done.bytes ∙ ap (λ xs. set ++ bytes_in k xs) none ∙ append-nil set in
      let within : over_files files marks ≡ None = done.within ∙ ap (λ xs. over_in k xs) none in
      ap (λ (bytes : List ℕ). Ok bytes) (sym whole) ∙ ap (λ o. unless_over o (set_bytes files marks)) (sym within)
