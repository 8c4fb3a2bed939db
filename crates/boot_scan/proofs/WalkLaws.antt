-- A walk over images that goes on: what was told so far, and what is left.
use Rattle.std.proofs.Common.{◌≡◌, ◌≢◌, ℕ, zero, suc, ◌+◌, ◌-◌, ◌<◌, ◌≤◌, Bool, true, false, List, [], ◌∷◌, ◌++◌, length, take, drop, replicate, Option, Some, None, refl, sym, ap, ◌∙◌, subst, arith, below_more, get_or-set_other, get_or-set_same, length-set, length-drop}
use mir.Val.{bool_byte}
use Rattle.std.specs.Prelude.{slice_index, slice_set, if◌then◌else◌}
use Rattle.std.proofs.lemmas.List.{drop-drop, take-take, take_more_set, length-take-le}
use Rattle.deploy_model.specs.Banks.{Image, Walked, Stuck, Walks, ends, with_image, on_image, walk, entries, sizes}
use Rattle.boot_scan.specs.Images.{image_size, image_entry, FORMAT}
use Rattle.boot_scan.specs.Sets.{image_in, images_of}
use Rattle.boot_scan.proofs.SeenLaws.{image_inside, entry_alone}

-- ---- one image more

abbrev pub onto_all : List Image → Walked → Walked
onto_all [] w = w
onto_all (image ∷ images) w = with_image image (onto_all images w)

onto_more : (xs : List Image) (x : Image) (w : Walked) → onto_all (xs ++ (x ∷ [])) w ≡ onto_all xs (with_image x w)
onto_more [] x w = refl
onto_more (y ∷ xs) x w = ap (with_image y) (onto_more xs x w)

onto_stuck : (xs : List Image) (at : ℕ) → onto_all xs (Stuck at) ≡ Stuck at
onto_stuck [] at = refl
onto_stuck (x ∷ xs) at = ap (with_image x) (onto_stuck xs at)

onto_walks : (xs : List Image) → onto_all xs (Walks []) ≡ Walks xs
onto_walks [] = refl
onto_walks (x ∷ xs) = ap (with_image x) (onto_walks xs)

images_more : (bytes places lengths : List ℕ) (at size : ℕ) → length places ≡ length lengths → images_of bytes (places ++ (at ∷ [])) (lengths ++ (size ∷ [])) ≡ images_of bytes places lengths ++ (image_in bytes at size ∷ [])
images_more bytes [] [] at size e = refl
images_more bytes [] (s ∷ lengths) at size e = absurd (omega (arith, e))
images_more bytes (a ∷ places) [] at size e = absurd (omega (arith, e))
images_more bytes (a ∷ places) (s ∷ lengths) at size e = ap (λ xs. image_in bytes a s ∷ xs) (images_more bytes places lengths at size (omega (arith, e)))

abbrev pub one_if : Bool → ℕ
one_if b = if b then 1 else 0

entries_more : (xs : List Image) (x : Image) → entries FORMAT (xs ++ (x ∷ [])) ≡ entries FORMAT xs + one_if (image_entry x.bytes)
entries_more [] x = by (image_entry x.bytes) where
  by : (b : Bool) → (if b then 1 else 0) ≡ 0 + one_if b
  by true = refl
  by false = refl
entries_more (y ∷ xs) x = ap (λ n. if image_entry y.bytes then suc n else n) (entries_more xs x) ∙ by (image_entry y.bytes) (entries FORMAT xs) (one_if (image_entry x.bytes)) where
  by : (b : Bool) (n m : ℕ) → (if b then suc (n + m) else n + m) ≡ (if b then suc n else n) + m
  by true n m = omega arith
  by false n m = refl

sizes_more : (xs : List Image) (x : Image) → sizes (xs ++ (x ∷ [])) ≡ sizes xs + length x.bytes
sizes_more [] x = omega arith
sizes_more (y ∷ xs) x = let e = sizes_more xs x in omega (arith, e)

-- ---- one step of the walk

walk_step : (m place n : ℕ) (rest : List ℕ) → ends rest ≡ false → image_size rest ≡ Some n → walk FORMAT (suc m) place rest ≡ with_image (record { at = place; bytes = take n rest }) (walk FORMAT m (place + n) (drop n rest))
walk_step m place n rest e f =
    ap (λ (b : Bool). if b then Walks [] else on_image (image_size rest) place rest (λ size. walk FORMAT m (place + size) (drop size rest))) e
    ∙ ap (λ (o : Option ℕ). on_image o place rest (λ size. walk FORMAT m (place + size) (drop size rest))) f

walk_missing : (m place : ℕ) (rest : List ℕ) → ends rest ≡ false → image_size rest ≡ None → walk FORMAT (suc m) place rest ≡ Stuck place
walk_missing m place rest e f =
    ap (λ (b : Bool). if b then Walks [] else on_image (image_size rest) place rest (λ size. walk FORMAT m (place + size) (drop size rest))) e
    ∙ ap (λ (o : Option ℕ). on_image o place rest (λ size. walk FORMAT m (place + size) (drop size rest))) f

walk_full : (place : ℕ) (rest : List ℕ) → ends rest ≡ false → walk FORMAT 0 place rest ≡ Stuck place
walk_full place rest e = ap (λ (b : Bool). if b then Walks [] else Stuck place) e

walk_ends : (m place : ℕ) (rest : List ℕ) → ends rest ≡ true → walk FORMAT m place rest ≡ Walks []
walk_ends zero place rest e = ap (λ (b : Bool). if b then Walks [] else Stuck place) e
walk_ends (suc m) place rest e =
    ap (λ (b : Bool). if b then Walks [] else on_image (image_size rest) place rest (λ size. walk FORMAT m (place + size) (drop size rest))) e

some_left : (rest : List ℕ) → ends rest ≡ false → 1 ≤ length rest
some_left [] e = absurd (cc e)
some_left (x ∷ xs) e = omega arith

-- ---- the walk so far

module _ (bytes : List ℕ) (start : ℕ) where
  abbrev pub told : ℕ → List ℕ → List ℕ → List Image
  told count at size = images_of bytes (take count at) (take count size)

  abbrev whole : Walked
  whole = walk FORMAT 32 start (drop start bytes)

  pub record Walking (place count : ℕ) (at size : List ℕ) (named : ℕ) : Type 0 where
    pub few : count ≤ 32
    pub places : length at ≡ 32
    pub lengths : length size ≡ 32
    pub goes : onto_all (told count at size) (walk FORMAT (32 - count) place (drop place bytes)) ≡ whole
    pub have_entry : entries FORMAT (told count at size) ≡ named
    pub fewer : named ≤ count
    pub total : start + sizes (told count at size) ≡ place
    pub inside : (k : ℕ) → k < count → slice_index at k + slice_index size k ≤ length bytes
    pub no_place : (k : ℕ) → count ≤ k → slice_index at k ≡ 0
    pub no_size : (k : ℕ) → count ≤ k → slice_index size k ≡ 0
    pub fits : place ≤ 4294967295

  no_more : (n k : ℕ) → slice_index (replicate n 0) k ≡ 0
  no_more zero k = refl
  no_more (suc n) zero = refl
  no_more (suc n) (suc k) = no_more n k

  first : start ≤ 4294967295 → Walking start 0 (replicate 32 0) (replicate 32 0) 0
  first h =
      record {
        few = omega arith;
        places = refl;
        lengths = refl;
        goes = refl;
        have_entry = refl;
        fewer = omega arith;
        total = omega arith;
        inside = λ k low. absurd (omega (arith, low));
        no_place = λ k low. no_more 32 k;
        no_size = λ k low. no_more 32 k;
        fits = h;
      }

  pub begins : (count : ℕ) (at size : List ℕ) → start ≤ 4294967295 → count ≡ 0 → at ≡ replicate 32 0 → size ≡ replicate 32 0 → Walking start count at size 0
  begins count at size h e f g =
      subst (λ n. Walking start n at size 0) (sym e) (subst (λ xs. Walking start 0 xs size 0) (sym f) (subst (λ xs. Walking start 0 (replicate 32 0) xs 0) (sym g) (first h)))

  module _ (place count : ℕ) (at size : List ℕ) (named : ℕ) (w : Walking place count at size named) where
    pub done : ends (drop place bytes) ≡ true → Walks (told count at size) ≡ whole
    done e = sym (onto_walks (told count at size)) ∙ ap (onto_all (told count at size)) (sym (walk_ends (32 - count) place (drop place bytes) e)) ∙ w.goes

    pub one_too_many : count ≡ 32 → ends (drop place bytes) ≡ false → Stuck place ≡ whole
    one_too_many full e =
        let none : 32 - count ≡ 0 = omega (arith, full) in
        sym (onto_stuck (told count at size) place)
        ∙ ap (onto_all (told count at size)) (sym (ap (λ m. walk FORMAT m place (drop place bytes)) none ∙ walk_full place (drop place bytes) e))
        ∙ w.goes

    one_left : count ≢ 32 → 32 - count ≡ suc (32 - (count + 1))
    one_left other = let few = w.few in omega (arith, other, few)

    pub missing : count ≢ 32 → ends (drop place bytes) ≡ false → image_size (drop place bytes) ≡ None → Stuck place ≡ whole
    missing other e f =
        sym (onto_stuck (told count at size) place)
        ∙ ap (onto_all (told count at size)) (sym (ap (λ m. walk FORMAT m place (drop place bytes)) (one_left other) ∙ walk_missing (32 - (count + 1)) place (drop place bytes) e f))
        ∙ w.goes

    module _ (n : ℕ) (b : Bool) (other : count ≢ 32) (e : ends (drop place bytes) ≡ false) (f : image_size (drop place bytes) ≡ Some n) (g : b ≡ image_entry (drop place bytes)) where
      abbrev x : Image
      x = image_in bytes place n

      low : count < 32
      low = let few = w.few in omega (arith, other, few)

      -- the image lies inside
      ends_inside : place + n ≤ length bytes
      ends_inside =
          let long = length-drop place bytes in
          let some = some_left (drop place bytes) e in
          let size = image_inside (drop place bytes) n f in
          omega (arith, long, some, size)

      same_entry : image_entry x.bytes ≡ b
      same_entry = entry_alone (drop place bytes) (take n (drop place bytes)) n f (take-take n n (drop place bytes) (omega arith)) ∙ sym g

      more : told (count + 1) (slice_set at count place) (slice_set size count n) ≡ told count at size ++ (x ∷ [])
      more =
          let places = w.places in
          let lengths = w.lengths in
          let lower = low in
          let in_places : count < length at = omega (arith, places, lower) in
          let in_lengths : count < length size = omega (arith, lengths, lower) in
          let long : length (take count at) ≡ length (take count size) = length-take-le count at (omega (arith, in_places)) ∙ sym (length-take-le count size (omega (arith, in_lengths))) in
          ap (λ xs. images_of bytes xs (take (count + 1) (slice_set size count n))) (take_more_set at count place in_places)
          ∙ ap (images_of bytes (take count at ++ (place ∷ []))) (take_more_set size count n in_lengths)
          ∙ images_more bytes (take count at) (take count size) place n long

      taken_size : length x.bytes ≡ n
      taken_size = let fits = ends_inside in let long = length-drop place bytes in length-take-le n (drop place bytes) (omega (arith, fits, long))

      left : walk FORMAT (32 - count) place (drop place bytes) ≡ with_image x (walk FORMAT (32 - (count + 1)) (place + n) (drop (place + n) bytes))
      left =
          ap (λ m. walk FORMAT m place (drop place bytes)) (one_left other)
          ∙ walk_step (32 - (count + 1)) place n (drop place bytes) e f
          ∙ ap (λ xs. with_image x (walk FORMAT (32 - (count + 1)) (place + n) xs)) (drop-drop n place bytes)

      one_most : (t : Bool) → one_if t ≤ 1
      one_most true = omega arith
      one_most false = omega arith

      set_at : (xs : List ℕ) (v : ℕ) → length xs ≡ 32 → slice_index (slice_set xs count v) count ≡ v
      set_at xs v long = let lower = low in get_or-set_same xs count v 0 (omega (arith, lower, long))

      unset : (xs : List ℕ) (v k : ℕ) → k ≢ count → slice_index (slice_set xs count v) k ≡ slice_index xs k
      unset xs v k away = get_or-set_other xs count k v 0 away

      inside_before : (k : ℕ) → k < count → slice_index (slice_set at count place) k + slice_index (slice_set size count n) k ≤ length bytes
      inside_before k lower =
          let away : k ≢ count = omega arith in
          let p = unset at place k away in
          let q = unset size n k away in
          let was = w.inside k lower in
          omega (arith, p, q, was)

      inside_here : slice_index (slice_set at count place) count + slice_index (slice_set size count n) count ≤ length bytes
      inside_here =
          let p = set_at at place w.places in
          let q = set_at size n w.lengths in
          let fits = ends_inside in
          omega (arith, p, q, fits)

      pub goes_on : length bytes ≤ 4294967295 → Walking (place + n) (count + 1) (slice_set at count place) (slice_set size count n) (named + one_if b)
      goes_on short =
          let lower = low in
          let fits = ends_inside in
          record {
            few = omega (arith, lower);
            places = length-set at count place ∙ w.places;
            lengths = length-set size count n ∙ w.lengths;
            goes =
                ap (λ xs. onto_all xs (walk FORMAT (32 - (count + 1)) (place + n) (drop (place + n) bytes))) more
                ∙ onto_more (told count at size) x (walk FORMAT (32 - (count + 1)) (place + n) (drop (place + n) bytes))
                ∙ ap (onto_all (told count at size)) (sym left)
                ∙ w.goes;
            have_entry =
                ap (entries FORMAT) more
                ∙ entries_more (told count at size) x
                ∙ ap (λ k. k + one_if (image_entry x.bytes)) w.have_entry
                ∙ ap (λ t. named + one_if t) same_entry;
            fewer = let was = w.fewer in let one = one_most b in omega (arith, was, one);
            total = ap (λ xs. start + sizes xs) more ∙ (let s = sizes_more (told count at size) x in let t = w.total in let u = taken_size in omega (arith, s, t, u));
            inside = below_more _ _ inside_before inside_here;
            no_place = λ k high. let away : k ≢ count = omega arith in unset at place k away ∙ w.no_place k (omega (arith, high));
            no_size = λ k high. let away : k ≢ count = omega arith in unset size n k away ∙ w.no_size k (omega (arith, high));
            fits = omega (arith, fits, short);
          }

      pub goes_on_to : (count2 : ℕ) (at2 size2 : List ℕ) (named2 : ℕ) → length bytes ≤ 4294967295 → count2 ≡ count + 1 → at2 ≡ slice_set at count place → size2 ≡ slice_set size count n → named2 ≡ named + one_if b → Walking (place + n) count2 at2 size2 named2
      goes_on_to count2 at2 size2 named2 short p q r s =
          subst (λ k. Walking (place + n) k at2 size2 named2) (sym p)
          (subst (λ xs. Walking (place + n) (count + 1) xs size2 named2) (sym q)
          (subst (λ xs. Walking (place + n) (count + 1) (slice_set at count place) xs named2) (sym r)
          (subst (λ k. Walking (place + n) (count + 1) (slice_set at count place) (slice_set size count n) k) (sym s) (goes_on short))))

pub byte_is : (b : Bool) → bool_byte b ≡ one_if b
byte_is true = refl
byte_is false = refl
