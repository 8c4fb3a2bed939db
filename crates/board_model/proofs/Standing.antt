-- Each image of a set that is found stands by its own bytes.
use Rattle.std.proofs.Common.{◌≡◌, ℕ, zero, suc, ◌+◌, ◌&&◌, ◌||◌, Bool, true, false, not, List, [], ◌∷◌, take, drop, Option, Some, None, refl, sym, ap, subst}
use Rattle.std.specs.Prelude.{IsSome, ◌==◌, nat_le, if◌then◌else◌}
use Rattle.deploy_model.specs.Banks.{Format, IsFormat, Image, Walked, Stuck, Walks, Found, NoSet, BadSet, WholeSet, ends, with_image, on_image, walk, entries, judge, is_set, is_late, base, BODY, MOST_IMAGES, image_marker, bank_marker, holds, bank_of, number_in, old_found, bank_found, located, first_bad, choose, found}
use Rattle.board_model.specs.Standing.{Stand}

take_twice : {A : Type 0} (n : ℕ) (xs : List A) → take n (take n xs) ≡ take n xs
take_twice zero xs = refl
take_twice (suc n) [] = refl
take_twice (suc n) (x ∷ xs) = ap (λ ys. x ∷ ys) (take_twice n xs)

some_size : (o : Option ℕ) (size : ℕ) → o ≡ Some size → IsSome o
some_size o size e = subst IsSome (sym e) refl

module _ (f : Format) (format : IsFormat f) where
  pub walk_stands : (n at : ℕ) (bytes : List ℕ) (images : List Image) → walk f n at bytes ≡ Walks images → Stand f images
  walk_stands zero at bytes images e = by (ends bytes) e
    where
      by : (b : Bool) → (if b then Walks [] else Stuck at) ≡ Walks images → Stand f images
      by true e = let none : [] ≡ images = cc e in subst (Stand f) none tt
      by false e = cc e
  walk_stands (suc n) at bytes images e = by (ends bytes) (f.image bytes) refl e (λ size rest. walk_stands n (at + size) (drop size bytes) rest)
    where
      more : (size : ℕ) → f.image bytes ≡ Some size → (w : Walked) → ((rest : List Image) → w ≡ Walks rest → Stand f rest) → with_image (record { at = at; bytes = take size bytes }) w ≡ Walks images → Stand f images
      more size is (Stuck place) ih e = cc e
      more size is (Walks rest) ih e =
          let same : (record { at = at; bytes = take size bytes }) ∷ rest ≡ images = cc e in
          subst (Stand f) same (some_size (f.image (take size bytes)) size (format.own bytes (take size bytes) size is (take_twice size bytes)), ih rest refl)

      by : (b : Bool) (o : Option ℕ) → f.image bytes ≡ o → (if b then Walks [] else on_image o at bytes (λ size. walk f n (at + size) (drop size bytes))) ≡ Walks images
          → ((size : ℕ) (rest : List Image) → walk f n (at + size) (drop size bytes) ≡ Walks rest → Stand f rest) → Stand f images
      by true o is e ih = let none : [] ≡ images = cc e in subst (Stand f) none tt
      by false None is e ih = cc e
      by false (Some size) is e ih = more size is (walk f n (at + size) (drop size bytes)) (ih size) e

  judge_stands : (start : ℕ) (w : Walked) (images : List Image) → ((all : List Image) → w ≡ Walks all → Stand f all) → judge f start w ≡ WholeSet images → Stand f images
  judge_stands start (Stuck at) images h e = cc e
  judge_stands start (Walks all) images h e = by (entries f all == 1) e
    where
      by : (b : Bool) → (if b then WholeSet all else BadSet start) ≡ WholeSet images → Stand f images
      by true e = let same : all ≡ images = cc e in subst (Stand f) same (h all refl)
      by false e = cc e

  old_stands : (content : List ℕ) (images : List Image) → old_found f content ≡ WholeSet images → Stand f images
  unfolding old_found
  old_stands content images e = by (holds image_marker 0 content) e
    where
      by : (b : Bool) → (if b then judge f 0 (walk f MOST_IMAGES 0 content) else NoSet) ≡ WholeSet images → Stand f images
      by true e = judge_stands 0 (walk f MOST_IMAGES 0 content) images (walk_stands MOST_IMAGES 0 content) e
      by false e = cc e

  bank_stands : (bank : ℕ) (bytes : List ℕ) (images : List Image) → bank_found f bank bytes ≡ WholeSet images → Stand f images
  unfolding bank_found
  bank_stands bank bytes images e = by (holds bank_marker 0 bytes) e
    where
      by : (b : Bool) → (if b then judge f (base bank) (walk f MOST_IMAGES (base bank + BODY) (drop BODY bytes)) else NoSet) ≡ WholeSet images → Stand f images
      by true e = judge_stands (base bank) (walk f MOST_IMAGES (base bank + BODY) (drop BODY bytes)) images (walk_stands MOST_IMAGES (base bank + BODY) (drop BODY bytes)) e
      by false e = cc e

  -- one of three
  first_stands : (old first second : Found) (images : List Image) → (old ≡ WholeSet images → Stand f images) → (first ≡ WholeSet images → Stand f images) → (second ≡ WholeSet images → Stand f images) → first_bad old first second ≡ WholeSet images → Stand f images
  first_stands NoSet NoSet second images a b c e = c e
  first_stands NoSet (BadSet at) second images a b c e = cc e
  first_stands NoSet (WholeSet xs) second images a b c e = b e
  first_stands (BadSet at) first second images a b c e = cc e
  first_stands (WholeSet xs) first second images a b c e = a e

  choose_stands : (old first second : Found) (n m : ℕ) (images : List Image) → (old ≡ WholeSet images → Stand f images) → (first ≡ WholeSet images → Stand f images) → (second ≡ WholeSet images → Stand f images) → (choose old first second n m).found ≡ WholeSet images → Stand f images
  unfolding choose
  choose_stands old first second n m images a b c e = by (is_late old) (is_set first && (not (is_set second) || nat_le m n)) (is_set second) (is_set old) e
    where
      by : (late one two front : Bool)
          → (if late then located old 2 0 0 else (if one then located first 3 0 n else (if two then located second 3 1 m else (if front then located old 1 0 0 else located (first_bad old first second) 0 0 0)))).found ≡ WholeSet images
          → Stand f images
      by true one two front e = a e
      by false true two front e = b e
      by false false true front e = c e
      by false false false true e = a e
      by false false false false e = first_stands old first second images a b c e

  pub found_stands : (content : List ℕ) (images : List Image) → found f content ≡ WholeSet images → Stand f images
  found_stands content images e =
      choose_stands (old_found f content) (bank_found f 0 (bank_of 0 content)) (bank_found f 1 (bank_of 1 content)) (number_in (bank_of 0 content)) (number_in (bank_of 1 content)) images
      (old_stands content images) (bank_stands 0 (bank_of 0 content) images) (bank_stands 1 (bank_of 1 content) images) e
