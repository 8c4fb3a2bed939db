-- What is read of a flash depends on the bytes read alone.
use Rattle.std.proofs.Common.{◌≡◌, ℕ, zero, suc, ◌+◌, ◌-◌, ◌<◌, ◌≤◌, min, Bool, true, false, ◌||◌, List, [], ◌∷◌, length, take, drop, Option, Some, None, refl, sym, ap, ◌∙◌, arith}
use Rattle.std.specs.Prelude.{slice_index, if◌then◌else◌, ◌==◌}
use Rattle.std.proofs.lemmas.Bool.{ltb-false}
use Rattle.std.proofs.lemmas.List.{length-take, length-drop, get_or-take, get_or-drop, ext_get_or}
use Rattle.deploy_model.specs.Banks.{Format, IsFormat, Image, Walked, Stuck, Walks, ends, with_image, on_image, walk, sizes, entries, judge, Found, NoSet, BadSet, WholeSet, is_set, is_late, old_found, image_marker, holds, MOST_IMAGES, LAST_END}
use Rattle.deploy_laws.proofs.Markers.{holds_same}

-- two contents of one length agree in their first m bytes
pub record Agree (m : ℕ) (xs ys : List ℕ) : Type 0 where
  pub size : length ys ≡ length xs
  pub within : m ≤ length xs
  pub same : (i : ℕ) → i < m → slice_index ys i ≡ slice_index xs i

ends_same : (m : ℕ) (xs ys : List ℕ) → 4 ≤ m → Agree m xs ys → ends ys ≡ ends xs
ends_same m xs ys four agree =
    ap (λ (n : ℕ). (n == 0) || holds (0xFF ∷ 0xFF ∷ 0xFF ∷ 0xFF ∷ []) 0 ys) agree.size
    ∙ ap (λ (b : Bool). (length xs == 0) || b) (holds_same (0xFF ∷ 0xFF ∷ 0xFF ∷ 0xFF ∷ []) 0 xs ys (λ i low. first i (omega arith)))
  where
    first : (i : ℕ) → i < 4 → slice_index ys (0 + i) ≡ slice_index xs (0 + i)
    first i low = let e : 0 + i ≡ i = omega arith in ap (λ (n : ℕ). slice_index ys n) e ∙ agree.same i (omega arith) ∙ ap (λ (n : ℕ). slice_index xs n) (sym e)

least : (a b c : ℕ) → a ≡ min b c → b ≤ c → a ≡ b
least a b c e low = omega arith

take_same : (size m : ℕ) (xs ys : List ℕ) → size ≤ m → Agree m xs ys → take size ys ≡ take size xs
take_same size m xs ys low agree =
    let a = agree.size in
    let b = agree.within in
    let e : length (take size ys) ≡ size = least (length (take size ys)) size (length ys) (length-take size ys) (omega arith) in
    let f : length (take size xs) ≡ size = least (length (take size xs)) size (length xs) (length-take size xs) (omega arith) in
    ext_get_or 0 (take size ys) (take size xs) (e ∙ sym f) (λ i below.
    let short : i < size = omega arith in
    get_or-take size ys i 0 short ∙ agree.same i (omega arith) ∙ sym (get_or-take size xs i 0 short))

drop_agree : (size m : ℕ) (xs ys : List ℕ) → size ≤ m → Agree m xs ys → Agree (m - size) (drop size xs) (drop size ys)
drop_agree size m xs ys low agree =
    let a = agree.size in
    let b = agree.within in
    record {
      size = length-drop size ys ∙ ap (λ (n : ℕ). n - size) a ∙ sym (length-drop size xs);
      within = let e = length-drop size xs in omega arith;
      same = λ i below. get_or-drop size ys i 0 ∙ agree.same (size + i) (omega arith) ∙ sym (get_or-drop size xs i 0);
    }

abbrev walked_sizes : Walked → ℕ
walked_sizes (Stuck at) = 0
walked_sizes (Walks images) = sizes images

-- what a walk of the others gives, for a list of at most n images
abbrev Local : Format → ℕ → Type 0
Local f n =
    (at m : ℕ) (xs ys : List ℕ) (images : List Image) → walk f n at xs ≡ Walks images → sizes images + 4 ≤ m → Agree m xs ys → walk f n at ys ≡ Walks images

step_rest : (f : Format) (n at m size : ℕ) (xs ys : List ℕ) (images : List Image) (w : Walked) → Local f n → size ≤ length xs → take size ys ≡ take size xs → sizes images + 4 ≤ m → Agree m xs ys
    → walk f n (at + size) (drop size xs) ≡ w → with_image (record { at = at; bytes = take size xs }) w ≡ Walks images
    → with_image (record { at = at; bytes = take size ys }) (walk f n (at + size) (drop size ys)) ≡ Walks images
step_rest f n at m size xs ys images (Stuck place) local inside same fits agree walks gives = absurd (cc)
step_rest f n at m size xs ys images (Walks rest) local inside same fits agree walks gives =
    let e : length (take size xs) + sizes rest ≡ sizes images = ap walked_sizes gives in
    let g : length (take size xs) ≡ size = least (length (take size xs)) size (length xs) (length-take size xs) inside in
    ap (λ (bytes : List ℕ). with_image (record { at = at; bytes = bytes }) (walk f n (at + size) (drop size ys))) same
    ∙ ap (λ (w : Walked). with_image (record { at = at; bytes = take size xs }) w) (local (at + size) (m - size) (drop size xs) (drop size ys) rest walks (omega arith) (drop_agree size m xs ys (omega arith) agree))
    ∙ gives

length_part : (a b c d m : ℕ) → a + b ≡ c → a ≡ d → c + 4 ≤ m → d ≤ m
length_part a b c d m e g fits = omega arith

size_low : (f : Format) (n at m size : ℕ) (xs : List ℕ) (images : List Image) (w : Walked) → size ≤ length xs → sizes images + 4 ≤ m
    → with_image (record { at = at; bytes = take size xs }) w ≡ Walks images → size ≤ m
size_low f n at m size xs images (Stuck place) inside fits gives = absurd (cc)
size_low f n at m size xs images (Walks rest) inside fits gives =
    length_part (length (take size xs)) (sizes rest) (sizes images) size m (ap walked_sizes gives) (least (length (take size xs)) size (length xs) (length-take size xs) inside) fits

step_image : (f : Format) (n at m : ℕ) (xs ys : List ℕ) (images : List Image) (o : Option ℕ) → IsFormat f → Local f n → sizes images + 4 ≤ m → Agree m xs ys → f.image xs ≡ o
    → on_image o at xs (λ size. walk f n (at + size) (drop size xs)) ≡ Walks images
    → on_image (f.image ys) at ys (λ size. walk f n (at + size) (drop size ys)) ≡ Walks images
step_image f n at m xs ys images None format local fits agree is gives = absurd (cc)
step_image f n at m xs ys images (Some size) format local fits agree is gives =
    let inside = format.inside xs size is in
    let low = size_low f n at m size xs images (walk f n (at + size) (drop size xs)) inside fits gives in
    let same = take_same size m xs ys low agree in
    ap (λ (o : Option ℕ). on_image o at ys (λ k. walk f n (at + k) (drop k ys))) (format.own xs ys size is same)
    ∙ step_rest f n at m size xs ys images (walk f n (at + size) (drop size xs)) local inside same fits agree refl gives

step_end : (f : Format) (n at m : ℕ) (xs ys : List ℕ) (images : List Image) (b : Bool) → IsFormat f → Local f n → sizes images + 4 ≤ m → Agree m xs ys → ends xs ≡ b → ends ys ≡ b
    → (if b then Walks [] else on_image (f.image xs) at xs (λ size. walk f n (at + size) (drop size xs))) ≡ Walks images
    → (if b then Walks [] else on_image (f.image ys) at ys (λ size. walk f n (at + size) (drop size ys))) ≡ Walks images
step_end f n at m xs ys images true format local fits agree e g gives = gives
step_end f n at m xs ys images false format local fits agree e g gives = step_image f n at m xs ys images (f.image xs) format local fits agree refl gives

pub walk_local : (f : Format) → IsFormat f → (n : ℕ) → Local f n
walk_local f format zero at m xs ys images gives fits agree =
    ap (λ (b : Bool). if b then Walks [] else Stuck at) (ends_same m xs ys (omega arith) agree) ∙ gives
walk_local f format (suc n) at m xs ys images gives fits agree =
    let e = ends_same m xs ys (omega arith) agree in
    ap (λ (b : Bool). if b then Walks [] else on_image (f.image ys) at ys (λ size. walk f n (at + size) (drop size ys))) e
    ∙ step_end f n at m xs ys images (ends xs) format (walk_local f format n) fits agree refl e gives

-- ---- the format before
set_walked : (f : Format) (start : ℕ) (w : Walked) (images : List Image) → judge f start w ≡ WholeSet images → w ≡ Walks images
set_walked f start (Stuck at) images is = absurd (cc)
set_walked f start (Walks found) images is = one (entries f found == 1) is
  where
    one : (b : Bool) → (if b then WholeSet found else BadSet start) ≡ WholeSet images → Walks found ≡ Walks images
    one true e = cc
    one false e = absurd (cc)

judge_same : (f : Format) (m : ℕ) (c d : List ℕ) (images : List Image) → IsFormat f → judge f 0 (walk f MOST_IMAGES 0 c) ≡ WholeSet images → sizes images + 4 ≤ m → Agree m c d
    → judge f 0 (walk f MOST_IMAGES 0 d) ≡ judge f 0 (walk f MOST_IMAGES 0 c)
judge_same f m c d images format is fits agree =
    let walks = set_walked f 0 (walk f MOST_IMAGES 0 c) images is in
    ap (judge f 0) (walk_local f format MOST_IMAGES 0 m c d images walks fits agree ∙ sym walks)

marker_same : (m : ℕ) (c d : List ℕ) → 8 ≤ m → Agree m c d → holds image_marker 0 d ≡ holds image_marker 0 c
marker_same m c d eight agree = holds_same image_marker 0 c d (λ i low. let e : 0 + i ≡ i = omega arith in ap (λ (n : ℕ). slice_index d n) e ∙ agree.same i (omega arith) ∙ ap (λ (n : ℕ). slice_index c n) (sym e))

by_marker : (f : Format) (m : ℕ) (c d : List ℕ) (b : Bool) (x : Found) → IsFormat f → 8 ≤ m → Agree m c d → is_set x ≡ true → is_late x ≡ false → LAST_END + 4 ≤ m
    → (if b then judge f 0 (walk f MOST_IMAGES 0 c) else NoSet) ≡ x
    → (if b then judge f 0 (walk f MOST_IMAGES 0 d) else NoSet) ≡ x
by_marker f m c d false x format eight agree set early fits is = is
by_marker f m c d true NoSet format eight agree set early fits is = absurd (cc)
by_marker f m c d true (BadSet at) format eight agree set early fits is = absurd (cc)
by_marker f m c d true (WholeSet images) format eight agree set early fits is =
    let low = ltb-false LAST_END (sizes images) early in
    judge_same f m c d images format is (omega arith) agree ∙ is

-- a set of the format before that ends in bank 0 is told by bank 0's bytes
pub old_same : (f : Format) (c d : List ℕ) → IsFormat f → Agree (LAST_END + 4) c d → is_set (old_found f c) ≡ true → is_late (old_found f c) ≡ false → old_found f d ≡ old_found f c
unfolding old_found
old_same f c d format agree set early =
    ap (λ (b : Bool). if b then judge f 0 (walk f MOST_IMAGES 0 d) else NoSet) (marker_same (LAST_END + 4) c d (omega arith) agree)
    ∙ by_marker f (LAST_END + 4) c d (holds image_marker 0 c) (old_found f c) format (omega arith) agree set early (omega arith) refl

-- without the marker there is none
pub old_none : (f : Format) (c : List ℕ) → holds image_marker 0 c ≡ false → old_found f c ≡ NoSet
unfolding old_found
old_none f c none = ap (λ (b : Bool). if b then judge f 0 (walk f MOST_IMAGES 0 c) else NoSet) none

set_marked : (b : Bool) (x : Found) → is_set (if b then x else NoSet) ≡ true → b ≡ true
set_marked true x is = refl
set_marked false x is = absurd (cc)

pub old_marked : (f : Format) (c : List ℕ) → is_set (old_found f c) ≡ true → holds image_marker 0 c ≡ true
unfolding old_found
old_marked f c is = set_marked (holds image_marker 0 c) (judge f 0 (walk f MOST_IMAGES 0 c)) is
