-- What is read of the front of the flash is read of the flash, and how a bank lies in it.
use Rattle.std.proofs.Common.{◌≡◌, ℕ, suc, ◌+◌, ◌-◌, ◌*◌, ◌<◌, ◌≤◌, min, Bool, true, false, ◌&&◌, List, [], ◌∷◌, length, take, drop, refl, sym, ap, ◌∙◌, arith, get_or-take, length-take}
use Rattle.std.specs.Prelude.{slice_index, ◌==◌}
use Rattle.std.proofs.lemmas.Bool.{eq-eqb, ne_eqb}
use Rattle.std.proofs.lemmas.List.{drop-drop, drop-take, drop_more, drop_all, take-take, take_min}
use Rattle.deploy_model.specs.Banks.{bank_of, holds, WholeSet}
use Rattle.boot_scan.specs.Sets.{image_in, images_of, images_in, found_view, IsInside, AreInside}
use Rattle.boot_scan.specs.declared.sets.Set.{Set}
use Rattle.boot_scan.specs.declared.sets.Found.{Found}
use Rattle.boot_scan.specs.declared.sets.Found.TheVariants as found

-- ---- a front of the flash

piece_same : (end at size : ℕ) (c : List ℕ) → at + size ≤ end → take size (drop at (take end c)) ≡ take size (drop at c)
piece_same end at size c h =
    let split : end ≡ at + (end - at) = omega (arith, h) in
    ap (λ n. take size (drop at (take n c))) split
    ∙ ap (take size) (drop-take at (end - at) c)
    ∙ take-take size (end - at) (drop at c) (omega (arith, h))

images_same : (end : ℕ) (c places lengths : List ℕ) → ((k : ℕ) → k < length places → slice_index places k + slice_index lengths k ≤ end) → images_of (take end c) places lengths ≡ images_of c places lengths
images_same end c [] lengths h = refl
images_same end c (a ∷ places) [] h = refl
images_same end c (a ∷ places) (s ∷ lengths) h =
    ap (λ (xs : List ℕ). (record { at = a; bytes = xs }) ∷ images_of (take end c) places lengths) (piece_same end a s c (h 0 (omega arith)))
    ∙ ap (λ xs. image_in c a s ∷ xs) (images_same end c places lengths (λ k low. h (suc k) (omega (arith, low))))

short : (a b c : ℕ) → a ≡ min b c → a ≤ b
short a b c e = omega (arith, e)

below_both : (k a n m : ℕ) → k < a → a ≡ min n m → k < n
below_both k a n m low e = omega (arith, low, e)

set_same : (end : ℕ) (c : List ℕ) (s : Set) → IsInside (take end c) s → images_in (take end c) s ≡ images_in c s
set_same end c s i =
    images_same end c (take s.count s.at) (take s.count s.size) (λ k low.
    let lower : k < s.count = below_both k (length (take s.count s.at)) s.count (length s.at) low (length-take s.count s.at) in
    let p = get_or-take s.count s.at k 0 lower in
    let q = get_or-take s.count s.size k 0 lower in
    let inside = i.inside k lower in
    let long = short (length (take end c)) end (length c) (length-take end c) in
    omega (arith, p, q, inside, long))

shorter : (end : ℕ) (c : List ℕ) → length (take end c) ≤ length c
shorter end c = let e = length-take end c in omega (arith, e)

pub front_view : (end : ℕ) (c : List ℕ) (f : Found) → AreInside (take end c) f → found_view (take end c) f ≡ found_view c f
front_view end c found.Nothing i = refl
front_view end c (found.Set s) i = ap WholeSet (set_same end c s i)
front_view end c (found.Bad at) i = refl

pub front_inside : (end : ℕ) (c : List ℕ) (f : Found) → AreInside (take end c) f → AreInside c f
front_inside end c found.Nothing i = tt
front_inside end c (found.Set s) i =
    record {
      few = i.few;
      inside = λ k low. let was = i.inside k low in let less = shorter end c in omega (arith, was, less);
      no_place = i.no_place;
      no_size = i.no_size;
    }
front_inside end c (found.Bad at) i = tt

-- ---- a bank

pub bank_region : (bank end : ℕ) (c : List ℕ) → end ≡ min (length c) (131072 * bank + 122880) → drop (131072 * bank + 16) (take end c) ≡ drop 16 (bank_of bank c)
bank_region bank end c e =
    let turned : end ≡ min (131072 * bank + 122880) (length c) = omega (arith, e) in
    ap (λ n. drop (131072 * bank + 16) (take n c)) turned
    ∙ ap (drop (131072 * bank + 16)) (take_min (131072 * bank + 122880) c)
    ∙ sym (drop-drop 16 (131072 * bank) (take (131072 * bank + 122880) c))
    ∙ ap (drop 16) (drop-take (131072 * bank) 122880 c)

-- ---- a marker, byte by byte

marker_step : (marker bytes : List ℕ) (k : ℕ) → k < length marker → holds (drop k marker) k bytes ≡ ((slice_index bytes k == slice_index marker k) && holds (drop (k + 1) marker) (k + 1) bytes)
marker_step marker bytes k h =
    let next : suc k ≡ k + 1 = omega arith in
    ap (λ xs. holds xs k bytes) (drop_more marker k 0 h)
    ∙ ap (λ j. (slice_index bytes k == slice_index marker k) && holds (drop (k + 1) marker) j bytes) next

pub marker_goes_on : (marker bytes : List ℕ) (k : ℕ) (whole : Bool) → k < length marker → slice_index bytes k ≡ slice_index marker k → holds (drop k marker) k bytes ≡ whole → holds (drop (k + 1) marker) (k + 1) bytes ≡ whole
marker_goes_on marker bytes k whole h same e =
    sym (marker_step marker bytes k h ∙ ap (λ b. b && holds (drop (k + 1) marker) (k + 1) bytes) (eq-eqb (slice_index bytes k) (slice_index marker k) same)) ∙ e

pub marker_stops : (marker bytes : List ℕ) (k : ℕ) (whole : Bool) → k < length marker → (slice_index bytes k ≡ slice_index marker k → ⊥) → holds (drop k marker) k bytes ≡ whole → false ≡ whole
marker_stops marker bytes k whole h other e =
    sym (marker_step marker bytes k h ∙ ap (λ b. b && holds (drop (k + 1) marker) (k + 1) bytes) (ne_eqb (slice_index bytes k) (slice_index marker k) other)) ∙ e

pub marker_done : (marker bytes : List ℕ) (k : ℕ) (whole : Bool) → length marker ≤ k → holds (drop k marker) k bytes ≡ whole → true ≡ whole
marker_done marker bytes k whole h e = sym (ap (λ xs. holds xs k bytes) (drop_all k marker h)) ∙ e
