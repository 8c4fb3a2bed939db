-- A range of a list in place of a range of another.
use Rattle.std.proofs.Common.{◌≡◌, inl, inr, ⊎_elim, ℕ, ◌+◌, ◌-◌, ◌<◌, ◌≤◌, List, ◌++◌, length, map, take, drop, Option, Some, None, refl, sym, ap, ◌∙◌, arith, get_or}
use Rattle.std.specs.Prelude.{min, Bool, true, false, ◌||◌}
use Rattle.std.proofs.lemmas.Bool.{cases_lt}
use Rattle.std.proofs.lemmas.List.{length-map, length-append, length-take, length-drop, get_or-take, get_or-drop, get_or_append_left, get_or-append_right, ext_get_or, take-map, drop-map, map-append}
use Rattle.board_types.specs.declared.value.Value.{Value as BoardValue}
use Rattle.machine.specs.Data.{Cell}
use Rattle.machine.specs.Natives.{piece, spliced}
use Rattle.tiny_ops.specs.Operators.{Leads}
use Rattle.tiny_native.specs.Seen.{seen}
use Rattle.tiny_native.specs.Copies.{Laid, cut_place}
use Rattle.tiny_native.proofs.Held.{Element}
use Rattle.tiny_native.proofs.Joined.{piece_length, piece_get}
use Rattle.tiny_native.proofs.PieceLemmas.{piece-map}

-- what is cut already stays
pub cut_same : (cell : Cell) (held : Option BoardValue) → Element cell held → cut_place cell held ≡ held
cut_same cell held e = ap (cut_place cell) e.is ∙ ap Some e.fits.cut ∙ sym e.is

spliced_length : {A : Type 0} (xs ys : List A) (b : ℕ) → b + length ys ≤ length xs → length (spliced xs b ys) ≡ length xs
spliced_length xs ys b h =
    let t : length (take b xs) ≡ min b (length xs) = length-take b xs in
    let d : length (drop (b + length ys) xs) ≡ length xs - (b + length ys) = length-drop (b + length ys) xs in
    let outer : length (take b xs ++ (ys ++ drop (b + length ys) xs)) ≡ length (take b xs) + length (ys ++ drop (b + length ys) xs) = length-append (take b xs) (ys ++ drop (b + length ys) xs) in
    let inner : length (ys ++ drop (b + length ys) xs) ≡ length ys + length (drop (b + length ys) xs) = length-append ys (drop (b + length ys) xs) in
    omega (arith, t, d, outer, inner, h)

taken_length : {A : Type 0} (xs : List A) (b : ℕ) → b ≤ length xs → length (take b xs) ≡ b
taken_length xs b h = let t : length (take b xs) ≡ min b (length xs) = length-take b xs in omega (arith, t, h)

-- the places copied are a splice
pub laid_spliced :
    (cell : Cell) (from before after : List (Option BoardValue)) (i j n : ℕ) → i + n ≤ length from → j + n ≤ length before
    → ((k : ℕ) → k < length from → Element cell (get_or from k None))
    → Laid cell from before i j 0 n after → after ≡ spliced before j (piece i n from)
laid_spliced cell from before after i j n room_i room_j held laid =
    let ys : List (Option BoardValue) = piece i n from in
    let long : length ys ≡ n = piece_length i n from room_i in
    let size : length (spliced before j ys) ≡ length before = spliced_length before ys j (omega (arith, long, room_j)) in
    let first : length (take j before) ≡ j = taken_length before j (omega (arith, room_j)) in
    ext_get_or None after (spliced before j ys) (laid.count ∙ sym size)
    (λ t l. ⊎_elim
    (λ (lt : t < j).
    laid.outside t (inl (omega (arith, lt)))
    ∙ sym (get_or-take j before t None lt)
    ∙ sym (get_or_append_left (take j before) (ys ++ drop (j + length ys) before) None t (omega (arith, lt, first))))
    (λ (ge : j ≤ t).
    sym (get_or-append_right (take j before) (ys ++ drop (j + length ys) before) j t None first ge
    ∙ ⊎_elim
    (λ (lt : t < j + n).
    let inner : t - j < n = omega (arith, ge, lt) in
    let z : j + (t - j) ≡ t = omega (arith, ge) in
    get_or_append_left ys (drop (j + length ys) before) None (t - j) (omega (arith, inner, long))
    ∙ piece_get i n (t - j) from None inner
    ∙ sym (cut_same cell (get_or from (i + (t - j)) None) (held (i + (t - j)) (omega (arith, inner, room_i))))
    ∙ sym (laid.inside (t - j) (omega arith) inner)
    ∙ ap (λ x. get_or after x None) z)
    (λ (past : j + n ≤ t).
    let z : j + length ys + (t - j - n) ≡ t = omega (arith, long, past) in
    get_or-append_right ys (drop (j + length ys) before) n (t - j) None long (omega (arith, past))
    ∙ get_or-drop (j + length ys) before (t - j - n) None
    ∙ ap (λ x. get_or before x None) z
    ∙ sym (laid.outside t (inr past)))
    (cases_lt t (j + n))))
    (cases_lt t j))

pub spliced-map : {A B : Type 0} (f : A → B) (xs ys : List A) (b : ℕ) → map f (spliced xs b ys) ≡ spliced (map f xs) b (map f ys)
spliced-map f xs ys b =
    map-append f (take b xs) (ys ++ drop (b + length ys) xs)
    ∙ ap (λ l. l ++ map f (ys ++ drop (b + length ys) xs)) (sym (take-map f b xs))
    ∙ ap (λ l. take b (map f xs) ++ l) (map-append f ys (drop (b + length ys) xs)
    ∙ ap (λ l. map f ys ++ l) (sym (drop-map f (b + length ys) xs) ∙ ap (λ k. drop (b + k) (map f xs)) (sym (length-map ys f))))

pub seen_spliced : (l : Leads) (after before from : List (Option BoardValue)) (i j n : ℕ) → after ≡ spliced before j (piece i n from) → map (seen l) after ≡ spliced (map (seen l) before) j (piece i n (map (seen l) from))
seen_spliced l after before from i j n e =
    ap (map (seen l)) e ∙ spliced-map (seen l) before (piece i n from) j ∙ ap (spliced (map (seen l) before) j) (sym (piece-map (seen l) i n from))

pub or_first : (a b : Bool) → (a || b) ≡ false → a ≡ false
or_first true b e = absurd (cc e)
or_first false b e = refl

pub or_second : (a b : Bool) → (a || b) ≡ false → b ≡ false
or_second true b e = absurd (cc e)
or_second false b e = e
