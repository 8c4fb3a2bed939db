-- Two texts one behind the other in a new string.
use Rattle.std.proofs.Common.{◌≡◌, inl, ⊎_elim, ℕ, ◌+◌, ◌-◌, ◌%◌, ◌^◌, ◌<◌, ◌≤◌, List, ◌++◌, length, map, Option, Some, None, refl, sym, ap, ◌∙◌, subst, arith, get_or}
use Rattle.std.proofs.lemmas.Bool.{cases_lt}
use Rattle.std.proofs.lemmas.List.{length-replicate, length-append, get_or-map, get_or_append_left, get_or-append_right}
use Rattle.cil_opcodes.specs.declared.shape.IntegerType.TheVariants.{U2}
use Rattle.board_types.specs.declared.value.Value.{Value}
use Rattle.machine.specs.Data.{Bits}
use Rattle.machine.specs.Natives.{or_empty}
use Rattle.tiny_ram.specs.declared.memory.Ram.{Ram}
use Rattle.board_types.specs.declared.value.Shape.{Shape}
use Rattle.tiny_ram.specs.Things.{cells_in, Entry, fresh, fresh_place, layout_of, string_shape}
use Rattle.tiny_ram.specs.Memory.{Memory, heap_cells, IsEntry, with_entry, put_in}
use Rattle.tiny_ram.specs.Region.{Keeps}
use Rattle.tiny_ram.proofs.Heaps.{inside}
use Rattle.tiny_ram.proofs.Kept.{entry_other}
use Rattle.tiny_ram.proofs.Elsewhere.{some_cells}
use Rattle.tiny_native.specs.Seen.{unit_place, text_entry}
use Rattle.tiny_native.specs.Texts.{string_entry}
use Rattle.tiny_native.specs.Copies.{Copied, TextIs, AllHaveKind, PlaceHasKind, cut_place}
use Rattle.tiny_native.proofs.Memories.{put_last, put_twice, last_there}
use Rattle.tiny_native.proofs.Writes.{places_whole}
use Rattle.tiny_native.proofs.Joined.{small_units, named_stays}

-- units have the kind of chars
pub units_kind : (units : List ℕ) (i n : ℕ) → i + n ≤ length units → AllHaveKind (Bits U2) (map unit_place units) i n
units_kind units i n h k l = subst (PlaceHasKind (Bits U2)) (sym (get_or-map unit_place units (i + k) 0 None (omega (arith, h, l)))) tt

pub text_count : (m : Memory) (thing count : ℕ) (a : Option (List ℕ)) → TextIs m thing count a → count ≡ length (or_empty a)
text_count m thing count None t = t.1
text_count m thing count (Some units) t = t.1

pub text_small : (u : Ram) (m : Memory) (thing count : ℕ) (a : Option (List ℕ)) → Keeps u m → TextIs m thing count a → (k : ℕ) → k < length (or_empty a) → get_or (or_empty a) k 0 % 2 ^ 16 ≡ get_or (or_empty a) k 0
text_small u m thing count None keeps t k l = absurd (omega (arith, l))
text_small u m thing count (Some units) keeps t k l = small_units u m thing units keeps t.2 k l

-- a text stays beside a new thing, whatever is put into that
pub text_made : (m : Memory) (x : Entry) (thing count : ℕ) (a : Option (List ℕ)) → TextIs m thing count a → TextIs (with_entry m x) thing count a
text_made m x thing count None t = t
text_made m x thing count (Some units) t = (t.0, t.1, named_stays m (text_entry units) x thing t.2)

pub text_put : (m : Memory) (x y : Entry) (new thing count : ℕ) (a : Option (List ℕ)) → new ≡ 1 + heap_cells m.heap → y.shape ≡ x.shape → TextIs m thing count a → TextIs (put_in (with_entry m x) new y) thing count a
text_put m x y new thing count None n e t = t
text_put m x y new thing count (Some units) n e t =
    let is : IsEntry m thing (text_entry units) = t.2 in
    let stays : IsEntry (with_entry m x) thing (text_entry units) = named_stays m (text_entry units) x thing is in
    let last : IsEntry (with_entry m x) new x = last_there m x new n in
    let low = inside m.heap (thing - 1) (text_entry units) is.there in
    let some = some_cells (layout_of (string_shape (length units))) (length units) in
    let other : thing - 1 ≡ new - 1 → ⊥ = λ q. omega (arith, q, low, some, n, is.some) in
    (t.0, t.1, record { some = is.some; there = entry_other (with_entry m x).heap (new - 1) (thing - 1) x y (text_entry units) last.there (ap (λ (s : Shape). cells_in (layout_of s) s.count) e) other stays.there })

-- a unit that is copied
unit_copied : (places : List (Option Value)) (units : List ℕ) (t k : ℕ) → k < length units → get_or units k 0 % 2 ^ 16 ≡ get_or units k 0 → get_or places t None ≡ cut_place (Bits U2) (get_or (map unit_place units) (0 + k) None) → get_or places t None ≡ unit_place (get_or units k 0)
unit_copied places units t k l small e =
    let z : 0 + k ≡ k = omega arith in
    e ∙ ap (λ j. cut_place (Bits U2) (get_or (map unit_place units) j None)) z
    ∙ ap (cut_place (Bits U2)) (get_or-map unit_place units k 0 None l)
    ∙ ap unit_place small

pub joined_text :
    (u v : Ram) (m : Memory) (thing n x y : ℕ) (xs ys : List ℕ) → thing ≡ 1 + heap_cells m.heap → n ≡ x + y → x ≡ length xs → y ≡ length ys
    → ((k : ℕ) → k < length xs → get_or xs k 0 % 2 ^ 16 ≡ get_or xs k 0)
    → ((k : ℕ) → k < length ys → get_or ys k 0 % 2 ^ 16 ≡ get_or ys k 0)
    → (first : Copied u (with_entry m (fresh (string_shape n))) thing (fresh (string_shape n)) (Bits U2) (map unit_place xs) 0 0 0 x)
    → Copied v (put_in (with_entry m (fresh (string_shape n))) thing (string_entry n first.places)) thing (string_entry n first.places) (Bits U2) (map unit_place ys) 0 x 0 y
    → Keeps v (with_entry m (text_entry (xs ++ ys)))
joined_text u v m thing n x y xs ys here total cx cy sx sy first second =
    let e0 : Entry = fresh (string_shape n) in
    let long : length (xs ++ ys) ≡ length xs + length ys = length-append xs ys in
    let size0 : length e0.places ≡ n = length-replicate n (fresh_place (layout_of (string_shape n))) in
    let size : length second.places ≡ length (xs ++ ys) = omega (arith, second.laid.count, first.laid.count, size0, long, total, cx, cy) in
    let at : (k : ℕ) → k < length (xs ++ ys) → get_or second.places k None ≡ unit_place (get_or (xs ++ ys) k 0) = λ k l.
    ⊎_elim
    (λ (lt : k < length xs).
    let z : k ≡ 0 + k = omega arith in
    second.laid.outside k (inl (omega (arith, lt, cx)))
    ∙ unit_copied first.places xs k k lt (sx k lt) (ap (λ j. get_or first.places j None) z ∙ first.laid.inside k (omega arith) (omega (arith, lt, cx)))
    ∙ ap unit_place (sym (get_or_append_left xs ys 0 k lt)))
    (λ (le : length xs ≤ k).
    let inner : k - length xs < length ys = omega (arith, le, l, long) in
    let z : k ≡ x + (k - length xs) = omega (arith, le, cx) in
    unit_copied second.places ys k (k - length xs) inner (sy (k - length xs) inner) (ap (λ j. get_or second.places j None) z ∙ second.laid.inside (k - length xs) (omega arith) (omega (arith, inner, cy)))
    ∙ ap unit_place (sym (get_or-append_right xs ys (length xs) k 0 refl le)))
    (cases_lt k (length xs)) in
    let same : second.places ≡ map unit_place (xs ++ ys) = places_whole second.places (xs ++ ys) size at in
    let count : n ≡ length (xs ++ ys) = omega (arith, total, cx, cy, long) in
    let kept : Keeps v (with_entry m (string_entry n second.places)) =
    subst (λ (w : Memory). Keeps v w) (put_twice (with_entry m e0) e0 (string_entry n first.places) (string_entry n second.places) thing (last_there m e0 thing here) refl ∙ put_last m e0 (string_entry n second.places) thing here) second.keeps in
    subst (λ (k : ℕ). Keeps v (with_entry m (string_entry k (map unit_place (xs ++ ys))))) count (subst (λ (ps : List (Option Value)). Keeps v (with_entry m (string_entry n ps))) same kept)
