-- Strings made of places of other things.
use Rattle.std.proofs.Common.{◌≡◌, ℕ, ◌+◌, ◌-◌, ◌%◌, ◌^◌, ◌<◌, ◌≤◌, List, length, map, take, drop, Option, Some, None, refl, sym, ap, ◌∙◌, subst, arith, get_or}
use Rattle.std.specs.Prelude.{pos, min}
use Rattle.std.proofs.lemmas.List.{length-replicate, length-map, length-drop, length-take, get_or-map, get_or-take, get_or-drop}
use Rattle.cil_opcodes.specs.declared.shape.IntegerType.TheVariants.{U2}
use Rattle.board_types.specs.declared.value.Value.{Value}
use Rattle.board_types.specs.declared.value.Value.TheVariants.{Int, Long, Ref, Pointer, Handle}
use Rattle.machine.specs.Data.{Bits}
use Rattle.machine.specs.Natives.{piece}
use Rattle.tiny_ram.specs.declared.memory.Ram.{Ram}
use Rattle.tiny_ram.specs.Things.{Entry, fresh, string_shape}
use Rattle.tiny_ram.specs.Memory.{Memory, heap_cells, IsEntry, with_entry}
use Rattle.tiny_ram.specs.Region.{Keeps}
use Rattle.tiny_ram.proofs.Kept.{entry_stays}
use Rattle.tiny_native.specs.Seen.{unit_place, text_entry}
use Rattle.tiny_native.specs.Texts.{string_entry}
use Rattle.tiny_native.specs.Copies.{Copied, AllHaveKind, PlaceHasKind, cut_place, unit_in}
use Rattle.tiny_native.proofs.Held.{Element, element_held}
use Rattle.tiny_native.proofs.Memories.{put_last}
use Rattle.tiny_native.proofs.Writes.{places_whole}

pub piece_length : {A : Type 0} (i n : ℕ) (xs : List A) → i + n ≤ length xs → length (piece i n xs) ≡ n
piece_length i n xs h =
    let d : length (drop i xs) ≡ length xs - i = length-drop i xs in
    let t : length (take n (drop i xs)) ≡ min n (length (drop i xs)) = length-take n (drop i xs) in
    omega (arith, t, d, h)

pub piece_get : {A : Type 0} (i n k : ℕ) (xs : List A) (d : A) → k < n → get_or (piece i n xs) k d ≡ get_or xs (i + k) d
piece_get i n k xs d h = get_or-take n (drop i xs) k d h ∙ get_or-drop i xs k d

pub cut_unit : (held : Option Value) → PlaceHasKind (Bits U2) held → cut_place (Bits U2) held ≡ unit_place (unit_in held)
cut_unit (Some (Int n)) h = refl
cut_unit (Some (Long n)) h = absurd h
cut_unit (Some (Ref n)) h = absurd h
cut_unit (Some (Pointer at)) h = absurd h
cut_unit (Some (Handle f)) h = absurd h
cut_unit None h = absurd h

-- the copy of places into a new string is the text that they spell
pub copied_text : (u : Ram) (m : Memory) (thing i n : ℕ) (from : List (Option Value)) → thing ≡ 1 + heap_cells m.heap → i + n ≤ length from → AllHaveKind (Bits U2) from i n
    → Copied u (with_entry m (fresh (string_shape n))) thing (fresh (string_shape n)) (Bits U2) from i 0 0 n
    → Keeps u (with_entry m (text_entry (map unit_in (piece i n from))))
copied_text u m thing i n from here room kinds c =
    let e : Entry = fresh (string_shape n) in
    let units : List ℕ = map unit_in (piece i n from) in
    let long : length units ≡ n = length-map (piece i n from) unit_in ∙ piece_length i n from room in
    let size : length c.places ≡ n = c.laid.count ∙ length-replicate n _ in
    let at : (k : ℕ) → k < length units → get_or c.places k None ≡ unit_place (get_or units k 0) = λ k l.
    let inner : k < n = omega (arith, l, long) in
    ap (λ t. get_or c.places t None) (let z : k ≡ 0 + k = omega arith in z)
    ∙ c.laid.inside k (omega arith) inner
    ∙ cut_unit (get_or from (i + k) None) (kinds k inner)
    ∙ ap (λ h. unit_place (unit_in h)) (sym (piece_get i n k from None inner))
    ∙ ap unit_place (sym (get_or-map unit_in (piece i n from) k None 0 (omega (arith, inner, piece_length i n from room)))) in
    let same : c.places ≡ map unit_place units = places_whole c.places units (size ∙ sym long) at in
    let kept : Keeps u (with_entry m (string_entry n c.places)) = subst (λ (w : Memory). Keeps u w) (put_last m e (string_entry n c.places) thing here) c.keeps in
    subst (λ (k : ℕ). Keeps u (with_entry m (string_entry k (map unit_place units)))) (sym long) (subst (λ (ps : List (Option Value)). Keeps u (with_entry m (string_entry n ps))) same kept)

-- units are numbers of 16 bits
pub small_units : (u : Ram) (m : Memory) (thing : ℕ) (units : List ℕ) → Keeps u m → IsEntry m thing (text_entry units) → (k : ℕ) → k < length units → get_or units k 0 % 2 ^ 16 ≡ get_or units k 0
small_units u m thing units keeps is k l =
    let e : Element (Bits U2) (get_or (map unit_place units) k None) = element_held u m thing (text_entry units) (Bits U2) keeps is refl k (omega (arith, l, length-map units unit_place)) in
    let held : unit_place (get_or units k 0) ≡ Some e.value = sym (get_or-map unit_place units k 0 None l) ∙ e.is in
    let cut : cut_place (Bits U2) (unit_place (get_or units k 0)) ≡ unit_place (get_or units k 0) = ap (cut_place (Bits U2)) held ∙ ap Some e.fits.cut ∙ sym held in
    ap number_of cut
  where
    number_of : Option Value → ℕ
    number_of (Some (Int (pos n))) = n
    number_of _ = 0

-- a thing is there by its number after another was made
pub named_stays : (m : Memory) (e x : Entry) (thing : ℕ) → IsEntry m thing e → IsEntry (with_entry m x) thing e
named_stays m e x thing h = record { some = h.some; there = entry_stays m.heap x e (thing - 1) h.there }
