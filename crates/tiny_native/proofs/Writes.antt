-- Units that are put into a new string.
use Rattle.std.proofs.Common.{◌≡◌, inl, inr, ℕ, ◌+◌, ◌<◌, List, length, map, Option, None, sym, ap, ◌∙◌, subst, arith, get_or}
use Rattle.std.specs.Prelude.{pos, replicate, slice_set}
use Rattle.std.proofs.lemmas.Bool.{cases_eq}
use Rattle.std.proofs.lemmas.List.{get_or-set_same, get_or-set_other, length-replicate, length-map, get_or-map, ext_get_or}
use Rattle.board_types.specs.declared.value.Value.{Value}
use Rattle.board_types.specs.declared.value.Value.TheVariants.{Int}
use Rattle.tiny_ram.specs.declared.memory.Ram.{Ram}
use Rattle.tiny_ram.specs.Things.{fresh, fresh_place, layout_of, string_shape}
use Rattle.plain_types.specs.declared.elem.Elem.TheVariants.{Void}
use Rattle.std.proofs.lemmas.Option.{unwrap_or-slice_get}
use Rattle.tiny_ram.specs.Memory.{Memory, heap_cells, with_entry, shown, entry_value}
use Rattle.tiny_ram.specs.Region.{Keeps}
use Rattle.tiny_native.specs.Seen.{unit_place, text_entry}
use Rattle.tiny_native.specs.Texts.{Written, string_entry}

-- a new string has none of its units yet
pub written_none : (u : Ram) (m : Memory) (units : List ℕ) (thing n : ℕ) → thing ≡ 1 + heap_cells m.heap → Keeps u (with_entry m (fresh (string_shape n))) → Written u m units thing n 0
written_none u m units thing n h k = record {
  places = replicate n (fresh_place (layout_of (string_shape n)));
  number = h;
  keeps = k;
  count = length-replicate n (fresh_place (layout_of (string_shape n)));
  first = λ i l. absurd (omega (arith, l));
}

-- one more of the places is set
pub places_more : (places : List (Option Value)) (units : List ℕ) (k : ℕ) (w : Option Value) → k < length places → w ≡ unit_place (get_or units k 0)
    → ((i : ℕ) → i < k → get_or places i None ≡ unit_place (get_or units i 0))
    → (i : ℕ) → i < k + 1 → get_or (slice_set places k w) i None ≡ unit_place (get_or units i 0)
places_more places units k w l e h i m = elim (cases_eq i k) [
  | inl q ↦ ap (λ j. get_or (slice_set places k w) j None) q ∙ get_or-set_same places k w None l ∙ e ∙ ap (λ j. unit_place (get_or units j 0)) (sym q)
  | inr d ↦ get_or-set_other places k i w None d ∙ h i (omega (arith, m, d))
]

-- all places of a string are its units
pub places_whole : (places : List (Option Value)) (units : List ℕ) → length places ≡ length units → ((i : ℕ) → i < length units → get_or places i None ≡ unit_place (get_or units i 0)) → places ≡ map unit_place units
places_whole places units c h = ext_get_or None places (map unit_place units) (c ∙ sym (length-map units unit_place))
    (λ i l. let inner : i < length units = omega (arith, l, c) in h i inner ∙ sym (get_or-map unit_place units i 0 None inner))

pub written_whole : (u : Ram) (m : Memory) (units : List ℕ) (thing : ℕ) → Written u m units thing (length units) (length units) → Keeps u (with_entry m (text_entry units))
written_whole u m units thing w = subst (λ (ps : List (Option Value)). Keeps u (with_entry m (string_entry (length units) ps))) (places_whole w.places units w.count w.first) w.keeps

-- what is read of a string is its unit
pub unit_shown : (units : List ℕ) (k : ℕ) → k < length units → shown Void (entry_value (text_entry units) k) ≡ Int (pos (get_or units k 0))
unit_shown units k l = ap (shown Void) (unwrap_or-slice_get (map unit_place units) k None ∙ get_or-map unit_place units k 0 None l)
