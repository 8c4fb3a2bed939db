-- A thing made last and a thing that is put, in the list of all.
use Rattle.std.proofs.Common.{◌≡◌, ⊎_elim, ℕ, ◌+◌, ◌-◌, ◌<◌, ◌≤◌, List, [], ◌∷◌, ◌++◌, Some, refl, sym, ap, ◌∙◌, arith}
use Rattle.tiny_ram.specs.Things.{Entry, entry_cells, layout_of}
use Rattle.tiny_ram.specs.Memory.{Memory, heap_cells, entry_at, put_entry, IsEntry, with_entry, put_in}
use Rattle.tiny_ram.proofs.Elsewhere.{some_cells}
use Rattle.tiny_ram.proofs.Heaps.{first_or_later, put_first, put_later}
use Rattle.tiny_ram.proofs.Kept.{entry_new, entry_put}

entry_put_last : (xs : List Entry) (x y : Entry) → put_entry (xs ++ x ∷ []) (heap_cells xs) y ≡ xs ++ y ∷ []
entry_put_last [] x y = refl
entry_put_last (w ∷ ws) x y =
    let some : 1 ≤ entry_cells w = some_cells (layout_of w.shape) w.shape.count in
    let back : entry_cells w + heap_cells ws - entry_cells w ≡ heap_cells ws = omega arith in
    put_later w (ws ++ x ∷ []) (entry_cells w + heap_cells ws) y (omega (arith, some)) (omega arith)
    ∙ ap (λ n. w ∷ put_entry (ws ++ x ∷ []) n y) back
    ∙ ap (λ l. w ∷ l) (entry_put_last ws x y)

entry_put_twice : (xs : List Entry) (n : ℕ) (e x y : Entry) → entry_at xs n ≡ Some e → entry_cells x ≡ entry_cells e → put_entry (put_entry xs n x) n y ≡ put_entry xs n y
entry_put_twice [] n e x y h z = refl
entry_put_twice (w ∷ ws) n e x y h z =
    ⊎_elim
    (λ (q : (n ≡ 0) × (w ≡ e)). ap (λ l. put_entry l n y) (put_first w ws n x q.0) ∙ put_first x ws n y q.0 ∙ sym (put_first w ws n y q.0))
    (λ (q : (0 < n) × (entry_cells w ≤ n) × (entry_at ws (n - entry_cells w) ≡ Some e)).
    ap (λ l. put_entry l n y) (put_later w ws n x q.0 q.1)
    ∙ put_later w (put_entry ws (n - entry_cells w) x) n y q.0 q.1
    ∙ ap (λ l. w ∷ l) (entry_put_twice ws (n - entry_cells w) e x y q.2 z)
    ∙ sym (put_later w ws n y q.0 q.1))
    (first_or_later w ws n e h)

entry_put_same : (xs : List Entry) (n : ℕ) (e : Entry) → entry_at xs n ≡ Some e → put_entry xs n e ≡ xs
entry_put_same [] n e h = refl
entry_put_same (w ∷ ws) n e h =
    ⊎_elim
    (λ (q : (n ≡ 0) × (w ≡ e)). put_first w ws n e q.0 ∙ ap (λ k. k ∷ ws) (sym q.1))
    (λ (q : (0 < n) × (entry_cells w ≤ n) × (entry_at ws (n - entry_cells w) ≡ Some e)).
    put_later w ws n e q.0 q.1 ∙ ap (λ l. w ∷ l) (entry_put_same ws (n - entry_cells w) e q.2))
    (first_or_later w ws n e h)

abbrev with_heap : Memory → List Entry → Memory
with_heap m es = record m { heap = es }

-- the thing made last gives way to another
pub put_last : (m : Memory) (e g : Entry) (thing : ℕ) → thing ≡ 1 + heap_cells m.heap → put_in (with_entry m e) thing g ≡ with_entry m g
put_last m e g thing h =
    let back : thing - 1 ≡ heap_cells m.heap = omega (arith, h) in
    ap (with_heap m) (ap (λ n. put_entry (m.heap ++ e ∷ []) n g) back ∙ entry_put_last m.heap e g)

pub last_there : (m : Memory) (e : Entry) (thing : ℕ) → thing ≡ 1 + heap_cells m.heap → IsEntry (with_entry m e) thing e
last_there m e thing h =
    let back : thing - 1 ≡ heap_cells m.heap = omega (arith, h) in
    record { some = omega (arith, h); there = ap (entry_at (m.heap ++ e ∷ [])) back ∙ entry_new m.heap e }

-- the second of two things put into one place is there
pub put_twice : (m : Memory) (e x y : Entry) (thing : ℕ) → IsEntry m thing e → entry_cells x ≡ entry_cells e → put_in (put_in m thing x) thing y ≡ put_in m thing y
put_twice m e x y thing h z = ap (with_heap m) (entry_put_twice m.heap (thing - 1) e x y h.there z)

pub put_same : (m : Memory) (e : Entry) (thing : ℕ) → IsEntry m thing e → put_in m thing e ≡ m
put_same m e thing h = ap (with_heap m) (entry_put_same m.heap (thing - 1) e h.there)

pub put_there : (m : Memory) (e x : Entry) (thing : ℕ) → IsEntry m thing e → entry_cells x ≡ entry_cells e → IsEntry (put_in m thing x) thing x
put_there m e x thing h z = record { some = h.some; there = entry_put m.heap (thing - 1) e x h.there z }
