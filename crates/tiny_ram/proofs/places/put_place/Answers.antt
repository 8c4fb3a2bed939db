use Rattle.std.proofs.Common.{◌≡◌, inl, inr, ⊎_elim, ℕ, ◌+◌, ◌*◌, ◌/◌, ◌<◌, ◌≤◌, List, length, Some, sym, ap, ◌∙◌, subst, arith}
use Rattle.std.proofs.lemmas.Bool.{cases_lt}
use Rattle.machine.specs.Data.{Cell, cell_bytes}
use Rattle.ram_words.specs.Elements.{cell_in, element_end}
use Rattle.tiny_ram.specs.Things.{Layout, Packed, Cells, Alone, layout_in, layout_of, cells_in, Takes, entry_cells}
use Rattle.tiny_ram.proofs.Elsewhere.{outside, shape_at-same, kept_at-same}
use Rattle.tiny_ram.proofs.Rooms.{element_room}
use Rattle.tiny_ram.proofs.Puts.{lies-put, alone_kind, alone_count, alone_shape}
use Rattle.tiny_ram.proofs.places.put_place.Goals as goal

pub returns-in-Packed-clause-lies : goal.returns-in-Packed-clause-lies
returns-in-Packed-clause-lies c e h room l t =
    let ws : List ℕ = c.args.words.now in
    let us : List ℕ = c.put_element.new.words in
    let start : ℕ = c.args.start in
    let i : ℕ = c.args.at.index in
    let cell : Cell = cell_in c.in-Packed.kind in
    let is : Packed cell ≡ layout_of e.shape = ap layout_in (sym c.in-Packed.is) ∙ c.layout_for.ensures ∙ ap layout_of (c.shape.ensures ∙ h.shape) in
    let end : element_end cell i ≤ 3 * ((e.shape.count * cell_bytes cell + 11) / 12) = element_room cell e.shape.count i (omega (arith, l, h.count)) in
    let size : entry_cells e ≡ 1 + (e.shape.count * cell_bytes cell + 11) / 12 = ap (λ (x : Layout). cells_in x e.shape.count) (sym is) in
    let s = c.put_element.ensures.outside in
    lies-put ws us start e i c.args.at.elem c.args.value (Packed cell) h l (sym is)
    (shape_at-same ws us start (outside start (start + 3) (start + 3) (start + 3 + element_end cell i) ws us s (inl (omega arith))))
    (ap Some (c.put_element.ensures.here (subst (λ (x : Layout). Takes x c.args.value) (sym is) t) (omega (arith, end, size, room))))
    (λ j d m. ap Some (c.put_element.ensures.others j d))

pub returns-in-Cells-clause-lies : goal.returns-in-Cells-clause-lies
returns-in-Cells-clause-lies c e h room l t =
    let ws : List ℕ = c.args.words.now in
    let us : List ℕ = c.put_kept.new.words in
    let start : ℕ = c.args.start in
    let i : ℕ = c.args.at.index in
    let is : Cells ≡ layout_of e.shape = ap layout_in (sym c.in-Cells.is) ∙ c.layout_for.ensures ∙ ap layout_of (c.shape.ensures ∙ h.shape) in
    let size : entry_cells e ≡ 1 + e.shape.count = ap (λ (x : Layout). cells_in x e.shape.count) (sym is) in
    let s = c.put_kept.ensures.outside in
    lies-put ws us start e i c.args.at.elem c.args.value Cells h l (sym is)
    (shape_at-same ws us start (outside start (start + 3) (start + 3 + 3 * i) (start + 3 + 3 * i + 3) ws us s (inl (omega arith))))
    (c.put_kept.ensures.here (omega (arith, l, h.count, size, room)) ∙ ap Some c.cut_to.ensures)
    (λ j d m. kept_at-same ws us (start + 3 + 3 * j) (outside (start + 3 + 3 * j) (start + 3 + 3 * j + 3) (start + 3 + 3 * i) (start + 3 + 3 * i + 3) ws us s
    (⊎_elim (λ (lt : j < i). inl (omega arith)) (λ (ge : i ≤ j). inr (omega (arith, d))) (cases_lt j i))))

pub returns-in-Alone-clause-lies : goal.returns-in-Alone-clause-lies
returns-in-Alone-clause-lies c e h room l t =
    let ws : List ℕ = c.args.words.now in
    let start : ℕ = c.args.start in
    let i : ℕ = c.args.at.index in
    let is : Alone ≡ layout_of e.shape = ap layout_in (sym c.in-Alone.is) ∙ c.layout_for.ensures ∙ ap layout_of (c.shape.ensures ∙ h.shape) in
    let size : entry_cells e ≡ 1 = ap (λ (x : Layout). cells_in x e.shape.count) (sym is) in
    let one : length e.places ≡ 1 = alone_count ws start e h (sym is) in
    lies-put ws c.put_kept-in-Alone.new.words start e i c.args.at.elem c.args.value Alone h l (sym is)
    (alone_shape ws c.put_kept-in-Alone.new.words start c.put_kept-in-Alone.ensures.what (alone_kind ws start e h (sym is)))
    (c.put_kept-in-Alone.ensures.here (omega (arith, size, room)) ∙ ap Some c.cut_to-in-Alone.ensures)
    (λ j d m. absurd (d (omega (arith, m, l, one))))
