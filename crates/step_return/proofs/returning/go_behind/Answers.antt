use Rattle.std.proofs.Common.{◌≡◌, Option, Some, None, sym, ap, ◌∙◌, subst}
use Rattle.machine.specs.Data.{State}
use Rattle.memory_states.specs.Values.{id_of}
use Rattle.tiny_except.proofs.Tops.{top_is}
use Rattle.step_ends.proofs.Going.{top_of}
use Rattle.step_return.specs.Returns.{WentOn}
use Rattle.step_return.proofs.Ended.{no_line, some_line}
use Rattle.step_return.proofs.returning.go_behind.Goals as goal

pub returns-in-None : goal.returns-in-None
returns-in-None g c = λ p outer m s f fs h hs v b lines is.
    let top = top_of p outer m s f fs h hs b.ram_frames b.frames b.alike in
    let k = top.frame in
    let frame = top_is m c.top.result f fs b.ram_frames (c.top.ensures m b.keeps) in
    let of = c.method_of-method.result in
    let method : id_of of ≡ h.method = ap id_of (c.method_of-method.ensures m f b.keeps frame) ∙ k.method in
    let at : c.place-at.result ≡ h.place = c.place-at.ensures m f fs b.keeps b.ram_frames h.place k.place_fits k.place in
    let behind = g.L.Lines.behind c.args.lines.now in
    let none : behind of h.place ≡ None = ap (behind of) (sym at) ∙ sym c.behind.ensures ∙ c.in-None.is in
    no_line p behind lines s h hs v of method k.place_fits none

pub returns-in-Some : goal.returns-in-Some
returns-in-Some g c = λ p outer m s f fs h hs v b lines is.
    let top = top_of p outer m s f fs h hs b.ram_frames b.frames b.alike in
    let k = top.frame in
    let frame = top_is m c.top.result f fs b.ram_frames (c.top.ensures m b.keeps) in
    let of = c.method_of-method.result in
    let method : id_of of ≡ h.method = ap id_of (c.method_of-method.ensures m f b.keeps frame) ∙ k.method in
    let at : c.place-at.result ≡ h.place = c.place-at.ensures m f fs b.keeps b.ram_frames h.place k.place_fits k.place in
    let behind = g.L.Lines.behind c.args.lines.now in
    let some : behind of h.place ≡ Some c.in-Some.next = ap (behind of) (sym at) ∙ sym c.behind.ensures ∙ c.in-Some.is in
    subst (λ (next : Option State). WentOn p outer s c.go_with.new.ram m.room next c.go_with.result) (sym (some_line p behind lines s h hs v of method k.place_fits c.in-Some.next some))
    (c.go_with.ensures p outer m s f fs h hs v b is)
