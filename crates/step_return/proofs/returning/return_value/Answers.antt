use Rattle.std.proofs.Common.{◌∷◌, Option, refl, sym, ◌∙◌, subst}
use Rattle.machine.specs.Data.{State}
use Rattle.machine.specs.Calls.{return_value}
use Rattle.tiny_ram.specs.Memory.{with_frames}
use Rattle.step_ends.proofs.Going.{top_of}
use Rattle.step_return.specs.Returns.{Leaves, HandedBack}
use Rattle.step_return.proofs.Ended.{whole, some_result, no_result}
use Rattle.step_return.proofs.returning.return_value.Goals as goal

pub returns-in_default : goal.returns-in_default
returns-in_default g c = λ p outer m s f fs h hs next b lines back.
    let top = top_of p outer m s f fs h hs b.ram_frames b.frames b.alike in
    no_result p outer m s f fs h hs top.frame c.args.returns back (sym (c.take_result.ensures.value m f fs b.keeps b.ram_frames) ∙ c.in_default.is)

pub returns : goal.returns
returns g c = λ p outer m s f fs h hs next b lines back.
    let top = top_of p outer m s f fs h hs b.ram_frames b.frames b.alike in
    let r = some_result p outer m s f fs h hs top.frame c.args.returns back c.in-Some.value (sym (c.take_result.ensures.value m f fs b.keeps b.ram_frames) ∙ c.in-Some.is) in
    let x = c.take_result.ensures.left m f fs b.keeps b.ram_frames in
    let left : Leaves p outer c.take_result.new.ram (with_frames m (x.frame ∷ fs)) s x.frame fs hs h.initialiser =
    record { keeps = x.keeps; ram_frames = refl; same = x.initialiser ∙ top.frame.initialiser; callers = record { heap = b.alike.heap; frames = top.callers } } in
    whole p outer m s c.hand_back.new.ram (return_value p s h hs) c.hand_back.result
    (subst (λ (o : Option State). HandedBack p outer s c.hand_back.new.ram m.room o c.hand_back.result) (sym r.next)
    (c.hand_back.ensures p outer (with_frames m (x.frame ∷ fs)) s x.frame fs hs h.initialiser r.value left lines r.is))
