use Rattle.std.proofs.Common.{◌≡◌, true, false, List, ◌∷◌, sym, ◌∙◌, subst}
use Rattle.machine.specs.Data.{State}
use Rattle.machine.specs.Calls.{hand_back}
use Rattle.tiny_ram.specs.Memory.{RamFrame, with_frames, callers}
use Rattle.tiny_ram.specs.Region.{Keeps}
use Rattle.tiny_except.proofs.Tops.{top_is, first_of, no_first}
use Rattle.step_ends.specs.Ends.{Before}
use Rattle.step_return.specs.declared.returning.Returned.{Returned}
use Rattle.step_return.specs.Returns.{IsResult, HandedBack}
use Rattle.step_return.proofs.Ended.{first_frame, run_ends, passed, gone_behind, not_behind}
use Rattle.step_return.proofs.returning.hand_back.Goals as goal

pub returns-then-top-eq0 : goal.returns-then-top-eq0
returns-then-top-eq0 g c = λ p outer m s f fs gs initialiser v h lines is.
    let u = c.end_frame.new.self in
    let kept : Keeps u (with_frames m fs) = subst (λ (z : List RamFrame). Keeps u (with_frames m (callers z))) h.ram_frames (c.end_frame.ensures m h.keeps) in
    let none = no_first m.room fs c.top-2.result (c.top-2.ensures (with_frames m fs) kept) c.if-top-eq0.true in
    subst (λ (r : Returned). HandedBack p outer s u m.room (hand_back p s initialiser v gs) r) (sym c.end_run.ensures)
    (run_ends p outer c.args.ram.now u m s f fs gs initialiser h kept none c.args.value v is)

pub returns-then-initialiser : goal.returns-then-initialiser
returns-then-initialiser g c = λ p outer m s f fs gs initialiser v h lines is.
    let u = c.end_frame.new.self in
    let kept : Keeps u (with_frames m fs) = subst (λ (z : List RamFrame). Keeps u (with_frames m (callers z))) h.ram_frames (c.end_frame.ensures m h.keeps) in
    let x = first_of m.room fs c.top-2.result (c.top-2.ensures (with_frames m fs) kept) c.if-top-eq0.false in
    let w = first_frame p outer c.args.ram.now u m s f fs gs initialiser h kept x.frame x.callers x.is in
    let frame = top_is m c.top.result f fs h.ram_frames (c.top.ensures m h.keeps) in
    let marked : initialiser ≡ true = sym h.same ∙ sym (c.is_initialiser-initialiser.ensures m f h.keeps frame) ∙ c.if-initialiser.true in
    passed p outer c.args.ram.now u m s f fs gs initialiser h kept marked w v

pub returns-then-go_behind : goal.returns-then-go_behind
returns-then-go_behind g c = λ p outer m s f fs gs initialiser v h lines is.
    let u = c.end_frame.new.self in
    let kept : Keeps u (with_frames m fs) = subst (λ (z : List RamFrame). Keeps u (with_frames m (callers z))) h.ram_frames (c.end_frame.ensures m h.keeps) in
    let x = first_of m.room fs c.top-2.result (c.top-2.ensures (with_frames m fs) kept) c.if-top-eq0.false in
    let w = first_frame p outer c.args.ram.now u m s f fs gs initialiser h kept x.frame x.callers x.is in
    let frame = top_is m c.top.result f fs h.ram_frames (c.top.ensures m h.keeps) in
    let marked : initialiser ≡ false = sym h.same ∙ sym (c.is_initialiser-initialiser.ensures m f h.keeps frame) ∙ c.if-initialiser.false in
    let t : State = record s { frames = gs } in
    let before : Before p outer u (with_frames m fs) t x.frame x.callers w.frame w.callers = record { keeps = kept; ram_frames = x.is; frames = w.is; alike = h.callers } in
    let value : IsResult m.room (x.frame ∷ x.callers) c.args.value v = subst (λ (z : List RamFrame). IsResult m.room z c.args.value v) x.is is in
    gone_behind p outer c.args.ram.now u m s f fs gs initialiser h kept marked w v c.go_behind.new.ram
    (c.if-go_behind.ensures p outer (with_frames m fs) t x.frame x.callers w.frame w.callers v before lines value)

pub returns-else-go_behind : goal.returns-else-go_behind
returns-else-go_behind g c = λ p outer m s f fs gs initialiser v h lines is.
    let u = c.end_frame.new.self in
    let kept : Keeps u (with_frames m fs) = subst (λ (z : List RamFrame). Keeps u (with_frames m (callers z))) h.ram_frames (c.end_frame.ensures m h.keeps) in
    let x = first_of m.room fs c.top-2.result (c.top-2.ensures (with_frames m fs) kept) c.if-top-eq0.false in
    let w = first_frame p outer c.args.ram.now u m s f fs gs initialiser h kept x.frame x.callers x.is in
    let frame = top_is m c.top.result f fs h.ram_frames (c.top.ensures m h.keeps) in
    let marked : initialiser ≡ false = sym h.same ∙ sym (c.is_initialiser-initialiser.ensures m f h.keeps frame) ∙ c.if-initialiser.false in
    let t : State = record s { frames = gs } in
    let before : Before p outer u (with_frames m fs) t x.frame x.callers w.frame w.callers = record { keeps = kept; ram_frames = x.is; frames = w.is; alike = h.callers } in
    let value : IsResult m.room (x.frame ∷ x.callers) c.args.value v = subst (λ (z : List RamFrame). IsResult m.room z c.args.value v) x.is is in
    not_behind p outer c.args.ram.now u m s f fs gs initialiser h kept marked w v c.go_behind.new.ram
    (c.if-go_behind.ensures p outer (with_frames m fs) t x.frame x.callers w.frame w.callers v before lines value)
