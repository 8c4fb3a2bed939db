use Rattle.std.proofs.Common.{◌≡◌, Bool, true, ◌∷◌, refl, sym, ◌∙◌, subst}
use Rattle.std.specs.Prelude.{slice_index, if◌then◌else◌}
use Rattle.board_types.specs.declared.value.Value.TheVariants.{Ref}
use Rattle.tiny_ram.specs.Memory.{RamFrame, with_frames, pushed}
use Rattle.tiny_ram.specs.Region.{Keeps}
use Rattle.tiny_except.specs.Unwinding.{entered}
use Rattle.tiny_except.proofs.frames.take.Goals as goal
use Rattle.std.proofs.Common.{eq-eqb}
use Rattle.std.proofs.lemmas.Bool.{le-leb}
use Rattle.tiny_except.proofs.Tops.{taken}

pub returns-then-stop-eq0 : goal.returns-then-stop-eq0
returns-then-stop-eq0 c = λ m f fs k e l room.
    let now : RamFrame = entered f c.args.stop (Ref c.args.object) in
    let keeps = c.enter.ensures m f fs k e l in
    let kind : c.args.stop.clause.kind ≡ 0 = c.if-stop-eq0.true in
    let there : c.push.result ≡ true = c.push.ensures.room (with_frames m (now ∷ fs)) now fs keeps refl ∙ le-leb 1 (slice_index f.sizes 2) (room kind) in
    subst (λ (b : Bool). Keeps c.push.new.self (with_frames m ((if b then pushed (entered f c.args.stop (Ref c.args.object)) (Ref c.args.object) else entered f c.args.stop (Ref c.args.object)) ∷ fs))) (sym (eq-eqb c.args.stop.clause.kind 0 kind))
    (taken c.enter.new.ram c.push.new.self (with_frames m (now ∷ fs)) now fs (Ref c.args.object) c.push.result there (c.push.ensures.done (with_frames m (now ∷ fs)) now fs keeps refl))
