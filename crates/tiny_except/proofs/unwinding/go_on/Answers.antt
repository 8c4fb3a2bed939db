use Rattle.std.proofs.Common.{◌≡◌, ◌∷◌, Some, None, refl, sym, ap, ◌∙◌, subst, arith}
use Rattle.std.specs.Int.{w32, cast_signed, cast_unsigned}
use Rattle.board_types.specs.declared.value.Value.TheVariants.{Int}
use Rattle.tiny_ram.specs.Memory.{RamFrame, with_frames}
use Rattle.memory_states.specs.Told.{Told, told}
use Rattle.tiny_except.specs.declared.clauses.Goal.TheVariants as kind
use Rattle.tiny_except.specs.Unwinding.{entered, stop_in}
use Rattle.tiny_except.proofs.Tops.{top_is}
use Rattle.tiny_except.proofs.unwinding.go_on.Goals as goal
use Rattle.tiny_except.specs.Unwinding.{left_by, left_in}
use Rattle.tiny_except.specs.Searches.{AllHaveSlots, HasSlots}
use Rattle.tiny_except.proofs.Stops.{Fits, stop_fits}
use Rattle.tiny_except.proofs.Tops.{first_of, kept_top, there_back}

pub returns-in-Some : goal.returns-in-Some
returns-in-Some g c = λ m k h.
    let t : Told = told (g.S.Subclass.sub c.args.types.now) (g.S.Subclass.clauses c.args.types.now) in
    let n = first_of m.room m.frames c.top-frame.result (c.top-frame.ensures m k) c.if-frame-eq0.false in
    let is = top_is m c.top-frame.result n.frame n.callers n.is (c.top-frame.ensures m k) in
    let slots : HasSlots t n.frame = (subst (AllHaveSlots t) n.is h).0 in
    let found : stop_in t (kind.Leaving c.args.target) c.args.ended n.frame ≡ Some c.in-Some.found = sym (c.stop.ensures m n.frame k is) ∙ c.in-Some.is in
    let fits : Fits n.frame c.in-Some.found = stop_fits t (kind.Leaving c.args.target) c.args.ended n.frame c.in-Some.found slots found in
    kept_top c.enter.new.ram m n.frame n.callers (left_in t c.args.target c.args.ended) (entered n.frame c.in-Some.found (Int (cast_signed w32 (cast_unsigned w32 c.cast_signed.result)))) n.is
    (ap (left_by n.frame c.args.target) found ∙ ap (λ z. entered n.frame c.in-Some.found (Int z)) (sym (there_back c.args.target c.cast_signed.result (omega arith) c.cast_signed.ensures)))
    (c.enter.ensures m n.frame n.callers k n.is fits.slot)

pub returns-in-None : goal.returns-in-None
returns-in-None g c = λ m k h.
    let t : Told = told (g.S.Subclass.sub c.args.types.now) (g.S.Subclass.clauses c.args.types.now) in
    let n = first_of m.room m.frames c.top-frame.result (c.top-frame.ensures m k) c.if-frame-eq0.false in
    let is = top_is m c.top-frame.result n.frame n.callers n.is (c.top-frame.ensures m k) in
    let slots : HasSlots t n.frame = (subst (AllHaveSlots t) n.is h).0 in
    let found : stop_in t (kind.Leaving c.args.target) c.args.ended n.frame ≡ None = sym (c.stop.ensures m n.frame k is) ∙ c.in-None.is in
    let empty : RamFrame = record n.frame { depth = 0 } in
    kept_top c.go_to.new.self m n.frame n.callers (left_in t c.args.target c.args.ended) (record n.frame { place = cast_signed w32 (cast_unsigned w32 c.cast_signed-in-None.result); depth = 0 }) n.is
    (ap (left_by n.frame c.args.target) found ∙ ap (λ z. let f : RamFrame = record n.frame { place = z; depth = 0 } in f) (sym (there_back c.args.target c.cast_signed-in-None.result (omega arith) c.cast_signed-in-None.ensures)))
    (c.go_to.ensures (with_frames m (empty ∷ n.callers)) empty n.callers (c.clear_stack.ensures m n.frame n.callers k n.is) refl)
