use Rattle.std.proofs.Common.{◌≡◌, ◌+◌, ◌%◌, ◌≤◌, ◌∷◌, Some, sym, subst, arith}
use Rattle.std.specs.Prelude.{slice_index, slice_set}
use Rattle.board_types.specs.declared.value.Value.TheVariants.{Ref}
use Rattle.tiny_ram.specs.Memory.{RamFrame, fresh_frame, with_frames, put_in_frame}
use Rattle.tiny_ram.specs.Region.{Keeps}
use Rattle.step_calls.proofs.Handing.{deep}
use Rattle.step_constructors.proofs.Placing.{have, first_inside, caller, placed, still, one_more, finished}
use Rattle.step_constructors.proofs.making.construct.Goals as goal

pub returns-in-Stuck : goal.returns-in-Stuck
returns-in-Stuck g c = λ m f fs k e given some low. c.in-Stuck.ensures m f fs k e (have c.args.ram.now m f fs c.args.callee c.args.from k e given c.args.object)

pub returns-in-Spent : goal.returns-in-Spent
returns-in-Spent g c = λ m f fs k e given some low. c.in-Spent.ensures m f fs k e (have c.args.ram.now m f fs c.args.callee c.args.from k e given c.args.object)

pub returns-in-Raises : goal.returns-in-Raises
returns-in-Raises g c = λ m f fs k e given some low. c.in-Raises.ensures m f fs k e (have c.args.ram.now m f fs c.args.callee c.args.from k e given c.args.object)

pub returns-in-Done : goal.returns-in-Done
returns-in-Done g c = λ m f fs k e given some low.
    let r = c.args.ram.now in
    let x = c.args.from in
    let o = c.args.object in
    let kinds = g.P.Places.place c.args.places.now in
    let st = c.in-Done.ensures m f fs k e (have r m f fs c.args.callee x k e given o) in
    let u = c.start.new.ram in
    let y : RamFrame = record (fresh_frame c.args.callee.method c.args.callee.sizes) { places = st.places } in
    let one : RamFrame = record f { depth = x.below } in
    let two : RamFrame = record f { depth = x.below; places = slice_set f.places x.first (Some (Ref o)) } in
    let v = c.put_place.new.ram in
    let put = c.put_place.ensures (with_frames m (y ∷ one ∷ fs)) one st.keeps (caller r m f fs c.args.callee x k e given o low u kinds st) (first_inside r m f fs c.args.callee x k e given o low u kinds st) in
    let there = placed r m f fs c.args.callee x k e given o low u kinds st v put in
    let is = still r m f fs c.args.callee x k e given o low u kinds st v put in
    let le = one_more r m f fs c.args.callee x k e given o low u kinds st v put in
    let d = deep r m f fs k e in
    let few = d.few in
    let inside = d.inside in
    let at : (x.below + 1) % 4294967296 ≡ x.below + 1 = omega (arith, le, few, inside) in
    let w = c.put_depth.new.ram in
    let deeper : (x.below + 1) % 4294967296 ≤ slice_index f.sizes 2 = subst (λ n. n ≤ slice_index f.sizes 2) (sym at) le in
    finished r m f fs c.args.callee x k e given o low u kinds st v put w
    (subst (λ n. Keeps w (put_in_frame (with_frames m (y ∷ two ∷ fs)) x.frame (record f { depth = n; places = slice_set f.places x.first (Some (Ref o)) }))) at
    (c.put_depth.ensures (with_frames m (y ∷ two ∷ fs)) two there is deeper))
