use Rattle.std.proofs.Common.{◌∷◌, Option, refl, sym, ap, ◌∙◌, subst}
use Rattle.board_types.specs.declared.value.RamPlace.{RamPlace}
use Rattle.machine.specs.Data.{Cell, InArgument, Pointer, State}
use Rattle.machine.specs.Rows.{frames_cells}
use Rattle.machine.specs.Throw.{on_some}
use Rattle.step_ends.specs.Ends.{Ends}
use Rattle.step_ends.proofs.Going.{top_of}
use Rattle.step_places.specs.Places.{cell_seen}
use Rattle.step_places.proofs.Zeros.{elem_cell_is, no_elem_cell}
use Rattle.step_places.proofs.ArgumentActs.{pointed, address_is, address}
use Rattle.step_places.proofs.arguments.load_argument_address.Goals as goal

pub returns-in_default : goal.returns-in_default
returns-in_default c =
    λ p outer m s f fs g gs of b is e.
    let top = top_of p outer m s f fs g gs b.ram_frames b.frames b.alike in
    let none = no_elem_cell (cell_seen c.args.place) c.in_default.ensures in
    address_is p outer m s f fs g gs top.frame c.args.n of is c.args.place e c.args.next
    ∙ ap (λ (o : Option Cell). on_some o (pointed p outer m s f fs g gs top.frame c.args.n of is c.args.place e c.args.next)) none

pub returns : goal.returns
returns c =
    λ p outer m s f fs g gs of b is e.
    let top = top_of p outer m s f fs g gs b.ram_frames b.frames b.alike in
    let k = top.frame in
    let cell = elem_cell_is (cell_seen c.args.place) c.in-Some.elem c.in-Some.ensures in
    let same = address_is p outer m s f fs g gs k c.args.n of is c.args.place e c.args.next ∙ ap (λ (o : Option Cell). on_some o (pointed p outer m s f fs g gs k c.args.n of is c.args.place e c.args.next)) cell.1 in
    let at : RamPlace = record { thing = c.top.result; index = c.args.n; elem = c.in-Some.elem } in
    let value = address p outer m s f fs g gs k c.args.n c.args.ram.now top.callers b.keeps b.ram_frames at (c.top.ensures m b.keeps) refl cell.0 cell.2 in
    let pushed = c.push_on.ensures p outer m s f fs g gs (Pointer cell.0 (InArgument (frames_cells p (g ∷ gs)) c.args.n)) b value in
    subst (λ (o : Option State). Ends p outer m s c.push_on.new.ram o c.push_on.result) (sym same) pushed
