use Rattle.std.proofs.Common.{◌∷◌, [], List, ℕ, refl, arith}
use Rattle.tiny_native.proofs.Writes.{written_none, written_whole}
use Rattle.tiny_native.proofs.pieces.single.Goals as goal

pub returns-in-Ok : goal.returns-in-Ok
returns-in-Ok c m keeps =
    let made = c.in-Ok.ensures.made m keeps in
    let units : List ℕ = c.args.unit ∷ [] in
    (made.1, written_whole c.put_unit.new.ram m units c.in-Ok.thing (c.put_unit.ensures m units 1 (written_none c.new_string.new.ram m units c.in-Ok.thing 1 made.1 made.2) (omega arith) refl))
