use Rattle.std.proofs.Common.{◌≡◌, ℕ, List, length, subst}
use Rattle.tiny_native.specs.Texts.{Written}
use Rattle.tiny_native.specs.Told.{bracketed}
use Rattle.tiny_native.proofs.Writes.{written_none, written_whole}
use Rattle.tiny_native.proofs.names.name_text.Goals as goal

pub returns-in-Ok : goal.returns-in-Ok
returns-in-Ok g c m keeps =
    let made = c.in-Ok.ensures.made m keeps in
    let units : List ℕ = bracketed c.args.array (g.S.Subclass.name c.args.types.now c.args.of) in
    let count : ℕ = c.text_length-count.result in
    let thing : ℕ = c.in-Ok.thing in
    let long : count ≡ length units = c.text_length-count.ensures.short c.in-Ok.ensures.small in
    let written = c.put_name.ensures m c.args.array long (written_none c.new_string.new.ram m units thing count made.1 made.2) in
    (made.1, written_whole c.put_name.new.ram m units thing (subst (λ n. Written c.put_name.new.ram m units thing n n) long written))
