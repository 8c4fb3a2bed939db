use Rattle.std.proofs.Common.{◌≡◌, length, sym, arith, subst}
use Rattle.class_table.specs.Seen.{classes_seen}
use Rattle.tiny_types.specs.Found.{AreFound}
use Rattle.tiny_types.proofs.FoundLaws.{written}
use Rattle.tiny_types.proofs.found.find_target.Goals as goal

pub returns-in-Some-clause-body : goal.returns-in-Some-clause-body
returns-in-Some-clause-body c =
    let cs = classes_seen c.args.types.now in
    c.in-Some.ensures cs (subst (AreFound cs) (sym c.deref.ensures.value) c.requires)

pub returns-clause-found : goal.returns-clause-found
returns-clause-found c =
    let cs = classes_seen c.args.types.now in
    let kept = c.keep.ensures cs (subst (AreFound cs) (sym c.deref_mut.ensures.value) c.requires) c.target-body.ensures in
    let same : c.args.targets.now.found.len ≡ length c.keep.new.found = omega (arith, c.args.targets.now.found.ok, c.requires.count, kept.count) in
    subst (AreFound cs) (sym (written c.args.targets.now.found.len c.keep.new.found c.args.targets.now.found.items same)) kept
