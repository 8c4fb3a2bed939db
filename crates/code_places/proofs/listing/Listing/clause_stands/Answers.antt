use Rattle.std.proofs.Common.{length, refl, sym, ap, ◌∙◌, take}
use Rattle.std.proofs.lemmas.Option.{slice_get_read}
use Rattle.std.specs.Prelude.{slice_get}
use Rattle.cil_code.specs.Bodies.{BodyPart}
use Rattle.code_places.proofs.EachLaws.{stands_at}
use Rattle.code_places.proofs.listing.Listing.clause_stands.Goals as goal

pub returns : goal.returns
returns c =
    stands_at c.args.self.now.code c.args.self.now.clauses c.self.inside.clauses.items c.split_at.result.0.now c.args.n c.in-Some.clause.now c.stands_well.result
    (c.self.invariant.clauses ∙ ap (λ (b : BodyPart). b.clauses) c.self.view_is)
    (c.split_at.ensures.front ∙ ap (take c.args.n) c.deref-2.ensures.value)
    (ap (λ cs. slice_get cs c.args.n) (sym c.deref.ensures.value) ∙ slice_get_read c.deref.result.now (length c.deref.result.now) c.args.n c.in-Some.clause.now refl c.in-Some.ensures.lookup.3.0 c.in-Some.ensures.lookup.1)
    c.stands_well.ensures
