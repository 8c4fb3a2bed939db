use Rattle.std.proofs.Common.{◌≡◌, Some, None, refl, sym, ap, ◌∙◌}
use Rattle.std.specs.Option.{option_map}
use Rattle.cil_code.specs.Bodies.{BodyPart}
use Rattle.cil_code.specs.Walk.{code_fault}
use Rattle.code_places.specs.Places.{first_astray}
use Rattle.code_tests.specs.Tests.{test_of, clause_keeps, first_wrong}
use Rattle.code_tests.proofs.TestLaws.{whole}
use Rattle.code_tests.proofs.tests.first_broken.Goals as goal

pub returns-in-Some-first_astray : goal.returns-in-Some-first_astray
returns-in-Some-first_astray c =
    let b : BodyPart = c.args.listing.now in
    let f : None ≡ code_fault b.code = sym c.in_default.is ∙ c.first_fault.ensures ∙ ap code_fault c.code.ensures ∙ ap (λ (k : BodyPart). code_fault k.code) c.body-2.ensures in
    let a : Some c.in-Some-first_astray.offset ≡ first_astray b.code = sym c.in-Some-first_astray.is ∙ c.first_astray.ensures in
    λ w file x m h. whole w file x m b c.args.handled.now h None (Some c.in-Some-first_astray.offset) (first_wrong (clause_keeps c.args.handled.now b) 0 b.clauses) f a refl

pub returns-in_err-offset : goal.returns-in_err-offset
returns-in_err-offset c =
    let b : BodyPart = c.args.listing.now in
    let f : None ≡ code_fault b.code = sym c.in_default.is ∙ c.first_fault.ensures ∙ ap code_fault c.code.ensures ∙ ap (λ (k : BodyPart). code_fault k.code) c.body-2.ensures in
    let a : None ≡ first_astray b.code = sym c.in_default-first_astray.is ∙ c.first_astray.ensures in
    let n : None ≡ first_wrong (clause_keeps c.args.handled.now b) 0 b.clauses = sym c.in_err-offset.was ∙ c.clause_wrong.ensures in
    λ w file x m h. ap (option_map test_of) c.from_residual.ensures ∙ whole w file x m b c.args.handled.now h None None None f a n

pub returns : goal.returns
returns c =
    let b : BodyPart = c.args.listing.now in
    let f : None ≡ code_fault b.code = sym c.in_default.is ∙ c.first_fault.ensures ∙ ap code_fault c.code.ensures ∙ ap (λ (k : BodyPart). code_fault k.code) c.body-2.ensures in
    let a : None ≡ first_astray b.code = sym c.in_default-first_astray.is ∙ c.first_astray.ensures in
    let n : Some c.in_ok-offset.offset ≡ first_wrong (clause_keeps c.args.handled.now b) 0 b.clauses = sym c.in_ok-offset.was ∙ c.clause_wrong.ensures in
    λ w file x m h. whole w file x m b c.args.handled.now h None None (Some c.in_ok-offset.offset) f a n
