use Rattle.std.proofs.Common.{◌≡◌, ◌∙◌, suc, ◌+◌, ◌-◌, List, [], ◌∷◌, ◌++◌, map, sym, ap, arith}
use Rattle.std.specs.Option.{option_map}
use Rattle.std.proofs.lemmas.List.{map-append}
use Rattle.classes.specs.Queries.{chain_within}
use Rattle.member_keys.specs.declared.keys.ClassId.{ClassId}
use Rattle.member_keys.specs.Seen.{class_seen}
use Rattle.class_table.specs.Seen.{classes_seen}
use Rattle.class_fields.proofs.FieldLaws.{walks_on, walks_out}
use Rattle.class_fields.proofs.chain.superclass_chain.Goals as goal

pub loop-step-preserved : goal.loop-step-preserved
loop-step-preserved c =
    λ n e.
    let cs = classes_seen c.args.table.now in
    ap (λ (xs : List ClassId). map class_seen xs ++ chain_within n cs (class_seen c.in-Some.next)) c.in_ok-push.ensures.items
    ∙ (walks_on cs c.loop-step.classes.items c.loop-step.class c.in-Some.next n (sym c.superclass.ensures ∙ ap (option_map class_seen) c.in-Some.is)
    ∙ c.loop-step.invariant (suc n) (omega (arith, e)))

pub returns-in-None : goal.returns-in-None
returns-in-None c =
    let cs = classes_seen c.args.table.now in
    let n = c.args.table.now.size - c.loop-step._step in
    let left : n + c.loop-step._step ≡ c.args.table.now.size = omega (arith, c.loop-step-test.true) in
    ap (map class_seen) c.in_ok-push.ensures.items
    ∙ (walks_out cs c.loop-step.classes.items c.loop-step.class n (sym c.superclass.ensures ∙ ap (option_map class_seen) c.in-None.is)
    ∙ c.loop-step.invariant n left)

pub returns : goal.returns
returns c =
    ap (map class_seen) c.in_ok-push-2.ensures.items
    ∙ (map-append class_seen c.loop-step.classes.items (c.loop-step.class ∷ [])
    ∙ c.loop-step.invariant 0 (omega (arith, c.loop-step-test.false, c.loop-step.auto._step-end)))
