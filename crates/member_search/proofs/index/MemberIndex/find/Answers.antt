use Rattle.std.proofs.Common.{◌≡◌, refl, sym, ap, subst, ◌∙◌, arith, add-one}
use Rattle.std.specs.Prelude.{Some}
use Rattle.assemblies.specs.Binding.{id_at}
use Rattle.classes.specs.Queries.{superclass_of}
use Rattle.member_keys.specs.Seen.{class_seen}
use Rattle.class_table.specs.Seen.{classes_seen}
use Rattle.member_search.specs.Shown.{key_shown, own_member}
use Rattle.member_search.specs.Walk.{Walked}
use Rattle.member_search.proofs.Circles.{walked_more, circle_met, up_next}
use Rattle.member_search.proofs.index.MemberIndex.find.Goals as goal

pub returns-then-next-mark-2 : goal.returns-then-next-mark-2
returns-then-next-mark-2 c =
    let cs = classes_seen c.args.self.now.table in
    let look = own_member c.args.self.now.sort c.args.self.now.table (key_shown c.args.key.now) in
    let above : superclass_of cs (class_seen c.up.class) ≡ Some (class_seen c.in_ok-next.next) = ap (λ t. superclass_of (classes_seen t) (class_seen c.up.class)) (sym c.table-in-up.ensures) ∙ sym c.in_ok-next.ensures in
    let same : class_seen c.in_ok-next.next ≡ class_seen c.up.mark = ap (λ f. id_at f c.in_ok-next.next.row) c.if-next-mark.true ∙ ap (id_at c.up.mark.file) c.if-next-mark-2.true in
    sym (c.up.invariant.rest ∙ circle_met cs look c.up.steps (class_seen c.up.mark) (class_seen c.up.class) (class_seen c.in_ok-next.next) c.up.left c.up.invariant.walked (sym c.in_default.ensures) above same c.if-left-eq0.false)

pub overflow_add-steps : goal.overflow_add-steps
overflow_add-steps c = omega (arith, c.up.invariant.few, c.up.invariant.size)

pub up-preserved-then-steps-most : goal.up-preserved-then-steps-most
up-preserved-then-steps-most c =
    let cs = classes_seen c.args.self.now.table in
    let look = own_member c.args.self.now.sort c.args.self.now.table (key_shown c.args.key.now) in
    let above : superclass_of cs (class_seen c.up.class) ≡ Some (class_seen c.in_ok-next.next) = ap (λ t. superclass_of (classes_seen t) (class_seen c.up.class)) (sym c.table-in-up.ensures) ∙ sym c.in_ok-next.ensures in
    record {
      rest = c.up.invariant.rest ∙ up_next cs look c.up.left (class_seen c.up.class) (class_seen c.in_ok-next.next) c.if-left-eq0.false (sym c.in_default.ensures) above;
      walked = refl;
      few = omega (arith, c.saturating_mul-most.ensures, c.up.invariant.few);
      size = omega (arith, c.saturating_mul-most.ensures);
    }

pub up-preserved : goal.up-preserved
up-preserved c =
    let cs = classes_seen c.args.self.now.table in
    let look = own_member c.args.self.now.sort c.args.self.now.table (key_shown c.args.key.now) in
    let above : superclass_of cs (class_seen c.up.class) ≡ Some (class_seen c.in_ok-next.next) = ap (λ t. superclass_of (classes_seen t) (class_seen c.up.class)) (sym c.table-in-up.ensures) ∙ sym c.in_ok-next.ensures in
    record {
      rest = c.up.invariant.rest ∙ up_next cs look c.up.left (class_seen c.up.class) (class_seen c.in_ok-next.next) c.if-left-eq0.false (sym c.in_default.ensures) above;
      walked = subst (λ k. Walked cs look k (class_seen c.up.mark) (class_seen c.in_ok-next.next)) (sym (add-one c.up.steps)) (walked_more cs look c.up.steps (class_seen c.up.mark) (class_seen c.up.class) (class_seen c.in_ok-next.next) c.up.invariant.walked (sym c.in_default.ensures) above);
      few = omega (arith, c.up.invariant.few, c.if-steps-most.false);
      size = c.up.invariant.size;
    }
