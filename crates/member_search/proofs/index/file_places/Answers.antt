use Rattle.std.proofs.Common.{◌≡◌, ℕ, ◌+◌, ◌≤◌, length, Some, sym, ap, ◌∙◌, subst, arith}
use Rattle.std.specs.Prelude.{slice_get}
use Rattle.std.proofs.lemmas.Option.{slice_get-get_or}
use Rattle.type_names.proofs.Resolving.{longer}
use Rattle.class_table.specs.declared.rows.ClassRow.{ClassRow}
use Rattle.member_search.specs.declared.index.ClassPlaces.{ClassPlaces}
use Rattle.member_search.specs.Index.{FindsOwn}
use Rattle.member_search.proofs.IndexLaws.{pairs_more}
use Rattle.member_search.proofs.index.file_places.Goals as goal

pub loop-class-preserved : goal.loop-class-preserved
loop-class-preserved c =
    let pushed = c.in_ok-push.ensures.items in
    let added = c.in_ok-class_places.field-0 in
    let rows = c.deref-class-items.result.now in
    let here : slice_get rows c.loop-class.class-index ≡ Some c.class-item.result = slice_get-get_or rows c.loop-class.class-index c.class-item.result c.loop-class-test.true ∙ ap Some (sym c.class-item.is) in
    let finds = FindsOwn c.args.sort c.args.file.now in
    record {
      count = ap length pushed ∙ longer c.loop-class.all.items added ∙ ap (λ k. k + 1) c.loop-class.invariant.count;
      each =
          subst (λ ps. (n : ℕ) (x : ClassRow) (p : ClassPlaces) → slice_get rows n ≡ Some x → slice_get ps n ≡ Some p → finds x p) (sym pushed)
          (pairs_more finds rows c.loop-class.all.items c.loop-class.class-index c.class-item.result added c.loop-class.invariant.count here c.in_ok-class_places.ensures c.loop-class.invariant.each);
    }

pub returns : goal.returns
returns c =
    let rows = c.deref-class-items.result.now in
    let past : length rows ≤ c.loop-class.class-index = omega arith in
    let all : c.loop-class.class-index ≡ length rows = omega arith in
    record {
      count = c.loop-class.invariant.count ∙ all ∙ ap length c.deref-class-items.ensures.value;
      each = λ n x p at got. c.loop-class.invariant.each n x p (ap (λ xs. slice_get xs n) c.deref-class-items.ensures.value ∙ at) got;
    }
