use Rattle.std.proofs.Common.{◌≡◌, ℕ, ◌+◌, ◌≤◌, ◌++◌, ◌∷◌, [], List, length, map, Some, sym, ap, ◌∙◌, subst, arith}
use Rattle.std.specs.Prelude.{slice_get}
use Rattle.std.proofs.lemmas.List.{length-map, map-append}
use Rattle.std.proofs.lemmas.Option.{slice_get-get_or, slice_get_within}
use Rattle.type_names.proofs.Resolving.{longer}
use Rattle.class_table.specs.declared.rows.FileRows.{FileRows}
use Rattle.member_search.specs.declared.index.ClassPlaces.{ClassPlaces}
use Rattle.member_search.specs.Index.{FindsAll}
use Rattle.member_search.proofs.IndexLaws.{pairs_more, few_more}
use Rattle.member_search.proofs.index.MemberIndex.new.Goals as goal

pub loop-file-preserved : goal.loop-file-preserved
loop-file-preserved c =
    let pushed = c.in_ok-push.ensures.items in
    let added = c.in_ok-file_places.field-0 in
    let rows = c.deref-file-items.result.now in
    let here : slice_get rows c.loop-file.file-index ≡ Some c.file-item.result = slice_get-get_or rows c.loop-file.file-index c.file-item.result c.loop-file-test.true ∙ ap Some (sym c.file-item.is) in
    let lists : map (λ places. places.items) c.push.new.self.items ≡ map (λ places. places.items) c.loop-file.files.items ++ added.items ∷ [] = ap (map (λ places. places.items)) pushed ∙ map-append (λ places. places.items) c.loop-file.files.items (added ∷ []) in
    record {
      count = ap length pushed ∙ longer c.loop-file.files.items added ∙ ap (λ k. k + 1) c.loop-file.invariant.count;
      few = few_more c.args.sort rows c.loop-file.file-index c.file-item.result here (c.is_few.ensures c.if-not-is_few.false) c.loop-file.invariant.few;
      each =
          subst (λ all. (n : ℕ) (f : FileRows) (ps : List ClassPlaces) → slice_get rows n ≡ Some f → slice_get all n ≡ Some ps → FindsAll c.args.sort f ps) (sym lists)
          (pairs_more (FindsAll c.args.sort) rows (map (λ places. places.items) c.loop-file.files.items) c.loop-file.file-index c.file-item.result added.items (length-map c.loop-file.files.items (λ places. places.items) ∙ c.loop-file.invariant.count) here c.in_ok-file_places.ensures c.loop-file.invariant.each);
    }

pub invariant_of-result : goal.invariant_of-result
invariant_of-result c =
    let rows = c.deref-file-items.result.now in
    let past : length rows ≤ c.loop-file.file-index = omega arith in
    let all : c.loop-file.file-index ≡ length rows = omega arith in
    record {
      index = record {
        count = length-map c.loop-file.files.items (λ places. places.items) ∙ c.loop-file.invariant.count ∙ all ∙ ap length c.deref-file-items.ensures.value;
        few = λ n f at.
            let there = ap (λ xs. slice_get xs n) c.deref-file-items.ensures.value ∙ at in
            let within = slice_get_within rows n f there in
            c.loop-file.invariant.few n f (omega (arith, within, past)) there;
        each = λ n f ps at got. c.loop-file.invariant.each n f ps (ap (λ xs. slice_get xs n) c.deref-file-items.ensures.value ∙ at) got;
      };
    }
