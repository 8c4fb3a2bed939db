use Rattle.std.proofs.Common.{◌≡◌, ℕ, List, length, length-append, sym, ap, ◌∙◌, ◌+◌, arith, subst, [], ◌∷◌}
use Rattle.std.specs.Prelude.{Some, slice_get}
use Rattle.class_queries.specs.Numbers.{count_at}
use Rattle.tiny_types.specs.declared.answers.FileAnswers.{FileAnswers}
use Rattle.tiny_types.specs.Answers.{AreFileAnswers}
use Rattle.tiny_types.proofs.AnswerLaws.{each_more}
use Rattle.tiny_types.proofs.SmallLaws.{count_small}
use Rattle.tiny_types.proofs.answers.answer_all.Goals as goal

pub answer_file-requires : goal.answer_file-requires
answer_file-requires c = let low = count_small c.args.table.now c.requires c.loop-file.file in omega (arith, low, c.class_count-count.ensures)

pub loop-file-preserved : goal.loop-file-preserved
loop-file-preserved c =
    let t = c.args.table.now in
    let pushed = c.in_ok-push.ensures.items in
    let added = c.in_ok-answer_file.field-0 in
    let P : ℕ → FileAnswers → Type 0 = λ k f. AreFileAnswers t k (count_at t k) f in
    record {
      count = ap length pushed ∙ length-append c.loop-file.all.items (added ∷ []) ∙ ap (λ k. k + 1) c.loop-file.invariant.count;
      each =
          subst (λ (xs : List FileAnswers). (k : ℕ) (f : FileAnswers) → slice_get xs k ≡ Some f → P k f) (sym pushed)
          (each_more P c.loop-file.all.items added c.loop-file.invariant.each
          (subst (λ k. P k added) (sym c.loop-file.invariant.count) (subst (λ n. AreFileAnswers t c.loop-file.file n added) c.class_count-count.ensures c.in_ok-answer_file.ensures)));
    }
