use Rattle.std.proofs.Common.{rules, ◌≡◌, ◌<◌, List, length, sym, ◌∙◌, subst}
use Rattle.std.proofs.lemmas.Result.{IfOk-weaker}
use Rattle.world_rows.specs.World.{assemblies_of}
use Rattle.kept_numbers.specs.Numbers.{all_rows}
use Rattle.row_closure.specs.declared.rule.Rule.{Rule}
use Rattle.row_closure.specs.Closure.{holds, AreWithin, IsClosure}
use Rattle.kept_marks.specs.Kept.{Marked}
use Rattle.table_minimise.specs.Needed.{AreNeeded}
use Rattle.table_minimise.proofs.NumberLaws.{few_types, files_counted}
use Rattle.table_minimise.proofs.WorldLaws.{chains_end}
use Rattle.table_minimise.proofs.NeededLaws.{rules_inside, closed_are_needed}
use Rattle.table_minimise.proofs.minimise.needed.Goals as goal

pub begin_marks-requires-clause-all : goal.begin_marks-requires-clause-all
begin_marks-requires-clause-all c =
    let files = c.args.world.now in
    c.count_all-count.ensures (assemblies_of files) c.in_ok-numbers.ensures (files_counted files ∙ sym c.files.ensures.count)

pub begin_marks-requires-clause-few : goal.begin_marks-requires-clause-few
begin_marks-requires-clause-few c =
    let files = c.args.world.now in
    let all = c.count_all-count.ensures (assemblies_of files) c.in_ok-numbers.ensures (files_counted files ∙ sym c.files.ensures.count) in
    let low : c.count_all-count.result < 4294967296 = search rules in
    few_types files c.count_all-count.result all low

pub find_rules-requires-clause-few : goal.find_rules-requires-clause-few
find_rules-requires-clause-few c =
    let files = c.args.world.now in
    let all = c.count_all-count.ensures (assemblies_of files) c.in_ok-numbers.ensures (files_counted files ∙ sym c.files.ensures.count) in
    let low : c.count_all-count.result < 4294967296 = search rules in
    few_types files c.count_all-count.result all low

pub close_marks-requires-clause-within : goal.close_marks-requires-clause-within
close_marks-requires-clause-within c =
    let files = c.args.world.now in
    let found = c.in_ok-found.found in
    let all = c.count_all-count.ensures (assemblies_of files) c.in_ok-numbers.ensures (files_counted files ∙ sym c.files.ensures.count) in
    let size : length (all_rows (assemblies_of files)) ≡ length c.in_ok-start.start.items = sym all ∙ sym c.in_ok-start.ensures.all in
    let inside = rules_inside files c.in_ok-numbers.numbers found c.in_ok-found.ensures c.in_ok-numbers.ensures (chains_end files c.requires.judged c.requires.base) in
    subst (λ (rules : List Rule). AreWithin (length c.in_ok-start.start.items) rules) (sym c.as_slice.ensures.value) (subst (λ n. AreWithin n found.rules.items) size inside)

pub returns-clause-needed : goal.returns-clause-needed
returns-clause-needed c =
    let files = c.args.world.now in
    let found = c.in_ok-found.found in
    let start = c.in_ok-start.start.items in
    let marks = c.in_ok-marks.marks.items in
    let closure : IsClosure found.rules.items (holds start) (holds marks) = subst (λ (rules : List Rule). IsClosure rules (holds start) (holds marks)) c.as_slice.ensures.value c.in_ok-marks.ensures.closure in
    IfOk-weaker c.new.result (λ (kept : Marked). kept ≡ record { counts = found.numbers; marks = marks }) (AreNeeded files)
    (λ kept e.
    subst (AreNeeded files) (sym e)
    (closed_are_needed files c.in_ok-numbers.numbers found c.in_ok-found.ensures c.in_ok-numbers.ensures (chains_end files c.requires.judged c.requires.base) start marks found.numbers c.in_ok-start.ensures.roots closure))
    c.new.ensures
