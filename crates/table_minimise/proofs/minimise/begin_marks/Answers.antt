use Rattle.std.proofs.Common.{◌≡◌, ◌++◌, false, Bool, List, length, take, drop, sym, ap, ◌∙◌, subst, arith}
use Rattle.std.proofs.lemmas.List.{length-replicate}
use Rattle.world_rows.specs.World.{assemblies_of, ecma_sources, rows_alone, size_of}
use Rattle.row_closure.specs.Closure.{holds}
use Rattle.kept_numbers.specs.Numbers.{all_rows}
use Rattle.root_marks.specs.Roots.{marked, root_rows}
use Rattle.root_marks.specs.Are.{AreRoots, IsClear}
use Rattle.root_marks.proofs.RootLaws.{are_roots}
use Rattle.table_minimise.proofs.WorldLaws.{all_clear, written}
use Rattle.table_minimise.proofs.minimise.begin_marks.Goals as goal

pub returns-clause-roots : goal.returns-clause-roots
returns-clause-roots c =
    λ entries.
    let files = c.args.world.now in
    let ps = assemblies_of files in
    let rows = root_rows files (ecma_sources files).classes in
    let clear = c.in_ok-marks.marks.items in
    let marks = c.mark_roots.new.marks in
    let none : IsClear clear = subst IsClear (sym c.in_ok-marks.ensures) (all_clear c.args.count) in
    let many : length clear ≡ length (all_rows ps) = ap length c.in_ok-marks.ensures ∙ length-replicate c.args.count false ∙ c.requires.all in
    let set : marks ≡ marked ps rows clear = c.in_ok-mark_roots.ensures ps c.requires.counts ∙ ap (marked ps rows) c.as_mut_slice.ensures.value in
    let long : length marks ≡ c.in_ok-marks.marks.len = omega (arith, ap length c.as_mut_slice.ensures.value) in
    let whole : take c.in_ok-marks.marks.len (marks ++ drop (length marks) clear) ≡ marked ps rows clear = written c.in_ok-marks.marks.len marks (drop (length marks) clear) long ∙ set in
    subst (λ (bits : List Bool). AreRoots (size_of (rows_alone files)) ps (holds bits)) (sym whole) (are_roots files clear entries none many)
