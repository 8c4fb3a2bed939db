use Rattle.std.proofs.Common.{◌≡◌, ◌<◌, Some, length, subst, sym, ap, ◌∙◌, arith}
use Rattle.std.specs.Prelude.{slice_get}
use Rattle.std.proofs.lemmas.Option.{slice_get-get_or}
use Rattle.class_table.specs.Whole.{AreMethods}
use Rattle.library_tests.proofs.library.methods_of.Goals as goal

pub returns : goal.returns
returns c =
    let s = c.args.subject.now in
    let files = s.setting.table.now.files.items in
    let inside : c.args.file < length files = omega (arith, c.requires.subject.table.count, c.requires.file) in
    let here : slice_get files c.args.file ≡ Some c.index.result.now = slice_get-get_or files c.args.file c.index.result.now inside ∙ ap Some (sym c.index.ensures) in
    subst (AreMethods s.world.now c.args.file) (sym c.as_slice.ensures.value) (c.requires.subject.table.rows c.args.file c.index.result.now here).methods
