use Rattle.std.proofs.Common.{◌≡◌, ◌∙◌, Some, None, sym, ap, refl}
use Rattle.std.specs.Prelude.{slice_get}
use Rattle.std.specs.Option.{option_copied}
use Rattle.std.proofs.lemmas.Result.{IfOk-weaker}
use Rattle.member_keys.specs.Seen.{class_seen}
use Rattle.class_slots.specs.Own.{AreIn, AreOwn}
use Rattle.class_slots.proofs.OwnLaws.{none_there, own_in}
use Rattle.class_slots.proofs.own.own_rows.Goals as goal

pub returns-in-Some : goal.returns-in-Some
returns-in-Some c =
    let t = c.args.table.now in
    let f = c.in-Some.file.now in
    let at : slice_get t.files.items c.args.class.file ≡ Some f = sym c.find_file.ensures ∙ ap option_copied c.in-Some.is in
    IfOk-weaker c.rows_in.result (AreIn f c.args.class.row) (AreOwn t (class_seen c.args.class)) (own_in t (class_seen c.args.class) f at) c.rows_in.ensures

pub returns-in-None : goal.returns-in-None
returns-in-None c =
    let t = c.args.table.now in
    let at : slice_get t.files.items c.args.class.file ≡ None = sym c.find_file.ensures ∙ ap option_copied c.in-None.is in
    none_there t (class_seen c.args.class) _ at refl refl
