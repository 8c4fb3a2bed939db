use Rattle.std.proofs.Common.{◌∙◌, ap}
use Rattle.board_ids.specs.Ids.{id_of}
use Rattle.classes.specs.Classes.{Classes}
use Rattle.classes.specs.Queries.{is_sub}
use Rattle.set_names.specs.Names.{seen_all}
use Rattle.bound_answers.proofs.SetLaws.{sub_none, sub_some}
use Rattle.bound_answers.proofs.answers.is_sub.Goals as goal

pub returns-then-is_no_row : goal.returns-then-is_no_row
returns-then-is_no_row c = sub_none (seen_all c.args.set.now) c.args.a c.args.b c.is_no_row.result c.is_no_row.ensures c.if-is_no_row.true

pub returns : goal.returns
returns c =
    c.sub.ensures
    ∙ ap (λ (cs : Classes). is_sub cs (id_of c.args.a) (id_of c.args.b)) c.types.ensures
    ∙ sub_some (seen_all c.args.set.now) c.args.a c.args.b c.is_no_row.result c.is_no_row.ensures c.if-is_no_row.false
