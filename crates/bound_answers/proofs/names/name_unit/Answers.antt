use Rattle.std.proofs.Common.{sym, ap, ◌∙◌}
use Rattle.std.specs.Prelude.{slice_get}
use Rattle.board_ids.specs.Ids.{cli_type}
use Rattle.classes.specs.Classes.{Classes}
use Rattle.class_table.specs.Seen.{classes_seen}
use Rattle.bound_answers.specs.Names.{type_units}
use Rattle.bound_answers.proofs.BracketLaws.{no_class}
use Rattle.bound_answers.proofs.names.name_unit.Goals as goal

pub class_unit-requires : goal.class_unit-requires
class_unit-requires c = c.in-Some.ensures

pub returns-in-Some : goal.returns-in-Some
returns-in-Some c = c.class_unit.ensures ∙ ap (λ (cs : Classes). slice_get (type_units cs (cli_type c.args.of)) c.args.k) c.types-types.ensures

pub returns-in-None : goal.returns-in-None
returns-in-None c =
    c.bracket.ensures
    ∙ no_class (classes_seen c.types-types.result.now) c.args.of c.args.k (sym c.in-None.ensures)
    ∙ ap (λ (cs : Classes). slice_get (type_units cs (cli_type c.args.of)) c.args.k) c.types-types.ensures
