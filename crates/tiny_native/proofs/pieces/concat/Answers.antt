use Rattle.std.proofs.Common.{◌∷◌, ◌++◌}
use Rattle.machine.specs.Natives.{or_empty, string_concat}
use Rattle.tiny_ops.specs.Operators.{stack_value}
use Rattle.tiny_native.specs.Copies.{NamesText}
use Rattle.tiny_native.proofs.Made.{text_meets}
use Rattle.tiny_native.proofs.PieceOutcomes.{concat_texts, concat_first, concat_second}
use Rattle.tiny_native.proofs.pieces.concat.Goals as goal

pub returns-in_default : goal.returns-in_default
returns-in_default c s more h na nb = (h.keeps, concat_first s.program s.state s.frame s.callers s.next s.rest more (stack_value s.leads c.args.a) (stack_value s.leads c.args.b) (c.in_default.ensures s h.keeps na))

pub returns-in_default-text : goal.returns-in_default-text
returns-in_default-text c s more h na nb =
    let x : NamesText s c.args.a c.in-Some.x = c.in-Some.ensures s h.keeps na in
    (h.keeps, concat_second s.program s.state s.frame s.callers s.next s.rest more (stack_value s.leads c.args.a) (stack_value s.leads c.args.b) x.text x.at (c.in_default-text.ensures s h.keeps nb))

pub returns : goal.returns
returns c s more h na nb =
    let x : NamesText s c.args.a c.in-Some.x = c.in-Some.ensures s h.keeps na in
    let y : NamesText s c.args.b c.in-Some-text.y = c.in-Some-text.ensures s h.keeps nb in
    text_meets s c.joined.new.ram (or_empty x.text ++ or_empty y.text) (string_concat s.program s.state s.frame s.callers s.next s.rest (stack_value s.leads c.args.a ∷ stack_value s.leads c.args.b ∷ more)) c.joined.result h.cells
    (concat_texts s.program s.state s.frame s.callers s.next s.rest more (stack_value s.leads c.args.a) (stack_value s.leads c.args.b) x.text y.text x.at y.at)
    (c.joined.ensures s.memory x.text y.text h.keeps x.is y.is)
