use Rattle.std.proofs.Common.{◌≡◌, ◌-◌, [], false, sym, ap, ◌∙◌}
use Rattle.board_types.specs.declared.value.Shape.{Shape}
use Rattle.machine.specs.Data.{type_eq}
use Rattle.board_ids.specs.Ids.{cli_type}
use Rattle.tiny_native.specs.Copies.{elements_of}
use Rattle.tiny_native.proofs.TypeSame.{tested_same, tested_types}
use Rattle.tiny_native.proofs.CopyOutcomes.{copy_types}
use Rattle.tiny_native.proofs.arrays.copy_elements.Goals as goal

pub returns-then-same_type : goal.returns-then-same_type
returns-then-same_type c s d e h a b =
    let same : c.args.source.shape.of ≡ c.args.target.shape.of = tested_same c.args.source.shape.of c.args.target.shape.of (sym c.same_type.ensures ∙ c.if-same_type.true) in
    c.copy_same.ensures s d e h a b (sym (ap (λ (x : Shape). x.of) a.same) ∙ same ∙ ap (λ (x : Shape). x.of) b.same)

pub returns-else-same_type : goal.returns-else-same_type
returns-else-same_type c s d e h a b =
    let other : type_eq (cli_type d.shape.of) (cli_type e.shape.of) ≡ false =
    ap (λ (x : Shape). type_eq (cli_type x.of) (cli_type e.shape.of)) (sym a.same)
    ∙ ap (λ (x : Shape). type_eq (cli_type c.args.source.shape.of) (cli_type x.of)) (sym b.same)
    ∙ sym (tested_types c.args.source.shape.of c.args.target.shape.of) ∙ sym c.same_type.ensures ∙ c.if-same_type.false in
    (h.keeps, copy_types s.program s.state s.frame s.callers s.next s.rest [] (c.args.target.thing - 1) (cli_type d.shape.of) (cli_type e.shape.of) (elements_of s d) (elements_of s e) c.args.by.from c.args.by.to c.args.by.count other)
