use Rattle.std.proofs.Common.{ℕ, sym, ap, ◌∙◌}
use Rattle.cil_opcodes.specs.declared.shape.Operand.{Operand}
use Rattle.assemblies.specs.Binding.{operand}
use Rattle.world_rows.specs.World.{size_of}
use Rattle.image_form.specs.Codes.{operand_of, text_operand}
use Rattle.image_form.specs.Form.{meaning}
use Rattle.msspot_read.specs.Held.{held_of}
use Rattle.set_names.specs.Names.{seen_all}
use Rattle.tiny_code.specs.Numbers.{plain_seen}
use Rattle.bound_lines.proofs.CodeLaws.{text_is}
use Rattle.bound_lines.proofs.operand.operand.Goals as goal

pub returns-in-StringToken : goal.returns-in-StringToken
returns-in-StringToken c =
    let ps = seen_all c.args.set.now in
    let m = meaning (held_of c.args.image.now) in
    text_is c.args.set.now c.args.image.now (size_of ps) ps c.args.file c.word-in-StringToken.result c.requires.here
    ∙ ap (λ (n : ℕ). operand (size_of ps) ps c.args.file (text_operand (m.text n))) c.word-in-StringToken.ensures
    ∙ ap (λ (o : Operand). operand (size_of ps) ps c.args.file (operand_of m o c.args.found.next (plain_seen c.args.found.number))) (sym c.in-StringToken.is)
