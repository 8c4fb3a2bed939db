use Rattle.std.proofs.Common.{ap, ◌∙◌, sym}
use Rattle.std.specs.Option.{option_map}
use Rattle.machine.specs.Natives.{text_at, or_empty}
use Rattle.tiny_ops.specs.Operators.{stack_value}
use Rattle.tiny_native.specs.Copies.{NamesText}
use Rattle.tiny_native.proofs.Outcomes.{print_text, print_none}
use Rattle.tiny_native.proofs.strings.print.Goals as goal

pub returns-in-Some : goal.returns-in-Some
returns-in-Some c s more h n =
    let t : NamesText s c.args.value c.in-Some.text = c.in-Some.ensures s h.keeps n in
    record {
      units = or_empty t.text;
      text = ap (λ v. option_map or_empty (text_at s.state.heap v)) (sym (ap (stack_value s.leads) t.value)) ∙ ap (option_map or_empty) t.at;
      keeps = h.keeps;
      outcome = print_text s.program s.state s.frame s.callers s.next s.rest more (stack_value s.leads c.args.value) t.text t.at;
    }

pub returns-in-None : goal.returns-in-None
returns-in-None c s more h n = (h.keeps, print_none s.program s.state s.frame s.callers s.next s.rest more (stack_value s.leads c.args.value) (c.in-None.ensures s h.keeps n))
