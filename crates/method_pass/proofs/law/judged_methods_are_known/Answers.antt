use Rattle.std.proofs.Common.{sym, ◌∙◌}
use Rattle.method_pass.proofs.TokenLaws.{body_token}
use Rattle.method_pass.proofs.law.judged_methods_are_known.Goals as goal

pub returns : goal.returns
returns c =
    λ files file row x columns m b judged here at e code body before.
    let read = c.judged_classes_are_read.ensures files judged in
    let keep = c.judged_classes_keep.ensures files judged in
    let spelt = c.judged_classes_are_spelt.ensures files judged in
    let tabled = c.judged_classes_are_tabled.ensures files judged in
    let locals = c.locals_are_known.ensures files read spelt judged.types judged.profile file row x columns m b here at e code body in
    record {
      part = here;
      spelt = spelt;
      operands = λ bytes place next kind n known told. c.operands_are_known.ensures files judged.types judged.profile read keep spelt tabled file x bytes place next kind n here known told;
      places = record {
        there = λ t table told. absurd (cc (sym (c.arguments_are_known.ensures.none files t table file row x here told) ∙ e));
        arguments = λ t p table told. (c.arguments_are_known.ensures.told files t table read spelt judged.types judged.profile file row x m p here e told).0;
        result = λ t p table told. (c.arguments_are_known.ensures.told files t table read spelt judged.types judged.profile file row x m p here e told).1;
        loaded = λ t p table told. (c.arguments_are_known.ensures.told files t table read spelt judged.types judged.profile file row x m p here e told).2;
      };
      locals = record { token = body_token x columns b body; locals = locals.0; loaded = locals.1; max_stack = locals.2 };
      before = before;
    }
