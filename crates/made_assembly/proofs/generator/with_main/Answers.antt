use Rattle.std.proofs.Common.{arith, ap, ◌∙◌, codes}
use Rattle.cil_layout.specs.Asked.{rows_of, with_row}
use Rattle.made_assembly.specs.declared.generator.TheConstants.{MAIN_SIGNATURE}
use Rattle.made_assembly.specs.Made.{static_method}
use Rattle.made_assembly.proofs.Rows.{types_of, program_methods, whole}
use Rattle.made_assembly.proofs.generator.with_main.Goals as goal

pub add_class-requires : goal.add_class-requires
add_class-requires c = omega (arith, ap (λ r. rows_of r 2) (c.in_ok-build.ensures {u = tt}), types_of c.args.n, c.requires.high)

pub add_method-requires : goal.add_method-requires
add_method-requires c = omega (arith, program_methods c.args.n _ _ (c.in_ok-build.ensures {u = tt}) (c.in_ok-add_class.ensures {u = tt}), c.requires.high)

pub returns : goal.returns
returns c =
    let body = c.as_slice.ensures.value ∙ c.in_ok-body.ensures {u = tt} in
    let main = (c.in_ok-main.ensures {u = tt}).ok ∙ ap (λ b. with_row c.add_class.new.build (static_method (codes "Main") MAIN_SIGNATURE b)) body in
    c.set_entry.ensures
    ∙ whole c.args.n c.in_ok-main.main _ _ _ (c.in_ok-build.ensures {u = tt}) (c.in_ok-add_class.ensures {u = tt}) main (c.in_ok-main.ensures {u = tt}).token
