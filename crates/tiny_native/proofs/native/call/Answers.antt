use Rattle.std.proofs.Common.{◌≡◌, sym, ◌∙◌, subst}
use Rattle.tiny_native.specs.Seen.{Told}
use Rattle.tiny_native.specs.Names.{native_name}
use Rattle.tiny_native.specs.Ends.{Meets, native_in}
use Rattle.tiny_native.proofs.Numbering.{same_name}
use Rattle.tiny_native.proofs.native.call.Goals as goal

pub returns-in-Some-clause-native : goal.returns-in-Some-clause-native
returns-in-Some-clause-native g c s name e h named told =
    let same : native_name c.in-Some.native ≡ name = same_name (native_name c.in-Some.native) name (c.in-Some.ensures ∙ sym e) in
    subst (λ x. Meets s c.with_arguments.new.ram (native_in s x c.args.args.now) c.with_arguments.result) same
    (c.with_arguments.ensures s h named (subst (λ x. Told s (g.S.Subclass.name c.args.types.now) (g.S.Subclass.bytes c.args.types.now) x c.args.args.now) (sym same) told))
