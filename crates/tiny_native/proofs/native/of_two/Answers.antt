use Rattle.std.proofs.Common.{◌∷◌, sym, subst}
use Rattle.tiny_ops.specs.Operators.{stack_value}
use Rattle.tiny_native.specs.Seen.{ValueTold}
use Rattle.tiny_native.specs.Ends.{Meets, native_by}
use Rattle.tiny_native.specs.Names.{two_name}
use Rattle.tiny_native.proofs.native.of_two.Goals as goal

pub returns-in-StringChars : goal.returns-in-StringChars
returns-in-StringChars g c s more h na nb told =
    subst (λ n. Meets s c.args.ram.now (native_by s (two_name n) (stack_value s.leads c.args.a ∷ stack_value s.leads c.args.b ∷ more)) c.chars.result) (sym c.in-StringChars.is) (c.chars.ensures s more h na)

pub returns-in-StringConcat : goal.returns-in-StringConcat
returns-in-StringConcat g c s more h na nb told =
    subst (λ n. Meets s c.concat.new.ram (native_by s (two_name n) (stack_value s.leads c.args.a ∷ stack_value s.leads c.args.b ∷ more)) c.concat.result) (sym c.in-StringConcat.is) (c.concat.ensures s more h na nb)

pub returns-in-StringEquals : goal.returns-in-StringEquals
returns-in-StringEquals g c s more h na nb told =
    subst (λ n. Meets s c.args.ram.now (native_by s (two_name n) (stack_value s.leads c.args.a ∷ stack_value s.leads c.args.b ∷ more)) c.equals.result) (sym c.in-StringEquals.is) (c.equals.ensures s more h na nb)

pub returns-in-StringCompare : goal.returns-in-StringCompare
returns-in-StringCompare g c s more h na nb told =
    subst (λ n. Meets s c.args.ram.now (native_by s (two_name n) (stack_value s.leads c.args.a ∷ stack_value s.leads c.args.b ∷ more)) c.compare.result) (sym c.in-StringCompare.is) (c.compare.ensures s more h na nb)

pub returns-in-EnumEquals : goal.returns-in-EnumEquals
returns-in-EnumEquals g c s more h na nb told =
    subst (λ n. Meets s c.args.ram.now (native_by s (two_name n) (stack_value s.leads c.args.a ∷ stack_value s.leads c.args.b ∷ more)) c.enum_equals.result) (sym c.in-EnumEquals.is) (c.enum_equals.ensures s more h na nb)

pub returns-in-InitializeArray : goal.returns-in-InitializeArray
returns-in-InitializeArray g c s more h na nb told =
    subst (λ n. Meets s c.initialize.new.ram (native_by s (two_name n) (stack_value s.leads c.args.a ∷ stack_value s.leads c.args.b ∷ more)) c.initialize.result) (sym c.in-InitializeArray.is)
    (c.initialize.ensures s more h na (subst (λ n. ValueTold s (g.S.Subclass.name c.args.types.now) (g.S.Subclass.bytes c.args.types.now) (two_name n) c.args.b) c.in-InitializeArray.is told))
