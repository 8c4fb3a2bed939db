use Rattle.std.proofs.Common.{◌∷◌, sym, subst}
use Rattle.tiny_ops.specs.Operators.{stack_value}
use Rattle.tiny_native.specs.Seen.{ValueTold}
use Rattle.tiny_native.specs.Ends.{Meets, native_by}
use Rattle.tiny_native.specs.Names.{one_name}
use Rattle.tiny_native.proofs.native.of_one.Goals as goal

pub returns-in-ArrayLength : goal.returns-in-ArrayLength
returns-in-ArrayLength g c s more h na told =
    subst (λ n. Meets s c.args.ram.now (native_by s (one_name n) (stack_value s.leads c.args.a ∷ more)) c.length.result) (sym c.in-ArrayLength.is) (c.length.ensures s more h na)

pub returns-in-StringLength : goal.returns-in-StringLength
returns-in-StringLength g c s more h na told =
    subst (λ n. Meets s c.args.ram.now (native_by s (one_name n) (stack_value s.leads c.args.a ∷ more)) c.length-in-StringLength.result) (sym c.in-StringLength.is) (c.length-in-StringLength.ensures s more h na)

pub returns-in-StringFromChar : goal.returns-in-StringFromChar
returns-in-StringFromChar g c s more h na told =
    subst (λ n. Meets s c.from_char.new.ram (native_by s (one_name n) (stack_value s.leads c.args.a ∷ more)) c.from_char.result) (sym c.in-StringFromChar.is) (c.from_char.ensures s more h)

pub returns-in-NumberSigned : goal.returns-in-NumberSigned
returns-in-NumberSigned g c s more h na told =
    subst (λ n. Meets s c.signed.new.ram (native_by s (one_name n) (stack_value s.leads c.args.a ∷ more)) c.signed.result) (sym c.in-NumberSigned.is) (c.signed.ensures s more h)

pub returns-in-NumberUnsigned : goal.returns-in-NumberUnsigned
returns-in-NumberUnsigned g c s more h na told =
    subst (λ n. Meets s c.unsigned.new.ram (native_by s (one_name n) (stack_value s.leads c.args.a ∷ more)) c.unsigned.result) (sym c.in-NumberUnsigned.is) (c.unsigned.ensures s more h)

pub returns-in-DebugPrint : goal.returns-in-DebugPrint
returns-in-DebugPrint g c s more h na told =
    subst (λ n. Meets s c.args.ram.now (native_by s (one_name n) (stack_value s.leads c.args.a ∷ more)) c.print.result) (sym c.in-DebugPrint.is) (c.print.ensures s more h na)

pub returns-in-EnumToString : goal.returns-in-EnumToString
returns-in-EnumToString g c s more h na told =
    subst (λ n. Meets s c.enum_to_string.new.ram (native_by s (one_name n) (stack_value s.leads c.args.a ∷ more)) c.enum_to_string.result) (sym c.in-EnumToString.is) (c.enum_to_string.ensures s more h na)

pub returns-in-ObjectToString : goal.returns-in-ObjectToString
returns-in-ObjectToString g c s more h na told =
    subst (λ n. Meets s c.to_string.new.ram (native_by s (one_name n) (stack_value s.leads c.args.a ∷ more)) c.to_string.result) (sym c.in-ObjectToString.is)
    (c.to_string.ensures s more h na (subst (λ n. ValueTold s (g.S.Subclass.name c.args.types.now) (g.S.Subclass.bytes c.args.types.now) (one_name n) c.args.a) c.in-ObjectToString.is told))
