-- What a method in a class keeps is what its flags and its name do.
use Rattle.std.proofs.Common.{◌≡◌, Bool, true, false, refl, sym}
use Rattle.std.specs.Prelude.{◌&&◌, not}
use Rattle.machine.specs.Data.{Id}
use Rattle.machine_typed.specs.Typing.{has_body}
use Rattle.classes.specs.Classes.{Class, Classes, OwnMethod}
use Rattle.classes.specs.Queries.{flag_eq}
use Rattle.class_rules.specs.Rules.{is_user, only_if, is_native, method_stands_well}
use Rattle.class_checks.specs.Bodies.{flags_fit, name_fits}

joined : (a b c d e n : Bool) → ((a && (b && (c && (d && e)))) && n) ≡ (a && (b && (c && (d && (e && n)))))
joined true true true true e n = refl
joined true true true false e n = refl
joined true true false d e n = refl
joined true false c d e n = refl
joined false b c d e n = refl

pub whole_method : (cs : Classes) (c : Id) (k : Class) (m : OwnMethod) → method_stands_well cs c k m ≡ (flags_fit c k m && name_fits cs c k m)
whole_method cs c k m = sym (joined (not (is_user c && is_native m.body)) (not (m.is_static && m.is_virtual)) (only_if m.is_abstract m.is_virtual) (only_if m.is_abstract k.is_abstract) (flag_eq (has_body m.body) (not m.is_abstract)) (name_fits cs c k m))
