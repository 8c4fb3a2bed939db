-- What the rules on methods give.
use Rattle.std.proofs.Common.{◌≡◌, ℕ, Bool, true, false, Some, refl, sym}
use Rattle.std.specs.Prelude.{◌&&◌, not, slice_get}
use Rattle.std.specs.List.{list_all}
use Rattle.std.proofs.lemmas.Bool.{and_parts}
use Rattle.machine.specs.Data.{Id}
use Rattle.machine_typed.specs.Typing.{has_body}
use Rattle.classes.specs.Classes.{Class, Classes, OwnMethod}
use Rattle.classes.specs.Listed.{is_constructor}
use Rattle.classes.specs.Queries.{flag_eq}
use Rattle.class_rules.specs.Rules.{only_if, is_user, is_native, is_initialiser_name, constructor_fits, initialiser_fits, method_stands_well}
use Rattle.class_rules.proofs.Ways.{all_at}
use Rattle.class_targets.specs.Bodied.{AreBodied}

flags_same : (a b : Bool) → flag_eq a b ≡ true → a ≡ b
flags_same true b e = sym e
flags_same false true e = absurd (cc e)
flags_same false false e = refl

-- where each method stands well in its class (rule 29), it has a body unless it is abstract
pub bodied_kept : (cs : Classes) → ((c : Id) (k : Class) → cs.class c ≡ Some k → list_all (method_stands_well cs c k) k.methods ≡ true) → AreBodied cs
bodied_kept cs kept c k i x e at =
    let stands = all_at (method_stands_well cs c k) k.methods i x (kept c k e) at in
    let library = not (is_user c && is_native x.body) in
    let apart = not (x.is_static && x.is_virtual) in
    let virtual = only_if x.is_abstract x.is_virtual in
    let class = only_if x.is_abstract k.is_abstract in
    let body = flag_eq (has_body x.body) (not x.is_abstract) in
    let names = only_if (is_constructor x) (constructor_fits cs c k x) && only_if (is_initialiser_name x) (initialiser_fits x) in
    let one = (and_parts library (apart && (virtual && (class && (body && names)))) stands).1 in
    let two = (and_parts apart (virtual && (class && (body && names))) one).1 in
    let three = (and_parts virtual (class && (body && names)) two).1 in
    let four = (and_parts class (body && names) three).1 in
    flags_same (has_body x.body) (not x.is_abstract) (and_parts body names four).0
