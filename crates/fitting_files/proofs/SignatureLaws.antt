-- Signatures have no more parameters and locals than two bytes count (II.23.2.1, II.23.2.6).
use Rattle.std.proofs.Common.{◌≡◌, ℕ, zero, suc, ◌≤◌, Bool, true, false, List, [], ◌∷◌, length, Ok, Err, refl, ap, subst, arith}
use Rattle.std.specs.Prelude.{◌==◌, if◌then◌else◌}
use Rattle.std.proofs.lemmas.List.{length-map}
use Rattle.file_tables.specs.Metadata.{MetadataPart, column_of}
use Rattle.cil_sig.specs.declared.elements.TheConstants.{LOCALS}
use Rattle.cil_sig.specs.declared.sig.SigType.{SigType}
use Rattle.cil_sig.specs.declared.sig.MethodSig.{MethodSig}
use Rattle.cil_sig.specs.declared.reading.Slot.{Slot}
use Rattle.cil_sig.specs.declared.reading.Slot.TheVariants.{Parameter, Local}
use Rattle.cil_sig.specs.Reading.{◌>>=◌, Part, count_at, slot_at, slots_at, result_at, this_at, behind, alone, whole_locals, whole_method}
use Rattle.cil_sig.proofs.Numbers.{bind_ok, ok_is, count_takes}
use Rattle.world_rows.specs.Signatures.{raw_type, raw_place, signature_from, locals_from, method_signature, locals_signature}
use Rattle.world_rows.specs.Tokens.{number_of, locals_signatures, bytes_at}
use Rattle.world_rows.specs.Lines.{locals_of}
use Rattle.fitting_parts.specs.Small.{IsSmall}

-- as many types as are counted
as_counted : (slot : Slot) (n : ℕ) (bytes : List ℕ) (x : List SigType × List ℕ) → slots_at slot n bytes ≡ Ok x → length x.0 ≡ n
unfolding slots_at
as_counted slot zero bytes x e = subst (λ (y : List SigType × List ℕ). length y.0 ≡ 0) (ok_is ([], bytes) x e) refl
as_counted slot (suc n) bytes x e =
    let first = bind_ok (slot_at slot bytes) (λ first. slots_at slot n first.1 >>= λ others. Ok (first.0 ∷ others.0, others.1)) x e in
    let others = bind_ok (slots_at slot n first.0.1) (λ others. Ok (first.0.0 ∷ others.0, others.1)) x first.2 in
    subst (λ (y : List SigType × List ℕ). length y.0 ≡ suc n) (ok_is (first.0.0 ∷ others.0.0, others.0.1) x others.2) (ap suc (as_counted slot n first.0.1 others.0 others.1))

alone_is : {X : Type 0} (x y : X) (rest : List ℕ) → alone x rest ≡ Ok y → x ≡ y
alone_is x y [] e = ok_is x y e
alone_is x y (b ∷ rest) e = absurd (cc e)

counted_small : (bytes : List ℕ) (count : ℕ × List ℕ) (n : ℕ) → count_at bytes ≡ Ok count → n ≡ count.0 → IsSmall n
counted_small bytes count n e same =
    let most : count.0 ≤ 65535 = (count_takes bytes count e).is.1 in
    omega (arith, most, same)

few_parameters : (blob : List ℕ) (s : MethodSig) → whole_method blob ≡ Ok s → IsSmall (length s.params)
unfolding whole_method
few_parameters blob s e =
    let this = bind_ok (this_at blob) _ s e in
    let count = bind_ok (count_at this.0.1) _ s this.2 in
    let returns = bind_ok (result_at count.0.1) _ s count.2 in
    let params = bind_ok (slots_at Parameter count.0.0 returns.0.1) _ s returns.2 in
    let made = alone_is (record { this = this.0.0; returns = returns.0.0; params = params.0.0 }) s params.0.1 params.2 in
    let same : length params.0.0 ≡ length s.params = ap (λ (z : MethodSig). length z.params) made in
    let all = as_counted Parameter count.0.0 returns.0.1 params.0 params.1 in
    counted_small this.0.1 count.0 (length s.params) count.1 (omega (arith, same, all))

few_locals : (blob : List ℕ) (ss : List SigType) → whole_locals blob ≡ Ok ss → IsSmall (length ss)
unfolding whole_locals
few_locals blob ss e =
    let rest = bind_ok (behind LOCALS blob) _ ss e in
    let count = bind_ok (count_at rest.0) _ ss rest.2 in
    let locals = bind_ok (slots_at Local count.0.0 count.0.1) _ ss count.2 in
    let same : length locals.0.0 ≡ length ss = ap (λ (z : List SigType). length z) (alone_is locals.0.0 ss locals.0.1 locals.2) in
    let all = as_counted Local count.0.0 count.0.1 locals.0 locals.1 in
    counted_small rest.0 count.0 (length ss) count.1 (omega (arith, same, all))

pub parameters_small : (m : MetadataPart) (blob : List ℕ) → IsSmall (length (method_signature m blob).parameters)
unfolding method_signature
parameters_small m blob = by (whole_method blob) refl
  where
    by : (r : Part MethodSig) → whole_method blob ≡ r → IsSmall (length (signature_from m r).parameters)
    by (Ok s) e =
        let few = few_parameters blob s e in
        let same = length-map s.params (raw_place m) in
        omega (arith, few, same)
    by (Err left) e = omega arith

pub locals_small : (m : MetadataPart) (blob : List ℕ) → IsSmall (length (locals_signature m blob))
unfolding locals_signature
locals_small m blob = by (whole_locals blob) refl
  where
    by : (r : Part (List SigType)) → whole_locals blob ≡ r → IsSmall (length (locals_from m r))
    by (Ok ss) e =
        let few = few_locals blob ss e in
        let same = length-map ss (raw_type m) in
        omega (arith, few, same)
    by (Err left) e = omega arith

-- of a body; none where it has no locals' token
pub body_locals_small : (m : MetadataPart) (token : ℕ) → IsSmall (length (locals_of m token))
body_locals_small m token = by (token == 0)
  where
    by : (c : Bool) → IsSmall (length (if c then [] else locals_signature m (bytes_at m (column_of m locals_signatures (number_of token) 0))))
    by true = omega arith
    by false = locals_small m _
