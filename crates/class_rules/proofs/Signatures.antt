-- Equal signatures are one.
use Rattle.std.proofs.Common.{◌≡◌, Bool, true, false, ◌&&◌, List, [], ◌∷◌, Option, Some, None, refl, sym, ap, ◌∙◌}
use Rattle.std.proofs.lemmas.Bool.{and_parts}
use Rattle.plain_types.specs.declared.elem.Elem.{Elem}
use Rattle.machine.specs.Data.{Basic, CliType}
use Rattle.machine_typed.proofs.Types.{id_same, type_same}
use Rattle.classes.specs.Classes.{SigType, Spelt, ClassToken, ValueToken, ArraySig, SigPlace, Direct, ByRef, Signature}
use Rattle.classes.specs.Queries.{sig_type_eq, sig_place_eq, sig_places_eq, result_eq, flag_eq, signature_eq, method_signature_eq}

elem_of : CliType → Option Elem
elem_of (Basic e) = Some e
elem_of _ = None

pub sig_same : (a b : SigType) → sig_type_eq a b ≡ true → a ≡ b
unfolding elem_of
sig_same (Spelt e) (Spelt g) h = let same : Basic e ≡ Basic g = type_same (Basic e) (Basic g) h in let both : Some e ≡ Some g = ap elem_of same in ap Spelt (let one : e ≡ g = cc both in one)
sig_same (ClassToken c) (ClassToken d) h = ap ClassToken (id_same c d h)
sig_same (ValueToken c) (ValueToken d) h = ap ValueToken (id_same c d h)
sig_same (ArraySig a) (ArraySig b) h = ap ArraySig (sig_same a b h)
sig_same (Spelt e) _ h = absurd (cc h)
sig_same (ClassToken c) _ h = absurd (cc h)
sig_same (ValueToken c) _ h = absurd (cc h)
sig_same (ArraySig a) _ h = absurd (cc h)

pub place_same : (a b : SigPlace) → sig_place_eq a b ≡ true → a ≡ b
place_same (Direct s) (Direct t) h = ap Direct (sig_same s t h)
place_same (ByRef s) (ByRef t) h = ap ByRef (sig_same s t h)
place_same (Direct s) (ByRef t) h = absurd (cc h)
place_same (ByRef s) (Direct t) h = absurd (cc h)

pub places_same : (a b : List SigPlace) → sig_places_eq a b ≡ true → a ≡ b
places_same [] [] h = refl
places_same (p ∷ ps) (q ∷ qs) h =
    let both = and_parts (sig_place_eq p q) (sig_places_eq ps qs) h in
    ap (λ z. z ∷ ps) (place_same p q both.0) ∙ ap (λ z. q ∷ z) (places_same ps qs both.1)
places_same [] (q ∷ qs) h = absurd (cc h)
places_same (p ∷ ps) [] h = absurd (cc h)

result_same : (a b : Option SigType) → result_eq a b ≡ true → a ≡ b
result_same None None h = refl
result_same (Some s) (Some t) h = ap Some (sig_same s t h)
result_same None (Some t) h = absurd (cc h)
result_same (Some s) None h = absurd (cc h)

flag_same : (a b : Bool) → flag_eq a b ≡ true → a ≡ b
flag_same true b h = sym h
flag_same false true h = absurd (cc h)
flag_same false false h = refl

pub signature_same : (a b : Signature) → signature_eq a b ≡ true → a ≡ b
signature_same a b h =
    let p = and_parts (flag_eq a.has_this b.has_this) (result_eq a.returns b.returns && sig_places_eq a.parameters b.parameters) h in
    let q = and_parts (result_eq a.returns b.returns) (sig_places_eq a.parameters b.parameters) p.1 in
    let make : Bool → Option SigType → List SigPlace → Signature = λ x y z. record { has_this = x; returns = y; parameters = z } in
    ap (λ x. make x a.returns a.parameters) (flag_same a.has_this b.has_this p.0) ∙ (ap (λ y. make b.has_this y a.parameters) (result_same a.returns b.returns q.0) ∙ ap (make b.has_this b.returns) (places_same a.parameters b.parameters q.1))

pub method_signature_same : (a b : Option Signature) → method_signature_eq a b ≡ true → (s : Signature) × (a ≡ Some s) × (b ≡ Some s)
method_signature_same (Some s) (Some t) h = (s, refl, ap Some (sym (signature_same s t h)))
method_signature_same None b h = absurd (cc h)
method_signature_same (Some s) None h = absurd (cc h)
