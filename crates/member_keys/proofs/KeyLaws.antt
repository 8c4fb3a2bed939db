-- The order of keys tells which members have one name and one signature.
use Rattle.std.proofs.Common.{◌≡◌, ℕ, zero, suc, Bool, true, false, ◌&&◌, List, [], ◌∷◌, map, Option, Some, None, refl, sym, ap, ◌∙◌}
use denote.Enum.Declared.{tag_of}
use lib.Dec.{eqb-zero-suc, eqb-suc-zero, eqb-suc-suc}
use Rattle.std.specs.Prelude.{◌==◌}
use Rattle.std.specs.Option.{option_map, option_cmp}
use Rattle.std.specs.Ordering.{nat_cmp, eq_by_cmp, is_eq, ordering_then}
use Rattle.std.specs.declared.cmp.Ordering.{Ordering}
use Rattle.std.specs.declared.cmp.Ordering.TheVariants.{Less, Equal, Greater}
use Rattle.std.specs.Cmp.{unsigned_tied, eq_by_cmp_equiv}
use Rattle.std.specs.Cmp.Lexicographic.{slice_cmp}
use Rattle.std.specs.Str.{bytes_eq}
use Rattle.std.specs.BTreeMap.{BTreeMap}
use Rattle.std.proofs.lemmas.Map.Text.{is_eq-slice_cmp}
use Rattle.plain_types.specs.declared.elem.Elem.{Elem}
use Rattle.plain_types.specs.declared.elem.Elem.TheVariants as elem
use Rattle.plain_types.specs.contracts.elem.Elem.{the_type}
use Rattle.plain_types.specs.contracts.elem.ElemOrd.TheImpl as elem_ord
use Rattle.plain_types.specs.contracts.elem.ElemOrd.TheImpl.Laws as elem_laws
use Rattle.machine.specs.Data.{id_eq, elem_number}
use Rattle.machine.specs.Texts.{same_text}
use Rattle.classes.specs.Queries.{sig_type_eq, sig_place_eq, sig_places_eq, result_eq, signature_eq, method_signature_eq}
use Rattle.first_places.specs.Places.{FindsFirst}
use Rattle.first_places.proofs.PlaceLaws.{position_same}
use Rattle.member_keys.specs.declared.keys.ClassId.{ClassId}
use Rattle.member_keys.specs.declared.keys.ElementKey.{ElementKey}
use Rattle.member_keys.specs.declared.keys.ElementKey.TheVariants.{Spelt, Class, Value}
use Rattle.member_keys.specs.declared.keys.TypeKey.{TypeKey}
use Rattle.member_keys.specs.declared.keys.PlaceKey.{PlaceKey}
use Rattle.member_keys.specs.declared.keys.SignatureKey.{SignatureKey}
use Rattle.member_keys.specs.declared.keys.MemberKey.{MemberKey}
use Rattle.member_keys.specs.contracts.keys.ClassIdOrd.TheImpl as class_ord
use Rattle.member_keys.specs.contracts.keys.ClassIdOrd.TheImpl.Laws as class_laws
use Rattle.member_keys.specs.contracts.keys.ClassIdPartialEq.TheImpl as class_eq
use Rattle.member_keys.specs.contracts.keys.ElementKeyOrd.TheImpl as element_ord
use Rattle.member_keys.specs.contracts.keys.TypeKeyOrd.TheImpl as type_ord
use Rattle.member_keys.specs.contracts.keys.PlaceKeyOrd.TheImpl as place_ord
use Rattle.member_keys.specs.contracts.keys.SignatureKeyOrd.TheImpl as signature_ord
use Rattle.member_keys.specs.contracts.keys.SignatureKeyOrd.TheImpl.Laws as signature_laws
use Rattle.member_keys.specs.contracts.keys.SignatureKeyPartialEq.TheImpl as signature_eq_impl
use Rattle.member_keys.specs.contracts.keys.MemberKeyOrd.TheImpl.Laws as member_laws
use Rattle.member_keys.specs.Seen.{class_seen, element_seen, arrays, type_seen, place_seen, signature_seen, is_member, member_order, FindsMembers}

abbrev elem_order : Elem → Elem → Ordering
elem_order = (elem_ord.ghosts).cmp

abbrev class_order : ClassId → ClassId → Ordering
class_order = (class_ord.ghosts).cmp

abbrev element_order : ElementKey → ElementKey → Ordering
element_order = (element_ord.ghosts).cmp

abbrev type_order : TypeKey → TypeKey → Ordering
type_order = (type_ord.ghosts).cmp

abbrev place_order : PlaceKey → PlaceKey → Ordering
place_order = (place_ord.ghosts).cmp

abbrev signature_order : SignatureKey → SignatureKey → Ordering
signature_order = (signature_ord.ghosts).cmp

then_equal : (a b : Ordering) → is_eq (ordering_then a b) ≡ (is_eq a && is_eq b)
then_equal Less b = refl
then_equal Equal b = refl
then_equal Greater b = refl

both : (a a' b b' : Bool) → a ≡ a' → b ≡ b' → (a && b) ≡ (a' && b')
both a a' b b' e f = ap (λ c. c && b) e ∙ ap (λ c. a' && c) f

-- two parts that are told one after the other
pair : (r t : Ordering) (a b : Bool) → is_eq r ≡ a → is_eq t ≡ b → is_eq (ordering_then r t) ≡ (a && b)
pair r t a b e f = then_equal r t ∙ both (is_eq r) a (is_eq t) b e f

pub same_bytes : (xs ys : List ℕ) → bytes_eq xs ys ≡ same_text xs ys
same_bytes [] [] = refl
same_bytes [] (y ∷ ys) = refl
same_bytes (x ∷ xs) [] = refl
same_bytes (x ∷ xs) (y ∷ ys) = ap (λ b. (x == y) && b) (same_bytes xs ys)

text_equal : (xs ys : List ℕ) → is_eq (slice_cmp nat_cmp xs ys) ≡ same_text xs ys
text_equal xs ys = is_eq-slice_cmp xs ys ∙ same_bytes xs ys

number_is : (e : Elem) → tag_of the_type e ≡ elem_number e
number_is elem.Void = refl
number_is elem.Bool = refl
number_is elem.Char = refl
number_is elem.I1 = refl
number_is elem.U1 = refl
number_is elem.I2 = refl
number_is elem.U2 = refl
number_is elem.I4 = refl
number_is elem.U4 = refl
number_is elem.I8 = refl
number_is elem.U8 = refl
number_is elem.String = refl
number_is elem.Object = refl
number_is elem.Class = refl
number_is elem.Value = refl

elem_equal : (e g : Elem) → is_eq (elem_order e g) ≡ (elem_number e == elem_number g)
elem_equal e g = sym (elem_laws.matches_eq-law e g) ∙ ap (λ n. n == tag_of the_type g) (number_is e) ∙ ap (λ n. elem_number e == n) (number_is g)

class_equal : (a b : ClassId) → is_eq (class_order a b) ≡ id_eq (class_seen a) (class_seen b)
class_equal a b = pair (nat_cmp a.file b.file) (nat_cmp a.row b.row) _ _ (unsigned_tied a.file b.file) (unsigned_tied a.row b.row)

element_equal : (a b : ElementKey) → is_eq (element_order a b) ≡ sig_type_eq (element_seen a) (element_seen b)
element_equal (Spelt e) (Spelt g) = elem_equal e g
element_equal (Spelt e) (Class d) = refl
element_equal (Spelt e) (Value d) = refl
element_equal (Class c) (Spelt g) = refl
element_equal (Class c) (Class d) = class_equal c d
element_equal (Class c) (Value d) = refl
element_equal (Value c) (Spelt g) = refl
element_equal (Value c) (Class d) = refl
element_equal (Value c) (Value d) = class_equal c d

-- as many brackets round one element
in_arrays : (n k : ℕ) (a b : ElementKey) → sig_type_eq (arrays n (element_seen a)) (arrays k (element_seen b)) ≡ ((n == k) && sig_type_eq (element_seen a) (element_seen b))
in_arrays zero zero a b = refl
in_arrays zero (suc k) (Spelt e) b = sym (ap (λ t. t && sig_type_eq (element_seen (Spelt e)) (element_seen b)) (eqb-zero-suc k))
in_arrays zero (suc k) (Class c) b = sym (ap (λ t. t && sig_type_eq (element_seen (Class c)) (element_seen b)) (eqb-zero-suc k))
in_arrays zero (suc k) (Value c) b = sym (ap (λ t. t && sig_type_eq (element_seen (Value c)) (element_seen b)) (eqb-zero-suc k))
in_arrays (suc n) zero a (Spelt e) = sym (ap (λ t. t && sig_type_eq (element_seen a) (element_seen (Spelt e))) (eqb-suc-zero n))
in_arrays (suc n) zero a (Class c) = sym (ap (λ t. t && sig_type_eq (element_seen a) (element_seen (Class c))) (eqb-suc-zero n))
in_arrays (suc n) zero a (Value c) = sym (ap (λ t. t && sig_type_eq (element_seen a) (element_seen (Value c))) (eqb-suc-zero n))
in_arrays (suc n) (suc k) a b = in_arrays n k a b ∙ sym (ap (λ t. t && sig_type_eq (element_seen a) (element_seen b)) (eqb-suc-suc n k))

type_equal : (a b : TypeKey) → is_eq (type_order a b) ≡ sig_type_eq (type_seen a) (type_seen b)
type_equal a b = pair (nat_cmp a.ranks b.ranks) (element_order a.element b.element) _ _ (unsigned_tied a.ranks b.ranks) (element_equal a.element b.element) ∙ sym (in_arrays a.ranks b.ranks a.element b.element)

by_ref_equal : (x y : Bool) (a b : TypeKey) → is_eq (place_order (record { by_ref = x; of = a }) (record { by_ref = y; of = b })) ≡ sig_place_eq (place_seen (record { by_ref = x; of = a })) (place_seen (record { by_ref = y; of = b }))
by_ref_equal false false a b = type_equal a b
by_ref_equal false true a b = refl
by_ref_equal true false a b = refl
by_ref_equal true true a b = type_equal a b

place_equal : (a b : PlaceKey) → is_eq (place_order a b) ≡ sig_place_eq (place_seen a) (place_seen b)
place_equal a b = by_ref_equal a.by_ref b.by_ref a.of b.of

places_equal : (ps qs : List PlaceKey) → is_eq (slice_cmp place_order ps qs) ≡ sig_places_eq (map place_seen ps) (map place_seen qs)
places_equal [] [] = refl
places_equal [] (q ∷ qs) = refl
places_equal (p ∷ ps) [] = refl
places_equal (p ∷ ps) (q ∷ qs) = pair (place_order p q) (slice_cmp place_order ps qs) _ _ (place_equal p q) (places_equal ps qs)

result_equal : (a b : Option TypeKey) → is_eq (option_cmp type_order a b) ≡ result_eq (option_map type_seen a) (option_map type_seen b)
result_equal None None = refl
result_equal None (Some b) = refl
result_equal (Some a) None = refl
result_equal (Some a) (Some b) = type_equal a b

-- behind the flag of `this`
behind_equal : (a b : SignatureKey) → is_eq (ordering_then (option_cmp type_order a.returns b.returns) (slice_cmp place_order a.parameters.items b.parameters.items)) ≡ (result_eq (option_map type_seen a.returns) (option_map type_seen b.returns) && sig_places_eq (map place_seen a.parameters.items) (map place_seen b.parameters.items))
behind_equal a b = pair (option_cmp type_order a.returns b.returns) (slice_cmp place_order a.parameters.items b.parameters.items) _ _ (result_equal a.returns b.returns) (places_equal a.parameters.items b.parameters.items)

abbrev with_this : Bool → SignatureKey → SignatureKey
with_this x a = record { has_this = x; returns = a.returns; parameters = a.parameters }

this_equal : (x y : Bool) (a b : SignatureKey) → is_eq (signature_order (with_this x a) (with_this y b)) ≡ signature_eq (signature_seen (with_this x a)) (signature_seen (with_this y b))
this_equal false false a b = behind_equal a b
this_equal false true a b = refl
this_equal true false a b = refl
this_equal true true a b = behind_equal a b

signature_equal : (a b : SignatureKey) → is_eq (signature_order a b) ≡ signature_eq (signature_seen a) (signature_seen b)
signature_equal a b = this_equal a.has_this b.has_this a b

member_equal : (wanted k : MemberKey) (s : SignatureKey) → wanted.signature ≡ Some s → eq_by_cmp member_order wanted k ≡ is_member wanted.name.now (Some (signature_seen s)) k
member_equal wanted k s e =
    (eq_by_cmp_equiv member_laws.total-law).symm wanted k
    ∙ pair (slice_cmp nat_cmp k.name.now wanted.name.now) (option_cmp signature_order k.signature wanted.signature) _ _ (text_equal k.name.now wanted.name.now)
    (ap (λ o. is_eq (option_cmp signature_order k.signature o)) e ∙ signatures k.signature)
  where
    signatures : (o : Option SignatureKey) → is_eq (option_cmp signature_order o (Some s)) ≡ method_signature_eq (option_map signature_seen o) (Some (signature_seen s))
    signatures None = refl
    signatures (Some t) = signature_equal t s

pub members_found : (keys : List MemberKey) (places : BTreeMap MemberKey ℕ) → FindsFirst member_order keys places → FindsMembers keys places
members_found keys places finds wanted s e = finds wanted ∙ position_same (eq_by_cmp member_order wanted) (is_member wanted.name.now (Some (signature_seen s))) (λ k. member_equal wanted k s e) keys

-- ---- what `==` tells

pub same_class : (a b : ClassId) → (class_eq.ghosts).eq a b ≡ id_eq (class_seen a) (class_seen b)
same_class a b = class_laws.matches_eq-law a b ∙ class_equal a b

pub same_signature : (a b : SignatureKey) → (signature_eq_impl.ghosts).eq a b ≡ signature_eq (signature_seen a) (signature_seen b)
same_signature a b = signature_laws.matches_eq-law a b ∙ signature_equal a b
