-- Whole signatures, and what they mean.
use Rattle.std.proofs.Common.{◌≡◌, ℕ, ◌+◌, ◌*◌, ◌<◌, ◌≤◌, Bool, true, false, List, [], ◌∷◌, length, drop, get_or, Option, Some, None, Result, Ok, Err, refl, sym, ap, ◌∙◌, arith}
use Rattle.std.specs.Prelude.{nat_eq, if◌then◌else◌, IfOk}
use Rattle.std.specs.Option.{option_map}
use Rattle.std.proofs.lemmas.Bool.{ne_eqb}
use Rattle.machine.specs.Throw.{on_some}
use Rattle.classes.specs.Classes.{SigType, SigPlace, Signature}
use Rattle.image_bytes.specs.Layout.{read_word, many}
use Rattle.assemblies.specs.Rows.{RawType, RawPlace, RawSignature}
use Rattle.assemblies.specs.Binding.{both_some, all_some}
use Rattle.image_form.specs.Signatures.{is_end, read_type, read_place, read_result, with_count, read_signature, whole}
use Rattle.set_signatures.specs.declared.tokens.Tokens.{Tokens}
use Rattle.set_signatures.proofs.PartLaws.{made_of, behind_it}
use Rattle.set_signatures.specs.Meant.{plain_of, type_meant, place_meant, result_meant, signature_meant, joined, then_meant, whole_of, type_told, result_told, places_told, marked_meant, field_told, method_told}

pub whole_meant : {A B : Type 0} (meant : A → Option B) (o : Option (A × List ℕ)) → whole_of (then_meant meant o) ≡ on_some (whole_of o) meant
whole_meant meant None = refl
whole_meant {A} {B} meant (Some x) = by (meant x.0) refl
  where
    ended : (y : B) (e : Bool) → meant x.0 ≡ Some y → (if e then Some y else None) ≡ on_some (if e then Some x.0 else None) meant
    ended y true f = sym f
    ended y false f = refl

    none : (e : Bool) → meant x.0 ≡ None → None ≡ on_some (if e then Some x.0 else None) meant
    none true f = sym f
    none false f = refl

    by : (m : Option B) → meant x.0 ≡ m → whole_of (option_map (behind_it {A = B} x.1) m) ≡ on_some (whole_of (Some x)) meant
    by None f = none (is_end x.1) f
    by (Some y) f = ended y (is_end x.1) f

pub ok_as : {T E : Type 0} {P Q : T → Type 0} (r : Result T E) → ((x : T) → P x → Q x) → IfOk r P → IfOk r Q
ok_as (Ok x) f p = f x p
ok_as (Err e) f p = p

module _ (t : Tokens) where
  -- ---- methods

  abbrev finished : Bool → Option SigType → Option (List SigPlace × List ℕ) → Option Signature
  finished this r o = option_map (joined this r) (whole_of o)

  abbrev signed : Bool → Option RawType → List RawPlace → RawSignature
  signed this r ps = record { has_this = this; returns = r; parameters = ps }

  abbrev params : ℕ → List ℕ → Option (List RawPlace × List ℕ)
  params n bytes = many (read_place (plain_of t)) n bytes

  none_left : (this : Bool) (r : Option (Option SigType × List ℕ)) → None ≡ on_some r (λ z. finished this z.0 None)
  none_left this None = refl
  none_left this (Some z) = refl

  after_result : (this : Bool) (x : Option RawType) (rest : List ℕ) (o : Option (List RawPlace × List ℕ))
      → on_some (whole_of (on_some o (λ ps. Some (made_of (signed this x) ps)))) (signature_meant t)
      ≡ on_some (option_map (behind_it {A = Option SigType} rest) (result_meant t x)) (λ z. finished this z.0 (then_meant (all_some (place_meant t)) o))
  after_result this x rest None = none_left this (option_map (behind_it {A = Option SigType} rest) (result_meant t x))
  after_result this x rest (Some ps) = by (result_meant t x) (all_some (place_meant t) ps.0) refl refl
    where
      ended : (e : Bool) (s : Signature) → signature_meant t (signed this x ps.0) ≡ Some s → on_some (if e then Some (signed this x ps.0) else None) (signature_meant t) ≡ (if e then Some s else None)
      ended true s f = f
      ended false s f = refl

      none : (e : Bool) → signature_meant t (signed this x ps.0) ≡ None → on_some (if e then Some (signed this x ps.0) else None) (signature_meant t) ≡ None
      none true f = f
      none false f = refl

      given : (r : Option SigType) (qs : List SigPlace) (e : Bool) → (if e then Some (joined this r qs) else None) ≡ option_map (joined this r) (if e then Some qs else None)
      given r qs true = refl
      given r qs false = refl

      whole : (r : Option (Option SigType)) (m : Option (List SigPlace)) → result_meant t x ≡ r → all_some (place_meant t) ps.0 ≡ m → signature_meant t (signed this x ps.0) ≡ both_some (joined this) r m
      whole r m f g = ap (λ q. both_some (joined this) q (all_some (place_meant t) ps.0)) f ∙ ap (both_some (joined this) r) g

      by : (r : Option (Option SigType)) (m : Option (List SigPlace)) → result_meant t x ≡ r → all_some (place_meant t) ps.0 ≡ m
          → on_some (whole_of (Some (made_of (signed this x) ps))) (signature_meant t)
          ≡ on_some (option_map (behind_it {A = Option SigType} rest) r) (λ z. finished this z.0 (option_map (behind_it {A = List SigPlace} ps.1) m))
      by None m f g = none (is_end ps.1) (whole None m f g)
      by (Some r) None f g = none (is_end ps.1) (whole (Some r) None f g)
      by (Some r) (Some qs) f g = ended (is_end ps.1) (joined this r qs) (whole (Some r) (Some qs) f g) ∙ given r qs (is_end ps.1)

  abbrev pub marked_by : Bool → ℕ → List ℕ → Option Signature
  marked_by this count rest = on_some (result_told t rest) (λ z. option_map (joined this z.0) (whole_of (places_told t count z.1)))

  two_bytes : (this : Bool) (low high : ℕ) (rest : List ℕ) → marked_by this (low + 256 * high) rest ≡ marked_meant t this (low ∷ high ∷ rest)
  unfolding result_told places_told marked_meant
  two_bytes this low high rest = by (read_result (plain_of t) rest)
    where
      same : (x : Option RawType) (after : List ℕ) (r : Option (Option SigType))
          → on_some (option_map (behind_it {A = Option SigType} after) r) (λ z. finished this z.0 (then_meant (all_some (place_meant t)) (params (low + 256 * high) z.1)))
          ≡ on_some (option_map (behind_it {A = Option SigType} after) r) (λ z. finished this z.0 (then_meant (all_some (place_meant t)) (params (low + 256 * high) after)))
      same x after None = refl
      same x after (Some r) = refl

      by : (o : Option (Option RawType × List ℕ))
          → on_some (then_meant (result_meant t) o) (λ z. finished this z.0 (then_meant (all_some (place_meant t)) (params (low + 256 * high) z.1)))
          ≡ on_some (whole_of (on_some o (λ x. on_some (params (low + 256 * high) x.1) (λ ps. Some (made_of (signed this x.0) ps))))) (signature_meant t)
      by None = refl
      by (Some x) = same x.0 x.1 (result_meant t x.0) ∙ sym (after_result this x.0 x.1 (params (low + 256 * high) x.1))

  pub marked_is : (this : Bool) (bytes : List ℕ) → 2 ≤ length bytes → marked_by this (get_or bytes 0 0 + 256 * get_or bytes 1 0) (drop 2 bytes) ≡ marked_meant t this bytes
  marked_is this [] h = absurd (omega arith)
  marked_is this (low ∷ []) h = absurd (omega arith)
  marked_is this (low ∷ high ∷ rest) h = two_bytes this low high rest

  pub marked_no_result : (this : Bool) (bytes : List ℕ) → 2 ≤ length bytes → None ≡ result_told t (drop 2 bytes) → None ≡ marked_meant t this bytes
  marked_no_result this bytes h e =
      ap (λ o. on_some o (λ z. option_map (joined this z.0) (whole_of (places_told t (get_or bytes 0 0 + 256 * get_or bytes 1 0) z.1)))) e
      ∙ marked_is this bytes h

  pub marked_with : (this : Bool) (bytes : List ℕ) (r : Option SigType) (after : List ℕ) → 2 ≤ length bytes → Some (behind_it after r) ≡ result_told t (drop 2 bytes)
      → option_map (joined this r) (whole_of (places_told t (get_or bytes 0 0 + 256 * get_or bytes 1 0) after)) ≡ marked_meant t this bytes
  marked_with this bytes r after h e =
      ap (λ o. on_some o (λ z. option_map (joined this z.0) (whole_of (places_told t (get_or bytes 0 0 + 256 * get_or bytes 1 0) z.1)))) e
      ∙ marked_is this bytes h

  pub marked_none : (this : Bool) (bytes : List ℕ) → length bytes < 2 → None ≡ marked_meant t this bytes
  unfolding marked_meant
  marked_none this [] h = refl
  marked_none this (low ∷ []) h = refl
  marked_none this (low ∷ high ∷ rest) h = absurd (omega arith)

  -- ---- whole signatures

  pub field_is : (bytes : List ℕ) → whole_of (type_told t bytes) ≡ field_told t bytes
  unfolding type_told field_told
  field_is bytes = whole_meant (type_meant t) (read_type (plain_of t) bytes)

  abbrev method_by : Bool → Bool → List ℕ → Option Signature
  method_by a b rest = on_some (whole_of (if a then on_some (read_word rest) (with_count (plain_of t) true) else (if b then on_some (read_word rest) (with_count (plain_of t) false) else None))) (signature_meant t)

  pub method_empty : (bytes : List ℕ) → length bytes < 1 → None ≡ method_told t bytes
  unfolding method_told
  method_empty [] h = refl
  method_empty (b ∷ bytes) h = absurd (omega arith)

  pub method_this : (bytes : List ℕ) → 1 ≤ length bytes → get_or bytes 0 0 ≡ 32 → marked_meant t true (drop 1 bytes) ≡ method_told t bytes
  unfolding method_told marked_meant
  method_this [] h e = absurd (omega arith)
  method_this (b ∷ rest) h e = sym (ap (λ c. on_some (whole (read_signature (plain_of t)) (c ∷ rest)) (signature_meant t)) e)

  pub method_static : (bytes : List ℕ) → 1 ≤ length bytes → get_or bytes 0 0 ≡ 0 → marked_meant t false (drop 1 bytes) ≡ method_told t bytes
  unfolding method_told marked_meant
  method_static [] h e = absurd (omega arith)
  method_static (b ∷ rest) h e = sym (ap (λ c. on_some (whole (read_signature (plain_of t)) (c ∷ rest)) (signature_meant t)) e)

  pub method_none : (bytes : List ℕ) → 1 ≤ length bytes → (get_or bytes 0 0 ≡ 32 → ⊥) → (get_or bytes 0 0 ≡ 0 → ⊥) → None ≡ method_told t bytes
  unfolding method_told
  method_none [] h f g = refl
  method_none (b ∷ rest) h f g = sym (ap (λ a. method_by a (nat_eq b 0) rest) (ne_eqb b 32 f) ∙ ap (λ a. method_by false a rest) (ne_eqb b 0 g))
