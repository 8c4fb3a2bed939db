-- What rules say of a type inside of arrays.
use Rattle.std.proofs.Common.{◌≡◌, ◌∙◌, ℕ, zero, suc, Bool, true, false, List, [], ◌∷◌, map, refl, sym, ap}
use Rattle.std.specs.Prelude.{◌||◌, ◌&&◌, nat_eq, if◌then◌else◌}
use Rattle.std.specs.List.{list_all}
use Rattle.std.specs.Option.{option_map}
use Rattle.machine.specs.Data.{Id}
use Rattle.classes.specs.Classes.{Classes, SigType, Direct, ByRef}
use Rattle.member_keys.specs.declared.keys.PlaceKey.{PlaceKey}
use Rattle.member_keys.specs.declared.keys.SignatureKey.{SignatureKey}
use Rattle.member_keys.specs.Seen.{arrays, type_seen, place_seen, signature_seen}
use Rattle.class_rules.specs.Rules.{sig_fits, data_sig_fits, is_handle, result_fits, sig_of_place, signature_fits}
use Rattle.class_checks.specs.Parameters.{place_fits}

module _ (cs : Classes) where
  pub inside_fits : (n : ℕ) (s : SigType) → sig_fits cs (arrays n s) ≡ sig_fits cs s
  inside_fits zero s = refl
  inside_fits (suc n) s = inside_fits n s

  pub inside_data_fits : (n : ℕ) (s : SigType) → data_sig_fits cs (arrays n s) ≡ data_sig_fits cs s
  inside_data_fits zero s = refl
  inside_data_fits (suc n) s = inside_data_fits n s

  pub inside_is_handle : (n : ℕ) (s : SigType) → is_handle cs (arrays n s) ≡ is_handle cs s
  inside_is_handle zero s = refl
  inside_is_handle (suc n) s = inside_is_handle n s

by_flag : (b : Bool) (s : SigType) → sig_of_place (if b then ByRef s else Direct s) ≡ s
by_flag true s = refl
by_flag false s = refl

pub inside_place : (p : PlaceKey) → sig_of_place (place_seen p) ≡ type_seen p.of
inside_place p = by_flag p.by_ref (type_seen p.of)

places_told : (cs : Classes) (c : Id) (ps : List PlaceKey) → list_all (λ p. sig_fits cs (sig_of_place p) || (nat_eq c.file 0 && is_handle cs (sig_of_place p))) (map place_seen ps) ≡ list_all (place_fits cs c.file) ps
unfolding place_fits
places_told cs c [] = refl
places_told cs c (p ∷ ps) = ap (λ b. (sig_fits cs (sig_of_place (place_seen p)) || (nat_eq c.file 0 && is_handle cs (sig_of_place (place_seen p)))) && b) (places_told cs c ps)

-- where the result fits, the parameters decide
pub signature_told : (cs : Classes) (c : Id) (s : SignatureKey) (r : Bool) → r ≡ true → r ≡ result_fits cs (option_map type_seen s.returns) → list_all (place_fits cs c.file) s.parameters.items ≡ signature_fits cs c (signature_seen s)
signature_told cs c s r fits told =
    sym
    (ap (λ b. b && list_all (λ p. sig_fits cs (sig_of_place p) || (nat_eq c.file 0 && is_handle cs (sig_of_place p))) (map place_seen s.parameters.items)) (sym told ∙ fits)
    ∙ places_told cs c s.parameters.items)
