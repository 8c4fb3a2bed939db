-- A signature whose classes resolve has a meaning.
use Rattle.std.proofs.Common.{◌≡◌, ℕ, List, [], ◌∷◌, Option, Some, None, refl, ap, ◌∙◌}
use Rattle.std.specs.Option.{option_map}
use Rattle.classes.specs.Classes.{SigType, Spelt, ClassToken, ValueToken, ArraySig, SigPlace, Direct, ByRef, Signature}
use Rattle.assemblies.specs.Rows.{RawType, RawSpelt, RawClass, RawValue, RawArray, RawPlace, RawDirect, RawByRef, RawSignature, Assembly}
use Rattle.assemblies.specs.Binding.{both_some, all_some, expanded, expanded_place, expanded_result, expanded_signature}
use Rattle.assemblies.specs.Closed.{Each}
use Rattle.kept_closure.specs.Named.{InOption, InType, InPlace, InSignature}
use Rattle.kept_closure.specs.Kept.{NamesClass}

module _ (size : ℕ) (ps : List Assembly) (f : ℕ) where
  type_expands : (s : RawType) → InType (NamesClass size ps f) s → (x : SigType) × (expanded size ps f s ≡ Some x)
  type_expands (RawSpelt e) r = (Spelt e, refl)
  type_expands (RawClass t) r = (ClassToken r.0, ap (option_map ClassToken) r.1)
  type_expands (RawValue t) r = (ValueToken r.0, ap (option_map ValueToken) r.1)
  type_expands (RawArray s) r = let w = type_expands s r in (ArraySig w.0, ap (option_map ArraySig) w.1)

  place_expands : (s : RawPlace) → InPlace (NamesClass size ps f) s → (x : SigPlace) × (expanded_place size ps f s ≡ Some x)
  place_expands (RawDirect s) r = let w = type_expands s r in (Direct w.0, ap (option_map Direct) w.1)
  place_expands (RawByRef s) r = let w = type_expands s r in (ByRef w.0, ap (option_map ByRef) w.1)

  result_expands : (s : Option RawType) → InOption (InType (NamesClass size ps f)) s → (x : Option SigType) × (expanded_result size ps f s ≡ Some x)
  result_expands None r = (None, refl)
  result_expands (Some s) r = let w = type_expands s r in (Some w.0, ap (option_map Some) w.1)

  places_expand : (ss : List RawPlace) → Each (InPlace (NamesClass size ps f)) ss → (xs : List SigPlace) × (all_some (expanded_place size ps f) ss ≡ Some xs)
  places_expand [] r = ([], refl)
  places_expand (s ∷ ss) r =
      let w = place_expands s r.0 in
      let v = places_expand ss r.1 in
      let join : SigPlace → List SigPlace → List SigPlace = λ y ys. y ∷ ys in
      (w.0 ∷ v.0, ap (λ o. both_some join o (all_some (expanded_place size ps f) ss)) w.1 ∙ ap (both_some join (Some w.0)) v.1)

  pub signature_expands : (s : RawSignature) → InSignature (NamesClass size ps f) s → (x : Signature) × (expanded_signature size ps f s ≡ Some x)
  signature_expands s r =
      let w = result_expands s.returns r.0 in
      let v = places_expand s.parameters r.1 in
      let make : Option SigType → List SigPlace → Signature = λ x y. record { has_this = s.has_this; returns = x; parameters = y } in
      (make w.0 v.0, ap (λ o. both_some make o (all_some (expanded_place size ps f) s.parameters)) w.1 ∙ ap (both_some make (Some w.0)) v.1)
