-- Signatures of a choice are those of all.
use Rattle.std.proofs.Common.{◌≡◌, ℕ, ◌≤◌, ◌<◌, true, List, [], ◌∷◌, map, Option, Some, None, refl, sym, ap, ◌∙◌, subst}
use Rattle.std.specs.Prelude.{slice_get}
use Rattle.std.specs.Option.{option_map}
use Rattle.std.specs.List.{filter_map, cons_option}
use Rattle.machine.specs.Data.{Id}
use Rattle.machine_rename.specs.Rename.{Renaming}
use Rattle.classes.specs.Classes.{SigType, ClassToken, ValueToken, ArraySig, SigPlace, Direct, ByRef, Signature}
use Rattle.alike.specs.Carry as carry
use Rattle.assemblies.specs.Rows.{TypeToken, RawType, RawSpelt, RawClass, RawValue, RawArray, RawPlace, RawDirect, RawByRef, RawSignature, TypeRow, Assembly}
use Rattle.assemblies.specs.Binding.{id_at, resolve, both_some, all_some, expanded, expanded_place, expanded_result, expanded_signature}
use Rattle.assemblies.specs.Chosen.{Choice, token_to, raw_to, place_to, signature_to, chosen_set, number, renaming}
use Rattle.assemblies.specs.Closed.{Each, Names, TypeNames, PlaceNames, ResultNames, SignatureNames, Closed}
use Rattle.assemblies.proofs.Binds.{token_law, token_there}
use Rattle.assemblies.proofs.Back.{get_within, count_law, row_back}

module _ (keep : ℕ → Choice) (ps : List Assembly) (size more : ℕ) (closed : Closed size keep ps) (grows : size ≤ more) where
  abbrev cs : List Assembly
  cs = chosen_set keep ps

  abbrev r : Renaming
  r = renaming keep ps

  pub type_back : (c : Id) (p : Assembly) (t : TypeRow) → slice_get ps c.file ≡ Some p → slice_get p.types c.row ≡ Some t → (keep c.file).types c.row ≡ true → r.type (number keep c) ≡ c
  type_back c p t at row k =
      ap (id_at c.file) (row_back (keep c.file).types _ c.row (subst (λ n. c.row < n) (sym (count_law (λ (q : Assembly). q.types) ps c.file p at)) (get_within p.types c.row t row)) k)

  -- the class that a kept token names, there and back
  pub named : (f : ℕ) (t : TypeToken) → Names size keep ps f t → resolve size ps f t ≡ option_map r.type (resolve more cs f (token_to (keep f) t))
  named f t n =
      let w = token_there keep ps size closed f t n.1.0 n.0 n.1.1 in
      n.1.1 ∙ sym (ap (option_map r.type) (token_law keep ps size closed more f t n.1.0 grows n.0 n.1.1) ∙ ap Some (type_back n.1.0 w.1.0 w.1.1.0 w.1.1.1 w.1.1.2 w.0))

  through : {A B C D : Type 0} (f : A → C) (f' : B → D) (g : B → A) (h : D → C) (o : Option B) → ((x : B) → f (g x) ≡ h (f' x)) → option_map f (option_map g o) ≡ option_map h (option_map f' o)
  through f f' g h None e = refl
  through f f' g h (Some x) e = ap Some (e x)

  pub expanded_law : (f : ℕ) (t : RawType) → TypeNames size keep ps f t → expanded size ps f t ≡ option_map (carry.sig_to r) (expanded more cs f (raw_to (keep f) t))
  expanded_law f (RawSpelt e) k = refl
  expanded_law f (RawClass t) k = ap (option_map ClassToken) (named f t k) ∙ through ClassToken ClassToken r.type (carry.sig_to r) (resolve more cs f (token_to (keep f) t)) (λ c. refl)
  expanded_law f (RawValue t) k = ap (option_map ValueToken) (named f t k) ∙ through ValueToken ValueToken r.type (carry.sig_to r) (resolve more cs f (token_to (keep f) t)) (λ c. refl)
  expanded_law f (RawArray s) k = ap (option_map ArraySig) (expanded_law f s k) ∙ through ArraySig ArraySig (carry.sig_to r) (carry.sig_to r) (expanded more cs f (raw_to (keep f) s)) (λ c. refl)

  place_law : (f : ℕ) (x : RawPlace) → PlaceNames size keep ps f x → expanded_place size ps f x ≡ option_map (carry.sig_place_to r) (expanded_place more cs f (place_to (keep f) x))
  place_law f (RawDirect s) k = ap (option_map Direct) (expanded_law f s k) ∙ through Direct Direct (carry.sig_to r) (carry.sig_place_to r) (expanded more cs f (raw_to (keep f) s)) (λ c. refl)
  place_law f (RawByRef s) k = ap (option_map ByRef) (expanded_law f s k) ∙ through ByRef ByRef (carry.sig_to r) (carry.sig_place_to r) (expanded more cs f (raw_to (keep f) s)) (λ c. refl)

  result_law : (f : ℕ) (x : Option RawType) → ResultNames size keep ps f x → expanded_result size ps f x ≡ option_map (option_map (carry.sig_to r)) (expanded_result more cs f (option_map (raw_to (keep f)) x))
  result_law f None k = refl
  result_law f (Some s) k = ap (option_map Some) (expanded_law f s k) ∙ through Some Some (carry.sig_to r) (option_map (carry.sig_to r)) (expanded more cs f (raw_to (keep f) s)) (λ c. refl)

  both_law : {A B C A' B' C' : Type 0} (make : A → B → C) (make' : A' → B' → C') (f : A' → A) (g : B' → B) (h : C' → C) (x : Option A') (y : Option B') → ((a : A') (b : B') → make (f a) (g b) ≡ h (make' a b)) → both_some make (option_map f x) (option_map g y) ≡ option_map h (both_some make' x y)
  both_law make make' f g h None None e = refl
  both_law make make' f g h None (Some b) e = refl
  both_law make make' f g h (Some a) None e = refl
  both_law make make' f g h (Some a) (Some b) e = ap Some (e a b)

  places_law : (f : ℕ) (xs : List RawPlace) → Each (PlaceNames size keep ps f) xs → all_some (expanded_place size ps f) xs ≡ option_map (map (carry.sig_place_to r)) (all_some (expanded_place more cs f) (map (place_to (keep f)) xs))
  places_law f [] k = refl
  places_law f (x ∷ xs) k =
      ap (λ o. both_some (λ y ys. y ∷ ys) o (all_some (expanded_place size ps f) xs)) (place_law f x k.0)
      ∙ ap (both_some (λ y ys. y ∷ ys) (option_map (carry.sig_place_to r) (expanded_place more cs f (place_to (keep f) x)))) (places_law f xs k.1)
      ∙ both_law (λ y ys. y ∷ ys) (λ y ys. y ∷ ys) (carry.sig_place_to r) (map (carry.sig_place_to r)) (map (carry.sig_place_to r)) (expanded_place more cs f (place_to (keep f) x)) (all_some (expanded_place more cs f) (map (place_to (keep f)) xs)) (λ a b. refl)

  pub signature_law : (f : ℕ) (s : RawSignature) → SignatureNames size keep ps f s → expanded_signature size ps f s ≡ option_map (carry.signature_to r) (expanded_signature more cs f (signature_to (keep f) s))
  signature_law f s k =
      let make : Option SigType → List SigPlace → Signature = λ r p. record { has_this = s.has_this; returns = r; parameters = p } in
      ap (λ o. both_some make o (all_some (expanded_place size ps f) s.parameters)) (result_law f s.returns k.0)
      ∙ ap (both_some make (option_map (option_map (carry.sig_to r)) (expanded_result more cs f (option_map (raw_to (keep f)) s.returns)))) (places_law f s.parameters k.1)
      ∙ both_law make make (option_map (carry.sig_to r)) (map (carry.sig_place_to r)) (carry.signature_to r) (expanded_result more cs f (option_map (raw_to (keep f)) s.returns)) (all_some (expanded_place more cs f) (map (place_to (keep f)) s.parameters)) (λ a b. refl)

  -- lists of things that are all there
  pub all_there : {A A' B B' : Type 0} (f : A → Option B) (f' : A' → Option B') (g : A → A') (h : B' → B) (good : A → Type 0) → ((x : A) → good x → f x ≡ option_map h (f' (g x))) → (xs : List A) → Each good xs → filter_map f xs ≡ map h (filter_map f' (map g xs))
  all_there f f' g h good e [] k = refl
  all_there f f' g h good e (x ∷ xs) k =
      ap (λ o. cons_option o (filter_map f xs)) (e x k.0)
      ∙ ap (cons_option (option_map h (f' (g x)))) (all_there f f' g h good e xs k.1)
      ∙ go (f' (g x)) (filter_map f' (map g xs))
    where
      go : (o : Option _) (ys : List _) → cons_option (option_map h o) (map h ys) ≡ map h (cons_option o ys)
      go None ys = refl
      go (Some y) ys = refl
