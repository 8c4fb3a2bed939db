-- A call of a method that is there, and of one that isn't.
use Rattle.std.proofs.Common.{◌≡◌, ℕ, [], Option, Some, None, refl, sym, ap, ◌∙◌}
use Rattle.std.specs.Prelude.{◌&&◌, not, slice_get, unwrap_or}
use Rattle.std.specs.Option.{option_map}
use Rattle.machine.specs.Data.{Id, id_eq}
use Rattle.machine.specs.Throw.{on_some}
use Rattle.machine_typed.specs.Typing.{has_body}
use Rattle.machine_typed.proofs.Heaps.{some_inv}
use Rattle.classes.specs.Classes.{Class, Classes, OwnMethod}
use Rattle.classes.specs.Queries.{chain, is_interface, is_or_implements, method_at, methods_of, target_by, target}
use Rattle.class_rules.proofs.Slots.{found}
use Rattle.class_targets.specs.Bodied.{AreBodied}

pub none_of : {A B : Type 0} (f : A → B) (o : Option A) → None ≡ option_map f o → o ≡ None
none_of f None e = refl
none_of f (Some x) e = absurd (cc e)

module _ (cs : Classes) (c id : Id) where
  pub target_missing : method_at cs id ≡ None → target cs c id ≡ None
  target_missing e = go (cs.method_owner id)
    where
      go : (o : Option Id) → on_some o (λ owner. on_some (method_at cs id) (λ m. target_by cs (is_interface cs owner) (is_or_implements cs c owner && not (is_interface cs c)) owner m (chain cs c))) ≡ None
      go None = refl
      go (Some owner) = ap (λ o. on_some o (λ m. target_by cs (is_interface cs owner) (is_or_implements cs c owner && not (is_interface cs c)) owner m (chain cs c))) e

  pub target_owned : (owner : Id) (m : OwnMethod) → cs.method_owner id ≡ Some owner → method_at cs id ≡ Some m → target cs c id ≡ target_by cs (is_interface cs owner) (is_or_implements cs c owner && not (is_interface cs c)) owner m (chain cs c)
  target_owned owner m owned listed =
      ap (λ o. on_some o (λ k. on_some (method_at cs id) (λ x. target_by cs (is_interface cs k) (is_or_implements cs c k && not (is_interface cs c)) k x (chain cs c)))) owned
      ∙ ap (λ o. on_some o (λ x. target_by cs (is_interface cs owner) (is_or_implements cs c owner && not (is_interface cs c)) owner x (chain cs c))) listed

  -- a method that a class has is among its own
  pub bodied_at : AreBodied cs → (x : OwnMethod) → method_at cs id ≡ Some x → has_body x.body ≡ not x.is_abstract
  bodied_at bodied x e =
      let p = some_inv (cs.method_owner id) _ x e in
      let at = found (λ (m : OwnMethod). id_eq m.id id) (methods_of cs p.0) x p.2 in
      of_class p.0 (cs.class p.0) refl at.0 at.1
    where
      of_class : (d : Id) (o : Option Class) → cs.class d ≡ o → (i : ℕ) → slice_get (methods_of cs d) i ≡ Some x → has_body x.body ≡ not x.is_abstract
      of_class d None h i there =
          let gone : None ≡ Some x = sym (ap (λ (o : Option Class). slice_get (unwrap_or (option_map (λ (k : Class). k.methods) o) []) i) h) ∙ there in
          absurd (cc gone)
      of_class d (Some k) h i there = bodied d k i x h (sym (ap (λ (o : Option Class). slice_get (unwrap_or (option_map (λ (k : Class). k.methods) o) []) i) h) ∙ there)
