-- Types that don't fit.
use Rattle.std.proofs.Common.{◌≡◌, ℕ, zero, suc, ◌+◌, ◌-◌, ◌<◌, ◌≤◌, Bool, true, false, ◌&&◌, ◌||◌, List, [], ◌∷◌, ◌++◌, map, reverse, length, take, drop, Option, Some, None, refl, sym, ap, ◌∙◌, arith}
use Rattle.std.proofs.lemmas.List.{append_assoc, append-nil, map-append, reverse-append, reverse-reverse, length-reverse, length-map, length-drop, length-take-le, take-append-drop, take_rest}
use Rattle.std.specs.Prelude.{if◌then◌else◌, nat_lt, Result, Ok, Err}
use Rattle.std.specs.List.{list_any}
use Rattle.std.proofs.lemmas.Bool.{ltb-true, ltb-false}
use Rattle.std.proofs.lemmas.List.Folds.{list_any-append}
use Rattle.ecma_types.specs.declared.stack.PlaceType.{PlaceType as WorldPlace}
use Rattle.ecma_types.specs.declared.stack.StackType.{StackType as WorldType}
use Rattle.ecma_types.specs.declared.stack.StackType.TheVariants as world
use Rattle.machine.specs.Program.{Program}
use Rattle.machine.specs.Throw.{on_some}
use Rattle.machine.specs.Rows.{take_arguments}
use Rattle.machine_typed.specs.Typing.{StackType, Never, assignable, all_assignable, loaded}
use Rattle.place_types.specs.Types.{stack_of, place_of, from_top}

pub never_fits : (p : Program) (t : WorldType) → assignable p (stack_of t) Never ≡ false
never_fits p world.I = refl
never_fits p world.L = refl
never_fits p world.Null = refl
never_fits p (world.O t) = refl
never_fits p (world.Pointer t) = refl
never_fits p world.H = refl

-- lists of different lengths don't fit
pub unequal : (p : Program) (us vs : List StackType) → (length us ≡ length vs → ⊥) → all_assignable p us vs ≡ false
unequal p [] [] h = absurd (h refl)
unequal p [] (v ∷ vs) h = refl
unequal p (u ∷ us) [] h = refl
unequal p (u ∷ us) (v ∷ vs) h = both (assignable p u v) (unequal p us vs (λ e. h (ap suc e)))
  where
    both : (b : Bool) {c : Bool} → c ≡ false → (b && c) ≡ false
    both true e = e
    both false e = refl

pub unequal_types : (p : Program) (from : List WorldType) (to : List WorldPlace) → (length from ≡ length to → ⊥) → false ≡ all_assignable p (map stack_of from) (map loaded (map place_of to))
unequal_types p from to h =
    sym (unequal p (map stack_of from) (map loaded (map place_of to))
    (λ e. h (sym (length-map from stack_of) ∙ (e ∙ (length-map (map place_of to) loaded ∙ length-map to place_of)))))
