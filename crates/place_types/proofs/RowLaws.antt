-- Rows from 1 and back.
use Rattle.std.proofs.Common.{◌≡◌, List, [], ◌∷◌, map, refl, ap, ◌∙◌}
use Rattle.machine.specs.Data.{Id, CliType, Basic, EnumOf, ClassOf, ValueOf, ArrayOf, PlaceType, Plain, To}
use Rattle.machine_typed.specs.Typing.{StackType, I, L, Nil, O, H, P, Never}
use Rattle.place_types.specs.Types.{id_up, id_down, type_up, type_down, place_up, place_down, stack_up, stack_down}

pub id_back : (c : Id) → id_down (id_up c) ≡ c
id_back c = refl

pub type_back : (t : CliType) → type_down (type_up t) ≡ t
type_back (Basic e) = refl
type_back (EnumOf e c) = refl
type_back (ClassOf c) = refl
type_back (ValueOf c) = refl
type_back (ArrayOf t) = ap ArrayOf (type_back t)

pub place_comes : (t : PlaceType) → place_down (place_up t) ≡ t
place_comes (Plain t) = ap Plain (type_back t)
place_comes (To t) = ap To (type_back t)

pub stack_comes : (t : StackType) → stack_down (stack_up t) ≡ t
stack_comes I = refl
stack_comes L = refl
stack_comes Nil = refl
stack_comes (O t) = ap O (type_back t)
stack_comes H = refl
stack_comes (P t) = ap P (type_back t)
stack_comes Never = refl

pub stacks_come : (ts : List StackType) → map stack_down (map stack_up ts) ≡ ts
stacks_come [] = refl
stacks_come (t ∷ ts) = ap (λ x. x ∷ map stack_down (map stack_up ts)) (stack_comes t) ∙ ap (λ xs. t ∷ xs) (stacks_come ts)
