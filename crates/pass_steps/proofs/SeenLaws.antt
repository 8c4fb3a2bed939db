-- Stacks of the code whose types have rows.
use Rattle.std.proofs.Common.{◌≡◌, ℕ, zero, suc, ◌-◌, Bool, false, ◌||◌, List, [], ◌∷◌, ◌++◌, map, reverse, refl, sym, ap, ◌∙◌, arith}
use Rattle.std.specs.Prelude.{nat_eq}
use Rattle.std.specs.List.{list_any}
use Rattle.std.proofs.lemmas.Bool.{ne_eqb}
use Rattle.std.proofs.lemmas.List.{map-append, reverse-append}
use Rattle.std.proofs.lemmas.List.Folds.{list_any-append}
use Rattle.plain_types.specs.declared.elem.Elem.{Elem}
use Rattle.plain_types.specs.declared.elem.Elem.TheVariants as elem
use Rattle.ecma_types.specs.declared.id.TypeId.{TypeId}
use Rattle.ecma_types.specs.declared.stack.PlaceType.{PlaceType as WorldPlace}
use Rattle.ecma_types.specs.declared.stack.StackType.{StackType as WorldType}
use Rattle.ecma_types.specs.declared.stack.StackType.TheVariants as world
use Rattle.machine.specs.Data.{Id, CliType, Basic, EnumOf, ClassOf, ValueOf, ArrayOf}
use Rattle.machine_typed.specs.Typing.{StackType, I, L, Nil, O, H, P, Never}
use Rattle.place_types.specs.Types.{id_of, id_up, base_type, arrays, number_by, type_of, stack_of, type_up, stack_up, stack_down, from_top, in_world, stack_in}
use Rattle.place_types.proofs.RowLaws.{stacks_come}
use Rattle.verify_ops.specs.Effects.{is_never}
use Rattle.ecma_effects.specs.Steps.{HasRows}
use Rattle.forward_pass.specs.Seen.{seen_stack}
use Rattle.pass_steps.specs.Seen.{id_seen, seen_as, stack_seen, type_seen, first_row, row_beside, rowed_place, rowed}

-- ---- lists

map_turned : {A B : Type 0} (f : A → B) (xs : List A) → map f (reverse xs) ≡ reverse (map f xs)
map_turned f [] = refl
map_turned f (x ∷ xs) =
    ap (map f) (reverse-append (x ∷ []) xs)
    ∙ (map-append f (reverse xs) (x ∷ [])
    ∙ (ap (λ ys. ys ++ f x ∷ []) (map_turned f xs)
    ∙ sym (reverse-append (f x ∷ []) (map f xs))))

map_both : {A B C : Type 0} (f : A → B) (g : B → C) (h : A → C) → ((x : A) → g (f x) ≡ h x) → (xs : List A) → map g (map f xs) ≡ map h xs
map_both f g h same [] = refl
map_both f g h same (x ∷ xs) = ap (λ y. y ∷ map g (map f xs)) (same x) ∙ ap (λ ys. h x ∷ ys) (map_both f g h same xs)

-- ---- up and back

id_back : (c : Id) → id_seen (id_up c) ≡ c
id_back c =
    let one : suc c.row - 1 ≡ c.row = omega arith in
    ap (λ n. record { file = c.file; row = n }) one

pub type_back : (t : CliType) → type_seen (type_up t) ≡ t
type_back (Basic e) = refl
type_back (EnumOf e c) = ap (EnumOf e) (id_back c)
type_back (ClassOf c) = ap ClassOf (id_back c)
type_back (ValueOf c) = ap ValueOf (id_back c)
type_back (ArrayOf t) = ap ArrayOf (type_back t)

stack_back : (t : StackType) → seen_as (stack_up t) ≡ t
stack_back I = refl
stack_back L = refl
stack_back Nil = refl
stack_back (O t) = ap O (type_back t)
stack_back H = refl
stack_back (P t) = ap P (type_back t)
stack_back Never = refl

pub stacks_back : (ts : List StackType) → map seen_as (map stack_up ts) ≡ ts
stacks_back [] = refl
stacks_back (t ∷ ts) = ap (λ x. x ∷ map seen_as (map stack_up ts)) (stack_back t) ∙ ap (λ xs. t ∷ xs) (stacks_back ts)

-- ---- rows

row_first : (file row : ℕ) → Path Id (record { file = file; row = suc (row - 1) }) (id_of (first_row (nat_eq row 0) (record { file = file; row = row })))
row_first file zero = refl
row_first file (suc row) =
    let one : suc (suc row - 1) ≡ suc row = omega arith in
    let other : nat_eq (suc row) 0 ≡ false = ne_eqb (suc row) 0 (λ e. absurd (omega (arith, e))) in
    let up : Path Id (record { file = file; row = suc (suc row - 1) }) (record { file = file; row = suc row }) = ap (λ n. record { file = file; row = n }) one in
    up ∙ sym (ap (λ b. id_of (first_row b (record { file = file; row = suc row }))) other)

number_first : (e : Elem) (file row : ℕ) → type_up (type_seen (number_by (nat_eq row 0) e (record { file = file; row = row }))) ≡ number_by (nat_eq row 0) e (record { file = file; row = row })
number_first e file zero = refl
number_first e file (suc row) =
    let one : suc (suc row - 1) ≡ suc row = omega arith in
    let other : nat_eq (suc row) 0 ≡ false = ne_eqb (suc row) 0 (λ h. absurd (omega (arith, h))) in
    ap (λ b. type_up (type_seen (number_by b e (record { file = file; row = suc row })))) other
    ∙ (ap (λ n. EnumOf e (record { file = file; row = n })) one
    ∙ sym (ap (λ b. number_by b e (record { file = file; row = suc row })) other))

base_first : (e : Elem) (t : TypeId) → type_up (type_seen (base_type e t)) ≡ base_type e (row_beside e t)
base_first elem.Void t = refl
base_first elem.String t = refl
base_first elem.Object t = refl
base_first elem.Class t = ap ClassOf (row_first t.file t.row)
base_first elem.Value t = ap ValueOf (row_first t.file t.row)
base_first e t = number_first e t.file t.row

arrays_first : (n : ℕ) (t u : CliType) → type_up (type_seen t) ≡ u → type_up (type_seen (arrays n t)) ≡ arrays n u
arrays_first zero t u e = e
arrays_first (suc n) t u e = ap ArrayOf (arrays_first n t u e)

place_first : (t : WorldPlace) → type_up (type_seen (type_of t)) ≡ type_of (rowed_place t)
place_first t = arrays_first t.ranks (base_type t.elem t.of) (base_type t.elem (row_beside t.elem t.of)) (base_first t.elem t.of)

pub stack_first : (t : WorldType) → stack_up (stack_seen t) ≡ stack_of (rowed t)
stack_first world.I = refl
stack_first world.L = refl
stack_first world.Null = refl
stack_first (world.O t) = ap O (place_first t)
stack_first (world.Pointer t) = ap P (place_first t)
stack_first world.H = refl

-- ---- stacks

pub top_first : (ts : List WorldType) → from_top (map rowed ts) ≡ map stack_up (seen_stack stack_seen ts)
top_first ts =
    ap reverse (map_both rowed stack_of (λ t. stack_of (rowed t)) (λ t. refl) ts ∙ sym (map_both stack_seen stack_up (λ t. stack_of (rowed t)) stack_first ts))
    ∙ sym (map_turned stack_up (map stack_seen ts))

pub world_first : (ts : List WorldType) → in_world (map rowed ts) ≡ seen_stack stack_seen ts
world_first ts = ap (map stack_down) (top_first ts) ∙ stacks_come (seen_stack stack_seen ts)

pub rows_first : (ts : List WorldType) → HasRows (map rowed ts)
rows_first ts = ap (map stack_up) (world_first ts) ∙ sym (top_first ts)

pub top_seen : (ts : List WorldType) → map seen_as (from_top ts) ≡ seen_stack stack_seen ts
top_seen ts = map_turned seen_as (map stack_of ts) ∙ ap reverse (map_both stack_of seen_as stack_seen (λ t. refl) ts)

pub one_first : (t : WorldType) → stack_in (rowed t) ≡ stack_seen t
one_first t = let e : stack_in (rowed t) ∷ [] ≡ stack_seen t ∷ [] = world_first (t ∷ []) in cc e

-- ---- each has a value

one_has : (t : WorldType) → is_never (stack_seen t) ≡ false
one_has world.I = refl
one_has world.L = refl
one_has world.Null = refl
one_has (world.O t) = refl
one_has (world.Pointer t) = refl
one_has world.H = refl

or_false : (a b : Bool) → a ≡ false → b ≡ false → (a || b) ≡ false
or_false a b h k = ap (λ c. c || b) h ∙ k

pub all_have : (ts : List WorldType) → list_any is_never (seen_stack stack_seen ts) ≡ false
all_have [] = refl
all_have (t ∷ ts) =
    ap (list_any is_never) (reverse-append (stack_seen t ∷ []) (map stack_seen ts))
    ∙ (list_any-append is_never (reverse (map stack_seen ts)) (stack_seen t ∷ [])
    ∙ or_false (list_any is_never (reverse (map stack_seen ts))) (is_never (stack_seen t) || false) (all_have ts) (or_false (is_never (stack_seen t)) false (one_has t) refl))
