-- The rules by which virtual methods keep one another, as links over rows.
use Rattle.std.specs.Prelude.{◌≡◌, ℕ, suc, ◌<◌, ◌&&◌, not, if◌then◌else◌, List, [], ◌∷◌, ◌++◌, Option, Some, None, length, slice_get}
use Rattle.std.specs.List.{flat_map, list_any}
use Rattle.machine.specs.Data.{Id, id_eq}
use Rattle.classes.specs.Classes.{OwnMethod, Class, Classes}
use Rattle.classes.specs.Queries.{methods_of, own_virtual, first_some, nearest, chain, is_interface, is_or_implements}
use Rattle.assemblies.specs.Binding.{id_at}
use Rattle.kept_rules.specs.Rules.{type_at, method_at}
use Rattle.row_rules.specs.declared.rules.RowRules.{RowRules}
use Rattle.row_rules.specs.Links.{Link, keeps, Adds}

abbrev pub for_some : {A : Type 0} → (A → List Link) → Option A → List Link
for_some links None = []
for_some links (Some x) = links x

-- a method of class c takes the slot of another one: it is kept where the type and the other one are, and the other one where it is
abbrev pub takes : Id → Id → Id → List Link
takes c method inherited =
    record { first = type_at c; second = method_at inherited; then = method_at method } ∷ keeps (method_at method) (method_at inherited) ∷ []

-- an interface's method is filled by a body of type d: that is kept where the method and the type are
abbrev pub filled_by : Id → Id → Id → List Link
filled_by method body d = record { first = type_at d; second = method_at method; then = method_at body } ∷ []

module _ (cs : Classes) where
  -- a virtual method without newslot takes the slot of the nearest inherited one of its name and signature (II.10.3.1)
  abbrev pub overrides : Id → OwnMethod → List Link
  overrides c m = if m.is_virtual && not m.is_newslot then for_some (λ (u : OwnMethod). takes c m.id u.id) (nearest cs m c) else []

  -- the body of an interface's method: the first virtual one of its name and signature from the class upwards (II.12.2)
  abbrev pub fills : Id → OwnMethod → List Link
  fills c m = for_some (λ (body : OwnMethod). for_some (filled_by m.id body.id) (cs.method_owner body.id)) (first_some (own_virtual cs m) (chain cs c))

  -- the methods of a class or an interface above, if it is an interface
  abbrev pub implements : Id → Id → List Link
  implements c i = if is_interface cs i then flat_map (fills c) (methods_of cs i) else []

  -- of a class, with all that it reaches by superclasses and interfaces
  abbrev pub links_of : Id → List Id → List Link
  links_of c reached = flat_map (overrides c) (methods_of cs c) ++ (if is_interface cs c then [] else flat_map (implements c) reached)

  -- of the classes of a file from row n on, each with what it reaches
  abbrev pub slot_links : ℕ → ℕ → List (List Id) → List Link
  slot_links f n [] = []
  slot_links f n (ds ∷ rest) = links_of (id_at f n) ds ++ slot_links f (suc n) rest

  -- these are the classes and interfaces that a class is or reaches, in any order
  abbrev pub IsReach : Id → List Id → Type 0
  IsReach c ds = (d : Id) → list_any (id_eq d) ds ≡ is_or_implements cs c d

  -- a list for each class of a file
  pub record AreReached (f : ℕ) (reached : List (List Id)) : Type 0 where
    pub all : (n : ℕ) (k : Class) → cs.class (id_at f n) ≡ Some k → n < length reached
    pub each : (n : ℕ) (ds : List Id) → slice_get reached n ≡ Some ds → IsReach (id_at f n) ds

  -- the rules of one class were added
  pub record AddsClass (c : Id) (before after : RowRules) : Type 0 where
    pub reached : List Id
    pub reach : IsReach c reached
    pub adds : Adds (links_of c reached) before after

  -- the rules of the classes of a file were added
  pub record AddsSlots (f : ℕ) (before after : RowRules) : Type 0 where
    pub reached : List (List Id)
    pub reach : AreReached f reached
    pub adds : Adds (slot_links f 0 reached) before after
