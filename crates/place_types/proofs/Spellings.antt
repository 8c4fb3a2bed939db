-- Two types are one exactly where they are spelt alike.
use Rattle.std.proofs.Common.{◌≡◌, ℕ, zero, suc, Bool, true, false, ◌↔◌, refl, sym, ap, ◌∙◌}
use Rattle.std.specs.Prelude.{nat_eq, IsTrue}
use Rattle.plain_types.specs.declared.elem.Elem.{Elem}
use Rattle.plain_types.specs.declared.elem.Elem.TheVariants as elem
use Rattle.ecma_types.specs.declared.id.TypeId.{TypeId}
use Rattle.ecma_types.specs.declared.stack.PlaceType.{PlaceType as WorldPlace}
use Rattle.ecma_types.specs.declared.stack.StackType.{StackType as WorldType}
use Rattle.ecma_types.specs.declared.stack.StackType.TheVariants as world
use Rattle.machine.specs.Data.{CliType, type_eq}
use Rattle.machine_typed.proofs.Types.{type_same, type_here}
use Rattle.place_types.specs.Types.{id_of, number_by, base_type, arrays, type_of, row_or_none, row_of_elem, spelt, place_back, Agrees, fits_by}

number_back : (b : Bool) (e : Elem) (t : TypeId) → place_back (number_by b e (id_of t)) ≡ record { pointer = false; ranks = 0; elem = e; of = row_or_none b t }
number_back true e t = refl
number_back false e t = refl

base_back : (e : Elem) (t : TypeId) → place_back (base_type e t) ≡ record { pointer = false; ranks = 0; elem = e; of = row_of_elem e t }
base_back elem.Void t = refl
base_back elem.Bool t = number_back (nat_eq t.row 0) elem.Bool t
base_back elem.Char t = number_back (nat_eq t.row 0) elem.Char t
base_back elem.I1 t = number_back (nat_eq t.row 0) elem.I1 t
base_back elem.U1 t = number_back (nat_eq t.row 0) elem.U1 t
base_back elem.I2 t = number_back (nat_eq t.row 0) elem.I2 t
base_back elem.U2 t = number_back (nat_eq t.row 0) elem.U2 t
base_back elem.I4 t = number_back (nat_eq t.row 0) elem.I4 t
base_back elem.U4 t = number_back (nat_eq t.row 0) elem.U4 t
base_back elem.I8 t = number_back (nat_eq t.row 0) elem.I8 t
base_back elem.U8 t = number_back (nat_eq t.row 0) elem.U8 t
base_back elem.String t = refl
base_back elem.Object t = refl
base_back elem.Class t = refl
base_back elem.Value t = refl

arrays_back : (n : ℕ) (x : CliType) (e : Elem) (t : TypeId) → place_back x ≡ record { pointer = false; ranks = 0; elem = e; of = t } → place_back (arrays n x) ≡ record { pointer = false; ranks = n; elem = e; of = t }
arrays_back zero x e t h = h
arrays_back (suc n) x e t h = ap (λ (y : WorldPlace). record y { ranks = suc y.ranks }) (arrays_back n x e t h)

-- a type tells how it is spelt
pub back : (t : WorldPlace) → place_back (type_of t) ≡ spelt t
back t = arrays_back t.ranks (base_type t.elem t.of) t.elem (row_of_elem t.elem t.of) (base_back t.elem t.of)

number_spelt : (b : Bool) (e : Elem) (t : TypeId) → b ≡ nat_eq t.row 0 → number_by (nat_eq (row_or_none b t).row 0) e (id_of (row_or_none b t)) ≡ number_by b e (id_of t)
number_spelt true e t h = refl
number_spelt false e t h = ap (λ c. number_by c e (id_of t)) (sym h)

base_spelt : (e : Elem) (t : TypeId) → base_type e (row_of_elem e t) ≡ base_type e t
base_spelt elem.Void t = refl
base_spelt elem.Bool t = number_spelt (nat_eq t.row 0) elem.Bool t refl
base_spelt elem.Char t = number_spelt (nat_eq t.row 0) elem.Char t refl
base_spelt elem.I1 t = number_spelt (nat_eq t.row 0) elem.I1 t refl
base_spelt elem.U1 t = number_spelt (nat_eq t.row 0) elem.U1 t refl
base_spelt elem.I2 t = number_spelt (nat_eq t.row 0) elem.I2 t refl
base_spelt elem.U2 t = number_spelt (nat_eq t.row 0) elem.U2 t refl
base_spelt elem.I4 t = number_spelt (nat_eq t.row 0) elem.I4 t refl
base_spelt elem.U4 t = number_spelt (nat_eq t.row 0) elem.U4 t refl
base_spelt elem.I8 t = number_spelt (nat_eq t.row 0) elem.I8 t refl
base_spelt elem.U8 t = number_spelt (nat_eq t.row 0) elem.U8 t refl
base_spelt elem.String t = refl
base_spelt elem.Object t = refl
base_spelt elem.Class t = refl
base_spelt elem.Value t = refl

-- the spelling has the type
pub spelt_type : (t : WorldPlace) → type_of (spelt t) ≡ type_of t
spelt_type t = ap (arrays t.ranks) (base_spelt t.elem t.of)

spelt_alike : (a b : WorldPlace) → spelt a ≡ spelt b → type_eq (type_of a) (type_of b) ≡ true
spelt_alike a b e =
    let same : type_of a ≡ type_of b = sym (spelt_type a) ∙ (ap type_of e ∙ spelt_type b) in
    ap (λ x. type_eq x (type_of b)) same ∙ type_here (type_of b)

type_alike : (a b : WorldPlace) → type_eq (type_of a) (type_of b) ≡ true → spelt a ≡ spelt b
type_alike a b e = sym (back a) ∙ (ap place_back (type_same (type_of a) (type_of b) e) ∙ back b)

-- a test that tells equal spellings tells equal types
pub same_spelling : (r : Bool) (a b : WorldPlace) → (IsTrue r ↔ (spelt a ≡ spelt b)) → r ≡ type_eq (type_of a) (type_of b)
same_spelling true a b e = sym (spelt_alike a b (e.0 refl))
same_spelling false a b e = at (type_eq (type_of a) (type_of b)) refl
  where
    at : (c : Bool) → type_eq (type_of a) (type_of b) ≡ c → false ≡ c
    at false h = refl
    at true h = e.1 (type_alike a b h)

pub agrees_by : (is_assignable : WorldType → WorldType → Bool) → Agrees is_assignable (fits_by is_assignable)
agrees_by is_assignable = record {
  same = λ a b. ap (λ (x : WorldPlace). is_assignable (world.O x) (world.O (spelt b))) (sym (back a)) ∙ ap (λ (y : WorldPlace). is_assignable (world.O (place_back (type_of a))) (world.O y)) (sym (back b));
}
