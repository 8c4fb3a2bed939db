-- What places of the world's types hold.
use Rattle.std.proofs.Common.{◌≡◌, ℕ, zero, suc, ◌+◌, ◌-◌, ◌<◌, ◌≤◌, add-one, Bool, true, false, Some, None, refl, sym, ap, ◌∙◌, arith}
use Rattle.std.specs.Prelude.{nat_eq}
use Rattle.plain_types.specs.declared.elem.Elem.{Elem}
use Rattle.plain_types.specs.declared.elem.Elem.TheVariants as elem
use Rattle.ecma_types.specs.declared.id.TypeId.{TypeId}
use Rattle.ecma_types.specs.declared.stack.PlaceType.{PlaceType as WorldPlace}
use Rattle.machine.specs.Data.{Id, CliType, Basic, ArrayOf, Cell, Bits, Refers, cell_of, elem_cell}
use Rattle.cil_opcodes.specs.declared.shape.IntegerType.TheVariants.{I1, U1, I2, U2, I4, U4, I8, U8}
use Rattle.machine_typed.specs.Typing.{O, is_plain, held, of_type, array_of}
use Rattle.machine_typed.proofs.Types.{type_held}
use Rattle.place_types.specs.Held.{unheld_type}
use Rattle.place_types.specs.Types.{id_of, number_by, base_type, arrays, type_of, no_type}

cell_number : (b : Bool) (e : Elem) (c : Id) → cell_of (number_by b e c) ≡ elem_cell e
cell_number true e c = refl
cell_number false e c = refl

-- the row beside an element changes nothing of what its places hold
pub cell_base : (e : Elem) (t : TypeId) → cell_of (base_type e t) ≡ cell_of (base_type e no_type)
cell_base elem.Void t = refl
cell_base elem.Bool t = cell_number (nat_eq t.row 0) elem.Bool (id_of t)
cell_base elem.Char t = cell_number (nat_eq t.row 0) elem.Char (id_of t)
cell_base elem.I1 t = cell_number (nat_eq t.row 0) elem.I1 (id_of t)
cell_base elem.U1 t = cell_number (nat_eq t.row 0) elem.U1 (id_of t)
cell_base elem.I2 t = cell_number (nat_eq t.row 0) elem.I2 (id_of t)
cell_base elem.U2 t = cell_number (nat_eq t.row 0) elem.U2 (id_of t)
cell_base elem.I4 t = cell_number (nat_eq t.row 0) elem.I4 (id_of t)
cell_base elem.U4 t = cell_number (nat_eq t.row 0) elem.U4 (id_of t)
cell_base elem.I8 t = cell_number (nat_eq t.row 0) elem.I8 (id_of t)
cell_base elem.U8 t = cell_number (nat_eq t.row 0) elem.U8 (id_of t)
cell_base elem.String t = refl
cell_base elem.Object t = refl
cell_base elem.Class t = refl
cell_base elem.Value t = refl

plain_number : (b : Bool) (e : Elem) (c : Id) → is_plain (number_by b e c) ≡ is_plain (Basic e)
plain_number true e c = refl
plain_number false e c = refl

plain_base : (e : Elem) (t : TypeId) → is_plain (base_type e t) ≡ is_plain (base_type e no_type)
plain_base elem.Void t = refl
plain_base elem.Bool t = plain_number (nat_eq t.row 0) elem.Bool (id_of t)
plain_base elem.Char t = plain_number (nat_eq t.row 0) elem.Char (id_of t)
plain_base elem.I1 t = plain_number (nat_eq t.row 0) elem.I1 (id_of t)
plain_base elem.U1 t = plain_number (nat_eq t.row 0) elem.U1 (id_of t)
plain_base elem.I2 t = plain_number (nat_eq t.row 0) elem.I2 (id_of t)
plain_base elem.U2 t = plain_number (nat_eq t.row 0) elem.U2 (id_of t)
plain_base elem.I4 t = plain_number (nat_eq t.row 0) elem.I4 (id_of t)
plain_base elem.U4 t = plain_number (nat_eq t.row 0) elem.U4 (id_of t)
plain_base elem.I8 t = plain_number (nat_eq t.row 0) elem.I8 (id_of t)
plain_base elem.U8 t = plain_number (nat_eq t.row 0) elem.U8 (id_of t)
plain_base elem.String t = refl
plain_base elem.Object t = refl
plain_base elem.Class t = refl
plain_base elem.Value t = refl

-- arrays hold references
pub cell_arrays : (n : ℕ) (x : CliType) → 0 < n → cell_of (arrays n x) ≡ Some Refers
cell_arrays zero x h = absurd (omega arith)
cell_arrays (suc n) x h = refl

plain_arrays : (n : ℕ) (x : CliType) → is_plain (arrays n x) ≡ is_plain x
plain_arrays zero x = refl
plain_arrays (suc n) x = plain_arrays n x

pub plain_type : (t : WorldPlace) → is_plain (type_of t) ≡ is_plain (base_type t.elem no_type)
plain_type t = plain_arrays t.ranks (base_type t.elem t.of) ∙ plain_base t.elem t.of

-- ---- the types of values loaded

pub loaded_cell : (t : WorldPlace) (c : Cell) → cell_of (type_of t) ≡ Some c → of_type (type_of t) ≡ held c (type_of t)
loaded_cell t c h = type_held (type_of t) c h

some_none : {A : Type 0} (x : A) → Some x ≡ None → ⊥
some_none x e = cc e

number_held : (b : Bool) (e : Elem) (c : Id) (x : Cell) → elem_cell e ≡ Some x → cell_of (number_by b e c) ≡ None → ⊥
number_held b e c x h k = some_none x (sym h ∙ (sym (cell_number b e c) ∙ k))

unheld_base : (e : Elem) (t : TypeId) → cell_of (base_type e t) ≡ None → of_type (base_type e t) ≡ unheld_type e
unheld_base elem.Void t h = refl
unheld_base elem.Bool t h = absurd (number_held (nat_eq t.row 0) elem.Bool (id_of t) (Bits U1) refl h)
unheld_base elem.Char t h = absurd (number_held (nat_eq t.row 0) elem.Char (id_of t) (Bits U2) refl h)
unheld_base elem.I1 t h = absurd (number_held (nat_eq t.row 0) elem.I1 (id_of t) (Bits I1) refl h)
unheld_base elem.U1 t h = absurd (number_held (nat_eq t.row 0) elem.U1 (id_of t) (Bits U1) refl h)
unheld_base elem.I2 t h = absurd (number_held (nat_eq t.row 0) elem.I2 (id_of t) (Bits I2) refl h)
unheld_base elem.U2 t h = absurd (number_held (nat_eq t.row 0) elem.U2 (id_of t) (Bits U2) refl h)
unheld_base elem.I4 t h = absurd (number_held (nat_eq t.row 0) elem.I4 (id_of t) (Bits I4) refl h)
unheld_base elem.U4 t h = absurd (number_held (nat_eq t.row 0) elem.U4 (id_of t) (Bits U4) refl h)
unheld_base elem.I8 t h = absurd (number_held (nat_eq t.row 0) elem.I8 (id_of t) (Bits I8) refl h)
unheld_base elem.U8 t h = absurd (number_held (nat_eq t.row 0) elem.U8 (id_of t) (Bits U8) refl h)
unheld_base elem.String t h = absurd (some_none _ h)
unheld_base elem.Object t h = absurd (some_none _ h)
unheld_base elem.Class t h = absurd (some_none _ h)
unheld_base elem.Value t h = refl

unheld_arrays : (n : ℕ) (e : Elem) (t : TypeId) → cell_of (arrays n (base_type e t)) ≡ None → of_type (arrays n (base_type e t)) ≡ unheld_type e
unheld_arrays zero e t h = unheld_base e t h
unheld_arrays (suc n) e t h = absurd (some_none _ h)

pub loaded_unheld : (t : WorldPlace) → cell_of (type_of t) ≡ None → of_type (type_of t) ≡ unheld_type t.elem
loaded_unheld t h = unheld_arrays t.ranks t.elem t.of h

-- ---- arrays

pub arrays_more : (n : ℕ) (x : CliType) → arrays (n + 1) x ≡ ArrayOf (arrays n x)
arrays_more n x = ap (λ k. arrays k x) (add-one n)

number_no_array : (b : Bool) (e : Elem) (c : Id) → array_of (O (number_by b e c)) ≡ None
number_no_array true e c = refl
number_no_array false e c = refl

no_array_base : (e : Elem) (t : TypeId) → array_of (O (base_type e t)) ≡ None
no_array_base elem.Void t = refl
no_array_base elem.Bool t = number_no_array (nat_eq t.row 0) elem.Bool (id_of t)
no_array_base elem.Char t = number_no_array (nat_eq t.row 0) elem.Char (id_of t)
no_array_base elem.I1 t = number_no_array (nat_eq t.row 0) elem.I1 (id_of t)
no_array_base elem.U1 t = number_no_array (nat_eq t.row 0) elem.U1 (id_of t)
no_array_base elem.I2 t = number_no_array (nat_eq t.row 0) elem.I2 (id_of t)
no_array_base elem.U2 t = number_no_array (nat_eq t.row 0) elem.U2 (id_of t)
no_array_base elem.I4 t = number_no_array (nat_eq t.row 0) elem.I4 (id_of t)
no_array_base elem.U4 t = number_no_array (nat_eq t.row 0) elem.U4 (id_of t)
no_array_base elem.I8 t = number_no_array (nat_eq t.row 0) elem.I8 (id_of t)
no_array_base elem.U8 t = number_no_array (nat_eq t.row 0) elem.U8 (id_of t)
no_array_base elem.String t = refl
no_array_base elem.Object t = refl
no_array_base elem.Class t = refl
no_array_base elem.Value t = refl

pub no_array : (t : WorldPlace) → t.ranks ≤ 0 → array_of (O (type_of t)) ≡ None
no_array t h =
    let e : t.ranks ≡ 0 = omega arith in
    ap (λ n. array_of (O (arrays n (base_type t.elem t.of)))) e ∙ no_array_base t.elem t.of

pub array_element : (n : ℕ) (x : CliType) → 0 < n → arrays n x ≡ ArrayOf (arrays (n - 1) x)
array_element n x h =
    let e : n ≡ suc (n - 1) = omega arith in
    ap (λ k. arrays k x) e
