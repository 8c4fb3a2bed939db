-- Equal types, boxes and ranges.
use Rattle.std.proofs.Common.{◌≡◌, ℕ, zero, suc, ◌+◌, ◌≤◌, Bool, true, false, ◌==◌, ◌&&◌, ◌||◌, List, ◌++◌, take, drop, length, Some, None, refl, sym, ap, ◌∙◌, arith, length-append, length-drop, length-take-le}
use Rattle.std.specs.Prelude.{if◌then◌else◌}
use Rattle.std.proofs.lemmas.Bool.{eqb-true}
use Rattle.cil_opcodes.specs.declared.shape.IntegerType.{IntegerType}
use Rattle.plain_types.specs.declared.elem.Elem.{Elem}
use Rattle.plain_types.specs.declared.elem.Elem.TheVariants as elem
use Rattle.machine.specs.Data.{Id, id_eq, CliType, Basic, EnumOf, ClassOf, ValueOf, ArrayOf, cell_of, elem_number, type_eq, bytes_of, Value, Thing, Instance, Text, Elements, Boxed, StaticCell}
use Rattle.machine.specs.Objects.{number_type, same_number, boxed_number}
use Rattle.machine.specs.Natives.{piece, spliced, numbers_of}
use Rattle.machine_whole.proofs.Heaps.{some_same}

and_left : (a b : Bool) → a && b ≡ true → a ≡ true
and_left true b e = refl
and_left false b e = absurd (cc e)

and_right : (a b : Bool) → a && b ≡ true → b ≡ true
and_right true b e = e
and_right false b e = absurd (cc e)

-- ---- equal types

abbrev elem_of : ℕ → Elem
elem_of n = if n == 0 then elem.Void else if n == 1 then elem.Bool else if n == 2 then elem.Char else if n == 3 then elem.I1 else if n == 4 then elem.U1 else if n == 5 then elem.I2 else if n == 6 then elem.U2 else if n == 7 then elem.I4 else if n == 8 then elem.U4 else if n == 9 then elem.I8 else if n == 10 then elem.U8 else if n == 11 then elem.String else if n == 12 then elem.Object else if n == 13 then elem.Class else elem.Value

elem_back : (e : Elem) → elem_of (elem_number e) ≡ e
elem_back elem.Void = refl
elem_back elem.Bool = refl
elem_back elem.Char = refl
elem_back elem.I1 = refl
elem_back elem.U1 = refl
elem_back elem.I2 = refl
elem_back elem.U2 = refl
elem_back elem.I4 = refl
elem_back elem.U4 = refl
elem_back elem.I8 = refl
elem_back elem.U8 = refl
elem_back elem.String = refl
elem_back elem.Object = refl
elem_back elem.Class = refl
elem_back elem.Value = refl

elem_same : (a b : Elem) → (elem_number a == elem_number b) ≡ true → a ≡ b
elem_same a b e = sym (elem_back a) ∙ ap elem_of (eqb-true (elem_number a) (elem_number b) e) ∙ elem_back b

pub id_same : (x y : Id) → id_eq x y ≡ true → x ≡ y
id_same x y e =
    let file : x.file ≡ y.file = eqb-true x.file y.file (and_left (x.file == y.file) (x.row == y.row) e) in
    let row : x.row ≡ y.row = eqb-true x.row y.row (and_right (x.file == y.file) (x.row == y.row) e) in
    let make : ℕ → ℕ → Id = λ a b. record { file = a; row = b } in
    ap (λ n. make n x.row) file ∙ ap (make y.file) row

pub type_same : (a b : CliType) → type_eq a b ≡ true → a ≡ b
type_same (Basic e) (Basic g) h = ap Basic (elem_same e g h)
type_same (EnumOf e c) (EnumOf g d) h =
    ap (λ x. EnumOf x c) (elem_same e g (and_left (elem_number e == elem_number g) (id_eq c d) h)) ∙ ap (EnumOf g) (id_same c d (and_right (elem_number e == elem_number g) (id_eq c d) h))
type_same (ClassOf c) (ClassOf d) h = ap ClassOf (id_same c d h)
type_same (ValueOf c) (ValueOf d) h = ap ValueOf (id_same c d h)
type_same (ArrayOf a) (ArrayOf b) h = ap ArrayOf (type_same a b h)
type_same (Basic e) _ h = absurd (cc h)
type_same (EnumOf e c) _ h = absurd (cc h)
type_same (ClassOf c) _ h = absurd (cc h)
type_same (ValueOf c) _ h = absurd (cc h)
type_same (ArrayOf a) _ h = absurd (cc h)

-- ---- boxes

number_cells : (a : CliType) → cell_of (number_type a) ≡ cell_of a
number_cells (Basic e) = refl
number_cells (EnumOf e c) = refl
number_cells (ClassOf c) = refl
number_cells (ValueOf c) = refl
number_cells (ArrayOf b) = refl

pub same_number_cell : (a b : CliType) → same_number a b ≡ true → cell_of a ≡ cell_of b
same_number_cell a b e = sym (number_cells a) ∙ ap cell_of (type_same (number_type a) (number_type b) e) ∙ number_cells b

if_some : (b : Bool) (x y : Value) → (if b then Some x else None) ≡ Some y → (b ≡ true) × (x ≡ y)
if_some true x y e = (refl, some_same x y e)
if_some false x y e = absurd (cc e)

-- the box in which a number was found
pub boxed_there : (type : CliType) (x : Thing) (old : Value) → boxed_number type x ≡ Some old → (own : CliType) × (x ≡ Boxed own old) × (same_number own type ≡ true)
boxed_there type (Boxed own v) old e = let y = if_some (same_number own type) v old e in (own, ap (Boxed own) y.1, y.0)
boxed_there type (Instance c vs) old e = absurd (cc e)
boxed_there type (Text units) old e = absurd (cc e)
boxed_there type (Elements b vs) old e = absurd (cc e)
boxed_there type (StaticCell own v) old e = absurd (cc e)

-- ---- ranges

pub spliced_long : (ws ys : List Value) (j : ℕ) → j + length ys ≤ length ws → length (spliced ws j ys) ≡ length ws
spliced_long ws ys j h =
    let front = length-take-le j ws (omega (arith, h)) in
    let back = length-drop (j + length ys) ws in
    let rest = length-append ys (drop (j + length ys) ws) in
    let whole = length-append (take j ws) (ys ++ drop (j + length ys) ws) in
    omega (arith, h, front, back, rest, whole)

pub piece_long : (vs : List Value) (i n : ℕ) → i + n ≤ length vs → length (piece i n vs) ≡ n
piece_long vs i n h = let back = length-drop i vs in length-take-le n (drop i vs) (omega (arith, h, back))

pub numbers_long : (i : IntegerType) (n : ℕ) (bytes : List ℕ) → length (numbers_of i n bytes) ≡ n
numbers_long i zero bytes = refl
numbers_long i (suc n) bytes = ap suc (numbers_long i n (drop (bytes_of i) bytes))

pub or_left : (x y : Bool) → x || y ≡ false → x ≡ false
or_left true y e = absurd (cc e)
or_left false y e = refl

pub or_right : (x y : Bool) → x || y ≡ false → y ≡ false
or_right true y e = absurd (cc e)
or_right false y e = e
