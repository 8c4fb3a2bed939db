-- Types of places, and how wide they are.
use Rattle.std.proofs.Common.{◌≡◌, ℕ, Bool, true, ◌==◌, ◌&&◌, Option, Some, None, refl, sym, ap, ◌∙◌, subst}
use Rattle.std.specs.Prelude.{if◌then◌else◌, is_some}
use Rattle.std.specs.Option.{option_map}
use Rattle.std.proofs.lemmas.Bool.{eqb-true, eq-eqb}
use Rattle.cil_opcodes.specs.declared.shape.IntegerType.{IntegerType}
use Rattle.cil_opcodes.specs.declared.shape.IntegerType.TheVariants.{I1, U1, I2, U2, I4, U4, I8, U8}
use Rattle.plain_types.specs.declared.elem.Elem.{Elem}
use Rattle.plain_types.specs.declared.elem.Elem.TheVariants as elem
use Rattle.machine.specs.Data.{Id, id_eq, CliType, Basic, EnumOf, ClassOf, ValueOf, ArrayOf, Cell, Bits, Refers, cell_of, elem_cell, elem_number, type_eq, bytes_of}
use Rattle.machine.specs.Program.{Program}
use Rattle.machine.specs.Numbers.{is_long, same_width, Holds, kind_of_type}
use Rattle.machine_typed.specs.Typing.{number, held, in_place, of_type, is_plain, is_bits, is_refers, width_is, has_width, agree_by, agrees}
use Rattle.machine_typed.specs.Accepted.{elements_by, elements_fit}
use Rattle.machine_typed.proofs.Heaps.{some_same, and_left, and_right}

-- ---- equal types

abbrev elem_of : ℕ → Elem
elem_of n = if n == 0 then elem.Void else if n == 1 then elem.Bool else if n == 2 then elem.Char else if n == 3 then elem.I1 else if n == 4 then elem.U1 else if n == 5 then elem.I2 else if n == 6 then elem.U2 else if n == 7 then elem.I4 else if n == 8 then elem.U4 else if n == 9 then elem.I8 else if n == 10 then elem.U8 else if n == 11 then elem.String else if n == 12 then elem.Object else if n == 13 then elem.Class else elem.Value

elem_back : (e : Elem) → elem_of (elem_number e) ≡ e
elem_back elem.Void = refl
elem_back elem.Bool = refl
elem_back elem.Char = refl
elem_back elem.I1 = refl
elem_back elem.U1 = refl
elem_back elem.I2 = refl
elem_back elem.U2 = refl
elem_back elem.I4 = refl
elem_back elem.U4 = refl
elem_back elem.I8 = refl
elem_back elem.U8 = refl
elem_back elem.String = refl
elem_back elem.Object = refl
elem_back elem.Class = refl
elem_back elem.Value = refl

elem_same : (a b : Elem) → (elem_number a == elem_number b) ≡ true → a ≡ b
elem_same a b e = sym (elem_back a) ∙ ap elem_of (eqb-true (elem_number a) (elem_number b) e) ∙ elem_back b

pub id_same : (x y : Id) → id_eq x y ≡ true → x ≡ y
id_same x y e =
    let file : x.file ≡ y.file = eqb-true x.file y.file (and_left (x.file == y.file) (x.row == y.row) e) in
    let row : x.row ≡ y.row = eqb-true x.row y.row (and_right (x.file == y.file) (x.row == y.row) e) in
    let make : ℕ → ℕ → Id = λ a b. record { file = a; row = b } in
    ap (λ n. make n x.row) file ∙ ap (make y.file) row

pub type_same : (a b : CliType) → type_eq a b ≡ true → a ≡ b
type_same (Basic e) (Basic g) h = ap Basic (elem_same e g h)
type_same (EnumOf e c) (EnumOf g d) h =
    ap (λ x. EnumOf x c) (elem_same e g (and_left (elem_number e == elem_number g) (id_eq c d) h)) ∙ ap (EnumOf g) (id_same c d (and_right (elem_number e == elem_number g) (id_eq c d) h))
type_same (ClassOf c) (ClassOf d) h = ap ClassOf (id_same c d h)
type_same (ValueOf c) (ValueOf d) h = ap ValueOf (id_same c d h)
type_same (ArrayOf a) (ArrayOf b) h = ap ArrayOf (type_same a b h)
type_same (Basic e) _ h = absurd (cc h)
type_same (EnumOf e c) _ h = absurd (cc h)
type_same (ClassOf c) _ h = absurd (cc h)
type_same (ValueOf c) _ h = absurd (cc h)
type_same (ArrayOf a) _ h = absurd (cc h)

id_here : (c : Id) → id_eq c c ≡ true
id_here c = ap (λ b. b && (c.row == c.row)) (eq-eqb c.file c.file refl) ∙ eq-eqb c.row c.row refl

elem_here : (e : Elem) → (elem_number e == elem_number e) ≡ true
elem_here e = eq-eqb (elem_number e) (elem_number e) refl

pub type_here : (a : CliType) → type_eq a a ≡ true
type_here (Basic e) = elem_here e
type_here (EnumOf e c) = ap (λ b. b && id_eq c c) (elem_here e) ∙ id_here c
type_here (ClassOf c) = id_here c
type_here (ValueOf c) = id_here c
type_here (ArrayOf a) = type_here a

-- ---- widths

long_by_bytes : (i : IntegerType) → is_long i ≡ (bytes_of i == 8)
long_by_bytes I1 = refl
long_by_bytes U1 = refl
long_by_bytes I2 = refl
long_by_bytes U2 = refl
long_by_bytes I4 = refl
long_by_bytes U4 = refl
long_by_bytes I8 = refl
long_by_bytes U8 = refl

pub long_width : (i j : IntegerType) → same_width (Bits i) (Bits j) ≡ true → is_long i ≡ is_long j
long_width i j e = long_by_bytes i ∙ ap (λ n. n == 8) (eqb-true (bytes_of i) (bytes_of j) e) ∙ sym (long_by_bytes j)

pub width_up : (a b c : Cell) → same_width a b ≡ true → same_width b c ≡ true → same_width a c ≡ true
width_up (Bits i) (Bits j) (Bits k) e h = eq-eqb (bytes_of i) (bytes_of k) (eqb-true (bytes_of i) (bytes_of j) e ∙ eqb-true (bytes_of j) (bytes_of k) h)
width_up Refers Refers Refers e h = refl
width_up (Bits i) Refers c e h = absurd (cc e)
width_up Refers (Bits j) c e h = absurd (cc e)
width_up (Bits i) (Bits j) Refers e h = absurd (cc h)
width_up Refers Refers (Bits k) e h = absurd (cc h)

pub width_back : (a b : Cell) → same_width a b ≡ true → same_width b a ≡ true
width_back (Bits i) (Bits j) e = eq-eqb (bytes_of j) (bytes_of i) (sym (eqb-true (bytes_of i) (bytes_of j) e))
width_back Refers Refers e = refl
width_back (Bits i) Refers e = absurd (cc e)
width_back Refers (Bits j) e = absurd (cc e)

pub width_here : (a : Cell) → same_width a a ≡ true
width_here (Bits i) = eq-eqb (bytes_of i) (bytes_of i) refl
width_here Refers = refl

-- a type whose places are as wide has a cell
pub width_cell : (o : Option Cell) (wide : Cell) → width_is o wide ≡ true → (c : Cell) × (o ≡ Some c) × (same_width c wide ≡ true)
width_cell None wide e = absurd (cc e)
width_cell (Some c) wide e = (c, refl, e)

-- ---- what places of a type hold

holds_basic : (o : Option Cell) (c : Cell) → o ≡ Some c → option_map Holds o ≡ Some (Holds c)
holds_basic o c e = ap (option_map Holds) e

pub kind_holds : (t : CliType) (c : Cell) → cell_of t ≡ Some c → kind_of_type t ≡ Some (Holds c)
kind_holds (Basic e) c h = holds_basic (elem_cell e) c h
kind_holds (EnumOf e class) c h = holds_basic (elem_cell e) c h
kind_holds (ClassOf class) c h = ap (λ x. Some (Holds x)) (some_same Refers c h)
kind_holds (ValueOf class) c h = absurd (cc h)
kind_holds (ArrayOf a) c h = ap (λ x. Some (Holds x)) (some_same Refers c h)

pub type_held : (t : CliType) (c : Cell) → cell_of t ≡ Some c → of_type t ≡ held c t
type_held t c h = ap (λ o. in_place o t) (kind_holds t c h)

some_there : {A : Type 0} (o : Option A) → is_some o ≡ true → (x : A) × (o ≡ Some x)
some_there None e = absurd (cc e)
some_there (Some x) e = (x, refl)

pub plain_cell : (t : CliType) → is_plain t ≡ true → (c : Cell) × (cell_of t ≡ Some c)
plain_cell (Basic e) h = some_there (elem_cell e) h
plain_cell (EnumOf e class) h = some_there (elem_cell e) h
plain_cell (ClassOf class) h = (Refers, refl)
plain_cell (ValueOf class) h = absurd (cc h)
plain_cell (ArrayOf a) h = (Refers, refl)

pub number_cell : (o : Option Cell) → is_bits o ≡ true → (i : IntegerType) × (o ≡ Some (Bits i))
number_cell None e = absurd (cc e)
number_cell (Some (Bits i)) e = (i, refl)
number_cell (Some Refers) e = absurd (cc e)

pub refers_cell : (o : Option Cell) → is_refers o ≡ true → o ≡ Some Refers
refers_cell None e = absurd (cc e)
refers_cell (Some (Bits i)) e = absurd (cc e)
refers_cell (Some Refers) e = refl

-- ---- types that agree

pub data Agreeing (a b : CliType) : Type 0 where
  TwoNumbers : (i j : IntegerType) → cell_of a ≡ Some (Bits i) → cell_of b ≡ Some (Bits j) → same_width (Bits i) (Bits j) ≡ true → Agreeing a b
  OneType : a ≡ b → Agreeing a b

pub agreeing : (a b : CliType) → agrees a b ≡ true → Agreeing a b
agreeing a b e = at (cell_of a) refl (cell_of b) refl e
  where
    at : (x : Option Cell) → cell_of a ≡ x → (y : Option Cell) → cell_of b ≡ y → agree_by x y (type_eq a b) ≡ true → Agreeing a b
    at (Some (Bits i)) ex (Some (Bits j)) ey h = TwoNumbers i j ex ey h
    at (Some Refers) ex (Some Refers) ey h = OneType (type_same a b h)
    at (Some (Bits i)) ex (Some Refers) ey h = absurd (cc h)
    at (Some (Bits i)) ex None ey h = absurd (cc h)
    at (Some Refers) ex (Some (Bits j)) ey h = absurd (cc h)
    at (Some Refers) ex None ey h = absurd (cc h)
    at None ex None ey h = OneType (type_same a b h)
    at None ex (Some c) ey h = absurd (cc h)

by_here : (c : Cell) (same : Bool) → same ≡ true → agree_by (Some c) (Some c) same ≡ true
by_here (Bits i) same e = width_here (Bits i)
by_here Refers same e = e

pub agree_here : (a : CliType) (c : Cell) → cell_of a ≡ Some c → agrees a a ≡ true
agree_here a c e = ap (λ o. agree_by o o (type_eq a a)) e ∙ by_here c (type_eq a a) (type_here a)

-- places of types that agree hold values of one stack type
pub agree_same : (a b : CliType) → agrees a b ≡ true → of_type a ≡ of_type b
agree_same a b e = by (agreeing a b e)
  where
    by : Agreeing a b → of_type a ≡ of_type b
    by (TwoNumbers i j x y w) = type_held a (Bits i) x ∙ ap number (long_width i j w) ∙ sym (type_held b (Bits j) y)
    by (OneType same) = ap of_type same

pub agree_cell : (a b : CliType) (c : Cell) → agrees a b ≡ true → cell_of a ≡ Some c → (d : Cell) × (cell_of b ≡ Some d) × (same_width c d ≡ true)
agree_cell a b c e h = by (agreeing a b e)
  where
    by : Agreeing a b → (d : Cell) × (cell_of b ≡ Some d) × (same_width c d ≡ true)
    by (TwoNumbers i j x y w) = (Bits j, y, subst (λ z. same_width z (Bits j) ≡ true) (some_same (Bits i) c (sym x ∙ h)) w)
    by (OneType same) = (c, ap cell_of (sym same) ∙ h, width_here c)

pub agree_numbers : (a b : CliType) (i j : IntegerType) → cell_of a ≡ Some (Bits i) → cell_of b ≡ Some (Bits j) → same_width (Bits i) (Bits j) ≡ true → agrees a b ≡ true
agree_numbers a b i j x y w = ap (λ o. agree_by o (cell_of b) (type_eq a b)) x ∙ ap (λ o. agree_by (Some (Bits i)) o (type_eq a b)) y ∙ w

pub agree_up : (a b c : CliType) → agrees a b ≡ true → agrees b c ≡ true → agrees a c ≡ true
agree_up a b c e h = by (agreeing a b e) (agreeing b c h)
  where
    by : Agreeing a b → Agreeing b c → agrees a c ≡ true
    by (OneType same) g = subst (λ z. agrees z c ≡ true) (sym same) h
    by (TwoNumbers i j x y w) (OneType same) = subst (λ z. agrees a z ≡ true) same e
    by (TwoNumbers i j x y w) (TwoNumbers k l z u v) =
        let v' = subst (λ c. same_width c (Bits l) ≡ true) (some_same (Bits k) (Bits j) (sym z ∙ y)) v in
        agree_numbers a c i l x u (width_up (Bits i) (Bits j) (Bits l) w v')

-- ---- elements

pub data ElementKinds (p : Program) (a b : CliType) : Type 0 where
  NumberElements : (i j : IntegerType) → cell_of a ≡ Some (Bits i) → cell_of b ≡ Some (Bits j) → same_width (Bits i) (Bits j) ≡ true → ElementKinds p a b
  ReferenceElements : cell_of a ≡ Some Refers → cell_of b ≡ Some Refers → p.fits a b ≡ true → ElementKinds p a b

pub element_kinds : (p : Program) (a b : CliType) → elements_fit p a b ≡ true → ElementKinds p a b
element_kinds p a b e = at (cell_of a) refl (cell_of b) refl e
  where
    at : (x : Option Cell) → cell_of a ≡ x → (y : Option Cell) → cell_of b ≡ y → elements_by x y (p.fits a b) ≡ true → ElementKinds p a b
    at (Some (Bits i)) ex (Some (Bits j)) ey h = NumberElements i j ex ey h
    at (Some Refers) ex (Some Refers) ey h = ReferenceElements ex ey h
    at (Some (Bits i)) ex (Some Refers) ey h = absurd (cc h)
    at (Some (Bits i)) ex None ey h = absurd (cc h)
    at (Some Refers) ex (Some (Bits j)) ey h = absurd (cc h)
    at (Some Refers) ex None ey h = absurd (cc h)
    at None ex _ ey h = absurd (cc h)

-- the cells of elements that fit
pub element_cells : (p : Program) (a b : CliType) → elements_fit p a b ≡ true → (c : Cell) × (d : Cell) × (cell_of a ≡ Some c) × (cell_of b ≡ Some d) × (same_width c d ≡ true)
element_cells p a b e = by (element_kinds p a b e)
  where
    by : ElementKinds p a b → (c : Cell) × (d : Cell) × (cell_of a ≡ Some c) × (cell_of b ≡ Some d) × (same_width c d ≡ true)
    by (NumberElements i j x y w) = (Bits i, Bits j, x, y, w)
    by (ReferenceElements x y w) = (Refers, Refers, x, y, refl)

pub elements_width : (p : Program) (a b : CliType) (wide : Cell) → elements_fit p a b ≡ true → has_width b wide ≡ true → has_width a wide ≡ true
elements_width p a b wide e h =
    let x = element_cells p a b e in
    let w : same_width x.1 wide ≡ true = subst (λ o. width_is o wide ≡ true) x.3 h in
    subst (λ o. width_is o wide ≡ true) (sym x.2) (width_up x.0 x.1 wide x.4 w)

pub type_width : (t : CliType) (c : Cell) → cell_of t ≡ Some c → has_width t c ≡ true
type_width t c e = subst (λ o. width_is o c ≡ true) (sym e) (width_here c)
