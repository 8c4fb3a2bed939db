-- The board's types are equal where the machine's are.
use Rattle.std.proofs.Common.{◌≡◌, ◌⊎◌, inl, inr, ⊎_elim, ℕ, zero, suc, Bool, true, false, ◌==◌, refl, sym, ap, ◌∙◌}
use Rattle.std.specs.Prelude.{if◌then◌else◌, ◌&&◌}
use Rattle.std.proofs.lemmas.Bool.{eqb-true, eq-eqb}
use Rattle.plain_types.specs.declared.elem.Elem.{Elem}
use Rattle.plain_types.specs.declared.elem.Elem.TheVariants as elem
use Rattle.board_types.specs.declared.board.TypeAt.{TypeAt}
use Rattle.board_types.specs.declared.board.BoardType.{BoardType}
use Rattle.board_types.specs.declared.board.TheConstants.{NO_ROW}
use Rattle.machine.specs.Data.{Id, id_eq, CliType, Basic, EnumOf, ClassOf, ValueOf, ArrayOf, elem_number, type_eq}
use Rattle.ram_words.specs.Cells.{elem_named}
use Rattle.board_ids.specs.Ids.{id_of, is_no_row, plain_type, in_brackets, cli_type}
use Rattle.tiny_native.specs.Types.{same_board_type}

and_left : (a b : Bool) → (a && b) ≡ true → a ≡ true
and_left true b e = refl
and_left false b e = absurd (cc e)

and_right : (a b : Bool) → (a && b) ≡ true → b ≡ true
and_right true b e = e
and_right false b e = absurd (cc e)

id_same : (a : Id) → id_eq a a ≡ true
id_same a = ap (λ (q : Bool). q && (a.row == a.row)) (eq-eqb a.file a.file refl) ∙ eq-eqb a.row a.row refl

type_eq_same : (t : CliType) → type_eq t t ≡ true
type_eq_same (Basic e) = eq-eqb (elem_number e) (elem_number e) refl
type_eq_same (EnumOf e c) = ap (λ (q : Bool). q && id_eq c c) (eq-eqb (elem_number e) (elem_number e) refl) ∙ id_same c
type_eq_same (ClassOf c) = id_same c
type_eq_same (ValueOf c) = id_same c
type_eq_same (ArrayOf t) = type_eq_same t

pub type_same : (a b : BoardType) → a ≡ b → type_eq (cli_type a) (cli_type b) ≡ true
type_same a b e = ap (λ (x : BoardType). type_eq (cli_type a) (cli_type x)) (sym e) ∙ type_eq_same (cli_type a)

-- ---- and back

elem_back : (e : Elem) → elem_named (elem_number e) ≡ e
elem_back elem.Void = refl
elem_back elem.Bool = refl
elem_back elem.Char = refl
elem_back elem.I1 = refl
elem_back elem.U1 = refl
elem_back elem.I2 = refl
elem_back elem.U2 = refl
elem_back elem.I4 = refl
elem_back elem.U4 = refl
elem_back elem.I8 = refl
elem_back elem.U8 = refl
elem_back elem.String = refl
elem_back elem.Object = refl
elem_back elem.Class = refl
elem_back elem.Value = refl

elem_same : (e g : Elem) → (elem_number e == elem_number g) ≡ true → e ≡ g
elem_same e g h = sym (elem_back e) ∙ ap elem_named (eqb-true (elem_number e) (elem_number g) h) ∙ elem_back g

row_same : (a b : TypeAt) → id_eq (id_of a) (id_of b) ≡ true → a ≡ b
row_same a b h = at_parts a b (eqb-true a.assembly b.assembly (and_left (a.assembly == b.assembly) (a.row == b.row) h)) (eqb-true a.row b.row (and_right (a.assembly == b.assembly) (a.row == b.row) h))
  where
    at_parts : (a b : TypeAt) → a.assembly ≡ b.assembly → a.row ≡ b.row → a ≡ b
    at_parts a b p q = ap (λ (x : ℕ). (let t : TypeAt = record { assembly = x; row = a.row } in t)) p ∙ ap (λ (x : ℕ). (let t : TypeAt = record { assembly = b.assembly; row = x } in t)) q

none_same : (a b : TypeAt) → is_no_row a ≡ true → is_no_row b ≡ true → a ≡ b
none_same a b ha hb =
    ap (λ (x : ℕ). (let t : TypeAt = record { assembly = x; row = a.row } in t)) (eqb-true a.assembly 0 (and_left (a.assembly == 0) (a.row == NO_ROW) ha) ∙ sym (eqb-true b.assembly 0 (and_left (b.assembly == 0) (b.row == NO_ROW) hb)))
    ∙ ap (λ (x : ℕ). (let t : TypeAt = record { assembly = b.assembly; row = x } in t)) (eqb-true a.row NO_ROW (and_right (a.assembly == 0) (a.row == NO_ROW) ha) ∙ sym (eqb-true b.row NO_ROW (and_right (b.assembly == 0) (b.row == NO_ROW) hb)))

abbrev pub either : Elem → TypeAt → Bool → CliType
either e a q = if q then Basic e else EnumOf e (id_of a)

-- a class, another value type, or a basic type or an enum
pub plain_view : (e : Elem) → (e ≡ elem.Class) ⊎ ((e ≡ elem.Value) ⊎ ((a : TypeAt) → plain_type e a ≡ either e a (is_no_row a)))
plain_view elem.Class = inl refl
plain_view elem.Value = inr (inl refl)
plain_view elem.Void = inr (inr (λ a. refl))
plain_view elem.Bool = inr (inr (λ a. refl))
plain_view elem.Char = inr (inr (λ a. refl))
plain_view elem.I1 = inr (inr (λ a. refl))
plain_view elem.U1 = inr (inr (λ a. refl))
plain_view elem.I2 = inr (inr (λ a. refl))
plain_view elem.U2 = inr (inr (λ a. refl))
plain_view elem.I4 = inr (inr (λ a. refl))
plain_view elem.U4 = inr (inr (λ a. refl))
plain_view elem.I8 = inr (inr (λ a. refl))
plain_view elem.U8 = inr (inr (λ a. refl))
plain_view elem.String = inr (inr (λ a. refl))
plain_view elem.Object = inr (inr (λ a. refl))

either_both : (e g : Elem) (a b : TypeAt) (p q : Bool) → is_no_row a ≡ p → is_no_row b ≡ q → type_eq (either e a p) (either g b q) ≡ true → (e ≡ g) × (a ≡ b)
either_both e g a b true true ha hb h = (elem_same e g h, none_same a b ha hb)
either_both e g a b true false ha hb h = absurd (cc h)
either_both e g a b false true ha hb h = absurd (cc h)
either_both e g a b false false ha hb h = (elem_same e g (and_left (elem_number e == elem_number g) (id_eq (id_of a) (id_of b)) h), row_same a b (and_right (elem_number e == elem_number g) (id_eq (id_of a) (id_of b)) h))

class_either : (i : Id) (g : Elem) (b : TypeAt) (q : Bool) → type_eq (ClassOf i) (either g b q) ≡ true → ⊥
class_either i g b true h = cc h
class_either i g b false h = cc h

value_either : (i : Id) (g : Elem) (b : TypeAt) (q : Bool) → type_eq (ValueOf i) (either g b q) ≡ true → ⊥
value_either i g b true h = cc h
value_either i g b false h = cc h

either_class : (i : Id) (g : Elem) (b : TypeAt) (q : Bool) → type_eq (either g b q) (ClassOf i) ≡ true → ⊥
either_class i g b true h = cc h
either_class i g b false h = cc h

either_value : (i : Id) (g : Elem) (b : TypeAt) (q : Bool) → type_eq (either g b q) (ValueOf i) ≡ true → ⊥
either_value i g b true h = cc h
either_value i g b false h = cc h

plain_back : (e g : Elem) (a b : TypeAt) → type_eq (plain_type e a) (plain_type g b) ≡ true → (e ≡ g) × (a ≡ b)
plain_back e g a b h = ⊎_elim
    (λ (pe : e ≡ elem.Class). ⊎_elim
    (λ (pg : g ≡ elem.Class). (pe ∙ sym pg, row_same a b (sym (ap (λ (x : Elem). type_eq (plain_type x a) (plain_type g b)) pe ∙ ap (λ (x : Elem). type_eq (ClassOf (id_of a)) (plain_type x b)) pg) ∙ h)))
    (λ (r : (g ≡ elem.Value) ⊎ ((b : TypeAt) → plain_type g b ≡ either g b (is_no_row b))). ⊎_elim
    (λ (pg : g ≡ elem.Value). absurd (cc (sym (ap (λ (x : Elem). type_eq (plain_type x a) (plain_type g b)) pe ∙ ap (λ (x : Elem). type_eq (ClassOf (id_of a)) (plain_type x b)) pg) ∙ h)))
    (λ (vg : (b : TypeAt) → plain_type g b ≡ either g b (is_no_row b)). absurd (class_either (id_of a) g b (is_no_row b) (sym (ap (λ (x : Elem). type_eq (plain_type x a) (plain_type g b)) pe ∙ ap (λ (x : CliType). type_eq (ClassOf (id_of a)) x) (vg b)) ∙ h)))
    r)
    (plain_view g))
    (λ (l : (e ≡ elem.Value) ⊎ ((a : TypeAt) → plain_type e a ≡ either e a (is_no_row a))). ⊎_elim
    (λ (pe : e ≡ elem.Value). ⊎_elim
    (λ (pg : g ≡ elem.Class). absurd (cc (sym (ap (λ (x : Elem). type_eq (plain_type x a) (plain_type g b)) pe ∙ ap (λ (x : Elem). type_eq (ValueOf (id_of a)) (plain_type x b)) pg) ∙ h)))
    (λ (r : (g ≡ elem.Value) ⊎ ((b : TypeAt) → plain_type g b ≡ either g b (is_no_row b))). ⊎_elim
    (λ (pg : g ≡ elem.Value). (pe ∙ sym pg, row_same a b (sym (ap (λ (x : Elem). type_eq (plain_type x a) (plain_type g b)) pe ∙ ap (λ (x : Elem). type_eq (ValueOf (id_of a)) (plain_type x b)) pg) ∙ h)))
    (λ (vg : (b : TypeAt) → plain_type g b ≡ either g b (is_no_row b)). absurd (value_either (id_of a) g b (is_no_row b) (sym (ap (λ (x : Elem). type_eq (plain_type x a) (plain_type g b)) pe ∙ ap (λ (x : CliType). type_eq (ValueOf (id_of a)) x) (vg b)) ∙ h)))
    r)
    (plain_view g))
    (λ (ve : (a : TypeAt) → plain_type e a ≡ either e a (is_no_row a)). ⊎_elim
    (λ (pg : g ≡ elem.Class). absurd (either_class (id_of b) e a (is_no_row a) (sym (ap (λ (x : CliType). type_eq x (plain_type g b)) (ve a) ∙ ap (λ (x : Elem). type_eq (either e a (is_no_row a)) (plain_type x b)) pg) ∙ h)))
    (λ (r : (g ≡ elem.Value) ⊎ ((b : TypeAt) → plain_type g b ≡ either g b (is_no_row b))). ⊎_elim
    (λ (pg : g ≡ elem.Value). absurd (either_value (id_of b) e a (is_no_row a) (sym (ap (λ (x : CliType). type_eq x (plain_type g b)) (ve a) ∙ ap (λ (x : Elem). type_eq (either e a (is_no_row a)) (plain_type x b)) pg) ∙ h)))
    (λ (vg : (b : TypeAt) → plain_type g b ≡ either g b (is_no_row b)). either_both e g a b (is_no_row a) (is_no_row b) refl refl (sym (ap (λ (x : CliType). type_eq x (plain_type g b)) (ve a) ∙ ap (λ (x : CliType). type_eq (either e a (is_no_row a)) x) (vg b)) ∙ h))
    r)
    (plain_view g))
    l)
    (plain_view e)

abbrev is_array : CliType → Bool
is_array (ArrayOf t) = true
is_array (Basic e) = false
is_array (EnumOf e c) = false
is_array (ClassOf c) = false
is_array (ValueOf c) = false

plain_array : (x t : CliType) → is_array x ≡ false → type_eq x (ArrayOf t) ≡ true → ⊥
plain_array (ArrayOf u) t a h = cc a
plain_array (Basic e) t a h = cc h
plain_array (EnumOf e c) t a h = cc h
plain_array (ClassOf c) t a h = cc h
plain_array (ValueOf c) t a h = cc h

array_plain : (x t : CliType) → is_array x ≡ false → type_eq (ArrayOf t) x ≡ true → ⊥
array_plain (ArrayOf u) t a h = cc a
array_plain (Basic e) t a h = cc h
array_plain (EnumOf e c) t a h = cc h
array_plain (ClassOf c) t a h = cc h
array_plain (ValueOf c) t a h = cc h

either_no_array : (e : Elem) (a : TypeAt) (q : Bool) → is_array (either e a q) ≡ false
either_no_array e a true = refl
either_no_array e a false = refl

plain_no_array : (e : Elem) (a : TypeAt) → is_array (plain_type e a) ≡ false
plain_no_array e a = ⊎_elim
    (λ (pe : e ≡ elem.Class). ap (λ (x : Elem). is_array (plain_type x a)) pe)
    (λ (l : (e ≡ elem.Value) ⊎ ((a : TypeAt) → plain_type e a ≡ either e a (is_no_row a))). ⊎_elim
    (λ (pe : e ≡ elem.Value). ap (λ (x : Elem). is_array (plain_type x a)) pe)
    (λ (ve : (a : TypeAt) → plain_type e a ≡ either e a (is_no_row a)). ap is_array (ve a) ∙ either_no_array e a (is_no_row a))
    l)
    (plain_view e)

ranked_back : (m n : ℕ) (x y : CliType) → is_array x ≡ false → is_array y ≡ false → type_eq (in_brackets m x) (in_brackets n y) ≡ true → (m ≡ n) × (type_eq x y ≡ true)
ranked_back zero zero x y a b h = (refl, h)
ranked_back (suc m) (suc n) x y a b h = let r : (m ≡ n) × (type_eq x y ≡ true) = ranked_back m n x y a b h in (ap suc r.0, r.1)
ranked_back zero (suc n) x y a b h = absurd (plain_array x (in_brackets n y) a h)
ranked_back (suc m) zero x y a b h = absurd (array_plain y (in_brackets m x) b h)

type_parts : (a b : BoardType) → a.ranks ≡ b.ranks → a.elem ≡ b.elem → a.of ≡ b.of → a ≡ b
type_parts a b p q r =
    ap (λ (x : ℕ). (let t : BoardType = record { ranks = x; elem = a.elem; of = a.of } in t)) p
    ∙ ap (λ (x : Elem). (let t : BoardType = record { ranks = b.ranks; elem = x; of = a.of } in t)) q
    ∙ ap (λ (x : TypeAt). (let t : BoardType = record { ranks = b.ranks; elem = b.elem; of = x } in t)) r

type_back : (a b : BoardType) → type_eq (cli_type a) (cli_type b) ≡ true → a ≡ b
type_back a b h =
    let r : (a.ranks ≡ b.ranks) × (type_eq (plain_type a.elem a.of) (plain_type b.elem b.of) ≡ true) = ranked_back a.ranks b.ranks (plain_type a.elem a.of) (plain_type b.elem b.of) (plain_no_array a.elem a.of) (plain_no_array b.elem b.of) h in
    let p : (a.elem ≡ b.elem) × (a.of ≡ b.of) = plain_back a.elem b.elem a.of b.of r.1 in
    type_parts a b r.0 p.0 p.1

pub type_other : (a b : BoardType) → (a ≡ b → ⊥) → type_eq (cli_type a) (cli_type b) ≡ false
type_other a b d = at (type_eq (cli_type a) (cli_type b)) refl
  where
    at : (q : Bool) → type_eq (cli_type a) (cli_type b) ≡ q → q ≡ false
    at true h = absurd (d (type_back a b h))
    at false h = refl

pub tested_same : (a b : BoardType) → same_board_type a b ≡ true → a ≡ b
tested_same a b h =
    let rest : ((elem_number a.elem == elem_number b.elem) && id_eq (id_of a.of) (id_of b.of)) ≡ true = and_right (a.ranks == b.ranks) ((elem_number a.elem == elem_number b.elem) && id_eq (id_of a.of) (id_of b.of)) h in
    type_parts a b
    (eqb-true a.ranks b.ranks (and_left (a.ranks == b.ranks) ((elem_number a.elem == elem_number b.elem) && id_eq (id_of a.of) (id_of b.of)) h))
    (elem_same a.elem b.elem (and_left (elem_number a.elem == elem_number b.elem) (id_eq (id_of a.of) (id_of b.of)) rest))
    (row_same a.of b.of (and_right (elem_number a.elem == elem_number b.elem) (id_eq (id_of a.of) (id_of b.of)) rest))

same_tested : (a : BoardType) → same_board_type a a ≡ true
same_tested a =
    ap (λ (q : Bool). q && ((elem_number a.elem == elem_number a.elem) && id_eq (id_of a.of) (id_of a.of))) (eq-eqb a.ranks a.ranks refl)
    ∙ ap (λ (q : Bool). q && id_eq (id_of a.of) (id_of a.of)) (eq-eqb (elem_number a.elem) (elem_number a.elem) refl)
    ∙ id_same (id_of a.of)

-- the test is the machine's
pub tested_types : (a b : BoardType) → same_board_type a b ≡ type_eq (cli_type a) (cli_type b)
tested_types a b = at (same_board_type a b) refl
  where
    differ : same_board_type a b ≡ false → a ≡ b → ⊥
    differ h e = cc (sym h ∙ ap (λ (x : BoardType). same_board_type a x) (sym e) ∙ same_tested a)

    at : (q : Bool) → same_board_type a b ≡ q → q ≡ type_eq (cli_type a) (cli_type b)
    at true h = sym (type_same a b (tested_same a b h))
    at false h = sym (type_other a b (differ h))
