-- Which types fit where others are wanted, by their brackets.
use Rattle.std.proofs.Common.{◌≡◌, ℕ, zero, suc, ◌<◌, Bool, true, false, Option, Some, None, refl, sym, ap, ◌∙◌, arith}
use Rattle.std.specs.Prelude.{nat_eq, ◌&&◌, ◌||◌, ◌==◌, if◌then◌else◌}
use Rattle.plain_types.specs.declared.elem.Elem.{Elem}
use Rattle.plain_types.specs.declared.elem.Elem.TheVariants as elem
use Rattle.board_types.specs.declared.board.TypeAt.{TypeAt}
use Rattle.board_types.specs.declared.board.BoardType.{BoardType}
use Rattle.machine.specs.Data.{CliType, Basic, EnumOf, ClassOf, ValueOf, ArrayOf, Cell, Bits, Refers, cell_of, type_eq}
use Rattle.machine_typed.specs.Typing.{is_refers}
use Rattle.classes.specs.Classes.{Classes}
use Rattle.classes.specs.Queries.{array, class_of, elements_by, fits, is_object, some_eq}
use Rattle.board_ids.specs.Ids.{cli_type, id_of, in_brackets, is_no_row, plain_type}
use Rattle.ecma_types.specs.declared.id.TypeId.{TypeId}
use Rattle.place_types.specs.Types.{base_type, number_by}
use Rattle.place_types.specs.Types.{id_of as world_id}

-- no array
abbrev flat : CliType → Bool
flat (Basic e) = true
flat (EnumOf e c) = true
flat (ClassOf c) = true
flat (ValueOf c) = true
flat (ArrayOf a) = false

plain_flat : (e : Elem) (of : TypeAt) → flat (plain_type e of) ≡ true
plain_flat e of = by e
  where
    number : (e : Elem) (b : Bool) → flat (if b then Basic e else EnumOf e (id_of of)) ≡ true
    number e true = refl
    number e false = refl

    by : (e : Elem) → flat (plain_type e of) ≡ true
    by elem.Class = refl
    by elem.Value = refl
    by elem.Void = number elem.Void (is_no_row of)
    by elem.Bool = number elem.Bool (is_no_row of)
    by elem.Char = number elem.Char (is_no_row of)
    by elem.I1 = number elem.I1 (is_no_row of)
    by elem.U1 = number elem.U1 (is_no_row of)
    by elem.I2 = number elem.I2 (is_no_row of)
    by elem.U2 = number elem.U2 (is_no_row of)
    by elem.I4 = number elem.I4 (is_no_row of)
    by elem.U4 = number elem.U4 (is_no_row of)
    by elem.I8 = number elem.I8 (is_no_row of)
    by elem.U8 = number elem.U8 (is_no_row of)
    by elem.String = number elem.String (is_no_row of)
    by elem.Object = number elem.Object (is_no_row of)

-- what a place holds is told by the element alone
pub cell_is : (e : Elem) (t : TypeId) (of : TypeAt) → cell_of (base_type e t) ≡ cell_of (plain_type e of)
cell_is e t of = by e
  where
    enum : (e : Elem) (b : Bool) → cell_of (if b then Basic e else EnumOf e (id_of of)) ≡ cell_of (Basic e)
    enum e true = refl
    enum e false = refl

    number : (e : Elem) (a b : Bool) → cell_of (number_by a e (world_id t)) ≡ cell_of (if b then Basic e else EnumOf e (id_of of))
    number e true b = sym (enum e b)
    number e false b = sym (enum e b)

    by : (e : Elem) → cell_of (base_type e t) ≡ cell_of (plain_type e of)
    by elem.Class = refl
    by elem.Value = refl
    by elem.Void = sym (enum elem.Void (is_no_row of))
    by elem.String = sym (enum elem.String (is_no_row of))
    by elem.Object = sym (enum elem.Object (is_no_row of))
    by elem.Bool = number elem.Bool (nat_eq t.row 0) (is_no_row of)
    by elem.Char = number elem.Char (nat_eq t.row 0) (is_no_row of)
    by elem.I1 = number elem.I1 (nat_eq t.row 0) (is_no_row of)
    by elem.U1 = number elem.U1 (nat_eq t.row 0) (is_no_row of)
    by elem.I2 = number elem.I2 (nat_eq t.row 0) (is_no_row of)
    by elem.U2 = number elem.U2 (nat_eq t.row 0) (is_no_row of)
    by elem.I4 = number elem.I4 (nat_eq t.row 0) (is_no_row of)
    by elem.U4 = number elem.U4 (nat_eq t.row 0) (is_no_row of)
    by elem.I8 = number elem.I8 (nat_eq t.row 0) (is_no_row of)
    by elem.U8 = number elem.U8 (nat_eq t.row 0) (is_no_row of)

no_array : (a x : CliType) → flat a ≡ true → type_eq a (ArrayOf x) ≡ false
no_array (Basic e) x h = refl
no_array (EnumOf e c) x h = refl
no_array (ClassOf c) x h = refl
no_array (ValueOf c) x h = refl
no_array (ArrayOf a) x h = absurd (cc h)

array_no : (b x : CliType) → flat b ≡ true → type_eq (ArrayOf x) b ≡ false
array_no (Basic e) x h = refl
array_no (EnumOf e c) x h = refl
array_no (ClassOf c) x h = refl
array_no (ValueOf c) x h = refl
array_no (ArrayOf a) x h = absurd (cc h)

again : (t e : Bool) → (t || (t || e)) ≡ (t || e)
again true e = refl
again false e = refl

refers_by : (o : Option Cell) (f : Bool) → elements_by (Some Refers) o f ≡ (is_refers o && f)
refers_by None f = refl
refers_by (Some Refers) f = refl
refers_by (Some (Bits i)) f = refl

never_by : (o : Option Cell) → elements_by o (Some Refers) false ≡ false
never_by None = refl
never_by (Some Refers) = refl
never_by (Some (Bits i)) = refl

module _ (cs : Classes) where
  array_one : (a b : CliType) → flat b ≡ true → fits cs (ArrayOf a) b ≡ (is_object cs b || some_eq (class_of cs b) (array cs))
  array_one a (Basic e) h = refl
  array_one a (EnumOf e c) h = refl
  array_one a (ClassOf c) h = refl
  array_one a (ValueOf c) h = refl
  array_one a (ArrayOf b) h = absurd (cc h)

  one_array : (a b : CliType) → flat a ≡ true → fits cs a (ArrayOf b) ≡ false
  one_array (Basic e) b h = refl
  one_array (EnumOf e c) b h = refl
  one_array (ClassOf c) b h = refl
  one_array (ValueOf c) b h = refl
  one_array (ArrayOf a) b h = absurd (cc h)

  -- arrays of arrays fit as their elements do
  both_arrays : (a b : CliType) → fits cs (ArrayOf (ArrayOf a)) (ArrayOf (ArrayOf b)) ≡ fits cs (ArrayOf a) (ArrayOf b)
  both_arrays a b = again (type_eq a b) (elements_by (cell_of a) (cell_of b) (fits cs a b))

  module _ (a b : CliType) (no_a : flat a ≡ true) (no_b : flat b ≡ true) where
    fewer : (m n : ℕ) → m < n → fits cs (in_brackets m a) (in_brackets n b) ≡ false
    fewer m zero low = absurd (omega (arith, low))
    fewer zero (suc n) low = one_array a (in_brackets n b) no_a
    fewer (suc zero) (suc zero) low = absurd (omega (arith, low))
    fewer (suc zero) (suc (suc n)) low =
        ap (λ t. t || elements_by (cell_of a) (Some Refers) (fits cs a (ArrayOf (in_brackets n b)))) (no_array a (in_brackets n b) no_a)
        ∙ ap (elements_by (cell_of a) (Some Refers)) (one_array a (in_brackets n b) no_a)
        ∙ never_by (cell_of a)
    fewer (suc (suc m)) (suc zero) low = absurd (omega (arith, low))
    fewer (suc (suc m)) (suc (suc n)) low = both_arrays (in_brackets m a) (in_brackets n b) ∙ fewer (suc m) (suc n) (omega (arith, low))

    as_many : (n : ℕ) → fits cs (in_brackets (suc n) a) (in_brackets (suc n) b) ≡ (type_eq a b || elements_by (cell_of a) (cell_of b) (fits cs a b))
    as_many zero = refl
    as_many (suc n) = both_arrays (in_brackets n a) (in_brackets n b) ∙ as_many n

    more : (m n : ℕ) → n < m → fits cs (in_brackets (suc m) a) (in_brackets (suc n) b) ≡ (is_refers (cell_of b) && (is_object cs b || some_eq (class_of cs b) (array cs)))
    more zero n low = absurd (omega (arith, low))
    more (suc m) zero low =
        ap (λ t. t || elements_by (Some Refers) (cell_of b) (fits cs (ArrayOf (in_brackets m a)) b)) (array_no b (in_brackets m a) no_b)
        ∙ ap (elements_by (Some Refers) (cell_of b)) (array_one (in_brackets m a) b no_b)
        ∙ refers_by (cell_of b) (is_object cs b || some_eq (class_of cs b) (array cs))
    more (suc m) (suc n) low = both_arrays (in_brackets m a) (in_brackets n b) ∙ more m n (omega (arith, low))

    same_many : (m n : ℕ) → m ≡ n → 0 < n → fits cs (in_brackets m a) (in_brackets n b) ≡ (type_eq a b || elements_by (cell_of a) (cell_of b) (fits cs a b))
    same_many m zero e low = absurd (omega (arith, low))
    same_many m (suc n) e low = ap (λ k. fits cs (in_brackets k a) (in_brackets (suc n) b)) e ∙ as_many n

    one_wanted : (m n : ℕ) → n < m → n ≡ 0 → fits cs (in_brackets m a) (in_brackets n b) ≡ (is_object cs b || some_eq (class_of cs b) (array cs))
    one_wanted zero n low e = absurd (omega (arith, low))
    one_wanted (suc m) n low e = ap (λ k. fits cs (in_brackets (suc m) a) (in_brackets k b)) e ∙ array_one (in_brackets m a) b no_b

    more_wanted : (m n : ℕ) → n < m → 0 < n → fits cs (in_brackets m a) (in_brackets n b) ≡ (is_refers (cell_of b) && (is_object cs b || some_eq (class_of cs b) (array cs)))
    more_wanted m zero low some = absurd (omega (arith, some))
    more_wanted zero (suc n) low some = absurd (omega (arith, low))
    more_wanted (suc m) (suc n) low some = more m n (omega (arith, low))

  module _ (from to : BoardType) where
    abbrev inner : BoardType → CliType
    inner type = plain_type type.elem type.of

    pub fewer_brackets : from.ranks < to.ranks → fits cs (cli_type from) (cli_type to) ≡ false
    fewer_brackets low = fewer (inner from) (inner to) (plain_flat from.elem from.of) (plain_flat to.elem to.of) from.ranks to.ranks low

    pub same_brackets : from.ranks ≡ to.ranks → 0 < to.ranks → fits cs (cli_type from) (cli_type to) ≡ (type_eq (inner from) (inner to) || elements_by (cell_of (inner from)) (cell_of (inner to)) (fits cs (inner from) (inner to)))
    same_brackets e low = same_many (inner from) (inner to) (plain_flat from.elem from.of) (plain_flat to.elem to.of) from.ranks to.ranks e low

    pub no_brackets : from.ranks ≡ 0 → to.ranks ≡ 0 → fits cs (cli_type from) (cli_type to) ≡ fits cs (inner from) (inner to)
    no_brackets e f = ap (λ n. fits cs (in_brackets n (inner from)) (cli_type to)) e ∙ ap (λ n. fits cs (inner from) (in_brackets n (inner to))) f

    pub none_wanted : to.ranks < from.ranks → to.ranks ≡ 0 → fits cs (cli_type from) (cli_type to) ≡ (is_object cs (inner to) || some_eq (class_of cs (inner to)) (array cs))
    none_wanted low e = one_wanted (inner from) (inner to) (plain_flat from.elem from.of) (plain_flat to.elem to.of) from.ranks to.ranks low e

    pub more_brackets : to.ranks < from.ranks → 0 < to.ranks → fits cs (cli_type from) (cli_type to) ≡ (is_refers (cell_of (inner to)) && (is_object cs (inner to) || some_eq (class_of cs (inner to)) (array cs)))
    more_brackets low some =
        more_wanted (inner from) (inner to) (plain_flat from.elem from.of) (plain_flat to.elem to.of) from.ranks to.ranks low some
