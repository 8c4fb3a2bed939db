-- Names with brackets.
use Rattle.std.proofs.Common.{◌≡◌, ℕ, zero, suc, ◌+◌, ◌*◌, ◌%◌, ◌<◌, ◌≤◌, List, [], ◌∷◌, ◌++◌, length, Option, Some, None, refl, sym, ap, ◌∙◌, arith}
use Rattle.std.specs.Prelude.{slice_get, unwrap_or, if◌then◌else◌, Bool, true, false}
use Rattle.std.specs.Option.{option_map}
use Rattle.plain_types.specs.declared.elem.Elem.{Elem}
use Rattle.plain_types.specs.declared.elem.Elem.TheVariants as elem
use Rattle.board_types.specs.declared.board.BoardType.{BoardType}
use Rattle.board_types.specs.declared.board.TypeAt.{TypeAt}
use Rattle.board_ids.specs.Ids.{cli_type, id_of, in_brackets, is_no_row, plain_type}
use Rattle.machine.specs.Data.{Id, CliType, Basic, EnumOf}
use Rattle.classes.specs.Classes.{Classes}
use Rattle.classes.specs.Queries.{class_of}
use Rattle.class_names.specs.Units.{full_units}
use Rattle.class_names.proofs.TextLaws.{get_front, get_behind}
use Rattle.bound_answers.specs.Names.{type_units, brackets}

-- ---- brackets by their numbers

pub opening : (n k : ℕ) → k < 2 * n → k % 2 ≡ 0 → Some 91 ≡ slice_get (brackets n) k
opening zero k low even = absurd (omega (arith, low))
opening (suc n) zero low even = refl
opening (suc n) (suc zero) low even = absurd (omega (arith, even))
opening (suc n) (suc (suc k)) low even = opening n k (omega (arith, low)) (omega (arith, even))

pub closing : (n k : ℕ) → k < 2 * n → (k % 2 ≡ 0 → ⊥) → Some 93 ≡ slice_get (brackets n) k
closing zero k low odd = absurd (omega (arith, low))
closing (suc n) zero low odd = absurd (odd (omega arith))
closing (suc n) (suc zero) low odd = refl
closing (suc n) (suc (suc k)) low odd = closing n k (omega (arith, low)) (λ even. odd (omega (arith, even)))

pub past : (n k : ℕ) → 2 * n ≤ k → None ≡ slice_get (brackets n) k
past zero k high = refl
past (suc n) zero high = absurd (omega (arith, high))
past (suc n) (suc zero) high = absurd (omega (arith, high))
past (suc n) (suc (suc k)) high = past n k (omega (arith, high))

-- ---- a type's name is its class's with brackets

turned : (n : ℕ) → brackets n ++ (91 ∷ 93 ∷ []) ≡ 91 ∷ 93 ∷ brackets n
turned zero = refl
turned (suc n) = ap (λ xs. 91 ∷ 93 ∷ xs) (turned n)

regrouped : (xs ys zs : List ℕ) → (xs ++ ys) ++ zs ≡ xs ++ (ys ++ zs)
regrouped [] ys zs = refl
regrouped (x ∷ xs) ys zs = ap (λ l. x ∷ l) (regrouped xs ys zs)

none_more : (xs : List ℕ) → xs ≡ xs ++ []
none_more [] = refl
none_more (x ∷ xs) = ap (λ l. x ∷ l) (none_more xs)

abbrev class_units : Classes → Option Id → List ℕ
class_units cs o = unwrap_or (option_map (full_units cs) o) []

module _ (cs : Classes) where
  in_brackets_units : (n : ℕ) (t : CliType) → type_units cs (in_brackets n t) ≡ type_units cs t ++ brackets n
  in_brackets_units zero t = none_more (type_units cs t)
  in_brackets_units (suc n) t =
      ap (λ xs. xs ++ (91 ∷ 93 ∷ [])) (in_brackets_units n t) ∙ regrouped (type_units cs t) (brackets n) (91 ∷ 93 ∷ []) ∙ ap (λ xs. type_units cs t ++ xs) (turned n)

  plain_units : (e : Elem) (of : TypeAt) → type_units cs (plain_type e of) ≡ class_units cs (class_of cs (plain_type e of))
  plain_units e of = by e
    where
      number : (e : Elem) (b : Bool) → type_units cs (if b then Basic e else EnumOf e (id_of of)) ≡ class_units cs (class_of cs (if b then Basic e else EnumOf e (id_of of)))
      number e true = refl
      number e false = refl

      by : (e : Elem) → type_units cs (plain_type e of) ≡ class_units cs (class_of cs (plain_type e of))
      by elem.Class = refl
      by elem.Value = refl
      by elem.Void = number elem.Void (is_no_row of)
      by elem.Bool = number elem.Bool (is_no_row of)
      by elem.Char = number elem.Char (is_no_row of)
      by elem.I1 = number elem.I1 (is_no_row of)
      by elem.U1 = number elem.U1 (is_no_row of)
      by elem.I2 = number elem.I2 (is_no_row of)
      by elem.U2 = number elem.U2 (is_no_row of)
      by elem.I4 = number elem.I4 (is_no_row of)
      by elem.U4 = number elem.U4 (is_no_row of)
      by elem.I8 = number elem.I8 (is_no_row of)
      by elem.U8 = number elem.U8 (is_no_row of)
      by elem.String = number elem.String (is_no_row of)
      by elem.Object = number elem.Object (is_no_row of)

  module _ (of : BoardType) where
    abbrev class : Option Id
    class = class_of cs (plain_type of.elem of.of)

    units : type_units cs (cli_type of) ≡ class_units cs class ++ brackets of.ranks
    units = in_brackets_units of.ranks (plain_type of.elem of.of) ∙ ap (λ xs. xs ++ brackets of.ranks) (plain_units of.elem of.of)

    of_class : (c : Id) → class ≡ Some c → type_units cs (cli_type of) ≡ full_units cs c ++ brackets of.ranks
    of_class c e = units ∙ ap (λ o. class_units cs o ++ brackets of.ranks) e

    pub no_class : (k : ℕ) → class ≡ None → slice_get (brackets of.ranks) k ≡ slice_get (type_units cs (cli_type of)) k
    no_class k e = sym (ap (λ xs. slice_get xs k) (units ∙ ap (λ o. class_units cs o ++ brackets of.ranks) e))

    pub in_name : (c : Id) (k unit : ℕ) → class ≡ Some c → slice_get (full_units cs c) k ≡ Some unit → Some unit ≡ slice_get (type_units cs (cli_type of)) k
    in_name c k unit e at = sym (ap (λ xs. slice_get xs k) (of_class c e) ∙ get_front (full_units cs c) (brackets of.ranks) k unit at)

    pub behind_name : (c : Id) (k left : ℕ) → class ≡ Some c → k ≡ length (full_units cs c) + left → slice_get (brackets of.ranks) left ≡ slice_get (type_units cs (cli_type of)) k
    behind_name c k left e at = sym (ap (λ xs. slice_get xs k) (of_class c e) ∙ get_behind (full_units cs c) (brackets of.ranks) k left at)
