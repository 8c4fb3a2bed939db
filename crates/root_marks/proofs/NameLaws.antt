-- The names of the classes that are kept of any program.
use Rattle.std.proofs.Common.{◌≡◌, ◌⊎◌, inl, inr, ℕ, zero, suc, true, List, [], ◌∷◌, map, Option, Some, None, refl, ap, ◌∙◌}
use Rattle.std.specs.Prelude.{codes}
use Rattle.std.specs.List.{filter, filter_map, cons_option}
use Rattle.board_types.specs.declared.board.Known.{Known}
use Rattle.board_types.specs.declared.board.Known.TheVariants as exception
use Rattle.plain_types.specs.declared.elem.Elem.{Elem}
use Rattle.plain_types.specs.declared.elem.Elem.TheVariants as elem
use Rattle.machine_rename.specs.Rename.{by_instructions}
use Rattle.classes.specs.Queries.{basic_name, elements, known_name, knowns}
use Rattle.member_rules.proofs.Among.{Among, later, in_front, in_rest, in_either, in_map, from_map, in_filter, from_filter}
use Rattle.root_marks.specs.Roots.{root_names}

-- ---- lists

module _ {A B : Type 0} (g : A → Option B) where
  pub in_filter_map : (xs : List A) (x : A) (z : B) → Among xs x → g x ≡ Some z → Among (filter_map g xs) z
  in_filter_map [] x z (k, e) h = absurd (cc e)
  in_filter_map (y ∷ ys) x z (zero, e) h = let same : y ≡ x = cc e in go (g y) (ap g same ∙ h)
    where
      go : (o : Option B) → o ≡ Some z → Among (cons_option o (filter_map g ys)) z
      go None e = absurd (cc e)
      go (Some w) e = (zero, e)
  in_filter_map (y ∷ ys) x z (suc k, e) h = go (g y) (in_filter_map ys x z (k, e) h)
    where
      go : (o : Option B) → Among (filter_map g ys) z → Among (cons_option o (filter_map g ys)) z
      go None r = r
      go (Some w) r = later w (filter_map g ys) z r

  pub from_filter_map : (xs : List A) (z : B) → Among (filter_map g xs) z → (x : A) × (Among xs x × (g x ≡ Some z))
  from_filter_map [] z (k, e) = absurd (cc e)
  from_filter_map (y ∷ ys) z h = go (g y) refl h (from_filter_map ys z)
    where
      go : (o : Option B) → g y ≡ o → Among (cons_option o (filter_map g ys)) z → (Among (filter_map g ys) z → (x : A) × (Among ys x × (g x ≡ Some z))) → (x : A) × (Among (y ∷ ys) x × (g x ≡ Some z))
      go None f r rest = let v = rest r in (v.0, (later y ys v.0 v.1.0, v.1.1))
      go (Some w) f (zero, e) rest = (y, ((zero, refl), f ∙ e))
      go (Some w) f (suc k, e) rest = let v = rest (k, e) in (v.0, (later y ys v.0 v.1.0, v.1.1))

-- ---- names

has_element : (e : Elem) (name : List ℕ) → basic_name e ≡ Some name → Among elements e
has_element elem.Bool name b = (0, refl)
has_element elem.Char name b = (1, refl)
has_element elem.I1 name b = (2, refl)
has_element elem.U1 name b = (3, refl)
has_element elem.I2 name b = (4, refl)
has_element elem.U2 name b = (5, refl)
has_element elem.I4 name b = (6, refl)
has_element elem.U4 name b = (7, refl)
has_element elem.I8 name b = (8, refl)
has_element elem.U8 name b = (9, refl)
has_element elem.String name b = (10, refl)
has_element elem.Object name b = (11, refl)
has_element elem.Void name b = absurd (cc b)
has_element elem.Class name b = absurd (cc b)
has_element elem.Value name b = absurd (cc b)

has_known : (k : Known) → Among knowns k
has_known exception.NullReference = (0, refl)
has_known exception.IndexOutOfRange = (1, refl)
has_known exception.Overflow = (2, refl)
has_known exception.Arithmetic = (3, refl)
has_known exception.DivideByZero = (4, refl)
has_known exception.InvalidCast = (5, refl)
has_known exception.ArrayTypeMismatch = (6, refl)
has_known exception.Argument = (7, refl)
has_known exception.ArgumentNull = (8, refl)
has_known exception.ArgumentOutOfRange = (9, refl)

abbrev element_names : List (List ℕ)
element_names = filter_map basic_name elements

abbrev thrown_names : List (List ℕ)
thrown_names = map known_name (filter by_instructions knowns)

abbrev other_names : List (List ℕ)
other_names = codes "Array" ∷ codes "Exception" ∷ thrown_names

pub element_named : (e : Elem) (name : List ℕ) → basic_name e ≡ Some name → Among root_names name
element_named e name b = in_front element_names other_names name (in_filter_map basic_name elements e name (has_element e name b) b)

pub array_named : Among root_names (codes "Array")
array_named = in_rest element_names other_names (codes "Array") (0, refl)

pub exception_named : Among root_names (codes "Exception")
exception_named = in_rest element_names other_names (codes "Exception") (1, refl)

pub thrown_named : (k : Known) → by_instructions k ≡ true → Among root_names (known_name k)
thrown_named k b =
    in_rest element_names other_names (known_name k)
    (later (codes "Array") (codes "Exception" ∷ thrown_names) (known_name k)
    (later (codes "Exception") thrown_names (known_name k) (in_map known_name (filter by_instructions knowns) k (in_filter by_instructions knowns k b (has_known k)))))

-- what a name is of
pub data NameOf (name : List ℕ) : Type 0 where
  OfElement : (e : Elem) → basic_name e ≡ Some name → NameOf name
  OfArray : codes "Array" ≡ name → NameOf name
  OfException : codes "Exception" ≡ name → NameOf name
  OfThrown : (k : Known) → by_instructions k ≡ true → known_name k ≡ name → NameOf name

pub name_of : (name : List ℕ) → Among root_names name → NameOf name
name_of name h = go (in_either element_names other_names name h)
  where
    other : Among other_names name → NameOf name
    other (zero, e) = OfArray (cc e)
    other (suc zero, e) = OfException (cc e)
    other (suc (suc k), e) =
        let w = from_map known_name (filter by_instructions knowns) name (k, e) in
        OfThrown w.0 (from_filter by_instructions knowns w.0 w.1.0).1 w.1.1

    go : Among element_names name ⊎ Among other_names name → NameOf name
    go (inl g) = let w = from_filter_map basic_name elements name g in OfElement w.0 w.1.1
    go (inr g) = other g
