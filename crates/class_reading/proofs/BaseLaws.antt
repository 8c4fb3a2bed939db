-- The element of a class, found among the elements with their classes.
use Rattle.std.proofs.Common.{◌≡◌, ℕ, suc, ◌<◌, Bool, true, false, cond, List, ◌∷◌, length, drop, map, Option, Some, None, refl, sym, ap, ◌∙◌, get_or, ◌≤◌}
use Rattle.std.proofs.Math.Seq.{drop-cons}
use Rattle.std.specs.List.{find}
use Rattle.std.specs.Option.{option_map}
use Rattle.plain_types.specs.declared.elem.Elem.{Elem}
use Rattle.machine.specs.Data.{Id}
use Rattle.classes.specs.Queries.{some_eq, elements}
use Rattle.alike.proofs.Lists.{find_map}
use Rattle.assemblies.specs.Rows.{Assembly}
use Rattle.world_rows.specs.Kinds.{is_class_of, element_of}
use Rattle.class_reading.specs.declared.base.Basic.{Basic}
use Rattle.class_reading.specs.Base.{basic_seen, basic_of}
use Rattle.class_reading.proofs.FirstLaws.{drop_past}

abbrev pub is_basic : Id → Elem × Option Id → Bool
is_basic c b = some_eq (Some c) b.1

abbrev pub element_by : Id → List (Elem × Option Id) → Option Elem
element_by c bs = option_map (λ (b : Elem × Option Id). b.0) (find (is_basic c) bs)

pub element_is : (ps : List Assembly) (c : Id) (bs : List (Elem × Option Id)) → bs ≡ map (basic_of ps) elements → element_by c bs ≡ element_of ps c
element_is ps c bs e =
    ap (element_by c) e
    ∙ ap (option_map (λ (b : Elem × Option Id). b.0)) (find_map (basic_of ps) (is_basic c) (is_class_of ps c) elements (λ x. refl))
    ∙ back (find (is_class_of ps c) elements)
  where
    back : (o : Option Elem) → option_map (λ (b : Elem × Option Id). b.0) (option_map (basic_of ps) o) ≡ o
    back None = refl
    back (Some x) = refl

pub element_here : (c : Id) (b : Elem × Option Id) (bs : List (Elem × Option Id)) → is_basic c b ≡ true → element_by c (b ∷ bs) ≡ Some b.0
element_here c b bs e = ap (λ t. option_map (λ (x : Elem × Option Id). x.0) (cond t (Some b) (find (is_basic c) bs))) e

pub element_behind : (c : Id) (b : Elem × Option Id) (bs : List (Elem × Option Id)) → is_basic c b ≡ false → element_by c (b ∷ bs) ≡ element_by c bs
element_behind c b bs e = ap (λ t. option_map (λ (x : Elem × Option Id). x.0) (cond t (Some b) (find (is_basic c) bs))) e

module _ (ps : List Assembly) (c : Id) (bs : List Basic) (i : ℕ) (known : map basic_seen bs ≡ map (basic_of ps) elements) (so_far : element_by c (map basic_seen bs) ≡ element_by c (map basic_seen (drop i bs))) where
  pub found_here : (d : Basic) → i < length bs → is_basic c (basic_seen (get_or bs i d)) ≡ true → Some (get_or bs i d).elem ≡ element_of ps c
  found_here d h e =
      sym (element_here c (basic_seen (get_or bs i d)) (map basic_seen (drop (suc i) bs)) e)
      ∙ ap (λ xs. element_by c (map basic_seen xs)) (sym (drop-cons bs i d h))
      ∙ sym so_far
      ∙ element_is ps c (map basic_seen bs) known

  pub found_nowhere : length bs ≤ i → None ≡ element_of ps c
  found_nowhere h = sym (ap (λ xs. element_by c (map basic_seen xs)) (drop_past bs i h)) ∙ sym so_far ∙ element_is ps c (map basic_seen bs) known
