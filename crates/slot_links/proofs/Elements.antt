-- Elements of lists that are joined.
use Rattle.std.proofs.Common.{◌≡◌, ◌⊎◌, inl, inr, ⊎_elim, ℕ, zero, suc, ◌+◌, List, [], ◌∷◌, ◌++◌, Option, Some, None, refl, sym, subst, arith}
use Rattle.std.specs.Prelude.{slice_get}
use Rattle.std.specs.List.{flat_map}
use Rattle.machine.specs.Data.{Id}
use Rattle.classes.specs.Classes.{Classes}
use Rattle.assemblies.specs.Binding.{id_at}
use Rattle.row_rules.specs.Links.{Link}
use Rattle.slot_links.specs.Slots.{for_some, links_of, slot_links}

abbrev pub In : {A : Type 0} → List A → A → Type 0
In xs x = (k : ℕ) × (slice_get xs k ≡ Some x)

pub in_front : {A : Type 0} (xs ys : List A) (x : A) (k : ℕ) → slice_get xs k ≡ Some x → In (xs ++ ys) x
in_front [] ys x k e = absurd (cc e)
in_front (y ∷ xs) ys x zero e = (0, e)
in_front (y ∷ xs) ys x (suc k) e = let w = in_front xs ys x k e in (suc w.0, w.1)

pub in_behind : {A : Type 0} (xs ys : List A) (x : A) → In ys x → In (xs ++ ys) x
in_behind [] ys x w = w
in_behind (y ∷ xs) ys x w = let r = in_behind xs ys x w in (suc r.0, r.1)

pub in_either : {A : Type 0} (xs ys : List A) (x : A) (k : ℕ) → slice_get (xs ++ ys) k ≡ Some x → In xs x ⊎ In ys x
in_either [] ys x k e = inr (k, e)
in_either (y ∷ xs) ys x zero e = inl (0, e)
in_either (y ∷ xs) ys x (suc k) e = ⊎_elim (λ w. inl (suc w.0, w.1)) (λ w. inr w) (in_either xs ys x k e)

module _ {A B : Type 0} (links : A → List B) where
  pub in_flat : (xs : List A) (i : ℕ) (y : A) (x : B) → slice_get xs i ≡ Some y → In (links y) x → In (flat_map links xs) x
  in_flat [] i y x e w = absurd (cc e)
  in_flat (z ∷ zs) zero y x e w =
      let same : z ≡ y = cc e in
      let here : In (links z) x = subst (λ q. In (links q) x) (sym same) w in
      in_front (links z) (flat_map links zs) x here.0 here.1
  in_flat (z ∷ zs) (suc i) y x e w = in_behind (links z) (flat_map links zs) x (in_flat zs i y x e w)

  pub from_flat : (xs : List A) (x : B) (k : ℕ) → slice_get (flat_map links xs) k ≡ Some x → (i : ℕ) × ((y : A) × ((slice_get xs i ≡ Some y) × In (links y) x))
  from_flat [] x k e = absurd (cc e)
  from_flat (z ∷ zs) x k e =
      ⊎_elim
      (λ w. (0, (z, (refl, w))))
      (λ w. let r = from_flat zs x w.0 w.1 in (suc r.0, r.1))
      (in_either (links z) (flat_map links zs) x k e)

-- ---- of what is there

module _ {A : Type 0} (links : A → List Link) where
  pub in_some : (o : Option A) (y : A) (l : Link) → o ≡ Some y → In (links y) l → In (for_some links o) l
  in_some o y l e w = subst (λ p. In (for_some links p) l) (sym e) w

  pub from_some : (o : Option A) (l : Link) → In (for_some links o) l → (y : A) × ((o ≡ Some y) × In (links y) l)
  from_some None l w = absurd (let none = w.1 in cc none)
  from_some (Some y) l w = (y, (refl, w))

-- ---- of the classes of a file

module _ (cs : Classes) (f : ℕ) where
  pub in_slots : (b : ℕ) (xs : List (List Id)) (n : ℕ) (ds : List Id) (l : Link) → slice_get xs n ≡ Some ds → In (links_of cs (id_at f (b + n)) ds) l → In (slot_links cs f b xs) l
  in_slots b [] n ds l e w = absurd (cc e)
  in_slots b (es ∷ rest) zero ds l e w =
      let same : es ≡ ds = cc e in
      let place : b + 0 ≡ b = omega arith in
      let here : In (links_of cs (id_at f b) es) l = subst (λ q. In (links_of cs (id_at f b) q) l) (sym same) (subst (λ k. In (links_of cs (id_at f k) ds) l) place w) in
      in_front (links_of cs (id_at f b) es) (slot_links cs f (suc b) rest) l here.0 here.1
  in_slots b (es ∷ rest) (suc n) ds l e w =
      let place : b + suc n ≡ suc b + n = omega arith in
      in_behind (links_of cs (id_at f b) es) (slot_links cs f (suc b) rest) l (in_slots (suc b) rest n ds l e (subst (λ k. In (links_of cs (id_at f k) ds) l) place w))

  pub from_slots : (b : ℕ) (xs : List (List Id)) (l : Link) (k : ℕ) → slice_get (slot_links cs f b xs) k ≡ Some l → (n : ℕ) × ((ds : List Id) × ((slice_get xs n ≡ Some ds) × In (links_of cs (id_at f (b + n)) ds) l))
  from_slots b [] l k e = absurd (cc e)
  from_slots b (es ∷ rest) l k e =
      ⊎_elim
      (λ w. let place : b ≡ b + 0 = omega arith in (0, (es, (refl, subst (λ k. In (links_of cs (id_at f k) es) l) place w))))
      (λ w.
      let r = from_slots (suc b) rest l w.0 w.1 in
      let place : suc b + r.0 ≡ b + suc r.0 = omega arith in
      (suc r.0, (r.1.0, (r.1.1.0, subst (λ k. In (links_of cs (id_at f k) r.1.0) l) place r.1.1.1))))
      (in_either (links_of cs (id_at f b) es) (slot_links cs f (suc b) rest) l k e)
