-- The rows of a table of all assemblies, one behind the other.
use Rattle.std.proofs.Common.{◌≡◌, ℕ, zero, suc, ◌+◌, List, [], ◌∷◌, ◌++◌, length, Some, refl, sym, ap, ◌∙◌, subst, arith, length-append}
use Rattle.std.specs.Prelude.{slice_get}
use Rattle.machine.specs.Data.{Id}
use Rattle.assemblies.specs.Rows.{Assembly}
use Rattle.assemblies.specs.Binding.{id_at, numbered}
use Rattle.assemblies.specs.Closed.{Each}
use Rattle.world_rows.specs.World.{type_count, reference_count}

module _ {A : Type 0} (table : Assembly → List A) where
  abbrev ids_of : ℕ → ℕ → List A → List Id
  ids_of f n xs = numbered (λ m x. id_at f m) n xs

  abbrev pub ids : ℕ → List Assembly → List Id
  ids f [] = []
  ids f (p ∷ ps) = ids_of f 0 (table p) ++ ids (suc f) ps

  as_many : (f n : ℕ) (xs : List A) → length (ids_of f n xs) ≡ length xs
  as_many f n [] = refl
  as_many f n (x ∷ xs) = ap suc (as_many f (suc n) xs)

  module _ (P : Id → Type 0) where
    both : (xs ys : List Id) → Each P (xs ++ ys) → Each P xs × Each P ys
    both [] ys h = (tt, h)
    both (x ∷ xs) ys h = let rest = both xs ys h.1 in ((h.0, rest.0), rest.1)

    of_row : (f n : ℕ) (xs : List A) → Each P (ids_of f n xs) → (i : ℕ) (x : A) → slice_get xs i ≡ Some x → P (id_at f (n + i))
    of_row f n [] h i x e = absurd (cc e)
    of_row f n (y ∷ ys) h zero x e = let same : n ≡ n + 0 = omega arith in subst (λ m. P (id_at f m)) same h.0
    of_row f n (y ∷ ys) h (suc i) x e = let same : suc n + i ≡ n + suc i = omega arith in subst (λ m. P (id_at f m)) same (of_row f (suc n) ys h.1 i x e)

    -- what holds of all of them holds of a row that is there
    pub of_id : (f : ℕ) (ps : List Assembly) → Each P (ids f ps) → (i n : ℕ) (p : Assembly) (x : A) → slice_get ps i ≡ Some p → slice_get (table p) n ≡ Some x → P (id_at (f + i) n)
    of_id f [] h i n p x e g = absurd (cc e)
    of_id f (q ∷ ps) h zero n p x e g =
        let same : f ≡ f + 0 = omega arith in
        let row : n ≡ 0 + n = omega arith in
        let is : q ≡ p = cc e in
        subst (λ m. P (id_at m n)) same (subst (λ m. P (id_at f m)) (sym row) (of_row f 0 (table q) (both (ids_of f 0 (table q)) (ids (suc f) ps) h).0 n x (ap (λ z. slice_get (table z) n) is ∙ g)))
    of_id f (q ∷ ps) h (suc i) n p x e g =
        let same : suc f + i ≡ f + suc i = omega arith in
        subst (λ m. P (id_at m n)) same (of_id (suc f) ps (both (ids_of f 0 (table q)) (ids (suc f) ps) h).1 i n p x e g)

pub type_ids : (f : ℕ) (ps : List Assembly) → length (ids (λ (p : Assembly). p.types) f ps) ≡ type_count ps
type_ids f [] = refl
type_ids f (p ∷ ps) = length-append (ids_of (λ (q : Assembly). q.types) f 0 p.types) (ids (λ (q : Assembly). q.types) (suc f) ps) ∙ (ap (λ n. n + length (ids (λ (q : Assembly). q.types) (suc f) ps)) (as_many (λ (q : Assembly). q.types) f 0 p.types) ∙ ap (λ n. length p.types + n) (type_ids (suc f) ps))

pub reference_ids : (f : ℕ) (ps : List Assembly) → length (ids (λ (p : Assembly). p.refs) f ps) ≡ reference_count ps
reference_ids f [] = refl
reference_ids f (p ∷ ps) = length-append (ids_of (λ (q : Assembly). q.refs) f 0 p.refs) (ids (λ (q : Assembly). q.refs) (suc f) ps) ∙ (ap (λ n. n + length (ids (λ (q : Assembly). q.refs) (suc f) ps)) (as_many (λ (q : Assembly). q.refs) f 0 p.refs) ∙ ap (λ n. length p.refs + n) (reference_ids (suc f) ps))
