-- Lists that a loop over the rows of a table makes.
use Rattle.std.proofs.Common.{◌≡◌, ℕ, zero, suc, ◌+◌, ◌-◌, ◌≢◌, ◌<◌, ◌≤◌, List, [], ◌∷◌, ◌++◌, length, take, map, refl, sym, ap, ◌∙◌, arith, add-one}
use Rattle.std.proofs.lemmas.List.{map-append, take_more, length-take-le}
use Rattle.file_tables.specs.Metadata.{MetadataPart, rows_of, row_of, row_count}
use Rattle.assemblies.specs.Binding.{numbered}
use Rattle.world_rows.specs.Tokens.{from_zero}

-- the row of a number that counts from 1
pub row_is : (m : MetadataPart) (table n : ℕ) → row_of m table (n + 1) ≡ row_of m table (suc n)
row_is m table n = ap (row_of m table) (add-one n)

pub from_zero_is : (count row : ℕ) → row ≢ 0 → from_zero count row ≡ row - 1
from_zero_is count zero h = absurd (h refl)
from_zero_is count (suc n) h = let same : n ≡ suc n - 1 = omega arith in same

numbered_push : {A B : Type 0} (make : ℕ → A → B) (n : ℕ) (xs : List A) (x : A) → numbered make n (xs ++ x ∷ []) ≡ numbered make n xs ++ make (n + length xs) x ∷ []
numbered_push make n [] x = let same : n ≡ n + 0 = omega arith in ap (λ k. make k x ∷ []) same
numbered_push make n (y ∷ ys) x = let same : suc n + length ys ≡ n + suc (length ys) = omega arith in ap (λ zs. make n y ∷ zs) (numbered_push make (suc n) ys x ∙ ap (λ k. numbered make (suc n) ys ++ make k x ∷ []) same)

module _ (m : MetadataPart) (table n : ℕ) (inside : n < row_count m table) where
  taken : length (take n (rows_of m table)) ≡ n
  taken = let few : n ≤ length (rows_of m table) = omega arith in length-take-le n (rows_of m table) few

  one_more : take (n + 1) (rows_of m table) ≡ take n (rows_of m table) ++ row_of m table (suc n) ∷ []
  one_more = take_more (rows_of m table) n [] inside

  pub row_more : {A B : Type 0} (seen : A → B) (make : ℕ → List ℕ → B) (keys : List A) (key : A) → map seen keys ≡ numbered make 0 (take n (rows_of m table)) → seen key ≡ make n (row_of m table (suc n)) → map seen (keys ++ key ∷ []) ≡ numbered make 0 (take (n + 1) (rows_of m table))
  row_more seen make keys key e k =
      map-append seen keys (key ∷ [])
      ∙ ap (λ ys. ys ++ seen key ∷ []) e
      ∙ ap (λ y. numbered make 0 (take n (rows_of m table)) ++ y ∷ []) k
      ∙ sym (ap (numbered make 0) one_more ∙ numbered_push make 0 (take n (rows_of m table)) (row_of m table (suc n)) ∙ ap (λ i. numbered make 0 (take n (rows_of m table)) ++ make i (row_of m table (suc n)) ∷ []) count)
    where
      count : 0 + length (take n (rows_of m table)) ≡ n
      count = omega (arith, taken)

  pub column_more : {B : Type 0} (make : List ℕ → B) (xs : List B) (x : B) → xs ≡ map make (take n (rows_of m table)) → x ≡ make (row_of m table (suc n)) → xs ++ x ∷ [] ≡ map make (take (n + 1) (rows_of m table))
  column_more make xs x e k =
      ap (λ ys. ys ++ x ∷ []) e
      ∙ ap (λ y. map make (take n (rows_of m table)) ++ y ∷ []) k
      ∙ sym (ap (map make) one_more ∙ map-append make (take n (rows_of m table)) (row_of m table (suc n) ∷ []))
