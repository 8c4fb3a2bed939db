-- Rows of fields and methods one after the other, and the types that have them.
use Rattle.std.proofs.Common.{◌≡◌, ℕ, zero, suc, ◌+◌, ◌<◌, ◌≤◌, List, [], ◌∷◌, ◌++◌, map, length, take, Option, Some, None, refl, sym, ap, ◌∙◌, arith, add-one}
use Rattle.std.specs.Prelude.{slice_get}
use Rattle.std.specs.List.{position}
use Rattle.std.specs.Option.{option_map}
use Rattle.std.proofs.lemmas.List.{take_more}
use Rattle.std.proofs.lemmas.Option.{slice_get-map, slice_get_past}
use Rattle.alike.proofs.Lists.{position_map}
use Rattle.file_tables.specs.Metadata.{MetadataPart, rows_of, row_of, row_count}
use Rattle.machine.specs.Throw.{on_some}
use Rattle.assemblies.specs.Rows.{TypeRow, Assembly}
use Rattle.assemblies.specs.Binding.{id_at, numbered, holds, owner_of}
use Rattle.assemblies.proofs.Back.{get_there}
use Rattle.class_table.specs.declared.rows.ClassRow.{ClassRow}
use Rattle.class_table.specs.Outlines.{Outline, outline_seen, outline_of}
use Rattle.member_reading.specs.declared.owner.Span.{Span}
use Rattle.member_reading.specs.Owners.{has_row, first_span}

numbered_push : {A B : Type 0} (make : ℕ → A → B) (n : ℕ) (xs : List A) (x : A) → numbered make n (xs ++ x ∷ []) ≡ numbered make n xs ++ make (n + length xs) x ∷ []
numbered_push make n [] x = let same : n ≡ n + 0 = omega arith in ap (λ k. make k x ∷ []) same
numbered_push make n (y ∷ ys) x = let same : suc n + length ys ≡ n + suc (length ys) = omega arith in ap (λ zs. make n y ∷ zs) (numbered_push make (suc n) ys x ∙ ap (λ k. numbered make (suc n) ys ++ make k x ∷ []) same)

pub numbered_twice : {A B C : Type 0} (g : ℕ → B → C) (f : ℕ → A → B) (n : ℕ) (xs : List A) → numbered g n (numbered f n xs) ≡ numbered (λ i x. g i (f i x)) n xs
numbered_twice g f n [] = refl
numbered_twice g f n (x ∷ xs) = ap (λ ys. g n (f n x) ∷ ys) (numbered_twice g f (suc n) xs)

taken : {A : Type 0} (xs : List A) (n : ℕ) → n < length xs → length (take n xs) ≡ n
taken [] n h = absurd (omega (arith, h))
taken (x ∷ xs) zero h = refl
taken (x ∷ xs) (suc n) h = ap suc (taken xs n (omega (arith, h)))

-- a row more
pub rows_more : {A C : Type 0} (m : MetadataPart) (table n : ℕ) (seen : ℕ → A → C) (make : ℕ → List ℕ → C) (rows : List A) (x : A) → n < row_count m table → length rows ≡ n → numbered seen 0 rows ≡ numbered make 0 (take n (rows_of m table)) → seen n x ≡ make n (row_of m table (n + 1)) → numbered seen 0 (rows ++ x ∷ []) ≡ numbered make 0 (take (n + 1) (rows_of m table))
rows_more m table n seen make rows x within count known here =
    numbered_push seen 0 rows x
    ∙ ap (λ k. numbered seen 0 rows ++ seen k x ∷ []) (let same : 0 + length rows ≡ n = omega (arith, count) in same)
    ∙ ap (λ ys. ys ++ seen n x ∷ []) known
    ∙ ap (λ y. numbered make 0 (take n (rows_of m table)) ++ y ∷ []) (here ∙ ap (λ k. make n (row_of m table k)) (add-one n))
    ∙ sym
    (ap (numbered make 0) (take_more (rows_of m table) n [] within)
    ∙ numbered_push make 0 (take n (rows_of m table)) (row_of m table (suc n))
    ∙ ap (λ k. numbered make 0 (take n (rows_of m table)) ++ make k (row_of m table (suc n)) ∷ []) (let len = taken (rows_of m table) n within in let same : 0 + length (take n (rows_of m table)) ≡ n = omega (arith, len) in same))

-- the owners of rows that are read one after the other
pub same_owners : {A : Type 0} (owner : A → Option ℕ) (rows : List A) (owners : List (Option ℕ)) (file n : ℕ) → map owner rows ≡ owners → on_some (slice_get rows n) (λ x. option_map (id_at file) (owner x)) ≡ on_some (slice_get owners n) (option_map (id_at file))
same_owners {A} owner rows owners file n e = go (slice_get rows n) ∙ ap (λ o. on_some o (option_map (id_at file))) (sym (slice_get-map owner rows n) ∙ ap (λ xs. slice_get xs n) e)
  where
    go : (o : Option A) → on_some o (λ x. option_map (id_at file) (owner x)) ≡ on_some (option_map owner o) (option_map (id_at file))
    go None = refl
    go (Some x) = refl

module _ (k : ℕ) (qs : List Assembly) (file : ℕ) (p : Assembly) (here : slice_get qs file ≡ Some p) {A : Type 0} (part : Assembly → List A) (first count : TypeRow → ℕ) where
  -- where the rows of the table say of the types what the assembly does
  pub owner_there : (span : Outline → Span) (own : ClassRow → Span) (classes : List ClassRow) (n : ℕ) → map outline_seen classes ≡ map (outline_of k qs file) p.types → ((c : ClassRow) → has_row n (own c) ≡ has_row n (span (outline_seen c))) → ((t : TypeRow) → has_row n (span (outline_of k qs file t)) ≡ holds (first t) (count t) n) → n < length (part p) → owner_of part first count qs (id_at file n) ≡ option_map (id_at file) (first_span (map own classes) n)
  owner_there span own classes n read same meant within =
      ap (λ o. on_some o (λ (q : Assembly). on_some (slice_get (part q) n) (λ x. option_map (id_at file) (position (λ t. holds (first t) (count t) n) q.types)))) here
      ∙ ap (λ o. on_some o (λ x. option_map (id_at file) (position (λ t. holds (first t) (count t) n) p.types))) (get_there (part p) n within).1
      ∙ ap (option_map (id_at file))
      (sym (position_map (outline_of k qs file) (λ o. has_row n (span o)) (λ t. holds (first t) (count t) n) p.types meant)
      ∙ ap (position (λ o. has_row n (span o))) (sym read)
      ∙ position_map outline_seen (λ o. has_row n (span o)) (λ c. has_row n (own c)) classes (λ c. sym (same c))
      ∙ sym (position_map own (has_row n) (λ c. has_row n (own c)) classes (λ c. refl)))

  pub owner_past : (n : ℕ) → length (part p) ≤ n → owner_of part first count qs (id_at file n) ≡ None
  owner_past n past =
      ap (λ o. on_some o (λ (q : Assembly). on_some (slice_get (part q) n) (λ x. option_map (id_at file) (position (λ t. holds (first t) (count t) n) q.types)))) here
      ∙ ap (λ o. on_some o (λ x. option_map (id_at file) (position (λ t. holds (first t) (count t) n) p.types))) (slice_get_past (part p) n past)
