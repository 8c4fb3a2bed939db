-- Files read one after the other, and the interfaces that are still to come.
use Rattle.std.proofs.Common.{◌≡◌, ℕ, suc, ◌+◌, ◌⊎◌, inl, inr, List, [], ◌∷◌, ◌++◌, length, map, Some, refl, sym, ap, ◌∙◌, ◌<◌, get_or, arith}
use Rattle.std.specs.Option.{option_map}
use Rattle.std.proofs.lemmas.Option.{slice_get-map, slice_get-get_or}
use Rattle.assemblies.specs.Binding.{numbered}
use Rattle.assemblies.proofs.Numbered.{get_numbered}
use Rattle.std.specs.Prelude.{slice_get}
use Rattle.file_tables.specs.File.{FilePart}
use Rattle.type_names.proofs.Resolving.{got_last}
use Rattle.class_table.specs.declared.rows.ClassRow.{ClassRow}
use Rattle.class_table.specs.Outlines.{outline_seen, outlines_at, AreRead}

pub read_more : (files : List FilePart) (all : List (List ClassRow)) (rows : List ClassRow) → AreRead files all → map outline_seen rows ≡ outlines_at files (length all) → AreRead files (all ++ rows ∷ [])
read_more files all rows read added file got e = go (got_last all rows file got e)
  where
    go : (slice_get all file ≡ Some got) ⊎ ((file ≡ length all) × (rows ≡ got)) → map outline_seen got ≡ outlines_at files file
    go (inl f) = read file got f
    go (inr (f, g)) = ap (map outline_seen) (sym g) ∙ added ∙ ap (outlines_at files) (sym f)

-- ---- the lists that are still to come

pub first_to_come : {A B : Type 0} (g : A → B) (xs rest : List A) (x : A) → xs ≡ x ∷ rest → slice_get (map g xs) 0 ≡ Some (g x)
first_to_come g xs rest x e = ap (λ ys. slice_get (map g ys) 0) e

pub others_to_come : {A B : Type 0} (g : A → B) (xs rest : List A) (x : A) (k : ℕ) → xs ≡ x ∷ rest → slice_get (map g xs) (suc k) ≡ slice_get (map g rest) k
others_to_come g xs rest x k e = ap (λ ys. slice_get (map g ys) (suc k)) e

-- ---- keys by their rows

pub as_many : {A B C : Type 0} (f : A → C) (make : ℕ → B → C) (n : ℕ) (keys : List A) (xs : List B) → map f keys ≡ numbered make n xs → length keys ≡ length xs
as_many f make n [] [] e = refl
as_many f make n [] (x ∷ xs) e = cc e
as_many f make n (k ∷ keys) [] e = cc e
as_many f make n (k ∷ keys) (x ∷ xs) e = let rest : map f keys ≡ numbered make (suc n) xs = cc e in ap suc (as_many f make (suc n) keys xs rest)

pub key_at : {A B C : Type 0} (f : A → C) (make : ℕ → B → C) (keys : List A) (xs : List B) (n : ℕ) (d : A) (d' : B) → map f keys ≡ numbered make 0 xs → n < length xs → f (get_or keys n d) ≡ make n (get_or xs n d')
key_at f make keys xs n d d' e h =
    let same = as_many f make 0 keys xs e in
    let inside : n < length keys = omega arith in
    let left : slice_get (map f keys) n ≡ Some (f (get_or keys n d)) = slice_get-map f keys n ∙ ap (option_map f) (slice_get-get_or keys n d inside) in
    let right : slice_get (numbered make 0 xs) n ≡ Some (make n (get_or xs n d')) = get_numbered make 0 n xs ∙ ap (option_map (make (0 + n))) (slice_get-get_or xs n d' h) ∙ ap (λ k. Some (make k (get_or xs n d'))) (from_none n) in
    let both : slice_get (map f keys) n ≡ slice_get (numbered make 0 xs) n = ap (λ ys. slice_get ys n) e in
    cc
  where
    from_none : (k : ℕ) → 0 + k ≡ k
    from_none k = omega arith
