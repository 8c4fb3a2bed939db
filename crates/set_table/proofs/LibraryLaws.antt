-- The first assembly of the base library's name, and the sum of types and references, an image after the other.
use Rattle.std.proofs.Common.{◌≡◌, ℕ, zero, suc, ◌+◌, ◌*◌, ◌≤◌, Bool, true, false, List, [], ◌∷◌, ◌++◌, length, take, drop, Option, Some, None, refl, sym, ap, ◌∙◌, arith, add-one}
use Rattle.std.specs.Prelude.{codes, slice_get, if◌then◌else◌}
use Rattle.std.specs.Option.{option_map}
use Rattle.std.proofs.lemmas.Option.{slice_get-map}
use Rattle.machine.specs.Texts.{same_text}
use Rattle.assemblies.specs.Rows.{Assembly}
use Rattle.image_bytes.specs.Layout.{Image}
use Rattle.world_rows.specs.World.{type_count, reference_count, size_of}
use Rattle.scope_walk.proofs.Lists.{none_past}
use Rattle.tiny_rows.specs.Rows.{rows_seen}
use Rattle.set_names.specs.Names.{seen_all}
use Rattle.set_names.proofs.IndexLaws.{take_next}
use Rattle.set_table.specs.Whole.{library_number}

-- the assemblies from a number on
abbrev pub library_from : List Assembly → ℕ → Option ℕ
library_from ps n = option_map (λ k. n + k) (library_number (drop n ps))

from_none : (o : Option ℕ) → o ≡ option_map (λ k. 0 + k) o
from_none None = refl
from_none (Some n) = let same : n ≡ 0 + n = omega arith in ap Some same

pub library_begins : (ps : List Assembly) → library_number ps ≡ library_from ps 0
library_begins ps = from_none (library_number ps)

drop_there : {A : Type 0} (xs : List A) (n : ℕ) (x : A) → slice_get xs n ≡ Some x → drop n xs ≡ x ∷ drop (suc n) xs
drop_there [] n x e = cc e
drop_there (y ∷ ys) zero x e = let same : y ≡ x = cc e in ap (λ z. z ∷ ys) same
drop_there (y ∷ ys) (suc n) x e = drop_there ys n x e

drop_past : {A : Type 0} (xs : List A) (n : ℕ) → length xs ≤ n → drop n xs ≡ []
drop_past [] zero h = refl
drop_past [] (suc n) h = refl
drop_past (y ∷ ys) zero h = absurd (omega arith)
drop_past (y ∷ ys) (suc n) h = drop_past ys n (omega arith)

types_more : (ps : List Assembly) (p : Assembly) → type_count (ps ++ p ∷ []) ≡ type_count ps + length p.types
types_more [] p = omega arith
types_more (q ∷ qs) p = omega (arith, types_more qs p)

references_more : (ps : List Assembly) (p : Assembly) → reference_count (ps ++ p ∷ []) ≡ reference_count ps + length p.refs
references_more [] p = omega arith
references_more (q ∷ qs) p = omega (arith, references_more qs p)

module _ (images : List Image) (n : ℕ) where
  there : (i : Image) → Some i ≡ slice_get images n → slice_get (seen_all images) n ≡ Some (rows_seen i)
  there i e = slice_get-map rows_seen images n ∙ ap (option_map rows_seen) (sym e)

  past : None ≡ slice_get images n → length (seen_all images) ≤ n
  past e = none_past (seen_all images) n (slice_get-map rows_seen images n ∙ ap (option_map rows_seen) (sym e))

  by_name : (i : Image) → Some i ≡ slice_get images n → (b : Bool) → b ≡ same_text (rows_seen i).name (codes "mscorlib") → library_from (seen_all images) n ≡ option_map (λ k. n + k) (if b then Some 0 else option_map suc (library_number (drop (suc n) (seen_all images))))
  by_name i e b f =
      ap (λ ps. option_map (λ k. n + k) (library_number ps)) (drop_there (seen_all images) n (rows_seen i) (there i e))
      ∙ ap (λ t. option_map (λ k. n + k) (if t then Some 0 else option_map suc (library_number (drop (suc n) (seen_all images))))) (sym f)

  pub library_here : (i : Image) → Some i ≡ slice_get images n → true ≡ same_text (rows_seen i).name (codes "mscorlib") → library_from (seen_all images) n ≡ Some n
  library_here i e f = let same : n + 0 ≡ n = omega arith in by_name i e true f ∙ ap Some same

  pub library_behind : (i : Image) → Some i ≡ slice_get images n → false ≡ same_text (rows_seen i).name (codes "mscorlib") → library_from (seen_all images) n ≡ library_from (seen_all images) (n + 1)
  library_behind i e f = by_name i e false f ∙ go (library_number (drop (suc n) (seen_all images))) ∙ ap (library_from (seen_all images)) (sym (add-one n))
    where
      go : (o : Option ℕ) → option_map (λ k. n + k) (option_map suc o) ≡ option_map (λ k. suc n + k) o
      go None = refl
      go (Some k) = let same : n + suc k ≡ suc n + k = omega arith in ap Some same

  pub library_none : None ≡ slice_get images n → library_from (seen_all images) n ≡ None
  library_none e = ap (λ ps. option_map (λ k. n + k) (library_number ps)) (drop_past (seen_all images) n (past e))

  -- ---- sums
  pub size_more : (i : Image) → Some i ≡ slice_get images n → size_of (take (n + 1) (seen_all images)) ≡ size_of (take n (seen_all images)) + (2 * length (rows_seen i).types + length (rows_seen i).refs)
  size_more i e =
      let types = types_more (take n (seen_all images)) (rows_seen i) in
      let references = references_more (take n (seen_all images)) (rows_seen i) in
      ap size_of (take_next (seen_all images) n (rows_seen i) (there i e)) ∙ omega (arith, types, references)
