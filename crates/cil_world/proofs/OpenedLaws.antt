-- The files of a world have opened, so that the rows of their types keep rule 12.
use Rattle.std.proofs.Common.{◌≡◌, ℕ, zero, suc, List, [], ◌∷◌, Some, refl, subst, sym}
use Rattle.std.specs.Prelude.{slice_get, Result, Ok, Err}
use Rattle.plain_types.specs.declared.fault.Fault.{Fault}
use Rattle.file_tables.specs.File.{FilePart, file_of}
use Rattle.world_rows.specs.Read.{TypesStand}
use Rattle.world_rows.proofs.Opened.{types_stand}
use Rattle.type_names.specs.Opening.{joined, opened_from, files_opened}

each_opened : (n : ℕ) (bytes : List (List ℕ)) (files : List FilePart) → opened_from n bytes ≡ Ok files → (file : ℕ) (x : FilePart) → slice_get files file ≡ Some x → (b : List ℕ) × (file_of b ≡ Ok x)
each_opened n [] files e file x at = none files (cc e) at
  where
    none : (fs : List FilePart) → [] ≡ fs → slice_get fs file ≡ Some x → (b : List ℕ) × (file_of b ≡ Ok x)
    none [] same here = absurd (cc here)
    none (y ∷ ys) same here = absurd (cc same)
each_opened n (b ∷ bs) files e file x at = by (λ ys rest i here. each_opened (suc n) bs ys rest i x here) (file_of b) refl (opened_from (suc n) bs) refl e
  where
    found : ((ys : List FilePart) → opened_from (suc n) bs ≡ Ok ys → (i : ℕ) → slice_get ys i ≡ Some x → (c : List ℕ) × (file_of c ≡ Ok x)) → (ys : List FilePart) → opened_from (suc n) bs ≡ Ok ys → (p : FilePart) → file_of b ≡ Ok p → (i : ℕ) → slice_get (p ∷ ys) i ≡ Some x → (c : List ℕ) × (file_of c ≡ Ok x)
    found behind ys rest p first zero here = let same : p ≡ x = cc here in (b, subst (λ y. file_of b ≡ Ok y) same first)
    found behind ys rest p first (suc i) here = behind ys rest i here

    by : ((ys : List FilePart) → opened_from (suc n) bs ≡ Ok ys → (i : ℕ) → slice_get ys i ≡ Some x → (c : List ℕ) × (file_of c ≡ Ok x)) → (r : Result FilePart Fault) → file_of b ≡ r → (rest : Result (List FilePart) Fault) → opened_from (suc n) bs ≡ rest → joined n r rest ≡ Ok files → (c : List ℕ) × (file_of c ≡ Ok x)
    by behind (Ok p) first (Ok ys) rest g = let same : p ∷ ys ≡ files = cc g in found behind ys rest p first file (subst (λ fs. slice_get fs file ≡ Some x) (sym same) at)
    by behind (Ok p) first (Err fault) rest g = absurd (cc g)
    by behind (Err fault) first rest h g = absurd (cc g)

pub all_stand : (bytes : List (List ℕ)) (files : List FilePart) → files_opened bytes ≡ Ok files → TypesStand files
all_stand bytes files e = types_stand files (each_opened 0 bytes files e)
