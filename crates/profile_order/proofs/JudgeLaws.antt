-- The columns of one file more.
use Rattle.std.proofs.Common.{◌≡◌, ℕ, ◌<◌, List, [], ◌∷◌, ◌++◌, length, get_or, Some, sym, ap, ◌∙◌, subst, arith}
use Rattle.std.specs.Prelude.{◌⊎◌, slice_get}
use Rattle.std.proofs.Common.{inl, inr}
use Rattle.std.proofs.lemmas.Option.{slice_get-get_or}
use Rattle.file_tables.specs.File.{FilePart}
use Rattle.type_names.proofs.Resolving.{got_last}
use Rattle.profile_order.specs.declared.judge.FileColumns.{FileColumns}
use Rattle.profile_order.specs.Judge.{AreFileColumns, AreAllColumns}

pub columns_more : (files : List FilePart) (all new : List FileColumns) (file : ℕ) (c : FileColumns) → new ≡ all ++ c ∷ [] → length all ≡ file → ((k : ℕ) (d : FileColumns) → slice_get all k ≡ Some d → AreFileColumns files k d) → AreFileColumns files file c → (k : ℕ) (d : FileColumns) → slice_get new k ≡ Some d → AreFileColumns files k d
columns_more files all new file c pushed count before here k d at = go (got_last all c k d (subst (λ (xs : List FileColumns). slice_get xs k ≡ Some d) pushed at))
  where
    go : (slice_get all k ≡ Some d) ⊎ ((k ≡ length all) × (c ≡ d)) → AreFileColumns files k d
    go (inl e) = before k d e
    go (inr last) = subst (λ n. AreFileColumns files n d) (sym (last.0 ∙ count)) (subst (AreFileColumns files file) last.1 here)

-- those of a file that is there
pub columns_at : (files : List FilePart) (all : List FileColumns) (file k : ℕ) (c : FileColumns) → AreAllColumns files all → file < length files → k ≡ file → c ≡ get_or all k c → AreFileColumns files file c
columns_at files all file k c are below same is =
    let within : k < length all = omega (arith, below, same, are.count) in
    subst (λ n. AreFileColumns files n c) same (are.each k c (slice_get-get_or all k c within ∙ ap Some (sym is)))
