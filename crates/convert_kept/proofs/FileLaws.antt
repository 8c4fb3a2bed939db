-- A file of a world as one whose kept rows have an image, and what is answered of it.
use Rattle.std.proofs.Common.{◌≡◌, ◌∙◌, ℕ, zero, suc, Bool, List, [], ◌∷◌, Some, None, sym, ap, subst}
use Rattle.std.specs.Prelude.{slice_get, Ok, Err}
use Rattle.std.specs.List.{zip}
use Rattle.plain_types.specs.declared.fault.Limit.{Limit}
use Rattle.file_tables.specs.File.{FilePart}
use Rattle.assemblies.specs.Rows.{Assembly}
use Rattle.kept_closure.specs.Kept.{HasNamed}
use Rattle.world_rows.specs.World.{assemblies_of}
use Rattle.rows_resolved.specs.Resolved.{IsAccepted}
use Rattle.row_numbers.specs.Tables.{AreCounts}
use Rattle.kept_marks.specs.Kept.{Marked}
use Rattle.kept_marks.specs.Masks.{InFile}
use Rattle.image_bytes.specs.Layout.{onto}
use Rattle.msspot_write.specs.declared.parts.Parts.{Parts}
use Rattle.converted.specs.Choosing.{choice_of}
use Rattle.converted.specs.Images.{image_at, parts_at, parts_cut}
use Rattle.converted.specs.Over.{over_at}
use Rattle.image_codes.specs.Bytes.{HasBytes}
use Rattle.kept_image.specs.Kept.{CutsOnlyPastLimits, IsKeptFile}
use Rattle.convert_kept.specs.Conversion.{unless_over, conversion_at}

-- both parts of a pair of two lists are there
pub zip_at : {A B : Type 0} (xs : List A) (ys : List B) (n : ℕ) (x : A × B) → slice_get (zip xs ys) n ≡ Some x → (slice_get xs n ≡ Some x.0) × (slice_get ys n ≡ Some x.1)
zip_at [] ys n x at = absurd (cc at)
zip_at (a ∷ xs) [] n x at = absurd (cc at)
zip_at {A = A} {B = B} (a ∷ xs) (b ∷ ys) zero x at =
    let same : (a, b) ≡ x = cc at in
    (ap (λ (z : A × B). Some z.0) same, ap (λ (z : A × B). Some z.1) same)
zip_at (a ∷ xs) (b ∷ ys) (suc n) x at = zip_at xs ys n x at

module _ (files : List FilePart) (k : Marked) (f : ℕ) (y : FilePart) (p : Assembly) (kept : InFile) (parts : Parts) where
  -- the rows that are kept have what they name, and these are their parts
  pub kept_file : IsAccepted files → AreCounts (assemblies_of files) k.counts → HasNamed (assemblies_of files) (choice_of files k.marks) → kept ≡ record { kept = k; file = f } → slice_get files f ≡ Some y → slice_get (assemblies_of files) f ≡ Some p → HasBytes y → CutsOnlyPastLimits files k.marks f y p → parts ≡ parts_cut (parts_at files k.marks f y p) → IsKeptFile files k.marks f y p kept parts
  kept_file accepted counts named is there rows bytes cuts are_parts =
      record {
        accepted = accepted;
        named = named;
        has_bytes = bytes;
        is_there = there;
        has_rows = rows;
        counted = subst (λ (i : InFile). AreCounts (assemblies_of files) i.kept.counts) (sym is) counts;
        are_marks = ap (λ (i : InFile). i.kept.marks) is;
        is_file = ap (λ (i : InFile). i.file) is;
        are_parts = are_parts;
        cuts = cuts;
      }

module _ (files : List FilePart) (marks : List Bool) (f : ℕ) (y : FilePart) (x : FilePart × Assembly) (same : y ≡ x.0) where
  -- bytes of the file's image, where no limit is passed
  pub image_told : (image : List ℕ) → image ≡ onto (image_at files marks f (y, x.1)) [] → over_at files marks f (y, x.1) ≡ None → Ok image ≡ conversion_at files marks f x
  image_told image is none =
      let IsTold : FilePart → Type 0 = λ z. Ok image ≡ conversion_at files marks f (z, x.1) in
      let told : IsTold y = ap (λ (bytes : List ℕ). Ok bytes) is ∙ ap (λ o. unless_over o (onto (image_at files marks f (y, x.1)) [])) (sym none) in
      subst IsTold same told

  -- the first limit that is passed
  pub limit_told : (limit : Limit) → over_at files marks f (y, x.1) ≡ Some limit → Err limit ≡ conversion_at files marks f x
  limit_told limit over =
      let IsTold : FilePart → Type 0 = λ z. Err limit ≡ conversion_at files marks f (z, x.1) in
      let told : IsTold y = ap (λ o. unless_over o (onto (image_at files marks f (y, x.1)) [])) (sym over) in
      subst IsTold same told
