-- The limits and the image of a file's kept rows by their parts, of what is laid.
use Rattle.std.proofs.Common.{◌≡◌, ◌∙◌, ℕ, Bool, List, length, refl, sym, ap, subst}
use Rattle.std.specs.List.{flat_map}
use Rattle.std.specs.Option.{option_or}
use Rattle.file_tables.specs.File.{FilePart}
use Rattle.assemblies.specs.Rows.{Assembly}
use Rattle.kept_marks.specs.Masks.{InFile}
use Rattle.image_bytes.specs.Layout.{Image}
use Rattle.msspot_write.specs.declared.parts.Parts.{Parts}
use Rattle.msspot_write.specs.Parts.{counted, first_over, image_of_parts, over_of_parts, pools_of}
use Rattle.converted.specs.Over.{over_counts, over_distances, over_switches, over_file}
use Rattle.converted.proofs.CutLaws.{same_bytes}
use Rattle.converted.specs.Images.{parts_at}
use Rattle.image_numbers.specs.Numbers.{InImage}
use Rattle.image_numbers.specs.Named.{AreNumbersOf}
use Rattle.kept_image.specs.Kept.{IsKeptFile, of_file}

module _ (files : List FilePart) (marks : List Bool) (f : ℕ) (x : FilePart) (p : Assembly) (kept : InFile) (parts : Parts) (k : IsKeptFile files marks f x p kept parts) where
  -- with the strings of the parts as they are
  pub numbers_of : AreNumbersOf files marks f x p (record { kept = kept; metadata = x.metadata; strings = (pools_of (parts_at files marks f x p)).strings })
  numbers_of = record { counted = k.counted; are_marks = k.are_marks; is_file = k.is_file; is_metadata = refl; are_strings = refl }

  -- with those of the cut parts, where nothing is cut
  pub numbers_in : (i : InImage) → i ≡ record { kept = kept; metadata = x.metadata; strings = (pools_of parts).strings } → parts ≡ parts_at files marks f x p → AreNumbersOf files marks f x p i
  numbers_in i is uncut =
      subst (λ (j : InImage). AreNumbersOf files marks f x p j) (sym is)
      (record { counted = k.counted; are_marks = k.are_marks; is_file = k.is_file; is_metadata = refl; are_strings = ap (λ q. (pools_of q).strings) uncut })

module _ (f : ℕ) (cut whole : Parts) (image : Image) (laid codes : List (List ℕ)) where
  pub counts_law : image_of_parts whole laid ≡ image → ((cs : List (List ℕ)) → over_of_parts cut cs ≡ over_of_parts whole cs) → length (flat_map (λ c. c) laid) ≡ length (flat_map (λ c. c) codes) → over_counts f image ≡ of_file f (over_of_parts cut codes)
  counts_law same limits long =
      ap (λ (i : Image). of_file f (first_over 0 (counted i))) (sym same)
      ∙ ap (of_file f) (same_bytes whole laid codes long)
      ∙ ap (of_file f) (sym (limits codes))

  pub over_law : (long short : List (List ℕ)) → short ≡ long → over_counts f image ≡ of_file f (over_of_parts cut codes) → over_file f image long ≡ option_or (of_file f (over_of_parts cut codes)) (option_or (over_distances f short) (over_switches f short))
  over_law long short same counts =
      ap (λ o. option_or o (option_or (over_distances f long) (over_switches f long))) counts
      ∙ ap (λ cs. option_or (of_file f (over_of_parts cut codes)) (option_or (over_distances f cs) (over_switches f cs))) (sym same)
