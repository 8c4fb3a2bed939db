-- A file by the parts that a world lends of it.
use Rattle.std.proofs.Common.{◌≡◌, ℕ, List, Option, Some, None, ap, ◌∙◌}
use Rattle.std.specs.Prelude.{slice_get}
use Rattle.std.specs.Option.{option_map}
use Rattle.file_tables.specs.Metadata.{MetadataPart}
use Rattle.file_tables.specs.Pe.{PePart}
use Rattle.file_tables.specs.File.{FilePart}
use Rattle.looked_rows.specs.Looked.{file_with}

module _ (files : List FilePart) (f : ℕ) (pe : PePart) (m : MetadataPart) (of_pe : option_map (λ (p : FilePart). p.pe) (slice_get files f) ≡ Some pe) (of_tables : option_map (λ (p : FilePart). p.metadata) (slice_get files f) ≡ Some m) where
  -- it is there
  pub file_there : slice_get files f ≡ Some (file_with pe m)
  file_there = go (slice_get files f) of_pe of_tables
    where
      go : (o : Option FilePart) → option_map (λ (p : FilePart). p.pe) o ≡ Some pe → option_map (λ (p : FilePart). p.metadata) o ≡ Some m → o ≡ Some (file_with pe m)
      go None e g = absurd (cc e)
      go (Some x) e g =
          let same_pe : x.pe ≡ pe = cc e in
          let same_tables : x.metadata ≡ m = cc g in
          ap (λ q. Some (file_with q x.metadata)) same_pe ∙ ap (λ n. Some (file_with pe n)) same_tables
