-- The sum of types and references, a file after the other.
use Rattle.std.proofs.Common.{◌≡◌, ℕ, zero, suc, ◌+◌, ◌*◌, List, [], ◌∷◌, ◌++◌, map, length, take, Some, refl, ap, ◌∙◌, arith, add-one}
use Rattle.std.specs.Prelude.{slice_get}
use Rattle.std.specs.Option.{option_map}
use Rattle.std.proofs.lemmas.List.{length-map}
use Rattle.file_tables.specs.Metadata.{MetadataPart, row_count, rows_of}
use Rattle.file_tables.specs.File.{FilePart}
use Rattle.assemblies.specs.Rows.{Assembly}
use Rattle.world_rows.specs.Tokens.{type_defs, type_refs}
use Rattle.world_rows.specs.Rows.{alone}
use Rattle.world_rows.specs.World.{type_count, reference_count, size_of}
use Rattle.class_reading.proofs.LibraryLaws.{file_there, length_numbered}

take_there : {A : Type 0} (xs : List A) (n : ℕ) (x : A) → slice_get xs n ≡ Some x → take (suc n) xs ≡ take n xs ++ x ∷ []
take_there [] n x e = cc e
take_there (y ∷ ys) zero x e = let same : y ≡ x = cc e in ap (λ z. z ∷ []) same
take_there (y ∷ ys) (suc n) x e = ap (λ zs. y ∷ zs) (take_there ys n x e)

module _ (files : List FilePart) (n : ℕ) (m : MetadataPart) (there : option_map (λ (p : FilePart). p.metadata) (slice_get files n) ≡ Some m) where
  its_file : (p : FilePart) × (slice_get files n ≡ Some p) × (p.metadata ≡ m)
  its_file = file_there files n m there

  types_more : (ps : List Assembly) (p : Assembly) → type_count (ps ++ p ∷ []) ≡ type_count ps + length p.types
  types_more [] p = omega arith
  types_more (q ∷ qs) p = omega (arith, types_more qs p)

  references_more : (ps : List Assembly) (p : Assembly) → reference_count (ps ++ p ∷ []) ≡ reference_count ps + length p.refs
  references_more [] p = omega arith
  references_more (q ∷ qs) p = omega (arith, references_more qs p)

  map_last : (xs : List FilePart) (x : FilePart) → map alone (xs ++ x ∷ []) ≡ map alone xs ++ alone x ∷ []
  map_last [] x = refl
  map_last (y ∷ ys) x = ap (λ zs. alone y ∷ zs) (map_last ys x)

  one_more : map alone (take (n + 1) files) ≡ map alone (take n files) ++ alone its_file.0 ∷ []
  one_more = ap (λ k. map alone (take k files)) (add-one n) ∙ ap (map alone) (take_there files n its_file.0 its_file.1) ∙ map_last (take n files) its_file.0

  pub size_more : size_of (map alone (take (n + 1) files)) ≡ size_of (map alone (take n files)) + (2 * row_count m type_defs + row_count m type_refs)
  size_more =
      let types = types_more (map alone (take n files)) (alone its_file.0) in
      let references = references_more (map alone (take n files)) (alone its_file.0) in
      let defs : length (alone its_file.0).types ≡ row_count m type_defs = length_numbered _ 0 (rows_of its_file.0.metadata type_defs) ∙ ap (λ x. row_count x type_defs) its_file.2 in
      let refs : length (alone its_file.0).refs ≡ row_count m type_refs = length-map (rows_of its_file.0.metadata type_refs) _ ∙ ap (λ x. row_count x type_refs) its_file.2 in
      ap size_of one_more ∙ omega (arith, types, references, defs, refs)
