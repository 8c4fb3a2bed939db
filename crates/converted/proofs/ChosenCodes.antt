-- The codes that are laid for a file's kept methods are its shortened codes, in the rows of its world.
use Rattle.std.proofs.Common.{◌≡◌, ℕ, ◌+◌, Bool, List, [], map, Some, ap, ◌∙◌, subst}
use Rattle.std.specs.Prelude.{slice_get, unwrap_or}
use Rattle.std.specs.Option.{option_map}
use Rattle.std.proofs.lemmas.Option.{slice_get-map}
use Rattle.cil_code.specs.Bodies.{BodyPart}
use Rattle.file_tables.specs.Metadata.{rows_of}
use Rattle.file_tables.specs.File.{FilePart}
use Rattle.machine.specs.Throw.{on_some}
use Rattle.assemblies.specs.Rows.{Assembly}
use Rattle.assemblies.specs.Chosen.{Choice, chosen}
use Rattle.image_form.specs.Form.{words}
use Rattle.image_form.specs.Whole.{offsets}
use Rattle.short_code.specs.Short.{to_short}
use Rattle.chosen_image.specs.Spells.{chosen_methods}
use Rattle.code_shrink.specs.Shrunk.{pieces_of, shrunk_bytes}
use Rattle.world_rows.specs.Tokens.{methods}
use Rattle.world_rows.specs.World.{assemblies_of}
use Rattle.converted.specs.Bodies.{body_of, code_in, codes_of, methods_of}
use Rattle.converted.specs.Choosing.{code_at, choice_of}
use Rattle.converted.specs.Images.{codes_for_kept}
use Rattle.converted.specs.Numbered.{AllGetNumbers}
use Rattle.converted.specs.Over.{kept_codes}
use Rattle.converted.proofs.BodyLaws.{row, assembly_is}
use Rattle.converted.proofs.CodeLaws.{HasPlaces, codes_law}

module _ (files : List FilePart) (marks : List Bool) where
  code_found : (f n : ℕ) (x : FilePart) (r : List ℕ) (b : BodyPart) → slice_get files f ≡ Some x → slice_get (rows_of x.metadata methods) n ≡ Some r → body_of x r ≡ Some b → code_at files marks f n ≡ b.code
  code_found f n x r b there at is =
      ap (λ o. unwrap_or (on_some o (λ y. slice_get (codes_of y) n)) []) there
      ∙ ap (λ o. unwrap_or o []) (slice_get-map (λ row. code_in (body_of x row)) (rows_of x.metadata methods) n)
      ∙ ap (λ o. unwrap_or (option_map (λ row. code_in (body_of x row)) o) []) at
      ∙ ap code_in is

  has_places : (f : ℕ) (x : FilePart) → slice_get files f ≡ Some x → HasPlaces (choice_of files marks f) x
  has_places f x there n r b at is = ap (λ (code : List ℕ). to_short (pieces_of code)) (code_found f n x r b there at is)

  abbrev Gets : ℕ → FilePart → Assembly → (ℕ → ℕ) → Type 0
  Gets f x p token =
      AllGetNumbers (choice_of files marks f) x (words (offsets (chosen (choice_of files marks f) p) (chosen_methods (choice_of files marks f) (methods_of x p)))) token

  abbrev Shrinks : ℕ → FilePart → (ℕ → ℕ) → Assembly → Type 0
  Shrinks f x token p =
      Gets f x p token → codes_for_kept (choice_of files marks f) p (methods_of x p) ≡ map (shrunk_bytes token) (kept_codes files marks f x)

  row_law : (f n : ℕ) (x : FilePart) (token : ℕ → ℕ) → slice_get files f ≡ Some x → Shrinks f x token (row files n x)
  row_law f n x token there gets =
      let k : Choice = choice_of files marks f in
      codes_law k x (offsets (chosen k (row files n x)) (chosen_methods k (methods_of x (row files n x)))) token _ gets (has_places f x there)

pub shrunk_law : (files : List FilePart) (marks : List Bool) (f : ℕ) (x : FilePart) (p : Assembly) (token : ℕ → ℕ) → slice_get files f ≡ Some x → slice_get (assemblies_of files) f ≡ Some p → AllGetNumbers (choice_of files marks f) x (words (offsets (chosen (choice_of files marks f) p) (chosen_methods (choice_of files marks f) (methods_of x p)))) token → codes_for_kept (choice_of files marks f) p (methods_of x p) ≡ map (shrunk_bytes token) (kept_codes files marks f x)
shrunk_law files marks f x p token there at = subst (Shrinks files marks f x token) (assembly_is files f x p there at) (row_law files marks f (0 + f) x token there)
