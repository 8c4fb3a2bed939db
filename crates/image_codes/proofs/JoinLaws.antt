-- The codes that are made of a file are those that are laid for its kept rows.
use Rattle.std.proofs.Common.{◌≡◌, ℕ, Bool, List, map, length, Option, Some, None, refl, sym, ap, ◌∙◌, subst}
use Rattle.std.specs.Prelude.{slice_get}
use Rattle.std.specs.List.{flat_map}
use Rattle.std.specs.Option.{option_map}
use Rattle.std.proofs.lemmas.Option.{slice_get-map}
use Rattle.cil_code.specs.Bodies.{BodyPart}
use Rattle.file_tables.specs.Metadata.{rows_of}
use Rattle.file_tables.specs.File.{FilePart}
use Rattle.kept_rows.specs.Select.{select}
use Rattle.assemblies.specs.Rows.{Assembly}
use Rattle.kept_closure.specs.Kept.{HasNamed}
use Rattle.world_rows.specs.Tokens.{methods}
use Rattle.world_rows.specs.World.{assemblies_of}
use Rattle.rows_resolved.specs.Resolved.{IsAccepted}
use Rattle.row_numbers.specs.Tables.{AreCounts}
use Rattle.row_numbers.specs.declared.table.Table.TheVariants as table
use Rattle.kept_marks.specs.Kept.{is_kept}
use Rattle.kept_marks.specs.Masks.{Masks, InFile, masks_of}
use Rattle.kept_marks.proofs.RankLaws.{marked_is}
use Rattle.code_shrink.specs.Shrunk.{shrunk_bytes}
use Rattle.converted.specs.Bodies.{body_of, code_in, codes_of, methods_of}
use Rattle.converted.specs.Choosing.{choice_of}
use Rattle.converted.specs.Images.{codes_for_kept, image_at}
use Rattle.converted.specs.Over.{kept_codes, over_counts}
use Rattle.converted.proofs.ChosenCodes.{shrunk_law}
use Rattle.image_numbers.specs.Numbers.{InImage, token_number, token_word}
use Rattle.image_numbers.specs.Named.{AreNumbersOf}
use Rattle.image_numbers.proofs.LiteralLaws.{AreFound}
use Rattle.image_numbers.proofs.TokenLaws.{words_law, numbered_law}
use Rattle.image_codes.specs.Bytes.{HasBytes}
use Rattle.image_codes.specs.Codes.{codes_of_kept, AllCanShrink, short_length, short_lengths}
use Rattle.image_codes.proofs.AcceptedLaws.{all_name_kept, code_bytes, code_sound}
use Rattle.image_codes.proofs.LengthLaws.{shrunk_long, selected_each, all_long_codes}

pub same_codes : (files : List FilePart) (marks : List Bool) (f : ℕ) (x : FilePart) (c : InFile) → AreCounts (assemblies_of files) c.kept.counts → c.kept.marks ≡ marks → c.file ≡ f → codes_of_kept (masks_of c) x ≡ kept_codes files marks f x
same_codes files marks f x c counts are is =
    let same : (n : ℕ) → masks_of c table.MethodDef n ≡ is_kept (assemblies_of files) marks table.MethodDef f n =
    λ n.
    marked_is (assemblies_of files) c.kept table.MethodDef c.file n counts
    ∙ ap (λ m. is_kept (assemblies_of files) m table.MethodDef c.file n) are
    ∙ ap (λ g. is_kept (assemblies_of files) marks table.MethodDef g n) is in
    ap (λ (keep : ℕ → Bool). select keep (codes_of x)) (λ j n. same n j)

module _ (files : List FilePart) (accepted : IsAccepted files) (f : ℕ) (x : FilePart) (at : slice_get files f ≡ Some x) (has : HasBytes x) where
  pub all_can_shrink : (kept : Masks) → AllCanShrink kept x
  all_can_shrink kept n row b here keeps is = code_sound files accepted f x at has n row b here is

  module _ (found_law : AreFound) (marks : List Bool) (p : Assembly) (there : slice_get (assemblies_of files) f ≡ Some p) (named : HasNamed (assemblies_of files) (choice_of files marks)) (i : InImage) (numbers : AreNumbersOf files marks f x p i) where
    pub laid_words : codes_for_kept (choice_of files marks f) p (methods_of x p) ≡ map (shrunk_bytes (token_word i)) (kept_codes files marks f x)
    laid_words = shrunk_law files marks f x p (token_word i) at there (words_law found_law files marks f x p at there i numbers has.literals (all_name_kept files accepted f x at has (choice_of files marks) named))

    pub laid_numbers : over_counts f (image_at files marks f (x, p)) ≡ None → codes_for_kept (choice_of files marks f) p (methods_of x p) ≡ map (shrunk_bytes (token_number i)) (kept_codes files marks f x)
    laid_numbers none = shrunk_law files marks f x p (token_number i) at there (numbered_law found_law files marks f x p at there i numbers has.literals (all_name_kept files accepted f x at has (choice_of files marks) named) none)

  -- ---- lengths

  row_long : (token : ℕ → ℕ) (n : ℕ) (row : List ℕ) → slice_get (rows_of x.metadata methods) n ≡ Some row → length (shrunk_bytes token (code_in (body_of x row))) ≡ short_length (code_in (body_of x row))
  row_long token n row here = by (body_of x row) refl
    where
      by : (o : Option BodyPart) → body_of x row ≡ o → length (shrunk_bytes token (code_in o)) ≡ short_length (code_in o)
      by None e = refl
      by (Some b) e = shrunk_long token b.code (code_bytes files accepted f x at has n row b here e) (code_sound files accepted f x at has n row b here e).whole

  code_long : (token : ℕ → ℕ) (n : ℕ) (code : List ℕ) → slice_get (codes_of x) n ≡ Some code → length (shrunk_bytes token code) ≡ short_length code
  code_long token n code e = by (slice_get (rows_of x.metadata methods) n) refl (sym (slice_get-map (λ row. code_in (body_of x row)) (rows_of x.metadata methods) n) ∙ e)
    where
      by : (o : Option (List ℕ)) → slice_get (rows_of x.metadata methods) n ≡ o → option_map (λ row. code_in (body_of x row)) o ≡ Some code → length (shrunk_bytes token code) ≡ short_length code
      by None here h = absurd (cc h)
      by (Some row) here h = let same : code_in (body_of x row) ≡ code = cc h in subst (λ c. length (shrunk_bytes token c) ≡ short_length c) same (row_long token n row here)

  pub kept_long : (token : ℕ → ℕ) (keep : ℕ → Bool) → length (flat_map (λ c. c) (map (shrunk_bytes token) (select keep (codes_of x)))) ≡ short_lengths (select keep (codes_of x))
  kept_long token keep = all_long_codes token (select keep (codes_of x)) (selected_each _ keep (codes_of x) (λ n code e k. code_long token n code e))
