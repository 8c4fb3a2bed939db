-- The literals of the parts of a file's kept rows, by the code of its kept methods.
use Rattle.std.proofs.Common.{◌≡◌, ℕ, ◌+◌, Bool, List, [], ◌∷◌, ◌++◌, map, Option, Some, refl, ap, ◌∙◌}
use Rattle.std.specs.Prelude.{slice_get}
use Rattle.file_tables.specs.File.{FilePart}
use Rattle.assemblies.specs.Rows.{RawCode, MethodRow, Assembly}
use Rattle.image_form.specs.Form.{Manner}
use Rattle.image_form.specs.Whole.{Methods}
use Rattle.world_rows.specs.World.{assemblies_of}
use Rattle.msspot_write.specs.declared.parts.PartLiteral.{PartLiteral}
use Rattle.msspot_write.specs.Spelt.{code_parts, literal_parts}
use Rattle.kept_marks.specs.Masks.{Masks}
use Rattle.converted.specs.Bodies.{body_of, methods_of}
use Rattle.converted.specs.Images.{parts_of, parts_cut}
use Rattle.chosen_image.specs.Spells.{chosen_methods}
use Rattle.kept_bodies.specs.Kept.{code_kept, kept_methods}
use Rattle.kept_bodies.specs.Literals.{literals_from, literal_rows}
use Rattle.kept_bodies.proofs.CodeLaws.{chosen_by, codes_are}

abbrev literals_by : ℕ → List (Option RawCode) → List PartLiteral
literals_by method [] = []
literals_by method (c ∷ cs) = code_parts method c ++ literals_by (method + 1) cs

literals_are_by : (method : ℕ) (ms : Methods) → literal_parts method ms ≡ literals_by method (map (λ (y : Manner × MethodRow). y.1.code) ms)
literals_are_by method [] = refl
literals_are_by method (y ∷ ys) = ap (λ ls. code_parts method y.1.code ++ ls) (literals_are_by (method + 1) ys)

module _ (kept : Masks) (x : FilePart) where
  abbrev code_at : List ℕ → Option RawCode
  code_at row = code_kept kept x.metadata (body_of x row)

  literals_of_rows : (method : ℕ) (rows : List (List ℕ)) → literals_by method (map code_at rows) ≡ literals_from kept x method rows
  literals_of_rows method [] = refl
  literals_of_rows method (row ∷ rows) = ap (λ ls. code_parts method (code_at row) ++ ls) (literals_of_rows (method + 1) rows)

-- ---- of a file

module _ (files : List FilePart) (f : ℕ) (x : FilePart) (p : Assembly) (at : slice_get files f ≡ Some x) (of : slice_get (assemblies_of files) f ≡ Some p) (kept : Masks) (marks : List Bool) where
  pub literals_are : (parts_cut (parts_of (chosen_by files f x p at of marks kept) p (methods_of x p))).literals ≡ literal_rows kept x
  literals_are =
      let ms : Methods = chosen_methods (chosen_by files f x p at of marks kept) (methods_of x p) in
      literals_are_by 0 ms
      ∙ ap (literals_by 0) (codes_are files f x p at of marks kept)
      ∙ literals_of_rows kept x 0 (kept_methods kept x)
