-- The table of clauses of the parts of a file's kept rows, by the code of its kept methods.
use Rattle.std.proofs.Common.{◌≡◌, ℕ, Bool, List, [], ◌∷◌, ◌++◌, map, Option, Some, refl, ap, ◌∙◌}
use Rattle.std.specs.Prelude.{slice_get}
use Rattle.std.specs.List.{flat_map}
use Rattle.std.proofs.lemmas.List.{map-append}
use Rattle.file_tables.specs.File.{FilePart}
use Rattle.assemblies.specs.Rows.{RawCode, MethodRow, Assembly}
use Rattle.image_form.specs.Form.{Manner, clauses_in}
use Rattle.image_form.specs.Whole.{Methods, clauses_of}
use Rattle.world_rows.specs.World.{assemblies_of}
use Rattle.msspot_write.specs.Spelt.{clause_part}
use Rattle.msspot_write.specs.Parts as parts
use Rattle.kept_marks.specs.Masks.{Masks}
use Rattle.converted.specs.Bodies.{body_of, methods_of}
use Rattle.converted.specs.Images.{row_cut, parts_of, parts_cut}
use Rattle.chosen_image.specs.Spells.{chosen_methods}
use Rattle.kept_bodies.specs.Kept.{code_kept, kept_methods}
use Rattle.kept_bodies.proofs.CodeLaws.{chosen_by, codes_are}
use Rattle.image_methods.specs.Methods.{clause_rows}

-- ---- by codes

clauses_by : (ms : Methods) → clauses_of ms ≡ flat_map clauses_in (map (λ (y : Manner × MethodRow). y.1.code) ms)
clauses_by [] = refl
clauses_by (y ∷ ys) = ap (λ cs. clauses_in y.1.code ++ cs) (clauses_by ys)

module _ (kept : Masks) (x : FilePart) where
  abbrev code_at : List ℕ → Option RawCode
  code_at row = code_kept kept x.metadata (body_of x row)

  clauses_of_rows : (rows : List (List ℕ)) → map row_cut (map clause_part (flat_map clauses_in (map code_at rows))) ≡ flat_map (λ row. map row_cut (map clause_part (clauses_in (code_at row)))) rows
  clauses_of_rows [] = refl
  clauses_of_rows (row ∷ rows) =
      ap (map row_cut) (map-append clause_part (clauses_in (code_at row)) (flat_map clauses_in (map code_at rows)))
      ∙ map-append row_cut (map clause_part (clauses_in (code_at row))) (map clause_part (flat_map clauses_in (map code_at rows)))
      ∙ ap (λ ps. map row_cut (map clause_part (clauses_in (code_at row))) ++ ps) (clauses_of_rows rows)

-- ---- of a file

module _ (files : List FilePart) (f : ℕ) (x : FilePart) (p : Assembly) (at : slice_get files f ≡ Some x) (of : slice_get (assemblies_of files) f ≡ Some p) (kept : Masks) (marks : List Bool) where
  pub clauses_are : parts.rows_of (parts_cut (parts_of (chosen_by files f x p at of marks kept) p (methods_of x p))) 8 ≡ clause_rows kept x
  clauses_are =
      let ms : Methods = chosen_methods (chosen_by files f x p at of marks kept) (methods_of x p) in
      ap (λ cs. map row_cut (map clause_part cs)) (clauses_by ms)
      ∙ ap (λ cs. map row_cut (map clause_part (flat_map clauses_in cs))) (codes_are files f x p at of marks kept)
      ∙ clauses_of_rows kept x (kept_methods kept x)
