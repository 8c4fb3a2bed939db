-- The natives of a file have no code, so the image of the parts is the one that is laid for the kept rows.
use Rattle.std.proofs.Common.{◌≡◌, ℕ, ◌+◌, Bool, true, false, List, Option, Some, None, sym, ap, ◌∙◌, subst}
use Rattle.std.specs.Prelude.{◌==◌, if◌then◌else◌, slice_get, slice_index}
use Rattle.std.specs.Option.{option_map}
use Rattle.file_tables.specs.Metadata.{rows_of}
use Rattle.file_tables.specs.File.{FilePart}
use Rattle.machine.specs.Program.{Body}
use Rattle.assemblies.specs.Rows.{RawCode, MethodRow, Assembly}
use Rattle.assemblies.specs.Binding.{numbered}
use Rattle.assemblies.specs.Chosen.{Choice, code_to, chosen}
use Rattle.assemblies.specs.Closed.{Each}
use Rattle.assemblies.proofs.Numbered.{get_numbered}
use Rattle.image_form.specs.Form.{Manner}
use Rattle.image_form.specs.Whole.{Methods, laid}
use Rattle.chosen_image.specs.Spells.{chosen_method, chosen_methods}
use Rattle.world_rows.specs.Tokens.{methods}
use Rattle.world_rows.specs.Lines.{code_at}
use Rattle.world_rows.specs.Rows.{is_internal, method_row}
use Rattle.world_rows.specs.World.{size_of, assembly_with, rows_alone, assemblies_of}
use Rattle.msspot_write.specs.Parts.{image_of_parts}
use Rattle.msspot_write.specs.Spelt.{BodyFits, BodiesFit, parts_for, codes_for}
use Rattle.converted.specs.Bodies.{methods_of, manners_of}
use Rattle.converted.specs.Choosing.{choice_of}
use Rattle.converted.specs.Images.{codes_for_kept, parts_at, image_at}
use Rattle.converted.proofs.ListLaws.{each_selected, each_numbered, each_of_all, each_paired}

fits_none : (b : Body) → BodyFits b None
fits_none (Body.Native name) = tt
fits_none Body.Code = tt
fits_none Body.Missing = tt

fits_missing : (o : Option RawCode) → BodyFits Body.Missing o
fits_missing None = tt
fits_missing (Some c) = tt

fits_code : (o : Option RawCode) → BodyFits Body.Code o
fits_code None = tt
fits_code (Some c) = tt

fits_by : (internal empty : Bool) (native : Body) (o : Option RawCode) → BodyFits (if internal then native else (if empty then Body.Missing else Body.Code)) (if internal then None else o)
fits_by true empty native o = fits_none native
fits_by false true native o = fits_missing o
fits_by false false native o = fits_code o

fits_to : (g : RawCode → RawCode) (b : Body) (o : Option RawCode) → BodyFits b o → BodyFits b (option_map g o)
fits_to g b None fit = fits_none b
fits_to g (Body.Native name) (Some c) fit = absurd fit
fits_to g Body.Code (Some c) fit = tt
fits_to g Body.Missing (Some c) fit = tt

-- of the rows of a file, whatever its natives are
abbrev RowFits : MethodRow → Type 0
RowFits m = BodyFits m.body m.code

rows_fit : (x : FilePart) (native : ℕ → Body) → Each RowFits (numbered (method_row x native) 0 (rows_of x.metadata methods))
rows_fit x native =
    each_numbered (λ (row : List ℕ). Unit {0}) RowFits (method_row x native)
    (λ n row u. fits_by (is_internal row) (slice_index row 0 == 0) (native n) (code_at x (slice_index row 0)))
    0 (rows_of x.metadata methods) (each_of_all (λ (row : List ℕ). Unit {0}) (λ row. tt) (rows_of x.metadata methods))

abbrev PairFits : Manner × MethodRow → Type 0
PairFits x = RowFits x.1

kept_fit : (k : Choice) (ms : Methods) → Each PairFits ms → BodiesFit (chosen_methods k ms)
kept_fit k ms each =
    each_selected PairFits k.methods (numbered (chosen_method k) 0 ms)
    (each_numbered PairFits PairFits (chosen_method k) (λ n x fit. fits_to (code_to k (k.short n)) x.1.body x.1.code fit) 0 ms each)

some_same : {A : Type 0} (x y : A) → Some x ≡ Some y → x ≡ y
some_same x y e = cc e

module _ (files : List FilePart) where
  abbrev pub row : ℕ → FilePart → Assembly
  row n x = assembly_with (size_of (rows_alone files)) files (rows_alone files) n x

  -- the assembly of a file
  pub assembly_is : (f : ℕ) (x : FilePart) (p : Assembly) → slice_get files f ≡ Some x → slice_get (assemblies_of files) f ≡ Some p → row (0 + f) x ≡ p
  unfolding assemblies_of
  assembly_is f x p there at =
      some_same (row (0 + f) x) p (sym (get_numbered row 0 f files ∙ ap (option_map (row (0 + f))) there) ∙ at)

  methods_fit : (n : ℕ) (x : FilePart) → Each PairFits (methods_of x (row n x))
  methods_fit n x = each_paired RowFits (manners_of x) (row n x).methods (rows_fit x _)

  pub laid_law : ((p : Assembly) (ms : Methods) → BodiesFit ms → image_of_parts (parts_for p ms) (codes_for p ms) ≡ laid p ms) → (marks : List Bool) (f : ℕ) (x : FilePart) (p : Assembly) → slice_get files f ≡ Some x → slice_get (assemblies_of files) f ≡ Some p → image_of_parts (parts_at files marks f x p) (codes_for_kept (choice_of files marks f) p (methods_of x p)) ≡ image_at files marks f (x, p)
  laid_law image_law marks f x p there at =
      let k : Choice = choice_of files marks f in
      let fit : Each PairFits (methods_of x p) = subst (λ (q : Assembly). Each PairFits (methods_of x q)) (assembly_is f x p there at) (methods_fit (0 + f) x) in
      image_law (chosen k p) (chosen_methods k (methods_of x p)) (kept_fit k (methods_of x p) fit)
