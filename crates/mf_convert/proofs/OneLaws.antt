-- The rows that are needed tell what files are converted into.
use Rattle.std.proofs.Common.{◌≡◌, ◌∙◌, ℕ, Bool, List, [], length, Option, Some, None, sym, ap}
use Rattle.std.specs.Prelude.{nat_lt, if◌then◌else◌, Result}
use Rattle.std.specs.List.{flat_map, zip}
use Rattle.std.specs.Option.{option_or}
use Rattle.std.specs.Cmp.{both_ways}
use Rattle.std.proofs.Math.Path.{fun_ext}
use Rattle.plain_types.specs.declared.fault.Limit.{Limit}
use Rattle.file_tables.specs.File.{FilePart}
use Rattle.classes.specs.Queries.{first_some}
use Rattle.kept_rows.specs.Select.{select}
use Rattle.assemblies.specs.Rows.{Assembly}
use Rattle.assemblies.specs.Binding.{numbered}
use Rattle.assemblies.specs.Chosen.{Choice}
use Rattle.image_bytes.specs.Layout.{Image, onto}
use Rattle.world_rows.specs.World.{assemblies_of}
use Rattle.kept_closure.specs.Kept.{IsWithin}
use Rattle.row_numbers.specs.declared.table.Table.{Table}
use Rattle.row_numbers.specs.declared.table.Table.TheVariants as table
use Rattle.kept_marks.specs.Masks.{Masks, choice_with}
use Rattle.converted.specs.Bodies.{methods_of, codes_of}
use Rattle.converted.specs.Choosing.{keeps, choice_of}
use Rattle.converted.specs.Images.{image_of}
use Rattle.converted.specs.Over.{limit_in, over_file, most_assemblies, most_bytes}
use Rattle.convert_kept.specs.Conversion.{unless_over}
use Rattle.mf_convert.specs.Conversion.{MarkNeeded, conversion_of, Converts}

module _ (files : List FilePart) where
  -- ---- the conversion by a choice of the rows of each file

  module _ (keep : ℕ → Choice) where
    abbrev image_by : ℕ → FilePart × Assembly → Image
    image_by f x = image_of (keep f) x.1 (methods_of x.0 x.1)

    abbrev set_by : List ℕ
    set_by = flat_map (λ i. onto i []) (numbered image_by 0 (zip files (assemblies_of files)))

    abbrev over_by : ℕ → FilePart × Assembly → Option Limit
    over_by f x = over_file f (image_by f x) (select (keep f).methods (codes_of x.0))

    abbrev over_all_by : Option Limit
    over_all_by =
        if nat_lt most_assemblies (length files) then Some (limit_in 0 18 (length files))
        else option_or (first_some (λ o. o) (numbered over_by 0 (zip files (assemblies_of files)))) (if nat_lt most_bytes (length set_by) then Some (limit_in 0 17 (length set_by)) else None)

    abbrev conversion_by : Result (List ℕ) Limit
    conversion_by = unless_over over_all_by set_by

  -- ---- two choices of needed rows are equal

  module _ (a b : List Bool) (needed : MarkNeeded files a) (other : MarkNeeded files b) where
    there : IsWithin (choice_of files a) (choice_of files b)
    there = needed.least (choice_of files b) other.closed

    back : IsWithin (choice_of files b) (choice_of files a)
    back = other.least (choice_of files a) needed.closed

    same_row : (f : ℕ) (t : Table) (n : ℕ) → keeps files a f t n ≡ keeps files b f t n
    same_row f table.AssemblyRef n = both_ways _ _ (there.assemblies f n) (back.assemblies f n)
    same_row f table.TypeRef n = both_ways _ _ (there.refs f n) (back.refs f n)
    same_row f table.FieldRef n = both_ways _ _ (there.field_refs f n) (back.field_refs f n)
    same_row f table.MethodRef n = both_ways _ _ (there.method_refs f n) (back.method_refs f n)
    same_row f table.TypeDef n = both_ways _ _ (there.types f n) (back.types f n)
    same_row f table.Field n = both_ways _ _ (there.fields f n) (back.fields f n)
    same_row f table.MethodDef n = both_ways _ _ (there.methods f n) (back.methods f n)
    same_row f table.TypeSpec n = both_ways _ _ (there.specs f n) (back.specs f n)

    same_rows : (f : ℕ) → keeps files a f ≡ keeps files b f
    same_rows f = fun_ext (λ t. fun_ext (λ n. same_row f t n))

    same_choice : (f : ℕ) → choice_of files a f ≡ choice_of files b f
    same_choice f = ap (λ (k : Masks). choice_with k (choice_of files a f).short (choice_of files a f).long) (same_rows f)

    pub same_conversion : conversion_of files a ≡ conversion_of files b
    same_conversion = ap conversion_by (fun_ext same_choice)

  pub one_conversion : (a b : Result (List ℕ) Limit) → Converts files a → Converts files b → a ≡ b
  one_conversion a b x y = x.told ∙ same_conversion x.marks y.marks x.needed y.needed ∙ sym y.told
