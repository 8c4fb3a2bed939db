-- The first row that names nothing, and the first circle.
use Rattle.std.proofs.Common.{◌≡◌, ℕ, zero, suc, ◌+◌, ◌<◌, ◌≤◌, Bool, true, false, List, length, Option, Some, None, refl, sym, ap, ◌∙◌, subst, arith}
use Rattle.std.specs.Prelude.{not, ◌&&◌, is_some, slice_get, slice_index, unwrap_or, if◌then◌else◌}
use Rattle.std.specs.Option.{option_map}
use Rattle.std.proofs.lemmas.Option.{slice_get-map}
use Rattle.machine.specs.Data.{Id}
use Rattle.classes.specs.Classes.{Classes}
use Rattle.classes.specs.Queries.{listed, ends, above, interfaces_of, enclosing_of}
use Rattle.assemblies.specs.Rows.{Assembly}
use Rattle.assemblies.specs.Binding.{id_at}
use Rattle.member_keys.specs.declared.keys.ClassId.{ClassId}
use Rattle.scope_walk.specs.Walk.{value_at}
use Rattle.scope_walk.proofs.Lists.{past_none}
use Rattle.image_bytes.specs.Layout.{Image}
use Rattle.tiny_rows.specs.Rows.{rows_seen}
use Rattle.set_names.specs.Names.{seen_all}
use Rattle.set_table.proofs.SubjectLaws.{image_there}
use Rattle.board_model.specs.First.{or_else, first_from}
use Rattle.board_model.specs.Bound.{Row, row_counts, rows_at, named, lacking_row, lacking_table, lacking_assembly, bound_classes, goes_in_circle, types_at, circle_in}
use Rattle.set_binding.specs.declared.tables.ReferenceTable.{ReferenceTable}
use Rattle.set_binding.specs.declared.tables.ReferenceTable.TheVariants.{Assemblies, Types, Fields, Methods}
use Rattle.set_binding.specs.declared.tables.FileBindings.{FileBindings}
use Rattle.set_binding.specs.Tables.{number_of}
use Rattle.set_binding.specs.Columns.{AreNamed, column_at, IsBoundFile, AreBound}
use Rattle.set_binding.specs.Lacking.{unnamed_at}
use Rattle.set_binding.proofs.FirstLaws.{first_mapped}

-- ---- one table

pub column_named : (ps : List Assembly) (file : ℕ) (b : FileBindings) (table : ReferenceTable) → IsBoundFile ps file b → AreNamed ps file (number_of table) (column_at b (number_of table))
column_named ps file b Assemblies is = is.assemblies
column_named ps file b Types is = is.types
column_named ps file b Fields is = is.fields
column_named ps file b Methods is = is.methods

abbrev pub row_at : ℕ → ℕ → ℕ → Row
row_at file table n = record { assembly = file; table = table; row = n }

row_or : (file table n : ℕ) (b : Bool) → (if b then None else Some (row_at file table n)) ≡ option_map (row_at file table) (if b then None else Some n)
row_or file table n true = refl
row_or file table n false = refl

pub lacking_is : (ps : List Assembly) (file table : ℕ) (column : List (Option ClassId)) → AreNamed ps file table column → lacking_table ps file table ≡ option_map (row_at file table) (first_from (length column) 0 (unnamed_at column))
lacking_is ps file table column are =
    ap (λ m. first_from m 0 (lacking_row ps file table)) (sym are.size)
    ∙ first_mapped (lacking_row ps file table) (unnamed_at column) (row_at file table) (λ n. ap (λ o. if is_some o then None else Some (row_at file table n)) (sym (are.each n)) ∙ row_or file table n (is_some (value_at column n))) (length column) 0

pub lacking_told : (ps : List Assembly) (file : ℕ) (b : FileBindings) (table : ReferenceTable) → IsBoundFile ps file b → (column : List (Option ClassId)) → column ≡ column_at b (number_of table) → (o : Option ℕ) → o ≡ first_from (length column) 0 (unnamed_at column)
    → option_map (row_at file (number_of table)) o ≡ lacking_table ps file (number_of table)
lacking_told ps file b table is column same o e =
    ap (option_map (row_at file (number_of table))) e
    ∙ sym (lacking_is ps file (number_of table) column (subst (AreNamed ps file (number_of table)) (sym same) (column_named ps file b table is)))

-- ---- one assembly

or_none : {A : Type 0} (o : Option A) → or_else o None ≡ o
or_none None = refl
or_none (Some x) = refl

module _ (ps : List Assembly) (file : ℕ) where
  abbrev in_table : ℕ → Option Row
  in_table = lacking_table ps file

  pub in_assemblies : (x : Row) → Some x ≡ in_table 0 → Some x ≡ lacking_assembly ps file
  in_assemblies x e = ap (λ o. or_else o (first_from 3 1 in_table)) e

  pub in_types : (x : Row) → None ≡ in_table 0 → Some x ≡ in_table 1 → Some x ≡ lacking_assembly ps file
  in_types x e f = ap (λ o. or_else o (first_from 2 2 in_table)) f ∙ ap (λ o. or_else o (first_from 3 1 in_table)) e

  pub in_fields : (x : Row) → None ≡ in_table 0 → None ≡ in_table 1 → Some x ≡ in_table 2 → Some x ≡ lacking_assembly ps file
  in_fields x e f g = ap (λ o. or_else o (first_from 1 3 in_table)) g ∙ ap (λ o. or_else o (first_from 2 2 in_table)) f ∙ ap (λ o. or_else o (first_from 3 1 in_table)) e

  pub in_methods : (o : Option Row) → None ≡ in_table 0 → None ≡ in_table 1 → None ≡ in_table 2 → o ≡ in_table 3 → o ≡ lacking_assembly ps file
  in_methods o e f g h =
      h
      ∙ sym (or_none (in_table 3))
      ∙ ap (λ o. or_else o (first_from 1 3 in_table)) g
      ∙ ap (λ o. or_else o (first_from 2 2 in_table)) f
      ∙ ap (λ o. or_else o (first_from 3 1 in_table)) e

  pub lacking_nowhere : slice_get ps file ≡ None → None ≡ lacking_assembly ps file
  lacking_nowhere e = sym (ap (λ o. first_from 4 0 (λ t. first_from (unwrap_or (option_map (λ (p : Assembly). slice_index (row_counts p) t) o) 0) 0 (lacking_row ps file t))) e)

  pub lacking_past : (files : List FileBindings) → AreBound ps files → length files ≤ file → None ≡ lacking_assembly ps file
  lacking_past files are past = let same = are.count in lacking_nowhere (past_none ps file (omega (arith, past, same)))

  -- ---- circles of an assembly's types

  abbrev pub circle_at : ℕ → Option ℕ
  circle_at n = if goes_in_circle (bound_classes ps) (id_at file n) then Some file else None

  pub circle_here : (n : ℕ) → true ≡ goes_in_circle (bound_classes ps) (id_at file n) → circle_at n ≡ Some file
  circle_here n e = ap (λ b. if b then Some file else None) (sym e)

  pub no_circle_here : (n : ℕ) → false ≡ goes_in_circle (bound_classes ps) (id_at file n) → circle_at n ≡ None
  no_circle_here n e = ap (λ b. if b then Some file else None) (sym e)

  only_file : (k at : ℕ) → true ≡ is_some (first_from k at circle_at) → first_from k at circle_at ≡ Some file
  only_file zero at e = absurd (cc e)
  only_file (suc k) at e = go (goes_in_circle (bound_classes ps) (id_at file at)) e (λ h. only_file k (suc at) h)
    where
      go : (b : Bool) → true ≡ is_some (or_else (if b then Some file else None) (first_from k (suc at) circle_at)) → (true ≡ is_some (first_from k (suc at) circle_at) → first_from k (suc at) circle_at ≡ Some file)
          → or_else (if b then Some file else None) (first_from k (suc at) circle_at) ≡ Some file
      go true h behind = refl
      go false h behind = behind h

  pub circle_found : true ≡ is_some (circle_in ps file) → circle_in ps file ≡ Some file
  circle_found e = only_file (types_at ps file) 0 e

  pub circle_missing : false ≡ is_some (circle_in ps file) → circle_in ps file ≡ None
  circle_missing e = go (circle_in ps file) e
    where
      go : (o : Option ℕ) → false ≡ is_some o → o ≡ None
      go None h = refl
      go (Some x) h = absurd (cc h)

-- how many types the image of a number has
pub types_there : (images : List Image) (file : ℕ) (i : Image) → Some i ≡ slice_get images file → length (rows_seen i).types ≡ types_at (seen_all images) file
types_there images file i e = sym (ap (λ o. unwrap_or (option_map (λ (p : Assembly). length p.types) o) 0) (image_there images file i e))

pub types_missing : (images : List Image) (file : ℕ) → None ≡ slice_get images file → 0 ≡ types_at (seen_all images) file
types_missing images file e = sym (ap (λ o. unwrap_or (option_map (λ (p : Assembly). length p.types) o) 0) (slice_get-map rows_seen images file ∙ ap (option_map rows_seen) (sym e)))

-- ---- the ways of a class

module _ (cs : Classes) (c : Id) where
  abbrev up : Bool
  up = ends cs.size (above cs) c

  abbrev through : Bool
  through = ends cs.size (interfaces_of cs) c

  abbrev around : Bool
  around = ends cs.size (λ d. listed (enclosing_of cs d)) c

  pub circle_above : up ≡ false → true ≡ goes_in_circle cs c
  circle_above e = sym (ap (λ b. not (b && (through && around))) e)

  pub circle_through : up ≡ true → through ≡ false → true ≡ goes_in_circle cs c
  circle_through e f = sym (ap (λ b. not (b && (through && around))) e ∙ ap (λ b. not (b && around)) f)

  pub circle_around : up ≡ true → through ≡ true → (b : Bool) → b ≡ around → not b ≡ goes_in_circle cs c
  circle_around e f b g = ap not g ∙ sym (ap (λ b. not (b && (through && around))) e ∙ ap (λ b. not (b && around)) f)
