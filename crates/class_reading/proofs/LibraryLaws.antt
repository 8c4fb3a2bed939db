-- The first file of the base library's name, and the first type of a name in it.
use Rattle.std.proofs.Common.{◌≡◌, ℕ, suc, ◌+◌, ◌<◌, ◌≤◌, Bool, true, false, cond, List, [], ◌∷◌, length, Option, Some, None, refl, sym, ap, ◌∙◌, arith}
use Rattle.std.specs.Prelude.{codes, ◌&&◌, slice_get, slice_index}
use Rattle.std.specs.List.{position}
use Rattle.std.specs.Option.{option_map}
use Rattle.std.proofs.lemmas.List.{length-map}
use Rattle.std.proofs.lemmas.Option.{slice_get-map, slice_get-get_or, slice_get_within}
use Rattle.file_tables.specs.Metadata.{MetadataPart, row_count, row_of, rows_of, column_of}
use Rattle.file_tables.specs.File.{FilePart}
use Rattle.machine.specs.Texts.{same_text}
use Rattle.machine.specs.Throw.{on_some}
use Rattle.classes.specs.Classes.{Reference}
use Rattle.kept_rows.proofs.SelectLaws.{passes, position_step}
use Rattle.assemblies.specs.Rows.{Assembly}
use Rattle.assemblies.specs.Binding.{first_number, id_at, numbered}
use Rattle.assemblies.proofs.Numbered.{get_numbered}
use Rattle.world_rows.specs.Tokens.{type_defs, text_at}
use Rattle.world_rows.specs.Rows.{alone, type_row}
use Rattle.world_rows.specs.Kinds.{is_system, library_type}
use Rattle.world_rows.specs.World.{rows_alone}
use Rattle.type_names.specs.Names.{assembly_name}
use Rattle.type_names.proofs.RowLoops.{row_is}
use Rattle.class_table.specs.Whole.{library_number}
use Rattle.class_reading.specs.Base.{types_of}
use Rattle.class_reading.proofs.FirstLaws.{first_from, first_begins, first_here, first_behind, first_none}

-- ---- the file

abbrev pub is_base : Assembly → Bool
is_base p = same_text p.name (codes "mscorlib")

number_is : (test : Assembly → Bool) (ps : List Assembly) → first_number test ps ≡ position test ps
number_is test [] = refl
number_is test (p ∷ ps) = ap (λ o. cond (test p) (Some 0) (option_map suc o)) (number_is test ps) ∙ sym (position_step test p ps)

pub library_begins : (files : List FilePart) → library_number files ≡ first_from is_base (rows_alone files) 0
library_begins files = number_is is_base (rows_alone files) ∙ first_begins is_base (rows_alone files)

pub library_within : (files : List FilePart) (n : ℕ) → library_number files ≡ Some n → n < length files
library_within files n e =
    let p = passes is_base (rows_alone files) n (sym (number_is is_base (rows_alone files)) ∙ e) in
    let inside = slice_get_within (rows_alone files) n p.0 p.1 in
    let same = length-map files alone in
    omega (arith, inside, same)

module _ (files : List FilePart) (n : ℕ) (m : MetadataPart) (there : option_map (λ (p : FilePart). p.metadata) (slice_get files n) ≡ Some m) where
  pub file_there : (p : FilePart) × (slice_get files n ≡ Some p) × (p.metadata ≡ m)
  file_there = go (slice_get files n) refl there
    where
      go : (o : Option FilePart) → slice_get files n ≡ o → option_map (λ (p : FilePart). p.metadata) o ≡ Some m → (p : FilePart) × (slice_get files n ≡ Some p) × (p.metadata ≡ m)
      go None e f = cc f
      go (Some p) e f = (p, e, cc f)

  alone_there : slice_get (rows_alone files) n ≡ Some (alone file_there.0)
  alone_there = slice_get-map alone files n ∙ ap (option_map alone) file_there.1

  base_by : (b : Bool) → same_text (assembly_name m).name (codes "mscorlib") ≡ b → is_base (alone file_there.0) ≡ b
  base_by b e = ap (λ x. same_text (assembly_name x).name (codes "mscorlib")) file_there.2 ∙ e

  pub library_here : same_text (assembly_name m).name (codes "mscorlib") ≡ true → first_from is_base (rows_alone files) n ≡ Some n
  library_here e = first_here is_base (rows_alone files) n (alone file_there.0) alone_there (base_by true e)

  pub library_behind : same_text (assembly_name m).name (codes "mscorlib") ≡ false → first_from is_base (rows_alone files) n ≡ first_from is_base (rows_alone files) (n + 1)
  library_behind e = first_behind is_base (rows_alone files) n (alone file_there.0) alone_there (base_by false e)

  -- ---- a type of it

  pub in_library : (name : List ℕ) → library_number files ≡ Some n → library_type (rows_alone files) name ≡ option_map (id_at n) (position (is_system name) (types_of m))
  in_library name e =
      ap (λ o. on_some o (λ f. on_some (slice_get (rows_alone files) f) (λ (p : Assembly). option_map (id_at f) (position (is_system name) p.types)))) e
      ∙ ap (λ o. on_some o (λ (p : Assembly). option_map (id_at n) (position (is_system name) p.types))) alone_there
      ∙ ap (λ x. option_map (id_at n) (position (is_system name) (types_of x))) file_there.2

pub library_none : (files : List FilePart) (n : ℕ) → length files ≤ n → first_from is_base (rows_alone files) n ≡ None
library_none files n h = let same = length-map files alone in first_none is_base (rows_alone files) n (omega (arith, same, h))

-- ---- the rows of its types

module _ (m : MetadataPart) (name : List ℕ) (n : ℕ) (inside : n < row_count m type_defs) where
  type_at : slice_get (types_of m) n ≡ Some (type_row m (λ k. Reference) n (row_of m type_defs (suc n)))
  type_at =
      let same : 0 + n ≡ n = omega arith in
      get_numbered (type_row m (λ k. Reference)) 0 n (rows_of m type_defs)
      ∙ ap (option_map (type_row m (λ k. Reference) (0 + n))) (slice_get-get_or (rows_of m type_defs) n [] inside)
      ∙ ap (λ k. Some (type_row m (λ k. Reference) k (row_of m type_defs (suc n)))) same

  abbrev named : Bool
  named = same_text (text_at m (column_of m type_defs (n + 1) 2)) (codes "System") && same_text (text_at m (column_of m type_defs (n + 1) 1)) name

  by_columns : (b : Bool) → named ≡ b → is_system name (type_row m (λ k. Reference) n (row_of m type_defs (suc n))) ≡ b
  by_columns b e = sym (ap (λ r. same_text (text_at m (slice_index r 2)) (codes "System") && same_text (text_at m (slice_index r 1)) name) (row_is m type_defs n)) ∙ e

  pub type_here : named ≡ true → first_from (is_system name) (types_of m) n ≡ Some n
  type_here e = first_here (is_system name) (types_of m) n _ type_at (by_columns true e)

  pub type_behind : named ≡ false → first_from (is_system name) (types_of m) n ≡ first_from (is_system name) (types_of m) (n + 1)
  type_behind e = first_behind (is_system name) (types_of m) n _ type_at (by_columns false e)

pub length_numbered : {A B : Type 0} (make : ℕ → A → B) (k : ℕ) (xs : List A) → length (numbered make k xs) ≡ length xs
length_numbered make k [] = refl
length_numbered make k (x ∷ xs) = ap suc (length_numbered make (suc k) xs)

pub type_none : (m : MetadataPart) (name : List ℕ) (n : ℕ) → row_count m type_defs ≤ n → first_from (is_system name) (types_of m) n ≡ None
type_none m name n h = let same : length (types_of m) ≡ row_count m type_defs = length_numbered (type_row m (λ k. Reference)) 0 (rows_of m type_defs) in first_none (is_system name) (types_of m) n (omega (arith, same, h))
