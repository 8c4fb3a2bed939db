-- The two files of the base library, and facts of their rows that compute.
use Rattle.std.specs.Prelude.{ℕ, Bool, true, false, ◌&&◌, List, [], ◌∷◌, map}
use Rattle.base_tables.specs.declared.library.TheConstants.{MSCORLIB_NAME, NATIVE_NAME}
use Rattle.base_tables.specs.Tables.{mscorlib_items, native_items}
use Rattle.base_lib.specs.Files.{library_of}
use Rattle.base_tables.specs.Shape.{Item}
use Rattle.base_tables.specs.declared.shape.Entry.{Entry}
use Rattle.base_tables.specs.declared.shape.Entry.TheVariants.{TypeDef}
use Rattle.std.specs.List.{filter}
use Rattle.layout_laws.specs.Parts.{parts_of}
use Rattle.file_tables.specs.File.{FilePart}
use Rattle.machine.specs.Texts.{same_text}
use Rattle.assemblies.specs.Rows.{TypeRow}
use Rattle.world_rows.specs.Rows.{alone}

abbrev pub library_file : FilePart
library_file = parts_of (library_of MSCORLIB_NAME.now mscorlib_items)

abbrev pub native_file : FilePart
native_file = parts_of (library_of NATIVE_NAME.now native_items)

abbrev pub same_texts : List (List ℕ) → List (List ℕ) → Bool
same_texts [] [] = true
same_texts (x ∷ xs) (y ∷ ys) = same_text x y && same_texts xs ys
same_texts _ _ = false

abbrev pub type_names : FilePart → List (List ℕ)
type_names f = map (λ (t : TypeRow). t.name) (alone f).types

abbrev pub is_type_entry : Entry → Bool
is_type_entry TypeDef = true
is_type_entry _ = false

-- the names of the types that are asked for
abbrev pub asked_names : List Item → List (List ℕ)
asked_names items = map (λ i. i.name) (filter (λ i. is_type_entry i.entry) items)
