-- The first file of each assembly's name.
use Rattle.std.specs.Prelude.{◌≡◌, ℕ, List}
use Rattle.std.specs.List.{position}
use Rattle.std.specs.Ordering.{nat_cmp}
use Rattle.std.specs.Cmp.Lexicographic.{slice_cmp}
use Rattle.std.specs.declared.cmp.Ordering.{Ordering}
use Rattle.std.specs.BTreeMap.{get}
use Rattle.file_tables.specs.File.{FilePart}
use Rattle.machine.specs.Texts.{same_text}
use Rattle.type_names.specs.Names.{assembly_name}
use Rattle.type_tests.specs.declared.names.AssemblyName.{AssemblyName}
use Rattle.type_tests.specs.declared.names.AssemblyNames.{AssemblyNames}

abbrev pub name_in : FilePart → List ℕ
name_in x = (assembly_name x.metadata).name

abbrev pub name_order : AssemblyName → AssemblyName → Ordering
name_order a b = slice_cmp nat_cmp a.name.now b.name.now

abbrev pub AreNames : List FilePart → AssemblyNames → Type 0
AreNames files names = (wanted : AssemblyName) → get name_order names.places wanted ≡ position (λ x. same_text wanted.name.now (name_in x)) files
