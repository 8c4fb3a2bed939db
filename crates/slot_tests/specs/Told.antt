-- What is told of a type and of a file by rule 31, and what each type adds to it.
use Rattle.std.specs.Prelude.{◌≡◌, ◌<◌, ℕ, Bool, true, List, length, Option, slice_get}
use Rattle.std.specs.Option.{option_map_or}
use Rattle.plain_types.specs.declared.fault.Fault.{Fault}
use Rattle.file_tables.specs.Metadata.{row_count}
use Rattle.file_tables.specs.File.{FilePart}
use Rattle.machine.specs.Data.{Id}
use Rattle.machine.specs.Throw.{on_some}
use Rattle.classes.specs.Classes.{Classes}
use Rattle.assemblies.specs.Binding.{id_at}
use Rattle.world_rows.specs.Tokens.{type_defs}
use Rattle.member_search.specs.Shown.{Indexed}
use Rattle.class_slots.specs.Added.{added_filled}
use Rattle.class_slots.specs.Slots.{StandWell}
use Rattle.verdict_rules.specs.Order.{TableRules, file_fault}
use Rattle.verdict_rules.specs.World.{World, world_of}
use Rattle.verdict_rules.specs.Code.{slot_tests, slot_rules}
use Rattle.profile_subject.specs.declared.Subject.{Subject}
use Rattle.profile_subject.specs.Faults.{row_fault}

abbrev pub type_rule : World → ℕ → TableRules
type_rule w file = record { table = type_defs; tests = slot_tests w file }

unfoldable pub types_in : List FilePart → ℕ → ℕ
types_in files file = option_map_or (λ (x : FilePart). row_count x.metadata type_defs) (slice_get files file) 0

unfoldable pub row_told : List FilePart → ℕ → ℕ → Option Fault
row_told files file n = on_some (slice_get files file) (λ x. row_fault file x.metadata (type_rule (world_of files) file) n)

unfoldable pub file_told : List FilePart → ℕ → Option Fault
file_told files file = on_some (slice_get files file) (λ x. file_fault file x (slot_rules (world_of files) file x))

-- the class has bodies for the slots that it adds, if there is one
abbrev pub class_adds : Classes → Id → Bool
class_adds cs c = option_map_or (added_filled cs c) (cs.class c) true

-- each type of a file, and of a world
abbrev pub FileAdds : List FilePart → Classes → ℕ → Type 0
FileAdds files cs file = (n : ℕ) → n < types_in files file → class_adds cs (id_at file n) ≡ true

abbrev pub WorldAdds : List FilePart → Classes → Type 0
WorldAdds files cs = (file : ℕ) → file < length files → FileAdds files cs file

-- the index is that of the methods of the subject's classes, and these stand well
pub record IsIndexOf (s : Subject) (x : Indexed) : Type 0 where
  pub table : x.table ≡ s.setting.table.now
  pub methods : StandWell x
