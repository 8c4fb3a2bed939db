-- The verdict: the first rule of 20 to 54 that files break, in the stated order.
use Rattle.std.specs.Prelude.{◌≡◌, ℕ, List, [], ◌∷◌, Option, Some, None, slice_get, Ok}
use Rattle.plain_types.specs.declared.fault.Fault.{Fault}
use Rattle.file_tables.specs.File.{FilePart, file_of}
use Rattle.world_rows.specs.Tokens.{fields, methods, member_refs, locals_signatures, type_specs}
use Rattle.verdict_rules.specs.Order.{FileRules, each, phase_fault}
use Rattle.verdict_rules.specs.World.{World, world_of}
use Rattle.verdict_rules.specs.Types.{type_rules}
use Rattle.verdict_rules.specs.Members.{field_tests, method_tests, reference_tests, locals_tests, spec_tests}
use Rattle.verdict_rules.specs.Library.{library_tests}
use Rattle.verdict_rules.specs.Code.{slot_rules, code_rules}

abbrev pub member_rules : World → ℕ → FilePart → FileRules
member_rules w file x =
    record {
      tables =
          record { table = fields; tests = field_tests w file x.metadata }
          ∷ record { table = methods; tests = method_tests w file x }
          ∷ record { table = member_refs; tests = reference_tests w file x }
          ∷ record { table = locals_signatures; tests = locals_tests w file x.metadata }
          ∷ record { table = type_specs; tests = spec_tests w file x }
          ∷ [];
      whole = library_tests w file x;
    }

abbrev pub Phase : Type 0
Phase = ℕ → FilePart → FileRules

abbrev pub phases_fault : World → List Phase → Option Fault
phases_fault w phases = each (λ _ rules. phase_fault rules w.files) 0 phases

abbrev pub profile_phases : World → List Phase
profile_phases w = type_rules w ∷ member_rules w ∷ []

abbrev pub all_phases : World → List Phase
all_phases w = type_rules w ∷ member_rules w ∷ slot_rules w ∷ code_rules w ∷ []

-- the first of the rules 20 to 30 that is broken, if one is
unfoldable pub profile : List FilePart → Option Fault
profile files = phases_fault (world_of files) (profile_phases (world_of files))

pub data Verdict : Type 0 where
  Accepted : Verdict
  Refused : (fault : Fault) → Verdict

abbrev pub verdict_by : Option Fault → Verdict
verdict_by None = Accepted
verdict_by (Some fault) = Refused fault

-- the same of the rules 20 to 54
unfoldable pub verdict : List FilePart → Verdict
verdict files = verdict_by (phases_fault (world_of files) (all_phases (world_of files)))

-- the files are the parts of bytes that keep the rules 1 to 13
abbrev pub Opened : List FilePart → Type 0
Opened files = (file : ℕ) (x : FilePart) → slice_get files file ≡ Some x → (bytes : List ℕ) × (file_of bytes ≡ Ok x)
