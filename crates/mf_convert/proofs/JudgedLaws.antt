-- Accepted files are judged, and the rows that are marked for them are those that are needed.
use Rattle.std.proofs.Common.{Vec, Global, ◌≡◌, ℕ, Bool, List, Option, Some, None, refl, subst, sym}
use Rattle.plain_types.specs.declared.fault.Fault.{Fault}
use Rattle.file_tables.specs.File.{FilePart}
use Rattle.class_rules.specs.Base.{IsBase}
use Rattle.world_rows.specs.World.{assemblies_of, ecma_sources, rows_alone, size_of}
use Rattle.base_rows.specs.Facts.{base}
use Rattle.base_rows.proofs.BaseLaws.{base_facts}
use Rattle.verdict_rules.specs.Order.{phase_fault}
use Rattle.verdict_rules.specs.World.{world_of}
use Rattle.verdict_rules.specs.Types.{type_rules}
use Rattle.verdict_rules.specs.Verdict.{member_rules, profile}
use Rattle.judged_classes.specs.Judged.{IsJudged}
use Rattle.kept_rules.specs.Row.{marks}
use Rattle.row_numbers.specs.declared.table.Table.{Table}
use Rattle.row_numbers.specs.declared.table.Table.TheVariants as table
use Rattle.row_numbers.specs.Tables.{row_in}
use Rattle.kept_marks.specs.Kept.{Marked, is_kept}
use Rattle.converted.specs.Choosing.{choice_of}
use Rattle.rows_resolved.specs.Resolved.{resolved_rows, IsAccepted}
use Rattle.rows_resolved.proofs.Accepted.{all, members, in_types, in_members, in_slots}
use Rattle.rows_resolved.proofs.Choice.{there}
use Rattle.table_minimise.specs.Needed.{AreNeeded}
use Rattle.std.specs.Prelude.{Result, Ok, Err}
use Rattle.verdict_rules.specs.Verdict.{Accepted, verdict}
use Rattle.rows_resolved.proofs.Accepted.{opened_accepted}
use Rattle.convert_kept.specs.declared.refusal.ConvertRefusal.{ConvertRefusal}
use Rattle.convert_kept.specs.declared.refusal.ConvertRefusal.TheVariants as refusal
use Rattle.convert_kept.specs.Conversion.{AreOpened, Gives}
use Rattle.mf_convert.specs.Conversion.{MarkNeeded, conversion_of, Converts}
use Rattle.mf_convert.proofs.ImagesLaws.{items}

both : (a b : Option Fault) → a ≡ None → b ≡ None → elim a as (λ _. Option Fault) [ None ↦ elim b as (λ _. Option Fault) [ None ↦ None | Some found ↦ Some found ] | Some found ↦ Some found ] ≡ None
both None None none also = refl
both None (Some b) none also = absurd (cc also)
both (Some a) b none also = absurd (cc none)

no_fault : (files : List FilePart) → IsAccepted files → profile files ≡ None
unfolding profile
no_fault files a = both (phase_fault (type_rules (world_of files)) files) (phase_fault (member_rules (world_of files)) files) (in_types files a) (in_members files a)

pub accepted_are_judged : (files : List FilePart) → IsAccepted files → IsJudged files
accepted_are_judged files a = record { types = a.types; profile = no_fault files a; slots = in_slots files a }

pub base_of : (files : List FilePart) → (xs : List FilePart) × (files ≡ base xs) → IsBase (ecma_sources files).classes
base_of files b = subst (λ z. IsBase (ecma_sources z).classes) (sym b.1) (base_facts b.0)

-- the choice has the rows that are marked
is_marked : (files : List FilePart) (bits : List Bool) (t : Table) (f n : ℕ) → marks (choice_of files bits) (row_in t f n) ≡ is_kept (assemblies_of files) bits t f n
is_marked files bits table.AssemblyRef f n = refl
is_marked files bits table.TypeRef f n = refl
is_marked files bits table.FieldRef f n = refl
is_marked files bits table.MethodRef f n = refl
is_marked files bits table.TypeDef f n = refl
is_marked files bits table.Field f n = refl
is_marked files bits table.MethodDef f n = refl
is_marked files bits table.TypeSpec f n = refl

pub marks_are_needed : (files : List FilePart) (kept : Marked) → IsAccepted files → AreNeeded files kept → MarkNeeded files kept.marks
marks_are_needed files kept a h =
    h (resolved_rows (size_of (rows_alone files)) (assemblies_of files)) (choice_of files kept.marks) (all files a) (members files a)
    (there (size_of (rows_alone files)) (assemblies_of files))
    (is_marked files kept.marks)

pub opened_are_accepted : (files : List FilePart) → AreOpened files → verdict files ≡ Accepted → IsAccepted files
opened_are_accepted files opened accepts = opened_accepted files (λ f x at. let o = opened f x at in (o.0, o.1.1)) accepts

-- what is found of the rows that are needed is what the files are converted into
pub is_converted : (files : List FilePart) (bits : List Bool) (result : Result (Vec ℕ Global) ConvertRefusal) → MarkNeeded files bits → Gives items result (λ found. found ≡ conversion_of files bits) → Gives items result (Converts files)
is_converted files bits (Ok x) needed told = record { marks = bits; needed = needed; told = told }
is_converted files bits (Err (refusal.Limit limit)) needed told = record { marks = bits; needed = needed; told = told }
is_converted files bits (Err refusal.NoMemory) needed told = tt
