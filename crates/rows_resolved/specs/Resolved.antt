-- The rows of a set that mean something, and the files of which all rows do.
use Rattle.std.specs.Prelude.{◌≡◌, ℕ, ◌≤◌, Bool, true, not, is_some, List, Some, slice_get}
use Rattle.file_tables.specs.File.{FilePart}
use Rattle.file_tables.specs.Metadata.{row_count, is_row}
use Rattle.machine.specs.Data.{Id}
use Rattle.machine.specs.Throw.{on_some}
use Rattle.class_rules.specs.Rules.{holds_some}
use Rattle.assemblies.specs.Rows.{TypeSpec, Reference, FieldRow, Assembly}
use Rattle.assemblies.specs.Binding.{id_at, assembly_of, resolve_ref, resolve_field, resolve_method, operand_type}
use Rattle.assemblies.specs.Chosen.{Choice}
use Rattle.kept_closure.specs.Kept.{is_literal}
use Rattle.world_rows.specs.Read.{TypesStand}
use Rattle.world_rows.specs.Tokens.{nested_classes}
use Rattle.verdict_rules.specs.Verdict.{Accepted, verdict}

-- a field that isn't literal
abbrev pub is_variable : List Assembly → Id → Bool
is_variable ps c = holds_some (on_some (slice_get ps c.file) (λ p. slice_get p.fields c.row)) (λ (x : FieldRow). not (is_literal x.kind))

-- all types and methods, all fields that aren't literal, and of references and specifications those that name such rows
abbrev pub resolved_rows : ℕ → List Assembly → ℕ → Choice
resolved_rows size ps f =
    record {
      assemblies = λ n. is_some (assembly_of ps f n);
      refs = λ n. is_some (resolve_ref size ps f n);
      field_refs = λ n. holds_some (resolve_field size ps f (Reference n)) (is_variable ps);
      method_refs = λ n. is_some (resolve_method size ps f (Reference n));
      types = λ n. is_some (on_some (slice_get ps f) (λ p. slice_get p.types n));
      fields = λ n. is_variable ps (id_at f n);
      methods = λ n. is_some (on_some (slice_get ps f) (λ p. slice_get p.methods n));
      specs = λ n. is_some (operand_type size ps f (TypeSpec n));
      short = λ n at. at;
      long = λ n at. at;
    }

-- rule 12 of the rows of nested types (II.22.32)
abbrev pub NestedStand : List FilePart → Type 0
NestedStand files = (f : ℕ) (x : FilePart) → slice_get files f ≡ Some x → (row : ℕ) → row ≤ row_count x.metadata nested_classes → is_row x.metadata nested_classes row ≡ true

-- files that the verdict accepts, the types of which keep rule 12
pub record IsAccepted (files : List FilePart) : Type 0 where
  pub types : TypesStand files
  pub nested : NestedStand files
  pub verdict : verdict files ≡ Accepted
