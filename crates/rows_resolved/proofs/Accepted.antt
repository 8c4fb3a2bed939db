-- What the verdict says of accepted files: their names resolve.
use Rattle.std.proofs.Common.{◌≡◌, ℕ, List, Option, Some, None, refl}
use Rattle.std.specs.Prelude.{slice_get}
use Rattle.plain_types.specs.declared.fault.Fault.{Fault}
use Rattle.cil_code.specs.Bodies.{BodyPart}
use Rattle.file_tables.specs.Metadata.{rows_of}
use Rattle.file_tables.specs.File.{FilePart}
use Rattle.assemblies.specs.Rows.{Assembly}
use Rattle.kept_closure.specs.Kept.{HasAll, Resolves}
use Rattle.kept_rules.specs.Rules.{MembersStand}
use Rattle.world_rows.specs.Tokens.{methods, nested_classes}
use Rattle.world_rows.specs.World.{size_of, rows_alone, assemblies_of}
use Rattle.world_rows.proofs.Opened.{opened, types_stand}
use Rattle.verdict_rules.specs.Order.{phase_fault}
use Rattle.verdict_rules.specs.World.{World, world_of}
use Rattle.verdict_rules.specs.Types.{type_rules}
use Rattle.verdict_rules.specs.Code.{slot_rules, body_of, code_rules}
use Rattle.verdict_rules.specs.Verdict.{member_rules, phases_fault, all_phases, Accepted, verdict_by, verdict, Opened}
use Rattle.verdict_laws.proofs.Kept.{each_kept}
use Rattle.rows_resolved.specs.Resolved.{resolved_rows, IsAccepted}
use Rattle.rows_resolved.proofs.Choice.{Means, has_all, members_stand, all_resolve}
use Rattle.rows_resolved.proofs.Types.{types_mean}
use Rattle.rows_resolved.proofs.Members.{fields_mean, signatures_mean}
use Rattle.rows_resolved.proofs.Entry.{entry_means}
use Rattle.rows_resolved.proofs.Codes.{codes_mean, BodyKept, body_kept}

no_fault : (o : Option Fault) → verdict_by o ≡ Accepted → o ≡ None
no_fault None e = refl
no_fault (Some fault) e = absurd (cc e)

module _ (files : List FilePart) (accepted : IsAccepted files) where
  abbrev w : World
  w = world_of files

  abbrev size : ℕ
  size = size_of (rows_alone files)

  abbrev ps : List Assembly
  ps = assemblies_of files

  -- ---- each phase finds nothing

  none : phases_fault w (all_phases w) ≡ None
  unfolding verdict
  none = no_fault (phases_fault (world_of files) (all_phases (world_of files))) accepted.verdict

  pub in_types : phase_fault (type_rules (world_of files)) files ≡ None
  in_types = each_kept (λ _ rules. phase_fault rules files) (all_phases w) 0 (type_rules w) none refl

  pub in_members : phase_fault (member_rules (world_of files)) files ≡ None
  in_members = each_kept (λ _ rules. phase_fault rules files) (all_phases w) 1 (member_rules w) none refl

  pub in_slots : phase_fault (slot_rules (world_of files)) files ≡ None
  in_slots = each_kept (λ _ rules. phase_fault rules files) (all_phases w) 2 (slot_rules w) none refl

  pub in_code : phase_fault (code_rules (world_of files)) files ≡ None
  in_code = each_kept (λ _ rules. phase_fault rules files) (all_phases w) 3 (code_rules w) none refl

  -- ---- so names resolve

  means : Means size ps
  means =
      record {
        types = types_mean files accepted.nested in_types;
        fields = fields_mean files in_members;
        signatures = signatures_mean files in_members;
        codes = codes_mean files in_members in_code;
        entry = entry_means files in_types;
      }

  pub all : HasAll ps (resolved_rows size ps)
  all = has_all size ps means

  pub members : MembersStand size ps (resolved_rows size ps)
  members = members_stand size ps means

  pub resolve : Resolves size ps (resolved_rows size ps)
  resolve = all_resolve size ps means

  -- ---- and the bodies of rows are kept

  pub bodies : (f n : ℕ) (z : FilePart) (row : List ℕ) (b : BodyPart) → slice_get files f ≡ Some z → slice_get (rows_of z.metadata methods) n ≡ Some row → body_of z row ≡ Some b → BodyKept files f n z b
  bodies = body_kept files in_members in_code

-- ---- files that are read from bytes keep rule 12

pub opened_accepted : (files : List FilePart) → Opened files → verdict files ≡ Accepted → IsAccepted files
opened_accepted files read accepted =
    record {
      types = types_stand files read;
      nested = λ f x at row below. let bytes = read f x at in opened bytes.0 x 12 nested_classes row bytes.1 refl below;
      verdict = accepted;
    }
