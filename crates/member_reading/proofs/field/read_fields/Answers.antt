use Rattle.std.proofs.Common.{◌≡◌, ℕ, List, Option, Some, subst, ◌<◌, ◌≤◌, ◌∷◌, ◌++◌, [], length, length-append, map, take, ap, sym, ◌∙◌, arith}
use Rattle.std.proofs.lemmas.List.{map-append}
use Rattle.std.specs.Prelude.{slice_get}
use Rattle.file_tables.specs.Metadata.{row_count}
use Rattle.file_tables.specs.File.{FilePart}
use Rattle.assemblies.specs.Binding.{id_at, numbered}
use Rattle.world_rows.specs.Kinds.{data_of}
use Rattle.world_rows.specs.World.{rows_alone}
use Rattle.world_rows.specs.Tokens.{fields}
use Rattle.class_table.specs.declared.rows.FieldRow.{FieldRow}
use Rattle.class_table.specs.Seen.{field_seen}
use Rattle.class_table.specs.Whole.{HasData}
use Rattle.member_reading.specs.Meant.{scopes}
use Rattle.member_reading.proofs.SearchLaws.{stands, one_more, all_taken}
use Rattle.member_reading.proofs.MemberLaws.{rows_more, same_owners}
use Rattle.member_reading.proofs.FieldLaws.{bytes_more, fields_done}
use Rattle.member_reading.proofs.field.read_fields.Goals as goal

abbrev there : List FilePart → ℕ → ℕ → Option (List ℕ)
there files file n = data_of (scopes files) files (rows_alone files) (id_at file n)

pub loop-n-preserved : goal.loop-n-preserved
loop-n-preserved c =
    let pushed = c.in_ok-push.ensures.items in
    let within : c.loop-n.n < row_count c.tables-tables.result.now fields = omega arith in
    let owned : c.loop-n.n < length c.in_ok-owners.owners.items = omega (arith, within, c.in_ok-owners.ensures.size) in
    record {
      count = omega (arith, length-append {A = FieldRow}, ap length pushed, c.loop-n.invariant.count);
      rows = ap (numbered (field_seen c.args.file) 0) pushed ∙ rows_more c.tables-tables.result.now fields c.loop-n.n (field_seen c.args.file) _ c.loop-n.rows.items c.read_field.result within c.loop-n.invariant.count c.loop-n.invariant.rows c.read_field.ensures.row;
      bytes =
          subst (λ (rows : List FieldRow). (i : ℕ) (x : FieldRow) → slice_get rows i ≡ Some x → HasData x.kind (there c.args.types.now.names.now c.args.file i)) (sym pushed)
          (bytes_more c.args.types.now.names.now c.args.file c.tables-tables.result.now c.tables-tables.ensures (there c.args.types.now.names.now c.args.file) c.loop-n.rows.items c.read_field.result c.loop-n.n c.loop-n.invariant.count c.loop-n.invariant.bytes c.read_field.ensures.bytes);
      owners =
          ap (map (λ (row : FieldRow). row.owner)) pushed
          ∙ map-append (λ (row : FieldRow). row.owner) c.loop-n.rows.items (c.read_field.result ∷ [])
          ∙ ap (λ xs. xs ++ c.read_field.result.owner ∷ []) c.loop-n.invariant.owners
          ∙ ap (λ x. take c.loop-n.n c.in_ok-owners.owners.items ++ x ∷ []) c.read_field.ensures.owner
          ∙ sym (one_more c.in_ok-owners.owners.items c.loop-n.n c.index-owner.result.now (stands c.in_ok-owners.owners.items c.loop-n.n c.index-owner.result.now owned c.index-owner.ensures));
    }

pub returns-clause-rows : goal.returns-clause-rows
returns-clause-rows c =
    let past : row_count c.tables-tables.result.now fields ≤ c.loop-n.n = omega arith in
    fields_done c.args.types.now.names.now c.args.file c.tables-tables.result.now c.tables-tables.ensures (field_seen c.args.file) c.loop-n.rows.items c.loop-n.n c.loop-n.invariant.rows past

pub returns-clause-owners : goal.returns-clause-owners
returns-clause-owners c =
    let past : row_count c.tables-tables.result.now fields ≤ c.loop-n.n = omega arith in
    let all : length c.in_ok-owners.owners.items ≤ c.loop-n.n = omega (arith, past, c.in_ok-owners.ensures.size) in
    λ n. same_owners (λ (row : FieldRow). row.owner) c.loop-n.rows.items c.in_ok-owners.owners.items c.args.file n (c.loop-n.invariant.owners ∙ all_taken c.in_ok-owners.owners.items c.loop-n.n all) ∙ c.in_ok-owners.ensures.each n
