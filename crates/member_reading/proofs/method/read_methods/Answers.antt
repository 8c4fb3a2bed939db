use Rattle.std.proofs.Common.{◌<◌, ◌≤◌, ◌∷◌, ◌++◌, [], length, length-append, map, take, ap, sym, ◌∙◌, subst, arith}
use Rattle.std.specs.Prelude.{slice_get}
use Rattle.std.proofs.lemmas.List.{map-append}
use Rattle.file_tables.specs.Metadata.{row_count}
use Rattle.assemblies.specs.Binding.{numbered}
use Rattle.world_rows.specs.Tokens.{methods}
use Rattle.class_table.specs.declared.rows.MethodRow.{MethodRow}
use Rattle.class_table.specs.Seen.{method_seen}
use Rattle.member_reading.proofs.SearchLaws.{stands, one_more, all_taken}
use Rattle.member_reading.proofs.MemberLaws.{rows_more, same_owners}
use Rattle.member_reading.proofs.FieldLaws.{with_tables}
use Rattle.member_reading.proofs.MethodLaws.{methods_done, same_tables}
use Rattle.member_reading.proofs.method.read_methods.Goals as goal

pub loop-n-preserved : goal.loop-n-preserved
loop-n-preserved c =
    let pushed = c.in_ok-push.ensures.items in
    let added = c.in_ok-read_method.field-0 in
    let within : c.loop-n.n < row_count c.tables-tables.result.now methods = omega arith in
    let owned : c.loop-n.n < length c.in_ok-owners.owners.items = omega (arith, within, c.in_ok-owners.ensures.size) in
    record {
      count = omega (arith, length-append {A = MethodRow}, ap length pushed, c.loop-n.invariant.count);
      rows = λ f here.
          ap (numbered (method_seen c.args.file) 0) pushed
          ∙ rows_more f.metadata methods c.loop-n.n (method_seen c.args.file) _ c.loop-n.rows.items added
          (subst (λ m. c.loop-n.n < row_count m methods) (same_tables (slice_get c.args.types.now.names.now c.args.file) c.tables-tables.result.now f c.tables-tables.ensures here) within)
          c.loop-n.invariant.count (c.loop-n.invariant.rows f here) (c.in_ok-read_method.ensures.row f here);
      owners =
          ap (map (λ (row : MethodRow). row.owner)) pushed
          ∙ map-append (λ (row : MethodRow). row.owner) c.loop-n.rows.items (added ∷ [])
          ∙ ap (λ xs. xs ++ added.owner ∷ []) c.loop-n.invariant.owners
          ∙ ap (λ x. take c.loop-n.n c.in_ok-owners.owners.items ++ x ∷ []) c.in_ok-read_method.ensures.owner
          ∙ sym (one_more c.in_ok-owners.owners.items c.loop-n.n c.index-owner.result.now (stands c.in_ok-owners.owners.items c.loop-n.n c.index-owner.result.now owned c.index-owner.ensures));
    }

pub returns-clause-rows : goal.returns-clause-rows
returns-clause-rows c =
    let past : row_count c.tables-tables.result.now methods ≤ c.loop-n.n = omega arith in
    let w = with_tables (slice_get c.args.types.now.names.now c.args.file) c.tables-tables.result.now c.tables-tables.ensures in
    methods_done c.args.types.now.names.now c.args.file w.0 w.1 (method_seen c.args.file) c.loop-n.rows.items c.loop-n.n (c.loop-n.invariant.rows w.0 w.1) (subst (λ m. row_count m methods ≤ c.loop-n.n) (sym w.2) past)

pub returns-clause-owners : goal.returns-clause-owners
returns-clause-owners c =
    let past : row_count c.tables-tables.result.now methods ≤ c.loop-n.n = omega arith in
    let all : length c.in_ok-owners.owners.items ≤ c.loop-n.n = omega (arith, past, c.in_ok-owners.ensures.size) in
    λ n. same_owners (λ (row : MethodRow). row.owner) c.loop-n.rows.items c.in_ok-owners.owners.items c.args.file n (c.loop-n.invariant.owners ∙ all_taken c.in_ok-owners.owners.items c.loop-n.n all) ∙ c.in_ok-owners.ensures.each n
