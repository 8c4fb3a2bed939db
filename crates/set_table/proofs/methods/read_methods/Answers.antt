use Rattle.std.proofs.Common.{◌+◌, ◌<◌, ◌≤◌, ◌∷◌, ◌++◌, [], Some, length, map, take, ap, sym, ◌∙◌, arith}
use Rattle.std.specs.Prelude.{slice_get}
use Rattle.std.specs.Option.{option_map}
use Rattle.std.proofs.lemmas.List.{map-append}
use Rattle.std.proofs.lemmas.Option.{slice_get-get_or}
use Rattle.assemblies.specs.Binding.{numbered}
use Rattle.scope_walk.proofs.Lists.{longer}
use Rattle.class_table.specs.declared.rows.MethodRow.{MethodRow}
use Rattle.class_table.specs.Seen.{method_seen}
use Rattle.tiny_rows.specs.Rows.{rows_seen}
use Rattle.set_names.proofs.IndexLaws.{take_next, take_whole}
use Rattle.set_table.specs.Subject.{method_in}
use Rattle.set_table.proofs.RowLaws.{numbered_more}
use Rattle.set_table.proofs.OwnerLaws.{same_owners}
use Rattle.set_table.proofs.methods.read_methods.Goals as goal

pub loop-n-preserved : goal.loop-n-preserved
loop-n-preserved c =
    let s = c.args.subject.now in
    let rows = (rows_seen s.image.now).methods in
    let pushed = c.in_ok-push.ensures.items in
    let added = c.in_ok-read_method.field-0 in
    let owned : c.loop-n.n < length c.in_ok-owners.owners.items = omega (arith, c.in_ok-owners.ensures.size, c.method_count-n-end.ensures) in
    record {
      count = ap length pushed ∙ longer c.loop-n.rows.items added ∙ ap (λ k. k + 1) c.loop-n.invariant.count;
      rows =
          ap (numbered (method_seen s.tokens.file) 0) pushed
          ∙ numbered_more (method_seen s.tokens.file) (method_in s) c.loop-n.rows.items rows c.loop-n.n added c.loop-n.invariant.count c.loop-n.invariant.rows
          (ap (λ k. Some (method_seen s.tokens.file k added)) (sym c.from.ensures) ∙ c.in_ok-read_method.ensures.row ∙ ap (λ k. option_map (method_in s k) (slice_get rows k)) c.from.ensures);
      owners =
          ap (map (λ (row : MethodRow). row.owner)) pushed
          ∙ map-append (λ (row : MethodRow). row.owner) c.loop-n.rows.items (added ∷ [])
          ∙ ap (λ xs. xs ++ added.owner ∷ []) c.loop-n.invariant.owners
          ∙ ap (λ x. take c.loop-n.n c.in_ok-owners.owners.items ++ x ∷ []) c.in_ok-read_method.ensures.owner
          ∙ sym (take_next c.in_ok-owners.owners.items c.loop-n.n c.index-owner.result.now (slice_get-get_or c.in_ok-owners.owners.items c.loop-n.n c.index-owner.result.now owned ∙ ap Some (sym c.index-owner.ensures)));
    }

pub returns-clause-rows : goal.returns-clause-rows
returns-clause-rows c =
    let s = c.args.subject.now in
    c.loop-n.invariant.rows ∙ ap (numbered (method_in s) 0) (take_whole (rows_seen s.image.now).methods c.loop-n.n (omega (arith, c.loop-n-test.false, c.method_count-n-end.ensures)))

pub returns-clause-owners : goal.returns-clause-owners
returns-clause-owners c =
    let all : length c.in_ok-owners.owners.items ≤ c.loop-n.n = omega (arith, c.loop-n-test.false, c.method_count-n-end.ensures, c.in_ok-owners.ensures.size) in
    λ n. same_owners (λ (row : MethodRow). row.owner) c.loop-n.rows.items c.in_ok-owners.owners.items c.args.subject.now.tokens.file n (c.loop-n.invariant.owners ∙ take_whole c.in_ok-owners.owners.items c.loop-n.n all) ∙ c.in_ok-owners.ensures.each n
