use Rattle.std.proofs.Common.{◌≡◌, suc, ◌+◌, ◌<◌, ◌≤◌, [], length, map, take, sym, ap, ◌∙◌, arith}
use Rattle.std.specs.Prelude.{slice_get}
use Rattle.std.specs.Option.{option_map}
use Rattle.std.proofs.lemmas.List.{take_all}
use Rattle.std.specs.Vec.Iter.{into_iter_items}
use Rattle.file_tables.specs.Metadata.{rows_of, row_of, row_count}
use Rattle.assemblies.specs.Binding.{numbered}
use Rattle.world_rows.specs.Tokens.{type_defs, interface_impls}
use Rattle.type_names.specs.Names.{type_seen, type_name_at}
use Rattle.type_names.proofs.RowLoops.{row_more}
use Rattle.type_names.proofs.Resolving.{longer}
use Rattle.class_table.specs.Outlines.{outline_seen}
use Rattle.class_reading.specs.Interfaces.{found_by}
use Rattle.class_reading.specs.Types.{row_outline}
use Rattle.class_reading.proofs.TypeLaws.{outlines_are}
use Rattle.class_reading.proofs.FileLaws.{first_to_come, others_to_come, as_many, key_at}
use Rattle.class_reading.proofs.files.read_file.Goals as goal

pub index-requires : goal.index-requires
index-requires c =
    let many = as_many type_seen (type_name_at c.tables-tables.result.now) 0 c.in_ok-keys.keys.items (rows_of c.tables-tables.result.now type_defs) c.in_ok-keys.ensures.names in
    let step = ap length c.in-Some.ensures.steps.0 in
    omega (arith, many, step, c.loop-interfaces.invariant.count, c.in_ok-keys.keys.ok.0, c.loop-interfaces.rows.ok.0, c.len-n.ensures)

pub read_class-requires : goal.read_class-requires
read_class-requires c =
    let m = c.tables-tables.result.now in
    let step = ap length c.in-Some.ensures.steps.0 in
    let row : c.len-n.result < row_count m type_defs = omega (arith, step, c.loop-interfaces.invariant.count, c.loop-interfaces.rows.ok.0, c.len-n.ensures) in
    let place : length c.loop-interfaces.rows.items + 0 ≡ c.len-n.result = omega (arith, c.loop-interfaces.rows.ok.0, c.len-n.ensures) in
    record {
      file = c.requires;
      tables = ap (λ fs. option_map (λ p. p.metadata) (slice_get fs c.args.file)) (sym c.names-names.ensures) ∙ c.tables-tables.ensures;
      row = row;
      names = ap type_seen c.index.ensures ∙ key_at type_seen (type_name_at m) c.in_ok-keys.keys.items (rows_of m type_defs) c.len-n.result c.index.result.now [] c.in_ok-keys.ensures.names row;
      interfaces =
          c.loop-interfaces.invariant.rest 0 c.in-Some.interfaces.items (first_to_come (λ list. list.items) (into_iter_items c.loop-interfaces.interfaces-iterator) (into_iter_items c.next.new.self) c.in-Some.interfaces c.in-Some.ensures.steps.0)
          ∙ ap (found_by c.args.kinds.now c.args.file m (rows_of m interface_impls)) place;
    }

pub loop-interfaces-preserved : goal.loop-interfaces-preserved
loop-interfaces-preserved c =
    let m = c.tables-tables.result.now in
    let made = row_outline c.args.kinds.now c.args.file m in
    let before = c.loop-interfaces.rows.items in
    let step = c.in-Some.ensures.steps in
    let longer_by : length c.push.new.self.items ≡ length before + 1 = ap length c.in_ok-push.ensures.items ∙ longer before c.read_class.result in
    let place : c.len-n.result ≡ length before = omega (arith, c.loop-interfaces.rows.ok.0, c.len-n.ensures) in
    let within : length before < row_count m type_defs = omega (arith, ap length step.0, c.loop-interfaces.invariant.count) in
    record {
      count = omega (arith, longer_by, ap length step.0, c.loop-interfaces.invariant.count);
      len = omega (arith, step.1, ap length step.0, c.loop-interfaces.invariant.len);
      rows =
          ap (map outline_seen) c.in_ok-push.ensures.items
          ∙ row_more m type_defs (length before) within outline_seen made before c.read_class.result c.loop-interfaces.invariant.rows
          (c.read_class.ensures ∙ ap (λ k. made k (row_of m type_defs (suc k))) place)
          ∙ ap (λ k. numbered made 0 (take k (rows_of m type_defs))) (sym longer_by);
      rest = λ k list at.
          let same : length before + suc k ≡ length c.push.new.self.items + k = omega (arith, longer_by) in
          c.loop-interfaces.invariant.rest (suc k) list (others_to_come (λ list. list.items) (into_iter_items c.loop-interfaces.interfaces-iterator) (into_iter_items c.next.new.self) c.in-Some.interfaces k step.0 ∙ at)
          ∙ ap (found_by c.args.kinds.now c.args.file m (rows_of m interface_impls)) same;
    }

pub returns : goal.returns
returns c =
    let m = c.tables-tables.result.now in
    let there = ap (λ fs. option_map (λ p. p.metadata) (slice_get fs c.args.file)) (sym c.names-names.ensures) ∙ c.tables-tables.ensures in
    let all : length (rows_of m type_defs) ≤ length c.loop-interfaces.rows.items = omega (arith, c.in-None.ensures.steps.0, c.loop-interfaces.invariant.len, c.loop-interfaces.invariant.count) in
    c.loop-interfaces.invariant.rows
    ∙ ap (numbered (row_outline c.args.kinds.now c.args.file m) 0) (take_all (length c.loop-interfaces.rows.items) (rows_of m type_defs) all)
    ∙ sym (outlines_are c.args.kinds.now c.args.file m there)
