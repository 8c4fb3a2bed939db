use Rattle.std.proofs.Common.{◌<◌, ◌≤◌, ◌∙◌, sym, length, map, arith}
use Rattle.cil_layout.specs.Layout.{column_width}
use Rattle.cil_bytes.proofs.Pieces.{rows_step, rows_done, weight_step}
use Rattle.cil_bytes.proofs.tables.push_rows.Goals as goal

pub loop-row-preserved : goal.loop-row-preserved
loop-row-preserved c =
    let below : c.loop-row.row-index < length c.args.rows.now = omega arith in
    record {
      done = rows_step (map (column_width c.args.widths) c.args.columns.now) c.args.table c.loop-row.at c.next_places-at.result c.args.rows.now c.loop-row.row-index c.row-item.result c.loop-row.out.items c.push_rows_in.new.out.items below c.row-item.is c.next_places-at.ensures.after c.in_ok-push_rows_in.ensures
          ∙ c.loop-row.invariant.done;
      room = omega (arith, c.next_places-at.ensures.reach, c.loop-row.invariant.room, weight_step c.args.rows.now c.loop-row.row-index c.row-item.result below c.row-item.is);
    }

pub returns : goal.returns
returns c =
    let past : length c.args.rows.now ≤ c.loop-row.row-index = omega arith in
    sym (rows_done (map (column_width c.args.widths) c.args.columns.now) c.args.table c.loop-row.at c.args.rows.now c.loop-row.row-index c.loop-row.out.items past) ∙ c.loop-row.invariant.done
