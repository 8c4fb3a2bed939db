use Rattle.std.proofs.Common.{◌∷◌, [], ap, ◌∙◌, arith, slice_index, length, length-append}
use Rattle.world_rows.specs.Tokens.{nested_classes}
use Rattle.type_names.proofs.RowLoops.{row_is, column_more}
use Rattle.type_names.proofs.nested.read_nested.Goals as goal

pub loop-n-preserved : goal.loop-n-preserved
loop-n-preserved c =
    let pushed = c.in_ok-push.ensures.items in
    record {
      types =
          pushed
          ∙ column_more c.args.tables.now nested_classes c.loop-n.n (omega arith) (λ row. slice_index row 0) c.loop-n.types.items c.read_row-row.result.nested c.loop-n.invariant.types
          (ap (λ r. r.nested) c.read_row-row.ensures ∙ ap (λ r. slice_index r 0) (row_is c.args.tables.now nested_classes c.loop-n.n));
      count = ap length pushed ∙ omega (arith, length-append c.loop-n.types.items (c.read_row-row.result.nested ∷ []), c.loop-n.invariant.count);
    }
