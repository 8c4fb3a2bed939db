use Rattle.std.proofs.Common.{length, length-append, ap, sym, subst, arith, ℕ}
use Rattle.std.specs.BTreeMap.{BTreeMap}
use Rattle.world_rows.specs.Tokens.{class_layouts}
use Rattle.member_reading.proofs.DataLaws.{Finds, finds_file, layouts_more}
use Rattle.member_reading.proofs.data.read_layouts.Goals as goal

pub loop-file-preserved : goal.loop-file-preserved
loop-file-preserved c =
    let pushed = c.in_ok-push.ensures.items in
    record {
      count = omega (arith, length-append {A = BTreeMap ℕ ℕ}, ap length pushed, c.loop-file.invariant.count);
      each =
          subst (λ xs. Finds c.args.names.now xs) (sym pushed)
          (layouts_more c.args.names.now c.loop-file.layouts.items c.in_ok-first_rows.field-0 c.loop-file.file c.loop-file.invariant.count c.loop-file.invariant.each
          (finds_file c.args.names.now c.loop-file.file class_layouts 2 c.tables.result.now c.in_ok-first_rows.field-0 c.tables.ensures c.in_ok-first_rows.ensures));
    }
