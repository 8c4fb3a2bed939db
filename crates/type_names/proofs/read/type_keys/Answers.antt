use Rattle.std.proofs.Common.{ap, ◌∙◌, arith, map, length, length-append}
use Rattle.world_rows.specs.Tokens.{type_defs, text_at}
use Rattle.type_names.specs.declared.keys.NameKey.{NameKey}
use Rattle.type_names.specs.Names.{type_seen, type_name_at}
use Rattle.type_names.proofs.RowLoops.{row_more}
use Rattle.type_names.proofs.KeyLaws.{name_made}
use Rattle.type_names.proofs.read.type_keys.Goals as goal

pub loop-n-preserved : goal.loop-n-preserved
loop-n-preserved c =
    let pushed = c.in_ok-push.ensures.items in
    record {
      names =
          ap (map type_seen) pushed
          ∙ row_more c.args.tables.now type_defs c.loop-n.n (omega arith) type_seen (type_name_at c.args.tables.now) c.loop-n.keys.items _ c.loop-n.invariant.names
          (name_made c.args.tables.now c.loop-n.n _ _ _ c.enclosing.ensures (c.text.ensures ∙ ap (λ r. text_at c.args.tables.now r.namespace) c.read_row-row.ensures) (c.text-in-loop-n.ensures ∙ ap (λ r. text_at c.args.tables.now r.name) c.read_row-row.ensures));
      count = omega (arith, length-append {A = NameKey}, ap length pushed, c.loop-n.invariant.count);
    }
