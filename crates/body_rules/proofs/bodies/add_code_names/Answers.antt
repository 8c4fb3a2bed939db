use Rattle.std.proofs.Common.{◌<◌, ap, ◌∙◌, arith}
use Rattle.std.specs.Prelude.{None, if◌then◌else◌}
use Rattle.file_tables.specs.Bytes.{has_bit}
use Rattle.file_tables.specs.Metadata.{row_count}
use Rattle.file_tables.specs.Pe.{PePart}
use Rattle.cil_rows.specs.declared.rows.MethodDefRow.{MethodDefRow}
use Rattle.kept_rules.specs.Row.{MethodAt, in_option, in_code}
use Rattle.world_rows.specs.Lines.{code_at}
use Rattle.world_rows.specs.Tokens.{methods}
use Rattle.looked_rows.specs.Looked.{file_with}
use Rattle.row_rules.proofs.LinkLaws.{row_added}
use Rattle.body_rules.specs.Code.{named_by_code}
use Rattle.body_rules.proofs.bodies.add_code_names.Goals as goal

pub loop-n-preserved : goal.loop-n-preserved
loop-n-preserved c =
    let m = c.args.tables.now in
    let f = c.args.file in
    let pe = c.args.pe.now in
    let row = c.read_row-row.result in
    let within : c.loop-n.n < row_count m methods = omega arith in
    record {
      same = c.keep_method.ensures.same ∙ c.loop-n.invariant.same;
      adds = row_added m methods (MethodAt f) (named_by_code f (file_with pe m)) c.args.rules.now c.loop-n.rules c.keep_method.new.rules c.loop-n.n (in_option (in_code f) (if has_bit row.impl_flags 12 then None else code_at (file_with c.loop-n.sections m) row.rva)) within c.loop-n.invariant.adds
          (ap (λ (p : PePart). in_option (in_code f) (if has_bit row.impl_flags 12 then None else code_at (file_with p m) row.rva)) c.loop-n.invariant.same
          ∙ ap (λ (r : MethodDefRow). in_option (in_code f) (if has_bit r.impl_flags 12 then None else code_at (file_with pe m) r.rva)) c.read_row-row.ensures)
          c.in_ok-keep_method.ensures.names;
    }
