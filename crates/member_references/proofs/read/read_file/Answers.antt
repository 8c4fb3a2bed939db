use Rattle.std.proofs.Common.{◌≤◌, ◌+◌, length, sym, ap, ◌∙◌, subst, arith}
use Rattle.std.specs.Prelude.{slice_get}
use Rattle.file_tables.specs.Metadata.{row_count}
use Rattle.world_rows.specs.Tokens.{member_refs}
use Rattle.type_names.proofs.Resolving.{longer}
use Rattle.member_references.specs.Meant.{IsMeant}
use Rattle.member_references.proofs.RowLaws.{each_more, all_meant}
use Rattle.member_references.proofs.read.read_file.Goals as goal

pub loop-n-preserved : goal.loop-n-preserved
loop-n-preserved c =
    let means = IsMeant c.args.members.now.names.now c.args.file in
    let pushed = c.in_ok-push.ensures.items in
    let added = c.in_ok-read_reference.field-0 in
    record {
      size = ap length pushed ∙ longer c.loop-n.references.items added ∙ ap (λ k. k + 1) c.loop-n.invariant.size;
      each = λ i r e. each_more means c.loop-n.references.items added c.loop-n.invariant.each (subst (λ k. means k added) (sym c.loop-n.invariant.size) c.in_ok-read_reference.ensures) i r (ap (λ xs. slice_get xs i) (sym pushed) ∙ e);
    }

pub returns : goal.returns
returns c =
    let all : row_count c.tables-tables.result.now member_refs ≤ length c.loop-n.references.items = omega (arith, c.loop-n.invariant.size) in
    all_meant c.args.members.now.names.now c.args.file c.tables-tables.result.now c.tables-tables.ensures c.loop-n.references.items c.loop-n.invariant.each all
