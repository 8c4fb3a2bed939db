use Rattle.std.proofs.Common.{◌≤◌, sym, ap, ◌∙◌, arith}
use Rattle.std.specs.Prelude.{codes, ◌&&◌}
use Rattle.file_tables.specs.Metadata.{row_count}
use Rattle.machine.specs.Texts.{same_text}
use Rattle.world_rows.specs.Tokens.{type_defs, text_at}
use Rattle.world_rows.specs.Kinds.{is_system}
use Rattle.class_reading.specs.Base.{types_of}
use Rattle.class_reading.proofs.FirstLaws.{first_begins}
use Rattle.class_reading.proofs.LibraryLaws.{type_here, type_behind, type_none}
use Rattle.class_reading.proofs.base.find_system.Goals as goal

pub loop-n-init : goal.loop-n-init
loop-n-init c = first_begins (is_system c.args.name.now) (types_of c.args.tables.now)

pub returns-then-is_system : goal.returns-then-is_system
returns-then-is_system c =
    sym
    (c.loop-n.invariant
    ∙ type_here c.args.tables.now c.args.name.now c.loop-n.n (omega arith)
    (sym (c.is_system.ensures ∙ ap (λ r. same_text (text_at c.args.tables.now r.namespace) (codes "System") && same_text (text_at c.args.tables.now r.name) c.args.name.now) c.read_row-row.ensures) ∙ c.if-is_system.true))

pub loop-n-preserved : goal.loop-n-preserved
loop-n-preserved c =
    c.loop-n.invariant
    ∙ type_behind c.args.tables.now c.args.name.now c.loop-n.n (omega arith)
    (sym (c.is_system.ensures ∙ ap (λ r. same_text (text_at c.args.tables.now r.namespace) (codes "System") && same_text (text_at c.args.tables.now r.name) c.args.name.now) c.read_row-row.ensures) ∙ c.if-is_system.false)

pub returns : goal.returns
returns c =
    let past : row_count c.args.tables.now type_defs ≤ c.loop-n.n = omega arith in
    sym (c.loop-n.invariant ∙ type_none c.args.tables.now c.args.name.now c.loop-n.n past)
