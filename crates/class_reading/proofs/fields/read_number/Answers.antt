use Rattle.std.proofs.Common.{◌≡◌, ◌+◌, ◌<◌, ◌≤◌, min, length, not, true, ◌++◌, sym, ap, ◌∙◌, arith}
use Rattle.file_tables.specs.Bytes.{has_bit}
use Rattle.file_tables.specs.Metadata.{rows_of, row_of}
use Rattle.world_rows.specs.Tokens.{fields}
use Rattle.class_reading.proofs.NumberLaws.{is_own, signatures, between, listed, number_by, own_first, static_first, found_twice, found_once, walk_ends}
use Rattle.class_reading.proofs.fields.read_number.Goals as goal
use Rattle.class_reading.proofs.fields.read_number.Goals.{then-is_instance+else-is_some, else-is_instance}

pub returns-then-is_some : goal.returns-then-is_some
returns-then-is_some c =
    let m = c.args.tables.now in
    let n = c.loop-n.n in
    let end = c.min-end.result in
    let limit : end ≡ min (c.args.first + c.args.count) (length (rows_of m fields)) = omega arith in
    let below : n < end = omega arith in
    let within : end ≤ length (rows_of m fields) = omega arith in
    let own : is_own (row_of m fields (n + 1)) ≡ true = ap (λ f. not (has_bit f 4)) (sym (ap (λ r. r.flags) c.read_row-row.ensures)) ∙ sym c.is_instance.ensures ∙ c.if-is_instance.true in
    found_twice m c.args.first c.args.count end n c.loop-n.signature limit c.loop-n.invariant c.read_row-row.result.signature (signatures (between m (n + 1) end)) (sym c.is_some.ensures ∙ c.if-is_some.true)
    (own_first m n end below within c.read_row-row.result.signature own (ap (λ r. r.signature) c.read_row-row.ensures))

pub loop-n-preserved : goal.loop-n-preserved
loop-n-preserved c =
    let m = c.args.tables.now in
    let n = c.loop-n.n in
    let end = c.min-end.result in
    let limit : end ≡ min (c.args.first + c.args.count) (length (rows_of m fields)) = omega arith in
    let below : n < end = omega arith in
    let within : end ≤ length (rows_of m fields) = omega arith in
    elim c.if-is_instance.branch [
      | then-is_instance+else-is_some w ↦
          found_once m c.args.first c.args.count end n c.loop-n.signature limit c.loop-n.invariant c.read_row-row.result.signature (signatures (between m (n + 1) end)) (sym w.is_some.ensures ∙ w.if-is_some.false)
          (own_first m n end below within c.read_row-row.result.signature (ap (λ f. not (has_bit f 4)) (sym (ap (λ r. r.flags) c.read_row-row.ensures)) ∙ sym c.is_instance.ensures ∙ w.if-is_instance.true) (ap (λ r. r.signature) c.read_row-row.ensures))
          ∙ ap (λ o. listed o ++ signatures (between m (n + 1) end)) (sym w.signature-is)
      | else-is_instance w ↦
          c.loop-n.invariant
          ∙ ap (λ ss. listed c.loop-n.signature ++ ss) (static_first m n end below within (ap (λ f. not (has_bit f 4)) (sym (ap (λ r. r.flags) c.read_row-row.ensures)) ∙ sym c.is_instance.ensures ∙ w.if-is_instance.false))
          ∙ ap (λ o. listed o ++ signatures (between m (n + 1) end)) (sym w.signature-is)
    ]

pub returns-in-Some : goal.returns-in-Some
returns-in-Some c =
    let m = c.args.tables.now in
    let end = c.min-end.result in
    let limit : end ≡ min (c.args.first + c.args.count) (length (rows_of m fields)) = omega arith in
    let over : end ≤ c.loop-n.n = omega arith in
    c.read_integer.ensures
    ∙ sym (walk_ends m c.args.first c.args.count end c.loop-n.n c.loop-n.signature limit c.loop-n.invariant over ∙ ap (λ o. number_by m (listed o)) c.in-Some.is)

pub returns-in-None : goal.returns-in-None
returns-in-None c =
    let m = c.args.tables.now in
    let end = c.min-end.result in
    let limit : end ≡ min (c.args.first + c.args.count) (length (rows_of m fields)) = omega arith in
    let over : end ≤ c.loop-n.n = omega arith in
    sym (walk_ends m c.args.first c.args.count end c.loop-n.n c.loop-n.signature limit c.loop-n.invariant over ∙ ap (λ o. number_by m (listed o)) c.in-None.is)
