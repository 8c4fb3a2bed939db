use Rattle.std.proofs.Common.{sym, nat_eq}
use Rattle.std.specs.List.{list_all}
use Rattle.std.proofs.lemmas.Bool.{ne_eqb, eq-eqb}
use Rattle.msspot_read.proofs.PartLaws.{all_more, all_stops, all_done}
use Rattle.msspot_read.proofs.parts.is_blank.Goals as goal

pub returns-then-byte-ne0 : goal.returns-then-byte-ne0
returns-then-byte-ne0 c =
    sym (all_stops (λ b. nat_eq b 0) c.args.bytes.now c.loop-byte.byte-index 0 (list_all (λ b. nat_eq b 0) c.args.bytes.now) c.loop-byte-test.true (ne_eqb _ 0 c.if-byte-ne0.true) c.loop-byte.invariant)

pub loop-byte-preserved : goal.loop-byte-preserved
loop-byte-preserved c =
    all_more (λ b. nat_eq b 0) c.args.bytes.now c.loop-byte.byte-index 0 (list_all (λ b. nat_eq b 0) c.args.bytes.now) c.loop-byte-test.true (eq-eqb _ 0 c.if-byte-ne0.false) c.loop-byte.invariant

pub returns : goal.returns
returns c = sym (all_done (λ b. nat_eq b 0) c.args.bytes.now c.loop-byte.byte-index (list_all (λ b. nat_eq b 0) c.args.bytes.now) c.loop-byte-test.false c.loop-byte.invariant)
