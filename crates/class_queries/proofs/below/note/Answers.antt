use Rattle.std.proofs.Common.{◌<◌, sym, arith, length, subst}
use Rattle.std.specs.Prelude.{Some, slice_set}
use Rattle.member_keys.specs.Seen.{class_seen}
use Rattle.class_queries.specs.Numbers.{number_of}
use Rattle.class_queries.specs.Below.{AreBelow}
use Rattle.class_queries.proofs.BelowLaws.{more_told}
use Rattle.class_queries.proofs.below.note.Goals as goal

pub returns-then-place-known : goal.returns-then-place-known
returns-then-place-known c =
    λ other below is.
    let number = c.number-place.ensures in
    let inside : number_of c.args.table.now (class_seen c.args.class) < length c.args.known.now = omega (arith, c.if-place-known.true, number) in
    subst (λ n. AreBelow c.args.table.now other (slice_set c.args.known.now n (Some c.args.answer))) (sym number) (more_told c.args.table.now other c.args.known.now below (class_seen c.args.class) c.args.answer inside is)
