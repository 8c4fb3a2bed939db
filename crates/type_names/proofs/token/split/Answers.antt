use Rattle.std.proofs.Common.{◌≡◌, ◌*◌, ◌^◌, ◌%◌, ◌<◌, length, arith}
use Rattle.std.proofs.lemmas.Nat.{one_shl, pow_pos}
use Rattle.std.proofs.lemmas.List.{get_or_default}
use Rattle.cil_tables.proofs.SchemaLaws.{tag_bits_few}
use Rattle.type_names.proofs.token.split.Goals as goal

pub nonzero_rem-tag : goal.nonzero_rem-tag
nonzero_rem-tag c =
    let few : c.tag_bits-bits.result < 32 = omega (arith, c.tag_bits-bits.ensures, tag_bits_few c.args.coded) in
    rw (one_shl c.tag_bits-bits.result 32 few) (pow_pos c.tag_bits-bits.result)

pub returns-then-tag-tables-clause-table : goal.returns-then-tag-tables-clause-table
returns-then-tag-tables-clause-table c =
    let few : c.tag_bits-bits.result < 32 = omega (arith, c.tag_bits-bits.ensures, tag_bits_few c.args.coded) in
    let shifted : 1 * 2 ^ c.tag_bits-bits.result % 2 ^ 32 ≡ 2 ^ c.tag_bits-bits.result = one_shl c.tag_bits-bits.result 32 few in
    let inside : c.args.token % 2 ^ c.tag_bits-bits.result < length c.tables-tables.result.now = rw shifted at c.if-tag-tables.true in
    rw (shifted, ← c.tag_bits-bits.ensures, ← c.tables-tables.ensures) (get_or_default c.tables-tables.result.now (c.args.token % 2 ^ c.tag_bits-bits.result) 0 _ inside)
