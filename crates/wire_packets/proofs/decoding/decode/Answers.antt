use Rattle.std.proofs.Common.{◌≡◌, sym, ◌∙◌, inl, inr, arith}
use Rattle.wire_packets.specs.declared.decoding.Decoded.TheVariants.{Whole, Short}
use Rattle.wire_packets.specs.Decoding.{decoded}
use Rattle.wire_packets.proofs.Read.{whole_read, read_whole, short_read, read_short, answers}
use Rattle.wire_packets.proofs.decoding.decode.Goals as goal

pub returns-clause-whole : goal.returns-clause-whole
returns-clause-whole c p n = (
  λ is. let read = whole_read c.args.bytes.now (λ i. omega (arith, c.type_inv.bytes i)) p n (sym c.answer.ensures ∙ is) in (read.within, read.spells),
  λ found. c.answer.ensures ∙ read_whole c.args.bytes.now p n found.1 found.0,
)

pub returns-clause-short : goal.returns-clause-short
returns-clause-short c =
    (λ is. short_read c.args.bytes.now (sym c.answer.ensures ∙ is), λ short. c.answer.ensures ∙ read_short c.args.bytes.now short)

pub returns-clause-damaged : goal.returns-clause-damaged
returns-clause-damaged c =
    let bytes = c.args.bytes.now in
    let answer : c.answer.result ≡ decoded bytes = c.answer.ensures in (
      λ is. (
        λ short. let other : decoded bytes ≡ Short = read_short bytes short in absurd (cc),
        λ p n within spells. let other : decoded bytes ≡ Whole p n = read_whole bytes p n spells within in absurd (cc),
      ),
      λ none. elim (answers bytes) [
        | inl found ↦
            let read = whole_read bytes (λ i. omega (arith, c.type_inv.bytes i)) found.0 found.1 found.2 in
            absurd (none.1 found.0 found.1 read.within read.spells)
        | inr other ↦ elim other [
          | inl short ↦ absurd (none.0 (short_read bytes short))
          | inr damaged ↦ answer ∙ damaged
        ]
      ],
    )
