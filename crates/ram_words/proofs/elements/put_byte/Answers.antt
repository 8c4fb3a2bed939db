use Rattle.ram_words.proofs.ByteLemmas.{other_byte}
use Rattle.ram_words.proofs.elements.put_byte.Goals as goal

pub returns-then-at-words-clause-others : goal.returns-then-at-words-clause-others
returns-then-at-words-clause-others c j ne =
    other_byte c.args.words.now c.args.a c.args.i j c.args.b c.from_le_bytes.result c.to_le_bytes-bytes.result c.if-at-words.true ne c.ranges.b.fits c.to_le_bytes-bytes.ensures c.from_le_bytes.ensures
