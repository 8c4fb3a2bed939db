use Rattle.std.proofs.Common.{◌≡◌, ℕ, ◌+◌, length, inl, arith, ◌∙◌, get_or}
use Rattle.ram_words.specs.Headers.{shape_at}
use Rattle.ram_words.proofs.HeaderLemmas.{shape_back}
use Rattle.ram_words.proofs.headers.put_shape.Goals as goal

pub returns-clause-here : goal.returns-clause-here
unfolding shape_at
returns-clause-here c room =
    let at : ℕ = c.args.at in
    let first : ℕ = get_or c.put_word-3.new.words at 0 in
    let second : ℕ = get_or c.put_word-3.new.words (at + 1) 0 in
    let size : length c.put_word-2.new.words ≡ length c.args.words.now = c.put_word-2.ensures.outside.size ∙ c.put_word.ensures.outside.size in
    shape_back c.args.shape c.number_of-elem.result first second _ c.requires.what (omega arith) (omega arith) c.number_of-elem.ensures.number
    (c.put_word-3.ensures.outside.at at (inl (omega arith)) ∙ c.put_word-2.ensures.outside.at at (inl (omega arith)) ∙ c.put_word.ensures.here (omega arith))
    (c.put_word-3.ensures.outside.at (at + 1) (inl (omega arith)) ∙ c.put_word-2.ensures.here (omega arith) ∙ c.word_of.ensures)
    (c.put_word-3.ensures.here (omega arith))
