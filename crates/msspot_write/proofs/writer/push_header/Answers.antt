use Rattle.std.proofs.Common.{[], ◌%◌, ◌/◌, refl, ◌∙◌}
use Rattle.std.proofs.lemmas.Result.{on_ok_weaker}
use Rattle.image_bytes.specs.Layout.{word_onto, words_onto, all_onto, byte_onto, marker}
use Rattle.msspot_write.proofs.OntoLaws.{pushed, words_before}
use Rattle.msspot_write.proofs.writer.push_header.Goals as goal

pub returns : goal.returns
returns c =
    let version = c.args.parts.now.version in
    let rows = c.args.counts.now.rows in
    let bytes = c.args.counts.now.bytes in
    let a = c.push_bytes.new.out.items in
    let b = c.push_number.new.out.items in
    let d = c.push_number-2.new.out.items in
    let e = c.push_words.new.out.items in
    let f = c.push_number-3.new.out.items in
    let g = c.push_word.new.out.items in
    let h = c.push_counts.new.out.items in
    let k = c.push_counts-2.new.out.items in
    let r9 = word_onto 0 [] in
    let r8 = words_onto bytes r9 in
    let r7 = words_onto rows r8 in
    let r6 = word_onto c.args.parts.now.entry r7 in
    let r5 = word_onto c.args.name r6 in
    let r4 = words_onto version r5 in
    let r3 = word_onto (c.args.size / 65536) r4 in
    let r2 = word_onto (c.args.size % 65536) r3 in
    on_ok_weaker c.push_word-2.result
    (λ last.
    last
    ∙ pushed (words_onto bytes) (words_before bytes) h k r9 c.in_ok-push_counts-2.ensures
    ∙ pushed (words_onto rows) (words_before rows) g h r8 c.in_ok-push_counts.ensures
    ∙ pushed (word_onto c.args.parts.now.entry) (λ r. refl) f g r7 c.in_ok-push_word.ensures
    ∙ pushed (word_onto c.args.name) (λ r. refl) e f r6 c.in_ok-push_number-3.ensures
    ∙ pushed (words_onto version) (words_before version) d e r5 c.in_ok-push_words.ensures
    ∙ pushed (word_onto (c.args.size / 65536)) (λ r. refl) b d r4 c.in_ok-push_number-2.ensures
    ∙ pushed (word_onto (c.args.size % 65536)) (λ r. refl) a b r3 c.in_ok-push_number.ensures
    ∙ pushed (λ r. all_onto byte_onto marker r) (λ r. refl) c.args.out.now.items a r2 c.in_ok-push_bytes.ensures)
    c.push_word-2.ensures
