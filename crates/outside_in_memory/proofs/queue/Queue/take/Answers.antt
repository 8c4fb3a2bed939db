use Rattle.std.proofs.Common.{◌≡◌, ℕ, ◌+◌, ◌-◌, ◌<◌, ◌≤◌, List, Option, length, take, drop, sym, ap, ◌∙◌, subst}
use Rattle.std.specs.Prelude.{min}
use Rattle.std.proofs.lemmas.List.{take_rest}
use Rattle.mf_types.specs.LinkCalls.{TakesPiece}
use Rattle.outside_in_memory.specs.Queued.{queued}
use Rattle.outside_in_memory.proofs.QueueLemmas.{takes_on}
use Rattle.outside_in_memory.proofs.queue.Queue.take.Goals as goal

pub returns-then-self-n : goal.returns-then-self-n
returns-then-self-n c =
    let piece = c.in-Some.piece in
    let from = c.front.new.from in
    let n = c.copy_front-n.result in
    let into = c.copy_front-n.new.into in
    let rest = c.front.new.items.items in
    let same : c.as_slice.result.now ≡ piece = c.as_slice.ensures in
    let whole : take (length c.as_slice.result.now - from) (drop from c.as_slice.result.now) ≡ drop from piece = take_rest c.as_slice.result.now from ∙ ap (drop from) same in
    let size : n ≡ min 2048 (length (drop from piece)) = c.copy_front-n.ensures.size ∙ ap (λ (xs : List ℕ). min 2048 (length xs)) whole in
    let bytes : take n into ≡ take n (drop from piece) = c.copy_front-n.ensures.bytes ∙ ap (take n) whole in
    let more : from + n < length piece = subst (λ (xs : List ℕ). from + n < length xs) c.as_slice-2.ensures c.if-self-n.true in
    let first = sym c.self.view_is ∙ c.in-Some.ensures.front.0 in
    subst (λ (b : Option (List ℕ)). (1 ≤ n) × (n ≤ 2048) × TakesPiece n into c.args.self.now (queued b (from + n) rest)) (sym c.keep.ensures)
    (takes_on piece from n into rest c.args.self.now first c.in-Some.ensures.front.1 size bytes more)
