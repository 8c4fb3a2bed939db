use Rattle.std.proofs.Common.{◌≡◌, ℕ, ◌+◌, ◌≤◌, List, length, sym, subst, arith}
use Rattle.ram_words.specs.declared.frames.Hot.{Hot}
use Rattle.tiny_ram.specs.Memory.{RamFrame, with_frame_value}
use Rattle.tiny_ram.specs.Region.{Stands}
use Rattle.tiny_ram.proofs.Waits.{Away, away-hot, away-stands}
use Rattle.tiny_ram.proofs.parts.put_in_waiting.Goals as goal

pub returns-clause-stands : goal.returns-clause-stands
returns-clause-stands c f k room t =
    let us : List ℕ = c.put_frame_place-hot.new.words in
    let vs : List ℕ = c.put_waiting.new.words in
    let base : ℕ = c.args.base in
    let g : RamFrame = with_frame_value f c.args.at.index c.args.at.elem c.args.value in
    let h : Hot = c.put_frame_place-hot.result in
    let old : Stands c.args.words.now base c.waiting-hot.result f = subst (λ (x : Hot). Stands c.args.words.now base x f) (sym c.waiting-hot.ensures) k in
    let now : Stands us base h g = c.put_frame_place-hot.ensures.stands f old room t in
    let w = c.put_waiting.ensures in
    let away : Away us vs base h = record { depth = w.depth; initialiser = w.initialiser; place = w.place; method = w.method; outside = w.outside } in
    let size : length us ≡ length c.args.words.now = (c.put_frame_place-hot.ensures.outside f old).size in
    let inner : base + 3 ≤ length us = omega (arith, room, size) in
    subst (λ (x : Hot). Stands vs base x g) (sym (away-hot us vs base h g now away inner)) (away-stands us vs base h g now away inner)
