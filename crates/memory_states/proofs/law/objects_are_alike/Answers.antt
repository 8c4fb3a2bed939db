use Rattle.std.proofs.Common.{[], ◌∷◌}
use Rattle.memory_states.proofs.Heaps.{entry_is, things_more, frames_more, made_is}
use Rattle.memory_states.proofs.law.objects_are_alike.Goals as goal

pub returns : goal.returns
returns c = record {
  there = entry_is;
  made = λ p outer m s e x h k. record { heap = things_more p m.room m.heap s.heap e x h.heap k; frames = frames_more p outer s.heap (x ∷ []) m.room m.frames s.frames h.frames };
  instance = made_is;
}
