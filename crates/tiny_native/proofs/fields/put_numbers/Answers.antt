use Rattle.std.proofs.Common.{refl, sym, subst, arith}
use Rattle.tiny_ram.specs.Memory.{Memory}
use Rattle.tiny_ram.specs.Region.{Keeps}
use Rattle.tiny_native.proofs.Memories.{put_same}
use Rattle.tiny_native.proofs.fields.put_numbers.Goals as goal

pub loop-index-init : goal.loop-index-init
loop-index-init g c m d e is layout count enough k = record {
  places = e.places;
  keeps = subst (λ (x : Memory). Keeps c.args.ram.now x) (sym (put_same m e c.args.thing is)) k;
  count = refl;
  first = λ i l. absurd (omega (arith, l));
}
