use Rattle.std.proofs.Common.{ℕ, sym, ap, ◌∙◌}
use Rattle.wire_packets.specs.declared.decoding.Decoded.TheVariants.{Whole}
use Rattle.wire_packets.proofs.Spelt.{decoded-spelling, length-spelling}
use Rattle.wire_packets.proofs.laws.reads_back.Goals as goal

pub returns : goal.returns
returns c p rest fits = decoded-spelling p rest fits ∙ ap (λ (n : ℕ). Whole p n) (sym (length-spelling p))
