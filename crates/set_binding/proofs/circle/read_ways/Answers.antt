use Rattle.set_binding.proofs.circle.read_ways.Goals as goal

pub returns : goal.returns
returns c = record { above = c.in_ok-above.ensures; interfaces = c.in_ok-interfaces.ensures; around = c.in_ok-around.ensures }
