use Rattle.set_binding.proofs.circle.first_circle.Goals as goal

pub circle_among-requires : goal.circle_among-requires
circle_among-requires c = record { few = c.requires.few; table = c.requires.table; ways = c.in_ok-ways.ensures }
