use Rattle.tiny_except.proofs.Tops.{top_is}
use Rattle.step_virtual.proofs.Looking.{inside}
use Rattle.step_virtual.proofs.receiving.are_kept.Goals as goal

pub returns-in-Spent : goal.returns-in-Spent
returns-in-Spent g c = λ m f fs k e given. c.in-Spent.ensures m f k (top_is m c.args.from.frame f fs e given.frame) (inside c.args.ram.now m f fs c.args.n c.args.from k e given)

pub returns-in-Stuck : goal.returns-in-Stuck
returns-in-Stuck g c = λ m f fs k e given. c.in-Stuck.ensures m f k (top_is m c.args.from.frame f fs e given.frame) (inside c.args.ram.now m f fs c.args.n c.args.from k e given)

pub returns-in-Done : goal.returns-in-Done
returns-in-Done g c = λ m f fs k e given. absurd (c.in-Done.ensures m f k (top_is m c.args.from.frame f fs e given.frame) (inside c.args.ram.now m f fs c.args.n c.args.from k e given))

pub returns-in-Raises : goal.returns-in-Raises
returns-in-Raises g c = λ m f fs k e given. absurd (c.in-Raises.ensures m f k (top_is m c.args.from.frame f fs e given.frame) (inside c.args.ram.now m f fs c.args.n c.args.from k e given))
