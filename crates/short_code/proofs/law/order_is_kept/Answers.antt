use Rattle.short_code.proofs.ShortLaws.{order}
use Rattle.short_code.proofs.law.order_is_kept.Goals as goal

pub returns : goal.returns
returns c = order
