use Rattle.act_rests.proofs.Kept.{raised}
use Rattle.act_rests.proofs.Acts.{acted}
use Rattle.act_rests.proofs.law.acts_keep_the_rest.Goals as goal

pub returns : goal.returns
returns c = record {
  acts = λ p s f fs next i h t e. (acted p s f fs next i h).at t e;
  raises = λ p s known t e. (raised s p known).at t e;
}
