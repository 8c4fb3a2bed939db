use Rattle.std.proofs.Common.{[], ◌∷◌}
use Rattle.msspot_write.proofs.counts.row_counts.Goals as goal

pub returns : goal.returns
returns c =
    λ i.
    c.row_count.ensures i ∷ c.row_count-2.ensures i ∷ c.row_count-3.ensures i ∷ c.row_count-4.ensures i ∷ c.row_count-5.ensures i ∷ c.row_count-6.ensures i
    ∷ c.row_count-7.ensures i ∷ c.row_count-8.ensures i ∷ c.row_count-9.ensures i ∷ c.row_count-10.ensures i ∷ c.row_count-11.ensures i ∷ []
