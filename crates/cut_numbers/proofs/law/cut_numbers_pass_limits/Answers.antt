use Rattle.converted.specs.Images.{parts_at}
use Rattle.cut_numbers.proofs.law.cut_numbers_pass_limits.Goals as goal

pub returns : goal.returns
returns c files marks f bytes x p accepted there at are read named =
    record {
      limits = λ codes. c.limits_stay_where_signatures_fit.ensures (parts_at files marks f x p) codes (c.signatures_of_few_rows_fit.ensures files marks f x p there at named codes);
      numbers = c.numbers_within_limits_fit.ensures.parts files marks f bytes x p accepted there at are read named;
    }
