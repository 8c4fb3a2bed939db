use Rattle.flash_trait.proofs.FlashContents.{mask_of, mask_fits, mask_bytes, cut_by_mask, cut_stopped, after_stopped, same_stopped}
use Rattle.flash_trait.proofs.flash_law.masks.Goals as goal

pub returns-clause-spelt : goal.returns-clause-spelt
returns-clause-spelt c op old new possible a b stopped =
    let fits = mask_fits op old new possible in
    (mask_of op old new, fits.0, fits.1, mask_bytes op old new a b, cut_by_mask op old new stopped)

pub returns-clause-no_other : goal.returns-clause-no_other
returns-clause-no_other c op mask old = cut_stopped op mask old

pub returns-clause-whole : goal.returns-clause-whole
returns-clause-whole c op old = after_stopped op old

pub returns-clause-none : goal.returns-clause-none
returns-clause-none c op old = same_stopped op old
