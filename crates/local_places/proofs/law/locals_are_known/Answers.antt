use Rattle.local_places.proofs.PlaceLaws.{locals_known, members_kept}
use Rattle.local_places.proofs.law.locals_are_known.Goals as goal

pub returns : goal.returns
returns c = λ files read spelt stand kept file row x columns m b here at e code body. locals_known files (members_kept files kept) file x here row columns at spelt m b e body
