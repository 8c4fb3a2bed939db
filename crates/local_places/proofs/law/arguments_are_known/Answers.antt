use Rattle.local_places.proofs.PlaceLaws.{arguments_known, members_kept, no_method}
use Rattle.local_places.proofs.law.arguments_are_known.Goals as goal

pub returns : goal.returns
returns c =
    record {
      told = λ files t table read spelt stand kept file row x m p here e told. arguments_known files (members_kept files kept) file x here t table row spelt m p e told;
      none = no_method;
    }
