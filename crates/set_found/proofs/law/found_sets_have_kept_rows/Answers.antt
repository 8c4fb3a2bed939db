use Rattle.set_found.proofs.FoundLaws.{parts_found, rows_found, are_whole}
use Rattle.set_found.proofs.law.found_sets_have_kept_rows.Goals as goal

pub returns : goal.returns
returns c = record { parts = parts_found; rows = rows_found; whole = are_whole }
