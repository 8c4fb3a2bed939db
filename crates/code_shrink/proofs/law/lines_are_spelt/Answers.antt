use Rattle.code_shrink.proofs.Whole.{fit_law, places_law, targets_law, distances_law, spelling_law}
use Rattle.code_shrink.proofs.law.lines_are_spelt.Goals as goal

pub returns : goal.returns
returns c = record { fit = fit_law; places = places_law; targets = targets_law; distances = distances_law; spelling = spelling_law }
