use Rattle.assemblies.specs.Chosen.{chosen}
use Rattle.chosen_image.specs.Spells.{chosen_methods}
use Rattle.image_form.proofs.Final.{spelt_is_seen}
use Rattle.chosen_image.proofs.RowsSpelt.{spelt}
use Rattle.chosen_image.proofs.law.chosen_rows_are_spelt.Goals as goal

pub returns : goal.returns
returns c =
    record {
      spelt = spelt;
      seen = λ size ps all keep has there closed f p ms at s lim. spelt_is_seen (chosen (keep f) p) (chosen_methods (keep f) ms) (spelt size ps all keep has there closed f p ms at s lim);
    }
