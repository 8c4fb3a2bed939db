use Rattle.place_types.proofs.Spellings.{agrees_by, spelt_type}
use Rattle.place_types.proofs.law.each_lattice_agrees.Goals as goal

pub returns : goal.returns
returns c = record { agrees = agrees_by; spelling = spelt_type }
