use Rattle.image_rows.proofs.KeptLaws.{assemblies_are, references_are, field_references_are, method_references_are, specs_are}
use Rattle.image_rows.proofs.law.references_are_of_the_file.Goals as goal

pub returns : goal.returns
returns c = record { assemblies = assemblies_are; types = references_are; fields = field_references_are; methods = method_references_are; specs = specs_are }
