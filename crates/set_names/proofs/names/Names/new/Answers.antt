use Rattle.set_names.proofs.KeyLaws.{assemblies_found}
use Rattle.set_names.proofs.names.Names.new.Goals as goal

pub invariant_of-result : goal.invariant_of-result
invariant_of-result c = let found = c.in_ok-assemblies.ensures in record { count = c.in_ok-types.ensures.count; types = c.in_ok-types.ensures.each; assemblies = assemblies_found c.args.images.now c.in_ok-assembly_names.field-0.items c.in_ok-assemblies.assemblies c.in_ok-assembly_names.ensures found }
