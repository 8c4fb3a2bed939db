-- What an index of names holds.
use Rattle.std.specs.Prelude.{◌≡◌, length}
use Rattle.set_names.specs.declared.names.Names.TheInside.{Inside}
use Rattle.set_names.specs.Names.{Each, FindsTypes, FindsAssemblies}

pub record IsIndex (n : Inside) : Type 0 where
  pub count : length n.types.items ≡ length n.images.now
  pub types : Each FindsTypes n.images.now n.types.items
  pub assemblies : FindsAssemblies n.images.now n.assemblies
