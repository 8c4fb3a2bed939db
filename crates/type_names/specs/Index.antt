-- What an index of names holds.
use Rattle.std.specs.Prelude.{◌≡◌, length}
use Rattle.type_names.specs.Files.{parts_of}
use Rattle.type_names.specs.Names.{Each, FindsTypesOf, FindsAssemblies}
use Rattle.type_names.specs.declared.names.Names.TheInside.{Inside}

pub record IsIndex (n : Inside) : Type 0 where
  pub count : length n.types.items ≡ length n.files.now
  pub types : Each FindsTypesOf n.files.now n.types.items
  pub assemblies : FindsAssemblies (parts_of n.files.now) n.assemblies
