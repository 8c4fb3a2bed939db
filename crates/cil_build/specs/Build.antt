-- What the builder holds.
use Rattle.cil_build.specs.declared.build.Build.TheInside.{Inside}
use Rattle.cil_layout.specs.Asked.{Asked}

abbrev pub asked_of : Inside → Asked
asked_of b = record { name = b.name; version = b.version; rows = b.rows.items; entry = b.entry }
