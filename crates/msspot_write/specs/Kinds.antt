-- Entries by kind.
use Rattle.std.specs.Prelude.{ℕ, List}
use Rattle.image_pools.specs.Pools.{Entry}
use Rattle.msspot_write.specs.declared.entries.Kind.{Kind}
use Rattle.msspot_write.specs.declared.entries.Kind.TheVariants.{Name, Literal, Signature}

abbrev pub number_of : Kind → ℕ
number_of Name = 0
number_of Literal = 1
number_of Signature = 2

abbrev pub entry_of : Kind → List ℕ → Entry
entry_of kind bytes = record { kind = number_of kind; bytes = bytes }
