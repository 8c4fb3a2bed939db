-- Ways in a set that end.
use Rattle.std.specs.Prelude.{◌≡◌, ℕ, true, List}
use Rattle.machine.specs.Data.{Id}
use Rattle.classes.specs.Classes.{Classes}
use Rattle.classes.specs.Queries.{ends, above, parents, enclosing_of, listed}
use Rattle.assemblies.specs.Rows.{Assembly}
use Rattle.assemblies.specs.Binding.{classes_of}

module _ (size : ℕ) (ps : List Assembly) where
  abbrev all : Classes
  all = classes_of size ps

  -- neither superclasses, interfaces nor enclosing types go in a circle
  pub record WaysEnd : Type 0 where
    pub ups : (c : Id) → ends size (above all) c ≡ true
    pub parents : (c : Id) → ends size (parents all) c ≡ true
    pub outers : (c : Id) → ends size (λ d. listed (enclosing_of all d)) c ≡ true
