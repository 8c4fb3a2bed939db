-- What a verdict says of the classes of a set, and what places in code of two lengths hold.
use Rattle.std.specs.Prelude.{◌≡◌, ℕ, true, nat_lt, List, Some, slice_get}
use Rattle.machine.specs.Data.{Id}
use Rattle.classes.specs.Classes.{Classes}
use Rattle.classes.specs.Queries.{ends, above, parents, enclosing_of, listed, methods_of}
use Rattle.class_rules.specs.Rules.{methods_apart}
use Rattle.assemblies.specs.Rows.{Assembly}
use Rattle.assemblies.specs.Binding.{classes_of}
use Rattle.assemblies.specs.Chosen.{Choice}
use Rattle.assemblies.specs.Ranges.{MethodsRise}

module _ (size : ℕ) (ps : List Assembly) where
  abbrev high : Classes
  high = classes_of size ps

  pub record Judged : Type 0 where
    -- neither superclasses, interfaces nor enclosing types go in a circle (rules 24 to 26)
    pub ups : (c : Id) → ends size (above high) c ≡ true
    pub parents : (c : Id) → ends size (parents high) c ≡ true
    pub outers : (c : Id) → ends size (λ d. listed (enclosing_of high d)) c ≡ true
    -- no class has two methods of one name and signature (rule 30)
    pub apart : (c : Id) → methods_apart (methods_of high c) ≡ true
    -- the ranges of methods follow one another (II.22.37)
    pub rise : (f : ℕ) (p : Assembly) → slice_get ps f ≡ Some p → MethodsRise p

-- the way from the image's places to the file's begins at the start and keeps their order
pub record PlacesRise (keep : ℕ → Choice) : Type 0 where
  pub begin : (f n : ℕ) → (keep f).long n 0 ≡ 0
  pub order : (f n a b : ℕ) → nat_lt ((keep f).long n a) ((keep f).long n b) ≡ nat_lt a b
