-- Images that stand by their own bytes.
use Rattle.std.specs.Prelude.{List, [], ◌∷◌, IsSome}
use Rattle.deploy_model.specs.Banks.{Format, Image}

abbrev pub Stand : Format → List Image → Type 0
Stand f [] = Unit {0}
Stand f (x ∷ xs) = IsSome (f.image x.bytes) × Stand f xs
