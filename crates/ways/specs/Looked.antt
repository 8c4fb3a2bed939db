-- What is seen along the edges of a place.
use Rattle.std.specs.Prelude.{◌≡◌, ℕ, ◌≤◌, ◌⊎◌, List, Some, length, slice_get}
use Rattle.ways.specs.declared.walk.Mark.{Mark}
use Rattle.ways.specs.declared.walk.Mark.TheVariants as mark
use Rattle.ways.specs.declared.walk.Place.{Place}
use Rattle.ways.specs.declared.walk.Looked.{Looked}
use Rattle.ways.specs.declared.walk.Looked.TheVariants as looked
use Rattle.ways.specs.Walk.{MarksFit, HasTaken}

-- where the place's own height is that of the edges that it took, this one is that of so many
abbrev pub Lengthens : (ℕ → List ℕ) → List Mark → Place → ℕ → ℕ → Type 0
Lengthens next marks p taken height =
    (known : ℕ) → MarksFit next known marks → HasTaken next p.node p.taken p.height → p.height ≤ known → HasTaken next p.node taken height × (height ≤ known)

-- an edge leads to a way that doesn't end: a node of the path, or one that is known to be so
abbrev pub MeetsCircle : (ℕ → List ℕ) → List Mark → ℕ → Type 0
MeetsCircle next marks a =
    (edge : ℕ) × (b : ℕ) × (slice_get (next a) edge ≡ Some b) × ((slice_get marks b ≡ Some mark.Open) ⊎ (slice_get marks b ≡ Some mark.Endless))

abbrev pub Looks : (ℕ → List ℕ) → List Mark → Place → Looked → Type 0
Looks next marks p (looked.Fresh edge node height) =
    (slice_get (next p.node) edge ≡ Some node) × (slice_get marks node ≡ Some mark.Unknown) × Lengthens next marks p edge height
Looks next marks p looked.Circle = MeetsCircle next marks p.node
Looks next marks p (looked.Done height) = Lengthens next marks p (length (next p.node)) height
