-- What is known while a graph is walked.
use Rattle.std.specs.Prelude.{◌≡◌, ℕ, ◌+◌, ◌*◌, ◌<◌, ◌≤◌, ◌⊎◌, Bool, true, false, List, [], ◌∷◌, ◌++◌, Option, Some, None, take, length, slice_get, count_by}
use Rattle.std.specs.List.{list_all}
use Rattle.ways.specs.declared.walk.Mark.{Mark}
use Rattle.ways.specs.declared.walk.Mark.TheVariants as mark
use Rattle.ways.specs.declared.walk.Place.{Place}
use Rattle.ways.specs.declared.walk.Walk.{Walk}
use Rattle.ways.specs.Heights.{ends, HoldsFrom, HasHeight, IsEndless}

abbrev pub is_unknown : Mark → Bool
is_unknown mark.Unknown = true
is_unknown _ = false

abbrev pub height_of : Mark → Option ℕ
height_of (mark.Height h) = Some h
height_of _ = None

-- a mark is right; no height is above the number of those that are known
abbrev pub MarkFits : (ℕ → List ℕ) → ℕ → ℕ → Mark → Type 0
MarkFits next known a (mark.Height h) = HasHeight next a h × (h ≤ known)
MarkFits next known a mark.Endless = IsEndless next a
MarkFits next known a _ = Unit

abbrev pub MarksFit : (ℕ → List ℕ) → ℕ → List Mark → Type 0
MarksFit next known marks = (a : ℕ) (m : Mark) → slice_get marks a ≡ Some m → MarkFits next known a m

-- the longest way by the edges that were taken
abbrev pub HasTaken : (ℕ → List ℕ) → ℕ → ℕ → ℕ → Type 0
HasTaken next a taken height = HoldsFrom height (λ n. list_all (ends n next) (take taken (next a)))

abbrev pub IsMet : List Mark → ℕ → Type 0
IsMet marks a = (a < length marks) × ((m : Mark) → slice_get marks a ≡ Some m → is_unknown m ≡ false)

pub record PlaceFits (next : ℕ → List ℕ) (known : ℕ) (marks : List Mark) (p : Place) : Type 0 where
  pub met : IsMet marks p.node
  pub edges : p.taken ≤ length (next p.node)
  pub taken : HasTaken next p.node p.taken p.height
  pub small : p.height ≤ known

-- a node is on a path
abbrev pub IsOn : List Place → ℕ → Type 0
IsOn [] a = ⊥
IsOn (p ∷ ps) a = (p.node ≡ a) ⊎ IsOn ps a

abbrev pub AllFit : (ℕ → List ℕ) → ℕ → List Mark → List Place → Type 0
AllFit next known marks [] = Unit
AllFit next known marks (p ∷ ps) = PlaceFits next known marks p × AllFit next known marks ps

-- each place leads to the next one by the edge that it takes next
abbrev pub AreLinked : (ℕ → List ℕ) → List Place → Type 0
AreLinked next [] = Unit
AreLinked next (p ∷ []) = Unit
AreLinked next (p ∷ q ∷ ps) = (slice_get (next p.node) p.taken ≡ Some q.node) × AreLinked next (q ∷ ps)

-- the nodes of a path have marks, and were met
abbrev pub AreMet : List Mark → List Place → Type 0
AreMet marks [] = Unit
AreMet marks (p ∷ ps) = IsMet marks p.node × AreMet marks ps

-- those of the path are endless, the others as before
abbrev pub AreEnded : List Place → List Mark → List Mark → Type 0
AreEnded path old new = (a : ℕ) (m : Mark) → slice_get new a ≡ Some m → ((m ≡ mark.Endless) × IsOn path a) ⊎ ((slice_get old a ≡ Some m) × (IsOn path a → ⊥))

-- the path with the place that is looked at
abbrev pub whole_path : List Place → Option Place → List Place
whole_path path None = path
whole_path path (Some p) = path ++ p ∷ []

pub record IsWalk (next : ℕ → List ℕ) (marks : List Mark) (known : ℕ) (path : List Place) : Type 0 where
  pub marked : MarksFit next known marks
  pub on_path : (a : ℕ) → slice_get marks a ≡ Some mark.Open → IsOn path a
  pub places : AllFit next known marks path
  pub links : AreLinked next path
  pub counted : known + length path + count_by is_unknown marks ≤ length marks

abbrev pub Walks : (ℕ → List ℕ) → Walk → Option Place → Type 0
Walks next w current = IsWalk next w.marks.items w.known (whole_path w.path.items current)

-- what was met stays so
abbrev pub StaysMet : List Mark → List Mark → Type 0
StaysMet old new = (a : ℕ) (m k : Mark) → slice_get old a ≡ Some m → is_unknown m ≡ false → slice_get new a ≡ Some k → is_unknown k ≡ false

-- every move makes this less
abbrev pub to_do : Walk → Option Place → ℕ
to_do w current = 2 * count_by is_unknown w.marks.items + length (whole_path w.path.items current)

-- a walk goes on
pub record GoesOn (next : ℕ → List ℕ) (old new : Walk) (before after : Option Place) : Type 0 where
  pub walks : Walks next new after
  pub size : length new.marks.items ≡ length old.marks.items
  pub met : StaysMet old.marks.items new.marks.items
  pub less : to_do new after < to_do old before
  pub empty : after ≡ None → new.path.items ≡ []

-- every node that was met is known
pub record IsDone (next : ℕ → List ℕ) (w : Walk) : Type 0 where
  pub walks : Walks next w None
  pub empty : w.path.items ≡ []
