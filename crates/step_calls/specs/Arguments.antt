-- Arguments that are handed over from the stack of one frame to the places of another.
use Rattle.std.specs.Prelude.{◌≡◌, ℕ, zero, suc, sum, ◌+◌, ◌-◌, ◌<◌, ◌≤◌, Bool, true, false, List, ◌∷◌, length, Option, Some, None, slice_get, slice_set, unwrap_or}
use Rattle.board_types.specs.declared.value.Value.{Value as RamValue}
use Rattle.board_types.specs.declared.value.Value.TheVariants.{Ref}
use Rattle.kept_values.specs.declared.keeping.PlaceKind.{PlaceKind}
use Rattle.kept_values.specs.Keeping.{kept_as}
use Rattle.tiny_ram.specs.Memory.{RamFrame, Memory, innermost, frames_cells, variables, with_frames}
use Rattle.tiny_ram.specs.Region.{Keeps}
use Rattle.tiny_ram.specs.declared.memory.Ram.{Ram}
use Rattle.memory_states.specs.States.{place_held}
use Rattle.step_calls.specs.declared.arguments.Given.{Given}

-- the n topmost values of the innermost frame
pub record IsGiven (m : Memory) (f : RamFrame) (n : ℕ) (x : Given) : Type 0 where
  pub frame : x.frame ≡ innermost m.room m.frames
  pub first : x.first ≡ variables f + (f.depth - n)
  pub below : x.below ≡ f.depth - n
  pub enough : n ≤ f.depth
  pub whole : x.this ≡ None

abbrev pub AreGiven : Memory → RamFrame → ℕ → Option Given → Type 0
AreGiven m f n None = f.depth < n
AreGiven m f n (Some x) = IsGiven m f n x

-- what the place of an index holds
abbrev pub held_at : RamFrame → ℕ → RamValue
held_at f at = unwrap_or (place_held f at) (Ref 0)

-- the i-th argument: `this` comes first where it doesn't lie on the stack
abbrev pub value_in : RamFrame → ℕ → Option RamValue → ℕ → RamValue
value_in f first None i = held_at f (first + i)
value_in f first (Some v) zero = v
value_in f first (Some v) (suc i) = held_at f (first + i)

abbrev pub value_of : RamFrame → Given → ℕ → RamValue
value_of f x i = value_in f x.first x.this i

-- how many of so many arguments lie on the stack
abbrev pub count_in : Option RamValue → ℕ → ℕ
count_in None n = n
count_in (Some v) n = n - 1

-- the first n arguments lie among the frame's places
pub record AreInside (f : RamFrame) (x : Given) (n : ℕ) : Type 0 where
  pub within : x.first + count_in x.this n ≤ sum f.sizes

-- a place of the kind keeps the value as this
pub record IsKeptAs (kind : PlaceKind) (v : RamValue) : Type 0 where
  pub value : RamValue
  pub is : kept_as kind v ≡ Some value

abbrev pub KeepsOne : PlaceKind → RamValue → Bool → Type 0
KeepsOne kind v true = IsKeptAs kind v
KeepsOne kind v false = kept_as kind v ≡ None

-- one of the first n isn't kept
pub record LacksKind (f : RamFrame) (kinds : ℕ → PlaceKind) (x : Given) (n : ℕ) : Type 0 where
  pub index : ℕ
  pub within : index < n
  pub none : kept_as (kinds index) (value_of f x index) ≡ None

abbrev pub AllKept : RamFrame → (ℕ → PlaceKind) → Given → ℕ → Type 0
AllKept f kinds x n = (i : ℕ) → i < n → IsKeptAs (kinds i) (value_of f x i)

abbrev pub KeepsAll : RamFrame → (ℕ → PlaceKind) → Given → ℕ → Bool → Type 0
KeepsAll f kinds x n true = AllKept f kinds x n
KeepsAll f kinds x n false = LacksKind f kinds x n

-- one of these places has what it keeps of an argument
pub record IsHanded (places : List (Option RamValue)) (kind : PlaceKind) (v : RamValue) (i : ℕ) : Type 0 where
  pub kept : IsKeptAs kind v
  pub here : slice_get places i ≡ Some (Some kept.value)

module _ (u : Ram) (m : Memory) (y : RamFrame) (ys : List RamFrame) where
  pub record HandedOne (kind : PlaceKind) (v : RamValue) (i : ℕ) : Type 0 where
    pub kept : IsKeptAs kind v
    pub keeps : Keeps u (with_frames m (record y { places = slice_set y.places i (Some kept.value) } ∷ ys))

  abbrev pub HandsOne : PlaceKind → RamValue → ℕ → Bool → Type 0
  HandsOne kind v i true = HandedOne kind v i
  HandsOne kind v i false = kept_as kind v ≡ None

-- the frame that starts and the one that calls, by their numbers
pub record AreBeside (room : ℕ) (y f : RamFrame) (fs : List RamFrame) (from to : ℕ) : Type 0 where
  pub starts : to ≡ innermost room (y ∷ f ∷ fs)
  pub calls : from ≡ innermost room (f ∷ fs)
  pub fits : frames_cells (y ∷ f ∷ fs) ≤ room

module _ (u : Ram) (m : Memory) (y f : RamFrame) (fs : List RamFrame) where
  -- the first n places of the frame that starts have what they keep of the arguments, and all others are as before
  pub record HandedOver (kinds : ℕ → PlaceKind) (x : Given) (n : ℕ) : Type 0 where
    pub places : List (Option RamValue)
    pub keeps : Keeps u (with_frames m (record y { places = places } ∷ f ∷ fs))
    pub count : length places ≡ length y.places
    pub each : (i : ℕ) → i < n → IsHanded places (kinds i) (value_of f x i) i
    pub others : (i : ℕ) → n ≤ i → slice_get places i ≡ slice_get y.places i

  abbrev pub HandsOver : (ℕ → PlaceKind) → Given → ℕ → Bool → Type 0
  HandsOver kinds x n true = HandedOver kinds x n
  HandsOver kinds x n false = LacksKind f kinds x n
