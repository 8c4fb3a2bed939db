-- What is known while the references of a file are resolved, those outside others first.
use Rattle.std.specs.Prelude.{◌≡◌, ℕ, ◌<◌, ◌≤◌, ◌⊎◌, List, [], ◌∷◌, ◌++◌, length, slice_get, slice_index, slice_index_or, slice_set, count_by, is_some, Option, Some, None}
use Rattle.std.specs.Option.{option_map}
use Rattle.assemblies.specs.Rows.{Assembly}
use Rattle.machine.specs.Data.{Id}
use Rattle.machine.specs.Throw.{on_some}
use Rattle.assemblies.specs.Binding.{resolve_ref}
use Rattle.member_keys.specs.declared.keys.ClassId.{ClassId}
use Rattle.member_keys.specs.Seen.{class_seen}
use Rattle.scope_walk.specs.Scopes.{parent_of, root_of, inner_of}

-- the type that a row has so far
abbrev pub value_at : List (Option ClassId) → ℕ → Option Id
value_at resolved n = on_some (slice_get resolved n) (option_map class_seen)

-- a row stands in a list, at a place or behind it
abbrev pub Waits : List ℕ → ℕ → ℕ → Type 0
Waits found at row = (i : ℕ) × (at ≤ i) × (i < length found) × (slice_index found i ≡ row)

-- the lists with a row more in the one of a number
abbrev pub pushed_at : List (List ℕ) → ℕ → ℕ → List (List ℕ)
pushed_at nested m n = slice_set nested m (slice_index_or nested m [] ++ n ∷ [])

abbrev pub AreEmpty : List (List ℕ) → Type 0
AreEmpty nested = (m : ℕ) (rows : List ℕ) → slice_get nested m ≡ Some rows → rows ≡ []

-- each type that a row has is the one that it names, by as many scopes as rows are found
pub record IsSound (ps : List Assembly) (file : ℕ) (resolved : List (Option ClassId)) (found : List ℕ) : Type 0 where
  pub counted : length found ≡ count_by is_some resolved
  pub inside : (i : ℕ) → i < length found → slice_index found i < length resolved
  pub sound : (n : ℕ) (c : Id) → value_at resolved n ≡ Some c → resolve_ref (length found) ps file n ≡ Some c

-- the rows below one have what they name by themselves, and the others nothing
pub record IsStarted (ps : List Assembly) (file : ℕ) (resolved : List (Option ClassId)) (found : List ℕ) (end : ℕ) : Type 0 where
  pub is_sound : IsSound ps file resolved found
  pub waits : (n : ℕ) (c : Id) → value_at resolved n ≡ Some c → Waits found 0 n
  pub roots : (n : ℕ) → n < end → parent_of ps file n ≡ None → value_at resolved n ≡ root_of ps file n
  pub unset : (n : ℕ) → end ≤ n → value_at resolved n ≡ None

-- for each row the rows below one that are nested in it
pub record AreNested (ps : List Assembly) (file : ℕ) (nested : List (List ℕ)) (end : ℕ) : Type 0 where
  pub all : (n m : ℕ) (rows : List ℕ) → n < end → parent_of ps file n ≡ Some m → slice_get nested m ≡ Some rows → Waits rows 0 n
  pub only : (m : ℕ) (rows : List ℕ) (i : ℕ) → slice_get nested m ≡ Some rows → i < length rows → parent_of ps file (slice_index rows i) ≡ Some m

-- what is nested in a row that was found before a place has what it names there
pub record IsWalked (ps : List Assembly) (file : ℕ) (resolved : List (Option ClassId)) (found : List ℕ) (at : ℕ) : Type 0 where
  pub is_sound : IsSound ps file resolved found
  pub roots : (n : ℕ) → parent_of ps file n ≡ None → value_at resolved n ≡ root_of ps file n
  pub closed : (n m : ℕ) (c : Id) → parent_of ps file n ≡ Some m → value_at resolved m ≡ Some c → (value_at resolved n ≡ inner_of ps file c n) ⊎ Waits found at m
