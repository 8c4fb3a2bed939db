-- Files by name.
use Rattle.std.specs.Prelude.{◌≡◌, ◌≢◌, ℕ, List, Option, Some, None, if◌then◌else◌, [], ◌∷◌}
use Rattle.std.specs.Option.{option_or}
use Rattle.std.specs.Str.{bytes_eq}
use Rattle.mf_types.specs.declared.files.NamedFile.{NamedFile}

-- the bytes of the last file of this name
abbrev pub bytes_under : List NamedFile → List ℕ → Option (List ℕ)
bytes_under [] name = None
bytes_under (f ∷ fs) name = option_or (bytes_under fs name) (if bytes_eq f.name name then Some f.bytes else None)

-- all files stay
abbrev pub FilesStay : (List ℕ → Option (List ℕ)) → (List ℕ → Option (List ℕ)) → Type 0
FilesStay old new = (name : List ℕ) → new name ≡ old name

-- all files but the one of this name stay
abbrev pub OthersStay : (List ℕ → Option (List ℕ)) → (List ℕ → Option (List ℕ)) → List ℕ → Type 0
OthersStay old new name = (other : List ℕ) → other ≢ name → new other ≡ old other
