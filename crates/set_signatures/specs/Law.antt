-- When the tokens of an image name what the rows of its set say.
use Rattle.std.specs.Prelude.{◌≡◌, ℕ, List, length, slice_get}
use Rattle.std.specs.Option.{option_map_or}
use Rattle.assemblies.specs.Rows.{Assembly}
use Rattle.assemblies.specs.Binding.{resolve_ref}
use Rattle.image_bytes.specs.Layout.{Image, rows_of}
use Rattle.scope_walk.specs.Walk.{value_at}
use Rattle.set_signatures.specs.declared.tokens.Tokens.{Tokens}

-- of the image of a number in a set, by so many scopes
pub record AreTokens (i : Image) (k : ℕ) (ps : List Assembly) (t : Tokens) : Type 0 where
  pub types : t.types ≡ option_map_or (λ (p : Assembly). length p.types) (slice_get ps t.file) 0
  pub rows : t.types ≡ rows_of i 4
  pub size : length t.references.now ≡ rows_of i 1
  pub references : (n : ℕ) → value_at t.references.now n ≡ resolve_ref k ps t.file n
