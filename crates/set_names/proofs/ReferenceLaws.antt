-- What the rows of an image say, as rows of its set.
use Rattle.std.proofs.Common.{◌≡◌, ℕ, List, length, Option, Some, None, sym, ap, ◌∙◌}
use Rattle.std.specs.Prelude.{slice_get}
use Rattle.std.specs.Option.{option_map, option_map_or}
use Rattle.std.proofs.lemmas.Option.{slice_get-map}
use Rattle.machine.specs.Data.{Id}
use Rattle.machine.specs.Throw.{on_some}
use Rattle.image_bytes.specs.Layout.{Image}
use Rattle.assemblies.specs.Rows.{Assembly, AssemblyRow, TypeRefRow}
use Rattle.assemblies.specs.Binding.{first_number, same_assembly, assembly_of}
use Rattle.scope_walk.specs.Scopes.{reference_at, references_in, outer_row, named_alone, named_inside, parent_of, root_of, inner_of}
use Rattle.tiny_rows.specs.Rows.{rows_seen}
use Rattle.set_names.specs.Names.{seen_all}
use Rattle.set_names.specs.Resolved.{count_at}

there : (images : List Image) (file : ℕ) (i : Image) → Some i ≡ slice_get images file → slice_get (seen_all images) file ≡ Some (rows_seen i)
there images file i e = slice_get-map rows_seen images file ∙ ap (option_map rows_seen) (sym e)

absent : (images : List Image) (file : ℕ) → None ≡ slice_get images file → slice_get (seen_all images) file ≡ None
absent images file e = slice_get-map rows_seen images file ∙ ap (option_map rows_seen) (sym e)

-- ---- references to types

pub ref_in : (images : List Image) (file n : ℕ) (i : Image) → Some i ≡ slice_get images file → slice_get (rows_seen i).refs n ≡ reference_at (seen_all images) file n
ref_in images file n i e = sym (ap (λ o. on_some o (λ (p : Assembly). slice_get p.refs n)) (there images file i e))

pub no_ref : (images : List Image) (file n : ℕ) → None ≡ slice_get images file → None ≡ reference_at (seen_all images) file n
no_ref images file n e = sym (ap (λ o. on_some o (λ (p : Assembly). slice_get p.refs n)) (absent images file e))

pub refs_in : (images : List Image) (file : ℕ) (i : Image) → Some i ≡ slice_get images file → length (rows_seen i).refs ≡ references_in (seen_all images) file
refs_in images file i e = sym (ap (λ o. option_map_or (λ (p : Assembly). length p.refs) o 0) (there images file i e))

pub no_refs : (images : List Image) (file : ℕ) → None ≡ slice_get images file → 0 ≡ references_in (seen_all images) file
no_refs images file e = sym (ap (λ o. option_map_or (λ (p : Assembly). length p.refs) o 0) (absent images file e))

module _ (ps : List Assembly) (file n : ℕ) where
  pub parent_is : (r : TypeRefRow) → Some r ≡ reference_at ps file n → outer_row r.scope ≡ parent_of ps file n
  parent_is r e = ap (λ o. on_some o (λ (x : TypeRefRow). outer_row x.scope)) e

  pub no_parent : None ≡ reference_at ps file n → None ≡ parent_of ps file n
  no_parent e = ap (λ o. on_some o (λ (x : TypeRefRow). outer_row x.scope)) e

  pub root_is : (r : TypeRefRow) → Some r ≡ reference_at ps file n → named_alone ps file r ≡ root_of ps file n
  root_is r e = ap (λ o. on_some o (named_alone ps file)) e

  pub no_root : None ≡ reference_at ps file n → None ≡ root_of ps file n
  no_root e = ap (λ o. on_some o (named_alone ps file)) e

  pub inner_is : (c : Id) (r : TypeRefRow) → Some r ≡ reference_at ps file n → named_inside ps c r ≡ inner_of ps file c n
  inner_is c r e = ap (λ o. on_some o (named_inside ps c)) e

  pub no_inner : (c : Id) → None ≡ reference_at ps file n → None ≡ inner_of ps file c n
  no_inner c e = ap (λ o. on_some o (named_inside ps c)) e

-- ---- references to assemblies

pub assemblies_in : (images : List Image) (file : ℕ) (i : Image) → Some i ≡ slice_get images file → length (rows_seen i).assemblies ≡ count_at (seen_all images) file
assemblies_in images file i e = sym (ap (λ o. option_map_or (λ (p : Assembly). length p.assemblies) o 0) (there images file i e))

pub no_assemblies : (images : List Image) (file : ℕ) → None ≡ slice_get images file → 0 ≡ count_at (seen_all images) file
no_assemblies images file e = sym (ap (λ o. option_map_or (λ (p : Assembly). length p.assemblies) o 0) (absent images file e))

abbrev found_in : List Image → ℕ → Option Assembly → Option ℕ
found_in images n o = on_some o (λ (p : Assembly). on_some (slice_get p.assemblies n) (λ (a : AssemblyRow). first_number (same_assembly a) (seen_all images)))

pub assembly_in : (images : List Image) (file n : ℕ) (i : Image) (a : AssemblyRow) → Some i ≡ slice_get images file → Some a ≡ slice_get (rows_seen i).assemblies n → first_number (same_assembly a) (seen_all images) ≡ assembly_of (seen_all images) file n
assembly_in images file n i a e f = sym (ap (found_in images n) (there images file i e) ∙ ap (λ o. on_some o (λ (x : AssemblyRow). first_number (same_assembly x) (seen_all images))) (sym f))

pub assembly_missing : (images : List Image) (file n : ℕ) (i : Image) → Some i ≡ slice_get images file → None ≡ slice_get (rows_seen i).assemblies n → None ≡ assembly_of (seen_all images) file n
assembly_missing images file n i e f = sym (ap (found_in images n) (there images file i e) ∙ ap (λ o. on_some o (λ (x : AssemblyRow). first_number (same_assembly x) (seen_all images))) (sym f))

pub no_assembly : (images : List Image) (file n : ℕ) → None ≡ slice_get images file → None ≡ assembly_of (seen_all images) file n
no_assembly images file n e = sym (ap (found_in images n) (absent images file e))
