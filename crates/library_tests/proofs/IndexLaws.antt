-- A type that is found by its name among those of one file.
use Rattle.std.proofs.Common.{◌≡◌, ℕ, ◌<◌, List, length, Option, Some, sym, ap, subst, ◌∙◌}
use Rattle.std.specs.Prelude.{slice_get}
use Rattle.std.specs.BTreeMap.{BTreeMap, get}
use Rattle.std.specs.List.{position}
use Rattle.std.specs.Option.{option_map}
use Rattle.std.proofs.lemmas.Option.{slice_get-map}
use Rattle.file_tables.specs.Metadata.{MetadataPart}
use Rattle.file_tables.specs.File.{FilePart}
use Rattle.machine.specs.Data.{Id}
use Rattle.machine.specs.Throw.{on_some}
use Rattle.assemblies.specs.Rows.{Assembly}
use Rattle.assemblies.specs.Binding.{id_at, is_type, type_in}
use Rattle.assemblies.proofs.Back.{get_there}
use Rattle.world_rows.specs.Rows.{alone}
use Rattle.world_rows.specs.World.{rows_alone}
use Rattle.type_names.specs.declared.keys.NameKey.{NameKey}
use Rattle.type_names.specs.Names.{FindsTypes, ref_of, type_order}
use Rattle.member_reading.proofs.MethodLaws.{same_tables}

pub index_made : (files : List FilePart) (file : ℕ) (m : MetadataPart) (places : BTreeMap NameKey ℕ) → option_map (λ (p : FilePart). p.metadata) (slice_get files file) ≡ Some m → FindsTypes m places → (f : FilePart) → slice_get files file ≡ Some f → FindsTypes f.metadata places
index_made files file m places tables finds f here = subst (λ t. FindsTypes t places) (same_tables (slice_get files file) m f tables here) finds

pub type_found : (files : List FilePart) (file : ℕ) (places : BTreeMap NameKey ℕ) → file < length files → ((f : FilePart) → slice_get files file ≡ Some f → FindsTypes f.metadata places) → (key : NameKey) → option_map (id_at file) (get type_order places key) ≡ type_in (rows_alone files) file key.enclosing (ref_of key)
type_found files file places there finds key = sym (ap (λ o. on_some o found) (slice_get-map alone files file) ∙ go (get_there files file there))
  where
    found : Assembly → Option Id
    found p = option_map (id_at file) (position (is_type key.enclosing (ref_of key)) p.types)

    go : (f : FilePart) × (slice_get files file ≡ Some f) → on_some (option_map alone (slice_get files file)) found ≡ option_map (id_at file) (get type_order places key)
    go (f, e) = ap (λ o. on_some (option_map alone o) found) e ∙ ap (option_map (id_at file)) (sym (finds f e key))
