-- The sizes of types, and the bytes of fields with data.
use Rattle.std.specs.Prelude.{◌≡◌, ℕ, List, length, map, slice_get, Option, Some, None}
use Rattle.std.specs.BTreeMap.{BTreeMap}
use Rattle.file_tables.specs.File.{FilePart}
use Rattle.machine.specs.Data.{Id}
use Rattle.machine.specs.Throw.{on_some}
use Rattle.classes.specs.Classes.{SigType, Spelt, ClassToken, ValueToken, ArraySig}
use Rattle.world_rows.specs.Tokens.{class_layouts, field_rvas}
use Rattle.world_rows.specs.Kinds.{width, kind_of, size_by, rva_of, bytes_by}
use Rattle.world_rows.specs.World.{rows_alone}
use Rattle.class_table.specs.Outlines.{AreRead}
use Rattle.member_reading.specs.Columns.{FindsRows}
use Rattle.member_reading.specs.Meant.{scopes}
use Rattle.member_reading.specs.declared.data.Types.{Types}

-- for each file the first layout row of each type
pub record AreLayouts (files : List FilePart) (layouts : List (BTreeMap ℕ ℕ)) : Type 0 where
  pub count : length layouts ≡ length files
  pub each : (file : ℕ) (f : FilePart) (places : BTreeMap ℕ ℕ) → slice_get files file ≡ Some f → slice_get layouts file ≡ Some places → FindsRows f.metadata class_layouts 2 places

-- for each field of a file the first row that says where its data is
abbrev pub FindsData : List FilePart → ℕ → BTreeMap ℕ ℕ → Type 0
FindsData files file places = (f : FilePart) → slice_get files file ≡ Some f → FindsRows f.metadata field_rvas 1 places

-- the types of a world, and their layouts
pub record AreTypes (t : Types) : Type 0 where
  pub count : length t.classes.now ≡ length t.names.now
  pub read : AreRead t.names.now (map (λ rows. rows.items) t.classes.now)
  pub layouts : AreLayouts t.names.now t.layouts.now

abbrev pub class_size : List FilePart → Id → Option ℕ
class_size files c = size_by files (rows_alone files) c (kind_of (scopes files) (rows_alone files) c)

-- of a type that a signature says
abbrev pub signature_size : List FilePart → SigType → Option ℕ
signature_size files (Spelt e) = width e
signature_size files (ClassToken c) = None
signature_size files (ValueToken c) = class_size files c
signature_size files (ArraySig s) = None

-- the bytes of a field of a type
abbrev pub data_by : List FilePart → ℕ → ℕ → Option SigType → Option (List ℕ)
data_by files file n s = on_some (slice_get files file) (λ f. bytes_by f (rva_of f n) (on_some s (signature_size files)))
