-- What the fields of the tables hold.
use Rattle.std.specs.Prelude.{◌≡◌, ◌<◌, ◌^◌, length}
use Rattle.file_tables.specs.Streams.{heap_named}
use Rattle.file_tables.specs.Metadata.{strings_name, blob_name, user_strings_name}
use Rattle.cil_tables.specs.Layout.{IsLayout}
use Rattle.cil_tables.specs.declared.tables.Tables.TheInside.{Inside}

pub record IsTables (t : Inside) : Type 0 where
  pub small : length t.region.now < 2 ^ 32
  pub layout : IsLayout t.region.now t.layout
  pub strings : t.strings.now ≡ heap_named t.region.now strings_name
  pub blobs : t.blobs.now ≡ heap_named t.region.now blob_name
  pub user_strings : t.user_strings.now ≡ heap_named t.region.now user_strings_name
  pub strings_small : length t.strings.now < 2 ^ 32
