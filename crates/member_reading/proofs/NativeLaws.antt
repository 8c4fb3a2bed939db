-- The natives of a world, by their rows.
use Rattle.std.proofs.Common.{◌≡◌, List, Option, ap, ◌∙◌}
use Rattle.file_tables.specs.File.{FilePart}
use Rattle.machine.specs.Data.{Id}
use Rattle.classes.specs.Classes.{Signature}
use Rattle.class_table.specs.Seen.{native_seen}
use Rattle.member_reading.specs.declared.native.NativeRow.{NativeRow}
use Rattle.member_reading.specs.Natives.{Known, known_in, Shown, type_named, signature_of_native, native_read}

pub shown_is : (files : List FilePart) (row : NativeRow) (known : Known) (owner : Option Id) (signature : Option Signature) → owner ≡ type_named files row.file row.namespace.now row.class.now → signature ≡ signature_of_native known row → known ≡ known_in files → ◌≡◌ {A = Shown} (record { body = native_seen row.number; name = row.name.now; owner = owner; signature = signature }) (native_read files row)
shown_is files row known owner signature e g h =
    ap (λ x. record { body = native_seen row.number; name = row.name.now; owner = x; signature = signature }) e
    ∙ ap (λ x. record { body = native_seen row.number; name = row.name.now; owner = type_named files row.file row.namespace.now row.class.now; signature = x }) (g ∙ ap (λ k. signature_of_native k row) h)
