-- What the numbers in a file's code mean.
use Rattle.std.specs.Prelude.{ℕ, ◌==◌, if◌then◌else◌, List, Option, None, option_map}
use Rattle.file_tables.specs.Heaps.{user_string_at}
use Rattle.file_tables.specs.Metadata.{MetadataPart}
use Rattle.world_rows.specs.Tokens.{table_of, number_of, literals, type_named, method_named, field_named}
use Rattle.world_rows.specs.Lines.{units_from}
use Rattle.image_form.specs.Codes.{Meaning}

abbrev pub literal_units : MetadataPart → ℕ → Option (List ℕ)
literal_units m token = if table_of token == literals then option_map units_from (user_string_at m.user_strings (number_of token)) else None

abbrev pub file_meaning : MetadataPart → Meaning
file_meaning m = record { type = type_named m; field = field_named m; method = method_named m; text = literal_units m }
