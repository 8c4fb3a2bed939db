-- One image of a set: what its tokens name, and what its rows say by that.
use Rattle.std.specs.Prelude.{◌≡◌, ℕ, List, [], ◌∷◌, Option, Some, None, slice_get}
use Rattle.std.specs.List.{filter_map}
use Rattle.machine.specs.Data.{Id}
use Rattle.classes.specs.Classes.{OwnField, OwnMethod}
use Rattle.assemblies.specs.Rows.{TypeToken, TypeRow, FieldRow, MethodRow}
use Rattle.assemblies.specs.Binding.{resolve, own_field, own_method}
use Rattle.world_rows.specs.World.{size_of}
use Rattle.class_table.specs.declared.rows.ClassRow.{ClassRow}
use Rattle.class_table.specs.Outlines.{Outline, outline_of}
use Rattle.row_owners.specs.declared.find.Span.{Span}
use Rattle.set_signatures.specs.Law.{AreTokens}
use Rattle.tiny_rows.specs.Rows.{rows_seen}
use Rattle.tiny_members.specs.Rows.{interfaces_seen}
use Rattle.set_names.specs.Names.{seen_all}
use Rattle.set_table.specs.declared.subject.Subject.{Subject}

-- the image is the set's of the number, and its references are resolved by enough scopes
pub record IsSubject (s : Subject) : Type 0 where
  pub here : slice_get (seen_all s.names.now) s.tokens.file ≡ Some (rows_seen s.image.now)
  pub tokens : AreTokens s.image.now (size_of (seen_all s.names.now)) (seen_all s.names.now) s.tokens

-- the class of a token
abbrev pub class_in : Subject → TypeToken → Option Id
class_in s = resolve (size_of (seen_all s.names.now)) (seen_all s.names.now) s.tokens.file

abbrev pub outline_in : Subject → TypeRow → Outline
outline_in s = outline_of (size_of (seen_all s.names.now)) (seen_all s.names.now) s.tokens.file

abbrev pub field_in : Subject → ℕ → FieldRow → OwnField
field_in s = own_field (size_of (seen_all s.names.now)) (seen_all s.names.now) s.tokens.file

abbrev pub method_in : Subject → ℕ → MethodRow → OwnMethod
method_in s = own_method (size_of (seen_all s.names.now)) (seen_all s.names.now) s.tokens.file

abbrev pub listed : {A : Type 0} → Option A → List A
listed None = []
listed (Some x) = x ∷ []

-- the interface that a row names, if it is found
abbrev pub named_at : Subject → ℕ → List Id
named_at s n = filter_map (class_in s) (listed (slice_get (interfaces_seen s.image.now) n))

-- the rows of a type
abbrev pub field_span : ClassRow → Span
field_span c = record { first = c.first_field; count = c.field_count }

abbrev pub method_span : ClassRow → Span
method_span c = record { first = c.first_method; count = c.method_count }
