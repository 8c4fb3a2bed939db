-- Members as names and signatures. A field's signature is one of its type as the result.
use Rattle.std.specs.Prelude.{ℕ, false, Bool, ◌&&◌, ◌+◌, List, [], map, Option, Some, slice_get}
use Rattle.std.specs.List.{position}
use Rattle.std.specs.Option.{option_map}
use Rattle.machine.specs.Data.{Id}
use Rattle.machine.specs.Texts.{same_text}
use Rattle.machine.specs.Throw.{on_some}
use Rattle.classes.specs.Classes.{SigType, Signature}
use Rattle.classes.specs.Queries.{method_signature_eq, first_some, chain}
use Rattle.assemblies.specs.Binding.{id_at, range}
use Rattle.member_keys.specs.declared.keys.MemberKey.{MemberKey}
use Rattle.member_keys.specs.Seen.{type_seen, signature_seen}
use Rattle.class_table.specs.declared.rows.ClassRow.{ClassRow}
use Rattle.class_table.specs.declared.rows.FieldRow.{FieldRow}
use Rattle.class_table.specs.declared.rows.MethodRow.{MethodRow}
use Rattle.class_table.specs.declared.rows.FileRows.{FileRows}
use Rattle.class_table.specs.declared.rows.ClassTable.{ClassTable}
use Rattle.class_table.specs.Seen.{classes_seen}
use Rattle.member_search.specs.declared.sort.Sort.{Sort}
use Rattle.member_search.specs.declared.sort.Sort.TheVariants.{Field, Method}

pub record Shown : Type 0 where
  pub name : List ℕ
  pub signature : Option Signature

-- a table, and which members of its classes are meant
pub record Indexed : Type 0 where
  pub sort : Sort
  pub table : ClassTable

abbrev pub of_field : SigType → Signature
of_field t = record { has_this = false; returns = Some t; parameters = [] }

abbrev pub field_shown : FieldRow → Shown
field_shown f = record { name = f.name.now; signature = option_map (λ t. of_field (type_seen t)) f.signature }

abbrev pub method_shown : MethodRow → Shown
method_shown m = record { name = m.name.now; signature = option_map signature_seen m.signature }

abbrev pub key_shown : MemberKey → Shown
key_shown k = record { name = k.name.now; signature = option_map signature_seen k.signature }

-- the member has the name and the signature
abbrev pub is_shown : Shown → Shown → Bool
is_shown wanted x = same_text x.name wanted.name && method_signature_eq x.signature wanted.signature

abbrev pub members_in : Sort → FileRows → List Shown
members_in Field f = map field_shown f.fields.items
members_in Method f = map method_shown f.methods.items

abbrev pub first_in : Sort → ClassRow → ℕ
first_in Field c = c.first_field
first_in Method c = c.first_method

abbrev pub count_in : Sort → ClassRow → ℕ
count_in Field c = c.field_count
count_in Method c = c.method_count

abbrev pub own_members : Sort → FileRows → ClassRow → List Shown
own_members sort f c = range (first_in sort c) (count_in sort c) (members_in sort f)

-- the first one of a class
abbrev pub own_in : Sort → FileRows → Shown → ℕ → ClassRow → Option Id
own_in sort f wanted file c = option_map (λ n. id_at file (first_in sort c + n)) (position (is_shown wanted) (own_members sort f c))

abbrev pub own_member : Sort → ClassTable → Shown → Id → Option Id
own_member sort t wanted c = on_some (slice_get t.files.items c.file) (λ f. on_some (slice_get f.classes.items c.row) (own_in sort f wanted c.file))

-- the first one on the way up
abbrev pub member_up : Sort → ClassTable → Shown → Id → Option Id
member_up sort t wanted c = first_some (own_member sort t wanted) (chain (classes_seen t) c)
