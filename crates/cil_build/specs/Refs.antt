-- The rows of the smaller tables.
use Rattle.cil_layout.specs.declared.rows.Row.{Row}
use Rattle.cil_layout.specs.declared.rows.Row.TheVariants as row
use Rattle.cil_build.specs.declared.refs.RefRow.{RefRow}
use Rattle.cil_build.specs.declared.refs.RefRow.TheVariants.{Assembly, TypeOf, Member, Spec, Locals, Interface, Nested, Layout}

-- the row that is made
abbrev pub row_of_ref : RefRow → Row
row_of_ref (Assembly name version) = row.AssemblyRef (record { name = name.now; version = version })
row_of_ref (TypeOf scope namespace name) = row.TypeRef (record { scope = scope; namespace = namespace.now; name = name.now })
row_of_ref (Member parent name sig) = row.MemberRef (record { parent = parent; name = name.now; signature = sig.now })
row_of_ref (Spec sig) = row.TypeSpec sig.now
row_of_ref (Locals sig) = row.Locals sig.now
row_of_ref (Interface class interface) = row.InterfaceImpl (record { class = class; interface = interface })
row_of_ref (Nested nested enclosing) = row.NestedClass (record { nested = nested; enclosing = enclosing })
row_of_ref (Layout size class) = row.ClassLayout (record { size = size; class = class })
