-- The rows that the rows of a file's tables name, by their columns.
use Rattle.std.specs.Prelude.{ℕ, List, slice_index}
use Rattle.file_tables.specs.declared.schema.Coded.TheVariants.{TypeDefOrRef}
use Rattle.file_tables.specs.Metadata.{MetadataPart, row_count}
use Rattle.cil_sig.specs.declared.sig.SigType.{SigType}
use Rattle.kept_rules.specs.Row.{Row, TypeAt, in_option, by_type, in_scope, in_type, in_signature, token_row, of_field_ref, of_method_ref}
use Rattle.row_rules.specs.Links.{Link, keeps}
use Rattle.world_rows.specs.Rows.{first_of, field_ref, method_ref}
use Rattle.world_rows.specs.Tokens.{type_defs, bytes_at, from_zero, coded_type, scope_of, superclass_token}
use Rattle.world_rows.specs.Signatures.{raw_type, field_signature, method_signature, spec_signature}

module _ (f : ℕ) (m : MetadataPart) where
  -- the row of a type of a signature (II.23.2.12)
  abbrev pub in_sig : SigType → List Row
  in_sig s = in_type f (raw_type m s)

  abbrev pub named_by_ref : List ℕ → List Row
  named_by_ref row = in_scope f (scope_of m (slice_index row 0))

  -- the superclass alone
  abbrev pub named_by_extends : List ℕ → List Row
  named_by_extends row = in_option (token_row f) (first_of (superclass_token m (slice_index row 3)))

  abbrev pub named_by_field : List ℕ → List Row
  named_by_field row = in_type f (field_signature m (bytes_at m (slice_index row 2)))

  -- the signature alone
  abbrev pub named_by_method : List ℕ → List Row
  named_by_method row = in_signature f (method_signature m (bytes_at m (slice_index row 4)))

  abbrev pub named_by_spec : List ℕ → List Row
  named_by_spec row = in_type f (spec_signature m (bytes_at m (slice_index row 0)))

  abbrev pub named_by_field_ref : List ℕ → List Row
  named_by_field_ref row = of_field_ref f (field_ref m row)

  abbrev pub named_by_method_ref : List ℕ → List Row
  named_by_method_ref row = of_method_ref f (method_ref m row)

  -- of a row of InterfaceImpl: a type keeps one of its interfaces
  abbrev pub interface_link : List ℕ → Link
  interface_link row = keeps (TypeAt f (from_zero (row_count m type_defs) (slice_index row 0))) (by_type f (coded_type m TypeDefOrRef (slice_index row 1)))
