use Rattle.std.proofs.Common.{◌≡◌, ◌-◌, suc, sym, ap, ◌∙◌}
use Rattle.std.specs.Prelude.{slice_index}
use Rattle.file_tables.specs.Bytes.{has_bit}
use Rattle.file_tables.specs.Metadata.{row_of, rows_of}
use Rattle.assemblies.specs.Binding.{id_at}
use Rattle.world_rows.specs.Tokens.{type_defs, fields, methods, interface_impls}
use Rattle.world_rows.specs.Rows.{list_end, list_first, list_count}
use Rattle.world_rows.specs.Kinds.{superclass_of, number_of, kind_of}
use Rattle.world_rows.specs.World.{rows_alone, size_of}
use Rattle.type_names.proofs.RowLoops.{row_is}
use Rattle.class_reading.specs.Fields.{number_at}
use Rattle.class_reading.specs.Interfaces.{named_by}
use Rattle.class_reading.specs.Types.{superclass_at}
use Rattle.class_reading.proofs.TypeLaws.{superclass_is, number_is, same_superclass, same_interfaces, outline_made}
use Rattle.class_reading.proofs.types.read_class.Goals as goal

pub kind-requires : goal.kind-requires
kind-requires c =
    let files = c.args.kinds.now in
    let m = c.args.tables.now in
    let n = c.args.n in
    let file = c.args.file in
    let row = row_of m type_defs (suc n) in
    let first : c.saturating_sub-first_field.result ≡ list_first 4 row = c.saturating_sub-first_field.ensures ∙ ap (λ r. r.first_field - 1) c.read_row-row.ensures ∙ ap (λ r. slice_index r 4 - 1) (row_is m type_defs n) in
    let count : c.saturating_sub-field_count.result ≡ list_count m fields 4 n row = c.saturating_sub-field_count.ensures ∙ ap (λ e. e - c.saturating_sub-first_field.result) c.read_ends-ends.ensures.fields ∙ ap (λ f. list_end m fields 4 n - f) first in
    record {
      superclass =
          c.read_superclass-superclass.ensures
          ∙ ap (λ fs. superclass_at fs file m c.read_row-row.result.extends) c.names.ensures
          ∙ ap (superclass_at files file m) (ap (λ r. r.extends) c.read_row-row.ensures ∙ ap (λ r. slice_index r 3) (row_is m type_defs n))
          ∙ sym (superclass_is files file m c.requires.tables n c.requires.row)
          ∙ ap (λ f. superclass_of (size_of (rows_alone files)) (rows_alone files) (id_at f n)) (sym c.from.ensures);
      number =
          c.read_number-number.ensures
          ∙ ap (λ f. number_at m f c.saturating_sub-field_count.result) first
          ∙ ap (number_at m (list_first 4 row)) count
          ∙ sym (number_is files file m c.requires.tables n c.requires.row)
          ∙ ap (λ f. number_of (rows_alone files) (id_at f n)) (sym c.from.ensures);
    }

pub returns : goal.returns
returns c =
    let files = c.args.kinds.now in
    let m = c.args.tables.now in
    let n = c.args.n in
    let file = c.args.file in
    let row = row_of m type_defs (suc n) in
    let first : c.saturating_sub-first_field.result ≡ list_first 4 row = c.saturating_sub-first_field.ensures ∙ ap (λ r. r.first_field - 1) c.read_row-row.ensures ∙ ap (λ r. slice_index r 4 - 1) (row_is m type_defs n) in
    let first_method : c.saturating_sub-first_method.result ≡ list_first 5 row = c.saturating_sub-first_method.ensures ∙ ap (λ r. r.first_method - 1) c.read_row-row.ensures ∙ ap (λ r. slice_index r 5 - 1) (row_is m type_defs n) in
    let count : c.saturating_sub-field_count.result ≡ list_count m fields 4 n row = c.saturating_sub-field_count.ensures ∙ ap (λ e. e - c.saturating_sub-first_field.result) c.read_ends-ends.ensures.fields ∙ ap (λ f. list_end m fields 4 n - f) first in
    let method_count : c.saturating_sub.result ≡ list_count m methods 5 n row = c.saturating_sub.ensures ∙ ap (λ e. e - c.saturating_sub-first_method.result) c.read_ends-ends.ensures.methods ∙ ap (λ f. list_end m methods 5 n - f) first_method in
    let flags : c.from-flags.result ≡ slice_index row 0 = c.from-flags.ensures ∙ ap (λ r. r.flags) c.read_row-row.ensures ∙ ap (λ r. slice_index r 0) (row_is m type_defs n) in
    outline_made files file m n row _ (ap (λ t. t.namespace) c.requires.names) (ap (λ t. t.name) c.requires.names) (ap (λ t. t.enclosing) c.requires.names)
    (c.read_superclass-superclass.ensures
    ∙ ap (λ fs. superclass_at fs file m c.read_row-row.result.extends) c.names.ensures
    ∙ ap (superclass_at files file m) (ap (λ r. r.extends) c.read_row-row.ensures ∙ ap (λ r. slice_index r 3) (row_is m type_defs n))
    ∙ same_superclass files file m c.requires.tables (slice_index row 3))
    (c.requires.interfaces ∙ same_interfaces files file m c.requires.tables (named_by m (rows_of m interface_impls) n))
    (c.kind.ensures ∙ ap (λ f. kind_of (size_of (rows_alone files)) (rows_alone files) (id_at f n)) c.from.ensures)
    (c.has_bit.ensures ∙ ap (λ f. has_bit f 5) flags) (c.has_bit-2.ensures ∙ ap (λ f. has_bit f 7) flags) (c.has_bit-3.ensures ∙ ap (λ f. has_bit f 20) flags) first count first_method method_count
