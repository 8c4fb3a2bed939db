use Rattle.std.proofs.Common.{◌≡◌, ◌+◌, ◌<◌, true, false, not, [], ◌∷◌, length, get_or, sym, ap, ◌∙◌, arith}
use Rattle.file_tables.specs.declared.schema.Coded.TheVariants.{MemberRefParent}
use Rattle.file_tables.specs.Metadata.{row_count, rows_of}
use Rattle.cil_rows.specs.declared.rows.MemberRefRow.{MemberRefRow}
use Rattle.kept_rules.specs.Row.{MethodRefAt, by_type, in_signature}
use Rattle.world_rows.specs.Tokens.{member_refs, is_method_ref, bytes_at, coded_type}
use Rattle.world_rows.specs.Signatures.{method_signature}
use Rattle.row_rules.specs.Named.{named_by_method_ref}
use Rattle.row_rules.proofs.LinkLaws.{adds_is, passing_added, none_passing, counted_more, no_more}
use Rattle.row_rules.proofs.references.add_method_refs.Goals as goal
use Rattle.row_rules.proofs.references.add_method_refs.Goals.{then-not-is_field_reference+in_ok-keep_method_ref, else-not-is_field_reference}

pub loop-n-preserved : goal.loop-n-preserved
loop-n-preserved c =
    let m = c.args.tables.now in
    let f = c.args.file in
    let within : c.loop-n.n < row_count m member_refs = omega arith in
    elim c.if-not-is_field_reference.branch [
      | then-not-is_field_reference+in_ok-keep_method_ref w ↦
          let method : c.is_field_reference.result ≡ false = cc w.if-not-is_field_reference.true in
          let passes : is_method_ref m (get_or (rows_of m member_refs) c.loop-n.n []) ≡ true = ap not (sym c.is_field_reference.ensures ∙ method) in
          let next : c.if-not-is_field_reference.number ≡ c.loop-n.number + 1 = cc w.number-is in
          record {
            counted = next ∙ counted_more m member_refs (is_method_ref m) c.loop-n.n c.loop-n.number within passes c.loop-n.invariant.counted;
            few = omega (arith, next, c.loop-n.invariant.few);
            adds = adds_is (cc w.rules-is)
                (passing_added m member_refs (is_method_ref m) (MethodRefAt f) (named_by_method_ref f m) c.args.rules.now c.loop-n.rules w.keep_method_ref.new.rules c.loop-n.n c.loop-n.number
                (by_type f (coded_type m MemberRefParent w.read_row.result.class) ∷ in_signature f (method_signature m (bytes_at m w.read_row.result.signature))) within passes c.loop-n.invariant.counted c.loop-n.invariant.adds
                (ap (λ (r : MemberRefRow). by_type f (coded_type m MemberRefParent r.class) ∷ in_signature f (method_signature m (bytes_at m r.signature))) w.read_row.ensures)
                w.in_ok-keep_method_ref.ensures);
          }
      | else-not-is_field_reference w ↦
          let field : c.is_field_reference.result ≡ true = cc w.if-not-is_field_reference.false in
          let fails : is_method_ref m (get_or (rows_of m member_refs) c.loop-n.n []) ≡ false = ap not (sym c.is_field_reference.ensures ∙ field) in
          let same : c.if-not-is_field_reference.number ≡ c.loop-n.number = cc w.number-is in
          record {
            counted = same ∙ c.loop-n.invariant.counted ∙ ap length (sym (no_more m member_refs (is_method_ref m) c.loop-n.n within fails));
            few = omega (arith, same, c.loop-n.invariant.few);
            adds = adds_is (cc w.rules-is) (none_passing m member_refs (is_method_ref m) (MethodRefAt f) (named_by_method_ref f m) c.args.rules.now c.loop-n.rules c.loop-n.n within fails c.loop-n.invariant.adds);
          }
    ]
