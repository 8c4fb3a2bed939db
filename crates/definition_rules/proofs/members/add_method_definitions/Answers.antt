use Rattle.std.proofs.Common.{◌≡◌, ◌+◌, ◌<◌, ◌≤◌, true, false, not, [], get_or, suc, refl, sym, ap, ◌∙◌, arith}
use Rattle.std.specs.Prelude.{Option}
use Rattle.std.specs.Option.{option_map}
use Rattle.file_tables.specs.Metadata.{rows_of, row_count}
use Rattle.machine.specs.Data.{Id}
use Rattle.assemblies.specs.Rows.{Reference}
use Rattle.assemblies.specs.Binding.{resolve_method}
use Rattle.kept_rules.specs.Row.{MethodRefAt, in_option}
use Rattle.kept_rules.specs.Rules.{method_at}
use Rattle.world_rows.specs.Tokens.{member_refs, is_method_ref}
use Rattle.world_rows.specs.World.{size_of, rows_alone, assemblies_of}
use Rattle.member_keys.specs.Seen.{class_seen}
use Rattle.member_references.specs.Meant.{reference_at}
use Rattle.member_references.proofs.ResolveLaws.{referenced_method}
use Rattle.row_rules.proofs.LinkLaws.{adds_is}
use Rattle.definition_rules.specs.Definitions.{one_row, method_definition, method_ref_count}
use Rattle.definition_rules.proofs.MoreLaws.{definitions_more, definitions_as, one_more, no_more, all_counted}
use Rattle.definition_rules.proofs.NameLaws.{method_met, method_within, part_is}
use Rattle.definition_rules.proofs.members.add_method_definitions.Goals as goal
use Rattle.definition_rules.proofs.members.add_method_definitions.Goals.{then-not-is_field_reference+in_ok-keep_definition, else-not-is_field_reference}

pub keep_definition-requires : goal.keep_definition-requires
keep_definition-requires c =
    λ d is.
    let files = c.args.world.now in
    let f = c.args.file in
    let known = referenced_method files f c.tables-tables.result.now c.tables-tables.ensures c.args.references.now c.requires.references member_refs (suc c.loop-n.n) refl (reference_at c.args.references.now f (suc c.loop-n.n)) refl in
    method_within files f (suc c.loop-n.n) (option_map class_seen c.method-definition.result) d (c.method-definition.ensures ∙ known) is

pub loop-n-preserved : goal.loop-n-preserved
loop-n-preserved c =
    let files = c.args.world.now in
    let f = c.args.file in
    let m = c.tables-tables.result.now in
    let n = c.loop-n.n in
    let within : n < row_count m member_refs = omega arith in
    let known = referenced_method files f m c.tables-tables.ensures c.args.references.now c.requires.references member_refs (suc n) refl (reference_at c.args.references.now f (suc n)) refl in
    elim c.if-not-is_field_reference.branch [
      | then-not-is_field_reference+in_ok-keep_definition w ↦
          let passes : is_method_ref m (get_or (rows_of m member_refs) n []) ≡ true = (let method : c.is_field_reference.result ≡ false = cc w.if-not-is_field_reference.true in ap not (sym c.is_field_reference.ensures ∙ method)) in
          let next : c.if-not-is_field_reference.number ≡ c.loop-n.number + 1 = cc w.number-is in
          let found : option_map class_seen w.method-definition.result ≡ resolve_method (size_of (rows_alone files)) (assemblies_of files) f (Reference c.loop-n.number) = w.method-definition.ensures ∙ known ∙ method_met files f m c.tables-tables.ensures n c.loop-n.number passes c.loop-n.invariant.counted in
          record {
            counted = next ∙ one_more (is_method_ref m) (rows_of m member_refs) n c.loop-n.number within passes c.loop-n.invariant.counted;
            few = omega (arith, next, c.loop-n.invariant.few);
            adds = adds_is (cc w.rules-is)
                (definitions_as (MethodRefAt f) (method_definition files f) c.args.rules.now w.keep_definition.new.rules (c.loop-n.number + 1) c.if-not-is_field_reference.number (sym next)
                (definitions_more (MethodRefAt f) (method_definition files f) c.args.rules.now c.loop-n.rules w.keep_definition.new.rules c.loop-n.number (in_option one_row (option_map method_at (option_map class_seen w.method-definition.result))) c.loop-n.invariant.adds
                (ap (λ (o : Option Id). in_option one_row (option_map method_at o)) found)
                w.in_ok-keep_definition.ensures));
          }
      | else-not-is_field_reference w ↦
          let fails : is_method_ref m (get_or (rows_of m member_refs) n []) ≡ false = (let field : c.is_field_reference.result ≡ true = cc w.if-not-is_field_reference.false in ap not (sym c.is_field_reference.ensures ∙ field)) in
          let same : c.if-not-is_field_reference.number ≡ c.loop-n.number = cc w.number-is in
          record {
            counted = same ∙ no_more (is_method_ref m) (rows_of m member_refs) n c.loop-n.number within fails c.loop-n.invariant.counted;
            few = omega (arith, same, c.loop-n.invariant.few);
            adds = adds_is (cc w.rules-is) (definitions_as (MethodRefAt f) (method_definition files f) c.args.rules.now c.loop-n.rules c.loop-n.number c.if-not-is_field_reference.number (sym same) c.loop-n.invariant.adds);
          }
    ]

pub returns : goal.returns
returns c =
    λ x there.
    let files = c.args.world.now in
    let f = c.args.file in
    let m = c.tables-tables.result.now in
    let same : x.metadata ≡ m = part_is files f m c.tables-tables.ensures x there in
    let past : row_count m member_refs ≤ c.loop-n.n = omega arith in
    definitions_as (MethodRefAt f) (method_definition files f) c.args.rules.now c.loop-n.rules c.loop-n.number (method_ref_count x.metadata)
    (all_counted (is_method_ref m) (rows_of m member_refs) c.loop-n.n c.loop-n.number past c.loop-n.invariant.counted ∙ ap method_ref_count (sym same))
    c.loop-n.invariant.adds
