use Rattle.std.proofs.Common.{◌≡◌, ◌+◌, ◌*◌, ap, ◌∙◌, arith}
use Rattle.std.specs.Prelude.{List, Option}
use Rattle.std.specs.Option.{option_map}
use Rattle.file_tables.specs.declared.schema.Coded.TheVariants.{TypeDefOrRef}
use Rattle.file_tables.specs.Metadata.{MetadataPart, row_count}
use Rattle.file_tables.specs.File.{FilePart}
use Rattle.machine.specs.Data.{Id}
use Rattle.assemblies.specs.Binding.{resolve_ref}
use Rattle.kept_rules.specs.Row.{TypeRefAt, in_option}
use Rattle.kept_rules.specs.Rules.{type_at}
use Rattle.world_rows.specs.Tokens.{type_refs}
use Rattle.world_rows.specs.World.{size_of, rows_alone, assemblies_of}
use Rattle.member_keys.specs.Seen.{class_seen}
use Rattle.type_names.specs.Resolved.{class_coded}
use Rattle.member_references.proofs.RowLaws.{file_there}
use Rattle.definition_rules.specs.Definitions.{one_row, type_definition, type_ref_count}
use Rattle.definition_rules.proofs.MoreLaws.{definitions_more, definitions_as}
use Rattle.definition_rules.proofs.NameLaws.{type_named, type_within, part_is}
use Rattle.definition_rules.proofs.types.add_type_definitions.Goals as goal

pub keep_definition-requires : goal.keep_definition-requires
keep_definition-requires c =
    λ d is.
    type_within c.args.world.now c.args.file ((c.loop-n.n + 1) * 4 + 1) (option_map class_seen c.find_class-definition.result) d
    (c.find_class-definition.ensures ∙ ap (λ (files : List FilePart). class_coded files c.args.file TypeDefOrRef ((c.loop-n.n + 1) * 4 + 1)) c.names.ensures) is

pub loop-n-preserved : goal.loop-n-preserved
loop-n-preserved c =
    let files = c.args.world.now in
    let f = c.args.file in
    let part = file_there files f c.tables-tables.result.now c.tables-tables.ensures in
    let index : (c.loop-n.n + 1) * 4 + 1 ≡ (c.loop-n.n + 1) * 4 + 1 = omega arith in
    let found : option_map class_seen c.find_class-definition.result ≡ resolve_ref (size_of (rows_alone files)) (assemblies_of files) f c.loop-n.n =
    c.find_class-definition.ensures ∙ ap (λ (ps : List FilePart). class_coded ps f TypeDefOrRef ((c.loop-n.n + 1) * 4 + 1)) c.names.ensures ∙ type_named files f part.0 part.1 c.loop-n.n ((c.loop-n.n + 1) * 4 + 1) index in
    definitions_more (TypeRefAt f) (type_definition files f) c.args.rules.now c.loop-n.rules c.keep_definition.new.rules c.loop-n.n (in_option one_row (option_map type_at (option_map class_seen c.find_class-definition.result))) c.loop-n.invariant
    (ap (λ (o : Option Id). in_option one_row (option_map type_at o)) found)
    c.in_ok-keep_definition.ensures

pub returns : goal.returns
returns c =
    λ x there.
    let files = c.args.world.now in
    let f = c.args.file in
    let m = c.tables-tables.result.now in
    let same : x.metadata ≡ m = part_is files f m c.tables-tables.ensures x there in
    let count : type_ref_count x.metadata ≡ row_count m type_refs = ap (λ (y : MetadataPart). row_count y type_refs) same in
    let end : c.loop-n.n ≡ type_ref_count x.metadata = omega (arith, count, c.rows.ensures) in
    definitions_as (TypeRefAt f) (type_definition files f) c.args.rules.now c.loop-n.rules c.loop-n.n (type_ref_count x.metadata) end c.loop-n.invariant
