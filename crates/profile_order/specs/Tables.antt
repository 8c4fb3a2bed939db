-- The tables of the profile, and what is asked of each of their rows.
use Rattle.std.specs.Prelude.{ℕ, List, [], ◌∷◌, map}
use Rattle.file_tables.specs.File.{FilePart}
use Rattle.world_rows.specs.Tokens.{type_defs, interface_impls, assemblies, fields, methods, member_refs, locals_signatures, type_specs}
use Rattle.verdict_rules.specs.Order.{Test, TableRules, FileRules}
use Rattle.verdict_rules.specs.World.{World}
use Rattle.verdict_rules.specs.Types.{method_impls, generic_params, method_specs, generic_constraints, refused, type_tests, interface_tests, assembly_tests, entry_tests}
use Rattle.verdict_rules.specs.Members.{field_tests, method_tests, reference_tests, locals_tests, spec_tests}
use Rattle.verdict_rules.specs.Library.{library_tests}
use Rattle.profile_order.specs.declared.tables.ProfileTable.{ProfileTable}
use Rattle.profile_order.specs.declared.tables.ProfileTable.TheVariants.{TypeDefs, InterfaceImpls, MethodImpls, Assemblies, GenericParams, MethodSpecs, GenericConstraints, Fields, Methods, MemberRefs, LocalsSignatures, TypeSpecs}
use Rattle.profile_order.specs.declared.tables.Phase.{Phase}
use Rattle.profile_order.specs.declared.tables.Phase.TheVariants.{Types, Members}

abbrev pub number_of : ProfileTable → ℕ
number_of TypeDefs = type_defs
number_of InterfaceImpls = interface_impls
number_of MethodImpls = method_impls
number_of Assemblies = assemblies
number_of GenericParams = generic_params
number_of MethodSpecs = method_specs
number_of GenericConstraints = generic_constraints
number_of Fields = fields
number_of Methods = methods
number_of MemberRefs = member_refs
number_of LocalsSignatures = locals_signatures
number_of TypeSpecs = type_specs

-- of a row by its number from 0 and its columns
abbrev pub tests_of : World → ℕ → FilePart → ProfileTable → ℕ → List ℕ → List Test
tests_of w file x TypeDefs = type_tests w file x.metadata
tests_of w file x InterfaceImpls = interface_tests w file x.metadata
tests_of w file x MethodImpls = refused 21
tests_of w file x Assemblies = assembly_tests w file
tests_of w file x GenericParams = refused 20
tests_of w file x MethodSpecs = refused 20
tests_of w file x GenericConstraints = refused 20
tests_of w file x Fields = field_tests w file x.metadata
tests_of w file x Methods = method_tests w file x
tests_of w file x MemberRefs = reference_tests w file x
tests_of w file x LocalsSignatures = locals_tests w file x.metadata
tests_of w file x TypeSpecs = spec_tests w file x

abbrev pub rules_of : World → ℕ → FilePart → ProfileTable → TableRules
rules_of w file x table = record { table = number_of table; tests = tests_of w file x table }

abbrev pub tables_of : Phase → List ProfileTable
tables_of Types = TypeDefs ∷ InterfaceImpls ∷ MethodImpls ∷ Assemblies ∷ GenericParams ∷ MethodSpecs ∷ GenericConstraints ∷ []
tables_of Members = Fields ∷ Methods ∷ MemberRefs ∷ LocalsSignatures ∷ TypeSpecs ∷ []

abbrev pub whole_tests : World → ℕ → FilePart → Phase → List Test
whole_tests w file x Types = entry_tests w file x
whole_tests w file x Members = library_tests w file x

abbrev pub phase_rules : World → Phase → ℕ → FilePart → FileRules
phase_rules w phase file x = record { tables = map (rules_of w file x) (tables_of phase); whole = whole_tests w file x phase }
