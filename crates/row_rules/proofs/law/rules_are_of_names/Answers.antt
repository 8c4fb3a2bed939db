use Rattle.row_rules.proofs.NameLaws.{refs, field_refs, method_refs, field_types, specs}
use Rattle.row_rules.proofs.law.rules_are_of_names.Goals as goal

pub returns-clause-refs : goal.returns-clause-refs
returns-clause-refs c = refs

pub returns-clause-field_refs : goal.returns-clause-field_refs
returns-clause-field_refs c = field_refs

pub returns-clause-method_refs : goal.returns-clause-method_refs
returns-clause-method_refs c = method_refs

pub returns-clause-field_types : goal.returns-clause-field_types
returns-clause-field_types c = field_types

pub returns-clause-specs : goal.returns-clause-specs
returns-clause-specs c = specs
