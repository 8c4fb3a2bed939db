use Rattle.definition_rules.proofs.RuleLaws.{has_type, are_types, has_field, are_fields, has_method, are_methods}
use Rattle.definition_rules.proofs.law.rules_are_of_definitions.Goals as goal

pub returns-clause-has_types : goal.returns-clause-has_types
returns-clause-has_types c = has_type

pub returns-clause-are_types : goal.returns-clause-are_types
returns-clause-are_types c = are_types

pub returns-clause-has_fields : goal.returns-clause-has_fields
returns-clause-has_fields c = has_field

pub returns-clause-are_fields : goal.returns-clause-are_fields
returns-clause-are_fields c = are_fields

pub returns-clause-has_methods : goal.returns-clause-has_methods
returns-clause-has_methods c = has_method

pub returns-clause-are_methods : goal.returns-clause-are_methods
returns-clause-are_methods c = are_methods
