-- The table of the base library's types, as the definition has it.
use Rattle.verdict_rules.specs.Library.{BaseType}
use Rattle.library_tests.specs.declared.base.BaseType.{BaseType as BaseRow}

abbrev pub base_seen : BaseRow → BaseType
base_seen t = record { file = t.file; namespace = t.namespace.now; name = t.name.now; superclass = t.superclass.now; is_interface = t.is_interface }
