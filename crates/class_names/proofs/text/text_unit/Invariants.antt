use Rattle.std.specs.Str.{IsUtf8}
use Rattle.std.specs.Str.Iter.{chars_rest}
use Rattle.machine.specs.Texts.{units_of_name}
use Rattle.class_names.proofs.TextLaws.{Goes}
use Rattle.class_names.proofs.text.text_unit.Given as goal

abbrev pub invariant-loop-c : goal.invariant-loop-c
invariant-loop-c l = IsUtf8 (chars_rest l.c-iterator) × Goes (units_of_name l.fn.text) (units_of_name (chars_rest l.c-iterator)) l.fn.k l.left
