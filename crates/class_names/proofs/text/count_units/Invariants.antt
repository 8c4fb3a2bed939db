use Rattle.std.proofs.Common.{◌≡◌, ◌+◌, ◌≤◌, length}
use Rattle.std.specs.Str.{IsUtf8}
use Rattle.std.specs.Str.Iter.{chars_rest}
use Rattle.machine.specs.Texts.{units_of_name}
use Rattle.class_names.proofs.text.count_units.Given as goal

abbrev pub invariant-loop-c : goal.invariant-loop-c
invariant-loop-c l =
    record {
      text : IsUtf8 (chars_rest l.c-iterator);
      count : l.count + length (units_of_name (chars_rest l.c-iterator)) ≡ length (units_of_name l.fn.text);
      few : l.count + length (chars_rest l.c-iterator) ≤ length l.fn.text;
    }
