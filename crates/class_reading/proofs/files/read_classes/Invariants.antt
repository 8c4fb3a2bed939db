use Rattle.std.proofs.Common.{◌≡◌, length, map}
use Rattle.class_table.specs.Outlines.{AreRead}
use Rattle.class_reading.proofs.files.read_classes.Given as goal

abbrev pub invariant-loop-file : goal.invariant-loop-file
invariant-loop-file l = record { size : length l.all.items ≡ l.file; read : AreRead l.names (map (λ rows. rows.items) l.all.items) }
