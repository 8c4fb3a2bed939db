use Rattle.std.proofs.Common.{length, ap, ◌∙◌, arith}
use Rattle.machine.specs.Data.{cell_of}
use Rattle.tiny_ram.proofs.Kept.{packed_cells}
use Rattle.tiny_ram.specs.Things.{packed_by, cells_in}
use Rattle.tiny_ram.proofs.law.cells_are_the_machines.Goals as goal

pub returns-clause-arrays : goal.returns-clause-arrays
returns-clause-arrays c of element values e =
    ap (λ o. cells_in (packed_by o) (length values)) e ∙ packed_cells (cell_of element) (length values)

pub returns-clause-strings : goal.returns-clause-strings
returns-clause-strings c units = omega arith

pub returns-clause-frames : goal.returns-clause-frames
returns-clause-frames c method m = omega arith
