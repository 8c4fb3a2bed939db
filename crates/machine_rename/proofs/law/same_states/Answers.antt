use Rattle.machine_rename.proofs.TraceLaws.{cells_law}
use Rattle.machine_rename.proofs.StateLaws.{state_after_law, twin_states}
use Rattle.machine_rename.proofs.law.same_states.Goals as goal

pub returns : goal.returns
returns c =
    record {
      renamed = state_after_law;
      spacious = cells_law;
      twins = λ r board ecma b e t n s h. twin_states r board ecma b e t.answers t.board_finds t.ecma_finds n s h;
    }
