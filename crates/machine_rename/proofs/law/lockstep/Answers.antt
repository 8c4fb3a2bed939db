use Rattle.machine_rename.proofs.Whole as whole
use Rattle.machine_rename.proofs.law.lockstep.Goals as goal

pub returns : goal.returns
returns c =
    record {
      same = λ r board ecma b e t n most h. whole.same r board ecma b e t.answers t.board_finds t.ecma_finds n most h;
      runs = λ r board ecma b e t n most h. whole.runs r board ecma b e t.answers t.board_finds t.ecma_finds n most h;
      states = λ r board ecma b e t n most h x. whole.states r board ecma b e t.answers t.board_finds t.ecma_finds n most h x;
    }
