use Rattle.machine_rename.specs.Runs.{fetching}
use Rattle.machine_rename.proofs.Whole as whole
use Rattle.machine_typed.proofs.Runs.{never_stuck}
use Rattle.machine_laws.proofs.law.lockstep.Goals as goal

pub returns : goal.returns
returns c =
    record {
      same = λ r board ecma t b e x a n most. whole.same r board ecma b e x.answers x.board_finds x.ecma_finds n most (never_stuck (fetching ecma e) t a n most);
      runs = λ r board ecma t b e x a n most. whole.runs r board ecma b e x.answers x.board_finds x.ecma_finds n most (never_stuck (fetching ecma e) t a n most);
      states = λ r board ecma t b e x a n most h. whole.states r board ecma b e x.answers x.board_finds x.ecma_finds n most (never_stuck (fetching ecma e) t a n most) h;
    }
