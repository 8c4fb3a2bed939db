use Rattle.mf_simulate.proofs.Lockstep as run
use Rattle.mf_simulate.proofs.law.lockstep.Goals as goal

pub returns-clause-shows : goal.returns-clause-shows
returns-clause-shows c = run.shows

pub returns-clause-sound : goal.returns-clause-sound
returns-clause-sound c = run.sound

pub returns-clause-states : goal.returns-clause-states
returns-clause-states c = run.states
