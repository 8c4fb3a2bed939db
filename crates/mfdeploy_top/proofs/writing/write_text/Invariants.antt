use Rattle.std.proofs.Common.{◌≡◌, ◌≤◌, ◌-◌, ◌++◌, IsTrue, length, take}
use Rattle.mfdeploy_top.proofs.writing.write_text.Given as goal

-- the front of the text is written
abbrev pub invariant-loop-done : goal.invariant-loop-done
invariant-loop-done g l =
    let old = g.K.Sink.state l.initial.sink in
    let now = g.K.Sink.state l.sink in
    record {
      within : l.done ≤ length l.text;
      front : IsTrue old.tells → now.written ≡ old.written ++ take l.done l.text;
      telling : now.tells ≡ old.tells;
      faults : now.faults ≡ old.faults;
    }

abbrev pub decreases-loop-done : goal.decreases-loop-done
decreases-loop-done g l = length l.text - l.done
