use Rattle.std.proofs.Common.{◌≡◌, ℕ, List, map, take, length, Some, IsTrue}
use Rattle.mfdeploy_top.proofs.reading.read_files.Given as goal

abbrev pub invariant-loop-file : goal.invariant-loop-file
invariant-loop-file g l =
    let old = g.S.Store.state l.initial.store in
    let now = g.S.Store.state l.store in
    record {
      count : length l.all.items ≡ l.file-index;
      held : IsTrue old.tells → map old.held (take l.file-index l.files) ≡ map Some (map (λ bytes. bytes.items) l.all.items);
      stay : (name : List ℕ) → now.held name ≡ old.held name;
      telling : now.tells ≡ old.tells;
      faults : now.faults ≡ old.faults;
    }
