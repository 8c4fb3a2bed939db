use Rattle.std.proofs.Common.{◌≡◌, true, map, take}
use Rattle.std.specs.List.{list_all}
use Rattle.code_places.specs.Places.{goes_well, targets_at}
use Rattle.code_places.specs.Clauses.{clause_seen}
use Rattle.step_facts.specs.Parts.{lets}
use Rattle.step_facts.proofs.transfers.all_let.Given as goal

abbrev pub invariant-loop-k : goal.invariant-loop-k
invariant-loop-k l = goes_well l.listing.code (record { at = l.at; instr = l.instr }) ≡ true → list_all (lets (map clause_seen l.listing.clauses) l.leaves l.at) (take l.k (targets_at l.listing.code (record { at = l.at; instr = l.instr }))) ≡ true
