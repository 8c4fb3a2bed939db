use Rattle.std.proofs.Common.{◌≡◌, ℕ, ◌+◌, ◌≤◌}
use Rattle.classes.specs.Classes.{OwnMethod}
use Rattle.classes.specs.Queries.{is_virtual_named}
use Rattle.tiny_types.specs.Named.{IsRowOf}
use Rattle.tiny_types.proofs.OwnLaws.{found_from}
use Rattle.tiny_types.proofs.own.first_wanted.Given as goal

abbrev pub invariant-loop-place : goal.invariant-loop-place
invariant-loop-place l = record {
  low : l.place ≤ l.start + l.count;
  told : (m : OwnMethod) → IsRowOf l.wanted m → (n : ℕ) → n + l.place ≡ l.start + l.count → found_from l.file l.rows (is_virtual_named m) l.place n ≡ found_from l.file l.rows (is_virtual_named m) l.start l.count;
}
