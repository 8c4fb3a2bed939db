use Rattle.std.proofs.Common.{◌≡◌, ◌≤◌}
use Rattle.std.specs.List.{position}
use Rattle.assemblies.specs.Binding.{range}
use Rattle.member_search.specs.Shown.{key_shown, is_shown, members_in}
use Rattle.member_search.proofs.ScanLaws.{rest}
use Rattle.member_search.proofs.scan.scan.Given as goal

abbrev pub invariant-loop-n : goal.invariant-loop-n
invariant-loop-n l = record {
  low : l.start ≤ l.n;
  told : position (is_shown (key_shown l.wanted)) (range l.start l.count (members_in l.sort l.file)) ≡ rest (is_shown (key_shown l.wanted)) l.start l.end (members_in l.sort l.file) l.n;
}
