use Rattle.std.proofs.Common.{◌≡◌, ◌<◌, ◌^◌}
use Rattle.member_keys.specs.Seen.{class_seen}
use Rattle.class_table.specs.Seen.{classes_seen}
use Rattle.member_search.specs.Shown.{key_shown, own_member, member_up}
use Rattle.member_search.specs.Walk.{Walked}
use Rattle.member_search.proofs.Circles.{up}
use Rattle.member_search.proofs.index.MemberIndex.find.Given as goal

abbrev pub invariant-up : goal.invariant-up
invariant-up l = record {
  rest : member_up l.self.sort l.self.table (key_shown l.key) (class_seen l.fn.class) ≡ up (classes_seen l.self.table) (own_member l.self.sort l.self.table (key_shown l.key)) l.left (class_seen l.class);
  walked : Walked (classes_seen l.self.table) (own_member l.self.sort l.self.table (key_shown l.key)) l.steps (class_seen l.mark) (class_seen l.class);
  few : l.steps < l.most;
  size : l.most < 2 ^ 64;
}

abbrev pub decreases-up : goal.decreases-up
decreases-up l = l.left
