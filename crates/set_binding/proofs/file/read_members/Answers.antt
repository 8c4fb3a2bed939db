use Rattle.std.proofs.Common.{ap, ◌∙◌}
use Rattle.class_table.specs.Seen.{classes_seen}
use Rattle.member_search.specs.Shown.{Indexed}
use Rattle.set_binding.proofs.file.read_members.Goals as goal

pub returns : goal.returns
returns c =
    λ ps e.
    record {
      fields = record { members = ap (λ (i : Indexed). i.sort) c.in_ok-fields.ensures; classes = ap (λ (i : Indexed). classes_seen i.table) c.in_ok-fields.ensures ∙ e };
      methods = record { members = ap (λ (i : Indexed). i.sort) c.in_ok-methods.ensures; classes = ap (λ (i : Indexed). classes_seen i.table) c.in_ok-methods.ensures ∙ e };
    }
