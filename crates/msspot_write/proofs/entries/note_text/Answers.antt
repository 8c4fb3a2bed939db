use Rattle.std.proofs.Common.{ℕ, List, Some, ap, ◌∙◌}
use Rattle.std.specs.Prelude.{if◌then◌else◌}
use Rattle.std.specs.Map.{lookup}
use Rattle.machine.specs.Texts.{same_text}
use Rattle.msspot_write.specs.Starts.{start_in}
use Rattle.msspot_write.proofs.MapLaws.{at_text, lookup_put}
use Rattle.msspot_write.proofs.entries.note_text.Goals as goal

pub returns : goal.returns
returns c = λ other.
    ap (lookup (at_text other)) c.in_ok-insert.ensures.entries
    ∙ lookup_put other c.args.starts.now.entries c.in_ok-copy.copy c.args.start
    ∙ ap (λ (ks : List ℕ). if same_text other ks then Some c.args.start else start_in c.args.starts.now other) c.in_ok-copy.ensures.items
