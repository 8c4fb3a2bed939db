use Rattle.std.proofs.Common.{sym, ◌∙◌}
use Rattle.std.proofs.lemmas.List.{length-map}
use Rattle.tiny_rows.specs.Rows.{rows_seen}
use Rattle.set_binding.proofs.sizes.assembly_count.Goals as goal

pub returns : goal.returns
returns c = c.count.ensures ∙ sym (length-map c.args.names.now rows_seen)
