use Rattle.cil_layout.specs.Layout.{cli_header}
use Rattle.cil_bytes.proofs.layout.push_cli_header.Goals as goal

pub returns : goal.returns
unfolding cli_header
returns c = rw (c.to_le_bytes.ensures, c.to_le_bytes-2.ensures, c.to_le_bytes-3.ensures) at c.push_parts.ensures
