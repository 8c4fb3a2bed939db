use Rattle.cil_layout.specs.Layout.{root}
use Rattle.cil_bytes.proofs.layout.push_root.Goals as goal

pub returns : goal.returns
unfolding root
returns c =
    rw (c.to_le_bytes.ensures, c.to_le_bytes-2.ensures, c.to_le_bytes-3.ensures, c.to_le_bytes-4.ensures, c.to_le_bytes-5.ensures, c.to_le_bytes-6.ensures, c.to_le_bytes-7.ensures, c.to_le_bytes-8.ensures, c.to_le_bytes-9.ensures)
    at c.push_parts.ensures
