use Rattle.std.proofs.Common.{◌≡◌, ◌-◌, ◌≤◌, ◌++◌, [], length}
use Rattle.cil_opcodes.specs.Rows.{row_of}
use Rattle.image_form.specs.Codes.{instrs_onto, short}
use Rattle.code_shrink.specs.Shrunk.{instrs_in, instrs_from}
use Rattle.code_shrink.specs.Starts.{place_in}
use Rattle.code_shrink.specs.Limits.{AllCanWrite}
use Rattle.code_shrink.proofs.Walking.{IsWhole, rest}
use Rattle.code_shrink.proofs.write.bytes.Given as goal

abbrev pub invariant-walk : goal.invariant-walk
invariant-walk g l = record {
  inside : l.at ≤ length l.code;
  whole : IsWhole l.code l.at;
  can : AllCanWrite (place_in l.starts) l.at (rest l.code l.at);
  all : l.out.items ++ instrs_onto row_of short (instrs_from (place_in l.starts) (g.N.Renumber.numbered l.renumber) l.at (rest l.code l.at)) [] ≡ instrs_onto row_of short (instrs_from (place_in l.starts) (g.N.Renumber.numbered l.renumber) 0 (instrs_in l.code)) [];
}

abbrev pub decreases-walk : goal.decreases-walk
decreases-walk g l = length l.code - l.at
