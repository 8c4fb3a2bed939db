-- Files of bytes.
use Rattle.std.specs.Prelude.{◌≤◌, length}
use Rattle.file_tables.specs.declared.TheConstants.{MOST_FILE_BYTES}
use Rattle.file_tables.specs.File.{FilePart}
use Rattle.code_shrink.specs.Lines.{AreBytes}

-- each number of a file and of its literals is a byte, and there are no more than rule 1 allows
pub record HasBytes (x : FilePart) : Type 0 where
  pub bytes : AreBytes x.pe.bytes
  pub few : length x.pe.bytes ≤ MOST_FILE_BYTES
  pub literals : AreBytes x.metadata.user_strings
