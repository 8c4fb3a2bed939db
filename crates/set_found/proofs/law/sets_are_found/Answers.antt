use Rattle.base_rows.specs.Base.{library_file, native_file}
use Rattle.base_rows.specs.Facts.{base}
use Rattle.set_found.proofs.EntryLaws.{one_entry}
use Rattle.set_found.proofs.FoundLaws.{set_is_found, is_deployable}
use Rattle.set_found.proofs.law.sets_are_found.Goals as goal

pub returns : goal.returns
returns c =
    record {
      found = λ xs marks s bank. set_is_found (base xs) marks s (one_entry library_file native_file xs s.accepted) bank;
      deployable = λ xs marks s bytes. is_deployable (base xs) marks s (one_entry library_file native_file xs s.accepted) bytes;
    }
