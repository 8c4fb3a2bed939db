use Rattle.base_rows.specs.Base.{library_file, native_file}
use Rattle.set_found.proofs.EntryLaws.{one_entry}
use Rattle.set_found.proofs.law.accepted_files_have_one_entry.Goals as goal

pub returns : goal.returns
returns c = one_entry library_file native_file
