-- What the rows of a world's files are looked up by.
use Rattle.std.specs.Prelude.{◌≡◌, ℕ, List, length, slice_get, Some}
use Rattle.file_tables.specs.File.{FilePart}
use Rattle.world_rows.specs.Tokens.{member_refs, type_specs}
use Rattle.profile_subject.specs.Subject.{IsSubject}
use Rattle.profile_order.specs.declared.judge.FileColumns.{FileColumns}
use Rattle.profile_order.specs.declared.judge.Judge.{Judge}
use Rattle.looked_rows.specs.Looked.{AreLookedAt}
use Rattle.member_search.specs.declared.sort.Sort.TheVariants as sorts
use Rattle.type_tests.specs.Columns.{AreColumns}
use Rattle.type_tests.specs.Entries.{AreEntries}
use Rattle.type_tests.specs.Names.{AreNames}

pub record AreFileColumns (files : List FilePart) (file : ℕ) (c : FileColumns) : Type 0 where
  pub types : AreColumns files file c.types
  pub members : (x : FilePart) → slice_get files file ≡ Some x → AreLookedAt x member_refs c.looked.members.items
  pub specs : (x : FilePart) → slice_get files file ≡ Some x → AreLookedAt x type_specs c.looked.specs.items

pub record AreAllColumns (files : List FilePart) (all : List FileColumns) : Type 0 where
  pub count : length all ≡ length files
  pub each : (file : ℕ) (c : FileColumns) → slice_get all file ≡ Some c → AreFileColumns files file c

pub record IsJudge (j : Judge) : Type 0 where
  pub subject : IsSubject j.subject.now
  pub fields : j.fields ≡ record { sort = sorts.Field; table = j.subject.now.setting.table.now }
  pub methods : j.methods ≡ record { sort = sorts.Method; table = j.subject.now.setting.table.now }
  pub names : AreNames j.subject.now.world.now j.names
  pub entries : AreEntries j.subject.now.world.now j.entries
  pub files : AreAllColumns j.subject.now.world.now j.files.items
