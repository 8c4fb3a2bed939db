-- Where members of a set are searched.
use Rattle.std.specs.Prelude.{◌≡◌, ℕ, List}
use Rattle.assemblies.specs.Rows.{Assembly}
use Rattle.class_table.specs.Seen.{classes_seen}
use Rattle.member_search.specs.declared.sort.Sort.{Sort}
use Rattle.member_search.specs.declared.sort.Sort.TheVariants.{Field, Method}
use Rattle.member_search.specs.Shown.{Indexed}
use Rattle.board_model.specs.Bound.{bound_classes}
use Rattle.set_binding.specs.declared.file.Members.{Members}
use Rattle.set_binding.specs.declared.file.BoundMembers.{BoundMembers}
use Rattle.set_binding.specs.Columns.{AreNamed}

pub record IsSearched (sort : Sort) (ps : List Assembly) (index : Indexed) : Type 0 where
  pub members : index.sort ≡ sort
  pub classes : classes_seen index.table ≡ bound_classes ps

pub record AreMembers (ps : List Assembly) (m : Members) : Type 0 where
  pub fields : IsSearched Field ps m.fields
  pub methods : IsSearched Method ps m.methods

pub record AreBoundMembers (ps : List Assembly) (file : ℕ) (m : BoundMembers) : Type 0 where
  pub fields : AreNamed ps file 2 m.fields.items
  pub methods : AreNamed ps file 3 m.methods.items
