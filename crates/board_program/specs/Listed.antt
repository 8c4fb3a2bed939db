-- When the instructions that a listing shows are found at their places.
use Rattle.std.specs.Prelude.{◌≡◌, ℕ, true, List, Some, IsSome, slice_get}
use Rattle.std.specs.List.{list_all}
use Rattle.machine.specs.Data.{Id}
use Rattle.classes.specs.Code.{CodeLine, MethodCode}
use Rattle.code_rules.specs.Verdict.{operand_fits}
use Rattle.assemblies.specs.Rows.{Assembly}
use Rattle.assemblies.specs.Binding.{code_of}
use Rattle.world_rows.specs.World.{size_of}
use Rattle.little_endian.specs.Numbers.{AreBytes}
use Rattle.image_bytes.specs.Layout.{Image}
use Rattle.image_form.specs.Whole.{bytes_at, image_rows}
use Rattle.board_model.specs.Bound.{bound_classes}

-- each image stands, and its code is made of bytes
pub record AreWhole (is : List Image) : Type 0 where
  pub rows : (file : ℕ) (i : Image) → slice_get is file ≡ Some i → IsSome (image_rows i)
  pub bytes : (file : ℕ) (i : Image) → slice_get is file ≡ Some i → AreBytes (bytes_at i 2)

-- the operand of each instruction of each method is there, and of the kind that the instruction takes (rule 46)
abbrev pub AreTaken : List Assembly → Type 0
AreTaken ps = (m : Id) (code : MethodCode) → code_of (size_of ps) ps m ≡ Some code → list_all (λ (l : CodeLine). operand_fits (bound_classes ps) l.shape l.operand) code.lines ≡ true
