-- Whether a type fits where it stands in a signature of a file.
use Rattle.std.specs.Prelude.{ℕ, Bool, true, false, ◌||◌, ◌&&◌, List, slice_get}
use Rattle.file_tables.specs.File.{FilePart}
use Rattle.classes.specs.Classes.{SigType}
use Rattle.class_rules.specs.Rules.{holds_some, sig_fits, is_handle}
use Rattle.verdict_rules.specs.World.{world_of, classes_of}
use Rattle.verdict_rules.specs.Members.{Spelling, method_place_fits}
use Rattle.signature_tests.specs.declared.fits.Handles.{Handles}
use Rattle.signature_tests.specs.declared.fits.Handles.TheVariants.{Admitted, Refused}

abbrev pub admits : Handles → Bool
admits Admitted = true
admits Refused = false

-- a type that is found, or a handle where those are admitted
abbrev pub admits_type : List FilePart → Bool → SigType → Bool
admits_type files handles t = sig_fits (classes_of (world_of files)) t || (handles && is_handle (classes_of (world_of files)) t)

-- at its position in a signature of a file that is there
unfoldable pub fits_at : List FilePart → ℕ → Bool → Spelling → Bool
fits_at files file handles s = holds_some (slice_get files file) (λ x. method_place_fits (world_of files) file x.metadata handles s.position s.type)
