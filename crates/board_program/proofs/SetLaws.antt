-- The rows of a found set, and the ends of its runs.
use Rattle.std.proofs.Common.{◌≡◌, ℕ, List, [], ◌∷◌, Option, Some, None, refl, sym, ap, ◌∙◌}
use Rattle.std.specs.Prelude.{unwrap_or}
use Rattle.std.specs.Option.{option_map}
use Rattle.machine.specs.Throw.{on_some}
use Rattle.machine.specs.Trace.{Finish, WithNumber, WithClass, MemorySpent, StepsSpent, NoCase, NoStart, is_stuck, trace}
use Rattle.assemblies.specs.Rows.{Assembly}
use Rattle.image_bytes.specs.Layout as layout
use Rattle.image_bytes.specs.Layout.{view}
use Rattle.image_form.specs.Whole.{image_rows}
use Rattle.tiny_rows.specs.Rows.{NO_ASSEMBLY, rows_seen}
use Rattle.deploy_model.specs.Banks.{Image}
use Rattle.board_model.specs.Bound.{assembly_in, set_rows}
use Rattle.board_program.specs.Parts.{NO_PARTS, parts_in, set_parts, rows_of_parts}
use Rattle.board_program.specs.Program.{board_program}
use Rattle.board_program.specs.Trace.{finish_at, is_bad, board_trace}

no_rows : rows_seen NO_PARTS ≡ NO_ASSEMBLY
no_rows = refl

-- of an image that has rows they are its parts' own
of_rows : (i : layout.Image) (o : Option Assembly) → image_rows i ≡ o → unwrap_or (option_map (λ (s : layout.Image × Assembly). s.1) (option_map (λ p. (i, p)) o)) NO_ASSEMBLY ≡ rows_seen (unwrap_or (option_map (λ (s : layout.Image × Assembly). s.0) (option_map (λ p. (i, p)) o)) NO_PARTS)
of_rows i None e = sym no_rows
of_rows i (Some p) e = sym (ap (λ o. unwrap_or o NO_ASSEMBLY) e)

of_view : (o : Option layout.Image) → unwrap_or (option_map (λ (s : layout.Image × Assembly). s.1) (on_some o (λ i. option_map (λ p. (i, p)) (image_rows i)))) NO_ASSEMBLY ≡ rows_seen (unwrap_or (option_map (λ (s : layout.Image × Assembly). s.0) (on_some o (λ i. option_map (λ p. (i, p)) (image_rows i)))) NO_PARTS)
of_view None = sym no_rows
of_view (Some i) = of_rows i (image_rows i) refl

one_image : (x : Image) → assembly_in x ≡ rows_seen (parts_in x)
one_image x = of_view (view x.bytes)

pub same_rows : (images : List Image) → set_rows images ≡ rows_of_parts (set_parts images)
same_rows [] = refl
same_rows (x ∷ images) = ap (λ p. p ∷ set_rows images) (one_image x) ∙ ap (λ ps. rows_seen (parts_in x) ∷ ps) (same_rows images)

-- bad code is where the machine is stuck
finish_law : (images : List Image) (f : Finish) → is_bad (finish_at images f) ≡ is_stuck f
finish_law images (WithNumber number) = refl
finish_law images (WithClass name) = refl
finish_law images MemorySpent = refl
finish_law images StepsSpent = refl
finish_law images (NoCase at) = refl
finish_law images NoStart = refl

pub bad_is_stuck : (images : List Image) (n most : ℕ) → is_bad (board_trace images n most).finish ≡ is_stuck (trace (board_program (set_parts images)) n most).finish
unfolding board_trace
bad_is_stuck images n most = finish_law images (trace (board_program (set_parts images)) n most).finish
