-- The board's program and that of the files are twins, of which the one never gets stuck.
use Rattle.std.proofs.Common.{◌≡◌, ℕ, suc, ◌+◌, false, List, Some, refl, sym, ap, ◌∙◌, subst, arith}
use Rattle.file_tables.specs.File.{FilePart}
use Rattle.machine.specs.Data.{State}
use Rattle.machine.specs.Program.{Program}
use Rattle.machine.specs.Trace.{Finish, WithNumber, WithClass, MemorySpent, StepsSpent, NoCase, NoStart, Trace, is_stuck, state_after, trace}
use Rattle.machine_rename.specs.Rename.{Renaming, Answers, state_to}
use Rattle.machine_rename.specs.Runs.{RunsOn, AreTwins}
use Rattle.machine_rename.proofs.Whole as rename
use Rattle.classes.specs.Listed.{program_of}
use Rattle.class_rules.specs.Base.{IsBase}
use Rattle.assemblies.specs.Rows.{Assembly}
use Rattle.assemblies.specs.Binding.{sources_of}
use Rattle.assemblies.specs.Chosen.{Choice, chosen_set, renaming}
use Rattle.assemblies.specs.Joined.{Joined}
use Rattle.assemblies.proofs.Whole.{answers}
use Rattle.world_rows.specs.Read.{TypesStand}
use Rattle.world_rows.specs.World.{size_of, rows_alone, assemblies_of, ecma_sources, ecma_program}
use Rattle.base_rows.specs.Facts.{base}
use Rattle.base_rows.proofs.BaseLaws.{base_facts}
use Rattle.verdict_laws.proofs.VerdictLaws.{never_sticks}
use Rattle.deploy_model.specs.Banks.{Image}
use Rattle.image_bytes.specs.Layout as layout
use Rattle.board_model.specs.Bound.{bound_program}
use Rattle.board_program.specs.Parts.{set_parts, rows_of_parts}
use Rattle.board_program.specs.Program.{board_program}
use Rattle.board_program.specs.Listed.{AreTaken}
use Rattle.board_program.specs.Trace.{finish_at, placed_trace, board_trace, is_bad}
use Rattle.board_program.proofs.Finds.{finds}
use Rattle.enough_steps.proofs.Whole.{program}
use Rattle.enough_steps.proofs.ChosenWays.{ways, has_one}
use Rattle.taken_operands.proofs.TakenLaws.{both, choice_taken}
use Rattle.mf_simulate.specs.Shown.{EndsAs, Shows}
use Rattle.mf_simulate.specs.Standing.{StandsFor}

ends_as : (images : List Image) (f : Finish) → is_stuck f ≡ false → EndsAs f (finish_at images f)
ends_as images (WithNumber number) e = refl
ends_as images (WithClass name) e = refl
ends_as images MemorySpent e = refl
ends_as images StepsSpent e = refl
ends_as images (NoCase at) e = absurd (cc e)
ends_as images NoStart e = absurd (cc e)

none_bad : (images : List Image) (f : Finish) → is_stuck f ≡ false → is_bad (finish_at images f) ≡ false
none_bad images (WithNumber number) e = refl
none_bad images (WithClass name) e = refl
none_bad images MemorySpent e = refl
none_bad images StepsSpent e = refl
none_bad images (NoCase at) e = absurd (cc e)
none_bad images NoStart e = absurd (cc e)

module _ (xs : List FilePart) (keep : ℕ → Choice) (images : List Image) (s : StandsFor xs keep images) where
  abbrev size : ℕ
  size = size_of (rows_alone (base xs))

  abbrev ps : List Assembly
  ps = assemblies_of (base xs)

  abbrev kept : List Assembly
  kept = chosen_set keep ps

  abbrev more : ℕ
  more = size + size_of kept

  abbrev r : Renaming
  r = renaming keep ps

  abbrev is : List layout.Image
  is = set_parts images

  abbrev ecma : Program
  ecma = ecma_program (base xs)

  joined : Joined size more keep ps
  joined = both xs keep s.accepted s.closed s.leads s.rises

  -- the program of the kept rows, in their own size
  own : bound_program kept ≡ program_of (sources_of more kept)
  own = let b : IsBase (ecma_sources (base xs)).classes = base_facts xs in program more kept (has_one size more keep ps joined b.arrays b.arrays_is) (omega arith) (ways size more keep ps joined)

  kept_answers : Answers r (bound_program kept) ecma
  kept_answers = subst (λ p. Answers r p ecma) (sym own) (answers size more keep ps joined)

  twins : AreTwins r (board_program is) ecma (bound_program (rows_of_parts is)).fetch ecma.fetch
  twins =
      let taken : AreTaken (rows_of_parts is) = subst AreTaken (sym s.rows) (choice_taken xs keep s.accepted s.closed s.leads s.rises) in
      record {
        answers = subst (λ rows. Answers r (bound_program rows) ecma) (sym s.rows) kept_answers;
        board_finds = finds is s.whole taken;
        ecma_finds = λ m at l e. e;
      }

  behind : TypesStand xs
  behind f x there row low = s.accepted.types (suc (suc f)) x there row low

  runs : (n most : ℕ) → RunsOn ecma n most
  runs = never_sticks xs s.accepted.verdict behind

  same : (n most : ℕ) → trace (board_program is) n most ≡ trace ecma n most
  same n most = rename.same r (board_program is) ecma (bound_program (rows_of_parts is)).fetch ecma.fetch twins.answers twins.board_finds twins.ecma_finds n most (runs n most)

  pub shows : (n most : ℕ) → Shows (trace (ecma_program (base xs)) n most) (board_trace images n most)
  unfolding board_trace
  shows n most =
      let t : Trace = trace ecma n most in
      subst (λ z. Shows t (placed_trace images z)) (sym (same n most)) (record { output = refl; finish = ends_as images t.finish (runs n most) })

  pub sound : (n most : ℕ) → is_bad (board_trace images n most).finish ≡ false
  unfolding board_trace
  sound n most = ap (λ z. is_bad (finish_at images z.finish)) (same n most) ∙ none_bad images (trace ecma n most).finish (runs n most)

  pub states : (n most : ℕ) → (trace (ecma_program (base xs)) n most).finish ≡ StepsSpent → (z : State) × (state_after (board_program (set_parts images)) n ≡ Some z) × (state_after (ecma_program (base xs)) n ≡ Some (state_to (renaming keep (assemblies_of (base xs))) z))
  states n most e =
      rename.states r (board_program is) ecma (bound_program (rows_of_parts is)).fetch ecma.fetch twins.answers twins.board_finds twins.ecma_finds n most (runs n most) (ap (λ (z : Trace). z.finish) (same n most) ∙ e)
