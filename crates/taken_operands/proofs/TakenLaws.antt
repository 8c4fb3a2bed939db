-- So a board that runs a closed choice of the rows of accepted files takes each operand.
use Rattle.std.proofs.Common.{◌≡◌, ℕ, ◌+◌, ◌≤◌, Bool, List, Some, sym, ap, ◌∙◌, arith}
use Rattle.std.specs.List.{list_all}
use Rattle.machine.specs.Data.{Id}
use Rattle.classes.specs.Classes.{Classes}
use Rattle.classes.specs.Code.{CodeLine}
use Rattle.classes.specs.Queries.{array}
use Rattle.class_rules.specs.Base.{IsBase}
use Rattle.code_rules.specs.Verdict.{operand_fits}
use Rattle.file_tables.specs.File.{FilePart}
use Rattle.assemblies.specs.Rows.{Assembly}
use Rattle.assemblies.specs.Binding.{classes_of, sources_of}
use Rattle.assemblies.specs.Chosen.{Choice, chosen_set}
use Rattle.assemblies.specs.Joined.{Joined}
use Rattle.world_rows.specs.World.{size_of, rows_alone, assemblies_of, ecma_sources}
use Rattle.base_rows.specs.Facts.{base}
use Rattle.base_rows.proofs.BaseLaws.{base_facts}
use Rattle.kept_closure.specs.Kept.{IsClosed, PlacesLead}
use Rattle.kept_joined.specs.Judged.{PlacesRise}
use Rattle.kept_joined.proofs.JoinedLaws.{joined}
use Rattle.rows_resolved.specs.Resolved.{resolved_rows, IsAccepted}
use Rattle.rows_resolved.proofs.Accepted as accepted_rows
use Rattle.rows_resolved.proofs.Classes.{judged}
use Rattle.board_program.specs.Listed.{AreTaken}
use Rattle.enough_steps.proofs.Whole.{classes, code}
use Rattle.enough_steps.proofs.ChosenWays.{ways, has_one}
use Rattle.taken_operands.specs.Fit.{OperandsFit}
use Rattle.taken_operands.proofs.KeptLaws.{kept_fit}
use Rattle.taken_operands.proofs.AcceptedLaws.{accepted_fit}

module _ (size more : ℕ) (keep : ℕ → Choice) (ps : List Assembly) (j : Joined size more keep ps) (arrays : Id) (is_arrays : array (classes_of size ps) ≡ Some arrays) (room : size_of (chosen_set keep ps) ≤ more) (fit : OperandsFit (sources_of size ps)) where
  abbrev cs : List Assembly
  cs = chosen_set keep ps

  pub taken : AreTaken (chosen_set keep ps)
  taken m c e =
      let some = has_one size more keep ps j arrays is_arrays in
      let ended = ways size more keep ps j in
      let there : (sources_of more cs).code m ≡ Some c = sym (ap (λ (g : _). g m) (code more cs some room ended)) ∙ e in
      let test : Classes → CodeLine → Bool = λ k l. operand_fits k l.shape l.operand in
      ap (λ k. list_all (test k) c.lines) (classes more cs some room ended) ∙ kept_fit size more keep ps j fit m c there

-- ---- of accepted files behind the base library

module _ (xs : List FilePart) (keep : ℕ → Choice) (accepted : IsAccepted (base xs)) (closed : IsClosed (size_of (rows_alone (base xs))) (assemblies_of (base xs)) keep) (leads : PlacesLead (assemblies_of (base xs)) keep) (rises : PlacesRise keep) where
  abbrev whole_size : ℕ
  whole_size = size_of (rows_alone (base xs))

  abbrev all : List Assembly
  all = assemblies_of (base xs)

  -- room for the whole and for the choice
  abbrev pub more_size : ℕ
  more_size = size_of (rows_alone (base xs)) + size_of (chosen_set keep (assemblies_of (base xs)))

  pub both : Joined (size_of (rows_alone (base xs))) (size_of (rows_alone (base xs)) + size_of (chosen_set keep (assemblies_of (base xs)))) keep (assemblies_of (base xs))
  both =
      joined whole_size more_size all (resolved_rows whole_size all) keep (omega arith)
      (accepted_rows.all (base xs) accepted) (accepted_rows.resolve (base xs) accepted) (judged xs accepted) closed leads rises

  pub choice_taken : AreTaken (chosen_set keep (assemblies_of (base xs)))
  choice_taken = let b : IsBase (ecma_sources (base xs)).classes = base_facts xs in taken whole_size more_size keep all both b.arrays b.arrays_is (omega arith) (accepted_fit (base xs) accepted)
