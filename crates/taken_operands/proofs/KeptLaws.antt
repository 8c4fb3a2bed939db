-- A closed choice of the rows of a set has operands of the kinds that the whole set's are.
use Rattle.std.proofs.Common.{◌≡◌, ⊎_elim, ℕ, ◌<◌, ◌≤◌, Bool, List, length, Option, Some, None, refl, sym, ap, ◌∙◌, subst}
use Rattle.std.specs.Prelude.{slice_get}
use Rattle.std.specs.Option.{option_map}
use Rattle.std.proofs.lemmas.Option.{slice_get-map}
use Rattle.machine.specs.Data.{Id}
use Rattle.machine.specs.Throw.{on_some}
use Rattle.machine_rename.specs.Rename.{Renaming}
use Rattle.classes.specs.Classes.{Class, Classes}
use Rattle.classes.specs.Code.{CodeLine}
use Rattle.code_rules.specs.Verdict.{operand_fits}
use Rattle.kept_rows.specs.Select.{select, rows}
use Rattle.alike.specs.Carry.{code_line_to, code_to}
use Rattle.alike.specs.Alike.{Alike}
use Rattle.alike.proofs.Lists.{all_map}
use Rattle.assemblies.specs.Rows.{Assembly}
use Rattle.assemblies.specs.Binding.{id_at, class_with, class_at, classes_of, sources_of}
use Rattle.assemblies.specs.Chosen.{Choice, type_row_to, chosen, chosen_set, renaming, kept_members, count_of}
use Rattle.assemblies.specs.Joined.{Joined}
use Rattle.assemblies.proofs.Binds.{chosen_at}
use Rattle.assemblies.proofs.Back.{get_past, get_there, count_law, IsRow, number_view, past_selected}
use Rattle.assemblies.proofs.ClassLaws.{low_there, high_there}
use Rattle.assemblies.proofs.Whole.{whole}
use Rattle.taken_operands.specs.Fit.{OperandsFit}
use Rattle.taken_operands.proofs.OperandLaws.{fits_law}

module _ (size more : ℕ) (keep : ℕ → Choice) (ps : List Assembly) (j : Joined size more keep ps) where
  abbrev cs : List Assembly
  cs = chosen_set keep ps

  abbrev r : Renaming
  r = renaming keep ps

  abbrev low : Classes
  low = classes_of more cs

  abbrev high : Classes
  high = classes_of size ps

  abbrev abstract_at : Option Class → Option Bool
  abstract_at o = option_map (λ (k : Class). k.is_abstract) o

  -- whether a class is abstract stays
  abstract_law : (c : Id) → abstract_at (class_at size ps (r.type c)) ≡ abstract_at (class_at more cs c)
  abstract_law c = by (slice_get ps c.file) refl
    where
      there : (p : Assembly) → slice_get ps c.file ≡ Some p → IsRow (keep c.file).types (count_of (λ (q : Assembly). q.types) ps c.file) c.row → abstract_at (class_at size ps (r.type c)) ≡ abstract_at (class_at more cs c)
      there p at w =
          let t = get_there p.types w.row (subst (λ m. w.row < m) (count_law (λ (q : Assembly). q.types) ps c.file p at) w.within) in
          ap (λ n. abstract_at (class_at size ps (id_at c.file n))) w.back
          ∙ ap abstract_at (high_there keep ps size more j.closed j.grows c.file p at w.row t.0 t.1 w.kept)
          ∙ sym (ap abstract_at (low_there keep ps size more j.closed j.grows c.file p at w.row t.0 t.1 w.kept))
          ∙ ap (λ n. abstract_at (class_at more cs (id_at c.file n))) w.number

      past : (p : Assembly) → slice_get ps c.file ≡ Some p → (length (rows (keep c.file).types (count_of (λ (q : Assembly). q.types) ps c.file)) ≤ c.row) × (count_of (λ (q : Assembly). q.types) ps c.file ≤ (r.type c).row) → abstract_at (class_at size ps (r.type c)) ≡ abstract_at (class_at more cs c)
      past p at w =
          let len = count_law (λ (q : Assembly). q.types) ps c.file p at in
          ap abstract_at (ap (λ o. on_some o (λ (q : Assembly). option_map (class_with size ps c.file q) (slice_get q.types (r.type c).row))) at ∙ ap (option_map (class_with size ps c.file p)) (get_past p.types (r.type c).row (subst (λ m. m ≤ (r.type c).row) len w.1)))
          ∙ sym (ap abstract_at
          (ap (λ o. on_some o (λ (q : Assembly). option_map (class_with more cs c.file q) (slice_get q.types c.row))) (chosen_at keep ps c.file ∙ ap (option_map (chosen (keep c.file))) at)
          ∙ ap (option_map (class_with more cs c.file (chosen (keep c.file) p))) (slice_get-map (type_row_to (keep c.file)) (select (keep c.file).types p.types) c.row ∙ ap (option_map (type_row_to (keep c.file))) (past_selected (keep c.file).types p.types c.row (subst (λ m. length (rows (keep c.file).types m) ≤ c.row) len w.0)))))

      by : (o : Option Assembly) → slice_get ps c.file ≡ o → abstract_at (class_at size ps (r.type c)) ≡ abstract_at (class_at more cs c)
      by None e =
          ap (λ o. abstract_at (on_some o (λ (q : Assembly). option_map (class_with size ps c.file q) (slice_get q.types (r.type c).row)))) e
          ∙ sym (ap (λ o. abstract_at (on_some o (λ (q : Assembly). option_map (class_with more cs c.file q) (slice_get q.types c.row)))) (chosen_at keep ps c.file ∙ ap (option_map (chosen (keep c.file))) e))
      by (Some p) e = ⊎_elim (there p e) (past p e) (number_view (keep c.file).types (count_of (λ (q : Assembly). q.types) ps c.file) c.row)

  both : Alike r (kept_members keep) (sources_of more cs) (sources_of size ps)
  both = whole size more keep ps j

  abbrev fit_high : CodeLine → Bool
  fit_high l = operand_fits high l.shape l.operand

  abbrev fit_low : CodeLine → Bool
  fit_low l = operand_fits low l.shape l.operand

  pub kept_fit : OperandsFit (sources_of size ps) → OperandsFit (sources_of more cs)
  kept_fit h m code e =
      sym (all_map (code_line_to r m) fit_high fit_low code.lines (λ l. fits_law r (kept_members keep) low high both.classes abstract_law m l.shape l.operand))
      ∙ h (r.method m) (code_to r m code) (both.code m ∙ ap (option_map (code_to r m)) e)
