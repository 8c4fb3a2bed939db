-- In accepted files operands are of the kinds that their instructions take (rule 46).
use Rattle.std.proofs.Common.{◌≡◌, ℕ, Bool, true, false, List, map, Some, None, refl, sym, ap, ◌∙◌}
use Rattle.std.specs.Prelude.{if◌then◌else◌, slice_get, slice_index}
use Rattle.std.specs.List.{list_all}
use Rattle.std.specs.Option.{option_map}
use Rattle.std.proofs.lemmas.Option.{slice_get-map}
use Rattle.file_tables.specs.File.{FilePart}
use Rattle.machine.specs.Throw.{on_some}
use Rattle.classes.specs.Classes.{Classes}
use Rattle.classes.specs.Code.{CodeLine}
use Rattle.class_rules.proofs.Kept.{all_by}
use Rattle.code_rules.specs.Verdict.{operand_fits}
use Rattle.assemblies.specs.Rows.{RawLine, RawCode, MethodRow, Assembly}
use Rattle.assemblies.specs.Binding.{operand, line_with, code_with}
use Rattle.assemblies.proofs.Binds.{on_some_back, map_back}
use Rattle.world_rows.specs.Rows.{is_internal}
use Rattle.world_rows.specs.Lines.{body_part, raw_code}
use Rattle.world_rows.specs.World.{size_of, rows_alone, assemblies_of, ecma_sources}
use Rattle.verdict_rules.specs.Code.{body_of}
use Rattle.rows_resolved.specs.Resolved.{IsAccepted}
use Rattle.rows_resolved.proofs.Members.{OfMethod, method_of}
use Rattle.rows_resolved.proofs.Codes.{BodyKept}
use Rattle.rows_resolved.proofs.Accepted.{bodies}
use Rattle.taken_operands.specs.Fit.{OperandsFit}

module _ (files : List FilePart) (accepted : IsAccepted files) where
  abbrev size : ℕ
  size = size_of (rows_alone files)

  abbrev ps : List Assembly
  ps = assemblies_of files

  abbrev cs : Classes
  cs = (ecma_sources files).classes

  -- the lines of the code that a row has
  lines_fit : (f n : ℕ) (m : MethodRow) (r : OfMethod files f n m) (raw : RawCode) → m.code ≡ Some raw → (i : ℕ) (l : RawLine) → slice_get raw.lines i ≡ Some l → operand_fits cs l.shape (operand size ps f l.operand) ≡ true
  lines_fit f n m r raw e = by (is_internal r.row) refl (ap (λ (z : MethodRow). z.code) r.is ∙ e)
    where
      by : (c : Bool) → is_internal r.row ≡ c → (if c then None else option_map (raw_code r.file.metadata) (body_part r.file (slice_index r.row 0))) ≡ Some raw → (i : ℕ) (l : RawLine) → slice_get raw.lines i ≡ Some l → operand_fits cs l.shape (operand size ps f l.operand) ≡ true
      by true plain h i l at = absurd (cc h)
      by false plain h i l at =
          let b = map_back (raw_code r.file.metadata) (body_part r.file (slice_index r.row 0)) raw h in
          let body : body_of r.file r.row ≡ Some b.0 = ap (λ (c : Bool). if c then None else body_part r.file (slice_index r.row 0)) plain ∙ b.1 in
          let kept : BodyKept files f n r.file b.0 = bodies files accepted f n r.file r.row b.0 r.is_file r.is_row body in
          kept.fit i l (ap (λ (z : RawCode). slice_get z.lines i) b.2 ∙ at)

  pub accepted_fit : OperandsFit (ecma_sources files)
  accepted_fit m code e =
      let p = on_some_back (slice_get ps m.file) (λ (q : Assembly). on_some (slice_get q.methods m.row) (λ (x : MethodRow). option_map (code_with size ps m.file) x.code)) code e in
      let x = on_some_back (slice_get p.0.methods m.row) (λ (x : MethodRow). option_map (code_with size ps m.file) x.code) code p.2 in
      let raw = map_back (code_with size ps m.file) x.0.code code x.2 in
      let fit = lines_fit m.file m.row x.0 (method_of files m.file m.row p.0 x.0 (p.1, x.1)) raw.0 raw.1 in
      let test : CodeLine → Bool = λ l. operand_fits cs l.shape l.operand in
      ap (λ c. list_all test c.lines) (sym raw.2)
      ∙ all_by test (map (line_with size ps m.file) raw.0.lines) (λ i l at.
      let w = map_back (line_with size ps m.file) (slice_get raw.0.lines i) l (sym (slice_get-map (line_with size ps m.file) raw.0.lines i) ∙ at) in
      ap test (sym w.2) ∙ fit i w.0 w.1)
