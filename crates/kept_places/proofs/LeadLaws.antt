-- The way of places from a file's code to the image and back leads to each place again, begins at the start and keeps their order.
use Rattle.std.proofs.Common.{◌≡◌, ⊎_elim, ℕ, ◌+◌, ◌-◌, ◌≤◌, Bool, true, List, [], ◌∷◌, Option, Some, None, refl, sym, ap, ◌∙◌, subst, arith}
use Rattle.std.specs.Prelude.{ℤ, pos, unsigned_abs, nat_lt, slice_get, unwrap_or}
use Rattle.std.specs.Option.{option_map}
use Rattle.std.proofs.lemmas.Bool.{lt-ltb, le-ltb}
use Rattle.std.proofs.lemmas.Option.{slice_get-map}
use Rattle.cil_opcodes.specs.declared.shape.Operand.{Operand}
use Rattle.cil_opcodes.specs.declared.shape.Operand.TheVariants as kinds
use Rattle.cil_code.specs.Bodies.{BodyPart}
use Rattle.file_tables.specs.Metadata.{rows_of}
use Rattle.file_tables.specs.File.{FilePart}
use Rattle.machine.specs.Throw.{on_some}
use Rattle.machine_rename.specs.Places.{Piece, to_long, AreShorter}
use Rattle.machine_rename.proofs.PlaceLaws.{if_true, if_false, order_law}
use Rattle.assemblies.specs.Rows.{RawTargets, RawClause, RawLine, RawOperand, MethodRow, Assembly}
use Rattle.assemblies.specs.Chosen.{Choice}
use Rattle.assemblies.specs.Closed.{Each}
use Rattle.assemblies.proofs.Binds.{map_back}
use Rattle.image_form.specs.Codes.{Meaning, Plain, Instr, number_of, size, operand_of, text_operand, lines_of, long}
use Rattle.short_code.specs.Short.{to_short, IsBound}
use Rattle.short_code.specs.Pieces.{pieces}
use Rattle.short_code.proofs.PieceLaws.{are_shorter}
use Rattle.kept_closure.specs.Named.{InOption}
use Rattle.kept_closure.specs.Kept.{CodeLeads, ClauseLeads, LineLeads, TargetsLead, Leads, PlacesLead}
use Rattle.kept_joined.specs.Judged.{PlacesRise}
use Rattle.chosen_image.specs.Spells.{ClauseSpells, TargetsStart}
use Rattle.chosen_image.proofs.PlaceLaws.{first_bound, behind_first}
use Rattle.world_rows.specs.Tokens.{methods}
use Rattle.world_rows.specs.Lines.{raw_code, lines_of as file_lines}
use Rattle.world_rows.specs.Rows.{method_row}
use Rattle.world_rows.specs.World.{assemblies_of}
use Rattle.verdict_laws.proofs.Rows.{native, from_zero}
use Rattle.rows_resolved.specs.Resolved.{IsAccepted}
use Rattle.rows_resolved.proofs.Accepted.{bodies}
use Rattle.rows_resolved.proofs.Types.{file_of}
use Rattle.code_shrink.specs.FileLines.{file_meaning}
use Rattle.code_shrink.specs.Shrunk.{IsTarget, AreTargets, instrs_in, pieces_of, targets_of}
use Rattle.code_shrink.proofs.FileLines.{lines_same}
use Rattle.converted.specs.Bodies.{body_of, code_in, codes_of}
use Rattle.converted.specs.Choosing.{code_at, choice_of}
use Rattle.image_numbers.proofs.LiteralLaws.{code_is}
use Rattle.image_numbers.specs.Named.{AllNameKept, NamesKept}
use Rattle.kept_places.proofs.ClauseLaws.{clauses_spell}

-- ---- there and back

module _ {A : Type 0} where
  pub back : (xs : List (Piece A)) (at : ℕ) → AreShorter xs → IsBound xs at → to_long xs (to_short xs at) ≡ at
  back [] at h b = refl
  back (x ∷ xs) at h b =
      ⊎_elim
      (λ (z : at ≡ 0).
      ap (to_long (x ∷ xs)) (if_true (nat_lt at x.long) 0 (x.short + to_short xs (at - x.long)) (lt-ltb at x.long (omega (arith, z, h.0, h.1))))
      ∙ if_true (nat_lt 0 x.short) 0 (x.long + to_long xs (0 - x.short)) (lt-ltb 0 x.short h.0)
      ∙ sym z)
      (λ (p : (x.long ≤ at) × IsBound xs (at - x.long)).
      let ih = back xs (at - x.long) h.2 p.1 in
      let off : x.short + to_short xs (at - x.long) - x.short ≡ to_short xs (at - x.long) = omega arith in
      let sum : x.long + (at - x.long) ≡ at = omega (arith, p.0) in
      ap (to_long (x ∷ xs)) (if_false (nat_lt at x.long) 0 (x.short + to_short xs (at - x.long)) (le-ltb at x.long p.0))
      ∙ if_false (nat_lt (x.short + to_short xs (at - x.long)) x.short) (x.short + to_short xs (at - x.long)) (x.long + to_long xs (x.short + to_short xs (at - x.long) - x.short)) (le-ltb (x.short + to_short xs (at - x.long)) x.short (omega arith))
      ∙ ap (λ n. x.long + to_long xs n) off
      ∙ ap (λ n. x.long + n) ih
      ∙ sum)
      b

  from_start : (xs : List (Piece A)) → AreShorter xs → to_long xs 0 ≡ 0
  from_start [] h = refl
  from_start (x ∷ xs) h = if_true (nat_lt 0 x.short) 0 (x.long + to_long xs (0 - x.short)) (lt-ltb 0 x.short h.0)

pub places_rise : (files : List FilePart) (marks : List Bool) → PlacesRise (choice_of files marks)
places_rise files marks =
    record {
      begin = λ f n. from_start (pieces_of (code_at files marks f n)) (are_shorter (instrs_in (code_at files marks f n)));
      order = λ f n a b. order_law (pieces_of (code_at files marks f n)) a b (are_shorter (instrs_in (code_at files marks f n)));
    }

-- ---- instructions stand at bounds, and lead to bounds

pub record LineBounds (xs : List (Piece Instr)) (l : RawLine) : Type 0 where
  pub at : IsBound xs l.at
  pub next : IsBound xs l.next
  pub targets : TargetsStart xs l.operand

module _ (m : Meaning) (xs : List (Piece Instr)) where
  text_starts : (o : Option (List ℕ)) → TargetsStart xs (text_operand o)
  text_starts None = tt
  text_starts (Some units) = tt

  kind_starts : (kind : Operand) (next : ℕ) (p : Plain) → Each (IsTarget xs) (targets_of kind next p) → TargetsStart xs (operand_of m kind next p)
  kind_starts kinds.Nothing next p h = tt
  kind_starts kinds.Int8 next p h = tt
  kind_starts kinds.UInt8 next p h = tt
  kind_starts kinds.UInt16 next p h = tt
  kind_starts kinds.Int32 next p h = tt
  kind_starts kinds.Int64 next p h = tt
  kind_starts kinds.BranchShort next p h = h
  kind_starts kinds.BranchLong next p h = h
  kind_starts kinds.Switch next p h = h
  kind_starts kinds.TypeToken next p h = tt
  kind_starts kinds.FieldToken next p h = tt
  kind_starts kinds.MethodToken next p h = tt
  kind_starts kinds.StringToken next p h = text_starts (m.text (unsigned_abs (number_of p)))
  kind_starts kinds.AnyToken next p h = tt

  lines_bound : (at : ℕ) (is : List Instr) → ((y : ℕ) → IsBound (pieces is) y → IsBound xs (at + y)) → AreTargets xs at is → Each (LineBounds xs) (lines_of m long at is)
  lines_bound at [] inside h = tt
  lines_bound at (i ∷ is) inside h =
      let here : at + 0 ≡ at = omega arith in
      let behind : at + (size long i + 0) ≡ at + size long i = omega arith in (
        record {
          at = subst (IsBound xs) here (inside 0 (first_bound (i ∷ is)));
          next = subst (IsBound xs) behind (inside (size long i + 0) (behind_first i is 0 (first_bound is)));
          targets = kind_starts i.row.operand (at + size long i) i.operand h.0;
        },
        lines_bound (at + size long i) is (λ y b. let sum : at + (size long i + y) ≡ at + size long i + y = omega arith in subst (IsBound xs) sum (inside (size long i + y) (behind_first i is y b))) h.1,
      )

each_of : {A : Type 0} (P Q : A → Type 0) → ((x : A) → P x → Q x) → (xs : List A) → Each P xs → Each Q xs
each_of P Q g [] h = tt
each_of P Q g (x ∷ xs) h = (g x h.0, each_of P Q g xs h.1)

-- ---- of accepted files

module _ (files : List FilePart) (marks : List Bool) (accepted : IsAccepted files) (names : (f : ℕ) (x : FilePart) → slice_get files f ≡ Some x → AllNameKept (choice_of files marks f) x) where
  abbrev keep : ℕ → Choice
  keep = choice_of files marks

  code_found : (f n : ℕ) (x : FilePart) (r : List ℕ) (b : BodyPart) → slice_get files f ≡ Some x → slice_get (rows_of x.metadata methods) n ≡ Some r → body_of x r ≡ Some b → code_at files marks f n ≡ b.code
  code_found f n x r b there at is =
      ap (λ o. unwrap_or (on_some o (λ y. slice_get (codes_of y) n)) []) there
      ∙ ap (λ o. unwrap_or o []) (slice_get-map (λ row. code_in (body_of x row)) (rows_of x.metadata methods) n)
      ∙ ap (λ o. unwrap_or (option_map (λ row. code_in (body_of x row)) o) []) at
      ∙ ap code_in is

  module _ (f n : ℕ) (x : FilePart) (row : List ℕ) (b : BodyPart) (there : slice_get files f ≡ Some x) (at : slice_get (rows_of x.metadata methods) n ≡ Some row) (kept : (choice_of files marks f).methods n ≡ true) (is : body_of x row ≡ Some b) where
    named : NamesKept (choice_of files marks f) x.metadata b.code
    named = names f x there n row b at kept is

    leads : (y : ℕ) → IsBound (pieces_of b.code) y → Leads keep f n y
    leads y bound =
        subst (λ code. to_long (pieces_of code) (to_short (pieces_of code) y) ≡ y) (sym (code_found f n x row b there at is)) (back (pieces_of b.code) y (are_shorter (instrs_in b.code)) bound)

    clause_leads : (c : RawClause) → ClauseSpells (pieces_of b.code) c → ClauseLeads keep f n c
    clause_leads c h = (leads c.try_start h.try_start, leads c.try_end h.try_end, leads c.start h.start, leads c.end h.end)

    target_leads : (z : ℤ) → IsTarget (pieces_of b.code) z → Leads keep f n (unsigned_abs z) × (pos (unsigned_abs z) ≡ z)
    target_leads z h = (leads (unsigned_abs z) h.0, h.1)

    targets_lead : (o : RawOperand) → TargetsStart (pieces_of b.code) o → TargetsLead keep f n o
    targets_lead (RawTargets to) h = each_of (IsTarget (pieces_of b.code)) (λ z. Leads keep f n (unsigned_abs z) × (pos (unsigned_abs z) ≡ z)) target_leads to h
    targets_lead _ h = tt

    line_leads : (l : RawLine) → LineBounds (pieces_of b.code) l → LineLeads keep f n l
    line_leads l h = (leads l.at h.at, leads l.next h.next, targets_lead l.operand h.targets)

    lines_lead : Each (LineLeads keep f n) (file_lines x.metadata b.code)
    lines_lead =
        let same = lines_same x.metadata b.code named.bytes named.sound.whole in
        let bounds = lines_bound (file_meaning x.metadata) (pieces_of b.code) 0 (instrs_in b.code) (λ y bound. let sum : y ≡ 0 + y = omega arith in subst (IsBound (pieces_of b.code)) sum bound) named.sound.targets in
        subst (Each (LineLeads keep f n)) (sym same) (each_of (LineBounds (pieces_of b.code)) (LineLeads keep f n) line_leads (lines_of (file_meaning x.metadata) long 0 (instrs_in b.code)) bounds)

    code_leads : CodeLeads keep f n (raw_code x.metadata b)
    code_leads =
        let spells = clauses_spell files f n x b (bodies files accepted f n x row b there at is) named.bytes named.sound.whole in
        (each_of (ClauseSpells (pieces_of b.code)) (ClauseLeads keep f n) clause_leads (raw_code x.metadata b).clauses spells, lines_lead)

  body_leads : (f n : ℕ) (x : FilePart) (row : List ℕ) → slice_get files f ≡ Some x → slice_get (rows_of x.metadata methods) n ≡ Some row → (choice_of files marks f).methods n ≡ true → (o : Option BodyPart) → body_of x row ≡ o → InOption (CodeLeads keep f n) (option_map (raw_code x.metadata) o)
  body_leads f n x row there at kept None is = tt
  body_leads f n x row there at kept (Some b) is = code_leads f n x row b there at kept is

  pub places_lead : PlacesLead (assemblies_of files) (choice_of files marks)
  places_lead f n p m stands kept =
      let x = file_of files f p stands.0 in
      let r = map_back (method_row x.0 (native files f) n) (slice_get (rows_of x.0.metadata methods) n) m (sym (from_zero (method_row x.0 (native files f)) n (rows_of x.0.metadata methods)) ∙ (ap (λ (q : Assembly). slice_get q.methods n) x.2 ∙ stands.1)) in
      let code : option_map (raw_code x.0.metadata) (body_of x.0 r.0) ≡ m.code = sym (code_is x.0 r.0) ∙ ap (λ (y : MethodRow). y.code) r.2 in
      subst (InOption (CodeLeads keep f n)) code (body_leads f n x.0 r.0 x.1 r.1 kept (body_of x.0 r.0) refl)
