-- What a listing shows, the board finds.
use Rattle.std.proofs.Common.{◌≡◌, ℕ, Bool, true, false, ◌&&◌, List, [], ◌∷◌, length, map, Option, Some, None, refl, sym, ap, ◌∙◌, arith, inl, inr}
use Rattle.std.specs.Prelude.{IsSome, nat_eq, slice_get, slice_index, if◌then◌else◌, unwrap_or}
use Rattle.std.specs.List.{find, list_all}
use Rattle.std.specs.Option.{option_map}
use Rattle.std.proofs.lemmas.Bool.{cases_lt}
use Rattle.std.proofs.lemmas.Option.{slice_get-map}
use Rattle.cil_opcodes.specs.Rows.{row_of as opcode_row}
use Rattle.machine.specs.Data.{Id}
use Rattle.machine.specs.Program.{Body, Missing, Code}
use Rattle.machine.specs.Throw.{on_some}
use Rattle.classes.specs.Classes.{Classes}
use Rattle.classes.specs.Code.{CodeLine, MethodCode}
use Rattle.classes.specs.Listed as listed
use Rattle.code_rules.specs.Verdict.{operand_fits}
use Rattle.assemblies.specs.Rows.{RawLine, RawCode, MethodRow, Assembly}
use Rattle.assemblies.specs.Binding.{line_with, code_with as bound_code, code_of}
use Rattle.world_rows.specs.World.{size_of}
use Rattle.image_bytes.specs.Layout.{Image, rows_of}
use Rattle.image_form.specs.Codes.{short, instrs_of, lines_of}
use Rattle.image_form.specs.Form.{Held, on_both, checked, part, bit, meaning, name_at, signature_at, locals_at, part_at, body_at, body_with, method_at, make_method, lines_at, native_body}
use Rattle.image_form.specs.Whole.{bytes_at, held, image_rows}
use Rattle.msspot_read.specs.Held.{held_of}
use Rattle.msspot_read.specs.Rows as image
use Rattle.tiny_rows.specs.Rows.{rows_seen}
use Rattle.tiny_rows.proofs.Parts.{Parts, parts_of, some_back, map_back, both_back, there, past}
use Rattle.tiny_rows.proofs.RowLaws.{seen_of}
use Rattle.board_model.specs.Bound.{bound_classes, bound_program}
use Rattle.machine_rename.specs.Runs.{IsWithin}
use Rattle.board_program.specs.Parts.{rows_of_parts}
use Rattle.board_program.specs.Code.{raw_at, line_at, line_taken, fetch_in}
use Rattle.board_program.specs.Program.{board_program}
use Rattle.board_program.specs.Listed.{AreWhole, AreTaken}
use Rattle.board_program.proofs.Walks.{bytes_behind, bytes_before, walked, raw_from}

-- ---- small parts

checked_back : {A : Type 0} (b : Bool) (x y : A) → checked b x ≡ Some y → x ≡ y
checked_back true x y e = cc e
checked_back false x y e = cc e

-- the first line at a place, of lines that are made of others
abbrev Back : (RawLine → CodeLine) → ℕ → List RawLine → CodeLine → Type 0
Back f at xs y = (x : RawLine) × (find (λ (l : RawLine). nat_eq l.at at) xs ≡ Some x) × (f x ≡ y)

back_by : (f : RawLine → CodeLine) (at : ℕ) (x : RawLine) (xs : List RawLine) (y : CodeLine) → (find (λ (l : CodeLine). nat_eq l.at at) (map f xs) ≡ Some y → Back f at xs y)
    → (b : Bool) → nat_eq x.at at ≡ b → (if b then Some (f x) else find (λ (l : CodeLine). nat_eq l.at at) (map f xs)) ≡ Some y → Back f at (x ∷ xs) y
back_by f at x xs y rest true t q = (x, ap (λ b. if b then Some x else find (λ (l : RawLine). nat_eq l.at at) xs) t, cc q)
back_by f at x xs y rest false t q = let r = rest q in (r.0, ap (λ b. if b then Some x else find (λ (l : RawLine). nat_eq l.at at) xs) t ∙ r.1, r.2)

find_back : (f : RawLine → CodeLine) → ((x : RawLine) → (f x).at ≡ x.at) → (at : ℕ) (xs : List RawLine) (y : CodeLine) → find (λ (l : CodeLine). nat_eq l.at at) (map f xs) ≡ Some y → Back f at xs y
find_back f same at [] y e = cc e
find_back f same at (x ∷ xs) y e =
    back_by f at x xs y (find_back f same at xs y) (nat_eq x.at at) refl (ap (λ n. if nat_eq n at then Some (f x) else find (λ (l : CodeLine). nat_eq l.at at) (map f xs)) (sym (same x)) ∙ e)

-- what holds of all holds of the one that is found
found_by : (test : CodeLine → Bool) (x : CodeLine) (xs : List CodeLine) (o : Option CodeLine) (y : CodeLine) → (list_all test xs ≡ true → o ≡ Some y → test y ≡ true)
    → (t : Bool) → test x ≡ t → (t && list_all test xs) ≡ true → (b : Bool) → (if b then Some x else o) ≡ Some y → test y ≡ true
found_by test x xs o y rest true is all true q = let same : x ≡ y = cc q in ap test (sym same) ∙ is
found_by test x xs o y rest true is all false q = rest all q
found_by test x xs o y rest false is all b q = cc all

all_found : (test : CodeLine → Bool) (p : CodeLine → Bool) (xs : List CodeLine) (y : CodeLine) → list_all test xs ≡ true → find p xs ≡ Some y → test y ≡ true
all_found test p [] y h e = cc e
all_found test p (x ∷ xs) y h e = found_by test x xs (find p xs) y (all_found test p xs y) (test x) refl h (p x) e

-- ---- the code of a method's row

module _ (i : Image) (rows : IsSome (image_rows i)) where
  parts : Parts i (rows_seen i)
  parts = parts_of i (rows_seen i) (seen_of i rows)

  abbrev h : Held
  h = held i parts.strings parts.signatures parts.interfaces parts.clauses parts.datas

  -- the texts are those of the pool
  same_meaning : meaning h ≡ meaning (held_of i)
  same_meaning = sym (ap (λ (o : Option (List (List ℕ))). meaning (held i (unwrap_or o []) (unwrap_or (Some parts.signatures) []) parts.interfaces parts.clauses parts.datas)) parts.string_texts)

  abbrev shown : ℕ → ℕ → List RawLine
  shown start count = lines_of (meaning h) short 0 (instrs_of opcode_row short (part start count (bytes_at i 2)))

  -- by whether the method is no CIL, and whether it has no code
  with_back : (t u x y z : Bool) (n w : Body) (made : RawCode) (b : Body × Option RawCode) (c : RawCode)
      → (if t then checked x (n, None) else (if u then checked y (w, None) else checked z (Code, Some made))) ≡ Some b → b.1 ≡ Some c → made ≡ c
  with_back true u x y z n w made b c e q = absurd (let k = ap (λ (v : Body × Option RawCode). v.1) (checked_back x (n, None) b e) in cc (k ∙ q))
  with_back false true x y z n w made b c e q = absurd (let k = ap (λ (v : Body × Option RawCode). v.1) (checked_back y (w, None) b e) in cc (k ∙ q))
  with_back false false x y z n w made b c e q = let k = ap (λ (v : Body × Option RawCode). v.1) (checked_back z (Code, Some made) b e) in cc (k ∙ q)

  code_read : (flags start count locals most first clauses : ℕ) (b : Body × Option RawCode) (c : RawCode) → body_at h flags start count locals most first clauses ≡ Some b → b.1 ≡ Some c → c.lines ≡ shown start count
  code_read flags start count locals most first clauses b c e q =
      let ts = some_back (locals_at h locals) (λ ts. on_some (part_at h first clauses h.clauses) (body_with h flags start count most ts)) b e in
      let cs = some_back (part_at h first clauses h.clauses) (body_with h flags start count most ts.0) b ts.2 in
      let made : RawCode = record { locals = ts.0; max_stack = most; clauses = cs.0; lines = lines_at h start count } in
      let same : made ≡ c = with_back (bit 16 flags) (nat_eq start 65535) _ _ _ (native_body start) Missing made b c cs.2 q in
      sym (ap (λ (x : RawCode). x.lines) same)

  method_read : (r : List ℕ) (y : MethodRow) (c : RawCode) → method_at h r ≡ Some y → y.code ≡ Some c → c.lines ≡ shown (slice_index r 3) (slice_index r 4)
  method_read [] y c e q = cc e
  method_read (a ∷ []) y c e q = cc e
  method_read (a ∷ b ∷ []) y c e q = cc e
  method_read (a ∷ b ∷ flags ∷ []) y c e q = cc e
  method_read (a ∷ b ∷ flags ∷ start ∷ []) y c e q = cc e
  method_read (a ∷ b ∷ flags ∷ start ∷ count ∷ []) y c e q = cc e
  method_read (a ∷ b ∷ flags ∷ start ∷ count ∷ locals ∷ []) y c e q = cc e
  method_read (a ∷ b ∷ flags ∷ start ∷ count ∷ locals ∷ most ∷ []) y c e q = cc e
  method_read (a ∷ b ∷ flags ∷ start ∷ count ∷ locals ∷ most ∷ first ∷ []) y c e q = cc e
  method_read (a ∷ b ∷ flags ∷ start ∷ count ∷ locals ∷ most ∷ first ∷ clauses ∷ x ∷ r) y c e q = cc e
  method_read (a ∷ b ∷ flags ∷ start ∷ count ∷ locals ∷ most ∷ first ∷ clauses ∷ []) y c e q =
      let p2 = both_back (on_both (option_map (make_method flags) (name_at h a)) (signature_at h b)) (body_at h flags start count locals most first clauses) y e in
      let p1 = both_back (option_map (make_method flags) (name_at h a)) (signature_at h b) p2.0 p2.2 in
      let p0 = map_back (make_method flags) (name_at h a) p1.0 p1.2 in
      let whole : make_method flags p0.0 p1.1 p2.1 ≡ y = ap (λ k. k p1.1 p2.1) p0.2 ∙ ap (λ k. k p2.1) p1.4 ∙ p2.4 in
      code_read flags start count locals most first clauses p2.1 c p2.3 (ap (λ (m : MethodRow). m.code) whole ∙ q)

  -- the lines of the code of a method that is there
  pub lines_are : (n : ℕ) (m : MethodRow) (c : RawCode) → slice_get (rows_seen i).methods n ≡ Some m → m.code ≡ Some c → c.lines ≡ lines_of (meaning (held_of i)) short 0 (instrs_of opcode_row short (image.code_of i n))
  lines_are n m c e q =
      elim (cases_lt n (rows_of i 7)) [
        | inl low ↦
            let t = there i 7 n (method_at h) (rows_seen i).methods parts.of_held.methods low in
            let same : t.0 ≡ m = cc (sym t.2 ∙ e) in
            method_read (image.row_of i 7 n) t.0 c t.1 (ap (λ (x : MethodRow). x.code) same ∙ q)
            ∙ ap (λ k. lines_of k short 0 (instrs_of opcode_row short (image.code_of i n))) same_meaning
        | inr high ↦ absurd (cc (sym (past i 7 n (method_at h) (rows_seen i).methods parts.of_held.methods high) ∙ e))
      ]

-- ---- the law

module _ (is : List Image) (whole : AreWhole is) where
  abbrev ps : List Assembly
  ps = rows_of_parts is

  abbrev k : ℕ
  k = size_of ps

  abbrev cs : Classes
  cs = bound_classes ps

  -- the image, its method and its code, of which bound code is made
  record IsCodeOf (id : Id) (code : MethodCode) : Type 0 where
    image : Image
    of : MethodRow
    raw : RawCode
    there : slice_get is id.file ≡ Some image
    row : slice_get (rows_seen image).methods id.row ≡ Some of
    has : of.code ≡ Some raw
    made : bound_code k ps id.file raw ≡ code

  map_get : (o : Option Image) (p : Assembly) → option_map rows_seen o ≡ Some p → (i : Image) × (o ≡ Some i) × (rows_seen i ≡ p)
  map_get o p e = map_back rows_seen o p e

  code_back : (id : Id) (code : MethodCode) → code_of k ps id ≡ Some code → IsCodeOf id code
  code_back id code e =
      let p = some_back (slice_get ps id.file) (λ (p : Assembly). on_some (slice_get p.methods id.row) (λ m. option_map (bound_code k ps id.file) m.code)) code e in
      let m = some_back (slice_get p.0.methods id.row) (λ (m : MethodRow). option_map (bound_code k ps id.file) m.code) code p.2 in
      let c = map_back (bound_code k ps id.file) m.0.code code m.2 in
      let i = map_get (slice_get is id.file) p.0 (sym (slice_get-map rows_seen is id.file) ∙ p.1) in
      record { image = i.0; of = m.0; raw = c.0; there = i.1; row = ap (λ (q : Assembly). slice_get q.methods id.row) i.2 ∙ m.1; has = c.1; made = c.2 }

  -- a line of bound code is read at its place
  line_there : (id : Id) (code : MethodCode) (c : IsCodeOf id code) (at : ℕ) (l : CodeLine) → find (λ (x : CodeLine). nat_eq x.at at) code.lines ≡ Some l → line_at is id at ≡ Some l
  line_there id code c at l e =
      let f = line_with k ps id.file in
      let lines : map f c.raw.lines ≡ code.lines = ap (λ (x : MethodCode). x.lines) c.made in
      let bytes = image.code_of c.image id.row in
      let own = lines_are c.image (whole.rows id.file c.image c.there) id.row c.of c.raw c.row c.has in
      let raw = find_back f (λ x. refl) at c.raw.lines l (ap (find (λ (x : CodeLine). nat_eq x.at at)) lines ∙ e) in
      let there = walked (meaning (held_of c.image)) short (length bytes) 0 at bytes raw.0 (bytes_before _ _ (bytes_behind _ _ (whole.bytes id.file c.image c.there))) (ap (find (λ (x : RawLine). nat_eq x.at at)) (sym own) ∙ raw.1) in
      let place : at ≡ there.behind = there.place ∙ omega arith in
      let here : raw_at c.image id.row at ≡ Some raw.0 = ap (λ (d : ℕ). raw_from (meaning (held_of c.image)) short at d bytes) place ∙ there.read in
      ap (λ o. on_some o (λ j. option_map f (raw_at j id.row at))) c.there ∙ ap (option_map f) here ∙ ap Some raw.2

  pub finds : AreTaken ps → IsWithin (bound_program ps).fetch (board_program is).fetch
  unfolding fetch_in
  finds taken id at line e =
      let code = some_back (code_of k ps id) (λ (code : MethodCode). on_some (find (λ (l : CodeLine). nat_eq l.at at) code.lines) (listed.line_of cs code)) line e in
      let l = some_back (find (λ (l : CodeLine). nat_eq l.at at) code.0.lines) (listed.line_of cs code.0) line code.2 in
      let here = line_there id code.0 (code_back id code.0 code.1) at l.0 l.1 in
      let fits = all_found (λ (x : CodeLine). operand_fits cs x.shape x.operand) (λ (x : CodeLine). nat_eq x.at at) code.0.lines l.0 (taken id code.0 code.1) l.1 in
      ap (λ o. on_some o (λ (c : MethodCode). on_some (line_at is id at) (line_taken cs c))) code.1
      ∙ ap (λ o. on_some o (line_taken cs code.0)) here
      ∙ ap (λ b. if b then listed.line_of cs code.0 l.0 else None) fits
      ∙ l.2
