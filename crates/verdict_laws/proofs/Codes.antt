-- Where no rule of 27 and 40 to 54 is broken, the code of each method fits.
use Rattle.std.proofs.Common.{◌≡◌, ℕ, zero, suc, ◌+◌, ◌-◌, ◌<◌, Bool, true, false, List, [], ◌∷◌, ◌++◌, map, take, Option, Some, None, refl, sym, ap, ◌∙◌, subst, arith, cond}
use Rattle.std.specs.Prelude.{◌&&◌, ◌||◌, ◌==◌, if◌then◌else◌, nat_le, slice_get, slice_index, unwrap_or, Result, Ok, Err}
use Rattle.std.specs.List.{list_all, filter_map, position}
use Rattle.std.specs.Option.{option_map}
use Rattle.std.proofs.lemmas.Bool.{and_parts, and_from, leb-true}
use Rattle.std.proofs.lemmas.Option.{get_or_from_slice_get}
use Rattle.cil_code.specs.declared.fault.CodeFault.{CodeFault}
use Rattle.cil_code.specs.Bodies.{BodyPart, body_at}
use Rattle.cil_code.specs.Walk.{code_fault}
use Rattle.file_tables.specs.Pe.{tail}
use Rattle.file_tables.specs.Metadata.{MetadataPart, rows_of, row_count, column_of}
use Rattle.file_tables.specs.File.{FilePart}
use Rattle.machine.specs.Data.{Id, CliType, ClassOf}
use Rattle.machine.specs.Program.{Method, Code}
use Rattle.machine.specs.Throw.{on_some}
use Rattle.machine_typed.proofs.Heaps.{some_inv}
use Rattle.classes.specs.Classes.{Classes}
use Rattle.classes.specs.Clauses.{is_proper, lies_well, lie_well}
use Rattle.classes.specs.Code.{CodeClause, MethodCode, Sources}
use Rattle.classes.specs.Listed.{method, method_with, no_code}
use Rattle.classes.specs.Queries.{or_else, method_at}
use Rattle.class_rules.specs.Base.{IsBase}
use Rattle.class_rules.specs.Rules.{sig_fits}
use Rattle.class_rules.proofs.Kept.{all_by}
use Rattle.class_rules.proofs.Ways.{all_at}
use Rattle.assemblies.specs.Rows.{TypeRow, MethodRow, Assembly}
use Rattle.assemblies.specs.Binding.{id_at, numbered, holds, expanded, code_with, method_owner}
use Rattle.assemblies.proofs.Back.{get_there}
use Rattle.assemblies.proofs.Belong.{some_map}
use Rattle.world_rows.specs.Tokens.{methods, locals_signatures, number_of, table_of, bytes_at}
use Rattle.world_rows.specs.Rows as rows
use Rattle.world_rows.specs.Rows.{is_internal}
use Rattle.world_rows.specs.Lines.{is_locals_token, is_aligned, locals_of, if_sound, body_in, body_part, raw_code}
use Rattle.world_rows.specs.Signatures.{locals_signature}
use Rattle.world_rows.specs.World.{size_of, rows_alone, assemblies_of, ecma_sources}
use Rattle.code_rules.specs.Pass.{Entry, Step}
use Rattle.code_rules.specs.Verdict.{passed}
use Rattle.code_rules.specs.Judgement.{lattice_of, on_starts, catches_well, is_ok, steps_of, code_fits, CodesFit}
use Rattle.verdict_rules.specs.Order.{Test, fault_of, first_fault, phase_fault}
use Rattle.verdict_rules.specs.World.{World, world_of, exception_of}
use Rattle.verdict_rules.specs.Members.{locals_tests, locals_wrong}
use Rattle.verdict_rules.specs.Code.{unowned, walk_test, target_test, clause_well, clause_test, pass_test, listed_tests, body_of, body_tests, is_code, method_tests, code_tests, code_rules}
use Rattle.verdict_rules.specs.Verdict.{member_rules}
use Rattle.verdict_laws.proofs.Kept.{head_kept, tests_kept, row_kept}
use Rattle.verdict_laws.proofs.Rows.{whole, file_there, file_at, native, from_zero}
use Rattle.verdict_laws.proofs.Signatures.{none_wrong, locals_fit}
use Rattle.verdict_laws.proofs.Listing.{lines_rise_here, some_line_here, closed_here}

-- ---- lists of tests

module _ (f t r : ℕ) where
  both_kept : (xs ys : List Test) → first_fault f t r (xs ++ ys) ≡ None → (first_fault f t r xs ≡ None) × (first_fault f t r ys ≡ None)
  both_kept [] ys e = (refl, e)
  both_kept (x ∷ xs) ys e =
      let h = head_kept f t r x (xs ++ ys) e in
      let rest = both_kept xs ys h.1 in
      (ap (λ b. cond b (first_fault f t r xs) (Some (fault_of f t r x))) h.0 ∙ rest.0, rest.1)

  map_kept : {A : Type 0} (make : A → Test) (xs : List A) → first_fault f t r (map make xs) ≡ None → list_all (λ x. (make x).is_kept) xs ≡ true
  map_kept make [] e = refl
  map_kept make (x ∷ xs) e = let h = head_kept f t r (make x) (map make xs) e in and_from ((make x).is_kept) (list_all (λ x. (make x).is_kept) xs) h.0 (map_kept make xs h.1)

  from_kept : {A : Type 0} (make : ℕ → A → Test) (n : ℕ) (xs : List A) (i : ℕ) (x : A) → first_fault f t r (numbered make n xs) ≡ None → slice_get xs i ≡ Some x → (make (n + i) x).is_kept ≡ true
  from_kept make n [] i x e at = absurd (cc at)
  from_kept make n (y ∷ ys) zero x e at =
      let same : y ≡ x = cc at in
      let here : n ≡ n + 0 = omega arith in
      subst (λ k. (make k x).is_kept ≡ true) here (subst (λ z. (make n z).is_kept ≡ true) same (head_kept f t r (make n y) (numbered make (suc n) ys) e).0)
  from_kept make n (y ∷ ys) (suc i) x e at =
      let next : suc n + i ≡ n + suc i = omega arith in
      subst (λ k. (make k x).is_kept ≡ true) next (from_kept make (suc n) ys i x (head_kept f t r (make n y) (numbered make (suc n) ys) e).1 at)

  numbered_kept : {A : Type 0} (make : ℕ → A → Test) (xs : List A) (i : ℕ) (x : A) → first_fault f t r (numbered make 0 xs) ≡ None → slice_get xs i ≡ Some x → (make i x).is_kept ≡ true
  numbered_kept make xs i x e at = let here : 0 + i ≡ i = omega arith in subst (λ k. (make k x).is_kept ≡ true) here (from_kept make 0 xs i x e at)

-- ---- clauses

take_get : {A : Type 0} (n : ℕ) (xs : List A) (i : ℕ) (x : A) → i < n → slice_get xs i ≡ Some x → slice_get (take n xs) i ≡ Some x
take_get zero xs i x below e = absurd (omega (arith, below))
take_get (suc n) [] i x below e = absurd (cc e)
take_get (suc n) (y ∷ ys) zero x below e = e
take_get (suc n) (y ∷ ys) (suc i) x below e = take_get n ys i x (omega (arith, below)) e

lie : (cs : List CodeClause) → ((i : ℕ) (c : CodeClause) → slice_get cs i ≡ Some c → is_proper c ≡ true) → ((i j : ℕ) (b c : CodeClause) → i < j → slice_get cs i ≡ Some b → slice_get cs j ≡ Some c → lies_well b c ≡ true) → lie_well cs ≡ true
lie [] proper well = refl
lie (c ∷ cs) proper well =
    and_from (is_proper c) _ (proper 0 c refl)
    (and_from (list_all (lies_well c) cs) (lie_well cs) (all_by (lies_well c) cs (λ j d e. well 0 (suc j) c d (omega arith) refl e))
    (lie cs (λ i d e. proper (suc i) d e) (λ i j b d below at there. well (suc i) (suc j) b d (omega (arith, below)) at there)))

no_walk_fault : (o : Option CodeFault) → (walk_test o).is_kept ≡ true → o ≡ None
no_walk_fault None e = refl
no_walk_fault (Some fault) e = absurd (cc e)

passes : (r : Result (List Entry) (ℕ × List ℕ)) → (pass_test r).is_kept ≡ true → is_ok r ≡ true
passes (Ok table) e = refl
passes (Err broken) e = absurd (cc e)

if_kept : {A : Type 0} (b : Bool) (x y : A) → (if b then Some x else None) ≡ Some y → (b ≡ true) × (x ≡ y)
if_kept true x y e = (refl, let same : x ≡ y = cc e in same)
if_kept false x y e = absurd (cc e)

module _ (files : List FilePart) where
  abbrev w : World
  w = world_of files

  abbrev size : ℕ
  size = size_of (rows_alone files)

  abbrev ps : List Assembly
  ps = assemblies_of files

  abbrev x : Sources
  x = ecma_sources files

  abbrev cs : Classes
  cs = (ecma_sources files).classes

  abbrev exception : CliType
  exception = ClassOf (exception_of (world_of files))

  -- ---- the row of a method

  pub record Row (id : Id) : Type 0 where
    pub file : FilePart
    pub row : List ℕ
    pub is_file : slice_get files id.file ≡ Some file
    pub is_row : slice_get (rows_of file.metadata methods) id.row ≡ Some row

  row_of : (id owner : Id) → method_owner ps id ≡ Some owner → Row id
  row_of id owner e =
      let p = some_inv (slice_get ps id.file) (λ (p : Assembly). on_some (slice_get p.methods id.row) (λ y. option_map (id_at id.file) (position (λ (t : TypeRow). holds t.first_method t.method_count id.row) p.types))) owner e in
      let y = some_inv (slice_get p.0.methods id.row) (λ y. option_map (id_at id.file) (position (λ (t : TypeRow). holds t.first_method t.method_count id.row) p.0.types)) owner p.2 in
      let f = some_map (whole files id.file) (slice_get files id.file) p.0 (sym (file_there files id.file) ∙ p.1) in
      let r = some_map (rows.method_row f.0 (native files id.file) id.row) (slice_get (rows_of f.0.metadata methods) id.row) y.0 (sym (from_zero (rows.method_row f.0 (native files id.file)) id.row (rows_of f.0.metadata methods)) ∙ (ap (λ (q : Assembly). slice_get q.methods id.row) f.2 ∙ y.1)) in
      record { file = f.0; row = r.0; is_file = f.1; is_row = r.1 }

  code_here : (id : Id) (r : Row id) (b : BodyPart) → body_of r.file r.row ≡ Some b → x.code id ≡ Some (code_with size ps id.file (raw_code r.file.metadata b))
  code_here id r b e =
      ap (λ o. on_some o (λ (p : Assembly). on_some (slice_get p.methods id.row) (λ (y : MethodRow). option_map (code_with size ps id.file) y.code))) (file_at files id.file r.file r.is_file)
      ∙ (ap (λ o. on_some o (λ (y : MethodRow). option_map (code_with size ps id.file) y.code)) (from_zero (rows.method_row r.file (native files id.file)) id.row (rows_of r.file.metadata methods) ∙ ap (option_map (rows.method_row r.file (native files id.file) id.row)) r.is_row)
      ∙ ap (option_map (code_with size ps id.file)) (by (is_internal r.row) ∙ ap (option_map (raw_code r.file.metadata)) e))
    where
      by : (c : Bool) → (if c then None else option_map (raw_code r.file.metadata) (body_part r.file (slice_index r.row 0))) ≡ option_map (raw_code r.file.metadata) (if c then None else body_part r.file (slice_index r.row 0))
      by true = refl
      by false = refl

  -- ---- the locals

  is_token : (id : Id) (r : Row id) (b : BodyPart) → body_of r.file r.row ≡ Some b → is_locals_token r.file.metadata b.locals_token ≡ true
  unfolding body_part
  is_token id r b e = by_internal (is_internal r.row) e
    where
      m : MetadataPart
      m = r.file.metadata

      rva : ℕ
      rva = slice_index r.row 0

      sound : (bytes : List ℕ) → body_in m rva bytes ≡ Some b → is_locals_token m b.locals_token ≡ true
      sound bytes h =
          let a = some_inv (body_at bytes) (if_sound m rva bytes) b h in
          let c = if_kept (is_aligned rva bytes && is_locals_token m a.0.locals_token) a.0 b a.2 in
          subst (λ (z : BodyPart). is_locals_token m z.locals_token ≡ true) c.1 (and_parts (is_aligned rva bytes) (is_locals_token m a.0.locals_token) c.0).1

      by_rva : (c : Bool) → (if c then None else on_some (tail r.file.pe rva) (body_in m rva)) ≡ Some b → is_locals_token m b.locals_token ≡ true
      by_rva true h = absurd (cc h)
      by_rva false h = let t = some_inv (tail r.file.pe rva) (body_in m rva) b h in sound t.0 t.2

      by_internal : (c : Bool) → (if c then None else body_part r.file rva) ≡ Some b → is_locals_token m b.locals_token ≡ true
      by_internal true h = absurd (cc h)
      by_internal false h = by_rva (rva == 0) h

  module _ (in_members : phase_fault (member_rules w) files ≡ None) where
    -- a signature of locals is a row, and its types fit
    row_locals : (file : ℕ) (y : FilePart) (n : ℕ) → slice_get files file ≡ Some y → n < row_count y.metadata locals_signatures → list_all (sig_fits cs) (filter_map (expanded size ps file) (locals_signature y.metadata (bytes_at y.metadata (column_of y.metadata locals_signatures (suc n) 0)))) ≡ true
    row_locals file y n at below =
        let m = y.metadata in
        let r = get_there (rows_of m locals_signatures) n below in
        let kept = row_kept (member_rules w) files in_members file y at 3 (record { table = locals_signatures; tests = locals_tests w file m }) n r.0 refl r.1 in
        let none = none_wrong 27 (locals_wrong w file m (bytes_at m (slice_index r.0 0))) (tests_kept file locals_signatures (suc n) (locals_tests w file m n r.0) 0 kept) in
        let column : column_of m locals_signatures (suc n) 0 ≡ slice_index r.0 0 = ap (λ z. slice_index z 0) (get_or_from_slice_get (rows_of m locals_signatures) n r.0 [] r.1) in
        ap (λ z. list_all (sig_fits cs) (filter_map (expanded size ps file) (locals_signature m (bytes_at m z)))) column ∙ locals_fit files file m (bytes_at m (slice_index r.0 0)) none

    locals_well : (id : Id) (r : Row id) (token : ℕ) → is_locals_token r.file.metadata token ≡ true → list_all (sig_fits cs) (filter_map (expanded size ps id.file) (locals_of r.file.metadata token)) ≡ true
    locals_well id r token e = by (token == 0) e
      where
        m : MetadataPart
        m = r.file.metadata

        number : ℕ
        number = number_of token

        of_row : ((table_of token == locals_signatures) && nat_le 1 number && nat_le number (row_count m locals_signatures)) ≡ true → list_all (sig_fits cs) (filter_map (expanded size ps id.file) (locals_signature m (bytes_at m (column_of m locals_signatures number 0)))) ≡ true
        of_row h =
            let first = and_parts ((table_of token == locals_signatures) && nat_le 1 number) (nat_le number (row_count m locals_signatures)) h in
            let low = leb-true 1 number (and_parts (table_of token == locals_signatures) (nat_le 1 number) first.0).1 in
            let high = leb-true number (row_count m locals_signatures) first.1 in
            let same : suc (number - 1) ≡ number = omega (arith, low) in
            subst (λ k. list_all (sig_fits cs) (filter_map (expanded size ps id.file) (locals_signature m (bytes_at m (column_of m locals_signatures k 0)))) ≡ true) same
            (row_locals id.file r.file (number - 1) r.is_file (omega (arith, low, high)))

        by : (c : Bool) → (c || ((table_of token == locals_signatures) && nat_le 1 number && nat_le number (row_count m locals_signatures))) ≡ true → list_all (sig_fits cs) (filter_map (expanded size ps id.file) (if c then [] else locals_signature m (bytes_at m (column_of m locals_signatures number 0)))) ≡ true
        by true h = refl
        by false h = of_row h

    module _ (in_code : phase_fault (code_rules w) files ≡ None) where
      -- the tests of a method's code
      code_kept : (id : Id) (m : Method) (r : Row id) → method x id ≡ Some m → m.body ≡ Code → first_fault id.file methods (suc id.row) (body_tests w id.file r.file m (body_of r.file r.row)) ≡ None
      code_kept id m r there is =
          let kept = row_kept (code_rules w) files in_code id.file r.file r.is_file 0 (record { table = methods; tests = code_tests w id.file r.file }) id.row r.row refl r.is_row in
          let mine = subst (λ o. first_fault id.file methods (suc id.row) (method_tests w id.file r.file r.row (or_else o (unowned w id.file r.file id.row))) ≡ None) there kept in
          subst (λ b. first_fault id.file methods (suc id.row) (if is_code b then body_tests w id.file r.file m (body_of r.file r.row) else []) ≡ None) is mine

      of_body : (id : Id) (m : Method) (r : Row id) (o : Option BodyPart) → body_of r.file r.row ≡ o → first_fault id.file methods (suc id.row) (body_tests w id.file r.file m o) ≡ None → (code : MethodCode) × (x.code id ≡ Some code) × (code_fits x (exception_of w) m code ≡ true)
      of_body id m r None e kept = absurd (cc kept)
      of_body id m r (Some b) e kept = (code, code_here id r b e, fits)
        where
          k : MetadataPart
          k = r.file.metadata

          code : MethodCode
          code = code_with size ps id.file (raw_code k b)

          steps : List Step
          steps = steps_of x exception m code

          first : ((walk_test (code_fault b.code)).is_kept ≡ true) × (first_fault id.file methods (suc id.row) (listed_tests w m code) ≡ None)
          first = head_kept id.file methods (suc id.row) (walk_test (code_fault b.code)) (listed_tests w m code) kept

          walked : code_fault b.code ≡ None
          walked = no_walk_fault (code_fault b.code) first.0

          second : (first_fault id.file methods (suc id.row) (map (target_test w code steps) code.lines) ≡ None) × (first_fault id.file methods (suc id.row) (numbered (clause_test w steps code.clauses) 0 code.clauses ++ pass_test (passed x (lattice_of x) exception m code) ∷ []) ≡ None)
          second = both_kept id.file methods (suc id.row) (map (target_test w code steps) code.lines) _ first.1

          third : (first_fault id.file methods (suc id.row) (numbered (clause_test w steps code.clauses) 0 code.clauses) ≡ None) × (first_fault id.file methods (suc id.row) (pass_test (passed x (lattice_of x) exception m code) ∷ []) ≡ None)
          third = both_kept id.file methods (suc id.row) (numbered (clause_test w steps code.clauses) 0 code.clauses) _ second.1

          pass : is_ok (passed x (lattice_of x) exception m code) ≡ true
          pass = passes (passed x (lattice_of x) exception m code) (head_kept id.file methods (suc id.row) (pass_test (passed x (lattice_of x) exception m code)) [] third.1).0

          clause : (i : ℕ) (c : CodeClause) → slice_get code.clauses i ≡ Some c → clause_well w steps (take i code.clauses) c ≡ true
          clause i c at = numbered_kept id.file methods (suc id.row) (clause_test w steps code.clauses) code.clauses i c third.0 at

          caught : (i : ℕ) (c : CodeClause) → slice_get code.clauses i ≡ Some c → catches_well cs (exception_of w) c.kind ≡ true
          caught i c at = (and_parts (catches_well cs (exception_of w) c.kind) _ (clause i c at)).0

          starts : (i : ℕ) (c : CodeClause) → slice_get code.clauses i ≡ Some c → on_starts steps c ≡ true
          starts i c at = (and_parts (on_starts steps c) _ (and_parts (catches_well cs (exception_of w) c.kind) _ (clause i c at)).1).0

          lies : (i : ℕ) (c : CodeClause) → slice_get code.clauses i ≡ Some c → (is_proper c && list_all (λ b. lies_well b c) (take i code.clauses)) ≡ true
          lies i c at = (and_parts (on_starts steps c) _ (and_parts (catches_well cs (exception_of w) c.kind) _ (clause i c at)).1).1

          well : lie_well code.clauses ≡ true
          well =
              lie code.clauses (λ i c at. (and_parts (is_proper c) _ (lies i c at)).0)
              (λ i j b c below at there. all_at (λ b. lies_well b c) (take j code.clauses) i b (and_parts (is_proper c) _ (lies j c there)).1 (take_get j code.clauses i b below at))

          fits : code_fits x (exception_of w) m code ≡ true
          fits =
              and_from _ _ (locals_well id r b.locals_token (is_token id r b e))
              (and_from _ _ (lines_rise_here size ps id.file k b.code)
              (and_from _ _ (some_line_here size ps id.file k b.code walked)
              (and_from _ _ (closed_here size ps id.file k b.code x exception m code walked)
              (and_from _ _ (map_kept id.file methods (suc id.row) (target_test w code steps) code.lines second.0)
              (and_from _ _ well
              (and_from _ _ (all_by (on_starts steps) code.clauses starts)
              (and_from _ _ (all_by (λ c. catches_well cs (exception_of w) c.kind) code.clauses caught) pass)))))))

      pub codes_fit : (b : IsBase cs) → CodesFit x b.exception
      codes_fit b id m there is =
          let exception_is : exception_of w ≡ b.exception = ap (λ o. unwrap_or o (id_at 0 0)) b.exception_is in
          let owner = some_inv (method_owner ps id) (λ owner. on_some (method_at cs id) (λ own. option_map (λ s. method_with cs owner own s (unwrap_or (x.code id) no_code)) own.signature)) m there in
          let r = row_of id owner.0 owner.1 in
          let c = of_body id m r (body_of r.file r.row) refl (code_kept id m r there is) in
          (c.0, c.1, subst (λ z. code_fits x z m c.0 ≡ true) exception_is c.2)
