-- The code of an accepted file: the types of locals, the classes of catches and the operands of all instructions resolve.
use Rattle.std.proofs.Common.{◌≡◌, ℕ, zero, suc, ◌+◌, Bool, true, false, cond, List, [], ◌∷◌, ◌++◌, map, Option, Some, None, refl, sym, ap, ◌∙◌, subst}
use Rattle.std.specs.Prelude.{◌==◌, if◌then◌else◌, slice_get, slice_index, unwrap_or, Result, Ok, Err}
use Rattle.std.specs.List.{find, filter_map, cons_option}
use Rattle.std.specs.Option.{option_map}
use Rattle.std.proofs.lemmas.Bool.{and_parts}
use Rattle.std.proofs.lemmas.Option.{slice_get-map}
use Rattle.cil_opcodes.specs.declared.shape.Row.{Row}
use Rattle.cil_opcodes.specs.Rows.{row_of}
use Rattle.cil_code.specs.Bodies.{BodyPart}
use Rattle.cil_code.specs.Walk.{Placed, instructions_of, code_fault}
use Rattle.file_tables.specs.Metadata.{MetadataPart, rows_of}
use Rattle.file_tables.specs.File.{FilePart}
use Rattle.machine.specs.Data.{Id, CliType, ClassOf, id_eq}
use Rattle.machine.specs.Program.{Method, Code, Missing}
use Rattle.machine.specs.Throw.{on_some}
use Rattle.machine_typed.proofs.Types.{id_same}
use Rattle.machine_typed.specs.Typing.{StackType}
use Rattle.classes.specs.Classes.{Classes, Signature, OwnMethod}
use Rattle.classes.specs.Code.{CodeLine, CatchOf, MethodCode, Sources}
use Rattle.classes.specs.Listed.{method, method_with, no_code, instruction_of}
use Rattle.classes.specs.Queries.{or_else, methods_of, method_at}
use Rattle.class_rules.specs.Rules.{signature_fits}
use Rattle.class_rules.proofs.Kept.{holds_inv}
use Rattle.class_rules.proofs.Slots.{found}
use Rattle.assemblies.specs.Rows.{RawKind, RawCatch, RawFinally, RawOther, RawClause, RawLine, RawCode, MethodRow, Assembly}
use Rattle.assemblies.specs.Binding.{id_at, numbered, resolve, operand, kind_with, clause_with, line_with, code_with, own_method, method_owner, expanded_signature}
use Rattle.assemblies.proofs.Binds.{on_some_back, map_back}
use Rattle.assemblies.proofs.Belong.{Listed, listed}
use Rattle.kept_closure.specs.Named.{Stands, InOption, InKind, InClause, InLine, InCode}
use Rattle.kept_closure.specs.Kept.{NamesClass, NamesMethod}
use Rattle.world_rows.specs.Tokens.{methods}
use Rattle.world_rows.specs.Rows.{is_internal, method_row}
use Rattle.world_rows.specs.Lines.{is_locals_token, line_by, raw_line, lines_of, body_part, raw_code}
use Rattle.world_rows.specs.World.{size_of, rows_alone, assemblies_of, ecma_sources}
use Rattle.code_rules.specs.Pass.{Lattice, Entry, Step, After, visit, fallen, if_sound, pass}
use Rattle.code_rules.specs.Verdict.{operand_fits, step_of, steps_from, passed}
use Rattle.code_rules.specs.Judgement.{lattice_of, catches_well, steps_of}
use Rattle.code_rules.proofs.StepLaws.{unbroken}
use Rattle.verdict_rules.specs.Order.{Test, fault_of, first_fault, phase_fault}
use Rattle.verdict_rules.specs.World.{World, world_of, exception_of, no_type}
use Rattle.verdict_rules.specs.Code.{unowned, method_here, walk_test, target_test, clause_test, pass_test, listed_tests, body_of, body_tests, is_code, method_tests, code_tests, code_rules}
use Rattle.verdict_rules.specs.Verdict.{member_rules}
use Rattle.verdict_laws.proofs.Kept.{head_kept, row_kept}
use Rattle.verdict_laws.proofs.Rows.{native, from_zero, whole, file_at}
use Rattle.rows_resolved.proofs.Named.{each_by}
use Rattle.rows_resolved.proofs.Choice.{NamesType, NamesVariable}
use Rattle.rows_resolved.proofs.Members.{OfMethod, method_of, signature_told}
use Rattle.rows_resolved.proofs.Operands.{table_takes, operand_means}
use Rattle.rows_resolved.proofs.Locals.{body_sound, locals_mean}

-- ---- lists of tests of which none fails

module _ (f t r : ℕ) where
  pub both_kept : (xs ys : List Test) → first_fault f t r (xs ++ ys) ≡ None → (first_fault f t r xs ≡ None) × (first_fault f t r ys ≡ None)
  both_kept [] ys e = (refl, e)
  both_kept (x ∷ xs) ys e =
      let h = head_kept f t r x (xs ++ ys) e in
      let rest = both_kept xs ys h.1 in
      (ap (λ b. cond b (first_fault f t r xs) (Some (fault_of f t r x))) h.0 ∙ rest.0, rest.1)

  each_test : (xs : List Test) (i : ℕ) (x : Test) → first_fault f t r xs ≡ None → slice_get xs i ≡ Some x → x.is_kept ≡ true
  each_test [] i x e at = absurd (cc at)
  each_test (y ∷ ys) zero x e at = let same : y ≡ x = cc at in subst (λ (z : Test). z.is_kept ≡ true) same (head_kept f t r y ys e).0
  each_test (y ∷ ys) (suc i) x e at = each_test ys i x (head_kept f t r y ys e).1 at

-- ---- the pass goes over all instructions, reached or not

nil_left : {A : Type 0} (xs ys : List A) → xs ++ ys ≡ [] → xs ≡ []
nil_left [] ys e = refl
nil_left (x ∷ xs) ys e = absurd (cc e)

nil_right : {A : Type 0} (xs ys : List A) → xs ++ ys ≡ [] → ys ≡ []
nil_right [] ys e = e
nil_right (x ∷ xs) ys e = absurd (cc e)

module _ (l : Lattice) where
  if_inv : (at : ℕ) (b : List ℕ) (x : Result (List Entry) (ℕ × List ℕ)) (out : List Entry) → if_sound at b x ≡ Ok out → (b ≡ []) × (x ≡ Ok out)
  if_inv at [] x out e = (refl, e)
  if_inv at (r ∷ rs) x out e = absurd (cc e)

  pass_unbroken : (steps : List Step) (table : List Entry) (falling : Option (List StackType)) (out : List Entry) → pass l steps table falling ≡ Ok out → (n : ℕ) (s : Step) → slice_get steps n ≡ Some s → s.broken ≡ []
  pass_unbroken [] table falling out e n s at = absurd (cc at)
  pass_unbroken (y ∷ ys) table falling out e zero s at =
      let a : After = visit l y table falling in
      let inv = if_inv y.at a.broken (pass l ys a.table a.falling) out e in
      let same : y ≡ s = cc at in
      subst (λ (z : Step). z.broken ≡ []) same (nil_left y.broken _ (nil_right (fallen y falling) _ inv.0))
  pass_unbroken (y ∷ ys) table falling out e (suc n) s at =
      let a : After = visit l y table falling in
      let inv = if_inv y.at a.broken (pass l ys a.table a.falling) out e in
      pass_unbroken ys a.table a.falling out inv.1 n s at

step_there : (x : Sources) (exception : CliType) (m : Method) (code : MethodCode) (before : Option ℕ) (ls : List CodeLine) (n : ℕ) (line : CodeLine) → slice_get ls n ≡ Some line → (b : Option ℕ) × (slice_get (steps_from x exception m code before ls) n ≡ Some (step_of x exception m code b line))
step_there x exception m code before [] n line e = absurd (cc e)
step_there x exception m code before (y ∷ ls) zero line e = let same : y ≡ line = cc e in (before, ap (λ z. Some (step_of x exception m code before z)) same)
step_there x exception m code before (y ∷ ls) (suc n) line e = step_there x exception m code (Some y.at) ls n line e

passes : (r : Result (List Entry) (ℕ × List ℕ)) → (pass_test r).is_kept ≡ true → (table : List Entry) × (r ≡ Ok table)
passes (Ok table) e = (table, refl)
passes (Err broken) e = absurd (cc e)

-- ---- what is left of a list

mapped_from : {A B : Type 0} (g : A → Option B) (xs : List A) (i : ℕ) (y : B) → slice_get (filter_map g xs) i ≡ Some y → (x : A) × (g x ≡ Some y)
mapped_from g [] i y e = absurd (cc e)
mapped_from {A} {B} g (x ∷ xs) i y e = by (g x) refl i e (λ i h. mapped_from g xs i y h)
  where
    by : (o : Option B) → g x ≡ o → (i : ℕ) → slice_get (cons_option o (filter_map g xs)) i ≡ Some y → ((i : ℕ) → slice_get (filter_map g xs) i ≡ Some y → (x : A) × (g x ≡ Some y)) → (x : A) × (g x ≡ Some y)
    by None k i h rest = rest i h
    by (Some z) k zero h rest = (x, k ∙ h)
    by (Some z) k (suc i) h rest = rest i h

module _ (files : List FilePart) where
  abbrev w : World
  w = world_of files

  abbrev size : ℕ
  size = size_of (rows_alone files)

  abbrev ps : List Assembly
  ps = assemblies_of files

  abbrev x : Sources
  x = ecma_sources files

  abbrev cs : Classes
  cs = (ecma_sources files).classes

  abbrev exception : CliType
  exception = ClassOf (exception_of (world_of files))

  -- what is kept of the body of a row: all tests of it, and of each line that its operand is of the kind that its shape takes
  pub record BodyKept (f n : ℕ) (z : FilePart) (b : BodyPart) : Type 0 where
    pub method : Method
    pub tests : first_fault f methods (suc n) (body_tests (world_of files) f z method (Some b)) ≡ None
    pub fit : (i : ℕ) (l : RawLine) → slice_get (lines_of z.metadata b.code) i ≡ Some l → operand_fits (ecma_sources files).classes l.shape (operand (size_of (rows_alone files)) (assemblies_of files) f l.operand) ≡ true

  abbrev Meant : ℕ → RawCode → Type 0
  Meant f c = InCode (NamesClass size ps f) (NamesType size ps f) (NamesMethod size ps f) (NamesVariable size ps f) c

  kind_means : (f : ℕ) (k : RawKind) → catches_well cs (exception_of w) (kind_with size ps f k) ≡ true → InKind (NamesClass size ps f) k
  kind_means f (RawCatch t) e = by (resolve size ps f t) refl e
    where
      by : (o : Option Id) → resolve size ps f t ≡ o → catches_well cs (exception_of w) (CatchOf o) ≡ true → NamesClass size ps f t
      by None h k = absurd (cc k)
      by (Some c) h k = (c, h)
  kind_means f RawFinally e = tt
  kind_means f RawOther e = tt

  -- a method that a type has has its row's body
  owned_body : (f n : ℕ) (p : Assembly) (m : MethodRow) (own : OwnMethod) → slice_get ps f ≡ Some p → slice_get p.methods n ≡ Some m → method_at cs (id_at f n) ≡ Some own → own.body ≡ m.body
  owned_body f n p m own at row e =
      let c = on_some_back (method_owner ps (id_at f n)) (λ c. find (λ (z : OwnMethod). id_eq z.id (id_at f n)) (methods_of cs c)) own e in
      let i = found (λ (z : OwnMethod). id_eq z.id (id_at f n)) (methods_of cs c.0) own c.2 in
      let l : Listed size ps c.0 i.0 own = listed size ps c.0 i.0 own i.1 in
      let id : id_at c.0.file (l.type.first_method + i.0) ≡ id_at f n = ap (λ (z : OwnMethod). z.id) l.is ∙ id_same own.id (id_at f n) i.2 in
      let file : c.0.file ≡ f = ap (λ (z : Id). z.file) id in
      let number : l.type.first_method + i.0 ≡ n = ap (λ (z : Id). z.row) id in
      let assemblies : Some l.assembly ≡ Some p = sym l.is_assembly ∙ (ap (slice_get ps) file ∙ at) in
      let assembly : l.assembly ≡ p = cc assemblies in
      let methods : Some l.row ≡ Some m = sym l.is_row ∙ (ap (λ (q : Assembly). slice_get q.methods (l.type.first_method + i.0)) assembly ∙ (ap (slice_get p.methods) number ∙ row)) in
      let method : l.row ≡ m = cc methods in
      ap (λ (z : OwnMethod). z.body) (sym l.is) ∙ ap (λ (z : MethodRow). z.body) method

  module _ (in_members : phase_fault (member_rules w) files ≡ None) (in_code : phase_fault (code_rules w) files ≡ None) where
    -- the method as the machine has it
    here : (f n : ℕ) (p : Assembly) (m : MethodRow) → Stands ps (λ q. q.methods) f n p m → (r : OfMethod files f n m) → m.body ≡ Code → (me : Method) × (method_here w f r.file n ≡ Some me) × (me.body ≡ Code)
    here f n p m s r is = by (method x (id_at f n)) refl
      where
        signed : (z : Signature) × (expanded_signature size ps f m.signature ≡ Some z)
        signed = let t = holds_inv (expanded_signature size ps f m.signature) (signature_fits cs (id_at f n)) (signature_told files in_members f n m r) in (t.0, t.1)

        make : OwnMethod → Option Method
        make own = option_map (λ z. method_with cs (no_type f r.file) own z (unwrap_or (x.code (id_at f n)) no_code)) own.signature

        without : unowned w f r.file n ≡ Some (method_with cs (no_type f r.file) (own_method size ps f n m) signed.0 (unwrap_or (x.code (id_at f n)) no_code))
        without =
            ap (λ o. on_some (on_some o (λ (q : Assembly). option_map (own_method size ps f n) (slice_get q.methods n))) make) s.0
            ∙ (ap (λ o. on_some (option_map (own_method size ps f n) o) make) s.1
            ∙ ap (option_map (λ z. method_with cs (no_type f r.file) (own_method size ps f n m) z (unwrap_or (x.code (id_at f n)) no_code))) signed.1)

        by : (o : Option Method) → method x (id_at f n) ≡ o → (me : Method) × (or_else o (unowned w f r.file n) ≡ Some me) × (me.body ≡ Code)
        by None e = (method_with cs (no_type f r.file) (own_method size ps f n m) signed.0 (unwrap_or (x.code (id_at f n)) no_code), without, is)
        by (Some me) e =
            let owner = on_some_back (method_owner ps (id_at f n)) (λ owner. on_some (method_at cs (id_at f n)) (λ own. option_map (λ z. method_with cs owner own z (unwrap_or (x.code (id_at f n)) no_code)) own.signature)) me e in
            let own = on_some_back (method_at cs (id_at f n)) (λ own. option_map (λ z. method_with cs owner.0 own z (unwrap_or (x.code (id_at f n)) no_code)) own.signature) me owner.2 in
            let z = map_back (λ z. method_with cs owner.0 own.0 z (unwrap_or (x.code (id_at f n)) no_code)) own.0.signature me own.2 in
            (me, refl, ap (λ (k : Method). k.body) (sym z.2) ∙ (owned_body f n p m own.0 s.0 s.1 own.1 ∙ is))

    module _ (f n : ℕ) (p : Assembly) (m : MethodRow) (s : Stands ps (λ q. q.methods) f n p m) (r : OfMethod files f n m) (b : BodyPart) (plain : is_internal r.row ≡ false) (body : body_part r.file (slice_index r.row 0) ≡ Some b) where
      abbrev k : MetadataPart
      k = r.file.metadata

      abbrev raw : RawCode
      raw = raw_code r.file.metadata b

      abbrev code : MethodCode
      code = code_with size ps f (raw_code r.file.metadata b)

      sound : (slice_index r.row 0 == 0 ≡ false) × (is_locals_token r.file.metadata b.locals_token ≡ true)
      sound = body_sound r.file (slice_index r.row 0) b body

      coded : m.body ≡ Code
      coded =
          ap (λ (z : MethodRow). z.body) (sym r.is)
          ∙ (ap (λ c. if c then native files f n else if slice_index r.row 0 == 0 then Missing else Code) plain
          ∙ ap (λ c. if c then Missing else Code) sound.0)

      mine : (me : Method) × (method_here w f r.file n ≡ Some me) × (me.body ≡ Code)
      mine = here f n p m s r coded

      kept : first_fault f methods (suc n) (body_tests w f r.file mine.0 (Some b)) ≡ None
      kept =
          let all = row_kept (code_rules w) files in_code f r.file r.is_file 0 (record { table = methods; tests = code_tests w f r.file }) n r.row refl r.is_row in
          let his = subst (λ o. first_fault f methods (suc n) (method_tests w f r.file r.row o) ≡ None) mine.1 all in
          let tests = subst (λ c. first_fault f methods (suc n) (if is_code c then body_tests w f r.file mine.0 (body_of r.file r.row) else []) ≡ None) mine.2 his in
          let part : body_of r.file r.row ≡ Some b = ap (λ (c : Bool). if c then None else body_part r.file (slice_index r.row 0)) plain ∙ body in
          subst (λ o. first_fault f methods (suc n) (body_tests w f r.file mine.0 o) ≡ None) part tests

      steps : List Step
      steps = steps_of x exception mine.0 code

      first : first_fault f methods (suc n) (listed_tests w mine.0 code) ≡ None
      first = (head_kept f methods (suc n) (walk_test (code_fault b.code)) (listed_tests w mine.0 code) kept).1

      second : first_fault f methods (suc n) (numbered (clause_test w (steps_of x exception mine.0 code) code.clauses) 0 code.clauses ++ pass_test (passed x (lattice_of x) exception mine.0 code) ∷ []) ≡ None
      second = (both_kept f methods (suc n) (map (target_test w code (steps_of x exception mine.0 code)) code.lines) _ first).1

      third : (first_fault f methods (suc n) (numbered (clause_test w (steps_of x exception mine.0 code) code.clauses) 0 code.clauses) ≡ None) × (first_fault f methods (suc n) (pass_test (passed x (lattice_of x) exception mine.0 code) ∷ []) ≡ None)
      third = both_kept f methods (suc n) (numbered (clause_test w (steps_of x exception mine.0 code) code.clauses) 0 code.clauses) _ second

      accepted : (table : List Entry) × (passed x (lattice_of x) exception mine.0 code ≡ Ok table)
      accepted = passes (passed x (lattice_of x) exception mine.0 code) (head_kept f methods (suc n) (pass_test (passed x (lattice_of x) exception mine.0 code)) [] third.1).0

      clause_means : (i : ℕ) (c : RawClause) → slice_get raw.clauses i ≡ Some c → InClause (NamesClass size ps f) c
      clause_means i c e =
          let at : slice_get code.clauses i ≡ Some (clause_with size ps f c) = slice_get-map (clause_with size ps f) raw.clauses i ∙ ap (option_map (clause_with size ps f)) e in
          let well = each_test f methods (suc n) (numbered (clause_test w (steps_of x exception mine.0 code) code.clauses) 0 code.clauses) i (clause_test w (steps_of x exception mine.0 code) code.clauses i (clause_with size ps f c)) third.0 (from_zero (clause_test w (steps_of x exception mine.0 code) code.clauses) i code.clauses ∙ ap (option_map (clause_test w (steps_of x exception mine.0 code) code.clauses i)) at) in
          kind_means f c.kind (and_parts (catches_well cs (exception_of w) (kind_with size ps f c.kind)) _ well).0

      fits : (i : ℕ) (l : RawLine) → slice_get raw.lines i ≡ Some l → operand_fits cs l.shape (operand size ps f l.operand) ≡ true
      fits i l e =
          let at : slice_get code.lines i ≡ Some (line_with size ps f l) = slice_get-map (line_with size ps f) raw.lines i ∙ ap (option_map (line_with size ps f)) e in
          let step = step_there x exception mine.0 code None code.lines i (line_with size ps f l) at in
          let none = pass_unbroken (lattice_of x) (steps_of x exception mine.0 code) [] (Some []) accepted.0 accepted.1 i (step_of x exception mine.0 code step.0 (line_with size ps f l)) step.1 in
          (unbroken x exception mine.0 code step.0 (line_with size ps f l) (instruction_of cs code l.at l.shape (operand size ps f l.operand)) none).operand

      line_made : (i : ℕ) (l : RawLine) → slice_get (lines_of k b.code) i ≡ Some l → (z : Placed) × ((row : Row) × ((row_of z.instr.op ≡ Some row) × (line_by k b.code z row ≡ l)))
      unfolding lines_of
      line_made i l e =
          let z = mapped_from (raw_line k b.code) (instructions_of b.code) i l e in
          let row = map_back (line_by k b.code z.0) (row_of z.0.instr.op) l z.1 in
          (z.0, (row.0, (row.1, row.2)))

      line_means : (i : ℕ) (l : RawLine) → slice_get raw.lines i ≡ Some l → InLine (NamesType size ps f) (NamesMethod size ps f) (NamesVariable size ps f) l
      line_means i l e =
          let z = line_made i l e in
          let row = z.1.0 in
          let asked : operand_fits cs row.shape (operand size ps f (line_by k b.code z.0 row).operand) ≡ true = ap (λ (y : RawLine). operand_fits cs y.shape (operand size ps f y.operand)) z.1.1.1 ∙ fits i l e in
          subst (InLine (NamesType size ps f) (NamesMethod size ps f) (NamesVariable size ps f)) z.1.1.1
          (operand_means size ps f k b.code z.0.at (z.0.at + z.0.instr.length) z.0.instr.operand row.shape row.operand (table_takes z.0.instr.op row z.1.1.0) asked)

      body_means : Meant f raw
      body_means =
          (locals_mean files f r.file r.is_file in_members b.locals_token sound.1, each_by (InClause (NamesClass size ps f)) raw.clauses clause_means, each_by (InLine (NamesType size ps f) (NamesMethod size ps f) (NamesVariable size ps f)) raw.lines line_means)

    pub codes_mean : (f n : ℕ) (p : Assembly) (m : MethodRow) → Stands ps (λ q. q.methods) f n p m → InOption (Meant f) m.code
    codes_mean f n p m s = subst (λ (z : MethodRow). InOption (Meant f) z.code) r.is (by_internal (is_internal r.row) refl)
      where
        r : OfMethod files f n m
        r = method_of files f n p m s

        by_body : is_internal r.row ≡ false → (o : Option BodyPart) → body_part r.file (slice_index r.row 0) ≡ o → InOption (Meant f) (option_map (raw_code r.file.metadata) o)
        by_body plain None e = tt
        by_body plain (Some b) e = body_means f n p m s r b plain e

        by_internal : (c : Bool) → is_internal r.row ≡ c → InOption (Meant f) (if c then None else option_map (raw_code r.file.metadata) (body_part r.file (slice_index r.row 0)))
        by_internal true e = tt
        by_internal false e = by_body e (body_part r.file (slice_index r.row 0)) refl

    -- a body that a row has
    part_of : (z : FilePart) (row : List ℕ) (b : BodyPart) → body_of z row ≡ Some b → (is_internal row ≡ false) × (body_part z (slice_index row 0) ≡ Some b)
    part_of z row b = by (is_internal row) refl
      where
        by : (c : Bool) → is_internal row ≡ c → (if c then None else body_part z (slice_index row 0)) ≡ Some b → (is_internal row ≡ false) × (body_part z (slice_index row 0) ≡ Some b)
        by true e h = absurd (cc h)
        by false e h = (e, h)

    pub body_kept : (f n : ℕ) (z : FilePart) (row : List ℕ) (b : BodyPart) → slice_get files f ≡ Some z → slice_get (rows_of z.metadata methods) n ≡ Some row → body_of z row ≡ Some b → BodyKept f n z b
    body_kept f n z row b at here is =
        let part = part_of z row b is in
        let m : MethodRow = method_row z (native files f) n row in
        let r : OfMethod files f n m = record { file = z; row = row; is_file = at; is_row = here; is = refl } in
        let s : Stands ps (λ q. q.methods) f n (whole files f z) m =
        (file_at files f z at, from_zero (method_row z (native files f)) n (rows_of z.metadata methods) ∙ ap (option_map (method_row z (native files f) n)) here) in
        record {
          method = (mine f n (whole files f z) m s r b part.0 part.1).0;
          tests = kept f n (whole files f z) m s r b part.0 part.1;
          fit = fits f n (whole files f z) m s r b part.0 part.1;
        }
