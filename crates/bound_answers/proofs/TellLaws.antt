-- What is told of a set is its program's.
use Rattle.std.proofs.Common.{◌≡◌, ℕ, zero, suc, ◌<◌, ◌≤◌, ◌^◌, ◌&&◌, ◌||◌, Bool, true, false, not, ◌==◌, List, [], ◌∷◌, map, length, take, Option, Some, None, refl, sym, ap, ◌∙◌, subst, arith, inl, inr}
use Rattle.std.specs.Prelude.{cond, slice_get, unwrap_or, nat_eq, nat_lt, IsSome}
use Rattle.std.specs.List.{list_all, list_any, position, position_or_len}
use Rattle.std.specs.Option.{option_map}
use Rattle.std.proofs.lemmas.Bool.{cases_lt, eq-eqb, ne_eqb, ltb-true}
use Rattle.std.proofs.lemmas.Option.{slice_get-map}
use Rattle.std.proofs.lemmas.List.{length-map}
use Rattle.board_types.specs.declared.board.TypeAt.{TypeAt}
use Rattle.board_types.specs.declared.board.ClauseAt.{ClauseAt}
use Rattle.board_types.specs.declared.board.TheConstants.{NO_ROW}
use Rattle.board_ids.specs.Ids.{id_of, is_no_row}
use Rattle.board_model.specs.Bound.{bound_classes, bound_program}
use Rattle.machine.specs.Data.{Id}
use Rattle.machine.specs.Program.{Method}
use Rattle.machine.specs.Throw.{on_some}
use Rattle.classes.specs.Classes.{OwnMethod, Signature}
use Rattle.classes.specs.Code.{CodeClause, CatchOf, MethodCode}
use Rattle.classes.specs.Queries.{is_sub, method_at}
use Rattle.classes.specs.Listed.{in_try, clause_of, clause_kind, method_with, no_code}
use Rattle.assemblies.specs.Rows.{Assembly, TypeToken, TypeDef, TypeRef, TypeSpec, TypeRow, TypeRefRow, OfAssembly, Inside, Nowhere, Scope, RawKind, RawCatch, RawFinally, RawOther, RawClause, RawCode, MethodRow}
use Rattle.assemblies.specs.Binding.{id_at, assembly_of, is_type, type_in, in_scope, resolve_ref, resolve, class_with, code_of, code_with, clause_with, kind_with}
use Rattle.assemblies.proofs.Back.{get_there, get_within}
use Rattle.world_rows.specs.World.{size_of}
use Rattle.image_form.specs.Form.{clauses_in, is_catch, is_known_kind}
use Rattle.memory_states.specs.Told.{told}
use Rattle.memory_states.specs.Told as board
use Rattle.memory_states.specs.States.{KindIs, ClausesAre, Tells}
use Rattle.tiny_rows.proofs.Parts.{some_back, map_back}
use Rattle.tiny_clauses.specs.Clauses.{clauses_at, IsKnown}
use Rattle.bound_answers.specs.Told.{NO_TYPE, sub, type_at, kind_number, class_taken, clause_told, clauses}
use Rattle.bound_answers.specs.Standing.{IsThere, HasWords, AreImages, round_at, outer}

-- ---- what a token names is there

position_low : {A : Type 0} (test : A → Bool) (xs : List A) (n : ℕ) → position test xs ≡ Some n → n < length xs
position_low test xs n e = by (nat_lt (position_or_len test xs) (length xs)) refl e
  where
    by : (b : Bool) → nat_lt (position_or_len test xs) (length xs) ≡ b → cond b (Some (position_or_len test xs)) None ≡ Some n → n < length xs
    by true q e =
        let low = ltb-true (position_or_len test xs) (length xs) q in
        let same : position_or_len test xs ≡ n = cc e in
        omega (arith, low, same)
    by false q e = absurd (cc e)

module _ (ps : List Assembly) where
  pub record Row (c : Id) : Type 0 where
    pub of : Assembly
    pub at : slice_get ps c.file ≡ Some of
    pub row : TypeRow
    pub type : slice_get of.types c.row ≡ Some row

  in_type : (f : ℕ) (outer : Option ℕ) (r : TypeRefRow) (c : Id) → type_in ps f outer r ≡ Some c → Row c
  in_type f outer r c e =
      let p = some_back (slice_get ps f) (λ (p : Assembly). option_map (id_at f) (position (is_type outer r) p.types)) c e in
      let m = map_back (id_at f) (position (is_type outer r) p.0.types) c p.2 in
      let t = get_there p.0.types m.0 (position_low (is_type outer r) p.0.types m.0 m.1) in
      subst Row m.2 (record { of = p.0; at = p.1; row = t.0; type = t.1 })

  ref_row : (k f n : ℕ) (c : Id) → resolve_ref k ps f n ≡ Some c → Row c
  ref_row zero f n c e = cc e
  ref_row (suc k) f n c e =
      let p = some_back (slice_get ps f) (λ (p : Assembly). on_some (slice_get p.refs n) (λ r. in_scope ps f (resolve_ref k ps f) r r.scope)) c e in
      let r = some_back (slice_get p.0.refs n) (λ r. in_scope ps f (resolve_ref k ps f) r r.scope) c p.2 in
      by r.0 r.0.scope r.2
    where
      by : (r : TypeRefRow) (s : Scope) → in_scope ps f (resolve_ref k ps f) r s ≡ Some c → Row c
      by r (OfAssembly a) e = let g = some_back (assembly_of ps f a) (λ g. type_in ps g None r) c e in in_type g.0 None r c g.2
      by r (Inside m) e = let o = some_back (resolve_ref k ps f m) (λ (d : Id). type_in ps d.file (Some d.row) r) c e in in_type o.0.file (Some o.0.row) r c o.2
      by r Nowhere e = cc e

  pub token_row : (k f : ℕ) (t : TypeToken) (c : Id) → resolve k ps f t ≡ Some c → Row c
  token_row k f (TypeDef n) c e =
      let p = some_back (slice_get ps f) (λ (p : Assembly). option_map (λ (t : TypeRow). id_at f n) (slice_get p.types n)) c e in
      let m = map_back (λ (t : TypeRow). id_at f n) (slice_get p.0.types n) c p.2 in
      subst Row m.2 (record { of = p.0; at = p.1; row = m.0; type = m.1 })
  token_row k f (TypeRef n) c e = ref_row k f n c e
  token_row k f (TypeSpec n) c e = cc e

  pub row_there : (c : Id) → Row c → IsThere ps c
  row_there c r =
      subst IsSome (sym (ap (λ o. on_some o (λ (p : Assembly). option_map (class_with (size_of ps) ps c.file p) (slice_get p.types c.row))) r.at ∙ ap (option_map (class_with (size_of ps) ps c.file r.of)) r.type)) refl

-- ---- lists that are cut behind all of their things

take_all : {A : Type 0} (n : ℕ) (xs : List A) → length xs ≤ n → take n xs ≡ xs
take_all zero [] h = refl
take_all zero (x ∷ xs) h = absurd (omega (arith, h))
take_all (suc n) [] h = refl
take_all (suc n) (x ∷ xs) h = ap (λ ys. x ∷ ys) (take_all n xs (omega (arith, h)))

taken : {A : Type 0} (n k : ℕ) (xs : List A) (x : A) → slice_get (take n xs) k ≡ Some x → slice_get xs k ≡ Some x
taken zero k xs x e = cc e
taken (suc n) k [] x e = cc e
taken (suc n) zero (y ∷ xs) x e = e
taken (suc n) (suc k) (y ∷ xs) x e = taken n k xs x e

module _ (ps : List Assembly) (images : AreImages ps) where
  abbrev size : ℕ
  size = size_of ps

  -- the clauses of a method, and the machine's
  abbrev raw : ℕ → ℕ → List RawClause
  raw file row = unwrap_or (option_map (λ (p : Assembly). clauses_at p row) (slice_get ps file)) []

  abbrev code_at : Id → MethodCode
  code_at id = unwrap_or (code_of size ps id) no_code

  code_clauses : (id : Id) → (code_at id).clauses ≡ map (clause_with size ps id.file) (raw id.file id.row)
  code_clauses id = by (slice_get ps id.file)
    where
      of_code : (c : Option RawCode) → (unwrap_or (option_map (code_with size ps id.file) c) no_code).clauses ≡ map (clause_with size ps id.file) (clauses_in c)
      of_code None = refl
      of_code (Some c) = refl

      of_row : (m : Option MethodRow) → (unwrap_or (on_some m (λ (m : MethodRow). option_map (code_with size ps id.file) m.code)) no_code).clauses ≡ map (clause_with size ps id.file) (unwrap_or (option_map (λ (m : MethodRow). clauses_in m.code) m) [])
      of_row None = refl
      of_row (Some m) = of_code m.code

      by : (p : Option Assembly)
          → (unwrap_or (on_some p (λ (p : Assembly). on_some (slice_get p.methods id.row) (λ (m : MethodRow). option_map (code_with size ps id.file) m.code))) no_code).clauses
          ≡ map (clause_with size ps id.file) (unwrap_or (option_map (λ (p : Assembly). clauses_at p id.row) p) [])
      by None = refl
      by (Some p) = of_row (slice_get p.methods id.row)

  -- a clause is one of a method's code
  record Stands (file row k : ℕ) (x : RawClause) : Type 0 where
    of : RawCode
    code : code_of size ps (id_at file row) ≡ Some (code_with size ps file of)
    at : slice_get of.clauses k ≡ Some x
    known : IsKnown of
    words : HasWords of

  stands : (file row k : ℕ) (x : RawClause) → slice_get (raw file row) k ≡ Some x → Stands file row k x
  stands file row k x e = by (slice_get ps file) refl e
    where
      of_code : (p : Assembly) (m : MethodRow) → slice_get ps file ≡ Some p → slice_get p.methods row ≡ Some m → (c : Option RawCode) → m.code ≡ c → slice_get (clauses_in c) k ≡ Some x → Stands file row k x
      of_code p m here there None q e = cc e
      of_code p m here there (Some c) q e =
          record {
            of = c;
            code = ap (λ o. on_some o (λ (p : Assembly). on_some (slice_get p.methods row) (λ (m : MethodRow). option_map (code_with size ps file) m.code))) here ∙ ap (λ o. on_some o (λ (m : MethodRow). option_map (code_with size ps file) m.code)) there ∙ ap (option_map (code_with size ps file)) q;
            at = e;
            known = (images file p here).known row m c there q;
            words = (images file p here).words row m c there q;
          }

      of_row : (p : Assembly) → slice_get ps file ≡ Some p → (m : Option MethodRow) → slice_get p.methods row ≡ m → slice_get (unwrap_or (option_map (λ (m : MethodRow). clauses_in m.code) m) []) k ≡ Some x → Stands file row k x
      of_row p here None there e = cc e
      of_row p here (Some m) there e = of_code p m here there m.code refl e

      by : (p : Option Assembly) → slice_get ps file ≡ p → slice_get (unwrap_or (option_map (λ (p : Assembly). clauses_at p row) p) []) k ≡ Some x → Stands file row k x
      by None here e = cc e
      by (Some p) here e = of_row p here (slice_get p.methods row) refl e

  few_clauses : (file row : ℕ) → length (raw file row) ≤ 65535
  few_clauses file row = by (slice_get ps file) refl
    where
      none : 0 ≤ 65535
      none = omega arith

      of_code : (p : Assembly) (m : MethodRow) → slice_get ps file ≡ Some p → slice_get p.methods row ≡ Some m → (c : Option RawCode) → m.code ≡ c → length (clauses_in c) ≤ 65535
      of_code p m here there None q = none
      of_code p m here there (Some c) q = ((images file p here).words row m c there q).clauses

      of_row : (p : Assembly) → slice_get ps file ≡ Some p → (m : Option MethodRow) → slice_get p.methods row ≡ m → length (unwrap_or (option_map (λ (m : MethodRow). clauses_in m.code) m) []) ≤ 65535
      of_row p here None there = none
      of_row p here (Some m) there = of_code p m here there m.code refl

      by : (p : Option Assembly) → slice_get ps file ≡ p → length (unwrap_or (option_map (λ (p : Assembly). clauses_at p row) p) []) ≤ 65535
      by None here = none
      by (Some p) here = of_row p here (slice_get p.methods row) refl

  -- ---- clauses by their kinds

  -- a class of the set has no row that is none
  some_row : (c : Id) → Row ps c → is_no_row (type_at (Some c)) ≡ false
  some_row c r =
      let low = get_within r.of.types c.row r.row r.type in
      let few = (images c.file r.of r.at).types in
      ap (λ b. (c.file == 0) && b) (ne_eqb c.row NO_ROW (λ q. omega (arith, low, few, q))) ∙ never (c.file == 0)
    where
      never : (b : Bool) → (b && false) ≡ false
      never true = refl
      never false = refl

  no_type : is_no_row NO_TYPE ≡ true
  no_type = ap (λ b. b && (NO_ROW == NO_ROW)) (eq-eqb 0 0 refl) ∙ eq-eqb NO_ROW NO_ROW refl

  none_below : (x : TypeAt) → sub ps x NO_TYPE ≡ false
  none_below x = ap (λ n. not n && is_sub (bound_classes ps) (id_of x) (id_of NO_TYPE)) no_type

  taken_as : (file : ℕ) (t : TypeToken) (o : Option Id) → resolve size ps file t ≡ o → (a b c d : ℕ) → KindIs (bound_program ps) (told (sub ps) (clauses ps)) (record { kind = 0; class = type_at o; try_start = a; try_end = b; start = c; end = d }) (clause_kind (kind_with size ps file (RawCatch t)))
  taken_as file t None e a b c d =
      subst (λ o. KindIs (bound_program ps) (told (sub ps) (clauses ps)) (record { kind = 0; class = NO_TYPE; try_start = a; try_end = b; start = c; end = d }) (clause_kind (CatchOf o))) (sym e) (refl, none_below)
  taken_as file t (Some class) e a b c d =
      subst (λ o. KindIs (bound_program ps) (told (sub ps) (clauses ps)) (record { kind = 0; class = type_at (Some class); try_start = a; try_end = b; start = c; end = d }) (clause_kind (CatchOf o))) (sym e)
      (refl, λ x. sym (ap (λ n. not n && is_sub (bound_classes ps) (id_of x) class) (some_row class (token_row ps size file t class e))))

  kind_is : (file : ℕ) (x : RawClause) → KindIs (bound_program ps) (told (sub ps) (clauses ps)) (clause_told ps file x) (clause_of (clause_with size ps file x)).kind
  kind_is file x = by x.kind x.try_start x.try_end x.start x.end
    where
      by : (k : RawKind) (a b c d : ℕ) → KindIs (bound_program ps) (told (sub ps) (clauses ps)) (record { kind = kind_number k; class = class_taken ps file k; try_start = a; try_end = b; start = c; end = d }) (clause_kind (kind_with size ps file k))
      by (RawCatch t) a b c d = taken_as file t (resolve size ps file t) refl a b c d
      by RawFinally a b c d = refl
      by RawOther a b c d = (refl, none_below)

  all_are : (file : ℕ) (xs : List RawClause) → ClausesAre (bound_program ps) (told (sub ps) (clauses ps)) (map (clause_told ps file) xs) (map clause_of (map (clause_with size ps file) xs))
  all_are file [] = tt
  all_are file (x ∷ xs) = ((kind_is file x, refl), all_are file xs)

  -- ---- methods

  record MethodIs (id : Id) (m : Method) : Type 0 where
    are : m.clauses ≡ map clause_of (code_at id).clauses
    room : m.max_stack ≡ (code_at id).max_stack

  method_is : (id : Id) (m : Method) → (bound_program ps).method id ≡ Some m → MethodIs id m
  method_is id m e =
      let cs = bound_classes ps in
      let o = some_back (cs.method_owner id) (λ owner. on_some (method_at cs id) (λ (m : OwnMethod). option_map (λ (s : Signature). method_with cs owner m s (code_at id)) m.signature)) m e in
      let r = some_back (method_at cs id) (λ (m : OwnMethod). option_map (λ (s : Signature). method_with cs o.0 m s (code_at id)) m.signature) m o.2 in
      let s = map_back (λ (s : Signature). method_with cs o.0 r.0 s (code_at id)) r.0.signature m r.2 in
      record { are = sym (ap (λ (x : Method). x.clauses) s.2); room = sym (ap (λ (x : Method). x.max_stack) s.2) }

  told_length : (of : TypeAt) → length (clauses ps of) ≤ 65536
  told_length of =
      let few = few_clauses of.assembly of.row in
      let same = length-map (raw of.assembly of.row) (clause_told ps of.assembly) in
      omega (arith, few, same)

  all_told : (of : TypeAt) → take 65536 (clauses ps of) ≡ clauses ps of
  all_told of = take_all 65536 (clauses ps of) (told_length of)

  -- a clause that is told is one of the code
  record ToldClause (of : TypeAt) (k : ℕ) (c : ClauseAt) : Type 0 where
    clause : RawClause
    is : clause_told ps of.assembly clause ≡ c
    stands : Stands of.assembly of.row k clause

  told_is : (of : TypeAt) (k : ℕ) (c : ClauseAt) → slice_get (take 65536 (clauses ps of)) k ≡ Some c → ToldClause of k c
  told_is of k c e =
      let m = map_back (clause_told ps of.assembly) (slice_get (raw of.assembly of.row) k) c (sym (slice_get-map (clause_told ps of.assembly) (raw of.assembly of.row) k) ∙ taken 65536 k (clauses ps of) c e) in
      record { clause = m.0; is = m.2; stands = stands of.assembly of.row k m.0 m.1 }

  tries_are : (of : TypeAt) (k : ℕ) (c : ClauseAt) → slice_get (take 65536 (clauses ps of)) k ≡ Some c → (place : ℕ) → (bound_program ps).try_holds (id_of of) k place ≡ board.in_try c place
  tries_are of k c e place =
      let t = told_is of k c e in
      let cut : Option CodeClause → Bool = λ o. unwrap_or (option_map (λ (c : CodeClause). in_try c place) o) false in
      ap (λ o. unwrap_or (on_some o (λ (code : MethodCode). option_map (λ (c : CodeClause). in_try c place) (slice_get code.clauses k))) false) t.stands.code
      ∙ ap cut (slice_get-map (clause_with size ps of.assembly) t.stands.of.clauses k ∙ ap (option_map (clause_with size ps of.assembly)) t.stands.at)
      ∙ ap (λ (c : ClauseAt). board.in_try c place) t.is

  -- a catch makes room
  catch_room : (most k : ℕ) (xs : List RawClause) (x : RawClause) → slice_get xs k ≡ Some x → list_all (λ (x : RawClause). is_known_kind x.kind) xs ≡ true → kind_number x.kind ≡ 0 → list_any is_catch xs ≡ true
  catch_room most k [] x e known kind = cc e
  catch_room most zero (y ∷ xs) x e known kind =
      let same : y ≡ x = cc e in
      ap (λ b. b || list_any is_catch xs) (by y.kind y.try_start y.try_end y.start y.end (and_left (is_known_kind y.kind) _ known) (ap (λ (z : RawClause). kind_number z.kind) same ∙ kind))
    where
      and_left : (a b : Bool) → (a && b) ≡ true → a ≡ true
      and_left true b e = refl
      and_left false b e = cc e

      by : (k : RawKind) (a b c d : ℕ) → is_known_kind k ≡ true → kind_number k ≡ 0 → is_catch (record { kind = k; try_start = a; try_end = b; start = c; end = d }) ≡ true
      by (RawCatch t) a b c d known kind = refl
      by RawFinally a b c d known kind = let two : 2 ≡ 0 = kind in absurd (omega (arith, two))
      by RawOther a b c d known kind = absurd (cc known)
  catch_room most (suc k) (y ∷ xs) x e known kind =
      ap (λ b. is_catch y || b) (catch_room most k xs x e (and_right (is_known_kind y.kind) _ known) kind) ∙ always (is_catch y)
    where
      and_right : (a b : Bool) → (a && b) ≡ true → b ≡ true
      and_right true b e = e
      and_right false b e = cc e

      always : (b : Bool) → (b || true) ≡ true
      always true = refl
      always false = refl

  some_room : (most : ℕ) (caught : Bool) → caught ≡ true → not (nat_eq most 0 && caught) ≡ true → 0 < most
  some_room most caught e room =
      elim (cases_lt 0 most) [
        | inl low ↦ low
        | inr high ↦ absurd (cc (sym room ∙ ap (λ b. not (b && caught)) (eq-eqb most 0 (omega (arith, high))) ∙ ap not e))
      ]

  room_is : (of : TypeAt) (m : Method) → (bound_program ps).method (id_of of) ≡ Some m → (k : ℕ) (c : ClauseAt) → slice_get (take 65536 (clauses ps of)) k ≡ Some c → c.kind ≡ 0 → 0 < m.max_stack
  room_is of m e k c told kind =
      let t = told_is of k c told in
      let x = t.stands.of in
      let most : m.max_stack ≡ x.max_stack = (method_is (id_of of) m e).room ∙ ap (λ (o : Option MethodCode). (unwrap_or o no_code).max_stack) t.stands.code in
      let zero_kind : kind_number t.clause.kind ≡ 0 = ap (λ (c : ClauseAt). c.kind) t.is ∙ kind in
      subst (λ n. 0 < n) (sym most) (some_room x.max_stack (list_any is_catch x.clauses) (catch_room x.max_stack k x.clauses t.clause t.stands.at t.stands.known.kinds zero_kind) t.stands.known.room)

  starts_fit : (of : TypeAt) (k : ℕ) (c : ClauseAt) → slice_get (take 65536 (clauses ps of)) k ≡ Some c → c.start < 2 ^ 16
  starts_fit of k c e =
      let t = told_is of k c e in
      subst (λ (c : ClauseAt). c.start < 2 ^ 16) t.is (t.stands.words.starts k t.clause t.stands.at)

  clauses_are : (of : TypeAt) (m : Method) → (bound_program ps).method (id_of of) ≡ Some m → ClausesAre (bound_program ps) (told (sub ps) (clauses ps)) (take 65536 (clauses ps of)) m.clauses
  clauses_are of m e =
      subst (λ xs. ClausesAre (bound_program ps) (told (sub ps) (clauses ps)) xs m.clauses) (sym (all_told of))
      (subst (λ ys. ClausesAre (bound_program ps) (told (sub ps) (clauses ps)) (clauses ps of) ys) (sym ((method_is (id_of of) m e).are ∙ ap (map clause_of) (code_clauses (id_of of))))
      (all_are of.assembly (raw of.assembly of.row)))

  pub tells : Tells (told (sub ps) (clauses ps)) (bound_program ps) (outer ps)
  tells =
      record {
        clauses = clauses_are;
        tries = tries_are;
        rounds = λ of j k c d e f. ap (λ o. round_at o (slice_get (clauses ps of) k)) (taken 65536 j (clauses ps of) c e) ∙ ap (round_at (Some c)) (taken 65536 k (clauses ps of) d f);
        starts = starts_fit;
        room = room_is;
      }
