-- A method's clauses, as a range of a table's rows.
use Rattle.std.proofs.Common.{◌≡◌, ℕ, zero, suc, ◌+◌, ◌-◌, ◌<◌, ◌≤◌, Bool, true, false, ◌&&◌, ◌||◌, List, [], ◌∷◌, map, length, take, drop, get_or, Option, Some, None, refl, sym, ap, ◌∙◌, arith, length-drop, length-take-le}
use Rattle.std.specs.Prelude.{is_some, not, nat_eq, nat_le, slice_index, if◌then◌else◌}
use Rattle.std.specs.List.{list_all, list_any}
use Rattle.std.proofs.lemmas.Bool.{leb-true, eqb-true, eq-eqb, ne_eqb}
use Rattle.std.proofs.lemmas.List.{length-map, get_or-take, get_or-drop, drop_more, drop_all, drop-drop, drop-take}
use Rattle.machine.specs.Throw.{on_some}
use Rattle.machine.specs.Program.{Body}
use Rattle.image_bytes.specs.Layout.{Image, is_range, rows_of}
use Rattle.classes.specs.Code.{CodeClause}
use Rattle.classes.specs.Clauses as lie
use Rattle.assemblies.specs.Rows.{RawCatch, RawFinally, RawOther, RawClause, RawType}
use Rattle.image_form.specs.Signatures.{type_token}
use Rattle.image_form.specs.Form as form
use Rattle.image_form.specs.Whole.{table, bytes_at}
use Rattle.msspot_read.specs.Rows.{row_of}
use Rattle.msspot_read.specs.Held.{raw_kind, clause_of, clauses, held_of, body_stands, range_of, code_asked}
use Rattle.msspot_read.specs.Lying.{row_lies}
use Rattle.msspot_read.proofs.ReadLaws.{long_as_table}

-- ---- kinds

pub known_kind : (k w : ℕ) → form.is_known_kind (raw_kind k w) ≡ (nat_eq k 2 || nat_eq k 0)
known_kind k w = by (nat_eq k 2) (nat_eq k 0) where
  by : (a b : Bool) → form.is_known_kind (if a then RawFinally else (if b then RawCatch (type_token w) else RawOther)) ≡ (a || b)
  by true b = refl
  by false true = refl
  by false false = refl

pub catch_is : (r : List ℕ) → form.is_catch (clause_of r) ≡ nat_eq (slice_index r 0) 0
catch_is r = by (nat_eq (slice_index r 0) 2) refl (nat_eq (slice_index r 0) 0) refl where
  by : (a : Bool) → nat_eq (slice_index r 0) 2 ≡ a → (b : Bool) → nat_eq (slice_index r 0) 0 ≡ b → form.is_catch (form.make_clause (slice_index r 2) (slice_index r 3) (slice_index r 4) (slice_index r 5) (if a then RawFinally else (if b then RawCatch (type_token (slice_index r 1)) else RawOther))) ≡ b
  by true e true f = absurd (omega (arith, eqb-true _ _ e, eqb-true _ _ f))
  by true e false f = refl
  by false e true f = refl
  by false e false f = refl

-- ---- the clauses of a range

get_map : {A B : Type 0} (f : A → B) (xs : List A) (k : ℕ) (d : A) → get_or (map f xs) k (f d) ≡ f (get_or xs k d)
get_map f [] k d = refl
get_map f (x ∷ xs) zero d = refl
get_map f (x ∷ xs) (suc k) d = get_map f xs k d

drop_map : {A B : Type 0} (f : A → B) (k : ℕ) (xs : List A) → drop k (map f xs) ≡ map f (drop k xs)
drop_map f zero xs = refl
drop_map f (suc k) [] = refl
drop_map f (suc k) (x ∷ xs) = drop_map f k xs

module _ (i : Image) (first count : ℕ) (inside : first + count ≤ rows_of i 8) where
  abbrev range : List RawClause
  range = form.part first count (clauses i)

  pub range_long : length range ≡ count
  range_long = let all = long_as_table i 8 clause_of in length-take-le count (drop first (clauses i)) (omega (arith, all, inside, length-drop first (clauses i)))

  pub range_at : (k : ℕ) → k < count → get_or range k (clause_of []) ≡ clause_of (row_of i 8 (first + k))
  range_at k h = get_or-take count (drop first (clauses i)) k (clause_of []) h ∙ get_or-drop first (clauses i) k (clause_of []) ∙ get_map clause_of (table i 8) (first + k) []

  pub regions_long : length (map form.regions_of range) ≡ count
  regions_long = length-map range form.regions_of ∙ range_long

  pub regions_at : (k : ℕ) → k < count → get_or (map form.regions_of range) k (form.regions_of (clause_of [])) ≡ form.regions_of (clause_of (row_of i 8 (first + k)))
  regions_at k h = get_map form.regions_of range k (clause_of []) ∙ ap form.regions_of (range_at k h)

  -- those behind one
  pub behind_is : (k : ℕ) → k < count → drop (k + 1) (map form.regions_of range) ≡ map form.regions_of (form.part (first + k + 1) (count - k - 1) (clauses i))
  behind_is k h =
      let all : count ≡ k + 1 + (count - k - 1) = omega arith in
      let place : first + (k + 1) ≡ first + k + 1 = omega arith in
      drop_map form.regions_of (k + 1) range
      ∙ ap (map form.regions_of)
      (ap (λ n. drop (k + 1) (take n (drop first (clauses i)))) all
      ∙ drop-take (k + 1) (count - k - 1) (drop first (clauses i))
      ∙ ap (take (count - k - 1)) (drop-drop (k + 1) first (clauses i) ∙ ap (λ n. drop n (clauses i)) place))

  abbrev shown : List CodeClause
  shown = map form.regions_of range

  well_step : (k : ℕ) (x : CodeClause) → k < count → x ≡ form.regions_of (clause_of (row_of i 8 (first + k))) → lie.lie_well (drop k shown) ≡ (lie.is_proper x && (list_all (lie.lies_well x) (map form.regions_of (form.part (first + k + 1) (count - k - 1) (clauses i))) && lie.lie_well (drop (k + 1) shown)))
  well_step k x h e =
      ap lie.lie_well (drop_more shown k (form.regions_of (clause_of [])) (omega (arith, regions_long)))
      ∙ ap (λ y. lie.is_proper y && (list_all (lie.lies_well y) (drop (k + 1) shown) && lie.lie_well (drop (k + 1) shown))) (regions_at k h ∙ sym e)
      ∙ ap (λ ys. lie.is_proper x && (list_all (lie.lies_well x) ys && lie.lie_well (drop (k + 1) shown))) (behind_is k h)

  pub well_improper : (k : ℕ) (x : CodeClause) (whole : Bool) → k < count → x ≡ form.regions_of (clause_of (row_of i 8 (first + k))) → lie.is_proper x ≡ false → lie.lie_well (drop k shown) ≡ whole → false ≡ whole
  well_improper k x whole h e bad w =
      sym (well_step k x h e ∙ ap (λ b. b && (list_all (lie.lies_well x) (map form.regions_of (form.part (first + k + 1) (count - k - 1) (clauses i))) && lie.lie_well (drop (k + 1) shown))) bad) ∙ w

  pub well_clash : (k : ℕ) (x : CodeClause) (whole : Bool) → k < count → x ≡ form.regions_of (clause_of (row_of i 8 (first + k))) → lie.is_proper x ≡ true → list_all (lie.lies_well x) (map form.regions_of (form.part (first + k + 1) (count - k - 1) (clauses i))) ≡ false → lie.lie_well (drop k shown) ≡ whole → false ≡ whole
  well_clash k x whole h e good bad w =
      sym
      (well_step k x h e
      ∙ ap (λ b. b && (list_all (lie.lies_well x) (map form.regions_of (form.part (first + k + 1) (count - k - 1) (clauses i))) && lie.lie_well (drop (k + 1) shown))) good
      ∙ ap (λ b. b && lie.lie_well (drop (k + 1) shown)) bad)
      ∙ w

  pub well_more : (k : ℕ) (x : CodeClause) (whole : Bool) → k < count → x ≡ form.regions_of (clause_of (row_of i 8 (first + k))) → lie.is_proper x ≡ true → list_all (lie.lies_well x) (map form.regions_of (form.part (first + k + 1) (count - k - 1) (clauses i))) ≡ true → lie.lie_well (drop k shown) ≡ whole → lie.lie_well (drop (k + 1) shown) ≡ whole
  well_more k x whole h e good more w =
      sym
      (well_step k x h e
      ∙ ap (λ b. b && (list_all (lie.lies_well x) (map form.regions_of (form.part (first + k + 1) (count - k - 1) (clauses i))) && lie.lie_well (drop (k + 1) shown))) good
      ∙ ap (λ b. b && lie.lie_well (drop (k + 1) shown)) more)
      ∙ w

  pub well_done : (k : ℕ) (whole : Bool) → count ≤ k → lie.lie_well (drop k shown) ≡ whole → true ≡ whole
  well_done k whole h w = sym (ap lie.lie_well (drop_all k shown (omega (arith, regions_long)))) ∙ w

-- ---- room

turned : (a b : Bool) → (a || not b) ≡ not (not a && b)
turned true b = refl
turned false b = refl

checked_then : {A B : Type 0} (b : Bool) (x : A) (k : A → Option B) → is_some (on_some (form.checked b x) k) ≡ (b && is_some (k x))
checked_then true x k = refl
checked_then false x k = refl

any_all : {A : Type 0} (p : A → Bool) (xs : List A) → list_any p xs ≡ not (list_all (λ x. not (p x)) xs)
any_all p [] = refl
any_all p (x ∷ xs) = ap (λ b. p x || b) (any_all p xs) ∙ turned (p x) (list_all (λ x. not (p x)) xs)

turned_back : (b : Bool) → not (not b) ≡ b
turned_back true = refl
turned_back false = refl

pub room_yes : (max_stack : ℕ) (cs : List RawClause) → (max_stack ≡ 0 → ⊥) → true ≡ form.has_room max_stack cs
room_yes max_stack cs h = sym (ap (λ b. not (b && list_any form.is_catch cs)) (ne_eqb max_stack 0 h))

pub room_no : (max_stack : ℕ) (cs : List RawClause) → max_stack ≡ 0 → list_all (λ c. not (form.is_catch c)) cs ≡ form.has_room max_stack cs
room_no max_stack cs h =
    sym
    (ap (λ b. not (b && list_any form.is_catch cs)) (eq-eqb max_stack 0 h) ∙ ap not (any_all form.is_catch cs) ∙ turned_back (list_all (λ c. not (form.is_catch c)) cs))

-- ---- the body

pub range_fits : (rows first count : ℕ) → is_range rows first count ≡ true → first + count ≤ rows
range_fits rows first count h = by (nat_eq count 0) refl h where
  by : (t : Bool) → nat_eq count 0 ≡ t → (if t then nat_eq first 0 else nat_le (first + count) rows) ≡ true → first + count ≤ rows
  by true e g = omega (arith, eqb-true _ _ e, eqb-true _ _ g)
  by false e g = leb-true _ _ g

module _ (i : Image) where
  some_checked : {A : Type 0} (b : Bool) (x : A) → is_some (form.checked b x) ≡ b
  some_checked true x = refl
  some_checked false x = refl

  with_is : (flags start size max_stack first count : ℕ) (ts : List RawType) → is_some (form.body_with (held_of i) flags start size max_stack ts (range_of i first count)) ≡ code_asked i flags start size max_stack first count
  with_is flags start size max_stack first count ts = by (form.bit 16 flags) (nat_eq start 65535) where
    by : (a b : Bool)
        → is_some (if a then form.no_code (held_of i) size (range_of i first count) (form.native_body start) else (if b then form.no_code (held_of i) size (range_of i first count) Body.Missing else form.code_with (held_of i) start size max_stack ts (range_of i first count)))
        ≡ (if a then nat_eq size 0 && form.clauses_nest 0 (range_of i first count) else (if b then nat_eq size 0 && form.clauses_nest 0 (range_of i first count) else nat_le (start + size) (length (bytes_at i 2)) && form.clauses_nest size (range_of i first count) && form.has_room max_stack (range_of i first count)))
    by true b = some_checked (nat_eq size 0 && form.clauses_nest 0 (range_of i first count)) (form.native_body start, None)
    by false true = some_checked (nat_eq size 0 && form.clauses_nest 0 (range_of i first count)) (Body.Missing, None)
    by false false = some_checked (nat_le (start + size) (length (bytes_at i 2)) && form.clauses_nest size (range_of i first count) && form.has_room max_stack (range_of i first count)) _

  pub body_law : (r : List ℕ) → body_stands i r ≡ (is_some (form.locals_at (held_of i) (slice_index r 5)) && (is_range (rows_of i 8) (slice_index r 7) (slice_index r 8) && code_asked i (slice_index r 2) (slice_index r 3) (slice_index r 4) (slice_index r 6) (slice_index r 7) (slice_index r 8)))
  body_law r = by (form.locals_at (held_of i) (slice_index r 5)) where
    ranged : (ts : List RawType) → is_some (on_some (form.part_at (held_of i) (slice_index r 7) (slice_index r 8) (clauses i)) (form.body_with (held_of i) (slice_index r 2) (slice_index r 3) (slice_index r 4) (slice_index r 6) ts)) ≡ (is_range (length (clauses i)) (slice_index r 7) (slice_index r 8) && is_some (form.body_with (held_of i) (slice_index r 2) (slice_index r 3) (slice_index r 4) (slice_index r 6) ts (range_of i (slice_index r 7) (slice_index r 8))))
    ranged ts = checked_then (is_range (length (clauses i)) (slice_index r 7) (slice_index r 8)) (range_of i (slice_index r 7) (slice_index r 8)) (form.body_with (held_of i) (slice_index r 2) (slice_index r 3) (slice_index r 4) (slice_index r 6) ts)

    by : (o : Option (List RawType)) → is_some (on_some o (λ ts. on_some (form.part_at (held_of i) (slice_index r 7) (slice_index r 8) (clauses i)) (form.body_with (held_of i) (slice_index r 2) (slice_index r 3) (slice_index r 4) (slice_index r 6) ts))) ≡ (is_some o && (is_range (rows_of i 8) (slice_index r 7) (slice_index r 8) && code_asked i (slice_index r 2) (slice_index r 3) (slice_index r 4) (slice_index r 6) (slice_index r 7) (slice_index r 8)))
    by None = refl
    by (Some ts) =
        ranged ts
        ∙ ap (λ n. is_range n (slice_index r 7) (slice_index r 8) && is_some (form.body_with (held_of i) (slice_index r 2) (slice_index r 3) (slice_index r 4) (slice_index r 6) ts (range_of i (slice_index r 7) (slice_index r 8)))) (long_as_table i 8 clause_of)
        ∙ ap (λ b. is_range (rows_of i 8) (slice_index r 7) (slice_index r 8) && b) (with_is (slice_index r 2) (slice_index r 3) (slice_index r 4) (slice_index r 6) (slice_index r 7) (slice_index r 8) ts)

  pub body_same : (r s : List ℕ) → ((k : ℕ) → slice_index r k ≡ slice_index s k) → body_stands i r ≡ body_stands i s
  body_same r s h = rw (h 2, h 3, h 4, h 5, h 6, h 7, h 8) refl

  pub no_locals : (r : List ℕ) → is_some (form.locals_at (held_of i) (slice_index r 5)) ≡ false → false ≡ body_stands i r
  no_locals r e = sym (body_law r ∙ ap (λ b. b && (is_range (rows_of i 8) (slice_index r 7) (slice_index r 8) && code_asked i (slice_index r 2) (slice_index r 3) (slice_index r 4) (slice_index r 6) (slice_index r 7) (slice_index r 8))) e)

  pub no_range : (r : List ℕ) → is_some (form.locals_at (held_of i) (slice_index r 5)) ≡ true → is_range (rows_of i 8) (slice_index r 7) (slice_index r 8) ≡ false → false ≡ body_stands i r
  no_range r e f =
      sym
      (body_law r
      ∙ ap (λ b. b && (is_range (rows_of i 8) (slice_index r 7) (slice_index r 8) && code_asked i (slice_index r 2) (slice_index r 3) (slice_index r 4) (slice_index r 6) (slice_index r 7) (slice_index r 8))) e
      ∙ ap (λ b. b && code_asked i (slice_index r 2) (slice_index r 3) (slice_index r 4) (slice_index r 6) (slice_index r 7) (slice_index r 8)) f)

  pub asked_is : (r : List ℕ) → is_some (form.locals_at (held_of i) (slice_index r 5)) ≡ true → is_range (rows_of i 8) (slice_index r 7) (slice_index r 8) ≡ true → code_asked i (slice_index r 2) (slice_index r 3) (slice_index r 4) (slice_index r 6) (slice_index r 7) (slice_index r 8) ≡ body_stands i r
  asked_is r e f =
      sym
      (body_law r
      ∙ ap (λ b. b && (is_range (rows_of i 8) (slice_index r 7) (slice_index r 8) && code_asked i (slice_index r 2) (slice_index r 3) (slice_index r 4) (slice_index r 6) (slice_index r 7) (slice_index r 8))) e
      ∙ ap (λ b. b && code_asked i (slice_index r 2) (slice_index r 3) (slice_index r 4) (slice_index r 6) (slice_index r 7) (slice_index r 8)) f)

-- ---- a clause's row

pub lies_law : (size : ℕ) (r : List ℕ) → row_lies size r ≡ form.lies_in size (clause_of r)
lies_law size r = ap (λ b. b && nat_le (slice_index r 3) size && nat_le (slice_index r 5) size) (sym (known_kind (slice_index r 0) (slice_index r 1)))

pub clause_same : (r s : List ℕ) → ((k : ℕ) → slice_index r k ≡ slice_index s k) → clause_of r ≡ clause_of s
clause_same r s h = rw (h 0, h 1, h 2, h 3, h 4, h 5) refl
