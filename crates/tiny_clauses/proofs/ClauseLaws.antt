-- The clauses of an image's methods by the numbers of their rows.
use Rattle.std.proofs.Common.{◌≡◌, ℕ, zero, suc, ◌+◌, ◌<◌, ◌≤◌, ◌&&◌, Bool, true, false, List, [], ◌∷◌, map, length, take, drop, Option, Some, None, refl, sym, ap, ◌∙◌, arith, inl, inr}
use Rattle.std.specs.Prelude.{IsSome, slice_get, slice_index, nat_eq, nat_le, nat_lt, if◌then◌else◌, unwrap_or, ◌⊎◌}
use Rattle.std.specs.List.{list_all}
use Rattle.std.specs.Option.{option_map}
use Rattle.std.proofs.lemmas.Bool.{cases_lt, lt-ltb, le-ltb, eqb-true, leb-true}
use Rattle.std.proofs.lemmas.Option.{slice_get-map, slice_get-get_or, slice_get_past}
use Rattle.std.proofs.lemmas.List.{length-map}
use Rattle.machine.specs.Throw.{on_some}
use Rattle.machine.specs.Program.{Body, Missing, Code}
use Rattle.image_bytes.specs.Layout.{Image, rows_of, is_range}
use Rattle.assemblies.specs.Rows.{RawKind, RawCatch, RawFinally, RawOther, RawClause, RawCode, RawType, TypeToken, MethodRow, Assembly}
use Rattle.image_form.specs.Signatures.{type_token}
use Rattle.image_form.specs.Form.{Held, on_both, all_some, none_or, checked, part, bit, native_body, clauses_in, clauses_nest, lies_in, has_room, is_known_kind, name_at, signature_at, locals_at, part_at, lines_at, assembly_at, ref_at, field_ref_at, method_ref_at, type_at, field_at, interface_at, spec_at, data_at, clause_at, clause_kind_at, body_with, body_at, method_at, make_clause, make_method, no_code, code_with}
use Rattle.image_form.specs.Whole.{table, bytes_at, texts_in, row_in, token_in, has_row, held, nothing_held, make_assembly, rows_held, with_datas, with_clauses, with_interfaces, rows_with, image_rows}
use Rattle.msspot_read.specs.Rows.{row_of}
use Rattle.msspot_read.specs.Held.{raw_kind, clause_of, clauses as image_clauses}
use Rattle.tiny_rows.specs.Rows.{rows_seen}
use Rattle.tiny_rows.proofs.Parts.{some_back, map_back, both_back, rows_are, there, past}
use Rattle.tiny_rows.proofs.RowLaws.{seen_of}
use Rattle.tiny_clauses.specs.Clauses.{clauses_at, place_in, IsKnown, AreKnown}

checked_back : {A : Type 0} (b : Bool) (x y : A) → checked b x ≡ Some y → (b ≡ true) × (x ≡ y)
checked_back true x y e = (refl, cc e)
checked_back false x y e = cc e

-- what is read of each is made of each
all_as : {A B : Type 0} (read : A → Option B) (make : A → B) → ((x : A) (y : B) → read x ≡ Some y → y ≡ make x) → (xs : List A) (ys : List B) → all_some read xs ≡ Some ys → ys ≡ map make xs
all_as read make one [] ys e = cc e
all_as read make one (x ∷ xs) ys e =
    let b = both_back (option_map (λ z zs. z ∷ zs) (read x)) (all_some read xs) ys e in
    let m = map_back (λ z zs. z ∷ zs) (read x) b.0 b.2 in
    sym (ap (λ k. k b.1) m.2 ∙ b.4) ∙ ap (λ z. z ∷ b.1) (one x m.0 m.1) ∙ ap (λ zs. make x ∷ zs) (all_as read make one xs b.1 b.3)

range_fits : (rows first count : ℕ) → is_range rows first count ≡ true → first + count ≤ rows
range_fits rows first count h = by (nat_eq count 0) refl h where
  by : (t : Bool) → nat_eq count 0 ≡ t → (if t then nat_eq first 0 else nat_le (first + count) rows) ≡ true → first + count ≤ rows
  by true e g = omega (arith, eqb-true _ _ e, eqb-true _ _ g)
  by false e g = leb-true _ _ g

and_left : (a b : Bool) → (a && b) ≡ true → a ≡ true
and_left true b e = refl
and_left false b e = cc e

and_right : (a b : Bool) → (a && b) ≡ true → b ≡ true
and_right true b e = e
and_right false b e = cc e

-- each that lies in code is of a known kind
known_of : (n : ℕ) (cs : List RawClause) → list_all (lies_in n) cs ≡ true → list_all (λ (x : RawClause). is_known_kind x.kind) cs ≡ true
known_of n [] e = refl
known_of n (c ∷ cs) e =
    let first = and_left (is_known_kind c.kind) (nat_le c.try_end n) (and_left (is_known_kind c.kind && nat_le c.try_end n) (nat_le c.end n) (and_left (lies_in n c) (list_all (lies_in n) cs) e)) in
    ap (λ b. b && list_all (λ (x : RawClause). is_known_kind x.kind) cs) first ∙ known_of n cs (and_right (lies_in n c) (list_all (lies_in n) cs) e)

-- what methods are read by
record Read (i : Image) (p : Assembly) : Type 0 where
  strings : List (List ℕ)
  signatures : List (List ℕ)
  interfaces : List TypeToken
  clauses : List RawClause
  datas : List (List ℕ)
  clause_rows : all_some (clause_at (nothing_held i strings signatures)) (table i 8) ≡ Some clauses
  methods : all_some (method_at (held i strings signatures interfaces clauses datas)) (table i 7) ≡ Some p.methods

methods_held : (i : Image) (s g : List (List ℕ)) (h : Held) (p : Assembly) → rows_held i s g h ≡ Some p → all_some (method_at h) (table i 7) ≡ Some p.methods
methods_held i s g h p e =
    let r9 = both_back _ (all_some (spec_at h) (table i 9)) p e in
    let r8 = both_back _ (all_some (method_at h) (table i 7)) r9.0 r9.2 in
    let r7 = both_back _ (all_some (field_at h) (table i 6)) r8.0 r8.2 in
    let r6 = both_back _ (all_some (type_at h) (table i 4)) r7.0 r7.2 in
    let r5 = both_back _ (all_some (method_ref_at h) (table i 3)) r6.0 r6.2 in
    let r4 = both_back _ (all_some (field_ref_at h) (table i 2)) r5.0 r5.2 in
    let r3 = both_back _ (all_some (ref_at h) (table i 1)) r4.0 r4.2 in
    let r2 = both_back _ (all_some (assembly_at h) (table i 0)) r3.0 r3.2 in
    let r1 = both_back _ (none_or (row_in i 7) i.entry) r2.0 r2.2 in
    let r0 = map_back (make_assembly i s g) (name_at h i.name) r1.0 r1.2 in
    let q1 = ap (λ k. k r1.1) r0.2 ∙ r1.4 in
    let q2 = ap (λ k. k r2.1) q1 ∙ r2.4 in
    let q3 = ap (λ k. k r3.1) q2 ∙ r3.4 in
    let q4 = ap (λ k. k r4.1) q3 ∙ r4.4 in
    let q5 = ap (λ k. k r5.1) q4 ∙ r5.4 in
    let q6 = ap (λ k. k r6.1) q5 ∙ r6.4 in
    let q7 = ap (λ k. k r7.1) q6 ∙ r7.4 in
    let q8 = ap (λ k. k r8.1) q7 ∙ r8.4 in
    let whole : make_assembly i s g r0.0 r1.1 r2.1 r3.1 r4.1 r5.1 r6.1 r7.1 r8.1 r9.1 ≡ p = ap (λ k. k r9.1) q8 ∙ r9.4 in
    r8.3 ∙ ap (λ (q : Assembly). Some q.methods) whole

read_of : (i : Image) (p : Assembly) → image_rows i ≡ Some p → Read i p
read_of i p e =
    let a = some_back (texts_in (bytes_at i 0)) (λ strings. on_some (texts_in (bytes_at i 1)) (rows_with i strings)) p e in
    let b = some_back (texts_in (bytes_at i 1)) (rows_with i a.0) p a.2 in
    let c = some_back (all_some (interface_at (nothing_held i a.0 b.0)) (table i 5)) (with_interfaces i a.0 b.0) p b.2 in
    let d = some_back (all_some (clause_at (nothing_held i a.0 b.0)) (table i 8)) (with_clauses i a.0 b.0 c.0) p c.2 in
    let f = some_back (all_some (data_at (bytes_at i 3)) (table i 10)) (with_datas i a.0 b.0 c.0 d.0) p d.2 in
    record {
      strings = a.0;
      signatures = b.0;
      interfaces = c.0;
      clauses = d.0;
      datas = f.0;
      clause_rows = d.1;
      methods = methods_held i a.0 b.0 (held i a.0 b.0 c.0 d.0 f.0) p f.2;
    }

-- by numbers that are the same
abbrev place_of : ℕ → ℕ → ℕ → ℕ → ℕ → Option ℕ
place_of flags start first count k = if bit 16 flags then None else (if nat_eq start 65535 then None else checked (nat_lt k count) (first + k))

pub place_same : (r s : List ℕ) (k : ℕ) → ((n : ℕ) → slice_index r n ≡ slice_index s n) → place_in r k ≡ place_in s k
place_same r s k h =
    ap (λ x. place_of x (slice_index r 3) (slice_index r 7) (slice_index r 8) k) (h 2)
    ∙ ap (λ x. place_of (slice_index s 2) x (slice_index r 7) (slice_index r 8) k) (h 3)
    ∙ ap (λ x. place_of (slice_index s 2) (slice_index s 3) x (slice_index r 8) k) (h 7)
    ∙ ap (λ x. place_of (slice_index s 2) (slice_index s 3) (slice_index s 7) x k) (h 8)

module _ (i : Image) (rows : IsSome (image_rows i)) where
  parts : Read i (rows_seen i)
  parts = read_of i (rows_seen i) (seen_of i rows)

  abbrev h : Held
  h = held i parts.strings parts.signatures parts.interfaces parts.clauses parts.datas

  abbrev nothing : Held
  nothing = nothing_held i parts.strings parts.signatures

  clauses_are : parts.clauses ≡ image_clauses i
  clauses_are = all_as (clause_at nothing) clause_of one (table i 8) parts.clauses parts.clause_rows
    where
      of_kind : (k w a b c d : ℕ) (z : RawClause) (t : Bool) → option_map (make_clause a b c d) (if t then checked (nat_eq w 65535) RawFinally else option_map (λ t. if nat_eq k 0 then RawCatch t else RawOther) (token_in i w)) ≡ Some z → z ≡ make_clause a b c d (if t then RawFinally else (if nat_eq k 0 then RawCatch (type_token w) else RawOther))
      of_kind k w a b c d z true e =
          let m = map_back (make_clause a b c d) (checked (nat_eq w 65535) RawFinally) z e in
          sym m.2 ∙ ap (make_clause a b c d) (sym (checked_back (nat_eq w 65535) RawFinally m.0 m.1).1)
      of_kind k w a b c d z false e =
          let pick : TypeToken → RawKind = λ t. if nat_eq k 0 then RawCatch t else RawOther in
          let m = map_back (make_clause a b c d) (option_map pick (token_in i w)) z e in
          let t = map_back pick (token_in i w) m.0 m.1 in
          sym m.2 ∙ ap (make_clause a b c d) (sym t.2 ∙ ap pick (sym (checked_back (has_row i (type_token w)) (type_token w) t.0 t.1).1))

      one : (r : List ℕ) (z : RawClause) → clause_at nothing r ≡ Some z → z ≡ clause_of r
      one [] z e = cc e
      one (k ∷ []) z e = cc e
      one (k ∷ w ∷ []) z e = cc e
      one (k ∷ w ∷ a ∷ []) z e = cc e
      one (k ∷ w ∷ a ∷ b ∷ []) z e = cc e
      one (k ∷ w ∷ a ∷ b ∷ c ∷ []) z e = cc e
      one (k ∷ w ∷ a ∷ b ∷ c ∷ d ∷ x ∷ r) z e = cc e
      one (k ∷ w ∷ a ∷ b ∷ c ∷ d ∷ []) z e = of_kind k w a b c d z (nat_eq k 2) e

  -- ---- a method's code

  abbrev ranged : ℕ → ℕ → ℕ → ℕ → List RawClause
  ranged flags start first count = if bit 16 flags then [] else (if nat_eq start 65535 then [] else part first count (image_clauses i))

  pub record CodeRead (flags start first count : ℕ) (code : Option RawCode) : Type 0 where
    pub fits : first + count ≤ rows_of i 8
    pub are : clauses_in code ≡ ranged flags start first count
    pub known : (c : RawCode) → code ≡ Some c → IsKnown c

  -- by whether the method is no CIL, and whether it has no code
  with_back : (start size most : ℕ) (cs : List RawClause) (ts : List RawType) (t u : Bool) (native : Body) (b : Body × Option RawCode)
      → (if t then no_code h size cs native else (if u then no_code h size cs Missing else code_with h start size most ts cs)) ≡ Some b
      → (clauses_in b.1 ≡ (if t then [] else (if u then [] else cs))) × ((c : RawCode) → b.1 ≡ Some c → IsKnown c)
  with_back start size most cs ts true u native b e =
      let k = checked_back (nat_eq size 0 && clauses_nest 0 cs) (native, None) b e in
      (ap (λ (x : Body × Option RawCode). clauses_in x.1) (sym k.1), λ c q. absurd (cc (ap (λ (x : Body × Option RawCode). x.1) k.1 ∙ q)))
  with_back start size most cs ts false true native b e =
      let k = checked_back (nat_eq size 0 && clauses_nest 0 cs) (Missing, None) b e in
      (ap (λ (x : Body × Option RawCode). clauses_in x.1) (sym k.1), λ c q. absurd (cc (ap (λ (x : Body × Option RawCode). x.1) k.1 ∙ q)))
  with_back start size most cs ts false false native b e =
      let made : RawCode = record { locals = ts; max_stack = most; clauses = cs; lines = lines_at h start size } in
      let nest = clauses_nest size cs in
      let inside = nat_le (start + size) (length h.code) in
      let k = checked_back (inside && nest && has_room most cs) (Code, Some made) b e in
      let room : has_room most cs ≡ true = and_right (inside && nest) (has_room most cs) k.0 in
      let kinds = known_of size cs (and_left (list_all (lies_in size) cs) _ (and_right inside nest (and_left (inside && nest) (has_room most cs) k.0))) in (
        ap (λ (x : Body × Option RawCode). clauses_in x.1) (sym k.1),
        λ c q.
            let same : made ≡ c = cc (ap (λ (x : Body × Option RawCode). x.1) k.1 ∙ q) in
            record { kinds = ap (λ (x : RawCode). list_all (λ (y : RawClause). is_known_kind y.kind) x.clauses) (sym same) ∙ kinds; room = ap (λ (x : RawCode). has_room x.max_stack x.clauses) (sym same) ∙ room },
      )

  code_read : (flags start size locals most first count : ℕ) (b : Body × Option RawCode) → body_at h flags start size locals most first count ≡ Some b → CodeRead flags start first count b.1
  code_read flags start size locals most first count b e =
      let ts = some_back (locals_at h locals) (λ ts. on_some (part_at h first count h.clauses) (body_with h flags start size most ts)) b e in
      let cs = some_back (part_at h first count h.clauses) (body_with h flags start size most ts.0) b ts.2 in
      let k = checked_back (is_range (length h.clauses) first count) (part first count h.clauses) cs.0 cs.1 in
      let many : length h.clauses ≡ rows_of i 8 = ap length clauses_are ∙ length-map (table i 8) clause_of ∙ rows_are i 8 in
      let shown : cs.0 ≡ part first count (image_clauses i) = sym k.1 ∙ ap (part first count) clauses_are in
      let w = with_back start size most cs.0 ts.0 (bit 16 flags) (nat_eq start 65535) (native_body start) b cs.2 in
      record {
        fits = range_fits (rows_of i 8) first count (ap (λ n. is_range n first count) (sym many) ∙ k.0);
        are = w.0 ∙ ap (λ (x : List RawClause). if bit 16 flags then [] else (if nat_eq start 65535 then [] else x)) shown;
        known = w.1;
      }

  method_read : (r : List ℕ) (y : MethodRow) → method_at h r ≡ Some y → CodeRead (slice_index r 2) (slice_index r 3) (slice_index r 7) (slice_index r 8) y.code
  method_read [] y e = cc e
  method_read (a ∷ []) y e = cc e
  method_read (a ∷ b ∷ []) y e = cc e
  method_read (a ∷ b ∷ flags ∷ []) y e = cc e
  method_read (a ∷ b ∷ flags ∷ start ∷ []) y e = cc e
  method_read (a ∷ b ∷ flags ∷ start ∷ size ∷ []) y e = cc e
  method_read (a ∷ b ∷ flags ∷ start ∷ size ∷ locals ∷ []) y e = cc e
  method_read (a ∷ b ∷ flags ∷ start ∷ size ∷ locals ∷ most ∷ []) y e = cc e
  method_read (a ∷ b ∷ flags ∷ start ∷ size ∷ locals ∷ most ∷ first ∷ []) y e = cc e
  method_read (a ∷ b ∷ flags ∷ start ∷ size ∷ locals ∷ most ∷ first ∷ count ∷ x ∷ r) y e = cc e
  method_read (a ∷ b ∷ flags ∷ start ∷ size ∷ locals ∷ most ∷ first ∷ count ∷ []) y e =
      let p2 = both_back (on_both (option_map (make_method flags) (name_at h a)) (signature_at h b)) (body_at h flags start size locals most first count) y e in
      let p1 = both_back (option_map (make_method flags) (name_at h a)) (signature_at h b) p2.0 p2.2 in
      let p0 = map_back (make_method flags) (name_at h a) p1.0 p1.2 in
      let whole : make_method flags p0.0 p1.1 p2.1 ≡ y = ap (λ k. k p1.1 p2.1) p0.2 ∙ ap (λ k. k p2.1) p1.4 ∙ p2.4 in
      let read = code_read flags start size locals most first count p2.1 p2.3 in
      let code : p2.1.1 ≡ y.code = ap (λ (m : MethodRow). m.code) whole in
      record { fits = read.fits; are = ap clauses_in (sym code) ∙ read.are; known = λ c q. read.known c (code ∙ q) }

  pub record MethodThere (n : ℕ) : Type 0 where
    pub of : MethodRow
    pub row : slice_get (rows_seen i).methods n ≡ Some of
    pub read : CodeRead (slice_index (row_of i 7 n) 2) (slice_index (row_of i 7 n) 3) (slice_index (row_of i 7 n) 7) (slice_index (row_of i 7 n) 8) of.code

  pub method_there : (n : ℕ) → n < rows_of i 7 → MethodThere n
  method_there n low = let t = there i 7 n (method_at h) (rows_seen i).methods parts.methods low in record { of = t.0; row = t.2; read = method_read (row_of i 7 n) t.0 t.1 }

  -- ---- the k-th clause

  shown_nth : (n k : ℕ) → (t : MethodThere n) → slice_get (clauses_at (rows_seen i) n) k ≡ slice_get (ranged (slice_index (row_of i 7 n) 2) (slice_index (row_of i 7 n) 3) (slice_index (row_of i 7 n) 7) (slice_index (row_of i 7 n) 8)) k
  shown_nth n k t =
      ap (λ o. slice_get (unwrap_or (option_map (λ (m : MethodRow). clauses_in m.code) o) []) k) t.row ∙ ap (λ cs. slice_get cs k) t.read.are

  plus : (a b : ℕ) → suc (a + b) ≡ suc a + b
  plus a b = omega arith

  none_more : (k : ℕ) → k ≡ zero + k
  none_more k = omega arith

  part_get : {A : Type 0} (first count k : ℕ) (xs : List A) → k < count → slice_get (part first count xs) k ≡ slice_get xs (first + k)
  part_get first count k xs low = dropped first xs count k low
    where
      taken : {A : Type 0} (xs : List A) (count k : ℕ) → k < count → slice_get (take count xs) k ≡ slice_get xs k
      taken xs zero k low = absurd (omega (arith, low))
      taken [] (suc count) k low = refl
      taken (x ∷ xs) (suc count) zero low = refl
      taken (x ∷ xs) (suc count) (suc k) low = taken xs count k (omega (arith, low))

      dropped : {A : Type 0} (first : ℕ) (xs : List A) (count k : ℕ) → k < count → slice_get (take count (drop first xs)) k ≡ slice_get xs (first + k)
      dropped zero xs count k low = taken xs count k low ∙ ap (slice_get xs) (none_more k)
      dropped (suc first) [] zero k low = absurd (omega (arith, low))
      dropped (suc first) [] (suc count) k low = refl
      dropped (suc first) (x ∷ xs) count k low = dropped first xs count k low ∙ ap (slice_get (x ∷ xs)) (plus first k)

  part_past : {A : Type 0} (first count k : ℕ) (xs : List A) → count ≤ k → slice_get (part first count xs) k ≡ None
  part_past first count k xs high = taken (drop first xs) count k high
    where
      taken : {A : Type 0} (xs : List A) (count k : ℕ) → count ≤ k → slice_get (take count xs) k ≡ None
      taken xs zero k high = refl
      taken [] (suc count) k high = refl
      taken (x ∷ xs) (suc count) zero high = absurd (omega (arith, high))
      taken (x ∷ xs) (suc count) (suc k) high = taken xs count k (omega (arith, high))

  clause_there : (n : ℕ) → n < rows_of i 8 → slice_get (image_clauses i) n ≡ Some (clause_of (row_of i 8 n))
  clause_there n low =
      let size = rows_are i 8 in
      slice_get-map clause_of (table i 8) n ∙ ap (option_map clause_of) (slice_get-get_or (table i 8) n [] (omega (arith, low, size)))

  -- by the place of the clause
  pub placed : (n k : ℕ) → (t : MethodThere n) → (place : Option ℕ) → place_in (row_of i 7 n) k ≡ place → slice_get (clauses_at (rows_seen i) n) k ≡ option_map (λ at. clause_of (row_of i 8 at)) place
  placed n k t place e = shown_nth n k t ∙ by (bit 16 (slice_index (row_of i 7 n) 2)) (nat_eq (slice_index (row_of i 7 n) 3) 65535) e
    where
      by : (a b : Bool) → (if a then None else (if b then None else checked (nat_lt k (slice_index (row_of i 7 n) 8)) (slice_index (row_of i 7 n) 7 + k))) ≡ place
          → slice_get (if a then [] else (if b then [] else part (slice_index (row_of i 7 n) 7) (slice_index (row_of i 7 n) 8) (image_clauses i))) k ≡ option_map (λ at. clause_of (row_of i 8 at)) place
      by true b e = ap (option_map (λ at. clause_of (row_of i 8 at))) e
      by false true e = ap (option_map (λ at. clause_of (row_of i 8 at))) e
      by false false e =
          elim (cases_lt k (slice_index (row_of i 7 n) 8)) [
            | inl low ↦
                part_get (slice_index (row_of i 7 n) 7) (slice_index (row_of i 7 n) 8) k (image_clauses i) low
                ∙ clause_there (slice_index (row_of i 7 n) 7 + k) (omega (arith, low, t.read.fits))
                ∙ ap (option_map (λ at. clause_of (row_of i 8 at))) (sym (ap (λ b. checked b (slice_index (row_of i 7 n) 7 + k)) (lt-ltb k (slice_index (row_of i 7 n) 8) low)) ∙ e)
            | inr high ↦
                part_past (slice_index (row_of i 7 n) 7) (slice_index (row_of i 7 n) 8) k (image_clauses i) high
                ∙ ap (option_map (λ at. clause_of (row_of i 8 at))) (sym (ap (λ b. checked b (slice_index (row_of i 7 n) 7 + k)) (le-ltb k (slice_index (row_of i 7 n) 8) high)) ∙ e)
          ]

  -- where there is no such method
  pub none_there : (n k : ℕ) → rows_of i 7 ≤ n → None ≡ slice_get (clauses_at (rows_seen i) n) k
  none_there n k high = sym (ap (λ o. slice_get (unwrap_or (option_map (λ (m : MethodRow). clauses_in m.code) o) []) k) (past i 7 n (method_at h) (rows_seen i).methods parts.methods high))

  -- the place is that of a row that is there
  pub place_low : (n k : ℕ) → (t : MethodThere n) → (at : ℕ) → place_in (row_of i 7 n) k ≡ Some at → at < rows_of i 8
  place_low n k t at e = by (bit 16 (slice_index (row_of i 7 n) 2)) (nat_eq (slice_index (row_of i 7 n) 3) 65535) e
    where
      by : (a b : Bool) → (if a then None else (if b then None else checked (nat_lt k (slice_index (row_of i 7 n) 8)) (slice_index (row_of i 7 n) 7 + k))) ≡ Some at → at < rows_of i 8
      by true b e = cc e
      by false true e = cc e
      by false false e =
          elim (cases_lt k (slice_index (row_of i 7 n) 8)) [
            | inl low ↦ let is = (checked_back (nat_lt k (slice_index (row_of i 7 n) 8)) (slice_index (row_of i 7 n) 7 + k) at e).1 in omega (arith, low, t.read.fits, is)
            | inr high ↦ absurd (cc (sym (le-ltb k (slice_index (row_of i 7 n) 8) high) ∙ (checked_back (nat_lt k (slice_index (row_of i 7 n) 8)) (slice_index (row_of i 7 n) 7 + k) at e).0))
          ]

  -- ---- the law
  pub all_known : AreKnown (rows_seen i)
  all_known n m c e q =
      elim (cases_lt n (rows_of i 7)) [
        | inl low ↦ let t = method_there n low in let same : t.of ≡ m = cc (sym t.row ∙ e) in t.read.known c (ap (λ (x : MethodRow). x.code) same ∙ q)
        | inr high ↦ absurd (cc (sym (past i 7 n (method_at h) (rows_seen i).methods parts.methods high) ∙ e))
      ]
