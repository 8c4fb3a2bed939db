-- What is read of bytes has numbers of 16 bits.
use Rattle.std.proofs.Common.{◌≡◌, ℕ, zero, suc, ◌+◌, ◌*◌, ◌<◌, ◌≤◌, ◌&&◌, Bool, true, false, List, [], ◌∷◌, map, length, take, drop, Option, Some, None, refl, sym, ap, ◌∙◌, subst, arith, inl, inr}
use Rattle.std.specs.Prelude.{IsSome, slice_get, slice_index, nat_eq, if◌then◌else◌, unwrap_or}
use Rattle.std.specs.Str.{IsUtf8, is_utf8}
use Rattle.std.proofs.lemmas.Bool.{cases_lt}
use Rattle.std.proofs.lemmas.Option.{same_Some}
use Rattle.std.proofs.lemmas.Str.{IsUtf8-from_is_utf8}
use Rattle.machine.specs.Throw.{on_some}
use Rattle.little_endian.specs.Numbers.{AreBytes}
use Rattle.image_bytes.specs.Layout.{Image, widths, Reader, read_word, many, read_tables, read_pools, read_zeros, read_marker, marker, unpadded, padding, read_body, with_zero, with_lengths, with_counts, with_entry, with_name, with_version, with_high, with_low, view, rows_in, rows_of}
use Rattle.image_form.specs.Form.{part, bit, checked, clauses_in, method_at, name_text, type_at}
use Rattle.image_form.specs.Whole.{table, image_rows, held}
use Rattle.assemblies.specs.Closed.{Each}
use Rattle.assemblies.specs.Rows.{RawClause, RawCode, MethodRow, TypeRow}
use Rattle.msspot_read.specs.Rows.{row_of, text_in}
use Rattle.msspot_read.specs.Held.{clause_of, clauses as image_clauses}
use Rattle.tiny_rows.specs.Rows.{rows_seen, name_in, Named}
use Rattle.tiny_rows.proofs.Parts.{some_back, parts_of, past}
use Rattle.tiny_rows.proofs.RowLaws.{seen_of, types_counted, type_there}
use Rattle.tiny_clauses.proofs.ClauseLaws.{all_known, method_there}
use Rattle.bound_answers.specs.Standing.{HasWords, IsImage}

-- ---- each thing of a list

pub each_at : {A : Type 0} (P : A → Type 0) (xs : List A) (n : ℕ) (x : A) → Each P xs → slice_get xs n ≡ Some x → P x
each_at P [] n x h e = cc e
each_at P (y ∷ xs) zero x h e = let same : y ≡ x = cc e in subst P same h.0
each_at P (y ∷ xs) (suc n) x h e = each_at P xs n x h.1 e

pub each_taken : {A : Type 0} (P : A → Type 0) (n : ℕ) (xs : List A) → Each P xs → Each P (take n xs)
each_taken P zero xs h = tt
each_taken P (suc n) [] h = tt
each_taken P (suc n) (x ∷ xs) h = (h.0, each_taken P n xs h.1)

pub each_dropped : {A : Type 0} (P : A → Type 0) (n : ℕ) (xs : List A) → Each P xs → Each P (drop n xs)
each_dropped P zero xs h = h
each_dropped P (suc n) [] h = tt
each_dropped P (suc n) (x ∷ xs) h = each_dropped P n xs h.1

taken_few : {A : Type 0} (n : ℕ) (xs : List A) → length (take n xs) ≤ length xs
taken_few zero xs = omega arith
taken_few (suc n) [] = omega arith
taken_few (suc n) (x ∷ xs) = let few = taken_few n xs in omega (arith, few)

dropped_few : {A : Type 0} (n : ℕ) (xs : List A) → length (drop n xs) ≤ length xs
dropped_few zero xs = omega arith
dropped_few (suc n) [] = omega arith
dropped_few (suc n) (x ∷ xs) = let few = dropped_few n xs in omega (arith, few)

-- ---- what is read of bytes

abbrev pub Bytes : List ℕ → Type 0
Bytes bytes = Each (λ (b : ℕ). b < 256) bytes

abbrev Row : List ℕ → Type 0
Row words = Each (λ (w : ℕ). w < 65536) words

abbrev Table : List (List ℕ) → Type 0
Table rows = (length rows ≤ 65535) × Each Row rows

pub bytes_each : (bytes : List ℕ) → AreBytes bytes → Bytes bytes
bytes_each [] h = tt
bytes_each (b ∷ bytes) h = (h 0, bytes_each bytes (λ i. h (suc i)))

-- a reader reads such things, and leaves bytes
abbrev Reads : (A : Type 0) → (A → Type 0) → Reader A → Type 0
Reads A P read = (bytes : List ℕ) → Bytes bytes → (x : A × List ℕ) → read bytes ≡ Some x → P x.0 × Bytes x.1

word_reads : Reads ℕ (λ w. w < 65536) read_word
word_reads [] h x e = cc e
word_reads (a ∷ []) h x e = cc e
word_reads (a ∷ b ∷ rest) h x e =
    let same = same_Some (a + 256 * b, rest) x e in
    let low = h.0 in
    let high = h.1.0 in
    let fits : a + 256 * b < 65536 = omega (arith, low, high) in
    subst (λ (y : ℕ × List ℕ). (y.0 < 65536) × Bytes y.1) same (fits, h.1.1)

many_reads : (A : Type 0) (P : A → Type 0) (read : Reader A) → Reads A P read → (n : ℕ) → Reads (List A) (λ xs. (length xs ≡ n) × Each P xs) (many read n)
many_reads A P read one zero bytes h x e =
    let same = same_Some ([], bytes) x e in
    subst (λ (y : List A × List ℕ). ((length y.0 ≡ zero) × Each P y.0) × Bytes y.1) same ((refl, tt), h)
many_reads A P read one (suc n) bytes h x e =
    let a = some_back (read bytes) (λ (y : A × List ℕ). on_some (many read n y.1) (λ (ys : List A × List ℕ). Some (y.0 ∷ ys.0, ys.1))) x e in
    let b = some_back (many read n a.0.1) (λ (ys : List A × List ℕ). Some (a.0.0 ∷ ys.0, ys.1)) x a.2 in
    let first = one bytes h a.0 a.1 in
    let rest = many_reads A P read one n a.0.1 first.1 b.0 b.1 in
    let same = same_Some (a.0.0 ∷ b.0.0, b.0.1) x b.2 in
    subst (λ (y : List A × List ℕ). ((length y.0 ≡ suc n) × Each P y.0) × Bytes y.1) same ((ap suc rest.0.0, (first.0, rest.0.1)), rest.1)

row_reads : (w : ℕ) → Reads (List ℕ) Row (many read_word w)
row_reads w bytes h x e = let r = many_reads ℕ (λ n. n < 65536) read_word word_reads w bytes h x e in (r.0.1, r.1)

tables_read : (ws cs : List ℕ) → Row cs → Reads (List (List (List ℕ))) (Each Table) (read_tables ws cs)
tables_read [] cs few bytes h x e =
    let same = same_Some ([], bytes) x e in
    subst (λ (y : List (List (List ℕ)) × List ℕ). Each Table y.0 × Bytes y.1) same (tt, h)
tables_read (w ∷ ws) [] few bytes h x e = cc e
tables_read (w ∷ ws) (c ∷ cs) few bytes h x e =
    let a = some_back (many (many read_word w) c bytes) (λ (t : List (List ℕ) × List ℕ). on_some (read_tables ws cs t.1) (λ (ts : List (List (List ℕ)) × List ℕ). Some (t.0 ∷ ts.0, ts.1))) x e in
    let b = some_back (read_tables ws cs a.0.1) (λ (ts : List (List (List ℕ)) × List ℕ). Some (a.0.0 ∷ ts.0, ts.1)) x a.2 in
    let first = many_reads (List ℕ) Row (many read_word w) (row_reads w) c bytes h a.0 a.1 in
    let rest = tables_read ws cs few.1 a.0.1 first.1 b.0 b.1 in
    let same = same_Some (a.0.0 ∷ b.0.0, b.0.1) x b.2 in
    let count = first.0.0 in
    let low = few.0 in
    let short : length a.0.0 ≤ 65535 = omega (arith, count, low) in
    subst (λ (y : List (List (List ℕ)) × List ℕ). Each Table y.0 × Bytes y.1) same (((short, first.0.1), rest.0), rest.1)

marker_leaves : (ms bytes rest : List ℕ) → Bytes bytes → read_marker ms bytes ≡ Some rest → Bytes rest
marker_leaves [] bytes rest h e = let same : bytes ≡ rest = cc e in subst Bytes same h
marker_leaves (m ∷ ms) [] rest h e = cc e
marker_leaves (m ∷ ms) (b ∷ bytes) rest h e = by (marker_leaves ms bytes rest h.1) (nat_eq b m) e
  where
    by : (read_marker ms bytes ≡ Some rest → Bytes rest) → (t : Bool) → (if t then read_marker ms bytes else None) ≡ Some rest → Bytes rest
    by more true e = more e
    by more false e = absurd (cc e)

-- ---- an image of bytes

abbrev pub Fits : Image → Type 0
Fits i = Each Table i.tables

body_fits : (version : List ℕ) (name entry : ℕ) (counts lengths bytes : List ℕ) (i : Image) → Row counts → Bytes bytes → read_body version name entry counts lengths bytes ≡ Some i → Fits i
unfolding read_body
body_fits version name entry counts lengths bytes i few h e =
    let made : List (List (List ℕ)) → List (List ℕ) → Image = λ t p. record { version = version; name = name; entry = entry; tables = t; pools = p } in
    let zeros = padding (unpadded counts lengths) in
    let a = some_back (read_tables widths counts bytes) (λ (t : List (List (List ℕ)) × List ℕ). on_some (read_pools lengths t.1) (λ (p : List (List ℕ) × List ℕ). on_some (read_zeros zeros p.1) (λ (rest : List ℕ). Some (made t.0 p.0)))) i e in
    let b = some_back (read_pools lengths a.0.1) (λ (p : List (List ℕ) × List ℕ). on_some (read_zeros zeros p.1) (λ (rest : List ℕ). Some (made a.0.0 p.0))) i a.2 in
    let c = some_back (read_zeros zeros b.0.1) (λ (rest : List ℕ). Some (made a.0.0 b.0.0)) i b.2 in
    let same : made a.0.0 b.0.0 ≡ i = cc c.2 in
    subst Fits same (tables_read widths counts few bytes h a.0 a.1).0

checked_body : (t : Bool) (o : Option Image) (i : Image) → (if t then o else None) ≡ Some i → o ≡ Some i
checked_body true o i e = e
checked_body false o i e = cc e

pub view_fits : (bytes : List ℕ) → Bytes bytes → (i : Image) → view bytes ≡ Some i → Fits i
view_fits bytes h i e =
    let m = some_back (read_marker marker bytes) (λ (a : List ℕ). on_some (read_word a) with_low) i e in
    let h0 = marker_leaves marker bytes m.0 h m.1 in
    let low = some_back (read_word m.0) with_low i m.2 in
    let h1 = (word_reads m.0 h0 low.0 low.1).1 in
    let high = some_back (read_word low.0.1) (with_high low.0.0) i low.2 in
    let h2 = (word_reads low.0.1 h1 high.0 high.1).1 in
    let version = some_back (many read_word 4 high.0.1) (with_version low.0.0 high.0.0) i high.2 in
    let h3 = (row_reads 4 high.0.1 h2 version.0 version.1).1 in
    let name = some_back (read_word version.0.1) (with_name low.0.0 high.0.0 version.0.0) i version.2 in
    let h4 = (word_reads version.0.1 h3 name.0 name.1).1 in
    let entry = some_back (read_word name.0.1) (with_entry low.0.0 high.0.0 version.0.0 name.0.0) i name.2 in
    let h5 = (word_reads name.0.1 h4 entry.0 entry.1).1 in
    let counts = some_back (many read_word 11 entry.0.1) (with_counts low.0.0 high.0.0 version.0.0 name.0.0 entry.0.0) i entry.2 in
    let c = row_reads 11 entry.0.1 h5 counts.0 counts.1 in
    let lengths = some_back (many read_word 4 counts.0.1) (with_lengths low.0.0 high.0.0 version.0.0 name.0.0 entry.0.0 counts.0.0) i counts.2 in
    let h7 = (row_reads 4 counts.0.1 c.1 lengths.0 lengths.1).1 in
    let last = some_back (read_word lengths.0.1) (with_zero low.0.0 high.0.0 version.0.0 name.0.0 entry.0.0 counts.0.0 lengths.0.0) i lengths.2 in
    let h8 = (word_reads lengths.0.1 h7 last.0 last.1).1 in
    let size = unpadded counts.0.0 lengths.0.0 in
    body_fits version.0.0 name.0.0 entry.0.0 counts.0.0 lengths.0.0 last.0.1 i c.0 h8
    (checked_body (nat_eq last.0.0 0 && nat_eq (low.0.0 + 65536 * high.0.0) (size + padding size)) (read_body version.0.0 name.0.0 entry.0.0 counts.0.0 lengths.0.0 last.0.1) i last.2)

-- ---- its rows

checked_text : (b x : List ℕ) (t : Bool) → is_utf8 b ≡ t → checked t b ≡ Some x → IsUtf8 x
checked_text b x true q e = let same : b ≡ x = cc e in subst IsUtf8 same (IsUtf8-from_is_utf8 b q)
checked_text b x false q e = absurd (cc e)

name_is_text : (i : Image) (at : ℕ) (x : List ℕ) → name_in i at ≡ Some x → IsUtf8 x
name_is_text i at x e = let b = some_back (text_in i 0 at) name_text x e in checked_text b.0 x (is_utf8 b.0) refl b.2

module _ (i : Image) (fits : Fits i) where
  table_fits : (t : ℕ) → Table (table i t)
  table_fits t = by (slice_get i.tables t) refl
    where
      none : Table []
      none = (omega arith, tt)

      by : (o : Option (List (List ℕ))) → slice_get i.tables t ≡ o → Table (unwrap_or o [])
      by None at = none
      by (Some rows) at = each_at Table i.tables t rows fits at

  pub few_rows : (t : ℕ) → rows_of i t ≤ 65535
  few_rows t = by (slice_get i.tables t) refl
    where
      by : (o : Option (List (List ℕ))) → slice_get i.tables t ≡ o → rows_in o ≤ 65535
      by None at = omega arith
      by (Some rows) at = (each_at Table i.tables t rows fits at).0

  abbrev Starts : List RawClause → Type 0
  Starts xs = (length xs ≤ 65535) × Each (λ (x : RawClause). x.start < 65536) xs

  word_at : (ws : List ℕ) (k : ℕ) → Row ws → slice_index ws k < 65536
  word_at [] zero h = omega arith
  word_at [] (suc k) h = omega arith
  word_at (w ∷ ws) zero h = h.0
  word_at (w ∷ ws) (suc k) h = word_at ws k h.1

  clauses_fit : Starts (image_clauses i)
  clauses_fit = let t = table_fits 8 in by (table i 8) t.0 t.1
    where
      each : (rows : List (List ℕ)) → Each Row rows → Each (λ (x : RawClause). x.start < 65536) (map clause_of rows)
      each [] h = tt
      each (r ∷ rows) h = (word_at r 4 h.0, each rows h.1)

      same : (rows : List (List ℕ)) → length (map clause_of rows) ≡ length rows
      same [] = refl
      same (r ∷ rows) = ap suc (same rows)

      by : (rows : List (List ℕ)) → length rows ≤ 65535 → Each Row rows → Starts (map clause_of rows)
      by rows few h = let size = same rows in (omega (arith, few, size), each rows h)

  part_fits : (first count : ℕ) → Starts (part first count (image_clauses i))
  part_fits first count =
      let whole = clauses_fit in
      let behind = dropped_few first (image_clauses i) in
      let within = taken_few count (drop first (image_clauses i)) in
      let all = whole.0 in
      (omega (arith, behind, within, all), each_taken (λ (x : RawClause). x.start < 65536) count (drop first (image_clauses i)) (each_dropped (λ (x : RawClause). x.start < 65536) first (image_clauses i) whole.1))

  ranged_fits : (a b : Bool) (first count : ℕ) → Starts (if a then [] else (if b then [] else part first count (image_clauses i)))
  ranged_fits true b first count = (omega arith, tt)
  ranged_fits false true first count = (omega arith, tt)
  ranged_fits false false first count = part_fits first count

  module _ (rows : IsSome (image_rows i)) where
    code_words : (n : ℕ) (m : MethodRow) (c : RawCode) → slice_get (rows_seen i).methods n ≡ Some m → m.code ≡ Some c → HasWords c
    code_words n m c at code =
        elim (cases_lt n (rows_of i 7)) [
          | inl low ↦
              let t = method_there i rows n low in
              let same : t.of ≡ m = cc (sym t.row ∙ at) in
              let r = row_of i 7 n in
              let are : clauses_in t.of.code ≡ (if bit 16 (slice_index r 2) then [] else (if nat_eq (slice_index r 3) 65535 then [] else part (slice_index r 7) (slice_index r 8) (image_clauses i))) = t.read.are in
              let held : clauses_in t.of.code ≡ c.clauses = ap (λ (x : MethodRow). clauses_in x.code) same ∙ ap clauses_in code in
              let fit : Starts c.clauses = subst Starts (sym are ∙ held) (ranged_fits (bit 16 (slice_index r 2)) (nat_eq (slice_index r 3) 65535) (slice_index r 7) (slice_index r 8)) in
              made c fit
          | inr high ↦ absurd (gone n m high at)
        ]
      where
        made : (c : RawCode) → Starts c.clauses → HasWords c
        made c fit = record { clauses = fit.0; starts = λ k x e. each_at (λ (x : RawClause). x.start < 65536) c.clauses k x fit.1 e }

        gone : (n : ℕ) (m : MethodRow) → rows_of i 7 ≤ n → slice_get (rows_seen i).methods n ≡ Some m → ⊥
        gone n m high at =
            let read = parts_of i (rows_seen i) (seen_of i rows) in
            let none = past i 7 n (method_at (held i read.strings read.signatures read.interfaces read.clauses read.datas)) (rows_seen i).methods read.of_held.methods high in
            cc (sym none ∙ at)

    type_texts : (n : ℕ) (t : TypeRow) → slice_get (rows_seen i).types n ≡ Some t → IsUtf8 t.namespace × IsUtf8 t.name
    type_texts n t at =
        elim (cases_lt n (rows_of i 4)) [
          | inl low ↦
              let here = type_there i rows n low in
              let same : here.type ≡ t = cc (sym here.row ∙ at) in
              let space : here.namespace ≡ t.namespace = ap (λ (x : Named). x.namespace) (sym here.is) ∙ ap (λ (x : TypeRow). x.namespace) same in
              let name : here.name ≡ t.name = ap (λ (x : Named). x.name) (sym here.is) ∙ ap (λ (x : TypeRow). x.name) same in
              (subst IsUtf8 space (name_is_text i _ here.namespace here.spaced), subst IsUtf8 name (name_is_text i _ here.name here.named))
          | inr high ↦ absurd (gone high)
        ]
      where
        gone : rows_of i 4 ≤ n → ⊥
        gone high =
            let read = parts_of i (rows_seen i) (seen_of i rows) in
            let none = past i 4 n (type_at (held i read.strings read.signatures read.interfaces read.clauses read.datas)) (rows_seen i).types read.of_held.types high in
            cc (sym none ∙ at)

    pub image_stands : IsImage (rows_seen i)
    image_stands =
        let count = types_counted i rows (rows_of i 4) refl in
        let few = few_rows 4 in
        record { types = omega (arith, count, few); names = type_texts; known = all_known i rows; words = code_words }
