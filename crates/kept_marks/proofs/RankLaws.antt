-- Ranks of rows, and numbers among the kept rows of a table.
use Rattle.std.proofs.Common.{◌≡◌, ◌⊎◌, inl, inr, ⊎_elim, ℕ, zero, suc, ◌+◌, ◌-◌, ◌<◌, ◌≤◌, min, Bool, true, false, List, [], ◌∷◌, ◌++◌, length, length-append, Option, Some, None, refl, sym, ap, ◌∙◌, subst, arith}
use Rattle.std.specs.Prelude.{nat_lt, if◌then◌else◌, slice_get, slice_index_or}
use Rattle.std.specs.Option.{option_map, option_map_or}
use Rattle.std.proofs.lemmas.Bool.{cases_lt, lt-ltb, le-ltb}
use Rattle.std.proofs.lemmas.Option.{slice_get_read}
use Rattle.machine.specs.Throw.{on_some}
use Rattle.kept_rows.specs.Select.{below}
use Rattle.assemblies.specs.Rows.{Assembly}
use Rattle.assemblies.proofs.Numbered.{below_next}
use Rattle.row_closure.specs.Closure.{holds}
use Rattle.row_closure.proofs.Places.{get_push}
use Rattle.row_numbers.specs.declared.table.Table.{Table}
use Rattle.row_numbers.specs.declared.table.Table.TheVariants as table
use Rattle.kept_numbers.specs.Numbers.{number_of, place_in, start_of}
use Rattle.row_numbers.specs.Tables.{row_in, table_length, first_number, AreCounts, range_by}
use Rattle.kept_marks.specs.Ranks.{rank, AreRanks}
use Rattle.row_numbers.specs.declared.table.TableRange.{TableRange}
use Rattle.row_numbers.proofs.RangeLaws.{found_by}
use Rattle.kept_marks.specs.Kept.{Marked, is_kept, kept_row, kept_count, marked_in, marked}

-- ---- ranks one after the other

pub record AreFew (marks : List Bool) (ranks : List ℕ) (done count : ℕ) : Type 0 where
  pub rows : length ranks ≡ done
  pub counted : count ≡ rank marks done
  pub small : count ≤ done
  pub each : (n r : ℕ) → slice_get ranks n ≡ Some r → r ≡ rank marks n

pub none_yet : (marks : List Bool) → AreFew marks [] 0 0
none_yet marks = record { rows = refl; counted = refl; small = omega arith; each = λ n r e. cc e }

pushed : (marks : List Bool) (ranks : List ℕ) (done count : ℕ) → AreFew marks ranks done count → (n r : ℕ) → (slice_get ranks n ≡ Some r) ⊎ ((n ≡ length ranks) × (r ≡ count)) → r ≡ rank marks n
pushed marks ranks done count few n r (inl e) = few.each n r e
pushed marks ranks done count few n r (inr e) = e.1 ∙ few.counted ∙ ap (rank marks) (sym (e.0 ∙ few.rows))

next_rank : (marks : List Bool) (n : ℕ) → rank marks (n + 1) ≡ (if holds marks n then suc (rank marks n) else rank marks n)
next_rank marks n = let more : n + 1 ≡ suc n = omega arith in ap (rank marks) more ∙ below_next (holds marks) n

pub one_kept : (marks : List Bool) (ranks : List ℕ) (done count : ℕ) → AreFew marks ranks done count → holds marks done ≡ true → AreFew marks (ranks ++ count ∷ []) (done + 1) (count + 1)
one_kept marks ranks done count few is = record {
  rows = omega (arith, few.rows, length-append ranks (count ∷ []));
  counted = let next = next_rank marks done ∙ ap (λ (b : Bool). if b then suc (rank marks done) else rank marks done) is in omega (arith, next, few.counted);
  small = omega (arith, few.small);
  each = λ n r e. pushed marks ranks done count few n r (get_push ranks count n r e);
}

pub one_left : (marks : List Bool) (ranks : List ℕ) (done count : ℕ) → AreFew marks ranks done count → holds marks done ≡ false → AreFew marks (ranks ++ count ∷ []) (done + 1) count
one_left marks ranks done count few is = record {
  rows = omega (arith, few.rows, length-append ranks (count ∷ []));
  counted = let next = next_rank marks done ∙ ap (λ (b : Bool). if b then suc (rank marks done) else rank marks done) is in omega (arith, next, few.counted);
  small = omega (arith, few.small);
  each = λ n r e. pushed marks ranks done count few n r (get_push ranks count n r e);
}

pub whole : (marks : List Bool) (ranks : List ℕ) (done count : ℕ) → done ≡ length marks → AreFew marks ranks done count → AreRanks marks (ranks ++ count ∷ [])
whole marks ranks done count is few = record {
  rows = omega (arith, is, few.rows, length-append ranks (count ∷ []));
  each = λ n r e. pushed marks ranks done count few n r (get_push ranks count n r e);
}

-- ---- rows of a table

-- more rows, no fewer of them kept
pub rank_grows : (marks : List Bool) (m k : ℕ) → rank marks m ≤ rank marks (m + k)
rank_grows marks m zero = let same : m + 0 ≡ m = omega arith in let is = ap (rank marks) same in omega (arith, is)
rank_grows marks m (suc k) =
    let ih = rank_grows marks m k in
    let same : m + suc k ≡ suc (m + k) = omega arith in
    let next = ap (rank marks) same ∙ below_next (holds marks) (m + k) in
    go (holds marks (m + k)) next ih
  where
    go : (b : Bool) → rank marks (m + suc k) ≡ (if b then suc (rank marks (m + k)) else rank marks (m + k)) → rank marks m ≤ rank marks (m + k) → rank marks m ≤ rank marks (m + suc k)
    go true e h = omega (arith, e, h)
    go false e h = omega (arith, e, h)

-- behind the last row none is kept
past : (marks : List Bool) (n : ℕ) → length marks ≤ n → holds marks n ≡ false
past [] n le = refl
past (b ∷ marks) zero le = absurd (omega (arith, le))
past (b ∷ marks) (suc n) le = past marks n (omega (arith, le))

rank_past : (marks : List Bool) (k : ℕ) → rank marks (length marks + k) ≡ rank marks (length marks)
rank_past marks zero = let same : length marks + 0 ≡ length marks = omega arith in ap (rank marks) same
rank_past marks (suc k) =
    let same : length marks + suc k ≡ suc (length marks + k) = omega arith in
    let none = past marks (length marks + k) (omega arith) in
    ap (rank marks) same ∙ below_next (holds marks) (length marks + k) ∙ ap (λ (b : Bool). if b then suc (rank marks (length marks + k)) else rank marks (length marks + k)) none ∙ rank_past marks k

pub rank_min : (marks : List Bool) (n : ℕ) → rank marks (min n (length marks)) ≡ rank marks n
rank_min marks n =
    ⊎_elim
    (λ lt. let same : min n (length marks) ≡ n = omega (arith, lt) in ap (rank marks) same)
    (λ le.
    let same : min n (length marks) ≡ length marks = omega (arith, le) in
    let sum : length marks + (n - length marks) ≡ n = omega (arith, le) in
    ap (rank marks) same ∙ sym (rank_past marks (n - length marks)) ∙ ap (rank marks) sum)
    (cases_lt n (length marks))

module _ (ps : List Assembly) (marks : List Bool) (t : Table) (f : ℕ) where
  -- a row's number, from that of the first one
  further : (p : Assembly) → slice_get ps f ≡ Some p → (n : ℕ) → number_of ps (row_in t f n) ≡ number_of ps (row_in t f 0) + n
  further p at n = go t
    where
      at_place : (g : ℕ) → place_in p (row_in t f g) ≡ place_in p (row_in t f 0) + g → start_of ps f + place_in p (row_in t f g) ≡ (start_of ps f + place_in p (row_in t f 0)) + g
      at_place g e = omega (arith, e)

      go : (t : Table) → number_of ps (row_in t f n) ≡ number_of ps (row_in t f 0) + n
      go table.AssemblyRef = rw at (omega arith)
      go table.TypeRef = rw at (omega arith)
      go table.FieldRef = rw at (omega arith)
      go table.MethodRef = rw at (omega arith)
      go table.TypeDef = rw at (omega arith)
      go table.Field = rw at (omega arith)
      go table.MethodDef = rw at (omega arith)
      go table.TypeSpec = rw at (omega arith)

  abbrev len : ℕ
  len = option_map_or (λ (p : Assembly). table_length p t) (slice_get ps f) 0

  -- where there is no such assembly, no row of it is
  nothing : slice_get ps f ≡ None → (n : ℕ) → is_kept ps marks t f n ≡ false
  nothing e n = ap (λ o. option_map_or (λ k. holds marks k) (on_some o (λ (p : Assembly). if nat_lt n (table_length p t) then Some (number_of ps (row_in t f n)) else None)) false) e

  pub no_first : first_number ps t f ≡ None → slice_get ps f ≡ None
  no_first e = go (slice_get ps f) e
    where
      go : (o : Option Assembly) → option_map (λ (p : Assembly). number_of ps (row_in t f 0)) o ≡ None → o ≡ None
      go None e = refl
      go (Some p) e = absurd (cc e)

  pub a_first : (k : ℕ) → first_number ps t f ≡ Some k → (p : Assembly) × (slice_get ps f ≡ Some p) × (k ≡ number_of ps (row_in t f 0))
  a_first k e = go (slice_get ps f) refl e
    where
      go : (o : Option Assembly) → slice_get ps f ≡ o → option_map (λ (p : Assembly). number_of ps (row_in t f 0)) o ≡ Some k → (p : Assembly) × (slice_get ps f ≡ Some p) × (k ≡ number_of ps (row_in t f 0))
      go None at e = absurd (cc e)
      go (Some p) at e = let same : number_of ps (row_in t f 0) ≡ k = cc e in (p, at, sym same)

  pub no_row : (n : ℕ) → is_kept ps marks t f n ≡ false → None ≡ kept_row ps marks t f n
  no_row n e = sym (ap (λ (b : Bool). if b then Some (below (is_kept ps marks t f) n) else None) e)

  -- behind the last row of a table
  behind : (n : ℕ) → len ≤ n → is_kept ps marks t f n ≡ false
  behind n le = go (slice_get ps f) refl le
    where
      go : (o : Option Assembly) → slice_get ps f ≡ o → option_map_or (λ (p : Assembly). table_length p t) o 0 ≤ n → is_kept ps marks t f n ≡ false
      go None at le = nothing at n
      go (Some p) at le =
          ap (λ o. option_map_or (λ k. holds marks k) (on_some o (λ (p : Assembly). if nat_lt n (table_length p t) then Some (number_of ps (row_in t f n)) else None)) false) at
          ∙ ap (λ (b : Bool). option_map_or (λ k. holds marks k) (if b then Some (number_of ps (row_in t f n)) else None) false) (le-ltb n (table_length p t) le)

  pub none_behind : (n : ℕ) → len ≤ n → None ≡ kept_row ps marks t f n
  none_behind n le = no_row n (behind n le)

  pub none_at_all : slice_get ps f ≡ None → (n : ℕ) → None ≡ kept_row ps marks t f n
  none_at_all e n = no_row n (nothing e n)

  pub count_none : slice_get ps f ≡ None → 0 ≡ kept_count ps marks t f
  count_none e = sym (ap (λ o. below (is_kept ps marks t f) (option_map_or (λ (p : Assembly). table_length p t) o 0)) e)

  module _ (first : ℕ) (p : Assembly) (at : slice_get ps f ≡ Some p) (is : first ≡ number_of ps (row_in t f 0)) where
    abbrev keep : ℕ → Bool
    keep = is_kept ps marks t f

    long : len ≡ table_length p t
    long = ap (λ o. option_map_or (λ (p : Assembly). table_length p t) o 0) at

    kept_at : (n : ℕ) → n < len → keep n ≡ holds marks (first + n)
    kept_at n lt =
        let short : n < table_length p t = omega (arith, lt, long) in
        ap (λ o. option_map_or (λ k. holds marks k) (on_some o (λ (p : Assembly). if nat_lt n (table_length p t) then Some (number_of ps (row_in t f n)) else None)) false) at
        ∙ ap (λ (b : Bool). option_map_or (λ k. holds marks k) (if b then Some (number_of ps (row_in t f n)) else None) false) (lt-ltb n (table_length p t) short)
        ∙ ap (holds marks) (further p at n ∙ ap (λ k. k + n) (sym is))

    rank_in : (n : ℕ) → n ≤ len → rank marks (first + n) ≡ rank marks first + below keep n
    rank_in zero le = let same : first + 0 ≡ first = omega arith in let sum : rank marks first ≡ rank marks first + 0 = omega arith in ap (rank marks) same ∙ sum
    rank_in (suc n) le =
        let ih = rank_in n (omega (arith, le)) in
        let same : first + suc n ≡ suc (first + n) = omega arith in
        let low = ap (rank marks) same ∙ below_next (holds marks) (first + n) in
        let high = below_next keep n ∙ ap (λ (b : Bool). if b then suc (below keep n) else below keep n) (kept_at n (omega (arith, le))) in
        go (holds marks (first + n)) low high ih
      where
        go : (b : Bool) → rank marks (first + suc n) ≡ (if b then suc (rank marks (first + n)) else rank marks (first + n)) → below keep (suc n) ≡ (if b then suc (below keep n) else below keep n) → rank marks (first + n) ≡ rank marks first + below keep n → rank marks (first + suc n) ≡ rank marks first + below keep (suc n)
        go true e g h = omega (arith, e, g, h)
        go false e g h = omega (arith, e, g, h)

    pub row_kept : (n r : ℕ) → n < len → holds marks (first + n) ≡ true → rank marks first + r ≡ rank marks (first + n) → Some r ≡ kept_row ps marks t f n
    row_kept n r lt h sum =
        let same : r ≡ below keep n = let in_table = rank_in n (omega (arith, lt)) in omega (arith, sum, in_table) in
        ap Some same ∙ sym (ap (λ (b : Bool). if b then Some (below keep n) else None) (kept_at n lt ∙ h))

    pub row_left : (n : ℕ) → n < len → holds marks (first + n) ≡ false → None ≡ kept_row ps marks t f n
    row_left n lt h = no_row n (kept_at n lt ∙ h)

    pub count_is : (r : ℕ) → rank marks first + r ≡ rank marks (first + len) → r ≡ kept_count ps marks t f
    count_is r sum = let in_table = rank_in len (omega arith) in omega (arith, sum, in_table)

-- ---- the ranks of two numbers

pub rank_read : (marks : List Bool) (ranks : List ℕ) → AreRanks marks ranks → (a i x : ℕ) → i ≡ min a (length marks) → x ≡ slice_index_or ranks i x → x ≡ rank marks a
rank_read marks ranks are a i x is e =
    let there = slice_get_read ranks (length ranks) i x refl (omega (arith, is, are.rows)) e in
    are.each i x there ∙ ap (rank marks) is ∙ rank_min marks a

pub rank_below : (marks : List Bool) (a b : ℕ) → a ≤ b → rank marks a ≤ rank marks b
rank_below marks a b le = let sum : a + (b - a) ≡ b = omega (arith, le) in subst (λ n. rank marks a ≤ rank marks n) sum (rank_grows marks a (b - a))

-- ---- by the counts alone

module _ (marks : List Bool) (r : TableRange) where
  abbrev held : ℕ → Bool
  held = marked_in marks r

  held_at : (n : ℕ) → n < r.count → held n ≡ holds marks (r.first + n)
  held_at n lt = ap (λ (b : Bool). if b then holds marks (r.first + n) else false) (lt-ltb n r.count lt)

  held_past : (n : ℕ) → r.count ≤ n → held n ≡ false
  held_past n le = ap (λ (b : Bool). if b then holds marks (r.first + n) else false) (le-ltb n r.count le)

  rank_held : (n : ℕ) → n ≤ r.count → rank marks (r.first + n) ≡ rank marks r.first + below held n
  rank_held zero le = let same : r.first + 0 ≡ r.first = omega arith in let sum : rank marks r.first ≡ rank marks r.first + 0 = omega arith in ap (rank marks) same ∙ sum
  rank_held (suc n) le =
      let ih = rank_held n (omega (arith, le)) in
      let same : r.first + suc n ≡ suc (r.first + n) = omega arith in
      let low = ap (rank marks) same ∙ below_next (holds marks) (r.first + n) in
      let high = below_next held n ∙ ap (λ (b : Bool). if b then suc (below held n) else below held n) (held_at n (omega (arith, le))) in
      go (holds marks (r.first + n)) low high ih
    where
      go : (b : Bool) → rank marks (r.first + suc n) ≡ (if b then suc (rank marks (r.first + n)) else rank marks (r.first + n)) → below held (suc n) ≡ (if b then suc (below held n) else below held n) → rank marks (r.first + n) ≡ rank marks r.first + below held n → rank marks (r.first + suc n) ≡ rank marks r.first + below held (suc n)
      go true e g h = omega (arith, e, g, h)
      go false e g h = omega (arith, e, g, h)

  below_past : (k : ℕ) → below held (r.count + k) ≡ below held r.count
  below_past zero = let same : r.count + 0 ≡ r.count = omega arith in ap (below held) same
  below_past (suc k) =
      let same : r.count + suc k ≡ suc (r.count + k) = omega arith in
      let none = held_past (r.count + k) (omega arith) in
      ap (below held) same ∙ below_next held (r.count + k) ∙ ap (λ (b : Bool). if b then suc (below held (r.count + k)) else below held (r.count + k)) none ∙ below_past k

  pub below_is : (row few n : ℕ) → few ≡ min row r.count → rank marks r.first + n ≡ rank marks (r.first + few) → n ≡ below held row
  below_is row few n is sum =
      ⊎_elim
      (λ lt.
      let same : few ≡ row = omega (arith, is, lt) in
      let low : rank marks (r.first + few) ≡ rank marks (r.first + row) = ap (λ k. rank marks (r.first + k)) same in
      let high = rank_held row (omega (arith, lt)) in
      omega (arith, sum, low, high))
      (λ le.
      let same : few ≡ r.count = omega (arith, is, le) in
      let low : rank marks (r.first + few) ≡ rank marks (r.first + r.count) = ap (λ k. rank marks (r.first + k)) same in
      let high = rank_held r.count (omega arith) in
      let more : r.count + (row - r.count) ≡ row = omega (arith, le) in
      let whole = below_past (row - r.count) in
      let end : below held (r.count + (row - r.count)) ≡ below held row = ap (below held) more in
      omega (arith, sum, low, high, whole, end))
      (cases_lt row r.count)

-- those that are marked are those that are kept
pub marked_is : (ps : List Assembly) (k : Marked) (t : Table) (f n : ℕ) → AreCounts ps k.counts → marked k t f n ≡ is_kept ps k.marks t f n
marked_is ps k t f n are =
    go (nat_lt n (range_by k.counts t f).count) ((range_by k.counts t f).first + n)
    ∙ sym (ap (λ o. option_map_or (λ i. holds k.marks i) o false) (found_by ps k.counts are t f n))
  where
    go : (b : Bool) (at : ℕ) → (if b then holds k.marks at else false) ≡ option_map_or (λ i. holds k.marks i) (if b then Some at else None) false
    go true at = refl
    go false at = refl
