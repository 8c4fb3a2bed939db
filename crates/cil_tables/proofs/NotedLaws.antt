-- Rule 9 over stream headers whose offsets are noted.
use Rattle.std.proofs.Common.{◌≡◌, ℕ, zero, suc, ◌+◌, ◌<◌, ◌≤◌, Bool, true, false, not, ◌&&◌, ◌||◌, List, [], length, length-take-le, get_or-take, take, set, get_or-set_same, get_or-set_other, Some, None, refl, ap, sym, ◌∙◌, subst, arith, below_more, ◌≢◌}
use Rattle.std.specs.List.{list_any}
use Rattle.std.specs.List.Sorted.{IsStrictlyIncreasing}
use Rattle.std.proofs.lemmas.Slice.Eq.{bytes_eq-Decides}
use Rattle.file_tables.specs.Rules.{rule_at, first_broken}
use Rattle.file_tables.specs.Streams as streams
use Rattle.cil_tables.specs.Headers.{header_at, name_of, fits, AreNoted, AreAllNoted, Repeats, IsFirstRepeat}
use Rattle.cil_tables.specs.Place.{HasRoot}
use Rattle.cil_tables.specs.declared.root.Headers.{Headers}
use Rattle.cil_tables.specs.declared.headers.Noted.{Noted}
use Rattle.cil_tables.proofs.StreamLaws.{CheckedTo, checked_none, checked_more, all_kept, one_broken, streams_are}

-- the headers behind the first one
header_behind : (region : List ℕ) (first i : ℕ) → header_at region (streams.header_end (streams.stream_at region first)) i ≡ header_at region first (suc i)
unfolding header_at
header_behind region first zero = refl
header_behind region first (suc i) = ap (λ at. streams.header_end (streams.stream_at region at)) (header_behind region first i)

-- a test of each of the first k headers
any_of : (p : streams.Stream → Bool) (region : List ℕ) (first k i : ℕ) → i < k → p (streams.stream_at region (header_at region first i)) ≡ true → list_any p (streams.streams_from region first k) ≡ true
unfolding streams.streams_from header_at
any_of p region first zero i below h = absurd (omega arith)
any_of p region first (suc k) zero below h = rw h refl
any_of p region first (suc k) (suc i) below h =
    let rest : list_any p (streams.streams_from region (streams.header_end (streams.stream_at region first)) k) ≡ true =
    any_of p region (streams.header_end (streams.stream_at region first)) k i (omega arith) (subst (λ at. p (streams.stream_at region at) ≡ true) (sym (header_behind region first i)) h) in
    rw rest (elim (p (streams.stream_at region first)) as (λ b. (b || true) ≡ true) [ true ↦ refl | false ↦ refl ])

none_of : (p : streams.Stream → Bool) (region : List ℕ) (first k : ℕ) → ((i : ℕ) → i < k → p (streams.stream_at region (header_at region first i)) ≡ false) → list_any p (streams.streams_from region first k) ≡ false
unfolding streams.streams_from header_at
none_of p region first zero h = refl
none_of p region first (suc k) h =
    let here : p (streams.stream_at region first) ≡ false = h 0 (omega arith) in
    rw here (none_of p region (streams.header_end (streams.stream_at region first)) k (λ i below. subst (λ at. p (streams.stream_at region at) ≡ false) (sym (header_behind region first i)) (h (suc i) (omega arith))))

-- rule 9 for a header, in two parts
in_parts : (region : List ℕ) (at : ℕ) (earlier : List streams.Stream) → streams.is_stream region earlier (streams.stream_at region at) ≡ (fits region at && not (list_any (streams.has_name (name_of region at)) earlier))
unfolding streams.is_stream fits name_of
in_parts region at earlier = refl

-- no header is noted, and one more
pub noted_none : (region : List ℕ) (first : ℕ) (starts : List ℕ) → AreNoted region first 0 starts
noted_none region first starts = record { places = λ k below. absurd (omega arith); fit = λ k below. absurd (omega arith) }

pub noted_more : (region : List ℕ) (first k at : ℕ) (starts : List ℕ) → AreNoted region first k starts → at ≡ header_at region first k → fits region at ≡ true → k < length starts → AreNoted region first (k + 1) (set starts k at)
noted_more region first k at starts noted e fit room =
    record {
      places = below_more _ _ (λ i below. let other : i ≢ k = omega arith in rw get_or-set_other (noted.places i below)) (rw get_or-set_same e);
      fit = below_more _ _ noted.fit (subst (λ n. fits region n ≡ true) e fit);
    }

pub next_is : (region : List ℕ) (first k at end : ℕ) → at ≡ header_at region first k → end ≡ streams.header_end (streams.stream_at region at) → end ≡ header_at region first (k + 1)
unfolding header_at
next_is region first k at end e f = let same : k + 1 ≡ suc k = omega arith in rw same (f ∙ ap (λ n. streams.header_end (streams.stream_at region n)) e)

pub first_header : (region : List ℕ) (first : ℕ) → first ≡ header_at region first 0
unfolding header_at
first_header region first = refl

-- what is noted stands in the front of the list
front : (region : List ℕ) (first n : ℕ) (starts : List ℕ) → AreNoted region first n starts → AreNoted region first n (take n starts)
front region first n starts noted = record { places = λ k below. get_or-take n starts k 0 below ∙ noted.places k below; fit = noted.fit }

-- a later header begins at a larger offset
later : (region : List ℕ) (first k : ℕ) → header_at region first k < header_at region first (k + 1)
unfolding header_at streams.header_end streams.stream_at
later region first k = let same : k + 1 ≡ suc k = omega arith in rw same (omega arith)

not_true : (b : Bool) → ¬ (b ≡ true) → b ≡ false
not_true true h = absurd (h refl)
not_true false h = refl

module _ (region : List ℕ) (first n : ℕ) (starts : List ℕ) (noted : AreNoted region first n starts) where
  rising : length starts ≡ n → IsStrictlyIncreasing starts
  rising e k below = omega (arith, noted.places k (omega arith), noted.places (k + 1) (omega arith), later region first k)

  -- of headers that fit, one breaks rule 9 exactly where it has the name of an earlier one
  kept : (k : ℕ) → k < n → ¬ (Repeats region starts k) → streams.is_stream region (streams.streams_from region first k) (streams.stream_at region (header_at region first k)) ≡ true
  unfolding name_of
  kept k below new =
      let other : list_any (streams.has_name (name_of region (header_at region first k))) (streams.streams_from region first k) ≡ false =
      none_of (streams.has_name (name_of region (header_at region first k))) region first k
      (λ i order.
      not_true _ (λ same.
      new (i, order, ap (name_of region) (noted.places i (omega arith)) ∙ (bytes_eq-Decides _ _).0 same ∙ ap (name_of region) (sym (noted.places k below))))) in
      in_parts region (header_at region first k) (streams.streams_from region first k) ∙ rw (noted.fit k below, other) refl

  repeated : (k : ℕ) → k < n → Repeats region starts k → streams.is_stream region (streams.streams_from region first k) (streams.stream_at region (header_at region first k)) ≡ false
  unfolding name_of
  repeated k below (i, order, same) =
      let alike : name_of region (header_at region first i) ≡ name_of region (header_at region first k) = ap (name_of region) (sym (noted.places i (omega arith))) ∙ same ∙ ap (name_of region) (noted.places k below) in
      let one : list_any (streams.has_name (name_of region (header_at region first k))) (streams.streams_from region first k) ≡ true =
      any_of (streams.has_name (name_of region (header_at region first k))) region first k i order ((bytes_eq-Decides _ _).1 alike) in
      in_parts region (header_at region first k) (streams.streams_from region first k) ∙ rw (noted.fit k below, one) refl

  -- none of the first k breaks it
  checked : (k : ℕ) → k ≤ n → ((j : ℕ) → j < k → ¬ (Repeats region starts j)) → CheckedTo region first k (header_at region first k)
  unfolding header_at
  checked zero below new = checked_none region first
  checked (suc k) below new =
      let same : k + 1 ≡ suc k = omega arith in
      subst (λ m. CheckedTo region first m (header_at region first (suc k))) same
      (checked_more region first k (header_at region first k) (header_at region first (suc k)) (checked k (omega arith) (λ j order. new j (omega arith))) (kept k (omega arith) (new k (omega arith))) refl)

  broken_name : (count at : ℕ) → length starts ≡ n → n ≤ count → IsFirstRepeat region starts at → first_broken (streams.rules_of_streams region [] (streams.streams_from region first count)) ≡ Some (rule_at 9 at false).fault
  broken_name count at e most repeat =
      let below : repeat.place < n = omega (arith, repeat.inside) in
      one_broken region first repeat.place count (header_at region first repeat.place) (checked repeat.place (omega arith) repeat.first) (omega arith) (repeated repeat.place below repeat.repeats)
      ∙ ap (λ m. Some (rule_at 9 m false).fault) (sym (noted.places repeat.place below) ∙ repeat.begins)

  broken_header : (count at : ℕ) → ((j : ℕ) → j < n → ¬ (Repeats region starts j)) → n < count → at ≡ header_at region first n → fits region at ≡ false → first_broken (streams.rules_of_streams region [] (streams.streams_from region first count)) ≡ Some (rule_at 9 at false).fault
  broken_header count at new less e unfit =
      let out : fits region (header_at region first n) ≡ false = subst (λ m. fits region m ≡ false) e unfit in
      one_broken region first n count (header_at region first n) (checked n (omega arith) new) less (in_parts region (header_at region first n) (streams.streams_from region first n) ∙ rw out refl)
      ∙ ap (λ m. Some (rule_at 9 m false).fault) (sym e)

  none_broken : (count : ℕ) → ((j : ℕ) → j < n → ¬ (Repeats region starts j)) → n ≡ count → first_broken (streams.rules_of_streams region [] (streams.streams_from region first count)) ≡ None
  none_broken count new e = all_kept region first n count (header_at region first n) (checked n (omega arith) new) e

-- what the noted headers of a root tell of rule 9
module _ (region : List ℕ) (h : Headers) (starts : List ℕ) (n : Noted) (root : HasRoot region h) (all : AreAllNoted region h starts n) (room : n.count ≤ length starts) where
  pub noted_rise : IsStrictlyIncreasing (take n.count starts)
  noted_rise = rising region h.first n.count (take n.count starts) (front region h.first n.count starts all.noted) (length-take-le n.count starts room)

  pub name_breaks : (at : ℕ) → IsFirstRepeat region (take n.count starts) at → first_broken (streams.rules_of_streams region [] (streams.streams_of region)) ≡ Some (rule_at 9 at false).fault
  name_breaks at repeat =
      rw (streams_are region h root)
      (broken_name region h.first n.count (take n.count starts) (front region h.first n.count starts all.noted) h.count at (length-take-le n.count starts room) all.most repeat)

  pub header_breaks : ((j : ℕ) → j < length (take n.count starts) → ¬ (Repeats region (take n.count starts) j)) → n.count < h.count → first_broken (streams.rules_of_streams region [] (streams.streams_of region)) ≡ Some (rule_at 9 n.next false).fault
  header_breaks new less =
      let len : length (take n.count starts) ≡ n.count = length-take-le n.count starts room in
      rw (streams_are region h root)
      (broken_header region h.first n.count (take n.count starts) (front region h.first n.count starts all.noted) h.count n.next (λ j below. new j (omega arith)) less all.next (all.stops less))

  pub none_breaks : ((j : ℕ) → j < length (take n.count starts) → ¬ (Repeats region (take n.count starts) j)) → h.count ≤ n.count → first_broken (streams.rules_of_streams region [] (streams.streams_of region)) ≡ None
  none_breaks new past =
      let len : length (take n.count starts) ≡ n.count = length-take-le n.count starts room in
      rw (streams_are region h root)
      (none_broken region h.first n.count (take n.count starts) (front region h.first n.count starts all.noted) h.count (λ j below. new j (omega arith)) (omega (arith, all.most)))

-- no header is left
pub all_noted : (region : List ℕ) (h : Headers) (starts : List ℕ) (k at : ℕ) → AreNoted region h.first k starts → at ≡ header_at region h.first k → at ≤ length region → k ≤ h.count → h.count ≤ k → AreAllNoted region h starts (record { count = h.count; next = at })
all_noted region h starts k at noted e inside most past =
    let same : k ≡ h.count = omega arith in
    record {
      noted = subst (λ n. AreNoted region h.first n starts) same noted;
      most = omega arith;
      next = e ∙ ap (header_at region h.first) same;
      within = inside;
      stops = λ less. absurd (omega arith);
    }
