-- Stream headers.
use Rattle.std.proofs.Common.{◌≡◌, ℕ, suc, ◌+◌, ◌*◌, ◌/◌, Bool, true, false, cond, ◌≤◌, ◌&&◌, subst, Some, None, List, [], ◌∷◌, ◌++◌, append_assoc, ◌<◌, ◌-◌, length, take, drop, ap, sym, ◌∙◌, refl, arith}
use Rattle.std.specs.List.{position_or_len, find}
use Rattle.std.proofs.lemmas.List.{take_all}
use Rattle.file_tables.specs.Heaps.{before_zero}
use Rattle.std.proofs.lemmas.Bool.{leb-true}
use Rattle.file_tables.specs.Rules.{rule_at, first_broken}
use Rattle.file_tables.specs.Streams as streams
use Rattle.cil_tables.specs.Place.{HasRoot}
use Rattle.cil_tables.specs.declared.root.Headers.{Headers}
use Rattle.cil_tables.specs.Texts.{is_zero, IsFirstZero}

pub name_is : (region : List ℕ) (at n : ℕ) (bytes : List ℕ) → bytes ≡ drop (at + 8) region → IsFirstZero bytes n → take n bytes ≡ (streams.stream_at region at).name
unfolding streams.stream_at before_zero
name_is region at n bytes e zero = rw (← e, zero.place) refl

pub name_is_all : (region : List ℕ) (at : ℕ) (bytes : List ℕ) → bytes ≡ drop (at + 8) region → position_or_len is_zero bytes ≡ length bytes → bytes ≡ (streams.stream_at region at).name
unfolding streams.stream_at before_zero
name_is_all region at bytes e none = rw (← e, none) (sym (take_all (length bytes) bytes (omega arith)))

pub end_is : (region : List ℕ) (at n : ℕ) (name : List ℕ) → name ≡ (streams.stream_at region at).name → n ≡ at + 12 + 4 * (length name / 4) → n ≡ streams.header_end (streams.stream_at region at)
unfolding streams.stream_at streams.header_end
end_is region at n name e f = f ∙ ap (λ (x : List ℕ). at + 12 + 4 * (length x / 4)) e

-- the search goes on at the header at, behind k headers
abbrev pub SearchedTo : List ℕ → List ℕ → ℕ → ℕ → ℕ → Type 0
SearchedTo region name first k at = (n : ℕ) → find (streams.has_name name) (streams.streams_from region first (k + n)) ≡ find (streams.has_name name) (streams.streams_from region at n)

pub searched_none : (region name : List ℕ) (first : ℕ) → SearchedTo region name first 0 first
searched_none region name first n = let e : 0 + n ≡ n = omega arith in rw e refl

pub searched_more : (region name : List ℕ) (first k at end : ℕ) → SearchedTo region name first k at → streams.has_name name (streams.stream_at region at) ≡ false → end ≡ streams.header_end (streams.stream_at region at) → SearchedTo region name first (k + 1) end
unfolding streams.streams_from
searched_more region name first k at end searched other e n =
    let same : k + 1 + n ≡ k + suc n = omega arith in
    rw same (searched (suc n) ∙ rw (other, ← e) refl)

pub searched_all : (region name : List ℕ) (first k count at : ℕ) → SearchedTo region name first k at → k ≡ count → find (streams.has_name name) (streams.streams_from region first count) ≡ None
unfolding streams.streams_from
searched_all region name first k count at searched e =
    let same : count ≡ k + 0 = omega arith in
    rw same (searched 0)

pub searched_found : (region name : List ℕ) (first k count at : ℕ) → SearchedTo region name first k at → k < count → streams.has_name name (streams.stream_at region at) ≡ true → find (streams.has_name name) (streams.streams_from region first count) ≡ Some (streams.stream_at region at)
unfolding streams.streams_from
searched_found region name first k count at searched below here =
    let same : count ≡ k + suc (count - k - 1) = omega arith in
    rw same (searched (suc (count - k - 1)) ∙ rw here refl)

-- the first k streams, and what rule 9 says from the header at on
pub record CheckedTo (region : List ℕ) (first k at : ℕ) : Type 0 where
  pub split : (n : ℕ) → streams.streams_from region first (k + n) ≡ streams.streams_from region first k ++ streams.streams_from region at n
  pub rules : (n : ℕ) → first_broken (streams.rules_of_streams region [] (streams.streams_from region first (k + n))) ≡ first_broken (streams.rules_of_streams region (streams.streams_from region first k) (streams.streams_from region at n))

pub checked_none : (region : List ℕ) (first : ℕ) → CheckedTo region first 0 first
unfolding streams.streams_from
checked_none region first =
    record {
      split = λ n. let e : 0 + n ≡ n = omega arith in rw e refl;
      rules = λ n. let e : 0 + n ≡ n = omega arith in rw e refl;
    }

pub checked_more : (region : List ℕ) (first k at end : ℕ) → CheckedTo region first k at → streams.is_stream region (streams.streams_from region first k) (streams.stream_at region at) ≡ true → end ≡ streams.header_end (streams.stream_at region at) → CheckedTo region first (k + 1) end
unfolding streams.streams_from streams.rules_of_streams
checked_more region first k at end checked kept e =
    let one : streams.streams_from region first (k + 1) ≡ streams.streams_from region first k ++ streams.stream_at region at ∷ [] = checked.split 1 in
    record {
      split = λ n. let same : k + 1 + n ≡ k + suc n = omega arith in rw (same, one, e) (checked.split (suc n) ∙ sym (append_assoc (streams.streams_from region first k) (streams.stream_at region at ∷ []) (streams.streams_from region (streams.header_end (streams.stream_at region at)) n)));
      rules = λ n. let same : k + 1 + n ≡ k + suc n = omega arith in rw (same, one, e) (checked.rules (suc n) ∙ rw kept refl);
    }

pub all_kept : (region : List ℕ) (first k count at : ℕ) → CheckedTo region first k at → k ≡ count → first_broken (streams.rules_of_streams region [] (streams.streams_from region first count)) ≡ None
unfolding streams.streams_from streams.rules_of_streams
all_kept region first k count at checked e =
    let same : count ≡ k + 0 = omega arith in
    rw same (checked.rules 0)

pub one_broken : (region : List ℕ) (first k count at : ℕ) → CheckedTo region first k at → k < count → streams.is_stream region (streams.streams_from region first k) (streams.stream_at region at) ≡ false → first_broken (streams.rules_of_streams region [] (streams.streams_from region first count)) ≡ Some (rule_at 9 at false).fault
unfolding streams.streams_from streams.rules_of_streams streams.stream_at
one_broken region first k count at checked below bad =
    let same : count ≡ k + suc (count - k - 1) = omega arith in
    rw same (checked.rules (suc (count - k - 1)) ∙ rw bad refl)

pub streams_are : (region : List ℕ) (h : Headers) → HasRoot region h → streams.streams_of region ≡ streams.streams_from region h.first h.count
unfolding streams.streams_of
streams_are region h root = rw (← root.first, ← root.count) refl

and_both : (a b : Bool) → (a && b) ≡ true → (a ≡ true) × (b ≡ true)
and_both true b h = (refl, h)
and_both false b h = cc

range_inside : (region : List ℕ) (earlier : List streams.Stream) (s : streams.Stream) → streams.is_stream region earlier s ≡ true → s.offset + s.size ≤ length region
unfolding streams.is_stream
range_inside region earlier s h = leb-true (s.offset + s.size) (length region) (and_both _ _ (and_both _ _ h).0).1

-- a stream that is found lies inside the region
pub found_inside : (region : List ℕ) (earlier rest : List streams.Stream) (p : streams.Stream → Bool) (s : streams.Stream) → first_broken (streams.rules_of_streams region earlier rest) ≡ None → find p rest ≡ Some s → s.offset + s.size ≤ length region
unfolding streams.rules_of_streams
found_inside region earlier [] p s kept found = absurd cc
found_inside region earlier (x ∷ xs) p s kept found =
    elim (streams.is_stream region earlier x) as (λ b. streams.is_stream region earlier x ≡ b → cond b (first_broken (streams.rules_of_streams region (earlier ++ x ∷ []) xs)) (Some (rule_at 9 x.header false).fault) ≡ None → s.offset + s.size ≤ length region) [
      | false ↦ λ e h. absurd cc
      | true ↦ λ e h.
          elim (p x) as (λ b. cond b (Some x) (find p xs) ≡ Some s → s.offset + s.size ≤ length region) [
            | true ↦ λ f. let same : x ≡ s = cc in subst (λ (y : streams.Stream). y.offset + y.size ≤ length region) same (range_inside region earlier x e)
            | false ↦ λ f. found_inside region (earlier ++ x ∷ []) xs p s h f
          ] found
    ] refl kept

pub named_inside : (region name : List ℕ) (s : streams.Stream) → first_broken (streams.rules_of_streams region [] (streams.streams_of region)) ≡ None → streams.stream_named region name ≡ Some s → s.offset + s.size ≤ length region
unfolding streams.stream_named
named_inside region name s kept found = found_inside region [] (streams.streams_of region) (streams.has_name name) s kept found
