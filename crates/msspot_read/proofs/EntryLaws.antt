-- The entries of a pool, gone over one by one.
use Rattle.std.proofs.Common.{◌≡◌, ℕ, zero, suc, ◌+◌, ◌-◌, ◌*◌, ◌<◌, ◌≤◌, Bool, true, false, ◌&&◌, ◌||◌, List, [], ◌∷◌, ◌++◌, length, take, drop, Option, Some, None, refl, sym, ap, ◌∙◌, arith, length-drop, length-take-le, append_assoc, inl, inr}
use Rattle.std.specs.Prelude.{nat_eq, nat_lt, nat_le, is_some, if◌then◌else◌}
use Rattle.std.specs.Option.{option_map}
use Rattle.std.proofs.lemmas.Bool.{leb-true, leb-false, cases_Bool, cases_eq, cases_lt, eq-eqb, ne_eqb, lt-ltb, le-ltb}
use Rattle.std.proofs.lemmas.List.{drop-drop, drop_all, append-nil}
use Rattle.std.proofs.lemmas.Option.{none-some, same_Some}
use Rattle.machine.specs.Throw.{on_some}
use Rattle.image_pools.specs.Pools.{entry_size, text_at, texts_of}
use Rattle.image_form.specs.Whole.{texts_in}
use Rattle.msspot_read.specs.Forms.{passes}
use Rattle.msspot_read.specs.Marked.{is_marked}
use Rattle.msspot_read.specs.Entry.{first_text}
use Rattle.msspot_read.proofs.Moves.{bytes_front, bytes_short}

-- ---- one entry

-- what is behind the first entry
abbrev behind_first : List ℕ → List ℕ → List ℕ
behind_first t bytes = drop (length t) (drop 2 bytes)

abbrev onward : ℕ → List ℕ → Option (List ℕ) → Option (List (List ℕ))
onward n bytes o = on_some o (λ t. option_map (λ ts. t ∷ ts) (texts_of n (behind_first t bytes)))

mapped : {A B : Type 0} (o : Option A) (f : A → B) → on_some o (λ x. Some (f x)) ≡ option_map f o
mapped None f = refl
mapped (Some x) f = refl

texts_step : (n b : ℕ) (bytes : List ℕ) → texts_of (suc n) (b ∷ bytes) ≡ onward n (b ∷ bytes) (first_text (b ∷ bytes))
unfolding first_text
texts_step n low [] = refl
texts_step n low (high ∷ rest) =
    elim (cases_Bool (nat_le (low + 256 * high) (length rest))) [
      | inl t ↦
          let le : low + 256 * high ≤ length rest = leb-true (low + 256 * high) (length rest) t in
          let text = take (low + 256 * high) rest in
          let len : low + 256 * high ≡ length text = sym (length-take-le (low + 256 * high) rest le) in
          ap (λ o. on_some o (λ (x : List ℕ × List ℕ). on_some (texts_of n x.1) (λ ts. Some (x.0 ∷ ts)))) (bytes_front (low + 256 * high) rest le)
          ∙ mapped (texts_of n (drop (low + 256 * high) rest)) (λ ts. text ∷ ts)
          ∙ ap (λ k. option_map (λ ts. text ∷ ts) (texts_of n (drop k rest))) len
          ∙ sym (ap (λ b. onward n (low ∷ high ∷ rest) (if b then Some text else None)) t)
      | inr f ↦
          ap (λ o. on_some o (λ (x : List ℕ × List ℕ). on_some (texts_of n x.1) (λ ts. Some (x.0 ∷ ts)))) (bytes_short (low + 256 * high) rest (leb-false (low + 256 * high) (length rest) f))
          ∙ sym (ap (λ b. onward n (low ∷ high ∷ rest) (if b then Some (take (low + 256 * high) rest) else None)) f)
    ]

-- bytes that are there are an entry and more
step_at : (n : ℕ) (bytes : List ℕ) → 0 < length bytes → texts_of (suc n) bytes ≡ onward n bytes (first_text bytes)
step_at n [] h = absurd (omega arith)
step_at n (b ∷ bytes) h = texts_step n b bytes

text_long : (bytes t : List ℕ) → first_text bytes ≡ Some t → 2 + length t ≤ length bytes
unfolding first_text
text_long [] t e = absurd (none-some t e)
text_long (low ∷ []) t e = absurd (none-some t e)
text_long (low ∷ high ∷ rest) t e =
    elim (cases_Bool (nat_le (low + 256 * high) (length rest))) [
      | inl b ↦
          let le : low + 256 * high ≤ length rest = leb-true (low + 256 * high) (length rest) b in
          let same : take (low + 256 * high) rest ≡ t = same_Some _ _ (sym (ap (λ b. if b then Some (take (low + 256 * high) rest) else None) b) ∙ e) in
          let len : length t ≡ low + 256 * high = sym (ap length same) ∙ length-take-le (low + 256 * high) rest le in
          omega (arith, len, le)
      | inr f ↦ absurd (none-some t (sym (ap (λ b. if b then Some (take (low + 256 * high) rest) else None) f) ∙ e))
    ]

-- ---- texts by their offsets

abbrev pub sizes : List (List ℕ) → ℕ
sizes [] = 0
sizes (t ∷ ts) = entry_size t + sizes ts

if_true : {A : Type 0} (b : Bool) (x y : A) → b ≡ true → (if b then x else y) ≡ x
if_true true x y e = refl
if_true false x y e = absurd (cc e)

if_false : {A : Type 0} (b : Bool) (x y : A) → b ≡ false → (if b then x else y) ≡ y
if_false true x y e = absurd (cc e)
if_false false x y e = refl

at_start : (t : List ℕ) (ts : List (List ℕ)) (k : ℕ) → k ≡ 0 → text_at (t ∷ ts) k ≡ Some t
at_start t ts k e = if_true (nat_eq k 0) (Some t) _ (eq-eqb k 0 e)

at_inside : (t : List ℕ) (ts : List (List ℕ)) (k : ℕ) → (k ≡ 0 → ⊥) → k < entry_size t → text_at (t ∷ ts) k ≡ None
at_inside t ts k other h = if_false (nat_eq k 0) (Some t) _ (ne_eqb k 0 other) ∙ if_true (nat_lt k (entry_size t)) None _ (lt-ltb k (entry_size t) h)

at_behind : (t : List ℕ) (ts : List (List ℕ)) (k : ℕ) → entry_size t ≤ k → text_at (t ∷ ts) k ≡ text_at ts (k - entry_size t)
at_behind t ts k h =
    if_false (nat_eq k 0) (Some t) _ (ne_eqb k 0 (λ e. omega (arith, e, h))) ∙ if_false (nat_lt k (entry_size t)) None (text_at ts (k - entry_size t)) (le-ltb k (entry_size t) h)

text_new : (front : List (List ℕ)) (t : List ℕ) (k : ℕ) → k ≡ sizes front → text_at (front ++ t ∷ []) k ≡ Some t
text_new [] t k e = at_start t [] k e
text_new (x ∷ xs) t k e = at_behind x (xs ++ t ∷ []) k (omega (arith, e)) ∙ text_new xs t (k - entry_size x) (omega (arith, e))

text_old : (front : List (List ℕ)) (t : List ℕ) (k : ℕ) → (k ≡ sizes front → ⊥) → text_at (front ++ t ∷ []) k ≡ text_at front k
text_old [] t k other =
    elim (cases_lt k (entry_size t)) [
      | inl lt ↦ at_inside t [] k other lt
      | inr le ↦ at_behind t [] k le
    ]
text_old (x ∷ xs) t k other =
    elim (cases_eq k 0) [
      | inl start ↦ at_start x (xs ++ t ∷ []) k start ∙ sym (at_start x xs k start)
      | inr later ↦
          elim (cases_lt k (entry_size x)) [
            | inl lt ↦ at_inside x (xs ++ t ∷ []) k later lt ∙ sym (at_inside x xs k later lt)
            | inr le ↦ at_behind x (xs ++ t ∷ []) k le ∙ text_old xs t (k - entry_size x) (λ e. other (omega (arith, e, le))) ∙ sym (at_behind x xs k le)
          ]
    ]

text_past : (front : List (List ℕ)) (k : ℕ) → sizes front ≤ k → text_at front k ≡ None
text_past [] k h = refl
text_past (x ∷ xs) k h = at_behind x xs k (omega arith) ∙ text_past xs (k - entry_size x) (omega arith)

sizes_push : (front : List (List ℕ)) (t : List ℕ) → sizes (front ++ t ∷ []) ≡ sizes front + (2 + length t)
sizes_push [] t = omega arith
sizes_push (x ∷ xs) t = let ih = sizes_push xs t in omega (arith, ih)

or_false : (b : Bool) → (b || false) ≡ b
or_false true = refl
or_false false = refl

no_more : (n : ℕ) (front : List (List ℕ)) → option_map (λ ts. front ++ ts) (texts_of n []) ≡ Some front
no_more zero front = ap Some (append-nil front)
no_more (suc n) front = ap Some (append-nil front)

-- ---- the walk

-- gone over up to a place, with these entries behind it
pub record Walked (pool : List ℕ) (at : ℕ) (test : List ℕ → Bool) (marks : List ℕ) : Type 0 where
  pub front : List (List ℕ)
  pub fuel : ℕ
  pub inside : at ≤ length pool
  pub enough : length (drop at pool) ≤ fuel
  pub same : texts_in pool ≡ option_map (λ ts. front ++ ts) (texts_of fuel (drop at pool))
  pub size : at ≡ sizes front
  pub marked : (k : ℕ) → is_marked marks k ≡ passes test (text_at front k)

same_map : {A : Type 0} (o : Option A) → o ≡ option_map (λ x. x) o
same_map None = refl
same_map (Some x) = refl

pub walk_starts : (pool : List ℕ) (test : List ℕ → Bool) (marks : List ℕ) → ((k : ℕ) → is_marked marks k ≡ false) → Walked pool 0 test marks
walk_starts pool test marks none = record {
  front = [];
  fuel = length pool;
  inside = omega arith;
  enough = omega arith;
  same = same_map (texts_of (length pool) pool);
  size = refl;
  marked = none;
}

pushed : (front : List (List ℕ)) (t : List ℕ) (o : Option (List (List ℕ))) → option_map (λ ts. front ++ ts) (option_map (λ ts. t ∷ ts) o) ≡ option_map (λ ts. (front ++ t ∷ []) ++ ts) o
pushed front t None = refl
pushed front t (Some ts) = ap Some (sym (append_assoc front (t ∷ []) ts))

-- what is left in a walk that isn't over
record Left (pool : List ℕ) (at : ℕ) (front : List (List ℕ)) : Type 0 where
  fuel : ℕ
  enough : length (drop at pool) ≤ fuel + 1
  same : texts_in pool ≡ option_map (λ ts. front ++ ts) (onward fuel (drop at pool) (first_text (drop at pool)))

left_of : (pool : List ℕ) (at fuel : ℕ) (front : List (List ℕ)) → at < length pool → length (drop at pool) ≤ fuel → texts_in pool ≡ option_map (λ ts. front ++ ts) (texts_of fuel (drop at pool)) → Left pool at front
left_of pool at zero front h enough same = absurd (omega (arith, enough, length-drop at pool))
left_of pool at (suc n) front h enough same = record {
  fuel = n;
  enough = omega (arith, enough);
  same = same ∙ ap (option_map (λ ts. front ++ ts)) (step_at n (drop at pool) (omega (arith, length-drop at pool)));
}

pub walk_stops : (pool : List ℕ) (at : ℕ) (test : List ℕ → Bool) (marks : List ℕ) → Walked pool at test marks → at < length pool → None ≡ first_text (drop at pool) → texts_in pool ≡ None
walk_stops pool at test marks w h e =
    let l = left_of pool at w.fuel w.front h w.enough w.same in
    l.same ∙ ap (λ o. option_map (λ ts. w.front ++ ts) (onward l.fuel (drop at pool) o)) (sym e)

pub walk_goes_on : (pool : List ℕ) (at next : ℕ) (test : List ℕ → Bool) (marks marks' t : List ℕ) → Walked pool at test marks → at < length pool → Some t ≡ first_text (drop at pool) → next ≡ at + (2 + length t)
    → ((k : ℕ) → is_marked marks' k ≡ (nat_eq k at && test t || is_marked marks k)) → Walked pool next test marks'
walk_goes_on pool at next test marks marks' t w h e n noted =
    let l = left_of pool at w.fuel w.front h w.enough w.same in
    let long : 2 + length t ≤ length (drop at pool) = text_long (drop at pool) t (sym e) in
    let len : length (drop at pool) ≡ length pool - at = length-drop at pool in
    let next_is : at + 2 + length t ≡ next = omega (arith, n) in
    let rest : behind_first t (drop at pool) ≡ drop next pool = ap (drop (length t)) (drop-drop 2 at pool) ∙ drop-drop (length t) (at + 2) pool ∙ ap (λ k. drop k pool) next_is in
    let rest_len : length (drop next pool) ≡ length pool - next = length-drop next pool in
    record {
      front = w.front ++ t ∷ [];
      fuel = l.fuel;
      inside = omega (arith, n, long, len);
      enough = omega (arith, n, long, len, rest_len, l.enough);
      same =
          l.same
          ∙ ap (λ o. option_map (λ ts. w.front ++ ts) (onward l.fuel (drop at pool) o)) (sym e)
          ∙ pushed w.front t (texts_of l.fuel (behind_first t (drop at pool)))
          ∙ ap (λ r. option_map (λ ts. (w.front ++ t ∷ []) ++ ts) (texts_of l.fuel r)) rest;
      size = n ∙ ap (λ k. k + (2 + length t)) w.size ∙ sym (sizes_push w.front t);
      marked = λ k.
          elim (cases_eq k at) [
            | inl here ↦
                noted k
                ∙ ap (λ b. b && test t || is_marked marks k) (eq-eqb k at here)
                ∙ ap (λ b. test t || b) (w.marked k ∙ ap (passes test) (text_past w.front k (omega (arith, here, w.size))))
                ∙ or_false (test t)
                ∙ sym (ap (passes test) (text_new w.front t k (here ∙ w.size)))
            | inr other ↦
                noted k
                ∙ ap (λ b. b && test t || is_marked marks k) (ne_eqb k at other)
                ∙ w.marked k
                ∙ sym (ap (passes test) (text_old w.front t k (λ e. other (e ∙ sym w.size))))
          ];
    }

pub walk_ends : (pool : List ℕ) (at : ℕ) (test : List ℕ → Bool) (marks : List ℕ) → Walked pool at test marks → length pool ≤ at → (is_some (texts_in pool) ≡ true) × ((k : ℕ) → is_marked marks k ≡ passes test (on_some (texts_in pool) (λ ts. text_at ts k)))
walk_ends pool at test marks w h =
    let nothing : drop at pool ≡ [] = drop_all at pool h in
    let texts : texts_in pool ≡ Some w.front = w.same ∙ ap (λ r. option_map (λ ts. w.front ++ ts) (texts_of w.fuel r)) nothing ∙ no_more w.fuel w.front in
    (ap is_some texts, λ k. w.marked k ∙ sym (ap (λ o. passes test (on_some o (λ ts. text_at ts k))) texts))

-- ---- the text at an offset is the first one from there on

onward_back : (n : ℕ) (bytes : List ℕ) (ts : List (List ℕ)) (o : Option (List ℕ)) → onward n bytes o ≡ Some ts → (t : List ℕ) × (us : List (List ℕ)) × (o ≡ Some t) × (texts_of n (behind_first t bytes) ≡ Some us) × (ts ≡ t ∷ us)
onward_back n bytes ts None e = absurd (none-some ts e)
onward_back n bytes ts (Some t) e = by (texts_of n (behind_first t bytes)) refl e where
  by : (p : Option (List (List ℕ))) → texts_of n (behind_first t bytes) ≡ p → option_map (λ us. t ∷ us) p ≡ Some ts → (u : List ℕ) × (us : List (List ℕ)) × (Some t ≡ Some u) × (texts_of n (behind_first u bytes) ≡ Some us) × (ts ≡ u ∷ us)
  by None q f = absurd (none-some ts f)
  by (Some us) q f = (t, us, refl, q, sym (same_Some (t ∷ us) ts f))

pub text_there : (n : ℕ) (bytes : List ℕ) (ts : List (List ℕ)) (at : ℕ) (t : List ℕ) → texts_of n bytes ≡ Some ts → text_at ts at ≡ Some t → first_text (drop at bytes) ≡ Some t
text_there n [] ts at t e f = absurd (none-some t (ap (λ us. text_at us at) (same_Some [] ts (no_texts n ∙ e)) ∙ f)) where
  no_texts : (m : ℕ) → Some [] ≡ texts_of m []
  no_texts zero = refl
  no_texts (suc m) = refl
text_there zero (b ∷ bytes) ts at t e f = absurd (none-some ts e)
text_there (suc n) (b ∷ bytes) ts at t e f =
    let parts = onward_back n (b ∷ bytes) ts (first_text (b ∷ bytes)) (sym (texts_step n b bytes) ∙ e) in
    let first = parts.0 in
    let others = parts.1 in
    let listed : text_at (first ∷ others) at ≡ Some t = ap (λ us. text_at us at) (sym parts.4) ∙ f in
    elim (cases_eq at 0) [
      | inl start ↦
          let same : Some first ≡ Some t = sym (at_start first others at start) ∙ listed in
          ap (λ k. first_text (drop k (b ∷ bytes))) start ∙ parts.2 ∙ same
      | inr later ↦
          elim (cases_lt at (entry_size first)) [
            | inl lt ↦ absurd (none-some t (sym (at_inside first others at later lt) ∙ listed))
            | inr le ↦
                let place : 2 + length first + (at - entry_size first) ≡ at = omega (arith, le) in
                ap first_text (sym (drop-drop (at - entry_size first) (length first) (drop 2 (b ∷ bytes)) ∙ drop-drop (length first + (at - entry_size first)) 2 (b ∷ bytes) ∙ ap (λ k. drop k (b ∷ bytes)) (omega (arith, place))))
                ∙ text_there n (behind_first first (b ∷ bytes)) others (at - entry_size first) t parts.3 (sym (at_behind first others at le) ∙ listed)
          ]
    ]
