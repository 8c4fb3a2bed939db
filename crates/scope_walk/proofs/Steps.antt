-- The steps of the code as steps of the walk.
use Rattle.std.proofs.Common.{◌≡◌, ℕ, zero, suc, ◌+◌, ◌<◌, ◌≤◌, ◌⊎◌, inl, inr, List, [], ◌∷◌, ◌++◌, length, Option, Some, None, Result, Ok, Err, refl, sym, ap, ◌∙◌, map, arith, get_or, subst, length-append}
use Rattle.std.specs.Prelude.{slice_get, slice_index, slice_set, OnOk, count_by, is_some}
use Rattle.std.proofs.lemmas.Bool.{cases_eq, cases_lt}
use Rattle.std.proofs.lemmas.List.{length-set}
use Rattle.std.proofs.lemmas.Option.{slice_get-map, slice_get-get_or, slice_get_within}
use Rattle.std.proofs.Math.ListN.{get_or-append}
use Rattle.member_keys.specs.declared.keys.ClassId.{ClassId}
use Rattle.scope_walk.specs.declared.walk.Walk.{Walk}
use Rattle.member_keys.specs.Seen.{class_seen}
use Rattle.scope_walk.specs.Walk.{value_at, AreEmpty, IsStarted, AreNested, IsWalked}
use Rattle.scope_walk.specs.Visits.{Visits}
use Rattle.scope_walk.proofs.Walks.{value_same, value_other, visit_settles, visit_keeps}
use Rattle.std.specs.Option.{option_map, option_map_or}
use Rattle.machine.specs.Throw.{on_some}
use Rattle.assemblies.specs.Rows.{Assembly}
use Rattle.scope_walk.proofs.Lists.{past_none}
use Rattle.scope_walk.specs.Scopes.{references_in, reference_at, outer_row, parent_of, inner_of}

pub no_parent : (ps : List Assembly) (file n : ℕ) → reference_at ps file n ≡ None → parent_of ps file n ≡ None
no_parent ps file n e = ap (λ o. on_some o (λ x. outer_row x.scope)) e

pub on_ok : {T E : Type 0} {P Q : Type 0} (r : Result T E) → (P → Q) → OnOk r P → OnOk r Q
on_ok (Ok x) f p = f p
on_ok (Err e) f p = tt

pub lists_at : {A B : Type 0} (f : A → B) (xs : List A) (i : ℕ) (x : A) (rows : B) → i < length xs → x ≡ get_or xs i x → rows ≡ f x → slice_get (map f xs) i ≡ Some rows
lists_at f xs i x rows within is same = slice_get-map f xs i ∙ ap (option_map f) (slice_get-get_or xs i x within) ∙ ap (λ y. Some (f y)) (sym is) ∙ ap Some (sym same)

-- a row with a parent is a row
pub below_end : (ps : List Assembly) (file end n m : ℕ) → ((k : ℕ) → end ≤ k → reference_at ps file k ≡ None) → parent_of ps file n ≡ Some m → n < end
below_end ps file end n m whole p = go (cases_lt n end)
  where
    go : (n < end) ⊎ (end ≤ n) → n < end
    go (inl below) = below
    go (inr past) = cc (sym p ∙ no_parent ps file n (whole n past))

-- what a visit leaves
pub record IsVisited (ps : List Assembly) (file : ℕ) (old new : Walk) (at m n : ℕ) (c : ClassId) : Type 0 where
  pub size : length new.resolved.items ≡ length old.resolved.items
  pub low : at < length new.found.items
  pub place : slice_index new.found.items at ≡ m
  pub walked : IsWalked ps file new.resolved.items new.found.items at
  pub outer : value_at new.resolved.items m ≡ Some (class_seen c)
  pub now : value_at new.resolved.items n ≡ inner_of ps file (class_seen c) n
  pub others : (k : ℕ) → (k ≡ n → ⊥) → value_at new.resolved.items k ≡ value_at old.resolved.items k

pub visit_step : (ps : List Assembly) (file : ℕ) (old new : Walk) (at m n : ℕ) (c : ClassId) → IsWalked ps file old.resolved.items old.found.items at → at < length old.found.items → slice_index old.found.items at ≡ m → value_at old.resolved.items m ≡ Some (class_seen c) → ((k : ℕ) → length old.resolved.items ≤ k → reference_at ps file k ≡ None) → parent_of ps file n ≡ Some m → Visits ps file (class_seen c) n old new → IsVisited ps file old new at m n c
visit_step ps file old new at m n c walked low place outer whole p (inr passes) = record {
  size = ap length passes.keeps.resolved;
  low = subst (λ fs. at < length fs) (sym passes.keeps.found) low;
  place = ap (λ fs. slice_index fs at) passes.keeps.found ∙ place;
  walked = subst (λ xs. IsWalked ps file xs new.found.items at) (sym passes.keeps.resolved) (subst (λ fs. IsWalked ps file old.resolved.items fs at) (sym passes.keeps.found) walked);
  outer = ap (λ xs. value_at xs m) passes.keeps.resolved ∙ outer;
  now = ap (λ xs. value_at xs n) passes.keeps.resolved ∙ visit_keeps ps file old.resolved.items old.found.items at m c walked low place outer whole n p passes.none;
  others = λ k apart. ap (λ xs. value_at xs k) passes.keeps.resolved;
}
visit_step ps file old new at m n c walked low place outer whole p (inl finds) = record {
  size = ap length finds.settles.resolved ∙ length-set old.resolved.items n (Some finds.class);
  low = subst (λ fs. at < length fs) (sym finds.settles.found) (omega (arith, length-append old.found.items (n ∷ [])));
  place = ap (λ fs. slice_index fs at) finds.settles.found ∙ get_or-append old.found.items (n ∷ []) 0 at low ∙ place;
  walked =
      subst (λ xs. IsWalked ps file xs new.found.items at) (sym finds.settles.resolved)
      (subst (λ fs. IsWalked ps file (slice_set old.resolved.items n (Some finds.class)) fs at) (sym finds.settles.found)
      (visit_settles ps file old.resolved.items old.found.items at m c walked low place outer whole n finds.class p finds.fresh finds.names));
  outer = ap (λ xs. value_at xs m) finds.settles.resolved ∙ value_other old.resolved.items n m finds.class apart ∙ outer;
  now = ap (λ xs. value_at xs n) finds.settles.resolved ∙ value_same old.resolved.items n finds.class (slice_get_within old.resolved.items n None finds.fresh) ∙ sym finds.names;
  others = λ k other. ap (λ xs. value_at xs k) finds.settles.resolved ∙ value_other old.resolved.items n k finds.class other;
}
  where
    apart : m ≡ n → ⊥
    apart e = cc (sym outer ∙ ap (value_at old.resolved.items) e ∙ ap (λ o. on_some o (option_map class_seen)) finds.fresh)

-- the rows up to a place, where that one is added
pub handled_more : (ps : List Assembly) (file : ℕ) (old new : Walk) (at m : ℕ) (c : ClassId) (rows : List ℕ) (j : ℕ) → IsVisited ps file old new at m (slice_index rows j) c → ((i : ℕ) → i < j → value_at old.resolved.items (slice_index rows i) ≡ inner_of ps file (class_seen c) (slice_index rows i)) → (i : ℕ) → i < j + 1 → value_at new.resolved.items (slice_index rows i) ≡ inner_of ps file (class_seen c) (slice_index rows i)
handled_more ps file old new at m c rows j visited handled i below = go (cases_eq (slice_index rows i) (slice_index rows j)) (cases_eq i j)
  where
    go : (slice_index rows i ≡ slice_index rows j) ⊎ (slice_index rows i ≡ slice_index rows j → ⊥) → (i ≡ j) ⊎ (i ≡ j → ⊥) → value_at new.resolved.items (slice_index rows i) ≡ inner_of ps file (class_seen c) (slice_index rows i)
    go (inl same) either = ap (value_at new.resolved.items) same ∙ visited.now ∙ ap (inner_of ps file (class_seen c)) (sym same)
    go (inr apart) (inl e) = absurd (apart (ap (slice_index rows) e))
    go (inr apart) (inr e) = visited.others (slice_index rows i) apart ∙ handled i (omega arith)

-- ---- the beginning

pub unset_more : (xs : List (Option ClassId)) → ((n : ℕ) → value_at xs n ≡ None) → (n : ℕ) → value_at (xs ++ None ∷ []) n ≡ None
unset_more [] h zero = refl
unset_more [] h (suc n) = refl
unset_more (x ∷ xs) h zero = h zero
unset_more (x ∷ xs) h (suc n) = unset_more xs (λ k. h (suc k)) n

pub empty_more : (xs : List (List ℕ)) → AreEmpty xs → AreEmpty (xs ++ [] ∷ [])
empty_more [] h zero rows e = cc e
empty_more [] h (suc n) rows e = cc e
empty_more (x ∷ xs) h zero rows e = h zero rows e
empty_more (x ∷ xs) h (suc n) rows e = empty_more xs (λ k. h (suc k)) n rows e

pub starts : (ps : List Assembly) (file : ℕ) (xs : List (Option ClassId)) → count_by is_some xs ≡ 0 → ((n : ℕ) → value_at xs n ≡ None) → IsStarted ps file xs [] 0
starts ps file xs counted unset = record {
  is_sound = record { counted = sym counted; inside = λ i h. absurd (omega arith); sound = λ n c e. cc (sym (unset n) ∙ e) };
  waits = λ n c e. cc (sym (unset n) ∙ e);
  roots = λ n h. absurd (omega arith);
  unset = λ n h. unset n;
}

pub nests : (ps : List Assembly) (file : ℕ) (nested : List (List ℕ)) → AreEmpty nested → AreNested ps file nested 0
nests ps file nested empty = record {
  all = λ n m rows h. absurd (omega arith);
  only = λ m rows i e h. let none = ap length (empty m rows e) in absurd (omega arith);
}

pub past_count : (ps : List Assembly) (file n : ℕ) → references_in ps file ≤ n → reference_at ps file n ≡ None
past_count ps file n = go (slice_get ps file)
  where
    go : (o : Option Assembly) → option_map_or (λ (p : Assembly). length p.refs) o 0 ≤ n → on_some o (λ p. slice_get p.refs n) ≡ None
    go None past = refl
    go (Some p) past = past_none p.refs n past
