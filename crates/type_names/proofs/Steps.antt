-- The steps of the code as steps of the walk.
use Rattle.std.proofs.Common.{◌≡◌, ℕ, zero, suc, ◌+◌, ◌<◌, ◌≤◌, ◌⊎◌, inl, inr, List, [], ◌∷◌, ◌++◌, length, Option, Some, None, Result, Ok, Err, refl, sym, ap, ◌∙◌, map, arith, get_or, subst, length-append}
use Rattle.std.specs.Prelude.{slice_get, slice_index, slice_set, OnOk, count_by, is_some}
use Rattle.std.proofs.lemmas.Bool.{cases_eq, cases_lt}
use Rattle.std.proofs.lemmas.List.{length-set, length-map}
use Rattle.std.proofs.lemmas.Option.{slice_get-map, slice_get-get_or, slice_get_within}
use Rattle.std.proofs.Math.ListN.{get_or-append}
use Rattle.member_keys.specs.declared.keys.ClassId.{ClassId}
use Rattle.type_names.specs.declared.walk.Walk.{Walk}
use Rattle.type_names.specs.declared.reference.Scope.{Scope}
use Rattle.type_names.specs.declared.reference.Scope.TheVariants.{Assembly, Outer, Nowhere}
use Rattle.member_keys.specs.Seen.{class_seen}
use Rattle.type_names.specs.Walk.{value_at, AreEmpty, IsStarted, AreNested, IsWalked}
use Rattle.type_names.specs.Visits.{Visits}
use Rattle.file_tables.specs.Metadata.{row_count, rows_of}
use Rattle.world_rows.specs.Tokens.{type_refs}
use Rattle.world_rows.specs.Rows.{type_ref}
use Rattle.world_rows.specs.World.{rows_alone, reference_count, size_of}
use Rattle.type_names.proofs.ReferenceLaws.{no_file, reference_past}
use Rattle.type_names.proofs.Walks.{value_same, value_other, visit_settles, visit_keeps}
use Rattle.std.specs.Option.{option_map, option_map_or}
use Rattle.file_tables.specs.File.{FilePart}
use Rattle.machine.specs.Data.{Id}
use Rattle.machine.specs.Throw.{on_some}
use Rattle.assemblies.specs.Rows.{TypeRefRow}
use Rattle.type_names.specs.References.{scope_seen, references_in, reference_at, outer_row, named_alone, named_inside, parent_of, root_of, inner_of}

-- of a row whose reference is known
pub parent_is : (files : List FilePart) (file n : ℕ) (r : TypeRefRow) → reference_at files file n ≡ Some r → parent_of files file n ≡ outer_row r.scope
parent_is files file n r e = ap (λ o. on_some o (λ x. outer_row x.scope)) e

pub root_is : (files : List FilePart) (file n : ℕ) (r : TypeRefRow) → reference_at files file n ≡ Some r → root_of files file n ≡ named_alone files file r
root_is files file n r e = ap (λ o. on_some o (named_alone files file)) e

pub inner_is : (files : List FilePart) (file n : ℕ) (c : Id) (r : TypeRefRow) → reference_at files file n ≡ Some r → inner_of files file c n ≡ named_inside files c r
inner_is files file n c r e = ap (λ o. on_some o (named_inside files c)) e

pub no_parent : (files : List FilePart) (file n : ℕ) → reference_at files file n ≡ None → parent_of files file n ≡ None
no_parent files file n e = ap (λ o. on_some o (λ x. outer_row x.scope)) e

pub no_root : (files : List FilePart) (file n : ℕ) → reference_at files file n ≡ None → root_of files file n ≡ None
no_root files file n e = ap (λ o. on_some o (named_alone files file)) e

pub on_ok : {T E : Type 0} {P Q : Type 0} (r : Result T E) → (P → Q) → OnOk r P → OnOk r Q
on_ok (Ok x) f p = f p
on_ok (Err e) f p = tt

-- a scope that isn't another reference
pub not_inside : (s : Scope) → ((m : ℕ) → s ≡ Outer m → ⊥) → outer_row (scope_seen s) ≡ None
not_inside (Assembly n) h = refl
not_inside (Outer m) h = absurd (h m refl)
not_inside Nowhere h = refl

pub lists_at : {A B : Type 0} (f : A → B) (xs : List A) (i : ℕ) (x : A) (rows : B) → i < length xs → x ≡ get_or xs i x → rows ≡ f x → slice_get (map f xs) i ≡ Some rows
lists_at f xs i x rows within is same = slice_get-map f xs i ∙ ap (option_map f) (slice_get-get_or xs i x within) ∙ ap (λ y. Some (f y)) (sym is) ∙ ap Some (sym same)

-- a row with a parent is a row
pub below_end : (files : List FilePart) (file end n m : ℕ) → ((k : ℕ) → end ≤ k → reference_at files file k ≡ None) → parent_of files file n ≡ Some m → n < end
below_end files file end n m whole p = go (cases_lt n end)
  where
    go : (n < end) ⊎ (end ≤ n) → n < end
    go (inl below) = below
    go (inr past) = cc (sym p ∙ no_parent files file n (whole n past))

-- what a visit leaves
pub record IsVisited (files : List FilePart) (file : ℕ) (old new : Walk) (at m n : ℕ) (c : ClassId) : Type 0 where
  pub size : length new.resolved.items ≡ length old.resolved.items
  pub low : at < length new.found.items
  pub place : slice_index new.found.items at ≡ m
  pub walked : IsWalked files file new.resolved.items new.found.items at
  pub outer : value_at new.resolved.items m ≡ Some (class_seen c)
  pub now : value_at new.resolved.items n ≡ inner_of files file (class_seen c) n
  pub others : (k : ℕ) → (k ≡ n → ⊥) → value_at new.resolved.items k ≡ value_at old.resolved.items k

pub visit_step : (files : List FilePart) (file : ℕ) (old new : Walk) (at m n : ℕ) (c : ClassId) → IsWalked files file old.resolved.items old.found.items at → at < length old.found.items → slice_index old.found.items at ≡ m → value_at old.resolved.items m ≡ Some (class_seen c) → ((k : ℕ) → length old.resolved.items ≤ k → reference_at files file k ≡ None) → parent_of files file n ≡ Some m → Visits files file (class_seen c) n old new → IsVisited files file old new at m n c
visit_step files file old new at m n c walked low place outer whole p (inr passes) = record {
  size = ap length passes.keeps.resolved;
  low = subst (λ fs. at < length fs) (sym passes.keeps.found) low;
  place = ap (λ fs. slice_index fs at) passes.keeps.found ∙ place;
  walked = subst (λ xs. IsWalked files file xs new.found.items at) (sym passes.keeps.resolved) (subst (λ fs. IsWalked files file old.resolved.items fs at) (sym passes.keeps.found) walked);
  outer = ap (λ xs. value_at xs m) passes.keeps.resolved ∙ outer;
  now = ap (λ xs. value_at xs n) passes.keeps.resolved ∙ visit_keeps files file old.resolved.items old.found.items at m c walked low place outer whole n p passes.none;
  others = λ k apart. ap (λ xs. value_at xs k) passes.keeps.resolved;
}
visit_step files file old new at m n c walked low place outer whole p (inl finds) = record {
  size = ap length finds.settles.resolved ∙ length-set old.resolved.items n (Some finds.class);
  low = subst (λ fs. at < length fs) (sym finds.settles.found) (omega (arith, length-append old.found.items (n ∷ [])));
  place = ap (λ fs. slice_index fs at) finds.settles.found ∙ get_or-append old.found.items (n ∷ []) 0 at low ∙ place;
  walked =
      subst (λ xs. IsWalked files file xs new.found.items at) (sym finds.settles.resolved)
      (subst (λ fs. IsWalked files file (slice_set old.resolved.items n (Some finds.class)) fs at) (sym finds.settles.found)
      (visit_settles files file old.resolved.items old.found.items at m c walked low place outer whole n finds.class p finds.fresh finds.names));
  outer = ap (λ xs. value_at xs m) finds.settles.resolved ∙ value_other old.resolved.items n m finds.class apart ∙ outer;
  now = ap (λ xs. value_at xs n) finds.settles.resolved ∙ value_same old.resolved.items n finds.class (slice_get_within old.resolved.items n None finds.fresh) ∙ sym finds.names;
  others = λ k other. ap (λ xs. value_at xs k) finds.settles.resolved ∙ value_other old.resolved.items n k finds.class other;
}
  where
    apart : m ≡ n → ⊥
    apart e = cc (sym outer ∙ ap (value_at old.resolved.items) e ∙ ap (λ o. on_some o (option_map class_seen)) finds.fresh)

-- the rows up to a place, where that one is added
pub handled_more : (files : List FilePart) (file : ℕ) (old new : Walk) (at m : ℕ) (c : ClassId) (rows : List ℕ) (j : ℕ) → IsVisited files file old new at m (slice_index rows j) c → ((i : ℕ) → i < j → value_at old.resolved.items (slice_index rows i) ≡ inner_of files file (class_seen c) (slice_index rows i)) → (i : ℕ) → i < j + 1 → value_at new.resolved.items (slice_index rows i) ≡ inner_of files file (class_seen c) (slice_index rows i)
handled_more files file old new at m c rows j visited handled i below = go (cases_eq (slice_index rows i) (slice_index rows j)) (cases_eq i j)
  where
    go : (slice_index rows i ≡ slice_index rows j) ⊎ (slice_index rows i ≡ slice_index rows j → ⊥) → (i ≡ j) ⊎ (i ≡ j → ⊥) → value_at new.resolved.items (slice_index rows i) ≡ inner_of files file (class_seen c) (slice_index rows i)
    go (inl same) either = ap (value_at new.resolved.items) same ∙ visited.now ∙ ap (inner_of files file (class_seen c)) (sym same)
    go (inr apart) (inl e) = absurd (apart (ap (slice_index rows) e))
    go (inr apart) (inr e) = visited.others (slice_index rows i) apart ∙ handled i (omega arith)

-- ---- the beginning

pub unset_more : (xs : List (Option ClassId)) → ((n : ℕ) → value_at xs n ≡ None) → (n : ℕ) → value_at (xs ++ None ∷ []) n ≡ None
unset_more [] h zero = refl
unset_more [] h (suc n) = refl
unset_more (x ∷ xs) h zero = h zero
unset_more (x ∷ xs) h (suc n) = unset_more xs (λ k. h (suc k)) n

pub empty_more : (xs : List (List ℕ)) → AreEmpty xs → AreEmpty (xs ++ [] ∷ [])
empty_more [] h zero rows e = cc e
empty_more [] h (suc n) rows e = cc e
empty_more (x ∷ xs) h zero rows e = h zero rows e
empty_more (x ∷ xs) h (suc n) rows e = empty_more xs (λ k. h (suc k)) n rows e

pub starts : (files : List FilePart) (file : ℕ) (xs : List (Option ClassId)) → count_by is_some xs ≡ 0 → ((n : ℕ) → value_at xs n ≡ None) → IsStarted files file xs [] 0
starts files file xs counted unset = record {
  is_sound = record { counted = sym counted; inside = λ i h. absurd (omega arith); sound = λ n c e. cc (sym (unset n) ∙ e) };
  waits = λ n c e. cc (sym (unset n) ∙ e);
  roots = λ n h. absurd (omega arith);
  unset = λ n h. unset n;
}

pub nests : (files : List FilePart) (file : ℕ) (nested : List (List ℕ)) → AreEmpty nested → AreNested files file nested 0
nests files file nested empty = record {
  all = λ n m rows h. absurd (omega arith);
  only = λ m rows i e h. let none = ap length (empty m rows e) in absurd (omega arith);
}

-- a file has no more references than the world has rows
of_all : (files : List FilePart) (file : ℕ) → references_in files file ≤ reference_count (rows_alone files)
of_all [] file = omega arith
of_all (p ∷ ps) zero = let same = length-map (rows_of p.metadata type_refs) (type_ref p.metadata) in omega (arith, same)
of_all (p ∷ ps) (suc file) = let rest = of_all ps file in omega (arith, rest)

pub few_references : (files : List FilePart) (file : ℕ) → references_in files file ≤ size_of (rows_alone files)
few_references files file = let few = of_all files file in omega (arith, few)

pub past_count : (files : List FilePart) (file n : ℕ) → references_in files file ≤ n → reference_at files file n ≡ None
past_count files file n = go (slice_get files file) refl
  where
    go : (o : Option FilePart) → slice_get files file ≡ o → option_map_or (λ (p : FilePart). row_count p.metadata type_refs) o 0 ≤ n → reference_at files file n ≡ None
    go None e past = (no_file files file (ap (option_map (λ (p : FilePart). p.metadata)) e) n).0
    go (Some p) e past = reference_past files file p.metadata (ap (option_map (λ (p : FilePart). p.metadata)) e) n past
