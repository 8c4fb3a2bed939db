-- Tests of methods, one behind the other, and of classes.
use Rattle.std.proofs.Common.{◌≡◌, ℕ, suc, ◌+◌, ◌-◌, ◌<◌, ◌≤◌, Bool, true, false, ◌||◌, List, [], ◌∷◌, length, map, get_or, below_more, Option, Some, None, refl, sym, ap, ◌∙◌, subst, arith}
use Rattle.std.specs.Prelude.{slice_get}
use Rattle.std.specs.List.{list_all, list_any}
use Rattle.std.specs.Option.{option_map}
use Rattle.std.proofs.lemmas.Bool.{and_from}
use Rattle.std.proofs.lemmas.Option.{slice_get-get_or, slice_get-map}
use Rattle.machine.specs.Data.{Id, id_eq, ClassOf}
use Rattle.machine_typed.proofs.Types.{type_here}
use Rattle.classes.specs.Classes.{OwnMethod}
use Rattle.classes.specs.Queries.{methods_of}
use Rattle.assemblies.specs.Binding.{id_at}
use Rattle.assemblies.proofs.Back.{get_within}
use Rattle.class_rules.proofs.Ways.{all_at, at_any}
use Rattle.member_keys.specs.declared.keys.ClassId.{ClassId}
use Rattle.member_keys.specs.Seen.{class_seen}
use Rattle.class_table.specs.declared.rows.ClassTable.{ClassTable}
use Rattle.class_table.specs.Seen.{classes_seen, method_row}
use Rattle.class_slots.specs.declared.own.OwnRows.{OwnRows}
use Rattle.class_slots.specs.Own.{AreOwn}
use Rattle.class_slots.proofs.OwnLaws.{method_of}

-- ---- lists

pub all_from : {A : Type 0} (test : A → Bool) (xs : List A) → ((i : ℕ) (x : A) → slice_get xs i ≡ Some x → test x ≡ true) → list_all test xs ≡ true
all_from test [] h = refl
all_from test (x ∷ xs) h = and_from (test x) (list_all test xs) (h 0 x refl) (all_from test xs (λ i y e. h (suc i) y e))

pub one_fails : {A : Type 0} (test : A → Bool) (xs : List A) (i : ℕ) (x : A) → slice_get xs i ≡ Some x → test x ≡ false → list_all test xs ≡ false
one_fails test xs i x at e = go (list_all test xs) refl
  where
    go : (b : Bool) → list_all test xs ≡ b → list_all test xs ≡ false
    go true all = absurd (let yes = all_at test xs i x all at in cc (sym e ∙ yes))
    go false all = all

-- ---- the methods of a class

module _ (t : ClassTable) (c : Id) (r : OwnRows) (own : AreOwn t c r) (test : OwnMethod → Bool) where
  abbrev ms : List OwnMethod
  ms = methods_of (classes_seen t) c

  abbrev pub PassUntil : ℕ → Type 0
  PassUntil n = (k : ℕ) (m : OwnMethod) → r.start + k < n → slice_get ms k ≡ Some m → test m ≡ true

  pub one_more : (n : ℕ) (b : Bool) → r.start ≤ n → n < r.end → b ≡ true → ((m : OwnMethod) → method_row t (id_at c.file n) ≡ Some m → b ≡ test m) → PassUntil n → PassUntil (n + 1)
  one_more n b low high passes told before k m below at =
      below_more (λ j. (i : ℕ) → r.start + i ≡ j → (x : OwnMethod) → slice_get ms i ≡ Some x → test x ≡ true) n
      (λ j less i is x there. before i x (omega (arith, less, is)) there)
      (λ i is x there.
      let z = method_of t c r n own low high in
      let place : n - r.start ≡ i = omega (arith, is) in
      let same : Some z.method ≡ Some x = sym z.listed ∙ ap (slice_get ms) place ∙ there in
      let method : z.method ≡ x = cc same in
      subst (λ y. test y ≡ true) method (sym (told z.method z.row) ∙ passes))
      (r.start + k) below k refl m at

  pub one_lacks : (n : ℕ) (b : Bool) → r.start ≤ n → n < r.end → b ≡ false → ((m : OwnMethod) → method_row t (id_at c.file n) ≡ Some m → b ≡ test m) → list_all test ms ≡ false
  one_lacks n b low high lacks told =
      let z = method_of t c r n own low high in
      one_fails test ms (n - r.start) z.method z.listed (sym (told z.method z.row) ∙ lacks)

  pub all_pass : (n : ℕ) → r.end ≤ n → PassUntil n → list_all test ms ≡ true
  all_pass n past before =
      all_from test ms
      (λ i x at.
      let inside : i < length ms = get_within ms i x at in
      let count = own.count in
      before i x (omega (arith, inside, count, past)) at)

-- ---- classes

module _ (test : Id → Bool) (cs : List ClassId) where
  pub class_lacks : (i : ℕ) (c : ClassId) → slice_get cs i ≡ Some c → test (class_seen c) ≡ false → list_all test (map class_seen cs) ≡ false
  class_lacks i c at e = one_fails test (map class_seen cs) i (class_seen c) (slice_get-map class_seen cs i ∙ ap (option_map class_seen) at) e

  pub classes_pass : ((i : ℕ) (c : ClassId) → slice_get cs i ≡ Some c → test (class_seen c) ≡ true) → list_all test (map class_seen cs) ≡ true
  classes_pass h = all_from test (map class_seen cs) (λ i x at. go i x (slice_get cs i) refl (sym (slice_get-map class_seen cs i) ∙ at))
    where
      go : (i : ℕ) (x : Id) (o : Option ClassId) → slice_get cs i ≡ o → option_map class_seen o ≡ Some x → test x ≡ true
      go i x None at e = absurd (cc e)
      go i x (Some c) at e = let same : class_seen c ≡ x = cc e in subst (λ z. test z ≡ true) same (h i c at)

pub one_class_more : (test : Id → Bool) (cs : List ClassId) (n : ℕ) (d : ClassId) → n < length cs → test (class_seen (get_or cs n d)) ≡ true → ((k : ℕ) (x : ClassId) → k < n → slice_get cs k ≡ Some x → test (class_seen x) ≡ true) → (k : ℕ) (x : ClassId) → k < n + 1 → slice_get cs k ≡ Some x → test (class_seen x) ≡ true
one_class_more test cs n d within here before k x below at =
    below_more (λ j. (y : ClassId) → slice_get cs j ≡ Some y → test (class_seen y) ≡ true) n
    (λ j less y there. before j y less there)
    (λ y there.
    let both : Some (get_or cs n d) ≡ Some y = sym (slice_get-get_or cs n d within) ∙ there in
    let same : get_or cs n d ≡ y = cc both in
    subst (λ z. test (class_seen z) ≡ true) same here)
    k below x at

-- each of a list is in it
pub listed_here : (cs : List ClassId) (i : ℕ) (c : ClassId) → slice_get cs i ≡ Some c → list_any (id_eq (class_seen c)) (map class_seen cs) ≡ true
listed_here cs i c at = at_any (id_eq (class_seen c)) (map class_seen cs) i (class_seen c) (slice_get-map class_seen cs i ∙ ap (option_map class_seen) at) (type_here (ClassOf (class_seen c)))

-- ---- which classes need bodies

pub none_needed : (interface bare filled : Bool) → interface || bare ≡ true → interface || (bare || filled) ≡ true
none_needed true bare filled e = refl
none_needed false true filled e = refl
none_needed false false filled e = absurd (cc e)

pub needed : (interface bare filled : Bool) → interface || bare ≡ false → interface || (bare || filled) ≡ filled
needed true bare filled e = absurd (cc e)
needed false true filled e = absurd (cc e)
needed false false filled e = refl
