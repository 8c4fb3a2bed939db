-- Answers at their classes' places, and what a class that isn't there has and reaches.
use Rattle.std.proofs.Common.{◌≡◌, ℕ, zero, suc, ◌≤◌, List, [], ◌∷◌, ◌++◌, length, Option, Some, None, refl, ap, ◌∙◌, arith, subst}
use Rattle.std.specs.Prelude.{◌||◌, slice_get, unwrap_or}
use Rattle.std.specs.List.{filter, list_any}
use Rattle.std.specs.Option.{option_map}
use Rattle.std.proofs.lemmas.Option.{slice_get_past, slice_get_within}
use Rattle.machine.specs.Data.{Id, id_eq}
use Rattle.machine.specs.Throw.{on_some}
use Rattle.classes.specs.Classes.{Class, Classes}
use Rattle.classes.specs.Queries.{instance_fields_within, instance_fields, is_instance, is_or_implements, listed, parents, reaches}
use Rattle.class_order.proofs.ReachLaws.{or_false}
use Rattle.class_table.specs.declared.rows.FileRows.{FileRows}
use Rattle.class_table.specs.declared.rows.ClassTable.{ClassTable}
use Rattle.class_table.specs.Seen.{class_row, classes_seen, row_seen}
use Rattle.class_queries.specs.Numbers.{count_at}
use Rattle.tiny_types.specs.declared.answers.ClassAnswer.{ClassAnswer}
use Rattle.tiny_types.specs.declared.answers.FileAnswers.{FileAnswers}
use Rattle.tiny_types.specs.Answers.{IsAnswer, AreAnswers, answer_at}

-- what holds of each element, of one more
pub each_more : {A : Type 0} (P : ℕ → A → Type 0) (xs : List A) (x : A) → ((n : ℕ) (a : A) → slice_get xs n ≡ Some a → P n a) → P (length xs) x → (n : ℕ) (a : A) → slice_get (xs ++ x ∷ []) n ≡ Some a → P n a
each_more P [] x each last zero a e = let same : x ≡ a = cc e in subst (P 0) same last
each_more P [] x each last (suc n) a e = absurd (cc e)
each_more P (y ∷ xs) x each last zero a e = each 0 a e
each_more P (y ∷ xs) x each last (suc n) a e = each_more (λ k b. P (suc k) b) xs x (λ k b h. each (suc k) b h) last n a e

none_past : {A : Type 0} (xs : List A) (k : ℕ) → slice_get xs k ≡ None → length xs ≤ k
none_past [] k e = omega arith
none_past (x ∷ xs) zero e = absurd (cc e)
none_past (x ∷ xs) (suc k) e = let few = none_past xs k e in omega (arith, few)

-- ---- a class that isn't there

module _ (cs : Classes) (c : Id) (missing : cs.class c ≡ None) where
  no_own : filter is_instance (unwrap_or (option_map (λ k. k.fields) (cs.class c)) []) ≡ []
  no_own = ap (λ (o : Option Class). filter is_instance (unwrap_or (option_map (λ k. k.fields) o) [])) missing

  no_fields : (n : ℕ) → instance_fields_within n cs c ≡ []
  no_fields zero = no_own
  no_fields (suc n) =
      ap (λ (o : Option Class). unwrap_or (option_map (instance_fields_within n cs) (on_some o (λ k. k.superclass))) [] ++ filter is_instance (unwrap_or (option_map (λ k. k.fields) (cs.class c)) [])) missing
      ∙ no_own

  no_parents : parents cs c ≡ []
  no_parents = ap (λ (o : Option Class). listed (on_some o (λ k. k.superclass)) ++ unwrap_or (option_map (λ k. k.interfaces) o) []) missing

  no_way : (n : ℕ) (d : Id) → reaches n (parents cs) c d ≡ id_eq c d
  no_way zero d = refl
  no_way (suc n) d = ap (λ xs. id_eq c d || list_any (λ z. reaches n (parents cs) z d) xs) no_parents ∙ or_false (id_eq c d)

-- ---- answers

module _ (t : ClassTable) (all : List FileAnswers) (are : AreAnswers t all) (c : Id) where
  pub answered : (a : ClassAnswer) → answer_at all c ≡ Some a → IsAnswer t c a
  answered a e = go (slice_get all c.file) refl e
    where
      go : (o : Option FileAnswers) → slice_get all c.file ≡ o → on_some o (λ f. slice_get f.classes.items c.row) ≡ Some a → IsAnswer t c a
      go None at h = absurd (cc h)
      go (Some f) at h = (are.each c.file f at).each c.row a h

  gone : (o : Option FileRows) → slice_get t.files.items c.file ≡ o → answer_at all c ≡ None → on_some o (λ f. option_map (row_seen c.file f) (slice_get f.classes.items c.row)) ≡ None
  gone None at e = refl
  gone (Some f) at e = go (slice_get all c.file) refl e
    where
      go : (o : Option FileAnswers) → slice_get all c.file ≡ o → on_some o (λ g. slice_get g.classes.items c.row) ≡ None → option_map (row_seen c.file f) (slice_get f.classes.items c.row) ≡ None
      go None there h =
          let past = none_past all c.file there in
          let inside = slice_get_within t.files.items c.file f at in
          absurd (omega (arith, past, inside, are.count))
      go (Some g) there h =
          let past = none_past g.classes.items c.row h in
          let count = (are.each c.file g there).count in
          let rows : count_at t c.file ≡ length f.classes.items = ap (λ o. unwrap_or (option_map (λ (x : FileRows). length x.classes.items) o) 0) at in
          ap (option_map (row_seen c.file f)) (slice_get_past f.classes.items c.row (omega (arith, past, count, rows)))

  lacking : answer_at all c ≡ None → class_row t c ≡ None
  lacking e = gone (slice_get t.files.items c.file) refl e

  pub fields_missing : answer_at all c ≡ None → length (instance_fields (classes_seen t) c) ≡ 0
  fields_missing e = ap length (no_fields (classes_seen t) c (lacking e) t.size)

  pub reach_missing : (d : Id) → answer_at all c ≡ None → is_or_implements (classes_seen t) c d ≡ id_eq c d
  reach_missing d e = no_way (classes_seen t) c (lacking e) t.size d
