-- Rules that were added for the elements of a list, one after the other.
use Rattle.std.proofs.Common.{◌≡◌, ◌⊎◌, inl, inr, ⊎_elim, ℕ, zero, suc, ◌+◌, ◌<◌, ◌≤◌, List, [], ◌∷◌, ◌++◌, take, length, get_or, Option, Some, None, refl, sym, ap, subst, ◌∙◌, arith}
use Rattle.std.specs.Prelude.{slice_get}
use Rattle.std.specs.List.{flat_map}
use Rattle.std.specs.Option.{option_map, option_map_or}
use Rattle.std.proofs.lemmas.List.{take_more, take_all, length_push, append-nil, append_assoc, flat_map_more}
use Rattle.std.proofs.lemmas.Option.{slice_get-get_or}
use Rattle.machine.specs.Data.{Id}
use Rattle.machine.specs.Throw.{on_some}
use Rattle.classes.specs.Classes.{Class, Classes}
use Rattle.assemblies.specs.Binding.{id_at}
use Rattle.assemblies.proofs.Back.{get_within}
use Rattle.assemblies.proofs.Belong.{some_map}
use Rattle.class_table.specs.declared.rows.FileRows.{FileRows}
use Rattle.class_table.specs.declared.rows.ClassTable.{ClassTable}
use Rattle.class_table.specs.Seen.{classes_seen, row_seen}
use Rattle.row_rules.specs.declared.rules.RowRules.{RowRules}
use Rattle.row_rules.specs.Links.{Link, Adds}
use Rattle.row_rules.proofs.LinkLaws.{adds_after, adds_none}
use Rattle.slot_links.specs.Slots.{links_of, slot_links, IsReach, AddsClass, AddsSlots}

module _ {A : Type 0} (links : A → List Link) (xs : List A) (a b : RowRules) where
  pub one_added : (c : RowRules) (i : ℕ) (x : A) → slice_get xs i ≡ Some x → Adds (flat_map links (take i xs)) a b → Adds (links x) b c → Adds (flat_map links (take (i + 1) xs)) a c
  one_added c i x at first second =
      let within : i < length xs = get_within xs i x at in
      let both : Some (get_or xs i x) ≡ Some x = sym (slice_get-get_or xs i x within) ∙ at in
      let same : get_or xs i x ≡ x = cc both in
      let more : flat_map links (take i xs) ++ links x ≡ flat_map links (take (i + 1) xs) =
      flat_map_more links [] (take i xs) x
      ∙ ap (λ y. flat_map links (take i xs ++ y ∷ [])) (sym same)
      ∙ ap (flat_map links) (sym (take_more xs i x within)) in
      subst (λ ls. Adds ls a c) more (adds_after (flat_map links (take i xs)) (links x) a b c first second)

  pub all_added : (i : ℕ) → length xs ≤ i → Adds (flat_map links (take i xs)) a b → Adds (flat_map links xs) a b
  all_added i past adds = subst (λ ys. Adds (flat_map links ys) a b) (take_all i xs past) adds

-- ---- the classes of a file

pushed : {A : Type 0} (xs : List A) (x y : A) (k : ℕ) → slice_get (xs ++ x ∷ []) k ≡ Some y → (slice_get xs k ≡ Some y) ⊎ ((k ≡ length xs) × (x ≡ y))
pushed [] x y zero e = inr (refl, cc e)
pushed [] x y (suc k) e = absurd (cc e)
pushed (z ∷ zs) x y zero e = inl e
pushed (z ∷ zs) x y (suc k) e = ⊎_elim (λ h. inl h) (λ h. inr (ap suc h.0, h.1)) (pushed zs x y k e)

module _ (cs : Classes) (f : ℕ) where
  links_more : (n : ℕ) (xs : List (List Id)) (ds : List Id) → slot_links cs f n (xs ++ ds ∷ []) ≡ slot_links cs f n xs ++ links_of cs (id_at f (n + length xs)) ds
  links_more n [] ds = let same : n ≡ n + 0 = omega arith in append-nil (links_of cs (id_at f n) ds) ∙ ap (λ k. links_of cs (id_at f k) ds) same
  links_more n (es ∷ rest) ds =
      let same : suc n + length rest ≡ n + suc (length rest) = omega arith in
      ap (λ ls. links_of cs (id_at f n) es ++ ls) (links_more (suc n) rest ds)
      ∙ sym (append_assoc (links_of cs (id_at f n) es) (slot_links cs f (suc n) rest) (links_of cs (id_at f (suc n + length rest)) ds))
      ∙ ap (λ k. (links_of cs (id_at f n) es ++ slot_links cs f (suc n) rest) ++ links_of cs (id_at f k) ds) same

  -- the rules of the classes before a row were added
  pub record AddsTo (n : ℕ) (before after : RowRules) : Type 0 where
    pub reached : List (List Id)
    pub count : length reached ≡ n
    pub each : (k : ℕ) (ds : List Id) → slice_get reached k ≡ Some ds → IsReach cs (id_at f k) ds
    pub adds : Adds (slot_links cs f 0 reached) before after

  pub begun : (a : RowRules) → AddsTo 0 a a
  begun a = record { reached = []; count = refl; each = λ k ds e. absurd (cc e); adds = adds_none a }

  pub class_added : (n : ℕ) (a b c : RowRules) → AddsTo n a b → AddsClass cs (id_at f n) b c → AddsTo (n + 1) a c
  class_added n a b c first second =
      let xs = first.reached in
      let ds = second.reached in
      let long = length_push xs ds in
      let count = first.count in
      let place : n ≡ 0 + length xs = omega (arith, count) in
      let more : slot_links cs f 0 xs ++ links_of cs (id_at f n) ds ≡ slot_links cs f 0 (xs ++ ds ∷ []) =
      ap (λ k. slot_links cs f 0 xs ++ links_of cs (id_at f k) ds) place ∙ sym (links_more 0 xs ds) in
      record {
        reached = xs ++ ds ∷ [];
        count = omega (arith, long, count);
        each =
            λ k es e.
            ⊎_elim
            (λ h. first.each k es h)
            (λ h.
            let last : n ≡ k = sym count ∙ sym h.0 in
            subst (λ q. IsReach cs (id_at f k) q) h.1 (subst (λ j. IsReach cs (id_at f j) ds) last second.reach))
            (pushed xs ds es k e);
        adds = subst (λ ls. Adds ls a c) more (adds_after (slot_links cs f 0 xs) (links_of cs (id_at f n) ds) a b c first.adds second.adds);
      }

-- ---- how many there are

module _ (t : ClassTable) (f : ℕ) where
  abbrev pub types_in : ℕ
  types_in = option_map_or (λ (r : FileRows). length r.classes.items) (slice_get t.files.items f) 0

  class_within : (n : ℕ) (k : Class) → (classes_seen t).class (id_at f n) ≡ Some k → n < types_in
  class_within n k e = go (slice_get t.files.items f) refl e
    where
      go : (o : Option FileRows) → slice_get t.files.items f ≡ o → on_some o (λ (r : FileRows). option_map (row_seen f r) (slice_get r.classes.items n)) ≡ Some k → n < types_in
      go None here h = absurd (cc h)
      go (Some r) here h =
          let row = some_map (row_seen f r) (slice_get r.classes.items n) k h in
          let below : n < length r.classes.items = get_within r.classes.items n row.0 row.1 in
          let many : types_in ≡ length r.classes.items = ap (λ o. option_map_or (λ (r : FileRows). length r.classes.items) o 0) here in
          omega (arith, below, many)

  pub all_classes : (n : ℕ) (a b : RowRules) → types_in ≤ n → AddsTo (classes_seen t) f n a b → AddsSlots (classes_seen t) f a b
  all_classes n a b past w =
      record {
        reached = w.reached;
        reach = record { all = λ k x e. let below = class_within k x e in let count = w.count in omega (arith, below, count, past); each = w.each };
        adds = w.adds;
      }
