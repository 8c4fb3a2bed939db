-- A class is added to those that were found.
use Rattle.std.proofs.Common.{◌≡◌, ℕ, ◌+◌, ◌≤◌, Bool, true, false, cond, ◌&&◌, ◌||◌, ◌==◌, List, [], ◌∷◌, ◌++◌, map, take, length, get_or, ◌<◌, refl, sym, ap, ◌∙◌, arith, append_assoc, add-one, subst}
use Rattle.std.specs.Prelude.{count_by}
use Rattle.std.specs.List.{list_any}
use Rattle.std.specs.Ordering.{is_eq}
use Rattle.std.specs.Bool.{OnFalse}
use Rattle.std.specs.BTreeSet.{contains, Updates}
use Rattle.std.proofs.lemmas.Bool.{eq-eqb}
use Rattle.std.proofs.Math.Bool.{or-false}
use Rattle.std.specs.Cmp.{both_ways}
use Rattle.std.proofs.Math.Seq.{take-suc}
use Rattle.std.proofs.lemmas.List.{append-nil, map-append}
use Rattle.std.proofs.lemmas.List.Folds.{list_any-append}
use Rattle.std.proofs.lemmas.List.Sums.{sum_by-append, sum_by-cons}
use Rattle.machine.specs.Data.{Id, id_eq}
use Rattle.alike.proofs.Members.{id_same}
use Rattle.member_keys.specs.declared.keys.ClassId.{ClassId}
use Rattle.member_keys.specs.contracts.keys.ClassIdOrd.TheImpl.Laws as class_laws
use Rattle.member_keys.specs.Seen.{class_seen}
use Rattle.member_keys.proofs.KeyLaws.{same_class}
use Rattle.class_reach.specs.declared.found.Found.{Found}
use Rattle.class_reach.specs.Found.{class_order, among, IsFound, Adds}

-- ---- ids

pub id_here : (a : Id) → id_eq a a ≡ true
id_here a = ap (λ b. b && (a.row == a.row)) (eq-eqb a.file a.file refl) ∙ eq-eqb a.row a.row refl

pub id_turned : (a b : Id) → id_eq a b ≡ id_eq b a
id_turned a b = both_ways (id_eq a b) (id_eq b a) (turn a b) (turn b a)
  where
    turn : (a b : Id) → id_eq a b ≡ true → id_eq b a ≡ true
    turn a b e = subst (λ z. id_eq z a ≡ true) (id_same a b e) (id_here a)

order_is : (a b : ClassId) → is_eq (class_order a b) ≡ id_eq (class_seen a) (class_seen b)
order_is a b = sym (class_laws.matches_eq-law a b) ∙ same_class a b

-- ---- classes among others

pub among_both : (d : Id) (xs ys : List ClassId) → among d (xs ++ ys) ≡ (among d xs || among d ys)
among_both d xs ys = ap (list_any (id_eq d)) (map-append class_seen xs ys) ∙ list_any-append (id_eq d) (map class_seen xs) (map class_seen ys)

counted_both : (d : Id) (xs ys : List ClassId) → count_by (id_eq d) (map class_seen (xs ++ ys)) ≡ count_by (id_eq d) (map class_seen xs) + count_by (id_eq d) (map class_seen ys)
counted_both d xs ys = ap (count_by (id_eq d)) (map-append class_seen xs ys) ∙ sum_by-append (λ x. cond (id_eq d x) 1 0) (map class_seen xs) (map class_seen ys)

none_counted : (d : Id) (xs : List Id) → list_any (id_eq d) xs ≡ false → count_by (id_eq d) xs ≡ 0
none_counted d [] e = refl
none_counted d (x ∷ xs) e = sum_by-cons (λ y. cond (id_eq d y) 1 0) x xs ∙ go (id_eq d x) e (none_counted d xs)
  where
    go : (b : Bool) → (b || list_any (id_eq d) xs) ≡ false → (list_any (id_eq d) xs ≡ false → count_by (id_eq d) xs ≡ 0) → cond b 1 0 + count_by (id_eq d) xs ≡ 0
    go true e f = absurd (cc e)
    go false e f = let rest = f e in omega (arith, rest)

or_join : (a b c : Bool) → ((a || b) || c) ≡ (a || (b || c))
or_join true b c = refl
or_join false b c = refl

-- ---- what was found

pub adds_none : (f : Found) → IsFound f → Adds [] f f
adds_none f found = record { found = found; more = ([], sym (append-nil f.items.items)); has = λ d. sym (or-false (among d f.items.items)) }

pub adds_both : (xs ys : List Id) (f g h : Found) → Adds xs f g → Adds ys g h → Adds (xs ++ ys) f h
adds_both xs ys f g h a b =
    record {
      found = b.found;
      more = (a.more.0 ++ b.more.0, b.more.1 ∙ ap (λ zs. zs ++ b.more.0) a.more.1 ∙ append_assoc f.items.items a.more.0 b.more.0);
      has =
          λ d.
          b.has d
          ∙ ap (λ t. t || list_any (id_eq d) ys) (a.has d)
          ∙ or_join (among d f.items.items) (list_any (id_eq d) xs) (list_any (id_eq d) ys)
          ∙ ap (λ t. among d f.items.items || t) (sym (list_any-append (id_eq d) xs ys));
    }

module _ (f g : Found) (c : ClassId) (found : IsFound f) where
  -- a new one
  module _ (fresh : contains class_order f.seen c ≡ false) (seen : Updates class_order f.seen g.seen c true) (items : g.items.items ≡ f.items.items ++ c ∷ []) where
    missing : among (class_seen c) f.items.items ≡ false
    missing = sym (found.seen c) ∙ fresh

    has_added : (d : Id) → among d g.items.items ≡ (among d f.items.items || (id_eq d (class_seen c) || false))
    has_added d = ap (among d) items ∙ among_both d f.items.items (c ∷ [])

    one_more : (d : Id) → count_by (id_eq d) (map class_seen g.items.items) ≤ 1
    one_more d = go (id_eq d (class_seen c)) refl
      where
        counted : count_by (id_eq d) (map class_seen g.items.items) ≡ count_by (id_eq d) (map class_seen f.items.items) + (0 + cond (id_eq d (class_seen c)) 1 0)
        counted = ap (λ xs. count_by (id_eq d) (map class_seen xs)) items ∙ counted_both d f.items.items (c ∷ [])

        go : (b : Bool) → id_eq d (class_seen c) ≡ b → count_by (id_eq d) (map class_seen g.items.items) ≤ 1
        go true e =
            let none : count_by (id_eq d) (map class_seen f.items.items) ≡ 0 = none_counted d (map class_seen f.items.items) (subst (λ z. among z f.items.items ≡ false) (sym (id_same d (class_seen c) e)) missing) in
            let one : cond {A = ℕ} (id_eq d (class_seen c)) 1 0 ≡ 1 = ap (λ b. cond {A = ℕ} b 1 0) e in
            omega (arith, counted, none, one)
        go false e =
            let few = found.once d in
            let no : cond {A = ℕ} (id_eq d (class_seen c)) 1 0 ≡ 0 = ap (λ b. cond {A = ℕ} b 1 0) e in
            omega (arith, counted, few, no)

    seen_added : (q : ClassId) → contains class_order g.seen q ≡ among (class_seen q) g.items.items
    seen_added q =
        seen.0 q
        ∙ ap (λ b. cond b true (contains class_order f.seen q)) (order_is c q ∙ id_turned (class_seen c) (class_seen q))
        ∙ ap (λ b. cond (id_eq (class_seen q) (class_seen c)) true b) (found.seen q)
        ∙ either (id_eq (class_seen q) (class_seen c)) (among (class_seen q) f.items.items)
        ∙ sym (has_added (class_seen q))
      where
        either : (a b : Bool) → cond a true b ≡ (b || (a || false))
        either true true = refl
        either true false = refl
        either false true = refl
        either false false = refl

    pub added : Adds (class_seen c ∷ []) f g
    added = record { found = record { seen = seen_added; once = one_more }; more = (c ∷ [], items); has = has_added }

  -- one that was found before
  pub stayed : contains class_order f.seen c ≡ true → g.seen.keys ≡ f.seen.keys → g.items.items ≡ f.items.items → Adds (class_seen c ∷ []) f g
  stayed known keys items =
      record {
        found = record { seen = seen_same; once = λ d. subst (λ xs. count_by (id_eq d) (map class_seen xs) ≤ 1) (sym items) (found.once d) };
        more = ([], items ∙ sym (append-nil f.items.items));
        has = λ d. ap (among d) items ∙ go d (id_eq d (class_seen c)) refl;
      }
    where
      seen_same : (q : ClassId) → contains class_order g.seen q ≡ among (class_seen q) g.items.items
      seen_same q = ap (λ ks. list_any (λ k. is_eq (class_order q k)) ks) keys ∙ found.seen q ∙ ap (among (class_seen q)) (sym items)

      go : (d : Id) (b : Bool) → id_eq d (class_seen c) ≡ b → among d f.items.items ≡ (among d f.items.items || (id_eq d (class_seen c) || false))
      go d true e =
          let there : among d f.items.items ≡ true = subst (λ z. among z f.items.items ≡ true) (sym (id_same d (class_seen c) e)) (sym (found.seen c) ∙ known) in
          there ∙ sym (ap (λ t. t || (id_eq d (class_seen c) || false)) there)
      go d false e = sym (ap (λ t. among d f.items.items || (t || false)) e ∙ or-false (among d f.items.items))

-- ---- lists

pub one_more_taken : {A B : Type 0} (f : A → B) (xs : List A) (i : ℕ) (d : A) → i < length xs → map f (take (i + 1) xs) ≡ map f (take i xs) ++ f (get_or xs i d) ∷ []
one_more_taken f xs i d h = ap (λ n. map f (take n xs)) (add-one i) ∙ ap (map f) (take-suc xs i d h) ∙ map-append f (take i xs) (get_or xs i d ∷ [])

pub if_not : {P : Type 0} (b : Bool) → b ≡ false → OnFalse b P → P
if_not true e h = absurd (cc e)
if_not false e h = h
