-- In a closed choice of the rows of a set ways end as in the whole set, and there is a type.
use Rattle.std.proofs.Common.{◌≡◌, ℕ, zero, suc, ◌+◌, ◌-◌, ◌<◌, true, false, List, [], ◌∷◌, ◌++◌, map, Option, Some, None, refl, sym, ap, ◌∙◌, subst, arith}
use Rattle.std.specs.Prelude.{codes, ◌&&◌, slice_get, unwrap_or}
use Rattle.std.specs.List.{list_all}
use Rattle.std.specs.Option.{option_map}
use Rattle.std.proofs.lemmas.List.{map-append}
use Rattle.std.proofs.lemmas.Option.{slice_get-map}
use Rattle.machine.specs.Data.{Id}
use Rattle.machine.specs.Texts.{same_text}
use Rattle.machine_rename.specs.Rename.{Renaming}
use Rattle.classes.specs.Classes.{Class, Classes}
use Rattle.classes.specs.Queries.{listed, ends, above, parents, interfaces_of, enclosing_of, has_name, array}
use Rattle.kept_rows.specs.Select.{select, below}
use Rattle.kept_rows.proofs.SelectLaws as kept_rows
use Rattle.alike.specs.Alike.{Kept, ClassesAlike}
use Rattle.alike.proofs.Lists.{all_map, listed_map}
use Rattle.alike.proofs.Chains.{both, above_law, enclosing_law}
use Rattle.alike.proofs.Targets.{find_true}
use Rattle.assemblies.specs.Rows.{TypeRow, Assembly}
use Rattle.assemblies.specs.Binding.{class_with, class_at, classes_of, library}
use Rattle.assemblies.specs.Chosen.{Choice, type_row_to, chosen, chosen_set, renaming, kept_members}
use Rattle.assemblies.specs.Joined.{Joined}
use Rattle.assemblies.proofs.Binds.{on_some_back, map_back, chosen_at}
use Rattle.assemblies.proofs.Back.{get_within}
use Rattle.assemblies.proofs.Whole as whole
use Rattle.world_rows.specs.World.{type_count}
use Rattle.enough_steps.specs.Ended.{WaysEnd}
use Rattle.enough_steps.proofs.Rounds.{ends_later}

has_type : (ps : List Assembly) (f n : ℕ) (p : Assembly) (t : TypeRow) → slice_get ps f ≡ Some p → slice_get p.types n ≡ Some t → 0 < type_count ps
has_type [] f n p t e g = absurd (cc e)
has_type (q ∷ ps) zero n p t e g =
    let same : q ≡ p = cc e in
    let within = get_within q.types n t (ap (λ (z : Assembly). slice_get z.types n) same ∙ g) in
    omega (arith, within)
has_type (q ∷ ps) (suc f) n p t e g = let rest = has_type ps f n p t e g in omega (arith, rest)

module _ (size more : ℕ) (keep : ℕ → Choice) (ps : List Assembly) (j : Joined size more keep ps) where
  abbrev cs : List Assembly
  cs = chosen_set keep ps

  abbrev r : Renaming
  r = renaming keep ps

  abbrev kept : Kept
  kept = kept_members keep

  abbrev low : Classes
  low = classes_of more cs

  abbrev high : Classes
  high = classes_of size ps

  alike : ClassesAlike r kept low high
  alike = whole.classes size more keep ps j

  ends_law : (next next' : Id → List Id) → ((c : Id) → next' (r.type c) ≡ map r.type (next c)) → (n : ℕ) (c : Id) → ends n next' (r.type c) ≡ ends n next c
  ends_law next next' h zero c = refl
  ends_law next next' h (suc n) c = ap (list_all (ends n next')) (h c) ∙ all_map r.type (ends n next') (ends n next) (next c) (ends_law next next' h n)

  ended : (next next' : Id → List Id) → ((c : Id) → next' (r.type c) ≡ map r.type (next c)) → ((c : Id) → ends size next' (r.type c) ≡ true) → (c : Id) → ends more next c ≡ true
  ended next next' h e c =
      let grows = j.grows in
      let all : size + (more - size) ≡ more = omega (arith, grows) in
      subst (λ n. ends n next c ≡ true) all (ends_later next (more - size) size c (sym (ends_law next next' h size c) ∙ e c))

  interfaces_law : (c : Id) → interfaces_of high (r.type c) ≡ map r.type (interfaces_of low c)
  interfaces_law c = both r kept low high alike (λ l h. unwrap_or (option_map (λ (k : Class). k.interfaces) h) [] ≡ map r.type (unwrap_or (option_map (λ (k : Class). k.interfaces) l) [])) refl (λ l h e. e.interfaces) c

  parents_law : (c : Id) → parents high (r.type c) ≡ map r.type (parents low c)
  parents_law c =
      ap (λ xs. xs ++ interfaces_of high (r.type c)) (above_law r kept low high alike c)
      ∙ (ap (λ xs. map r.type (above low c) ++ xs) (interfaces_law c) ∙ sym (map-append r.type (above low c) (interfaces_of low c)))

  pub ways : WaysEnd more (chosen_set keep ps)
  ways =
      record {
        ups = ended (above low) (above high) (above_law r kept low high alike) (λ c. j.ups (r.type c));
        parents = ended (parents low) (parents high) parents_law (λ c. j.parents (r.type c));
        outers = ended (λ d. listed (enclosing_of low d)) (λ d. listed (enclosing_of high d)) (λ c. ap listed (enclosing_law r kept low high alike c) ∙ listed_map r.type (enclosing_of low c)) (λ c. j.outers (r.type c));
      }

  -- the class of arrays is kept
  pub has_one : (c : Id) → array (classes_of size ps) ≡ Some c → 0 < type_count (chosen_set keep ps)
  has_one c e = by (class_at size ps c) refl
    where
      named : has_name high (codes "Array") c ≡ true
      named = find_true (has_name high (codes "Array")) (library ps) c e

      of_class : (k : Class) → class_at size ps c ≡ Some k → 0 < type_count (chosen_set keep ps)
      of_class k there =
          let p = on_some_back (slice_get ps c.file) (λ (p : Assembly). option_map (class_with size ps c.file p) (slice_get p.types c.row)) k there in
          let t = map_back (class_with size ps c.file p.0) (slice_get p.0.types c.row) k p.2 in
          has_type (chosen_set keep ps) c.file (below (keep c.file).types c.row) (chosen (keep c.file) p.0) (type_row_to (keep c.file) t.0)
          (chosen_at keep ps c.file ∙ ap (option_map (chosen (keep c.file))) p.1)
          (slice_get-map (type_row_to (keep c.file)) (select (keep c.file).types p.0.types) (below (keep c.file).types c.row) ∙ ap (option_map (type_row_to (keep c.file))) (kept_rows.there (keep c.file).types p.0.types c.row (j.array c e) ∙ t.1))

      by : (o : Option Class) → class_at size ps c ≡ o → 0 < type_count (chosen_set keep ps)
      by None there = absurd (cc (sym (ap (λ o. unwrap_or (option_map (λ (k : Class). same_text k.namespace (codes "System") && same_text k.name (codes "Array")) o) false) there) ∙ named))
      by (Some k) there = of_class k there
