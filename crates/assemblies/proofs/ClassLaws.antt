-- The classes of a choice are those of all, with the kept members.
use Rattle.std.proofs.Common.{◌≡◌, ⊎_elim, ℕ, zero, suc, ◌+◌, ◌<◌, ◌≤◌, true, List, [], ◌∷◌, map, length, take, drop, Option, Some, None, refl, sym, ap, ◌∙◌, subst, arith}
use Rattle.std.specs.Prelude.{slice_get}
use Rattle.std.specs.Option.{option_map}
use Rattle.std.specs.List.{filter}
use Rattle.std.proofs.lemmas.List.{take-map, drop-map}
use Rattle.std.proofs.lemmas.Option.{slice_get-map}
use Rattle.machine.specs.Data.{Id}
use Rattle.machine.specs.Throw.{on_some}
use Rattle.machine_rename.specs.Rename.{Renaming}
use Rattle.classes.specs.Classes.{OwnField, OwnMethod, Class}
use Rattle.classes.specs.Queries.{is_instance, is_initialiser}
use Rattle.alike.specs.Carry as carry
use Rattle.alike.specs.Alike.{Kept, ClassAlike, BothAlike}
use Rattle.alike.proofs.Lists as lists
use Rattle.kept_rows.specs.Select.{select, below, rows, behind}
use Rattle.kept_rows.proofs.SelectLaws as kept_rows
use Rattle.assemblies.specs.Rows.{TypeToken, TypeRow, FieldRow, MethodRow, Assembly}
use Rattle.assemblies.specs.Binding.{id_at, resolve, expanded, expanded_signature, own_field, own_method, numbered, range, class_with, class_at}
use Rattle.assemblies.specs.Chosen.{Choice, first_of, token_to, raw_to, signature_to, type_row_to, field_row_to, method_row_to, chosen, chosen_set, renaming, kept_members, count_of}
use Rattle.assemblies.specs.Closed.{Closed}
use Rattle.assemblies.proofs.Binds.{chosen_at}
use Rattle.assemblies.proofs.Back.{get_within, get_past, get_there, count_law, row_back, IsRow, number_view, past_selected}
use Rattle.assemblies.proofs.Signatures.{type_back, named, expanded_law, signature_law, all_there}
use Rattle.assemblies.proofs.Numbered.{map_select, take_numbered, drop_numbered, filter_twice, find_row, numbered_law, numbered_map}

-- a row of a range is one of the whole
pub range_get : {A : Type 0} (first count : ℕ) (xs : List A) (i : ℕ) (x : A) → slice_get (range first count xs) i ≡ Some x → slice_get xs (first + i) ≡ Some x
range_get zero count xs i x e = let same : 0 + i ≡ i = omega arith in ap (slice_get xs) same ∙ front count xs i e
  where
    front : (count : ℕ) (xs : List _) (i : ℕ) → slice_get (take count xs) i ≡ Some x → slice_get xs i ≡ Some x
    front zero xs i e = absurd (cc e)
    front (suc count) [] i e = absurd (cc e)
    front (suc count) (y ∷ ys) zero e = e
    front (suc count) (y ∷ ys) (suc i) e = front count ys i e
range_get (suc first) zero [] i x e = absurd (cc e)
range_get (suc first) (suc count) [] i x e = absurd (cc e)
range_get (suc first) count (y ∷ ys) i x e = let same : suc first + i ≡ suc (first + i) = omega arith in ap (slice_get (y ∷ ys)) same ∙ range_get first count ys i x e

-- a range without rows has none, wherever it is from
from_first : {A B : Type 0} (make : ℕ → A → B) (first count : ℕ) (xs : List A) → numbered make (first_of first count) (range (first_of first count) count xs) ≡ numbered make first (range first count xs)
from_first make first zero xs = refl
from_first make first (suc n) xs = refl

module _ (keep : ℕ → Choice) (ps : List Assembly) (size more : ℕ) (closed : Closed size keep ps) (grows : size ≤ more) where
  abbrev cs : List Assembly
  cs = chosen_set keep ps

  abbrev r : Renaming
  r = renaming keep ps

  abbrev kept : Kept
  kept = kept_members keep

  pub field_back : (f n : ℕ) (p : Assembly) (x : FieldRow) → slice_get ps f ≡ Some p → slice_get p.fields n ≡ Some x → (keep f).fields n ≡ true → r.field (id_at f (below (keep f).fields n)) ≡ id_at f n
  field_back f n p x at row k =
      ap (id_at f) (row_back (keep f).fields _ n (subst (λ m. n < m) (sym (count_law (λ (q : Assembly). q.fields) ps f p at)) (get_within p.fields n x row)) k)

  pub method_back : (f n : ℕ) (p : Assembly) (x : MethodRow) → slice_get ps f ≡ Some p → slice_get p.methods n ≡ Some x → (keep f).methods n ≡ true → r.method (id_at f (below (keep f).methods n)) ≡ id_at f n
  method_back f n p x at row k =
      ap (id_at f) (row_back (keep f).methods _ n (subst (λ m. n < m) (sym (count_law (λ (q : Assembly). q.methods) ps f p at)) (get_within p.methods n x row)) k)

  module _ (f : ℕ) (p : Assembly) (at : slice_get ps f ≡ Some p) where
    field_head : (n : ℕ) (x : FieldRow) → slice_get p.fields n ≡ Some x → (keep f).fields n ≡ true → own_field size ps f n x ≡ carry.field_to r (own_field more cs f (below (keep f).fields n) (field_row_to (keep f) x))
    field_head n x row k =
        ap (λ e. record { id = id_at f n; name = x.name; signature = e; kind = x.kind }) (expanded_law keep ps size more closed grows f x.signature (closed.field f n p x at row k))
        ∙ ap (λ i. record { id = i; name = x.name; signature = option_map (carry.sig_to r) (expanded more cs f (raw_to (keep f) x.signature)); kind = x.kind }) (sym (field_back f n p x at row k))

    method_head : (n : ℕ) (x : MethodRow) → slice_get p.methods n ≡ Some x → (keep f).methods n ≡ true → own_method size ps f n x ≡ carry.own_method_to r (own_method more cs f (below (keep f).methods n) (method_row_to (keep f) n x))
    method_head n x row k =
        ap (λ e. record (own_method size ps f n x) { signature = e }) (signature_law keep ps size more closed grows f x.signature (closed.method f n p x at row k).0)
        ∙ ap (λ i. record (own_method size ps f n x) { id = i; signature = option_map (carry.signature_to r) (expanded_signature more cs f (signature_to (keep f) x.signature)) }) (sym (method_back f n p x at row k))

    fields_law : (first count : ℕ) → filter (λ (x : OwnField). kept.field x.id) (numbered (own_field size ps f) first (range first count p.fields)) ≡ map (carry.field_to r) (numbered (own_field more cs f) (below (keep f).fields first) (range (below (keep f).fields first) (below (behind first (keep f).fields) count) (map (field_row_to (keep f)) (select (keep f).fields p.fields))))
    fields_law first count =
        numbered_law (own_field size ps f) (own_field more cs f) (λ n x. field_row_to (keep f) x) (carry.field_to r) (λ (x : OwnField). kept.field x.id) (keep f).fields (range first count p.fields) first (λ m x. refl) (λ i x e k. field_head (first + i) x (range_get first count p.fields i x e) k)
        ∙ ap (λ ys. map (carry.field_to r) (numbered (own_field more cs f) (below (keep f).fields first) ys))
        (ap (select (behind first (keep f).fields)) (numbered_map (field_row_to (keep f)) first (range first count p.fields) ∙ sym (take-map (field_row_to (keep f)) count (drop first p.fields)) ∙ ap (take count) (sym (drop-map (field_row_to (keep f)) first p.fields)))
        ∙ sym (ap (range (below (keep f).fields first) (below (behind first (keep f).fields) count)) (map_select (field_row_to (keep f)) (keep f).fields p.fields) ∙ kept_rows.range (keep f).fields (map (field_row_to (keep f)) p.fields) first count))

    methods_law : (first count : ℕ) → filter (λ (x : OwnMethod). kept.method x.id) (numbered (own_method size ps f) first (range first count p.methods)) ≡ map (carry.own_method_to r) (numbered (own_method more cs f) (below (keep f).methods first) (range (below (keep f).methods first) (below (behind first (keep f).methods) count) (select (keep f).methods (numbered (method_row_to (keep f)) 0 p.methods))))
    methods_law first count =
        let zero_first : 0 + first ≡ first = omega arith in
        numbered_law (own_method size ps f) (own_method more cs f) (method_row_to (keep f)) (carry.own_method_to r) (λ (x : OwnMethod). kept.method x.id) (keep f).methods (range first count p.methods) first (λ m x. refl) (λ i x e k. method_head (first + i) x (range_get first count p.methods i x e) k)
        ∙ ap (λ ys. map (carry.own_method_to r) (numbered (own_method more cs f) (below (keep f).methods first) ys))
        (ap (select (behind first (keep f).methods)) (sym (ap (take count) (drop_numbered (method_row_to (keep f)) first 0 p.methods ∙ ap (λ n. numbered (method_row_to (keep f)) n (drop first p.methods)) zero_first) ∙ take_numbered (method_row_to (keep f)) count first (drop first p.methods)))
        ∙ sym (kept_rows.range (keep f).methods (numbered (method_row_to (keep f)) 0 p.methods) first count))

    module _ (n : ℕ) (t : TypeRow) (row : slice_get p.types n ≡ Some t) (k : (keep f).types n ≡ true) where
      abbrev low_class : Class
      low_class = class_with more cs f (chosen (keep f) p) (type_row_to (keep f) t)

      abbrev high_class : Class
      high_class = class_with size ps f p t

      outer : (o : Option ℕ) → t.enclosing ≡ o → option_map (id_at f) o ≡ option_map r.type (option_map (id_at f) (option_map (below (keep f).types) o))
      outer None e = refl
      outer (Some m) e =
          let w = closed.outer f n p t m at row k e in
          ap Some (sym (type_back keep ps size more closed grows (id_at f m) p w.1.0 at w.1.1 w.0))

      up : (o : Option TypeToken) → t.extends ≡ o → on_some o (resolve size ps f) ≡ option_map r.type (on_some (option_map (token_to (keep f)) o) (resolve more cs f))
      up None e = refl
      up (Some x) e = named keep ps size more closed grows f x (closed.extends f n p t x at row k e)

      own_fields : filter (λ (x : OwnField). kept.field x.id) high_class.fields ≡ map (carry.field_to r) low_class.fields
      own_fields =
          fields_law t.first_field t.field_count
          ∙ ap (map (carry.field_to r)) (sym (from_first (own_field more cs f) (below (keep f).fields t.first_field) (below (behind t.first_field (keep f).fields) t.field_count) (map (field_row_to (keep f)) (select (keep f).fields p.fields))))

      pub class_law : ClassAlike r kept low_class high_class
      class_law =
          record {
            namespace = refl;
            name = refl;
            enclosing = outer t.enclosing refl;
            superclass = up t.extends refl;
            interfaces = all_there keep ps size more closed grows (resolve size ps f) (resolve more cs f) (token_to (keep f)) r.type _ (named keep ps size more closed grows f) t.interfaces (closed.interfaces f n p t at row k);
            kind = refl;
            is_interface = refl;
            is_lazy = refl;
            fields = own_fields;
            methods =
                methods_law t.first_method t.method_count
                ∙ ap (map (carry.own_method_to r)) (sym (from_first (own_method more cs f) (below (keep f).methods t.first_method) (below (behind t.first_method (keep f).methods) t.method_count) (select (keep f).methods (numbered (method_row_to (keep f)) 0 p.methods))));
            instances =
                sym (filter_twice (own_field size ps f) is_instance (λ (x : OwnField). kept.field x.id) t.first_field (range t.first_field t.field_count p.fields) (λ i x e q. closed.instance f n i p t x at row k e q))
                ∙ ap (filter is_instance) own_fields
                ∙ lists.filter_map (carry.field_to r) is_instance is_instance low_class.fields (λ x. refl);
            starts = λ m e.
                let w = find_row (own_method size ps f) is_initialiser t.first_method (range t.first_method t.method_count p.methods) m e in
                ap (λ (x : OwnMethod). kept.method x.id) (sym w.1.2) ∙ closed.initialiser f n w.0 p t w.1.0 at row k w.1.1 (ap is_initialiser w.1.2 ∙ w.1.3);
          }

      pub low_there : class_at more cs (id_at f (below (keep f).types n)) ≡ Some low_class
      low_there =
          ap (λ o. on_some o (λ (q : Assembly). option_map (class_with more cs f q) (slice_get q.types (below (keep f).types n)))) (chosen_at keep ps f ∙ ap (option_map (chosen (keep f))) at)
          ∙ ap (option_map (class_with more cs f (chosen (keep f) p))) (slice_get-map (type_row_to (keep f)) (select (keep f).types p.types) (below (keep f).types n) ∙ ap (option_map (type_row_to (keep f))) (kept_rows.there (keep f).types p.types n k ∙ row))

      pub high_there : class_at size ps (id_at f n) ≡ Some high_class
      high_there = ap (λ o. on_some o (λ (q : Assembly). option_map (class_with size ps f q) (slice_get q.types n))) at ∙ ap (option_map (class_with size ps f p)) row

  alike_at : (l h : Option Class) (x y : Class) → l ≡ Some x → h ≡ Some y → ClassAlike r kept x y → BothAlike r kept l h
  alike_at l h x y e g w = subst (λ o. BothAlike r kept o h) (sym e) (subst (λ o. BothAlike r kept (Some x) o) (sym g) w)

  none_alike : (l h : Option Class) → l ≡ None → h ≡ None → BothAlike r kept l h
  none_alike l h e g = subst (λ o. BothAlike r kept o h) (sym e) (subst (λ o. BothAlike r kept None o) (sym g) tt)

  pub classes_law : (c : Id) → BothAlike r kept (class_at more cs c) (class_at size ps (r.type c))
  classes_law c = go (slice_get ps c.file) refl
    where
      there : (p : Assembly) → slice_get ps c.file ≡ Some p → IsRow (keep c.file).types (count_of (λ (q : Assembly). q.types) ps c.file) c.row → BothAlike r kept (class_at more cs c) (class_at size ps (r.type c))
      there p at w =
          let t = get_there p.types w.row (subst (λ m. w.row < m) (count_law (λ (q : Assembly). q.types) ps c.file p at) w.within) in
          alike_at (class_at more cs c) (class_at size ps (r.type c)) _ _
          (ap (λ j. class_at more cs (id_at c.file j)) (sym w.number) ∙ low_there c.file p at w.row t.0 t.1 w.kept)
          (ap (λ j. class_at size ps (id_at c.file j)) w.back ∙ high_there c.file p at w.row t.0 t.1 w.kept)
          (class_law c.file p at w.row t.0 t.1 w.kept)

      past : (p : Assembly) → slice_get ps c.file ≡ Some p → (length (rows (keep c.file).types (count_of (λ (q : Assembly). q.types) ps c.file)) ≤ c.row) × (count_of (λ (q : Assembly). q.types) ps c.file ≤ (r.type c).row) → BothAlike r kept (class_at more cs c) (class_at size ps (r.type c))
      past p at w =
          let len = count_law (λ (q : Assembly). q.types) ps c.file p at in
          none_alike (class_at more cs c) (class_at size ps (r.type c))
          (ap (λ o. on_some o (λ (q : Assembly). option_map (class_with more cs c.file q) (slice_get q.types c.row))) (chosen_at keep ps c.file ∙ ap (option_map (chosen (keep c.file))) at)
          ∙ ap (option_map (class_with more cs c.file (chosen (keep c.file) p))) (slice_get-map (type_row_to (keep c.file)) (select (keep c.file).types p.types) c.row ∙ ap (option_map (type_row_to (keep c.file))) (past_selected (keep c.file).types p.types c.row (subst (λ m. length (rows (keep c.file).types m) ≤ c.row) len w.0))))
          (ap (λ o. on_some o (λ (q : Assembly). option_map (class_with size ps c.file q) (slice_get q.types (r.type c).row))) at
          ∙ ap (option_map (class_with size ps c.file p)) (get_past p.types (r.type c).row (subst (λ m. m ≤ (r.type c).row) len w.1)))

      go : (o : Option Assembly) → slice_get ps c.file ≡ o → BothAlike r kept (class_at more cs c) (class_at size ps (r.type c))
      go None e =
          none_alike (class_at more cs c) (class_at size ps (r.type c))
          (ap (λ o. on_some o (λ (q : Assembly). option_map (class_with more cs c.file q) (slice_get q.types c.row))) (chosen_at keep ps c.file ∙ ap (option_map (chosen (keep c.file))) e))
          (ap (λ o. on_some o (λ (q : Assembly). option_map (class_with size ps c.file q) (slice_get q.types (r.type c).row))) e)
      go (Some p) e = ⊎_elim (there p e) (past p e) (number_view (keep c.file).types (count_of (λ (q : Assembly). q.types) ps c.file) c.row)
