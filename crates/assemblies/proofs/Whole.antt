-- A closed choice of rows answers as the whole set.
use Rattle.std.proofs.Common.{◌≡◌, ℕ, zero, suc, ◌+◌, ◌<◌, Bool, true, false, ◌&&◌, List, [], ◌∷◌, map, Option, Some, None, refl, sym, ap, ◌∙◌, subst, arith}
use Rattle.std.specs.Prelude.{codes, slice_get, if◌then◌else◌, unwrap_or}
use Rattle.std.specs.Option.{option_map}
use Rattle.std.specs.List.{filter, find, position}
use Rattle.plain_types.specs.declared.elem.Elem.{Elem}
use Rattle.machine.specs.Data.{Id}
use Rattle.machine.specs.Texts.{same_text}
use Rattle.machine.specs.Throw.{on_some}
use Rattle.machine_rename.specs.Rename.{Renaming, Answers}
use Rattle.classes.specs.Classes.{OwnMethod, Class, Classes}
use Rattle.classes.specs.Queries.{has_name, library_class, known_name, basic_name, method_at, own_virtual, methods_of, chain_within}
use Rattle.classes.specs.Queries as q
use Rattle.classes.specs.Listed.{program_of}
use Rattle.alike.specs.Alike.{Kept, BothAlike, ClassesAlike, Alike}
use Rattle.alike.proofs.Lists.{find_map, find_none, find_kept}
use Rattle.alike.proofs.Whole as alike
use Rattle.kept_rows.specs.Select.{select, below}
use Rattle.kept_rows.proofs.SelectLaws as kept_rows
use Rattle.assemblies.specs.Rows.{TypeRow, FieldRow, MethodRow, Assembly}
use Rattle.assemblies.specs.Binding.{first_number, id_at, numbered, holds, class_with, class_at, classes_of, entry_from, sources_of, library, method_owner, field_owner}
use Rattle.assemblies.specs.Chosen.{Choice, type_row_to, method_row_to, chosen, chosen_set, renaming, kept_members, count_of}
use Rattle.assemblies.specs.Joined.{Joined}
use Rattle.assemblies.proofs.Binds.{on_some_back, map_back, chosen_at, set_position}
use Rattle.assemblies.proofs.Back.{get_within, count_law, real_row, ids_apart}
use Rattle.assemblies.proofs.Signatures.{type_back}
use Rattle.assemblies.proofs.ClassLaws.{classes_law, method_back}
use Rattle.assemblies.proofs.Owners.{method_owner_law, field_owner_law}
use Rattle.assemblies.proofs.CodeRows.{code_of_law}
use Rattle.assemblies.proofs.Numbered.{get_numbered, map_select, numbered_law, numbered_map}

module _ (size more : ℕ) (keep : ℕ → Choice) (ps : List Assembly) (j : Joined size more keep ps) where
  abbrev cs : List Assembly
  cs = chosen_set keep ps

  abbrev r : Renaming
  r = renaming keep ps

  abbrev kept : Kept
  kept = kept_members keep

  abbrev low : Classes
  low = classes_of more cs

  abbrev high : Classes
  high = classes_of size ps

  -- ---- the library
  abbrev is_kept : Id → Bool
  is_kept c = (keep c.file).types c.row

  abbrev named_so : List ℕ → Class → Bool
  named_so name k = same_text k.namespace (codes "System") && same_text k.name name

  name_law : (name : List ℕ) (c : Id) → has_name high name (r.type c) ≡ has_name low name c
  name_law name c = go (class_at more cs c) (class_at size ps (r.type c)) (classes_law keep ps size more j.closed j.grows c)
    where
      go : (l h : Option Class) → BothAlike r kept l h → unwrap_or (option_map (named_so name) h) false ≡ unwrap_or (option_map (named_so name) l) false
      go None None e = refl
      go (Some l) (Some h) e = ap (λ t. same_text t (codes "System") && same_text h.name name) e.namespace ∙ ap (λ t. same_text l.namespace (codes "System") && same_text t name) e.name
      go None (Some h) e = absurd e
      go (Some l) None e = absurd e

  abbrev is_base : Assembly → Bool
  is_base p = same_text p.name (codes "mscorlib")

  abbrev types_of : ℕ → List Assembly → Option ℕ → List Id
  types_of k qs o = unwrap_or (on_some o (λ f. option_map (λ (p : Assembly). numbered (λ n (t : TypeRow). id_at f n) 0 p.types) (slice_get qs f))) []

  library_law : filter is_kept (library ps) ≡ map r.type (library cs)
  library_law = go (first_number is_base ps) ∙ sym (ap (λ o. map r.type (types_of 0 cs o)) (set_position keep is_base ps (λ k p. refl)))
    where
      head : (f : ℕ) (p : Assembly) → slice_get ps f ≡ Some p → (i : ℕ) (x : TypeRow) → slice_get p.types i ≡ Some x → (keep f).types (0 + i) ≡ true → id_at f (0 + i) ≡ r.type (id_at f (below (keep f).types (0 + i)))
      head f p at i x e k = let same : i ≡ 0 + i = omega arith in sym (type_back keep ps size more j.closed j.grows (id_at f (0 + i)) p x at (ap (slice_get p.types) (sym same) ∙ e) k)

      in_file : (f : ℕ) (o : Option Assembly) → slice_get ps f ≡ o → filter is_kept (unwrap_or (option_map (λ (p : Assembly). numbered (λ n (t : TypeRow). id_at f n) 0 p.types) o) []) ≡ map r.type (unwrap_or (option_map (λ (p : Assembly). numbered (λ n (t : TypeRow). id_at f n) 0 p.types) (option_map (chosen (keep f)) o)) [])
      in_file f None e = refl
      in_file f (Some p) e =
          numbered_law (λ n (t : TypeRow). id_at f n) (λ n (t : TypeRow). id_at f n) (λ n t. type_row_to (keep f) t) r.type is_kept (keep f).types p.types 0 (λ m x. refl) (head f p e)
          ∙ ap (λ ys. map r.type (numbered (λ n (t : TypeRow). id_at f n) 0 ys)) (ap (select (keep f).types) (numbered_map (type_row_to (keep f)) 0 p.types) ∙ sym (map_select (type_row_to (keep f)) (keep f).types p.types))

      go : (o : Option ℕ) → filter is_kept (types_of 0 ps o) ≡ map r.type (types_of 0 cs o)
      go None = refl
      go (Some f) =
          in_file f (slice_get ps f) refl
          ∙ ap (λ o. map r.type (unwrap_or (option_map (λ (p : Assembly). numbered (λ n (t : TypeRow). id_at f n) 0 p.types) o) [])) (sym (chosen_at keep ps f))

  class_law : (name : List ℕ) → ((c : Id) → library_class high name ≡ Some c → is_kept c ≡ true) → library_class high name ≡ option_map r.type (library_class low name)
  class_law name k =
      go (library_class high name) refl
      ∙ ap (find (has_name high name)) library_law
      ∙ find_map r.type (has_name high name) (has_name low name) (library cs) (name_law name)
    where
      go : (o : Option Id) → library_class high name ≡ o → library_class high name ≡ find (has_name high name) (filter is_kept (library ps))
      go None e = e ∙ sym (find_none (has_name high name) is_kept (library ps) e)
      go (Some c) e = e ∙ sym (find_kept (has_name high name) is_kept (library ps) c e (k c e))

  basic_law : (e : Elem) → q.basic high e ≡ option_map r.type (q.basic low e)
  basic_law e = go (basic_name e) refl
    where
      go : (o : Option (List ℕ)) → basic_name e ≡ o → on_some o (library_class high) ≡ option_map r.type (on_some o (library_class low))
      go None p = refl
      go (Some name) p = class_law name (λ c t. j.basics e name c p t)

  -- ---- rows that are there
  real_type : (c : Id) (k : Class) → class_at size ps (r.type c) ≡ Some k → is_kept (r.type c) ≡ true
  real_type c k e =
      let w = on_some_back (slice_get ps c.file) (λ (p : Assembly). option_map (class_with size ps c.file p) (slice_get p.types (r.type c).row)) k e in
      let v = map_back (class_with size ps c.file w.0) (slice_get w.0.types (r.type c).row) k w.2 in
      real_row (keep c.file).types (count_of (λ (p : Assembly). p.types) ps c.file) c.row (subst (λ m. (r.type c).row < m) (sym (count_law (λ (p : Assembly). p.types) ps c.file w.0 w.1)) (get_within w.0.types (r.type c).row v.0 v.1))

  abbrev owner_in : ℕ → Assembly → ℕ → MethodRow → Option Id
  owner_in f p n x = option_map (id_at f) (position (λ (t : TypeRow). holds t.first_method t.method_count n) p.types)

  real_method : (m c : Id) → method_owner ps (r.method m) ≡ Some c → kept.method (r.method m) ≡ true
  real_method m c e =
      let w = on_some_back (slice_get ps m.file) (λ (p : Assembly). on_some (slice_get p.methods (r.method m).row) (owner_in m.file p (r.method m).row)) c e in
      let v = on_some_back (slice_get w.0.methods (r.method m).row) (owner_in m.file w.0 (r.method m).row) c w.2 in
      real_row (keep m.file).methods (count_of (λ (p : Assembly). p.methods) ps m.file) m.row (subst (λ n. (r.method m).row < n) (sym (count_law (λ (p : Assembly). p.methods) ps m.file w.0 w.1)) (get_within w.0.methods (r.method m).row v.0 v.1))

  abbrev field_owner_in : ℕ → Assembly → ℕ → FieldRow → Option Id
  field_owner_in f p n x = option_map (id_at f) (position (λ (t : TypeRow). holds t.first_field t.field_count n) p.types)

  real_field : (m c : Id) → field_owner ps (r.field m) ≡ Some c → kept.field (r.field m) ≡ true
  real_field m c e =
      let w = on_some_back (slice_get ps m.file) (λ (p : Assembly). on_some (slice_get p.fields (r.field m).row) (field_owner_in m.file p (r.field m).row)) c e in
      let v = on_some_back (slice_get w.0.fields (r.field m).row) (field_owner_in m.file w.0 (r.field m).row) c w.2 in
      real_row (keep m.file).fields (count_of (λ (p : Assembly). p.fields) ps m.file) m.row (subst (λ n. (r.field m).row < n) (sym (count_law (λ (p : Assembly). p.fields) ps m.file w.0 w.1)) (get_within w.0.fields (r.field m).row v.0 v.1))

  -- a class with a virtual method is there
  has_class : (m : OwnMethod) (c : Id) (y : OwnMethod) → own_virtual high m c ≡ Some y → (k : Class) × (class_at size ps c ≡ Some k)
  has_class m c y e = go (class_at size ps c) refl
    where
      go : (o : Option Class) → class_at size ps c ≡ o → (k : Class) × (class_at size ps c ≡ Some k)
      go None p = absurd (cc (sym (ap (λ o. find (q.is_virtual_named m) (unwrap_or (option_map (λ (k : Class). k.methods) o) [])) p) ∙ e))
      go (Some k) p = (k, p)

  chain_none : (n : ℕ) (c : Id) → class_at size ps c ≡ None → chain_within n high c ≡ c ∷ []
  chain_none zero c e = refl
  chain_none (suc n) c e = ap (λ o. c ∷ unwrap_or (option_map (chain_within n high) (on_some o (λ (k : Class). k.superclass))) []) e

  has_first : (m : OwnMethod) (c : Id) (y : OwnMethod) → q.first_some (own_virtual high m) (q.chain high c) ≡ Some y → (k : Class) × (class_at size ps c ≡ Some k)
  has_first m c y e = go (class_at size ps c) refl
    where
      one : (o : Option OwnMethod) → q.or_else o None ≡ o
      one None = refl
      one (Some x) = refl

      go : (o : Option Class) → class_at size ps c ≡ o → (k : Class) × (class_at size ps c ≡ Some k)
      go None p = has_class m c y (sym (one (own_virtual high m c)) ∙ sym (ap (q.first_some (own_virtual high m)) (chain_none size c p)) ∙ e)
      go (Some k) p = (k, p)

  -- ---- the whole
  pub classes : ClassesAlike r kept low high
  classes =
      record {
        types = ids_apart (λ f. (keep f).types) (count_of (λ (p : Assembly). p.types) ps);
        methods = ids_apart (λ f. (keep f).methods) (count_of (λ (p : Assembly). p.methods) ps);
        fields = ids_apart (λ f. (keep f).fields) (count_of (λ (p : Assembly). p.fields) ps);
        class = classes_law keep ps size more j.closed j.grows;
        method_owner = method_owner_law keep ps size more j.closed j.grows;
        field_owner = field_owner_law keep ps size more j.closed j.grows;
        has_method = λ m c e. real_method m (r.type c) (method_owner_law keep ps size more j.closed j.grows m ∙ ap (option_map r.type) e);
        has_field = λ m c e. real_field m (r.type c) (field_owner_law keep ps size more j.closed j.grows m ∙ ap (option_map r.type) e);
        size = j.grows;
        ups = λ c. j.ups (r.type c);
        parents = λ c. j.parents (r.type c);
        outers = λ c. j.outers (r.type c);
        firsts = λ m c x e f v. j.firsts (r.method m) (r.type c) x (method_owner_law keep ps size more j.closed j.grows m ∙ ap (option_map r.type) e) f v;
        alone = λ m c y e k. j.alone m (r.type c) y e k;
        slots = λ m c y u up way e n near. let w = has_class m (r.type c) y e in j.slots m (r.type c) y u up (real_type c w.0 w.1) way e n near;
        fills = λ m c i y o f k h s g e. let w = has_first m (r.type c) y e in j.fills m (r.type c) (r.type i) y (real_type c w.0 w.1) o f k h s g e;
        basic = basic_law;
        array = class_law (codes "Array") j.array;
        exception = class_law (codes "Exception") j.exception;
      }

  -- the entry
  abbrev starts : ℕ → ℕ → MethodRow → Option Id
  starts n row m = if m.is_static then Some (id_at n row) else None

  entry_here : (n row : ℕ) (p : Assembly) → slice_get ps n ≡ Some p → p.entry ≡ Some row → on_some (slice_get p.methods row) (starts n row) ≡ option_map r.method (on_some (slice_get (select (keep n).methods (numbered (method_row_to (keep n)) 0 p.methods)) (below (keep n).methods row)) (starts n (below (keep n).methods row)))
  entry_here n row p at e =
      let k = j.closed.entry n row p at e in
      go (slice_get p.methods row) refl k
      ∙ sym (ap (λ o. option_map r.method (on_some o (starts n (below (keep n).methods row)))) (kept_rows.there (keep n).methods (numbered (method_row_to (keep n)) 0 p.methods) row k ∙ get_numbered (method_row_to (keep n)) 0 row p.methods))
    where
      static : (b : Bool) (m : MethodRow) → slice_get p.methods row ≡ Some m → (keep n).methods row ≡ true → (if b then Some (id_at n row) else None) ≡ option_map r.method (if b then Some (id_at n (below (keep n).methods row)) else None)
      static true m q k = ap Some (sym (method_back keep ps size more j.closed j.grows n row p m at q k))
      static false m q k = refl

      go : (o : Option MethodRow) → slice_get p.methods row ≡ o → (keep n).methods row ≡ true → on_some (slice_get p.methods row) (starts n row) ≡ option_map r.method (on_some (option_map (method_row_to (keep n) (0 + row)) (slice_get p.methods row)) (starts n (below (keep n).methods row)))
      go None q k = ap (λ o. on_some o (starts n row)) q ∙ sym (ap (λ o. option_map r.method (on_some (option_map (method_row_to (keep n) (0 + row)) o) (starts n (below (keep n).methods row)))) q)
      go (Some m) q k =
          ap (λ o. on_some o (starts n row)) q ∙ static m.is_static m q k ∙ sym (ap (λ o. option_map r.method (on_some (option_map (method_row_to (keep n) (0 + row)) o) (starts n (below (keep n).methods row)))) q)

  abbrev from_entry : ℕ → List MethodRow → Option ℕ → Option Id → Option Id
  from_entry n methods entry rest = elim entry [ None ↦ rest | Some row ↦ on_some (slice_get methods row) (starts n row) ]

  entry_law : (n : ℕ) (k : ℕ → Choice) (rest : List Assembly) → ((i : ℕ) → slice_get rest i ≡ slice_get ps (n + i)) → ((i : ℕ) → k i ≡ keep (n + i)) → entry_from n rest ≡ option_map r.method (entry_from n (chosen_set k rest))
  entry_law n k [] h g = refl
  entry_law n k (p ∷ rest) h g =
      let same : n + 0 ≡ n = omega arith in
      subst (λ c. from_entry n p.methods p.entry (entry_from (suc n) rest) ≡ option_map r.method (from_entry n (select c.methods (numbered (method_row_to c) 0 p.methods)) (option_map (below c.methods) p.entry) (entry_from (suc n) (chosen_set (λ i. k (suc i)) rest)))) (sym (g 0 ∙ ap keep same))
      (go p.entry refl (sym (h 0 ∙ ap (slice_get ps) same))
      (entry_law (suc n) (λ i. k (suc i)) rest (λ i. let on : n + suc i ≡ suc n + i = omega arith in h (suc i) ∙ ap (slice_get ps) on) (λ i. let on : n + suc i ≡ suc n + i = omega arith in g (suc i) ∙ ap keep on)))
    where
      go : (o : Option ℕ) → p.entry ≡ o → slice_get ps n ≡ Some p → entry_from (suc n) rest ≡ option_map r.method (entry_from (suc n) (chosen_set (λ i. k (suc i)) rest)) → from_entry n p.methods o (entry_from (suc n) rest) ≡ option_map r.method (from_entry n (select (keep n).methods (numbered (method_row_to (keep n)) 0 p.methods)) (option_map (below (keep n).methods) o) (entry_from (suc n) (chosen_set (λ i. k (suc i)) rest)))
      go None e at ih = ih
      go (Some row) e at ih = entry_here n row p at e

  pub whole : Alike r kept (sources_of more cs) (sources_of size ps)
  whole =
      record {
        classes = classes;
        begin = λ m. j.begin m.file _;
        places = λ m x y. j.places m.file _ x y;
        code = code_of_law keep ps size more j.closed j.grows classes;
        entry = entry_law 0 keep ps (λ i. let same : i ≡ 0 + i = omega arith in ap (slice_get ps) same) (λ i. let same : i ≡ 0 + i = omega arith in ap keep same);
        known = λ k asked. class_law (known_name k) (λ c e. j.asked k c asked e);
      }

pub answers : (size more : ℕ) (keep : ℕ → Choice) (ps : List Assembly) → Joined size more keep ps → Answers (renaming keep ps) (program_of (sources_of more (chosen_set keep ps))) (program_of (sources_of size ps))
answers size more keep ps j = alike.answers (renaming keep ps) (sources_of more (chosen_set keep ps)) (sources_of size ps) (kept_members keep) (whole size more keep ps j)
