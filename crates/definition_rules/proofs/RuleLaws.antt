-- The rules of references are those by which they keep their definitions.
use Rattle.std.proofs.Common.{◌≡◌, ℕ, zero, suc, ◌+◌, ◌<◌, List, length, map, Option, Some, None, refl, sym, ap, ◌∙◌, arith}
use Rattle.std.specs.Prelude.{slice_get}
use Rattle.std.specs.List.{range_with_len, filter}
use Rattle.std.specs.Option.{option_map}
use Rattle.std.proofs.lemmas.List.{length-map}
use Rattle.std.proofs.lemmas.List.Sums.{length-filter}
use Rattle.std.proofs.lemmas.List.FromFn.{length-range_with_len, get_or-range_with_len}
use Rattle.std.proofs.lemmas.Option.{slice_get_within, slice_get-get_or}
use Rattle.file_tables.specs.Metadata.{rows_of}
use Rattle.file_tables.specs.File.{FilePart}
use Rattle.machine.specs.Data.{Id}
use Rattle.machine.specs.Throw.{on_some}
use Rattle.assemblies.specs.Rows.{Reference, TypeRefRow, FieldRefRow, MethodRefRow, Assembly}
use Rattle.assemblies.specs.Binding.{in_scope, resolve, resolve_ref, resolve_field, resolve_method, expanded, expanded_signature, classes_of}
use Rattle.classes.specs.Queries.{find_field, find_method}
use Rattle.kept_rules.specs.Row.{Row, TypeRefAt, FieldRefAt, MethodRefAt, in_option}
use Rattle.kept_rules.specs.Rules.{RowRule, Defined, FieldDefined, MethodDefined, type_at, field_at, method_at}
use Rattle.world_rows.specs.Rows.{type_ref, field_ref, method_ref}
use Rattle.world_rows.specs.Tokens.{type_refs, member_refs, is_field_ref, is_method_ref}
use Rattle.world_rows.specs.World.{size_of, rows_alone, assemblies_of}
use Rattle.row_rules.specs.Links.{Link, keeps, links_from}
use Rattle.row_rules.specs.Given.{link_of, HasLink, AreRules}
use Rattle.row_rules.proofs.NameLaws.{IsOf, has_link, is_link, stands, row}
use Rattle.definition_rules.specs.Definitions.{one_row, type_definitions, type_ref_count, field_definitions, field_ref_count, method_definitions, method_ref_count}

counted : (count n : ℕ) → n < count → slice_get (range_with_len 0 count) n ≡ Some n
counted count n within =
    let long : length (range_with_len 0 count) ≡ count = length-range_with_len 0 count in
    let inside : n < length (range_with_len 0 count) = omega (arith, within, long) in
    let same : 0 + n ≡ n = omega arith in
    slice_get-get_or (range_with_len 0 count) n 0 inside ∙ ap Some (get_or-range_with_len 0 count n 0 within ∙ same)

counted_is : (count n x : ℕ) → slice_get (range_with_len 0 count) n ≡ Some x → x ≡ n
counted_is count n x e =
    let long : length (range_with_len 0 count) ≡ count = length-range_with_len 0 count in
    let inside : n < length (range_with_len 0 count) = slice_get_within (range_with_len 0 count) n x e in
    let within : n < count = omega (arith, inside, long) in
    let both : Some x ≡ Some n = sym e ∙ counted count n within in
    cc both

some_of : {A B : Type 0} (go : A → Option B) (o : Option A) (y : B) → on_some o go ≡ Some y → (x : A) × ((o ≡ Some x) × (go x ≡ Some y))
some_of go None y e = absurd (cc e)
some_of go (Some x) y e = (x, (refl, e))

module _ (at : ℕ → Row) (to : Id → Row) (named : ℕ → Option Id) where
  abbrev names : ℕ → List Row
  names n = in_option one_row (option_map to (named n))

  abbrev IsOne : Link → Type 0
  IsOne l = (n : ℕ) × ((c : Id) × ((named n ≡ Some c) × (l ≡ keeps (at n) (to c))))

  abbrev links : ℕ → List Link
  links count = links_from at names 0 (range_with_len 0 count)

  has_one : (count n : ℕ) (c : Id) → n < count → named n ≡ Some c → (k : ℕ) × (slice_get (links count) k ≡ Some (keeps (at n) (to c)))
  has_one count n c within e =
      let w = has_link at names 0 (range_with_len 0 count) n 0 n (to c) (counted count n within) (ap (λ o. slice_get (in_option one_row (option_map to o)) 0) e) in
      let same : 0 + n ≡ n = omega arith in
      (w.0, w.1 ∙ ap (λ k. Some (keeps (at k) (to c))) same)

  is_one : (count k : ℕ) (l : Link) → slice_get (links count) k ≡ Some l → IsOne l
  is_one count k l e = go (is_link at names 0 (range_with_len 0 count) k l e)
    where
      of_name : (n i : ℕ) (c : Row) (o : Option Id) → named n ≡ o → slice_get (in_option one_row (option_map to o)) i ≡ Some c → l ≡ keeps (at n) c → IsOne l
      of_name n i c None f g h = absurd (cc g)
      of_name n zero c (Some d) f g h = let same : to d ≡ c = cc g in (n, (d, (f, h ∙ ap (keeps (at n)) (sym same))))
      of_name n (suc i) c (Some d) f g h = absurd (cc g)

      go : IsOf at names 0 (range_with_len 0 count) l → IsOne l
      go (n, (i, (x, (c, (f, (g, h)))))) =
          let here : 0 + n ≡ n = omega arith in
          of_name n i c (named n) refl (ap (λ y. slice_get (names y) i) (sym (counted_is count n x f)) ∙ g) (h ∙ ap (λ z. keeps (at z) c) here)

-- ---- a file of a world

within_map : {A B : Type 0} (g : A → B) (xs : List A) (n : ℕ) (y : B) → slice_get (map g xs) n ≡ Some y → n < length xs
within_map g xs n y e =
    let inside : n < length (map g xs) = slice_get_within (map g xs) n y e in
    let long : length (map g xs) ≡ length xs = length-map xs g in
    omega (arith, inside, long)

module _ (files : List FilePart) (f : ℕ) where
  abbrev size : ℕ
  size = size_of (rows_alone files)

  abbrev ps : List Assembly
  ps = assemblies_of files

  pub are_types : (count : ℕ) → AreRules size ps (type_definitions files f count)
  are_types count k l e = go (is_one (TypeRefAt f) type_at (resolve_ref size ps f) count k l e)
    where
      go : IsOne (TypeRefAt f) type_at (resolve_ref size ps f) l → (r : RowRule size ps) × (l ≡ link_of size ps r)
      go (n, (c, (g, h))) = (Defined f n c g, h)

  pub are_fields : (count : ℕ) → AreRules size ps (field_definitions files f count)
  are_fields count k l e = go (is_one (FieldRefAt f) field_at (λ j. resolve_field size ps f (Reference j)) count k l e)
    where
      go : IsOne (FieldRefAt f) field_at (λ j. resolve_field size ps f (Reference j)) l → (r : RowRule size ps) × (l ≡ link_of size ps r)
      go (n, (c, (g, h))) = (FieldDefined f n c g, h)

  pub are_methods : (count : ℕ) → AreRules size ps (method_definitions files f count)
  are_methods count k l e = go (is_one (MethodRefAt f) method_at (λ j. resolve_method size ps f (Reference j)) count k l e)
    where
      go : IsOne (MethodRefAt f) method_at (λ j. resolve_method size ps f (Reference j)) l → (r : RowRule size ps) × (l ≡ link_of size ps r)
      go (n, (c, (g, h))) = (MethodDefined f n c g, h)

  module _ (x : FilePart) (there : slice_get files f ≡ Some x) where
    abbrev whole : Assembly
    whole = row files f x there f x

    type_inside : (n : ℕ) (c : Id) → resolve_ref size ps f n ≡ Some c → n < type_ref_count x.metadata
    type_inside n c e = go size e
      where
        go : (k : ℕ) → resolve_ref k ps f n ≡ Some c → n < type_ref_count x.metadata
        go zero h = absurd (cc h)
        go (suc k) h =
            let looked = some_of (λ (r : TypeRefRow). in_scope ps f (resolve_ref k ps f) r r.scope) (slice_get whole.refs n) c (sym (ap (λ o. on_some o (λ (p : Assembly). on_some (slice_get p.refs n) (λ r. in_scope ps f (resolve_ref k ps f) r r.scope))) (stands files f x there)) ∙ h) in
            within_map (type_ref x.metadata) (rows_of x.metadata type_refs) n looked.0 looked.1.0

    field_inside : (n : ℕ) (c : Id) → resolve_field size ps f (Reference n) ≡ Some c → n < field_ref_count x.metadata
    field_inside n c e =
        let looked = some_of (λ (r : FieldRefRow). on_some (resolve size ps f r.parent) (λ d. option_map (λ m. m.id) (find_field (classes_of size ps) d r.name (expanded size ps f r.signature)))) (slice_get whole.field_refs n) c
        (sym (ap (λ o. on_some o (λ (p : Assembly). on_some (slice_get p.field_refs n) (λ r. on_some (resolve size ps f r.parent) (λ d. option_map (λ m. m.id) (find_field (classes_of size ps) d r.name (expanded size ps f r.signature)))))) (stands files f x there)) ∙ e) in
        let inside : n < length (filter (is_field_ref x.metadata) (rows_of x.metadata member_refs)) = within_map (field_ref x.metadata) (filter (is_field_ref x.metadata) (rows_of x.metadata member_refs)) n looked.0 looked.1.0 in
        let count = length-filter (is_field_ref x.metadata) (rows_of x.metadata member_refs) in
        omega (arith, inside, count)

    method_inside : (n : ℕ) (c : Id) → resolve_method size ps f (Reference n) ≡ Some c → n < method_ref_count x.metadata
    method_inside n c e =
        let looked = some_of (λ (r : MethodRefRow). on_some (resolve size ps f r.parent) (λ d. option_map (λ m. m.id) (find_method (classes_of size ps) d r.name (expanded_signature size ps f r.signature)))) (slice_get whole.method_refs n) c
        (sym (ap (λ o. on_some o (λ (p : Assembly). on_some (slice_get p.method_refs n) (λ r. on_some (resolve size ps f r.parent) (λ d. option_map (λ m. m.id) (find_method (classes_of size ps) d r.name (expanded_signature size ps f r.signature)))))) (stands files f x there)) ∙ e) in
        let inside : n < length (filter (is_method_ref x.metadata) (rows_of x.metadata member_refs)) = within_map (method_ref x.metadata) (filter (is_method_ref x.metadata) (rows_of x.metadata member_refs)) n looked.0 looked.1.0 in
        let count = length-filter (is_method_ref x.metadata) (rows_of x.metadata member_refs) in
        omega (arith, inside, count)

    pub has_type : (n : ℕ) (c : Id) (e : resolve_ref size ps f n ≡ Some c) → HasLink (type_definitions files f (type_ref_count x.metadata)) size ps (Defined f n c e)
    has_type n c e = has_one (TypeRefAt f) type_at (resolve_ref size ps f) (type_ref_count x.metadata) n c (type_inside n c e) e

    pub has_field : (n : ℕ) (c : Id) (e : resolve_field size ps f (Reference n) ≡ Some c) → HasLink (field_definitions files f (field_ref_count x.metadata)) size ps (FieldDefined f n c e)
    has_field n c e = has_one (FieldRefAt f) field_at (λ j. resolve_field size ps f (Reference j)) (field_ref_count x.metadata) n c (field_inside n c e) e

    pub has_method : (n : ℕ) (c : Id) (e : resolve_method size ps f (Reference n) ≡ Some c) → HasLink (method_definitions files f (method_ref_count x.metadata)) size ps (MethodDefined f n c e)
    has_method n c e = has_one (MethodRefAt f) method_at (λ j. resolve_method size ps f (Reference j)) (method_ref_count x.metadata) n c (method_inside n c e) e
