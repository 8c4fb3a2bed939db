-- The rows of an image by their columns.
use Rattle.std.proofs.Common.{◌≡◌, ℕ, ◌<◌, ◌≤◌, ◌&&◌, Bool, true, false, List, [], ◌∷◌, length, drop, Option, Some, None, refl, sym, ap, ◌∙◌, subst}
use Rattle.std.specs.Prelude.{IsSome, slice_get, slice_index, nat_eq, nat_lt, if◌then◌else◌, unwrap_or}
use Rattle.std.specs.Option.{option_map}
use Rattle.machine.specs.Throw.{on_some}
use Rattle.image_bytes.specs.Layout.{Image, rows_of, is_range}
use Rattle.assemblies.specs.Rows.{Assembly, AssemblyRow, TypeRefRow, TypeRow, Scope}
use Rattle.image_form.specs.Form.{Held, on_both, none_or, name_text, name_at, part_at, assembly_at, ref_at, type_at, make_assembly_row, make_ref, make_type}
use Rattle.image_form.specs.Whole.{table, row_in, scope_in, held, image_rows}
use Rattle.image_pools.specs.Pools.{text_at}
use Rattle.msspot_read.specs.Rows.{row_of}
use Rattle.tiny_rows.specs.Rows.{NO_ASSEMBLY, rows_seen, name_in, own_name, row_word, Named, name_of}
use Rattle.tiny_rows.proofs.Parts.{map_back, both_back, all_many, rows_are, there, past, Parts, parts_of}

-- four numbers
pub four : (v : List ℕ) → length v ≡ 4 → slice_index v 0 ∷ slice_index v 1 ∷ slice_index v 2 ∷ slice_index v 3 ∷ [] ≡ v
four [] e = cc e
four (a ∷ []) e = cc e
four (a ∷ b ∷ []) e = cc e
four (a ∷ b ∷ c ∷ []) e = cc e
four (a ∷ b ∷ c ∷ d ∷ []) e = refl
four (a ∷ b ∷ c ∷ d ∷ f ∷ v) e = cc e

-- every image that stands has rows
pub seen_of : (i : Image) → IsSome (image_rows i) → image_rows i ≡ Some (rows_seen i)
seen_of i h = go (image_rows i) h
  where
    go : (o : Option Assembly) → IsSome o → o ≡ Some (unwrap_or o NO_ASSEMBLY)
    go None h = absurd (cc h)
    go (Some p) h = refl

pub is_some_from : {A : Type 0} (o : Option A) (x : A) → o ≡ Some x → IsSome o
is_some_from o x e = subst IsSome (sym e) refl

module _ (i : Image) (rows : IsSome (image_rows i)) where
  abbrev seen : Assembly
  seen = rows_seen i

  parts : Parts i (rows_seen i)
  parts = parts_of i (rows_seen i) (seen_of i rows)

  abbrev h : Held
  h = held i parts.strings parts.signatures parts.interfaces parts.clauses parts.datas

  named : (at : ℕ) (name : List ℕ) → name_at h at ≡ Some name → name_in i at ≡ Some name
  named at name e = ap (λ (o : Option (List (List ℕ))). on_some (on_some o (λ ts. text_at ts at)) name_text) parts.string_texts ∙ e

  -- ---- the assembly itself
  pub own_text : IsSome (name_in i i.name)
  own_text = is_some_from (name_in i i.name) (rows_seen i).name (named i.name (rows_seen i).name parts.of_held.name)

  pub own_is : (name version : List ℕ) → Some name ≡ name_in i i.name → version ≡ i.version → ◌≡◌ {A = AssemblyRow} (record { name = name; version = version }) (own_name (rows_seen i))
  own_is name version e f =
      let same : name ≡ (rows_seen i).name = cc (e ∙ named i.name (rows_seen i).name parts.of_held.name) in
      ap (λ (n : List ℕ). record { name = n; version = version }) same ∙ ap (λ (v : List ℕ). record { name = (rows_seen i).name; version = v }) (f ∙ parts.of_held.version)

  -- ---- how many rows there are
  pub assemblies_counted : (n : ℕ) → n ≡ rows_of i 0 → n ≡ length (rows_seen i).assemblies
  assemblies_counted n e = e ∙ sym (rows_are i 0) ∙ all_many (assembly_at h) (table i 0) (rows_seen i).assemblies parts.of_held.assemblies

  pub refs_counted : (n : ℕ) → n ≡ rows_of i 1 → n ≡ length (rows_seen i).refs
  refs_counted n e = e ∙ sym (rows_are i 1) ∙ all_many (ref_at h) (table i 1) (rows_seen i).refs parts.of_held.refs

  pub types_counted : (n : ℕ) → n ≡ rows_of i 4 → n ≡ length (rows_seen i).types
  types_counted n e = e ∙ sym (rows_are i 4) ∙ all_many (type_at h) (table i 4) (rows_seen i).types parts.of_held.types

  -- ---- references to assemblies
  pub record AssemblyThere (n : ℕ) : Type 0 where
    pub name : List ℕ
    pub named : name_in i (slice_index (row_of i 0 n) 0) ≡ Some name
    pub row : slice_get (rows_seen i).assemblies n ≡ Some (make_assembly_row (drop 1 (row_of i 0 n)) name)

  pub assembly_there : (n : ℕ) → n < rows_of i 0 → AssemblyThere n
  assembly_there n low = let t = there i 0 n (assembly_at h) (rows_seen i).assemblies parts.of_held.assemblies low in go (row_of i 0 n) refl t.0 t.1 t.2
    where
      go : (r : List ℕ) → row_of i 0 n ≡ r → (y : AssemblyRow) → assembly_at h r ≡ Some y → slice_get (rows_seen i).assemblies n ≡ Some y → AssemblyThere n
      go [] is y e f = cc e
      go (w ∷ version) is y e f =
          let m = map_back (make_assembly_row version) (name_at h w) y e in
          record {
            name = m.0;
            named = ap (λ r. name_in i (slice_index r 0)) is ∙ named w m.0 m.1;
            row = f ∙ ap Some (sym m.2) ∙ sym (ap (λ r. Some (make_assembly_row (drop 1 r) m.0)) is);
          }

  pub assembly_past : (n : ℕ) → rows_of i 0 ≤ n → None ≡ slice_get (rows_seen i).assemblies n
  assembly_past n high = sym (past i 0 n (assembly_at h) (rows_seen i).assemblies parts.of_held.assemblies high)

  -- ---- references to types
  pub record RefThere (n : ℕ) : Type 0 where
    pub scope : Scope
    pub namespace : List ℕ
    pub name : List ℕ
    pub scoped : scope_in i (slice_index (row_of i 1 n) 0) ≡ Some scope
    pub spaced : name_in i (slice_index (row_of i 1 n) 1) ≡ Some namespace
    pub named : name_in i (slice_index (row_of i 1 n) 2) ≡ Some name
    pub row : slice_get (rows_seen i).refs n ≡ Some (make_ref scope namespace name)

  pub ref_there : (n : ℕ) → n < rows_of i 1 → RefThere n
  ref_there n low = let t = there i 1 n (ref_at h) (rows_seen i).refs parts.of_held.refs low in go (row_of i 1 n) refl t.0 t.1 t.2
    where
      go : (r : List ℕ) → row_of i 1 n ≡ r → (y : TypeRefRow) → ref_at h r ≡ Some y → slice_get (rows_seen i).refs n ≡ Some y → RefThere n
      go [] is y e f = cc e
      go (a ∷ []) is y e f = cc e
      go (a ∷ b ∷ []) is y e f = cc e
      go (a ∷ b ∷ c ∷ d ∷ r) is y e f = cc e
      go (a ∷ b ∷ c ∷ []) is y e f =
          let p = both_back (on_both (option_map make_ref (scope_in i a)) (name_at h b)) (name_at h c) y e in
          let q = both_back (option_map make_ref (scope_in i a)) (name_at h b) p.0 p.2 in
          let s = map_back make_ref (scope_in i a) q.0 q.2 in
          record {
            scope = s.0;
            namespace = q.1;
            name = p.1;
            scoped = ap (λ r. scope_in i (slice_index r 0)) is ∙ s.1;
            spaced = ap (λ r. name_in i (slice_index r 1)) is ∙ named b q.1 q.3;
            named = ap (λ r. name_in i (slice_index r 2)) is ∙ named c p.1 p.3;
            row = f ∙ ap Some (sym (ap (λ k. k q.1 p.1) s.2 ∙ ap (λ k. k p.1) q.4 ∙ p.4));
          }

  pub ref_past : (n : ℕ) → rows_of i 1 ≤ n → None ≡ slice_get (rows_seen i).refs n
  ref_past n high = sym (past i 1 n (ref_at h) (rows_seen i).refs parts.of_held.refs high)

  -- ---- types
  pub record TypeThere (n : ℕ) : Type 0 where
    pub namespace : List ℕ
    pub name : List ℕ
    pub spaced : name_in i (slice_index (row_of i 4 n) 0) ≡ Some namespace
    pub named : name_in i (slice_index (row_of i 4 n) 1) ≡ Some name
    pub type : TypeRow
    pub row : slice_get (rows_seen i).types n ≡ Some type
    pub is : ◌≡◌ {A = Named} (name_of type) (record { enclosing = row_word (slice_index (row_of i 4 n) 2); namespace = namespace; name = name })

  word_back : (w : ℕ) (o : Option ℕ) → none_or (row_in i 4) w ≡ Some o → o ≡ row_word w
  word_back w o e = by (nat_eq w 65535) (nat_lt w (rows_of i 4)) e
    where
      by : (t u : Bool) → (if t then Some None else option_map Some (if u then Some w else None)) ≡ Some o → o ≡ (if t then None else Some w)
      by true u e = cc e
      by false true e = cc e
      by false false e = cc e

  pub type_there : (n : ℕ) → n < rows_of i 4 → TypeThere n
  type_there n low = let t = there i 4 n (type_at h) (rows_seen i).types parts.of_held.types low in go (row_of i 4 n) refl t.0 t.1 t.2
    where
      go : (r : List ℕ) → row_of i 4 n ≡ r → (y : TypeRow) → type_at h r ≡ Some y → slice_get (rows_seen i).types n ≡ Some y → TypeThere n
      go [] is y e f = cc e
      go (a ∷ []) is y e f = cc e
      go (a ∷ b ∷ []) is y e f = cc e
      go (a ∷ b ∷ c ∷ []) is y e f = cc e
      go (a ∷ b ∷ c ∷ d ∷ []) is y e f = cc e
      go (a ∷ b ∷ c ∷ d ∷ fl ∷ []) is y e f = cc e
      go (a ∷ b ∷ c ∷ d ∷ fl ∷ fi ∷ []) is y e f = cc e
      go (a ∷ b ∷ c ∷ d ∷ fl ∷ fi ∷ ci ∷ []) is y e f = cc e
      go (a ∷ b ∷ c ∷ d ∷ fl ∷ fi ∷ ci ∷ ff ∷ []) is y e f = cc e
      go (a ∷ b ∷ c ∷ d ∷ fl ∷ fi ∷ ci ∷ ff ∷ cf ∷ []) is y e f = cc e
      go (a ∷ b ∷ c ∷ d ∷ fl ∷ fi ∷ ci ∷ ff ∷ cf ∷ fm ∷ []) is y e f = cc e
      go (a ∷ b ∷ c ∷ d ∷ fl ∷ fi ∷ ci ∷ ff ∷ cf ∷ fm ∷ cm ∷ x ∷ r) is y e f = cc e
      go (a ∷ b ∷ c ∷ d ∷ fl ∷ fi ∷ ci ∷ ff ∷ cf ∷ fm ∷ cm ∷ []) is y e f = by (is_range (rows_of i 6) ff cf && is_range (rows_of i 7) fm cm) e
        where
          of_made : on_both (on_both (on_both (on_both (option_map (make_type fl ff cf fm cm) (name_at h a)) (name_at h b)) (none_or (row_in i 4) c)) (none_or h.type d)) (part_at h fi ci h.interfaces) ≡ Some y → TypeThere n
          of_made e =
              let p5 = both_back (on_both (on_both (on_both (option_map (make_type fl ff cf fm cm) (name_at h a)) (name_at h b)) (none_or (row_in i 4) c)) (none_or h.type d)) (part_at h fi ci h.interfaces) y e in
              let p4 = both_back (on_both (on_both (option_map (make_type fl ff cf fm cm) (name_at h a)) (name_at h b)) (none_or (row_in i 4) c)) (none_or h.type d) p5.0 p5.2 in
              let p3 = both_back (on_both (option_map (make_type fl ff cf fm cm) (name_at h a)) (name_at h b)) (none_or (row_in i 4) c) p4.0 p4.2 in
              let p2 = both_back (option_map (make_type fl ff cf fm cm) (name_at h a)) (name_at h b) p3.0 p3.2 in
              let p1 = map_back (make_type fl ff cf fm cm) (name_at h a) p2.0 p2.2 in
              let whole : make_type fl ff cf fm cm p1.0 p2.1 p3.1 p4.1 p5.1 ≡ y = ap (λ k. k p2.1 p3.1 p4.1 p5.1) p1.2 ∙ ap (λ k. k p3.1 p4.1 p5.1) p2.4 ∙ ap (λ k. k p4.1 p5.1) p3.4 ∙ ap (λ k. k p5.1) p4.4 ∙ p5.4 in
              record {
                namespace = p1.0;
                name = p2.1;
                spaced = ap (λ r. name_in i (slice_index r 0)) is ∙ named a p1.0 p1.1;
                named = ap (λ r. name_in i (slice_index r 1)) is ∙ named b p2.1 p2.3;
                type = y;
                row = f;
                is =
                    sym (ap name_of whole)
                    ∙ ap (λ (o : Option ℕ). record { enclosing = o; namespace = p1.0; name = p2.1 }) (word_back c p3.1 p3.3 ∙ sym (ap (λ r. row_word (slice_index r 2)) is));
              }

          by : (t : Bool) → (if t then on_both (on_both (on_both (on_both (option_map (make_type fl ff cf fm cm) (name_at h a)) (name_at h b)) (none_or (row_in i 4) c)) (none_or h.type d)) (part_at h fi ci h.interfaces) else None) ≡ Some y → TypeThere n
          by true e = of_made e
          by false e = cc e

  pub type_past : (n : ℕ) → rows_of i 4 ≤ n → None ≡ option_map name_of (slice_get (rows_seen i).types n)
  type_past n high = sym (ap (option_map name_of) (past i 4 n (type_at h) (rows_seen i).types parts.of_held.types high))

  -- ---- what the code makes of the cells of a row
  module _ (table n : ℕ) (cells : List ℕ) (are : (k : ℕ) → slice_index cells k ≡ slice_index (row_of i table n) k) where
    pub cell_scope : (k w : ℕ) (s : Scope) → w ≡ slice_index cells k → scope_in i (slice_index (row_of i table n) k) ≡ Some s → scope_in i w ≡ Some s
    cell_scope k w s e f = ap (scope_in i) (e ∙ are k) ∙ f

    pub cell_name : (k w : ℕ) (name : List ℕ) → w ≡ slice_index cells k → name_in i (slice_index (row_of i table n) k) ≡ Some name → name_in i w ≡ Some name
    cell_name k w name e f = ap (name_in i) (e ∙ are k) ∙ f

  -- a row of five
  five : (r : List ℕ) → length r ≡ 5 → drop 1 r ≡ slice_index r 1 ∷ slice_index r 2 ∷ slice_index r 3 ∷ slice_index r 4 ∷ []
  five [] e = cc e
  five (a ∷ []) e = cc e
  five (a ∷ b ∷ []) e = cc e
  five (a ∷ b ∷ c ∷ []) e = cc e
  five (a ∷ b ∷ c ∷ d ∷ []) e = cc e
  five (a ∷ b ∷ c ∷ d ∷ f ∷ []) e = refl
  five (a ∷ b ∷ c ∷ d ∷ f ∷ g ∷ r) e = cc e

  pub assembly_made : (n : ℕ) → AssemblyThere n → length (row_of i 0 n) ≡ 5 → (name : List ℕ) → Some name ≡ name_in i (slice_index (row_of i 0 n) 0)
      → (a b c d : ℕ) → a ≡ slice_index (row_of i 0 n) 1 → b ≡ slice_index (row_of i 0 n) 2 → c ≡ slice_index (row_of i 0 n) 3 → d ≡ slice_index (row_of i 0 n) 4
      → Some (make_assembly_row (a ∷ b ∷ c ∷ d ∷ []) name) ≡ slice_get (rows_seen i).assemblies n
  assembly_made n there width name e a b c d ea eb ec ed =
      let same : name ≡ there.name = cc (e ∙ there.named) in
      let cells = five (row_of i 0 n) width in
      ap (λ x. Some (make_assembly_row (a ∷ b ∷ c ∷ d ∷ []) x)) same
      ∙ ap (λ x. Some (make_assembly_row (x ∷ b ∷ c ∷ d ∷ []) there.name)) ea
      ∙ ap (λ x. Some (make_assembly_row (slice_index (row_of i 0 n) 1 ∷ x ∷ c ∷ d ∷ []) there.name)) eb
      ∙ ap (λ x. Some (make_assembly_row (slice_index (row_of i 0 n) 1 ∷ slice_index (row_of i 0 n) 2 ∷ x ∷ d ∷ []) there.name)) ec
      ∙ ap (λ x. Some (make_assembly_row (slice_index (row_of i 0 n) 1 ∷ slice_index (row_of i 0 n) 2 ∷ slice_index (row_of i 0 n) 3 ∷ x ∷ []) there.name)) ed
      ∙ ap (λ x. Some (make_assembly_row x there.name)) (sym cells)
      ∙ sym there.row

  pub ref_made : (n : ℕ) → RefThere n → (scope : Scope) (namespace name : List ℕ) → Some scope ≡ scope_in i (slice_index (row_of i 1 n) 0) → Some namespace ≡ name_in i (slice_index (row_of i 1 n) 1) → Some name ≡ name_in i (slice_index (row_of i 1 n) 2)
      → Some (make_ref scope namespace name) ≡ slice_get (rows_seen i).refs n
  ref_made n there scope namespace name e f g =
      let s : scope ≡ there.scope = cc (e ∙ there.scoped) in
      let ns : namespace ≡ there.namespace = cc (f ∙ there.spaced) in
      let nm : name ≡ there.name = cc (g ∙ there.named) in
      ap (λ x. Some (make_ref x namespace name)) s ∙ ap (λ x. Some (make_ref there.scope x name)) ns ∙ ap (λ x. Some (make_ref there.scope there.namespace x)) nm ∙ sym there.row

  abbrev make : Option ℕ → List ℕ → List ℕ → Named
  make o namespace name = record { enclosing = o; namespace = namespace; name = name }

  pub type_made : (n : ℕ) → TypeThere n → (enclosing : Option ℕ) (namespace name : List ℕ) → enclosing ≡ row_word (slice_index (row_of i 4 n) 2) → Some namespace ≡ name_in i (slice_index (row_of i 4 n) 0) → Some name ≡ name_in i (slice_index (row_of i 4 n) 1)
      → ◌≡◌ {A = Option Named} (Some (record { enclosing = enclosing; namespace = namespace; name = name })) (option_map name_of (slice_get (rows_seen i).types n))
  type_made n there enclosing namespace name e f g =
      let ns : namespace ≡ there.namespace = cc (f ∙ there.spaced) in
      let nm : name ≡ there.name = cc (g ∙ there.named) in
      ap (λ (x : Option ℕ). Some (make x namespace name)) e
      ∙ ap (λ (x : List ℕ). Some (make (row_word (slice_index (row_of i 4 n) 2)) x name)) ns
      ∙ ap (λ (x : List ℕ). Some (make (row_word (slice_index (row_of i 4 n) 2)) there.namespace x)) nm
      ∙ ap Some (sym there.is)
      ∙ sym (ap (option_map name_of) there.row)
