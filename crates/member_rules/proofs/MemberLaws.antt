-- The links of a file's members are those of the rules by which members and types keep one another.
use Rattle.std.proofs.Common.{◌≡◌, ◌⊎◌, inl, inr, ℕ, ◌+◌, true, ◌&&◌, List, ◌++◌, Option, Some, None, refl, sym, ap, subst, ◌∙◌, arith}
use Rattle.std.specs.Prelude.{codes, slice_get}
use Rattle.std.specs.List.{position}
use Rattle.std.specs.Option.{option_map}
use Rattle.board_types.specs.declared.board.Known.{Known}
use Rattle.file_tables.specs.File.{FilePart}
use Rattle.machine.specs.Data.{Id}
use Rattle.machine.specs.Program.{Body, NativeName}
use Rattle.machine.specs.Texts.{same_text}
use Rattle.machine.specs.Throw.{on_some}
use Rattle.machine_rename.specs.Rename.{throws}
use Rattle.classes.specs.Classes.{Classes, OwnField, OwnMethod}
use Rattle.classes.specs.Queries.{is_instance_kind, library_class, known, known_name}
use Rattle.assemblies.specs.Rows as rows
use Rattle.assemblies.specs.Rows.{Assembly, TypeRow}
use Rattle.assemblies.specs.Binding.{id_at, holds, range, classes_of, field_owner, method_owner}
use Rattle.world_rows.specs.World.{rows_alone, assemblies_of, size_of}
use Rattle.class_table.specs.declared.rows.FieldRow.{FieldRow}
use Rattle.class_table.specs.declared.rows.MethodRow.{MethodRow}
use Rattle.class_table.specs.declared.rows.FileRows.{FileRows}
use Rattle.class_table.specs.declared.rows.ClassTable.{ClassTable}
use Rattle.class_table.specs.Seen.{body_seen, classes_seen}
use Rattle.class_table.specs.Outlines.{Outline, outline_seen, outline_of}
use Rattle.class_table.specs.Whole.{IsTable}
use Rattle.class_table.proofs.TableLaws.{table_law}
use Rattle.kept_closure.specs.Named.{Stands}
use Rattle.kept_rules.specs.Row.{TypeAt, FieldAt, MethodAt, in_option, enclosing_row}
use Rattle.kept_rules.specs.Rules.{RowRule, TypeOfMethod, TypeOfField, InstanceFieldOf, InitialiserOf, ThrownByNative, type_at}
use Rattle.row_rules.specs.Links.{Link, keeps}
use Rattle.row_rules.specs.Given.{link_of}
use Rattle.member_rules.specs.Members.{rows_where, is_instance, is_initialiser, class_row, throws_in, thrown_by, parts_of, part_links, field_links, kept_by_method, method_links, member_links, passing_rows}
use Rattle.member_rules.specs.Rules.{AreMemberRules}
use Rattle.member_rules.proofs.Among.{Among, in_front, in_rest, in_either, in_some, some_in, in_where, where_in, in_flat, from_flat, in_passing, from_passing, linked, Links, from_links}
use Rattle.member_rules.proofs.RangeLaws.{get_range, put_range}
use Rattle.member_rules.proofs.NativeLaws.{others, among_others, native_throws}
use Rattle.member_rules.proofs.RowLaws.{there, type_in_table, type_in_file, field_in_table, field_in_file, method_in_table, method_in_file}

-- the type of a member by an owner's id
owner_there : {A : Type 0} (owner : A → Option ℕ) (f k : ℕ) (o : Option A) → on_some o (λ x. option_map (id_at f) (owner x)) ≡ Some (id_at f k) → (x : A) × ((o ≡ Some x) × (owner x ≡ Some k))
owner_there owner f k None e = absurd (cc e)
owner_there owner f k (Some x) e = (x, (refl, row_of (owner x) k e))
  where
    row_of : (o : Option ℕ) (k : ℕ) → option_map (id_at f) o ≡ Some (id_at f k) → o ≡ Some k
    row_of None k e = absurd (cc e)
    row_of (Some n) k e = let same : id_at f n ≡ id_at f k = cc e in ap (λ (c : Id). Some c.row) same

-- and of an assembly's row
place_there : {A : Type 0} (f k : ℕ) (o : Option A) (q : Option ℕ) → on_some o (λ x. option_map (id_at f) q) ≡ Some (id_at f k) → (x : A) × ((o ≡ Some x) × (q ≡ Some k))
place_there {A} f k o q e = owner_there {A = A} (λ x. q) f k o e

module _ (files : List FilePart) (t : ClassTable) (table : IsTable files t) (f : ℕ) (x : FileRows) (here : slice_get t.files.items f ≡ Some x) where
  abbrev size : ℕ
  size = size_of (rows_alone files)

  abbrev ps : List Assembly
  ps = assemblies_of files

  abbrev cs : Classes
  cs = classes_seen t

  same_classes : cs ≡ classes_of size ps
  same_classes = table_law files t table

  abbrev p : Assembly
  p = (there files t table f x here).0

  at_p : slice_get ps f ≡ Some p
  at_p = (there files t table f x here).1

  -- ---- the types of members

  fields_type : (q : Assembly) → slice_get ps f ≡ Some q → (n : ℕ) → field_owner ps (id_at f n) ≡ on_some (slice_get q.fields n) (λ y. option_map (id_at f) (position (λ (r : TypeRow). holds r.first_field r.field_count n) q.types))
  fields_type q at n = ap (λ o. on_some o (λ (q : Assembly). on_some (slice_get q.fields n) (λ y. option_map (id_at f) (position (λ (r : TypeRow). holds r.first_field r.field_count n) q.types)))) at

  methods_type : (q : Assembly) → slice_get ps f ≡ Some q → (n : ℕ) → method_owner ps (id_at f n) ≡ on_some (slice_get q.methods n) (λ y. option_map (id_at f) (position (λ (r : TypeRow). holds r.first_method r.method_count n) q.types))
  methods_type q at n = ap (λ o. on_some o (λ (q : Assembly). on_some (slice_get q.methods n) (λ y. option_map (id_at f) (position (λ (r : TypeRow). holds r.first_method r.method_count n) q.types)))) at

  of_field : (n k : ℕ) (q : Assembly) (y : rows.FieldRow) → slice_get ps f ≡ Some q → position (λ (r : TypeRow). holds r.first_field r.field_count n) q.types ≡ Some k → slice_get q.fields n ≡ Some y → Among (field_links f x) (keeps (FieldAt f n) (TypeAt f k))
  of_field n k q y at e is =
      let owned : field_owner ps (id_at f n) ≡ Some (id_at f k) = fields_type q at n ∙ ap (λ o. on_some o (λ z. option_map (id_at f) (position (λ (r : TypeRow). holds r.first_field r.field_count n) q.types))) is ∙ ap (option_map (id_at f)) e in
      let z = owner_there (λ (z : FieldRow). z.owner) f k (slice_get x.fields.items n) ((table.rows f x here).fields.owners n ∙ owned) in
      linked (FieldAt f) (λ (z : FieldRow). in_option (enclosing_row f) z.owner) x.fields.items n z.0 (TypeAt f k) z.1.0 (some_in (TypeAt f) z.0.owner k z.1.1)

  are_fields : (l : Link) → Among (field_links f x) l → (r : RowRule size ps) × (l ≡ link_of size ps r)
  are_fields l h =
      let w = from_links (FieldAt f) (λ (z : FieldRow). in_option (enclosing_row f) z.owner) x.fields.items l h in
      let o = in_some (TypeAt f) w.item.owner w.row w.named in
      let owned : field_owner ps (id_at f w.place) ≡ Some (id_at f o.0) = sym ((table.rows f x here).fields.owners w.place) ∙ ap (λ q. on_some q (λ (z : FieldRow). option_map (id_at f) z.owner)) w.is_item ∙ ap (option_map (id_at f)) o.1.0 in
      let y = place_there f o.0 (slice_get p.fields w.place) (position (λ (r : TypeRow). holds r.first_field r.field_count w.place) p.types) (sym (fields_type p at_p w.place) ∙ owned) in
      (TypeOfField f w.place o.0 p at_p y.1.1, w.is ∙ ap (keeps (FieldAt f w.place)) (sym o.1.1))

  of_method : (n k : ℕ) (q : Assembly) (y : rows.MethodRow) → slice_get ps f ≡ Some q → position (λ (r : TypeRow). holds r.first_method r.method_count n) q.types ≡ Some k → slice_get q.methods n ≡ Some y → Among (method_links cs f x) (keeps (MethodAt f n) (TypeAt f k))
  of_method n k q y at e is =
      let owned : method_owner ps (id_at f n) ≡ Some (id_at f k) = methods_type q at n ∙ ap (λ o. on_some o (λ z. option_map (id_at f) (position (λ (r : TypeRow). holds r.first_method r.method_count n) q.types))) is ∙ ap (option_map (id_at f)) e in
      let z = owner_there (λ (z : MethodRow). z.owner) f k (slice_get x.methods.items n) ((table.rows f x here).methods.owners n ∙ owned) in
      linked (MethodAt f) (kept_by_method cs f) x.methods.items n z.0 (TypeAt f k) z.1.0 (in_front (in_option (enclosing_row f) z.0.owner) (thrown_by cs (body_seen z.0.body)) (TypeAt f k) (some_in (TypeAt f) z.0.owner k z.1.1))

  -- ---- natives

  of_native : (n : ℕ) (q : Assembly) (m : rows.MethodRow) (name : NativeName) (k : Known) (c : Id) → Stands ps (λ q. q.methods) f n q m → m.body ≡ Body.Native name → throws name k ≡ true → library_class (classes_of size ps) (known_name k) ≡ Some c → Among (method_links cs f x) (keeps (MethodAt f n) (type_at c))
  of_native n q m name k c s b throwing found =
      let z = method_in_table files t table f x here q s.0 n m s.1 in
      let body : body_seen z.0.body ≡ Body.Native name = ap (λ (o : OwnMethod). o.body) z.1.1 ∙ b in
      let does : throws_in (body_seen z.0.body) k ≡ true = ap (λ w. throws_in w k) body ∙ throwing in
      let class : known cs k ≡ Some c = ap (λ ds. library_class ds (known_name k)) same_classes ∙ found in
      let thrown = where_in (throws_in (body_seen z.0.body) k) (in_option class_row (known cs k)) (type_at c) does (some_in type_at (known cs k) c class) in
      linked (MethodAt f) (kept_by_method cs f) x.methods.items n z.0 (type_at c) z.1.0
      (in_rest (in_option (enclosing_row f) z.0.owner) (thrown_by cs (body_seen z.0.body)) (type_at c)
      (in_flat (λ k. rows_where (throws_in (body_seen z.0.body) k) (in_option class_row (known cs k))) others k (type_at c) (among_others name k throwing) thrown))

  are_methods : (l : Link) → Among (method_links cs f x) l → (r : RowRule size ps) × (l ≡ link_of size ps r)
  are_methods l h = go (from_links (MethodAt f) (kept_by_method cs f) x.methods.items l h)
    where
      go : Links (MethodAt f) (kept_by_method cs f) x.methods.items l → (r : RowRule size ps) × (l ≡ link_of size ps r)
      go w = by (in_either (in_option (enclosing_row f) w.item.owner) (thrown_by cs (body_seen w.item.body)) w.row w.named)
        where
          by : Among (in_option (enclosing_row f) w.item.owner) w.row ⊎ Among (thrown_by cs (body_seen w.item.body)) w.row → (r : RowRule size ps) × (l ≡ link_of size ps r)
          by (inl named) =
              let o = in_some (TypeAt f) w.item.owner w.row named in
              let owned : method_owner ps (id_at f w.place) ≡ Some (id_at f o.0) = sym ((table.rows f x here).methods.owners w.place) ∙ ap (λ q. on_some q (λ (z : MethodRow). option_map (id_at f) z.owner)) w.is_item ∙ ap (option_map (id_at f)) o.1.0 in
              let y = place_there f o.0 (slice_get p.methods w.place) (position (λ (r : TypeRow). holds r.first_method r.method_count w.place) p.types) (sym (methods_type p at_p w.place) ∙ owned) in
              (TypeOfMethod f w.place o.0 p at_p y.1.1, w.is ∙ ap (keeps (MethodAt f w.place)) (sym o.1.1))
          by (inr named) =
              let k = from_flat (λ k. rows_where (throws_in (body_seen w.item.body) k) (in_option class_row (known cs k))) others w.row named in
              let throwing = in_where (throws_in (body_seen w.item.body) k.0) (in_option class_row (known cs k.0)) w.row k.1.1 in
              let c = in_some type_at (known cs k.0) w.row throwing.1 in
              let name = native_throws (body_seen w.item.body) k.0 throwing.0 in
              let y = method_in_file files t table f x here p at_p w.place w.item w.is_item in
              let body : y.0.body ≡ Body.Native name.0 = ap (λ (o : OwnMethod). o.body) y.1.1 ∙ name.1.0 in
              let found : library_class (classes_of size ps) (known_name k.0) ≡ Some c.0 = ap (λ ds. library_class ds (known_name k.0)) (sym same_classes) ∙ c.1.0 in
              (ThrownByNative f w.place p y.0 name.0 k.0 c.0 (at_p, y.1.0) body name.1.1 found, w.is ∙ ap (keeps (MethodAt f w.place)) (sym c.1.1))

  -- ---- parts

  of_instance : (n i : ℕ) (q : Assembly) (r : TypeRow) (y : rows.FieldRow) → Stands ps (λ q. q.types) f n q r → slice_get (range r.first_field r.field_count q.fields) i ≡ Some y → is_instance_kind y.kind ≡ true → Among (part_links f x) (keeps (TypeAt f n) (FieldAt f (r.first_field + i)))
  of_instance n i q r y s e passes =
      let c = type_in_table files t table f x here q s.0 n r s.1 in
      let first : c.0.first_field ≡ r.first_field = ap (λ (o : Outline). o.first_field) c.1.1 in
      let count : c.0.field_count ≡ r.field_count = ap (λ (o : Outline). o.field_count) c.1.1 in
      let g = get_range r.first_field r.field_count q.fields i y e in
      let z = field_in_table files t table f x here q s.0 (r.first_field + i) y g.1 in
      let kind : is_instance z.0 ≡ true = ap (λ (o : OwnField). is_instance_kind o.kind) z.1.1 ∙ passes in
      let placed = put_range c.0.first_field c.0.field_count x.fields.items i z.0 (let low = g.0 in omega (arith, low, count)) (ap (λ k. slice_get x.fields.items (k + i)) first ∙ z.1.0) in
      let among = in_front (passing_rows (FieldAt f) is_instance c.0.first_field (range c.0.first_field c.0.field_count x.fields.items)) (passing_rows (MethodAt f) is_initialiser c.0.first_method (range c.0.first_method c.0.method_count x.methods.items)) (FieldAt f (c.0.first_field + i)) (in_passing (FieldAt f) is_instance c.0.first_field (range c.0.first_field c.0.field_count x.fields.items) i z.0 placed kind) in
      subst (λ k. Among (part_links f x) (keeps (TypeAt f n) (FieldAt f (k + i)))) first (linked (TypeAt f) (parts_of f x) x.classes.items n c.0 (FieldAt f (c.0.first_field + i)) c.1.0 among)

  of_initialiser : (n i : ℕ) (q : Assembly) (r : TypeRow) (y : rows.MethodRow) → Stands ps (λ q. q.types) f n q r → slice_get (range r.first_method r.method_count q.methods) i ≡ Some y → (y.is_static && same_text y.name (codes ".cctor")) ≡ true → Among (part_links f x) (keeps (TypeAt f n) (MethodAt f (r.first_method + i)))
  of_initialiser n i q r y s e passes =
      let c = type_in_table files t table f x here q s.0 n r s.1 in
      let first : c.0.first_method ≡ r.first_method = ap (λ (o : Outline). o.first_method) c.1.1 in
      let count : c.0.method_count ≡ r.method_count = ap (λ (o : Outline). o.method_count) c.1.1 in
      let g = get_range r.first_method r.method_count q.methods i y e in
      let z = method_in_table files t table f x here q s.0 (r.first_method + i) y g.1 in
      let kind : is_initialiser z.0 ≡ true = ap (λ (o : OwnMethod). o.is_static && same_text o.name (codes ".cctor")) z.1.1 ∙ passes in
      let placed = put_range c.0.first_method c.0.method_count x.methods.items i z.0 (let low = g.0 in omega (arith, low, count)) (ap (λ k. slice_get x.methods.items (k + i)) first ∙ z.1.0) in
      let among = in_rest (passing_rows (FieldAt f) is_instance c.0.first_field (range c.0.first_field c.0.field_count x.fields.items)) (passing_rows (MethodAt f) is_initialiser c.0.first_method (range c.0.first_method c.0.method_count x.methods.items)) (MethodAt f (c.0.first_method + i)) (in_passing (MethodAt f) is_initialiser c.0.first_method (range c.0.first_method c.0.method_count x.methods.items) i z.0 placed kind) in
      subst (λ k. Among (part_links f x) (keeps (TypeAt f n) (MethodAt f (k + i)))) first (linked (TypeAt f) (parts_of f x) x.classes.items n c.0 (MethodAt f (c.0.first_method + i)) c.1.0 among)

  are_parts : (l : Link) → Among (part_links f x) l → (r : RowRule size ps) × (l ≡ link_of size ps r)
  are_parts l h = go (from_links (TypeAt f) (parts_of f x) x.classes.items l h)
    where
      go : Links (TypeAt f) (parts_of f x) x.classes.items l → (r : RowRule size ps) × (l ≡ link_of size ps r)
      go w = by (in_either (passing_rows (FieldAt f) is_instance w.item.first_field (range w.item.first_field w.item.field_count x.fields.items)) (passing_rows (MethodAt f) is_initialiser w.item.first_method (range w.item.first_method w.item.method_count x.methods.items)) w.row w.named)
        where
          r : (r : TypeRow) × ((slice_get p.types w.place ≡ Some r) × (outline_of size ps f r ≡ outline_seen w.item))
          r = type_in_file files t table f x here p at_p w.place w.item w.is_item

          by : Among (passing_rows (FieldAt f) is_instance w.item.first_field (range w.item.first_field w.item.field_count x.fields.items)) w.row ⊎ Among (passing_rows (MethodAt f) is_initialiser w.item.first_method (range w.item.first_method w.item.method_count x.methods.items)) w.row → (r : RowRule size ps) × (l ≡ link_of size ps r)
          by (inl named) =
              let v = from_passing (FieldAt f) is_instance w.item.first_field (range w.item.first_field w.item.field_count x.fields.items) w.row named in
              let first : r.0.first_field ≡ w.item.first_field = ap (λ (o : Outline). o.first_field) r.1.1 in
              let count : r.0.field_count ≡ w.item.field_count = ap (λ (o : Outline). o.field_count) r.1.1 in
              let g = get_range w.item.first_field w.item.field_count x.fields.items v.place v.item v.is_item in
              let y = field_in_file files t table f x here p at_p (w.item.first_field + v.place) v.item g.1 in
              let kind : is_instance_kind y.0.kind ≡ true = ap (λ (o : OwnField). is_instance_kind o.kind) y.1.1 ∙ v.passes in
              let placed = put_range r.0.first_field r.0.field_count p.fields v.place y.0 (let low = g.0 in omega (arith, low, count)) (ap (λ k. slice_get p.fields (k + v.place)) first ∙ y.1.0) in
              (InstanceFieldOf f w.place v.place p r.0 y.0 (at_p, r.1.0) placed kind, w.is ∙ ap (keeps (TypeAt f w.place)) (v.is ∙ ap (λ k. FieldAt f (k + v.place)) (sym first)))
          by (inr named) =
              let v = from_passing (MethodAt f) is_initialiser w.item.first_method (range w.item.first_method w.item.method_count x.methods.items) w.row named in
              let first : r.0.first_method ≡ w.item.first_method = ap (λ (o : Outline). o.first_method) r.1.1 in
              let count : r.0.method_count ≡ w.item.method_count = ap (λ (o : Outline). o.method_count) r.1.1 in
              let g = get_range w.item.first_method w.item.method_count x.methods.items v.place v.item v.is_item in
              let y = method_in_file files t table f x here p at_p (w.item.first_method + v.place) v.item g.1 in
              let kind : (y.0.is_static && same_text y.0.name (codes ".cctor")) ≡ true = ap (λ (o : OwnMethod). o.is_static && same_text o.name (codes ".cctor")) y.1.1 ∙ v.passes in
              let placed = put_range r.0.first_method r.0.method_count p.methods v.place y.0 (let low = g.0 in omega (arith, low, count)) (ap (λ k. slice_get p.methods (k + v.place)) first ∙ y.1.0) in
              (InitialiserOf f w.place v.place p r.0 y.0 (at_p, r.1.0) placed kind, w.is ∙ ap (keeps (TypeAt f w.place)) (v.is ∙ ap (λ k. MethodAt f (k + v.place)) (sym first)))

  -- ---- all of them

  by_field : (l : Link) → Among (field_links f x) l → Among (member_links cs f x) l
  by_field l h = in_front (field_links f x) (method_links cs f x ++ part_links f x) l h

  by_method : (l : Link) → Among (method_links cs f x) l → Among (member_links cs f x) l
  by_method l h = in_rest (field_links f x) (method_links cs f x ++ part_links f x) l (in_front (method_links cs f x) (part_links f x) l h)

  by_part : (l : Link) → Among (part_links f x) l → Among (member_links cs f x) l
  by_part l h = in_rest (field_links f x) (method_links cs f x ++ part_links f x) l (in_rest (method_links cs f x) (part_links f x) l h)

  are_all : (l : Link) → Among (member_links cs f x) l → (r : RowRule size ps) × (l ≡ link_of size ps r)
  are_all l h = go (in_either (field_links f x) (method_links cs f x ++ part_links f x) l h)
    where
      rest : Among (method_links cs f x) l ⊎ Among (part_links f x) l → (r : RowRule size ps) × (l ≡ link_of size ps r)
      rest (inl g) = are_methods l g
      rest (inr g) = are_parts l g

      go : Among (field_links f x) l ⊎ Among (method_links cs f x ++ part_links f x) l → (r : RowRule size ps) × (l ≡ link_of size ps r)
      go (inl g) = are_fields l g
      go (inr g) = rest (in_either (method_links cs f x) (part_links f x) l g)

  pub are_member_rules : AreMemberRules size ps f (member_links cs f x)
  are_member_rules = record {
    type_of_method = λ n k q m at e is. by_method (keeps (MethodAt f n) (TypeAt f k)) (of_method n k q m at e is);
    type_of_field = λ n k q y at e is. by_field (keeps (FieldAt f n) (TypeAt f k)) (of_field n k q y at e is);
    instance_field_of = λ n i q r y s e k. by_part (keeps (TypeAt f n) (FieldAt f (r.first_field + i))) (of_instance n i q r y s e k);
    initialiser_of = λ n i q r m s e k. by_part (keeps (TypeAt f n) (MethodAt f (r.first_method + i))) (of_initialiser n i q r m s e k);
    thrown_by_native = λ n q m name k c s b throwing l. by_method (keeps (MethodAt f n) (type_at c)) (of_native n q m name k c s b throwing l);
    are = λ k l e. are_all l (k, e);
  }
