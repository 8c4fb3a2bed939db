-- The links of enclosing types, superclasses and interfaces are those of the rows that types name.
use Rattle.std.proofs.Common.{◌≡◌, ◌⊎◌, inl, inr, ℕ, zero, suc, ◌==◌, true, List, [], ◌∷◌, ◌++◌, map, length, Option, Some, None, refl, sym, ap, subst, ◌∙◌, arith}
use Rattle.std.specs.Prelude.{slice_get, slice_index, unwrap_or}
use Rattle.std.specs.List.{filter, flat_map}
use Rattle.std.specs.Option.{option_map}
use Rattle.std.proofs.lemmas.Bool.{eqb-true, eq-eqb}
use Rattle.file_tables.specs.declared.schema.Coded.TheVariants.{TypeDefOrRef}
use Rattle.file_tables.specs.Metadata.{MetadataPart, rows_of, row_count}
use Rattle.file_tables.specs.File.{FilePart}
use Rattle.machine.specs.Throw.{on_some}
use Rattle.assemblies.specs.Rows.{Assembly, TypeRow}
use Rattle.assemblies.specs.Binding.{id_at, numbered}
use Rattle.assemblies.proofs.Back.{get_within}
use Rattle.world_rows.specs.Kinds.{kind_of}
use Rattle.world_rows.specs.Rows.{type_row, interfaces_of}
use Rattle.world_rows.specs.Tokens.{type_defs, interface_impls, from_zero, coded_type}
use Rattle.world_rows.specs.World.{rows_alone, assembly_with, assemblies_of, size_of}
use Rattle.class_table.specs.declared.rows.ClassRow.{ClassRow}
use Rattle.class_table.specs.declared.rows.FileRows.{FileRows}
use Rattle.class_table.specs.declared.rows.ClassTable.{ClassTable}
use Rattle.class_table.specs.Outlines.{Outline}
use Rattle.class_table.specs.Whole.{IsTable}
use Rattle.kept_rules.specs.Row.{Row, TypeAt, in_option, enclosing_row, token_row, by_type, of_type, names_of}
use Rattle.kept_numbers.specs.Numbers.{IsThere}
use Rattle.row_rules.specs.Links.{Link, keeps, links_from}
use Rattle.row_rules.specs.Named.{named_by_extends, interface_link}
use Rattle.row_rules.proofs.NameLaws.{stands}
use Rattle.member_rules.specs.Members.{enclosing_links}
use Rattle.member_rules.specs.Rules.{AreTypeNames}
use Rattle.member_rules.proofs.Among.{Among, in_one, in_front, in_rest, in_either, in_map, from_map, in_filter, from_filter, in_flat, from_flat, linked, from_links}
use Rattle.member_rules.proofs.RowLaws.{from_first, type_in_table, type_in_file}

module _ (files : List FilePart) (t : ClassTable) (table : IsTable files t) (f : ℕ) (x : FileRows) (here : slice_get t.files.items f ≡ Some x) (y : FilePart) (is : slice_get files f ≡ Some y) where
  abbrev size : ℕ
  size = size_of (rows_alone files)

  abbrev ps : List Assembly
  ps = assemblies_of files

  abbrev m : MetadataPart
  m = y.metadata

  abbrev p : Assembly
  p = assembly_with size files (rows_alone files) f y

  at_p : slice_get ps f ≡ Some p
  at_p = stands files f y is

  abbrev impls : List (List ℕ)
  impls = rows_of m interface_impls

  abbrev supers : List Link
  supers = links_from (TypeAt f) (named_by_extends f m) 0 (rows_of m type_defs)

  abbrev enclosings : List Link
  enclosings = enclosing_links f x

  abbrev implemented : List Link
  implemented = map (interface_link f m) impls

  abbrev all : List Link
  all = enclosings ++ (supers ++ implemented)

  abbrev made : ℕ → List ℕ → TypeRow
  made n w = type_row m (λ k. kind_of size (rows_alone files) (id_at f k)) n w

  type_at_row : (n : ℕ) → slice_get p.types n ≡ option_map (made n) (slice_get (rows_of m type_defs) n)
  type_at_row n = from_first made n (rows_of m type_defs)

  names_are : (n : ℕ) → names_of ps (TypeAt f n) ≡ unwrap_or (option_map (of_type f) (slice_get p.types n)) []
  names_are n = ap (λ o. unwrap_or (option_map (of_type f) (on_some o (λ (q : Assembly). slice_get q.types n))) []) at_p

  names_there : (n : ℕ) (r : TypeRow) → slice_get p.types n ≡ Some r → names_of ps (TypeAt f n) ≡ of_type f r
  names_there n r e = names_are n ∙ ap (λ o. unwrap_or (option_map (of_type f) o) []) e

  -- ---- each row that is named has a link

  by_enclosing : (n : ℕ) (r : TypeRow) (c : Row) → slice_get p.types n ≡ Some r → Among (in_option (enclosing_row f) r.enclosing) c → Among enclosings (keeps (TypeAt f n) c)
  by_enclosing n r c e h =
      let k = type_in_table files t table f x here p at_p n r e in
      linked (TypeAt f) (λ (k : ClassRow). in_option (enclosing_row f) k.enclosing) x.classes.items n k.0 c k.1.0 (subst (λ o. Among (in_option (enclosing_row f) o) c) (sym (ap (λ (o : Outline). o.enclosing) k.1.1)) h)

  by_interface : (n : ℕ) (c : Row) → Among (flat_map (token_row f) (interfaces_of m n)) c → Among implemented (keeps (TypeAt f n) c)
  by_interface n c h =
      let k = from_flat (token_row f) (interfaces_of m n) c h in
      let w = from_map (λ (row : List ℕ). coded_type m TypeDefOrRef (slice_index row 1)) (filter (λ (row : List ℕ). slice_index row 0 == suc n) impls) k.0 k.1.0 in
      let v = from_filter (λ (row : List ℕ). slice_index row 0 == suc n) impls w.0 w.1.0 in
      let class : slice_index w.0 0 ≡ suc n = eqb-true (slice_index w.0 0) (suc n) v.1 in
      let row : by_type f (coded_type m TypeDefOrRef (slice_index w.0 1)) ≡ c = ap (by_type f) w.1.1 ∙ in_one (by_type f k.0) c k.1.1 in
      let link : interface_link f m w.0 ≡ keeps (TypeAt f n) c = ap (λ j. keeps (TypeAt f (from_zero (row_count m type_defs) j)) (by_type f (coded_type m TypeDefOrRef (slice_index w.0 1)))) class ∙ ap (keeps (TypeAt f n)) row in
      subst (Among implemented) link (in_map (interface_link f m) impls w.0 v.0)

  has_name : (n : ℕ) (w : List ℕ) (c : Row) → slice_get (rows_of m type_defs) n ≡ Some w → Among (of_type f (made n w)) c → Among all (keeps (TypeAt f n) c)
  has_name n w c e h = go (in_either (in_option (enclosing_row f) (made n w).enclosing) (in_option (token_row f) (made n w).extends ++ flat_map (token_row f) (interfaces_of m n)) c h)
    where
      is_type : slice_get p.types n ≡ Some (made n w)
      is_type = type_at_row n ∙ ap (option_map (made n)) e

      rest : Among (in_option (token_row f) (made n w).extends) c ⊎ Among (flat_map (token_row f) (interfaces_of m n)) c → Among all (keeps (TypeAt f n) c)
      rest (inl g) = in_rest enclosings (supers ++ implemented) (keeps (TypeAt f n) c) (in_front supers implemented (keeps (TypeAt f n) c) (linked (TypeAt f) (named_by_extends f m) (rows_of m type_defs) n w c e g))
      rest (inr g) = in_rest enclosings (supers ++ implemented) (keeps (TypeAt f n) c) (in_rest supers implemented (keeps (TypeAt f n) c) (by_interface n c g))

      go : Among (in_option (enclosing_row f) (made n w).enclosing) c ⊎ Among (in_option (token_row f) (made n w).extends ++ flat_map (token_row f) (interfaces_of m n)) c → Among all (keeps (TypeAt f n) c)
      go (inl g) = in_front enclosings (supers ++ implemented) (keeps (TypeAt f n) c) (by_enclosing n (made n w) c is_type g)
      go (inr g) = rest (in_either (in_option (token_row f) (made n w).extends) (flat_map (token_row f) (interfaces_of m n)) c g)

  has : (n i : ℕ) (c : Row) → slice_get (names_of ps (TypeAt f n)) i ≡ Some c → Among all (keeps (TypeAt f n) c)
  has n i c e = go (slice_get (rows_of m type_defs) n) refl (sym (ap (λ cs. slice_get cs i) (names_are n ∙ ap (λ o. unwrap_or (option_map (of_type f) o) []) (type_at_row n))) ∙ e)
    where
      go : (o : Option (List ℕ)) → slice_get (rows_of m type_defs) n ≡ o → slice_get (unwrap_or (option_map (of_type f) (option_map (made n) o)) []) i ≡ Some c → Among all (keeps (TypeAt f n) c)
      go None g h = absurd (cc h)
      go (Some w) g h = has_name n w c g (i, h)

  -- ---- each link whose first row is there is of a row that is named

  abbrev IsName : Link → Type 0
  IsName l = (n : ℕ) × ((i : ℕ) × ((c : Row) × ((slice_get (names_of ps (TypeAt f n)) i ≡ Some c) × (l ≡ keeps (TypeAt f n) c))))

  named : (n : ℕ) (r : TypeRow) (c : Row) (l : Link) → slice_get p.types n ≡ Some r → Among (of_type f r) c → l ≡ keeps (TypeAt f n) c → IsName l
  named n r c l e (i, h) is_link = (n, (i, (c, (ap (λ cs. slice_get cs i) (names_there n r e) ∙ h, is_link))))

  is_enclosing : (l : Link) → Among enclosings l → IsName l
  is_enclosing l h =
      let w = from_links (TypeAt f) (λ (k : ClassRow). in_option (enclosing_row f) k.enclosing) x.classes.items l h in
      let r = type_in_file files t table f x here p at_p w.place w.item w.is_item in
      named w.place r.0 w.row l r.1.0
      (in_front (in_option (enclosing_row f) r.0.enclosing) (in_option (token_row f) r.0.extends ++ flat_map (token_row f) r.0.interfaces) w.row
      (subst (λ o. Among (in_option (enclosing_row f) o) w.row) (sym (ap (λ (o : Outline). o.enclosing) r.1.1)) w.named))
      w.is

  is_super : (l : Link) → Among supers l → IsName l
  is_super l h =
      let w = from_links (TypeAt f) (named_by_extends f m) (rows_of m type_defs) l h in
      let r = made w.place w.item in
      named w.place r w.row l (type_at_row w.place ∙ ap (option_map (made w.place)) w.is_item)
      (in_rest (in_option (enclosing_row f) r.enclosing) (in_option (token_row f) r.extends ++ flat_map (token_row f) r.interfaces) w.row
      (in_front (in_option (token_row f) r.extends) (flat_map (token_row f) r.interfaces) w.row w.named))
      w.is

  types_count : length p.types ≡ row_count m type_defs
  types_count = count made 0 (rows_of m type_defs) ∙ rows_count
    where
      count : {A B : Type 0} (make : ℕ → A → B) (n : ℕ) (xs : List A) → length (numbered make n xs) ≡ length xs
      count make n [] = refl
      count make n (z ∷ zs) = ap suc (count make (suc n) zs)

      rows_count : length (rows_of m type_defs) ≡ row_count m type_defs
      rows_count = refl

  is_interface : (w : List ℕ) (l : Link) → Among impls w → interface_link f m w ≡ l → IsThere ps l.first → IsName l
  is_interface w l among link there = go (slice_index w 0) refl (subst (λ (k : Link). IsThere ps k.first) (sym link) there)
    where
      -- the type that is there
      type_there : (n : ℕ) → IsThere ps (TypeAt f n) → (r : TypeRow) × (slice_get p.types n ≡ Some r)
      type_there n (q, (r, s)) = let same : p ≡ q = cc (sym at_p ∙ s.0) in (r, ap (λ (z : Assembly). slice_get z.types n) same ∙ s.1)

      of_class : (n : ℕ) → slice_index w 0 ≡ suc n → (r : TypeRow) → slice_get p.types n ≡ Some r → (o : Option (List ℕ)) → slice_get (rows_of m type_defs) n ≡ o → IsName l
      of_class n class r e None g = absurd (cc (sym e ∙ type_at_row n ∙ ap (option_map (made n)) g))
      of_class n class r e (Some v) g =
          let c = by_type f (coded_type m TypeDefOrRef (slice_index w 1)) in
          let passes : (slice_index w 0 == suc n) ≡ true = eq-eqb (slice_index w 0) (suc n) class in
          let token = in_map (λ (row : List ℕ). coded_type m TypeDefOrRef (slice_index row 1)) (filter (λ (row : List ℕ). slice_index row 0 == suc n) impls) w (in_filter (λ (row : List ℕ). slice_index row 0 == suc n) impls w passes among) in
          let u = made n v in
          named n u c l (type_at_row n ∙ ap (option_map (made n)) g)
          (in_rest (in_option (enclosing_row f) u.enclosing) (in_option (token_row f) u.extends ++ flat_map (token_row f) u.interfaces) c
          (in_rest (in_option (token_row f) u.extends) (flat_map (token_row f) u.interfaces) c
          (in_flat (token_row f) (interfaces_of m n) (coded_type m TypeDefOrRef (slice_index w 1)) c token (0, refl))))
          (sym link ∙ ap (λ j. keeps (TypeAt f (from_zero (row_count m type_defs) j)) c) class)

      go : (k : ℕ) → slice_index w 0 ≡ k → IsThere ps (TypeAt f (from_zero (row_count m type_defs) (slice_index w 0))) → IsName l
      go zero e h =
          let r = type_there (row_count m type_defs) (subst (λ j. IsThere ps (TypeAt f (from_zero (row_count m type_defs) j))) e h) in
          let low = get_within p.types (row_count m type_defs) r.0 r.1 in
          let all_types = types_count in
          absurd (omega (arith, low, all_types))
      go (suc n) e h = let r = type_there n (subst (λ j. IsThere ps (TypeAt f (from_zero (row_count m type_defs) j))) e h) in of_class n e r.0 r.1 (slice_get (rows_of m type_defs) n) refl

  are : (l : Link) → Among all l → IsThere ps l.first → IsName l
  are l h there = go (in_either enclosings (supers ++ implemented) l h)
    where
      rest : Among supers l ⊎ Among implemented l → IsName l
      rest (inl g) = is_super l g
      rest (inr g) = let w = from_map (interface_link f m) impls l g in is_interface w.0 l w.1.0 w.1.1 there

      go : Among enclosings l ⊎ Among (supers ++ implemented) l → IsName l
      go (inl g) = is_enclosing l g
      go (inr g) = rest (in_either supers implemented l g)

  pub are_type_names : AreTypeNames ps f all
  are_type_names = record { has = has; are = λ k l e there. are l (k, e) there }
