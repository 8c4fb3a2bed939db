-- The tables of types and of their interfaces by the numbers of the types.
use Rattle.std.proofs.Common.{◌≡◌, ◌≢◌, ℕ, zero, suc, ◌+◌, ◌<◌, List, [], ◌∷◌, ◌++◌, map, length, get_or, Option, Some, None, refl, sym, ap, ◌∙◌, zero-add, arith}
use Rattle.std.specs.Prelude.{if◌then◌else◌, slice_get, slice_index, ◌==◌}
use Rattle.std.specs.List.{filter, flat_map}
use Rattle.std.specs.Option.{option_map, option_map_or}
use Rattle.std.proofs.lemmas.Bool.{eq-eqb, ne_eqb}
use Rattle.std.proofs.lemmas.List.{map-append, append-nil, length-map}
use Rattle.std.proofs.lemmas.Option.{slice_get_within}
use Rattle.file_tables.specs.declared.schema.Coded.TheVariants.{TypeDefOrRef}
use Rattle.file_tables.specs.Metadata.{MetadataPart, column_of, row_count, rows_of, token_row}
use Rattle.kept_rows.specs.Select.{select, rows}
use Rattle.assemblies.specs.Rows.{TypeToken, TypeRow}
use Rattle.assemblies.specs.Chosen.{first_of, token_to, type_row_to}
use Rattle.assemblies.proofs.Numbered.{get_numbered}
use Rattle.world_rows.specs.Tokens.{type_defs, interface_impls, coded_type}
use Rattle.world_rows.specs.Rows.{interfaces_of}
use Rattle.world_rows.specs.Rows as file
use Rattle.image_form.specs.Signatures.{type_word}
use Rattle.image_form.specs.Form.{or_none}
use Rattle.class_table.specs.declared.rows.ClassRow.{ClassRow}
use Rattle.msspot_write.specs.declared.parts.Column.TheVariants.{Name}
use Rattle.msspot_write.specs.declared.parts.PartRow.{PartRow}
use Rattle.msspot_write.specs.Spelt.{numbers, type_parts, interface_part}
use Rattle.row_numbers.specs.declared.table.Table.TheVariants as table
use Rattle.kept_marks.specs.Masks.{Masks, choice_of_rows}
use Rattle.converted.specs.Images.{column_cut, row_cut}
use Rattle.image_rows.specs.Walk.{parts_from}
use Rattle.image_rows.specs.Types.{columns_by, AreColumns, tokens_of, type_with, type_read, types_read, interfaces_read, superclass_kept, type_numbers, type_made, types_at, interface_made, type_rows, interface_rows}
use Rattle.image_rows.proofs.WalkLaws.{walked, by_number}
use Rattle.image_rows.proofs.FieldLaws.{as_many}

fused : {A B C : Type 0} (g : B → C) (f : A → B) (xs : List A) → map g (map f xs) ≡ map (λ x. g (f x)) xs
fused g f [] = refl
fused g f (x ∷ xs) = ap (λ ys. g (f x) ∷ ys) (fused g f xs)

-- ---- the columns of one type

pub first_none : (first count : ℕ) → count ≡ 0 → 0 ≡ first_of first count
first_none first zero e = refl
first_none first (suc n) e = absurd (omega arith)

pub first_some : (first count : ℕ) → count ≢ 0 → first ≡ first_of first count
first_some first zero h = absurd (h refl)
first_some first (suc n) h = refl

module _ (kept : Masks) (m : MetadataPart) (extends : ℕ) where
  abbrev word : List TypeToken → ℕ
  word ts = or_none type_word (option_map (token_to (choice_of_rows kept)) (file.first_of ts))

  pub no_superclass : token_row TypeDefOrRef extends ≡ 0 → 65535 ≡ superclass_kept kept m extends
  no_superclass e = sym (ap (λ b. word (if b then [] else coded_type m TypeDefOrRef extends ∷ [])) (eq-eqb (token_row TypeDefOrRef extends) 0 e))

  pub some_superclass : token_row TypeDefOrRef extends ≢ 0 → type_word (token_to (choice_of_rows kept) (coded_type m TypeDefOrRef extends)) ≡ superclass_kept kept m extends
  some_superclass h = sym (ap (λ b. word (if b then [] else coded_type m TypeDefOrRef extends ∷ [])) (ne_eqb (token_row TypeDefOrRef extends) 0 h))

-- by so many interfaces
pub type_is : (kept : Masks) (m : MetadataPart) (x : ClassRow) (extends next : ℕ) (columns : List ℕ) → type_made kept next (type_with m x extends (tokens_of m columns)) ≡ record { columns = Name x.namespace.now ∷ Name x.name.now ∷ map column_cut (numbers (type_numbers kept m x extends (first_of next (length columns)) (length columns))) }
type_is kept m x extends next columns =
    ap (λ n. row_of (first_of next n) n) (length-map (tokens_of m columns) (token_to (choice_of_rows kept)) ∙ length-map columns (coded_type m TypeDefOrRef))
  where
    row_of : ℕ → ℕ → PartRow
    row_of first count = record { columns = Name x.namespace.now ∷ Name x.name.now ∷ map column_cut (numbers (type_numbers kept m x extends first count)) }

module _ (kept : Masks) (m : MetadataPart) (xs : List ClassRow) (lists : List (List ℕ)) (first n : ℕ) where
  abbrev made_of : ClassRow → List PartRow
  made_of x = type_made kept first (type_with m x (column_of m type_defs (suc n) 3) (tokens_of m (get_or lists n []))) ∷ []

  pub type_past : (out : List PartRow) → slice_get xs n ≡ None → out ≡ out ++ types_at kept m xs lists first n
  type_past out e = sym (ap (λ o. out ++ option_map_or made_of o []) e ∙ append-nil out)

  pub type_there : (x : ClassRow) → slice_get xs n ≡ Some x → types_at kept m xs lists first n ≡ made_of x
  type_there x e = ap (λ o. option_map_or made_of o []) e

-- ---- by the numbers of types

module _ (kept : Masks) (m : MetadataPart) where
  abbrev to : TypeRow → TypeRow
  to t = type_row_to (choice_of_rows kept) t

  abbrev token : TypeToken → TypeToken
  token t = token_to (choice_of_rows kept) t

  -- the tokens of columns that rows name are those of the type
  tokens_are : (n : ℕ) → tokens_of m (columns_by (rows_of m interface_impls) n) ≡ interfaces_of m n
  tokens_are n = fused (coded_type m TypeDefOrRef) (λ row. slice_index row 1) (filter (λ row. slice_index row 0 == suc n) (rows_of m interface_impls))

  module _ (lists : List (List ℕ)) (are : AreColumns (rows_of m interface_impls) (row_count m type_defs) lists) where
    listed : (n : ℕ) → n < row_count m type_defs → tokens_of m (get_or lists n []) ≡ interfaces_of m n
    listed n h = ap (tokens_of m) (are.each n h) ∙ tokens_are n

    -- ---- types

    type_agrees : (n : ℕ) (columns : List ℕ) → tokens_of m columns ≡ interfaces_of m n → (o : Option ClassRow) (y : TypeRow) → option_map (type_read m (0 + n)) o ≡ Some y → (length columns ≡ length y.interfaces) × ((at : ℕ) → option_map_or (λ x. type_made kept at (type_with m x (column_of m type_defs (suc n) 3) (tokens_of m columns)) ∷ []) o [] ≡ type_made kept at y ∷ [])
    type_agrees n columns named None y e = absurd (cc e)
    type_agrees n columns named (Some x) y e =
        let same : type_read m (0 + n) x ≡ y = cc e in
        let is : type_read m n x ≡ y = ap (λ k. type_read m k x) (sym (zero-add n)) ∙ same in
        (sym (length-map columns (coded_type m TypeDefOrRef)) ∙ ap length named ∙ ap (λ (t : TypeRow). length t.interfaces) is, λ at. ap (λ t. type_made kept at t ∷ []) (ap (type_with m x (column_of m type_defs (suc n) 3)) named ∙ is))

    type_walk : (at : ℕ) (ys : List TypeRow) → walked (λ k y. type_made kept k y ∷ []) (λ (y : TypeRow). length y.interfaces) at ys ≡ map row_cut (type_parts at (map to ys))
    type_walk at [] = refl
    type_walk at (y ∷ ys) =
        ap (λ ps. type_made kept at y ∷ ps)
        (type_walk (at + length y.interfaces) ys
        ∙ ap (λ k. map row_cut (type_parts (at + k) (map to ys))) (sym (length-map y.interfaces token)))

    pub types_are : (xs : List ClassRow) (count : ℕ) → length xs ≡ row_count m type_defs → count ≡ row_count m type_defs → parts_from (types_at kept m xs lists) (λ n. length (get_or lists n [])) 0 (rows (kept table.TypeDef) count) ≡ type_rows kept m xs
    types_are xs count has e =
        ap (λ k. parts_from (types_at kept m xs lists) (λ n. length (get_or lists n [])) 0 (rows (kept table.TypeDef) k)) (e ∙ sym has ∙ sym (as_many (type_read m) 0 xs))
        ∙ by_number (types_at kept m xs lists) (λ n. length (get_or lists n [])) (λ k y. type_made kept k y ∷ []) (λ (y : TypeRow). length y.interfaces) (kept table.TypeDef) 0 (types_read m xs) agree
        ∙ type_walk 0 (select (kept table.TypeDef) (types_read m xs))
      where
        agree : (n : ℕ) (y : TypeRow) → slice_get (types_read m xs) n ≡ Some y → (length (get_or lists n []) ≡ length y.interfaces) × ((at : ℕ) → types_at kept m xs lists at n ≡ type_made kept at y ∷ [])
        agree n y h =
            let within : n < row_count m type_defs = omega (arith, slice_get_within (types_read m xs) n y h, as_many (type_read m) 0 xs, has) in
            type_agrees n (get_or lists n []) (listed n within) (slice_get xs n) y (sym (get_numbered (type_read m) 0 n xs) ∙ h)

    -- ---- interfaces

    abbrev made : List TypeToken → List PartRow
    made ts = map row_cut (map interface_part (map token ts))

    interfaces_made : (columns : List ℕ) → map (interface_made kept m) columns ≡ made (tokens_of m columns)
    interfaces_made [] = refl
    interfaces_made (c ∷ cs) = ap (λ ps. interface_made kept m c ∷ ps) (interfaces_made cs)

    interface_walk : (at : ℕ) (ys : List (List TypeToken)) → walked (λ k y. made y) (λ y. 0) at ys ≡ map row_cut (map interface_part (flat_map (map token) ys))
    interface_walk at [] = refl
    interface_walk at (y ∷ ys) =
        ap (λ ps. made y ++ ps) (interface_walk (at + 0) ys)
        ∙ sym (map-append row_cut (map interface_part (map token y)) (map interface_part (flat_map (map token) ys)))
        ∙ ap (map row_cut) (sym (map-append interface_part (map token y) (flat_map (map token) ys)))

    interface_agrees : (n : ℕ) → n < row_count m type_defs → (o : Option (List ℕ)) (y : List TypeToken) → option_map (λ (row : List ℕ). interfaces_of m (0 + n)) o ≡ Some y → map (interface_made kept m) (get_or lists n []) ≡ made y
    interface_agrees n h None y e = absurd (cc e)
    interface_agrees n h (Some row) y e =
        let same : interfaces_of m (0 + n) ≡ y = cc e in
        interfaces_made (get_or lists n []) ∙ ap made (listed n h ∙ ap (interfaces_of m) (sym (zero-add n)) ∙ same)

    pub interfaces_are : (count : ℕ) → count ≡ row_count m type_defs → parts_from (λ first n. map (interface_made kept m) (get_or lists n [])) (λ n. 0) 0 (rows (kept table.TypeDef) count) ≡ interface_rows kept m
    interfaces_are count e =
        ap (λ k. parts_from (λ first n. map (interface_made kept m) (get_or lists n [])) (λ n. 0) 0 (rows (kept table.TypeDef) k)) (e ∙ sym (as_many (λ n row. interfaces_of m n) 0 (rows_of m type_defs)))
        ∙ by_number (λ first n. map (interface_made kept m) (get_or lists n [])) (λ n. 0) (λ k y. made y) (λ y. 0) (kept table.TypeDef) 0 (interfaces_read m) agree
        ∙ interface_walk 0 (select (kept table.TypeDef) (interfaces_read m))
      where
        agree : (n : ℕ) (y : List TypeToken) → slice_get (interfaces_read m) n ≡ Some y → (◌≡◌ {A = ℕ} 0 0) × ((at : ℕ) → map (interface_made kept m) (get_or lists n []) ≡ made y)
        agree n y h =
            let within : n < row_count m type_defs = omega (arith, slice_get_within (interfaces_read m) n y h, as_many (λ (k : ℕ) (row : List ℕ). interfaces_of m k) 0 (rows_of m type_defs)) in
            (refl, λ at. interface_agrees n within (slice_get (rows_of m type_defs) n) y (sym (get_numbered (λ (k : ℕ) (row : List ℕ). interfaces_of m k) 0 n (rows_of m type_defs)) ∙ h))
