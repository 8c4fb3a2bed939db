-- Places, coded indexes and row numbers fit the columns where they stand.
use Rattle.std.proofs.Common.{◌≡◌, ℕ, zero, suc, ◌+◌, ◌<◌, ◌≤◌, Bool, true, false, ◌&&◌, ◌||◌, ltb-true, eqb, eqb-true, List, [], ◌∷◌, length, get_or, refl, ap, sym, subst, arith, length-append}
use Rattle.std.specs.Prelude.{◌==◌, nat_le, nat_lt}
use Rattle.std.specs.List.{list_all, list_any}
use Rattle.std.proofs.lemmas.Bool.{leb-true, leb-false, lt-ltb, or_parts}
use Rattle.std.proofs.lemmas.Bool.Decides.{nat_tests}
use Rattle.cil_layout.specs.declared.rows.TheConstants.{MODULE, TYPE_REF, TYPE_DEF, METHOD_DEF, TYPE_SPEC, ASSEMBLY_REF}
use Rattle.cil_layout.specs.Asked.{Asked, rows_of}
use Rattle.cil_layout.specs.Askable.{IsAskable, is_token, are_units}
use Rattle.cil_layout.specs.Heaps.{name_entry, name_place}
use Rattle.cil_layout.specs.Text.{compressed, blob_entry}
use Rattle.cil_layout.specs.Numbers.{token_row, token_table, type_tag, parent_tag, scope_tag, type_index, parent_index, scope_index}
use Rattle.cil_layout.specs.Layout.{width, is_long, has_rows, widths}
use Rattle.cil_layout.proofs.Below.{and_left, and_right}
use Rattle.cil_layout.proofs.Sizes.{no_fixed}
use Rattle.layout_laws.proofs.RowsNumbers.{FitsIn, in_two, in_four}

-- a number that fits two bytes where its column isn't wide
wide_fits : (wide : Bool) (n : ℕ) → n < 4294967296 → (wide ≡ false → n < 65536) → FitsIn (width wide) n
wide_fits true n fits small = in_four refl fits
wide_fits false n fits small = in_two refl (small refl)

pub zero_fits : (wide : Bool) → FitsIn (width wide) 0
zero_fits wide = wide_fits wide 0 (omega arith) (λ _. omega arith)

-- a place inside a heap
pub place_fits : (len n : ℕ) → len ≤ 4194304 → n < len → FitsIn (width (is_long len)) n
place_fits len n small below = wide_fits (is_long len) n (omega arith) (λ short. omega (arith, leb-false 65536 len short))

pub name_fits : (len at : ℕ) (name : List ℕ) → len ≤ 4194304 → at + length (name_entry name) ≤ len → FitsIn (width (is_long len)) (name_place at name)
name_fits len at [] small below = zero_fits (is_long len)
name_fits len at (c ∷ cs) small below = place_fits len at small (omega arith)

compressed_some : (n : ℕ) → 0 < length (compressed n)
compressed_some n = grind (arith, nat_tests)

pub blob_fits : (len at : ℕ) (signature : List ℕ) → len ≤ 4194304 → at + length (blob_entry signature) ≤ len → FitsIn (width (is_long len)) at
blob_fits len at signature small below =
    place_fits len at small (omega (arith, compressed_some (length signature), length-append (compressed (length signature)) signature))

-- each unit of a version
pub units_fit : (units : List ℕ) (k : ℕ) → are_units units ≡ true → FitsIn 2 (get_or units k 0)
units_fit units k all = in_two refl (each units k all) where
  each : (us : List ℕ) (j : ℕ) → are_units us ≡ true → get_or us j 0 < 65536
  each [] j e = omega arith
  each (u ∷ us) zero e = ltb-true u 65536 (and_left _ _ e)
  each (u ∷ us) (suc j) e = each us j (and_right _ _ e)

-- what holds of each table holds of one of them
one_of : (test : ℕ → Bool) (x : ℕ) (tables : List ℕ) → list_any (λ t. eqb t x) tables ≡ true → list_all test tables ≡ true → test x ≡ true
one_of test x [] any all = absurd cc
one_of test x (t ∷ ts) any all = elim (eqb t x) as (λ b. eqb t x ≡ b → (b || list_any (λ u. eqb u x) ts) ≡ true → test x ≡ true) [
  | true ↦ λ same _. subst (λ u. test u ≡ true) (eqb-true t x same) (and_left _ _ all)
  | false ↦ λ _ rest. one_of test x ts rest (and_right _ _ all)
] refl any

-- a token of tables that have few rows has a low row
token_below : (r : Asked) (tables : List ℕ) (token limit : ℕ) → is_token r tables token ≡ true → list_all (λ t. nat_lt (rows_of r t) limit) tables ≡ true → token_row token < limit
token_below r tables token limit named few =
    let any : list_any (λ t. eqb t (token_table token)) tables ≡ true = and_left _ _ (and_left _ _ named) in
    below (token_row token) (rows_of r (token_table token)) limit (leb-true _ _ (and_right _ _ named))
    (ltb-true _ _ (one_of (λ t. nat_lt (rows_of r t) limit) (token_table token) tables any few)) where
      below : (a b c : ℕ) → a ≤ b → b < c → a < c
      below a b c le lt = omega arith

-- rows behind a limit that a test of the widths has
below_limit : (count limit : ℕ) → nat_le limit count ≡ false → nat_lt count limit ≡ true
below_limit count limit short = lt-ltb count limit (leb-false limit count short)

type_tag_le : (table : ℕ) → type_tag table ≤ 2
type_tag_le table = grind (arith, nat_tests)

parent_tag_le : (table : ℕ) → parent_tag table ≤ 4
parent_tag_le table = grind (arith, nat_tests)

scope_tag_le : (table : ℕ) → scope_tag table ≤ 3
scope_tag_le table = grind (arith, nat_tests)

pub module_rows : (r : Asked) → rows_of r 0 ≡ 1
unfolding rows_of
module_rows r = omega (arith, (no_fixed r.rows).0)

-- the tests of several tables
all_three : (a b c : Bool) → a ≡ true → b ≡ true → c ≡ true → (a && (b && (c && true))) ≡ true
all_three a b c p q s = rw (p, q, s) refl

all_four : (a b c d : Bool) → a ≡ true → b ≡ true → c ≡ true → d ≡ true → (a && (b && (c && (d && true)))) ≡ true
all_four a b c d p q s t = rw (p, q, s, t) refl

pub type_fits : (r : Asked) (token : ℕ) → is_token r (TYPE_DEF ∷ TYPE_REF ∷ TYPE_SPEC ∷ []) token ≡ true → FitsIn (widths r).types (type_index token)
unfolding widths
type_fits r token named =
    wide_fits _ (type_index token) (omega (arith, type_tag_le (token_table token))) (λ short.
    let last : (has_rows (rows_of r) 16384 TYPE_DEF || has_rows (rows_of r) 16384 TYPE_REF ≡ false) × (has_rows (rows_of r) 16384 TYPE_SPEC ≡ false) = or_parts _ _ short in
    let two : (has_rows (rows_of r) 16384 TYPE_DEF ≡ false) × (has_rows (rows_of r) 16384 TYPE_REF ≡ false) = or_parts _ _ last.0 in
    let few : list_all (λ t. nat_lt (rows_of r t) 16384) (TYPE_DEF ∷ TYPE_REF ∷ TYPE_SPEC ∷ []) ≡ true =
    all_three _ _ _ (below_limit _ _ two.0) (below_limit _ _ two.1) (below_limit _ _ last.1) in
    omega (arith, type_tag_le (token_table token), token_below r (TYPE_DEF ∷ TYPE_REF ∷ TYPE_SPEC ∷ []) token 16384 named few)
    )

pub type_or_none_fits : (r : Asked) (token : ℕ) → ((token == 0) || is_token r (TYPE_DEF ∷ TYPE_REF ∷ TYPE_SPEC ∷ []) token) ≡ true → FitsIn (widths r).types (type_index token)
unfolding widths
type_or_none_fits r token named = elim (eqb token 0) as (λ b. eqb token 0 ≡ b → (b || is_token r (TYPE_DEF ∷ TYPE_REF ∷ TYPE_SPEC ∷ []) token) ≡ true → FitsIn (widths r).types (type_index token)) [
  | true ↦ λ same _. subst (λ n. FitsIn (widths r).types (type_index n)) (sym (eqb-true token 0 same)) (zero_fits _)
  | false ↦ λ _ rest. type_fits r token rest
] refl named

pub parent_fits : (r : Asked) (token : ℕ) → is_token r (TYPE_DEF ∷ TYPE_REF ∷ METHOD_DEF ∷ TYPE_SPEC ∷ []) token ≡ true → FitsIn (widths r).parents (parent_index token)
unfolding widths
parent_fits r token named =
    wide_fits _ (parent_index token) (omega (arith, parent_tag_le (token_table token))) (λ short.
    let last : (has_rows (rows_of r) 8192 TYPE_DEF || has_rows (rows_of r) 8192 TYPE_REF || has_rows (rows_of r) 8192 METHOD_DEF ≡ false) × (has_rows (rows_of r) 8192 TYPE_SPEC ≡ false) = or_parts _ _ short in
    let three : (has_rows (rows_of r) 8192 TYPE_DEF || has_rows (rows_of r) 8192 TYPE_REF ≡ false) × (has_rows (rows_of r) 8192 METHOD_DEF ≡ false) = or_parts _ _ last.0 in
    let two : (has_rows (rows_of r) 8192 TYPE_DEF ≡ false) × (has_rows (rows_of r) 8192 TYPE_REF ≡ false) = or_parts _ _ three.0 in
    let few : list_all (λ t. nat_lt (rows_of r t) 8192) (TYPE_DEF ∷ TYPE_REF ∷ METHOD_DEF ∷ TYPE_SPEC ∷ []) ≡ true =
    all_four _ _ _ _ (below_limit _ _ two.0) (below_limit _ _ two.1) (below_limit _ _ three.1) (below_limit _ _ last.1) in
    omega (arith, parent_tag_le (token_table token), token_below r (TYPE_DEF ∷ TYPE_REF ∷ METHOD_DEF ∷ TYPE_SPEC ∷ []) token 8192 named few)
    )

pub scope_fits : (r : Asked) (token : ℕ) → is_token r (MODULE ∷ ASSEMBLY_REF ∷ TYPE_REF ∷ []) token ≡ true → FitsIn (widths r).scopes (scope_index token)
unfolding widths
scope_fits r token named =
    wide_fits _ (scope_index token) (omega (arith, scope_tag_le (token_table token))) (λ short.
    let two : (has_rows (rows_of r) 16384 ASSEMBLY_REF ≡ false) × (has_rows (rows_of r) 16384 TYPE_REF ≡ false) = or_parts _ _ short in
    let few : list_all (λ t. nat_lt (rows_of r t) 16384) (MODULE ∷ ASSEMBLY_REF ∷ TYPE_REF ∷ []) ≡ true =
    all_three _ _ _ (ap (λ n. nat_lt n 16384) (module_rows r)) (below_limit _ _ two.0) (below_limit _ _ two.1) in
    omega (arith, scope_tag_le (token_table token), token_below r (MODULE ∷ ASSEMBLY_REF ∷ TYPE_REF ∷ []) token 16384 named few)
    )

-- a row of TypeDef
pub row_fits : (r : Asked) (token : ℕ) → IsAskable r → is_token r (TYPE_DEF ∷ []) token ≡ true → FitsIn 2 (token_row token)
row_fits r token askable named =
    let few : nat_lt (rows_of r 2) 65536 ≡ true = lt-ltb (rows_of r 2) 65536 (omega (arith, askable.few 2 (omega arith))) in
    in_two refl (token_below r (TYPE_DEF ∷ []) token 65536 named (rw few refl))
