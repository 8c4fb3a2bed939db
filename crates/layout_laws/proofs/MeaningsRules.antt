-- Rules 12 and 13 of the tables that are built.
use Rattle.std.proofs.Common.{◌≡◌, ℕ, zero, suc, ◌+◌, ◌<◌, ◌≤◌, Bool, true, false, cond, ltb, List, [], ◌∷◌, ◌++◌, get_or, map, Some, None, refl, sym, ap, ◌∙◌, subst, arith}
use Rattle.std.specs.List.{range_with_len, flat_map, list_all}
use Rattle.std.proofs.lemmas.Bool.{and_parts, ltb-true, eq-eqb}
use Rattle.cil_layout.specs.Asked.{Asked, rows_of as rows_asked}
use Rattle.cil_layout.specs.Askable.{IsAskable}
use Rattle.cil_layout.proofs.Sizes.{no_fixed}
use Rattle.file_tables.specs.declared.schema.TheConstants.{LOOKED_AT}
use Rattle.file_tables.specs.Rules.{Rule, rule_at, rule_of_row, first_broken}
use Rattle.file_tables.specs.Schema.{columns_of}
use Rattle.file_tables.specs.Metadata.{MetadataPart, rows_of, row_of, row_count, is_row, rules_of_rows, has_one_assembly, rules_of_tables}
use Rattle.layout_laws.proofs.MeaningsFacts.{IsPartOf}
use Rattle.layout_laws.proofs.MeaningsFixed.{table_kept}
use Rattle.layout_laws.proofs.MeaningsKept.{row_kept}
use Rattle.layout_laws.proofs.MeaningsRows.{counted}
use Rattle.layout_laws.proofs.MeaningsWalk.{AllKept, all_kept_at}

-- rules that are kept, one behind the other
broken_append : (rules more : List Rule) → first_broken rules ≡ None → first_broken more ≡ None → first_broken (rules ++ more) ≡ None
broken_append [] more kept then = then
broken_append (rule ∷ rules) more kept then =
    elim rule.is_kept as (λ b. cond b (first_broken rules) (Some rule.fault) ≡ None → cond b (first_broken (rules ++ more)) (Some rule.fault) ≡ None) [
      | true ↦ λ rest. broken_append rules more rest then
      | false ↦ λ broken. absurd (cc)
    ] kept

-- the rules of several tables
broken_flat_map : (f : ℕ → List Rule) (tables : List ℕ) → list_all (λ t. ltb t 64) tables ≡ true → ((table : ℕ) → table < 64 → first_broken (f table) ≡ None) → first_broken (flat_map f tables) ≡ None
broken_flat_map f [] below kept = refl
broken_flat_map f (table ∷ tables) below kept =
    let parts : (ltb table 64 ≡ true) × (list_all (λ t. ltb t 64) tables ≡ true) = and_parts (ltb table 64) (list_all (λ t. ltb t 64) tables) below in
    broken_append (f table) (flat_map f tables) (kept table (ltb-true table 64 parts.0)) (broken_flat_map f tables parts.1 kept)

-- the rules of rows from one on
broken_rows : (table a n : ℕ) (test : ℕ → Bool) → ((k : ℕ) → a ≤ k → k < a + n → test k ≡ true) → first_broken (map (λ row. rule_of_row 12 table row (test row)) (range_with_len a n)) ≡ None
broken_rows table a zero test kept = refl
broken_rows table a (suc n) test kept =
    rw (kept a (omega arith) (omega arith)) (broken_rows table (a + 1) n test (λ k low high. kept k (omega arith) (omega arith)))

-- the row before a row
row_before : (m : MetadataPart) (table k : ℕ) → row_of m table k ≡ get_or ([] ∷ rows_of m table) k []
row_before m table zero = refl
row_before m table (suc k) = refl

-- rule 12 holds of each row of a table that is kept
row_is_kept : (m : MetadataPart) (table k : ℕ) → AllKept m table [] (rows_of m table) → 1 ≤ k → k < 1 + row_count m table → is_row m table k ≡ true
unfolding is_row row_kept
row_is_kept m table zero all low high = refl
row_is_kept m table (suc k) all low high =
    ap (λ before. row_kept m (columns_of table) before (get_or (rows_of m table) k [])) (row_before m table k) ∙ all_kept_at m table [] (rows_of m table) k all (omega arith)

-- the rules of the rows of a table
table_rules : (m : MetadataPart) (r : Asked) (table : ℕ) → IsPartOf m r → IsAskable r → table < 64 → first_broken (rules_of_rows m table) ≡ None
unfolding rules_of_rows
table_rules m r table part is below =
    let all : AllKept m table [] (rows_of m table) = subst (λ rows. AllKept m table [] rows) (sym (part.tables.tables table below)) (table_kept m r table part is) in
    broken_rows table 1 (row_count m table) (is_row m table) (λ k low high. row_is_kept m table k all low high)

-- Assembly has one row
one_assembly : (m : MetadataPart) (r : Asked) → IsPartOf m r → has_one_assembly m ≡ true
unfolding has_one_assembly rows_asked
one_assembly m r part = eq-eqb (row_count m 32) 1 (omega (arith, counted m r 32 part.tables (omega arith), (no_fixed r.rows).1))

-- all rules of the tables
pub rules_kept : (m : MetadataPart) (r : Asked) → IsPartOf m r → IsAskable r → first_broken (rules_of_tables m) ≡ None
unfolding rules_of_tables
rules_kept m r part is =
    broken_append (flat_map (rules_of_rows m) LOOKED_AT) (rule_at 13 0 (has_one_assembly m) ∷ []) (broken_flat_map (rules_of_rows m) LOOKED_AT refl (λ table below. table_rules m r table part is below)) (rw (one_assembly m r part) refl)
