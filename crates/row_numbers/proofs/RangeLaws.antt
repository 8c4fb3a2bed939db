-- The number of a row, by the range of its table's numbers.
use Rattle.std.proofs.Common.{◌≡◌, ℕ, zero, suc, ◌+◌, ◌<◌, ◌≤◌, ◌^◌, Bool, List, [], ◌∷◌, length, Option, Some, None, refl, sym, ap, ◌∙◌, arith}
use Rattle.std.specs.Prelude.{nat_lt, if◌then◌else◌, slice_get, unwrap_or}
use Rattle.std.specs.Option.{option_map}
use Rattle.std.proofs.lemmas.Bool.{le-ltb}
use Rattle.machine.specs.Throw.{on_some}
use Rattle.assemblies.specs.Rows.{Assembly}
use Rattle.kept_numbers.specs.Numbers.{place_in, start_of, number_of}
use Rattle.row_numbers.specs.declared.table.Table.{Table}
use Rattle.row_numbers.specs.declared.table.Table.TheVariants as table
use Rattle.row_numbers.specs.declared.table.TableRange.{TableRange}
use Rattle.row_numbers.specs.declared.table.PerTable.{PerTable}
use Rattle.row_numbers.specs.Tables.{of_table, row_in, table_length, AreCounts, found_number, before, all_rows_of, start_by, AreFirsts, range_in, range_by}
use Rattle.row_numbers.proofs.NumberLaws.{place_is, file_is, same_start}

no_assembly : (ps : List Assembly) (counts : List PerTable) → length counts ≡ length ps → (f : ℕ) → slice_get counts f ≡ None → slice_get ps f ≡ None
no_assembly [] cs same f e = refl
no_assembly (p ∷ ps) [] same f e = absurd (omega (arith, same))
no_assembly (p ∷ ps) (c ∷ cs) same zero e = cc e
no_assembly (p ∷ ps) (c ∷ cs) same (suc f) e = no_assembly ps cs (omega (arith, same)) f e

an_assembly : (ps : List Assembly) (counts : List PerTable) → length counts ≡ length ps → (f : ℕ) (c : PerTable) → slice_get counts f ≡ Some c → (p : Assembly) × (slice_get ps f ≡ Some p)
an_assembly ps [] same f c e = absurd (cc e)
an_assembly [] (d ∷ cs) same f c e = absurd (omega (arith, same))
an_assembly (p ∷ ps) (d ∷ cs) same zero c e = (p, refl)
an_assembly (p ∷ ps) (d ∷ cs) same (suc f) c e = an_assembly ps cs (omega (arith, same)) f c e

module _ (ps : List Assembly) (counts : List PerTable) (are : AreCounts ps counts) (t : Table) (f n : ℕ) where
  abbrev found : Option Assembly → Option ℕ
  found o = on_some o (λ (p : Assembly). if nat_lt n (table_length p t) then Some (number_of ps (row_in t f n)) else None)

  number : (c : PerTable) (p : Assembly) → slice_get ps f ≡ Some p → slice_get counts f ≡ Some c → number_of ps (row_in t f n) ≡ start_by counts f + before c t + n
  number c p at e =
      let place = place_is ps counts are f p c t n at e in
      let start = same_start ps counts are f in
      let sum : start_of ps f + place_in p (row_in t f n) ≡ start_by counts f + before c t + n = omega (arith, place, start) in
      ap (λ g. start_of ps g + unwrap_or (option_map (λ p. place_in p (row_in t f n)) (slice_get ps g)) 0) (file_is ps counts are t f n)
      ∙ ap (λ o. start_of ps f + unwrap_or (option_map (λ (p : Assembly). place_in p (row_in t f n)) o) 0) at
      ∙ sum

  pub found_by : found_number ps t f n ≡ (if nat_lt n (range_by counts t f).count then Some ((range_by counts t f).first + n) else None)
  found_by = go (slice_get counts f) refl
    where
      go : (o : Option PerTable) → slice_get counts f ≡ o → found_number ps t f n ≡ (if nat_lt n (range_in counts t f o).count then Some ((range_in counts t f o).first + n) else None)
      go None e = ap found (no_assembly ps counts are.files f e) ∙ sym (ap (λ (b : Bool). if b then Some (0 + n) else None) (le-ltb n 0 (omega arith)))
      go (Some c) e =
          let p = an_assembly ps counts are.files f c e in
          ap found p.1
          ∙ ap (λ k. if nat_lt n k then Some (number_of ps (row_in t f n)) else None) (sym (are.each f p.0 c t p.1 e))
          ∙ ap (λ k. if nat_lt n (of_table c t) then Some k else None) (number c p.0 p.1 e)

before_all : (c : PerTable) (t : Table) → before c t + of_table c t ≤ all_rows_of c
before_all c table.AssemblyRef = omega arith
before_all c table.TypeRef = omega arith
before_all c table.FieldRef = omega arith
before_all c table.MethodRef = omega arith
before_all c table.TypeDef = omega arith
before_all c table.Field = omega arith
before_all c table.MethodDef = omega arith
before_all c table.TypeSpec = omega arith

module _ (counts firsts : List PerTable) (are : AreFirsts counts firsts) (f : ℕ) (s c : PerTable) (t : Table) (first : slice_get firsts f ≡ Some s) (at : slice_get counts f ≡ Some c) where
  pub range_is : (r : TableRange) → r.first ≡ of_table s t → r.count ≡ of_table c t → r ≡ range_by counts t f
  range_is r is_first is_count =
      let begin : r.first ≡ start_by counts f + before c t = is_first ∙ are.tables f s c t first at in
      let whole : range_by counts t f ≡ range_in counts t f (Some c) = ap (range_in counts t f) at in
      let this : r ≡ range_in counts t f (Some c) = λ i. record { first = begin i; count = is_count i } in
      this ∙ sym whole

  pub range_fits : (a b : ℕ) → a ≡ of_table s t → b ≡ of_table c t → a + b < 2 ^ 32
  range_fits a b is_first is_count =
      let begin = are.tables f s c t first at in
      let small = are.fits f c at in
      let few = before_all c t in
      omega (arith, begin, small, few, is_first, is_count)

pub no_range : (counts : List PerTable) (f : ℕ) (t : Table) → slice_get counts f ≡ None → range_in counts t f None ≡ range_by counts t f
no_range counts f t e = sym (ap (range_in counts t f) e)
