-- The numbers of rows by the counts of tables.
use Rattle.std.proofs.Common.{◌≡◌, ◌⊎◌, inl, inr, ⊎_elim, ℕ, zero, suc, ◌+◌, ◌<◌, ◌≤◌, ◌^◌, Bool, List, [], ◌∷◌, ◌++◌, length, length-append, Some, None, refl, sym, ap, ◌∙◌, arith}
use Rattle.std.specs.Prelude.{nat_lt, if◌then◌else◌, slice_get, unwrap_or}
use Rattle.std.specs.Option.{option_map}
use Rattle.std.proofs.lemmas.Bool.{cases_lt, lt-ltb, le-ltb}
use Rattle.std.proofs.lemmas.Option.{slice_get_within, slice_get-get_or}
use Rattle.machine.specs.Throw.{on_some}
use Rattle.row_closure.proofs.Places.{get_push}
use Rattle.assemblies.specs.Rows.{Assembly}
use Rattle.kept_numbers.specs.Numbers.{place_in, row_count, start_of, number_of, file_of}
use Rattle.row_numbers.specs.declared.table.Table.{Table}
use Rattle.row_numbers.specs.declared.table.Table.TheVariants as table
use Rattle.row_numbers.specs.declared.table.PerTable.{PerTable}
use Rattle.row_numbers.specs.declared.numbers.Firsts.{Firsts}
use Rattle.row_numbers.specs.Tables.{of_table, row_in, table_length, AreCounts, found_number, first_number, before, all_rows_of, start_by, AreFirst, AreFirsts}

-- ---- the first numbers of more and more assemblies

start_next : (cs : List PerTable) (k : ℕ) (c : PerTable) → slice_get cs k ≡ Some c → start_by cs (suc k) ≡ start_by cs k + all_rows_of c
start_next [] k c e = absurd (cc e)
start_next (d ∷ cs) zero c e = let same : all_rows_of d ≡ all_rows_of c = ap all_rows_of (the d c e) in go cs same
  where
    the : (d c : PerTable) → slice_get (d ∷ cs) zero ≡ Some c → d ≡ c
    the d c e = cc e

    go : (cs : List PerTable) → all_rows_of d ≡ all_rows_of c → all_rows_of d + start_by cs zero ≡ 0 + all_rows_of c
    go [] same = omega (arith, same)
    go (x ∷ xs) same = omega (arith, same)
start_next (d ∷ cs) (suc k) c e = let ih = start_next cs k c e in omega (arith, ih)

-- of the first so many assemblies
pub record AreFirstFew (counts firsts : List PerTable) (done end : ℕ) : Type 0 where
  pub files : length firsts ≡ done
  pub starts : end ≡ start_by counts done
  pub small : end < 2 ^ 32
  pub tables : (f : ℕ) (s c : PerTable) (t : Table) → slice_get firsts f ≡ Some s → slice_get counts f ≡ Some c → of_table s t ≡ start_by counts f + before c t
  pub fits : (f : ℕ) (c : PerTable) → f < done → slice_get counts f ≡ Some c → start_by counts f + all_rows_of c < 2 ^ 32

pub few_none : (counts : List PerTable) → AreFirstFew counts [] 0 0
few_none counts = record {
  files = refl;
  starts = go counts;
  small = omega arith;
  tables = λ f s c t e g. cc e;
  fits = λ f c lt e. absurd (omega (arith, lt));
}
  where
    go : (cs : List PerTable) → 0 ≡ start_by cs 0
    go [] = refl
    go (x ∷ xs) = refl

pub few_more : (counts firsts : List PerTable) (done end : ℕ) (c : PerTable) (next : Firsts) → AreFirstFew counts firsts done end → slice_get counts done ≡ Some c → AreFirst end c next → AreFirstFew counts (firsts ++ next.tables ∷ []) (done + 1) next.end
few_more counts firsts done end c next few at first =
    let more : suc done ≡ done + 1 = omega arith in
    record {
      files = omega (arith, length-append firsts (next.tables ∷ []), few.files);
      starts = first.ends ∙ ap (λ n. n + all_rows_of c) few.starts ∙ sym (start_next counts done c at) ∙ ap (start_by counts) more;
      small = first.small;
      tables = λ f s d t e g. tables f s d t g (get_push firsts next.tables f s e);
      fits = λ f d lt e.
          ⊎_elim
          (λ less. few.fits f d less e)
          (λ le.
          let same : f ≡ done = omega (arith, lt, le) in
          let this : Some d ≡ Some c = sym e ∙ ap (slice_get counts) same ∙ at in
          let it : d ≡ c = cc this in
          let rows : all_rows_of d ≡ all_rows_of c = ap all_rows_of it in
          let start : start_by counts f ≡ end = ap (start_by counts) same ∙ sym few.starts in
          omega (arith, rows, start, first.ends, first.small))
          (cases_lt f done);
    }
  where
    tables : (f : ℕ) (s d : PerTable) (t : Table) → slice_get counts f ≡ Some d → (slice_get firsts f ≡ Some s) ⊎ ((f ≡ length firsts) × (s ≡ next.tables)) → of_table s t ≡ start_by counts f + before d t
    tables f s d t g (inl h) = few.tables f s d t h g
    tables f s d t g (inr h) =
        let same : f ≡ done = h.0 ∙ few.files in
        let this : Some c ≡ Some d = sym at ∙ ap (slice_get counts) (sym same) ∙ g in
        let it : c ≡ d = cc this in
        ap (λ (x : PerTable). of_table x t) h.1 ∙ first.tables t ∙ ap (λ n. n + before c t) (few.starts ∙ ap (start_by counts) (sym same)) ∙ ap (λ (x : PerTable). start_by counts f + before x t) it

pub few_all : (counts firsts : List PerTable) (done end : ℕ) → done ≡ length counts → AreFirstFew counts firsts done end → AreFirsts counts firsts
few_all counts firsts done end whole few = record {
  files = few.files ∙ whole;
  tables = few.tables;
  fits = λ f c e. few.fits f c (let inside = slice_get_within counts f c e in omega (arith, inside, whole)) e;
}

-- ---- the number of a row

module _ (ps : List Assembly) (counts : List PerTable) (are : AreCounts ps counts) where
  same_count : (f : ℕ) (p : Assembly) (c : PerTable) → slice_get ps f ≡ Some p → slice_get counts f ≡ Some c → row_count p ≡ all_rows_of c
  same_count f p c at e =
      omega (arith, are.each f p c table.AssemblyRef at e, are.each f p c table.TypeRef at e, are.each f p c table.FieldRef at e, are.each f p c table.MethodRef at e, are.each f p c table.TypeDef at e, are.each f p c table.Field at e, are.each f p c table.MethodDef at e, are.each f p c table.TypeSpec at e)

  pub place_is : (f : ℕ) (p : Assembly) (c : PerTable) (t : Table) (n : ℕ) → slice_get ps f ≡ Some p → slice_get counts f ≡ Some c → place_in p (row_in t f n) ≡ before c t + n
  place_is f p c t n at e = go t
    where
      a : c.assembly_refs ≡ length p.assemblies
      a = are.each f p c table.AssemblyRef at e

      r : c.type_refs ≡ length p.refs
      r = are.each f p c table.TypeRef at e

      g : c.field_refs ≡ length p.field_refs
      g = are.each f p c table.FieldRef at e

      h : c.method_refs ≡ length p.method_refs
      h = are.each f p c table.MethodRef at e

      y : c.types ≡ length p.types
      y = are.each f p c table.TypeDef at e

      d : c.fields ≡ length p.fields
      d = are.each f p c table.Field at e

      m : c.methods ≡ length p.methods
      m = are.each f p c table.MethodDef at e

      go : (t : Table) → place_in p (row_in t f n) ≡ before c t + n
      go table.AssemblyRef = omega arith
      go table.TypeRef = omega (arith, a)
      go table.FieldRef = omega (arith, a, r)
      go table.MethodRef = omega (arith, a, r, g)
      go table.TypeDef = omega (arith, a, r, g, h)
      go table.Field = omega (arith, a, r, g, h, y)
      go table.MethodDef = omega (arith, a, r, g, h, y, d)
      go table.TypeSpec = omega (arith, a, r, g, h, y, d, m)

  pub file_is : (t : Table) (f n : ℕ) → file_of (row_in t f n) ≡ f
  file_is table.AssemblyRef f n = refl
  file_is table.TypeRef f n = refl
  file_is table.FieldRef f n = refl
  file_is table.MethodRef f n = refl
  file_is table.TypeDef f n = refl
  file_is table.Field f n = refl
  file_is table.MethodDef f n = refl
  file_is table.TypeSpec f n = refl

-- so many rows are before those of an assembly
pub same_start : (ps : List Assembly) (counts : List PerTable) → AreCounts ps counts → (f : ℕ) → start_of ps f ≡ start_by counts f
same_start [] [] are f = refl
same_start [] (c ∷ cs) are f = absurd (let same = are.files in omega (arith, same))
same_start (p ∷ ps) [] are f = absurd (let same = are.files in omega (arith, same))
same_start (p ∷ ps) (c ∷ cs) are zero = refl
same_start (p ∷ ps) (c ∷ cs) are (suc f) =
    let first = same_count (p ∷ ps) (c ∷ cs) are 0 p c refl refl in
    let rest = same_start ps cs (record { files = let same = are.files in omega (arith, same); each = λ g q d t at e. are.each (suc g) q d t at e }) f in
    omega (arith, first, rest)

module _ (ps : List Assembly) (counts firsts : List PerTable) (are : AreCounts ps counts) (first : AreFirsts counts firsts) (f : ℕ) (t : Table) (n : ℕ) where
  pub no_file : slice_get counts f ≡ None → None ≡ found_number ps t f n
  no_file e = sym (ap (λ o. on_some o (λ (p : Assembly). if nat_lt n (table_length p t) then Some (number_of ps (row_in t f n)) else None)) (gone ps counts are.files f e))
    where
      gone : (ps : List Assembly) (counts : List PerTable) → length counts ≡ length ps → (f : ℕ) → slice_get counts f ≡ None → slice_get ps f ≡ None
      gone [] cs same f e = refl
      gone (p ∷ ps) [] same f e = absurd (omega (arith, same))
      gone (p ∷ ps) (c ∷ cs) same zero e = cc e
      gone (p ∷ ps) (c ∷ cs) same (suc f) e = gone ps cs (omega (arith, same)) f e

  module _ (c : PerTable) (at : slice_get counts f ≡ Some c) where
    assembly : (p : Assembly) × (slice_get ps f ≡ Some p)
    assembly = there ps counts are.files f at
      where
        there : (ps : List Assembly) (counts : List PerTable) → length counts ≡ length ps → (f : ℕ) → slice_get counts f ≡ Some c → (p : Assembly) × (slice_get ps f ≡ Some p)
        there ps [] same f e = absurd (cc e)
        there [] (d ∷ cs) same f e = absurd (omega (arith, same))
        there (p ∷ ps) (d ∷ cs) same zero e = (p, refl)
        there (p ∷ ps) (d ∷ cs) same (suc f) e = there ps cs (omega (arith, same)) f e

    found_is : found_number ps t f n ≡ (if nat_lt n (of_table c t) then Some (number_of ps (row_in t f n)) else None)
    found_is =
        ap (λ o. on_some o (λ (p : Assembly). if nat_lt n (table_length p t) then Some (number_of ps (row_in t f n)) else None)) assembly.1
        ∙ ap (λ k. if nat_lt n k then Some (number_of ps (row_in t f n)) else None) (sym (are.each f assembly.0 c t assembly.1 at))

    pub no_row : of_table c t ≤ n → None ≡ found_number ps t f n
    no_row le = sym (found_is ∙ ap (λ (b : Bool). if b then Some (number_of ps (row_in t f n)) else None) (le-ltb n (of_table c t) le))

    number : number_of ps (row_in t f n) ≡ start_of ps f + (before c t + n)
    number =
        ap (λ g. start_of ps g + unwrap_or (option_map (λ p. place_in p (row_in t f n)) (slice_get ps g)) 0) (file_is ps counts are t f n)
        ∙ ap (λ o. start_of ps f + unwrap_or (option_map (λ (p : Assembly). place_in p (row_in t f n)) o) 0) assembly.1
        ∙ ap (λ k. start_of ps f + k) (place_is ps counts are f assembly.0 c t n assembly.1 at)

    module _ (s : PerTable) (e : slice_get firsts f ≡ Some s) where
      place : of_table s t + n ≡ start_of ps f + (before c t + n)
      place = let a = first.tables f s c t e at in let b = same_start ps counts are f in omega (arith, a, b)

      pub row_is : n < of_table c t → Some (of_table s t + n) ≡ found_number ps t f n
      row_is lt =
          sym
          (found_is
          ∙ ap (λ (b : Bool). if b then Some (number_of ps (row_in t f n)) else None) (lt-ltb n (of_table c t) lt)
          ∙ ap Some (number ∙ sym place))

      pub begins : Some (of_table s t + n) ≡ option_map (λ (p : Assembly). number_of ps (row_in t f n)) (slice_get ps f)
      begins = ap Some (place ∙ sym number) ∙ sym (ap (option_map (λ (p : Assembly). number_of ps (row_in t f n))) assembly.1)

-- a number fits
pub number_fits : (counts firsts : List PerTable) (f : ℕ) (s c : PerTable) (t : Table) (n : ℕ) → AreFirsts counts firsts → slice_get firsts f ≡ Some s → slice_get counts f ≡ Some c → n < of_table c t → of_table s t + n < 2 ^ 32
number_fits counts firsts f s c t n first e at lt =
    let a = first.tables f s c t e at in
    let b = first.fits f c at in
    let w = go t in
    omega (arith, a, b, w, lt)
  where
    go : (t : Table) → before c t + of_table c t ≤ all_rows_of c
    go table.AssemblyRef = omega arith
    go table.TypeRef = omega arith
    go table.FieldRef = omega arith
    go table.MethodRef = omega arith
    go table.TypeDef = omega arith
    go table.Field = omega arith
    go table.MethodDef = omega arith
    go table.TypeSpec = omega arith

-- the first number of a table
pub first_is : (ps : List Assembly) (counts firsts : List PerTable) → AreCounts ps counts → AreFirsts counts firsts → (f : ℕ) (t : Table) (s : PerTable) → slice_get firsts f ≡ Some s → Some (of_table s t) ≡ first_number ps t f
first_is ps counts firsts are first f t s e =
    let inside = slice_get_within firsts f s e in
    let there = slice_get-get_or counts f s (omega (arith, inside, first.files)) in
    let same : of_table s t ≡ of_table s t + 0 = omega arith in
    ap Some same ∙ begins ps counts firsts are first f t 0 _ there s e
