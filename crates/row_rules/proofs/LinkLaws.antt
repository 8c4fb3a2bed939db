-- Rules that were added one after the other.
use Rattle.std.proofs.Common.{◌≡◌, ℕ, suc, ◌+◌, ◌<◌, ◌≤◌, Bool, true, false, cond, List, [], ◌∷◌, ◌++◌, map, length, take, get_or, refl, sym, ap, subst, ◌∙◌, add-one, arith}
use Rattle.std.specs.List.{filter, filter_map, flat_map}
use Rattle.std.proofs.lemmas.List.{take_more, take_all, length-take-le, length_push, append-nil, append_assoc, map-append, flat_map_more}
use Rattle.std.proofs.lemmas.List.Elements.{filter-append, filter_map-append}
use Rattle.file_tables.specs.Metadata.{MetadataPart, rows_of, row_of, row_count}
use Rattle.assemblies.specs.Rows.{Assembly}
use Rattle.kept_rules.specs.Row.{Row}
use Rattle.row_numbers.specs.declared.table.Table.{Table}
use Rattle.row_numbers.specs.declared.table.Table.TheVariants as table
use Rattle.row_numbers.specs.Tables.{row_in, AreCounts, found_number}
use Rattle.row_rules.specs.declared.rules.RowRules.{RowRules}
use Rattle.row_rules.specs.Links.{number_there, Link, keeps_each, rule_between, Adds, links_from}

pub number_is : (ps : List Assembly) (t : Table) (f n : ℕ) → found_number ps t f n ≡ number_there ps (row_in t f n)
number_is ps table.AssemblyRef f n = refl
number_is ps table.TypeRef f n = refl
number_is ps table.FieldRef f n = refl
number_is ps table.MethodRef f n = refl
number_is ps table.TypeDef f n = refl
number_is ps table.Field f n = refl
number_is ps table.MethodDef f n = refl
number_is ps table.TypeSpec f n = refl

pub adds_none : (a : RowRules) → Adds [] a a
adds_none a = record { numbers = refl; rules = λ ps are. sym (append-nil a.rules.items) }

pub adds_after : (xs ys : List Link) (a b c : RowRules) → Adds xs a b → Adds ys b c → Adds (xs ++ ys) a c
adds_after xs ys a b c first second = record {
  numbers = second.numbers ∙ first.numbers;
  rules = λ ps are.
      second.rules ps (subst (λ ns. AreCounts ps ns) (sym first.numbers) are)
      ∙ ap (λ zs. zs ++ filter_map (rule_between ps) ys) (first.rules ps are)
      ∙ append_assoc a.rules.items (filter_map (rule_between ps) xs) (filter_map (rule_between ps) ys)
      ∙ ap (λ zs. a.rules.items ++ zs) (sym (filter_map-append (rule_between ps) xs ys));
}

pub adds_is : {ls : List Link} {a b c : RowRules} → c ≡ b → Adds ls a b → Adds ls a c
adds_is {ls} {a} e adds = subst (λ x. Adds ls a x) (sym e) adds

-- what one row keeps, by the rows that it names
module _ (r : Row) where
  pub keeps_after : (xs ys : List Row) (a b c : RowRules) → Adds (keeps_each r xs) a b → Adds (keeps_each r ys) b c → Adds (keeps_each r (xs ++ ys)) a c
  keeps_after xs ys a b c first second =
      subst (λ ls. Adds ls a c) (sym (map-append _ xs ys)) (adds_after (keeps_each r xs) (keeps_each r ys) a b c first second)

  module _ {A : Type 0} (names : A → List Row) (xs : List A) where
    pub keeps_more : (a b c : RowRules) (i : ℕ) (d : A) → i < length xs → Adds (keeps_each r (flat_map names (take i xs))) a b → Adds (keeps_each r (names (get_or xs i d))) b c → Adds (keeps_each r (flat_map names (take (i + 1) xs))) a c
    keeps_more a b c i d within first second =
        let more : flat_map names (take i xs) ++ names (get_or xs i d) ≡ flat_map names (take (i + 1) xs) = flat_map_more names [] (take i xs) (get_or xs i d) ∙ ap (flat_map names) (sym (take_more xs i d within)) in
        subst (λ cs. Adds (keeps_each r cs) a c) more (keeps_after (flat_map names (take i xs)) (names (get_or xs i d)) a b c first second)

    pub keeps_all : (a b : RowRules) (i : ℕ) → length xs ≤ i → Adds (keeps_each r (flat_map names (take i xs))) a b → Adds (keeps_each r (flat_map names xs)) a b
    keeps_all a b i past adds = subst (λ ys. Adds (keeps_each r (flat_map names ys)) a b) (take_all i xs past) adds

-- ---- the rows of a table

module _ {A : Type 0} (at : ℕ → Row) (names : A → List Row) where
  pub links_more : (n : ℕ) (ys : List A) (x : A) → links_from at names n (ys ++ x ∷ []) ≡ links_from at names n ys ++ keeps_each (at (n + length ys)) (names x)
  links_more n [] x = let same : n ≡ n + 0 = omega arith in append-nil (keeps_each (at n) (names x)) ∙ ap (λ k. keeps_each (at k) (names x)) same
  links_more n (y ∷ ys) x =
      let same : suc n + length ys ≡ n + suc (length ys) = omega arith in
      ap (λ zs. keeps_each (at n) (names y) ++ zs) (links_more (suc n) ys x)
      ∙ sym (append_assoc (keeps_each (at n) (names y)) (links_from at names (suc n) ys) (keeps_each (at (suc n + length ys)) (names x)))
      ∙ ap (λ k. (keeps_each (at n) (names y) ++ links_from at names (suc n) ys) ++ keeps_each (at k) (names x)) same

module _ (m : MetadataPart) (table : ℕ) (at : ℕ → Row) (names : List ℕ → List Row) (a b : RowRules) where
  pub row_added : (c : RowRules) (n : ℕ) (cs : List Row) → n < row_count m table → Adds (links_from at names 0 (take n (rows_of m table))) a b → cs ≡ names (row_of m table (n + 1)) → Adds (keeps_each (at n) cs) b c → Adds (links_from at names 0 (take (n + 1) (rows_of m table))) a c
  row_added c n cs within first e second =
      let rows = rows_of m table in
      let few : n ≤ length rows = omega (arith, within) in
      let taken : length (take n rows) ≡ n = length-take-le n rows few in
      let long : n ≡ 0 + length (take n rows) = omega (arith, taken) in
      let named : cs ≡ names (get_or rows n []) = e ∙ ap (λ k. names (row_of m table k)) (add-one n) in
      let more : links_from at names 0 (take n rows) ++ keeps_each (at n) cs ≡ links_from at names 0 (take (n + 1) rows) =
      ap (λ ds. links_from at names 0 (take n rows) ++ keeps_each (at n) ds) named
      ∙ ap (λ k. links_from at names 0 (take n rows) ++ keeps_each (at k) (names (get_or rows n []))) long
      ∙ sym (links_more at names 0 (take n rows) (get_or rows n []))
      ∙ ap (links_from at names 0) (sym (take_more rows n [] within)) in
      subst (λ ls. Adds ls a c) more (adds_after (links_from at names 0 (take n rows)) (keeps_each (at n) cs) a b c first second)

  pub rows_added : (n : ℕ) → row_count m table ≤ n → Adds (links_from at names 0 (take n (rows_of m table))) a b → Adds (links_from at names 0 (rows_of m table)) a b
  rows_added n past adds = subst (λ rows. Adds (links_from at names 0 rows) a b) (take_all n (rows_of m table) past) adds

-- ---- the rows of a table that pass a test, numbered among themselves

module _ (m : MetadataPart) (table : ℕ) (test : List ℕ → Bool) where
  abbrev pub passing : ℕ → List (List ℕ)
  passing n = filter test (take n (rows_of m table))

  next : (n : ℕ) → n < row_count m table → passing (n + 1) ≡ passing n ++ filter test (get_or (rows_of m table) n [] ∷ [])
  next n within = ap (filter test) (take_more (rows_of m table) n [] within) ∙ filter-append test (take n (rows_of m table)) (get_or (rows_of m table) n [] ∷ [])

  pub one_more : (n : ℕ) → n < row_count m table → test (get_or (rows_of m table) n []) ≡ true → passing (n + 1) ≡ passing n ++ get_or (rows_of m table) n [] ∷ []
  one_more n within passes = next n within ∙ ap (λ b. passing n ++ cond b (get_or (rows_of m table) n [] ∷ []) []) passes

  pub no_more : (n : ℕ) → n < row_count m table → test (get_or (rows_of m table) n []) ≡ false → passing (n + 1) ≡ passing n
  no_more n within fails = next n within ∙ ap (λ b. passing n ++ cond b (get_or (rows_of m table) n [] ∷ []) []) fails ∙ append-nil (passing n)

  pub counted_more : (n k : ℕ) → n < row_count m table → test (get_or (rows_of m table) n []) ≡ true → k ≡ length (passing n) → k + 1 ≡ length (passing (n + 1))
  counted_more n k within passes e =
      let more : length (passing (n + 1)) ≡ length (passing n) + 1 = ap length (one_more n within passes) ∙ length_push (passing n) (get_or (rows_of m table) n []) in
      omega (arith, more, e)

  module _ (at : ℕ → Row) (names : List ℕ → List Row) (a b : RowRules) where
    pub passing_added : (c : RowRules) (n k : ℕ) (cs : List Row) → n < row_count m table → test (get_or (rows_of m table) n []) ≡ true → k ≡ length (passing n) → Adds (links_from at names 0 (passing n)) a b → cs ≡ names (row_of m table (n + 1)) → Adds (keeps_each (at k) cs) b c → Adds (links_from at names 0 (passing (n + 1))) a c
    passing_added c n k cs within passes counted first e second =
        let x : List ℕ = get_or (rows_of m table) n [] in
        let long : k ≡ 0 + length (passing n) = omega (arith, counted) in
        let named : cs ≡ names x = e ∙ ap (λ j. names (row_of m table j)) (add-one n) in
        let more : links_from at names 0 (passing n) ++ keeps_each (at k) cs ≡ links_from at names 0 (passing (n + 1)) =
        ap (λ ds. links_from at names 0 (passing n) ++ keeps_each (at k) ds) named
        ∙ ap (λ j. links_from at names 0 (passing n) ++ keeps_each (at j) (names x)) long
        ∙ sym (links_more at names 0 (passing n) x)
        ∙ ap (links_from at names 0) (sym (one_more n within passes)) in
        subst (λ ls. Adds ls a c) more (adds_after (links_from at names 0 (passing n)) (keeps_each (at k) cs) a b c first second)

    pub none_passing : (n : ℕ) → n < row_count m table → test (get_or (rows_of m table) n []) ≡ false → Adds (links_from at names 0 (passing n)) a b → Adds (links_from at names 0 (passing (n + 1))) a b
    none_passing n within fails adds = subst (λ rows. Adds (links_from at names 0 rows) a b) (sym (no_more n within fails)) adds

    pub passed_all : (n : ℕ) → row_count m table ≤ n → Adds (links_from at names 0 (passing n)) a b → Adds (links_from at names 0 (filter test (rows_of m table))) a b
    passed_all n past adds = subst (λ rows. Adds (links_from at names 0 (filter test rows)) a b) (take_all n (rows_of m table) past) adds

-- ---- one rule of each row of a table

module _ (m : MetadataPart) (table : ℕ) (link : List ℕ → Link) (a b : RowRules) where
  pub link_added : (c : RowRules) (n : ℕ) (l : Link) → n < row_count m table → Adds (map link (take n (rows_of m table))) a b → l ≡ link (row_of m table (n + 1)) → Adds (l ∷ []) b c → Adds (map link (take (n + 1) (rows_of m table))) a c
  link_added c n l within first e second =
      let rows = rows_of m table in
      let made : l ≡ link (get_or rows n []) = e ∙ ap (λ k. link (row_of m table k)) (add-one n) in
      let more : map link (take n rows) ++ l ∷ [] ≡ map link (take (n + 1) rows) =
      ap (λ k. map link (take n rows) ++ k ∷ []) made
      ∙ sym (map-append link (take n rows) (get_or rows n [] ∷ []))
      ∙ ap (map link) (sym (take_more rows n [] within)) in
      subst (λ ls. Adds ls a c) more (adds_after (map link (take n rows)) (l ∷ []) a b c first second)

  pub all_linked : (n : ℕ) → row_count m table ≤ n → Adds (map link (take n (rows_of m table))) a b → Adds (map link (rows_of m table)) a b
  all_linked n past adds = subst (λ rows. Adds (map link rows) a b) (take_all n (rows_of m table) past) adds
