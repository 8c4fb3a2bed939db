-- A row stands at its number.
use Rattle.std.proofs.Common.{◌≡◌, ℕ, zero, suc, ◌+◌, List, [], ◌∷◌, ◌++◌, length, length-append, Some, refl, sym, ap, ◌∙◌, subst, arith}
use Rattle.std.specs.Prelude.{slice_get, unwrap_or}
use Rattle.std.specs.Option.{option_map}
use Rattle.assemblies.specs.Rows.{RawType, AssemblyRow, TypeRefRow, FieldRefRow, MethodRefRow, TypeRow, FieldRow, MethodRow, Assembly}
use Rattle.assemblies.specs.Binding.{numbered}
use Rattle.assemblies.proofs.Numbered.{get_numbered}
use Rattle.row_closure.proofs.Places.{get_front}
use Rattle.kept_closure.specs.Named.{Stands}
use Rattle.kept_rules.specs.Row.{Row, AssemblyRefAt, TypeRefAt, FieldRefAt, MethodRefAt, TypeAt, FieldAt, MethodAt, SpecAt}
use Rattle.kept_numbers.specs.Numbers.{IsThere, laid, rows_in, rows_from, all_rows, file_of, place_in, row_count, start_of, number_of}

-- ---- lists

as_many : {A B : Type 0} (make : ℕ → A → B) (n : ℕ) (xs : List A) → length (numbered make n xs) ≡ length xs
as_many make n [] = refl
as_many make n (x ∷ xs) = ap suc (as_many make (suc n) xs)

-- in the list behind another one
behind : {A : Type 0} (xs ys : List A) (count i : ℕ) (z : A) → length xs ≡ count → slice_get ys i ≡ Some z → slice_get (xs ++ ys) (count + i) ≡ Some z
behind [] ys count i z size e = let same : count + i ≡ i = omega (arith, size) in ap (slice_get ys) same ∙ e
behind (x ∷ xs) ys zero i z size e = absurd (omega (arith, size))
behind (x ∷ xs) ys (suc count) i z size e =
    let same : suc count + i ≡ suc (count + i) = omega arith in
    let less : length xs ≡ count = omega (arith, size) in
    ap (slice_get (x ∷ (xs ++ ys))) same ∙ behind xs ys count i z less e

-- ---- a table

many : {A : Type 0} (at : ℕ → Row) (xs : List A) → length (laid at xs) ≡ length xs
many at xs = as_many (λ n x. at n) 0 xs

in_table : {A : Type 0} (at : ℕ → Row) (xs : List A) (n : ℕ) (x : A) → slice_get xs n ≡ Some x → slice_get (laid at xs) n ≡ Some (at n)
in_table {A} at xs n x e =
    let same : 0 + n ≡ n = omega arith in
    get_numbered (λ k (y : A). at k) 0 n xs ∙ ap (option_map (λ (y : A). at (0 + n))) e ∙ ap (λ k. Some (at k)) same

-- ---- an assembly

module _ (f : ℕ) (p : Assembly) where
  abbrev from_specs : List Row
  from_specs = laid (SpecAt f) p.specs

  abbrev from_methods : List Row
  from_methods = laid (MethodAt f) p.methods ++ from_specs

  abbrev from_fields : List Row
  from_fields = laid (FieldAt f) p.fields ++ from_methods

  abbrev from_types : List Row
  from_types = laid (TypeAt f) p.types ++ from_fields

  abbrev from_method_refs : List Row
  from_method_refs = laid (MethodRefAt f) p.method_refs ++ from_types

  abbrev from_field_refs : List Row
  from_field_refs = laid (FieldRefAt f) p.field_refs ++ from_method_refs

  abbrev from_refs : List Row
  from_refs = laid (TypeRefAt f) p.refs ++ from_field_refs

  counted : length (rows_in f p) ≡ row_count p
  counted =
      let specs_many = many (SpecAt f) p.specs in
      let methods_many = many (MethodAt f) p.methods in
      let methods_sum = length-append (laid (MethodAt f) p.methods) from_specs in
      let fields_many = many (FieldAt f) p.fields in
      let fields_sum = length-append (laid (FieldAt f) p.fields) from_methods in
      let types_many = many (TypeAt f) p.types in
      let types_sum = length-append (laid (TypeAt f) p.types) from_fields in
      let method_refs_many = many (MethodRefAt f) p.method_refs in
      let method_refs_sum = length-append (laid (MethodRefAt f) p.method_refs) from_types in
      let field_refs_many = many (FieldRefAt f) p.field_refs in
      let field_refs_sum = length-append (laid (FieldRefAt f) p.field_refs) from_method_refs in
      let refs_many = many (TypeRefAt f) p.refs in
      let refs_sum = length-append (laid (TypeRefAt f) p.refs) from_field_refs in
      let assemblies_many = many (AssemblyRefAt f) p.assemblies in
      let assemblies_sum = length-append (laid (AssemblyRefAt f) p.assemblies) from_refs in
      omega (arith, assemblies_many, refs_many, field_refs_many, method_refs_many, types_many, fields_many, methods_many, specs_many, assemblies_sum, refs_sum, field_refs_sum, method_refs_sum, types_sum, fields_sum, methods_sum)

  module _ (r : Row) where
    past_assemblies : (i : ℕ) → slice_get from_refs i ≡ Some r → slice_get (rows_in f p) (length p.assemblies + i) ≡ Some r
    past_assemblies i e = behind (laid (AssemblyRefAt f) p.assemblies) from_refs (length p.assemblies) i r (many (AssemblyRefAt f) p.assemblies) e

    past_refs : (i : ℕ) → slice_get from_field_refs i ≡ Some r → slice_get (from_refs) (length p.refs + i) ≡ Some r
    past_refs i e = behind (laid (TypeRefAt f) p.refs) from_field_refs (length p.refs) i r (many (TypeRefAt f) p.refs) e

    past_field_refs : (i : ℕ) → slice_get from_method_refs i ≡ Some r → slice_get (from_field_refs) (length p.field_refs + i) ≡ Some r
    past_field_refs i e = behind (laid (FieldRefAt f) p.field_refs) from_method_refs (length p.field_refs) i r (many (FieldRefAt f) p.field_refs) e

    past_method_refs : (i : ℕ) → slice_get from_types i ≡ Some r → slice_get (from_method_refs) (length p.method_refs + i) ≡ Some r
    past_method_refs i e = behind (laid (MethodRefAt f) p.method_refs) from_types (length p.method_refs) i r (many (MethodRefAt f) p.method_refs) e

    past_types : (i : ℕ) → slice_get from_fields i ≡ Some r → slice_get (from_types) (length p.types + i) ≡ Some r
    past_types i e = behind (laid (TypeAt f) p.types) from_fields (length p.types) i r (many (TypeAt f) p.types) e

    past_fields : (i : ℕ) → slice_get from_methods i ≡ Some r → slice_get (from_fields) (length p.fields + i) ≡ Some r
    past_fields i e = behind (laid (FieldAt f) p.fields) from_methods (length p.fields) i r (many (FieldAt f) p.fields) e

    past_methods : (i : ℕ) → slice_get from_specs i ≡ Some r → slice_get (from_methods) (length p.methods + i) ≡ Some r
    past_methods i e = behind (laid (MethodAt f) p.methods) from_specs (length p.methods) i r (many (MethodAt f) p.methods) e

  in_assemblies : (ps : List Assembly) (n : ℕ) (x : AssemblyRow) → Stands ps (λ q. q.assemblies) f n p x → slice_get (rows_in f p) (place_in p (AssemblyRefAt f n)) ≡ Some (AssemblyRefAt f n)
  in_assemblies ps n x s = get_front (laid (AssemblyRefAt f) p.assemblies) from_refs n (AssemblyRefAt f n) (in_table (AssemblyRefAt f) p.assemblies n x s.1)

  in_refs : (ps : List Assembly) (n : ℕ) (x : TypeRefRow) → Stands ps (λ q. q.refs) f n p x → slice_get (rows_in f p) (place_in p (TypeRefAt f n)) ≡ Some (TypeRefAt f n)
  in_refs ps n x s = past_assemblies (TypeRefAt f n) n (get_front (laid (TypeRefAt f) p.refs) from_field_refs n (TypeRefAt f n) (in_table (TypeRefAt f) p.refs n x s.1))

  in_field_refs : (ps : List Assembly) (n : ℕ) (x : FieldRefRow) → Stands ps (λ q. q.field_refs) f n p x → slice_get (rows_in f p) (place_in p (FieldRefAt f n)) ≡ Some (FieldRefAt f n)
  in_field_refs ps n x s = past_assemblies (FieldRefAt f n) (length p.refs + n) (past_refs (FieldRefAt f n) n (get_front (laid (FieldRefAt f) p.field_refs) from_method_refs n (FieldRefAt f n) (in_table (FieldRefAt f) p.field_refs n x s.1)))

  in_method_refs : (ps : List Assembly) (n : ℕ) (x : MethodRefRow) → Stands ps (λ q. q.method_refs) f n p x → slice_get (rows_in f p) (place_in p (MethodRefAt f n)) ≡ Some (MethodRefAt f n)
  in_method_refs ps n x s = past_assemblies (MethodRefAt f n) (length p.refs + (length p.field_refs + n)) (past_refs (MethodRefAt f n) (length p.field_refs + n) (past_field_refs (MethodRefAt f n) n (get_front (laid (MethodRefAt f) p.method_refs) from_types n (MethodRefAt f n) (in_table (MethodRefAt f) p.method_refs n x s.1))))

  in_types : (ps : List Assembly) (n : ℕ) (x : TypeRow) → Stands ps (λ q. q.types) f n p x → slice_get (rows_in f p) (place_in p (TypeAt f n)) ≡ Some (TypeAt f n)
  in_types ps n x s = past_assemblies (TypeAt f n) (length p.refs + (length p.field_refs + (length p.method_refs + n))) (past_refs (TypeAt f n) (length p.field_refs + (length p.method_refs + n)) (past_field_refs (TypeAt f n) (length p.method_refs + n) (past_method_refs (TypeAt f n) n (get_front (laid (TypeAt f) p.types) from_fields n (TypeAt f n) (in_table (TypeAt f) p.types n x s.1)))))

  in_fields : (ps : List Assembly) (n : ℕ) (x : FieldRow) → Stands ps (λ q. q.fields) f n p x → slice_get (rows_in f p) (place_in p (FieldAt f n)) ≡ Some (FieldAt f n)
  in_fields ps n x s = past_assemblies (FieldAt f n) (length p.refs + (length p.field_refs + (length p.method_refs + (length p.types + n)))) (past_refs (FieldAt f n) (length p.field_refs + (length p.method_refs + (length p.types + n))) (past_field_refs (FieldAt f n) (length p.method_refs + (length p.types + n)) (past_method_refs (FieldAt f n) (length p.types + n) (past_types (FieldAt f n) n (get_front (laid (FieldAt f) p.fields) from_methods n (FieldAt f n) (in_table (FieldAt f) p.fields n x s.1))))))

  in_methods : (ps : List Assembly) (n : ℕ) (x : MethodRow) → Stands ps (λ q. q.methods) f n p x → slice_get (rows_in f p) (place_in p (MethodAt f n)) ≡ Some (MethodAt f n)
  in_methods ps n x s = past_assemblies (MethodAt f n) (length p.refs + (length p.field_refs + (length p.method_refs + (length p.types + (length p.fields + n))))) (past_refs (MethodAt f n) (length p.field_refs + (length p.method_refs + (length p.types + (length p.fields + n)))) (past_field_refs (MethodAt f n) (length p.method_refs + (length p.types + (length p.fields + n))) (past_method_refs (MethodAt f n) (length p.types + (length p.fields + n)) (past_types (MethodAt f n) (length p.fields + n) (past_fields (MethodAt f n) n (get_front (laid (MethodAt f) p.methods) from_specs n (MethodAt f n) (in_table (MethodAt f) p.methods n x s.1)))))))

  in_specs : (ps : List Assembly) (n : ℕ) (x : RawType) → Stands ps (λ q. q.specs) f n p x → slice_get (rows_in f p) (place_in p (SpecAt f n)) ≡ Some (SpecAt f n)
  in_specs ps n x s = past_assemblies (SpecAt f n) (length p.refs + (length p.field_refs + (length p.method_refs + (length p.types + (length p.fields + (length p.methods + n)))))) (past_refs (SpecAt f n) (length p.field_refs + (length p.method_refs + (length p.types + (length p.fields + (length p.methods + n))))) (past_field_refs (SpecAt f n) (length p.method_refs + (length p.types + (length p.fields + (length p.methods + n)))) (past_method_refs (SpecAt f n) (length p.types + (length p.fields + (length p.methods + n))) (past_types (SpecAt f n) (length p.fields + (length p.methods + n)) (past_fields (SpecAt f n) (length p.methods + n) (past_methods (SpecAt f n) n (in_table (SpecAt f) p.specs n x s.1)))))))

-- ---- a set

from_at : (ps : List Assembly) (from f i : ℕ) (p : Assembly) (r : Row) → slice_get ps f ≡ Some p → slice_get (rows_in (from + f) p) i ≡ Some r → slice_get (rows_from from ps) (start_of ps f + i) ≡ Some r
from_at [] from f i p r at e = absurd (cc at)
from_at (q ∷ ps) from zero i p r at e =
    let same : from + 0 ≡ from = omega arith in
    let first : 0 + i ≡ i = omega arith in
    let here : q ≡ p = cc at in
    ap (slice_get (rows_in from q ++ rows_from (suc from) ps)) first
    ∙ get_front (rows_in from q) (rows_from (suc from) ps) i r (subst (λ (x : Assembly). slice_get (rows_in from x) i ≡ Some r) (sym here) (subst (λ g. slice_get (rows_in g p) i ≡ Some r) same e))
from_at (q ∷ ps) from (suc f) i p r at e =
    let same : from + suc f ≡ suc from + f = omega arith in
    let sums : row_count q + start_of ps f + i ≡ row_count q + (start_of ps f + i) = omega arith in
    ap (slice_get (rows_in from q ++ rows_from (suc from) ps)) sums
    ∙ behind (rows_in from q) (rows_from (suc from) ps) (row_count q) (start_of ps f + i) r (counted from q) (from_at ps (suc from) f i p r at (subst (λ g. slice_get (rows_in g p) i ≡ Some r) same e))

at_place : (ps : List Assembly) (r : Row) (p : Assembly) → slice_get ps (file_of r) ≡ Some p → slice_get (rows_in (file_of r) p) (place_in p r) ≡ Some r → slice_get (all_rows ps) (number_of ps r) ≡ Some r
at_place ps r p at e =
    let same : 0 + file_of r ≡ file_of r = omega arith in
    ap (λ o. slice_get (all_rows ps) (start_of ps (file_of r) + unwrap_or (option_map (λ (q : Assembly). place_in q r) o) 0)) at
    ∙ from_at ps 0 (file_of r) (place_in p r) p r at (subst (λ g. slice_get (rows_in g p) (place_in p r) ≡ Some r) (sym same) e)

pub stands_at_number : (ps : List Assembly) (r : Row) → IsThere ps r → slice_get (all_rows ps) (number_of ps r) ≡ Some r
stands_at_number ps (AssemblyRefAt f n) w = at_place ps (AssemblyRefAt f n) w.0 w.1.1.0 (in_assemblies f w.0 ps n w.1.0 w.1.1)
stands_at_number ps (TypeRefAt f n) w = at_place ps (TypeRefAt f n) w.0 w.1.1.0 (in_refs f w.0 ps n w.1.0 w.1.1)
stands_at_number ps (FieldRefAt f n) w = at_place ps (FieldRefAt f n) w.0 w.1.1.0 (in_field_refs f w.0 ps n w.1.0 w.1.1)
stands_at_number ps (MethodRefAt f n) w = at_place ps (MethodRefAt f n) w.0 w.1.1.0 (in_method_refs f w.0 ps n w.1.0 w.1.1)
stands_at_number ps (TypeAt f n) w = at_place ps (TypeAt f n) w.0 w.1.1.0 (in_types f w.0 ps n w.1.0 w.1.1)
stands_at_number ps (FieldAt f n) w = at_place ps (FieldAt f n) w.0 w.1.1.0 (in_fields f w.0 ps n w.1.0 w.1.1)
stands_at_number ps (MethodAt f n) w = at_place ps (MethodAt f n) w.0 w.1.1.0 (in_methods f w.0 ps n w.1.0 w.1.1)
stands_at_number ps (SpecAt f n) w = at_place ps (SpecAt f n) w.0 w.1.1.0 (in_specs f w.0 ps n w.1.0 w.1.1)
