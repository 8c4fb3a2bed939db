-- Rows that are there have numbers, and rules between them are those of their links.
use Rattle.std.proofs.Common.{◌≡◌, ℕ, ◌<◌, Bool, true, false, List, length, Option, Some, None, refl, sym, ap, ◌∙◌, subst}
use Rattle.std.specs.Prelude.{nat_lt, if◌then◌else◌, slice_get}
use Rattle.std.specs.List.{filter_map}
use Rattle.std.specs.Option.{option_map}
use Rattle.std.proofs.lemmas.Bool.{ltb-true}
use Rattle.std.proofs.lemmas.Option.{slice_get_within}
use Rattle.machine.specs.Throw.{on_some}
use Rattle.row_closure.specs.declared.rule.Rule.{Rule}
use Rattle.row_closure.specs.Closure.{AreWithin}
use Rattle.assemblies.specs.Rows.{Assembly}
use Rattle.assemblies.proofs.Back.{get_there}
use Rattle.assemblies.proofs.Binds.{on_some_back, map_back}
use Rattle.kept_rules.specs.Row.{Row, AssemblyRefAt, TypeRefAt, FieldRefAt, MethodRefAt, TypeAt, FieldAt, MethodAt, SpecAt}
use Rattle.kept_numbers.specs.Numbers.{IsThere, all_rows, file_of, number_of}
use Rattle.kept_numbers.proofs.NumberLaws.{stands_at_number}
use Rattle.row_numbers.specs.declared.table.Table.{Table}
use Rattle.row_numbers.specs.declared.table.Table.TheVariants as table
use Rattle.row_numbers.specs.Tables.{row_in, table_length, found_number}
use Rattle.row_rules.specs.Links.{number_there, Link, rule_between}
use Rattle.root_marks.proofs.NameLaws.{from_filter_map}
use Rattle.root_marks.proofs.MarkLaws.{is_found}

module _ (ps : List Assembly) where
  -- ---- a row that is there

  found : (t : Table) (f n : ℕ) (p : Assembly) → slice_get ps f ≡ Some p → n < table_length p t → found_number ps t f n ≡ Some (number_of ps (row_in t f n))
  found t f n p at low = is_found ps t f n p at low

  pub number_is : (r : Row) → IsThere ps r → number_there ps r ≡ Some (number_of ps r)
  number_is (AssemblyRefAt f n) (p, (x, s)) = found table.AssemblyRef f n p s.0 (slice_get_within p.assemblies n x s.1)
  number_is (TypeRefAt f n) (p, (x, s)) = found table.TypeRef f n p s.0 (slice_get_within p.refs n x s.1)
  number_is (FieldRefAt f n) (p, (x, s)) = found table.FieldRef f n p s.0 (slice_get_within p.field_refs n x s.1)
  number_is (MethodRefAt f n) (p, (x, s)) = found table.MethodRef f n p s.0 (slice_get_within p.method_refs n x s.1)
  number_is (TypeAt f n) (p, (x, s)) = found table.TypeDef f n p s.0 (slice_get_within p.types n x s.1)
  number_is (FieldAt f n) (p, (x, s)) = found table.Field f n p s.0 (slice_get_within p.fields n x s.1)
  number_is (MethodAt f n) (p, (x, s)) = found table.MethodDef f n p s.0 (slice_get_within p.methods n x s.1)
  number_is (SpecAt f n) (p, (x, s)) = found table.TypeSpec f n p s.0 (slice_get_within p.specs n x s.1)

  of_table_row : (t : Table) (f n : ℕ) (p : Assembly) → slice_get ps f ≡ Some p → n < table_length p t → IsThere ps (row_in t f n)
  of_table_row table.AssemblyRef f n p at low = let x = get_there p.assemblies n low in (p, (x.0, (at, x.1)))
  of_table_row table.TypeRef f n p at low = let x = get_there p.refs n low in (p, (x.0, (at, x.1)))
  of_table_row table.FieldRef f n p at low = let x = get_there p.field_refs n low in (p, (x.0, (at, x.1)))
  of_table_row table.MethodRef f n p at low = let x = get_there p.method_refs n low in (p, (x.0, (at, x.1)))
  of_table_row table.TypeDef f n p at low = let x = get_there p.types n low in (p, (x.0, (at, x.1)))
  of_table_row table.Field f n p at low = let x = get_there p.fields n low in (p, (x.0, (at, x.1)))
  of_table_row table.MethodDef f n p at low = let x = get_there p.methods n low in (p, (x.0, (at, x.1)))
  of_table_row table.TypeSpec f n p at low = let x = get_there p.specs n low in (p, (x.0, (at, x.1)))

  there : (t : Table) (f n k : ℕ) → found_number ps t f n ≡ Some k → IsThere ps (row_in t f n)
  there t f n k e = go (slice_get ps f) refl e
    where
      of : (p : Assembly) → slice_get ps f ≡ Some p → (b : Bool) → nat_lt n (table_length p t) ≡ b → (if b then Some (number_of ps (row_in t f n)) else None) ≡ Some k → IsThere ps (row_in t f n)
      of p at true low h = of_table_row t f n p at (ltb-true n (table_length p t) low)
      of p at false low h = absurd (cc h)

      go : (o : Option Assembly) → slice_get ps f ≡ o → on_some o (λ (p : Assembly). if nat_lt n (table_length p t) then Some (number_of ps (row_in t f n)) else None) ≡ Some k → IsThere ps (row_in t f n)
      go None at h = absurd (cc h)
      go (Some p) at h = of p at (nat_lt n (table_length p t)) refl h

  pub is_row : (r : Row) (k : ℕ) → number_there ps r ≡ Some k → IsThere ps r
  is_row (AssemblyRefAt f n) k e = there table.AssemblyRef f n k e
  is_row (TypeRefAt f n) k e = there table.TypeRef f n k e
  is_row (FieldRefAt f n) k e = there table.FieldRef f n k e
  is_row (MethodRefAt f n) k e = there table.MethodRef f n k e
  is_row (TypeAt f n) k e = there table.TypeDef f n k e
  is_row (FieldAt f n) k e = there table.Field f n k e
  is_row (MethodAt f n) k e = there table.MethodDef f n k e
  is_row (SpecAt f n) k e = there table.TypeSpec f n k e

  number_same : (r : Row) (k : ℕ) → number_there ps r ≡ Some k → k ≡ number_of ps r
  number_same r k e = let both : Some k ≡ Some (number_of ps r) = sym e ∙ number_is r (is_row r k e) in cc both

  pub file_there : (r : Row) → IsThere ps r → (p : Assembly) × (slice_get ps (file_of r) ≡ Some p)
  file_there (AssemblyRefAt f n) w = (w.0, w.1.1.0)
  file_there (TypeRefAt f n) w = (w.0, w.1.1.0)
  file_there (FieldRefAt f n) w = (w.0, w.1.1.0)
  file_there (MethodRefAt f n) w = (w.0, w.1.1.0)
  file_there (TypeAt f n) w = (w.0, w.1.1.0)
  file_there (FieldAt f n) w = (w.0, w.1.1.0)
  file_there (MethodAt f n) w = (w.0, w.1.1.0)
  file_there (SpecAt f n) w = (w.0, w.1.1.0)

  -- ---- rules

  abbrev pub rule : ℕ → ℕ → ℕ → Rule
  rule a b c = record { first = a; second = b; then = c }

  abbrev pub numbered_rule : Link → Rule
  numbered_rule l = rule (number_of ps l.first) (number_of ps l.second) (number_of ps l.then)

  abbrev pub AllThere : Link → Type 0
  AllThere l = IsThere ps l.first × IsThere ps l.second × IsThere ps l.then

  pub rule_is : (l : Link) → AllThere l → rule_between ps l ≡ Some (numbered_rule l)
  rule_is l w =
      ap (λ o. on_some o (λ a. on_some (number_there ps l.second) (λ b. option_map (λ c. rule a b c) (number_there ps l.then)))) (number_is l.first w.0)
      ∙ ap (λ o. on_some o (λ b. option_map (λ c. rule (number_of ps l.first) b c) (number_there ps l.then))) (number_is l.second w.1)
      ∙ ap (option_map (λ c. rule (number_of ps l.first) (number_of ps l.second) c)) (number_is l.then w.2)

  pub is_rule : (l : Link) (x : Rule) → rule_between ps l ≡ Some x → AllThere l × (x ≡ numbered_rule l)
  is_rule l x e =
      let a = on_some_back (number_there ps l.first) (λ a. on_some (number_there ps l.second) (λ b. option_map (λ c. rule a b c) (number_there ps l.then))) x e in
      let b = on_some_back (number_there ps l.second) (λ b. option_map (λ c. rule a.0 b c) (number_there ps l.then)) x a.2 in
      let c = map_back (λ c. rule a.0 b.0 c) (number_there ps l.then) x b.2 in (
        (is_row l.first a.0 a.1, is_row l.second b.0 b.1, is_row l.then c.0 c.1),
        sym c.2
            ∙ ap (λ k. rule k b.0 c.0) (number_same l.first a.0 a.1)
            ∙ ap (λ k. rule (number_of ps l.first) k c.0) (number_same l.second b.0 b.1)
            ∙ ap (λ k. rule (number_of ps l.first) (number_of ps l.second) k) (number_same l.then c.0 c.1),
      )

  within : (r : Row) → IsThere ps r → number_of ps r < length (all_rows ps)
  within r w = slice_get_within (all_rows ps) (number_of ps r) r (stands_at_number ps r w)

  -- rules between rows name rows of all
  pub rules_within : (links : List Link) → AreWithin (length (all_rows ps)) (filter_map (rule_between ps) links)
  rules_within links k x e =
      let l = from_filter_map (rule_between ps) links x (k, e) in
      let w = is_rule l.0 x l.1.1 in
      subst (λ (y : Rule). (y.first < length (all_rows ps)) × (y.second < length (all_rows ps)) × (y.then < length (all_rows ps))) (sym w.1) (within l.0.first w.0.0, within l.0.second w.0.1, within l.0.then w.0.2)
