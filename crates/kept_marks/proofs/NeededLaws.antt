-- The rows that the closure of the rules marks are those that are needed.
use Rattle.std.proofs.Common.{◌≡◌, ℕ, zero, suc, ◌<◌, Bool, true, false, ◌&&◌, List, [], ◌∷◌, length, Option, Some, None, refl, sym, ap, ◌∙◌, subst, arith}
use Rattle.std.specs.Prelude.{nat_lt, if◌then◌else◌, slice_get}
use Rattle.std.specs.Cmp.{both_ways}
use Rattle.std.specs.Option.{option_map_or}
use Rattle.std.proofs.lemmas.Bool.{and_parts, ltb-true, lt-ltb}
use Rattle.std.proofs.lemmas.Option.{slice_get_within}
use Rattle.machine.specs.Throw.{on_some}
use Rattle.row_closure.specs.declared.rule.Rule.{Rule}
use Rattle.row_closure.specs.Closure.{holds, IsClosed, IsWithin, IsClosure}
use Rattle.assemblies.specs.Rows.{Assembly}
use Rattle.assemblies.specs.Chosen.{Choice}
use Rattle.kept_closure.specs.Kept.{HasAll, IsNeeded}
use Rattle.kept_rules.specs.Row.{Row, AssemblyRefAt, TypeRefAt, FieldRefAt, MethodRefAt, TypeAt, FieldAt, MethodAt, SpecAt, marks}
use Rattle.kept_rules.specs.Rules.{root_row, first_row, then_row, MembersStand}
use Rattle.kept_rules.proofs.LeastLaws.{and_both, rooted, spans, stands}
use Rattle.kept_numbers.specs.Numbers.{IsThere, all_rows, number_of}
use Rattle.kept_numbers.specs.Made.{AreMade}
use Rattle.kept_numbers.proofs.NumberLaws.{stands_at_number}
use Rattle.kept_numbers.proofs.NeededLaws.{closure_is_needed}
use Rattle.row_numbers.specs.declared.table.Table.{Table}
use Rattle.row_numbers.specs.declared.table.Table.TheVariants as table
use Rattle.row_numbers.specs.Tables.{row_in, table_length}
use Rattle.kept_marks.specs.Kept.{is_kept}

-- ---- rows that are there

an_element : {A : Type 0} (xs : List A) (n : ℕ) → n < length xs → (x : A) × (slice_get xs n ≡ Some x)
an_element [] n lt = absurd (omega (arith, lt))
an_element (x ∷ xs) zero lt = (x, refl)
an_element (x ∷ xs) (suc n) lt = an_element xs n (omega (arith, lt))

module _ (ps : List Assembly) (f n : ℕ) where
  is_there : (t : Table) (p : Assembly) → slice_get ps f ≡ Some p → n < table_length p t → IsThere ps (row_in t f n)
  is_there table.AssemblyRef p at lt = let x = an_element p.assemblies n lt in (p, (x.0, (at, x.1)))
  is_there table.TypeRef p at lt = let x = an_element p.refs n lt in (p, (x.0, (at, x.1)))
  is_there table.FieldRef p at lt = let x = an_element p.field_refs n lt in (p, (x.0, (at, x.1)))
  is_there table.MethodRef p at lt = let x = an_element p.method_refs n lt in (p, (x.0, (at, x.1)))
  is_there table.TypeDef p at lt = let x = an_element p.types n lt in (p, (x.0, (at, x.1)))
  is_there table.Field p at lt = let x = an_element p.fields n lt in (p, (x.0, (at, x.1)))
  is_there table.MethodDef p at lt = let x = an_element p.methods n lt in (p, (x.0, (at, x.1)))
  is_there table.TypeSpec p at lt = let x = an_element p.specs n lt in (p, (x.0, (at, x.1)))

  is_below : (t : Table) → IsThere ps (row_in t f n) → (p : Assembly) × (slice_get ps f ≡ Some p) × (n < table_length p t)
  is_below table.AssemblyRef w = (w.0, w.1.1.0, slice_get_within w.0.assemblies n w.1.0 w.1.1.1)
  is_below table.TypeRef w = (w.0, w.1.1.0, slice_get_within w.0.refs n w.1.0 w.1.1.1)
  is_below table.FieldRef w = (w.0, w.1.1.0, slice_get_within w.0.field_refs n w.1.0 w.1.1.1)
  is_below table.MethodRef w = (w.0, w.1.1.0, slice_get_within w.0.method_refs n w.1.0 w.1.1.1)
  is_below table.TypeDef w = (w.0, w.1.1.0, slice_get_within w.0.types n w.1.0 w.1.1.1)
  is_below table.Field w = (w.0, w.1.1.0, slice_get_within w.0.fields n w.1.0 w.1.1.1)
  is_below table.MethodDef w = (w.0, w.1.1.0, slice_get_within w.0.methods n w.1.0 w.1.1.1)
  is_below table.TypeSpec w = (w.0, w.1.1.0, slice_get_within w.0.specs n w.1.0 w.1.1.1)

  module _ (bits : List Bool) (t : Table) where
    -- a row that is kept is there and is marked
    there_and_marked : is_kept ps bits t f n ≡ true → IsThere ps (row_in t f n) × (holds bits (number_of ps (row_in t f n)) ≡ true)
    there_and_marked e = by (slice_get ps f) refl e
      where
        of : (p : Assembly) → slice_get ps f ≡ Some p → (b : Bool) → nat_lt n (table_length p t) ≡ b → option_map_or (λ k. holds bits k) (if b then Some (number_of ps (row_in t f n)) else None) false ≡ true → IsThere ps (row_in t f n) × (holds bits (number_of ps (row_in t f n)) ≡ true)
        of p at false lt e = absurd (cc e)
        of p at true lt e = (is_there t p at (ltb-true n (table_length p t) lt), e)

        by : (o : Option Assembly) → slice_get ps f ≡ o → option_map_or (λ k. holds bits k) (on_some o (λ (p : Assembly). if nat_lt n (table_length p t) then Some (number_of ps (row_in t f n)) else None)) false ≡ true → IsThere ps (row_in t f n) × (holds bits (number_of ps (row_in t f n)) ≡ true)
        by None at e = absurd (cc e)
        by (Some p) at e = of p at (nat_lt n (table_length p t)) refl e

    -- and one that is there is kept where it is marked
    kept_is : IsThere ps (row_in t f n) → is_kept ps bits t f n ≡ holds bits (number_of ps (row_in t f n))
    kept_is w =
        let v = is_below t w in
        ap (λ o. option_map_or (λ k. holds bits k) (on_some o (λ (p : Assembly). if nat_lt n (table_length p t) then Some (number_of ps (row_in t f n)) else None)) false) v.1
        ∙ ap (λ (b : Bool). option_map_or (λ k. holds bits k) (if b then Some (number_of ps (row_in t f n)) else None) false) (lt-ltb n (table_length v.0 t) v.2)

module _ (size : ℕ) (ps : List Assembly) (base keep : ℕ → Choice) (rules : List Rule) (roots : ℕ → Bool) (bits : List Bool) (has : HasAll ps base) (stand : MembersStand size ps base) (made : AreMade size ps base roots rules) (closes : IsClosure rules roots (holds bits)) (is : (t : Table) (f n : ℕ) → marks keep (row_in t f n) ≡ is_kept ps bits t f n) where
  abbrev by_base : ℕ → Bool
  by_base k = option_map_or (marks base) (slice_get (all_rows ps) k) false

  same : (r : Row) → marks base r ≡ true → by_base (number_of ps r) ≡ true
  same r b = ap (λ o. option_map_or (marks base) o false) (stands_at_number ps r (made.there r b)) ∙ b

  roots_there : IsWithin roots by_base
  roots_there n e = let root = made.is_root n e in ap by_base root.1 ∙ same (root_row size ps root.0) (rooted size ps base has stand.entry root.0)

  rules_there : IsClosed rules by_base
  rules_there k x e f s =
      let rule = made.is_rule k x e in
      let first : marks base (first_row size ps rule.0) ≡ true =
      sym (ap (λ o. option_map_or (marks base) o false) (stands_at_number ps (first_row size ps rule.0) rule.1.0)) ∙ ap (λ (y : Rule). by_base y.first) (sym rule.2) ∙ f in
      subst (λ (y : Rule). by_base y.then ≡ true) (sym rule.2) (same (then_row size ps rule.0) (spans size ps base has rule.0 (stands size ps base has stand rule.0 first) first))

  -- a marked row may be kept
  in_base : (r : Row) → IsThere ps r → holds bits (number_of ps r) ≡ true → marks base r ≡ true
  in_base r w h = sym (ap (λ o. option_map_or (marks base) o false) (stands_at_number ps r w)) ∙ closes.least by_base roots_there rules_there (number_of ps r) h

  shared : (t : Table) (f n : ℕ) → marks keep (row_in t f n) ≡ (marks base (row_in t f n) && holds bits (number_of ps (row_in t f n)))
  shared t f n =
      both_ways (marks keep (row_in t f n)) (marks base (row_in t f n) && holds bits (number_of ps (row_in t f n)))
      (λ k. let w = there_and_marked ps f n bits t (sym (is t f n) ∙ k) in and_both (marks base (row_in t f n)) (holds bits (number_of ps (row_in t f n))) (in_base (row_in t f n) w.0 w.1) w.1)
      (λ k. let w = and_parts (marks base (row_in t f n)) (holds bits (number_of ps (row_in t f n))) k in is t f n ∙ kept_is ps f n bits t (made.there (row_in t f n) w.0) ∙ w.1)

  each_row : (r : Row) → marks keep r ≡ (marks base r && holds bits (number_of ps r))
  each_row (AssemblyRefAt f n) = shared table.AssemblyRef f n
  each_row (TypeRefAt f n) = shared table.TypeRef f n
  each_row (FieldRefAt f n) = shared table.FieldRef f n
  each_row (MethodRefAt f n) = shared table.MethodRef f n
  each_row (TypeAt f n) = shared table.TypeDef f n
  each_row (FieldAt f n) = shared table.Field f n
  each_row (MethodAt f n) = shared table.MethodDef f n
  each_row (SpecAt f n) = shared table.TypeSpec f n

  pub marked_are_needed : IsNeeded size ps keep
  marked_are_needed = closure_is_needed size ps base keep rules roots (holds bits) has stand made closes each_row
