-- Which types stand behind one of their names.
use Rattle.std.proofs.Common.{◌≡◌, ◌∙◌, ℕ, suc, ◌+◌, ◌<◌, Bool, false, List, [], map, Option, Some, None, refl, sym, ap}
use Rattle.std.specs.Prelude.{slice_get, unwrap_or, ◌&&◌}
use Rattle.std.specs.List.{position}
use Rattle.std.specs.Option.{option_map, option_cmp}
use Rattle.std.specs.Ordering.{nat_cmp, eq_by_cmp, is_eq, ordering_then}
use Rattle.std.specs.declared.cmp.Ordering.{Ordering}
use Rattle.std.specs.declared.cmp.Ordering.TheVariants.{Less, Equal, Greater}
use Rattle.std.specs.Cmp.{unsigned_tied}
use Rattle.std.specs.Cmp.Lexicographic.{slice_cmp}
use Rattle.std.proofs.lemmas.Option.{slice_get-get_or, slice_get-map}
use Rattle.file_tables.specs.Metadata.{MetadataPart, rows_of, row_of, row_count}
use Rattle.classes.specs.Classes.{Reference}
use Rattle.alike.proofs.Lists.{position_map}
use Rattle.assemblies.specs.Binding.{numbered, same_row}
use Rattle.assemblies.proofs.Numbered.{get_numbered}
use Rattle.world_rows.specs.Tokens.{type_defs}
use Rattle.world_rows.specs.Rows.{type_row}
use Rattle.type_names.specs.declared.keys.NameKey.{NameKey}
use Rattle.type_names.specs.Names.{same_name, type_name, type_name_at, type_order, type_seen}
use Rattle.type_names.proofs.KeyLaws.{text_equal}
use Rattle.repeated_keys.specs.Repeats.{AreRepeats}
use Rattle.type_tests.specs.Columns.{first_of_name, precedes}
use Rattle.type_tests.proofs.ListLaws.{any_before}
use Rattle.type_tests.proofs.TypeLaws.{from_none, names_are}

then_equal : (a b : Ordering) → is_eq (ordering_then a b) ≡ (is_eq a && is_eq b)
then_equal Less b = refl
then_equal Equal b = refl
then_equal Greater b = refl

row_equal : (a b : Option ℕ) → is_eq (option_cmp nat_cmp a b) ≡ same_row a b
row_equal None None = refl
row_equal None (Some b) = refl
row_equal (Some a) None = refl
row_equal (Some a) (Some b) = unsigned_tied a b

both : (a a' b b' : Bool) → a ≡ a' → b ≡ b' → (a && b) ≡ (a' && b')
both a a' b b' e f = ap (λ c. c && b) e ∙ ap (λ c. a' && c) f

type_equal : (a b : NameKey) → eq_by_cmp type_order a b ≡ same_name (type_seen a) (type_seen b)
type_equal a b =
    then_equal (option_cmp nat_cmp a.enclosing b.enclosing) (ordering_then (slice_cmp nat_cmp a.namespace.now b.namespace.now) (slice_cmp nat_cmp a.name.now b.name.now))
    ∙ both _ _ _ _ (row_equal a.enclosing b.enclosing)
    (then_equal (slice_cmp nat_cmp a.namespace.now b.namespace.now) (slice_cmp nat_cmp a.name.now b.name.now)
    ∙ both _ _ _ _ (text_equal a.namespace.now b.namespace.now) (text_equal a.name.now b.name.now))

module _ (m : MetadataPart) (keys : List NameKey) (named : map type_seen keys ≡ numbered (type_name_at m) 0 (rows_of m type_defs)) where
  first_key : (key : NameKey) → position (eq_by_cmp type_order key) keys ≡ first_of_name m (type_seen key)
  first_key key =
      sym (position_map type_seen (same_name (type_seen key)) (eq_by_cmp type_order key) keys (λ k. sym (type_equal key k)))
      ∙ ap (position (same_name (type_seen key))) (named ∙ sym (names_are m (λ n. Reference) 0 (rows_of m type_defs)))
      ∙ position_map type_name (same_name (type_seen key)) (λ t. same_name (type_seen key) (type_name t)) (numbered (type_row m (λ n. Reference)) 0 (rows_of m type_defs)) (λ t. refl)

  name_at : (n : ℕ) → n < row_count m type_defs → option_map type_seen (slice_get keys n) ≡ Some (type_name_at m n (row_of m type_defs (suc n)))
  name_at n within =
      sym (slice_get-map type_seen keys n)
      ∙ ap (λ names. slice_get names n) named
      ∙ get_numbered (type_name_at m) 0 n (rows_of m type_defs)
      ∙ ap (option_map (type_name_at m (0 + n))) (slice_get-get_or (rows_of m type_defs) n [] within)
      ∙ ap (λ k. Some (type_name_at m k (row_of m type_defs (suc n)))) (from_none n)

  pub repeats_told : (repeats : List Bool) → AreRepeats type_order keys repeats → (n : ℕ) → n < row_count m type_defs → unwrap_or (slice_get repeats n) false ≡ precedes n (first_of_name m (type_name_at m n (row_of m type_defs (suc n))))
  repeats_told repeats told n within = go (slice_get keys n) refl (name_at n within)
    where
      go : (o : Option NameKey) → slice_get keys n ≡ o → option_map type_seen o ≡ Some (type_name_at m n (row_of m type_defs (suc n))) → unwrap_or (slice_get repeats n) false ≡ precedes n (first_of_name m (type_name_at m n (row_of m type_defs (suc n))))
      go None at e = absurd (cc e)
      go (Some key) at e =
          let same : type_seen key ≡ type_name_at m n (row_of m type_defs (suc n)) = cc e in
          ap (λ o. unwrap_or o false) (told n key at)
          ∙ any_before (eq_by_cmp type_order key) keys n
          ∙ ap (precedes n) (first_key key)
          ∙ ap (λ t. precedes n (first_of_name m t)) same
