-- The types that have the members of an image.
use Rattle.std.proofs.Common.{◌≡◌, ℕ, ◌<◌, ◌≤◌, ◌⊎◌, inl, inr, List, map, length, Option, Some, None, refl, sym, ap, ◌∙◌, arith}
use Rattle.std.specs.Prelude.{slice_get}
use Rattle.std.specs.List.{position}
use Rattle.std.specs.Option.{option_map}
use Rattle.std.proofs.lemmas.Bool.{cases_lt}
use Rattle.std.proofs.lemmas.Option.{slice_get-map, slice_get_past}
use Rattle.alike.proofs.Lists.{position_map}
use Rattle.machine.specs.Throw.{on_some}
use Rattle.assemblies.specs.Rows.{Assembly, TypeRow}
use Rattle.assemblies.specs.Binding.{id_at, holds, owner_of, field_owner, method_owner}
use Rattle.assemblies.proofs.Back.{get_there}
use Rattle.class_table.specs.declared.rows.ClassRow.{ClassRow}
use Rattle.class_table.specs.Outlines.{Outline, outline_seen}
use Rattle.row_owners.specs.declared.find.Span.{Span}
use Rattle.row_owners.specs.Owners.{has_row, first_span}
use Rattle.set_names.specs.Names.{seen_all}
use Rattle.tiny_rows.specs.Rows.{rows_seen}
use Rattle.set_table.specs.declared.subject.Subject.{Subject}
use Rattle.set_table.specs.Subject.{IsSubject, outline_in, field_span, method_span}

module _ (s : Subject) (is : IsSubject s) {A : Type 0} (part : Assembly → List A) (first count : TypeRow → ℕ) (span : Outline → Span) (own : ClassRow → Span) where
  -- where the rows of the table say of the types what the assembly does
  spans_own : (classes : List ClassRow) (n : ℕ) → map outline_seen classes ≡ map (outline_in s) (rows_seen s.image.now).types → ((c : ClassRow) → has_row n (own c) ≡ has_row n (span (outline_seen c))) → ((t : TypeRow) → has_row n (span (outline_in s t)) ≡ holds (first t) (count t) n) → n < length (part (rows_seen s.image.now)) → owner_of part first count (seen_all s.names.now) (id_at s.tokens.file n) ≡ option_map (id_at s.tokens.file) (first_span (map own classes) n)
  spans_own classes n read same meant within =
      let p = rows_seen s.image.now in
      ap (λ o. on_some o (λ (q : Assembly). on_some (slice_get (part q) n) (λ x. option_map (id_at s.tokens.file) (position (λ t. holds (first t) (count t) n) q.types)))) is.here
      ∙ ap (λ o. on_some o (λ x. option_map (id_at s.tokens.file) (position (λ t. holds (first t) (count t) n) p.types))) (get_there (part p) n within).1
      ∙ ap (option_map (id_at s.tokens.file))
      (sym (position_map (outline_in s) (λ o. has_row n (span o)) (λ t. holds (first t) (count t) n) p.types meant)
      ∙ ap (position (λ o. has_row n (span o))) (sym read)
      ∙ position_map outline_seen (λ o. has_row n (span o)) (λ c. has_row n (own c)) classes (λ c. sym (same c))
      ∙ sym (position_map own (has_row n) (λ c. has_row n (own c)) classes (λ c. refl)))

  none_owns : (n : ℕ) → length (part (rows_seen s.image.now)) ≤ n → owner_of part first count (seen_all s.names.now) (id_at s.tokens.file n) ≡ None
  none_owns n past =
      let p = rows_seen s.image.now in
      ap (λ o. on_some o (λ (q : Assembly). on_some (slice_get (part q) n) (λ x. option_map (id_at s.tokens.file) (position (λ t. holds (first t) (count t) n) q.types)))) is.here
      ∙ ap (λ o. on_some o (λ x. option_map (id_at s.tokens.file) (position (λ t. holds (first t) (count t) n) p.types))) (slice_get_past (part p) n past)

  owned : (classes : List ClassRow) (owners : List (Option ℕ)) → map outline_seen classes ≡ map (outline_in s) (rows_seen s.image.now).types → ((n : ℕ) (c : ClassRow) → has_row n (own c) ≡ has_row n (span (outline_seen c))) → ((n : ℕ) (t : TypeRow) → has_row n (span (outline_in s t)) ≡ holds (first t) (count t) n)
      → length owners ≡ length (part (rows_seen s.image.now)) → ((n : ℕ) → n < length (part (rows_seen s.image.now)) → slice_get owners n ≡ Some (first_span (map own classes) n))
      → (n : ℕ) → on_some (slice_get owners n) (option_map (id_at s.tokens.file)) ≡ owner_of part first count (seen_all s.names.now) (id_at s.tokens.file n)
  owned classes owners read same meant size each n = by (cases_lt n (length (part (rows_seen s.image.now))))
    where
      by : (n < length (part (rows_seen s.image.now))) ⊎ (length (part (rows_seen s.image.now)) ≤ n) → on_some (slice_get owners n) (option_map (id_at s.tokens.file)) ≡ owner_of part first count (seen_all s.names.now) (id_at s.tokens.file n)
      by (inl low) = ap (λ o. on_some o (option_map (id_at s.tokens.file))) (each n low) ∙ sym (spans_own classes n read (same n) (meant n) low)
      by (inr past) = ap (λ o. on_some o (option_map (id_at s.tokens.file))) (slice_get_past owners n (omega (arith, past, size))) ∙ sym (none_owns n past)

module _ (s : Subject) (is : IsSubject s) (classes : List ClassRow) (owners : List (Option ℕ)) (read : map outline_seen classes ≡ map (outline_in s) (rows_seen s.image.now).types) where
  pub fields_owned : length owners ≡ length (rows_seen s.image.now).fields → ((n : ℕ) → n < length (rows_seen s.image.now).fields → slice_get owners n ≡ Some (first_span (map field_span classes) n)) → (n : ℕ) → on_some (slice_get owners n) (option_map (id_at s.tokens.file)) ≡ field_owner (seen_all s.names.now) (id_at s.tokens.file n)
  fields_owned size each = owned s is (λ p. p.fields) (λ t. t.first_field) (λ t. t.field_count) (λ o. record { first = o.first_field; count = o.field_count }) field_span classes owners read (λ n c. refl) (λ n t. refl) size each

  pub methods_owned : length owners ≡ length (rows_seen s.image.now).methods → ((n : ℕ) → n < length (rows_seen s.image.now).methods → slice_get owners n ≡ Some (first_span (map method_span classes) n)) → (n : ℕ) → on_some (slice_get owners n) (option_map (id_at s.tokens.file)) ≡ method_owner (seen_all s.names.now) (id_at s.tokens.file n)
  methods_owned size each = owned s is (λ p. p.methods) (λ t. t.first_method) (λ t. t.method_count) (λ o. record { first = o.first_method; count = o.method_count }) method_span classes owners read (λ n c. refl) (λ n t. refl) size each

-- the owners of rows that are read one after the other
pub same_owners : {A : Type 0} (owner : A → Option ℕ) (rows : List A) (owners : List (Option ℕ)) (file n : ℕ) → map owner rows ≡ owners → on_some (slice_get rows n) (λ x. option_map (id_at file) (owner x)) ≡ on_some (slice_get owners n) (option_map (id_at file))
same_owners {A} owner rows owners file n e = go (slice_get rows n) ∙ ap (λ o. on_some o (option_map (id_at file))) (sym (slice_get-map owner rows n) ∙ ap (λ xs. slice_get xs n) e)
  where
    go : (o : Option A) → on_some o (λ x. option_map (id_at file) (owner x)) ≡ on_some (option_map owner o) (option_map (id_at file))
    go None = refl
    go (Some x) = refl
