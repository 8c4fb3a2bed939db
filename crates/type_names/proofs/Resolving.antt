-- What tokens name, by the types that references have.
use Rattle.std.proofs.Common.{◌≡◌, ℕ, zero, suc, ◌+◌, ◌<◌, ◌≤◌, ◌⊎◌, inl, inr, Bool, true, false, List, [], length, Option, Some, None, refl, sym, ap, ◌∙◌, arith, ◌∷◌, ◌++◌, length-append, subst}
use Rattle.std.specs.Prelude.{nat_lt, slice_get, if◌then◌else◌, ◌==◌}
use Rattle.std.specs.List.{position}
use Rattle.std.specs.Option.{option_map}
use Rattle.std.proofs.lemmas.Bool.{cases_lt}
use Rattle.std.proofs.lemmas.Bool.Decides.{nat_tests}
use Rattle.std.proofs.lemmas.Option.{slice_get-map, slice_get_within, slice_get_past, slice_get-get_or}
use Rattle.file_tables.specs.Metadata.{MetadataPart, rows_of, row_count}
use Rattle.file_tables.specs.File.{FilePart}
use Rattle.machine.specs.Data.{Id}
use Rattle.machine.specs.Throw.{on_some}
use Rattle.classes.specs.Classes.{Reference}
use Rattle.kept_rows.proofs.SelectLaws.{passes}
use Rattle.assemblies.specs.Rows.{Assembly, TypeRow, TypeRefRow, Scope, OfAssembly, Inside, Nowhere, TypeToken, TypeDef, TypeRef, TypeSpec}
use Rattle.assemblies.specs.Binding.{id_at, is_type, type_in, assembly_of, in_scope, resolve, resolve_ref}
use Rattle.assemblies.proofs.Numbered.{get_numbered}
use Rattle.world_rows.specs.Tokens.{type_defs, type_refs, type_specs, from_zero, table_of, number_of, type_token, type_named}
use Rattle.world_rows.specs.Rows.{type_row, alone}
use Rattle.world_rows.specs.World.{rows_alone, size_of, assemblies_of}
use Rattle.world_rows.proofs.Alone.{resolve_alone}
use Rattle.member_keys.specs.declared.keys.ClassId.{ClassId}
use Rattle.type_names.specs.Walk.{value_at}
use Rattle.type_names.specs.Resolved.{AreResolved, type_id, checked, class_of, type_resolved}

lt_true : (a b : ℕ) → a < b → nat_lt a b ≡ true
lt_true a b h = grind (arith, nat_tests)

lt_false : (a b : ℕ) → b ≤ a → nat_lt a b ≡ false
lt_false a b h = grind (arith, nat_tests)

module _ (files : List FilePart) where
  -- a class that is named is one of the world's
  abbrev IsThere : Option Id → Type 0
  IsThere o = on_some o (checked files) ≡ option_map type_id o

  then_there : {A : Type 0} (o : Option A) (go : A → Option Id) → ((x : A) → IsThere (go x)) → IsThere (on_some o go)
  then_there None go h = refl
  then_there (Some x) go h = h x

  types_within : (p : FilePart) (n : ℕ) (t : TypeRow) → slice_get (alone p).types n ≡ Some t → n < row_count p.metadata type_defs
  types_within p n t e = some_within (slice_get (rows_of p.metadata type_defs) n) refl (sym (get_numbered (type_row p.metadata (λ k. Reference)) 0 n (rows_of p.metadata type_defs)) ∙ e)
    where
      some_within : (o : Option (List ℕ)) → slice_get (rows_of p.metadata type_defs) n ≡ o → option_map (type_row p.metadata (λ k. Reference) (0 + n)) o ≡ Some t → n < row_count p.metadata type_defs
      some_within None f g = cc g
      some_within (Some row) f g = slice_get_within (rows_of p.metadata type_defs) n row f

  checked_at : (f n : ℕ) (p : FilePart) → slice_get files f ≡ Some p → n < row_count p.metadata type_defs → checked files (id_at f n) ≡ Some (type_id (id_at f n))
  checked_at f n p e h =
      ap (λ o. on_some o (λ (q : FilePart). if nat_lt n (row_count q.metadata type_defs) then Some (type_id (id_at f n)) else None)) e
      ∙ ap (λ b. if b then Some (type_id (id_at f n)) else None) (lt_true n (row_count p.metadata type_defs) h)

  type_there : (f : ℕ) (outer : Option ℕ) (r : TypeRefRow) → IsThere (type_in (rows_alone files) f outer r)
  type_there f outer r = go (slice_get files f) refl (slice_get-map alone files f)
    where
      found : Assembly → Option Id
      found p = option_map (id_at f) (position (is_type outer r) p.types)

      at_place : (p : FilePart) → slice_get files f ≡ Some p → (o : Option ℕ) → position (is_type outer r) (alone p).types ≡ o → IsThere (option_map (id_at f) o)
      at_place p e None g = refl
      at_place p e (Some n) g = let passed = passes (is_type outer r) (alone p).types n g in checked_at f n p e (types_within p n passed.0 passed.1)

      go : (o : Option FilePart) → slice_get files f ≡ o → slice_get (rows_alone files) f ≡ option_map alone (slice_get files f) → IsThere (on_some (slice_get (rows_alone files) f) (λ (p : Assembly). option_map (id_at f) (position (is_type outer r) p.types)))
      go None e g = let gone : slice_get (rows_alone files) f ≡ None = g ∙ ap (option_map alone) e in rw gone refl
      go (Some p) e g = let there : slice_get (rows_alone files) f ≡ Some (alone p) = g ∙ ap (option_map alone) e in rw there (at_place p e (position (is_type outer r) (alone p).types) refl)

  pub reference_is_there : (k f n : ℕ) → IsThere (resolve_ref k (rows_alone files) f n)
  reference_is_there zero f n = refl
  reference_is_there (suc k) f n =
      then_there (slice_get (rows_alone files) f) (λ p. on_some (slice_get p.refs n) (λ r. in_scope (rows_alone files) f (resolve_ref k (rows_alone files) f) r r.scope))
      (λ p. then_there (slice_get p.refs n) (λ r. in_scope (rows_alone files) f (resolve_ref k (rows_alone files) f) r r.scope) (λ r. scoped r r.scope))
    where
      scoped : (r : TypeRefRow) (s : Scope) → IsThere (in_scope (rows_alone files) f (resolve_ref k (rows_alone files) f) r s)
      scoped r (OfAssembly m) = then_there (assembly_of (rows_alone files) f m) (λ g. type_in (rows_alone files) g None r) (λ g. type_there g None r)
      scoped r (Inside m) = then_there (resolve_ref k (rows_alone files) f m) (λ c. type_in (rows_alone files) c.file (Some c.row) r) (λ c. type_there c.file (Some c.row) r)
      scoped r Nowhere = refl

  own_at : (k f n : ℕ) (p : FilePart) → slice_get files f ≡ Some p → resolve k (rows_alone files) f (TypeDef n) ≡ option_map (λ row. id_at f n) (slice_get (rows_of p.metadata type_defs) n)
  own_at k f n p e =
      ap (λ o. on_some o (λ (q : Assembly). option_map (λ t. id_at f n) (slice_get q.types n))) (slice_get-map alone files f ∙ ap (option_map alone) e)
      ∙ ap (option_map (λ t. id_at f n)) (get_numbered (type_row p.metadata (λ m. Reference)) 0 n (rows_of p.metadata type_defs))
      ∙ go (slice_get (rows_of p.metadata type_defs) n)
    where
      go : (o : Option (List ℕ)) → option_map (λ t. id_at f n) (option_map (type_row p.metadata (λ m. Reference) (0 + n)) o) ≡ option_map (λ row. id_at f n) o
      go None = refl
      go (Some row) = refl

  own_inside : (k f n : ℕ) (p : FilePart) → slice_get files f ≡ Some p → n < row_count p.metadata type_defs → resolve k (rows_alone files) f (TypeDef n) ≡ Some (id_at f n)
  own_inside k f n p e h = own_at k f n p e ∙ ap (option_map (λ row. id_at f n)) (slice_get-get_or (rows_of p.metadata type_defs) n [] h)

  own_past : (k f n : ℕ) (p : FilePart) → slice_get files f ≡ Some p → row_count p.metadata type_defs ≤ n → resolve k (rows_alone files) f (TypeDef n) ≡ None
  own_past k f n p e h = own_at k f n p e ∙ ap (option_map (λ row. id_at f n)) (slice_get_past (rows_of p.metadata type_defs) n h)

  token_there : (k f : ℕ) (p : FilePart) → slice_get files f ≡ Some p → (t : TypeToken) → IsThere (resolve k (rows_alone files) f t)
  token_there k f p e (TypeDef n) = go (cases_lt n (row_count p.metadata type_defs))
    where
      go : (n < row_count p.metadata type_defs) ⊎ (row_count p.metadata type_defs ≤ n) → IsThere (resolve k (rows_alone files) f (TypeDef n))
      go (inl below) = ap (λ o. on_some o (checked files)) (own_inside k f n p e below) ∙ checked_at f n p e below ∙ sym (ap (option_map type_id) (own_inside k f n p e below))
      go (inr past) = ap (λ o. on_some o (checked files)) (own_past k f n p e past) ∙ sym (ap (option_map type_id) (own_past k f n p e past))
  token_there k f p e (TypeRef n) = reference_is_there k f n
  token_there k f p e (TypeSpec n) = refl

  pub class_there : (file table row : ℕ) → on_some (class_of files file table row) (checked files) ≡ option_map type_id (class_of files file table row)
  class_there file table row = go (slice_get files file) refl
    where
      go : (o : Option FilePart) → slice_get files file ≡ o → IsThere (on_some o (λ (f : FilePart). resolve (size_of (rows_alone files)) (rows_alone files) file (type_token f.metadata table row)))
      go None e = refl
      go (Some p) e = token_there (size_of (rows_alone files)) file p e (type_token p.metadata table row)

  pub named_is : (file token : ℕ) → type_resolved files file token ≡ class_of files file (table_of token) (number_of token)
  named_is file token = go (slice_get files file)
    where
      go : (o : Option FilePart) → on_some o (λ (f : FilePart). resolve (size_of (rows_alone files)) (assemblies_of files) file (type_named f.metadata token)) ≡ on_some o (λ (f : FilePart). resolve (size_of (rows_alone files)) (rows_alone files) file (type_token f.metadata (table_of token) (number_of token)))
      go None = refl
      go (Some p) = resolve_alone files (size_of (rows_alone files)) file (type_named p.metadata token)

-- ---- files resolved one after the other

pub longer : {A : Type 0} (xs : List A) (x : A) → length (xs ++ x ∷ []) ≡ length xs + 1
longer xs x = length-append xs (x ∷ [])

pub got_last : {A : Type 0} (xs : List A) (x : A) (i : ℕ) (y : A) → slice_get (xs ++ x ∷ []) i ≡ Some y → (slice_get xs i ≡ Some y) ⊎ ((i ≡ length xs) × (x ≡ y))
got_last [] x zero y e = inr (refl, cc e)
got_last [] x (suc i) y e = cc e
got_last (z ∷ xs) x zero y e = inl e
got_last (z ∷ xs) x (suc i) y e = go (got_last xs x i y e)
  where
    go : (slice_get xs i ≡ Some y) ⊎ ((i ≡ length xs) × (x ≡ y)) → (slice_get (z ∷ xs) (suc i) ≡ Some y) ⊎ ((suc i ≡ length (z ∷ xs)) × (x ≡ y))
    go (inl f) = inl f
    go (inr (f, g)) = inr (ap suc f, g)

pub resolved_more : (files : List FilePart) (all : List (List (Option ClassId))) (types : List (Option ClassId)) → AreResolved files all → ((n : ℕ) → value_at types n ≡ resolve_ref (size_of (rows_alone files)) (rows_alone files) (length all) n) → AreResolved files (all ++ types ∷ [])
resolved_more files all types resolved added file got e n = go (got_last all types file got e)
  where
    go : (slice_get all file ≡ Some got) ⊎ ((file ≡ length all) × (types ≡ got)) → value_at got n ≡ resolve_ref (size_of (rows_alone files)) (rows_alone files) file n
    go (inl f) = resolved file got f n
    go (inr (f, g)) = ap (λ t. value_at t n) (sym g) ∙ added n ∙ ap (λ k. resolve_ref (size_of (rows_alone files)) (rows_alone files) k n) (sym f)

-- ---- by the tables of a file

module _ (files : List FilePart) (file : ℕ) (m : MetadataPart) (there : option_map (λ (p : FilePart). p.metadata) (slice_get files file) ≡ Some m) where
  abbrev size : ℕ
  size = size_of (rows_alone files)

  file_there : (p : FilePart) × (slice_get files file ≡ Some p) × (p.metadata ≡ m)
  file_there = go (slice_get files file) refl there
    where
      go : (o : Option FilePart) → slice_get files file ≡ o → option_map (λ (p : FilePart). p.metadata) o ≡ Some m → (p : FilePart) × (slice_get files file ≡ Some p) × (p.metadata ≡ m)
      go None e f = cc f
      go (Some p) e f = (p, e, cc f)

  class_is : (table row : ℕ) → class_of files file table row ≡ resolve size (rows_alone files) file (type_token m table row)
  class_is table row =
      ap (λ o. on_some o (λ (f : FilePart). resolve size (rows_alone files) file (type_token f.metadata table row))) file_there.1
      ∙ ap (λ x. resolve size (rows_alone files) file (type_token x table row)) file_there.2

  def_token : (row : ℕ) → type_token m type_defs row ≡ TypeDef (from_zero (row_count m type_defs) row)
  unfolding type_token
  def_token row = refl

  ref_token : (row : ℕ) → type_token m type_refs row ≡ TypeRef (from_zero (row_count m type_refs) row)
  unfolding type_token
  ref_token row = refl

  def_is : (table row n : ℕ) → table ≡ type_defs → n ≡ from_zero (row_count m type_defs) row → class_of files file table row ≡ resolve size (rows_alone files) file (TypeDef n)
  def_is table row n e same =
      class_is table row
      ∙ ap (λ t. resolve size (rows_alone files) file (type_token m t row)) e
      ∙ ap (resolve size (rows_alone files) file) (def_token row ∙ ap TypeDef (sym same))

  count_is : row_count file_there.0.metadata type_defs ≡ row_count m type_defs
  count_is = ap (λ x. row_count x type_defs) file_there.2

  pub own_named : (table row n : ℕ) → table ≡ type_defs → n ≡ from_zero (row_count m type_defs) row → n < row_count m type_defs → Some (id_at file n) ≡ class_of files file table row
  own_named table row n e same h = sym (def_is table row n e same ∙ own_inside files size file n file_there.0 file_there.1 (subst (λ k. n < k) (sym count_is) h))

  pub past_named : (table row n : ℕ) → table ≡ type_defs → n ≡ from_zero (row_count m type_defs) row → row_count m type_defs ≤ n → class_of files file table row ≡ None
  past_named table row n e same h = def_is table row n e same ∙ own_past files size file n file_there.0 file_there.1 (subst (λ k. k ≤ n) (sym count_is) h)

  pub other_named : (table row n : ℕ) → table ≡ type_refs → n ≡ from_zero (row_count m type_refs) row → resolve_ref size (rows_alone files) file n ≡ class_of files file table row
  other_named table row n e same =
      sym
      (class_is table row
      ∙ ap (λ t. resolve size (rows_alone files) file (type_token m t row)) e
      ∙ ap (resolve size (rows_alone files) file) (ref_token row ∙ ap TypeRef (sym same)))

  pub none_named : (table row : ℕ) → (table ≡ type_defs → ⊥) → (table ≡ type_refs → ⊥) → class_of files file table row ≡ None
  unfolding type_token
  none_named table row not_def not_ref = class_is table row ∙ go (table == type_defs) refl (table == type_refs) refl (table == type_specs)
    where
      at_end : resolve size (rows_alone files) file (TypeDef (row_count m type_defs)) ≡ None
      at_end = own_past files size file (row_count m type_defs) file_there.0 file_there.1 (subst (λ k. k ≤ row_count m type_defs) (sym count_is) (omega arith))

      go : (a : Bool) → (table == type_defs) ≡ a → (b : Bool) → (table == type_refs) ≡ b → (c : Bool) → resolve size (rows_alone files) file (if a then TypeDef (from_zero (row_count m type_defs) row) else if b then TypeRef (from_zero (row_count m type_refs) row) else if c then TypeSpec (from_zero (row_count m type_specs) row) else TypeDef (row_count m type_defs)) ≡ None
      go true e b f c = absurd (not_def (grind (arith, nat_tests)))
      go false e true f c = absurd (not_ref (grind (arith, nat_tests)))
      go false e false f true = refl
      go false e false f false = at_end
