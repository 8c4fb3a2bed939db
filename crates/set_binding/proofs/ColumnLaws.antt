-- What rows name, one after the other.
use Rattle.std.proofs.Common.{◌≡◌, ℕ, zero, suc, ◌+◌, ◌<◌, ◌≤◌, ◌^◌, ◌⊎◌, inl, inr, List, [], ◌∷◌, ◌++◌, length, Option, Some, None, refl, sym, ap, ◌∙◌, subst, arith}
use Rattle.std.specs.Prelude.{IsSome, slice_get, slice_index, unwrap_or}
use Rattle.std.specs.Option.{option_map, option_map_or}
use Rattle.std.proofs.Math.Path.{fun_ext}
use Rattle.std.proofs.lemmas.Bool.{cases_eq, cases_lt}
use Rattle.std.proofs.lemmas.Option.{slice_get_past}
use Rattle.machine.specs.Data.{Id}
use Rattle.machine.specs.Throw.{on_some}
use Rattle.assemblies.specs.Rows.{Assembly, AssemblyRow, TypeRefRow, FieldRefRow, MethodRefRow}
use Rattle.assemblies.specs.Binding.{id_at, first_number, same_assembly, in_scope, resolve_ref, resolve, expanded, expanded_signature, classes_of}
use Rattle.classes.specs.Queries.{find_field, find_method}
use Rattle.world_rows.specs.World.{size_of}
use Rattle.image_bytes.specs.Layout.{Image}
use Rattle.image_form.specs.Whole.{image_rows}
use Rattle.member_keys.specs.declared.keys.ClassId.{ClassId}
use Rattle.member_keys.specs.Seen.{class_seen}
use Rattle.scope_walk.specs.Walk.{value_at}
use Rattle.scope_walk.specs.Scopes.{references_in}
use Rattle.scope_walk.proofs.Lists.{none_past, past_none}
use Rattle.set_signatures.specs.declared.tokens.Tokens.{Tokens}
use Rattle.tiny_rows.specs.Rows.{rows_seen}
use Rattle.set_names.specs.Names.{seen_all}
use Rattle.set_names.specs.Resolved.{AreTypes}
use Rattle.set_names.proofs.ResolveLaws.{got_pushed, got_before}
use Rattle.set_table.proofs.SubjectLaws.{tokens_are}
use Rattle.board_model.specs.Bound.{row_counts, rows_at, named}
use Rattle.set_binding.specs.declared.tables.FileBindings.{FileBindings}
use Rattle.set_binding.specs.Columns.{AreNamed, column_at, IsBoundFile, AreBound, named_by}

-- ---- one row more

-- what stands at the first places
abbrev pub StandNamed : (ℕ → Option Id) → List (Option ClassId) → ℕ → Type 0
StandNamed thing xs n = (k : ℕ) → k < n → value_at xs k ≡ thing k

pub none_named : (thing : ℕ → Option Id) (xs : List (Option ClassId)) → StandNamed thing xs 0
none_named thing xs k below = absurd (omega (arith, below))

pub named_more : (thing : ℕ → Option Id) (xs : List (Option ClassId)) (n : ℕ) (x : Option ClassId) → length xs ≡ n → option_map class_seen x ≡ thing n → StandNamed thing xs n → StandNamed thing (xs ++ x ∷ []) (n + 1)
named_more thing xs n x size is so k below = go (cases_eq k n)
  where
    go : (k ≡ n) ⊎ (k ≡ n → ⊥) → value_at (xs ++ x ∷ []) k ≡ thing k
    go (inl same) = ap (λ o. on_some o (option_map class_seen)) (ap (slice_get (xs ++ x ∷ [])) (same ∙ sym size) ∙ got_pushed xs x) ∙ is ∙ sym (ap thing same)
    go (inr apart) = ap (λ o. on_some o (option_map class_seen)) (got_before xs x k (omega (arith, size, below, apart))) ∙ so k (omega (arith, below, apart))

-- ---- whole columns

pub all_named : (ps : List Assembly) (file table : ℕ) (found : List (Option ClassId)) → length found ≡ rows_at ps file table → length found < 2 ^ 32 → ((n : ℕ) → rows_at ps file table ≤ n → named ps file table n ≡ None) → StandNamed (named ps file table) found (length found)
    → AreNamed ps file table found
all_named ps file table found size few none so = record { size = size; few = few; each = λ n. by n (cases_lt n (length found)) }
  where
    by : (n : ℕ) → (n < length found) ⊎ (length found ≤ n) → value_at found n ≡ named ps file table n
    by n (inl below) = so n below
    by n (inr past) = ap (λ o. on_some o (option_map class_seen)) (slice_get_past found n past) ∙ sym (none n (omega (arith, size, past)))

module _ (ps : List Assembly) (file n : ℕ) where
  abbrev field_from : FieldRefRow → Option Id
  field_from r = on_some (resolve (size_of ps) ps file r.parent) (λ c. option_map (λ m. m.id) (find_field (classes_of (size_of ps) ps) c r.name (expanded (size_of ps) ps file r.signature)))

  abbrev method_from : MethodRefRow → Option Id
  method_from r = on_some (resolve (size_of ps) ps file r.parent) (λ c. option_map (λ m. m.id) (find_method (classes_of (size_of ps) ps) c r.name (expanded_signature (size_of ps) ps file r.signature)))

  pub assemblies_past : rows_at ps file 0 ≤ n → named ps file 0 n ≡ None
  assemblies_past = go (slice_get ps file)
    where
      go : (o : Option Assembly) → unwrap_or (option_map (λ p. slice_index (row_counts p) 0) o) 0 ≤ n → option_map (λ f. id_at f 0) (on_some o (λ p. on_some (slice_get p.assemblies n) (λ a. first_number (same_assembly a) ps))) ≡ None
      go None past = refl
      go (Some p) past = ap (λ o. option_map (λ f. id_at f 0) (on_some o (λ (a : AssemblyRow). first_number (same_assembly a) ps))) (slice_get_past p.assemblies n past)

  pub fields_past : rows_at ps file 2 ≤ n → named ps file 2 n ≡ None
  fields_past = go (slice_get ps file)
    where
      go : (o : Option Assembly) → unwrap_or (option_map (λ p. slice_index (row_counts p) 2) o) 0 ≤ n → on_some o (λ p. on_some (slice_get p.field_refs n) field_from) ≡ None
      go None past = refl
      go (Some p) past = ap (λ o. on_some o field_from) (slice_get_past p.field_refs n past)

  pub methods_past : rows_at ps file 3 ≤ n → named ps file 3 n ≡ None
  methods_past = go (slice_get ps file)
    where
      go : (o : Option Assembly) → unwrap_or (option_map (λ p. slice_index (row_counts p) 3) o) 0 ≤ n → on_some o (λ p. on_some (slice_get p.method_refs n) method_from) ≡ None
      go None past = refl
      go (Some p) past = ap (λ o. on_some o method_from) (slice_get_past p.method_refs n past)

  -- an assembly that isn't there names nothing
  pub nothing_named : (table : ℕ) → slice_get ps file ≡ None → named ps file table n ≡ None
  nothing_named zero e = ap (λ o. option_map (λ f. id_at f 0) (on_some o (λ (p : Assembly). on_some (slice_get p.assemblies n) (λ a. first_number (same_assembly a) ps)))) e
  nothing_named (suc zero) e = by (size_of ps)
    where
      by : (k : ℕ) → resolve_ref k ps file n ≡ None
      by zero = refl
      by (suc k) = ap (λ o. on_some o (λ (p : Assembly). on_some (slice_get p.refs n) (λ (r : TypeRefRow). in_scope ps file (resolve_ref k ps file) r r.scope))) e
  nothing_named (suc (suc zero)) e = ap (λ o. on_some o (λ (p : Assembly). on_some (slice_get p.field_refs n) field_from)) e
  nothing_named (suc (suc (suc table))) e = ap (λ o. on_some o (λ (p : Assembly). on_some (slice_get p.method_refs n) method_from)) e

-- ---- tables by their numbers

rows_of_refs : (ps : List Assembly) (file : ℕ) → references_in ps file ≡ rows_at ps file 1
rows_of_refs ps file = go (slice_get ps file)
  where
    go : (o : Option Assembly) → option_map_or (λ (p : Assembly). length p.refs) o 0 ≡ unwrap_or (option_map (λ p. slice_index (row_counts p) 1) o) 0
    go None = refl
    go (Some p) = refl

pub types_named : (images : List Image) (i : Image) → IsSome (image_rows i) → (t : Tokens) → Some i ≡ slice_get images t.file → t.types ≡ length (rows_seen i).types → (found : List (Option ClassId)) → t.references.now ≡ found → AreTypes (seen_all images) t.file t.references.now → length found < 2 ^ 32
    → AreNamed (seen_all images) t.file 1 found
types_named images i rows t here types found same are few =
    let tokens = tokens_are images i rows t here types are in
    record {
      size = ap length (sym same) ∙ are.size ∙ rows_of_refs (seen_all images) t.file;
      few = few;
      each = λ n. ap (λ xs. value_at xs n) (sym same) ∙ tokens.references n;
    }

-- ---- all files

last_or : {A : Type 0} (xs : List A) (x : A) (n : ℕ) (y : A) → slice_get (xs ++ x ∷ []) n ≡ Some y → (slice_get xs n ≡ Some y) ⊎ ((length xs ≡ n) × (x ≡ y))
last_or [] x zero y e = inr (refl, cc e)
last_or [] x (suc n) y e = cc e
last_or (z ∷ xs) x zero y e = inl e
last_or (z ∷ xs) x (suc n) y e = up (last_or xs x n y e)
  where
    up : (slice_get xs n ≡ Some y) ⊎ ((length xs ≡ n) × (x ≡ y)) → (slice_get xs n ≡ Some y) ⊎ ((suc (length xs) ≡ suc n) × (x ≡ y))
    up (inl h) = inl h
    up (inr h) = inr (ap suc h.0, h.1)

pub none_bound : (ps : List Assembly) (files : List FileBindings) → files ≡ [] → (file : ℕ) (b : FileBindings) → slice_get files file ≡ Some b → IsBoundFile ps file b
none_bound ps [] e file b at = absurd (cc at)
none_bound ps (c ∷ files) e file b at = absurd (cc e)

pub bound_more : (ps : List Assembly) (files : List FileBindings) (b : FileBindings) → ((file : ℕ) (c : FileBindings) → slice_get files file ≡ Some c → IsBoundFile ps file c) → IsBoundFile ps (length files) b
    → (file : ℕ) (c : FileBindings) → slice_get (files ++ b ∷ []) file ≡ Some c → IsBoundFile ps file c
bound_more ps files b each last file c e = by (last_or files b file c e)
  where
    by : (slice_get files file ≡ Some c) ⊎ ((length files ≡ file) × (b ≡ c)) → IsBoundFile ps file c
    by (inl h) = each file c h
    by (inr h) = subst (λ m. IsBoundFile ps m c) h.0 (subst (IsBoundFile ps (length files)) h.1 last)

pub bound_names : (ps : List Assembly) (files : List FileBindings) → AreBound ps files → named_by files ≡ named ps
bound_names ps files are = fun_ext (λ file. fun_ext (λ table. fun_ext (λ n. at file table n (slice_get files file) refl)))
  where
    column : (file table n : ℕ) (b : FileBindings) → IsBoundFile ps file b → value_at (column_at b table) n ≡ named ps file table n
    column file zero n b is = is.assemblies.each n
    column file (suc zero) n b is = is.types.each n
    column file (suc (suc zero)) n b is = is.fields.each n
    column file (suc (suc (suc table))) n b is = is.methods.each n

    at : (file table n : ℕ) (o : Option FileBindings) → slice_get files file ≡ o → on_some o (λ b. value_at (column_at b table) n) ≡ named ps file table n
    at file table n None e = let past = none_past files file e in let same = are.count in sym (nothing_named ps file n table (past_none ps file (omega (arith, past, same))))
    at file table n (Some b) e = column file table n b (are.each file b e)
