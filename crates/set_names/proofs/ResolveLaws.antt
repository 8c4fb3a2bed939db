-- References resolved one after the other.
use Rattle.std.proofs.Common.{◌≡◌, ℕ, zero, suc, ◌+◌, ◌≤◌, ◌<◌, ◌⊎◌, inl, inr, List, [], ◌∷◌, ◌++◌, length, Option, Some, None, refl, sym, ap, ◌∙◌, arith}
use Rattle.std.specs.Prelude.{slice_get}
use Rattle.std.specs.Option.{option_map_or}
use Rattle.std.proofs.lemmas.Bool.{cases_eq, cases_lt}
use Rattle.std.proofs.lemmas.Option.{slice_get_past}
use Rattle.machine.specs.Throw.{on_some}
use Rattle.assemblies.specs.Rows.{Assembly, AssemblyRow}
use Rattle.assemblies.specs.Binding.{first_number, same_assembly, assembly_of}
use Rattle.set_names.specs.Resolved.{count_at, AreAssemblies}

-- what stands at the first places of a list
abbrev pub StandSo : {A : Type 0} → (ℕ → A) → List A → ℕ → Type 0
StandSo thing xs n = (k : ℕ) → k < n → slice_get xs k ≡ Some (thing k)

pub got_pushed : {A : Type 0} (xs : List A) (x : A) → slice_get (xs ++ x ∷ []) (length xs) ≡ Some x
got_pushed [] x = refl
got_pushed (y ∷ xs) x = got_pushed xs x

pub got_before : {A : Type 0} (xs : List A) (x : A) (k : ℕ) → k < length xs → slice_get (xs ++ x ∷ []) k ≡ slice_get xs k
got_before [] x k h = absurd (omega arith)
got_before (y ∷ xs) x zero h = refl
got_before (y ∷ xs) x (suc k) h = got_before xs x k (omega arith)

pub stand_more : {A : Type 0} (thing : ℕ → A) (xs : List A) (n : ℕ) (x : A) → length xs ≡ n → x ≡ thing n → StandSo thing xs n → StandSo thing (xs ++ x ∷ []) (n + 1)
stand_more thing xs n x size is so k below = go (cases_eq k n)
  where
    go : (k ≡ n) ⊎ (k ≡ n → ⊥) → slice_get (xs ++ x ∷ []) k ≡ Some (thing k)
    go (inl same) = ap (slice_get (xs ++ x ∷ [])) (same ∙ sym size) ∙ got_pushed xs x ∙ ap Some is ∙ sym (ap (λ m. Some (thing m)) same)
    go (inr apart) = got_before xs x k (omega (arith, size)) ∙ so k (omega arith)

pub assembly_past : (ps : List Assembly) (file n : ℕ) → count_at ps file ≤ n → assembly_of ps file n ≡ None
assembly_past ps file n = go (slice_get ps file)
  where
    go : (o : Option Assembly) → option_map_or (λ (p : Assembly). length p.assemblies) o 0 ≤ n → on_some o (λ p. on_some (slice_get p.assemblies n) (λ a. first_number (same_assembly a) ps)) ≡ None
    go None past = refl
    go (Some p) past = ap (λ o. on_some o (λ (a : AssemblyRow). first_number (same_assembly a) ps)) (slice_get_past p.assemblies n past)

pub all_found : (ps : List Assembly) (file : ℕ) (found : List (Option ℕ)) → length found ≡ count_at ps file → StandSo (assembly_of ps file) found (length found) → AreAssemblies ps file found
all_found ps file found size so = record { size = size; each = λ n. by n (cases_lt n (length found)) }
  where
    by : (n : ℕ) → (n < length found) ⊎ (length found ≤ n) → on_some (slice_get found n) (λ o. o) ≡ assembly_of ps file n
    by n (inl below) = ap (λ o. on_some o (λ o. o)) (so n below)
    by n (inr past) = ap (λ o. on_some o (λ o. o)) (slice_get_past found n past) ∙ sym (assembly_past ps file n (omega (arith, size, past)))

pub none_so : {A : Type 0} (thing : ℕ → A) (xs : List A) → StandSo thing xs 0
none_so thing xs k below = absurd (omega arith)
