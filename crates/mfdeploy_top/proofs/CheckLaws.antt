-- Names and bytes of a world's files, the first two of which are the base library's.
use Rattle.std.proofs.Common.{◌≡◌, ◌⊎◌, inl, inr, subst, ℕ, zero, suc, ◌+◌, ◌-◌, ◌≤◌, List, [], ◌∷◌, ◌++◌, length, map, take, Some, Result, Ok, Err, refl, sym, ap, ◌∙◌, arith}
use Rattle.std.specs.Prelude.{slice_get, unwrap_or}
use Rattle.std.proofs.lemmas.List.{length-map}
use Rattle.assemblies.specs.Closed.{Each}
use Rattle.base_tables.specs.declared.library.TheConstants.{MSCORLIB_NAME, NATIVE_NAME}
use Rattle.base_lib.proofs.Askable.{mscorlib_askable, native_askable}
use Rattle.layout_laws.proofs.Reading.{built_is_read}
use Rattle.plain_types.specs.declared.fault.Fault.{Fault}
use Rattle.file_tables.specs.File.{FilePart, file_of}
use Rattle.cil_layout.specs.Layout.{built}
use Rattle.base_tables.specs.Tables.{mscorlib_items}
use Rattle.base_lib.specs.Files.{library_of}
use Rattle.base_rows.specs.Base.{library_file, native_file}
use Rattle.type_names.specs.Opening.{joined, opened_from, files_opened}
use Rattle.verdict_rules.specs.Verdict.{Verdict, verdict}
use Rattle.verdict_rules.specs.Verdict as rules
use Rattle.cil_verify.specs.declared.outcome.Verdict as tool
use Rattle.cil_verify.specs.declared.outcome.Verdict.TheVariants as tells
use Rattle.cil_verify.specs.Seen.{seen}
use Rattle.mf_front.specs.declared.outcome.Outcome.{Outcome}
use Rattle.mf_front.specs.declared.outcome.Outcome.TheVariants.{NoMemory}
use Rattle.mfdeploy_top.specs.Accepted.{base_bytes, IsBased, told_name, judged_by, judged, accepted_of, refused_of, IsRefusal}
use Rattle.mfdeploy_top.specs.Check.{checked_of, check_of}
use Rattle.world_rows.specs.Tokens.{type_defs, methods}
use Rattle.cil_verify.specs.Counts.{rows_behind}
use Rattle.mf_front.specs.declared.outcome.Outcome.TheVariants as outcomes

pub told_first : (files : List (List ℕ)) → told_name files 0 ≡ MSCORLIB_NAME.now
unfolding told_name
told_first files = refl

pub told_second : (files : List (List ℕ)) → told_name files 1 ≡ NATIVE_NAME.now
unfolding told_name
told_second files = refl

pub told_behind : (files : List (List ℕ)) (number : ℕ) → 2 ≤ number → told_name files number ≡ unwrap_or (slice_get files (number - 2)) []
unfolding told_name
told_behind files zero low = absurd (omega (arith, low))
told_behind files (suc zero) low = absurd (omega (arith, low))
told_behind files (suc (suc n)) low = let same : n ≡ suc (suc n) - 2 = omega arith in ap (λ k. unwrap_or (slice_get files k) []) same

pub joined_count : {A B : Type 0} (f : A → List ℕ) (all : List A) (g : B → List ℕ) (files : List B) → map f all ≡ base_bytes ++ map g files → length all ≡ 2 + length files
unfolding base_bytes
joined_count f all g files e =
    let joined : length (map f all) ≡ suc (suc (length (map g files))) = ap length e in
    omega (arith, length-map all f, length-map files g, joined)

-- files that open behind the base library's two bytes are parts behind those of the library
two_joined : (rest : Result (List FilePart) Fault) (files : List FilePart) → joined 0 (Ok library_file) (joined 1 (Ok native_file) rest) ≡ Ok files → IsBased files
two_joined (Ok xs) files e = (xs, (let same : library_file ∷ native_file ∷ xs ≡ files = cc e in sym same))
two_joined (Err fault) files e = absurd (cc e)

pub opened_behind : (bytes rest : List (List ℕ)) (files : List FilePart) → bytes ≡ base_bytes ++ rest → files_opened bytes ≡ Ok files → IsBased files
unfolding base_bytes
opened_behind bytes rest files behind opens =
    two_joined (opened_from 2 rest) files
    (ap (λ f. joined 0 f (joined 1 (Ok native_file) (opened_from 2 rest))) (sym (built_is_read _ mscorlib_askable).0)
    ∙ (ap (λ f. joined 0 (file_of (built (library_of MSCORLIB_NAME.now mscorlib_items))) (joined 1 f (opened_from 2 rest))) (sym (built_is_read _ native_askable).0)
    ∙ (sym (ap files_opened behind) ∙ opens)))

-- ---- what files come to that aren't accepted

pub is_refusal : (files : List (List ℕ)) (found : Result (List FilePart) Fault) (fault : Fault) (outcome : Outcome) → found ≡ Err fault → (outcome ≡ refused_of files fault) ⊎ (outcome ≡ NoMemory) → IsRefusal files found outcome
is_refusal files found fault outcome broken (inl told) = inl (record { fault = fault; broken = broken; told = told })
is_refusal files found fault outcome broken (inr none) = inr none

-- by the verdict, which is exact
pub is_accepted : (v : tool.Verdict) (w : Verdict) → seen v ≡ w → v ≡ tells.Accepted → w ≡ rules.Accepted
is_accepted v w exact told = sym exact ∙ ap seen told

pub is_verdict : (files : List (List ℕ)) (all : List FilePart) (v : tool.Verdict) (fault : Fault) (outcome : Outcome) → seen v ≡ verdict all → v ≡ tells.Refused fault → (outcome ≡ refused_of files fault) ⊎ (outcome ≡ NoMemory) → IsRefusal files (judged_by all (verdict all)) outcome
is_verdict files all v fault outcome exact told = is_refusal files (judged_by all (verdict all)) fault outcome (ap (judged_by all) (sym exact ∙ ap seen told))

-- files that open are judged
pub judged_is : (found : Result (List FilePart) Fault) (all : List FilePart) → found ≡ Ok all → verdict all ≡ rules.Accepted → judged found ≡ Ok all
judged_is found all opens accepts = ap judged opens ∙ ap (judged_by all) accepts

pub refused_before : (files : List (List ℕ)) (found : Result (List FilePart) Fault) (outcome : Outcome) → IsRefusal files found outcome → IsRefusal files (judged found) outcome
refused_before files found outcome (inl r) = inl (record { fault = r.fault; broken = ap judged r.broken; told = r.told })
refused_before files found outcome (inr none) = inr none

pub refused_by : (files : List (List ℕ)) (found : Result (List FilePart) Fault) (all : List FilePart) (outcome : Outcome) → found ≡ Ok all → IsRefusal files (judged_by all (verdict all)) outcome → IsRefusal files (judged found) outcome
refused_by files found all outcome opens (inl r) = inl (record { fault = r.fault; broken = ap judged opens ∙ r.broken; told = r.told })
refused_by files found all outcome opens (inr none) = inr none

-- ---- of bytes behind the base library

module _ (files bytes joined : List (List ℕ)) (behind : joined ≡ base_bytes ++ bytes) where
  pub accepted_is : (all : List FilePart) → judged (files_opened joined) ≡ Ok all → accepted_of bytes ≡ Ok all
  accepted_is all e = ap (λ z. judged (files_opened z)) (sym behind) ∙ e

  pub checked : (all : List FilePart) (types count : ℕ) → judged (files_opened joined) ≡ Ok all → types ≡ rows_behind all type_defs → count ≡ rows_behind all methods → outcomes.Accepted (length files) types count ≡ check_of files bytes
  checked all types count e t m =
      ap (λ z. outcomes.Accepted (length files) z count) t
      ∙ ap (λ z. outcomes.Accepted (length files) (rows_behind all type_defs) z) m
      ∙ ap (checked_of files) (sym (accepted_is all e))

  pub not_checked : (outcome : Outcome) → IsRefusal files (judged (files_opened joined)) outcome → (outcome ≡ check_of files bytes) ⊎ (outcome ≡ NoMemory)
  not_checked outcome (inl r) = inl (r.told ∙ ap (checked_of files) (sym r.broken ∙ ap (λ z. judged (files_opened z)) behind))
  not_checked outcome (inr none) = inr none

-- ---- each of a list, one more

pub each_more : {A : Type 0} (P : List ℕ → Type 0) (f : A → List ℕ) (xs : List A) (k : ℕ) (x : A) → slice_get xs k ≡ Some x → P (f x) → Each P (map f (take k xs)) → Each P (map f (take (k + 1) xs))
each_more P f [] k x at holds so_far = absurd (cc at)
each_more P f (y ∷ xs) zero x at holds so_far = let same : y ≡ x = cc at in (subst (λ z. P (f z)) (sym same) holds, tt)
each_more P f (y ∷ xs) (suc k) x at holds so_far =
    let next : suc (k + 1) ≡ suc k + 1 = omega arith in
    subst (λ n. Each P (map f (take n (y ∷ xs)))) next (so_far.0, each_more P f xs k x at holds so_far.1)

pub each_of_all : {A : Type 0} (P : List ℕ → Type 0) (f : A → List ℕ) (xs : List A) (k : ℕ) → length xs ≤ k → Each P (map f (take k xs)) → Each P (map f xs)
each_of_all P f [] k le h = tt
each_of_all P f (x ∷ xs) zero le h = absurd (omega (arith, le))
each_of_all P f (x ∷ xs) (suc k) le h = (h.0, each_of_all P f xs k (omega (arith, le)) h.1)
