-- The interfaces of types, a row after the other.
use Rattle.std.proofs.Common.{◌≡◌, ℕ, zero, suc, ◌+◌, ◌<◌, ◌≤◌, ◌⊎◌, inl, inr, Bool, true, false, cond, List, [], ◌∷◌, ◌++◌, length, take, map, Option, Some, None, refl, sym, ap, ◌∙◌, arith, subst, add-one}
use Rattle.std.specs.Prelude.{slice_get, slice_set, slice_index, slice_index_or, ◌==◌, Result, Ok, Err, OnOk}
use Rattle.std.specs.List.{filter}
use Rattle.std.specs.List as sequences
use Rattle.std.proofs.lemmas.Bool.{cases_eq, cases_lt}
use Rattle.std.proofs.lemmas.Bool.Decides.{nat_tests}
use Rattle.std.proofs.lemmas.List.{map-append, take_more}
use Rattle.std.proofs.lemmas.List.Elements.{filter-append, filter_map-append}
use Rattle.std.proofs.lemmas.Option.{slice_get_within, slice_get-get_or}
use Rattle.file_tables.specs.declared.schema.Coded.TheVariants.{TypeDefOrRef}
use Rattle.file_tables.specs.Metadata.{MetadataPart, rows_of, row_of, row_count}
use Rattle.file_tables.specs.File.{FilePart}
use Rattle.machine.specs.Data.{Id}
use Rattle.assemblies.specs.Rows.{TypeToken}
use Rattle.assemblies.specs.Binding.{resolve}
use Rattle.world_rows.specs.Tokens.{coded_type, interface_impls}
use Rattle.world_rows.specs.World.{rows_alone, size_of}
use Rattle.member_keys.specs.declared.keys.ClassId.{ClassId}
use Rattle.member_keys.specs.Seen.{class_seen}
use Rattle.std.specs.Option.{option_map}
use Rattle.machine.specs.Throw.{on_some}
use Rattle.type_names.specs.Resolved.{class_coded}
use Rattle.class_reading.specs.Interfaces.{named_by, found_by, HasInterfaces, AreEmpty, added_at}

get_set_same : {A : Type 0} (xs : List A) (n : ℕ) (x : A) → n < length xs → slice_get (slice_set xs n x) n ≡ Some x
get_set_same [] n x h = absurd (omega arith)
get_set_same (y ∷ xs) zero x h = refl
get_set_same (y ∷ xs) (suc n) x h = get_set_same xs n x (omega arith)

get_set_other : {A : Type 0} (xs : List A) (n k : ℕ) (x : A) → (k ≡ n → ⊥) → slice_get (slice_set xs n x) k ≡ slice_get xs k
get_set_other [] n k x h = refl
get_set_other (y ∷ xs) zero zero x h = absurd (h refl)
get_set_other (y ∷ xs) zero (suc k) x h = refl
get_set_other (y ∷ xs) (suc n) zero x h = refl
get_set_other (y ∷ xs) (suc n) (suc k) x h = get_set_other xs n k x (λ e. h (ap suc e))

set_past : {A : Type 0} (xs : List A) (n : ℕ) (x : A) → length xs ≤ n → slice_set xs n x ≡ xs
set_past [] n x h = refl
set_past (y ∷ xs) zero x h = absurd (omega arith)
set_past (y ∷ xs) (suc n) x h = ap (λ ys. y ∷ ys) (set_past xs n x (omega arith))

module _ (files : List FilePart) (file : ℕ) (m : MetadataPart) where
  abbrev found : TypeToken → Option Id
  found = resolve (size_of (rows_alone files)) (rows_alone files) file

  abbrev token : List ℕ → TypeToken
  token row = coded_type m TypeDefOrRef (slice_index row 1)

  abbrev just : Option Id → List Id
  just None = []
  just (Some c) = c ∷ []

  just_is : (t : TypeToken) → sequences.filter_map found (t ∷ []) ≡ just (found t)
  just_is t = go (found t)
    where
      go : (o : Option Id) → sequences.cons_option o [] ≡ just o
      go None = refl
      go (Some c) = refl

  by_type : (rows : List (List ℕ)) (row : List ℕ) (n : ℕ) (b : Bool) → (slice_index row 0 == suc n) ≡ b → found_by files file m (rows ++ row ∷ []) n ≡ found_by files file m rows n ++ cond b (just (found (token row))) []
  by_type rows row n b e =
      ap (λ rs. sequences.filter_map found (map token rs)) (filter-append (λ r. slice_index r 0 == suc n) rows (row ∷ []) ∙ ap (λ t. filter (λ r. slice_index r 0 == suc n) rows ++ cond t (row ∷ []) []) e)
      ∙ ap (sequences.filter_map found) (map-append token (filter (λ r. slice_index r 0 == suc n) rows) (cond b (row ∷ []) []))
      ∙ filter_map-append found (named_by m rows n) (map token (cond b (row ∷ []) []))
      ∙ ap (λ is. found_by files file m rows n ++ is) (go b)
    where
      go : (t : Bool) → sequences.filter_map found (map token (cond t (row ∷ []) [])) ≡ cond t (just (found (token row))) []
      go true = just_is (token row)
      go false = refl

  nothing_added : (xs : List Id) → xs ++ [] ≡ xs
  nothing_added [] = refl
  nothing_added (x ∷ xs) = ap (λ ys. x ∷ ys) (nothing_added xs)

  module _ (rows : List (List ℕ)) (row : List ℕ) where
    of_other : (n : ℕ) → (slice_index row 0 ≡ suc n → ⊥) → found_by files file m (rows ++ row ∷ []) n ≡ found_by files file m rows n
    of_other n other = by_type rows row n false (grind (arith, nat_tests)) ∙ nothing_added (found_by files file m rows n)

    of_none : found (token row) ≡ None → (n : ℕ) → found_by files file m (rows ++ row ∷ []) n ≡ found_by files file m rows n
    of_none e n = by_type rows row n (slice_index row 0 == suc n) refl ∙ ap (λ o. found_by files file m rows n ++ cond (slice_index row 0 == suc n) (just o) []) e ∙ go (slice_index row 0 == suc n)
      where
        go : (b : Bool) → found_by files file m rows n ++ cond b [] [] ≡ found_by files file m rows n
        go true = nothing_added (found_by files file m rows n)
        go false = nothing_added (found_by files file m rows n)

    of_own : (n : ℕ) (c : Id) → slice_index row 0 ≡ suc n → found (token row) ≡ Some c → found_by files file m (rows ++ row ∷ []) n ≡ found_by files file m rows n ++ c ∷ []
    of_own n c e f = by_type rows row n true (grind (arith, nat_tests)) ∙ ap (λ o. found_by files file m rows n ++ just o) f

    pub interface_missing : (lists : List (List ClassId)) → found (token row) ≡ None → HasInterfaces files file m rows lists → HasInterfaces files file m (rows ++ row ∷ []) lists
    interface_missing lists e has n list at = has n list at ∙ sym (of_none e n)

    pub interface_nowhere : (lists : List (List ClassId)) → slice_index row 0 ≡ 0 → HasInterfaces files file m rows lists → HasInterfaces files file m (rows ++ row ∷ []) lists
    interface_nowhere lists e has n list at = has n list at ∙ sym (of_other n (λ h. absurd (omega (arith, h, e))))

    pub interface_added : (lists : List (List ClassId)) (j : ℕ) (c : ClassId) → slice_index row 0 ≡ suc j → found (token row) ≡ Some (class_seen c) → HasInterfaces files file m rows lists → HasInterfaces files file m (rows ++ row ∷ []) (added_at lists j c)
    interface_added lists j c k e has n list at = go (cases_eq n j) (cases_lt j (length lists))
      where
        go : (n ≡ j) ⊎ (n ≡ j → ⊥) → (j < length lists) ⊎ (length lists ≤ j) → map class_seen list ≡ found_by files file m (rows ++ row ∷ []) n
        go (inl same) (inl below) =
            let was = slice_get-get_or lists j [] below in
            let made : slice_index_or lists j [] ++ c ∷ [] ≡ list = cc (get_set_same lists j (slice_index_or lists j [] ++ c ∷ []) below, ap (slice_get (slice_set lists j (slice_index_or lists j [] ++ c ∷ []))) same, at) in
            ap (map class_seen) (sym made)
            ∙ map-append class_seen (slice_index_or lists j []) (c ∷ [])
            ∙ ap (λ is. is ++ class_seen c ∷ []) (has j (slice_index_or lists j []) was)
            ∙ sym (of_own j (class_seen c) k e)
            ∙ ap (found_by files file m (rows ++ row ∷ [])) (sym same)
        go (inl same) (inr past) =
            let here = slice_get_within (slice_set lists j (slice_index_or lists j [] ++ c ∷ [])) n list at in
            let same_length = ap length (set_past lists j (slice_index_or lists j [] ++ c ∷ []) past) in
            absurd (omega arith)
        go (inr other) where_is =
            has n list (sym (get_set_other lists j n (slice_index_or lists j [] ++ c ∷ []) other) ∙ at)
            ∙ sym (of_other n (λ h. other (omega (arith, h, k))))

  pub none_added : (lists : List (List ClassId)) → AreEmpty lists → HasInterfaces files file m [] lists
  none_added lists empty n list at = ap (map class_seen) (empty n list at)

pub empty_more : (xs : List (List ClassId)) → AreEmpty xs → AreEmpty (xs ++ [] ∷ [])
empty_more [] h zero rows e = cc e
empty_more [] h (suc n) rows e = cc e
empty_more (x ∷ xs) h zero rows e = h zero rows e
empty_more (x ∷ xs) h (suc n) rows e = empty_more xs (λ k. h (suc k)) n rows e

pub rows_more : (m : MetadataPart) (table n : ℕ) → n < row_count m table → take (n + 1) (rows_of m table) ≡ take n (rows_of m table) ++ row_of m table (suc n) ∷ []
rows_more m table n h = take_more (rows_of m table) n [] h

-- ---- a row that was read

module _ (files : List FilePart) (file : ℕ) (m : MetadataPart) (there : option_map (λ (p : FilePart). p.metadata) (slice_get files file) ≡ Some m) (n : ℕ) (within : n < row_count m interface_impls) (class interface : ℕ) (of_class : class ≡ slice_index (row_of m interface_impls (n + 1)) 0) (of_interface : interface ≡ slice_index (row_of m interface_impls (n + 1)) 1) where
  row_is : row_of m interface_impls (n + 1) ≡ row_of m interface_impls (suc n)
  row_is = ap (row_of m interface_impls) (add-one n)

  coded_is : (o : Option FilePart) → option_map (λ (p : FilePart). p.metadata) o ≡ Some m → on_some o (λ (f : FilePart). resolve (size_of (rows_alone files)) (rows_alone files) file (coded_type f.metadata TypeDefOrRef interface)) ≡ resolve (size_of (rows_alone files)) (rows_alone files) file (coded_type m TypeDefOrRef interface)
  coded_is None e = cc e
  coded_is (Some p) e = let same : p.metadata ≡ m = cc e in ap (λ x. resolve (size_of (rows_alone files)) (rows_alone files) file (coded_type x TypeDefOrRef interface)) same

  named : class_coded files file TypeDefOrRef interface ≡ resolve (size_of (rows_alone files)) (rows_alone files) file (coded_type m TypeDefOrRef (slice_index (row_of m interface_impls (suc n)) 1))
  named = coded_is (slice_get files file) there ∙ ap (λ i. resolve (size_of (rows_alone files)) (rows_alone files) file (coded_type m TypeDefOrRef i)) (of_interface ∙ ap (λ r. slice_index r 1) row_is)

  taken : take (n + 1) (rows_of m interface_impls) ≡ take n (rows_of m interface_impls) ++ row_of m interface_impls (suc n) ∷ []
  taken = rows_more m interface_impls n within

  module _ (lists : List (List ClassId)) (has : HasInterfaces files file m (take n (rows_of m interface_impls)) lists) where
    pub row_missing : None ≡ class_coded files file TypeDefOrRef interface → HasInterfaces files file m (take (n + 1) (rows_of m interface_impls)) lists
    row_missing e = subst (λ rows. HasInterfaces files file m rows lists) (sym taken) (interface_missing files file m (take n (rows_of m interface_impls)) (row_of m interface_impls (suc n)) lists (sym (e ∙ named)) has)

    pub row_nowhere : class ≡ 0 → HasInterfaces files file m (take (n + 1) (rows_of m interface_impls)) lists
    row_nowhere e = subst (λ rows. HasInterfaces files file m rows lists) (sym taken) (interface_nowhere files file m (take n (rows_of m interface_impls)) (row_of m interface_impls (suc n)) lists (sym (of_class ∙ ap (λ r. slice_index r 0) row_is) ∙ e) has)

    pub row_added : (j : ℕ) (c : ClassId) (new : List (List ClassId)) → class ≡ suc j → Some (class_seen c) ≡ class_coded files file TypeDefOrRef interface → new ≡ added_at lists j c → HasInterfaces files file m (take (n + 1) (rows_of m interface_impls)) new
    row_added j c new e f g =
        subst (λ rows. HasInterfaces files file m rows new) (sym taken)
        (subst (HasInterfaces files file m (take n (rows_of m interface_impls) ++ row_of m interface_impls (suc n) ∷ [])) (sym g)
        (interface_added files file m (take n (rows_of m interface_impls)) (row_of m interface_impls (suc n)) lists j c (sym (of_class ∙ ap (λ r. slice_index r 0) row_is) ∙ e) (sym (f ∙ named)) has))

pub on_ok : {A E : Type 0} (r : Result A E) (P Q : Type 0) → (P → Q) → OnOk r P → OnOk r Q
on_ok (Ok x) P Q f p = f p
on_ok (Err e) P Q f p = p
