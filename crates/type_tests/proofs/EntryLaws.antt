-- The first file with an entry, and the entry.
use Rattle.std.proofs.Common.{◌≡◌, ◌∙◌, ℕ, zero, suc, ◌+◌, ◌≤◌, Bool, cond, true, false, List, [], ◌∷◌, length, take, drop, Option, Some, None, refl, sym, ap, arith, add-one}
use Rattle.std.specs.Prelude.{slice_get, slice_index, not, is_some, ◌==◌, ◌&&◌, ◌||◌, if◌then◌else◌}
use Rattle.std.specs.List.{list_any, position}
use Rattle.std.specs.Option.{option_map}
use Rattle.std.proofs.lemmas.Bool.{le-leb, ne_eqb}
use Rattle.std.proofs.lemmas.List.{drop_more, drop_all}
use Rattle.std.proofs.lemmas.Option.{get_or_from_slice_get, slice_get_within}
use Rattle.file_tables.specs.Bytes.{has_bit}
use Rattle.file_tables.specs.Pe.{PePart}
use Rattle.file_tables.specs.Metadata.{MetadataPart, rows_of}
use Rattle.file_tables.specs.File.{FilePart}
use Rattle.machine.specs.Data.{Id}
use Rattle.machine.specs.Program.{Body}
use Rattle.machine.specs.Throw.{on_some}
use Rattle.classes.specs.Classes.{Classes}
use Rattle.classes.specs.Queries.{method_at}
use Rattle.kept_rows.proofs.SelectLaws.{position_step}
use Rattle.assemblies.specs.Rows.{Assembly, MethodRow}
use Rattle.assemblies.specs.Binding.{entry_from, id_at, numbered}
use Rattle.assemblies.proofs.Numbered.{get_numbered}
use Rattle.world_rows.specs.Tokens.{methods}
use Rattle.world_rows.specs.Rows.{entry_named, method_row}
use Rattle.world_rows.specs.Natives.{body_of_native}
use Rattle.world_rows.specs.World.{rows_alone, size_of, assembly_with, assemblies_of, ecma_sources}
use Rattle.member_reading.proofs.DataLaws.{numbered_length}
use Rattle.class_table.specs.declared.rows.ClassTable.{ClassTable}
use Rattle.class_table.specs.Seen.{classes_seen}
use Rattle.class_table.specs.Whole.{IsTable}
use Rattle.class_table.proofs.TableLaws.{table_law}
use Rattle.class_rules.specs.Rules.{holds_some, is_main, only_if}
use Rattle.class_checks.specs.Entry.{entry_test}
use Rattle.verdict_rules.specs.World.{world_of}
use Rattle.verdict_rules.specs.Types.{has_entry, begins_in, own_entry_well, some_entry}
use Rattle.type_tests.specs.Columns.{precedes}
use Rattle.type_tests.specs.Entries.{entry_after, is_static_row}
use Rattle.type_tests.proofs.ListLaws.{any_before, precedes_next}

from_none : (n : ℕ) → 0 + n ≡ n
from_none n = omega arith

drop_there : {A : Type 0} (xs : List A) (n : ℕ) (x : A) → slice_get xs n ≡ Some x → drop n xs ≡ x ∷ drop (n + 1) xs
drop_there xs n x e = drop_more xs n x (slice_get_within xs n x e) ∙ ap (λ y. y ∷ drop (n + 1) xs) (get_or_from_slice_get xs n x x e)

pub none_if : {A : Type 0} (o : Option A) → ((x : A) → o ≡ Some x → ⊥) → o ≡ None
none_if None h = refl
none_if (Some x) h = absurd (h x refl)

-- ---- the first file

pub any_some : {A : Type 0} (test : A → Bool) (xs : List A) → list_any test xs ≡ is_some (position test xs)
any_some test [] = refl
any_some test (x ∷ xs) = go (test x) (any_some test xs) ∙ sym (ap is_some (position_step test x xs))
  where
    next : (o : Option ℕ) → is_some o ≡ is_some (option_map suc o)
    next None = refl
    next (Some n) = refl

    go : (b : Bool) → list_any test xs ≡ is_some (position test xs) → (b || list_any test xs) ≡ is_some (cond b (Some 0) (option_map suc (position test xs)))
    go true ih = refl
    go false ih = ih ∙ next (position test xs)

as_far : (n : ℕ) (o : Option ℕ) → is_some (option_map (λ k. n + k) o) ≡ is_some o
as_far n None = refl
as_far n (Some k) = refl

-- a file behind the base library's has an entry
pub some_is : (files : List FilePart) → list_any has_entry (drop 2 files) ≡ is_some (entry_after files 2)
some_is files = any_some has_entry (drop 2 files) ∙ sym (as_far 2 (position has_entry (drop 2 files)))

-- an earlier one has
pub earlier_is : (files : List FilePart) (file : ℕ) → 2 ≤ file → list_any has_entry (drop 2 (take file files)) ≡ precedes file (entry_after files 2)
earlier_is files zero h = absurd (omega (arith, h))
earlier_is files (suc zero) h = absurd (omega (arith, h))
earlier_is [] (suc (suc n)) h = refl
earlier_is (x ∷ []) (suc (suc n)) h = refl
earlier_is (x ∷ y ∷ files) (suc (suc n)) h = any_before has_entry files n ∙ sym (two_more (position has_entry files))
  where
    by_two : (o : Option ℕ) → option_map (λ k. 2 + k) o ≡ option_map suc (option_map suc o)
    by_two None = refl
    by_two (Some k) = let same : 2 + k ≡ suc (suc k) = omega arith in ap Some same

    two_more : (o : Option ℕ) → precedes (suc (suc n)) (option_map (λ k. 2 + k) o) ≡ precedes n o
    two_more o = ap (precedes (suc (suc n))) (by_two o) ∙ precedes_next (suc n) (option_map suc o) ∙ precedes_next n o

module _ (files : List FilePart) (n : ℕ) (pe : PePart) (there : option_map (λ (p : FilePart). p.pe) (slice_get files n) ≡ Some pe) where
  pe_there : (x : FilePart) × (slice_get files n ≡ Some x) × (x.pe ≡ pe)
  pe_there = go (slice_get files n) refl there
    where
      go : (o : Option FilePart) → slice_get files n ≡ o → option_map (λ (p : FilePart). p.pe) o ≡ Some pe → (x : FilePart) × (slice_get files n ≡ Some x) × (x.pe ≡ pe)
      go None e f = cc f
      go (Some x) e f = (x, e, cc f)

  by_token : (b : Bool) → (pe.entry == 0) ≡ b → entry_after files n ≡ option_map (λ k. n + k) (cond (not b) (Some 0) (option_map suc (position has_entry (drop (n + 1) files))))
  by_token b e =
      ap (λ (fs : List FilePart). option_map (λ k. n + k) (position has_entry fs)) (drop_there files n pe_there.0 pe_there.1)
      ∙ ap (option_map (λ k. n + k)) (position_step has_entry pe_there.0 (drop (n + 1) files))
      ∙ ap (λ (y : PePart). option_map (λ k. n + k) (cond (not (y.entry == 0)) (Some 0) (option_map suc (position has_entry (drop (n + 1) files))))) pe_there.2
      ∙ ap (λ b. option_map (λ k. n + k) (cond (not b) (Some 0) (option_map suc (position has_entry (drop (n + 1) files))))) e

  pub first_here : (pe.entry ≡ 0 → ⊥) → entry_after files n ≡ Some n
  first_here some = let same : n + 0 ≡ n = omega arith in by_token false (ne_eqb pe.entry 0 some) ∙ ap Some same

  pub first_behind : pe.entry ≡ 0 → entry_after files n ≡ entry_after files (n + 1)
  first_behind none = by_token true (ap (λ k. k == 0) none) ∙ go (position has_entry (drop (n + 1) files))
    where
      go : (o : Option ℕ) → option_map (λ k. n + k) (option_map suc o) ≡ option_map (λ k. (n + 1) + k) o
      go None = refl
      go (Some k) = let same : n + suc k ≡ (n + 1) + k = omega arith in ap Some same

pub first_nowhere : (files : List FilePart) (n : ℕ) → length files ≤ n → entry_after files n ≡ None
first_nowhere files n past = ap (λ (fs : List FilePart). option_map (λ k. n + k) (position has_entry fs)) (drop_all n files past)

-- ---- the entry

base_alone : (k : ℕ) (all : List FilePart) (ps : List Assembly) (xs : List FilePart) → 2 ≤ length xs → entry_from 0 (numbered (assembly_with k all ps) 0 xs) ≡ entry_from 2 (drop 2 (numbered (assembly_with k all ps) 0 xs))
base_alone k all ps [] h = absurd (omega (arith, h))
base_alone k all ps (x ∷ []) h = absurd (omega (arith, h))
base_alone k all ps (x ∷ y ∷ xs) h = refl

pub entry_begins : (files : List FilePart) → 2 ≤ length files → (ecma_sources files).entry ≡ entry_from 2 (drop 2 (assemblies_of files))
unfolding assemblies_of
entry_begins files h = base_alone (size_of (rows_alone files)) files (rows_alone files) files h

pub entry_ends : (files : List FilePart) (n : ℕ) → length files ≤ n → entry_from n (drop n (assemblies_of files)) ≡ None
unfolding assemblies_of
entry_ends files n past =
    let as_many = numbered_length (assembly_with (size_of (rows_alone files)) files (rows_alone files)) 0 files in
    ap (entry_from n) (drop_all n (numbered (assembly_with (size_of (rows_alone files)) files (rows_alone files)) 0 files) (omega arith))

-- one file's
abbrev entry_by : ℕ → List Assembly → List MethodRow → Option ℕ → Option Id
entry_by n rest rows entry = elim entry [ None ↦ entry_from (suc n) rest | Some row ↦ on_some (slice_get rows row) (λ (m : MethodRow). if m.is_static then Some (id_at n row) else None) ]

static_is : (x : FilePart) (natives : ℕ → Body) (n row : ℕ) → on_some (slice_get (numbered (method_row x natives) 0 (rows_of x.metadata methods)) row) (λ (m : MethodRow). if m.is_static then Some (id_at n row) else None) ≡ (if is_static_row x.metadata row then Some (id_at n row) else None)
static_is x natives n row =
    ap (λ o. on_some o (λ (m : MethodRow). if m.is_static then Some (id_at n row) else None)) (get_numbered (method_row x natives) 0 row (rows_of x.metadata methods))
    ∙ go (slice_get (rows_of x.metadata methods) row)
  where
    go : (o : Option (List ℕ)) → on_some (option_map (method_row x natives (0 + row)) o) (λ (m : MethodRow). if m.is_static then Some (id_at n row) else None) ≡ (if holds_some o (λ r. has_bit (slice_index r 2) 4) then Some (id_at n row) else None)
    go None = refl
    go (Some r) = refl

module _ (files : List FilePart) (n : ℕ) (behind : 2 ≤ n) (pe : PePart) (there : option_map (λ (p : FilePart). p.pe) (slice_get files n) ≡ Some pe) where
  abbrev natives : ℕ → Body
  natives row = body_of_native (size_of (rows_alone files)) (rows_alone files) (id_at n row)

  assembly_at : (x : FilePart) → slice_get files n ≡ Some x → slice_get (assemblies_of files) n ≡ Some (assembly_with (size_of (rows_alone files)) files (rows_alone files) n x)
  unfolding assemblies_of
  assembly_at x e =
      get_numbered (assembly_with (size_of (rows_alone files)) files (rows_alone files)) 0 n files
      ∙ ap (λ k. option_map (assembly_with (size_of (rows_alone files)) files (rows_alone files) k) (slice_get files n)) (from_none n)
      ∙ ap (option_map (assembly_with (size_of (rows_alone files)) files (rows_alone files) n)) e

  step : (x : FilePart) → slice_get files n ≡ Some x → entry_from n (drop n (assemblies_of files)) ≡ entry_by n (drop (n + 1) (assemblies_of files)) (numbered (method_row x natives) 0 (rows_of x.metadata methods)) (entry_named x.pe.entry)
  step x e =
      ap (entry_from n) (drop_there (assemblies_of files) n (assembly_with (size_of (rows_alone files)) files (rows_alone files) n x) (assembly_at x e))
      ∙ ap (λ b. entry_by n (drop (n + 1) (assemblies_of files)) (numbered (method_row x natives) 0 (rows_of x.metadata methods)) (if b then entry_named x.pe.entry else None)) (le-leb 2 n behind)

  found : (x : FilePart) × (slice_get files n ≡ Some x) × (x.pe ≡ pe)
  found = pe_there files n pe there

  by_named : (o : Option ℕ) → entry_named pe.entry ≡ o → entry_from n (drop n (assemblies_of files)) ≡ entry_by n (drop (n + 1) (assemblies_of files)) (numbered (method_row found.0 natives) 0 (rows_of found.0.metadata methods)) o
  by_named o e =
      step found.0 found.1
      ∙ ap (entry_by n (drop (n + 1) (assemblies_of files)) (numbered (method_row found.0 natives) 0 (rows_of found.0.metadata methods))) (ap (λ (y : PePart). entry_named y.entry) found.2 ∙ e)

  pub entry_behind : entry_named pe.entry ≡ None → entry_from n (drop n (assemblies_of files)) ≡ entry_from (n + 1) (drop (n + 1) (assemblies_of files))
  entry_behind none = by_named None none ∙ ap (λ k. entry_from k (drop (n + 1) (assemblies_of files))) (sym (add-one n))

  pub entry_here : (row : ℕ) (m : MetadataPart) → entry_named pe.entry ≡ Some row → option_map (λ (p : FilePart). p.metadata) (slice_get files n) ≡ Some m → entry_from n (drop n (assemblies_of files)) ≡ (if is_static_row m row then Some (id_at n row) else None)
  entry_here row m some of_file =
      let both : Some found.0.metadata ≡ Some m = sym (ap (option_map (λ (p : FilePart). p.metadata)) found.1) ∙ of_file in
      let same : found.0.metadata ≡ m = cc both in
      by_named (Some row) some
      ∙ static_is found.0 natives n row
      ∙ ap (λ (y : MetadataPart). if is_static_row y row then Some (id_at n row) else None) same

-- ---- a file in which the entry is

module _ (files : List FilePart) (t : ClassTable) (table : IsTable files t) (file : ℕ) where
  begins : Classes → Option Id → Bool
  begins cs o = holds_some o (λ (c : Id). c.file == file) && holds_some o (λ id. holds_some (cs.method_owner id) (λ owner. holds_some (method_at cs id) (is_main cs owner)))

  pub begins_is : (o : Option Id) → o ≡ (ecma_sources files).entry → begins_in (world_of files) file ≡ (holds_some o (λ (c : Id). c.file == file) && holds_some o (entry_test t))
  unfolding begins
  begins_is o e = ap (λ (cs : Classes). begins cs (ecma_sources files).entry) (sym (table_law files t table)) ∙ ap (begins (classes_seen t)) (sym e)

-- ---- what a file is told

pub last_is : (files : List FilePart) (file : ℕ) → (suc file == length files) ≡ true → (o : Option ℕ) → o ≡ entry_after files 2 → is_some o ≡ some_entry (world_of files) file
last_is files file last o e =
    ap is_some e
    ∙ sym (some_is files)
    ∙ sym (ap (λ b. only_if b (list_any has_entry (drop 2 files))) last)

module _ (files : List FilePart) (file : ℕ) (behind : 2 ≤ file) (x : FilePart) (at : slice_get files file ≡ Some x) (pe : PePart) (there : option_map (λ (p : FilePart). p.pe) (slice_get files file) ≡ Some pe) where
  pub own_is : not (pe.entry == 0) ≡ true → (earlier : Bool) → earlier ≡ precedes file (entry_after files 2) → own_entry_well (world_of files) file x ≡ (not earlier && begins_in (world_of files) file)
  own_is entered earlier e =
      let both : Some x.pe ≡ Some pe = sym (ap (option_map (λ (p : FilePart). p.pe)) at) ∙ there in
      let same : x.pe ≡ pe = cc both in
      ap (λ b. only_if (b && not (x.pe.entry == 0)) (not (list_any has_entry (drop 2 (take file files))) && begins_in (world_of files) file)) (le-leb 2 file behind)
      ∙ ap (λ (p : PePart). only_if (not (p.entry == 0)) (not (list_any has_entry (drop 2 (take file files))) && begins_in (world_of files) file)) same
      ∙ ap (λ b. only_if b (not (list_any has_entry (drop 2 (take file files))) && begins_in (world_of files) file)) entered
      ∙ ap (λ b. not b && begins_in (world_of files) file) (earlier_is files file behind ∙ sym e)
