-- The order, a step at a time.
use Rattle.std.proofs.Common.{◌≡◌, ℕ, zero, suc, ◌+◌, ◌<◌, ◌≤◌, List, [], ◌∷◌, length, map, get_or, below_more, Option, Some, None, refl, sym, ap, ◌∙◌, subst, arith}
use Rattle.std.specs.Prelude.{slice_get}
use Rattle.std.specs.Option.{option_map, option_map_or}
use Rattle.std.proofs.Math.Path.{fun_ext}
use Rattle.plain_types.specs.declared.fault.Fault.{Fault}
use Rattle.plain_types.specs.declared.fault.TheConstants.{WHOLE_FILE}
use Rattle.file_tables.specs.Metadata.{MetadataPart, rows_of, row_count}
use Rattle.file_tables.specs.File.{FilePart}
use Rattle.machine.specs.Throw.{on_some}
use Rattle.assemblies.proofs.Back.{get_within}
use Rattle.verdict_rules.specs.Order.{Test, TableRules, FileRules, first_fault, each, table_fault, file_fault, phase_fault}
use Rattle.verdict_rules.specs.World.{World, world_of}
use Rattle.verdict_rules.specs.Types.{type_rules}
use Rattle.verdict_rules.specs.Verdict.{member_rules, profile}
use Rattle.profile_subject.specs.Faults.{row_fault}
use Rattle.profile_order.specs.declared.tables.ProfileTable.{ProfileTable}
use Rattle.profile_order.specs.declared.tables.Phase.{Phase}
use Rattle.profile_order.specs.declared.tables.Phase.TheVariants.{Types, Members}
use Rattle.profile_order.specs.Tables.{number_of, tests_of, rules_of, tables_of, whole_tests, phase_rules}
use Rattle.profile_order.specs.Told.{rows_in, row_told, table_told, tables_told, whole_told, file_told, phase_told}

-- ---- the first fault of numbered things

-- the first of two
abbrev pub after : Option Fault → Option Fault → Option Fault
after first rest = elim first as (λ _. Option Fault) [ None ↦ rest | Some found ↦ Some found ]

pub after_none : (first rest : Option Fault) → first ≡ None → after first rest ≡ rest
after_none None rest e = refl
after_none (Some found) rest e = absurd (cc e)

pub after_some : (first rest : Option Fault) (fault : Fault) → first ≡ Some fault → after first rest ≡ Some fault
after_some None rest fault e = absurd (cc e)
after_some (Some found) rest fault e = e

module _ {A : Type 0} (f : ℕ → A → Option Fault) where
  pub each_none : (n : ℕ) (xs : List A) → ((k : ℕ) (x : A) → slice_get xs k ≡ Some x → f (n + k) x ≡ None) → each f n xs ≡ None
  each_none n [] h = refl
  each_none n (x ∷ xs) h =
      let here : n + 0 ≡ n = omega arith in
      after_none (f n x) (each f (suc n) xs) (ap (λ m. f m x) (sym here) ∙ h 0 x refl)
      ∙ each_none (suc n) xs (λ k y e. let next : suc n + k ≡ n + suc k = omega arith in ap (λ m. f m y) next ∙ h (suc k) y e)

  pub each_some : (n : ℕ) (xs : List A) (k : ℕ) (x : A) (fault : Fault) → slice_get xs k ≡ Some x → f (n + k) x ≡ Some fault → ((j : ℕ) (y : A) → j < k → slice_get xs j ≡ Some y → f (n + j) y ≡ None) → each f n xs ≡ Some fault
  each_some n [] k x fault e found before = absurd (cc e)
  each_some n (y ∷ ys) zero x fault e found before =
      let here : n + 0 ≡ n = omega arith in
      let same : y ≡ x = cc e in
      after_some (f n y) (each f (suc n) ys) fault (ap (f n) same ∙ (ap (λ m. f m x) (sym here) ∙ found))
  each_some n (y ∷ ys) (suc k) x fault e found before =
      let here : n + 0 ≡ n = omega arith in
      let there : suc n + k ≡ n + suc k = omega arith in
      after_none (f n y) (each f (suc n) ys) (ap (λ m. f m y) (sym here) ∙ before 0 y (omega arith) refl)
      ∙ each_some (suc n) ys k x fault e (ap (λ m. f m x) there ∙ found)
      (λ j z below at. let next : suc n + j ≡ n + suc j = omega arith in ap (λ m. f m z) next ∙ before (suc j) z (omega (arith, below)) at)

each_map : {A B : Type 0} (f : B → Option Fault) (g : A → B) (n m : ℕ) (xs : List A) → each (λ _ y. f y) n (map g xs) ≡ each (λ _ x. f (g x)) m xs
each_map f g n m [] = refl
each_map f g n m (x ∷ xs) = ap (after (f (g x))) (each_map f g (suc n) (suc m) xs)

-- ---- a table

module _ (file : ℕ) (rules : FilePart → TableRules) where
  abbrev told : Option FilePart → ℕ → Option Fault
  told o n = on_some o (λ x. row_fault file x.metadata (rules x) n)

  abbrev whole : Option FilePart → Option Fault
  whole o = on_some o (λ x. table_fault file x.metadata (rules x))

  abbrev of_row : FilePart → ℕ → List ℕ → Option Fault
  of_row x n row = first_fault file (rules x).table (suc n) ((rules x).tests n row)

  row_here : (x : FilePart) (n : ℕ) (row : List ℕ) → slice_get (rows_of x.metadata (rules x).table) n ≡ Some row → told (Some x) n ≡ of_row x n row
  row_here x n row e = ap (λ o. on_some o (of_row x n)) e

  at_zero : (x : FilePart) (k : ℕ) (row : List ℕ) → of_row x (0 + k) row ≡ of_row x k row
  at_zero x k row = let same : 0 + k ≡ k = omega arith in ap (λ m. of_row x m row) same

  no_fault : (o : Option FilePart) → ((n : ℕ) → n < option_map_or (λ x. row_count x.metadata (rules x).table) o 0 → told o n ≡ None) → whole o ≡ None
  no_fault None h = refl
  no_fault (Some x) h =
      each_none (of_row x) 0 (rows_of x.metadata (rules x).table)
      (λ k row e. at_zero x k row ∙ (sym (row_here x k row e) ∙ h k (get_within (rows_of x.metadata (rules x).table) k row e)))

  found_in : (x : FilePart) (n : ℕ) (fault : Fault) (at : Option (List ℕ)) → slice_get (rows_of x.metadata (rules x).table) n ≡ at → on_some at (of_row x n) ≡ Some fault → ((j : ℕ) → j < n → told (Some x) j ≡ None) → whole (Some x) ≡ Some fault
  found_in x n fault None e found before = absurd (cc found)
  found_in x n fault (Some row) e found before =
      each_some (of_row x) 0 (rows_of x.metadata (rules x).table) n row fault e (at_zero x n row ∙ found)
      (λ j z below at. at_zero x j z ∙ (sym (row_here x j z at) ∙ before j below))

  one_fault : (o : Option FilePart) (n : ℕ) (fault : Fault) → told o n ≡ Some fault → ((j : ℕ) → j < n → told o j ≡ None) → whole o ≡ Some fault
  one_fault None n fault found before = absurd (cc found)
  one_fault (Some x) n fault found before = found_in x n fault (slice_get (rows_of x.metadata (rules x).table) n) refl found before

pub table_kept : (files : List FilePart) (file : ℕ) (table : ProfileTable) (count : ℕ) → count ≡ rows_in files file table → ((n : ℕ) → n < count → row_told files file table n ≡ None) → table_told files file table ≡ None
unfolding rows_in row_told table_told
table_kept files file table count e h =
    no_fault file (λ x. rules_of (world_of files) file x table) (slice_get files file)
    (λ n below. h n (subst (λ m. n < m) (sym e) below))

pub table_broken : (files : List FilePart) (file : ℕ) (table : ProfileTable) (n : ℕ) (fault : Fault) → row_told files file table n ≡ Some fault → ((j : ℕ) → j < n → row_told files file table j ≡ None) → table_told files file table ≡ Some fault
unfolding row_told table_told
table_broken files file table n fault = one_fault file (λ x. rules_of (world_of files) file x table) (slice_get files file) n fault

counted : (o : Option FilePart) (m : MetadataPart) (table : ℕ) → option_map (λ (p : FilePart). p.metadata) o ≡ Some m → row_count m table ≡ option_map_or (λ x. row_count x.metadata table) o 0
counted None m table e = absurd (cc e)
counted (Some x) m table e = let same : x.metadata ≡ m = cc e in ap (λ z. row_count z table) (sym same)

pub count_is : (files : List FilePart) (file : ℕ) (table : ProfileTable) (m : MetadataPart) → option_map (λ (p : FilePart). p.metadata) (slice_get files file) ≡ Some m → row_count m (number_of table) ≡ rows_in files file table
unfolding rows_in
count_is files file table m e = counted (slice_get files file) m (number_of table) e

-- ---- the tables of a file

get_there : {A : Type 0} (xs : List A) (k : ℕ) (d : A) → k < length xs → slice_get xs k ≡ Some (get_or xs k d)
get_there [] k d below = absurd (omega (arith, below))
get_there (x ∷ xs) zero d below = refl
get_there (x ∷ xs) (suc k) d below = get_there xs k d (omega (arith, below))

pub tables_kept : (files : List FilePart) (file : ℕ) (tables : List ProfileTable) (k : ℕ) → length tables ≤ k → ((j : ℕ) (table : ProfileTable) → j < k → slice_get tables j ≡ Some table → table_told files file table ≡ None) → tables_told files file tables ≡ None
unfolding tables_told
tables_kept files file tables k all h =
    each_none (λ _ table. table_told files file table) 0 tables
    (λ j table at. h j table (let inside : j < length tables = get_within tables j table at in omega (arith, inside, all)) at)

pub tables_broken : (files : List FilePart) (file : ℕ) (tables : List ProfileTable) (k : ℕ) (d : ProfileTable) (fault : Fault) → k < length tables → table_told files file (get_or tables k d) ≡ Some fault → ((j : ℕ) (other : ProfileTable) → j < k → slice_get tables j ≡ Some other → table_told files file other ≡ None) → tables_told files file tables ≡ Some fault
unfolding tables_told
tables_broken files file tables k d fault below found before = each_some (λ _ table. table_told files file table) 0 tables k (get_or tables k d) fault (get_there tables k d below) found before

pub tables_more : (files : List FilePart) (file : ℕ) (tables : List ProfileTable) (k : ℕ) (d : ProfileTable) → k < length tables → table_told files file (get_or tables k d) ≡ None → ((j : ℕ) (other : ProfileTable) → j < k → slice_get tables j ≡ Some other → table_told files file other ≡ None) → (j : ℕ) (other : ProfileTable) → j < k + 1 → slice_get tables j ≡ Some other → table_told files file other ≡ None
tables_more files file tables k d below here before j other under at =
    below_more (λ i. (table : ProfileTable) → slice_get tables i ≡ Some table → table_told files file table ≡ None) k
    (λ i less table e. before i table less e)
    (λ table e. let is : slice_get tables k ≡ Some (get_or tables k d) = get_there tables k d below in let same : get_or tables k d ≡ table = cc (e, is) in ap (table_told files file) (sym same) ∙ here)
    j under other at

-- ---- a file

table_here : (files : List FilePart) (file : ℕ) (x : FilePart) (table : ProfileTable) → slice_get files file ≡ Some x → table_told files file table ≡ table_fault file x.metadata (rules_of (world_of files) file x table)
unfolding table_told
table_here files file x table e = ap (λ o. on_some o (λ x. table_fault file x.metadata (rules_of (world_of files) file x table))) e

tables_here : (files : List FilePart) (file : ℕ) (x : FilePart) (tables : List ProfileTable) → slice_get files file ≡ Some x → tables_told files file tables ≡ each (λ _ t. table_fault file x.metadata t) 0 (map (rules_of (world_of files) file x) tables)
unfolding tables_told
tables_here files file x tables e =
    ap (λ (f : ProfileTable → Option Fault). each (λ _ table. f table) 0 tables) (fun_ext (λ table. table_here files file x table e))
    ∙ sym (each_map (table_fault file x.metadata) (rules_of (world_of files) file x) 0 0 tables)

whole_here : (files : List FilePart) (file : ℕ) (x : FilePart) (phase : Phase) → slice_get files file ≡ Some x → whole_told files file phase ≡ first_fault file WHOLE_FILE 0 (whole_tests (world_of files) file x phase)
unfolding whole_told
whole_here files file x phase e = ap (λ o. on_some o (λ x. first_fault file WHOLE_FILE 0 (whole_tests (world_of files) file x phase))) e

file_by : (files : List FilePart) (file : ℕ) (x : FilePart) (phase : Phase) → slice_get files file ≡ Some x → file_told files file phase ≡ after (tables_told files file (tables_of phase)) (whole_told files file phase)
unfolding file_told
file_by files file x phase e =
    ap (λ o. on_some o (λ x. file_fault file x (phase_rules (world_of files) phase file x))) e
    ∙ (ap (λ first. after first (first_fault file WHOLE_FILE 0 (whole_tests (world_of files) file x phase))) (sym (tables_here files file x (tables_of phase) e))
    ∙ ap (after (tables_told files file (tables_of phase))) (sym (whole_here files file x phase e)))

pub file_there : (files : List FilePart) (file : ℕ) → file < length files → (x : FilePart) × (slice_get files file ≡ Some x)
file_there [] file below = absurd (omega (arith, below))
file_there (x ∷ xs) zero below = (x, refl)
file_there (x ∷ xs) (suc file) below = file_there xs file (omega (arith, below))

pub file_broken : (files : List FilePart) (file : ℕ) (phase : Phase) (fault : Fault) → file < length files → tables_told files file (tables_of phase) ≡ Some fault → file_told files file phase ≡ Some fault
file_broken files file phase fault below found =
    let at = file_there files file below in
    file_by files file at.0 phase at.1 ∙ after_some (tables_told files file (tables_of phase)) (whole_told files file phase) fault found

pub file_kept : (files : List FilePart) (file : ℕ) (phase : Phase) → file < length files → tables_told files file (tables_of phase) ≡ None → file_told files file phase ≡ whole_told files file phase
file_kept files file phase below kept =
    let at = file_there files file below in
    file_by files file at.0 phase at.1 ∙ after_none (tables_told files file (tables_of phase)) (whole_told files file phase) kept

-- ---- a phase

file_here : (files : List FilePart) (file : ℕ) (x : FilePart) (phase : Phase) → slice_get files file ≡ Some x → file_told files file phase ≡ file_fault file x (phase_rules (world_of files) phase file x)
unfolding file_told
file_here files file x phase e = ap (λ o. on_some o (λ x. file_fault file x (phase_rules (world_of files) phase file x))) e

at_first : (files : List FilePart) (phase : Phase) (k : ℕ) (x : FilePart) → slice_get files k ≡ Some x → file_fault (0 + k) x (phase_rules (world_of files) phase (0 + k) x) ≡ file_told files k phase
at_first files phase k x e =
    let same : 0 + k ≡ k = omega arith in
    ap (λ m. file_fault m x (phase_rules (world_of files) phase m x)) same ∙ sym (file_here files k x phase e)

pub phase_kept : (files : List FilePart) (phase : Phase) (count : ℕ) → count ≡ length files → ((n : ℕ) → n < count → file_told files n phase ≡ None) → phase_told files phase ≡ None
unfolding phase_told
phase_kept files phase count e h =
    each_none (λ file x. file_fault file x (phase_rules (world_of files) phase file x)) 0 files
    (λ k x at. at_first files phase k x at ∙ h k (subst (λ m. k < m) (sym e) (get_within files k x at)))

pub phase_broken : (files : List FilePart) (phase : Phase) (n : ℕ) (fault : Fault) → n < length files → file_told files n phase ≡ Some fault → ((j : ℕ) → j < n → file_told files j phase ≡ None) → phase_told files phase ≡ Some fault
unfolding phase_told
phase_broken files phase n fault below found before =
    let at = file_there files n below in
    each_some (λ file x. file_fault file x (phase_rules (world_of files) phase file x)) 0 files n at.0 fault at.1 (at_first files phase n at.0 at.1 ∙ found)
    (λ j y under here. at_first files phase j y here ∙ before j under)

-- ---- the profile

last : (o : Option Fault) → after o None ≡ o
last None = refl
last (Some fault) = refl

profile_by : (files : List FilePart) → profile files ≡ after (phase_told files Types) (phase_told files Members)
unfolding profile phase_told
profile_by files = ap (after (phase_fault (phase_rules (world_of files) Types) files)) (last (phase_fault (phase_rules (world_of files) Members) files))

pub profile_broken : (files : List FilePart) (fault : Fault) → phase_told files Types ≡ Some fault → profile files ≡ Some fault
profile_broken files fault found = profile_by files ∙ after_some (phase_told files Types) (phase_told files Members) fault found

pub profile_kept : (files : List FilePart) → phase_told files Types ≡ None → profile files ≡ phase_told files Members
profile_kept files kept = profile_by files ∙ after_none (phase_told files Types) (phase_told files Members) kept

-- ---- a row

-- what is told of a row by its tests
pub row_by : (files : List FilePart) (file : ℕ) (table : ProfileTable) (n : ℕ) (result : Option Fault) → file < length files → ((x : FilePart) → slice_get files file ≡ Some x → result ≡ row_fault file x.metadata (rules_of (world_of files) file x table) n) → result ≡ row_told files file table n
unfolding row_told
row_by files file table n result below h =
    let at = file_there files file below in
    h at.0 at.1 ∙ sym (ap (λ o. on_some o (λ x. row_fault file x.metadata (rules_of (world_of files) file x table) n)) at.1)

rows_there : {A : Type 0} (xs : List A) (n : ℕ) → n < length xs → (x : A) × (slice_get xs n ≡ Some x)
rows_there [] n below = absurd (omega (arith, below))
rows_there (x ∷ xs) zero below = (x, refl)
rows_there (x ∷ xs) (suc n) below = rows_there xs n (omega (arith, below))

row_count_here : (files : List FilePart) (file : ℕ) (x : FilePart) (table : ProfileTable) → slice_get files file ≡ Some x → rows_in files file table ≡ length (rows_of x.metadata (number_of table))
unfolding rows_in
row_count_here files file x table e = ap (λ o. option_map_or (λ x. row_count x.metadata (number_of table)) o 0) e

-- the same of a row that is there
pub tests_by : (files : List FilePart) (file : ℕ) (table : ProfileTable) (n : ℕ) (result : Option Fault) → file < length files → n < rows_in files file table → ((x : FilePart) (row : List ℕ) → slice_get files file ≡ Some x → slice_get (rows_of x.metadata (number_of table)) n ≡ Some row → result ≡ first_fault file (number_of table) (suc n) (tests_of (world_of files) file x table n row)) → result ≡ row_told files file table n
tests_by files file table n result there below h =
    row_by files file table n result there
    (λ x e.
    let at : (row : List ℕ) × (slice_get (rows_of x.metadata (number_of table)) n ≡ Some row) = rows_there (rows_of x.metadata (number_of table)) n (subst (λ m. n < m) (row_count_here files file x table e) below) in
    h x at.0 e at.1 ∙ sym (ap (λ o. on_some o (λ row. first_fault file (number_of table) (suc n) (tests_of (world_of files) file x table n row))) at.1))

-- of a whole file
pub whole_by : (files : List FilePart) (file : ℕ) (phase : Phase) (result : Option Fault) → file < length files → ((x : FilePart) → slice_get files file ≡ Some x → result ≡ first_fault file WHOLE_FILE 0 (whole_tests (world_of files) file x phase)) → result ≡ whole_told files file phase
whole_by files file phase result below h =
    let at = file_there files file below in
    h at.0 at.1 ∙ sym (whole_here files file at.0 phase at.1)
