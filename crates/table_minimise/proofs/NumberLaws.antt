-- How many rows a world's files have.
use Rattle.std.proofs.Common.{◌≡◌, ⊎_elim, ℕ, zero, suc, ◌+◌, ◌<◌, ◌≤◌, List, [], ◌∷◌, ◌++◌, map, length, length-append, Option, Some, None, refl, sym, ap, ◌∙◌, subst, arith}
use Rattle.std.specs.Prelude.{slice_get, unwrap_or}
use Rattle.std.specs.Option.{option_map}
use Rattle.std.proofs.lemmas.List.{length-map}
use Rattle.std.proofs.lemmas.Option.{slice_get_within}
use Rattle.file_tables.specs.Metadata.{MetadataPart}
use Rattle.file_tables.specs.File.{FilePart}
use Rattle.row_closure.proofs.Places.{get_push}
use Rattle.assemblies.specs.Rows.{Assembly}
use Rattle.assemblies.proofs.Back.{get_there}
use Rattle.world_rows.specs.World.{rows_alone, assemblies_of, size_of, assembly_with}
use Rattle.class_table.specs.declared.rows.FileRows.{FileRows}
use Rattle.class_table.specs.declared.rows.ClassTable.{ClassTable}
use Rattle.class_table.specs.Outlines.{outline_of, outline_seen}
use Rattle.class_table.specs.Whole.{IsTable}
use Rattle.class_table.proofs.TableLaws.{assembly_at}
use Rattle.class_reading.proofs.LibraryLaws.{length_numbered}
use Rattle.class_queries.specs.Numbers.{count_at, start_at, total_of}
use Rattle.kept_numbers.specs.Numbers.{rows_in, rows_from, all_rows, row_count, start_of}
use Rattle.row_numbers.specs.declared.table.Table.TheVariants as table
use Rattle.row_numbers.specs.declared.table.PerTable.{PerTable}
use Rattle.row_numbers.specs.Tables.{AreCounts, before, start_by, range_in, range_by}
use Rattle.row_numbers.proofs.NumberLaws.{place_is, same_start}
use Rattle.row_counts.specs.Counts.{IsCount, AreCountsOf}

-- ---- the rows before an assembly's, and those of all

counted : (f : ℕ) (p : Assembly) → length (rows_in f p) ≡ row_count p
counted f p = simp (length-append, length_numbered)

nothing_before : (ps : List Assembly) → start_of ps 0 ≡ 0
nothing_before [] = refl
nothing_before (p ∷ ps) = refl

start_next : (ps : List Assembly) (f : ℕ) (p : Assembly) → slice_get ps f ≡ Some p → start_of ps (suc f) ≡ start_of ps f + row_count p
start_next [] f p at = absurd (cc at)
start_next (q ∷ ps) zero p at =
    let same : q ≡ p = cc at in
    let none = nothing_before ps in
    let rows : row_count q ≡ row_count p = ap row_count same in
    omega (arith, none, rows)
start_next (q ∷ ps) (suc f) p at = let more = start_next ps f p at in omega (arith, more)

start_more : (ps : List Assembly) (f : ℕ) → start_of ps f ≤ start_of ps (suc f)
start_more [] f = omega arith
start_more (q ∷ ps) zero = omega arith
start_more (q ∷ ps) (suc f) = let more = start_more ps f in omega (arith, more)

all_are : (from : ℕ) (ps : List Assembly) → length (rows_from from ps) ≡ start_of ps (length ps)
all_are from [] = refl
all_are from (p ∷ ps) =
    let both = length-append (rows_in from p) (rows_from (suc from) ps) in
    let here = counted from p in
    let rest = all_are (suc from) ps in
    omega (arith, both, here, rest)

-- ---- the number behind the last row

module _ (ps : List Assembly) (counts : List PerTable) (are : AreCounts ps counts) where
  behind_last : (f : ℕ) (p : Assembly) (c : PerTable) → slice_get ps f ≡ Some p → slice_get counts f ≡ Some c → length ps ≡ suc f → start_by counts f + before c table.TypeSpec + c.specs ≡ length (all_rows ps)
  behind_last f p c at e size =
      let start = same_start ps counts are f in
      let next = start_next ps f p at in
      let all = all_are 0 ps in
      let last : start_of ps (length ps) ≡ start_of ps (suc f) = ap (start_of ps) size in
      let specs = are.each f p c table.TypeSpec at e in
      let place = place_is ps counts are f p c table.TypeSpec (length p.specs) at e in
      omega (arith, start, next, all, last, specs, place)

  pub range_ends : (f : ℕ) → length ps ≡ suc f → (range_by counts table.TypeSpec f).first + (range_by counts table.TypeSpec f).count ≡ length (all_rows ps)
  range_ends f size =
      let p = get_there ps f (omega (arith, size)) in
      let long = are.files in
      let c = get_there counts f (omega (arith, size, long)) in
      ap (λ o. (range_in counts table.TypeSpec f o).first + (range_in counts table.TypeSpec f o).count) c.1 ∙ behind_last f p.0 c.0 p.1 c.1 size

-- ---- types

module _ (files : List FilePart) (t : ClassTable) (world : IsTable files t) where
  abbrev k : ℕ
  k = size_of (rows_alone files)

  abbrev ps : List Assembly
  ps = assemblies_of files

  of_file : (f : ℕ) (x : FileRows) → slice_get t.files.items f ≡ Some x → (p : Assembly) × ((slice_get ps f ≡ Some p) × (length x.classes.items ≤ row_count p))
  of_file f x e =
      let long = world.count in
      let inside = slice_get_within t.files.items f x e in
      let y = get_there files f (omega (arith, long, inside)) in
      let p = assembly_with k files (rows_alone files) f y.0 in
      let at : slice_get ps f ≡ Some p = assembly_at files t world f ∙ ap (option_map (assembly_with k files (rows_alone files) f)) y.1 in
      let seen : map outline_seen x.classes.items ≡ map (outline_of k ps f) p.types =
      (world.rows f x e).classes ∙ ap (λ o. unwrap_or (option_map (λ (q : Assembly). map (outline_of k ps f) q.types) o) []) at in
      let many : length x.classes.items ≡ length p.types = sym (length-map x.classes.items outline_seen) ∙ ap length seen ∙ length-map p.types (outline_of k ps f) in
      (p, (at, omega (arith, many)))

  few_before : (f : ℕ) → start_at t f ≤ start_of ps f
  few_before zero = omega arith
  few_before (suc f) = go (slice_get t.files.items f) refl (few_before f)
    where
      go : (o : Option FileRows) → slice_get t.files.items f ≡ o → start_at t f ≤ start_of ps f → start_at t f + count_at t f ≤ start_of ps (suc f)
      go None e few =
          let none : count_at t f ≡ 0 = ap (λ o. unwrap_or (option_map (λ (x : FileRows). length x.classes.items) o) 0) e in
          let more = start_more ps f in
          omega (arith, none, more, few)
      go (Some x) e few =
          let some : count_at t f ≡ length x.classes.items = ap (λ o. unwrap_or (option_map (λ (x : FileRows). length x.classes.items) o) 0) e in
          let p = of_file f x e in
          let next = start_next ps f p.0 p.1.0 in
          let rows = p.1.1 in
          omega (arith, some, next, few, rows)

  as_long : length ps ≡ length files
  unfolding assemblies_of
  as_long = length_numbered (assembly_with k files (rows_alone files)) 0 files

  -- no more types than rows
  types_few : total_of t ≤ length (all_rows ps)
  types_few =
      let few = few_before (length t.files.items) in
      let long = world.count in
      let same = as_long in
      let last : start_of ps (length t.files.items) ≡ start_of ps (length ps) = ap (start_of ps) (long ∙ sym same) in
      let all = all_are 0 ps in
      omega (arith, few, last, all)

-- where all rows have numbers, types are few
pub few_types : (files : List FilePart) (count : ℕ) → count ≡ length (all_rows (assemblies_of files)) → count < 4294967296 → (t : ClassTable) → IsTable files t → total_of t < 4294967296
few_types files count all low t world = let few = types_few files t world in omega (arith, few, all, low)

pub files_counted : (files : List FilePart) → length (assemblies_of files) ≡ length files
unfolding assemblies_of
files_counted files = length_numbered (assembly_with (size_of (rows_alone files)) files (rows_alone files)) 0 files

-- ---- counts file by file

module _ (files : List FilePart) where
  pub record CountsTo (n : ℕ) (counts : List PerTable) : Type 0 where
    pub count : length counts ≡ n
    pub each : (f : ℕ) (x : FilePart) (c : PerTable) → slice_get files f ≡ Some x → slice_get counts f ≡ Some c → IsCount x.metadata c

  pub none_counted : CountsTo 0 []
  none_counted = record { count = refl; each = λ f x c at e. absurd (cc e) }

  pub one_counted : (n : ℕ) (counts : List PerTable) (m : MetadataPart) (c : PerTable) → CountsTo n counts → option_map (λ (x : FilePart). x.metadata) (slice_get files n) ≡ Some m → IsCount m c → CountsTo (n + 1) (counts ++ c ∷ [])
  one_counted n counts m c w at is = record {
    count = let long = length-append counts (c ∷ []) in let many = w.count in omega (arith, long, many);
    each =
        λ f x d there e.
        ⊎_elim
        (λ h. w.each f x d there h)
        (λ h.
        let here : f ≡ n = h.0 ∙ w.count in
        let both : Some m ≡ Some x.metadata = sym at ∙ ap (λ k. option_map (λ (y : FilePart). y.metadata) (slice_get files k)) (sym here) ∙ ap (option_map (λ (y : FilePart). y.metadata)) there in
        let same : m ≡ x.metadata = cc both in
        subst (λ z. IsCount x.metadata z) (sym h.1) (subst (λ k. IsCount k c) same is))
        (get_push counts c f d e);
  }

  pub all_counted : (n : ℕ) (counts : List PerTable) → n ≡ length files → CountsTo n counts → AreCountsOf files counts
  all_counted n counts e w = record { count = w.count ∙ e; each = w.each }
