-- The set of kept rows is found in the bank that holds it.
use Rattle.std.proofs.Common.{◌≡◌, ◌∙◌, ◌⊎◌, ℕ, zero, suc, ◌+◌, ◌-◌, ◌<◌, ◌≤◌, Bool, List, [], ◌∷◌, map, length, Some, None, sym, ap, subst, arith}
use Rattle.std.specs.Prelude.{slice_get}
use Rattle.std.specs.List.{zip}
use Rattle.std.proofs.lemmas.List.{length-map}
use Rattle.file_tables.specs.File.{FilePart}
use Rattle.assemblies.specs.Rows.{Assembly}
use Rattle.assemblies.specs.Chosen.{chosen, chosen_set}
use Rattle.assemblies.specs.Closed.{Each}
use Rattle.little_endian.specs.Numbers.{AreBytes}
use Rattle.image_bytes.specs.Layout as layout
use Rattle.image_bytes.specs.Layout.{onto}
use Rattle.image_form.specs.Whole.{bytes_at}
use Rattle.world_rows.specs.World.{assemblies_of}
use Rattle.deploy_model.specs.Banks.{ROOM, BODY, base, WholeSet, is_set, set_in, joined, entries}
use Rattle.deploy_model.specs.Moments.{IsDeployable}
use Rattle.deploy_laws.proofs.ReadBack.{set_reads}
use Rattle.boot_scan.specs.Images.{FORMAT}
use Rattle.boot_scan.proofs.SeenLaws.{is_format}
use Rattle.board_program.specs.Parts.{set_parts, rows_of_parts}
use Rattle.board_program.specs.Listed.{AreWhole}
use Rattle.converted.specs.Choosing.{choice_of}
use Rattle.converted.specs.Images.{image_at, images_of, set_bytes}
use Rattle.converted.specs.Over.{over_at}
use Rattle.set_found.specs.Set.{entry_count, image_bytes, images_in, IsKeptSet}
use Rattle.set_found.proofs.ListLaws.{as_many, seconds, pair_at, few_pairs, each_none}
use Rattle.set_found.proofs.SeenLaws.{IsGood, is_good, no_file_over, few_files, few_bytes}
use Rattle.set_found.proofs.WalkLaws.{joined_is, room_left, AllGood, all_good, are_images, all_fours, entries_are}
use Rattle.set_found.proofs.RowLaws.{parts_are, rows_are, each_stands}
use Rattle.set_found.proofs.ByteLaws.{each_byte, front_back, code_bytes}

each_code : (is : List layout.Image) → Each (λ b. b < 256) (joined (map (λ (i : layout.Image). onto i []) is)) → (k : ℕ) (i : layout.Image) → slice_get is k ≡ Some i → AreBytes (bytes_at i 2)
each_code [] h k i e = absurd (cc e)
each_code (j ∷ is) h zero i e =
    let same : j ≡ i = cc e in
    subst (λ l. AreBytes (bytes_at l 2)) same (code_bytes j (front_back (onto j []) (joined (map (λ (i : layout.Image). onto i []) is)) h).0)
each_code (j ∷ is) h (suc k) i e = each_code is (front_back (onto j []) (joined (map (λ (i : layout.Image). onto i []) is)) h).1 k i e

module _ (files : List FilePart) (marks : List Bool) (s : IsKeptSet files marks) where
  abbrev ps : List Assembly
  ps = assemblies_of files

  abbrev pairs : List (FilePart × Assembly)
  pairs = zip files (assemblies_of files)

  same_count : length (assemblies_of files) ≡ length files
  unfolding assemblies_of
  same_count = as_many _ 0 files

  good_at : (j : ℕ) (x : FilePart × Assembly) → slice_get pairs j ≡ Some x → IsGood (image_at files marks (0 + j) x) (chosen (choice_of files marks (0 + j)) x.1)
  good_at j x at =
      let both = pair_at files ps j x at in
      let here : 0 + j ≡ j = omega arith in
      let none : over_at files marks j x ≡ None = ap (λ n. over_at files marks n x) (sym here) ∙ each_none (over_at files marks) 0 pairs (no_file_over files marks s) j x at in
      subst (λ n. IsGood (image_at files marks n x) (chosen (choice_of files marks n) x.1)) (sym here) (is_good files marks s j x.0 x.1 both.0 both.1 none)

  all_are_good : AllGood files marks 0 pairs
  all_are_good = all_good files marks 0 pairs good_at

  few : length (image_bytes files marks) ≤ 32
  few =
      let spelt = length-map (images_of files marks) (λ (i : layout.Image). onto i []) in
      let laid = as_many (image_at files marks) 0 pairs in
      let paired = few_pairs files ps same_count in
      let most = few_files files marks s in
      omega (arith, spelt, laid, paired, most)

  bytes_are : joined (image_bytes files marks) ≡ set_bytes files marks
  bytes_are = joined_is (images_of files marks)

  room : (ROOM - length (joined (image_bytes files marks)) ≡ 0) ⊎ (4 ≤ ROOM - length (joined (image_bytes files marks)))
  room =
      let four = all_fours files marks 0 pairs all_are_good in
      let most = few_bytes files marks s in
      let same = ap length bytes_are in
      room_left (length (joined (image_bytes files marks))) four.0 four.1 (omega (arith, same, most))

  module _ (one : entry_count (assemblies_of files) ≡ 1) (bank : ℕ) where
    entry : entries FORMAT (images_in files marks bank) ≡ 1
    entry = entries_are files marks 0 (base bank + BODY) pairs all_are_good ∙ ap entry_count (seconds files ps same_count) ∙ one

    pub set_is_found : set_in FORMAT bank (set_bytes files marks) ≡ WholeSet (images_in files marks bank)
    set_is_found =
        subst (λ set. set_in FORMAT bank set ≡ WholeSet (images_in files marks bank)) bytes_are
        (set_reads FORMAT is_format (image_bytes files marks) bank (are_images files marks 0 pairs all_are_good) few room entry)

  pub is_deployable : entry_count (assemblies_of files) ≡ 1 → AreBytes (set_bytes files marks) → IsDeployable FORMAT (set_bytes files marks)
  is_deployable one bytes = record { room = few_bytes files marks s; bytes = bytes; whole = λ bank. ap is_set (set_is_found one bank) }

  -- ---- what is found

  pub parts_found : (bank : ℕ) → set_parts (images_in files marks bank) ≡ images_of files marks
  parts_found bank = parts_are files marks 0 (base bank + BODY) pairs all_are_good

  pub rows_found : (bank : ℕ) → rows_of_parts (set_parts (images_in files marks bank)) ≡ chosen_set (choice_of files marks) (assemblies_of files)
  rows_found bank =
      ap rows_of_parts (parts_found bank)
      ∙ rows_are files marks 0 pairs (choice_of files marks) (λ j. let here : j ≡ 0 + j = omega arith in ap (choice_of files marks) here) all_are_good
      ∙ ap (chosen_set (choice_of files marks)) (seconds files ps same_count)

  whole_images : AreBytes (set_bytes files marks) → AreWhole (images_of files marks)
  whole_images bytes =
      record {
        rows = each_stands files marks 0 pairs all_are_good;
        bytes = each_code (images_of files marks) (subst (Each (λ b. b < 256)) (sym bytes_are) (each_byte (set_bytes files marks) bytes));
      }

  pub are_whole : (bank : ℕ) → AreBytes (set_bytes files marks) → AreWhole (set_parts (images_in files marks bank))
  are_whole bank bytes = subst AreWhole (sym (parts_found bank)) (whole_images bytes)
