-- The order of the code of methods, a step at a time.
use Rattle.std.proofs.Common.{◌≡◌, ℕ, ◌+◌, ◌<◌, Bool, true, false, List, [], Option, Some, None, refl, sym, ap, ◌∙◌, subst, arith}
use Rattle.std.specs.Prelude.{suc, cond, slice_get, length}
use Rattle.std.specs.Option.{option_map, option_map_or}
use Rattle.plain_types.specs.declared.fault.Fault.{Fault}
use Rattle.file_tables.specs.Metadata.{MetadataPart, rows_of, row_count}
use Rattle.file_tables.specs.Pe.{PePart}
use Rattle.file_tables.specs.File.{FilePart}
use Rattle.cil_code.specs.Bodies.{BodyPart}
use Rattle.machine.specs.Program.{Method}
use Rattle.machine.specs.Throw.{on_some}
use Rattle.class_rules.specs.Rules.{holds_some}
use Rattle.assemblies.proofs.Back.{get_within, get_there}
use Rattle.world_rows.specs.Tokens.{methods}
use Rattle.looked_rows.specs.Looked.{file_with}
use Rattle.verdict_rules.specs.Order.{test_at, fault_of, first_fault, table_fault, file_fault, phase_fault}
use Rattle.verdict_rules.specs.World.{World, world_of}
use Rattle.verdict_rules.specs.Code.{method_here, is_code, body_of, body_tests, method_tests, code_tests, code_rules}
use Rattle.profile_subject.specs.Faults.{row_fault}
use Rattle.profile_order.proofs.OrderLaws.{after, each_none, each_some, file_there}
use Rattle.judged_classes.specs.Judged.{IsJudged}
use Rattle.code_order.specs.Told.{method_rules, methods_in, row_told, file_told, has_code, IsCoded, CodeTold, BodyTold}

from_none : (k : ℕ) → 0 + k ≡ k
from_none k = omega arith

-- ---- a body

-- the file of which the parts are known
parts_are : (o : Option FilePart) (x : FilePart) (p : PePart) (m : MetadataPart) → o ≡ Some x → option_map (λ (x : FilePart). x.pe) o ≡ Some p → option_map (λ (x : FilePart). x.metadata) o ≡ Some m → file_with p m ≡ x
parts_are o x p m here pe metadata =
    let both_pe : Some x.pe ≡ Some p = sym (ap (option_map (λ (x : FilePart). x.pe)) here) ∙ pe in
    let both_metadata : Some x.metadata ≡ Some m = sym (ap (option_map (λ (x : FilePart). x.metadata)) here) ∙ metadata in
    let same_pe : x.pe ≡ p = cc both_pe in
    let same_metadata : x.metadata ≡ m = cc both_metadata in
    ap (λ q. file_with q m) (sym same_pe) ∙ ap (file_with x.pe) (sym same_metadata)

module _ (files : List FilePart) (file n : ℕ) (p : PePart) (m : MetadataPart) (is_pe : option_map (λ (x : FilePart). x.pe) (slice_get files file) ≡ Some p) (is_metadata : option_map (λ (x : FilePart). x.metadata) (slice_get files file) ≡ Some m) (body : Option BodyPart) (read : (row : List ℕ) → slice_get (rows_of m methods) n ≡ Some row → body ≡ body_of (file_with p m) row) where
  abbrev told : FilePart → Method → Option BodyPart → Option Fault
  told x k b = first_fault file methods (suc n) (body_tests (world_of files) file x k b)

  body_is : (x : FilePart) (columns : List ℕ) (k : Method) → IsCoded files file n x columns k → body_of x columns ≡ body
  body_is x columns k here =
      let same : file_with p m ≡ x = parts_are (slice_get files file) x p m here.file_is is_pe is_metadata in
      sym
      (read columns (subst (λ (z : FilePart). slice_get (rows_of z.metadata methods) n ≡ Some columns) (sym same) here.row_is)
      ∙ ap (λ z. body_of z columns) same)

  pub sound_told : (b : BodyPart) (fault : Option Fault) → body ≡ Some b → BodyTold files file n b fault → CodeTold files file n fault
  sound_told b fault is is_told judged x columns k here =
      let e : body_of x columns ≡ Some b = body_is x columns k here ∙ is in
      is_told judged x columns k here e ∙ sym (ap (told x k) e)

  pub unsound_told : (result : Fault) → body ≡ None → result ≡ fault_of file methods (suc n) (test_at 40 0 false) → CodeTold files file n (Some result)
  unsound_told result is e judged x columns k here = ap Some e ∙ sym (ap (told x k) (body_is x columns k here ∙ is))

-- ---- a method

module _ (files : List FilePart) (file n : ℕ) where
  abbrev w : World
  w = world_of files

  row_here : (x : FilePart) (columns : List ℕ) → slice_get files file ≡ Some x → slice_get (rows_of x.metadata methods) n ≡ Some columns → row_told files file n ≡ first_fault file methods (suc n) (method_tests w file x columns (method_here w file x n))
  unfolding row_told
  row_here x columns at here =
      ap (λ o. on_some o (λ x. row_fault file x.metadata (method_rules w file x) n)) at
      ∙ ap (λ o. on_some o (λ row. first_fault file methods (suc n) (code_tests w file x n row))) here

  without : (x : FilePart) (columns : List ℕ) (o : Option Method) → holds_some o (λ m. is_code m.body) ≡ false → first_fault file methods (suc n) (method_tests w file x columns o) ≡ None
  without x columns None e = refl
  without x columns (Some m) e = ap (λ b. first_fault file methods (suc n) (cond b (body_tests w file x m (body_of x columns)) [])) e

  with_code : (x : FilePart) (columns : List ℕ) (o : Option Method) (fault : Option Fault) → slice_get files file ≡ Some x → slice_get (rows_of x.metadata methods) n ≡ Some columns → method_here w file x n ≡ o → holds_some o (λ m. is_code m.body) ≡ true → IsJudged files → CodeTold files file n fault → fault ≡ first_fault file methods (suc n) (method_tests w file x columns o)
  with_code x columns None fault at here is e judged is_told = absurd (cc e)
  with_code x columns (Some m) fault at here is e judged is_told =
      is_told judged x columns m (record { file_is = at; row_is = here; method_is = is; coded = e })
      ∙ sym (ap (λ b. first_fault file methods (suc n) (cond b (body_tests w file x m (body_of x columns)) [])) e)

  module _ (below : file < length files) (within : n < methods_in files file) where
    the_row : (x : FilePart) → slice_get files file ≡ Some x → (columns : List ℕ) × (slice_get (rows_of x.metadata methods) n ≡ Some columns)
    unfolding methods_in
    the_row x at = get_there (rows_of x.metadata methods) n (subst (λ (o : Option FilePart). n < option_map_or (λ (x : FilePart). row_count x.metadata methods) o 0) at within)

    pub no_code : (answer : Bool) → answer ≡ false → ((x : FilePart) → answer ≡ has_code w file x n) → None ≡ row_told files file n
    no_code answer is e =
        let x = file_there files file below in
        let row = the_row x.0 x.1 in
        sym (row_here x.0 row.0 x.1 row.1 ∙ without x.0 row.0 (method_here w file x.0 n) (sym (e x.0) ∙ is))

    pub some_code : (answer : Bool) (fault : Option Fault) → answer ≡ true → ((x : FilePart) → answer ≡ has_code w file x n) → CodeTold files file n fault → IsJudged files → fault ≡ row_told files file n
    some_code answer fault is e is_told judged =
        let x = file_there files file below in
        let row = the_row x.0 x.1 in
        with_code x.0 row.0 (method_here w file x.0 n) fault x.1 row.1 refl (sym (e x.0) ∙ is) judged is_told
        ∙ sym (row_here x.0 row.0 x.1 row.1)

-- ---- a file

module _ (files : List FilePart) (file : ℕ) (x : FilePart) (at : slice_get files file ≡ Some x) where
  of_row_at : ℕ → List ℕ → Option Fault
  of_row_at n row = first_fault file methods (suc n) (code_tests (world_of files) file x n row)

  row_is : (k : ℕ) (row : List ℕ) → slice_get (rows_of x.metadata methods) k ≡ Some row → of_row_at (0 + k) row ≡ row_told files file k
  unfolding of_row_at
  row_is k row here = ap (λ n. of_row_at n row) (from_none k) ∙ sym (row_here files file k x row at here)

  last : (o : Option Fault) → after o None ≡ o
  last None = refl
  last (Some fault) = refl

  table_is : file_told files file ≡ table_fault file x.metadata (method_rules (world_of files) file x)
  unfolding file_told
  table_is =
      ap (λ o. on_some o (λ x. file_fault file x (code_rules (world_of files) file x))) at
      ∙ last (after (table_fault file x.metadata (method_rules (world_of files) file x)) None)
      ∙ last (table_fault file x.metadata (method_rules (world_of files) file x))

  counted : methods_in files file ≡ row_count x.metadata methods
  unfolding methods_in
  counted = ap (λ (o : Option FilePart). option_map_or (λ (x : FilePart). row_count x.metadata methods) o 0) at

  kept_here : ((n : ℕ) → n < methods_in files file → row_told files file n ≡ None) → file_told files file ≡ None
  unfolding of_row_at
  kept_here h =
      table_is
      ∙ each_none of_row_at 0 (rows_of x.metadata methods)
      (λ k row here. row_is k row here ∙ h k (subst (λ m. k < m) (sym counted) (get_within (rows_of x.metadata methods) k row here)))

  broken_here : (n : ℕ) (fault : Fault) → n < methods_in files file → row_told files file n ≡ Some fault → ((j : ℕ) → j < n → row_told files file j ≡ None) → file_told files file ≡ Some fault
  unfolding of_row_at
  broken_here n fault within found before =
      let row = get_there (rows_of x.metadata methods) n (subst (λ m. n < m) counted within) in
      table_is
      ∙ each_some of_row_at 0 (rows_of x.metadata methods) n row.0 fault row.1 (row_is n row.0 row.1 ∙ found)
      (λ j other under here. row_is j other here ∙ before j under)

pub file_kept : (files : List FilePart) (file : ℕ) → file < length files → ((n : ℕ) → n < methods_in files file → row_told files file n ≡ None) → file_told files file ≡ None
file_kept files file below h = let x = file_there files file below in kept_here files file x.0 x.1 h

pub file_broken : (files : List FilePart) (file n : ℕ) (fault : Fault) → file < length files → n < methods_in files file → row_told files file n ≡ Some fault → ((j : ℕ) → j < n → row_told files file j ≡ None) → file_told files file ≡ Some fault
file_broken files file n fault below within found before = let x = file_there files file below in broken_here files file x.0 x.1 n fault within found before

pub count_is : (files : List FilePart) (file : ℕ) (m : MetadataPart) → option_map (λ (p : FilePart). p.metadata) (slice_get files file) ≡ Some m → row_count m methods ≡ methods_in files file
unfolding methods_in
count_is files file m e = go (slice_get files file) e
  where
    go : (o : Option FilePart) → option_map (λ (p : FilePart). p.metadata) o ≡ Some m → row_count m methods ≡ option_map_or (λ (x : FilePart). row_count x.metadata methods) o 0
    go None e = absurd (cc e)
    go (Some x) e = let same : x.metadata ≡ m = cc e in ap (λ z. row_count z methods) (sym same)

-- ---- the phase

module _ (files : List FilePart) where
  told_at : (k : ℕ) (x : FilePart) → slice_get files k ≡ Some x → file_fault (0 + k) x (code_rules (world_of files) (0 + k) x) ≡ file_told files k
  unfolding file_told
  told_at k x at =
      ap (λ m. file_fault m x (code_rules (world_of files) m x)) (from_none k)
      ∙ sym (ap (λ o. on_some o (λ x. file_fault k x (code_rules (world_of files) k x))) at)

  pub phase_kept : (count : ℕ) → count ≡ length files → ((n : ℕ) → n < count → file_told files n ≡ None) → phase_fault (code_rules (world_of files)) files ≡ None
  phase_kept count e h =
      each_none (λ file x. file_fault file x (code_rules (world_of files) file x)) 0 files
      (λ k x at. told_at k x at ∙ h k (subst (λ m. k < m) (sym e) (get_within files k x at)))

  pub phase_broken : (n : ℕ) (fault : Fault) → n < length files → file_told files n ≡ Some fault → ((j : ℕ) → j < n → file_told files j ≡ None) → phase_fault (code_rules (world_of files)) files ≡ Some fault
  phase_broken n fault below found before =
      let at = file_there files n below in
      each_some (λ file x. file_fault file x (code_rules (world_of files) file x)) 0 files n at.0 fault at.1 (told_at n at.0 at.1 ∙ found)
      (λ j y under here. told_at j y here ∙ before j under)
