-- What is told of a row, by what was found of it.
use Rattle.std.proofs.Common.{◌≡◌, ℕ, suc, Bool, false, List, [], ◌∷◌, Option, Some, ap, ◌∙◌}
use Rattle.std.specs.Prelude.{slice_get, unwrap_or}
use Rattle.plain_types.specs.declared.fault.Place.{Place}
use Rattle.file_tables.specs.Metadata.{rows_of}
use Rattle.file_tables.specs.File.{FilePart}
use Rattle.machine.specs.Throw.{on_some}
use Rattle.assemblies.proofs.Back.{get_within}
use Rattle.world_rows.specs.Looked.{is_looked_at}
use Rattle.verdict_rules.specs.Order.{first_fault, test, unless_at}
use Rattle.profile_subject.specs.Faults.{row_at}
use Rattle.looked_rows.specs.Looked.{AreLookedAt}

pub row_is_at : (files : List FilePart) (file table n : ℕ) (x : FilePart) (row : List ℕ) → slice_get files file ≡ Some x → slice_get (rows_of x.metadata table) n ≡ Some row → row_at files file table n ≡ Some row
row_is_at files file table n x row e at = ap (λ o. on_some o (λ (x : FilePart). slice_get (rows_of x.metadata table) n)) e ∙ at

pub bit_is : (x : FilePart) (table n : ℕ) (row : List ℕ) (bits : List Bool) (bit : Bool) → AreLookedAt x table bits → slice_get (rows_of x.metadata table) n ≡ Some row → bit ≡ unwrap_or (slice_get bits n) false → bit ≡ is_looked_at x table (suc n)
bit_is x table n row bits bit looked at e = e ∙ ap (λ o. unwrap_or o false) (looked.each n (get_within (rows_of x.metadata table) n row at))

module _ (place : Place) (file table n : ℕ) (is : place ≡ record { file = file; table = table; row = suc n; offset = 0 }) where
  pub missing_told : (rule : ℕ) → first_fault place.file place.table place.row (test rule false ∷ []) ≡ first_fault file table (suc n) (test rule false ∷ [])
  missing_told rule = ap (λ (p : Place). first_fault p.file p.table p.row (test rule false ∷ [])) is

  pub signature_told : (wrong wanted : Option ℕ) → wrong ≡ wanted → first_fault place.file place.table place.row (unless_at 27 wrong ∷ []) ≡ first_fault file table (suc n) (unless_at 27 wanted ∷ [])
  signature_told wrong wanted e =
      ap (λ (p : Place). first_fault p.file p.table p.row (unless_at 27 wrong ∷ [])) is
      ∙ ap (λ o. first_fault file table (suc n) (unless_at 27 o ∷ [])) e

  pub member_told : (rule : ℕ) (wrong wanted : Option ℕ) (well is_well apart is_apart : Bool) → wrong ≡ wanted → well ≡ is_well → apart ≡ is_apart → first_fault place.file place.table place.row (unless_at 27 wrong ∷ test rule well ∷ test 30 apart ∷ []) ≡ first_fault file table (suc n) (unless_at 27 wanted ∷ test rule is_well ∷ test 30 is_apart ∷ [])
  member_told rule wrong wanted well is_well apart is_apart e f g =
      ap (λ (p : Place). first_fault p.file p.table p.row (unless_at 27 wrong ∷ test rule well ∷ test 30 apart ∷ [])) is
      ∙ (ap (λ o. first_fault file table (suc n) (unless_at 27 o ∷ test rule well ∷ test 30 apart ∷ [])) e
      ∙ (ap (λ b. first_fault file table (suc n) (unless_at 27 wanted ∷ test rule b ∷ test 30 apart ∷ [])) f
      ∙ ap (λ b. first_fault file table (suc n) (unless_at 27 wanted ∷ test rule is_well ∷ test 30 b ∷ [])) g))
