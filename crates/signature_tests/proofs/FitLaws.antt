-- Types at their positions, by what they mean.
use Rattle.std.proofs.Common.{◌≡◌, ℕ, ◌<◌, Bool, true, false, List, length, Option, Some, None, refl, sym, ap, ◌∙◌}
use Rattle.std.specs.Prelude.{◌||◌, ◌&&◌, slice_get}
use Rattle.file_tables.specs.File.{FilePart}
use Rattle.cil_sig.specs.declared.places.Position.TheVariants as positions
use Rattle.cil_sig.specs.declared.sig.SigType.{SigType}
use Rattle.machine.specs.Throw.{on_some}
use Rattle.classes.specs.Classes as classes
use Rattle.class_rules.specs.Rules.{holds_some, sig_fits, is_handle}
use Rattle.class_table.specs.declared.rows.ClassTable.{ClassTable}
use Rattle.class_table.specs.Seen.{classes_seen}
use Rattle.class_table.specs.Whole.{IsTable}
use Rattle.class_table.proofs.TableLaws.{table_law}
use Rattle.assemblies.specs.Binding.{expanded}
use Rattle.assemblies.proofs.Back.{get_there}
use Rattle.world_rows.specs.World.{assemblies_of}
use Rattle.world_rows.specs.Signatures.{raw_type, is_void}
use Rattle.member_reading.specs.Meant.{scopes, type_meant}
use Rattle.verdict_rules.specs.World.{world_of, classes_of}
use Rattle.verdict_rules.specs.Members.{spelling, type_fits}
use Rattle.signature_tests.specs.Fits.{admits_type, fits_at}

same_or : (a : Bool) → (a || false) ≡ a
same_or true = refl
same_or false = refl

module _ (files : List FilePart) (file : ℕ) where
  -- without handles, what is found fits where it fits a place
  refused : (t : Option classes.SigType) → holds_some t (admits_type files false) ≡ holds_some t (sig_fits (classes_of (world_of files)))
  refused None = refl
  refused (Some t) = same_or (sig_fits (classes_of (world_of files)) t)

  -- a type of the file, and what it means
  meant : (s : SigType) (fits : classes.SigType → Bool) → holds_some (slice_get files file) (λ x. type_fits (world_of files) file x.metadata fits s) ≡ holds_some (type_meant files file s) fits
  meant s fits = go (slice_get files file)
    where
      go : (o : Option FilePart) → holds_some o (λ x. type_fits (world_of files) file x.metadata fits s) ≡ holds_some (on_some o (λ f. expanded (scopes files) (assemblies_of files) file (raw_type f.metadata s))) fits
      go None = refl
      go (Some x) = refl

  -- of a place that may be no handle
  plain : (s : SigType) → holds_some (slice_get files file) (λ x. type_fits (world_of files) file x.metadata (sig_fits (classes_of (world_of files))) s) ≡ holds_some (type_meant files file s) (admits_type files false)
  plain s = meant s (sig_fits (classes_of (world_of files))) ∙ sym (refused (type_meant files file s))

  pub parameter_is : (handles : Bool) (k : ℕ) (s : SigType) → fits_at files file handles (spelling (positions.Parameter k) s) ≡ holds_some (type_meant files file s) (admits_type files handles)
  unfolding fits_at
  parameter_is handles k s = meant s (admits_type files handles)

  pub field_is : (handles : Bool) (s : SigType) → fits_at files file handles (spelling positions.Field s) ≡ holds_some (type_meant files file s) (admits_type files false)
  unfolding fits_at
  field_is handles s = plain s

  pub spec_is : (handles : Bool) (s : SigType) → fits_at files file handles (spelling positions.Spec s) ≡ holds_some (type_meant files file s) (admits_type files false)
  unfolding fits_at
  spec_is handles s = plain s

  pub local_is : (handles : Bool) (k : ℕ) (s : SigType) → fits_at files file handles (spelling (positions.Local k) s) ≡ holds_some (type_meant files file s) (admits_type files false)
  unfolding fits_at
  local_is handles k s = plain s

  pub result_is : (handles : Bool) (s : SigType) → file < length files → fits_at files file handles (spelling positions.Returned s) ≡ (is_void s.elem || holds_some (type_meant files file s) (admits_type files false))
  unfolding fits_at
  result_is handles s within = by (get_there files file within)
    where
      by : (x : FilePart) × (slice_get files file ≡ Some x) → holds_some (slice_get files file) (λ x. is_void s.elem || type_fits (world_of files) file x.metadata (sig_fits (classes_of (world_of files))) s) ≡ (is_void s.elem || holds_some (type_meant files file s) (admits_type files false))
      by (x, there) =
          ap (λ o. holds_some o (λ x. is_void s.elem || type_fits (world_of files) file x.metadata (sig_fits (classes_of (world_of files))) s)) there
          ∙ ap (λ b. is_void s.elem || b) (sym (ap (λ o. holds_some o (λ x. type_fits (world_of files) file x.metadata (sig_fits (classes_of (world_of files))) s)) there) ∙ plain s)

-- what is found, by the classes of the table
module _ (files : List FilePart) (t : ClassTable) (table : IsTable files t) (handles : Bool) (s : classes.SigType) where
  abbrev cs : classes.Classes
  cs = classes_of (world_of files)

  stands : (a : Bool) → a ≡ sig_fits (classes_seen t) s → a ≡ sig_fits cs s
  stands a told = told ∙ ap (λ ds. sig_fits ds s) (table_law files t table)

  pub fits_place : (a : Bool) → a ≡ sig_fits (classes_seen t) s → a ≡ true → a ≡ admits_type files handles s
  fits_place a told is = is ∙ sym (ap (λ b. b || (handles && is_handle cs s)) (sym (stands a told) ∙ is))

  none_but : (a b : Bool) → a ≡ sig_fits (classes_seen t) s → a ≡ false → b ≡ handles → admits_type files handles s ≡ (b && is_handle cs s)
  none_but a b told not same = ap (λ v. v || (handles && is_handle cs s)) (sym (stands a told) ∙ not) ∙ ap (λ v. v && is_handle cs s) (sym same)

  pub fits_handle : (a b h : Bool) → a ≡ sig_fits (classes_seen t) s → a ≡ false → b ≡ handles → b ≡ true → h ≡ is_handle (classes_seen t) s → h ≡ admits_type files handles s
  fits_handle a b h told not same is handle =
      handle
      ∙ ap (λ ds. is_handle ds s) (table_law files t table)
      ∙ sym (none_but a b told not same ∙ ap (λ v. v && is_handle cs s) is)

  pub fits_nowhere : (a b : Bool) → a ≡ sig_fits (classes_seen t) s → a ≡ false → b ≡ handles → b ≡ false → b ≡ admits_type files handles s
  fits_nowhere a b told not same is = is ∙ sym (none_but a b told not same ∙ ap (λ v. v && is_handle cs s) is)
