-- What is told of a signature, by the tables of its file.
use Rattle.std.proofs.Common.{◌≡◌, ℕ, suc, Bool, true, false, cond, List, [], ◌∷◌, Option, Some, Ok, Err, refl, sym, ap, ◌∙◌}
use Rattle.std.specs.Prelude.{slice_get, slice_index, unwrap_or, if◌then◌else◌}
use Rattle.file_tables.specs.File.{FilePart}
use Rattle.file_tables.specs.Metadata.{MetadataPart}
use Rattle.cil_sig.specs.declared.sig.SigType.{SigType}
use Rattle.cil_sig.specs.declared.places.Position.TheVariants as positions
use Rattle.cil_sig.specs.Places.{place_of}
use Rattle.cil_sig.specs.Reading.{Part, whole_field, whole_method, whole_locals, whole_spec}
use Rattle.assemblies.specs.Binding.{numbered}
use Rattle.class_rules.specs.Rules.{holds_some}
use Rattle.world_rows.specs.Tokens.{begins_field, bytes_at}
use Rattle.verdict_rules.specs.World.{world_of}
use Rattle.verdict_rules.specs.Members.{Spelling, spelling, first_wrong, wrong_at, in_field, in_spec, in_locals, in_method, place_fits, method_place_fits, is_of_library, method_wrong, reference_wrong, locals_wrong, spec_wrong}
use Rattle.signature_tests.specs.Fits.{fits_at}

module _ (files : List FilePart) (file : ℕ) (x : FilePart) (here : slice_get files file ≡ Some x) (blob : List ℕ) where
  abbrev m : MetadataPart
  m = x.metadata

  abbrev stands : Bool → Spelling → Bool
  stands handles s = method_place_fits (world_of files) file m handles s.position s.type

  in_file : {X : Type 0} (part : Part X) (types : X → List Spelling) (handles : Bool) → wrong_at blob part types (fits_at files file handles) ≡ wrong_at blob part types (stands handles)
  unfolding fits_at
  in_file part types handles = ap (λ o. wrong_at blob part types (λ s. holds_some o (λ y. method_place_fits (world_of files) file y.metadata handles s.position s.type))) here

  pub method_told : (handles : Bool) → wrong_at blob (whole_method blob) in_method (fits_at files file handles) ≡ method_wrong (world_of files) file m handles blob
  method_told handles = in_file (whole_method blob) in_method handles

  pub field_told : (handles : Bool) → wrong_at blob (whole_field blob) in_field (fits_at files file handles) ≡ wrong_at blob (whole_field blob) in_field (place_fits (world_of files) file m)
  field_told handles = in_file (whole_field blob) in_field handles ∙ by (whole_field blob)
    where
      by : (part : Part SigType) → wrong_at blob part in_field (stands handles) ≡ wrong_at blob part in_field (place_fits (world_of files) file m)
      by (Ok s) = refl
      by (Err left) = refl

  pub spec_told : (handles : Bool) → wrong_at blob (whole_spec blob) in_spec (fits_at files file handles) ≡ spec_wrong (world_of files) file m blob
  spec_told handles = in_file (whole_spec blob) in_spec handles ∙ by (whole_spec blob)
    where
      by : (part : Part SigType) → wrong_at blob part in_spec (stands handles) ≡ wrong_at blob part in_spec (place_fits (world_of files) file m)
      by (Ok s) = refl
      by (Err left) = refl

  pub locals_told : (handles : Bool) → wrong_at blob (whole_locals blob) in_locals (fits_at files file handles) ≡ locals_wrong (world_of files) file m blob
  locals_told handles = in_file (whole_locals blob) in_locals handles ∙ by (whole_locals blob)
    where
      each : (k : ℕ) (ss : List SigType) → first_wrong blob (stands handles) (numbered (λ k s. spelling (positions.Local k) s) k ss) ≡ first_wrong blob (place_fits (world_of files) file m) (numbered (λ k s. spelling (positions.Local k) s) k ss)
      each k [] = refl
      each k (s ∷ ss) = ap (λ o. cond (place_fits (world_of files) file m (spelling (positions.Local k) s)) o (Some (unwrap_or (place_of (positions.Local k) blob) 0))) (each (suc k) ss)

      by : (part : Part (List SigType)) → wrong_at blob part in_locals (stands handles) ≡ wrong_at blob part in_locals (place_fits (world_of files) file m)
      by (Ok ss) = each 0 ss
      by (Err left) = refl

-- a reference to a field, and one to a method
module _ (files : List FilePart) (file : ℕ) (x : FilePart) (here : slice_get files file ≡ Some x) (row : List ℕ) (handles : Bool) where
  abbrev blob : List ℕ
  blob = bytes_at x.metadata (slice_index row 2)

  abbrev either : Bool → Bool → Option ℕ
  either of_field h =
      if of_field then wrong_at blob (whole_field blob) in_field (place_fits (world_of files) file x.metadata)
      else method_wrong (world_of files) file x.metadata h blob

  pub field_reference : begins_field blob ≡ true → wrong_at blob (whole_field blob) in_field (fits_at files file handles) ≡ reference_wrong (world_of files) file x.metadata row
  field_reference is = field_told files file x here blob handles ∙ sym (ap (λ b. either b (is_of_library (world_of files) file x.metadata row)) is)

  pub method_reference : begins_field blob ≡ false → handles ≡ is_of_library (world_of files) file x.metadata row → wrong_at blob (whole_method blob) in_method (fits_at files file handles) ≡ reference_wrong (world_of files) file x.metadata row
  method_reference is told =
      method_told files file x here blob handles
      ∙ ap (λ h. method_wrong (world_of files) file x.metadata h blob) told
      ∙ sym (ap (λ b. either b (is_of_library (world_of files) file x.metadata row)) is)
