-- What signatures of locals mean, type by type.
use Rattle.std.proofs.Common.{◌≡◌, ℕ, ◌+◌, ◌<◌, Bool, true, false, List, [], ◌∷◌, ◌++◌, map, take, length, get_or, Option, Some, None, refl, sym, ap, ◌∙◌}
use Rattle.std.specs.Prelude.{◌==◌, if◌then◌else◌, slice_get, Ok, Err}
use Rattle.std.specs.List.{filter_map, cons_option}
use Rattle.std.specs.Option.{option_map}
use Rattle.std.proofs.lemmas.List.{append-nil}
use Rattle.std.proofs.lemmas.List.Elements.{filter_map-append}
use Rattle.std.proofs.lemmas.Option.{slice_get-get_or}
use Rattle.member_reading.proofs.SearchLaws.{one_more}
use Rattle.cil_rows.specs.declared.rows.StandAloneSigRow.{StandAloneSigRow}
use Rattle.cil_sig.specs.declared.sig.SigType.{SigType as Spelling}
use Rattle.cil_sig.specs.Reading.{whole_locals}
use Rattle.ecma_types.specs.declared.stack.PlaceType.{PlaceType}
use Rattle.file_tables.specs.File.{FilePart}
use Rattle.file_tables.specs.Metadata.{MetadataPart, column_of, is_row_in}
use Rattle.machine.specs.Throw.{on_some}
use Rattle.classes.specs.Classes.{SigType}
use Rattle.classes.specs.Queries.{type_of}
use Rattle.assemblies.specs.Rows.{Assembly}
use Rattle.assemblies.specs.Binding.{expanded}
use Rattle.world_rows.specs.Lines.{locals_of}
use Rattle.world_rows.specs.Signatures.{locals_from, locals_signature, raw_type}
use Rattle.world_rows.specs.Tokens.{bytes_at, locals_signatures, number_of}
use Rattle.world_rows.specs.World.{assemblies_of, ecma_sources, rows_alone, size_of}
use Rattle.method_facts.specs.Places.{type_to}
use Rattle.local_places.specs.Locals.{blob_meant, local_meant}

-- ---- lists

-- the next one that is kept, and the next one that is left out
pub next_kept : {A B : Type 0} (h : A → Option B) (xs : List A) (i : ℕ) (d : A) (ys : List B) (y : B) → i < length xs → ys ≡ filter_map h (take i xs) → Some y ≡ h (get_or xs i d) → ys ++ y ∷ [] ≡ filter_map h (take (i + 1) xs)
next_kept h xs i d ys y within so_far e =
    ap (λ zs. zs ++ y ∷ []) so_far ∙ ap (λ o. filter_map h (take i xs) ++ cons_option o []) e
    ∙ sym (ap (filter_map h) (one_more xs i (get_or xs i d) (slice_get-get_or xs i d within)) ∙ filter_map-append h (take i xs) (get_or xs i d ∷ []))

pub next_left : {A B : Type 0} (h : A → Option B) (xs : List A) (i : ℕ) (d : A) (ys : List B) → i < length xs → ys ≡ filter_map h (take i xs) → None ≡ h (get_or xs i d) → ys ≡ filter_map h (take (i + 1) xs)
next_left h xs i d ys within so_far e =
    so_far ∙ sym (append-nil (filter_map h (take i xs))) ∙ ap (λ o. filter_map h (take i xs) ++ cons_option o []) e
    ∙ sym (ap (filter_map h) (one_more xs i (get_or xs i d) (slice_get-get_or xs i d within)) ∙ filter_map-append h (take i xs) (get_or xs i d ∷ []))

in_front : {A B : Type 0} (f : A → B) (o : Option A) (xs : List A) → cons_option (option_map f o) (map f xs) ≡ map f (cons_option o xs)
in_front f None xs = refl
in_front f (Some x) xs = refl

module _ (files : List FilePart) (file : ℕ) (x : FilePart) (here : slice_get files file ≡ Some x) where
  abbrev k : ℕ
  k = size_of (rows_alone files)

  abbrev ps : List Assembly
  ps = assemblies_of files

  abbrev spelt : SigType → PlaceType
  spelt t = type_to (type_of (ecma_sources files).classes t)

  one : (s : Spelling) → local_meant files file s ≡ option_map spelt (expanded k ps file (raw_type x.metadata s))
  one s = ap (λ o. option_map spelt (on_some o (λ (f : FilePart). expanded k ps file (raw_type f.metadata s)))) here

  each : (ss : List Spelling) → filter_map (local_meant files file) ss ≡ map spelt (filter_map (expanded k ps file) (map (raw_type x.metadata) ss))
  each [] = refl
  each (s ∷ ss) =
      ap (λ o. cons_option o (filter_map (local_meant files file) ss)) (one s)
      ∙ ap (cons_option (option_map spelt (expanded k ps file (raw_type x.metadata s)))) (each ss)
      ∙ in_front spelt (expanded k ps file (raw_type x.metadata s)) (filter_map (expanded k ps file) (map (raw_type x.metadata) ss))

  pub formed : (blob : List ℕ) (ss : List Spelling) → whole_locals blob ≡ Ok ss → filter_map (local_meant files file) ss ≡ map spelt (blob_meant files file x blob)
  unfolding locals_signature
  formed blob ss e = each ss ∙ sym (ap (λ p. map spelt (filter_map (expanded k ps file) (locals_from x.metadata p))) e)

  pub faulty : (blob : List ℕ) (left : ℕ) → whole_locals blob ≡ Err left → [] ≡ map spelt (blob_meant files file x blob)
  unfolding locals_signature
  faulty blob left e = sym (ap (λ p. map spelt (filter_map (expanded k ps file) (locals_from x.metadata p))) e)

-- ---- the row that a token names

abbrev pub signature_at : MetadataPart → ℕ → Option StandAloneSigRow
signature_at m token =
    if token == 0 then None
    else (if is_row_in m locals_signatures (number_of token) then Some (record { signature = column_of m locals_signatures (number_of token) 0 }) else None)

module _ (m : MetadataPart) (token : ℕ) where
  abbrev at : ℕ
  at = column_of m locals_signatures (number_of token) 0

  pub found : (row : StandAloneSigRow) → Some row ≡ signature_at m token → locals_of m token ≡ locals_signature m (bytes_at m row.signature)
  found row = by (token == 0) (is_row_in m locals_signatures (number_of token))
    where
      by : (a b : Bool) → Some row ≡ (if a then None else (if b then Some (record { signature = at }) else None)) → (if a then [] else locals_signature m (bytes_at m at)) ≡ locals_signature m (bytes_at m row.signature)
      by true b e = absurd (cc e)
      by false false e = absurd (cc e)
      by false true e = let same : row ≡ record { signature = at } = cc e in ap (λ (r : StandAloneSigRow). locals_signature m (bytes_at m r.signature)) (sym same)
