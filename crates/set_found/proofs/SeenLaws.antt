-- The image of each file is seen as the rows of it that are kept.
use Rattle.std.proofs.Common.{◌≡◌, ◌∙◌, ℕ, ◌<◌, ◌≤◌, Bool, true, false, List, [], length, Option, Some, None, refl, sym, ap, arith}
use Rattle.std.specs.Prelude.{not, nat_eq, nat_lt, is_some, if◌then◌else◌, slice_get}
use Rattle.std.specs.Option.{option_or}
use Rattle.std.proofs.lemmas.Bool.{ltb-false, ne_eqb}
use Rattle.plain_types.specs.declared.fault.Limit.{Limit}
use Rattle.file_tables.specs.File.{FilePart}
use Rattle.assemblies.specs.Rows.{Assembly}
use Rattle.assemblies.specs.Chosen.{Choice, chosen}
use Rattle.image_bytes.specs.Layout.{Image, HasShape, onto}
use Rattle.image_bytes.proofs.Laws.{written}
use Rattle.machine.specs.Throw.{on_some}
use Rattle.std.specs.Option.{option_map}
use Rattle.image_form.specs.Form.{or_none}
use Rattle.image_form.specs.Whole.{image_rows, seen}
use Rattle.image_form.specs.Limits.{BelowOrNone, IsSpelt}
use Rattle.image_form.proofs.Final.{spelt_is_seen}
use Rattle.image_form.proofs.LaidLaws.{laid_shape}
use Rattle.chosen_image.specs.Spells.{chosen_methods, KeepsLimits}
use Rattle.chosen_image.proofs.RowsSpelt.{spelt}
use Rattle.world_rows.specs.World.{size_of, rows_alone, assemblies_of}
use Rattle.rows_resolved.specs.Resolved.{resolved_rows}
use Rattle.rows_resolved.proofs.Accepted.{all, resolve}
use Rattle.converted.specs.Bodies.{methods_of}
use Rattle.converted.specs.Choosing.{choice_of}
use Rattle.converted.specs.Images.{image_at, set_bytes}
use Rattle.converted.specs.Over.{limit_in, most_assemblies, most_bytes, over_counts, over_distances, over_switches, kept_codes, over_at, over_files, over_size}
use Rattle.converted.proofs.LimitLaws.{keeps_limits}
use Rattle.set_found.specs.Set.{IsKeptSet}
use Rattle.set_found.proofs.ListLaws.{none_or}

-- an image of these rows, which is seen as them whatever stands behind it
pub record IsGood (i : Image) (q : Assembly) : Type 0 where
  pub shape : HasShape i
  pub seen_as : (rest : List ℕ) → seen (onto i rest) ≡ Some (i, q)
  pub entry : not (nat_eq i.entry 65535) ≡ is_some q.entry

-- its rows alone
abbrev with_image : Image → Assembly → Image × Assembly
with_image i p = (i, p)

rows_from : (i : Image) (q : Assembly) (o : Option Assembly) → option_map (with_image i) o ≡ Some (with_image i q) → o ≡ Some q
rows_from i q None e = absurd (cc e)
rows_from i q (Some p) e = ap (λ (o : Option (Image × Assembly)). option_map (λ (z : Image × Assembly). z.1) o) e

pub has_rows : (i : Image) (q : Assembly) → IsGood i q → image_rows i ≡ Some q
has_rows i q g = rows_from i q (image_rows i) (sym (ap (λ o. on_some o (λ j. option_map (λ (p : Assembly). (j, p)) (image_rows j))) (written i [] g.shape)) ∙ g.seen_as [])

entry_is : (p : Assembly) (count : ℕ) (o : Option ℕ) → BelowOrNone p count o → count < 16384 → not (nat_eq (or_none (λ n. n) o) 65535) ≡ is_some o
entry_is p count None h few = refl
entry_is p count (Some n) h few = ap not (ne_eqb n 65535 (λ e. omega (arith, e, h, few)))

-- ---- the limits of a set

over_parts : (b : Bool) (l : Limit) (a c : Option Limit) → (if b then Some l else option_or a c) ≡ None → (b ≡ false) × (a ≡ None) × (c ≡ None)
over_parts true l a c e = absurd (cc e)
over_parts false l a c e = let h = none_or a c e in (refl, h.0, h.1)

not_over : (b : Bool) (l : Limit) → (if b then Some l else None) ≡ None → b ≡ false
not_over true l e = absurd (cc e)
not_over false l e = refl

module _ (files : List FilePart) (marks : List Bool) (s : IsKeptSet files marks) where
  abbrev size : ℕ
  size = size_of (rows_alone files)

  abbrev ps : List Assembly
  ps = assemblies_of files

  abbrev keep : ℕ → Choice
  keep = choice_of files marks

  parts : (nat_lt most_assemblies (length files) ≡ false) × (over_files files marks ≡ None) × (over_size files marks ≡ None)
  parts = over_parts (nat_lt most_assemblies (length files)) (limit_in 0 18 (length files)) (over_files files marks) (over_size files marks) s.within

  pub few_files : length files ≤ 32
  few_files = ltb-false most_assemblies (length files) parts.0

  pub no_file_over : over_files files marks ≡ None
  no_file_over = parts.1

  pub few_bytes : length (set_bytes files marks) ≤ 122864
  few_bytes = ltb-false most_bytes (length (set_bytes files marks)) (not_over (nat_lt most_bytes (length (set_bytes files marks))) (limit_in 0 17 (length (set_bytes files marks))) parts.2)

  -- ---- of one file

  module _ (f : ℕ) (x : FilePart) (p : Assembly) (there : slice_get files f ≡ Some x) (at : slice_get (assemblies_of files) f ≡ Some p) (none : over_at files marks f (x, p) ≡ None) where
    limits : KeepsLimits (keep f) p (methods_of x p)
    limits =
        keeps_limits f (keep f) p (methods_of x p)
        (none_or (over_counts f (image_at files marks f (x, p))) (option_or (over_distances f (kept_codes files marks f x)) (over_switches f (kept_codes files marks f x))) none).0

    is_spelt : IsSpelt (chosen (keep f) p) (chosen_methods (keep f) (methods_of x p))
    is_spelt = spelt size ps (resolved_rows size ps) keep (all files s.accepted) (resolve files s.accepted) s.closed f p (methods_of x p) at (s.spells f x p there at) limits

    pub image_seen : (rest : List ℕ) → seen (onto (image_at files marks f (x, p)) rest) ≡ Some (image_at files marks f (x, p), chosen (choice_of files marks f) p)
    image_seen = spelt_is_seen (chosen (keep f) p) (chosen_methods (keep f) (methods_of x p)) is_spelt

    pub is_good : IsGood (image_at files marks f (x, p)) (chosen (choice_of files marks f) p)
    is_good =
        record {
          shape = laid_shape (chosen (keep f) p) (chosen_methods (keep f) (methods_of x p)) is_spelt.version is_spelt.versions;
          seen_as = image_seen;
          entry = entry_is (chosen (keep f) p) (length (chosen_methods (keep f) (methods_of x p))) (chosen (keep f) p).entry is_spelt.entry is_spelt.limits.methods;
        }
