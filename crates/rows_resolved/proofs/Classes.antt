-- Behind the base library the classes of accepted files are judged well.
use Rattle.std.proofs.Common.{◌≡◌, ℕ, zero, suc, ◌<◌, Bool, true, false, List, [], ◌∷◌, Option, Some, None, refl, sym, ap, ◌∙◌, subst, arith}
use Rattle.std.specs.Prelude.{◌&&◌, not, slice_get, unwrap_or}
use Rattle.std.specs.List.{list_any, list_all}
use Rattle.std.specs.Option.{option_map}
use Rattle.std.proofs.lemmas.Bool.{and_parts, and_from, both_ways}
use Rattle.plain_types.specs.declared.fault.Fault.{Fault}
use Rattle.file_tables.specs.Metadata.{rows_of}
use Rattle.file_tables.specs.File.{FilePart}
use Rattle.machine.specs.Data.{Id}
use Rattle.machine.specs.Texts.{same_text}
use Rattle.machine.specs.Throw.{on_some}
use Rattle.classes.specs.Classes.{Class, Classes, OwnMethod}
use Rattle.classes.specs.Reading.{IsRead}
use Rattle.classes.specs.Queries.{above, ends, enclosing_of, listed, methods_of, own_instance_fields, is_named, method_signature_eq}
use Rattle.class_rules.specs.Base.{IsBase}
use Rattle.class_rules.specs.Rules.{Keeps, only_if, value_well, is_none_there, is_enclosed_well, methods_apart}
use Rattle.class_rules.proofs.Kept.{chain_ends, both_end, ends_more}
use Rattle.class_rules.proofs.Signatures.{method_signature_same}
use Rattle.class_rules.proofs.Ways.{any_at}
use Rattle.assemblies.specs.Rows.{TypeRow, Assembly}
use Rattle.assemblies.specs.Binding.{id_at}
use Rattle.assemblies.specs.Ranges.{MethodsRise}
use Rattle.assemblies.proofs.Belong.{some_map}
use Rattle.kept_joined.specs.Judged.{Judged}
use Rattle.base_rows.specs.Facts.{base}
use Rattle.base_rows.proofs.BaseLaws.{base_facts}
use Rattle.world_rows.specs.Tokens.{type_defs}
use Rattle.world_rows.specs.Rows.{type_row}
use Rattle.world_rows.specs.Kinds.{kind_of}
use Rattle.world_rows.specs.World.{type_count, size_of, rows_alone, assemblies_of, ecma_sources}
use Rattle.world_rows.proofs.Library.{text_same}
use Rattle.world_rows.proofs.Read.{ClassRow, class_row, list_rises, world_is_read}
use Rattle.verdict_rules.specs.Order.{first_fault, each, phase_fault}
use Rattle.verdict_rules.specs.World.{World, world_of}
use Rattle.verdict_rules.specs.Types.{of_class, class_tests, type_tests, type_rules, data_type_well, is_explicit, is_type_before, type_well}
use Rattle.verdict_rules.specs.Verdict.{member_rules, profile}
use Rattle.verdict_laws.proofs.Kept.{tests_kept, row_kept}
use Rattle.verdict_laws.proofs.Keeps.{keeps}
use Rattle.verdict_laws.proofs.Rows.{from_zero, whole}
use Rattle.class_targets.specs.Virtual.{AreApart}
use Rattle.slot_laws.proofs.StandLaws.{methods_stand_well}
use Rattle.rows_resolved.specs.Resolved.{IsAccepted}
use Rattle.rows_resolved.proofs.Types.{file_of}
use Rattle.rows_resolved.proofs.Accepted.{in_types, in_members, in_slots}

-- ---- no two methods have one name and signature

turned : (x y : OwnMethod) → is_named x.name x.signature y ≡ true → is_named y.name y.signature x ≡ true
turned x y e =
    let p = and_parts (same_text y.name x.name) (method_signature_eq y.signature x.signature) e in
    let name : y.name ≡ x.name = text_same y.name x.name p.0 in
    let s = method_signature_same y.signature x.signature p.1 in
    let signature : y.signature ≡ x.signature = s.1 ∙ sym s.2 in
    and_from (same_text x.name y.name) (method_signature_eq x.signature y.signature) (subst (λ z. same_text z y.name ≡ true) name (subst (λ z. same_text y.name z ≡ true) (sym name) p.0))
    (subst (λ z. method_signature_eq z y.signature ≡ true) signature (subst (λ z. method_signature_eq y.signature z ≡ true) (sym signature) p.1))

all_apart : (xs : List OwnMethod) → ((i j : ℕ) (x y : OwnMethod) → i < j → slice_get xs i ≡ Some x → slice_get xs j ≡ Some y → is_named y.name y.signature x ≡ false) → methods_apart xs ≡ true
all_apart [] h = refl
all_apart (x ∷ xs) h = and_from (not (list_any (is_named x.name x.signature) xs)) (methods_apart xs) (by (list_any (is_named x.name x.signature) xs) refl) (all_apart xs (λ i j y z below e g. h (suc i) (suc j) y z (omega (arith, below)) e g))
  where
    by : (b : Bool) → list_any (is_named x.name x.signature) xs ≡ b → not b ≡ true
    by false e = refl
    by true e = let a = any_at (is_named x.name x.signature) xs e in absurd (both_ways (is_named a.1.name a.1.signature x) (h 0 (suc a.0) x a.1 (omega arith) refl a.2) (turned x a.1 a.3))

-- a way that ends has room
has_room : (next : Id → List Id) (n : ℕ) (c d : Id) (other : Id → List Id) → ends n next c ≡ true → other d ≡ [] → ends n other d ≡ true
has_room next zero c d other e none = absurd (cc e)
has_room next (suc n) c d other e none = ap (list_all (ends n other)) none

module _ (xs : List FilePart) (accepted : IsAccepted (base xs)) where
  abbrev files : List FilePart
  files = base xs

  abbrev w : World
  w = world_of (base xs)

  abbrev size : ℕ
  size = size_of (rows_alone (base xs))

  abbrev n : ℕ
  n = type_count (rows_alone (base xs))

  abbrev cs : Classes
  cs = (ecma_sources (base xs)).classes

  read : IsRead n cs
  read = world_is_read files accepted.types

  basic : IsBase cs
  basic = base_facts xs

  kept : Keeps n cs
  kept = keeps files (in_types files accepted) (in_members files accepted) (in_slots files accepted) read

  ends_up : (c : Id) → ends n (above cs) c ≡ true
  ends_up c = chain_ends n cs read basic kept c

  enclosed : (c : Id) (k : Class) → cs.class c ≡ Some k → is_enclosed_well n cs c ≡ true
  enclosed c k there =
      let r : ClassRow files c k = class_row files c k there in
      let row = row_kept (type_rules w) files (in_types files accepted) c.file r.file r.is_file 0 (record { table = type_defs; tests = type_tests w c.file r.file.metadata }) c.row r.row refl r.is_row in
      let tests = subst (λ o. first_fault c.file type_defs (suc c.row) (of_class o (class_tests w r.file.metadata c r.row)) ≡ None) there row in
      let well : type_well w r.file.metadata c r.row k ≡ true = tests_kept c.file type_defs (suc c.row) (class_tests w r.file.metadata c r.row k) 1 tests in
      let m = r.file.metadata in
      let layout : Bool = only_if (is_explicit r.row) (is_none_there (own_instance_fields cs c)) in
      let alone : Bool = not (is_type_before (assemblies_of (base xs)) c) in
      let kinds : Bool = data_type_well m c k k.kind in
      let first = and_parts (value_well cs c k.kind) (kinds && (layout && (is_enclosed_well n cs c && alone))) well in
      let second = and_parts kinds (layout && (is_enclosed_well n cs c && alone)) first.1 in
      let third = and_parts layout (is_enclosed_well n cs c && alone) second.1 in
      (and_parts (is_enclosed_well n cs c) alone third.1).0

  outer_ends : (c : Id) → ends n (λ d. listed (enclosing_of cs d)) c ≡ true
  outer_ends c = by (cs.class c) refl
    where
      by : (o : Option Class) → cs.class c ≡ o → ends n (λ d. listed (enclosing_of cs d)) c ≡ true
      by (Some k) e = enclosed c k e
      by None e = has_room (above cs) n c c (λ d. listed (enclosing_of cs d)) (ends_up c) (ap (λ (o : Option Class). listed (on_some o (λ k. k.enclosing))) e)

  profile_kept : profile files ≡ None
  unfolding profile
  profile_kept =
      ap (λ (o : Option Fault). elim o as (λ _. Option Fault) [ None ↦ each (λ _ rules. phase_fault rules (base xs)) 1 (member_rules w ∷ []) | Some found ↦ Some found ]) (in_types files accepted)
      ∙ ap (λ (o : Option Fault). elim o as (λ _. Option Fault) [ None ↦ None | Some found ↦ Some found ]) (in_members files accepted)

  apart : (c : Id) → methods_apart (methods_of cs c) ≡ true
  apart c = by (cs.class c) refl
    where
      each_apart : AreApart cs
      each_apart = (methods_stand_well files accepted.types profile_kept).apart

      by : (o : Option Class) → cs.class c ≡ o → methods_apart (unwrap_or (option_map (λ (k : Class). k.methods) o) []) ≡ true
      by None e = refl
      by (Some k) e = all_apart k.methods (λ i j x y below a b. each_apart c k i j x y e below a b)

  -- ---- the methods of types follow one another

  row_at : (f : ℕ) (x : FilePart) (i : ℕ) (t : TypeRow) → slice_get (whole files f x).types i ≡ Some t → (row : List ℕ) × (slice_get (rows_of x.metadata type_defs) i ≡ Some row) × (type_row x.metadata (λ n. kind_of size (rows_alone (base xs)) (id_at f n)) i row ≡ t)
  row_at f x i t h =
      some_map (type_row x.metadata (λ n. kind_of size (rows_alone (base xs)) (id_at f n)) i) (slice_get (rows_of x.metadata type_defs) i) t
      (sym (from_zero (type_row x.metadata (λ n. kind_of size (rows_alone (base xs)) (id_at f n))) i (rows_of x.metadata type_defs)) ∙ h)

  rise : (f : ℕ) (p : Assembly) → slice_get (assemblies_of (base xs)) f ≡ Some p → MethodsRise p
  rise f p e = let x = file_of files f p e in subst MethodsRise x.2 (of_file x.0 x.1)
    where
      of_file : (x : FilePart) → slice_get (base xs) f ≡ Some x → MethodsRise (whole (base xs) f x)
      of_file x at =
          record {
            rise = λ i j t u below et eu.
                let a = row_at f x i t et in
                let b = row_at f x j u eu in
                let up = list_rises x.metadata (accepted.types f x at) i j a.0 b.0 below a.1 b.1 in
                let first_a = ap (λ (z : TypeRow). z.first_method) a.2 in
                let count_a = ap (λ (z : TypeRow). z.method_count) a.2 in
                let first_b = ap (λ (z : TypeRow). z.first_method) b.2 in
                omega (arith, up, first_a, count_a, first_b);
          }

  pub judged : Judged size (assemblies_of (base xs))
  judged =
      record {
        ups = λ c. ends_more (above cs) n size c (ends_up c) (omega arith);
        parents = λ c. both_end n cs read basic kept n size c (ends_up c) (omega arith);
        outers = λ c. ends_more (λ d. listed (enclosing_of cs d)) n size c (outer_ends c) (omega arith);
        apart = apart;
        rise = rise;
      }
