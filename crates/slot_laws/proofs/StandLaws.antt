-- The rules on methods give what slots stand on.
use Rattle.std.proofs.Common.{◌≡◌, ℕ, suc, ◌+◌, ◌<◌, ◌≤◌, Bool, true, false, List, [], ◌∷◌, Option, Some, None, refl, sym, ap, ◌∙◌, subst, arith}
use Rattle.std.specs.Prelude.{◌&&◌, not, nat_lt, slice_get, unwrap_or}
use Rattle.std.specs.List.{list_any}
use Rattle.std.specs.Option.{option_map}
use Rattle.std.proofs.lemmas.Bool.{lt-ltb}
use Rattle.file_tables.specs.Metadata.{rows_of}
use Rattle.file_tables.specs.File.{FilePart}
use Rattle.machine.specs.Data.{Id}
use Rattle.machine.specs.Throw.{on_some}
use Rattle.classes.specs.Classes.{Class, Classes, OwnMethod}
use Rattle.classes.specs.Queries.{is_named, methods_of}
use Rattle.class_rules.proofs.Ways.{at_any}
use Rattle.assemblies.specs.Binding.{id_at}
use Rattle.assemblies.specs.Rows.{TypeRow, Assembly}
use Rattle.assemblies.specs.Ranges.{MethodsRise}
use Rattle.assemblies.proofs.Belong as belong
use Rattle.assemblies.proofs.Belong.{Listed, listed, some_map}
use Rattle.world_rows.specs.Tokens.{type_defs, methods}
use Rattle.world_rows.specs.Rows.{type_row}
use Rattle.world_rows.specs.Kinds.{kind_of}
use Rattle.world_rows.specs.Read.{TypesStand}
use Rattle.world_rows.specs.World.{size_of, rows_alone, assemblies_of, ecma_sources}
use Rattle.world_rows.proofs.Read.{list_rises}
use Rattle.class_targets.specs.Virtual.{AreApart}
use Rattle.class_targets.proofs.KeptLaws.{bodied_kept}
use Rattle.class_slots.specs.Slots.{AreOwned, MethodsStand}
use Rattle.verdict_rules.specs.Order.{first_fault, phase_fault}
use Rattle.verdict_rules.specs.World.{World, world_of}
use Rattle.verdict_rules.specs.Types.{type_rules}
use Rattle.verdict_rules.specs.Members.{of_member, is_before_method, is_method_apart, method_tests}
use Rattle.verdict_rules.specs.Verdict.{member_rules, profile}
use Rattle.verdict_laws.proofs.Kept.{each_kept, tests_kept, row_kept}
use Rattle.verdict_laws.proofs.Keeps.{methods_stand}
use Rattle.verdict_laws.proofs.Rows.{MethodAt, method_at, from_zero, whole, file_there}

-- ---- truths

not_any : {A : Type 0} (test : A → Bool) (xs : List A) (i : ℕ) (x : A) → slice_get xs i ≡ Some x → not (list_any test xs) ≡ true → test x ≡ false
not_any test xs i x at e = go (test x) refl
  where
    go : (b : Bool) → test x ≡ b → test x ≡ false
    go true h = absurd (let any = at_any test xs i x at h in cc (sym (ap not any) ∙ e))
    go false h = h

second_false : (a b : Bool) → a ≡ true → (a && b) ≡ false → b ≡ false
second_false true b h e = e
second_false false b h e = absurd (cc h)

module _ (files : List FilePart) (stand : TypesStand files) where
  abbrev w : World
  w = world_of files

  abbrev size : ℕ
  size = size_of (rows_alone files)

  abbrev ps : List Assembly
  ps = assemblies_of files

  abbrev cs : Classes
  cs = (ecma_sources files).classes

  -- ---- the methods of types follow one another

  row_at : (f : ℕ) (x : FilePart) (i : ℕ) (t : TypeRow) → slice_get (whole files f x).types i ≡ Some t → (row : List ℕ) × (slice_get (rows_of x.metadata type_defs) i ≡ Some row) × (type_row x.metadata (λ n. kind_of size (rows_alone files) (id_at f n)) i row ≡ t)
  row_at f x i t h =
      some_map (type_row x.metadata (λ n. kind_of size (rows_alone files) (id_at f n)) i) (slice_get (rows_of x.metadata type_defs) i) t
      (sym (from_zero (type_row x.metadata (λ n. kind_of size (rows_alone files) (id_at f n))) i (rows_of x.metadata type_defs)) ∙ h)

  file_rises : (f : ℕ) (x : FilePart) → slice_get files f ≡ Some x → MethodsRise (whole files f x)
  file_rises f x here = record { rise = rises }
    where
      rises : (i j : ℕ) (t u : TypeRow) → i < j → slice_get (whole files f x).types i ≡ Some t → slice_get (whole files f x).types j ≡ Some u → t.first_method + t.method_count ≤ u.first_method
      rises i j t u below et eu =
          let a = row_at f x i t et in
          let b = row_at f x j u eu in
          let up = list_rises x.metadata (stand f x here) i j a.0 b.0 below a.1 b.1 in
          let first_a = ap (λ (z : TypeRow). z.first_method) a.2 in
          let count_a = ap (λ (z : TypeRow). z.method_count) a.2 in
          let first_b = ap (λ (z : TypeRow). z.first_method) b.2 in
          omega (arith, up, first_a, count_a, first_b)

  rise : (f : ℕ) (p : Assembly) → slice_get ps f ≡ Some p → MethodsRise p
  rise f p e = by (slice_get files f) refl (sym (file_there files f) ∙ e)
    where
      by : (o : Option FilePart) → slice_get files f ≡ o → option_map (whole files f) o ≡ Some p → MethodsRise p
      by None here h = absurd (cc h)
      by (Some x) here h = let same : whole files f x ≡ p = cc h in subst MethodsRise same (file_rises f x here)

  pub owned : AreOwned cs
  owned c i m e = (belong.owner size ps rise c i m e, belong.entry size ps rise c i m e)

  -- ---- their numbers rise within a type

  number_of : (c : Id) (i : ℕ) (m : OwnMethod) (l : Listed size ps c i m) → m.id.row ≡ l.type.first_method + i
  number_of c i m l = ap (λ (z : OwnMethod). z.id.row) (sym l.is)

  same_first : (c : Id) (i j : ℕ) (x y : OwnMethod) (a : Listed size ps c i x) (b : Listed size ps c j y) → a.type.first_method ≡ b.type.first_method
  same_first c i j x y a b =
      let assemblies : Some a.assembly ≡ Some b.assembly = sym a.is_assembly ∙ b.is_assembly in
      let assembly : a.assembly ≡ b.assembly = cc assemblies in
      let types : Some a.type ≡ Some b.type = sym a.is_type ∙ ap (λ (p : Assembly). slice_get p.types c.row) assembly ∙ b.is_type in
      let type : a.type ≡ b.type = cc types in
      ap (λ (t : TypeRow). t.first_method) type

  numbers_rise : (c : Id) (i j : ℕ) (x y : OwnMethod) → i < j → slice_get (methods_of cs c) i ≡ Some x → slice_get (methods_of cs c) j ≡ Some y → nat_lt x.id.row y.id.row ≡ true
  numbers_rise c i j x y below ex ey =
      let a = listed size ps c i x ex in
      let b = listed size ps c j y ey in
      let first = same_first c i j x y a b in
      let row_a = number_of c i x a in
      let row_b = number_of c j y b in
      lt-ltb x.id.row y.id.row (omega (arith, below, first, row_a, row_b))

  module _ (in_members : phase_fault (member_rules w) files ≡ None) where
    -- ---- no two of a class have one name and signature

    pub apart : AreApart cs
    apart c k i j x y there below ex ey = second_false (nat_lt x.id.row y.id.row) (is_named y.name y.signature x) (numbers_rise c i j x y below (of_class i x ex) (of_class j y ey)) (not_any (is_before_method y) k.methods i x ex mine)
      where
        of_class : (n : ℕ) (m : OwnMethod) → slice_get k.methods n ≡ Some m → slice_get (methods_of cs c) n ≡ Some m
        of_class n m e = ap (λ o. slice_get (unwrap_or (option_map (λ (z : Class). z.methods) o) []) n) there ∙ e

        b : MethodAt files c y
        b = method_at files c k j y there ey

        kept : first_fault c.file methods (suc b.number) (method_tests w c.file b.file b.number b.row) ≡ None
        kept = row_kept (member_rules w) files in_members c.file b.file b.is_file 1 (record { table = methods; tests = method_tests w c.file b.file }) b.number b.row refl b.is_row

        asked : is_method_apart w b.file y ≡ true
        asked = sym (ap (λ o. of_member o (is_method_apart w b.file)) b.own) ∙ tests_kept c.file methods (suc b.number) (method_tests w c.file b.file b.number b.row) 2 kept

        mine : not (list_any (is_before_method y) k.methods) ≡ true
        mine =
            sym
            (ap (λ o. unwrap_or (on_some o (λ c. option_map (λ (k : Class). not (list_any (is_before_method y) k.methods)) (cs.class c))) true) (owned c j y (of_class j y ey)).0
            ∙ ap (λ o. unwrap_or (option_map (λ (k : Class). not (list_any (is_before_method y) k.methods)) o) true) there)
            ∙ asked

-- ---- the profile

module _ (files : List FilePart) (kept : profile files ≡ None) where
  pub types_kept : phase_fault (type_rules (world_of files)) files ≡ None
  unfolding profile
  types_kept = each_kept (λ _ rules. phase_fault rules files) (type_rules (world_of files) ∷ member_rules (world_of files) ∷ []) 0 (type_rules (world_of files)) kept refl

  pub members_kept : phase_fault (member_rules (world_of files)) files ≡ None
  unfolding profile
  members_kept = each_kept (λ _ rules. phase_fault rules files) (type_rules (world_of files) ∷ member_rules (world_of files) ∷ []) 1 (member_rules (world_of files)) kept refl

pub methods_stand_well : (files : List FilePart) → TypesStand files → profile files ≡ None → MethodsStand (ecma_sources files).classes
methods_stand_well files stand kept =
    let are_owned = owned files stand in
    record {
      apart = apart files stand (members_kept files kept);
      bodied = bodied_kept (ecma_sources files).classes (methods_stand files (types_kept files kept) (members_kept files kept) (λ c i m e. (are_owned c i m e).0));
      owned = are_owned;
    }
