-- The rules that were added for all files are those of all rows that may be kept.
use Rattle.std.proofs.Common.{◌≡◌, ◌⊎◌, inl, inr, ℕ, ◌<◌, ◌≤◌, Bool, true, List, [], ◌++◌, length, Some, refl, sym, ap, ◌∙◌, subst, arith}
use Rattle.std.specs.Prelude.{slice_get}
use Rattle.std.specs.List.{filter_map}
use Rattle.std.specs.Option.{option_map}
use Rattle.std.proofs.lemmas.Bool.{cases_lt}
use Rattle.std.proofs.lemmas.Option.{slice_get_within}
use Rattle.file_tables.specs.File.{FilePart}
use Rattle.row_closure.specs.declared.rule.Rule.{Rule}
use Rattle.assemblies.specs.Rows.{Assembly}
use Rattle.assemblies.specs.Binding.{class_with, classes_of}
use Rattle.assemblies.specs.Chosen.{Choice}
use Rattle.assemblies.proofs.Binds.{on_some_back, map_back}
use Rattle.world_rows.specs.World.{rows_alone, assemblies_of, size_of, assembly_with}
use Rattle.class_table.specs.declared.rows.ClassTable.{ClassTable}
use Rattle.class_table.specs.Whole.{IsTable}
use Rattle.class_table.proofs.TableLaws.{assembly_at}
use Rattle.class_order.specs.Order.{ChainsEnd}
use Rattle.kept_closure.specs.Kept.{HasAll}
use Rattle.kept_rules.specs.Row.{Row, marks}
use Rattle.kept_rules.specs.Rules.{RowRule, Names, TypeOfMethod, TypeOfField, Defined, FieldDefined, MethodDefined, InstanceFieldOf, InitialiserOf, ThrownByNative, TakesSlot, SlotTaken, FilledBy, first_row, second_row, then_row, MembersStand}
use Rattle.kept_rules.proofs.LeastLaws.{spans, stands}
use Rattle.kept_numbers.specs.Numbers.{IsThere, file_of}
use Rattle.kept_numbers.specs.Made.{rule_of, HasPremises, AreThere, AreMade}
use Rattle.row_numbers.specs.Tables.{AreCounts}
use Rattle.row_rules.specs.declared.rules.RowRules.{RowRules}
use Rattle.row_rules.specs.Links.{rule_between}
use Rattle.row_rules.specs.Given.{link_of, HasLink}
use Rattle.member_rules.proofs.Among.{Among}
use Rattle.root_marks.specs.Are.{AreRoots}
use Rattle.root_marks.proofs.NameLaws.{in_filter_map, from_filter_map}
use Rattle.slot_links.specs.Slots.{AreReached}
use Rattle.slot_links.specs.Rules.{AreSlotRules}
use Rattle.slot_links.proofs.RuleLaws.{slot_rules}
use Rattle.table_minimise.specs.FileLinks.{AddsFiles}
use Rattle.table_minimise.proofs.RowLaws.{file_there, numbered_rule, AllThere, rule_is, is_rule}
use Rattle.table_minimise.proofs.FileLaws.{rule_file, has, are}

module _ (files : List FilePart) (t : ClassTable) (table : IsTable files t) (chains : ChainsEnd (classes_of (size_of (rows_alone files)) (assemblies_of files))) where
  abbrev size : ℕ
  size = size_of (rows_alone files)

  abbrev ps : List Assembly
  ps = assemblies_of files

  -- ---- a rule whose first row is there is one of a file that is there

  file_below : (f : ℕ) (p : Assembly) → slice_get ps f ≡ Some p → f < length files
  file_below f p at =
      let w = map_back (assembly_with size files (rows_alone files) f) (slice_get files f) p (sym (assembly_at files t table f) ∙ at) in
      slice_get_within files f w.0 w.1

  reaches_none : (f : ℕ) → length files ≤ f → AreReached (classes_of size ps) f []
  reaches_none f past = record {
    all =
        λ n k e.
        let w = on_some_back (slice_get ps f) (λ (p : Assembly). option_map (class_with size ps f p) (slice_get p.types n)) k e in
        absurd (let low = file_below f w.0 w.1 in omega (arith, low, past));
    each = λ n ds e. absurd (cc e);
  }

  past_slots : (f : ℕ) → length files ≤ f → AreSlotRules size ps f []
  past_slots f past = slot_rules size ps chains f [] (reaches_none f past)

  past_file : (r : Row) → IsThere ps r → length files ≤ file_of r → ⊥
  past_file r there past = let p = file_there ps r there in let low = file_below (file_of r) p.0 p.1 in omega (arith, low, past)

  no_rule : (r : RowRule size ps) → IsThere ps (first_row size ps r) → length files ≤ rule_file size ps r → ⊥
  no_rule (Names a i c e) there past = past_file a there past
  no_rule (TypeOfMethod f n k p at e) there past = past_file (first_row size ps (TypeOfMethod f n k p at e)) there past
  no_rule (TypeOfField f n k p at e) there past = past_file (first_row size ps (TypeOfField f n k p at e)) there past
  no_rule (Defined f n c e) there past = past_file (first_row size ps (Defined f n c e)) there past
  no_rule (FieldDefined f n c e) there past = past_file (first_row size ps (FieldDefined f n c e)) there past
  no_rule (MethodDefined f n c e) there past = past_file (first_row size ps (MethodDefined f n c e)) there past
  no_rule (InstanceFieldOf f n i p q x s e k) there past = past_file (first_row size ps (InstanceFieldOf f n i p q x s e k)) there past
  no_rule (InitialiserOf f n i p q m s e k) there past = past_file (first_row size ps (InitialiserOf f n i p q m s e k)) there past
  no_rule (ThrownByNative f n p m name k c s b u l) there past = past_file (first_row size ps (ThrownByNative f n p m name k c s b u l)) there past
  no_rule (TakesSlot c up m u o) there past = past_file (first_row size ps (TakesSlot c up m u o)) there past
  no_rule (SlotTaken c up m u o) there past = let w = (past_slots c.file past).taken c up m u o refl in let none = w.1 in cc none
  no_rule (FilledBy c i d m body o) there past = let w = (past_slots c.file past).filled c i d m body o refl in let none = w.1 in cc none

  -- ---- the rules of all files

  module _ (none after : RowRules) (empty : none.rules.items ≡ []) (counts : AreCounts ps none.numbers) (adds : AddsFiles files t (length files) none after) where
    pub items : after.rules.items ≡ filter_map (rule_between ps) adds.links
    items = adds.adds.rules ps counts ∙ ap (λ xs. xs ++ filter_map (rule_between ps) adds.links) empty

    has_link : (r : RowRule size ps) → IsThere ps (first_row size ps r) → HasLink adds.links size ps r
    has_link r there = go (cases_lt (rule_file size ps r) (length files))
      where
        go : (rule_file size ps r < length files) ⊎ (length files ≤ rule_file size ps r) → HasLink adds.links size ps r
        go (inl low) =
            let w = adds.each (rule_file size ps r) low in
            let h = has files t table chains r there w.0 w.1.0 in
            w.1.1 h.0 (link_of size ps r) h.1
        go (inr past) = absurd (no_rule r there past)

    is_made : (k : ℕ) (x : Rule) → slice_get after.rules.items k ≡ Some x → (r : RowRule size ps) × AreThere size ps r × (x ≡ rule_of size ps r)
    is_made k x e =
        let h : Among (filter_map (rule_between ps) adds.links) x = subst (λ xs. Among xs x) items (k, e) in
        let l = from_filter_map (rule_between ps) adds.links x h in
        let w = is_rule ps l.0 x l.1.1 in
        let p = adds.from l.1.0.0 l.0 l.1.0.1 in
        let r = are files t table chains p.0 p.1.0 p.1.1.0 l.0 p.1.1.1 w.0.0 in
        (r.0, subst (AllThere ps) r.1 w.0, w.1 ∙ ap (numbered_rule ps) r.1)

    module _ (base : ℕ → Choice) (all : HasAll ps base) (stand : MembersStand size ps base) (there : (r : Row) → marks base r ≡ true → IsThere ps r) where
      has_made : (r : RowRule size ps) → HasPremises size ps base r → (k : ℕ) × (slice_get after.rules.items k ≡ Some (rule_of size ps r))
      has_made r (p, q) =
          let first = there (first_row size ps r) p in
          let second = there (second_row size ps r) q in
          let third = there (then_row size ps r) (spans size ps base all r (stands size ps base all stand r p) p) in
          let rule = in_filter_map (rule_between ps) adds.links (link_of size ps r) (rule_of size ps r) (has_link r first) (rule_is ps (link_of size ps r) (first, second, third)) in
          subst (λ xs. Among xs (rule_of size ps r)) (sym items) rule

      pub are_made : (roots : ℕ → Bool) → AreRoots size ps roots → AreMade size ps base roots after.rules.items
      are_made roots are = record { there = there; has_root = are.has_root; is_root = are.is_root; has_rule = has_made; is_rule = is_made }
