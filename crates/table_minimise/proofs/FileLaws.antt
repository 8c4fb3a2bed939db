-- The links of a file are those of the rules of its rows.
use Rattle.std.proofs.Common.{◌≡◌, ⊎_elim, ℕ, List, ◌++◌, Some, refl, sym, ◌∙◌, subst}
use Rattle.std.specs.Prelude.{slice_get}
use Rattle.file_tables.specs.Metadata.{MetadataPart}
use Rattle.file_tables.specs.File.{FilePart}
use Rattle.machine.specs.Data.{Id}
use Rattle.assemblies.specs.Rows.{Assembly, MethodRow, FieldRow}
use Rattle.assemblies.specs.Binding.{classes_of}
use Rattle.world_rows.specs.World.{rows_alone, assemblies_of, size_of}
use Rattle.class_table.specs.declared.rows.ClassTable.{ClassTable}
use Rattle.class_table.specs.Seen.{classes_seen}
use Rattle.class_table.specs.Whole.{IsTable}
use Rattle.class_table.proofs.TableLaws.{table_law}
use Rattle.class_order.specs.Order.{ChainsEnd}
use Rattle.kept_rules.specs.Row.{Row, AssemblyRefAt, TypeRefAt, FieldRefAt, MethodRefAt, TypeAt, FieldAt, MethodAt, SpecAt, names_of}
use Rattle.kept_rules.specs.Rules.{RowRule, Names, TypeOfMethod, TypeOfField, Defined, FieldDefined, MethodDefined, InstanceFieldOf, InitialiserOf, ThrownByNative, TakesSlot, SlotTaken, FilledBy, first_row}
use Rattle.kept_numbers.specs.Numbers.{IsThere, file_of}
use Rattle.row_rules.specs.Links.{Link, keeps}
use Rattle.row_rules.specs.Given.{link_of, HasLink, AreRules}
use Rattle.row_rules.specs.Rules.{AreNames}
use Rattle.row_rules.proofs.NameLaws.{refs, field_refs, method_refs, field_types, specs}
use Rattle.body_rules.proofs.MethodLaws.{methods_are}
use Rattle.definition_rules.specs.Definitions.{type_definitions, type_ref_count, field_definitions, field_ref_count, method_definitions, method_ref_count}
use Rattle.definition_rules.proofs.RuleLaws.{has_type, are_types, has_field as defines_field, are_fields, has_method, are_methods}
use Rattle.member_rules.specs.Members.{member_links}
use Rattle.member_rules.specs.Rules.{AreMemberRules, AreTypeNames}
use Rattle.member_rules.proofs.Among.{Among, in_front, in_rest, in_either}
use Rattle.member_rules.proofs.MemberLaws.{are_member_rules}
use Rattle.member_rules.proofs.TypeLaws.{are_type_names}
use Rattle.slot_links.specs.Slots.{AreReached, slot_links}
use Rattle.slot_links.specs.Rules.{AreSlotRules}
use Rattle.slot_links.proofs.RuleLaws.{slot_rules}
use Rattle.table_minimise.specs.FileLinks.{type_ref_links, field_ref_links, method_ref_links, field_type_links, spec_links, reference_links, signature_links, method_links, type_links, definition_links, file_links, AreFileLinks}

-- the file whose rows have a rule
abbrev pub rule_file : (size : ℕ) (ps : List Assembly) → RowRule size ps → ℕ
rule_file size ps (Names a i c e) = file_of a
rule_file size ps (TypeOfMethod f n k p at e) = f
rule_file size ps (TypeOfField f n k p at e) = f
rule_file size ps (Defined f n c e) = f
rule_file size ps (FieldDefined f n c e) = f
rule_file size ps (MethodDefined f n c e) = f
rule_file size ps (InstanceFieldOf f n i p t x s e k) = f
rule_file size ps (InitialiserOf f n i p t m s e k) = f
rule_file size ps (ThrownByNative f n p m name k c s b t l) = f
rule_file size ps (TakesSlot c up m u o) = c.file
rule_file size ps (SlotTaken c up m u o) = c.file
rule_file size ps (FilledBy c i d m body o) = c.file

-- in one of three lists
in_three : {A : Type 0} (xs ys zs : List A) (P : A → Type 0) → ((x : A) → Among xs x → P x) → ((x : A) → Among ys x → P x) → ((x : A) → Among zs x → P x) → (x : A) → Among (xs ++ (ys ++ zs)) x → P x
in_three xs ys zs P p q r x h = ⊎_elim (λ g. p x g) (λ g. ⊎_elim (λ k. q x k) (λ k. r x k) (in_either ys zs x g)) (in_either xs (ys ++ zs) x h)

module _ (files : List FilePart) (t : ClassTable) (table : IsTable files t) (chains : ChainsEnd (classes_of (size_of (rows_alone files)) (assemblies_of files))) where
  abbrev size : ℕ
  size = size_of (rows_alone files)

  abbrev ps : List Assembly
  ps = assemblies_of files

  abbrev IsRule : Link → Type 0
  IsRule l = (r : RowRule size ps) × (l ≡ link_of size ps r)

  pub same_classes : classes_seen t ≡ classes_of size ps
  same_classes = table_law files t table

  slots_of : (f : ℕ) (reached : List (List Id)) → AreReached (classes_seen t) f reached → AreSlotRules size ps f (slot_links (classes_seen t) f 0 reached)
  slots_of f reached reach =
      subst (λ cs. AreSlotRules size ps f (slot_links cs f 0 reached)) (sym same_classes)
      (slot_rules size ps chains f reached (subst (λ cs. AreReached cs f reached) same_classes reach))

  of_names : (at : ℕ → Row) (links : List Link) → AreNames ps at links → (l : Link) → Among links l → IsRule l
  of_names at links law l (k, e) = let w = law.are k l e in (Names (at w.0) w.1.0 w.1.1.0 w.1.1.1.0, w.1.1.1.1)

  of_rules : (links : List Link) → AreRules size ps links → (l : Link) → Among links l → IsRule l
  of_rules links law l (k, e) = law k l e

  module _ (f : ℕ) (ls : List Link) (w : AreFileLinks files t f ls) where
    abbrev m : MetadataPart
    m = w.part.metadata

    abbrev from_slots : List Link
    from_slots = slot_links (classes_seen t) f 0 w.reached

    abbrev from_members : List Link
    from_members = member_links (classes_seen t) f w.rows ++ from_slots

    abbrev from_definitions : List Link
    from_definitions = definition_links files f m ++ from_members

    abbrev from_types : List Link
    from_types = type_links f m w.rows ++ from_definitions

    abbrev from_methods : List Link
    from_methods = method_links f w.part ++ from_types

    abbrev from_signatures : List Link
    from_signatures = signature_links f m ++ from_methods

    put : (l : Link) → Among (file_links files t f w.part w.rows w.reached) l → Among ls l
    put l h = subst (λ xs. Among xs l) (sym w.are) h

    by_reference : (l : Link) → Among (reference_links f m) l → Among ls l
    by_reference l h = put l (in_front (reference_links f m) from_signatures l h)

    past_references : (l : Link) → Among from_signatures l → Among ls l
    past_references l h = put l (in_rest (reference_links f m) from_signatures l h)

    by_signature : (l : Link) → Among (signature_links f m) l → Among ls l
    by_signature l h = past_references l (in_front (signature_links f m) from_methods l h)

    past_signatures : (l : Link) → Among from_methods l → Among ls l
    past_signatures l h = past_references l (in_rest (signature_links f m) from_methods l h)

    by_method : (l : Link) → Among (method_links f w.part) l → Among ls l
    by_method l h = past_signatures l (in_front (method_links f w.part) from_types l h)

    past_methods : (l : Link) → Among from_types l → Among ls l
    past_methods l h = past_signatures l (in_rest (method_links f w.part) from_types l h)

    by_type : (l : Link) → Among (type_links f m w.rows) l → Among ls l
    by_type l h = past_methods l (in_front (type_links f m w.rows) from_definitions l h)

    past_types : (l : Link) → Among from_definitions l → Among ls l
    past_types l h = past_methods l (in_rest (type_links f m w.rows) from_definitions l h)

    by_definition : (l : Link) → Among (definition_links files f m) l → Among ls l
    by_definition l h = past_types l (in_front (definition_links files f m) from_members l h)

    past_definitions : (l : Link) → Among from_members l → Among ls l
    past_definitions l h = past_types l (in_rest (definition_links files f m) from_members l h)

    by_member : (l : Link) → Among (member_links (classes_seen t) f w.rows) l → Among ls l
    by_member l h = past_definitions l (in_front (member_links (classes_seen t) f w.rows) from_slots l h)

    by_slot : (l : Link) → Among from_slots l → Among ls l
    by_slot l h = past_definitions l (in_rest (member_links (classes_seen t) f w.rows) from_slots l h)

    -- ---- each law

    names_of_types : AreTypeNames ps f (type_links f m w.rows)
    names_of_types = are_type_names files t table f w.rows w.rows_at w.part w.at

    members : AreMemberRules size ps f (member_links (classes_seen t) f w.rows)
    members = are_member_rules files t table f w.rows w.rows_at

    slots : AreSlotRules size ps f from_slots
    slots = slots_of f w.reached w.reach

    abbrev types_defined : List Link
    types_defined = type_definitions files f (type_ref_count m)

    abbrev fields_defined : List Link
    fields_defined = field_definitions files f (field_ref_count m)

    abbrev methods_defined : List Link
    methods_defined = method_definitions files f (method_ref_count m)

    abbrev of_refs : List Link
    of_refs = type_ref_links f m

    abbrev of_field_refs : List Link
    of_field_refs = field_ref_links f m

    abbrev of_method_refs : List Link
    of_method_refs = method_ref_links f m

    abbrev of_fields : List Link
    of_fields = field_type_links f m

    abbrev of_specs : List Link
    of_specs = spec_links f m

    -- ---- rules that rows of the file have

    has_ref : (n i : ℕ) (c : Row) → slice_get (names_of ps (TypeRefAt f n)) i ≡ Some c → Among ls (keeps (TypeRefAt f n) c)
    has_ref n i c e = by_reference (keeps (TypeRefAt f n) c) (in_front of_refs (of_field_refs ++ of_method_refs) (keeps (TypeRefAt f n) c) ((refs files f w.part w.at).has n i c e))

    has_field_ref : (n i : ℕ) (c : Row) → slice_get (names_of ps (FieldRefAt f n)) i ≡ Some c → Among ls (keeps (FieldRefAt f n) c)
    has_field_ref n i c e =
        by_reference (keeps (FieldRefAt f n) c)
        (in_rest of_refs (of_field_refs ++ of_method_refs) (keeps (FieldRefAt f n) c)
        (in_front of_field_refs of_method_refs (keeps (FieldRefAt f n) c) ((field_refs files f w.part w.at).has n i c e)))

    has_method_ref : (n i : ℕ) (c : Row) → slice_get (names_of ps (MethodRefAt f n)) i ≡ Some c → Among ls (keeps (MethodRefAt f n) c)
    has_method_ref n i c e =
        by_reference (keeps (MethodRefAt f n) c)
        (in_rest of_refs (of_field_refs ++ of_method_refs) (keeps (MethodRefAt f n) c)
        (in_rest of_field_refs of_method_refs (keeps (MethodRefAt f n) c) ((method_refs files f w.part w.at).has n i c e)))

    has_field : (n i : ℕ) (c : Row) → slice_get (names_of ps (FieldAt f n)) i ≡ Some c → Among ls (keeps (FieldAt f n) c)
    has_field n i c e = by_signature (keeps (FieldAt f n) c) (in_front of_fields of_specs (keeps (FieldAt f n) c) ((field_types files f w.part w.at).has n i c e))

    has_spec : (n i : ℕ) (c : Row) → slice_get (names_of ps (SpecAt f n)) i ≡ Some c → Among ls (keeps (SpecAt f n) c)
    has_spec n i c e = by_signature (keeps (SpecAt f n) c) (in_rest of_fields of_specs (keeps (SpecAt f n) c) ((specs files f w.part w.at).has n i c e))

    -- ---- each link is that of a rule, if its first row is there

    abbrev IsRuleThere : Link → Type 0
    IsRuleThere l = IsThere ps l.first → IsRule l

    is_reference : (l : Link) → Among (reference_links f m) l → IsRuleThere l
    is_reference l h there =
        in_three of_refs of_field_refs of_method_refs IsRule (of_names (TypeRefAt f) of_refs (refs files f w.part w.at)) (of_names (FieldRefAt f) of_field_refs (field_refs files f w.part w.at)) (of_names (MethodRefAt f) of_method_refs (method_refs files f w.part w.at)) l h

    is_signature : (l : Link) → Among (signature_links f m) l → IsRuleThere l
    is_signature l h there =
        ⊎_elim (λ g. of_names (FieldAt f) of_fields (field_types files f w.part w.at) l g) (λ g. of_names (SpecAt f) of_specs (specs files f w.part w.at) l g) (in_either of_fields of_specs l h)

    is_method : (l : Link) → Among (method_links f w.part) l → IsRuleThere l
    is_method l h there = of_names (MethodAt f) (method_links f w.part) (methods_are files f w.part w.at) l h

    is_type : (l : Link) → Among (type_links f m w.rows) l → IsRuleThere l
    is_type l (k, e) there = let v = names_of_types.are k l e there in (Names (TypeAt f v.0) v.1.0 v.1.1.0 v.1.1.1.0, v.1.1.1.1)

    is_definition : (l : Link) → Among (definition_links files f m) l → IsRuleThere l
    is_definition l h there =
        in_three types_defined fields_defined methods_defined IsRule (of_rules types_defined (are_types files f (type_ref_count m))) (of_rules fields_defined (are_fields files f (field_ref_count m))) (of_rules methods_defined (are_methods files f (method_ref_count m))) l h

    is_member : (l : Link) → Among (member_links (classes_seen t) f w.rows) l → IsRuleThere l
    is_member l h there = of_rules (member_links (classes_seen t) f w.rows) members.are l h

    is_slot : (l : Link) → Among from_slots l → IsRuleThere l
    is_slot l h there = of_rules from_slots slots.are l h

    pub are : (l : Link) → Among ls l → IsThere ps l.first → IsRule l
    are l h =
        ⊎_elim (λ g. is_reference l g)
        (λ a. ⊎_elim (λ g. is_signature l g)
        (λ b. ⊎_elim (λ g. is_method l g)
        (λ c. ⊎_elim (λ g. is_type l g)
        (λ d. ⊎_elim (λ g. is_definition l g)
        (λ e. ⊎_elim (λ g. is_member l g) (λ g. is_slot l g) (in_either (member_links (classes_seen t) f w.rows) from_slots l e))
        (in_either (definition_links files f m) from_members l d))
        (in_either (type_links f m w.rows) from_definitions l c))
        (in_either (method_links f w.part) from_types l b))
        (in_either (signature_links f m) from_methods l a))
        (in_either (reference_links f m) from_signatures l (subst (λ xs. Among xs l) w.are h))

  -- ---- the rules of all rows

  method_of : (f n : ℕ) (p : Assembly) → slice_get ps f ≡ Some p → IsThere ps (MethodAt f n) → (m : MethodRow) × (slice_get p.methods n ≡ Some m)
  method_of f n p at (q, (m, s)) =
      let both : Some q ≡ Some p = sym s.0 ∙ at in
      let same : q ≡ p = cc both in
      (m, subst (λ (x : Assembly). slice_get x.methods n ≡ Some m) same s.1)

  field_of : (f n : ℕ) (p : Assembly) → slice_get ps f ≡ Some p → IsThere ps (FieldAt f n) → (x : FieldRow) × (slice_get p.fields n ≡ Some x)
  field_of f n p at (q, (x, s)) =
      let both : Some q ≡ Some p = sym s.0 ∙ at in
      let same : q ≡ p = cc both in
      (x, subst (λ (y : Assembly). slice_get y.fields n ≡ Some x) same s.1)

  -- a rule whose first row is there has its link among those of its file
  pub has : (r : RowRule size ps) → IsThere ps (first_row size ps r) → (ls : List Link) → AreFileLinks files t (rule_file size ps r) ls → HasLink ls size ps r
  has (Names (AssemblyRefAt f n) i c e) there ls w = absurd (cc e)
  has (Names (TypeRefAt f n) i c e) there ls w = has_ref f ls w n i c e
  has (Names (FieldRefAt f n) i c e) there ls w = has_field_ref f ls w n i c e
  has (Names (MethodRefAt f n) i c e) there ls w = has_method_ref f ls w n i c e
  has (Names (TypeAt f n) i c e) there ls w = by_type f ls w (keeps (TypeAt f n) c) ((names_of_types f ls w).has n i c e)
  has (Names (FieldAt f n) i c e) there ls w = has_field f ls w n i c e
  has (Names (MethodAt f n) i c e) there ls w = by_method f ls w (keeps (MethodAt f n) c) ((methods_are files f w.part w.at).has n i c e)
  has (Names (SpecAt f n) i c e) there ls w = has_spec f ls w n i c e
  has (TypeOfMethod f n k p at e) there ls w = let m = method_of f n p at there in by_member f ls w (link_of size ps (TypeOfMethod f n k p at e)) ((members f ls w).type_of_method n k p m.0 at e m.1)
  has (TypeOfField f n k p at e) there ls w = let x = field_of f n p at there in by_member f ls w (link_of size ps (TypeOfField f n k p at e)) ((members f ls w).type_of_field n k p x.0 at e x.1)
  has (Defined f n c e) there ls w =
      let l = link_of size ps (Defined f n c e) in
      by_definition f ls w l (in_front (types_defined f ls w) (fields_defined f ls w ++ methods_defined f ls w) l (has_type files f w.part w.at n c e))
  has (FieldDefined f n c e) there ls w =
      let l = link_of size ps (FieldDefined f n c e) in
      by_definition f ls w l (in_rest (types_defined f ls w) (fields_defined f ls w ++ methods_defined f ls w) l (in_front (fields_defined f ls w) (methods_defined f ls w) l (defines_field files f w.part w.at n c e)))
  has (MethodDefined f n c e) there ls w =
      let l = link_of size ps (MethodDefined f n c e) in
      by_definition f ls w l (in_rest (types_defined f ls w) (fields_defined f ls w ++ methods_defined f ls w) l (in_rest (fields_defined f ls w) (methods_defined f ls w) l (has_method files f w.part w.at n c e)))
  has (InstanceFieldOf f n i p q x s e k) there ls w = by_member f ls w (link_of size ps (InstanceFieldOf f n i p q x s e k)) ((members f ls w).instance_field_of n i p q x s e k)
  has (InitialiserOf f n i p q m s e k) there ls w = by_member f ls w (link_of size ps (InitialiserOf f n i p q m s e k)) ((members f ls w).initialiser_of n i p q m s e k)
  has (ThrownByNative f n p m name k c s b u l) there ls w = by_member f ls w (link_of size ps (ThrownByNative f n p m name k c s b u l)) ((members f ls w).thrown_by_native n p m name k c s b u l)
  has (TakesSlot c up m u o) there ls w = by_slot c.file ls w (link_of size ps (TakesSlot c up m u o)) ((slots c.file ls w).takes c up m u o refl)
  has (SlotTaken c up m u o) there ls w = by_slot c.file ls w (link_of size ps (SlotTaken c up m u o)) ((slots c.file ls w).taken c up m u o refl)
  has (FilledBy c i d m body o) there ls w = by_slot c.file ls w (link_of size ps (FilledBy c i d m body o)) ((slots c.file ls w).filled c i d m body o refl)
