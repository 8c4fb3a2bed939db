-- The rules of files that were added one after the other.
use Rattle.std.proofs.Common.{◌≡◌, ⊎_elim, ℕ, ◌+◌, ◌<◌, ◌≤◌, List, [], ◌++◌, Some, refl, sym, ap, ◌∙◌, subst, arith}
use Rattle.std.specs.Prelude.{slice_get}
use Rattle.std.specs.Option.{option_map}
use Rattle.std.proofs.lemmas.Bool.{cases_lt}
use Rattle.file_tables.specs.Metadata.{MetadataPart}
use Rattle.file_tables.specs.Pe.{PePart}
use Rattle.file_tables.specs.File.{FilePart}
use Rattle.assemblies.proofs.Binds.{map_back}
use Rattle.looked_rows.specs.Looked.{file_with}
use Rattle.class_table.specs.declared.rows.FileRows.{FileRows}
use Rattle.class_table.specs.declared.rows.ClassTable.{ClassTable}
use Rattle.class_table.specs.Seen.{classes_seen}
use Rattle.row_rules.specs.declared.rules.RowRules.{RowRules}
use Rattle.row_rules.specs.Links.{Link, Adds}
use Rattle.row_rules.proofs.LinkLaws.{adds_after, adds_none}
use Rattle.member_rules.specs.Members.{member_links}
use Rattle.member_rules.proofs.Among.{in_front, in_rest, in_either}
use Rattle.slot_links.specs.Slots.{AddsSlots, slot_links}
use Rattle.table_minimise.specs.FileLinks.{reference_links, signature_links, method_links, type_links, definition_links, file_links, AreFileLinks, AddsFile, AddsFiles}

module _ (files : List FilePart) (t : ClassTable) where
  -- ---- the rules of one file

  module _ (f : ℕ) (m : MetadataPart) (pe : PePart) (rows : FileRows) (of_metadata : option_map (λ (x : FilePart). x.metadata) (slice_get files f) ≡ Some m) (of_pe : option_map (λ (x : FilePart). x.pe) (slice_get files f) ≡ Some pe) (rows_at : slice_get t.files.items f ≡ Some rows) where
    abbrev x : FilePart
    x = file_with pe m

    here : slice_get files f ≡ Some x
    here =
        let y = map_back (λ (x : FilePart). x.metadata) (slice_get files f) m of_metadata in
        let both : Some y.0.pe ≡ Some pe = sym (ap (option_map (λ (x : FilePart). x.pe)) y.1) ∙ of_pe in
        let same : y.0.pe ≡ pe = cc both in
        y.1 ∙ ap (λ q. Some (file_with q y.0.metadata)) same ∙ ap (λ n. Some (file_with pe n)) y.2

    pub file_added : (a b c d e g h i : RowRules)
        → Adds (reference_links f m) a b
        → Adds (signature_links f m) b c
        → Adds (method_links f x) c d
        → Adds (type_links f m rows) d e
        → ((y : FilePart) → slice_get files f ≡ Some y → Adds (definition_links files f y.metadata) e g)
        → Adds (member_links (classes_seen t) f rows) g h
        → AddsSlots (classes_seen t) f h i
        → AddsFile files t f a i
    file_added a b c d e g h i references signatures methods types definitions members slots =
        let from_slots = slot_links (classes_seen t) f 0 slots.reached in
        let from_members = member_links (classes_seen t) f rows ++ from_slots in
        let from_definitions = definition_links files f m ++ from_members in
        let from_types = type_links f m rows ++ from_definitions in
        let from_methods = method_links f x ++ from_types in
        let from_signatures = signature_links f m ++ from_methods in
        record {
          links = file_links files t f x rows slots.reached;
          made = record { part = x; at = here; rows = rows; rows_at = rows_at; reached = slots.reached; reach = slots.reach; are = refl };
          adds =
              adds_after (reference_links f m) from_signatures a b i references
              (adds_after (signature_links f m) from_methods b c i signatures
              (adds_after (method_links f x) from_types c d i methods
              (adds_after (type_links f m rows) from_definitions d e i types
              (adds_after (definition_links files f m) from_members e g i (definitions x here)
              (adds_after (member_links (classes_seen t) f rows) from_slots g h i members slots.adds)))));
        }

  -- ---- those of the files before one

  pub none_added : (a : RowRules) → AddsFiles files t 0 a a
  none_added a = record {
    links = [];
    each = λ f low. absurd (omega (arith, low));
    from = λ k l e. absurd (cc e);
    adds = adds_none a;
  }

  -- the rules of a file are among some
  abbrev Has : List Link → ℕ → Type 0
  Has links f = (part : List Link) × (AreFileLinks files t f part × ((i : ℕ) (l : Link) → slice_get part i ≡ Some l → (k : ℕ) × (slice_get links k ≡ Some l)))

  each_more : (n : ℕ) (links more : List Link) → ((f : ℕ) → f < n → Has links f) → AreFileLinks files t n more → (f : ℕ) → f < n + 1 → Has (links ++ more) f
  each_more n links more each made f low = ⊎_elim before last (cases_lt f n)
    where
      before : f < n → Has (links ++ more) f
      before less = let p = each f less in (p.0, (p.1.0, λ i l e. let h = p.1.1 i l e in in_front links more l h))

      last : n ≤ f → Has (links ++ more) f
      last most =
          let same : n ≡ f = omega (arith, low, most) in
          subst (Has (links ++ more)) same (more, (made, λ i l e. in_rest links more l (i, e)))

  pub one_added : (n : ℕ) (a b c : RowRules) → AddsFiles files t n a b → AddsFile files t n b c → AddsFiles files t (n + 1) a c
  one_added n a b c w v = record {
    links = w.links ++ v.links;
    each = each_more n w.links v.links w.each v.made;
    from = λ k l e. ⊎_elim (λ h. w.from h.0 l h.1) (λ h. (n, (v.links, (v.made, h)))) (in_either w.links v.links l (k, e));
    adds = adds_after w.links v.links a b c w.adds v.adds;
  }
