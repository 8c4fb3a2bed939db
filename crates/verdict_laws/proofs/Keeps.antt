-- Where no rule of 20 to 31 is broken, the classes keep the rules that the laws of types need, and the entry fits.
use Rattle.std.proofs.Common.{◌≡◌, ℕ, zero, suc, ◌+◌, ◌<◌, ◌≤◌, ◌⊎◌, inl, inr, Bool, true, false, List, [], ◌∷◌, map, drop, take, length, Option, Some, None, refl, sym, ap, ◌∙◌, subst, arith, cond}
use Rattle.std.specs.Prelude.{◌&&◌, ◌||◌, ◌==◌, ◌%◌, not, nat_lt, nat_le, is_some, slice_get, slice_index, unwrap_or}
use Rattle.std.specs.List.{list_all, list_any, filter, filter_map, cons_option}
use Rattle.std.specs.Option.{option_map}
use Rattle.std.proofs.lemmas.Bool.{and_parts, and_from, cases_Bool, cases_lt, eq-eqb, le-leb, leb-true, lt-ltb}
use Rattle.plain_types.specs.declared.fault.TheConstants.{WHOLE_FILE}
use Rattle.file_tables.specs.declared.schema.Coded.TheVariants.{TypeDefOrRef}
use Rattle.file_tables.specs.Metadata.{rows_of}
use Rattle.file_tables.specs.File.{FilePart}
use Rattle.machine.specs.Data.{Id}
use Rattle.machine.specs.Program.{Body, Code, Native, Missing}
use Rattle.machine.specs.Throw.{on_some}
use Rattle.machine_typed.specs.Typing.{has_body}
use Rattle.file_tables.specs.Bytes.{has_bit}
use Rattle.classes.specs.Classes.{Class, Classes, OwnField, OwnMethod}
use Rattle.classes.specs.Reading.{IsRead}
use Rattle.classes.specs.Queries.{flag_eq, methods_of}
use Rattle.classes.specs.Listed.{is_constructor}
use Rattle.class_rules.specs.Rules.{is_user, only_if, is_native, constructor_fits, is_initialiser_name, initialiser_fits, holds_some, extends_well, may_be_implemented, implements_well, value_well, field_signature_fits, method_signature_fits, signature_fits, field_stands_well, method_stands_well, slots_filled, entry_fits, Keeps}
use Rattle.class_rules.proofs.Kept.{holds_inv, only_then, all_by}
use Rattle.class_rules.proofs.Ways.{any_at}
use Rattle.assemblies.specs.Rows.{TypeToken, Assembly}
use Rattle.assemblies.specs.Binding.{id_at, numbered, resolve}
use Rattle.assemblies.proofs.Numbered.{get_numbered}
use Rattle.assemblies.proofs.Back.{get_there}
use Rattle.world_rows.specs.Tokens.{type_defs, interface_impls, fields, methods, coded_type, bytes_at}
use Rattle.world_rows.specs.Rows as rows
use Rattle.world_rows.specs.Rows.{is_internal}
use Rattle.world_rows.specs.Natives.{NativeRow, native_at, native_body, body_of_native}
use Rattle.world_rows.specs.World.{type_count, size_of, rows_alone, assemblies_of, ecma_sources}
use Rattle.world_rows.proofs.Read.{ClassRow, class_row}
use Rattle.verdict_rules.specs.Order.{first_fault, phase_fault}
use Rattle.verdict_rules.specs.World.{World, world_of, no_type}
use Rattle.verdict_rules.specs.Types.{of_class, class_tests, type_tests, interface_tests, entry_tests, type_rules, is_found, has_entry, own_entry_well, some_entry, begins_in}
use Rattle.verdict_rules.specs.Members.{of_member, field_wrong, field_well, field_owners, in_class, has_bytes, field_tests, method_wrong, method_well, in_owner, is_plain_method, with_body, method_tests, no_class}
use Rattle.verdict_rules.specs.Code.{slot_rules, slot_tests}
use Rattle.verdict_rules.specs.Library.{calls_native, library_well, library_tests}
use Rattle.verdict_rules.specs.Verdict.{member_rules}
use Rattle.verdict_laws.proofs.Kept.{tests_kept, row_kept, whole_kept}
use Rattle.verdict_laws.proofs.Rows.{FieldAt, field_at, MethodAt, method_at, get_behind}
use Rattle.verdict_laws.proofs.Signatures.{none_wrong, field_fits, method_fits}

-- the interfaces that rows name, where each row's passes
implemented : (name : List ℕ → Option Id) (mine : List ℕ → Bool) (passes : Id → Bool) (rows : List (List ℕ)) → ((i : ℕ) (row : List ℕ) → slice_get rows i ≡ Some row → holds_some (name row) passes ≡ true) → list_all passes (filter_map name (filter mine rows)) ≡ true
implemented name mine passes [] each = refl
implemented name mine passes (row ∷ rows) each = by (mine row) (implemented name mine passes rows (λ i r e. each (suc i) r e))
  where
    t : (c : Id) × (name row ≡ Some c) × (passes c ≡ true)
    t = holds_inv (name row) passes (each 0 row refl)

    by : (b : Bool) → list_all passes (filter_map name (filter mine rows)) ≡ true → list_all passes (filter_map name (cond b (row ∷ filter mine rows) (filter mine rows))) ≡ true
    by true rest = ap (λ o. list_all passes (cons_option o (filter_map name (filter mine rows)))) t.1 ∙ and_from (passes t.0) (list_all passes (filter_map name (filter mine rows))) t.2 rest
    by false rest = rest

mapped : (name : TypeToken → Option Id) (token : List ℕ → TypeToken) (rows : List (List ℕ)) → filter_map name (map token rows) ≡ filter_map (λ row. name (token row)) rows
mapped name token [] = refl
mapped name token (row ∷ rows) = ap (cons_option (name (token row))) (mapped name token rows)

all_true : (bs : List Bool) (i : ℕ) (b : Bool) → slice_get bs i ≡ Some b → list_all (λ b. b) bs ≡ true → b ≡ true
all_true [] i b e all = cc e
all_true (c ∷ bs) zero b e all = let same : c ≡ b = cc e in sym same ∙ (and_parts c (list_all (λ b. b) bs) all).0
all_true (c ∷ bs) (suc i) b e all = all_true bs i b e (and_parts c (list_all (λ b. b) bs) all).1

-- an internal call that stands well is in the library
low_file : (file rva : ℕ) (internal : Bool) → not (internal && (nat_lt 1 file || not (rva == 0))) ≡ true → internal ≡ true → file < 2
low_file file rva true plain e = go (cases_lt file 2)
  where
    go : (file < 2) ⊎ (2 ≤ file) → file < 2
    go (inl low) = low
    go (inr high) = absurd (let t : nat_lt 1 file ≡ true = lt-ltb 1 file (omega (arith, high)) in cc (sym (ap (λ b. not (b || not (rva == 0))) t) ∙ plain))
low_file file rva false plain e = absurd (cc e)

not_le : (n file : ℕ) → file < n → nat_le n file ≡ false
not_le n file low = go (cases_Bool (nat_le n file))
  where
    go : (nat_le n file ≡ true) ⊎ (nat_le n file ≡ false) → nat_le n file ≡ false
    go (inl t) = absurd (omega (arith, low, leb-true n file t))
    go (inr f) = f

native_there : (o : Option NativeRow) → is_some o ≡ true → (r : NativeRow) × (o ≡ Some r)
native_there None e = absurd (cc e)
native_there (Some r) e = (r, refl)

-- what is asked of a method of the library speaks of its body only as of one
module _ (cs : Classes) (c : Id) (k : Class) (m : OwnMethod) where
  abbrev asked : Bool → Bool → Bool → Bool
  asked user native has =
      not (user && native)
      && (not (m.is_static && m.is_virtual)
      && (only_if m.is_abstract m.is_virtual
      && (only_if m.is_abstract k.is_abstract
      && (flag_eq has (not m.is_abstract)
      && (only_if (is_constructor m) (constructor_fits cs c k m)
      && only_if (is_initialiser_name m) (initialiser_fits m))))))

  pub same_stand : is_user c ≡ false → (b : Body) → m.body ≡ b → has_body b ≡ true → method_stands_well cs c k (record m { body = Code }) ≡ true → method_stands_well cs c k m ≡ true
  same_stand user b own has well =
      let theirs : asked false false true ≡ true = sym (ap (λ u. asked u false true) user) ∙ well in
      ap (λ u. asked u (is_native m.body) (has_body m.body)) user ∙ (ap (λ h. asked false (is_native m.body) h) (ap has_body own ∙ has) ∙ theirs)

module _ (files : List FilePart) where
  abbrev w : World
  w = world_of files

  abbrev n : ℕ
  n = type_count (rows_alone files)

  abbrev size : ℕ
  size = size_of (rows_alone files)

  abbrev cs : Classes
  cs = (ecma_sources files).classes

  abbrev ps : List Assembly
  ps = assemblies_of files

  abbrev pub OwnsAll : Type 0
  OwnsAll = (c : Id) (i : ℕ) (m : OwnMethod) → slice_get (methods_of cs c) i ≡ Some m → cs.method_owner m.id ≡ Some c

  module _ (in_types : phase_fault (type_rules w) files ≡ None) where
    class_kept : (c : Id) (k : Class) → cs.class c ≡ Some k → (r : ClassRow files c k) × (first_fault c.file type_defs (suc c.row) (class_tests w r.file.metadata c r.row k) ≡ None)
    class_kept c k there =
        let r = class_row files c k there in
        let kept = row_kept (type_rules w) files in_types c.file r.file r.is_file 0 (record { table = type_defs; tests = type_tests w c.file r.file.metadata }) c.row r.row refl r.is_row in
        (r, subst (λ o. first_fault c.file type_defs (suc c.row) (of_class o (class_tests w r.file.metadata c r.row)) ≡ None) there kept)

    pub extends : (c : Id) (k : Class) → cs.class c ≡ Some k → extends_well n cs c k ≡ true
    extends c k there =
        let t = class_kept c k there in
        (and_parts (is_found t.0.row k) (extends_well n cs c k) (tests_kept c.file type_defs (suc c.row) (class_tests w t.0.file.metadata c t.0.row k) 0 t.1)).1

    values : (c : Id) (k : Class) → cs.class c ≡ Some k → value_well cs c k.kind ≡ true
    values c k there =
        let t = class_kept c k there in
        (and_parts (value_well cs c k.kind) _ (tests_kept c.file type_defs (suc c.row) (class_tests w t.0.file.metadata c t.0.row k) 1 t.1)).0

    pub implements : (c : Id) (k : Class) → cs.class c ≡ Some k → implements_well n cs k ≡ true
    implements c k there =
        ap (λ (z : Class). implements_well n cs z) r.is
        ∙ (ap (list_all (may_be_implemented n cs)) (mapped (resolve size ps c.file) (λ row. coded_type r.file.metadata TypeDefOrRef (slice_index row 1)) (filter (λ row. slice_index row 0 == suc c.row) (rows_of r.file.metadata interface_impls)))
        ∙ implemented (λ row. resolve size ps c.file (coded_type r.file.metadata TypeDefOrRef (slice_index row 1))) (λ row. slice_index row 0 == suc c.row) (may_be_implemented n cs) (rows_of r.file.metadata interface_impls) each)
      where
        r : ClassRow files c k
        r = class_row files c k there

        each : (i : ℕ) (row : List ℕ) → slice_get (rows_of r.file.metadata interface_impls) i ≡ Some row → holds_some (resolve size ps c.file (coded_type r.file.metadata TypeDefOrRef (slice_index row 1))) (may_be_implemented n cs) ≡ true
        each i row e =
            let kept = row_kept (type_rules w) files in_types c.file r.file r.is_file 1 (record { table = interface_impls; tests = interface_tests w c.file r.file.metadata }) i row refl e in
            tests_kept c.file interface_impls (suc i) (interface_tests w c.file r.file.metadata i row) 0 kept

    -- ---- the entry: some file has one, and it fits

    last_there : (k : ℕ) → length files ≡ suc k → list_any has_entry (drop 2 files) ≡ true
    last_there k long =
        let x = get_there files k (let h = long in omega (arith, h)) in
        let kept = whole_kept (type_rules w) files in_types k x.0 x.1 in
        let both = and_parts (own_entry_well w k x.0) (some_entry w k) (tests_kept k WHOLE_FILE 0 (entry_tests w k x.0) 0 kept) in
        only_then (suc k == length files) (list_any has_entry (drop 2 files)) both.1 (eq-eqb (suc k) (length files) (sym long))

    pub entry : (k : ℕ) → length files ≡ suc k → entry_fits (ecma_sources files) ≡ true
    entry k long =
        let a = any_at has_entry (drop 2 files) (last_there k long) in
        let at = get_behind 2 files a.0 a.1 a.2 in
        let f = 2 + a.0 in
        let kept = whole_kept (type_rules w) files in_types f a.1 at in
        let both = and_parts (own_entry_well w f a.1) (some_entry w f) (tests_kept f WHOLE_FILE 0 (entry_tests w f a.1) 0 kept) in
        let user : nat_le 2 f ≡ true = le-leb 2 f (omega arith) in
        let one = and_parts (not (list_any has_entry (drop 2 (take f files)))) (begins_in w f) (only_then (nat_le 2 f && has_entry a.1) _ both.0 (and_from (nat_le 2 f) (has_entry a.1) user a.3)) in
        (and_parts (holds_some (ecma_sources files).entry (λ (c : Id). c.file == f)) (entry_fits (ecma_sources files)) one.1).1

    module _ (in_members : phase_fault (member_rules w) files ≡ None) where
      -- ---- an internal call is a native of the library's

      calls_natives : (file : ℕ) (x : FilePart) → slice_get files file ≡ Some x → nat_lt file 2 ≡ true → (i : ℕ) (row : List ℕ) → slice_get (rows_of x.metadata methods) i ≡ Some row → is_internal row ≡ true → is_some (native_at w.size w.alone (id_at file i)) ≡ true
      calls_natives file x is_file low i row is_row internal =
          let from_zero : 0 + i ≡ i = omega arith in
          let kept = whole_kept (member_rules w) files in_members file x is_file in
          let well = only_then (nat_lt file 2) (library_well w file x) (tests_kept file WHOLE_FILE 0 (library_tests w file x) 0 kept) low in
          let all = (and_parts _ (list_all (λ b. b) (numbered (calls_native w file) 0 (rows_of x.metadata methods))) (and_parts _ _ well).1).1 in
          only_then (is_internal row) (is_some (native_at w.size w.alone (id_at file i))) (all_true (numbered (calls_native w file) 0 (rows_of x.metadata methods)) i (calls_native w file i row) (get_numbered (calls_native w file) 0 i (rows_of x.metadata methods) ∙ ap (option_map (calls_native w file (0 + i))) is_row ∙ ap (λ j. Some (calls_native w file j row)) from_zero) all) internal

      -- what is asked of a method with a body in its place is asked of the method
      stands_by_itself : (c : Id) (k : Class) (m : OwnMethod) (file i : ℕ) (row : List ℕ) (x : FilePart) → slice_get files file ≡ Some x → slice_get (rows_of x.metadata methods) i ≡ Some row → c.file ≡ file → is_plain_method file row ≡ true → m.body ≡ rows.body_of (λ j. body_of_native size (rows_alone files) (id_at file j)) i row → method_stands_well cs c k (with_body row m) ≡ true → method_stands_well cs c k m ≡ true
      unfolding body_of_native
      stands_by_itself c k m file i row x is_file is_row same plain body well = go (cases_Bool (is_internal row))
        where
          go : (is_internal row ≡ true) ⊎ (is_internal row ≡ false) → method_stands_well cs c k m ≡ true
          go (inr without) = sym (ap (λ o. method_stands_well cs c k (cond o (record m { body = Code }) m)) without) ∙ well
          go (inl internal) =
              let low = low_file file (slice_index row 0) (is_internal row) plain_internal internal in
              let r = native_there (native_at w.size w.alone (id_at file i)) (calls_natives file x is_file (lt-ltb file 2 low) i row is_row internal) in
              let own : m.body ≡ Native r.0.number = body ∙ (ap (λ o. cond o (body_of_native size (rows_alone files) (id_at file i)) (cond (slice_index row 0 == 0) Missing Code)) internal ∙ ap native_body r.1) in
              let user : is_user c ≡ false = ap (λ f. nat_le 2 f) same ∙ not_le 2 file low in
              let with_code : method_stands_well cs c k (record m { body = Code }) ≡ true = sym (ap (λ o. method_stands_well cs c k (cond o (record m { body = Code }) m)) internal) ∙ well in
              same_stand cs c k m user (Native r.0.number) own refl with_code
            where
              plain_internal : not (is_internal row && (nat_lt 1 file || not (slice_index row 0 == 0))) ≡ true
              plain_internal =
                  (and_parts (not (has_bit (slice_index row 2) 13)) _ (and_parts (not (has_bit (slice_index row 1) 5)) _ (and_parts (not (has_bit (slice_index row 1) 2)) _ (and_parts (slice_index row 1 % 4 == 0) _ plain).1).1).1).1

      -- ---- members
      module _ (c : Id) (k : Class) (there : cs.class c ≡ Some k) where
        module _ (i : ℕ) (f : OwnField) (e : slice_get k.fields i ≡ Some f) where
          a : FieldAt files c f
          a = field_at files c k i f there e

          kept : first_fault c.file fields (suc a.number) (field_tests w c.file a.file.metadata a.number a.row) ≡ None
          kept = row_kept (member_rules w) files in_members c.file a.file a.is_file 0 (record { table = fields; tests = field_tests w c.file a.file.metadata }) a.number a.row refl a.is_row

          field_signature : field_signature_fits cs f ≡ true
          field_signature =
              field_fits files c.file a.file.metadata (bytes_at a.file.metadata (slice_index a.row 2)) a.number f
              (none_wrong 27 (field_wrong w c.file a.number (bytes_at a.file.metadata (slice_index a.row 2))) (tests_kept c.file fields (suc a.number) (field_tests w c.file a.file.metadata a.number a.row) 0 kept)) a.own

          field_stands : field_stands_well c k f ≡ true
          field_stands =
              let t = tests_kept c.file fields (suc a.number) (field_tests w c.file a.file.metadata a.number a.row) 1 kept in
              let h : field_well w c.file a.number f ≡ true = sym (ap (λ o. of_member o (field_well w c.file a.number)) a.own) ∙ t in
              let all = (and_parts (list_all (in_class w (λ c k. field_stands_well c k f)) (field_owners w c.file a.number)) (has_bytes w c.file a.number f) h).0 in
              sym (ap (λ o. holds_some o (λ k. field_stands_well c k f)) there) ∙ a.owned (in_class w (λ c k. field_stands_well c k f)) all

        module _ (owns : OwnsAll) (i : ℕ) (m : OwnMethod) (e : slice_get k.methods i ≡ Some m) where
          b : MethodAt files c m
          b = method_at files c k i m there e

          method_kept : first_fault c.file methods (suc b.number) (method_tests w c.file b.file b.number b.row) ≡ None
          method_kept = row_kept (member_rules w) files in_members c.file b.file b.is_file 1 (record { table = methods; tests = method_tests w c.file b.file }) b.number b.row refl b.is_row

          method_signature : method_signature_fits cs c m ≡ true
          method_signature =
              sym (ap (λ (z : OwnMethod). holds_some z.signature (signature_fits cs c)) b.is)
              ∙ method_fits files c.file b.file.metadata (bytes_at b.file.metadata (slice_index b.row 4)) c refl
              (none_wrong 27 (method_wrong w c.file b.file.metadata (c.file == 0) (bytes_at b.file.metadata (slice_index b.row 4))) (tests_kept c.file methods (suc b.number) (method_tests w c.file b.file b.number b.row) 0 method_kept))

          owner : (ecma_sources files).classes.method_owner m.id ≡ Some c
          owner = owns c i m (ap (λ o. slice_get (unwrap_or (option_map (λ (z : Class). z.methods) o) []) i) there ∙ e)

          method_stands : method_stands_well cs c k m ≡ true
          method_stands =
              let t = tests_kept c.file methods (suc b.number) (method_tests w c.file b.file b.number b.row) 1 method_kept in
              let h : method_well w b.file b.row m ≡ true = sym (ap (λ o. of_member o (method_well w b.file b.row)) b.own) ∙ t in
              let own = with_body b.row m in
              let parts = and_parts (is_plain_method m.id.file b.row) (in_owner w b.file m (λ c k. method_stands_well cs c k own)) h in
              let none = method_stands_well cs (no_type m.id.file b.file) no_class own in
              let mine : method_stands_well cs c k own ≡ true =
              sym (ap (λ o. unwrap_or (on_some o (λ c. option_map (λ k. method_stands_well cs c k own) (cs.class c))) none) owner ∙ ap (λ o. unwrap_or (option_map (λ k. method_stands_well cs c k own) o) none) there) ∙ parts.1 in
              let plain = subst (λ (z : OwnMethod). is_plain_method z.id.file b.row ≡ true) (sym b.is) parts.0 in
              stands_by_itself c k m c.file b.number b.row b.file b.is_file b.is_row refl plain (sym (ap (λ (z : OwnMethod). z.body) b.is)) mine

      -- where each method is its class's
      pub methods_stand : OwnsAll → (c : Id) (k : Class) → cs.class c ≡ Some k → list_all (method_stands_well cs c k) k.methods ≡ true
      methods_stand owns c k there = all_by (method_stands_well cs c k) k.methods (method_stands c k there owns)

      pub keeps : phase_fault (slot_rules w) files ≡ None → IsRead n cs → Keeps n cs
      keeps in_slots read =
          record {
            extends = extends;
            implements = implements;
            values = values;
            field_signatures = λ c k there. all_by (field_signature_fits cs) k.fields (field_signature c k there);
            method_signatures = λ c k there. all_by (method_signature_fits cs c) k.methods (method_signature c k there read.owner);
            fields = λ c k there. all_by (field_stands_well c k) k.fields (field_stands c k there);
            methods = methods_stand read.owner;
            slots = slots;
          }
        where
          slots : (c : Id) (k : Class) → cs.class c ≡ Some k → slots_filled cs c k ≡ true
          slots c k there =
              let r = class_row files c k there in
              let kept = row_kept (slot_rules w) files in_slots c.file r.file r.is_file 0 (record { table = type_defs; tests = slot_tests w c.file }) c.row r.row refl r.is_row in
              let mine = subst (λ o. first_fault c.file type_defs (suc c.row) (of_class o (λ k. record { rule = 31; offset = 0; is_kept = slots_filled cs c k } ∷ [])) ≡ None) there kept in
              tests_kept c.file type_defs (suc c.row) (record { rule = 31; offset = 0; is_kept = slots_filled cs c k } ∷ []) 0 mine
