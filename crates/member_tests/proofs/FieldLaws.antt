-- What the table's row of a field says of the field of the world.
use Rattle.std.proofs.Common.{◌≡◌, ℕ, Bool, true, false, List, [], Option, Some, None, refl, sym, ap, ◌∙◌, subst, arith, Bor}
use Rattle.std.specs.Prelude.{◌&&◌, not, is_some, slice_get, unwrap_or}
use Rattle.std.specs.List.{list_all, list_any, filter_map, find, position}
use Rattle.std.specs.Option.{option_copied, option_map}
use Rattle.std.proofs.lemmas.Option.{slice_get_within}
use Rattle.file_tables.specs.Metadata.{rows_of}
use Rattle.file_tables.specs.File.{FilePart}
use Rattle.machine.specs.Data.{Id}
use Rattle.machine.specs.Throw.{on_some}
use Rattle.classes.specs.Classes.{Class, Classes, OwnField}
use Rattle.classes.specs.Queries.{listed, is_field_named}
use Rattle.assemblies.specs.Rows.{TypeRow, Assembly}
use Rattle.assemblies.specs.Rows as rows
use Rattle.assemblies.specs.Binding.{id_at, numbered, range, holds, own_field, class_with}
use Rattle.assemblies.proofs.Back.{get_there}
use Rattle.assemblies.proofs.Belong.{some_map}
use Rattle.kept_rows.proofs.SelectLaws.{passes}
use Rattle.world_rows.specs.Tokens.{type_defs}
use Rattle.world_rows.specs.Rows.{type_row}
use Rattle.world_rows.specs.Kinds.{kind_of, data_of}
use Rattle.world_rows.specs.Read.{TypesStand}
use Rattle.world_rows.specs.World.{size_of, assembly_with, rows_alone, assemblies_of}
use Rattle.member_keys.specs.declared.keys.TypeKey.{TypeKey}
use Rattle.member_keys.specs.Seen.{type_seen}
use Rattle.class_table.specs.declared.rows.ClassRow.{ClassRow}
use Rattle.class_table.specs.declared.rows.FieldKind.{FieldKind as FieldColumn}
use Rattle.class_table.specs.declared.rows.FieldKind.TheVariants as kinds
use Rattle.class_table.specs.declared.rows.FieldRow.{FieldRow}
use Rattle.class_table.specs.declared.rows.FileRows.{FileRows}
use Rattle.class_table.specs.declared.rows.ClassTable.{ClassTable}
use Rattle.class_table.specs.Seen.{field_seen, field_kind_seen, row_seen, class_row, classes_seen}
use Rattle.class_table.specs.Whole.{HasData, IsTable}
use Rattle.class_table.proofs.TableLaws.{assembly_at, by_file, own_fields, table_law}
use Rattle.class_rules.specs.Rules.{holds_some, is_data_kind, only_if, field_stands_well}
use Rattle.member_search.specs.declared.sort.Sort.TheVariants.{Field}
use Rattle.member_search.specs.Shown.{of_field, field_shown, own_member}
use Rattle.member_search.proofs.SearchLaws.{own_field_is}
use Rattle.verdict_rules.specs.World.{World, world_of, classes_of, field_row}
use Rattle.verdict_rules.specs.Members.{of_member, lists_field, if_lists, field_owners, has_bytes, field_well, is_before_field, is_field_apart}
use Rattle.member_tests.specs.Rows.{field_found, is_not_before}
use Rattle.member_tests.proofs.ListLaws.{Rise, from_zero, lists_rise, one_owner}
use Rattle.member_tests.proofs.OrderLaws.{first_is_before}

pub found_in : {A B : Type 0} (o : Option A) (part : A → Option B) (x : B) → on_some o part ≡ Some x → (f : A) × (o ≡ Some f) × (part f ≡ Some x)
found_in None part x e = absurd (cc e)
found_in (Some f) part x e = (f, refl, e)

pub map_behind : {A B C : Type 0} (g : B → C) (part : A → Option B) (o : Option A) → option_map g (on_some o part) ≡ on_some o (λ f. option_map g (part f))
map_behind g part None = refl
map_behind g part (Some f) = refl

and_true : (b : Bool) → (b && true) ≡ b
and_true true = refl
and_true false = refl

all_listed : (test : Id → Bool) (o : Option Id) → list_all test (listed o) ≡ of_member o test
all_listed test None = refl
all_listed test (Some c) = and_true (test c)

as_wanted : (o : Option TypeKey) → option_map (λ t. of_field (type_seen t)) o ≡ option_map of_field (option_map type_seen o)
as_wanted None = refl
as_wanted (Some t) = refl

copied : (o : Option (Bor (List ℕ))) → is_some o ≡ is_some (option_copied o)
copied None = refl
copied (Some bytes) = refl

pub data_bytes : (kind : FieldColumn) (o : Option (Bor (List ℕ))) (b : Bool) → kind ≡ kinds.Data o → b ≡ is_some o → (there : Option (List ℕ)) → HasData kind there → b ≡ only_if (is_data_kind (field_kind_seen kind)) (is_some there)
data_bytes kind o b e f there has =
    f ∙ copied o ∙ ap is_some (subst (λ k. HasData k there) e has) ∙ sym (ap (λ k. only_if (is_data_kind (field_kind_seen k)) (is_some there)) e)

module _ (files : List FilePart) (t : ClassTable) (table : IsTable files t) (file n : ℕ) where
  abbrev w : World
  w = world_of files

  abbrev size : ℕ
  size = size_of (rows_alone files)

  abbrev ps : List Assembly
  ps = assemblies_of files

  pub field_row_is : field_row w file n ≡ option_map (field_seen file n) (field_found t file n)
  field_row_is =
      sym
      (map_behind (field_seen file n) (λ (f : FileRows). slice_get f.fields.items n) (slice_get t.files.items file)
      ∙ by_file files t table (λ f. option_map (field_seen file n) (slice_get f.fields.items n)) (λ p. option_map (own_field size ps file n) (slice_get p.fields n)) file
      (λ f p here there. sym (from_zero (field_seen file) n f.fields.items) ∙ ap (λ l. slice_get l n) (own_fields files t table file f p here there) ∙ from_zero (own_field size ps file) n p.fields))

  pub field_missing : (holds_of : OwnField → Bool) → field_found t file n ≡ None → true ≡ of_member (field_row w file n) holds_of
  field_missing holds_of none = sym (ap (λ o. of_member o holds_of) (field_row_is ∙ ap (option_map (field_seen file n)) none))

  module _ (stand : TypesStand files) (x : FieldRow) (found : field_found t file n ≡ Some x) where
    abbrev own : OwnField
    own = field_seen file n x

    field_is : field_row w file n ≡ Some own
    field_is = field_row_is ∙ ap (option_map (field_seen file n)) found

    file_there : (f : FileRows) × (slice_get t.files.items file ≡ Some f) × (slice_get f.fields.items n ≡ Some x)
    file_there = found_in (slice_get t.files.items file) (λ f. slice_get f.fields.items n) x found

    part_there : (z : FilePart) × (slice_get files file ≡ Some z)
    part_there = get_there files file (let within = slice_get_within t.files.items file file_there.0 file_there.1 in let count = table.count in omega arith)

    abbrev p : Assembly
    p = assembly_with size files (rows_alone files) file part_there.0

    there : slice_get ps file ≡ Some p
    there = assembly_at files t table file ∙ ap (option_map (assembly_with size files (rows_alone files) file)) part_there.1

    row_there : (y : rows.FieldRow) × (slice_get p.fields n ≡ Some y) × (own_field size ps file n y ≡ own)
    row_there = some_map (own_field size ps file n) (slice_get p.fields n) own (sym (ap (λ o. on_some o (λ (q : Assembly). option_map (own_field size ps file n) (slice_get q.fields n))) there) ∙ field_is)

    abbrev owner : Option Id
    owner = option_map (id_at file) x.owner

    owner_is : owner ≡ option_map (id_at file) (position (lists_field n) p.types)
    owner_is =
        sym (ap (λ o. on_some o (λ (y : FieldRow). option_map (id_at file) y.owner)) file_there.2)
        ∙ (table.rows file file_there.0 file_there.1).fields.owners n
        ∙ ap (λ o. on_some o (λ (q : Assembly). on_some (slice_get q.fields n) (λ y. option_map (id_at file) (position (λ (r : TypeRow). holds r.first_field r.field_count n) q.types)))) there
        ∙ ap (λ o. on_some o (λ y. option_map (id_at file) (position (λ (r : TypeRow). holds r.first_field r.field_count n) p.types))) row_there.1

    type_there : (i : ℕ) (r : TypeRow) → slice_get p.types i ≡ Some r → (row : List ℕ) × (slice_get (rows_of part_there.0.metadata type_defs) i ≡ Some row) × (type_row part_there.0.metadata (λ k. kind_of size (rows_alone files) (id_at file k)) i row ≡ r)
    type_there i r e =
        some_map (type_row part_there.0.metadata (λ k. kind_of size (rows_alone files) (id_at file k)) i) (slice_get (rows_of part_there.0.metadata type_defs) i) r
        (sym (from_zero (type_row part_there.0.metadata (λ k. kind_of size (rows_alone files) (id_at file k))) i (rows_of part_there.0.metadata type_defs)) ∙ e)

    rise : Rise p.types
    rise a b r s below ea eb =
        let first = type_there a r ea in
        let second = type_there b s eb in
        let up = lists_rise part_there.0.metadata (stand file part_there.0 part_there.1) a b first.0 second.0 below first.1 second.1 in
        omega (arith, up, ap (λ (r : TypeRow). r.first_field) first.2, ap (λ (r : TypeRow). r.field_count) first.2, ap (λ (r : TypeRow). r.first_field) second.2)

    owners_are : field_owners w file n ≡ listed owner
    owners_are =
        ap (λ o. unwrap_or (option_map (λ (q : Assembly). filter_map (λ o. o) (numbered (if_lists file n) 0 q.types)) o) []) there
        ∙ one_owner file n p.types rise
        ∙ ap listed (sym owner_is)

    of_owner : (test : Classes → Id → Bool) → list_all (test (classes_of w)) (field_owners w file n) ≡ of_member owner (test (classes_seen t))
    of_owner test =
        ap (list_all (test (classes_of w))) owners_are
        ∙ all_listed (test (classes_of w)) owner
        ∙ ap (λ (cs : Classes). of_member owner (test cs)) (sym (table_law files t table))

    pub field_keeps : (b : Bool) → ((i : ℕ) (bytes : Option (List ℕ)) → HasData x.kind bytes → b ≡ (of_member owner (λ c. holds_some (class_row t c) (λ k. field_stands_well c k (field_seen file i x))) && only_if (is_data_kind (field_kind_seen x.kind)) (is_some bytes))) → b ≡ of_member (field_row w file n) (field_well w file n)
    field_keeps b known =
        known n (data_of size files (rows_alone files) (id_at file n)) ((table.rows file file_there.0 file_there.1).fields.bytes n x file_there.2)
        ∙ ap (λ c. c && has_bytes w file n own) (sym (of_owner (λ cs c. holds_some (cs.class c) (λ k. field_stands_well c k own))))
        ∙ sym (ap (λ o. of_member o (field_well w file n)) field_is)

    -- ---- among the fields of its type

    class_there : (c : Id) → owner ≡ Some c → (r : ℕ) × (c ≡ id_at file r) × ((k : ClassRow) × (class_row t c ≡ Some (row_seen file file_there.0 k)))
    class_there c e = by (position (lists_field n) p.types) refl (sym owner_is ∙ e)
      where
        of_type : (r : ℕ) → position (lists_field n) p.types ≡ Some r → id_at file r ≡ c → (r : ℕ) × (c ≡ id_at file r) × ((k : ClassRow) × (class_row t c ≡ Some (row_seen file file_there.0 k)))
        of_type r at same =
            let type = passes (lists_field n) p.types r at in
            let whole_class : class_row t (id_at file r) ≡ Some (class_with size ps file p type.0) =
            ap (λ (cs : Classes). cs.class (id_at file r)) (table_law files t table) ∙ ap (λ o. on_some o (λ (q : Assembly). option_map (class_with size ps file q) (slice_get q.types r))) there ∙ ap (option_map (class_with size ps file p)) type.1 in
            let seen : option_map (row_seen file file_there.0) (slice_get file_there.0.classes.items r) ≡ Some (class_with size ps file p type.0) =
            sym (ap (λ o. on_some o (λ (f : FileRows). option_map (row_seen file f) (slice_get f.classes.items r))) file_there.1) ∙ whole_class in
            let row = some_map (row_seen file file_there.0) (slice_get file_there.0.classes.items r) (class_with size ps file p type.0) seen in
            (r, sym same, (row.0, ap (class_row t) (sym same) ∙ whole_class ∙ ap Some (sym row.2)))

        by : (o : Option ℕ) → position (lists_field n) p.types ≡ o → option_map (id_at file) o ≡ Some c → (r : ℕ) × (c ≡ id_at file r) × ((k : ClassRow) × (class_row t c ≡ Some (row_seen file file_there.0 k)))
        by None at h = absurd (cc h)
        by (Some r) at h = let same : id_at file r ≡ c = cc h in of_type r at same

    first_one : (c : Id) → owner ≡ Some c → holds_some (class_row t c) (λ k. not (list_any (is_before_field n own) k.fields)) ≡ is_not_before n (own_member Field t (field_shown x) c)
    first_one c e =
        let at = class_there c e in
        let k = at.2.0 in
        let xs = range k.first_field k.field_count file_there.0.fields.items in
        ap (λ o. holds_some o (λ (k : Class). not (list_any (is_before_field n own) k.fields))) at.2.1
        ∙ first_is_before (field_seen file) (λ (f : OwnField). f.id) file n (is_field_named own.name own.signature) (λ i y. refl) k.first_field xs
        ∙ sym
        (ap (λ s. is_not_before n (own_member Field t (record { name = x.name.now; signature = s }) c)) (as_wanted x.signature)
        ∙ ap (is_not_before n) (own_field_is t own.name own.signature c)
        ∙ ap (λ o. is_not_before n (option_map (λ (f : OwnField). f.id) (find (is_field_named own.name own.signature) (unwrap_or (option_map (λ (k : Class). k.fields) o) [])))) at.2.1)

    pub field_is_apart : of_member owner (λ c. is_not_before n (own_member Field t (field_shown x) c)) ≡ of_member (field_row w file n) (is_field_apart w file n)
    field_is_apart =
        by owner refl
        ∙ sym (of_owner (λ cs c. holds_some (cs.class c) (λ k. not (list_any (is_before_field n own) k.fields))))
        ∙ sym (ap (λ o. of_member o (is_field_apart w file n)) field_is)
      where
        by : (o : Option Id) → owner ≡ o → of_member o (λ c. is_not_before n (own_member Field t (field_shown x) c)) ≡ of_member o (λ c. holds_some (class_row t c) (λ k. not (list_any (is_before_field n own) k.fields)))
        by None e = refl
        by (Some c) e = sym (first_one c e)
