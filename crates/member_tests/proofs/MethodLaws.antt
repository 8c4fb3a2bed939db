-- What the table's row of a method says of the method of the world.
use Rattle.std.proofs.Common.{◌≡◌, ℕ, ◌+◌, Bool, true, false, List, [], Option, Some, None, refl, sym, ap, ◌∙◌, add-one}
use Rattle.std.specs.Prelude.{◌&&◌, if◌then◌else◌, not, slice_get, unwrap_or}
use Rattle.std.specs.List.{list_any, find}
use Rattle.std.specs.Option.{option_map}
use Rattle.std.proofs.lemmas.Option.{get_or_from_slice_get}
use Rattle.file_tables.specs.Metadata.{MetadataPart, rows_of, row_of}
use Rattle.file_tables.specs.File.{FilePart}
use Rattle.machine.specs.Data.{Id}
use Rattle.machine.specs.Program.{Code}
use Rattle.machine.specs.Throw.{on_some}
use Rattle.classes.specs.Classes.{Class, Classes, OwnMethod}
use Rattle.classes.specs.Queries.{is_named}
use Rattle.assemblies.specs.Rows.{Assembly}
use Rattle.assemblies.specs.Binding.{id_at, range, own_method}
use Rattle.cil_rows.specs.declared.rows.MethodDefRow.{MethodDefRow}
use Rattle.world_rows.specs.Tokens.{methods}
use Rattle.world_rows.specs.Rows.{is_internal}
use Rattle.world_rows.specs.World.{size_of, rows_alone, assemblies_of}
use Rattle.class_table.specs.declared.rows.ClassRow.{ClassRow}
use Rattle.class_table.specs.declared.rows.MethodRow.{MethodRow}
use Rattle.class_table.specs.declared.rows.FileRows.{FileRows}
use Rattle.class_table.specs.declared.rows.ClassTable.{ClassTable}
use Rattle.class_table.specs.Seen.{method_seen, row_seen, class_row, classes_seen}
use Rattle.class_table.specs.Whole.{IsTable}
use Rattle.class_table.proofs.TableLaws.{by_file, own_methods, table_law}
use Rattle.class_rules.specs.Rules.{method_stands_well}
use Rattle.class_checks.specs.Bodies as bodies
use Rattle.member_search.specs.declared.sort.Sort.TheVariants.{Method}
use Rattle.member_search.specs.Shown.{method_shown, own_member}
use Rattle.member_search.proofs.SearchLaws.{own_method_is}
use Rattle.verdict_rules.specs.World.{World, world_of, classes_of, method_row, no_type}
use Rattle.verdict_rules.specs.Members.{of_member, in_owner, no_class, with_body, is_plain_method, method_well, is_before_method, is_method_apart}
use Rattle.profile_subject.specs.Faults.{row_at}
use Rattle.member_tests.specs.Rows.{columns_of, def_of, method_found, is_not_before}
use Rattle.member_tests.proofs.ListLaws.{from_zero}
use Rattle.member_tests.proofs.OrderLaws.{first_is_before}
use Rattle.member_tests.proofs.FieldLaws.{found_in, map_behind}

-- ---- rows

pub row_read : (m : MetadataPart) (n : ℕ) (row : List ℕ) → slice_get (rows_of m methods) n ≡ Some row → row_of m methods (n + 1) ≡ row
row_read m n row e = ap (row_of m methods) (add-one n) ∙ get_or_from_slice_get (rows_of m methods) n row [] e

pub some_row : (a b : MethodDefRow) → Some a ≡ Some b → a ≡ b
some_row a b e = let same : a ≡ b = cc e in same

pub body_coded : (d : MethodDefRow) (m : OwnMethod) → is_internal (columns_of d) ≡ true → bodies.with_body Code m ≡ with_body (columns_of d) m
body_coded d m e = sym (ap (λ (b : Bool). if b then bodies.with_body Code m else m) e)

pub body_own : (d : MethodDefRow) (m : OwnMethod) → is_internal (columns_of d) ≡ false → m ≡ with_body (columns_of d) m
body_own d m e = sym (ap (λ (b : Bool). if b then bodies.with_body Code m else m) e)

-- the row of a file whose tables are known
pub row_there : (files : List FilePart) (file n : ℕ) (z : FilePart) (m : MetadataPart) (row : List ℕ) → slice_get files file ≡ Some z → option_map (λ (p : FilePart). p.metadata) (slice_get files file) ≡ Some m → row_at files file methods n ≡ Some row → (z.metadata ≡ m) × (slice_get (rows_of m methods) n ≡ Some row)
row_there files file n z m row here tables at =
    let both : Some z.metadata ≡ Some m = sym (ap (option_map (λ (p : FilePart). p.metadata)) here) ∙ tables in
    let same : z.metadata ≡ m = cc both in
    (same, ap (λ y. slice_get (rows_of y methods) n) (sym same) ∙ sym (ap (λ o. on_some o (λ (p : FilePart). slice_get (rows_of p.metadata methods) n)) here) ∙ at)

module _ (files : List FilePart) (t : ClassTable) (table : IsTable files t) (file n : ℕ) where
  abbrev w : World
  w = world_of files

  abbrev size : ℕ
  size = size_of (rows_alone files)

  abbrev ps : List Assembly
  ps = assemblies_of files

  pub method_row_is : method_row w file n ≡ option_map (method_seen file n) (method_found t file n)
  method_row_is =
      sym
      (map_behind (method_seen file n) (λ (f : FileRows). slice_get f.methods.items n) (slice_get t.files.items file)
      ∙ by_file files t table (λ f. option_map (method_seen file n) (slice_get f.methods.items n)) (λ p. option_map (own_method size ps file n) (slice_get p.methods n)) file
      (λ f p here there. sym (from_zero (method_seen file) n f.methods.items) ∙ ap (λ l. slice_get l n) (own_methods files t table file f p here there) ∙ from_zero (own_method size ps file) n p.methods))

  pub method_missing : (holds_of : OwnMethod → Bool) → method_found t file n ≡ None → true ≡ of_member (method_row w file n) holds_of
  method_missing holds_of none = sym (ap (λ o. of_member o holds_of) (method_row_is ∙ ap (option_map (method_seen file n)) none))

  module _ (x : MethodRow) (found : method_found t file n ≡ Some x) where
    abbrev own : OwnMethod
    own = method_seen file n x

    method_is : method_row w file n ≡ Some own
    method_is = method_row_is ∙ ap (option_map (method_seen file n)) found

    pub file_there : (f : FileRows) × (slice_get t.files.items file ≡ Some f) × (slice_get f.methods.items n ≡ Some x)
    file_there = found_in (slice_get t.files.items file) (λ f. slice_get f.methods.items n) x found

    abbrev pub file_rows : FileRows
    file_rows = file_there.0

    abbrev owner : Option Id
    owner = option_map (id_at file) x.owner

    owner_is : (classes_seen t).method_owner (id_at file n) ≡ owner
    owner_is =
        ap (λ o. on_some o (λ (f : FileRows). on_some (slice_get f.methods.items n) (λ (y : MethodRow). option_map (id_at file) y.owner))) file_there.1
        ∙ ap (λ o. on_some o (λ (y : MethodRow). option_map (id_at file) y.owner)) file_there.2

    -- what is asked of the type that lists it, or of none
    of_owner : (z : FilePart) (test : Classes → Id → Class → Bool) → in_owner w z own (test (classes_of w)) ≡ unwrap_or (on_some owner (λ c. option_map (test (classes_seen t) c) (class_row t c))) (test (classes_seen t) (no_type file z) no_class)
    of_owner z test =
        ap (λ (cs : Classes). unwrap_or (on_some (cs.method_owner (id_at file n)) (λ c. option_map (test cs c) (cs.class c))) (test cs (no_type file z) no_class)) (sym (table_law files t table))
        ∙ ap (λ o. unwrap_or (on_some o (λ c. option_map (test (classes_seen t) c) (class_row t c))) (test (classes_seen t) (no_type file z) no_class)) owner_is

    abbrev stands : (OwnMethod → OwnMethod) → Id → Bool
    stands body none = unwrap_or (on_some owner (λ c. option_map (λ k. method_stands_well (classes_seen t) c k (body own)) (class_row t c))) (method_stands_well (classes_seen t) none no_class (body own))

    pub method_keeps : (z : FilePart) (row : List ℕ) → (is_plain_method file row && stands (with_body row) (no_type file z)) ≡ of_member (method_row w file n) (method_well w z row)
    method_keeps z row =
        ap (λ b. is_plain_method file row && b) (sym (of_owner z (λ cs c k. method_stands_well cs c k (with_body row own))))
        ∙ sym (ap (λ o. of_member o (method_well w z row)) method_is)

    pub row_keeps : (none : Id) (d : MethodDefRow) (z : FilePart) (columns : List ℕ) → none ≡ no_type file z → d ≡ def_of columns → (is_plain_method file (columns_of d) && stands (with_body (columns_of d)) none) ≡ of_member (method_row w file n) (method_well w z columns)
    row_keeps none d z columns e g =
        ap (λ i. is_plain_method file (columns_of d) && stands (with_body (columns_of d)) i) e
        ∙ ap (λ (r : MethodDefRow). is_plain_method file (columns_of r) && stands (with_body (columns_of r)) (no_type file z)) g
        ∙ method_keeps z columns

    -- ---- among the methods of its type

    first_one : (c : Id) → unwrap_or (option_map (λ (k : Class). not (list_any (is_before_method own) k.methods)) (class_row t c)) true ≡ is_not_before n (own_member Method t (method_shown x) c)
    first_one c = by (slice_get t.files.items c.file) refl
      where
        listed_in : (o : Option Class) → class_row t c ≡ o → unwrap_or (option_map (λ (k : Class). not (list_any (is_before_method own) k.methods)) o) true ≡ is_not_before n (option_map (λ (m : OwnMethod). m.id) (find (is_named own.name own.signature) (unwrap_or (option_map (λ (k : Class). k.methods) o) []))) → unwrap_or (option_map (λ (k : Class). not (list_any (is_before_method own) k.methods)) (class_row t c)) true ≡ is_not_before n (own_member Method t (method_shown x) c)
        listed_in o e h =
            ap (λ o. unwrap_or (option_map (λ (k : Class). not (list_any (is_before_method own) k.methods)) o) true) e
            ∙ h
            ∙ sym
            (ap (is_not_before n) (own_method_is t own.name own.signature c)
            ∙ ap (λ o. is_not_before n (option_map (λ (m : OwnMethod). m.id) (find (is_named own.name own.signature) (unwrap_or (option_map (λ (k : Class). k.methods) o) [])))) e)

        in_file : (f : FileRows) → slice_get t.files.items c.file ≡ Some f → (a : Option ClassRow) → slice_get f.classes.items c.row ≡ a → unwrap_or (option_map (λ (k : Class). not (list_any (is_before_method own) k.methods)) (class_row t c)) true ≡ is_not_before n (own_member Method t (method_shown x) c)
        in_file f here None at = listed_in None (ap (λ o. on_some o (λ (f : FileRows). option_map (row_seen c.file f) (slice_get f.classes.items c.row))) here ∙ ap (option_map (row_seen c.file f)) at) refl
        in_file f here (Some k) at =
            listed_in (Some (row_seen c.file f k)) (ap (λ o. on_some o (λ (f : FileRows). option_map (row_seen c.file f) (slice_get f.classes.items c.row))) here ∙ ap (option_map (row_seen c.file f)) at)
            (first_is_before (method_seen c.file) (λ (m : OwnMethod). m.id) c.file n (is_named own.name own.signature) (λ i y. refl) k.first_method (range k.first_method k.method_count f.methods.items))

        by : (o : Option FileRows) → slice_get t.files.items c.file ≡ o → unwrap_or (option_map (λ (k : Class). not (list_any (is_before_method own) k.methods)) (class_row t c)) true ≡ is_not_before n (own_member Method t (method_shown x) c)
        by None e = listed_in None (ap (λ o. on_some o (λ (f : FileRows). option_map (row_seen c.file f) (slice_get f.classes.items c.row))) e) refl
        by (Some f) e = in_file f e (slice_get f.classes.items c.row) refl

    pub method_is_apart : (z : FilePart) → of_member owner (λ c. is_not_before n (own_member Method t (method_shown x) c)) ≡ of_member (method_row w file n) (is_method_apart w z)
    method_is_apart z =
        by owner
        ∙ sym (of_owner z (λ cs c k. not (list_any (is_before_method own) k.methods)))
        ∙ sym (ap (λ o. of_member o (is_method_apart w z)) method_is)
      where
        by : (o : Option Id) → of_member o (λ c. is_not_before n (own_member Method t (method_shown x) c)) ≡ unwrap_or (on_some o (λ c. option_map (λ (k : Class). not (list_any (is_before_method own) k.methods)) (class_row t c))) true
        by None = refl
        by (Some c) = sym (first_one c)
