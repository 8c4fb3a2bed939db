-- Each row of a fitting item may be asked for.
use Rattle.std.proofs.Common.{◌≡◌, ℕ, ◌%◌, ◌^◌, ◌≤◌, List, [], ◌∷◌, length, true, inl, inr, refl, ◌∙◌, arith}
use Rattle.std.specs.Prelude.{◌==◌, ◌&&◌, ◌||◌, nat_lt, nat_le}
use Rattle.std.specs.List.{list_all, list_any}
use Rattle.std.specs.Cmp.Derive.{both_true}
use Rattle.std.proofs.lemmas.Bool.{and_parts, or_cases, or_left, or_right, leb-true, le-leb, lt-ltb}
use Rattle.std.proofs.lemmas.List.Folds.{list_all-append}
use Rattle.base_tables.specs.Shape.{Item, Body, Kind}
use Rattle.base_tables.specs.declared.shape.Entry.{Entry}
use Rattle.base_tables.specs.declared.shape.Entry.TheVariants.{Literal, TypeDef, Field, Method, Implements, Assembly, TypeOf, MethodOf}
use Rattle.base_tables.specs.declared.shape.Work.{Work}
use Rattle.base_tables.specs.declared.shape.Work.TheVariants.{Code, Native, Abstract}
use Rattle.cil_layout.specs.Asked.{Asked, rows_of}
use Rattle.cil_layout.specs.Askable.{is_name, is_askable_row}
use Rattle.cil_layout.specs.Numbers.{token_table, token_row}
use Rattle.base_lib.specs.Keys.{token_of_key}
use Rattle.base_lib.specs.Files.{impl_flags}
use Rattle.base_lib.proofs.Added.{added, kinds_rows, locals_rows, method_row}
use Rattle.base_lib.proofs.Bytes.{field_blob, locals_blob, method_blob}
use Rattle.base_lib.specs.Fits.{is_short, is_plain, is_fitting, stands, type_tables, class_tables, scope_tables, parent_tables, count_of, names_row}
use Rattle.base_lib.proofs.Weighed.{IsSmall, work_blob}

-- what the tests say
pub record IsFit (items : List Item) (i : Item) : Type 0 where
  pub small : IsSmall i
  pub name : is_name i.name ≡ true
  pub namespace : is_name i.namespace ≡ true
  pub units : list_all (λ u. nat_lt u 65536) i.key ≡ true
  pub flags : nat_lt i.flags (2 ^ 32) ≡ true
  pub stand : stands items i.entry i ≡ true

pub fit_of : (items : List Item) (i : Item) → is_fitting items i ≡ true → IsFit items i
unfolding is_fitting
fit_of items i all =
    let whole = and_parts (is_short i && is_plain i) (stands items i.entry i) all in
    let tests = and_parts (is_short i) (is_plain i) whole.0 in
    let s1 = and_parts _ (nat_le (length i.body.lines) 500) tests.0 in
    let s2 = and_parts _ (nat_le (length i.body.locals) 100) s1.0 in
    let s3 = and_parts _ (nat_le (length i.signature.params) 100) s2.0 in
    let s4 = and_parts _ (nat_le (length i.namespace) 100) s3.0 in
    let s5 = and_parts (nat_le (length i.key) 100) (nat_le (length i.name) 100) s4.0 in
    let p1 = and_parts _ (list_all (λ line. nat_lt line.number 256) i.body.lines) tests.1 in
    let p2 = and_parts _ (nat_lt i.flags (2 ^ 32)) p1.0 in
    let p3 = and_parts _ (list_all (λ u. nat_lt u 65536) i.key) p2.0 in
    let p4 = and_parts (is_name i.name) (is_name i.namespace) p3.0 in
    let small : IsSmall i = record {
      key = leb-true (length i.key) 100 s5.0;
      name = leb-true (length i.name) 100 s5.1;
      namespace = leb-true (length i.namespace) 100 s4.1;
      params = leb-true (length i.signature.params) 100 s3.1;
      locals = leb-true (length i.body.locals) 100 s2.1;
      lines = leb-true (length i.body.lines) 500 s1.1;
      numbers = p1.1;
    } in
    record { small = small; name = p4.0; namespace = p4.1; units = p3.1; flags = p2.1; stand = whole.1 }

-- a row that is there where tables have so many rows is there where they have more
token_there : (count other : ℕ → ℕ) → ((table : ℕ) → count table ≤ other table) → (tables : List ℕ) (token : ℕ) → names_row count tables token ≡ true → names_row other tables token ≡ true
token_there count other more tables token there =
    let parts = and_parts (list_any (λ table. table == token_table token) tables && nat_le 1 (token_row token)) (nat_le (token_row token) (count (token_table token))) there in
    both_true parts.0 (le-leb (token_row token) (other (token_table token)) (omega (arith, leb-true (token_row token) (count (token_table token)) parts.1, more (token_table token))))

-- flags fit their columns
impl_fits : (work : Work) → nat_lt (impl_flags work) (2 ^ 16) ≡ true
impl_fits Code = refl
impl_fits Native = refl
impl_fits Abstract = refl

flags_fit : (flags : ℕ) → nat_lt (flags % 2 ^ 16) (2 ^ 16) ≡ true
flags_fit flags = lt-ltb (flags % 2 ^ 16) (2 ^ 16) (omega arith)

-- the signature of locals
kinds_askable : (items : List Item) (all : Asked) (kinds : List Kind) → length kinds ≤ 100 → list_all (is_askable_row all) (kinds_rows items kinds) ≡ true
kinds_askable items all [] few = refl
kinds_askable items all (k ∷ ks) few = both_true (locals_blob items (k ∷ ks) few).bytes refl

locals_askable : (items : List Item) (all : Asked) (work : Work) (body : Body) → length body.locals ≤ 100 → list_all (is_askable_row all) (locals_rows items work body) ≡ true
locals_askable items all Code body few = kinds_askable items all body.locals few
locals_askable items all Native body few = refl
locals_askable items all Abstract body few = refl

-- a method with its signature and body
method_askable : (items : List Item) (r all : Asked) (i : Item) → IsFit items i → is_askable_row all (method_row items r i) ≡ true
method_askable items r all i fit =
    both_true (both_true (both_true (both_true (impl_fits i.body.work) (flags_fit i.flags)) fit.name) (method_blob items i.signature fit.small.params).bytes)
    (work_blob items r i.body.work i fit.small).bytes

-- what a type stands on, if on anything
type_askable : (count other : ℕ → ℕ) → ((table : ℕ) → count table ≤ other table) → (token : ℕ) → ((token == 0) || names_row count type_tables token) ≡ true → ((token == 0) || names_row other type_tables token) ≡ true
type_askable count other more token is =
    elim (or_cases (token == 0) (names_row count type_tables token) is) [
      | inl none ↦ or_left (token == 0) (names_row other type_tables token) none
      | inr there ↦ or_right (token == 0) (names_row other type_tables token) (token_there count other more type_tables token there)
    ]

-- The rows of an entry, where all tables together have at least the rows of the items
pub entry_askable : (items : List Item) (r all : Asked) → ((table : ℕ) → count_of items table ≤ rows_of all table) → (entry : Entry) (i : Item) → IsFit items i → stands items entry i ≡ true
    → list_all (is_askable_row all) (added items r entry i) ≡ true
entry_askable items r all more Literal i fit stand = both_true fit.units refl
entry_askable items r all more TypeDef i fit stand =
    both_true (both_true (both_true (both_true fit.flags fit.namespace) fit.name) (type_askable (count_of items) (rows_of all) more (token_of_key items i.base) stand)) refl
entry_askable items r all more Field i fit stand = both_true (both_true (both_true (both_true (flags_fit i.flags) fit.name) (field_blob items i.signature.result).bytes) refl) refl
entry_askable items r all more Method i fit stand =
    list_all-append (is_askable_row all) (locals_rows items i.body.work i.body) (method_row items r i ∷ [])
    ∙ both_true (locals_askable items all i.body.work i.body fit.small.locals) (both_true (method_askable items r all i fit) refl)
entry_askable items r all more Implements i fit stand =
    let parts = and_parts (names_row (count_of items) class_tables (token_of_key items i.name)) (names_row (count_of items) type_tables (token_of_key items i.base)) stand in
    both_true
    (both_true
    (token_there (count_of items) (rows_of all) more class_tables (token_of_key items i.name) parts.0)
    (token_there (count_of items) (rows_of all) more type_tables (token_of_key items i.base) parts.1))
    refl
entry_askable items r all more Assembly i fit stand = both_true (both_true fit.name refl) refl
entry_askable items r all more TypeOf i fit stand =
    both_true (both_true (both_true (token_there (count_of items) (rows_of all) more scope_tables (token_of_key items i.base) stand) fit.namespace) fit.name) refl
entry_askable items r all more MethodOf i fit stand =
    both_true (both_true (both_true (token_there (count_of items) (rows_of all) more parent_tables (token_of_key items i.base) stand) fit.name) (method_blob items i.signature fit.small.params).bytes) refl
