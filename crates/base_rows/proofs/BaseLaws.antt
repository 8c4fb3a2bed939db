-- What the tests of the base library's classes give: the facts that the laws of types need, in each world.
use Rattle.std.proofs.Common.{◌≡◌, ◌⊎◌, ⊎_elim, ℕ, zero, suc, ◌+◌, ◌-◌, ◌≤◌, true, List, [], ◌∷◌, ◌++◌, length, Some, refl, sym, ap, ◌∙◌, subst, arith}
use Rattle.std.specs.Prelude.{◌&&◌, ◌==◌, nat_le, slice_get}
use Rattle.std.specs.Option.{option_map}
use Rattle.std.proofs.lemmas.Bool.{and_parts, both_ways, le-leb, cases_eq}
use Rattle.plain_types.specs.declared.elem.Elem.TheVariants as elem
use Rattle.file_tables.specs.File.{FilePart}
use Rattle.file_tables.specs.Metadata.{MetadataPart, rows_of, row_count, is_row}
use Rattle.classes.specs.Classes.{Reference}
use Rattle.classes.specs.Reading.{IsRead}
use Rattle.assemblies.specs.Rows.{TypeRow}
use Rattle.assemblies.specs.Binding.{id_at, numbered}
use Rattle.assemblies.proofs.Numbered.{get_numbered}
use Rattle.world_rows.specs.Tokens.{type_defs}
use Rattle.world_rows.specs.Rows.{type_row, alone}
use Rattle.world_rows.specs.World.{type_count, size_of, rows_alone, ecma_sources}
use Rattle.world_rows.specs.Read.{TypesStand}
use Rattle.world_rows.proofs.Read.{ClassRow, class_row, world_is_read}
use Rattle.class_rules.specs.Rules.{is_user}
use Rattle.class_rules.specs.Base.{IsBase, HasTypes, is_base}
use Rattle.class_rules.proofs.BaseLaws.{base_is_tested}
use Rattle.base_rows.specs.Base.{library_file, native_file}
use Rattle.base_rows.specs.Facts.{base, types_in, base_types, stands_to}
use Rattle.base_rows.proofs.Size.{base_sources}
use Rattle.base_rows.proofs.IsBaseFact.{base_is, library_stands, native_stands}

-- ---- the types of the first two files are all of theirs

get_left : {A : Type 0} (xs ys : List A) (i : ℕ) (x : A) → slice_get xs i ≡ Some x → slice_get (xs ++ ys) i ≡ Some x
get_left [] ys i x e = absurd (cc e)
get_left (z ∷ zs) ys zero x e = e
get_left (z ∷ zs) ys (suc i) x e = get_left zs ys i x e

get_right : {A : Type 0} (xs ys : List A) (i : ℕ) → slice_get (xs ++ ys) (length xs + i) ≡ slice_get ys i
get_right [] ys i = let same : 0 + i ≡ i = omega arith in ap (slice_get ys) same
get_right (z ∷ zs) ys i = let same : length (z ∷ zs) + i ≡ suc (length zs + i) = omega arith in ap (slice_get (z ∷ (zs ++ ys))) same ∙ get_right zs ys i

numbered_there : (file : ℕ) (ts : List TypeRow) (n : ℕ) (t : TypeRow) → slice_get ts n ≡ Some t → slice_get (numbered (λ n (t : TypeRow). id_at file n) 0 ts) n ≡ Some (id_at file n)
numbered_there file ts n t e =
    let same : 0 + n ≡ n = omega arith in
    get_numbered (λ n (t : TypeRow). id_at file n) 0 n ts ∙ (ap (option_map (λ (t : TypeRow). id_at file (0 + n))) e ∙ ap (λ z. Some (id_at file z)) same)

row_there : (x : FilePart) (n : ℕ) (row : List ℕ) → slice_get (rows_of x.metadata type_defs) n ≡ Some row → (t : TypeRow) × (slice_get (alone x).types n ≡ Some t)
row_there x n row e = (
  type_row x.metadata (λ n. Reference) (0 + n) row,
  get_numbered (type_row x.metadata (λ n. Reference)) 0 n (rows_of x.metadata type_defs) ∙ ap (option_map (type_row x.metadata (λ n. Reference) (0 + n))) e,
)

first_types : (a b : FilePart) (xs : List FilePart) → HasTypes (ecma_sources (a ∷ (b ∷ xs))).classes (types_in a b)
first_types a b xs c k user there = by c.file refl
  where
    r : ClassRow (a ∷ (b ∷ xs)) c k
    r = class_row (a ∷ (b ∷ xs)) c k there

    by : (f : ℕ) → c.file ≡ f → (i : ℕ) × (slice_get (types_in a b) i ≡ Some c)
    by zero is =
        let here : Some a ≡ Some r.file = sym (ap (slice_get (a ∷ (b ∷ xs))) is) ∙ r.is_file in
        let same : r.file ≡ a = (let h = sym here in cc h) in
        let t = row_there a c.row r.row (subst (λ (z : FilePart). slice_get (rows_of z.metadata type_defs) c.row ≡ Some r.row) same r.is_row) in
        (c.row, get_left _ _ c.row (id_at 0 c.row) (numbered_there 0 (alone a).types c.row t.0 t.1) ∙ ap (λ f. Some (id_at f c.row)) (sym is))
    by (suc zero) is =
        let here : Some b ≡ Some r.file = sym (ap (slice_get (a ∷ (b ∷ xs))) is) ∙ r.is_file in
        let same : r.file ≡ b = (let h = sym here in cc h) in
        let t = row_there b c.row r.row (subst (λ (z : FilePart). slice_get (rows_of z.metadata type_defs) c.row ≡ Some r.row) same r.is_row) in (
          length (numbered (λ n (t : TypeRow). id_at 0 n) 0 (alone a).types) + c.row,
          get_right (numbered (λ n (t : TypeRow). id_at 0 n) 0 (alone a).types) (numbered (λ n (t : TypeRow). id_at 1 n) 0 (alone b).types) c.row ∙ (numbered_there 1 (alone b).types c.row t.0 t.1 ∙ ap (λ f. Some (id_at f c.row)) (sym is)),
        )
    by (suc (suc f)) is = absurd (let users : is_user c ≡ true = ap (λ z. nat_le 2 z) is ∙ le-leb 2 (suc (suc f)) (omega arith) in both_ways (is_user c) user users)

-- ---- the facts

pub base_facts : (xs : List FilePart) → IsBase (ecma_sources (base xs)).classes
base_facts xs =
    base_is_tested (ecma_sources (base xs)).classes base_types (first_types library_file native_file xs)
    (ap (λ x. is_base x.classes base_types) (base_sources xs) ∙ base_is (size_of (rows_alone (base xs)) - 8) xs)

-- ---- rows of types

stands : (m : MetadataPart) (n row : ℕ) → stands_to m n ≡ true → row ≤ n → is_row m type_defs row ≡ true
stands m zero row e below = let same : row ≡ 0 = omega (arith, below) in subst (λ z. is_row m type_defs z ≡ true) (sym same) e
stands m (suc n) row e below = ⊎_elim (λ same. subst (λ z. is_row m type_defs z ≡ true) (sym same) both.0) (λ apart. stands m n row both.1 (omega (arith, below, apart))) (cases_eq row (suc n))
  where
    both : (is_row m type_defs (suc n) ≡ true) × (stands_to m n ≡ true)
    both = and_parts (is_row m type_defs (suc n)) (stands_to m n) e

base_stands : (xs : List FilePart) → TypesStand xs → TypesStand (base xs)
base_stands xs more zero x at row below =
    let same : library_file ≡ x = cc at in
    subst (λ (z : FilePart). row ≤ row_count z.metadata type_defs → is_row z.metadata type_defs row ≡ true) same (λ b. stands library_file.metadata (row_count library_file.metadata type_defs) row library_stands b) below
base_stands xs more (suc zero) x at row below =
    let same : native_file ≡ x = cc at in
    subst (λ (z : FilePart). row ≤ row_count z.metadata type_defs → is_row z.metadata type_defs row ≡ true) same (λ b. stands native_file.metadata (row_count native_file.metadata type_defs) row native_stands b) below
base_stands xs more (suc (suc f)) x at row below = more f x at row below

-- each world of files whose rows of types stand is read
pub base_is_read : (xs : List FilePart) → TypesStand xs → IsRead (type_count (rows_alone (base xs))) (ecma_sources (base xs)).classes
base_is_read xs stand = world_is_read (base xs) (base_stands xs stand)
