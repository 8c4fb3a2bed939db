-- The orders of keys tell what the names of rows tell.
use Rattle.std.proofs.Common.{◌≡◌, ℕ, suc, ◌+◌, Bool, true, false, ◌&&◌, cond, List, [], ◌∷◌, map, Option, Some, None, refl, sym, ap, ◌∙◌}
use Rattle.std.specs.Prelude.{slice_index, ◌==◌}
use Rattle.std.specs.List.{position}
use Rattle.std.specs.Option.{option_map, option_cmp}
use Rattle.std.specs.Ordering.{nat_cmp, eq_by_cmp, is_eq, ordering_then}
use Rattle.std.specs.declared.cmp.Ordering.{Ordering}
use Rattle.std.specs.declared.cmp.Ordering.TheVariants.{Less, Equal, Greater}
use Rattle.std.specs.Cmp.{unsigned_tied}
use Rattle.std.specs.Cmp.Lexicographic.{slice_cmp}
use Rattle.std.specs.Str.{bytes_eq}
use Rattle.std.specs.BTreeMap.{BTreeMap}
use Rattle.std.proofs.lemmas.Map.Text.{is_eq-slice_cmp}
use Rattle.file_tables.specs.Metadata.{MetadataPart, rows_of, row_of, column_of}
use Rattle.file_tables.specs.File.{FilePart}
use Rattle.machine.specs.Texts.{same_text}
use Rattle.classes.specs.Classes.{Reference}
use Rattle.kept_rows.proofs.SelectLaws.{position_step}
use Rattle.alike.proofs.Lists.{position_map}
use Rattle.assemblies.specs.Rows.{Assembly, AssemblyRow}
use Rattle.assemblies.specs.Binding.{numbered, same_row, first_number, same_assembly}
use Rattle.world_rows.specs.Tokens.{type_defs, text_at}
use Rattle.world_rows.specs.Rows.{enclosing_of, type_row, alone}
use Rattle.world_rows.specs.World.{rows_alone}
use Rattle.type_names.proofs.RowLoops.{row_is}
use Rattle.first_places.specs.Places.{FindsFirst}
use Rattle.type_names.specs.declared.keys.NameKey.{NameKey}
use Rattle.type_names.specs.declared.keys.AssemblyKey.{AssemblyKey}
use Rattle.type_names.specs.Names.{TypeName, same_name, type_name, type_name_at, type_seen, type_order, FindsTypes, assembly_row, assembly_seen, assembly_order, version_order, FindsAssemblies}

then_equal : (a b : Ordering) → is_eq (ordering_then a b) ≡ (is_eq a && is_eq b)
then_equal Less b = refl
then_equal Equal b = refl
then_equal Greater b = refl

same_bytes : (xs ys : List ℕ) → bytes_eq xs ys ≡ same_text xs ys
same_bytes [] [] = refl
same_bytes [] (y ∷ ys) = refl
same_bytes (x ∷ xs) [] = refl
same_bytes (x ∷ xs) (y ∷ ys) = ap (λ b. (x == y) && b) (same_bytes xs ys)

pub text_equal : (xs ys : List ℕ) → is_eq (slice_cmp nat_cmp xs ys) ≡ same_text xs ys
text_equal xs ys = is_eq-slice_cmp xs ys ∙ same_bytes xs ys

row_equal : (a b : Option ℕ) → is_eq (option_cmp nat_cmp a b) ≡ same_row a b
row_equal None None = refl
row_equal None (Some b) = refl
row_equal (Some a) None = refl
row_equal (Some a) (Some b) = unsigned_tied a b

both : (a a' b b' : Bool) → a ≡ a' → b ≡ b' → (a && b) ≡ (a' && b')
both a a' b b' e f = ap (λ c. c && b) e ∙ ap (λ c. a' && c) f

type_equal : (a b : NameKey) → eq_by_cmp type_order a b ≡ same_name (type_seen a) (type_seen b)
type_equal a b =
    then_equal (option_cmp nat_cmp a.enclosing b.enclosing) (ordering_then (slice_cmp nat_cmp a.namespace.now b.namespace.now) (slice_cmp nat_cmp a.name.now b.name.now))
    ∙ both _ _ _ _ (row_equal a.enclosing b.enclosing)
    (then_equal (slice_cmp nat_cmp a.namespace.now b.namespace.now) (slice_cmp nat_cmp a.name.now b.name.now)
    ∙ both _ _ _ _ (text_equal a.namespace.now b.namespace.now) (text_equal a.name.now b.name.now))

position_numbered : {A B C : Type 0} (make : ℕ → A → B) (make' : ℕ → A → C) (test : B → Bool) (test' : C → Bool) → ((n : ℕ) (x : A) → test (make n x) ≡ test' (make' n x)) → (n : ℕ) (xs : List A) → position test (numbered make n xs) ≡ position test' (numbered make' n xs)
position_numbered make make' test test' same n [] = refl
position_numbered make make' test test' same n (x ∷ xs) =
    position_step test (make n x) (numbered make (suc n) xs)
    ∙ ap (λ b. cond b (Some 0) (option_map suc (position test (numbered make (suc n) xs)))) (same n x)
    ∙ ap (λ o. cond (test' (make' n x)) (Some 0) (option_map suc o)) (position_numbered make make' test test' same (suc n) xs)
    ∙ sym (position_step test' (make' n x) (numbered make' (suc n) xs))

pub types_found : (m : MetadataPart) (keys : List NameKey) (places : BTreeMap NameKey ℕ) → map type_seen keys ≡ numbered (type_name_at m) 0 (rows_of m type_defs) → FindsFirst type_order keys places → FindsTypes m places
types_found m keys places e finds wanted =
    finds wanted
    ∙ sym (position_map type_seen (same_name (type_seen wanted)) (eq_by_cmp type_order wanted) keys (λ k. sym (type_equal wanted k)))
    ∙ ap (position (same_name (type_seen wanted))) e
    ∙ position_numbered (type_name_at m) (type_row m (λ n. Reference)) (same_name (type_seen wanted)) (λ t. same_name (type_seen wanted) (type_name t)) (λ n row. refl) 0 (rows_of m type_defs)

-- the name in a row that was read
pub name_made : (m : MetadataPart) (n : ℕ) (enclosing : Option ℕ) (namespace name : List ℕ) → enclosing ≡ enclosing_of m n → namespace ≡ text_at m (column_of m type_defs (n + 1) 2) → name ≡ text_at m (column_of m type_defs (n + 1) 1) → let made : TypeName = record { enclosing = enclosing; namespace = namespace; name = name } in made ≡ type_name_at m n (row_of m type_defs (suc n))
name_made m n enclosing namespace name e f g =
    ap (λ x. record { enclosing = x; namespace = namespace; name = name }) e
    ∙ ap (λ x. record { enclosing = enclosing_of m n; namespace = x; name = name }) (f ∙ ap (λ r. text_at m (slice_index r 2)) (row_is m type_defs n))
    ∙ ap (λ x. record { enclosing = enclosing_of m n; namespace = text_at m (slice_index (row_of m type_defs (suc n)) 2); name = x }) (g ∙ ap (λ r. text_at m (slice_index r 1)) (row_is m type_defs n))

-- ---- assemblies

four : (a b c d a' b' c' d' : ℕ) → ((a == a') && ((b == b') && ((c == c') && (d == d')))) ≡ same_text (a ∷ b ∷ c ∷ d ∷ []) (a' ∷ b' ∷ c' ∷ d' ∷ [])
four a b c d a' b' c' d' = ap (λ t. (a == a') && ((b == b') && ((c == c') && t))) (and_true (d == d'))
  where
    and_true : (t : Bool) → t ≡ (t && true)
    and_true true = refl
    and_true false = refl

assembly_equal : (a b : AssemblyKey) → eq_by_cmp assembly_order a b ≡ (same_text a.name.now b.name.now && same_text (assembly_seen a).version (assembly_seen b).version)
assembly_equal a b =
    then_equal (slice_cmp nat_cmp a.name.now b.name.now) (version_order a.version b.version)
    ∙ both _ _ _ _ (text_equal a.name.now b.name.now)
    (then_equal (nat_cmp a.version.major b.version.major) (ordering_then (nat_cmp a.version.minor b.version.minor) (ordering_then (nat_cmp a.version.build b.version.build) (nat_cmp a.version.revision b.version.revision)))
    ∙ both _ _ _ _ (unsigned_tied a.version.major b.version.major)
    (then_equal (nat_cmp a.version.minor b.version.minor) (ordering_then (nat_cmp a.version.build b.version.build) (nat_cmp a.version.revision b.version.revision))
    ∙ both _ _ _ _ (unsigned_tied a.version.minor b.version.minor)
    (then_equal (nat_cmp a.version.build b.version.build) (nat_cmp a.version.revision b.version.revision)
    ∙ both _ _ _ _ (unsigned_tied a.version.build b.version.build) (unsigned_tied a.version.revision b.version.revision)))
    ∙ four a.version.major a.version.minor a.version.build a.version.revision b.version.major b.version.minor b.version.build b.version.revision)

number_is : (test : Assembly → Bool) (files : List FilePart) → first_number test (rows_alone files) ≡ position (λ f. test (alone f)) files
number_is test [] = refl
number_is test (f ∷ fs) = go (test (alone f)) (number_is test fs) ∙ sym (position_step (λ f. test (alone f)) f fs)
  where
    go : (b : Bool) → first_number test (rows_alone fs) ≡ position (λ f. test (alone f)) fs → cond b (Some 0) (option_map suc (first_number test (rows_alone fs))) ≡ cond b (Some 0) (option_map suc (position (λ f. test (alone f)) fs))
    go b ih = ap (λ o. cond b (Some 0) (option_map suc o)) ih

pub assemblies_found : (files : List FilePart) (keys : List AssemblyKey) (places : BTreeMap AssemblyKey ℕ) → map assembly_seen keys ≡ map assembly_row files → FindsFirst assembly_order keys places → FindsAssemblies files places
assemblies_found files keys places e finds wanted =
    finds wanted
    ∙ sym (position_map assembly_seen same (eq_by_cmp assembly_order wanted) keys (λ k. sym (assembly_equal wanted k)))
    ∙ ap (position same) e
    ∙ position_map assembly_row same (λ f. same_assembly (assembly_seen wanted) (alone f)) files (λ f. refl)
    ∙ sym (number_is (same_assembly (assembly_seen wanted)) files)
  where
    same : AssemblyRow → Bool
    same r = same_text wanted.name.now r.name && same_text (assembly_seen wanted).version r.version
