-- The orders of names tell what the names of rows tell.
use Rattle.std.proofs.Common.{◌≡◌, ℕ, suc, Bool, true, false, ◌&&◌, cond, List, [], ◌∷◌, map, Option, Some, None, refl, sym, ap, ◌∙◌}
use Rattle.std.specs.Prelude.{◌==◌}
use Rattle.std.specs.List.{position}
use Rattle.std.specs.Option.{option_map, option_cmp}
use Rattle.std.specs.Ordering.{nat_cmp, eq_by_cmp, is_eq, ordering_then}
use Rattle.std.specs.declared.cmp.Ordering.{Ordering}
use Rattle.std.specs.declared.cmp.Ordering.TheVariants.{Less, Equal, Greater}
use Rattle.std.specs.Cmp.{unsigned_tied}
use Rattle.std.specs.Cmp.Lexicographic.{slice_cmp}
use Rattle.std.specs.Str.{bytes_eq}
use Rattle.std.specs.BTreeMap.{BTreeMap}
use Rattle.std.proofs.lemmas.Map.Text.{is_eq-slice_cmp}
use Rattle.machine.specs.Texts.{same_text}
use Rattle.kept_rows.proofs.SelectLaws.{position_step}
use Rattle.alike.proofs.Lists.{position_map}
use Rattle.image_bytes.specs.Layout.{Image}
use Rattle.assemblies.specs.Rows.{Assembly, AssemblyRow}
use Rattle.assemblies.specs.Binding.{same_row, first_number, same_assembly}
use Rattle.first_places.specs.Places.{FindsFirst}
use Rattle.tiny_rows.specs.declared.assembly.AssemblyName.{AssemblyName}
use Rattle.tiny_rows.specs.declared.types.TypeName.{TypeName}
use Rattle.tiny_rows.specs.Rows.{rows_seen, assembly_seen, own_name, type_name_seen, name_of, same_name}
use Rattle.set_names.specs.Names.{type_order, version_order, assembly_order, FindsTypes, FindsAssemblies}

then_equal : (a b : Ordering) → is_eq (ordering_then a b) ≡ (is_eq a && is_eq b)
then_equal Less b = refl
then_equal Equal b = refl
then_equal Greater b = refl

same_bytes : (xs ys : List ℕ) → bytes_eq xs ys ≡ same_text xs ys
same_bytes [] [] = refl
same_bytes [] (y ∷ ys) = refl
same_bytes (x ∷ xs) [] = refl
same_bytes (x ∷ xs) (y ∷ ys) = ap (λ b. (x == y) && b) (same_bytes xs ys)

text_equal : (xs ys : List ℕ) → is_eq (slice_cmp nat_cmp xs ys) ≡ same_text xs ys
text_equal xs ys = is_eq-slice_cmp xs ys ∙ same_bytes xs ys

row_equal : (a b : Option ℕ) → is_eq (option_cmp nat_cmp a b) ≡ same_row a b
row_equal None None = refl
row_equal None (Some b) = refl
row_equal (Some a) None = refl
row_equal (Some a) (Some b) = unsigned_tied a b

both : (a a' b b' : Bool) → a ≡ a' → b ≡ b' → (a && b) ≡ (a' && b')
both a a' b b' e f = ap (λ c. c && b) e ∙ ap (λ c. a' && c) f

type_equal : (a b : TypeName) → eq_by_cmp type_order a b ≡ same_name (type_name_seen a) (type_name_seen b)
type_equal a b =
    then_equal (option_cmp nat_cmp a.enclosing b.enclosing) (ordering_then (slice_cmp nat_cmp a.namespace.now b.namespace.now) (slice_cmp nat_cmp a.name.now b.name.now))
    ∙ both _ _ _ _ (row_equal a.enclosing b.enclosing)
    (then_equal (slice_cmp nat_cmp a.namespace.now b.namespace.now) (slice_cmp nat_cmp a.name.now b.name.now)
    ∙ both _ _ _ _ (text_equal a.namespace.now b.namespace.now) (text_equal a.name.now b.name.now))

pub types_found : (i : Image) (keys : List TypeName) (places : BTreeMap TypeName ℕ) → map type_name_seen keys ≡ map name_of (rows_seen i).types → FindsFirst type_order keys places → FindsTypes i places
types_found i keys places e finds wanted =
    finds wanted
    ∙ sym (position_map type_name_seen (same_name (type_name_seen wanted)) (eq_by_cmp type_order wanted) keys (λ k. sym (type_equal wanted k)))
    ∙ ap (position (same_name (type_name_seen wanted))) e
    ∙ position_map name_of (same_name (type_name_seen wanted)) (λ t. same_name (type_name_seen wanted) (name_of t)) (rows_seen i).types (λ t. refl)

-- ---- assemblies

four : (a b c d a' b' c' d' : ℕ) → ((a == a') && ((b == b') && ((c == c') && (d == d')))) ≡ same_text (a ∷ b ∷ c ∷ d ∷ []) (a' ∷ b' ∷ c' ∷ d' ∷ [])
four a b c d a' b' c' d' = ap (λ t. (a == a') && ((b == b') && ((c == c') && t))) (and_true (d == d'))
  where
    and_true : (t : Bool) → t ≡ (t && true)
    and_true true = refl
    and_true false = refl

assembly_equal : (a b : AssemblyName) → eq_by_cmp assembly_order a b ≡ (same_text a.name.now b.name.now && same_text (assembly_seen a).version (assembly_seen b).version)
assembly_equal a b =
    then_equal (slice_cmp nat_cmp a.name.now b.name.now) (version_order a.version b.version)
    ∙ both _ _ _ _ (text_equal a.name.now b.name.now)
    (then_equal (nat_cmp a.version.major b.version.major) (ordering_then (nat_cmp a.version.minor b.version.minor) (ordering_then (nat_cmp a.version.build b.version.build) (nat_cmp a.version.revision b.version.revision)))
    ∙ both _ _ _ _ (unsigned_tied a.version.major b.version.major)
    (then_equal (nat_cmp a.version.minor b.version.minor) (ordering_then (nat_cmp a.version.build b.version.build) (nat_cmp a.version.revision b.version.revision))
    ∙ both _ _ _ _ (unsigned_tied a.version.minor b.version.minor)
    (then_equal (nat_cmp a.version.build b.version.build) (nat_cmp a.version.revision b.version.revision)
    ∙ both _ _ _ _ (unsigned_tied a.version.build b.version.build) (unsigned_tied a.version.revision b.version.revision)))
    ∙ four a.version.major a.version.minor a.version.build a.version.revision b.version.major b.version.minor b.version.build b.version.revision)

number_is : (test : Assembly → Bool) (images : List Image) → first_number test (map rows_seen images) ≡ position (λ i. test (rows_seen i)) images
number_is test [] = refl
number_is test (i ∷ is) = ap (λ o. cond (test (rows_seen i)) (Some 0) (option_map suc o)) (number_is test is) ∙ sym (position_step (λ i. test (rows_seen i)) i is)

pub assemblies_found : (images : List Image) (keys : List AssemblyName) (places : BTreeMap AssemblyName ℕ) → map assembly_seen keys ≡ map (λ i. own_name (rows_seen i)) images → FindsFirst assembly_order keys places → FindsAssemblies images places
assemblies_found images keys places e finds wanted =
    finds wanted
    ∙ sym (position_map assembly_seen same (eq_by_cmp assembly_order wanted) keys (λ k. sym (assembly_equal wanted k)))
    ∙ ap (position same) e
    ∙ position_map (λ i. own_name (rows_seen i)) same (λ i. same_assembly (assembly_seen wanted) (rows_seen i)) images (λ i. refl)
    ∙ sym (number_is (same_assembly (assembly_seen wanted)) images)
  where
    same : AssemblyRow → Bool
    same r = same_text wanted.name.now r.name && same_text (assembly_seen wanted).version r.version
