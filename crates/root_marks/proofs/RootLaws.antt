-- The marks are those of the roots.
use Rattle.std.proofs.Common.{◌≡◌, ◌⊎◌, inl, inr, ℕ, Bool, true, false, ◌&&◌, List, length, Option, Some, None, refl, sym, ap, ◌∙◌, arith}
use Rattle.std.specs.Prelude.{codes, slice_get, unwrap_or}
use Rattle.std.specs.Option.{option_map}
use Rattle.std.proofs.lemmas.Option.{slice_get_within}
use Rattle.file_tables.specs.File.{FilePart}
use Rattle.machine.specs.Data.{Id}
use Rattle.machine.specs.Texts.{same_text}
use Rattle.machine.specs.Throw.{on_some}
use Rattle.classes.specs.Classes.{Class, Classes}
use Rattle.classes.specs.Queries.{has_name, known_name, library_class}
use Rattle.alike.proofs.Targets.{find_true}
use Rattle.assemblies.specs.Rows.{Assembly, TypeRow}
use Rattle.assemblies.specs.Binding.{class_with, classes_of}
use Rattle.world_rows.specs.World.{assemblies_of, rows_alone, size_of}
use Rattle.row_closure.specs.Closure.{holds}
use Rattle.row_numbers.specs.declared.table.Table.TheVariants as table
use Rattle.kept_rules.specs.Row.{Row, MethodAt, in_option}
use Rattle.kept_rules.specs.Rules.{Root, root_row, Entry, BasicType, ArrayType, ThrownByCode, ExceptionType, type_at}
use Rattle.kept_numbers.specs.Numbers.{IsThere, all_rows, number_of}
use Rattle.kept_numbers.proofs.NumberLaws.{stands_at_number}
use Rattle.row_rules.specs.Links.{number_there}
use Rattle.member_rules.specs.Members.{class_row}
use Rattle.member_rules.proofs.Among.{Among, in_front, in_rest, in_either, in_some, some_in, in_flat, from_flat}
use Rattle.root_marks.specs.Roots.{marked, entry_rows, rows_named, root_rows, root_names}
use Rattle.root_marks.specs.Are.{IsClear, EntriesStand, AreRoots}
use Rattle.root_marks.proofs.MarkLaws.{has_mark, is_mark, found_is, is_found}
use Rattle.root_marks.proofs.EntryLaws.{entry_among, among_entry}
use Rattle.root_marks.proofs.NameLaws.{element_named, array_named, exception_named, thrown_named, NameOf, OfElement, OfArray, OfException, OfThrown, name_of}

module _ (files : List FilePart) (clear : List Bool) (entries : EntriesStand (assemblies_of files)) (none : IsClear clear) (size_is : length clear ≡ length (all_rows (assemblies_of files))) where
  abbrev size : ℕ
  size = size_of (rows_alone files)

  abbrev ps : List Assembly
  ps = assemblies_of files

  abbrev cs : Classes
  cs = classes_of size ps

  abbrev roots : ℕ → Bool
  roots = holds (marked ps (root_rows files cs) clear)

  -- a row that is there is marked, if it is among those
  marks : (r : Row) → Among (root_rows files cs) r → IsThere ps r → number_there ps r ≡ Some (number_of ps r) → roots (number_of ps r) ≡ true
  marks r among there is =
      let low = slice_get_within (all_rows ps) (number_of ps r) r (stands_at_number ps r there) in
      has_mark ps (root_rows files cs) clear r (number_of ps r) among is (omega (arith, low, size_is))

  -- ---- classes

  -- the class of a name is a type that is there
  class_there : (name : List ℕ) (c : Id) → library_class cs name ≡ Some c → IsThere ps (type_at c)
  class_there name c e = go (slice_get ps c.file) refl (find_true (has_name cs name) cs.library c e)
    where
      of_type : (p : Assembly) → slice_get ps c.file ≡ Some p → (o : Option TypeRow) → slice_get p.types c.row ≡ o → unwrap_or (option_map (λ (k : Class). same_text k.namespace (codes "System") && same_text k.name name) (option_map (class_with size ps c.file p) o)) false ≡ true → IsThere ps (type_at c)
      of_type p at None is h = absurd (cc h)
      of_type p at (Some t) is h = (p, (t, (at, is)))

      go : (o : Option Assembly) → slice_get ps c.file ≡ o → unwrap_or (option_map (λ (k : Class). same_text k.namespace (codes "System") && same_text k.name name) (on_some (slice_get ps c.file) (λ p. option_map (class_with size ps c.file p) (slice_get p.types c.row)))) false ≡ true → IsThere ps (type_at c)
      go None at h = absurd (cc (sym (ap (λ q. unwrap_or (option_map (λ (k : Class). same_text k.namespace (codes "System") && same_text k.name name) (on_some q (λ (p : Assembly). option_map (class_with size ps c.file p) (slice_get p.types c.row)))) false) at) ∙ h))
      go (Some p) at h = of_type p at (slice_get p.types c.row) refl (sym (ap (λ q. unwrap_or (option_map (λ (k : Class). same_text k.namespace (codes "System") && same_text k.name name) (on_some q (λ (p : Assembly). option_map (class_with size ps c.file p) (slice_get p.types c.row)))) false) at) ∙ h)

  number_at : (c : Id) → IsThere ps (type_at c) → number_there ps (type_at c) ≡ Some (number_of ps (type_at c))
  number_at c (p, (t, s)) = is_found ps table.TypeDef c.file c.row p s.0 (slice_get_within p.types c.row t s.1)

  class_marked : (name : List ℕ) (c : Id) → Among root_names name → library_class cs name ≡ Some c → roots (number_of ps (type_at c)) ≡ true
  class_marked name c among e =
      let there = class_there name c e in
      marks (type_at c)
      (in_rest (entry_rows files) (rows_named cs root_names) (type_at c) (in_flat (λ name. in_option class_row (library_class cs name)) root_names name (type_at c) among (some_in type_at (library_class cs name) c e)))
      there (number_at c there)

  -- ---- entries

  entry_marked : (f n : ℕ) (p : Assembly) → slice_get ps f ≡ Some p → p.entry ≡ Some n → roots (number_of ps (MethodAt f n)) ≡ true
  entry_marked f n p at e =
      let m = entries f n p at e in
      marks (MethodAt f n) (in_front (entry_rows files) (rows_named cs root_names) (MethodAt f n) (entry_among files f n p at e)) (p, (m.0, (at, m.1)))
      (is_found ps table.MethodDef f n p at (slice_get_within p.methods n m.0 m.1))

  -- ---- all of them

  has_root : (r : Root size ps) → roots (number_of ps (root_row size ps r)) ≡ true
  has_root (Entry f n p at e) = entry_marked f n p at e
  has_root (BasicType e name c b l) = class_marked name c (element_named e name b) l
  has_root (ArrayType c l) = class_marked (codes "Array") c array_named l
  has_root (ThrownByCode k c b l) = class_marked (known_name k) c (thrown_named k b) l
  has_root (ExceptionType c l) = class_marked (codes "Exception") c exception_named l

  abbrev IsRoot : ℕ → Type 0
  IsRoot n = (r : Root size ps) × (n ≡ number_of ps (root_row size ps r))

  of_class : (n : ℕ) (name : List ℕ) (c : Id) → NameOf name → library_class cs name ≡ Some c → n ≡ number_of ps (type_at c) → IsRoot n
  of_class n name c (OfElement e b) l is = (BasicType e name c b l, is)
  of_class n name c (OfArray same) l is = (ArrayType c (ap (library_class cs) same ∙ l), is)
  of_class n name c (OfException same) l is = (ExceptionType c (ap (library_class cs) same ∙ l), is)
  of_class n name c (OfThrown k b same) l is = (ThrownByCode k c b (ap (library_class cs) same ∙ l), is)

  of_row : (n : ℕ) (r : Row) → Among (entry_rows files) r ⊎ Among (rows_named cs root_names) r → number_there ps r ≡ Some n → IsRoot n
  of_row n r (inl among) is =
      let w = among_entry files r among in
      (Entry w.file w.row w.assembly w.at w.named, found_is ps table.MethodDef w.file w.row n (sym (ap (number_there ps) w.is) ∙ is))
  of_row n r (inr among) is =
      let w = from_flat (λ name. in_option class_row (library_class cs name)) root_names r among in
      let c = in_some type_at (library_class cs w.0) r w.1.1 in
      of_class n w.0 c.0 (name_of w.0 w.1.0) c.1.0 (found_is ps table.TypeDef c.0.file c.0.row n (ap (number_there ps) c.1.1 ∙ is))

  is_root : (n : ℕ) → roots n ≡ true → IsRoot n
  is_root n e = go (is_mark ps (root_rows files cs) clear n e)
    where
      go : (holds clear n ≡ true) ⊎ ((r : Row) × (Among (root_rows files cs) r × (number_there ps r ≡ Some n))) → IsRoot n
      go (inl old) = let both : true ≡ false = sym old ∙ none n in absurd (cc both)
      go (inr (r, (among, is))) = of_row n r (in_either (entry_rows files) (rows_named cs root_names) r among) is

  pub are_roots : AreRoots size ps roots
  are_roots = record { has_root = has_root; is_root = is_root }
