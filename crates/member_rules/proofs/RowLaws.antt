-- The rows of a file in a world's table, and those of its assembly.
use Rattle.std.proofs.Common.{◌≡◌, ℕ, ◌+◌, List, [], map, Option, Some, None, refl, sym, ap, ◌∙◌, arith}
use Rattle.std.specs.Prelude.{slice_get, unwrap_or}
use Rattle.std.specs.Option.{option_map}
use Rattle.std.proofs.lemmas.Option.{slice_get-map, slice_get_within}
use Rattle.file_tables.specs.File.{FilePart}
use Rattle.assemblies.specs.Rows as rows
use Rattle.assemblies.specs.Rows.{Assembly, TypeRow}
use Rattle.assemblies.specs.Binding.{numbered, own_field, own_method}
use Rattle.assemblies.proofs.Back.{get_there}
use Rattle.assemblies.proofs.Numbered.{get_numbered}
use Rattle.world_rows.specs.World.{rows_alone, assembly_with, assemblies_of, size_of}
use Rattle.class_table.specs.declared.rows.ClassRow.{ClassRow}
use Rattle.class_table.specs.declared.rows.FieldRow.{FieldRow}
use Rattle.class_table.specs.declared.rows.MethodRow.{MethodRow}
use Rattle.class_table.specs.declared.rows.FileRows.{FileRows}
use Rattle.class_table.specs.declared.rows.ClassTable.{ClassTable}
use Rattle.class_table.specs.Seen.{field_seen, method_seen}
use Rattle.class_table.specs.Outlines.{outline_seen, outline_of}
use Rattle.class_table.specs.Whole.{IsTable}
use Rattle.class_table.proofs.TableLaws.{assembly_at, own_fields, own_methods}

pub from_first : {A B : Type 0} (make : ℕ → A → B) (i : ℕ) (xs : List A) → slice_get (numbered make 0 xs) i ≡ option_map (make i) (slice_get xs i)
from_first make i xs = let same : 0 + i ≡ i = omega arith in get_numbered make 0 i xs ∙ ap (λ n. option_map (make n) (slice_get xs i)) same

-- where two options tell the same, an element of the one has one of the other
pub same_there : {A B C : Type 0} (g : A → C) (h : B → C) (o : Option A) (q : Option B) (x : A) → option_map g o ≡ option_map h q → o ≡ Some x → (y : B) × ((q ≡ Some y) × (h y ≡ g x))
same_there g h None q x e s = absurd (cc s)
same_there g h (Some a) None x e s = absurd (cc e)
same_there g h (Some a) (Some b) x e s = let told : g a ≡ h b = cc e in let same : a ≡ x = cc s in (b, (refl, sym told ∙ ap g same))

module _ (files : List FilePart) (t : ClassTable) (table : IsTable files t) (f : ℕ) (x : FileRows) (here : slice_get t.files.items f ≡ Some x) where
  abbrev size : ℕ
  size = size_of (rows_alone files)

  abbrev ps : List Assembly
  ps = assemblies_of files

  pub there : (p : Assembly) × (slice_get ps f ≡ Some p)
  there =
      let count = table.count in
      let within = slice_get_within t.files.items f x here in
      let y = get_there files f (omega (arith, count, within)) in
      (assembly_with size files (rows_alone files) f y.0, assembly_at files t table f ∙ ap (option_map (assembly_with size files (rows_alone files) f)) y.1)

  module _ (p : Assembly) (at : slice_get ps f ≡ Some p) where
    outlines : map outline_seen x.classes.items ≡ map (outline_of size ps f) p.types
    outlines = (table.rows f x here).classes ∙ ap (λ o. unwrap_or (option_map (λ (q : Assembly). map (outline_of size ps f) q.types) o) []) at

    same_type : (n : ℕ) → option_map outline_seen (slice_get x.classes.items n) ≡ option_map (outline_of size ps f) (slice_get p.types n)
    same_type n = sym (slice_get-map outline_seen x.classes.items n) ∙ ap (λ os. slice_get os n) outlines ∙ slice_get-map (outline_of size ps f) p.types n

    same_field : (n : ℕ) → option_map (field_seen f n) (slice_get x.fields.items n) ≡ option_map (own_field size ps f n) (slice_get p.fields n)
    same_field n = sym (from_first (field_seen f) n x.fields.items) ∙ ap (λ zs. slice_get zs n) (own_fields files t table f x p here at) ∙ from_first (own_field size ps f) n p.fields

    same_method : (n : ℕ) → option_map (method_seen f n) (slice_get x.methods.items n) ≡ option_map (own_method size ps f n) (slice_get p.methods n)
    same_method n = sym (from_first (method_seen f) n x.methods.items) ∙ ap (λ zs. slice_get zs n) (own_methods files t table f x p here at) ∙ from_first (own_method size ps f) n p.methods

    pub type_in_table : (n : ℕ) (y : TypeRow) → slice_get p.types n ≡ Some y → (c : ClassRow) × ((slice_get x.classes.items n ≡ Some c) × (outline_seen c ≡ outline_of size ps f y))
    type_in_table n y e = same_there (outline_of size ps f) outline_seen (slice_get p.types n) (slice_get x.classes.items n) y (sym (same_type n)) e

    pub type_in_file : (n : ℕ) (c : ClassRow) → slice_get x.classes.items n ≡ Some c → (y : TypeRow) × ((slice_get p.types n ≡ Some y) × (outline_of size ps f y ≡ outline_seen c))
    type_in_file n c e = same_there outline_seen (outline_of size ps f) (slice_get x.classes.items n) (slice_get p.types n) c (same_type n) e

    pub field_in_table : (n : ℕ) (y : rows.FieldRow) → slice_get p.fields n ≡ Some y → (z : FieldRow) × ((slice_get x.fields.items n ≡ Some z) × (field_seen f n z ≡ own_field size ps f n y))
    field_in_table n y e = same_there (own_field size ps f n) (field_seen f n) (slice_get p.fields n) (slice_get x.fields.items n) y (sym (same_field n)) e

    pub field_in_file : (n : ℕ) (z : FieldRow) → slice_get x.fields.items n ≡ Some z → (y : rows.FieldRow) × ((slice_get p.fields n ≡ Some y) × (own_field size ps f n y ≡ field_seen f n z))
    field_in_file n z e = same_there (field_seen f n) (own_field size ps f n) (slice_get x.fields.items n) (slice_get p.fields n) z (same_field n) e

    pub method_in_table : (n : ℕ) (y : rows.MethodRow) → slice_get p.methods n ≡ Some y → (z : MethodRow) × ((slice_get x.methods.items n ≡ Some z) × (method_seen f n z ≡ own_method size ps f n y))
    method_in_table n y e = same_there (own_method size ps f n) (method_seen f n) (slice_get p.methods n) (slice_get x.methods.items n) y (sym (same_method n)) e

    pub method_in_file : (n : ℕ) (z : MethodRow) → slice_get x.methods.items n ≡ Some z → (y : rows.MethodRow) × ((slice_get p.methods n ≡ Some y) × (own_method size ps f n y ≡ method_seen f n z))
    method_in_file n z e = same_there (method_seen f n) (own_method size ps f n) (slice_get x.methods.items n) (slice_get p.methods n) z (same_method n) e
