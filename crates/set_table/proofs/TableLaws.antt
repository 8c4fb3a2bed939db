-- A table whose parts say what a set's assemblies do tells the set's classes.
use Rattle.std.proofs.Common.{◌≡◌, ℕ, zero, suc, ◌+◌, List, [], ◌∷◌, ◌++◌, map, length, take, drop, Option, Some, None, refl, sym, ap, ◌∙◌, ◌⊎◌, inl, inr, subst, arith}
use Rattle.std.specs.Prelude.{codes, slice_get, unwrap_or}
use Rattle.std.specs.Option.{option_map}
use Rattle.std.specs.List.{position}
use Rattle.std.proofs.Math.Path.{fun_ext}
use Rattle.std.proofs.lemmas.Option.{slice_get-map, slice_get_within}
use Rattle.machine.specs.Data.{Id}
use Rattle.machine.specs.Texts.{same_text}
use Rattle.machine.specs.Throw.{on_some}
use Rattle.classes.specs.Classes.{OwnField, OwnMethod, Class}
use Rattle.assemblies.specs.Rows.{Assembly, TypeRow}
use Rattle.assemblies.specs.Binding.{id_at, numbered, range, own_field, own_method, class_with, class_at, holds, first_number, library, classes_of}
use Rattle.assemblies.specs.Binding as binding
use Rattle.assemblies.proofs.Numbered.{take_numbered, drop_numbered}
use Rattle.world_rows.specs.World.{size_of}
use Rattle.scope_walk.proofs.Lists.{none_past}
use Rattle.class_table.specs.declared.rows.ClassRow.{ClassRow}
use Rattle.class_table.specs.declared.rows.FileRows.{FileRows}
use Rattle.class_table.specs.declared.rows.ClassTable.{ClassTable}
use Rattle.class_table.specs.Seen.{field_seen, method_seen, row_seen, class_row, field_owner, method_owner, library_rows, classes_seen}
use Rattle.class_table.specs.Outlines.{Outline, outline_seen, outline_of}
use Rattle.set_table.specs.Whole.{AreRows, IsSetFile, AreFiles, IsSetTable}

from_none : (n : ℕ) → 0 + n ≡ n
from_none n = omega arith

range_numbered : {A B : Type 0} (make : ℕ → A → B) (first count : ℕ) (xs : List A) → numbered make first (range first count xs) ≡ range first count (numbered make 0 xs)
range_numbered make first count xs =
    sym
    (ap (take count) (drop_numbered make first 0 xs)
    ∙ take_numbered make count (0 + first) (drop first xs)
    ∙ ap (λ n. numbered make n (take count (drop first xs))) (from_none first))

-- a list of ids has as many as the rows
ids_map : {A B C : Type 0} (id : ℕ → C) (g : A → B) (n : ℕ) (xs : List A) → numbered (λ i x. id i) n xs ≡ numbered (λ i x. id i) n (map g xs)
ids_map id g n [] = refl
ids_map id g n (x ∷ xs) = ap (λ ys. id n ∷ ys) (ids_map id g (suc n) xs)

-- what is made of an element by way of something else
through : {A B C : Type 0} (f : A → C) (g : A → B) (h : B → C) → ((x : A) → f x ≡ h (g x)) → (xs : List A) (n : ℕ) → option_map f (slice_get xs n) ≡ option_map h (slice_get (map g xs) n)
through {A} f g h same xs n = go (slice_get xs n) ∙ sym (ap (option_map h) (slice_get-map g xs n))
  where
    go : (o : Option A) → option_map f o ≡ option_map h (option_map g o)
    go None = refl
    go (Some x) = ap Some (same x)

-- a type with its members, which are among those of its file
full : ℕ → List OwnField → List OwnMethod → Outline → Class
full file fs ms o =
    record {
      namespace = o.namespace;
      name = o.name;
      enclosing = option_map (id_at file) o.enclosing;
      superclass = o.superclass;
      interfaces = o.interfaces;
      kind = o.kind;
      is_interface = o.is_interface;
      is_abstract = o.is_abstract;
      is_lazy = o.is_lazy;
      fields = range o.first_field o.field_count fs;
      methods = range o.first_method o.method_count ms;
    }

abbrev with_members : ℕ → Outline → List OwnField → List OwnMethod → Class
with_members file o fs ms =
    record {
      namespace = o.namespace;
      name = o.name;
      enclosing = option_map (id_at file) o.enclosing;
      superclass = o.superclass;
      interfaces = o.interfaces;
      kind = o.kind;
      is_interface = o.is_interface;
      is_abstract = o.is_abstract;
      is_lazy = o.is_lazy;
      fields = fs;
      methods = ms;
    }

row_full : (file : ℕ) (f : FileRows) (c : ClassRow) → row_seen file f c ≡ full file (numbered (field_seen file) 0 f.fields.items) (numbered (method_seen file) 0 f.methods.items) (outline_seen c)
unfolding full
row_full file f c =
    ap (λ fs. with_members file (outline_seen c) fs (numbered (method_seen file) c.first_method (range c.first_method c.method_count f.methods.items))) (range_numbered (field_seen file) c.first_field c.field_count f.fields.items)
    ∙ ap (with_members file (outline_seen c) (range c.first_field c.field_count (numbered (field_seen file) 0 f.fields.items))) (range_numbered (method_seen file) c.first_method c.method_count f.methods.items)

class_full : (k : ℕ) (ps : List Assembly) (file : ℕ) (p : Assembly) (t : TypeRow) → class_with k ps file p t ≡ full file (numbered (own_field k ps file) 0 p.fields) (numbered (own_method k ps file) 0 p.methods) (outline_of k ps file t)
unfolding full
class_full k ps file p t =
    ap (λ fs. with_members file (outline_of k ps file t) fs (numbered (own_method k ps file) t.first_method (range t.first_method t.method_count p.methods))) (range_numbered (own_field k ps file) t.first_field t.field_count p.fields)
    ∙ ap (with_members file (outline_of k ps file t) (range t.first_field t.field_count (numbered (own_field k ps file) 0 p.fields))) (range_numbered (own_method k ps file) t.first_method t.method_count p.methods)

-- files read one after the other
last_or : {A : Type 0} (xs : List A) (x : A) (n : ℕ) (y : A) → slice_get (xs ++ x ∷ []) n ≡ Some y → (slice_get xs n ≡ Some y) ⊎ ((n ≡ length xs) × (x ≡ y))
last_or [] x zero y e = inr (refl, cc e)
last_or [] x (suc n) y e = cc e
last_or (z ∷ xs) x zero y e = inl e
last_or (z ∷ xs) x (suc n) y e = up (last_or xs x n y e)
  where
    up : (slice_get xs n ≡ Some y) ⊎ ((n ≡ length xs) × (x ≡ y)) → (slice_get xs n ≡ Some y) ⊎ ((suc n ≡ suc (length xs)) × (x ≡ y))
    up (inl h) = inl h
    up (inr h) = inr (ap suc h.0, h.1)

pub files_more : (ps : List Assembly) (all : List FileRows) (f : FileRows) → AreFiles ps all → IsSetFile ps (length all) f → AreFiles ps (all ++ f ∷ [])
files_more ps all f each last n g e = by (last_or all f n g e)
  where
    by : (slice_get all n ≡ Some g) ⊎ ((n ≡ length all) × (f ≡ g)) → IsSetFile ps n g
    by (inl h) = each n g h
    by (inr h) = subst (λ m. IsSetFile ps m g) (sym h.0) (subst (IsSetFile ps (length all)) h.1 last)

module _ (ps : List Assembly) (t : ClassTable) (table : IsSetTable ps t) where
  abbrev k : ℕ
  k = size_of ps

  module _ (file : ℕ) (f : FileRows) (p : Assembly) (here : slice_get t.files.items file ≡ Some f) (there : slice_get ps file ≡ Some p) where
    are : AreRows ps file p f
    are = table.files file f here p there

    class_is : (n : ℕ) → option_map (row_seen file f) (slice_get f.classes.items n) ≡ option_map (class_with k ps file p) (slice_get p.types n)
    class_is n =
        through (row_seen file f) outline_seen (full file (numbered (field_seen file) 0 f.fields.items) (numbered (method_seen file) 0 f.methods.items)) (row_full file f) f.classes.items n
        ∙ ap (λ os. option_map (full file (numbered (field_seen file) 0 f.fields.items) (numbered (method_seen file) 0 f.methods.items)) (slice_get os n)) are.classes
        ∙ ap (λ fs. option_map (full file fs (numbered (method_seen file) 0 f.methods.items)) (slice_get (map (outline_of k ps file) p.types) n)) are.fields
        ∙ ap (λ ms. option_map (full file (numbered (own_field k ps file) 0 p.fields) ms) (slice_get (map (outline_of k ps file) p.types) n)) are.methods
        ∙ sym (through (class_with k ps file p) (outline_of k ps file) (full file (numbered (own_field k ps file) 0 p.fields) (numbered (own_method k ps file) 0 p.methods)) (class_full k ps file p) p.types n)

    ids : numbered (λ n c. id_at file n) 0 f.classes.items ≡ numbered (λ n c. id_at file n) 0 p.types
    ids = ids_map (id_at file) outline_seen 0 f.classes.items ∙ ap (numbered (λ n c. id_at file n) 0) are.classes ∙ sym (ids_map (id_at file) (outline_of k ps file) 0 p.types)

  -- by assemblies that are there and those that aren't
  by_file : {A : Type 0} (F : FileRows → Option A) (P : Assembly → Option A) (file : ℕ) → ((f : FileRows) (p : Assembly) → slice_get t.files.items file ≡ Some f → slice_get ps file ≡ Some p → F f ≡ P p) → on_some (slice_get t.files.items file) F ≡ on_some (slice_get ps file) P
  by_file F P file same = go (slice_get t.files.items file) refl (slice_get ps file) refl
    where
      count : length t.files.items ≡ length ps
      count = table.count

      go : (a : Option FileRows) → slice_get t.files.items file ≡ a → (b : Option Assembly) → slice_get ps file ≡ b → on_some a F ≡ on_some b P
      go None e None g = refl
      go (Some f) e (Some p) g = same f p e g
      go (Some f) e None g = let within = slice_get_within t.files.items file f e in let few = none_past ps file g in absurd (omega arith)
      go None e (Some p) g = let within = slice_get_within ps file p g in let few = none_past t.files.items file e in absurd (omega arith)

  same_class : (c : Id) → class_row t c ≡ class_at k ps c
  same_class c = by_file (λ f. option_map (row_seen c.file f) (slice_get f.classes.items c.row)) (λ p. option_map (class_with k ps c.file p) (slice_get p.types c.row)) c.file (λ f p here there. class_is c.file f p here there c.row)

  same_field_owner : (c : Id) → field_owner t c ≡ binding.field_owner ps c
  same_field_owner c =
      by_file (λ f. on_some (slice_get f.fields.items c.row) (λ x. option_map (id_at c.file) x.owner)) (λ p. binding.field_owner ps c) c.file (λ f p here there. (table.files c.file f here p there).field_owners c.row)
      ∙ whole (slice_get ps c.file) refl
    where
      whole : (o : Option Assembly) → slice_get ps c.file ≡ o → on_some o (λ p. binding.field_owner ps c) ≡ binding.field_owner ps c
      whole None e = sym (ap (λ o. on_some o (λ (q : Assembly). on_some (slice_get q.fields c.row) (λ x. option_map (id_at c.file) (position (λ (r : TypeRow). holds r.first_field r.field_count c.row) q.types)))) e)
      whole (Some p) e = refl

  same_method_owner : (c : Id) → method_owner t c ≡ binding.method_owner ps c
  same_method_owner c =
      by_file (λ f. on_some (slice_get f.methods.items c.row) (λ x. option_map (id_at c.file) x.owner)) (λ p. binding.method_owner ps c) c.file (λ f p here there. (table.files c.file f here p there).method_owners c.row)
      ∙ whole (slice_get ps c.file) refl
    where
      whole : (o : Option Assembly) → slice_get ps c.file ≡ o → on_some o (λ p. binding.method_owner ps c) ≡ binding.method_owner ps c
      whole None e = sym (ap (λ o. on_some o (λ (q : Assembly). on_some (slice_get q.methods c.row) (λ x. option_map (id_at c.file) (position (λ (r : TypeRow). holds r.first_method r.method_count c.row) q.types)))) e)
      whole (Some p) e = refl

  same_library : library_rows t ≡ library ps
  same_library =
      ap (λ o. unwrap_or (on_some o (λ file. option_map (λ (f : FileRows). numbered (λ n c. id_at file n) 0 f.classes.items) (slice_get t.files.items file))) []) table.library
      ∙ go (first_number (λ (p : Assembly). same_text p.name (codes "mscorlib")) ps)
    where
      as_some : {A B : Type 0} (f : A → B) (o : Option A) → option_map f o ≡ on_some o (λ x. Some (f x))
      as_some f None = refl
      as_some f (Some x) = refl

      at_file : (file : ℕ) → option_map (λ (f : FileRows). numbered (λ n c. id_at file n) 0 f.classes.items) (slice_get t.files.items file) ≡ option_map (λ (p : Assembly). numbered (λ n c. id_at file n) 0 p.types) (slice_get ps file)
      at_file file =
          as_some (λ (f : FileRows). numbered (λ n c. id_at file n) 0 f.classes.items) (slice_get t.files.items file)
          ∙ by_file (λ f. Some (numbered (λ n c. id_at file n) 0 f.classes.items)) (λ p. Some (numbered (λ n c. id_at file n) 0 p.types)) file (λ f p here there. ap Some (ids file f p here there))
          ∙ sym (as_some (λ (p : Assembly). numbered (λ n c. id_at file n) 0 p.types) (slice_get ps file))

      go : (o : Option ℕ) → unwrap_or (on_some o (λ file. option_map (λ (f : FileRows). numbered (λ n c. id_at file n) 0 f.classes.items) (slice_get t.files.items file))) [] ≡ unwrap_or (on_some o (λ file. option_map (λ (p : Assembly). numbered (λ n c. id_at file n) 0 p.types) (slice_get ps file))) []
      go None = refl
      go (Some file) = ap (λ o. unwrap_or o []) (at_file file)

  pub table_law : classes_seen t ≡ classes_of (size_of ps) ps
  table_law =
      ap (λ s. record { size = s; class = class_row t; method_owner = method_owner t; field_owner = field_owner t; library = library_rows t }) table.size
      ∙ ap (λ c. record { size = k; class = c; method_owner = method_owner t; field_owner = field_owner t; library = library_rows t }) (fun_ext same_class)
      ∙ ap (λ o. record { size = k; class = class_at k ps; method_owner = o; field_owner = field_owner t; library = library_rows t }) (fun_ext same_method_owner)
      ∙ ap (λ o. record { size = k; class = class_at k ps; method_owner = binding.method_owner ps; field_owner = o; library = library_rows t }) (fun_ext same_field_owner)
      ∙ ap (λ l. record { size = k; class = class_at k ps; method_owner = binding.method_owner ps; field_owner = binding.field_owner ps; library = l }) same_library
