-- The rows of classes and of their members, in a world.
use Rattle.std.proofs.Common.{◌≡◌, ℕ, zero, suc, ◌+◌, ◌<◌, Bool, true, List, [], ◌∷◌, take, drop, Option, Some, None, refl, sym, ap, ◌∙◌, subst, arith}
use Rattle.std.specs.Prelude.{if◌then◌else◌, ◌&&◌, nat_lt, slice_get, unwrap_or}
use Rattle.std.specs.List.{list_all, filter_map}
use Rattle.std.specs.Option.{option_map}
use Rattle.std.proofs.lemmas.Bool.{and_parts, lt-ltb, le-leb}
use Rattle.file_tables.specs.Metadata.{rows_of}
use Rattle.file_tables.specs.File.{FilePart}
use Rattle.machine.specs.Data.{Id}
use Rattle.machine.specs.Throw.{on_some}
use Rattle.machine.specs.Program.{Body}
use Rattle.classes.specs.Classes.{Class, Classes, OwnField, OwnMethod}
use Rattle.assemblies.specs.Rows.{TypeRow, FieldRow, MethodRow, Assembly}
use Rattle.assemblies.specs.Binding.{id_at, numbered, range, holds, own_field, own_method}
use Rattle.assemblies.proofs.Numbered.{get_numbered}
use Rattle.assemblies.proofs.Belong.{some_map}
use Rattle.world_rows.specs.Tokens.{type_defs, fields, methods}
use Rattle.world_rows.specs.Rows as rows
use Rattle.world_rows.specs.Rows.{type_row}
use Rattle.world_rows.specs.Kinds.{kind_of, data_of}
use Rattle.world_rows.specs.Natives.{body_of_native}
use Rattle.world_rows.specs.World.{size_of, assembly_with, rows_alone, assemblies_of, ecma_sources}
use Rattle.world_rows.proofs.Read.{ClassRow, class_row}
use Rattle.verdict_rules.specs.World.{World, world_of, field_row, method_row}
use Rattle.verdict_rules.specs.Members.{if_lists, field_owners}

get_take : {A : Type 0} (count : ℕ) (xs : List A) (i : ℕ) (x : A) → slice_get (take count xs) i ≡ Some x → (i < count) × (slice_get xs i ≡ Some x)
get_take zero xs i x e = absurd (cc e)
get_take (suc count) [] i x e = absurd (cc e)
get_take (suc count) (y ∷ ys) zero x e = (omega arith, e)
get_take (suc count) (y ∷ ys) (suc i) x e = let r = get_take count ys i x e in (let h = r.0 in omega (arith, h), r.1)

get_drop : {A : Type 0} (first : ℕ) (xs : List A) (i : ℕ) → slice_get (drop first xs) i ≡ slice_get xs (first + i)
get_drop zero xs i = let same : i ≡ 0 + i = omega arith in ap (slice_get xs) same
get_drop (suc first) [] i = refl
get_drop (suc first) (y ∷ ys) i = let same : suc first + i ≡ suc (first + i) = omega arith in get_drop first ys i ∙ sym (ap (slice_get (y ∷ ys)) same)

pub get_behind : {A : Type 0} (first : ℕ) (xs : List A) (i : ℕ) (x : A) → slice_get (drop first xs) i ≡ Some x → slice_get xs (first + i) ≡ Some x
get_behind first xs i x e = sym (get_drop first xs i) ∙ e

-- the item of a range
pub get_range : {A : Type 0} (first count : ℕ) (xs : List A) (i : ℕ) (x : A) → slice_get (range first count xs) i ≡ Some x → (i < count) × (slice_get xs (first + i) ≡ Some x)
get_range first count xs i x e = let r = get_take count (drop first xs) i x e in (r.0, get_behind first xs i x r.1)

-- numbered from 0
pub from_zero : {A B : Type 0} (make : ℕ → A → B) (i : ℕ) (xs : List A) → slice_get (numbered make 0 xs) i ≡ option_map (make i) (slice_get xs i)
from_zero make i xs = let same : 0 + i ≡ i = omega arith in get_numbered make 0 i xs ∙ ap (λ n. option_map (make n) (slice_get xs i)) same

held : (first count i : ℕ) → i < count → holds first count (first + i) ≡ true
held first count i below = ap (λ b. b && nat_lt (first + i) (first + count)) (le-leb first (first + i) (omega arith)) ∙ lt-ltb (first + i) (first + count) (omega (arith, below))

among : (test : Id → Bool) (os : List (Option Id)) (j : ℕ) (c : Id) → slice_get os j ≡ Some (Some c) → list_all test (filter_map (λ o. o) os) ≡ true → test c ≡ true
among test [] j c e h = absurd (cc e)
among test (None ∷ os) zero c e h = absurd (cc e)
among test (Some d ∷ os) zero c e h = let same : d ≡ c = cc e in subst (λ z. test z ≡ true) same (and_parts (test d) (list_all test (filter_map (λ o. o) os)) h).0
among test (None ∷ os) (suc j) c e h = among test os j c e h
among test (Some d ∷ os) (suc j) c e h = among test os j c e (and_parts (test d) (list_all test (filter_map (λ o. o) os)) h).1

module _ (files : List FilePart) where
  abbrev w : World
  w = world_of files

  abbrev size : ℕ
  size = size_of (rows_alone files)

  abbrev ps : List Assembly
  ps = assemblies_of files

  abbrev cs : Classes
  cs = (ecma_sources files).classes

  abbrev pub whole : ℕ → FilePart → Assembly
  whole n x = assembly_with size files (rows_alone files) n x

  pub file_there : (f : ℕ) → slice_get (assemblies_of files) f ≡ option_map (whole f) (slice_get files f)
  unfolding assemblies_of
  file_there f = from_zero (assembly_with size files (rows_alone files)) f files

  pub file_at : (f : ℕ) (x : FilePart) → slice_get files f ≡ Some x → slice_get (assemblies_of files) f ≡ Some (whole f x)
  file_at f x e = file_there f ∙ ap (option_map (whole f)) e

  abbrev filled : ℕ → ℕ → List ℕ
  filled f n = unwrap_or (data_of size files (rows_alone files) (id_at f n)) []

  abbrev pub native : ℕ → ℕ → Body
  native f n = body_of_native size (rows_alone files) (id_at f n)

  -- the row of a field that a class lists
  pub record FieldAt (c : Id) (f : OwnField) : Type 0 where
    pub file : FilePart
    pub row : List ℕ
    pub number : ℕ
    pub is_file : slice_get files c.file ≡ Some file
    pub is_row : slice_get (rows_of file.metadata fields) number ≡ Some row
    pub own : field_row w c.file number ≡ Some f
    pub owned : (test : Id → Bool) → list_all test (field_owners w c.file number) ≡ true → test c ≡ true

  pub field_at : (c : Id) (k : Class) (i : ℕ) (f : OwnField) → cs.class c ≡ Some k → slice_get k.fields i ≡ Some f → FieldAt c f
  field_at c k i f there e =
      record {
        file = r.file;
        row = b.0;
        number = t.first_field + i;
        is_file = r.is_file;
        is_row = b.1;
        own =
            ap (λ o. on_some o (λ (p : Assembly). option_map (own_field size ps c.file (t.first_field + i)) (slice_get p.fields (t.first_field + i)))) (file_at c.file r.file r.is_file)
            ∙ (ap (option_map (own_field size ps c.file (t.first_field + i))) g.1 ∙ ap Some a.2);
        owned = λ test h. among test (numbered (if_lists c.file (t.first_field + i)) 0 (whole c.file r.file).types) c.row c listed (sym (ap (list_all test) owners) ∙ h);
      }
    where
      r : ClassRow files c k
      r = class_row files c k there

      t : TypeRow
      t = type_row r.file.metadata (λ n. kind_of size (rows_alone files) (id_at c.file n)) c.row r.row

      a : (x : FieldRow) × (slice_get (range t.first_field t.field_count (whole c.file r.file).fields) i ≡ Some x) × (own_field size ps c.file (t.first_field + i) x ≡ f)
      a =
          some_map (own_field size ps c.file (t.first_field + i)) (slice_get (range t.first_field t.field_count (whole c.file r.file).fields) i) f
          (sym (get_numbered (own_field size ps c.file) t.first_field i (range t.first_field t.field_count (whole c.file r.file).fields)) ∙ (sym (ap (λ (z : Class). slice_get z.fields i) r.is) ∙ e))

      g : (i < t.field_count) × (slice_get (whole c.file r.file).fields (t.first_field + i) ≡ Some a.0)
      g = get_range t.first_field t.field_count (whole c.file r.file).fields i a.0 a.1

      b : (x : List ℕ) × (slice_get (rows_of r.file.metadata fields) (t.first_field + i) ≡ Some x) × (rows.field_row r.file.metadata (filled c.file) (t.first_field + i) x ≡ a.0)
      b =
          some_map (rows.field_row r.file.metadata (filled c.file) (t.first_field + i)) (slice_get (rows_of r.file.metadata fields) (t.first_field + i)) a.0
          (sym (from_zero (rows.field_row r.file.metadata (filled c.file)) (t.first_field + i) (rows_of r.file.metadata fields)) ∙ g.1)

      type_there : slice_get (whole c.file r.file).types c.row ≡ Some t
      type_there = from_zero (type_row r.file.metadata (λ n. kind_of size (rows_alone files) (id_at c.file n))) c.row (rows_of r.file.metadata type_defs) ∙ ap (option_map (type_row r.file.metadata (λ n. kind_of size (rows_alone files) (id_at c.file n)) c.row)) r.is_row

      listed : slice_get (numbered (if_lists c.file (t.first_field + i)) 0 (whole c.file r.file).types) c.row ≡ Some (Some c)
      listed =
          from_zero (if_lists c.file (t.first_field + i)) c.row (whole c.file r.file).types
          ∙ (ap (option_map (if_lists c.file (t.first_field + i) c.row)) type_there
          ∙ ap (λ (b : Bool). Some (if b then Some (id_at c.file c.row) else None)) (held t.first_field t.field_count i g.0))

      owners : field_owners w c.file (t.first_field + i) ≡ filter_map (λ o. o) (numbered (if_lists c.file (t.first_field + i)) 0 (whole c.file r.file).types)
      owners = ap (λ o. unwrap_or (option_map (λ (p : Assembly). filter_map (λ o. o) (numbered (if_lists c.file (t.first_field + i)) 0 p.types)) o) []) (file_at c.file r.file r.is_file)

  -- the row of a method that a class lists
  pub record MethodAt (c : Id) (m : OwnMethod) : Type 0 where
    pub file : FilePart
    pub row : List ℕ
    pub number : ℕ
    pub is_file : slice_get files c.file ≡ Some file
    pub is_row : slice_get (rows_of file.metadata methods) number ≡ Some row
    pub own : method_row w c.file number ≡ Some m
    pub is : own_method size ps c.file number (rows.method_row file (native c.file) number row) ≡ m

  pub method_at : (c : Id) (k : Class) (i : ℕ) (m : OwnMethod) → cs.class c ≡ Some k → slice_get k.methods i ≡ Some m → MethodAt c m
  method_at c k i m there e =
      record {
        file = r.file;
        row = b.0;
        number = t.first_method + i;
        is_file = r.is_file;
        is_row = b.1;
        own =
            ap (λ o. on_some o (λ (p : Assembly). option_map (own_method size ps c.file (t.first_method + i)) (slice_get p.methods (t.first_method + i)))) (file_at c.file r.file r.is_file)
            ∙ (ap (option_map (own_method size ps c.file (t.first_method + i))) g.1 ∙ ap Some a.2);
        is = ap (own_method size ps c.file (t.first_method + i)) b.2 ∙ a.2;
      }
    where
      r : ClassRow files c k
      r = class_row files c k there

      t : TypeRow
      t = type_row r.file.metadata (λ n. kind_of size (rows_alone files) (id_at c.file n)) c.row r.row

      a : (x : MethodRow) × (slice_get (range t.first_method t.method_count (whole c.file r.file).methods) i ≡ Some x) × (own_method size ps c.file (t.first_method + i) x ≡ m)
      a =
          some_map (own_method size ps c.file (t.first_method + i)) (slice_get (range t.first_method t.method_count (whole c.file r.file).methods) i) m
          (sym (get_numbered (own_method size ps c.file) t.first_method i (range t.first_method t.method_count (whole c.file r.file).methods)) ∙ (sym (ap (λ (z : Class). slice_get z.methods i) r.is) ∙ e))

      g : (i < t.method_count) × (slice_get (whole c.file r.file).methods (t.first_method + i) ≡ Some a.0)
      g = get_range t.first_method t.method_count (whole c.file r.file).methods i a.0 a.1

      b : (x : List ℕ) × (slice_get (rows_of r.file.metadata methods) (t.first_method + i) ≡ Some x) × (rows.method_row r.file (native c.file) (t.first_method + i) x ≡ a.0)
      b =
          some_map (rows.method_row r.file (native c.file) (t.first_method + i)) (slice_get (rows_of r.file.metadata methods) (t.first_method + i)) a.0
          (sym (from_zero (rows.method_row r.file (native c.file)) (t.first_method + i) (rows_of r.file.metadata methods)) ∙ g.1)
