-- What is named is a row that its file has.
use Rattle.std.proofs.Common.{◌≡◌, ℕ, suc, ◌+◌, ◌<◌, Bool, true, false, cond, List, [], ◌∷◌, length, drop, Option, Some, None, refl, sym, ap, ◌∙◌, subst, arith, length-drop}
use Rattle.std.specs.Prelude.{nat_lt, slice_get, unwrap_or, if◌then◌else◌}
use Rattle.std.specs.List.{find, position}
use Rattle.std.specs.Option.{option_map}
use Rattle.std.proofs.lemmas.Bool.{lt-ltb}
use Rattle.std.proofs.lemmas.List.{length-take}
use Rattle.std.proofs.lemmas.Option.{slice_get_within}
use Rattle.file_tables.specs.Metadata.{rows_of, row_count}
use Rattle.file_tables.specs.File.{FilePart}
use Rattle.machine.specs.Data.{Id}
use Rattle.machine.specs.Throw.{on_some}
use Rattle.classes.specs.Classes.{SigType, Signature, OwnField, OwnMethod, Class}
use Rattle.classes.specs.Queries.{is_named, is_field_named, methods_of, fields_of, or_else, first_some, chain, find_method, find_field}
use Rattle.assemblies.specs.Rows.{MemberToken, Own, Reference, TypeRow, FieldRow, MethodRow, FieldRefRow, MethodRefRow, Assembly}
use Rattle.assemblies.specs.Binding.{id_at, numbered, range, own_field, own_method, class_with, holds, classes_of, field_owner, method_owner, resolve, expanded, expanded_signature, resolve_field, resolve_method}
use Rattle.assemblies.proofs.Numbered.{get_numbered}
use Rattle.assemblies.proofs.Belong.{some_map}
use Rattle.world_rows.specs.Tokens.{fields, methods, field_token, method_token}
use Rattle.world_rows.specs.World.{rows_alone, assembly_with, assemblies_of, size_of}
use Rattle.member_reading.proofs.TypeLaws.{whole_at}
use Rattle.member_references.specs.Resolved.{field_of, method_of, field_id, method_id, field_checked, method_checked}

-- ---- lists

found_at : {A : Type 0} (test : A → Bool) (xs : List A) (y : A) → find test xs ≡ Some y → (i : ℕ) × (slice_get xs i ≡ Some y)
found_at test [] y e = absurd (cc e)
found_at {A} test (x ∷ xs) y e = go (test x) e (found_at test xs y)
  where
    go : (b : Bool) → cond b (Some x) (find test xs) ≡ Some y → (find test xs ≡ Some y → (i : ℕ) × (slice_get xs i ≡ Some y)) → (i : ℕ) × (slice_get (x ∷ xs) i ≡ Some y)
    go true g rest = (0, g)
    go false g rest = let w = rest g in (suc w.0, w.1)

-- the first that is found is one of those that may be
first_is : {A B : Type 0} (P : B → Type 0) (look : A → Option B) → ((x : A) (y : B) → look x ≡ Some y → P y) → (xs : List A) (y : B) → first_some look xs ≡ Some y → P y
first_is P look each [] y e = absurd (cc e)
first_is {A} {B} P look each (x ∷ xs) y e = go (look x) refl (first_is P look each xs y) e
  where
    go : (o : Option B) → look x ≡ o → (first_some look xs ≡ Some y → P y) → or_else o (first_some look xs) ≡ Some y → P y
    go None g rest h = rest h
    go (Some z) g rest h = each x y (g ∙ h)

-- a member of a class is a row of its file
row_within : {A B : Type 0} (make : ℕ → A → B) (first count : ℕ) (xs : List A) (i : ℕ) (y : B) → slice_get (numbered make first (range first count xs)) i ≡ Some y → (n : ℕ) × (x : A) × (n < length xs) × (make n x ≡ y)
row_within make first count xs i y e =
    let w = some_map (make (first + i)) (slice_get (range first count xs) i) y (sym (get_numbered make first i (range first count xs)) ∙ e) in
    let below : i < length (range first count xs) = slice_get_within (range first count xs) i w.0 w.1 in
    (first + i, w.0, omega (arith, below, length-take count (drop first xs), length-drop first xs), w.2)

row_of_number : {A B : Type 0} (make : ℕ → A → B) (xs : List A) (n : ℕ) (y : B) → slice_get (numbered make 0 xs) n ≡ Some y → n < length xs
row_of_number make xs n y e =
    let w = some_map (make (0 + n)) (slice_get xs n) y (sym (get_numbered make 0 n xs) ∙ e) in
    slice_get_within xs n w.0 w.1

length_numbered : {A B : Type 0} (make : ℕ → A → B) (n : ℕ) (xs : List A) → length (numbered make n xs) ≡ length xs
length_numbered make n [] = refl
length_numbered make n (x ∷ xs) = ap suc (length_numbered make (suc n) xs)

module _ (files : List FilePart) where
  abbrev k : ℕ
  k = size_of (rows_alone files)

  abbrev ps : List Assembly
  ps = assemblies_of files

  abbrev whole : ℕ → FilePart → Assembly
  whole n f = assembly_with k files (rows_alone files) n f

  assembly_there : (n : ℕ) (p : Assembly) → slice_get ps n ≡ Some p → (f : FilePart) × (slice_get files n ≡ Some f) × (whole n f ≡ p)
  assembly_there n p e = some_map (whole n) (slice_get files n) p (sym (whole_at files n) ∙ e)

  -- ---- fields

  abbrev HasField : Id → Type 0
  HasField c = field_checked files c ≡ Some (field_id c)

  field_there : (c : Id) (p : Assembly) → slice_get ps c.file ≡ Some p → c.row < length p.fields → HasField c
  field_there c p e h =
      let w = assembly_there c.file p e in
      let count : length p.fields ≡ row_count w.0.metadata fields = ap (λ (q : Assembly). length q.fields) (sym w.2) ∙ length_numbered _ 0 (rows_of w.0.metadata fields) in
      let within : c.row < row_count w.0.metadata fields = omega (arith, h, count) in
      ap (λ o. on_some o (λ (x : FilePart). if nat_lt c.row (row_count x.metadata fields) then Some (field_id c) else None)) w.1
      ∙ ap (λ (b : Bool). if b then Some (field_id c) else None) (lt-ltb c.row (row_count w.0.metadata fields) within)

  class_field : (d : Id) (i : ℕ) (x : OwnField) → slice_get (fields_of (classes_of k ps) d) i ≡ Some x → HasField x.id
  class_field d i x e = by (slice_get ps d.file) refl e
    where
      of_type : (p : Assembly) → slice_get ps d.file ≡ Some p → (o : Option TypeRow) → slice_get (unwrap_or (option_map (λ (z : Class). z.fields) (option_map (class_with k ps d.file p) o)) []) i ≡ Some x → HasField x.id
      of_type p here None h = absurd (cc h)
      of_type p here (Some t) h =
          let w = row_within (own_field k ps d.file) t.first_field t.field_count p.fields i x h in
          subst (λ (z : OwnField). HasField z.id) w.3 (field_there (id_at d.file w.0) p here w.2)

      by : (o : Option Assembly) → slice_get ps d.file ≡ o → slice_get (unwrap_or (option_map (λ (z : Class). z.fields) (on_some o (λ p. option_map (class_with k ps d.file p) (slice_get p.types d.row)))) []) i ≡ Some x → HasField x.id
      by None here h = absurd (cc h)
      by (Some p) here h = of_type p here (slice_get p.types d.row) h

  found_field : (c : Id) (name : List ℕ) (s : Option SigType) (x : OwnField) → find_field (classes_of k ps) c name s ≡ Some x → HasField x.id
  found_field c name s x e =
      first_is (λ (z : OwnField). HasField z.id) (λ d. find (is_field_named name s) (fields_of (classes_of k ps) d))
      (λ d y g. let w = found_at (is_field_named name s) (fields_of (classes_of k ps) d) y g in class_field d w.0 y w.1)
      (chain (classes_of k ps) c) x e

  named_field : (file : ℕ) (token : MemberToken) (c : Id) → resolve_field k ps file token ≡ Some c → HasField c
  named_field file (Own n) c e =
      let owned = some_map (λ (owner : Id). id_at file n) (field_owner ps (id_at file n)) c e in
      subst HasField owned.2 (by (slice_get ps file) refl owned.0 owned.1)
    where
      of_row : (p : Assembly) → slice_get ps file ≡ Some p → (o : Option FieldRow) → slice_get p.fields n ≡ o → (owner : Id) → on_some o (λ x. option_map (id_at file) (position (λ (t : TypeRow). holds t.first_field t.field_count n) p.types)) ≡ Some owner → HasField (id_at file n)
      of_row p here None at owner h = absurd (cc h)
      of_row p here (Some x) at owner h = field_there (id_at file n) p here (slice_get_within p.fields n x at)

      by : (o : Option Assembly) → slice_get ps file ≡ o → (owner : Id) → on_some o (λ p. on_some (slice_get p.fields n) (λ x. option_map (id_at file) (position (λ (t : TypeRow). holds t.first_field t.field_count n) p.types))) ≡ Some owner → HasField (id_at file n)
      by None here owner h = absurd (cc h)
      by (Some p) here owner h = of_row p here (slice_get p.fields n) refl owner h
  named_field file (Reference n) c e = by_file (slice_get ps file) e
    where
      by_class : (name : List ℕ) (s : Option SigType) (o : Option Id) → on_some o (λ d. option_map (λ (x : OwnField). x.id) (find_field (classes_of k ps) d name s)) ≡ Some c → HasField c
      by_class name s None h = absurd (cc h)
      by_class name s (Some d) h = let w = some_map (λ (x : OwnField). x.id) (find_field (classes_of k ps) d name s) c h in subst HasField w.2 (found_field d name s w.0 w.1)

      by_row : (o : Option FieldRefRow) → on_some o (λ r. on_some (resolve k ps file r.parent) (λ d. option_map (λ (x : OwnField). x.id) (find_field (classes_of k ps) d r.name (expanded k ps file r.signature)))) ≡ Some c → HasField c
      by_row None h = absurd (cc h)
      by_row (Some r) h = by_class r.name (expanded k ps file r.signature) (resolve k ps file r.parent) h

      by_file : (o : Option Assembly) → on_some o (λ p. on_some (slice_get p.field_refs n) (λ r. on_some (resolve k ps file r.parent) (λ d. option_map (λ (x : OwnField). x.id) (find_field (classes_of k ps) d r.name (expanded k ps file r.signature))))) ≡ Some c → HasField c
      by_file None h = absurd (cc h)
      by_file (Some p) h = by_row (slice_get p.field_refs n) h

  pub field_is_there : (file table row : ℕ) → on_some (field_of files file table row) (field_checked files) ≡ option_map field_id (field_of files file table row)
  field_is_there file table row = by (slice_get files file)
    where
      by_token : (token : MemberToken) (o : Option Id) → resolve_field k ps file token ≡ o → on_some o (field_checked files) ≡ option_map field_id o
      by_token token None e = refl
      by_token token (Some c) e = named_field file token c e

      by : (o : Option FilePart) → on_some (on_some o (λ f. resolve_field k ps file (field_token f.metadata table row))) (field_checked files) ≡ option_map field_id (on_some o (λ f. resolve_field k ps file (field_token f.metadata table row)))
      by None = refl
      by (Some f) = by_token (field_token f.metadata table row) (resolve_field k ps file (field_token f.metadata table row)) refl

  -- ---- methods

  abbrev HasMethod : Id → Type 0
  HasMethod c = method_checked files c ≡ Some (method_id c)

  method_there : (c : Id) (p : Assembly) → slice_get ps c.file ≡ Some p → c.row < length p.methods → HasMethod c
  method_there c p e h =
      let w = assembly_there c.file p e in
      let count : length p.methods ≡ row_count w.0.metadata methods = ap (λ (q : Assembly). length q.methods) (sym w.2) ∙ length_numbered _ 0 (rows_of w.0.metadata methods) in
      let within : c.row < row_count w.0.metadata methods = omega (arith, h, count) in
      ap (λ o. on_some o (λ (x : FilePart). if nat_lt c.row (row_count x.metadata methods) then Some (method_id c) else None)) w.1
      ∙ ap (λ (b : Bool). if b then Some (method_id c) else None) (lt-ltb c.row (row_count w.0.metadata methods) within)

  class_method : (d : Id) (i : ℕ) (x : OwnMethod) → slice_get (methods_of (classes_of k ps) d) i ≡ Some x → HasMethod x.id
  class_method d i x e = by (slice_get ps d.file) refl e
    where
      of_type : (p : Assembly) → slice_get ps d.file ≡ Some p → (o : Option TypeRow) → slice_get (unwrap_or (option_map (λ (z : Class). z.methods) (option_map (class_with k ps d.file p) o)) []) i ≡ Some x → HasMethod x.id
      of_type p here None h = absurd (cc h)
      of_type p here (Some t) h =
          let w = row_within (own_method k ps d.file) t.first_method t.method_count p.methods i x h in
          subst (λ (z : OwnMethod). HasMethod z.id) w.3 (method_there (id_at d.file w.0) p here w.2)

      by : (o : Option Assembly) → slice_get ps d.file ≡ o → slice_get (unwrap_or (option_map (λ (z : Class). z.methods) (on_some o (λ p. option_map (class_with k ps d.file p) (slice_get p.types d.row)))) []) i ≡ Some x → HasMethod x.id
      by None here h = absurd (cc h)
      by (Some p) here h = of_type p here (slice_get p.types d.row) h

  found_method : (c : Id) (name : List ℕ) (s : Option Signature) (x : OwnMethod) → find_method (classes_of k ps) c name s ≡ Some x → HasMethod x.id
  found_method c name s x e =
      first_is (λ (z : OwnMethod). HasMethod z.id) (λ d. find (is_named name s) (methods_of (classes_of k ps) d))
      (λ d y g. let w = found_at (is_named name s) (methods_of (classes_of k ps) d) y g in class_method d w.0 y w.1)
      (chain (classes_of k ps) c) x e

  named_method : (file : ℕ) (token : MemberToken) (c : Id) → resolve_method k ps file token ≡ Some c → HasMethod c
  named_method file (Own n) c e =
      let owned = some_map (λ (owner : Id). id_at file n) (method_owner ps (id_at file n)) c e in
      subst HasMethod owned.2 (by (slice_get ps file) refl owned.0 owned.1)
    where
      of_row : (p : Assembly) → slice_get ps file ≡ Some p → (o : Option MethodRow) → slice_get p.methods n ≡ o → (owner : Id) → on_some o (λ x. option_map (id_at file) (position (λ (t : TypeRow). holds t.first_method t.method_count n) p.types)) ≡ Some owner → HasMethod (id_at file n)
      of_row p here None at owner h = absurd (cc h)
      of_row p here (Some x) at owner h = method_there (id_at file n) p here (slice_get_within p.methods n x at)

      by : (o : Option Assembly) → slice_get ps file ≡ o → (owner : Id) → on_some o (λ p. on_some (slice_get p.methods n) (λ x. option_map (id_at file) (position (λ (t : TypeRow). holds t.first_method t.method_count n) p.types))) ≡ Some owner → HasMethod (id_at file n)
      by None here owner h = absurd (cc h)
      by (Some p) here owner h = of_row p here (slice_get p.methods n) refl owner h
  named_method file (Reference n) c e = by_file (slice_get ps file) e
    where
      by_class : (name : List ℕ) (s : Option Signature) (o : Option Id) → on_some o (λ d. option_map (λ (x : OwnMethod). x.id) (find_method (classes_of k ps) d name s)) ≡ Some c → HasMethod c
      by_class name s None h = absurd (cc h)
      by_class name s (Some d) h = let w = some_map (λ (x : OwnMethod). x.id) (find_method (classes_of k ps) d name s) c h in subst HasMethod w.2 (found_method d name s w.0 w.1)

      by_row : (o : Option MethodRefRow) → on_some o (λ r. on_some (resolve k ps file r.parent) (λ d. option_map (λ (x : OwnMethod). x.id) (find_method (classes_of k ps) d r.name (expanded_signature k ps file r.signature)))) ≡ Some c → HasMethod c
      by_row None h = absurd (cc h)
      by_row (Some r) h = by_class r.name (expanded_signature k ps file r.signature) (resolve k ps file r.parent) h

      by_file : (o : Option Assembly) → on_some o (λ p. on_some (slice_get p.method_refs n) (λ r. on_some (resolve k ps file r.parent) (λ d. option_map (λ (x : OwnMethod). x.id) (find_method (classes_of k ps) d r.name (expanded_signature k ps file r.signature))))) ≡ Some c → HasMethod c
      by_file None h = absurd (cc h)
      by_file (Some p) h = by_row (slice_get p.method_refs n) h

  pub method_is_there : (file table row : ℕ) → on_some (method_of files file table row) (method_checked files) ≡ option_map method_id (method_of files file table row)
  method_is_there file table row = by (slice_get files file)
    where
      by_token : (token : MemberToken) (o : Option Id) → resolve_method k ps file token ≡ o → on_some o (method_checked files) ≡ option_map method_id o
      by_token token None e = refl
      by_token token (Some c) e = named_method file token c e

      by : (o : Option FilePart) → on_some (on_some o (λ f. resolve_method k ps file (method_token f.metadata table row))) (method_checked files) ≡ option_map method_id (on_some o (λ f. resolve_method k ps file (method_token f.metadata table row)))
      by None = refl
      by (Some f) = by_token (method_token f.metadata table row) (resolve_method k ps file (method_token f.metadata table row)) refl
