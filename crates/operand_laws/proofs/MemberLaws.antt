-- A member that a token of code names is one of a class's, with a signature that fits.
use Rattle.std.proofs.Common.{◌≡◌, ℕ, ◌+◌, ◌-◌, ◌<◌, ◌≤◌, true, List, [], drop, Some, refl, ap, ◌∙◌, subst, arith}
use Rattle.std.specs.Prelude.{nat_le, nat_lt, slice_get, unwrap_or}
use Rattle.std.specs.List.{find, position}
use Rattle.std.specs.Option.{option_map}
use Rattle.std.proofs.lemmas.Bool.{and_parts, leb-true, ltb-true}
use Rattle.machine.specs.Data.{Id}
use Rattle.machine.specs.Throw.{on_some}
use Rattle.classes.specs.Classes.{Class, Classes, OwnField, OwnMethod}
use Rattle.classes.specs.Queries.{chain, field_at, fields_of, find_field, find_method, is_field_named, is_named, method_at, methods_of}
use Rattle.classes.specs.Reading.{IsRead}
use Rattle.class_rules.specs.Rules.{field_signature_fits, holds_some, method_signature_fits, Keeps}
use Rattle.class_rules.proofs.Kept.{part_of}
use Rattle.class_rules.proofs.Slots.{first_found, found}
use Rattle.class_rules.proofs.Ways.{all_at}
use Rattle.class_targets.proofs.RowLaws.{dropped_get, taken_get}
use Rattle.kept_rows.proofs.SelectLaws.{passes}
use Rattle.assemblies.specs.Rows.{Assembly, MemberToken, Own, Reference, TypeRow}
use Rattle.assemblies.specs.Binding.{class_at, class_with, classes_of, expanded, expanded_signature, field_owner, holds, id_at, method_owner, numbered, own_field, own_method, owner_of, range, resolve, resolve_field, resolve_method}
use Rattle.assemblies.proofs.Belong.{some_map}
use Rattle.assemblies.proofs.Binds.{on_some_back}
use Rattle.assemblies.proofs.Numbered.{get_numbered}

-- ---- the class that has a row

-- a row of a range, with its number
in_range : {A B : Type 0} (make : ℕ → A → B) (xs : List A) (first count n : ℕ) (x : A) → slice_get xs n ≡ Some x → holds first count n ≡ true → slice_get (numbered make first (range first count xs)) (n - first) ≡ Some (make n x)
in_range make xs first count n x at h =
    let both = and_parts (nat_le first n) (nat_lt n (first + count)) h in
    let low : first ≤ n = leb-true first n both.0 in
    let high : n < first + count = ltb-true n (first + count) both.1 in
    let same : first + (n - first) ≡ n = omega (arith, low) in
    get_numbered make first (n - first) (range first count xs)
    ∙ ap (option_map (make (first + (n - first)))) (taken_get count (drop first xs) (n - first) (omega (arith, low, high)) ∙ dropped_get first xs (n - first) ∙ ap (slice_get xs) same ∙ at)
    ∙ ap (λ k. Some (make k x)) same

module _ {A : Type 0} (rows : Assembly → List A) (first count : TypeRow → ℕ) (ps : List Assembly) (c : Id) where
  record Owned (owner : Id) : Type 0 where
    pub assembly : Assembly
    pub row : A
    pub type : TypeRow
    pub at : ℕ
    pub is_assembly : slice_get ps c.file ≡ Some assembly
    pub is_row : slice_get (rows assembly) c.row ≡ Some row
    pub is_type : slice_get assembly.types at ≡ Some type
    pub is_held : holds (first type) (count type) c.row ≡ true
    pub is_owner : id_at c.file at ≡ owner

  owned : (owner : Id) → owner_of rows first count ps c ≡ Some owner → Owned owner
  owned owner e =
      let p = on_some_back (slice_get ps c.file) _ owner e in
      let x = on_some_back (slice_get (rows p.0) c.row) _ owner p.2 in
      let j = some_map (id_at c.file) (position (λ t. holds (first t) (count t) c.row) p.0.types) owner x.2 in
      let t = passes (λ t. holds (first t) (count t) c.row) p.0.types j.0 j.1 in
      record { assembly = p.0; row = x.0; type = t.0; at = j.0; is_assembly = p.1; is_row = x.1; is_type = t.1; is_held = t.2; is_owner = j.2 }

-- ---- what tokens name

module _ (k : ℕ) (ps : List Assembly) where
  abbrev cs : Classes
  cs = classes_of k ps

  class_is : (file at : ℕ) (p : Assembly) (t : TypeRow) → slice_get ps file ≡ Some p → slice_get p.types at ≡ Some t → class_at k ps (id_at file at) ≡ Some (class_with k ps file p t)
  class_is file at p t here there =
      ap (λ o. on_some o (λ (p : Assembly). option_map (class_with k ps file p) (slice_get p.types at))) here
      ∙ ap (option_map (class_with k ps file p)) there

  -- a field that a class has is among the class's
  field_listed : (c owner : Id) → field_owner ps c ≡ Some owner → (i : ℕ) × (f : OwnField) × (slice_get (fields_of cs owner) i ≡ Some f) × (f.id ≡ c)
  field_listed c owner e =
      let o = owned (λ (p : Assembly). p.fields) (λ t. t.first_field) (λ t. t.field_count) ps c owner e in
      let i = c.row - o.type.first_field in
      let f = own_field k ps c.file c.row o.row in
      let here : slice_get (fields_of cs (id_at c.file o.at)) i ≡ Some f =
      ap (λ z. slice_get (unwrap_or (option_map (λ (z : Class). z.fields) z) []) i) (class_is c.file o.at o.assembly o.type o.is_assembly o.is_type)
      ∙ in_range (own_field k ps c.file) o.assembly.fields o.type.first_field o.type.field_count c.row o.row o.is_row o.is_held in
      (i, f, subst (λ (d : Id). slice_get (fields_of cs d) i ≡ Some f) o.is_owner here, refl)

  method_listed : (c owner : Id) → method_owner ps c ≡ Some owner → (i : ℕ) × (m : OwnMethod) × (slice_get (methods_of cs owner) i ≡ Some m) × (m.id ≡ c)
  method_listed c owner e =
      let o = owned (λ (p : Assembly). p.methods) (λ t. t.first_method) (λ t. t.method_count) ps c owner e in
      let i = c.row - o.type.first_method in
      let m = own_method k ps c.file c.row o.row in
      let here : slice_get (methods_of cs (id_at c.file o.at)) i ≡ Some m =
      ap (λ z. slice_get (unwrap_or (option_map (λ (z : Class). z.methods) z) []) i) (class_is c.file o.at o.assembly o.type o.is_assembly o.is_type)
      ∙ in_range (own_method k ps c.file) o.assembly.methods o.type.first_method o.type.method_count c.row o.row o.is_row o.is_held in
      (i, m, subst (λ (d : Id). slice_get (methods_of cs d) i ≡ Some m) o.is_owner here, refl)

  module _ (P : Id → Type 0) where
    -- what holds of the fields of classes holds of those that tokens name
    pub of_field : ((c : Id) (i : ℕ) (f : OwnField) → slice_get (fields_of cs c) i ≡ Some f → P f.id) → (file : ℕ) (token : MemberToken) (id : Id) → resolve_field k ps file token ≡ Some id → P id
    of_field each file (Own n) id e =
        let w = some_map (λ owner. id_at file n) (field_owner ps (id_at file n)) id e in
        let l = field_listed (id_at file n) w.0 w.1 in
        subst P (l.3 ∙ w.2) (each w.0 l.0 l.1 l.2)
    of_field each file (Reference n) id e =
        let p = on_some_back (slice_get ps file) _ id e in
        let r = on_some_back (slice_get p.0.field_refs n) _ id p.2 in
        let signature = expanded k ps file r.0.signature in
        let c = on_some_back (resolve k ps file r.0.parent) (λ c. option_map (λ (f : OwnField). f.id) (find_field cs c r.0.name signature)) id r.2 in
        let f = some_map (λ (f : OwnField). f.id) (find_field cs c.0 r.0.name signature) id c.2 in
        let d = first_found (λ d. find (is_field_named r.0.name signature) (fields_of cs d)) (chain cs c.0) f.0 f.1 in
        let g = found (is_field_named r.0.name signature) (fields_of cs d.1) f.0 d.3 in
        subst P f.2 (each d.1 g.0 f.0 g.1)

    pub of_method : ((c : Id) (i : ℕ) (m : OwnMethod) → slice_get (methods_of cs c) i ≡ Some m → P m.id) → (file : ℕ) (token : MemberToken) (id : Id) → resolve_method k ps file token ≡ Some id → P id
    of_method each file (Own n) id e =
        let w = some_map (λ owner. id_at file n) (method_owner ps (id_at file n)) id e in
        let l = method_listed (id_at file n) w.0 w.1 in
        subst P (l.3 ∙ w.2) (each w.0 l.0 l.1 l.2)
    of_method each file (Reference n) id e =
        let p = on_some_back (slice_get ps file) _ id e in
        let r = on_some_back (slice_get p.0.method_refs n) _ id p.2 in
        let signature = expanded_signature k ps file r.0.signature in
        let c = on_some_back (resolve k ps file r.0.parent) (λ c. option_map (λ (m : OwnMethod). m.id) (find_method cs c r.0.name signature)) id r.2 in
        let m = some_map (λ (m : OwnMethod). m.id) (find_method cs c.0 r.0.name signature) id c.2 in
        let d = first_found (λ d. find (is_named r.0.name signature) (methods_of cs d)) (chain cs c.0) m.0 m.1 in
        let g = found (is_named r.0.name signature) (methods_of cs d.1) m.0 d.3 in
        subst P m.2 (each d.1 g.0 m.0 g.1)

-- ---- their signatures fit (27)

module _ (n : ℕ) (cs : Classes) (keeps : Keeps n cs) where
  pub field_fits : ((c : Id) (i : ℕ) (f : OwnField) → slice_get (fields_of cs c) i ≡ Some f → field_at cs f.id ≡ Some f) → (c : Id) (i : ℕ) (f : OwnField) → slice_get (fields_of cs c) i ≡ Some f → holds_some (field_at cs f.id) (field_signature_fits cs) ≡ true
  field_fits entry c i f e =
      let w = part_of (cs.class c) (λ z. z.fields) i f e in
      ap (λ o. holds_some o (field_signature_fits cs)) (entry c i f e)
      ∙ all_at (field_signature_fits cs) w.0.fields i f (keeps.field_signatures c w.0 w.1) w.2

  pub method_fits : IsRead n cs → (c : Id) (i : ℕ) (m : OwnMethod) → slice_get (methods_of cs c) i ≡ Some m → holds_some (cs.method_owner m.id) (λ owner. holds_some (method_at cs m.id) (method_signature_fits cs owner)) ≡ true
  method_fits read c i m e =
      let w = part_of (cs.class c) (λ z. z.methods) i m e in
      ap (λ o. holds_some o (λ owner. holds_some (method_at cs m.id) (method_signature_fits cs owner))) (read.owner c i m e)
      ∙ ap (λ o. holds_some o (method_signature_fits cs c)) (read.entry c i m e)
      ∙ all_at (method_signature_fits cs c) w.0.methods i m (keeps.method_signatures c w.0 w.1) w.2
