-- Names and bytes that are told of a set are its program's.
use Rattle.std.proofs.Common.{◌≡◌, ℕ, zero, suc, ◌+◌, ◌&&◌, Bool, true, false, List, [], ◌∷◌, take, drop, Option, Some, None, refl, sym, ap, ◌∙◌, subst, arith}
use Rattle.std.specs.Prelude.{◌==◌, slice_get, unwrap_or}
use Rattle.std.specs.List.{find}
use Rattle.std.specs.Option.{option_map}
use Rattle.std.specs.Str.{IsUtf8}
use Rattle.std.proofs.lemmas.Bool.{eqb-true}
use Rattle.board_types.specs.declared.board.TypeAt.{TypeAt}
use Rattle.board_types.specs.declared.board.BoardType.{BoardType}
use Rattle.board_ids.specs.Ids.{cli_type, id_of}
use Rattle.board_model.specs.Bound.{bound_classes, bound_program}
use Rattle.machine.specs.Data.{Id, id_eq, CliType, Basic, EnumOf, ClassOf, ValueOf, ArrayOf}
use Rattle.machine.specs.Natives.{name_of}
use Rattle.machine.specs.Texts.{units_of_name, with_brackets}
use Rattle.machine.specs.Throw.{on_some}
use Rattle.classes.specs.Classes.{Class, OwnField}
use Rattle.classes.specs.Queries.{basic, data_of, field_at, fields_of, full_name}
use Rattle.assemblies.specs.Rows.{Assembly, FieldRow, TypeRow}
use Rattle.assemblies.specs.Binding.{id_at, class_with, own_field, range}
use Rattle.assemblies.proofs.Numbered.{find_row}
use Rattle.world_rows.specs.World.{size_of}
use Rattle.tiny_rows.proofs.Parts.{some_back, map_back}
use Rattle.class_names.specs.Units.{full_units}
use Rattle.class_names.specs.Texts.{AreTexts}
use Rattle.class_names.proofs.FullLaws.{full_is}
use Rattle.bound_answers.specs.Told.{bytes, data_in}
use Rattle.bound_answers.specs.Names.{type_units, name}
use Rattle.bound_answers.specs.Standing.{AreImages}

module _ (ps : List Assembly) (images : AreImages ps) where
  -- ---- names

  texts : AreTexts (bound_classes ps)
  texts c k e =
      let p = some_back (slice_get ps c.file) (λ (p : Assembly). option_map (class_with (size_of ps) ps c.file p) (slice_get p.types c.row)) k e in
      let t = map_back (class_with (size_of ps) ps c.file p.0) (slice_get p.0.types c.row) k p.2 in
      let said = (images c.file p.0 p.1).names c.row t.0 t.1 in
      (subst IsUtf8 (ap (λ (x : Class). x.namespace) t.2) said.0, subst IsUtf8 (ap (λ (x : Class). x.name) t.2) said.1)

  class_named : (c : Id) (units : List ℕ) → units_of_name (full_name (bound_classes ps) c) ≡ units → full_units (bound_classes ps) c ≡ units
  class_named c units e = sym (full_is (bound_classes ps) texts c) ∙ e

  type_named : (t : CliType) (units : List ℕ) → name_of (bound_program ps) t ≡ Some units → type_units (bound_classes ps) t ≡ units
  type_named (ArrayOf t) units e =
      let m = map_back with_brackets (name_of (bound_program ps) t) units e in
      ap with_brackets (type_named t m.0 m.1) ∙ m.2
  type_named (Basic elem) units e =
      let m = map_back (λ (class : Id). units_of_name (full_name (bound_classes ps) class)) (basic (bound_classes ps) elem) units e in
      ap (λ (o : Option Id). unwrap_or (option_map (full_units (bound_classes ps)) o) []) m.1 ∙ class_named m.0 units m.2
  type_named (EnumOf elem c) units e = class_named c units (cc e)
  type_named (ClassOf c) units e = class_named c units (cc e)
  type_named (ValueOf c) units e = class_named c units (cc e)

  pub named : (of : BoardType) (units : List ℕ) → name_of (bound_program ps) (cli_type of) ≡ Some units → name ps of ≡ units
  named of units e = type_named (cli_type of) units e

  -- ---- bytes

  dropped_get : {A : Type 0} (first k : ℕ) (xs : List A) (x : A) → slice_get (drop first xs) k ≡ Some x → slice_get xs (first + k) ≡ Some x
  dropped_get zero k xs x e = ap (slice_get xs) none ∙ e
    where
      none : zero + k ≡ k
      none = omega arith
  dropped_get (suc first) k [] x e = absurd (cc e)
  dropped_get (suc first) k (y ∷ xs) x e = ap (slice_get (y ∷ xs)) more ∙ dropped_get first k xs x e
    where
      more : suc first + k ≡ suc (first + k)
      more = omega arith

  taken_get : {A : Type 0} (count k : ℕ) (xs : List A) (x : A) → slice_get (take count xs) k ≡ Some x → slice_get xs k ≡ Some x
  taken_get zero k xs x e = absurd (cc e)
  taken_get (suc count) k [] x e = absurd (cc e)
  taken_get (suc count) zero (y ∷ xs) x e = e
  taken_get (suc count) (suc k) (y ∷ xs) x e = taken_get count k xs x e

  same_id : (file row : ℕ) (c : Id) → id_eq (id_at file row) c ≡ true → (file ≡ c.file) × (row ≡ c.row)
  same_id file row c e = (eqb-true file c.file (left (file == c.file) (row == c.row) e), eqb-true row c.row (right (file == c.file) (row == c.row) e))
    where
      left : (a b : Bool) → (a && b) ≡ true → a ≡ true
      left true b e = refl
      left false b e = absurd (cc e)

      right : (a b : Bool) → (a && b) ≡ true → b ≡ true
      right true b e = e
      right false b e = absurd (cc e)

  -- the bytes of a field that a class declares
  declared : (c : Id) (f : TypeAt) (x : OwnField) (p : Assembly) (first count : ℕ) (b : List ℕ) → slice_get ps c.file ≡ Some p
      → (k : ℕ) (r : FieldRow) → slice_get (range first count p.fields) k ≡ Some r → own_field (size_of ps) ps c.file (first + k) r ≡ x → id_eq x.id (id_of f) ≡ true → data_of x.kind ≡ Some b → bytes ps f ≡ b
  declared c f x p first count b at k r e same_field same_place kind =
      let same = same_id c.file (first + k) (id_of f) (ap (λ (y : OwnField). id_eq y.id (id_of f)) same_field ∙ same_place) in
      let file = ap (slice_get ps) (sym same.0) ∙ at in
      let row = ap (slice_get p.fields) (sym same.1) ∙ dropped_get first k p.fields r (taken_get count k (drop first p.fields) r e) in
      let held : data_of r.kind ≡ Some b = ap (λ (y : OwnField). data_of y.kind) same_field ∙ kind in
      ap (λ (o : Option Assembly). unwrap_or (option_map (λ (p : Assembly). data_in p f.row) o) []) file
      ∙ ap (λ (o : Option FieldRow). unwrap_or (on_some o (λ (r : FieldRow). data_of r.kind)) []) row
      ∙ ap (λ (o : Option (List ℕ)). unwrap_or o []) held

  -- that of a class
  in_class : (c : Id) (f : TypeAt) (x : OwnField) (b : List ℕ) → find (λ (y : OwnField). id_eq y.id (id_of f)) (fields_of (bound_classes ps) c) ≡ Some x → data_of x.kind ≡ Some b → bytes ps f ≡ b
  in_class c f x b e kind = by (slice_get ps c.file) refl e
    where
      row : (p : Assembly) → slice_get ps c.file ≡ Some p → (t : Option TypeRow) → find (λ (y : OwnField). id_eq y.id (id_of f)) (unwrap_or (option_map (λ (k : Class). k.fields) (option_map (class_with (size_of ps) ps c.file p) t)) []) ≡ Some x → bytes ps f ≡ b
      row p at None e = absurd (cc e)
      row p at (Some t) e =
          let w = find_row (own_field (size_of ps) ps c.file) (λ (y : OwnField). id_eq y.id (id_of f)) t.first_field (range t.first_field t.field_count p.fields) x e in
          declared c f x p t.first_field t.field_count b at w.0 w.1.0 w.1.1 w.1.2 w.1.3 kind

      by : (o : Option Assembly) → slice_get ps c.file ≡ o → find (λ (y : OwnField). id_eq y.id (id_of f)) (unwrap_or (option_map (λ (k : Class). k.fields) (on_some o (λ p. option_map (class_with (size_of ps) ps c.file p) (slice_get p.types c.row)))) []) ≡ Some x → bytes ps f ≡ b
      by None at e = absurd (cc e)
      by (Some p) at e = row p at (slice_get p.types c.row) e

  pub kept : (f : TypeAt) (b : List ℕ) → (bound_program ps).bytes (id_of f) ≡ Some b → bytes ps f ≡ b
  kept f b e =
      let cs = bound_classes ps in
      let x = some_back (field_at cs (id_of f)) (λ (x : OwnField). data_of x.kind) b e in
      let c = some_back (cs.field_owner (id_of f)) (λ (c : Id). find (λ (y : OwnField). id_eq y.id (id_of f)) (fields_of cs c)) x.0 x.1 in
      in_class c.0 f x.0 b c.2 x.2
