-- Objects and their fields, beside the machine's.
use Rattle.std.proofs.Common.{◌≡◌, ℕ, ◌+◌, Bool, true, false, List, [], ◌∷◌, length, Option, Some, None, refl, sym, ap, ◌∙◌, subst}
use Rattle.std.specs.Prelude.{◌&&◌, ◌==◌, if◌then◌else◌, slice_get, slice_set, unwrap_or}
use Rattle.std.proofs.lemmas.Bool.{false≢true, eq-eqb, ne_eqb}
use Rattle.std.proofs.lemmas.List.{length-set}
use Rattle.plain_types.specs.declared.elem.Elem.TheVariants as elem
use Rattle.board_types.specs.declared.board.TypeAt.{TypeAt}
use Rattle.board_types.specs.declared.value.Shape.{Shape}
use Rattle.board_types.specs.declared.value.Value.{Value as RamValue}
use Rattle.machine.specs.Data.{Id, CliType, Value, Thing, Instance, Text, Elements, Boxed, StaticCell, State, thing_size}
use Rattle.machine.specs.Program.{Program}
use Rattle.machine.specs.Rows.{on_instance}
use Rattle.machine.specs.Throw.{thrown_class}
use Rattle.tiny_ram.specs.Things.{Entry, layout_of, stored_by, Takes, object_shape, with_place}
use Rattle.memory_states.specs.Values.{id_of, IsThing, IsInstance, IsValue}
use Rattle.step_operands.proofs.Places.{FieldAt, field_at, field_put, cut_same}
use Rattle.step_fields.specs.declared.fields.Field.{Field}
use Rattle.step_fields.specs.Fields.{IsField, is_of}

-- a shape that is looked at
pub is_of_then : (sub : TypeAt → TypeAt → Bool) (owner : TypeAt) (shape own : Shape) (b : Bool) → shape ≡ own → shape.what ≡ 0 → b ≡ sub shape.of.of owner → b ≡ is_of sub owner own
is_of_then sub owner shape own b e w q = q ∙ ap (λ (k : Bool). k && sub shape.of.of owner) (sym (eq-eqb shape.what 0 w)) ∙ ap (is_of sub owner) e

pub is_of_else : (sub : TypeAt → TypeAt → Bool) (owner : TypeAt) (shape own : Shape) → shape ≡ own → (shape.what ≡ 0 → ⊥) → false ≡ is_of sub owner own
is_of_else sub owner shape own e w = ap (λ (k : Bool). k && sub shape.of.of owner) (sym (ne_eqb shape.what 0 w)) ∙ ap (is_of sub owner) e

module _ (p : Program) (room : ℕ) (sub : TypeAt → TypeAt → Bool) (field : Field) (q : IsField sub field p) where
  -- the thing is an object of the owner or of a class below it
  pub record IsObject (e : Entry) (x : Thing) : Type 0 where
    pub class : Id
    pub values : List Value
    pub is : x ≡ Instance class values
    pub held : IsInstance p room e class values
    pub below : p.is_sub class (id_of field.owner) ≡ true

  -- what is told of the shape
  told : (e : Entry) (class : Id) (vs : List Value) → IsInstance p room e class vs → (b : Bool) → b ≡ is_of sub field.owner e.shape → p.is_sub class (id_of field.owner) ≡ b
  told e class vs k b t = sym (ap (λ c. p.is_sub c (id_of field.owner)) k.class_is) ∙ q.subs k.of ∙ sym (ap (is_of sub field.owner) k.shape) ∙ sym t

  other : (e : Entry) (shape : Shape) → e.shape ≡ shape → is_of sub field.owner shape ≡ false → true ≡ is_of sub field.owner e.shape → ⊥
  other e shape k n t = false≢true (sym n ∙ sym (ap (is_of sub field.owner) k) ∙ sym t)

  pub object_is : (e : Entry) (x : Thing) → IsThing p room e x → true ≡ is_of sub field.owner e.shape → IsObject e x
  object_is e (Instance class vs) k t = record { class = class; values = vs; is = refl; held = k; below = told e class vs k true t }
  object_is e (Text units) k t = absurd (other e _ k.0 refl t)
  object_is e (Elements element vs) k t = absurd (other e _ k.shape refl t)
  object_is e (Boxed type v) k t = absurd (other e _ k.shape refl t)
  object_is e (StaticCell type v) k t = absurd (other e _ k.0 refl t)

  pub on_object : (e : Entry) (x : Thing) (o : IsObject e x) (go : Id → List Value → Option State) → on_instance p (id_of field.owner) x go ≡ go o.class o.values
  on_object e x o go = ap (λ (y : Thing). on_instance p (id_of field.owner) y go) o.is ∙ ap (λ (b : Bool). if b then go o.class o.values else None) o.below

  pub no_object : (e : Entry) (x : Thing) → IsThing p room e x → false ≡ is_of sub field.owner e.shape → (go : Id → List Value → Option State) → on_instance p (id_of field.owner) x go ≡ None
  no_object e (Instance class vs) k t go = ap (λ (b : Bool). if b then go class vs else None) (told e class vs k false t)
  no_object e (Text units) k t go = refl
  no_object e (Elements element vs) k t go = refl
  no_object e (Boxed type v) k t go = refl
  no_object e (StaticCell type v) k t go = refl

  -- the field of such an object
  pub its_field : (e : Entry) (x : Thing) (o : IsObject e x) → FieldAt room o.held.types e.places o.values field.number q.type
  its_field e x o = field_at room o.held.types e.places o.values o.held.places field.number q.type (q.inherits o.class o.held.types o.below o.held.fields)

  -- the field of such an object is written
  abbrev pub written : (e : Entry) (x : Thing) → IsObject e x → Value → Thing
  written e x o w = Instance o.class (slice_set o.values field.number w)

  pub takes : (e : Entry) (x : Thing) → IsObject e x → (r : RamValue) → Takes (layout_of e.shape) r
  takes e x o r = subst (λ (shape : Shape). Takes (layout_of shape) r) (sym o.held.shape) tt

  pub written_is : (e : Entry) (x : Thing) (o : IsObject e x) (r : RamValue) (w : Value) → IsValue room [] r w → IsThing p room (with_place e field.number elem.Object r) (written e x o w)
  written_is e x o r w k =
      let same : stored_by (layout_of e.shape) elem.Object r ≡ r = ap (λ (shape : Shape). stored_by (layout_of shape) elem.Object r) o.held.shape ∙ cut_same r in
      record {
        of = o.held.of;
        class_is = o.held.class_is;
        shape = o.held.shape ∙ ap (object_shape o.held.of) (sym (length-set o.values field.number w));
        types = o.held.types;
        fields = o.held.fields;
        places = field_put room o.held.types e.places o.values o.held.places field.number (stored_by (layout_of e.shape) elem.Object r) w (subst (λ (z : RamValue). IsValue room [] z w) (sym same) k);
      }

  pub written_size : (e : Entry) (x : Thing) (o : IsObject e x) (w : Value) → thing_size (written e x o w) ≡ thing_size x
  written_size e x o w = ap (λ (n : ℕ). 1 + n) (length-set o.values field.number w) ∙ sym (ap thing_size o.is)

  pub written_class : (e : Entry) (x : Thing) (o : IsObject e x) (w : Value) → thrown_class (written e x o w) ≡ thrown_class x
  written_class e x o w = sym (ap thrown_class o.is)
