-- Arrays and their lengths, beside the machine's.
use Rattle.std.proofs.Common.{◌≡◌, ℕ, ◌+◌, ◌%◌, ◌^◌, ◌<◌, Bool, List, length, Option, Some, None, refl, sym, ap, ◌∙◌}
use Rattle.std.specs.Prelude.{if◌then◌else◌}
use Rattle.std.proofs.lemmas.Bool.{eq-eqb, ne_eqb}
use Rattle.board_types.specs.declared.value.Shape.{Shape}
use Rattle.machine.specs.Data.{CliType, Value, Thing, Instance, Text, Elements, Boxed, StaticCell, State}
use Rattle.machine.specs.Program.{Program}
use Rattle.machine.specs.Rows.{on_elements}
use Rattle.tiny_ram.specs.Things.{Entry}
use Rattle.memory_states.specs.Values.{IsThing, IsArray}
use Rattle.step_arrays.specs.declared.found.Array.{Array}
use Rattle.step_arrays.specs.Arrays.{array_in}

pub array_then : (shape own : Shape) (a : Option Array) → shape ≡ own → shape.what ≡ 1 → a ≡ Some (record { of = shape.of; count = shape.count }) → a ≡ array_in own
array_then shape own a e w q = q ∙ sym (ap (λ (b : Bool). if b then Some (let a : Array = record { of = shape.of; count = shape.count } in a) else None) (eq-eqb shape.what 1 w)) ∙ ap array_in e

pub array_else : (shape own : Shape) (a : Option Array) → shape ≡ own → (shape.what ≡ 1 → ⊥) → a ≡ None → a ≡ array_in own
array_else shape own a e w q = q ∙ sym (ap (λ (b : Bool). if b then Some (let a : Array = record { of = shape.of; count = shape.count } in a) else None) (ne_eqb shape.what 1 w)) ∙ ap array_in e

module _ (p : Program) (room : ℕ) where
  pub record IsElements (e : Entry) (x : Thing) (a : Array) : Type 0 where
    pub element : CliType
    pub values : List Value
    pub is : x ≡ Elements element values
    pub held : IsArray p room e element values
    pub of : a.of ≡ held.of
    pub count : a.count ≡ length values

  some_same : (a b : Array) → Some a ≡ Some b → a ≡ b
  some_same a b e = cc e

  pub elements_are : (e : Entry) (x : Thing) → IsThing p room e x → (a : Array) → Some a ≡ array_in e.shape → IsElements e x a
  elements_are e (Elements element vs) k a t =
      let same = some_same a _ (t ∙ ap array_in k.shape) in
      record { element = element; values = vs; is = refl; held = k; of = ap (λ (b : Array). b.of) same; count = ap (λ (b : Array). b.count) same }
  elements_are e (Instance class vs) k a t = let none = t ∙ ap array_in k.shape in absurd (cc none)
  elements_are e (Text units) k a t = let none = t ∙ ap array_in k.0 in absurd (cc none)
  elements_are e (Boxed type v) k a t = let none = t ∙ ap array_in k.shape in absurd (cc none)
  elements_are e (StaticCell type v) k a t = let none = t ∙ ap array_in k.0 in absurd (cc none)

  pub no_elements : (e : Entry) (x : Thing) → IsThing p room e x → (let o : Option Array = None in o) ≡ array_in e.shape → (go : CliType → List Value → Option State) → on_elements x go ≡ None
  no_elements e (Elements element vs) k t go = let none = t ∙ ap array_in k.shape in absurd (cc none)
  no_elements e (Instance class vs) k t go = refl
  no_elements e (Text units) k t go = refl
  no_elements e (Boxed type v) k t go = refl
  no_elements e (StaticCell type v) k t go = refl
