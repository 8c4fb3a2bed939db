-- What the machine makes of the name of a thing.
use Rattle.std.proofs.Common.{◌≡◌, ℕ, ◌==◌, Bool, false, List, ◌∷◌, Option, Some, None, refl, sym, ap, ◌∙◌, arith}
use Rattle.std.specs.Option.{option_map}
use Rattle.std.proofs.lemmas.Bool.{ne_eqb, eq-eqb}
use Rattle.board_types.specs.declared.board.Known.TheVariants.{NullReference}
use Rattle.board_types.specs.declared.value.Value.{Value as BoardValue}
use Rattle.board_types.specs.declared.value.Value.TheVariants as board
use Rattle.machine.specs.Data.{CliType, type_of, thing_at, Value, Null, Object, Thing, Instance, Text, Elements, Boxed, StaticCell, Frame, State}
use Rattle.machine.specs.Program.{Program}
use Rattle.machine.specs.Texts.{with_brackets}
use Rattle.machine.specs.Throw.{on_some, raise}
use Rattle.machine.specs.Natives.{name_of, new_text, object_to_string}
use Rattle.tiny_ops.specs.Operators.{Leads, stack_value}
use Rattle.tiny_ram.specs.Things.{Entry}
use Rattle.board_ids.specs.Ids.{cli_type}
use Rattle.tiny_native.specs.Seen.{kind_of, Holds}
use Rattle.tiny_native.specs.Told.{bracketed}

module _ (p : Program) (s : State) (f : Frame) (fs : List Frame) (next : ℕ) (rest more : List Value) where
  abbrev text_by : Option (List ℕ) → Option State
  text_by o = on_some o (λ units. new_text p s f fs next rest units)

  abbrev name_on : Thing → Option State
  name_on x = on_some (type_of x) (λ type. text_by (name_of p type))

  pub object_text : (n : ℕ) (x : Thing) → thing_at s.heap n ≡ Some x → object_to_string p s f fs next rest (Object n ∷ more) ≡ name_on x
  unfolding object_to_string
  object_text n x e = ap (λ (o : Option Thing). on_some o name_on) e

  pub object_null : object_to_string p s f fs next rest (Null ∷ more) ≡ raise p s NullReference
  unfolding object_to_string
  object_null = refl

  pub object_none : (l : Leads) (v : BoardValue) → ((n : ℕ) → v ≡ board.Ref n → ⊥) → object_to_string p s f fs next rest (stack_value l v ∷ more) ≡ None
  unfolding object_to_string
  object_none l (board.Ref n) h = absurd (h n refl)
  object_none l (board.Int n) h = refl
  object_none l (board.Long n) h = refl
  object_none l (board.Pointer at) h = refl
  object_none l (board.Handle g) h = refl

  pub static_none : (x : Thing) → kind_of x ≡ 5 → name_on x ≡ None
  static_none (StaticCell type value) k = refl
  static_none (Instance class fields) k = absurd (omega (arith, k))
  static_none (Text units) k = absurd (omega (arith, k))
  static_none (Elements element values) k = absurd (omega (arith, k))
  static_none (Boxed type value) k = absurd (omega (arith, k))

  abbrev text_of : Bool → List ℕ → Option State
  text_of b name = new_text p s f fs next rest (bracketed b name)

  no_brackets : (e : Entry) (k : ℕ) (name : List ℕ) → e.shape.what ≡ k → (k ≡ 1 → ⊥) → text_of false name ≡ text_of (e.shape.what == 1) name
  no_brackets e k name q n = ap (λ b. text_of b name) (sym (ne_eqb e.shape.what 1 (λ z. n (sym q ∙ z))))

  pub name_text : (l : Leads) (e : Entry) (x : Thing) (name : List ℕ) → e.shape.what ≡ kind_of x → Holds l e x → (kind_of x ≡ 5 → ⊥)
      → ((type : CliType) → type_of x ≡ Some type → name_of p (cli_type e.shape.of) ≡ Some name) → name_on x ≡ text_of (e.shape.what == 1) name
  name_text l e (Instance class fields) name k h n told = ap (λ t. text_by (name_of p t)) (sym h) ∙ ap text_by (told _ refl) ∙ no_brackets e 0 name k (λ z. omega (arith, z))
  name_text l e (Text units) name k h n told = ap (λ t. text_by (name_of p t)) (sym (ap (λ (d : Entry). cli_type d.shape.of) h)) ∙ ap text_by (told _ refl) ∙ no_brackets e 2 name k (λ z. omega (arith, z))
  name_text l e (Boxed type value) name k h n told = ap (λ t. text_by (name_of p t)) (sym h.typed) ∙ ap text_by (told _ refl) ∙ no_brackets e 3 name k (λ z. omega (arith, z))
  name_text l e (Elements element values) name k h n told =
      ap (λ t. text_by (option_map with_brackets (name_of p t))) (sym h.typed)
      ∙ ap (λ o. text_by (option_map with_brackets o)) (told _ refl)
      ∙ ap (λ b. text_of b name) (sym (eq-eqb e.shape.what 1 k))
  name_text l e (StaticCell type value) name k h n told = absurd (n refl)
