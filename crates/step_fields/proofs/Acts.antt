-- The machine's acts on fields, step by step.
use Rattle.std.proofs.Common.{◌≡◌, ℕ, Bool, List, ◌∷◌, Option, Some, None, refl, ap, ◌∙◌}
use Rattle.std.specs.Prelude.{slice_get, slice_set}
use Rattle.board_types.specs.declared.board.TypeAt.{TypeAt}
use Rattle.machine.specs.Data.{Id, CliType, Plain, Cell, cell_of, Value, Pointer, InObject, Thing, Instance, Frame, State}
use Rattle.machine.specs.Program.{Program}
use Rattle.machine.specs.Numbers.{kept}
use Rattle.machine.specs.Throw.{on_some, goes}
use Rattle.machine.specs.Rows.{on_top, on_two, on_thing, on_instance}
use Rattle.machine.specs.Objects.{load_field, store_field, load_field_address}
use Rattle.memory_states.specs.Values.{id_of}
use Rattle.step_operands.specs.Changed.{put_heap}
use Rattle.step_fields.specs.declared.fields.Field.{Field}
use Rattle.step_fields.specs.Fields.{IsField}

module _ (p : Program) (s : State) (g : Frame) (gs : List Frame) (next : ℕ) (field : Field) where
  abbrev pub loads : List Value → ℕ → Thing → Option State
  loads rest object thing = on_instance p (id_of field.owner) thing (λ class fields. on_some (slice_get fields field.number) (λ v. goes p s g gs next (v ∷ rest)))

  abbrev pub load_go : Value → List Value → Option State
  load_go this rest = on_thing p s this (loads rest)

  pub load_is : load_field p s g gs next (id_of field.owner) field.number ≡ on_top g.stack load_go
  unfolding load_field
  load_is = refl

  abbrev pub stores : List Value → Value → ℕ → Thing → Option State
  stores rest w object thing = on_instance p (id_of field.owner) thing (λ class fields. goes p (put_heap s object (Instance class (slice_set fields field.number w))) g gs next rest)

  abbrev pub store_go : Value → Value → List Value → Option State
  store_go this v rest = on_some (p.fields (id_of field.owner)) (λ types. on_some (slice_get types field.number) (λ type. on_some (kept (Plain type) v) (λ w. on_thing p s this (stores rest w))))

  pub store_is : store_field p s g gs next (id_of field.owner) field.number ≡ on_two g.stack store_go
  unfolding store_field
  store_is = refl

  abbrev pub points : Cell → List Value → ℕ → Thing → Option State
  points cell rest object thing = on_instance p (id_of field.owner) thing (λ class fields. goes p s g gs next (Pointer cell (InObject object field.number) ∷ rest))

  abbrev pub point_go : Value → List Value → Option State
  point_go this rest = on_some (p.fields (id_of field.owner)) (λ types. on_some (slice_get types field.number) (λ type. on_some (cell_of type) (λ cell. on_thing p s this (points cell rest))))

  pub point_is : load_field_address p s g gs next (id_of field.owner) field.number ≡ on_top g.stack point_go
  unfolding load_field_address
  point_is = refl

  module _ (sub : TypeAt → TypeAt → Bool) (q : IsField sub field p) where
    typed : (go : CliType → Option State) → on_some (p.fields (id_of field.owner)) (λ types. on_some (slice_get types field.number) go) ≡ go q.type
    typed go = ap (λ (o : Option (List CliType)). on_some o (λ types. on_some (slice_get types field.number) go)) q.fields ∙ ap (λ (o : Option CliType). on_some o go) q.is

    -- the value is kept so, or not at all
    pub store_kept : (this v : Value) (rest : List Value) (o : Option Value) → on_two g.stack store_go ≡ store_go this v rest → kept (Plain q.type) v ≡ o → store_field p s g gs next (id_of field.owner) field.number ≡ on_some o (λ w. on_thing p s this (stores rest w))
    store_kept this v rest o on e = store_is ∙ on ∙ typed (λ type. on_some (kept (Plain type) v) (λ w. on_thing p s this (stores rest w))) ∙ ap (λ (o : Option Value). on_some o (λ w. on_thing p s this (stores rest w))) e

    -- the place has such a cell, or none
    pub point_kept : (this : Value) (rest : List Value) (o : Option Cell) → on_top g.stack point_go ≡ point_go this rest → cell_of q.type ≡ o → load_field_address p s g gs next (id_of field.owner) field.number ≡ on_some o (λ cell. on_thing p s this (points cell rest))
    point_kept this rest o on e = point_is ∙ on ∙ typed (λ type. on_some (cell_of type) (λ cell. on_thing p s this (points cell rest))) ∙ ap (λ (o : Option Cell). on_some o (λ cell. on_thing p s this (points cell rest))) e
