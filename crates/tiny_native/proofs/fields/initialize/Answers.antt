use Rattle.std.proofs.Common.{◌≡◌, ℕ, ◌-◌, ◌∷◌, List, Option, sym, ap, ◌∙◌, subst}
use Rattle.board_types.specs.declared.board.Known.TheVariants.{NullReference}
use Rattle.board_types.specs.declared.value.Shape.{Shape}
use Rattle.machine.specs.Data.{Cell, CliType, Value, Thing}
use Rattle.machine.specs.Program.{InitializeArray}
use Rattle.machine.specs.Throw.{on_some}
use Rattle.machine.specs.Rows.{on_thing}
use Rattle.machine.specs.Natives.{initialize_array}
use Rattle.tiny_ops.specs.Operators.{stack_value}
use Rattle.board_ids.specs.Ids.{id_of, cli_type}
use Rattle.tiny_native.specs.Seen.{ValueTold}
use Rattle.tiny_native.specs.Told.{elements_set}
use Rattle.tiny_native.specs.Ends.{Meets}
use Rattle.tiny_native.proofs.ThingKinds.{ArrayNamed, array_named, array_lacks, no_handle}
use Rattle.tiny_native.proofs.TypeLemmas.{cell_held}
use Rattle.tiny_native.proofs.Filling.{set_in, set_on, set_no_handle, set_from}
use Rattle.tiny_native.proofs.fields.initialize.Goals as goal

pub returns-in_default : goal.returns-in_default
returns-in_default g c s more h n told = (h.keeps, set_no_handle s.program s.state s.frame s.callers s.next s.rest more (stack_value s.leads c.args.array) (stack_value s.leads c.args.field) (no_handle s.leads c.args.field c.in_default.not-Handle))

pub returns-in-Null : goal.returns-in-Null
returns-in-Null g c s more h n told =
    let bytes : List ℕ = g.S.Subclass.bytes c.args.types.now c.in-Handle.field in (
      h.keeps,
      ap (λ v. initialize_array s.program s.state s.frame s.callers s.next s.rest (stack_value s.leads c.args.array ∷ stack_value s.leads v ∷ more)) c.in-Handle.is
          ∙ set_from s.program s.state s.frame s.callers s.next s.rest more (stack_value s.leads c.args.array) (id_of c.in-Handle.field) bytes (subst (ValueTold s (g.S.Subclass.name c.args.types.now) (g.S.Subclass.bytes c.args.types.now) InitializeArray) c.in-Handle.is told)
          ∙ ap (λ v. on_thing s.program s.state (stack_value s.leads v) (set_on s.program s.state s.frame s.callers s.next s.rest more bytes)) (c.in-Null.ensures s h.keeps n),
    )

pub returns-in-Other : goal.returns-in-Other
returns-in-Other g c s more h n told =
    let bytes : List ℕ = g.S.Subclass.bytes c.args.types.now c.in-Handle.field in (
      h.keeps,
      ap (λ v. initialize_array s.program s.state s.frame s.callers s.next s.rest (stack_value s.leads c.args.array ∷ stack_value s.leads v ∷ more)) c.in-Handle.is
          ∙ set_from s.program s.state s.frame s.callers s.next s.rest more (stack_value s.leads c.args.array) (id_of c.in-Handle.field) bytes (subst (ValueTold s (g.S.Subclass.name c.args.types.now) (g.S.Subclass.bytes c.args.types.now) InitializeArray) c.in-Handle.is told)
          ∙ array_lacks s.program s.state NullReference (stack_value s.leads c.args.array) (set_in s.program s.state s.frame s.callers s.next s.rest more bytes) (c.in-Other.ensures s h.keeps n),
    )

pub returns-in-Thing : goal.returns-in-Thing
returns-in-Thing g c s more h n told =
    let bytes : List ℕ = g.S.Subclass.bytes c.args.types.now c.in-Handle.field in
    let thing : ℕ = c.in-Thing.thing in
    let shape : Shape = c.in-Thing.shape in
    let t : ArrayNamed s c.args.array thing shape = array_named s c.args.array thing shape (c.in-Thing.ensures s h.keeps n) in
    let outcome : initialize_array s.program s.state s.frame s.callers s.next s.rest (stack_value s.leads c.args.array ∷ stack_value s.leads c.args.field ∷ more) ≡ elements_set s thing t.entry bytes t.array.cell =
    ap (λ v. initialize_array s.program s.state s.frame s.callers s.next s.rest (stack_value s.leads c.args.array ∷ stack_value s.leads v ∷ more)) c.in-Handle.is
    ∙ set_from s.program s.state s.frame s.callers s.next s.rest more (stack_value s.leads c.args.array) (id_of c.in-Handle.field) bytes (subst (ValueTold s (g.S.Subclass.name c.args.types.now) (g.S.Subclass.bytes c.args.types.now) InitializeArray) c.in-Handle.is told)
    ∙ ap (λ (v : Value). on_thing s.program s.state v (set_on s.program s.state s.frame s.callers s.next s.rest more bytes)) t.value
    ∙ ap (λ (o : Option Thing). on_some o (set_on s.program s.state s.frame s.callers s.next s.rest more bytes (thing - 1))) t.at
    ∙ ap (λ (y : CliType). set_in s.program s.state s.frame s.callers s.next s.rest more bytes (thing - 1) y t.values) (sym t.array.typed)
    ∙ ap (λ vs. set_in s.program s.state s.frame s.callers s.next s.rest more bytes (thing - 1) (cli_type t.entry.shape.of) vs) (sym t.array.held)
    ∙ ap (λ (o : Option Cell). on_some o (elements_set s thing t.entry bytes)) (cell_held t.entry.shape.of ∙ t.array.packed) in
    subst (λ o. Meets s c.fill.new.ram o c.fill.result) (sym outcome)
    (c.fill.ensures s t.entry h (record { is = t.is; same = t.same; what = t.what; cell = t.array.cell; packed = t.array.packed }))
