-- The steps of a method that is known.
use Rattle.std.proofs.Common.{◌≡◌, ℕ, List, length, map, Result, Err, refl, sym, subst}
use Rattle.ecma_types.specs.declared.stack.StackType.{StackType as WorldType}
use Rattle.machine_typed.specs.Typing.{StackType}
use Rattle.verify_ops.specs.declared.facts.OpRefusal.{OpRefusal}
use Rattle.verify_ops.specs.declared.facts.OpRefusal.TheVariants as refusal
use Rattle.verify_ops.specs.Effects.{Leaves}
use Rattle.std.specs.Option.{option_map}
use Rattle.cil_code.specs.Bodies.{BodyPart}
use Rattle.file_tables.specs.File.{FilePart}
use Rattle.machine.specs.Data.{ClassOf}
use Rattle.machine.specs.Program.{Method}
use Rattle.classes.specs.Classes.{Classes}
use Rattle.world_rows.specs.World.{ecma_sources}
use Rattle.code_rules.specs.Judgement.{lattice_of}
use Rattle.verdict_rules.specs.World.{World, exception_of, world_of}
use Rattle.place_types.specs.Types.{Agrees as OrderAgrees, place_of, place_up, type_of, type_up}
use Rattle.verify_ops.specs.Facts.{result_of}
use Rattle.ecma_effects.specs.Known.{AllLoaded}
use Rattle.class_table.specs.Seen.{classes_seen}
use Rattle.cil_types.specs.Spelt.{AreSpelt}
use Rattle.forward_pass.specs.Seen.{Agrees, LieFrom}
use Rattle.pass_steps.specs.Listed.{steps_here}
use Rattle.pass_steps.specs.Seen.{fits_seen, stack_seen}
use Rattle.pass_steps.proofs.StepLaws.{all_lie}
use Rattle.world_lattice.specs.Order.{Merges, is_assignable}
use Rattle.world_lattice.proofs.OrderLaws.{instruction_order, pass_order}
use Rattle.method_pass.specs.declared.method.MethodSteps.{MethodSteps}
use Rattle.method_pass.specs.Known.{IsKnownMethod}
use Rattle.method_pass.specs.Steps.{AreSteps}
use Rattle.method_pass.proofs.BeforeLaws.{AreKept, are_kept}

-- a rule that an effect breaks
pub broke : {A : Type 0} (done : Result A OpRefusal) (k : OpRefusal) (rule : ℕ) (before after : List WorldType) (effect : Result (List StackType) ℕ) → Leaves {A = A} (Err k) before after effect → k ≡ refusal.Broken rule → effect ≡ Err rule
broke {A = A} done k rule before after effect leaves e = (subst (λ r. Leaves {A = A} (Err r) before after effect) e leaves).0

pub order_agrees : (files : List FilePart) (cs : Classes) → cs ≡ (ecma_sources files).classes → AreSpelt (ecma_sources files).classes → Agrees stack_seen (is_assignable cs) (Merges cs) (lattice_of (ecma_sources files))
order_agrees files cs e spelt = subst (λ k. Agrees stack_seen (is_assignable k) (Merges k) (lattice_of (ecma_sources files))) (sym e) (pass_order (ecma_sources files) spelt)

pub instructions_agree : (files : List FilePart) (cs : Classes) → cs ≡ (ecma_sources files).classes → OrderAgrees (is_assignable cs) (fits_seen (ecma_sources files))
instructions_agree files cs e = subst (λ k. OrderAgrees (is_assignable k) (fits_seen (ecma_sources files))) (sym e) (instruction_order (ecma_sources files))

pub steps_lie : (files : List FilePart) (file row : ℕ) (x : FilePart) (m : Method) (b : BodyPart) (size : ℕ) → IsKnownMethod files file row x m b → size ≡ length b.code → LieFrom (steps_here (world_of files) file x m b) 0 size
steps_lie files file row x m b size known e =
    subst (LieFrom (steps_here (world_of files) file x m b) 0) (sym e) (all_lie (world_of files) file x m b (are_kept (world_of files) file x m b known.before).fault)

module _ (s : MethodSteps) (row : ℕ) (x : FilePart) (m : Method) (known : IsKnownMethod s.world.now s.file row x m s.listing.now) where
  abbrev w : World
  w = world_of s.world.now

  pub steps_known : AllLoaded m.arguments → map place_of s.arguments.now ≡ map place_up m.arguments → map place_of s.locals.now ≡ map place_up m.locals → result_of s.result ≡ option_map place_up m.returns → type_of s.exception ≡ type_up (ClassOf (exception_of w)) → classes_seen s.lattice.now ≡ (ecma_sources s.world.now).classes → AreSteps s (steps_here w s.file x m s.listing.now)
  steps_known loaded arguments locals result exception lattice =
      let kept : AreKept s.listing.now = are_kept w s.file x m s.listing.now known.before in
      record {
        part = x;
        method = m;
        part_is = known.part;
        listed_is = refl;
        goes = kept.goes;
        proper = kept.proper;
        arguments = arguments;
        locals = locals;
        result = result;
        exception = exception;
        max_stack = sym known.locals.max_stack;
        arguments_loaded = loaded;
        locals_loaded = known.locals.loaded;
        spelt = known.spelt;
        operands = known.operands;
        lattice = lattice;
      }
