-- What an instruction makes of a stack of the code, as the pass's step.
use Rattle.std.proofs.Common.{◌≡◌, ℕ, Bool, true, false, List, [], ◌∷◌, ◌++◌, map, Option, Some, None, refl, sym, ap, ◌∙◌}
use Rattle.std.specs.Prelude.{if◌then◌else◌, Result, Ok, Err}
use Rattle.cil_opcodes.specs.declared.shape.Shape.TheVariants.{Nop}
use Rattle.cil_opcodes.specs.declared.shape.Row.{Row}
use Rattle.cil_opcodes.specs.Rows.{row_of}
use Rattle.cil_code.specs.Bodies.{BodyPart}
use Rattle.cil_code.specs.Walk.{Placed}
use Rattle.file_tables.specs.File.{FilePart}
use Rattle.machine.specs.Data.{CliType, ClassOf}
use Rattle.machine.specs.Program.{Program, Method, Instruction}
use Rattle.machine.specs.Rows.{take_arguments}
use Rattle.machine.specs.Throw.{on_some}
use Rattle.machine_typed.specs.Typing.{StackType}
use Rattle.classes.specs.Listed.{program_of}
use Rattle.ecma_types.specs.declared.stack.StackType.{StackType as WorldType}
use Rattle.code_rules.specs.Pass.{Step}
use Rattle.code_rules.specs.Rows as rows
use Rattle.code_rules.specs.Verdict.{operand_fits, numbered, stands, act_of, unless}
use Rattle.place_types.specs.Types.{stack_up, from_top}
use Rattle.verify_ops.specs.declared.facts.Facts.{Facts}
use Rattle.verify_ops.specs.Facts.{instruction_by}
use Rattle.verify_ops.specs.Effects.{effect_by, effect_of, shape_of}
use Rattle.verify_ops.specs.Effects.{lowest as lowest_in, lowest_of as lowest_left}
use Rattle.ecma_effects.specs.Known.{IsKnown, IsWhole}
use Rattle.ecma_effects.specs.Steps.{FitsUp, with_rules, effect_up}
use Rattle.ecma_effects.proofs.Whole.{effect_same}
use Rattle.verdict_rules.specs.World.{World, classes_of, exception_of}
use Rattle.code_tests.specs.Tests.{code_meant}
use Rattle.forward_pass.specs.Seen.{seen_stack}
use Rattle.forward_pass.specs.Told.{lowest_of, Acts}
use Rattle.pass_steps.specs.Listed.{operand_meant, instruction_meant, lowest_unless, IsTold}
use Rattle.pass_steps.specs.Seen.{seen_as, stack_seen, rowed}
use Rattle.pass_steps.proofs.RuleLaws.{lowest_same}
use Rattle.pass_steps.proofs.SeenLaws.{stacks_back, top_first, top_seen, all_have}
use Rattle.pass_steps.proofs.StepLaws.{stands_told}

-- ---- what is refused names a rule

abbrev Names : Result (List StackType) (List ℕ) → Type 0
Names (Ok us) = Unit {0}
Names (Err []) = ⊥
Names (Err (r ∷ rs)) = Unit {0}

broken_names : (rules : List ℕ) (o : Option (List StackType)) → Names (rows.or_broken rules o)
broken_names (r ∷ rs) o = tt
broken_names [] None = tt
broken_names [] (Some us) = tt

short_names : {A : Type 0} (before : List ℕ) (o : Option A) (go : A → Result (List StackType) (List ℕ)) → ((a : A) → Names (go a)) → Names (rows.or_short before o go)
short_names before None go h = tt
short_names before (Some a) go h = h a

sound_names : (b : Bool) (r : Result (List StackType) (List ℕ)) (rule : ℕ) → Names r → Names (if b then r else Err (rule ∷ []))
sound_names true r rule h = h
sound_names false r rule h = tt

judged_names : (r : rows.Row) (most : ℕ) (ts : List StackType) → Names (rows.judged r most ts)
judged_names r most ts =
    sound_names r.sound _ r.rule
    (short_names (rows.over most ts) (take_arguments r.pops ts [])
    (λ t. rows.or_broken (rows.over most ts ++ (rows.too_deep r.rest most r.pushes t.rest ++ (rows.wrong (r.gives t.arguments) ++ rows.not_alone r.rest t.rest))) (on_some (r.gives t.arguments) (λ us. rows.behind r.rest us t.rest)))
    (λ t. broken_names _ (on_some (r.gives t.arguments) (λ us. rows.behind r.rest us t.rest))))

act_names : (p : Program) (exception : CliType) (m : Method) (i : Option Instruction) (ts : List StackType) → Names (act_of p exception m i ts)
act_names p exception m None ts = tt
act_names p exception m (Some i) ts = judged_names (rows.row_of p exception m i) m.max_stack ts

-- ---- an effect, and what the step makes

left_by : (act : Result (List StackType) (List ℕ)) (vs : List StackType) → effect_up (lowest_left act) ≡ Ok vs → (us : List StackType) × (act ≡ Ok us) × (map stack_up us ≡ vs)
left_by (Ok us) vs e = (us, refl, cc e)
left_by (Err rules) vs e = absurd (cc e)

broken_by : (act : Result (List StackType) (List ℕ)) (rule : ℕ) → Names act → effect_up (lowest_left act) ≡ Err rule → (rules : List ℕ) × (act ≡ Err rules) × (lowest_of rules ≡ Some rule)
broken_by (Ok us) rule h e = absurd (cc e)
broken_by (Err []) rule h e = absurd h
broken_by (Err (r ∷ rs)) rule h e =
    let same : lowest_in (r ∷ rs) ≡ rule = cc e in
    (r ∷ rs, refl, ap Some (sym (lowest_same (r ∷ rs)) ∙ same))

all_kept : (a b c : Bool) → lowest_unless a b c ≡ None → (a ≡ true) × (b ≡ true) × (c ≡ true)
all_kept true true true e = (refl, refl, refl)
all_kept true true false e = absurd (cc e)
all_kept true false c e = absurd (cc e)
all_kept false b c e = absurd (cc e)

unbroken : (a b : Bool) (act : Result (List StackType) (List ℕ)) → a ≡ true → b ≡ true → with_rules (unless a 46 ++ unless b 47) act ≡ lowest_left act
unbroken true true act e h = refl
unbroken true false act e h = absurd (cc h)
unbroken false b act e h = absurd (cc e)

module _ (w : World) (file : ℕ) (x : FilePart) (m : Method) (b : BodyPart) (p : Placed) (row : Row) (s : Step) (f : Facts) (fits : CliType → CliType → Bool) (listed : row_of p.instr.op ≡ Some row) (told : IsTold w file x m b p row s) (sound : s.broken ≡ []) (order : FitsUp w.sources fits) (known : IsKnown w.sources (ClassOf (exception_of w)) m (operand_meant w file x b p row) f) (whole : IsWhole row.shape (operand_meant w file x b p row) p.instr.operand) where
  abbrev i : Option Instruction
  i = instruction_meant w file x b p row

  abbrev act : List StackType → Result (List StackType) (List ℕ)
  act ts = act_of (program_of w.sources) (ClassOf (exception_of w)) m i ts

  shaped : shape_of p.instr.op ≡ row.shape
  unfolding shape_of
  shaped = ap (λ o. elim o [ None ↦ Nop | Some r ↦ r.shape ]) listed

  kept : (stands (code_meant w file x b).clauses p.at row.shape i ≡ true) × (operand_fits (classes_of w) row.shape (operand_meant w file x b p row) ≡ true) × (numbered m i ≡ true)
  kept =
      let k = all_kept _ _ _ (sym told.broken ∙ ap lowest_of sound) in
      (stands_told w file x m b p row listed ∙ k.0, k.1, k.2)

  effect_is : (old : List WorldType) → effect_of fits p.instr f (map rowed old) ≡ effect_up (lowest_left (act (seen_stack stack_seen old)))
  effect_is old =
      ap (λ z. effect_by fits f z (instruction_by z p.instr.operand f.operand) (from_top (map rowed old))) shaped
      ∙ (ap (effect_by fits f row.shape (instruction_by row.shape p.instr.operand f.operand)) (top_first old)
      ∙ (effect_same w.sources (ClassOf (exception_of w)) m (code_meant w file x b) p.at (operand_meant w file x b p row) f p.instr.operand fits order known row.shape whole kept.0 (seen_stack stack_seen old) (all_have old)
      ∙ ap effect_up (unbroken (operand_fits (classes_of w) row.shape (operand_meant w file x b p row)) (numbered m i) (act (seen_stack stack_seen old)) kept.1 kept.2)))

  pub leaves : (old new : List WorldType) → effect_of fits p.instr f (map rowed old) ≡ Ok (from_top new) → Acts stack_seen s old new None
  leaves old new e =
      let u = left_by (act (seen_stack stack_seen old)) (from_top new) (sym (effect_is old) ∙ e) in
      told.act (seen_stack stack_seen old) ∙ (u.1 ∙ ap Ok (sym (stacks_back u.0) ∙ (ap (map seen_as) u.2 ∙ top_seen new)))

  pub breaks : (old new : List WorldType) (rule : ℕ) → effect_of fits p.instr f (map rowed old) ≡ Err rule → Acts stack_seen s old new (Some rule)
  breaks old new rule e =
      let u = broken_by (act (seen_stack stack_seen old)) rule (act_names (program_of w.sources) (ClassOf (exception_of w)) m i (seen_stack stack_seen old)) (sym (effect_is old) ∙ e) in
      (u.0, told.act (seen_stack stack_seen old) ∙ u.1, u.2)
