-- The effect of an instruction is the pass's step.
use Rattle.std.proofs.Common.{◌≡◌, ℕ, ℤ, ◌+◌, ◌≤◌, Bool, true, false, List, [], ◌∷◌, ◌++◌, map, length, Option, Some, None, refl, sym, ap, ◌∙◌, arith}
use Rattle.std.specs.Prelude.{if◌then◌else◌, min, nat_lt, slice_get, Result, Ok, Err}
use Rattle.cil_opcodes.specs.declared.shape.Shape.{Shape}
use Rattle.machine.specs.Data.{Id, CliType, PlaceType, Plain, To}
use Rattle.machine.specs.Program.{Program, Method, Instruction, Push, LoadArgument, StoreArgument, LoadArgumentAddress, LoadLocal, StoreLocal, LoadLocalAddress, Call, CallVirtual, NewObject, Return, LoadField, StoreField, LoadFieldAddress, LoadStatic, StoreStatic, LoadStaticAddress}
use Rattle.machine.specs.Rows.{take_arguments, Taken}
use Rattle.machine.specs.Throw.{on_some}
use Rattle.machine_typed.specs.Typing.{StackType, type_of_constant}
use Rattle.classes.specs.Code.{Operand as CodeOperand, MethodCode, Sources}
use Rattle.classes.specs.Listed.{instruction_of, program_of}
use Rattle.code_rules.specs.Rows.{Row, Rest, Keeps, Drops, WantsNone, behind, too_deep, not_alone, wrong, or_broken, over, or_short, judged, named, with_place, address_row, new_row, return_row, row_of}
use Rattle.code_rules.specs.Verdict.{number_fits, numbered, stands, unless, act_of}
use Rattle.code_rules.specs.Verdict.{operand_fits as operand_fits_in}
use Rattle.place_types.specs.Types.{type_of, stack_up}
use Rattle.verify_ops.specs.declared.facts.Facts.{Facts}
use Rattle.verify_ops.specs.Facts.{operand_fits, instruction_by, method_by, program_by}
use Rattle.verify_ops.specs.Effects.{lowest, lowest_of, loads, effect_by}
use Rattle.ecma_effects.specs.Known.{IsWhole, IsKnown}
use Rattle.ecma_effects.specs.Steps.{FitsUp, with_rules, step_effect, effect_up}
use Rattle.ecma_effects.proofs.Rows.{has_never, judged_up, loads_alike}
use Rattle.ecma_effects.proofs.Shapes.{SameRows, same}

-- ---- rules from 46 on

abbrev Low : List ℕ → Type 0
Low rules = 46 ≤ lowest rules

abbrev Named : Row → Type 0
Named r = 46 ≤ r.rule

low_more : (a b : List ℕ) → Low a → Low b → Low (a ++ b)
low_more [] b h k = k
low_more (r ∷ rs) b h k =
    let e : 46 ≤ lowest (rs ++ b) = low_more rs b (omega arith) k in
    omega arith

low_one : (r : ℕ) → 46 ≤ r → Low (r ∷ [])
low_one r h = omega arith

low_none : Low []
low_none = omega arith

low_over : (most : ℕ) (ts : List StackType) → Low (over most ts)
low_over most ts = at (nat_lt most (length ts))
  where
    at : (b : Bool) → Low (if b then 51 ∷ [] else [])
    at true = low_one 51 (omega arith)
    at false = low_none

low_deep : (r : Rest) (most pushes : ℕ) (ts : List StackType) → Low (too_deep r most pushes ts)
low_deep Keeps most pushes ts = at (nat_lt most (pushes + length ts))
  where
    at : (b : Bool) → Low (if b then 51 ∷ [] else [])
    at true = low_one 51 (omega arith)
    at false = low_none
low_deep Drops most pushes ts = low_none
low_deep WantsNone most pushes ts = low_none

low_wrong : (o : Option (List StackType)) → Low (wrong o)
low_wrong None = low_one 53 (omega arith)
low_wrong (Some us) = low_none

low_alone : (r : Rest) (ts : List StackType) → Low (not_alone r ts)
low_alone Keeps ts = low_none
low_alone Drops ts = low_none
low_alone WantsNone [] = low_none
low_alone WantsNone (t ∷ ts) = low_one 54 (omega arith)

abbrev LowRules : Result (List StackType) (List ℕ) → Type 0
LowRules (Ok us) = Unit {0}
LowRules (Err rules) = Low rules

low_broken : (rules : List ℕ) (o : Option (List StackType)) → Low rules → LowRules (or_broken rules o)
low_broken (r ∷ rs) o h = h
low_broken [] None h = low_one 53 (omega arith)
low_broken [] (Some us) h = tt

low_judged : (r : Row) (most : ℕ) (ts : List StackType) → Named r → LowRules (judged r most ts)
low_judged r most ts h = at r.sound
  where
    short : (o : Option (Taken StackType)) → LowRules (or_short (over most ts) o (λ t. or_broken (over most ts ++ (too_deep r.rest most r.pushes t.rest ++ (wrong (r.gives t.arguments) ++ not_alone r.rest t.rest))) (on_some (r.gives t.arguments) (λ us. behind r.rest us t.rest))))
    short None = low_more (50 ∷ []) (over most ts) (low_one 50 (omega arith)) (low_over most ts)
    short (Some t) =
        low_broken _ (on_some (r.gives t.arguments) (λ us. behind r.rest us t.rest))
        (low_more (over most ts) _ (low_over most ts)
        (low_more (too_deep r.rest most r.pushes t.rest) _ (low_deep r.rest most r.pushes t.rest)
        (low_more (wrong (r.gives t.arguments)) _ (low_wrong (r.gives t.arguments)) (low_alone r.rest t.rest))))

    at : (b : Bool) → LowRules (if b then or_short (over most ts) (take_arguments r.pops ts []) (λ t. or_broken (over most ts ++ (too_deep r.rest most r.pushes t.rest ++ (wrong (r.gives t.arguments) ++ not_alone r.rest t.rest))) (on_some (r.gives t.arguments) (λ us. behind r.rest us t.rest))) else Err (r.rule ∷ []))
    at true = short (take_arguments r.pops ts [])
    at false = low_one r.rule h

known_rule : 46 ≤ 46
known_rule = omega arith

named_rule : {A : Type 0} (o : Option A) (make : A → Row) → ((a : A) → Named (make a)) → Named (named o make)
named_rule None make f = known_rule
named_rule (Some a) make f = f a

place_rule : (o : Option PlaceType) (make : PlaceType → Row) → ((k : PlaceType) → Named (make k)) → Named (with_place o make)
place_rule None make f = omega arith
place_rule (Some k) make f = f k

address_rule : (k : PlaceType) → Named (address_row k)
address_rule (Plain t) = known_rule
address_rule (To t) = known_rule

return_rule : (p : Program) (o : Option PlaceType) → Named (return_row p o)
return_rule p None = known_rule
return_rule p (Some k) = known_rule

new_rule : (p : Program) (class : Id) (c : Method) (ks : List PlaceType) → Named (new_row p class c ks)
new_rule p class c [] = known_rule
new_rule p class c (k ∷ ks) = known_rule

row_rule : (p : Program) (exception : CliType) (m : Method) (i : Instruction) → Named (row_of p exception m i)
row_rule p exception m (Push v) = named_rule (type_of_constant p v) _ (λ t. known_rule)
row_rule p exception m (LoadArgument n) = place_rule (slice_get m.arguments n) _ (λ k. known_rule)
row_rule p exception m (StoreArgument n) = place_rule (slice_get m.arguments n) _ (λ k. known_rule)
row_rule p exception m (LoadArgumentAddress n) = place_rule (slice_get m.arguments n) _ address_rule
row_rule p exception m (LoadLocal n) = place_rule (slice_get m.locals n) _ (λ k. known_rule)
row_rule p exception m (StoreLocal n) = place_rule (slice_get m.locals n) _ (λ k. known_rule)
row_rule p exception m (LoadLocalAddress n) = place_rule (slice_get m.locals n) _ address_rule
row_rule p exception m (Call id) = named_rule (p.method id) _ (λ c. known_rule)
row_rule p exception m (CallVirtual id) = named_rule (p.method id) _ (λ c. known_rule)
row_rule p exception m (NewObject class constructor) = named_rule (p.method constructor) _ (λ c. named_rule (p.fields class) _ (λ ts. new_rule p class c c.arguments))
row_rule p exception m Return = return_rule p m.returns
row_rule p exception m (LoadField owner n) = named_rule (p.fields owner) _ (λ ts. named_rule (slice_get ts n) _ (λ t. known_rule))
row_rule p exception m (StoreField owner n) = named_rule (p.fields owner) _ (λ ts. named_rule (slice_get ts n) _ (λ t. known_rule))
row_rule p exception m (LoadFieldAddress owner n) = named_rule (p.fields owner) _ (λ ts. named_rule (slice_get ts n) _ (λ t. known_rule))
row_rule p exception m (LoadStatic id) = named_rule (p.static id) _ (λ t. known_rule)
row_rule p exception m (StoreStatic id) = named_rule (p.static id) _ (λ t. known_rule)
row_rule p exception m (LoadStaticAddress id) = named_rule (p.static id) _ (λ t. known_rule)
row_rule p exception m _ = known_rule

-- an act breaks none below 46
pub low_act : (p : Program) (exception : CliType) (m : Method) (i : Option Instruction) (ts : List StackType) → LowRules (act_of p exception m i ts)
low_act p exception m None ts = low_one 46 known_rule
low_act p exception m (Some i) ts = low_judged (row_of p exception m i) m.max_stack ts (row_rule p exception m i)

-- ---- refusals

refused : (b : Bool) (act : Result (List StackType) (List ℕ)) → LowRules act → with_rules (46 ∷ unless b 47) act ≡ Err 46
refused true (Ok us) h = refl
refused false (Ok us) h = refl
refused true (Err rules) h =
    let e : min 46 (lowest rules) ≡ 46 = omega arith in
    ap Err e
refused false (Err rules) h =
    let e : min 46 (min 47 (lowest rules)) ≡ 46 = omega arith in
    ap Err e

result_up : (r : Result (List StackType) (List ℕ)) → lowest_of (judged_up r) ≡ effect_up (lowest_of r)
result_up (Ok us) = refl
result_up (Err rules) = refl

-- by the two tests alone
effect_tested : (fits : CliType → CliType → Bool) (f : Facts) (s : Shape) (i : Option Instruction) (ts : List StackType) (a b : Bool) → operand_fits s f.operand ≡ a → numbered (method_by f) i ≡ b
    → effect_by fits f s i ts ≡ (if a then (if b then lowest_of (loads (act_of (program_by fits f.operand) (type_of f.exception) (method_by f) i ts)) else Err 47) else Err 46)
effect_tested fits f s i ts a b e h =
    ap (λ c. if c then (if numbered (method_by f) i then lowest_of (loads (act_of (program_by fits f.operand) (type_of f.exception) (method_by f) i ts)) else Err 47) else Err 46) e
    ∙ ap (λ c. if a then (if c then lowest_of (loads (act_of (program_by fits f.operand) (type_of f.exception) (method_by f) i ts)) else Err 47) else Err 46) h

step_tested : (x : Sources) (exception : CliType) (m : Method) (s : Shape) (o : CodeOperand) (i : Option Instruction) (ts : List StackType) (a b : Bool) → operand_fits_in x.classes s o ≡ a → numbered m i ≡ b
    → step_effect x exception m s o i ts ≡ with_rules (unless a 46 ++ unless b 47) (act_of (program_of x) exception m i ts)
step_tested x exception m s o i ts a b e h =
    ap (λ c. with_rules (unless c 46 ++ unless (numbered m i) 47) (act_of (program_of x) exception m i ts)) e
    ∙ ap (λ c. with_rules (unless a 46 ++ unless c 47) (act_of (program_of x) exception m i ts)) h

unsound : (r : Row) (most : ℕ) (ts : List StackType) → r.sound ≡ false → r.rule ≡ 47 → judged r most ts ≡ Err (47 ∷ [])
unsound r most ts e h =
    ap (λ b. if b then or_short (over most ts) (take_arguments r.pops ts []) (λ t. or_broken (over most ts ++ (too_deep r.rest most r.pushes t.rest ++ (wrong (r.gives t.arguments) ++ not_alone r.rest t.rest))) (on_some (r.gives t.arguments) (λ us. behind r.rest us t.rest))) else Err (r.rule ∷ [])) e
    ∙ ap (λ n. Err (n ∷ [])) h

module _ (x : Sources) (exception : CliType) (m : Method) (code : MethodCode) (at : ℕ) (o : CodeOperand) (f : Facts) (n : ℤ) (fits : CliType → CliType → Bool) (order : FitsUp x fits) (known : IsKnown x exception m o f) where
  abbrev here : Shape → Option Instruction
  here s = instruction_of x.classes code at s o

  abbrev there : Shape → Option Instruction
  there s = instruction_by s n f.operand

  with_rows : (s : Shape) (ts : List StackType) → has_never ts ≡ false → operand_fits s f.operand ≡ true → operand_fits_in x.classes s o ≡ true → (r : SameRows x exception m code at o f n fits s) → (b : Bool) → number_fits m r.mine ≡ b
      → effect_by fits f s (Some r.theirs) (map stack_up ts) ≡ effect_up (step_effect x exception m s o (Some r.mine) ts)
  with_rows s ts h e k r true b =
      effect_tested fits f s (Some r.theirs) (map stack_up ts) true true e (r.number ∙ b)
      ∙ (ap (λ most. lowest_of (loads (judged (row_of (program_by fits f.operand) (type_of f.exception) (method_by f) r.theirs) most (map stack_up ts)))) known.max_stack
      ∙ (ap lowest_of (loads_alike (row_of (program_of x) exception m r.mine) (row_of (program_by fits f.operand) (type_of f.exception) (method_by f) r.theirs) m.max_stack ts r.alike h)
      ∙ (result_up (judged (row_of (program_of x) exception m r.mine) m.max_stack ts)
      ∙ sym (ap effect_up (step_tested x exception m s o (Some r.mine) ts true true k b)))))
  with_rows s ts h e k r false b =
      effect_tested fits f s (Some r.theirs) (map stack_up ts) true false e (r.number ∙ b)
      ∙ sym (ap effect_up (step_tested x exception m s o (Some r.mine) ts true false k b ∙ ap (with_rules (47 ∷ [])) (unsound (row_of (program_of x) exception m r.mine) m.max_stack ts ((r.broken b).0) ((r.broken b).1))))

  pub effect_same : (s : Shape) → IsWhole s o n → stands code.clauses at s (here s) ≡ true → (ts : List StackType) → has_never ts ≡ false → effect_by fits f s (there s) (map stack_up ts) ≡ effect_up (step_effect x exception m s o (here s) ts)
  effect_same s whole well ts h = by (operand_fits_in x.classes s o) refl
    where
      by : (b : Bool) → operand_fits_in x.classes s o ≡ b → effect_by fits f s (there s) (map stack_up ts) ≡ effect_up (step_effect x exception m s o (here s) ts)
      by true e =
          let k = same x exception m code at o f n fits order known s in
          let r = k.rows e whole well in
          ap (λ z. effect_by fits f s z (map stack_up ts)) r.there
          ∙ (with_rows s ts h (k.takes ∙ e) e r (number_fits m r.mine) refl
          ∙ sym (ap (λ z. effect_up (step_effect x exception m s o z ts)) r.here))
      by false e =
          let k = same x exception m code at o f n fits order known s in
          effect_tested fits f s (there s) (map stack_up ts) false (numbered (method_by f) (there s)) (k.takes ∙ e) refl
          ∙ sym (ap effect_up (step_tested x exception m s o (here s) ts false (numbered m (here s)) e refl ∙ refused (numbered m (here s)) (act_of (program_of x) exception m (here s) ts) (low_act (program_of x) exception m (here s) ts)))
