-- Where an instruction may stand and go, by its shape and its targets.
use Rattle.std.proofs.Common.{◌≡◌, ℕ, suc, Bool, true, false, cond, List, [], ◌∷◌, Option, Some, None, refl, sym, ◌∙◌}
use Rattle.std.specs.Prelude.{ℤ, pos, ◌&&◌, ◌||◌, unsigned_abs}
use Rattle.std.specs.List.{list_all, list_any, position}
use Rattle.std.specs.Option.{option_map}
use Rattle.cil_opcodes.specs.declared.shape.Shape.{Shape}
use Rattle.cil_opcodes.specs.declared.shape.Shape.TheVariants as shapes
use Rattle.machine.specs.Data.{Id, id_eq, Int, Long, Handle}
use Rattle.machine.specs.Program.{Instruction, Branch, BranchIf, BranchCompare, Switch, Leave, Push, LoadArgument, StoreArgument, LoadArgumentAddress, LoadLocal, StoreLocal, LoadLocalAddress, Call, CallVirtual, NewObject, LoadField, StoreField, LoadFieldAddress, LoadStatic, StoreStatic, LoadStaticAddress, LoadText, LoadIndirect, StoreIndirect, NewArray, LoadElement, StoreElement, LoadElementAddress, CastClass, IsInstance, Box, Unbox, UnboxAny, Rethrow, EndFinally}
use Rattle.machine.specs.Throw.{on_some}
use Rattle.classes.specs.Classes.{Classes}
use Rattle.classes.specs.Clauses.{may_go, may_leave, stands_in_catch, stands_in_finally}
use Rattle.classes.specs.Code.{Operand, CodeClause, MethodCode}
use Rattle.classes.specs.Listed.{own_or, number_of, target_of, targets_of, type_of_operand, field_of, method_of, text_of, access_of, with_field, innermost, in_handler, is_catch_kind, is_finally_kind, instruction_of}
use Rattle.classes.specs.Queries.{instance_fields}
use Rattle.kept_rows.proofs.SelectLaws.{position_step}
use Rattle.code_rules.specs.Flow.{targets}
use Rattle.code_rules.specs.Verdict.{stands_well, stands_without, stands}
use Rattle.code_tests.specs.Tests.{goes_to}
use Rattle.pass_steps.specs.Listed.{shape_stands}

none_later : (o : Option ℕ) → option_map suc o ≡ None → o ≡ None
none_later None h = refl
none_later (Some n) h = absurd (cc h)

any_by : {A : Type 0} (test : A → Bool) (xs : List A) (b : Bool) → (position test xs ≡ None → list_any test xs ≡ false) → cond b (Some 0) (option_map suc (position test xs)) ≡ None → (b || list_any test xs) ≡ false
any_by test xs true later h = absurd (cc h)
any_by test xs false later h = later (none_later (position test xs) h)

none_any : {A : Type 0} (test : A → Bool) (xs : List A) → position test xs ≡ None → list_any test xs ≡ false
none_any test [] e = refl
none_any test (x ∷ xs) e = any_by test xs (test x) (none_any test xs) (sym (position_step test x xs) ∙ e)

and_true : (b : Bool) → b ≡ (b && true)
and_true true = refl
and_true false = refl

module _ (cs : Classes) (code : MethodCode) (at : ℕ) where
  abbrev cl : List CodeClause
  cl = code.clauses

  by_map : {A : Type 0} (s : Shape) (f : A → Instruction) → stands_without s ≡ true → ((a : A) → stands_well cl at (f a) ≡ list_all (may_go cl at) (targets (f a))) → (o : Option A) → stands cl at s (option_map f o) ≡ list_all (may_go cl at) (goes_to (option_map f o))
  by_map s f w h None = w
  by_map s f w h (Some a) = h a

  by_on : {A : Type 0} (s : Shape) (g : A → Option Instruction) → stands_without s ≡ true → ((a : A) → stands cl at s (g a) ≡ list_all (may_go cl at) (goes_to (g a))) → (o : Option A) → stands cl at s (on_some o g) ≡ list_all (may_go cl at) (goes_to (on_some o g))
  by_on s g w h None = w
  by_on s g w h (Some a) = h a

  of_field : (s : Shape) (make : Id → ℕ → Instruction) → stands_without s ≡ true → ((owner : Id) (n : ℕ) → stands_well cl at (make owner n) ≡ list_all (may_go cl at) (targets (make owner n))) → (o : Operand) → stands cl at s (with_field cs make o) ≡ list_all (may_go cl at) (goes_to (with_field cs make o))
  of_field s make w h o =
      by_on s (λ f. on_some (cs.field_owner f) (λ owner. option_map (make owner) (position (λ g. id_eq g.id f) (instance_fields cs owner)))) w
      (λ f. by_on s (λ owner. option_map (make owner) (position (λ g. id_eq g.id f) (instance_fields cs owner))) w (λ owner. by_map s (make owner) w (h owner) (position (λ g. id_eq g.id f) (instance_fields cs owner))) (cs.field_owner f))
      (field_of o)

  leaves : (o : Option ℕ) → stands cl at shapes.Leave (option_map Leave o) ≡ list_all (may_leave cl at) (goes_to (option_map Leave o))
  leaves None = refl
  leaves (Some to) = and_true (may_leave cl at to)

  rethrows : (o : Option ℕ) → innermost is_catch_kind code at ≡ o → stands cl at shapes.Rethrow (option_map Rethrow o) ≡ stands_in_catch cl at
  rethrows None e = sym (none_any (λ (c : CodeClause). is_catch_kind c.kind && in_handler c at) cl e)
  rethrows (Some k) e = refl

  ends : (o : Option ℕ) → innermost is_finally_kind code at ≡ o → stands cl at shapes.EndFinally (option_map EndFinally o) ≡ stands_in_finally cl at
  ends None e = sym (none_any (λ (c : CodeClause). is_finally_kind c.kind && in_handler c at) cl e)
  ends (Some k) e = refl

  pub stands_law : (s : Shape) (o : Operand) → stands cl at s (instruction_of cs code at s o) ≡ shape_stands cl at s (goes_to (instruction_of cs code at s o))
  stands_law shapes.Nop o = refl
  stands_law (shapes.LoadArgument n) o = by_map (shapes.LoadArgument n) (λ (k : ℤ). LoadArgument (unsigned_abs k)) refl (λ a. refl) (own_or n pos o)
  stands_law shapes.LoadArgumentAddress o = by_map shapes.LoadArgumentAddress (λ (k : ℤ). LoadArgumentAddress (unsigned_abs k)) refl (λ a. refl) (number_of o)
  stands_law shapes.StoreArgument o = by_map shapes.StoreArgument (λ (k : ℤ). StoreArgument (unsigned_abs k)) refl (λ a. refl) (number_of o)
  stands_law (shapes.LoadLocal n) o = by_map (shapes.LoadLocal n) (λ (k : ℤ). LoadLocal (unsigned_abs k)) refl (λ a. refl) (own_or n pos o)
  stands_law (shapes.StoreLocal n) o = by_map (shapes.StoreLocal n) (λ (k : ℤ). StoreLocal (unsigned_abs k)) refl (λ a. refl) (own_or n pos o)
  stands_law shapes.LoadLocalAddress o = by_map shapes.LoadLocalAddress (λ (k : ℤ). LoadLocalAddress (unsigned_abs k)) refl (λ a. refl) (number_of o)
  stands_law shapes.LoadNull o = refl
  stands_law (shapes.LoadInt32 n) o = by_map (shapes.LoadInt32 n) (λ (k : ℤ). Push (Int k)) refl (λ a. refl) (own_or n (λ k. k) o)
  stands_law shapes.LoadInt64 o = by_map shapes.LoadInt64 (λ (k : ℤ). Push (Long k)) refl (λ a. refl) (number_of o)
  stands_law shapes.Duplicate o = refl
  stands_law shapes.Pop o = refl
  stands_law shapes.Call o = by_map shapes.Call Call refl (λ a. refl) (method_of o)
  stands_law shapes.CallVirtual o = by_map shapes.CallVirtual CallVirtual refl (λ a. refl) (method_of o)
  stands_law shapes.NewObject o = by_on shapes.NewObject (λ m. option_map (λ (owner : Id). NewObject owner m) (cs.method_owner m)) refl (λ m. by_map shapes.NewObject (λ (owner : Id). NewObject owner m) refl (λ owner. refl) (cs.method_owner m)) (method_of o)
  stands_law shapes.Return o = refl
  stands_law shapes.Branch o = by_map shapes.Branch Branch refl (λ a. refl) (target_of o)
  stands_law (shapes.BranchIf on) o = by_map (shapes.BranchIf on) (BranchIf on) refl (λ a. refl) (target_of o)
  stands_law (shapes.BranchCompare comparison on) o = by_map (shapes.BranchCompare comparison on) (BranchCompare comparison on) refl (λ a. refl) (target_of o)
  stands_law shapes.Switch o = by_map shapes.Switch Switch refl (λ a. refl) (targets_of o)
  stands_law (shapes.LoadIndirect a) o = by_map (shapes.LoadIndirect a) LoadIndirect refl (λ a. refl) (access_of cs a o)
  stands_law (shapes.StoreIndirect a) o = by_map (shapes.StoreIndirect a) StoreIndirect refl (λ a. refl) (access_of cs a o)
  stands_law (shapes.Binary operator) o = refl
  stands_law (shapes.Shift operator) o = refl
  stands_law (shapes.Unary operator) o = refl
  stands_law (shapes.Compare comparison) o = refl
  stands_law (shapes.Convert integer) o = refl
  stands_law (shapes.ConvertChecked integer source) o = refl
  stands_law shapes.LoadString o = by_map shapes.LoadString LoadText refl (λ a. refl) (text_of o)
  stands_law shapes.CastClass o = by_map shapes.CastClass CastClass refl (λ a. refl) (type_of_operand cs o)
  stands_law shapes.IsInstance o = by_map shapes.IsInstance IsInstance refl (λ a. refl) (type_of_operand cs o)
  stands_law shapes.Box o = by_map shapes.Box Box refl (λ a. refl) (type_of_operand cs o)
  stands_law shapes.Unbox o = by_map shapes.Unbox Unbox refl (λ a. refl) (type_of_operand cs o)
  stands_law shapes.UnboxAny o = by_map shapes.UnboxAny UnboxAny refl (λ a. refl) (type_of_operand cs o)
  stands_law shapes.Throw o = refl
  stands_law shapes.Rethrow o = rethrows (innermost is_catch_kind code at) refl
  stands_law shapes.Leave o = leaves (target_of o)
  stands_law shapes.EndFinally o = ends (innermost is_finally_kind code at) refl
  stands_law shapes.LoadField o = of_field shapes.LoadField LoadField refl (λ owner n. refl) o
  stands_law shapes.LoadFieldAddress o = of_field shapes.LoadFieldAddress LoadFieldAddress refl (λ owner n. refl) o
  stands_law shapes.StoreField o = of_field shapes.StoreField StoreField refl (λ owner n. refl) o
  stands_law shapes.LoadStatic o = by_map shapes.LoadStatic LoadStatic refl (λ a. refl) (field_of o)
  stands_law shapes.LoadStaticAddress o = by_map shapes.LoadStaticAddress LoadStaticAddress refl (λ a. refl) (field_of o)
  stands_law shapes.StoreStatic o = by_map shapes.StoreStatic StoreStatic refl (λ a. refl) (field_of o)
  stands_law shapes.NewArray o = by_map shapes.NewArray NewArray refl (λ a. refl) (type_of_operand cs o)
  stands_law shapes.LoadLength o = refl
  stands_law (shapes.LoadElement a) o = by_map (shapes.LoadElement a) LoadElement refl (λ a. refl) (access_of cs a o)
  stands_law (shapes.StoreElement a) o = by_map (shapes.StoreElement a) StoreElement refl (λ a. refl) (access_of cs a o)
  stands_law shapes.LoadElementAddress o = by_map shapes.LoadElementAddress LoadElementAddress refl (λ a. refl) (type_of_operand cs o)
  stands_law shapes.LoadToken o = by_map shapes.LoadToken (λ (f : Id). Push (Handle f)) refl (λ a. refl) (field_of o)
