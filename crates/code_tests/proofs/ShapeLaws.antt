-- Where an instruction goes, by its shape.
use Rattle.std.proofs.Common.{◌≡◌, ℕ, Bool, true, false, List, [], ◌∷◌, map, Option, Some, None, refl, ap}
use Rattle.std.specs.Prelude.{ℤ, pos, not, unsigned_abs}
use Rattle.std.specs.List.{position}
use Rattle.std.specs.Option.{option_map}
use Rattle.cil_opcodes.specs.declared.shape.Shape.{Shape}
use Rattle.cil_opcodes.specs.declared.shape.Shape.TheVariants as shapes
use Rattle.cil_opcodes.specs.Rows.{is_transfer}
use Rattle.machine.specs.Data.{Id, id_eq, Int, Long, Handle}
use Rattle.machine.specs.Program.{Instruction, Branch, BranchIf, BranchCompare, Switch, Leave, Push, LoadArgument, StoreArgument, LoadArgumentAddress, LoadLocal, StoreLocal, LoadLocalAddress, Call, CallVirtual, NewObject, LoadField, StoreField, LoadFieldAddress, LoadStatic, StoreStatic, LoadStaticAddress, LoadText, LoadIndirect, StoreIndirect, NewArray, LoadElement, StoreElement, LoadElementAddress, CastClass, IsInstance, Box, Unbox, UnboxAny, Rethrow, EndFinally}
use Rattle.machine.specs.Throw.{on_some}
use Rattle.classes.specs.Classes.{Classes}
use Rattle.classes.specs.Code.{Operand, Targets, MethodCode}
use Rattle.classes.specs.Listed.{own_or, number_of, target_of, targets_of, target_place, type_of_operand, field_of, method_of, text_of, access_of, innermost, is_catch_kind, is_finally_kind, instruction_of}
use Rattle.classes.specs.Queries.{instance_fields}
use Rattle.code_rules.specs.Flow.{targets, falls}
use Rattle.code_tests.specs.Tests.{goes_to}
use Rattle.code_places.proofs.Table.{is_branch, is_switch}

quiet : {A : Type 0} (f : A → Instruction) → ((a : A) → targets (f a) ≡ []) → (o : Option A) → goes_to (option_map f o) ≡ []
quiet f h None = refl
quiet f h (Some a) = h a

quiet_on : {A : Type 0} (g : A → Option Instruction) → ((a : A) → goes_to (g a) ≡ []) → (o : Option A) → goes_to (on_some o g) ≡ []
quiet_on g h None = refl
quiet_on g h (Some a) = h a

steady : {A : Type 0} (f : A → Instruction) (b : Bool) → ((a : A) → falls (f a) ≡ b) → (o : Option A) → option_map falls (option_map f o) ≡ option_map (λ i. b) (option_map f o)
steady f b h None = refl
steady f b h (Some a) = ap Some (h a)

steady_on : {A : Type 0} (b : Bool) (g : A → Option Instruction) → ((a : A) → option_map falls (g a) ≡ option_map (λ i. b) (g a)) → (o : Option A) → option_map falls (on_some o g) ≡ option_map (λ i. b) (on_some o g)
steady_on b g h None = refl
steady_on b g h (Some a) = h a

module _ (cs : Classes) (code : MethodCode) (at : ℕ) where
  abbrev pub goes : Shape → Operand → List ℕ
  goes s o = goes_to (instruction_of cs code at s o)

  of_field : (make : Id → ℕ → Instruction) → ((owner : Id) (n : ℕ) → targets (make owner n) ≡ []) → (f : Id) → goes_to (on_some (cs.field_owner f) (λ owner. option_map (make owner) (position (λ g. id_eq g.id f) (instance_fields cs owner)))) ≡ []
  of_field make h f = quiet_on (λ owner. option_map (make owner) (position (λ g. id_eq g.id f) (instance_fields cs owner))) (λ owner. quiet (make owner) (h owner) (position (λ g. id_eq g.id f) (instance_fields cs owner))) (cs.field_owner f)

  of_field_on : (make : Id → ℕ → Instruction) → ((owner : Id) (n : ℕ) → falls (make owner n) ≡ true) → (f : Id) → option_map falls (on_some (cs.field_owner f) (λ owner. option_map (make owner) (position (λ g. id_eq g.id f) (instance_fields cs owner)))) ≡ option_map (λ i. true) (on_some (cs.field_owner f) (λ owner. option_map (make owner) (position (λ g. id_eq g.id f) (instance_fields cs owner))))
  of_field_on make h f = steady_on true (λ owner. option_map (make owner) (position (λ g. id_eq g.id f) (instance_fields cs owner))) (λ owner. steady (make owner) true (h owner) (position (λ g. id_eq g.id f) (instance_fields cs owner))) (cs.field_owner f)

  -- any other
  pub stays : (s : Shape) → is_branch s ≡ false → is_switch s ≡ false → (o : Operand) → goes s o ≡ []
  stays shapes.Nop e f o = refl
  stays (shapes.LoadArgument n) e f o = quiet (λ (k : ℤ). LoadArgument (unsigned_abs k)) (λ a. refl) (own_or n pos o)
  stays shapes.LoadArgumentAddress e f o = quiet (λ (k : ℤ). LoadArgumentAddress (unsigned_abs k)) (λ a. refl) (number_of o)
  stays shapes.StoreArgument e f o = quiet (λ (k : ℤ). StoreArgument (unsigned_abs k)) (λ a. refl) (number_of o)
  stays (shapes.LoadLocal n) e f o = quiet (λ (k : ℤ). LoadLocal (unsigned_abs k)) (λ a. refl) (own_or n pos o)
  stays (shapes.StoreLocal n) e f o = quiet (λ (k : ℤ). StoreLocal (unsigned_abs k)) (λ a. refl) (own_or n pos o)
  stays shapes.LoadLocalAddress e f o = quiet (λ (k : ℤ). LoadLocalAddress (unsigned_abs k)) (λ a. refl) (number_of o)
  stays shapes.LoadNull e f o = refl
  stays (shapes.LoadInt32 n) e f o = quiet (λ (k : ℤ). Push (Int k)) (λ a. refl) (own_or n (λ k. k) o)
  stays shapes.LoadInt64 e f o = quiet (λ (k : ℤ). Push (Long k)) (λ a. refl) (number_of o)
  stays shapes.Duplicate e f o = refl
  stays shapes.Pop e f o = refl
  stays shapes.Call e f o = quiet Call (λ a. refl) (method_of o)
  stays shapes.CallVirtual e f o = quiet CallVirtual (λ a. refl) (method_of o)
  stays shapes.NewObject e f o = quiet_on (λ m. option_map (λ (owner : Id). NewObject owner m) (cs.method_owner m)) (λ m. quiet (λ (owner : Id). NewObject owner m) (λ owner. refl) (cs.method_owner m)) (method_of o)
  stays shapes.Return e f o = refl
  stays shapes.Branch e f o = absurd cc
  stays (shapes.BranchIf on) e f o = absurd cc
  stays (shapes.BranchCompare comparison on) e f o = absurd cc
  stays shapes.Switch e f o = absurd cc
  stays (shapes.LoadIndirect a) e f o = quiet LoadIndirect (λ a. refl) (access_of cs a o)
  stays (shapes.StoreIndirect a) e f o = quiet StoreIndirect (λ a. refl) (access_of cs a o)
  stays (shapes.Binary operator) e f o = refl
  stays (shapes.Shift operator) e f o = refl
  stays (shapes.Unary operator) e f o = refl
  stays (shapes.Compare comparison) e f o = refl
  stays (shapes.Convert integer) e f o = refl
  stays (shapes.ConvertChecked integer source) e f o = refl
  stays shapes.LoadString e f o = quiet LoadText (λ a. refl) (text_of o)
  stays shapes.CastClass e f o = quiet CastClass (λ a. refl) (type_of_operand cs o)
  stays shapes.IsInstance e f o = quiet IsInstance (λ a. refl) (type_of_operand cs o)
  stays shapes.Box e f o = quiet Box (λ a. refl) (type_of_operand cs o)
  stays shapes.Unbox e f o = quiet Unbox (λ a. refl) (type_of_operand cs o)
  stays shapes.UnboxAny e f o = quiet UnboxAny (λ a. refl) (type_of_operand cs o)
  stays shapes.Throw e f o = refl
  stays shapes.Rethrow e f o = quiet Rethrow (λ a. refl) (innermost is_catch_kind code at)
  stays shapes.Leave e f o = absurd cc
  stays shapes.EndFinally e f o = quiet EndFinally (λ a. refl) (innermost is_finally_kind code at)
  stays shapes.LoadField e f o = quiet_on (λ f. on_some (cs.field_owner f) (λ owner. option_map (LoadField owner) (position (λ g. id_eq g.id f) (instance_fields cs owner)))) (of_field LoadField (λ owner n. refl)) (field_of o)
  stays shapes.LoadFieldAddress e f o = quiet_on (λ f. on_some (cs.field_owner f) (λ owner. option_map (LoadFieldAddress owner) (position (λ g. id_eq g.id f) (instance_fields cs owner)))) (of_field LoadFieldAddress (λ owner n. refl)) (field_of o)
  stays shapes.StoreField e f o = quiet_on (λ f. on_some (cs.field_owner f) (λ owner. option_map (StoreField owner) (position (λ g. id_eq g.id f) (instance_fields cs owner)))) (of_field StoreField (λ owner n. refl)) (field_of o)
  stays shapes.LoadStatic e f o = quiet LoadStatic (λ a. refl) (field_of o)
  stays shapes.LoadStaticAddress e f o = quiet LoadStaticAddress (λ a. refl) (field_of o)
  stays shapes.StoreStatic e f o = quiet StoreStatic (λ a. refl) (field_of o)
  stays shapes.NewArray e f o = quiet NewArray (λ a. refl) (type_of_operand cs o)
  stays shapes.LoadLength e f o = refl
  stays (shapes.LoadElement a) e f o = quiet LoadElement (λ a. refl) (access_of cs a o)
  stays (shapes.StoreElement a) e f o = quiet StoreElement (λ a. refl) (access_of cs a o)
  stays shapes.LoadElementAddress e f o = quiet LoadElementAddress (λ a. refl) (type_of_operand cs o)
  stays shapes.LoadToken e f o = quiet (λ (f : Id). Push (Handle f)) (λ a. refl) (field_of o)

  -- a branch or a leave
  pub branches : (s : Shape) → is_branch s ≡ true → (z : ℤ) → goes s (Targets (z ∷ [])) ≡ target_place z ∷ []
  branches shapes.Nop e z = absurd cc
  branches (shapes.LoadArgument n) e z = absurd cc
  branches shapes.LoadArgumentAddress e z = absurd cc
  branches shapes.StoreArgument e z = absurd cc
  branches (shapes.LoadLocal n) e z = absurd cc
  branches (shapes.StoreLocal n) e z = absurd cc
  branches shapes.LoadLocalAddress e z = absurd cc
  branches shapes.LoadNull e z = absurd cc
  branches (shapes.LoadInt32 n) e z = absurd cc
  branches shapes.LoadInt64 e z = absurd cc
  branches shapes.Duplicate e z = absurd cc
  branches shapes.Pop e z = absurd cc
  branches shapes.Call e z = absurd cc
  branches shapes.CallVirtual e z = absurd cc
  branches shapes.NewObject e z = absurd cc
  branches shapes.Return e z = absurd cc
  branches shapes.Branch e z = refl
  branches (shapes.BranchIf on) e z = refl
  branches (shapes.BranchCompare comparison on) e z = refl
  branches shapes.Switch e z = absurd cc
  branches (shapes.LoadIndirect a) e z = absurd cc
  branches (shapes.StoreIndirect a) e z = absurd cc
  branches (shapes.Binary operator) e z = absurd cc
  branches (shapes.Shift operator) e z = absurd cc
  branches (shapes.Unary operator) e z = absurd cc
  branches (shapes.Compare comparison) e z = absurd cc
  branches (shapes.Convert integer) e z = absurd cc
  branches (shapes.ConvertChecked integer source) e z = absurd cc
  branches shapes.LoadString e z = absurd cc
  branches shapes.CastClass e z = absurd cc
  branches shapes.IsInstance e z = absurd cc
  branches shapes.Box e z = absurd cc
  branches shapes.Unbox e z = absurd cc
  branches shapes.UnboxAny e z = absurd cc
  branches shapes.Throw e z = absurd cc
  branches shapes.Rethrow e z = absurd cc
  branches shapes.Leave e z = refl
  branches shapes.EndFinally e z = absurd cc
  branches shapes.LoadField e z = absurd cc
  branches shapes.LoadFieldAddress e z = absurd cc
  branches shapes.StoreField e z = absurd cc
  branches shapes.LoadStatic e z = absurd cc
  branches shapes.LoadStaticAddress e z = absurd cc
  branches shapes.StoreStatic e z = absurd cc
  branches shapes.NewArray e z = absurd cc
  branches shapes.LoadLength e z = absurd cc
  branches (shapes.LoadElement a) e z = absurd cc
  branches (shapes.StoreElement a) e z = absurd cc
  branches shapes.LoadElementAddress e z = absurd cc
  branches shapes.LoadToken e z = absurd cc

  pub switches : (s : Shape) → is_switch s ≡ true → (zs : List ℤ) → goes s (Targets zs) ≡ map target_place zs
  switches shapes.Nop e zs = absurd cc
  switches (shapes.LoadArgument n) e zs = absurd cc
  switches shapes.LoadArgumentAddress e zs = absurd cc
  switches shapes.StoreArgument e zs = absurd cc
  switches (shapes.LoadLocal n) e zs = absurd cc
  switches (shapes.StoreLocal n) e zs = absurd cc
  switches shapes.LoadLocalAddress e zs = absurd cc
  switches shapes.LoadNull e zs = absurd cc
  switches (shapes.LoadInt32 n) e zs = absurd cc
  switches shapes.LoadInt64 e zs = absurd cc
  switches shapes.Duplicate e zs = absurd cc
  switches shapes.Pop e zs = absurd cc
  switches shapes.Call e zs = absurd cc
  switches shapes.CallVirtual e zs = absurd cc
  switches shapes.NewObject e zs = absurd cc
  switches shapes.Return e zs = absurd cc
  switches shapes.Branch e zs = absurd cc
  switches (shapes.BranchIf on) e zs = absurd cc
  switches (shapes.BranchCompare comparison on) e zs = absurd cc
  switches shapes.Switch e zs = refl
  switches (shapes.LoadIndirect a) e zs = absurd cc
  switches (shapes.StoreIndirect a) e zs = absurd cc
  switches (shapes.Binary operator) e zs = absurd cc
  switches (shapes.Shift operator) e zs = absurd cc
  switches (shapes.Unary operator) e zs = absurd cc
  switches (shapes.Compare comparison) e zs = absurd cc
  switches (shapes.Convert integer) e zs = absurd cc
  switches (shapes.ConvertChecked integer source) e zs = absurd cc
  switches shapes.LoadString e zs = absurd cc
  switches shapes.CastClass e zs = absurd cc
  switches shapes.IsInstance e zs = absurd cc
  switches shapes.Box e zs = absurd cc
  switches shapes.Unbox e zs = absurd cc
  switches shapes.UnboxAny e zs = absurd cc
  switches shapes.Throw e zs = absurd cc
  switches shapes.Rethrow e zs = absurd cc
  switches shapes.Leave e zs = absurd cc
  switches shapes.EndFinally e zs = absurd cc
  switches shapes.LoadField e zs = absurd cc
  switches shapes.LoadFieldAddress e zs = absurd cc
  switches shapes.StoreField e zs = absurd cc
  switches shapes.LoadStatic e zs = absurd cc
  switches shapes.LoadStaticAddress e zs = absurd cc
  switches shapes.StoreStatic e zs = absurd cc
  switches shapes.NewArray e zs = absurd cc
  switches shapes.LoadLength e zs = absurd cc
  switches (shapes.LoadElement a) e zs = absurd cc
  switches (shapes.StoreElement a) e zs = absurd cc
  switches shapes.LoadElementAddress e zs = absurd cc
  switches shapes.LoadToken e zs = absurd cc

  -- whether control goes on behind it
  pub falls_law : (s : Shape) (o : Operand) → option_map falls (instruction_of cs code at s o) ≡ option_map (λ i. not (is_transfer s)) (instruction_of cs code at s o)
  falls_law shapes.Nop o = refl
  falls_law (shapes.LoadArgument n) o = steady (λ (k : ℤ). LoadArgument (unsigned_abs k)) true (λ a. refl) (own_or n pos o)
  falls_law shapes.LoadArgumentAddress o = steady (λ (k : ℤ). LoadArgumentAddress (unsigned_abs k)) true (λ a. refl) (number_of o)
  falls_law shapes.StoreArgument o = steady (λ (k : ℤ). StoreArgument (unsigned_abs k)) true (λ a. refl) (number_of o)
  falls_law (shapes.LoadLocal n) o = steady (λ (k : ℤ). LoadLocal (unsigned_abs k)) true (λ a. refl) (own_or n pos o)
  falls_law (shapes.StoreLocal n) o = steady (λ (k : ℤ). StoreLocal (unsigned_abs k)) true (λ a. refl) (own_or n pos o)
  falls_law shapes.LoadLocalAddress o = steady (λ (k : ℤ). LoadLocalAddress (unsigned_abs k)) true (λ a. refl) (number_of o)
  falls_law shapes.LoadNull o = refl
  falls_law (shapes.LoadInt32 n) o = steady (λ (k : ℤ). Push (Int k)) true (λ a. refl) (own_or n (λ k. k) o)
  falls_law shapes.LoadInt64 o = steady (λ (k : ℤ). Push (Long k)) true (λ a. refl) (number_of o)
  falls_law shapes.Duplicate o = refl
  falls_law shapes.Pop o = refl
  falls_law shapes.Call o = steady Call true (λ a. refl) (method_of o)
  falls_law shapes.CallVirtual o = steady CallVirtual true (λ a. refl) (method_of o)
  falls_law shapes.NewObject o = steady_on true (λ m. option_map (λ (owner : Id). NewObject owner m) (cs.method_owner m)) (λ m. steady (λ (owner : Id). NewObject owner m) true (λ owner. refl) (cs.method_owner m)) (method_of o)
  falls_law shapes.Return o = refl
  falls_law shapes.Branch o = steady Branch false (λ a. refl) (target_of o)
  falls_law (shapes.BranchIf on) o = steady (BranchIf on) true (λ a. refl) (target_of o)
  falls_law (shapes.BranchCompare comparison on) o = steady (BranchCompare comparison on) true (λ a. refl) (target_of o)
  falls_law shapes.Switch o = steady Switch true (λ a. refl) (targets_of o)
  falls_law (shapes.LoadIndirect a) o = steady LoadIndirect true (λ a. refl) (access_of cs a o)
  falls_law (shapes.StoreIndirect a) o = steady StoreIndirect true (λ a. refl) (access_of cs a o)
  falls_law (shapes.Binary operator) o = refl
  falls_law (shapes.Shift operator) o = refl
  falls_law (shapes.Unary operator) o = refl
  falls_law (shapes.Compare comparison) o = refl
  falls_law (shapes.Convert integer) o = refl
  falls_law (shapes.ConvertChecked integer source) o = refl
  falls_law shapes.LoadString o = steady LoadText true (λ a. refl) (text_of o)
  falls_law shapes.CastClass o = steady CastClass true (λ a. refl) (type_of_operand cs o)
  falls_law shapes.IsInstance o = steady IsInstance true (λ a. refl) (type_of_operand cs o)
  falls_law shapes.Box o = steady Box true (λ a. refl) (type_of_operand cs o)
  falls_law shapes.Unbox o = steady Unbox true (λ a. refl) (type_of_operand cs o)
  falls_law shapes.UnboxAny o = steady UnboxAny true (λ a. refl) (type_of_operand cs o)
  falls_law shapes.Throw o = refl
  falls_law shapes.Rethrow o = steady Rethrow false (λ a. refl) (innermost is_catch_kind code at)
  falls_law shapes.Leave o = steady Leave false (λ a. refl) (target_of o)
  falls_law shapes.EndFinally o = steady EndFinally false (λ a. refl) (innermost is_finally_kind code at)
  falls_law shapes.LoadField o = steady_on true (λ f. on_some (cs.field_owner f) (λ owner. option_map (LoadField owner) (position (λ g. id_eq g.id f) (instance_fields cs owner)))) (of_field_on LoadField (λ owner n. refl)) (field_of o)
  falls_law shapes.LoadFieldAddress o = steady_on true (λ f. on_some (cs.field_owner f) (λ owner. option_map (LoadFieldAddress owner) (position (λ g. id_eq g.id f) (instance_fields cs owner)))) (of_field_on LoadFieldAddress (λ owner n. refl)) (field_of o)
  falls_law shapes.StoreField o = steady_on true (λ f. on_some (cs.field_owner f) (λ owner. option_map (StoreField owner) (position (λ g. id_eq g.id f) (instance_fields cs owner)))) (of_field_on StoreField (λ owner n. refl)) (field_of o)
  falls_law shapes.LoadStatic o = steady LoadStatic true (λ a. refl) (field_of o)
  falls_law shapes.LoadStaticAddress o = steady LoadStaticAddress true (λ a. refl) (field_of o)
  falls_law shapes.StoreStatic o = steady StoreStatic true (λ a. refl) (field_of o)
  falls_law shapes.NewArray o = steady NewArray true (λ a. refl) (type_of_operand cs o)
  falls_law shapes.LoadLength o = refl
  falls_law (shapes.LoadElement a) o = steady LoadElement true (λ a. refl) (access_of cs a o)
  falls_law (shapes.StoreElement a) o = steady StoreElement true (λ a. refl) (access_of cs a o)
  falls_law shapes.LoadElementAddress o = steady LoadElementAddress true (λ a. refl) (type_of_operand cs o)
  falls_law shapes.LoadToken o = steady (λ (f : Id). Push (Handle f)) true (λ a. refl) (field_of o)
