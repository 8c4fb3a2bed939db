-- Which instructions have the number of an argument or a local.
use Rattle.std.proofs.Common.{◌≡◌, ℕ, ℤ, Bool, true, false, List, [], map, length, Option, Some, None, refl, sym, ap}
use Rattle.std.specs.Prelude.{nat_lt, unsigned_abs, if◌then◌else◌}
use Rattle.std.specs.Option.{option_map}
use Rattle.std.proofs.lemmas.List.{length-map}
use Rattle.cil_opcodes.specs.declared.shape.Shape.{Shape}
use Rattle.cil_opcodes.specs.declared.shape.Shape.TheVariants as shape
use Rattle.ecma_types.specs.declared.stack.PlaceType.{PlaceType as WorldPlace}
use Rattle.machine.specs.Program.{Method, Instruction, LoadText}
use Rattle.code_rules.specs.Verdict.{number_fits, numbered}
use Rattle.place_types.specs.Types.{place_of}
use Rattle.verify_ops.specs.declared.facts.Facts.{Facts}
use Rattle.verify_ops.specs.Facts.{access_named, field_named, instruction_by, method_by, method_named, names_text, number_or, type_named}
use Rattle.operand_rules.specs.Numbers.{counts}

within : (n : ℕ) (places : List WorldPlace) → nat_lt n (length places) ≡ nat_lt n (length (map place_of places))
within n places = ap (nat_lt n) (sym (length-map places place_of))

-- an instruction without such a number
free : {A : Type 0} (m : Method) (o : Option A) (make : A → Instruction) → ((a : A) → number_fits m (make a) ≡ true) → true ≡ numbered m (option_map make o)
free m None make h = refl
free m (Some a) make h = sym (h a)

pub counted : (f : Facts) (s : Shape) (n : ℤ) → counts f s n ≡ numbered (method_by f) (instruction_by s n f.operand)
counted f (shape.LoadArgument k) n = within (number_or k n) f.arguments.now
counted f shape.LoadArgumentAddress n = within (unsigned_abs n) f.arguments.now
counted f shape.StoreArgument n = within (unsigned_abs n) f.arguments.now
counted f (shape.LoadLocal k) n = within (number_or k n) f.locals.now
counted f (shape.StoreLocal k) n = within (number_or k n) f.locals.now
counted f shape.LoadLocalAddress n = within (unsigned_abs n) f.locals.now
counted f shape.Call n = free (method_by f) (method_named f.operand) _ (λ a. refl)
counted f shape.CallVirtual n = free (method_by f) (method_named f.operand) _ (λ a. refl)
counted f shape.NewObject n = free (method_by f) (method_named f.operand) _ (λ a. refl)
counted f (shape.LoadIndirect a) n = free (method_by f) (access_named a f.operand) _ (λ a. refl)
counted f (shape.StoreIndirect a) n = free (method_by f) (access_named a f.operand) _ (λ a. refl)
counted f (shape.LoadElement a) n = free (method_by f) (access_named a f.operand) _ (λ a. refl)
counted f (shape.StoreElement a) n = free (method_by f) (access_named a f.operand) _ (λ a. refl)
counted f shape.LoadString n = text (method_by f) (names_text f.operand)
  where
    text : (m : Method) (b : Bool) → true ≡ numbered m (if b then Some (LoadText []) else None)
    text m true = refl
    text m false = refl
counted f shape.CastClass n = free (method_by f) (type_named f.operand) _ (λ a. refl)
counted f shape.IsInstance n = free (method_by f) (type_named f.operand) _ (λ a. refl)
counted f shape.Box n = free (method_by f) (type_named f.operand) _ (λ a. refl)
counted f shape.Unbox n = free (method_by f) (type_named f.operand) _ (λ a. refl)
counted f shape.UnboxAny n = free (method_by f) (type_named f.operand) _ (λ a. refl)
counted f shape.NewArray n = free (method_by f) (type_named f.operand) _ (λ a. refl)
counted f shape.LoadElementAddress n = free (method_by f) (type_named f.operand) _ (λ a. refl)
counted f shape.LoadField n = free (method_by f) (field_named f.operand) _ (λ a. refl)
counted f shape.LoadFieldAddress n = free (method_by f) (field_named f.operand) _ (λ a. refl)
counted f shape.StoreField n = free (method_by f) (field_named f.operand) _ (λ a. refl)
counted f shape.LoadStatic n = free (method_by f) (field_named f.operand) _ (λ a. refl)
counted f shape.LoadStaticAddress n = free (method_by f) (field_named f.operand) _ (λ a. refl)
counted f shape.StoreStatic n = free (method_by f) (field_named f.operand) _ (λ a. refl)
counted f shape.LoadToken n = free (method_by f) (field_named f.operand) _ (λ a. refl)
counted f _ n = refl
