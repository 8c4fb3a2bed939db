-- Where ways end, classes answer the machine alike with any more steps.
use Rattle.std.proofs.Common.{◌≡◌, ℕ, zero, suc, ◌≤◌, Bool, true, List, [], ◌∷◌, ◌++◌, Option, Some, None, refl, sym, ap, ◌∙◌, arith}
use Rattle.std.specs.Prelude.{codes, nat_eq, ◌&&◌, ◌||◌, not, unwrap_or}
use Rattle.std.specs.List.{list_all, find, position}
use Rattle.std.specs.Option.{option_map}
use Rattle.std.proofs.Math.Path.{fun_ext}
use Rattle.cil_opcodes.specs.declared.shape.Shape.{Shape}
use Rattle.cil_opcodes.specs.declared.shape.Shape.TheVariants as shape
use Rattle.machine.specs.Data.{Id, id_eq, CliType, ArrayOf, cell_of, type_eq}
use Rattle.machine.specs.Program.{Instruction, LoadField, StoreField, LoadFieldAddress, Line}
use Rattle.machine.specs.Throw.{on_some}
use Rattle.classes.specs.Classes.{OwnField, OwnMethod, Classes, Signature, SigType}
use Rattle.classes.specs.Code.{Operand, CodeLine, MethodCode, Sources}
use Rattle.classes.specs.Listed.{field_of, with_field, instruction_of, needs_of, line_of, method, fetch, try_holds, first, program_of}
use Rattle.classes.specs.Queries.{listed, reaches, ends, above, parents, superclass_of, enclosing_of, is_sub, is_or_implements, chain_within, chain, own_instance_fields, instance_fields_within, instance_fields, own_name, full_name_within, full_name, is_interface, target_by, target, method_at, methods_of, fields_of, field_types, fields, static, bytes, known, basic, array, exception_class, find_method, find_field, is_named, is_field_named, first_some, class_of, is_object, classes_fit, elements_by, fits}
use Rattle.alike.proofs.Lists.{any_alike}
use Rattle.alike.proofs.Chains.{listed_ends, more_chain}
use Rattle.enough_steps.proofs.Rows.{sized}

more_reaches : (next : Id → List Id) (b : Id) (n m : ℕ) (a : Id) → n ≤ m → ends n next a ≡ true → reaches n next a b ≡ reaches m next a b
more_reaches next b zero m a h e = absurd (cc e)
more_reaches next b (suc n) zero a h e = absurd (omega (arith, h))
more_reaches next b (suc n) (suc m) a h e =
    ap (λ x. id_eq a b || x) (any_alike (ends n next) (λ c. reaches n next c b) (λ c. reaches m next c b) (next a) e (λ c t. more_reaches next b n m c (omega (arith, h)) t))

-- what is told along a way on, step by step
more_told : {B : Type 0} (next : Id → Option Id) (told : ℕ → Id → B) (step : Id → Option B → B) → ((n : ℕ) (c : Id) → told (suc n) c ≡ step c (option_map (told n) (next c))) → (n m : ℕ) (c : Id) → n ≤ m → ends n (λ d. listed (next d)) c ≡ true → told n c ≡ told m c
more_told next told step on zero m c h e = absurd (cc e)
more_told next told step on (suc n) zero c h e = absurd (omega (arith, h))
more_told {B} next told step on (suc n) (suc m) c h e = on n c ∙ (ap (step c) (by (next c) e (λ d t. more_told next told step on n m d (omega (arith, h)) t)) ∙ sym (on m c))
  where
    by : (o : Option Id) → list_all (ends n (λ d. listed (next d))) (listed o) ≡ true → ((d : Id) → ends n (λ d. listed (next d)) d ≡ true → told n d ≡ told m d) → option_map (told n) o ≡ option_map (told m) o
    by None g k = refl
    by (Some d) g k = ap Some (k d (listed_ends (λ d. listed (next d)) n d g))

module _ (cs : Classes) (k : ℕ) (grows : k ≤ cs.size) (ups : (c : Id) → ends k (above cs) c ≡ true) (upwards : (c : Id) → ends k (parents cs) c ≡ true) (outers : (c : Id) → ends k (λ d. listed (enclosing_of cs d)) c ≡ true) where
  abbrev few : Classes
  few = sized k cs

  sub_same : is_sub few ≡ is_sub cs
  sub_same = fun_ext (λ a. fun_ext (λ b. more_reaches (above cs) b k cs.size a grows (ups a)))

  implements_same : is_or_implements few ≡ is_or_implements cs
  implements_same = fun_ext (λ a. fun_ext (λ b. more_reaches (parents cs) b k cs.size a grows (upwards a)))

  chain_of : (n : ℕ) → chain_within n few ≡ chain_within n cs
  chain_of zero = refl
  chain_of (suc n) = let up : (Id → List Id) → Id → List Id = λ g c. c ∷ unwrap_or (option_map g (superclass_of cs c)) [] in ap up (chain_of n)

  chain_same : chain few ≡ chain cs
  chain_same = chain_of k ∙ fun_ext (λ c. more_chain cs k cs.size c grows (ups c))

  instance_of : (n : ℕ) → instance_fields_within n few ≡ instance_fields_within n cs
  instance_of zero = refl
  instance_of (suc n) = let up : (Id → List OwnField) → Id → List OwnField = λ g c. unwrap_or (option_map g (superclass_of cs c)) [] ++ own_instance_fields cs c in ap up (instance_of n)

  instance_same : instance_fields few ≡ instance_fields cs
  instance_same = instance_of k ∙ fun_ext (λ c. more_told (superclass_of cs) (λ n d. instance_fields_within n cs d) (λ d o. unwrap_or o [] ++ own_instance_fields cs d) (λ n d. refl) k cs.size c grows (ups c))

  name_of : (n : ℕ) → full_name_within n few ≡ full_name_within n cs
  name_of zero = refl
  name_of (suc n) = let up : (Id → List ℕ) → Id → List ℕ = λ g c. unwrap_or (option_map (λ outer. g outer ++ codes "+") (enclosing_of cs c)) [] ++ unwrap_or (option_map own_name (cs.class c)) [] in ap up (name_of n)

  name_same : full_name few ≡ full_name cs
  name_same = name_of k ∙ fun_ext (λ c. more_told (enclosing_of cs) (λ n d. full_name_within n cs d) (λ d o. unwrap_or (option_map (λ name. name ++ codes "+") o) [] ++ unwrap_or (option_map own_name (cs.class d)) []) on k cs.size c grows (outers c))
    where
      twice : (n : ℕ) (o : Option Id) → unwrap_or (option_map (λ outer. full_name_within n cs outer ++ codes "+") o) [] ≡ unwrap_or (option_map (λ name. name ++ codes "+") (option_map (λ d. full_name_within n cs d) o)) []
      twice n None = refl
      twice n (Some d) = refl

      on : (n : ℕ) (c : Id) → full_name_within (suc n) cs c ≡ unwrap_or (option_map (λ name. name ++ codes "+") (option_map (λ d. full_name_within n cs d) (enclosing_of cs c))) [] ++ unwrap_or (option_map own_name (cs.class c)) []
      on n c = ap (λ xs. xs ++ unwrap_or (option_map own_name (cs.class c)) []) (twice n (enclosing_of cs c))

  -- ---- members by name

  pub method_found : find_method few ≡ find_method cs
  method_found = let by : (Id → List Id) → Id → List ℕ → Option Signature → Option OwnMethod = λ up c name s. first_some (λ d. find (is_named name s) (methods_of cs d)) (up c) in ap by chain_same

  pub field_found : find_field few ≡ find_field cs
  field_found = let by : (Id → List Id) → Id → List ℕ → Option SigType → Option OwnField = λ up c name s. first_some (λ d. find (is_field_named name s) (fields_of cs d)) (up c) in ap by chain_same

  -- ---- what the machine asks

  classes_at : (a b : Option Id) → classes_fit few a b ≡ classes_fit cs a b
  classes_at None None = refl
  classes_at None (Some b) = refl
  classes_at (Some a) None = refl
  classes_at (Some a) (Some b) = more_reaches (parents cs) b k cs.size a grows (upwards a)

  fits_at : (a b : CliType) → fits few a b ≡ fits cs a b
  fits_at (ArrayOf a) (ArrayOf b) = ap (λ x. type_eq a b || elements_by (cell_of a) (cell_of b) x) (fits_at a b)
  fits_at (ArrayOf a) b = refl
  fits_at a (ArrayOf b) = refl
  fits_at a b = ap (λ x. type_eq a b || (is_object cs b || x)) (classes_at (class_of cs a) (class_of cs b))

  target_same : target few ≡ target cs
  target_same =
      let by : (Id → List Id) → (Id → Id → Bool) → Id → Id → Option Id = λ up below c id. on_some (cs.method_owner id) (λ owner. on_some (method_at cs id) (λ m. target_by cs (is_interface cs owner) (below c owner && not (is_interface cs c)) owner m (up c))) in
      ap (λ up. by up (is_or_implements few)) chain_same ∙ ap (by (chain cs)) implements_same

  fields_same : fields few ≡ fields cs
  fields_same = let by : (Id → List OwnField) → Id → Option (List CliType) = λ own c. on_some (cs.class c) (λ z. field_types cs (own c)) in ap by instance_same

  field_at_place : (make : Id → ℕ → Instruction) (o : Operand) → with_field few make o ≡ with_field cs make o
  field_at_place make o =
      ap (λ (own : Id → List OwnField). on_some (field_of o) (λ f. on_some (cs.field_owner f) (λ owner. option_map (make owner) (position (λ g. id_eq g.id f) (own owner))))) instance_same

  instruction_at : (code : MethodCode) (at : ℕ) (s : Shape) (o : Operand) → instruction_of few code at s o ≡ instruction_of cs code at s o
  instruction_at code at shape.LoadField o = field_at_place LoadField o
  instruction_at code at shape.LoadFieldAddress o = field_at_place LoadFieldAddress o
  instruction_at code at shape.StoreField o = field_at_place StoreField o
  instruction_at code at _ o = refl

  line_at : (code : MethodCode) (l : CodeLine) → line_of few code l ≡ line_of cs code l
  line_at code l = ap (option_map (λ i. record { instruction = i; next = l.next; needs = needs_of cs l.shape l.operand })) (instruction_at code l.at l.shape l.operand)

  module _ (code : Id → Option MethodCode) (entry : Option Id) where
    abbrev x : Sources
    x = record { classes = cs; code = code; entry = entry }

    fetch_same : fetch (record { classes = few; code = code; entry = entry }) ≡ fetch x
    fetch_same =
        let by : (MethodCode → CodeLine → Option Line) → Id → ℕ → Option Line = λ line id at. on_some (code id) (λ c. on_some (find (λ l. nat_eq l.at at) c.lines) (line c)) in
        ap by (fun_ext (λ c. fun_ext (line_at c)))

    pub program_same : program_of (record { classes = few; code = code; entry = entry }) ≡ program_of x
    program_same =
        λ i. record {
          entry = entry;
          first = first x;
          method = method x;
          fetch = fetch_same i;
          try_holds = try_holds x;
          is_sub = sub_same i;
          fits = fun_ext (λ a. fun_ext (fits_at a)) i;
          target = target_same i;
          fields = fields_same i;
          static = static cs;
          bytes = bytes cs;
          known = known cs;
          basic = basic cs;
          array = array cs;
          exception = exception_class cs;
          name = name_same i;
        }
