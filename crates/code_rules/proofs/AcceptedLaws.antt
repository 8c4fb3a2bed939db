-- The rules of classes, the base library and the verdict of all code make a program typed.
use Rattle.std.proofs.Common.{◌≡◌, ⊎_elim, ℕ, zero, suc, ◌<◌, Bool, true, false, List, [], ◌∷◌, length, map, Option, Some, None, refl, sym, ap, ◌∙◌, subst, arith}
use Rattle.std.specs.Prelude.{◌&&◌, ◌||◌, not, nat_eq, nat_lt, if◌then◌else◌, slice_get, unwrap_or, Result, Ok, Err}
use Rattle.std.specs.Option.{option_map}
use Rattle.std.specs.List.{list_all, find, position}
use Rattle.std.proofs.lemmas.Bool.{and_parts, or_cases, and_from, both_ways, not-true, cases_Bool, eqb-true, eq-eqb, ltb-true}
use Rattle.cil_opcodes.specs.declared.shape.Shape.{Shape}
use Rattle.cil_opcodes.specs.declared.shape.Shape.TheVariants as shape
use Rattle.plain_types.specs.declared.elem.Elem.TheVariants as elem
use Rattle.machine.specs.Data.{Id, id_eq, CliType, Basic, EnumOf, ClassOf, ArrayOf, PlaceType, Plain, cell_of, type_eq, Null}
use Rattle.machine.specs.Program.{Program, Method, Body, Code, Native, Missing, Instruction, Nop, Push, Dup, Pop, Binary, Shift, Unary, Compare, Convert, ConvertChecked, Branch, BranchIf, BranchCompare, Switch, Call, CallVirtual, NewObject, Return, LoadField, StoreField, LoadFieldAddress, LoadStatic, StoreStatic, LoadStaticAddress, LoadText, LoadIndirect, StoreIndirect, NewArray, LoadLength, LoadElement, StoreElement, LoadElementAddress, CastClass, IsInstance, Box, Unbox, UnboxAny, Throw, Rethrow, Leave, EndFinally}
use Rattle.machine.specs.Throw.{on_some}
use Rattle.machine_typed.specs.Typing.{StackType, is_refers, is_number, is_plain, is_plain_place, assignable}
use Rattle.machine_typed.specs.Accepted.{Typing, HasInstances, BodyFits, MethodFits, Accepted}
use Rattle.machine_typed.proofs.Heaps.{some_inv}
use Rattle.machine_typed.proofs.Types.{type_here}
use Rattle.classes.specs.Classes.{Classes, Class, OwnField, SigType, Spelt, ClassToken, ValueToken, ArraySig, TypeKind, Reference, Builtin, Enumeration, OtherValue}
use Rattle.classes.specs.Code.{Operand, CodeLine, CodeClause, CodeClauseKind, CatchOf, Finally, OtherKind, MethodCode, Sources, NoOperand, Number, Targets, OfType, OfField, OfMethod, OfText, Unresolved}
use Rattle.classes.specs.Queries.{basic, is_sub, fits, is_interface, is_instance, is_instance_kind, type_by_kind, type_of_class, type_of, method_at, fields_of, own_instance_fields, instance_fields, field_at, kind_of}
use Rattle.classes.specs.Listed.{program_of, method, no_code, clause_of, instruction_of, innermost, is_catch_kind, is_finally_kind, method_of, field_of, type_of_operand, access_of, target_of, targets_of, text_of, is_constructor, in_handler, in_try}
use Rattle.class_rules.specs.Facts.{Order, Members, Objects, Kinds, is_reference_class, class_of_object}
use Rattle.class_rules.specs.Rules.{holds_some, sig_fits, result_fits, signature_fits, method_signature_fits, under_object, entry_fits, Keeps}
use Rattle.class_rules.specs.Made.{is_made, made}
use Rattle.class_rules.specs.Base.{IsBase}
use Rattle.class_rules.proofs.Ways.{any_at, at_any, all_at}
use Rattle.class_rules.proofs.Slots.{found}
use Rattle.class_rules.proofs.FitsLaws.{same_fits, fits_up}
use Rattle.class_rules.proofs.DispatchLaws.{own_fits, way_to}
use Rattle.class_rules.proofs.MergeLaws.{same, up, merged, sub_reaches}
use Rattle.class_rules.proofs.ObjectLaws.{inherits, texts, arrays, has_instances}
use Rattle.class_rules.proofs.Kept.{holds_inv, part_of, standing, order, members}
use Rattle.class_rules.proofs.Low.{class_back, type_is, interface_bare, no_interface, class_way}
use Rattle.class_rules.proofs.MadeLaws.{kinds, objects, plain_object, basic_there}
use Rattle.class_rules.proofs.ProgramLaws.{refers_two, filter_has, exceptions, enum_low, sig_plain, plain_fields, makes}
use Rattle.class_rules.proofs.NeedsLaws.{map_inv, Owned, owned, stands_there, native_here, line_needs, begins}
use Rattle.classes.specs.Clauses.{lie_well, clause_lets}
use Rattle.code_rules.specs.Pass.{Lattice, Step, Entry, standing as stack_at}
use Rattle.code_rules.specs.Flow.{targets}
use Rattle.code_rules.specs.Verdict.{stands_well, has_this, names_method, names_field, names_type, is_new, is_instance_field, operand_fits, steps_from, passed}
use Rattle.code_rules.specs.Judgement.{lattice_of, lines_rise, is_some_line, is_closed, is_start, on_starts, is_targeted, catches_well, is_ok, steps_of, code_fits, CodesFit, types_in, types_of, handled_of, typing_of}
use Rattle.code_rules.proofs.PassLaws.{LatticeLaws, IsStart, Closed}
use Rattle.code_rules.proofs.FlowLaws.{Special}
use Rattle.code_rules.proofs.ClauseLaws.{handler_holds, leave_passes}
use Rattle.code_rules.proofs.MethodLaws.{LinesRise, CaughtWell, Catches, Finalises, accepted_fits}
use Rattle.code_rules.proofs.OperandLaws.{call_virtual}
use Rattle.code_rules.proofs.SpecialLaws.{ends_finally, rethrows}
use Rattle.classes.specs.Reading.{IsRead}

map_get : {A B : Type 0} (f : A → B) (xs : List A) (i : ℕ) (y : B) → slice_get (map f xs) i ≡ Some y → (a : A) × (slice_get xs i ≡ Some a) × (f a ≡ y)
map_get f [] i y e = absurd (cc e)
map_get f (z ∷ zs) zero y e = (z, refl, let same : f z ≡ y = cc e in same)
map_get f (z ∷ zs) (suc i) y e = map_get f zs i y e

rises : (from : ℕ) (ls : List CodeLine) → lines_rise from ls ≡ true → LinesRise from ls
rises from [] e = tt
rises from (l ∷ ls) e =
    let p = and_parts (nat_eq l.at from) (nat_lt l.at l.next && lines_rise l.next ls) e in
    let q = and_parts (nat_lt l.at l.next) (lines_rise l.next ls) p.1 in
    (eqb-true l.at from p.0, ltb-true l.at l.next q.0, rises l.next ls q.1)

ok_is : {A B : Type 0} (q : Result A B) → is_ok q ≡ true → (a : A) × (q ≡ Ok a)
ok_is (Ok a) e = (a, refl)
ok_is (Err z) e = absurd (cc e)

if_some : {A : Type 0} (c : Bool) (q : Option A) (a : A) → (if c then q else None) ≡ Some a → (c ≡ true) × (q ≡ Some a)
if_some true q a e = (refl, e)
if_some false q a e = absurd (cc e)

module _ (n : ℕ) (x : Sources) (r : IsRead n x.classes) (b : IsBase x.classes) (k : Keeps n x.classes) where
  abbrev cs : Classes
  cs = x.classes

  abbrev p : Program
  p = program_of x

  abbrev t : Typing
  t = typing_of x b.exception

  abbrev o : Order cs
  o = order n cs r b k

  abbrev ms : Members cs
  ms = members n cs r b k

  abbrev os : Objects cs o (made cs)
  os = objects n cs r b k

  abbrev q : Kinds cs o (made cs)
  q = kinds n cs r b k

  abbrev l : Lattice
  l = lattice_of x

  laws : LatticeLaws l
  laws =
      record {
        same = same x o (class_back n cs r b k);
        up = up x o (class_back n cs r b k);
        left = λ u v w e. (merged x o (class_back n cs r b k) u v w e).0;
        right = λ u v w e. (merged x o (class_back n cs r b k) u v w e).1;
      }

  alike : (u v : StackType) → l.assignable u v ≡ assignable p u v
  alike u v = refl

  -- ---- operands (46)

  -- a class with an own instance field is a class of instances
  class_type : (c : Id) (j : ℕ) (f : OwnField) → slice_get (fields_of cs c) j ≡ Some f → is_instance f ≡ true → is_reference_class cs c ≡ true → type_of_class cs c ≡ ClassOf c
  class_type c j f there i ref = by (kind_of cs c) refl ref
    where
      none : (d : Id) → d ≡ c → own_instance_fields cs d ≡ [] → ⊥
      none d e own = filter_has is_instance (fields_of cs c) j f (subst (λ z. own_instance_fields cs z ≡ []) e own) there i

      by : (z : Option TypeKind) → kind_of cs c ≡ z → is_refers (cell_of (type_by_kind z c)) ≡ true → type_by_kind z c ≡ ClassOf c
      by None e h = refl
      by (Some Reference) e h = refl
      by (Some (Builtin g)) e h =
          absurd (⊎_elim
          (λ s. none b.string (let both : Some b.string ≡ Some c = sym b.string_is ∙ (ap (basic cs) (sym s) ∙ r.builtin c g e) in cc both) b.string_bare)
          (λ s. none b.object (let both : Some b.object ≡ Some c = sym b.object_is ∙ (ap (basic cs) (sym s) ∙ r.builtin c g e) in cc both) b.object_bare)
          (refers_two g h))
      by (Some (Enumeration g)) e h = absurd (both_ways (is_reference_class cs c) (enum_low n x r b k (types_of x b.exception) (handled_of x) c g e) ref)
      by (Some OtherValue) e h = absurd (cc h)

  field_instances : (operand : Operand) (f owner : Id) → field_of operand ≡ Some f → cs.field_owner f ≡ Some owner → names_field cs (is_instance_field cs) operand ≡ true → HasInstances p t owner
  field_instances operand f owner ef eo e =
      let a = holds_inv (field_of operand) _ e in
      let c = holds_inv (cs.field_owner a.0) _ a.2 in
      let m = holds_inv (field_at cs a.0) (is_instance_field cs c.0) c.2 in
      let w = and_parts (is_instance_kind m.0.kind) (is_reference_class cs c.0) m.2 in
      let s = found (λ (z : OwnField). id_eq z.id a.0) (fields_of cs c.0) m.0 (sym (ap (λ w. on_some w (λ c. find (λ z. id_eq z.id a.0) (fields_of cs c))) c.1) ∙ m.1) in
      let one : a.0 ≡ f = (let both : Some a.0 ≡ Some f = sym a.1 ∙ ef in cc both) in
      let two : c.0 ≡ owner = (let both : Some c.0 ≡ Some owner = sym c.1 ∙ (ap cs.field_owner one ∙ eo) in cc both) in
      let no : is_interface cs c.0 ≡ false = ⊎_elim (λ i. absurd (filter_has is_instance (fields_of cs c.0) s.0 m.0 (interface_bare n cs r b k c.0 i 0) s.1 w.0)) (λ i. i) (cases_Bool (is_interface cs c.0)) in
      subst (HasInstances p t) two (has_instances x o ms t os q c.0 (class_type c.0 s.0 m.0 s.1 w.0 w.1) no)

  new_made : (operand : Operand) (id owner : Id) → method_of operand ≡ Some id → cs.method_owner id ≡ Some owner → names_method cs (is_new cs) operand ≡ true → made cs (ClassOf owner) ≡ true
  new_made operand id owner em eo e =
      let a = holds_inv (method_of operand) _ e in
      let c = holds_inv (cs.method_owner a.0) _ a.2 in
      let m = holds_inv (method_at cs a.0) (is_new cs c.0) c.2 in
      let w = and_parts (is_constructor m.0) (has_this m.0 && is_made cs c.0) m.2 in
      let v = and_parts (has_this m.0) (is_made cs c.0) w.1 in
      let at = stands_there n x r b k (types_of x b.exception) (handled_of x) a.0 c.0 m.0 c.1 m.1 in
      let st = standing n cs r b k c.0 at.i m.0 at.there in
      let f1 = and_parts (not m.0.is_static) _ (st.constructor w.0) in
      let f2 = and_parts (not m.0.is_virtual) _ f1.1 in
      let f3 = and_parts (holds_some m.0.signature _) (st.class.is_interface || under_object cs c.0) f2.1 in
      let d = holds_inv (cs.class c.0) (λ k. not k.is_abstract && not k.is_interface) (and_parts _ _ v.1).0 in
      let same : d.0 ≡ st.class = (let both : Some d.0 ≡ Some st.class = sym d.1 ∙ st.there in cc both) in
      let no : st.class.is_interface ≡ false = sym (ap (λ (z : Class). z.is_interface) same) ∙ not-true d.0.is_interface (and_parts (not d.0.is_abstract) (not d.0.is_interface) d.2).1 in
      let under : under_object cs c.0 ≡ true = ⊎_elim (λ i. absurd (both_ways st.class.is_interface no i)) (λ u. u) (or_cases st.class.is_interface (under_object cs c.0) f3.1) in
      let one : a.0 ≡ id = (let both : Some a.0 ≡ Some id = sym a.1 ∙ em in cc both) in
      let two : c.0 ≡ owner = (let both : Some c.0 ≡ Some owner = sym c.1 ∙ (ap cs.method_owner one ∙ eo) in cc both) in
      subst (λ z. made cs (ClassOf z) ≡ true) two (and_from (is_made cs c.0) (under_object cs c.0) v.1 under)

  -- a number that an operand names is a box's type
  class_made : (c : Id) → is_number (type_of_class cs c) ≡ true → made cs (type_of_class cs c) ≡ true
  class_made c h = by (kind_of cs c) refl h
    where
      by : (z : Option TypeKind) → kind_of cs c ≡ z → is_number (type_by_kind z c) ≡ true → made cs (type_by_kind z c) ≡ true
      by None e h = absurd (cc h)
      by (Some Reference) e h = absurd (cc h)
      by (Some (Builtin g)) e h = ap (λ z. z || type_eq (Basic g) (Basic elem.String)) h
      by (Some (Enumeration g)) e h = and_from (is_number (EnumOf g c)) (type_eq (type_of_class cs c) (EnumOf g c)) h (ap (λ z. type_eq z (EnumOf g c)) (type_is n cs r b k c (Enumeration g) e) ∙ type_here (EnumOf g c))
      by (Some OtherValue) e h = absurd (cc h)

  number_made : (s : SigType) → is_number (type_of cs s) ≡ true → made cs (type_of cs s) ≡ true
  number_made (Spelt e) h = ap (λ z. z || type_eq (Basic e) (Basic elem.String)) h
  number_made (ArraySig s) h = absurd (cc h)
  number_made (ClassToken c) h = class_made c h
  number_made (ValueToken c) h = class_made c h

  box_made : (operand : Operand) (type : CliType) → type_of_operand cs operand ≡ Some type → names_type cs is_number operand ≡ true → made cs type ≡ true
  box_made operand type e h =
      let a = holds_inv (type_of_operand cs operand) is_number h in
      let one : a.0 ≡ type = (let both : Some a.0 ≡ Some type = sym a.1 ∙ e in cc both) in
      by operand e (subst (λ z. is_number z ≡ true) one a.2)
    where
      by : (operand : Operand) → type_of_operand cs operand ≡ Some type → is_number type ≡ true → made cs type ≡ true
      by (OfType s) e g = let same : type_of cs s ≡ type = cc e in subst (λ z. made cs z ≡ true) same (number_made s (subst (λ z. is_number z ≡ true) (sym same) g))
      by NoOperand e g = absurd (cc e)
      by (Number i) e g = absurd (cc e)
      by (Targets i) e g = absurd (cc e)
      by (OfField i) e g = absurd (cc e)
      by (OfMethod i) e g = absurd (cc e)
      by (OfText i) e g = absurd (cc e)
      by Unresolved e g = absurd (cc e)

  array_made : (operand : Operand) (type : CliType) → type_of_operand cs operand ≡ Some type → names_type cs is_plain operand ≡ true → made cs (ArrayOf type) ≡ true
  array_made operand type e h =
      let a = holds_inv (type_of_operand cs operand) is_plain h in
      let one : a.0 ≡ type = (let both : Some a.0 ≡ Some type = sym a.1 ∙ e in cc both) in
      subst (λ z. is_plain z ≡ true) one a.2

  -- ---- a method of CIL

  module _ (id : Id) (m : Method) (code : MethodCode) (is : method x id ≡ Some m) (coded : x.code id ≡ Some code) (fit : code_fits x b.exception m code ≡ true) where
    abbrev steps : List Step
    steps = steps_of x (ClassOf b.exception) m code

    record Fitting : Type 0 where
      locals : list_all (sig_fits cs) code.locals ≡ true
      rise : lines_rise 0 code.lines ≡ true
      some : is_some_line code.lines ≡ true
      closed : is_closed steps ≡ true
      targeted : list_all (is_targeted cs code steps) code.lines ≡ true
      clauses : lie_well code.clauses ≡ true
      starts : list_all (on_starts steps) code.clauses ≡ true
      catches : list_all (λ c. catches_well cs b.exception c.kind) code.clauses ≡ true
      accepted : is_ok (passed x l (ClassOf b.exception) m code) ≡ true

    fitting : Fitting
    fitting =
        let a1 = and_parts (list_all (sig_fits cs) code.locals) _ fit in
        let a2 = and_parts (lines_rise 0 code.lines) _ a1.1 in
        let a3 = and_parts (is_some_line code.lines) _ a2.1 in
        let a4 = and_parts (is_closed steps) _ a3.1 in
        let a5 = and_parts (list_all (is_targeted cs code steps) code.lines) _ a4.1 in
        let a6 = and_parts (lie_well code.clauses) _ a5.1 in
        let a7 = and_parts (list_all (on_starts steps) code.clauses) _ a6.1 in
        let a8 = and_parts (list_all (λ c. catches_well cs b.exception c.kind) code.clauses) (is_ok (passed x l (ClassOf b.exception) m code)) a7.1 in
        record { locals = a1.0; rise = a2.0; some = a3.0; closed = a4.0; targeted = a5.0; clauses = a6.0; starts = a7.0; catches = a8.0; accepted = a8.1 }

    table_is : (table : List Entry) × (passed x l (ClassOf b.exception) m code ≡ Ok table)
    table_is = ok_is (passed x l (ClassOf b.exception) m code) fitting.accepted

    own : Owned n x r b k (types_of x b.exception) (handled_of x) id m
    own = owned n x r b k (types_of x b.exception) (handled_of x) id m is

    start_here : (place : ℕ) → is_start steps place ≡ true → IsStart l laws steps place
    start_here place e = let w = any_at (λ (s : Step). nat_eq s.at place) steps e in (w.0, w.1, w.2, eqb-true w.1.at place w.3)

    here_start : (place : ℕ) → IsStart l laws steps place → is_start steps place ≡ true
    here_start place w = at_any (λ (s : Step). nat_eq s.at place) steps w.0 w.1 w.2 (eq-eqb w.1.at place w.3)

    closes : (ss : List Step) → is_closed ss ≡ true → Closed l laws ss
    closes [] e = tt
    closes (s ∷ []) e = not-true s.falls e
    closes (s ∷ (u ∷ ss)) e = closes (u ∷ ss) e

    some_steps : (ls : List CodeLine) → is_some_line ls ≡ true → 0 < length (steps_from x (ClassOf b.exception) m code None ls)
    some_steps [] e = absurd (cc e)
    some_steps (y ∷ ys) e = omega arith

    types_are : (place : ℕ) → types_of x b.exception id place ≡ types_in steps (Ok table_is.0) place
    types_are place =
        ap (λ z. on_some z (λ code. on_some (method x id) (λ m. types_in (steps_of x (ClassOf b.exception) m code) (passed x l (ClassOf b.exception) m code) place))) coded
        ∙ (ap (λ z. on_some z (λ m. types_in (steps_of x (ClassOf b.exception) m code) (passed x l (ClassOf b.exception) m code) place)) is
        ∙ ap (λ z. types_in steps z place) table_is.1)

    handled_is : (i at : ℕ) → handled_of x id i at ≡ handler_holds code.clauses i at
    handled_is i at = ap (λ z. unwrap_or (option_map (λ (code : MethodCode). unwrap_or (option_map (λ c. in_handler c at) (slice_get code.clauses i)) false) z) false) coded

    clauses_are : m.clauses ≡ map clause_of code.clauses
    clauses_are = sym (ap (λ (z : Method). z.clauses) own.is) ∙ ap (λ z. map clause_of (unwrap_or z no_code).clauses) coded

    locals_are : m.locals ≡ map (λ s. Plain (type_of cs s)) code.locals
    locals_are = sym (ap (λ (z : Method). z.locals) own.is) ∙ ap (λ z. map (λ s. Plain (type_of cs s)) (unwrap_or z no_code).locals) coded

    plain_local : (i : ℕ) (z : PlaceType) → slice_get m.locals i ≡ Some z → is_plain_place z ≡ true
    plain_local i z e =
        let a = map_get (λ s. Plain (type_of cs s)) code.locals i z (ap (λ w. slice_get w i) (sym locals_are) ∙ e) in
        subst (λ w. is_plain_place w ≡ true) a.2 (sig_plain n x r b k (types_of x b.exception) (handled_of x) a.0 (all_at (sig_fits cs) code.locals i a.0 fitting.locals a.1))

    plain_result : (z : PlaceType) → m.returns ≡ Some z → is_plain_place z ≡ true
    plain_result z e =
        let a = map_inv (λ s. Plain (type_of cs s)) own.signature.returns z (ap (λ (w : Method). w.returns) own.is ∙ e) in
        let c = part_of (cs.class own.owner) (λ z. z.methods) own.stands.i own.entry own.stands.there in
        let s = holds_inv own.entry.signature (signature_fits cs own.owner) (all_at (method_signature_fits cs own.owner) c.0.methods own.stands.i own.entry (k.method_signatures own.owner c.0 c.1) c.2) in
        let one : s.0 ≡ own.signature = (let both : Some s.0 ≡ Some own.signature = sym s.1 ∙ own.signed in cc both) in
        let fits : result_fits cs (Some a.0) ≡ true = ap (result_fits cs) (sym a.1) ∙ (ap (λ w. result_fits cs w.returns) (sym one) ∙ (and_parts (result_fits cs s.0.returns) _ s.2).0) in
        subst (λ w. is_plain_place w ≡ true) a.2 (sig_plain n x r b k (types_of x b.exception) (handled_of x) a.0 fits)

    caught : (kind : CodeClauseKind) → catches_well cs b.exception kind ≡ true → CaughtWell x t id m code l laws alike kind
    caught (CatchOf (Some class)) e = Catches class (λ d sub. own_fits x o ms t os (ClassOf d) d class refl (sub_reaches cs cs.size d class sub))
    caught (CatchOf None) e = absurd (cc e)
    caught Finally e = Finalises
    caught OtherKind e = absurd (cc e)

    catch_named : (j : ℕ) (c : CodeClause) (class : Option Id) → slice_get code.clauses j ≡ Some c → c.kind ≡ CatchOf class → (d : Id) × (class ≡ Some d)
    catch_named j c class there e = by class (subst (λ z. catches_well cs b.exception z ≡ true) e (all_at (λ c. catches_well cs b.exception c.kind) code.clauses j c fitting.catches there))
      where
        by : (class : Option Id) → catches_well cs b.exception (CatchOf class) ≡ true → (d : Id) × (class ≡ Some d)
        by (Some d) h = (d, refl)
        by None h = absurd (cc h)

    plainly : {A : Type 0} (at : ℕ) (i : Instruction) (make : A → Instruction) (z : Option A) → ((a : A) → Special p t id m at (make a)) → option_map make z ≡ Some i → Special p t id m at i
    plainly at i make z each e = let a = map_inv make z i e in subst (Special p t id m at) a.2 (each a.0)

    exactly : (at : ℕ) (i j : Instruction) → Special p t id m at j → Some j ≡ Some i → Special p t id m at i
    exactly at i j s e = let one : j ≡ i = cc e in subst (Special p t id m at) one s

    with_owner : (at : ℕ) (i : Instruction) (operand : Operand) (make : Id → ℕ → Instruction) → ((owner : Id) (j : ℕ) → HasInstances p t owner → Special p t id m at (make owner j)) → names_field cs (is_instance_field cs) operand ≡ true → on_some (field_of operand) (λ f. on_some (cs.field_owner f) (λ owner. option_map (make owner) (position (λ g. id_eq g.id f) (instance_fields cs owner)))) ≡ Some i → Special p t id m at i
    with_owner at i operand make each h e =
        let a = some_inv (field_of operand) _ i e in
        let c = some_inv (cs.field_owner a.0) _ i a.2 in
        let d = map_inv (make c.0) (position (λ g. id_eq g.id a.0) (instance_fields cs c.0)) i c.2 in
        subst (Special p t id m at) d.2 (each c.0 d.0 (field_instances operand a.0 c.0 a.1 c.1 h))

    special : (at : ℕ) (s : Shape) (z : Operand) (i : Instruction) → instruction_of cs code at s z ≡ Some i → operand_fits cs s z ≡ true → stands_well code.clauses at i ≡ true → Special p t id m at i
    special at shape.CallVirtual z i e h w = let a = map_inv CallVirtual (method_of z) i e in subst (Special p t id m at) a.2 (call_virtual x o ms t os code at z a.0 h (ap (option_map CallVirtual) a.1))
    special at shape.NewObject z i e h w =
        let a = some_inv (method_of z) (λ m. option_map (λ owner. NewObject owner m) (cs.method_owner m)) i e in
        let c = map_inv (λ owner. NewObject owner a.0) (cs.method_owner a.0) i a.2 in
        subst (Special p t id m at) c.2 (new_made z a.0 c.0 a.1 c.1 h)
    special at shape.NewArray z i e h w = let a = map_inv NewArray (type_of_operand cs z) i e in subst (Special p t id m at) a.2 (array_made z a.0 a.1 h)
    special at shape.Box z i e h w = let a = map_inv Box (type_of_operand cs z) i e in subst (Special p t id m at) a.2 (box_made z a.0 a.1 h)
    special at shape.LoadField z i e h w = with_owner at i z LoadField (λ owner j y. y) h e
    special at shape.LoadFieldAddress z i e h w = with_owner at i z LoadFieldAddress (λ owner j y. y) h e
    special at shape.StoreField z i e h w = with_owner at i z StoreField (λ owner j y. y) h e
    special at shape.Rethrow z i e h w =
        let a = map_inv Rethrow (innermost is_catch_kind code at) i e in
        let y = rethrows code m clauses_are catch_named at a.0 a.1 in
        subst (Special p t id m at) a.2 (handled_is a.0 at ∙ y.0, y.1)
    special at shape.EndFinally z i e h w =
        let a = map_inv EndFinally (innermost is_finally_kind code at) i e in
        let y = ends_finally code m clauses_are at a.0 a.1 in
        subst (Special p t id m at) a.2 (handled_is a.0 at ∙ y.0, y.1)
    special at shape.Leave z i e h w =
        let a = map_inv Leave (target_of z) i e in
        let lets = (and_parts _ (list_all (clause_lets at a.0) code.clauses) (subst (λ z. stands_well code.clauses at z ≡ true) (sym a.2) w)).1 in
        subst (Special p t id m at) a.2 (leave_passes p t id m code.clauses fitting.clauses clauses_are handled_is (λ i at. ap (λ z. unwrap_or (on_some z (λ (code : MethodCode). option_map (λ c. in_try c at) (slice_get code.clauses i))) false) coded) at a.0 lets)
    special at shape.Nop z i e h w = exactly at i Nop tt e
    special at (shape.LoadArgument v) z i e h w = plainly at i _ _ (λ a. tt) e
    special at shape.LoadArgumentAddress z i e h w = plainly at i _ _ (λ a. tt) e
    special at shape.StoreArgument z i e h w = plainly at i _ _ (λ a. tt) e
    special at (shape.LoadLocal v) z i e h w = plainly at i _ _ (λ a. tt) e
    special at (shape.StoreLocal v) z i e h w = plainly at i _ _ (λ a. tt) e
    special at shape.LoadLocalAddress z i e h w = plainly at i _ _ (λ a. tt) e
    special at shape.LoadNull z i e h w = exactly at i (Push Null) tt e
    special at (shape.LoadInt32 v) z i e h w = plainly at i _ _ (λ a. tt) e
    special at shape.LoadInt64 z i e h w = plainly at i _ _ (λ a. tt) e
    special at shape.Duplicate z i e h w = exactly at i Dup tt e
    special at shape.Pop z i e h w = exactly at i Pop tt e
    special at shape.Call z i e h w = plainly at i Call (method_of z) (λ a. tt) e
    special at shape.Return z i e h w = exactly at i Return tt e
    special at shape.Branch z i e h w = plainly at i Branch (target_of z) (λ a. tt) e
    special at (shape.BranchIf v) z i e h w = plainly at i (BranchIf v) (target_of z) (λ a. tt) e
    special at (shape.BranchCompare v y) z i e h w = plainly at i (BranchCompare v y) (target_of z) (λ a. tt) e
    special at shape.Switch z i e h w = plainly at i Switch (targets_of z) (λ a. tt) e
    special at (shape.LoadIndirect v) z i e h w = plainly at i LoadIndirect (access_of cs v z) (λ a. tt) e
    special at (shape.StoreIndirect v) z i e h w = plainly at i StoreIndirect (access_of cs v z) (λ a. tt) e
    special at (shape.Binary v) z i e h w = exactly at i (Binary v) tt e
    special at (shape.Shift v) z i e h w = exactly at i (Shift v) tt e
    special at (shape.Unary v) z i e h w = exactly at i (Unary v) tt e
    special at (shape.Compare v) z i e h w = exactly at i (Compare v) tt e
    special at (shape.Convert v) z i e h w = exactly at i (Convert v) tt e
    special at (shape.ConvertChecked v y) z i e h w = exactly at i (ConvertChecked v y) tt e
    special at shape.LoadString z i e h w = plainly at i LoadText (text_of z) (λ a. tt) e
    special at shape.CastClass z i e h w = plainly at i CastClass (type_of_operand cs z) (λ a. tt) e
    special at shape.IsInstance z i e h w = plainly at i IsInstance (type_of_operand cs z) (λ a. tt) e
    special at shape.Unbox z i e h w = plainly at i Unbox (type_of_operand cs z) (λ a. tt) e
    special at shape.UnboxAny z i e h w = plainly at i UnboxAny (type_of_operand cs z) (λ a. tt) e
    special at shape.Throw z i e h w = exactly at i Throw tt e
    special at shape.LoadStatic z i e h w = plainly at i LoadStatic (field_of z) (λ a. tt) e
    special at shape.LoadStaticAddress z i e h w = plainly at i LoadStaticAddress (field_of z) (λ a. tt) e
    special at shape.StoreStatic z i e h w = plainly at i StoreStatic (field_of z) (λ a. tt) e
    special at shape.LoadLength z i e h w = exactly at i LoadLength tt e
    special at (shape.LoadElement v) z i e h w = plainly at i LoadElement (access_of cs v z) (λ a. tt) e
    special at (shape.StoreElement v) z i e h w = plainly at i StoreElement (access_of cs v z) (λ a. tt) e
    special at shape.LoadElementAddress z i e h w = plainly at i LoadElementAddress (type_of_operand cs z) (λ a. tt) e
    special at shape.LoadToken z i e h w = plainly at i _ _ (λ a. tt) e

    pub method_fits : MethodFits p t id m
    method_fits =
        accepted_fits x t id m code l laws alike table_is.0
        (record {
          coded = coded;
          clauses_are = clauses_are;
          rise = rises 0 code.lines fitting.rise;
          some = some_steps code.lines fitting.some;
          closed = closes steps fitting.closed;
          targeted = λ j line i there e z to g. start_here to (all_at (is_start steps) (targets i) z to (subst (λ w. list_all (is_start steps) (unwrap_or (option_map targets w) []) ≡ true) e (all_at (is_targeted cs code steps) code.lines j line fitting.targeted there)) g);
          clauses = fitting.clauses;
          accepted = table_is.1;
          stands = λ place ts e. let w = if_some (is_start steps place) (stack_at table_is.0 place) ts (sym (types_are place) ∙ e) in (start_here place w.0, w.1);
          standing_there = λ place ts start e. types_are place ∙ (ap (λ (z : Bool). if z then stack_at table_is.0 place else None) (here_start place start) ∙ e);
          handled = handled_is;
          tries = λ i at. ap (λ z. unwrap_or (on_some z (λ (code : MethodCode). option_map (λ c. in_try c at) (slice_get code.clauses i))) false) coded;
          special = λ j line i there e u. special line.at line.shape line.operand i e u.operand u.stood;
          needs = λ j line there. line_needs n x r b k (types_of x b.exception) (handled_of x) line.shape line.operand;
          handlers_start = λ j c there. start_here c.start (and_parts (is_start steps c.start) _ (all_at (on_starts steps) code.clauses j c fitting.starts there)).0;
          kinds = λ j c there. caught c.kind (all_at (λ c. catches_well cs b.exception c.kind) code.clauses j c fitting.catches there);
          locals = plain_local;
          result = plain_result;
        })

  -- ---- all methods

  body_fits : CodesFit x b.exception → (id : Id) (m : Method) → p.method id ≡ Some m → BodyFits p t id m m.body
  body_fits judged id m e = by m.body refl
    where
      own : Owned n x r b k (types_of x b.exception) (handled_of x) id m
      own = owned n x r b k (types_of x b.exception) (handled_of x) id m e

      by : (z : Body) → m.body ≡ z → BodyFits p t id m z
      by Code h = let c = judged id m e h in method_fits id m c.0 e c.1 c.2
      by (Native name) h =
          subst (λ w. BodyFits p t id w (Native name)) own.is
          (native_here n x r b k (types_of x b.exception) (handled_of x) own.owner own.stands.i own.entry own.signature (unwrap_or (x.code id) no_code) name own.stands.there own.signed (ap (λ (w : Method). w.body) own.is ∙ h))
      by Missing h = tt

  -- what is assignable to System.Exception is an instance of it or of a class below it
  below : (own : CliType) (c : Id) → own ≡ ClassOf c → made cs own ≡ true → fits cs own (ClassOf b.exception) ≡ true → is_sub cs c b.exception ≡ true
  below own c e h f =
      let named = os.named own h in
      let kind : type_of_class cs b.exception ≡ ClassOf b.exception = type_is n cs r b k b.exception Reference b.exception_kind in
      let way = way_to x o ms t os own named.0 b.exception named.1 named.2 (subst (λ z. fits cs own z ≡ true) (sym kind) f) in
      let same : named.0 ≡ c = (let both : Some named.0 ≡ Some c = sym named.1 ∙ ap (class_of_object cs) e in cc both) in
      subst (λ z. is_sub cs z b.exception ≡ true) same (class_way n cs r b k cs.size named.0 b.exception (no_interface n cs r b k b.exception b.object b.exception_super) way)

  -- a program that keeps the rules is typed
  pub accepted_is_typed : entry_fits x ≡ true → CodesFit x b.exception → Accepted p t
  accepted_is_typed entry judged =
      record {
        same = same_fits cs o;
        up = fits_up cs o;
        objects = plain_object n cs r b k;
        strings_made = refl;
        texts = texts x o ms t os q;
        arrays = arrays x o ms t os q;
        exceptions = λ own h f. let e = exceptions n x r b k (types_of x b.exception) (handled_of x) own h f in (e.0, e.1, (b.exception, b.exception_is, below own e.0 e.1 h f));
        fields = plain_fields n x r b k (types_of x b.exception) (handled_of x);
        inherits = inherits cs o;
        known = makes n x r b k (types_of x b.exception) (handled_of x);
        basics = λ e h. basic_there n cs r b k e (b.basics e h);
        array_class = (b.arrays, b.arrays_is);
        methods = body_fits judged;
        begins = begins n x r b k (types_of x b.exception) (handled_of x) entry;
      }
