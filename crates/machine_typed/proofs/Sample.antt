-- A program that is typed: an array's element, a division by zero that is caught, and a call of a native.
use Rattle.std.proofs.Common.{◌≡◌, inl, ℕ, zero, suc, ◌+◌, ◌≤◌, Bool, true, false, ◌==◌, ◌&&◌, ◌||◌, List, [], ◌∷◌, length, Some, None, refl, sym, ap, ◌∙◌, subst, arith}
use Rattle.std.specs.Prelude.{pos, if◌then◌else◌, nat_le, nat_lt, slice_get}
use Rattle.std.proofs.lemmas.Bool.{eqb-true}
use Rattle.cil_opcodes.specs.declared.shape.IntegerType.TheVariants.{I4}
use Rattle.cil_opcodes.specs.declared.shape.Operator.TheVariants.{Divide}
use Rattle.plain_types.specs.declared.elem.Elem.TheVariants as elem
use Rattle.machine.specs.Data.{Id, id_eq, elem_number, CliType, Basic, ClassOf, ArrayOf, type_eq, PlaceType, Plain, Cell, Bits, Refers, Int}
use Rattle.machine.specs.Program.{Program, Push, NewArray, LoadElement, Exact, StoreLocal, Binary, Leave, Pop, LoadText, Call, LoadLocal, Return, Line, Clause, Catch, Method, Code, Native, DebugPrint}
use Rattle.machine.specs.Trace.{is_stuck, trace}
use Rattle.machine_typed.specs.Typing.{StackType, I, O, is_plain, is_plain_place}
use Rattle.machine_typed.specs.Accepted.{Typing, elements_by, elements_fit, Leaves, Starts, LineFits, MethodFits, BodyFits, Accepted}
use Rattle.machine_typed.proofs.Heaps.{some_same, and_left}
use Rattle.machine_typed.proofs.Types.{type_same, type_here, width_here, plain_cell}
use Rattle.machine_typed.proofs.Runs.{never_stuck}

abbrev pub id : ℕ → Id
id n = record { file = 0; row = n }

abbrev pub int : CliType
int = Basic elem.I4

abbrev pub ints : CliType
ints = ArrayOf int

abbrev pub text : CliType
text = Basic elem.String

abbrev pub exception : CliType
exception = ClassOf (id 1)

abbrev code : List Line
code =
    record { instruction = Push (Int (pos 3)); next = 1; needs = None }
    ∷ record { instruction = NewArray int; next = 2; needs = None }
    ∷ record { instruction = Push (Int (pos 0)); next = 3; needs = None }
    ∷ record { instruction = LoadElement (Exact (Bits I4)); next = 4; needs = None }
    ∷ record { instruction = StoreLocal 0; next = 5; needs = None }
    ∷ record { instruction = Push (Int (pos 1)); next = 6; needs = None }
    ∷ record { instruction = Push (Int (pos 0)); next = 7; needs = None }
    ∷ record { instruction = Binary Divide; next = 8; needs = None }
    ∷ record { instruction = StoreLocal 0; next = 9; needs = None }
    ∷ record { instruction = Leave 14; next = 10; needs = None }
    ∷ record { instruction = Pop; next = 11; needs = None }
    ∷ record { instruction = LoadText (72 ∷ 105 ∷ []); next = 12; needs = None }
    ∷ record { instruction = Call (id 1); next = 13; needs = None }
    ∷ record { instruction = Leave 14; next = 14; needs = None }
    ∷ record { instruction = LoadLocal 0; next = 15; needs = None }
    ∷ record { instruction = Return; next = 16; needs = None }
    ∷ []

abbrev types : List (List StackType)
types = ([]) ∷ (I ∷ []) ∷ (O ints ∷ []) ∷ (I ∷ O ints ∷ []) ∷ (I ∷ []) ∷ ([]) ∷ (I ∷ []) ∷ (I ∷ I ∷ []) ∷ (I ∷ []) ∷ ([]) ∷ (O exception ∷ []) ∷ ([]) ∷ (O text ∷ []) ∷ ([]) ∷ ([]) ∷ (I ∷ []) ∷ []

abbrev clause : Clause
clause = record { kind = Catch (id 1); start = 10 }

abbrev pub main : Method
main = record { arguments = []; locals = Plain int ∷ []; returns = Some (Plain int); max_stack = 2; clauses = clause ∷ []; body = Code }

abbrev print : Method
print = record { arguments = Plain text ∷ []; locals = []; returns = None; max_stack = 0; clauses = []; body = Native DebugPrint }

abbrev is_object : CliType → Bool
is_object (Basic e) = elem_number e == 12
is_object _ = false

-- every method but one is this one, and every class has no fields
abbrev pub program : Program
program =
    record {
      entry = Some (id 0);
      first = None;
      method = λ m. if m.row == 1 then Some print else Some main;
      fetch = λ m place. slice_get code place;
      try_holds = λ m k place. (k == 0) && (nat_le 5 place && nat_lt place 10);
      is_sub = id_eq;
      fits = λ a b. is_object b || type_eq a b;
      target = λ c m. Some m;
      fields = λ c. Some [];
      static = λ f. None;
      bytes = λ f. None;
      known = λ k. Some (id 1);
      basic = λ e. Some (id 2);
      array = Some (id 3);
      exception = Some (id 1);
      name = λ c. [];
    }

abbrev typing : Typing
typing = record { types = λ m place. slice_get types place; handled = λ m k place. (k == 0) && (nat_le 10 place && nat_lt place 14); made = is_plain; exception = exception }

none_and : {A : Type 0} (b : Bool) → b && false ≡ true → A
none_and true e = absurd (cc e)
none_and false e = absurd (cc e)

or_fits : (b : Bool) (x : Bool) → b ≡ true → (b || x) ≡ true
or_fits true x e = refl
or_fits false x e = absurd (cc e)

or_here : (b x : Bool) → x ≡ true → (b || x) ≡ true
or_here true x e = refl
or_here false x e = e

not_other : (b x : Bool) → (b || x) ≡ true → b ≡ false → x ≡ true
not_other true x e h = absurd (cc h)
not_other false x e h = e

fits_same : (a : CliType) → program.fits a a ≡ true
fits_same a = or_here (is_object a) (type_eq a a) (type_here a)

fits_up : (a b c : CliType) → program.fits a b ≡ true → program.fits b c ≡ true → program.fits a c ≡ true
fits_up a b c e h = by (is_object c) refl
  where
    by : (q : Bool) → is_object c ≡ q → program.fits a c ≡ true
    by true k = or_fits (is_object c) (type_eq a c) k
    by false k = subst (λ z. program.fits a z ≡ true) (type_same b c (not_other (is_object c) (type_eq b c) h k)) e

elements_here : (c : Cell) (below : Bool) → below ≡ true → elements_by (Some c) (Some c) below ≡ true
elements_here (Bits i) below e = width_here (Bits i)
elements_here Refers below e = e

array_fits : (own a : CliType) → typing.made own ≡ true → program.fits own (ArrayOf a) ≡ true → (b : CliType) × (own ≡ ArrayOf b) × (elements_fit program b a ≡ true)
array_fits own a made e =
    let same = type_same own (ArrayOf a) e in
    let plain : is_plain a ≡ true = subst (λ z. typing.made z ≡ true) same made in
    let c = plain_cell a plain in
    (a, same, ap (λ o. elements_by o o (program.fits a a)) c.1 ∙ elements_here c.0 (program.fits a a) (fits_same a))

module _ (m : Id) where
  -- each line, and how deep its stack is
  abbrev AllFit : ℕ → List (List StackType) → Type 0
  AllFit n [] = Unit {0}
  AllFit n (ts ∷ rest) = (LineFits program typing m main n ts × (length ts ≤ 2)) × AllFit (suc n) rest

  fit_at : (xs : List (List StackType)) (n k : ℕ) (ts : List StackType) → AllFit n xs → slice_get xs k ≡ Some ts → LineFits program typing m main (n + k) ts × (length ts ≤ 2)
  fit_at [] n k ts h e = absurd (cc e)
  fit_at (x ∷ xs) n zero ts h e = let z : n ≡ n + 0 = omega arith in subst (λ i. LineFits program typing m main i ts × (length ts ≤ 2)) z (subst (λ us. LineFits program typing m main n us × (length us ≤ 2)) (some_same x ts e) h.0)
  fit_at (x ∷ xs) n (suc k) ts h e = let z : suc n + k ≡ n + suc k = omega arith in subst (λ i. LineFits program typing m main i ts × (length ts ≤ 2)) z (fit_at xs (suc n) k ts h.1 e)

  leaving : (from : ℕ) → Leaves program typing m main from 14
  leaving from = record { typed = refl; stays = λ k h. none_and (k == 0) h; through = λ j c e hold out k h. none_and (k == 0) h }

  all_fit : AllFit 0 types
  all_fit = (
    (record { line = record { instruction = Push (Int (pos 3)); next = 1; needs = None }; is = refl; after = I ∷ []; effects = refl; flows = record { at = I ∷ []; typed = refl; fitting = refl; stays = λ k h. none_and (k == 0) h }; needs = tt }, omega arith),
    (
      (record { line = record { instruction = NewArray int; next = 2; needs = None }; is = refl; after = O ints ∷ []; effects = refl; flows = (refl, record { at = O ints ∷ []; typed = refl; fitting = refl; stays = λ k h. none_and (k == 0) h }); needs = tt }, omega arith),
      (
        (record { line = record { instruction = Push (Int (pos 0)); next = 3; needs = None }; is = refl; after = I ∷ O ints ∷ []; effects = refl; flows = record { at = I ∷ O ints ∷ []; typed = refl; fitting = refl; stays = λ k h. none_and (k == 0) h }; needs = tt }, omega arith),
        (
          (record { line = record { instruction = LoadElement (Exact (Bits I4)); next = 4; needs = None }; is = refl; after = I ∷ []; effects = refl; flows = record { at = I ∷ []; typed = refl; fitting = refl; stays = λ k h. none_and (k == 0) h }; needs = tt }, omega arith),
          (
            (record { line = record { instruction = StoreLocal 0; next = 5; needs = None }; is = refl; after = []; effects = refl; flows = record { at = []; typed = refl; fitting = refl; stays = λ k h. none_and (k == 0) h }; needs = tt }, omega arith),
            (
              (record { line = record { instruction = Push (Int (pos 1)); next = 6; needs = None }; is = refl; after = I ∷ []; effects = refl; flows = record { at = I ∷ []; typed = refl; fitting = refl; stays = λ k h. none_and (k == 0) h }; needs = tt }, omega arith),
              (
                (record { line = record { instruction = Push (Int (pos 0)); next = 7; needs = None }; is = refl; after = I ∷ I ∷ []; effects = refl; flows = record { at = I ∷ I ∷ []; typed = refl; fitting = refl; stays = λ k h. none_and (k == 0) h }; needs = tt }, omega arith),
                (
                  (record { line = record { instruction = Binary Divide; next = 8; needs = None }; is = refl; after = I ∷ []; effects = refl; flows = record { at = I ∷ []; typed = refl; fitting = refl; stays = λ k h. none_and (k == 0) h }; needs = tt }, omega arith),
                  (
                    (record { line = record { instruction = StoreLocal 0; next = 9; needs = None }; is = refl; after = []; effects = refl; flows = record { at = []; typed = refl; fitting = refl; stays = λ k h. none_and (k == 0) h }; needs = tt }, omega arith),
                    (
                      (record { line = record { instruction = Leave 14; next = 10; needs = None }; is = refl; after = []; effects = refl; flows = leaving 9; needs = tt }, omega arith),
                      (
                        (record { line = record { instruction = Pop; next = 11; needs = None }; is = refl; after = []; effects = refl; flows = record { at = []; typed = refl; fitting = refl; stays = λ k h. h }; needs = tt }, omega arith),
                        (
                          (record { line = record { instruction = LoadText (72 ∷ 105 ∷ []); next = 12; needs = None }; is = refl; after = O text ∷ []; effects = refl; flows = record { at = O text ∷ []; typed = refl; fitting = refl; stays = λ k h. h }; needs = tt }, omega arith),
                          (
                            (record { line = record { instruction = Call (id 1); next = 13; needs = None }; is = refl; after = []; effects = refl; flows = record { at = []; typed = refl; fitting = refl; stays = λ k h. h }; needs = tt }, omega arith),
                            (
                              (record { line = record { instruction = Leave 14; next = 14; needs = None }; is = refl; after = []; effects = refl; flows = leaving 13; needs = tt }, omega arith),
                              (
                                (record { line = record { instruction = LoadLocal 0; next = 15; needs = None }; is = refl; after = I ∷ []; effects = refl; flows = record { at = I ∷ []; typed = refl; fitting = refl; stays = λ k h. none_and (k == 0) h }; needs = tt }, omega arith),
                                (
                                  (record { line = record { instruction = Return; next = 16; needs = None }; is = refl; after = []; effects = refl; flows = tt; needs = tt }, omega arith),
                                  tt,
                                ),
                              ),
                            ),
                          ),
                        ),
                      ),
                    ),
                  ),
                ),
              ),
            ),
          ),
        ),
      ),
    ),
  )

  place_fits : (place : ℕ) (ts : List StackType) → slice_get types place ≡ Some ts → LineFits program typing m main place ts × (length ts ≤ 2)
  place_fits place ts e =
      let z : 0 + place ≡ place = omega arith in
      subst (λ i. LineFits program typing m main i ts × (length ts ≤ 2)) z (fit_at types 0 place ts all_fit e)

  one_clause : (j : ℕ) (c : Clause) → slice_get main.clauses j ≡ Some c → (j ≡ 0) × (c ≡ clause)
  one_clause zero c e = (refl, sym (some_same clause c e))
  one_clause (suc j) c e = absurd (cc e)

  main_fits : MethodFits program typing m main
  main_fits =
      record {
        begin = refl;
        outside = λ k h. none_and (k == 0) h;
        regions = record {
          starts = λ j c e. subst (λ (z : Clause). Starts program typing m z.kind z.start) (sym (one_clause j c e).1) (exception, refl, λ d h. or_here (is_object exception) (id_eq d (id 1)) h);
          inside = λ i j place c e h k.
              let inner : (i == 0) && true ≡ true = subst (λ (z : Clause). typing.handled m i z.start ≡ true) (one_clause j c e).1 k in
              let zero_i = eqb-true i 0 (and_left (i == 0) true inner) in
              subst (λ z. typing.handled m z place ≡ true) ((one_clause j c e).0 ∙ sym zero_i) h;
          out = λ i j place c e h k.
              let inner : (i == 0) && true ≡ true = subst (λ (z : Clause). typing.handled m i z.start ≡ true) (one_clause j c e).1 k in
              inl (eqb-true i 0 (and_left (i == 0) true inner) ∙ sym (one_clause j c e).0);
          onward = λ i j k place c d lt e g. absurd (let z = (one_clause k d g).0 in omega (arith, lt, z));
        };
        within = λ place ts e. (place_fits place ts e).1;
        lines = λ place ts e. (place_fits place ts e).0;
        locals = λ i k e. local i k e;
        result = λ k e. subst (λ z. is_plain_place z ≡ true) (some_same (Plain int) k e) refl;
      }
    where
      local : (i : ℕ) (k : PlaceType) → slice_get main.locals i ≡ Some k → is_plain_place k ≡ true
      local zero k e = subst (λ z. is_plain_place z ≡ true) (some_same (Plain int) k e) refl
      local (suc i) k e = absurd (cc e)

method_fits : (m : Id) (x : Method) → program.method m ≡ Some x → BodyFits program typing m x x.body
method_fits m x e = by (m.row == 1) e
  where
    by : (q : Bool) → (if q then Some print else Some main) ≡ Some x → BodyFits program typing m x x.body
    by true e = subst (λ (z : Method). BodyFits program typing m z z.body) (some_same print x e) (refl, refl)
    by false e = subst (λ (z : Method). BodyFits program typing m z z.body) (some_same main x e) (main_fits m)

pub accepted : Accepted program typing
accepted =
    record {
      same = fits_same;
      up = fits_up;
      objects = λ own made. made;
      strings_made = refl;
      texts = λ own made e. type_same own text e;
      arrays = array_fits;
      exceptions = λ own made e. (id 1, type_same own exception e, (id 1, refl, refl));
      fields = λ c ks n k e h. absurd (let z : None ≡ Some k = subst (λ z. slice_get z n ≡ Some k) (sym (some_same [] ks e)) h in cc z);
      inherits = λ c d ks js n k sub e g h. absurd (let z : None ≡ Some k = subst (λ z. slice_get z n ≡ Some k) (sym (some_same [] ks e)) h in cc z);
      known = λ k. record { class = id 1; types = []; is = refl; fields = refl; made = refl };
      basics = λ e h. (id 2, refl);
      array_class = (id 3, refl);
      methods = method_fits;
      begins = record { id = id 0; is = refl; method = main; there = refl; arguments = inl refl; code = refl; returns = refl; first = tt };
    }

runs_on : (n most : ℕ) → is_stuck (trace program n most).finish ≡ false
runs_on = never_stuck program typing accepted
