-- The rows of instructions that name a place, a field or a method.
use Rattle.std.proofs.Common.{◌≡◌, ℕ, Bool, true, false, List, [], ◌∷◌, ◌++◌, map, length, Option, Some, None, refl, sym, ap, ◌∙◌, subst}
use Rattle.std.specs.Prelude.{if◌then◌else◌, slice_get, nat_lt, is_some, unwrap_or}
use Rattle.std.specs.Option.{option_map}
use Rattle.std.proofs.lemmas.Bool.{ltb-false}
use Rattle.std.proofs.lemmas.List.{length-map}
use Rattle.std.proofs.lemmas.Option.{slice_get-map, slice_get_past}
use Rattle.machine.specs.Data.{Id, CliType, ClassOf, PlaceType, Plain, To, Handle}
use Rattle.machine.specs.Program.{Program, Method, Code}
use Rattle.machine.specs.Throw.{on_some}
use Rattle.machine_typed.specs.Typing.{StackType, O, P, H, loaded, is_plain, assignable, is_plain_code, type_of_constant}
use Rattle.classes.specs.Classes.{OwnField, OwnMethod, Signature}
use Rattle.classes.specs.Code.{Operand as CodeOperand, Sources}
use Rattle.classes.specs.Queries.{is_instance_kind, is_static_kind, data_of, method_at, fields, static, listed, this_of}
use Rattle.classes.specs.Queries.{type_of as type_in, place_of as place_in}
use Rattle.classes.specs.Listed.{is_constructor, method_with, method, no_code, program_of}
use Rattle.code_rules.specs.Rows.{Row, named, with_place, pushing, storing, address_row, call_row, new_row, result_count, result_row, return_row}
use Rattle.place_types.specs.Types.{id_of, type_of, place_of, id_up, type_up, place_up, stack_up}
use Rattle.verify_ops.specs.declared.facts.Operand.{Operand}
use Rattle.verify_ops.specs.declared.facts.FieldOperand.{FieldOperand}
use Rattle.verify_ops.specs.declared.facts.MethodOperand.{MethodOperand}
use Rattle.verify_ops.specs.Facts.{field_named, method_named, result_of, this_place, body_of, callee, program_by}
use Rattle.verify_ops.specs.Effects.{is_never}
use Rattle.ecma_effects.specs.Known.{IsField, IsMethod}
use Rattle.ecma_effects.proofs.Renamed.{plain_up, loaded_up, assignable_up, plain_has}
use Rattle.ecma_effects.proofs.Rows.{Maps, maps_none, maps_empty, maps_single, maps_when, none_gives, one_gives, Alike, row_alike, place_alike}
use Rattle.ecma_effects.proofs.Owners.{Arguments, method_takes}
use Rattle.ecma_effects.proofs.Operands.{not_abstract, no_result}

-- ---- places by their numbers

places_up : (ks ks' : List PlaceType) (n : ℕ) → ks' ≡ map place_up ks → slice_get ks' n ≡ option_map place_up (slice_get ks n)
places_up ks ks' n e = ap (λ xs. slice_get xs n) e ∙ slice_get-map place_up ks n

pub place_rows : (ks ks' : List PlaceType) (n : ℕ) (make make' : PlaceType → Row) → ks' ≡ map place_up ks → ((k : PlaceType) → slice_get ks n ≡ Some k → Alike (make k) (make' (place_up k))) → Alike (with_place (slice_get ks n) make) (with_place (slice_get ks' n) make')
place_rows ks ks' n make make' e f = subst (λ z. Alike (with_place (slice_get ks n) make) (with_place z make')) (sym (places_up ks ks' n e)) (place_alike (slice_get ks n) make make' f)

pub place_counts : (ks ks' : List PlaceType) (n : ℕ) → ks' ≡ map place_up ks → nat_lt n (length ks') ≡ nat_lt n (length ks)
place_counts ks ks' n e = ap (nat_lt n) (ap length e ∙ length-map ks place_up)

-- where there is no such place, rule 47 is broken
abbrev pub BreaksNumber : Row → Type 0
BreaksNumber r = (r.sound ≡ false) × (r.rule ≡ 47)

pub no_place : (ks : List PlaceType) (n : ℕ) (make : PlaceType → Row) → nat_lt n (length ks) ≡ false → BreaksNumber (with_place (slice_get ks n) make)
no_place ks n make h = subst (λ z. BreaksNumber (with_place z make)) (sym (slice_get_past ks n (ltb-false n (length ks) h))) (refl, refl)

pub load_alike : (k : PlaceType) → is_never (loaded k) ≡ false → Alike (pushing true (loaded k)) (pushing true (loaded (place_up k)))
load_alike k h = row_alike true true 0 0 1 _ _ refl refl (none_gives _ _ (maps_single (loaded k) (loaded (place_up k)) (loaded_up k) h))

pub address_alike : (k : PlaceType) → Alike (address_row k) (address_row (place_up k))
address_alike (Plain t) = row_alike true true 0 0 1 _ _ refl refl (none_gives _ _ (maps_when _ _ _ _ (plain_up t) (λ h. maps_single (P t) (P (type_up t)) refl refl)))
address_alike (To t) = row_alike true true 0 0 1 _ _ refl refl (none_gives _ _ maps_none)

-- a row is made of what is found
named_some : {A : Type 0} (o : Option A) (x : A) (make : A → Row) → o ≡ Some x → named o make ≡ make x
named_some o x make e = ap (λ z. named z make) e

pub alike_by : (a a' b b' : Row) → a ≡ a' → b ≡ b' → Alike a' b' → Alike a b
alike_by a a' b b' e h k = subst (λ z. Alike z b) (sym e) (subst (λ z. Alike a' z) (sym h) k)

module _ (p q : Program) (order : (a b : CliType) → q.fits (type_up a) (type_up b) ≡ p.fits a b) where
  -- a value of the type stands where the place takes it
  pub fits_place : (t : StackType) (place place' : StackType) → place' ≡ stack_up place → assignable q (stack_up t) place' ≡ assignable p t place
  fits_place t place place' e = ap (assignable q (stack_up t)) e ∙ assignable_up p q order t place

  pub storing_alike : (s s' : Bool) (place place' : StackType) → s' ≡ s → place' ≡ stack_up place → Alike (storing p s place) (storing q s' place')
  storing_alike s s' place place' h e = row_alike s s' 1 1 0 _ _ h refl (one_gives _ _ (λ t n. maps_when _ _ _ _ (fits_place t place place' e) (λ w. maps_empty)))

  pub return_alike : (o o' : Option PlaceType) → o' ≡ option_map place_up o → Alike (return_row p o) (return_row q o')
  return_alike o o' e = subst (λ z. Alike (return_row p o) (return_row q z)) (sym e) (at o)
    where
      at : (o : Option PlaceType) → Alike (return_row p o) (return_row q (option_map place_up o))
      at None = record { sound = refl; rule = refl; pops = refl; pushes = refl; rest = refl; gives = none_gives _ _ maps_empty }
      at (Some k) = record { sound = refl; rule = refl; pops = refl; pushes = refl; rest = refl; gives = one_gives _ _ (λ t n. maps_when _ _ _ _ (fits_place t (loaded k) (loaded (place_up k)) (loaded_up k)) (λ w. maps_empty)) }

  -- ---- calls

  results : (r r' : Option PlaceType) → r' ≡ option_map place_up r → ((k : PlaceType) → r ≡ Some k → is_never (loaded k) ≡ false) → Maps (Some (result_row r)) (Some (result_row r'))
  results r r' e f = subst (λ z. Maps (Some (result_row r)) (Some (result_row z))) (sym e) (at r f)
    where
      at : (r : Option PlaceType) → ((k : PlaceType) → r ≡ Some k → is_never (loaded k) ≡ false) → Maps (Some (result_row r)) (Some (result_row (option_map place_up r)))
      at None f = maps_empty
      at (Some k) f = maps_single (loaded k) (loaded (place_up k)) (loaded_up k) (f k refl)

  counted : (r : Option PlaceType) → result_count (option_map place_up r) ≡ result_count r
  counted None = refl
  counted (Some k) = refl

  pub call_alike : (s s' : Bool) (c c' : Method) → s' ≡ s → Arguments c.arguments c'.arguments → c'.returns ≡ option_map place_up c.returns → ((k : PlaceType) → c.returns ≡ Some k → is_never (loaded k) ≡ false) → Alike (call_row p s c) (call_row q s' c')
  call_alike s s' c c' e args r f = record {
    sound = e;
    rule = refl;
    pops = args.count;
    pushes = ap result_count r ∙ counted c.returns;
    rest = refl;
    gives = λ us h. maps_when _ _ _ _ (args.takes p q order us) (λ w. results c.returns c'.returns r f);
  }

  pub new_alike : (c c' : Method) (class : Id) (this this' : PlaceType) (others others' : List PlaceType) → c.arguments ≡ this ∷ others → c'.arguments ≡ this' ∷ others' → is_plain_code c'.body c'.returns ≡ is_plain_code c.body c.returns → length others' ≡ length others → Arguments c.arguments c'.arguments
      → Alike (new_row p class c c.arguments) (new_row q (id_up class) c' c'.arguments)
  new_alike c c' class this this' others others' e h s n args =
      alike_by _ (new_row p class c (this ∷ others)) _ (new_row q (id_up class) c' (this' ∷ others')) (ap (new_row p class c) e) (ap (new_row q (id_up class) c') h)
      (row_alike (is_plain_code c.body c.returns) (is_plain_code c'.body c'.returns) (length others) (length others') 1 _ _ s n
      (λ us w. maps_when _ _ _ _ (args.takes p q order (O (ClassOf class) ∷ us)) (λ v. maps_single (O (ClassOf class)) (O (ClassOf (id_up class))) refl refl)))

-- ---- fields

module _ (x : Sources) (fits : CliType → CliType → Bool) (o : CodeOperand) (p : Operand) where
  -- an instance field at its place
  pub field_rows : (id : Id) (f : FieldOperand) (k : IsField x.classes id f) → field_named p ≡ Some f → is_instance_kind k.own.kind ≡ true
      → (r : Program → Id → CliType → Row) → Alike (r (program_of x) k.owner (type_in x.classes k.signature)) (r (program_by fits p) (id_up k.owner) (type_up (type_in x.classes k.signature)))
      → Alike (named ((program_of x).fields k.owner) (λ types. named (slice_get types k.place) (r (program_of x) k.owner))) (named ((program_by fits p).fields (id_of f.class.of)) (λ types. named (slice_get types 0) (r (program_by fits p) (id_of f.class.of))))
  field_rows id f k e h r a =
      alike_by _ (r (program_of x) k.owner (type_in x.classes k.signature)) _ (r (program_by fits p) (id_up k.owner) (type_up (type_in x.classes k.signature)))
      (named_some (fields x.classes k.owner) k.types _ (k.types_are h) ∙ named_some (slice_get k.types k.place) (type_in x.classes k.signature) _ (k.type_there h))
      (ap (λ z. named (Some (map (λ (g : FieldOperand). type_of g.of) (listed z))) (λ types. named (slice_get types 0) (r (program_by fits p) (id_of f.class.of)))) e
      ∙ (ap (λ i. r (program_by fits p) i (type_of f.of)) k.class.row ∙ ap (r (program_by fits p) (id_up k.owner)) k.type)) a

  -- a static field
  pub static_rows : (id : Id) (f : FieldOperand) (k : IsField x.classes id f) → field_named p ≡ Some f → is_static_kind k.own.kind ≡ true
      → (i : Id) (r : Program → CliType → Row) → Alike (r (program_of x) (type_in x.classes k.signature)) (r (program_by fits p) (type_up (type_in x.classes k.signature)))
      → Alike (named ((program_of x).static id) (r (program_of x))) (named ((program_by fits p).static i) (r (program_by fits p)))
  static_rows id f k e h i r a =
      alike_by _ (r (program_of x) (type_in x.classes k.signature)) _ (r (program_by fits p) (type_up (type_in x.classes k.signature)))
      (named_some (static x.classes id) (type_in x.classes k.signature) _
      (ap (λ z. on_some z (λ (g : OwnField). if is_static_kind g.kind then option_map (type_in x.classes) g.signature else None)) k.own_is
      ∙ (ap (λ b. if b then option_map (type_in x.classes) k.own.signature else None) h ∙ ap (option_map (type_in x.classes)) k.signed)))
      (ap (λ z. named (option_map (λ (g : FieldOperand). type_of g.of) z) (r (program_by fits p))) e ∙ ap (r (program_by fits p)) k.type) a

  -- the data of a field
  pub data_rows : (id : Id) (f : FieldOperand) (k : IsField x.classes id f) → is_some (data_of k.own.kind) ≡ true → (i : Id) → Alike (named (type_of_constant (program_of x) (Handle id)) (pushing true)) (named (type_of_constant (program_by fits p) (Handle i)) (pushing true))
  data_rows id f k h i =
      alike_by _ (pushing true H) _ (pushing true H) (ap (λ z. named (option_map (λ (bs : List ℕ). H) z) (pushing true)) (ap (λ z. on_some z (λ (g : OwnField). data_of g.kind)) k.own_is) ∙ at (data_of k.own.kind) h) refl
      (row_alike true true 0 0 1 _ _ refl refl (none_gives _ _ (maps_single H H refl refl)))
    where
      at : (z : Option (List ℕ)) → is_some z ≡ true → named (option_map (λ (bs : List ℕ). H) z) (pushing true) ≡ pushing true H
      at (Some bs) h = refl
      at None h = absurd (cc h)

  -- ---- methods

  abbrev pub called : (owner : Id) (own : OwnMethod) (s : Signature) (id : Id) → Method
  called owner own s id = method_with x.classes owner own s (unwrap_or (x.code id) no_code)

  pub method_is : (id : Id) (m : MethodOperand) (k : IsMethod x.classes id m) → method x id ≡ Some (called k.owner k.own k.signature id)
  method_is id m k =
      ap (λ z. on_some z (λ owner. on_some (method_at x.classes id) (λ own. option_map (λ s. method_with x.classes owner own s (unwrap_or (x.code id) no_code)) own.signature))) k.owner_is
      ∙ (ap (λ z. on_some z (λ (own : OwnMethod). option_map (λ s. method_with x.classes k.owner own s (unwrap_or (x.code id) no_code)) own.signature)) k.own_is
      ∙ ap (λ z. option_map (λ s. method_with x.classes k.owner k.own s (unwrap_or (x.code id) no_code)) z) k.signed)

  pub method_arguments : (id : Id) (m : MethodOperand) (k : IsMethod x.classes id m) → Arguments (called k.owner k.own k.signature id).arguments (callee m).arguments
  method_arguments id m k = method_takes x.classes k.owner m.class k.place k.owner_fits m k.signature refl k.this k.params

  result_has : (id : Id) (m : MethodOperand) (k : IsMethod x.classes id m) (r : PlaceType) → (called k.owner k.own k.signature id).returns ≡ Some r → is_never (loaded r) ≡ false
  result_has id m k r e = at k.signature.returns k.value e
    where
      at : (z : Option _) → ((s : _) → z ≡ Some s → is_plain (type_in x.classes s) ≡ true) → option_map (λ s. Plain (type_in x.classes s)) z ≡ Some r → is_never (loaded r) ≡ false
      at None f h = absurd (cc h)
      at (Some s) f h =
          let same : Plain (type_in x.classes s) ≡ r = cc h in
          ap (λ (k : PlaceType). is_never (loaded k)) (sym same) ∙ plain_has (type_in x.classes s) (f s refl)

  pub call_rows : (order : (a b : CliType) → fits (type_up a) (type_up b) ≡ (program_of x).fits a b) (id : Id) (m : MethodOperand) (k : IsMethod x.classes id m) → method_named p ≡ Some m
      → (i : Id) (test : Method → Bool) → test (callee m) ≡ test (called k.owner k.own k.signature id)
      → Alike (named ((program_of x).method id) (λ c. call_row (program_of x) (test c) c)) (named ((program_by fits p).method i) (λ c. call_row (program_by fits p) (test c) c))
  call_rows order id m k e i test h =
      alike_by _ (call_row (program_of x) (test (called k.owner k.own k.signature id)) (called k.owner k.own k.signature id)) _ (call_row (program_by fits p) (test (callee m)) (callee m))
      (named_some (method x id) (called k.owner k.own k.signature id) _ (method_is id m k)) (ap (λ z. named (option_map callee z) (λ c. call_row (program_by fits p) (test c) c)) e)
      (call_alike (program_of x) (program_by fits p) order (test (called k.owner k.own k.signature id)) (test (callee m)) (called k.owner k.own k.signature id) (callee m) h (method_arguments id m k) k.returns (result_has id m k))

  some_there : {A : Type 0} (z : Option A) → is_some z ≡ true → (a : A) × (z ≡ Some a)
  some_there None h = absurd (cc h)
  some_there (Some a) h = (a, refl)

  pub new_rows : (order : (a b : CliType) → fits (type_up a) (type_up b) ≡ (program_of x).fits a b) (id : Id) (m : MethodOperand) (k : IsMethod x.classes id m) → method_named p ≡ Some m → is_constructor k.own ≡ true → k.signature.has_this ≡ true
      → (i : Id) → Alike (named ((program_of x).method id) (λ c. named ((program_of x).fields k.owner) (λ types. new_row (program_of x) k.owner c c.arguments))) (named ((program_by fits p).method i) (λ c. named ((program_by fits p).fields (id_of m.class.of)) (λ types. new_row (program_by fits p) (id_of m.class.of) c c.arguments)))
  new_rows order id m k e c t i =
      let types = some_there (fields x.classes k.owner) k.fields in
      let one = called k.owner k.own k.signature id in
      alike_by _ (new_row (program_of x) k.owner one one.arguments) _ (new_row (program_by fits p) (id_up k.owner) (callee m) (callee m).arguments)
      (named_some (method x id) one _ (method_is id m k) ∙ named_some (fields x.classes k.owner) types.0 (λ ts. new_row (program_of x) k.owner one one.arguments) types.1)
      (ap (λ z. named (option_map callee z) (λ d. new_row (program_by fits p) (id_of m.class.of) d d.arguments)) e ∙ ap (λ j. new_row (program_by fits p) j (callee m) (callee m).arguments) k.place.row)
      (new_alike (program_of x) (program_by fits p) order one (callee m) k.owner (this_of x.classes k.owner) (place_of (this_place m.class)) (map (place_in x.classes) k.signature.parameters) (map place_of m.params.now)
      (ap (λ b. (if b then this_of x.classes k.owner ∷ [] else []) ++ map (place_in x.classes) k.signature.parameters) t)
      (ap (λ b. map place_of ((if b then this_place m.class ∷ [] else []) ++ m.params.now)) (k.this ∙ t))
      (ap (λ b. is_plain_code (body_of b) (result_of m.returns)) (not_abstract x.classes id m k c)
      ∙ (ap (is_plain_code Code) (no_result x.classes id m k c)
      ∙ sym (ap (λ b. is_plain_code b (option_map (λ s. Plain (type_in x.classes s)) k.signature.returns)) (k.code c) ∙ ap (λ z. is_plain_code Code (option_map (λ s. Plain (type_in x.classes s)) z)) (k.nothing c))))
      (ap length k.params ∙ length-map (map (place_in x.classes) k.signature.parameters) place_up)
      (method_arguments id m k))
