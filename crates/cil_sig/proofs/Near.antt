-- How far into the bytes a fault of a signature can be.
use Rattle.std.proofs.Common.{◌≡◌, ℕ, zero, suc, ◌+◌, ◌*◌, ◌%◌, ◌^◌, ◌≤◌, ◌<◌, Bool, true, false, cond, ltb, eqb, List, [], ◌∷◌, length, drop, Option, Some, None, Ok, Err, arith, refl, length-drop}
use Rattle.std.specs.Option.{ok_or}
use Rattle.std.proofs.lemmas.Bool.{ltb-true, ltb-false}
use Rattle.plain_types.specs.declared.elem.Elem.{Elem}
use Rattle.cil_sig.specs.declared.sig.SigType.{SigType}
use Rattle.cil_sig.specs.declared.sig.MethodSig.{MethodSig}
use Rattle.cil_sig.specs.declared.reading.Slot.{Slot}
use Rattle.cil_sig.specs.declared.reading.Slot.TheVariants.{Parameter, Local}
use Rattle.cil_sig.specs.declared.elements.TheConstants.{VOID, POINTER, ARRAY, MAX_COUNT, FIELD, LOCALS, STATIC_METHOD, INSTANCE_METHOD}
use Rattle.file_tables.specs.Compressed.{compressed_at, second_byte, three_bytes}
use Rattle.cil_sig.specs.Elements.{element_of, names_type}
use Rattle.cil_sig.specs.Reading.{◌>>=◌, Part, no_case, number_at, count_at, token_at, name_at, element_at, brackets, bracketed, bracketed_at, type_at, pointer_at, parameter_at, no_value, result_at, slot_at, slots_at, behind, this_at, alone, whole_type, whole_field, whole_spec, whole_locals, whole_method}
use Rattle.cil_sig.proofs.Fronts.{brackets_fit}
use Rattle.cil_sig.proofs.Numbers.{count_takes}

-- A reader takes at most k bytes, and finds a fault among k bytes.
abbrev pub IsNear : {X : Type 0} → ℕ → List ℕ → Part (X × List ℕ) → Type 0
IsNear k bytes (Ok x) = (length x.1 ≤ length bytes) × (length bytes ≤ length x.1 + k)
IsNear k bytes (Err left) = (left ≤ length bytes) × (length bytes ≤ left + k)

-- a fault is found within k bytes
abbrev pub StopsNear : {X : Type 0} → ℕ → List ℕ → Part X → Type 0
StopsNear k bytes (Ok x) = Unit {0}
StopsNear k bytes (Err left) = (left ≤ length bytes) × (length bytes ≤ left + k)

at_most : {X : Type 0} (j k : ℕ) (bytes : List ℕ) (part : Part (X × List ℕ)) → j ≤ k → IsNear j bytes part → IsNear k bytes part
at_most j k bytes (Ok x) le near = (near.0, omega arith)
at_most j k bytes (Err left) le near = (near.0, omega arith)

near_then : {X Y : Type 0} (j k : ℕ) (bytes : List ℕ) (part : Part (X × List ℕ)) (f : X × List ℕ → Part (Y × List ℕ)) → IsNear j bytes part → ((x : X × List ℕ) → IsNear k x.1 (f x)) → IsNear (j + k) bytes (part >>= f)
near_then {Y = Y} j k bytes (Ok x) f near then = later (f x) (then x) where
  later : (next : Part (Y × List ℕ)) → IsNear k x.1 next → IsNear (j + k) bytes next
  later (Ok y) next = (omega arith, omega arith)
  later (Err left) next = (omega arith, omega arith)
near_then j k bytes (Err left) f near then = (near.0, omega arith)

near_if : {X : Type 0} (k : ℕ) (bytes : List ℕ) (b : Bool) (x y : Part (X × List ℕ)) → IsNear k bytes x → IsNear k bytes y → IsNear k bytes (cond b x y)
near_if k bytes true x y p q = p
near_if k bytes false x y p q = q

-- a number with its form told
form_near : (one two four : Bool) (a : ℕ) (rest : List ℕ) → IsNear 4 (a ∷ rest) (ok_or (cond one (Some (a, rest)) (cond two (second_byte a rest) (cond four (three_bytes a rest) None))) (length (a ∷ rest)))
form_near true two four a rest = (omega arith, omega arith)
form_near false true four a [] = (omega arith, omega arith)
form_near false true four a (b ∷ rest) = (omega arith, omega arith)
form_near false false true a [] = (omega arith, omega arith)
form_near false false true a (b ∷ []) = (omega arith, omega arith)
form_near false false true a (b ∷ c ∷ []) = (omega arith, omega arith)
form_near false false true a (b ∷ c ∷ d ∷ rest) = (omega arith, omega arith)
form_near false false false a rest = (omega arith, omega arith)

number_near : (bytes : List ℕ) → IsNear 4 bytes (number_at bytes)
unfolding number_at compressed_at
number_near [] = (omega arith, omega arith)
number_near (a ∷ rest) = form_near _ _ _ a rest

-- a number that a test may refuse
tested_near : (bytes : List ℕ) (part : Part (ℕ × List ℕ)) (test : ℕ → Bool) → IsNear 4 bytes part → IsNear 4 bytes (part >>= λ x. cond (test x.0) (no_case bytes) (Ok x))
tested_near bytes (Ok x) test near = near_if 4 bytes (test x.0) (no_case bytes) (Ok x) (omega arith, omega arith) near
tested_near bytes (Err left) test near = near

accepted_near : (bytes : List ℕ) (part : Part (ℕ × List ℕ)) (test : ℕ → Bool) → IsNear 4 bytes part → IsNear 4 bytes (part >>= λ x. cond (test x.0) (Ok x) (no_case bytes))
accepted_near bytes (Ok x) test near = near_if 4 bytes (test x.0) (Ok x) (no_case bytes) near (omega arith, omega arith)
accepted_near bytes (Err left) test near = near

pub count_near : (bytes : List ℕ) → IsNear 4 bytes (count_at bytes)
unfolding count_at
count_near bytes = tested_near bytes (number_at bytes) (λ count. ltb MAX_COUNT count) (number_near bytes)

token_near : (bytes : List ℕ) → IsNear 4 bytes (token_at bytes)
unfolding token_at
token_near bytes = accepted_near bytes (number_at bytes) (λ token. ltb (token % 4) 2) (number_near bytes)

name_near : (elem : Elem) (bytes : List ℕ) → IsNear 4 bytes (name_at elem bytes)
unfolding name_at
name_near elem bytes = near_if 4 bytes (names_type elem) (token_at bytes) (Ok (0, bytes)) (token_near bytes) (omega arith, omega arith)

named_near : (elem : Elem) (code : ℕ) (rest : List ℕ) (name : Part (ℕ × List ℕ)) → IsNear 4 rest name → IsNear {X = Elem × ℕ} 5 (code ∷ rest) (name >>= λ name. Ok ((elem, name.0), name.1))
named_near elem code rest (Ok name) near = (omega arith, omega arith)
named_near elem code rest (Err left) near = (omega arith, omega arith)

coded_near : (elem : Option Elem) (code : ℕ) (rest : List ℕ) → IsNear {X = Elem × ℕ} 5 (code ∷ rest) (ok_or elem (length (code ∷ rest)) >>= λ e. name_at e rest >>= λ name. Ok ((e, name.0), name.1))
coded_near (Some elem) code rest = named_near elem code rest (name_at elem rest) (name_near elem rest)
coded_near None code rest = (omega arith, omega arith)

element_near : (bytes : List ℕ) → IsNear 5 bytes (element_at bytes)
unfolding element_at
element_near [] = (omega arith, omega arith)
element_near (code ∷ rest) = coded_near (element_of code) code rest

behind_near : (bytes : List ℕ) (ranks : ℕ) (element : Part ((Elem × ℕ) × List ℕ)) → ranks ≤ length bytes → ranks ≤ 255 → IsNear 5 (drop ranks bytes) element
    → IsNear {X = SigType} 260 bytes (element >>= λ element. Ok (bracketed ranks element.0, element.1))
behind_near bytes ranks (Ok element) fits few near = (omega (arith, length-drop ranks bytes), omega (arith, length-drop ranks bytes))
behind_near bytes ranks (Err left) fits few near = (omega (arith, length-drop ranks bytes), omega (arith, length-drop ranks bytes))

bracketed_near : (bytes : List ℕ) (ranks : ℕ) → ranks ≤ length bytes → ranks ≤ 255 → IsNear 260 bytes (bracketed_at ranks bytes)
unfolding bracketed_at
bracketed_near bytes ranks fits few = behind_near bytes ranks (element_at (drop ranks bytes)) fits few (element_near (drop ranks bytes))

ranks_near : (bytes : List ℕ) (ranks : ℕ) (many : Bool) → ltb 255 ranks ≡ many → ranks ≤ length bytes → IsNear 260 bytes (cond many (no_case (drop 255 bytes)) (bracketed_at ranks bytes))
ranks_near bytes ranks true many fits =
    let more : 255 < ranks = ltb-true _ _ many in
    (omega (arith, length-drop 255 bytes), omega (arith, length-drop 255 bytes))
ranks_near bytes ranks false many fits = bracketed_near bytes ranks fits (ltb-false _ _ many)

pub type_near : (bytes : List ℕ) → IsNear 260 bytes (type_at bytes)
unfolding type_at
type_near bytes = ranks_near bytes (brackets bytes) _ refl (brackets_fit bytes)

pointer_near : (bytes : List ℕ) → IsNear 260 bytes (pointer_at bytes)
unfolding pointer_at
pointer_near bytes = of (type_at bytes) (type_near bytes) where
  of : (to : Part (SigType × List ℕ)) → IsNear 260 bytes to → IsNear 260 bytes (to >>= λ to. Ok (record to.0 { pointer = true }, to.1))
  of (Ok to) near = near
  of (Err left) near = near

-- one byte more
past_near : {X : Type 0} (k b : ℕ) (rest : List ℕ) (part : Part (X × List ℕ)) → IsNear k rest part → IsNear (k + 1) (b ∷ rest) part
past_near k b rest (Ok x) near = (omega arith, omega arith)
past_near k b rest (Err left) near = (omega arith, omega arith)

parameter_near : (bytes : List ℕ) → IsNear 261 bytes (parameter_at bytes)
unfolding parameter_at
parameter_near [] = at_most 260 261 [] (type_at []) (omega arith) (type_near [])
parameter_near (code ∷ rest) =
    near_if 261 (code ∷ rest) (eqb code POINTER) (pointer_at rest) (type_at (code ∷ rest)) (past_near 260 code rest (pointer_at rest) (pointer_near rest)) (at_most 260 261 (code ∷ rest) (type_at (code ∷ rest)) (omega arith) (type_near (code ∷ rest)))

pub result_near : (bytes : List ℕ) → IsNear 260 bytes (result_at bytes)
unfolding result_at
result_near [] = type_near []
result_near (code ∷ rest) = near_if 260 (code ∷ rest) (eqb code VOID) (Ok (no_value, rest)) (type_at (code ∷ rest)) (omega arith, omega arith) (type_near (code ∷ rest))

pub slot_near : (slot : Slot) (bytes : List ℕ) → IsNear 261 bytes (slot_at slot bytes)
slot_near Parameter bytes = parameter_near bytes
slot_near Local bytes = at_most 260 261 bytes (type_at bytes) (omega arith) (type_near bytes)

slots_near : (slot : Slot) (count : ℕ) (bytes : List ℕ) → IsNear (261 * count) bytes (slots_at slot count bytes)
unfolding slots_at
slots_near slot zero bytes = (omega arith, omega arith)
slots_near slot (suc n) bytes =
    let all = near_then 261 (261 * n) bytes (slot_at slot bytes) (λ first. slots_at slot n first.1 >>= λ others. Ok (first.0 ∷ others.0, others.1)) (slot_near slot bytes) (λ first. others first (slots_at slot n first.1) (slots_near slot n first.1)) in
    at_most (261 + 261 * n) (261 * suc n) bytes _ (omega arith) all
  where
    others : (first : SigType × List ℕ) (read : Part (List SigType × List ℕ)) → IsNear (261 * n) first.1 read → IsNear (261 * n) first.1 (read >>= λ others. Ok (first.0 ∷ others.0, others.1))
    others first (Ok x) near = near
    others first (Err left) near = near

-- what follows a first byte
mark_near : (mark : ℕ) (bytes : List ℕ) → StopsNear 0 bytes (behind mark bytes)
mark_near mark [] = (omega arith, omega arith)
mark_near mark (b ∷ rest) = by (eqb b mark) where
  by : (is : Bool) → StopsNear 0 (b ∷ rest) (cond is (Ok rest) (no_case (b ∷ rest)))
  by true = tt
  by false = (omega arith, omega arith)

pub this_near : (bytes : List ℕ) → IsNear 1 bytes (this_at bytes)
this_near [] = (omega arith, omega arith)
this_near (b ∷ rest) =
    near_if 1 (b ∷ rest) (eqb b INSTANCE_METHOD) (Ok (true, rest)) _ (omega arith, omega arith)
    (near_if 1 (b ∷ rest) (eqb b STATIC_METHOD) (Ok (false, rest)) (no_case (b ∷ rest)) (omega arith, omega arith) (omega arith, omega arith))

alone_near : {X : Type 0} (x : X) (rest : List ℕ) → StopsNear 0 rest (alone x rest)
alone_near x [] = tt
alone_near x (b ∷ rest) = (omega arith, omega arith)

-- The value of the first part is known in the second.
stops_then : {X Y : Type 0} (j k : ℕ) (bytes : List ℕ) (part : Part (X × List ℕ)) (f : X × List ℕ → Part Y) → IsNear j bytes part → ((x : X × List ℕ) → part ≡ Ok x → StopsNear k x.1 (f x)) → StopsNear (j + k) bytes (part >>= f)
stops_then {Y = Y} j k bytes (Ok x) f near then = later (f x) (then x refl) where
  later : (next : Part Y) → StopsNear k x.1 next → StopsNear (j + k) bytes next
  later (Ok y) next = tt
  later (Err left) next = (omega arith, omega arith)
stops_then j k bytes (Err left) f near then = (near.0, omega arith)

no_further : {Y : Type 0} (j k : ℕ) (bytes : List ℕ) (part : Part Y) → j ≤ k → StopsNear j bytes part → StopsNear k bytes part
no_further j k bytes (Ok y) le near = tt
no_further j k bytes (Err left) le near = (near.0, omega arith)

past_stop : {Y : Type 0} (k b : ℕ) (rest : List ℕ) (part : Part Y) → StopsNear k rest part → StopsNear (k + 1) (b ∷ rest) part
past_stop k b rest (Ok y) near = tt
past_stop k b rest (Err left) near = (omega arith, omega arith)

-- the bytes behind a mark
mark_if : {Y : Type 0} (is : Bool) (k b : ℕ) (rest : List ℕ) (f : List ℕ → Part Y) → StopsNear k rest (f rest) → StopsNear (k + 1) (b ∷ rest) (cond is (Ok rest) (no_case (b ∷ rest)) >>= f)
mark_if true k b rest f near = past_stop k b rest (f rest) near
mark_if false k b rest f near = (omega arith, omega arith)

mark_then : {Y : Type 0} (k mark : ℕ) (bytes : List ℕ) (f : List ℕ → Part Y) → ((rest : List ℕ) → StopsNear k rest (f rest)) → StopsNear (k + 1) bytes (behind mark bytes >>= f)
mark_then k mark [] f then = (omega arith, omega arith)
mark_then k mark (b ∷ rest) f then = mark_if (eqb b mark) k b rest f (then rest)

-- the whole bytes once the mark stands in front
mark_whole : {Y : Type 0} (is : Bool) (k b : ℕ) (rest : List ℕ) (next : Part Y) → StopsNear k (b ∷ rest) next → StopsNear k (b ∷ rest) (cond is (Ok rest) (no_case (b ∷ rest)) >>= λ r. next)
mark_whole true k b rest next near = near
mark_whole false k b rest next near = (omega arith, omega arith)

whole_type_near : (bytes : List ℕ) → StopsNear 260 bytes (whole_type bytes)
unfolding whole_type
whole_type_near bytes = stops_then 260 0 bytes (type_at bytes) (λ of. alone of.0 of.1) (type_near bytes) (λ of is. alone_near of.0 of.1)

pub field_near : (blob : List ℕ) → StopsNear 261 blob (whole_field blob)
unfolding whole_field
field_near blob = mark_then 260 FIELD blob (λ rest. whole_type rest) whole_type_near

pub spec_near : (blob : List ℕ) → StopsNear 260 blob (whole_spec blob)
unfolding whole_spec
spec_near [] = (omega arith, omega arith)
spec_near (b ∷ rest) = mark_whole (eqb b ARRAY) 260 b rest (whole_type (b ∷ rest)) (whole_type_near (b ∷ rest))

-- at most 65,535 types behind their count
listed_near : {Y : Type 0} (slot : Slot) (count : ℕ) (bytes : List ℕ) (f : List SigType → Y) → count ≤ MAX_COUNT → StopsNear (261 * 65535) bytes (slots_at slot count bytes >>= λ types. alone (f types.0) types.1)
listed_near slot count bytes f few =
    no_further (261 * count + 0) (261 * 65535) bytes _ (omega arith) (stops_then (261 * count) 0 bytes (slots_at slot count bytes) (λ types. alone (f types.0) types.1) (slots_near slot count bytes) (λ types is. alone_near (f types.0) types.1))

counted_near : (rest : List ℕ) → StopsNear (4 + 261 * 65535) rest (count_at rest >>= λ count. slots_at Local count.0 count.1 >>= λ types. alone types.0 types.1)
counted_near rest =
    stops_then 4 (261 * 65535) rest (count_at rest) (λ count. slots_at Local count.0 count.1 >>= λ types. alone types.0 types.1) (count_near rest) (λ count is. listed_near Local count.0 count.1 (λ types. types) (count_takes rest count is).is.1)

pub locals_near : (blob : List ℕ) → StopsNear (2 ^ 25) blob (whole_locals blob)
unfolding whole_locals
locals_near blob =
    no_further (4 + 261 * 65535 + 1) (2 ^ 25) blob _ (omega arith) (mark_then (4 + 261 * 65535) LOCALS blob (λ rest. count_at rest >>= λ count. slots_at Local count.0 count.1 >>= λ types. alone types.0 types.1) counted_near)

-- the method whose first byte and result are read
abbrev method_behind : Bool → ℕ → SigType × List ℕ → Part MethodSig
method_behind this count returns = slots_at Parameter count returns.1 >>= λ params. alone (record { this = this; returns = returns.0; params = params.0 }) params.1

results_near : (this : Bool) (count : ℕ) (bytes : List ℕ) → count ≤ MAX_COUNT → StopsNear (260 + 261 * 65535) bytes (result_at bytes >>= method_behind this count)
results_near this count bytes few =
    stops_then 260 (261 * 65535) bytes (result_at bytes) (method_behind this count) (result_near bytes) (λ returns is. listed_near Parameter count returns.1 (λ params. record { this = this; returns = returns.0; params = params }) few)

counts_near : (this : Bool) (bytes : List ℕ) → StopsNear (264 + 261 * 65535) bytes (count_at bytes >>= λ count. result_at count.1 >>= method_behind this count.0)
counts_near this bytes =
    stops_then 4 (260 + 261 * 65535) bytes (count_at bytes) (λ count. result_at count.1 >>= method_behind this count.0) (count_near bytes) (λ count is. results_near this count.0 count.1 (count_takes bytes count is).is.1)

pub method_near : (blob : List ℕ) → StopsNear (2 ^ 25) blob (whole_method blob)
unfolding whole_method
method_near blob =
    no_further (1 + (264 + 261 * 65535)) (2 ^ 25) blob _ (omega arith) (stops_then 1 (264 + 261 * 65535) blob (this_at blob) (λ this. count_at this.1 >>= λ count. result_at count.1 >>= method_behind this.0 count.0) (this_near blob) (λ this is. counts_near this.0 this.1))
