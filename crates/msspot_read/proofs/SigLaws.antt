-- What stands behind a part of a signature is what its reader leaves.
use Rattle.std.proofs.Common.{◌≡◌, ℕ, zero, suc, ◌+◌, ◌-◌, ◌*◌, ◌<◌, ◌≤◌, Bool, true, false, List, [], ◌∷◌, length, take, drop, map, get_or, min, Option, Some, None, refl, sym, ap, ◌∙◌, arith}
use Rattle.std.specs.Prelude.{nat_eq, is_some, if◌then◌else◌, slice_get, unwrap_or}
use Rattle.std.proofs.lemmas.List.{length-take, take_min, get_or_past}
use Rattle.std.proofs.lemmas.List.Sums.{prefix_len-le-length}
use Rattle.msspot_read.specs.declared.signature.TheConstants.{ELEMENTS}
use Rattle.std.specs.List.{prefix_len}
use Rattle.plain_types.specs.declared.elem.Elem.{Elem}
use Rattle.machine.specs.Throw.{on_some}
use Rattle.image_bytes.specs.Layout.{Image, Reader, read_word, many}
use Rattle.assemblies.specs.Rows.{TypeToken, RawType, RawSpelt, RawClass, RawValue, RawArray, RawDirect, RawByRef}
use Rattle.image_form.specs.Signatures.{elems, elem_at, read_named, read_leaf, read_raw, read_type, read_place, read_result, with_returns, with_count, read_signature, read_locals, is_end, whole}
use Rattle.msspot_read.specs.declared.signature.Slot.{Slot}
use Rattle.msspot_read.specs.declared.signature.Slot.TheVariants as slots
use Rattle.msspot_read.specs.Forms.{plain_in, behind, ends, fits}
use Rattle.msspot_read.specs.declared.entries.Form.TheVariants as forms
use Rattle.image_form.specs.Form.{only_array}
use Rattle.msspot_read.specs.After.{after_token, after_leaf, brackets, after_brackets, after_type, after_place, after_result, after_slot, after_slots, after_counted, after_mark, after_method, is_array}

-- what is made of what was read doesn't matter
made : {A B : Type 0} (o : Option (A × List ℕ)) (make : A → B) → behind (on_some o (λ x. Some (make x.0, x.1))) ≡ behind o
made None make = refl
made (Some x) make = refl

named_behind : (i : Image) (make : TypeToken → RawType) (bytes : List ℕ) → behind (read_named (plain_in i) make bytes) ≡ after_token i bytes
unfolding after_token
named_behind i make [] = refl
named_behind i make (low ∷ []) = refl
named_behind i make (low ∷ high ∷ rest) = by (plain_in i (low + 256 * high)) where
  by : (o : Option TypeToken) → behind (on_some o (λ t. Some (make t, rest))) ≡ (if is_some o then Some rest else None)
  by None = refl
  by (Some t) = refl

leaf_behind : (i : Image) (code : ℕ) (rest : List ℕ) → behind (read_leaf (plain_in i) code rest) ≡ after_leaf i code rest
unfolding after_leaf
leaf_behind i code rest = by (nat_eq code 18) (nat_eq code 17) (elem_at code) where
  by : (a b : Bool) (o : Option Elem) → behind (if a then read_named (plain_in i) RawClass rest else (if b then read_named (plain_in i) RawValue rest else on_some o (λ e. Some (RawSpelt e, rest))))
      ≡ (if a then after_token i rest else (if b then after_token i rest else (if is_some o then Some rest else None)))
  by true b o = named_behind i RawClass rest
  by false true o = named_behind i RawValue rest
  by false false None = refl
  by false false (Some e) = refl

front_is : (i : Image) (b : ℕ) (rest : List ℕ) → after_brackets i (b ∷ rest) ≡ after_leaf i b rest
unfolding after_brackets
front_is i b rest = refl

raw_behind : (i : Image) (n : ℕ) (bytes : List ℕ) → behind (read_raw (plain_in i) n bytes) ≡ after_brackets i (drop (prefix_len (λ code. nat_eq code 29) (take n bytes)) bytes)
unfolding after_brackets
raw_behind i zero [] = refl
raw_behind i zero (b ∷ rest) = leaf_behind i b rest
raw_behind i (suc n) [] = refl
raw_behind i (suc n) (b ∷ rest) = by (nat_eq b 29) (prefix_len (λ code. nat_eq code 29) (take n rest)) (raw_behind i n rest) where
  by : (t : Bool) (k : ℕ) → behind (read_raw (plain_in i) n rest) ≡ after_brackets i (drop k rest)
      → behind (if t then on_some (read_raw (plain_in i) n rest) (λ x. Some (RawArray x.0, x.1)) else read_leaf (plain_in i) b rest) ≡ after_brackets i (drop (if t then 1 + k else 0) (b ∷ rest))
  by true k ih = let more : 1 + k ≡ suc k = omega arith in made (read_raw (plain_in i) n rest) RawArray ∙ ih ∙ ap (λ m. after_brackets i (drop m (b ∷ rest))) (sym more)
  by false k ih = leaf_behind i b rest ∙ sym (front_is i b rest)

pub type_behind : (i : Image) (bytes : List ℕ) → behind (read_type (plain_in i) bytes) ≡ after_type i bytes
unfolding after_type
type_behind i bytes = raw_behind i 255 bytes

pub place_behind : (i : Image) (bytes : List ℕ) → behind (read_place (plain_in i) bytes) ≡ after_place i bytes
unfolding after_place
place_behind i [] = type_behind i []
place_behind i (b ∷ rest) = by (nat_eq b 16) where
  by : (t : Bool) → behind (if t then on_some (read_type (plain_in i) rest) (λ x. Some (RawByRef x.0, x.1)) else on_some (read_type (plain_in i) (b ∷ rest)) (λ x. Some (RawDirect x.0, x.1)))
      ≡ (if t then after_type i rest else after_type i (b ∷ rest))
  by true = made (read_type (plain_in i) rest) RawByRef ∙ type_behind i rest
  by false = made (read_type (plain_in i) (b ∷ rest)) RawDirect ∙ type_behind i (b ∷ rest)

pub result_behind : (i : Image) (bytes : List ℕ) → behind (read_result (plain_in i) bytes) ≡ after_result i bytes
unfolding after_result
result_behind i [] = type_behind i []
result_behind i (b ∷ rest) = by (nat_eq b 1) where
  by : (t : Bool) → behind (if t then Some (None, rest) else on_some (read_type (plain_in i) (b ∷ rest)) (λ x. Some (Some x.0, x.1))) ≡ (if t then Some rest else after_type i (b ∷ rest))
  by true = refl
  by false = made (read_type (plain_in i) (b ∷ rest)) Some ∙ type_behind i (b ∷ rest)

many_behind : {A : Type 0} (i : Image) (slot : Slot) (read : Reader A) → ((bytes : List ℕ) → behind (read bytes) ≡ after_slot i slot bytes) → (n : ℕ) (bytes : List ℕ) → behind (many read n bytes) ≡ after_slots i slot n bytes
unfolding after_slots
many_behind {A} i slot read one zero bytes = refl
many_behind {A} i slot read one (suc n) bytes = by (read bytes) (one bytes) (λ more. many_behind i slot read one n more) where
  by : (o : Option (A × List ℕ)) → behind o ≡ after_slot i slot bytes → ((more : List ℕ) → behind (many read n more) ≡ after_slots i slot n more) → behind (on_some o (λ x. on_some (many read n x.1) (λ xs. Some (x.0 ∷ xs.0, xs.1)))) ≡ on_some (after_slot i slot bytes) (after_slots i slot n)
  by None e ih = ap (λ o. on_some o (after_slots i slot n)) e
  by (Some x) e ih = made (many read n x.1) (λ xs. x.0 ∷ xs) ∙ ih x.1 ∙ ap (λ o. on_some o (after_slots i slot n)) e

pub locals_behind : (i : Image) (bytes : List ℕ) → behind (read_locals (plain_in i) bytes) ≡ after_counted i slots.Local bytes
unfolding after_counted
locals_behind i [] = refl
locals_behind i (low ∷ []) = refl
locals_behind i (low ∷ high ∷ rest) = many_behind i slots.Local (read_type (plain_in i)) (type_behind i) (low + 256 * high) rest

counted_behind : (i : Image) (this : Bool) (bytes : List ℕ) → behind (on_some (read_word bytes) (with_count (plain_in i) this)) ≡ after_mark i bytes
unfolding after_mark
counted_behind i this [] = refl
counted_behind i this (low ∷ []) = refl
counted_behind i this (low ∷ high ∷ rest) = by (read_result (plain_in i) rest) (result_behind i rest) where
  by : (o : Option (Option RawType × List ℕ)) → behind o ≡ after_result i rest → behind (on_some o (with_returns (plain_in i) this (low + 256 * high))) ≡ on_some (after_result i rest) (after_slots i slots.Parameter (low + 256 * high))
  by None e = ap (λ o. on_some o (after_slots i slots.Parameter (low + 256 * high))) e
  by (Some x) e =
      made (many (read_place (plain_in i)) (low + 256 * high) x.1) (λ ps. record { has_this = this; returns = x.0; parameters = ps })
      ∙ many_behind i slots.Parameter (read_place (plain_in i)) (place_behind i) (low + 256 * high) x.1
      ∙ ap (λ o. on_some o (after_slots i slots.Parameter (low + 256 * high))) e

pub method_behind : (i : Image) (bytes : List ℕ) → behind (read_signature (plain_in i) bytes) ≡ after_method i bytes
unfolding after_method
method_behind i [] = refl
method_behind i (b ∷ rest) = by (nat_eq b 32) (nat_eq b 0) where
  by : (t u : Bool) → behind (if t then on_some (read_word rest) (with_count (plain_in i) true) else (if u then on_some (read_word rest) (with_count (plain_in i) false) else None))
      ≡ (if t then after_mark i rest else (if u then after_mark i rest else None))
  by true u = counted_behind i true rest
  by false true = counted_behind i false rest
  by false false = refl

-- ---- whole signatures

some_if : {A : Type 0} (y : A) (t : Bool) → is_some (if t then Some y else None) ≡ t
some_if y true = refl
some_if y false = refl

pub whole_ends : {A : Type 0} (read : Reader A) (bytes : List ℕ) → is_some (whole read bytes) ≡ ends (behind (read bytes))
whole_ends {A} read bytes = by (read bytes) where
  by : (o : Option (A × List ℕ)) → is_some (on_some o (λ x. if is_end x.1 then Some x.0 else None)) ≡ ends (behind o)
  by None = refl
  by (Some x) = some_if x.0 (is_end x.1)

-- the loop over counted slots
pub slots_stop : (i : Image) (slot : Slot) (count k : ℕ) (bytes : List ℕ) (whole : Option (List ℕ)) → k < count → None ≡ after_slot i slot bytes → after_slots i slot (count - k) bytes ≡ whole → None ≡ whole
unfolding after_slots
slots_stop i slot count k bytes whole lt e so_far =
    let more : count - k ≡ suc (count - (k + 1)) = omega arith in
    let one : after_slots i slot (count - k) bytes ≡ None = ap (λ n. after_slots i slot n bytes) more ∙ ap (λ o. on_some o (after_slots i slot (count - (k + 1)))) (sym e) in
    sym one ∙ so_far

pub slots_go_on : (i : Image) (slot : Slot) (count k : ℕ) (bytes after : List ℕ) (whole : Option (List ℕ)) → k < count → Some after ≡ after_slot i slot bytes → after_slots i slot (count - k) bytes ≡ whole → after_slots i slot (count - (k + 1)) after ≡ whole
unfolding after_slots
slots_go_on i slot count k bytes after whole lt e so_far =
    let more : count - k ≡ suc (count - (k + 1)) = omega arith in
    let one : after_slots i slot (count - k) bytes ≡ after_slots i slot (count - (k + 1)) after = ap (λ n. after_slots i slot n bytes) more ∙ ap (λ o. on_some o (after_slots i slot (count - (k + 1)))) (sym e) in
    sym one ∙ so_far

pub slots_done : (i : Image) (slot : Slot) (count k : ℕ) (bytes : List ℕ) (whole : Option (List ℕ)) → count ≤ k → after_slots i slot (count - k) bytes ≡ whole → Some bytes ≡ whole
unfolding after_slots
slots_done i slot count k bytes whole le so_far =
    let none : count - k ≡ 0 = omega arith in
    sym (ap (λ n. after_slots i slot n bytes) none) ∙ so_far

-- ---- brackets

pub brackets_fit : (bytes : List ℕ) → brackets bytes ≤ length bytes
brackets_fit bytes = omega (arith, prefix_len-le-length (λ code. nat_eq code 29) (take 255 bytes), length-take 255 bytes)

pub few_brackets : (bytes : List ℕ) → prefix_len (λ code. nat_eq code 29) (take (min (length bytes) 255) bytes) ≡ brackets bytes
few_brackets bytes = let swap : min (length bytes) 255 ≡ min 255 (length bytes) = omega arith in ap (λ n. prefix_len (λ code. nat_eq code 29) (take n bytes)) swap ∙ ap (prefix_len (λ code. nat_eq code 29)) (take_min 255 bytes)

-- ---- the elements that a byte alone spells

pub element_table : {A : Type 0} (os : List (Option A)) (k : ℕ) → get_or (map is_some os) k false ≡ is_some (unwrap_or (slice_get os k) None)
element_table [] k = refl
element_table (o ∷ os) zero = refl
element_table (o ∷ os) (suc k) = element_table os k

pub element_is : (code : ℕ) → get_or ELEMENTS code false ≡ is_some (elem_at code)
element_is code = element_table elems code

pub no_element : (code : ℕ) → 29 ≤ code → false ≡ is_some (elem_at code)
no_element code h = sym (get_or_past ELEMENTS code false (omega arith)) ∙ element_is code

-- ---- the forms of entries

pub type_fits : (i : Image) (entry : List ℕ) → ends (after_type i entry) ≡ fits i forms.Type entry
type_fits i entry = ap ends (sym (type_behind i entry)) ∙ sym (whole_ends (read_type (plain_in i)) entry)

pub method_fits : (i : Image) (entry : List ℕ) → ends (after_method i entry) ≡ fits i forms.Method entry
method_fits i entry = ap ends (sym (method_behind i entry)) ∙ sym (whole_ends (read_signature (plain_in i)) entry)

pub locals_fit : (i : Image) (entry : List ℕ) → ends (after_counted i slots.Local entry) ≡ fits i forms.Locals entry
locals_fit i entry = ap ends (sym (locals_behind i entry)) ∙ sym (whole_ends (read_locals (plain_in i)) entry)

-- an array begins with its byte
abbrev finished : Option (RawType × List ℕ) → Option RawType
finished o = on_some o (λ x. if is_end x.1 then Some x.0 else None)

array_is : (o : Option (RawType × List ℕ)) → is_some (on_some (finished (on_some o (λ x. Some (RawArray x.0, x.1)))) only_array) ≡ is_some (finished (on_some o (λ x. Some (RawArray x.0, x.1))))
array_is None = refl
array_is (Some x) = by (is_end x.1) where
  by : (t : Bool) → is_some (on_some (if t then Some (RawArray x.0) else None) only_array) ≡ is_some (if t then Some (RawArray x.0) else None)
  by true = refl
  by false = refl

no_array : (t : RawType) (rest : List ℕ) → only_array t ≡ None → is_some (on_some (finished (Some (t, rest))) only_array) ≡ false
no_array t rest e = by (is_end rest) where
  by : (b : Bool) → is_some (on_some (if b then Some t else None) only_array) ≡ false
  by true = ap is_some e
  by false = refl

named_no_array : (i : Image) (make : TypeToken → RawType) (bytes : List ℕ) → ((t : TypeToken) → only_array (make t) ≡ None) → is_some (on_some (finished (read_named (plain_in i) make bytes)) only_array) ≡ false
named_no_array i make [] h = refl
named_no_array i make (low ∷ []) h = refl
named_no_array i make (low ∷ high ∷ rest) h = by (plain_in i (low + 256 * high)) where
  by : (o : Option TypeToken) → is_some (on_some (finished (on_some o (λ t. Some (make t, rest)))) only_array) ≡ false
  by None = refl
  by (Some t) = no_array (make t) rest (h t)

leaf_no_array : (i : Image) (code : ℕ) (rest : List ℕ) → is_some (on_some (finished (read_leaf (plain_in i) code rest)) only_array) ≡ false
leaf_no_array i code rest = by (nat_eq code 18) (nat_eq code 17) (elem_at code) where
  by : (a b : Bool) (o : Option Elem) → is_some (on_some (finished (if a then read_named (plain_in i) RawClass rest else (if b then read_named (plain_in i) RawValue rest else on_some o (λ e. Some (RawSpelt e, rest))))) only_array) ≡ false
  by true b o = named_no_array i RawClass rest (λ t. refl)
  by false true o = named_no_array i RawValue rest (λ t. refl)
  by false false None = refl
  by false false (Some e) = no_array (RawSpelt e) rest refl

pub array_fits : (i : Image) (b : ℕ) (rest : List ℕ) → (if nat_eq b 29 then ends (after_type i (b ∷ rest)) else false) ≡ fits i forms.Array (b ∷ rest)
array_fits i b rest = ap (λ x. if nat_eq b 29 then x else false) (type_fits i (b ∷ rest)) ∙ by (nat_eq b 29) where
  by : (t : Bool)
      → (if t then is_some (finished (if t then on_some (read_raw (plain_in i) 254 rest) (λ x. Some (RawArray x.0, x.1)) else read_leaf (plain_in i) b rest)) else false)
      ≡ is_some (on_some (finished (if t then on_some (read_raw (plain_in i) 254 rest) (λ x. Some (RawArray x.0, x.1)) else read_leaf (plain_in i) b rest)) only_array)
  by true = sym (array_is (read_raw (plain_in i) 254 rest))
  by false = sym (leaf_no_array i b rest)

pub array_is_fit : (i : Image) (entry : List ℕ) → is_array i entry ≡ fits i forms.Array entry
unfolding is_array
array_is_fit i [] = refl
array_is_fit i (b ∷ rest) = array_fits i b rest
