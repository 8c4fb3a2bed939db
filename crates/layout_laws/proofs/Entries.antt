-- A name that stands in `#Strings` with a zero behind it is read there.
use Rattle.std.proofs.Common.{◌≡◌, ℕ, ◌<◌, true, false, ◌&&◌, cond, eqb, ltb, leb, List, [], ◌∷◌, ◌++◌, length, take, drop, Some, None, refl, ap, ◌∙◌, arith, length-append, append_assoc}
use Rattle.std.specs.List.{list_all, position_or_len}
use Rattle.std.specs.Str.{is_utf8, chars}
use lib.Utf8.{encode}
use Rattle.std.proofs.lemmas.List.{take_at}
use Rattle.std.proofs.lemmas.Bool.{and_parts, leb-true, ne_eqb, lt-ltb}
use Rattle.file_tables.specs.Heaps.{before_zero, string_at}
use Rattle.cil_layout.specs.declared.fixed.TheConstants.{MODULE_TYPE}
use Rattle.cil_layout.specs.Heaps.{name_entry, name_place}
use Rattle.cil_layout.specs.Askable.{is_name}

-- the first zero stands behind the name
zero_behind : (name rest : List ℕ) → list_all (leb 1) name ≡ true → position_or_len (λ b. eqb b 0) (name ++ 0 ∷ rest) ≡ length name
zero_behind [] rest whole = refl
zero_behind (c ∷ cs) rest whole =
    let parts : (leb 1 c ≡ true) × (list_all (leb 1) cs ≡ true) = and_parts (leb 1 c) (list_all (leb 1) cs) whole in
    let other : eqb c 0 ≡ false = ne_eqb c 0 (λ e. omega (arith, leb-true 1 c parts.0, e)) in
    rw other (omega (arith, zero_behind cs rest parts.1))

-- so the name is what stands before it
before_name : (name rest : List ℕ) → list_all (leb 1) name ≡ true → before_zero (name ++ 0 ∷ rest) ≡ name
unfolding before_zero
before_name name rest whole = rw (zero_behind name rest whole) (take_at name (0 ∷ rest) (length name) refl)

-- a text that ends before its bytes do
text_found : (text rest : List ℕ) → length text < length rest → is_utf8 text ≡ true → cond (ltb (length text) (length rest) && is_utf8 text) (Some text) None ≡ Some text
text_found text rest shorter is = rw (lt-ltb (length text) (length rest) shorter, is) refl

-- where a name and a zero stand
string_found : (heap name rest : List ℕ) (at : ℕ) → drop at heap ≡ name ++ 0 ∷ rest → is_name name ≡ true → string_at heap at ≡ Some name
unfolding string_at
string_found heap name rest at e is =
    let parts : (is_utf8 name ≡ true) × (list_all (leb 1) name ≡ true) = and_parts (is_utf8 name) (list_all (leb 1) name) is in
    rw (e, before_name name rest parts.1) (text_found name (name ++ 0 ∷ rest) (omega (arith, length-append name (0 ∷ rest))) parts.0)

-- a name's entry; the empty name is read at the heap's first byte
pub string_entry : (heap name behind rest : List ℕ) (at : ℕ) → heap ≡ 0 ∷ rest → drop at heap ≡ name_entry name ++ behind → is_name name ≡ true → string_at heap (name_place at name) ≡ Some name
string_entry heap [] behind rest at first e is = string_found heap [] rest 0 first is
string_entry heap (c ∷ cs) behind rest at first e is = string_found heap (c ∷ cs) behind at (e ∙ append_assoc (c ∷ cs) (0 ∷ []) behind) is

-- and so is the empty text
pub empty_string : (heap rest : List ℕ) → heap ≡ 0 ∷ rest → string_at heap 0 ≡ Some []
unfolding is_utf8 chars
empty_string heap rest first = string_found heap [] rest 0 first refl

-- the type without a name of its own
pub module_type_name : (heap rest : List ℕ) → heap ≡ 0 ∷ MODULE_TYPE ++ rest → string_at heap 1 ≡ Some (take 8 MODULE_TYPE)
unfolding is_utf8 chars encode
module_type_name heap rest first = string_found heap (take 8 MODULE_TYPE) rest 1 (ap (drop 1) first) refl
