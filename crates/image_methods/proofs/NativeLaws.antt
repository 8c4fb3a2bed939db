-- The natives of the base library by their numbers.
use Rattle.std.proofs.Common.{◌≡◌, ◌≢◌, ℕ, zero, suc, ◌-◌, ◌<◌, ◌≤◌, Bool, true, false, cond, List, [], ◌∷◌, length, get_or, Option, Some, None, refl, sym, ap, subst, ◌∙◌, arith, lit≤}
use Rattle.std.specs.Prelude.{nat_eq, is_some, unwrap_or, ◌&&◌}
use Rattle.std.specs.List.{find, list_all, range_with_len}
use Rattle.std.specs.Option.{option_map}
use Rattle.std.proofs.lemmas.Bool.{eqb-true}
use Rattle.std.proofs.lemmas.List.FromFn.{get_or-range_with_len}
use Rattle.machine.specs.Program.{NativeName, ObjectToString, EnumEquals, EnumToString, ArrayLength, ArrayCopy, StringLength, StringChars, StringConcat, StringSubstring, StringEquals, StringCompare, StringFromChars, StringFromChar, NumberSigned, NumberUnsigned, InitializeArray, DebugPrint, native_number, Native, Missing}
use Rattle.world_rows.specs.Natives.{NativeRow, natives}
use Rattle.class_table.specs.Seen.{native_seen}
use Rattle.image_methods.specs.Columns.{native_of}

find_passes : {A : Type 0} (test : A → Bool) (xs : List A) (x : A) → find test xs ≡ Some x → test x ≡ true
find_passes test [] x e = absurd (cc e)
find_passes {A} test (y ∷ ys) x e = go (test y) refl (find_passes test ys x) e
  where
    go : (b : Bool) → test y ≡ b → (find test ys ≡ Some x → test x ≡ true) → cond b (Some y) (find test ys) ≡ Some x → test x ≡ true
    go true t rest h = let same : y ≡ x = cc h in ap test (sym same) ∙ t
    go false t rest h = rest h

and_both : (a b : Bool) → (a && b) ≡ true → (a ≡ true) × (b ≡ true)
and_both true b e = (refl, e)
and_both false b e = absurd (cc e)

each_passes : (test : ℕ → Bool) (xs : List ℕ) (i : ℕ) → list_all test xs ≡ true → i < length xs → test (get_or xs i 0) ≡ true
each_passes test [] i h within = absurd (omega (arith, within))
each_passes test (x ∷ xs) zero h within = (and_both _ _ h).0
each_passes test (x ∷ xs) (suc i) h within = each_passes test xs i (and_both _ _ h).1 (omega (arith, within))

abbrev of_number : ℕ → Option NativeRow
of_number n = find (λ (r : NativeRow). nat_eq (native_number r.number) n) natives

all_numbers : list_all (λ k. is_some (of_number k)) (range_with_len 1 17) ≡ true
all_numbers = refl

count : length (range_with_len 1 17) ≡ 17
count = refl

number_in : (n : ℕ) → 1 ≤ n → n ≤ 17 → is_some (of_number n) ≡ true
number_in n low high =
    let at : get_or (range_with_len 1 17) (n - 1) 0 ≡ n = let there = get_or-range_with_len 1 17 (n - 1) 0 (omega (arith, low, high)) in omega (arith, there, low) in
    subst (λ k. is_some (of_number k) ≡ true) at (each_passes (λ k. is_some (of_number k)) (range_with_len 1 17) (n - 1) all_numbers (omega (arith, low, high, count)))

named_in : (name : NativeName) → (1 ≤ native_number name) × (native_number name ≤ 17)
named_in ObjectToString = (lit≤ tt, lit≤ tt)
named_in EnumEquals = (lit≤ tt, lit≤ tt)
named_in EnumToString = (lit≤ tt, lit≤ tt)
named_in ArrayLength = (lit≤ tt, lit≤ tt)
named_in ArrayCopy = (lit≤ tt, lit≤ tt)
named_in StringLength = (lit≤ tt, lit≤ tt)
named_in StringChars = (lit≤ tt, lit≤ tt)
named_in StringConcat = (lit≤ tt, lit≤ tt)
named_in StringSubstring = (lit≤ tt, lit≤ tt)
named_in StringEquals = (lit≤ tt, lit≤ tt)
named_in StringCompare = (lit≤ tt, lit≤ tt)
named_in StringFromChars = (lit≤ tt, lit≤ tt)
named_in StringFromChar = (lit≤ tt, lit≤ tt)
named_in NumberSigned = (lit≤ tt, lit≤ tt)
named_in NumberUnsigned = (lit≤ tt, lit≤ tt)
named_in InitializeArray = (lit≤ tt, lit≤ tt)
named_in DebugPrint = (lit≤ tt, lit≤ tt)

number_of : (n : ℕ) (r : NativeRow) → of_number n ≡ Some r → native_number r.number ≡ n
number_of n r e = eqb-true (native_number r.number) n (find_passes (λ (x : NativeRow). nat_eq (native_number x.number) n) natives r e)

abbrev seen : Option NativeRow → Option ℕ
seen o = native_of (unwrap_or (option_map (λ (r : NativeRow). Native r.number) o) Missing)

pub no_native : (n : ℕ) → n ≡ 0 → None ≡ native_of (native_seen n)
no_native n e = ap (λ k. native_of (native_seen k)) (sym e)

pub one_native : (n : ℕ) → n ≢ 0 → n ≤ 17 → Some n ≡ native_of (native_seen n)
one_native n some high = go (of_number n) refl
  where
    low : 1 ≤ n
    low = omega (arith, some)

    go : (o : Option NativeRow) → of_number n ≡ o → Some n ≡ seen o
    go (Some r) e = ap (λ k. Some k) (sym (number_of n r e))
    go None e = absurd (cc (ap is_some (sym e), number_in n low high))

pub past_native : (n : ℕ) → 17 < n → None ≡ native_of (native_seen n)
past_native n past = go (of_number n) refl
  where
    go : (o : Option NativeRow) → of_number n ≡ o → None ≡ seen o
    go (Some r) e = absurd (let same = number_of n r e in let high = (named_in r.number).1 in omega (arith, same, high, past))
    go None e = refl
