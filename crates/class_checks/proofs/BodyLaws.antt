-- Which numbers are those of natives.
use Rattle.std.proofs.Common.{◌≡◌, ◌∙◌, ℕ, zero, suc, ◌<◌, cond, true, false, List, [], ◌∷◌, Option, Some, None, refl, sym, ap, arith}
use Rattle.std.specs.Prelude.{◌&&◌, nat_eq, nat_le, is_some, unwrap_or}
use Rattle.std.specs.List.{find, list_all}
use Rattle.std.specs.Option.{option_map}
use Rattle.std.proofs.lemmas.Bool.{leb-true, lt-leb, ne_eqb, and_parts, and_right}
use Rattle.machine.specs.Program.{Native, Missing, native_number}
use Rattle.machine_typed.specs.Typing.{has_body}
use Rattle.world_rows.specs.Natives.{NativeRow, natives}
use Rattle.class_table.specs.Seen.{native_seen}
use Rattle.class_rules.specs.Rules.{is_native}

-- a number past all of them is none
past : (n : ℕ) → 17 < n → (rs : List NativeRow) → list_all (λ (r : NativeRow). nat_le (native_number r.number) 17) rs ≡ true → find (λ (r : NativeRow). nat_eq (native_number r.number) n) rs ≡ None
past n high [] low = refl
past n high (r ∷ rs) low =
    let small = leb-true (native_number r.number) 17 (and_parts (nat_le (native_number r.number) 17) (list_all (λ (r : NativeRow). nat_le (native_number r.number) 17) rs) low).0 in
    let other : nat_eq (native_number r.number) n ≡ false = ne_eqb (native_number r.number) n (λ e. omega (arith, small, high, e)) in
    ap (λ b. cond b (Some r) (find (λ (r : NativeRow). nat_eq (native_number r.number) n) rs)) other
    ∙ past n high rs (and_parts (nat_le (native_number r.number) 17) (list_all (λ (r : NativeRow). nat_le (native_number r.number) 17) rs) low).1

past_all : (n : ℕ) → 17 < n → is_some (find (λ (r : NativeRow). nat_eq (native_number r.number) n) natives) ≡ (nat_le 1 n && nat_le n 17)
past_all n high = ap is_some (past n high natives refl) ∙ sym (and_right (nat_le 1 n) (nat_le n 17) (lt-leb n 17 high))

known : (n : ℕ) → is_some (find (λ (r : NativeRow). nat_eq (native_number r.number) n) natives) ≡ (nat_le 1 n && nat_le n 17)
known zero = refl
known (suc zero) = refl
known (suc (suc zero)) = refl
known (suc (suc (suc zero))) = refl
known (suc (suc (suc (suc zero)))) = refl
known (suc (suc (suc (suc (suc zero))))) = refl
known (suc (suc (suc (suc (suc (suc zero)))))) = refl
known (suc (suc (suc (suc (suc (suc (suc zero))))))) = refl
known (suc (suc (suc (suc (suc (suc (suc (suc zero)))))))) = refl
known (suc (suc (suc (suc (suc (suc (suc (suc (suc zero))))))))) = refl
known (suc (suc (suc (suc (suc (suc (suc (suc (suc (suc zero)))))))))) = refl
known (suc (suc (suc (suc (suc (suc (suc (suc (suc (suc (suc zero))))))))))) = refl
known (suc (suc (suc (suc (suc (suc (suc (suc (suc (suc (suc (suc zero)))))))))))) = refl
known (suc (suc (suc (suc (suc (suc (suc (suc (suc (suc (suc (suc (suc zero))))))))))))) = refl
known (suc (suc (suc (suc (suc (suc (suc (suc (suc (suc (suc (suc (suc (suc zero)))))))))))))) = refl
known (suc (suc (suc (suc (suc (suc (suc (suc (suc (suc (suc (suc (suc (suc (suc zero))))))))))))))) = refl
known (suc (suc (suc (suc (suc (suc (suc (suc (suc (suc (suc (suc (suc (suc (suc (suc zero)))))))))))))))) = refl
known (suc (suc (suc (suc (suc (suc (suc (suc (suc (suc (suc (suc (suc (suc (suc (suc (suc zero))))))))))))))))) = refl
known (suc (suc (suc (suc (suc (suc (suc (suc (suc (suc (suc (suc (suc (suc (suc (suc (suc (suc n)))))))))))))))))) = past_all (suc (suc (suc (suc (suc (suc (suc (suc (suc (suc (suc (suc (suc (suc (suc (suc (suc (suc n)))))))))))))))))) (omega arith)

native_found : (o : Option NativeRow) → is_native (unwrap_or (option_map (λ (r : NativeRow). Native r.number) o) Missing) ≡ is_some o
native_found None = refl
native_found (Some r) = refl

body_found : (o : Option NativeRow) → has_body (unwrap_or (option_map (λ (r : NativeRow). Native r.number) o) Missing) ≡ is_some o
body_found None = refl
body_found (Some r) = refl

pub native_by_number : (n : ℕ) → is_native (native_seen n) ≡ (nat_le 1 n && nat_le n 17)
native_by_number n = native_found (find (λ (r : NativeRow). nat_eq (native_number r.number) n) natives) ∙ known n

pub body_by_number : (n : ℕ) → has_body (native_seen n) ≡ (nat_le 1 n && nat_le n 17)
body_by_number n = body_found (find (λ (r : NativeRow). nat_eq (native_number r.number) n) natives) ∙ known n
