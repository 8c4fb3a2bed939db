-- The natives by their numbers, and what runs where a method is called.
use Rattle.std.proofs.Common.{◌≡◌, ℕ, zero, suc, ◌<◌, false, List, [], ◌∷◌, Option, Some, None, refl, ap, ◌∙◌, cond, arith}
use Rattle.std.specs.Prelude.{nat_eq, unwrap_or}
use Rattle.std.specs.List.{find}
use Rattle.std.specs.Option.{option_map}
use Rattle.std.proofs.lemmas.Bool.Decides.{nat_tests}
use Rattle.machine.specs.Program.{Native, Missing, native_number}
use Rattle.image_form.specs.Form.{native_body}
use Rattle.world_rows.specs.Natives.{NativeRow, natives}
use Rattle.class_table.specs.Seen.{native_seen}

abbrev Below : List NativeRow → ℕ → Type 0
Below [] n = Unit {0}
Below (r ∷ rs) n = (native_number r.number < n) × Below rs n

apart : (a b : ℕ) → a < b → nat_eq a b ≡ false
apart a b h = grind (arith, nat_tests)

none_of : (rs : List NativeRow) (n : ℕ) → Below rs n → find (λ (r : NativeRow). nat_eq (native_number r.number) n) rs ≡ None
none_of [] n h = refl
none_of (r ∷ rs) n h = ap (λ b. cond b (Some r) (find (λ (q : NativeRow). nat_eq (native_number q.number) n) rs)) (apart (native_number r.number) n h.0) ∙ none_of rs n h.1

pub native_same : (n : ℕ) → native_seen n ≡ native_body n
native_same zero = refl
native_same (suc zero) = refl
native_same (suc (suc zero)) = refl
native_same (suc (suc (suc zero))) = refl
native_same (suc (suc (suc (suc zero)))) = refl
native_same (suc (suc (suc (suc (suc zero))))) = refl
native_same (suc (suc (suc (suc (suc (suc zero)))))) = refl
native_same (suc (suc (suc (suc (suc (suc (suc zero))))))) = refl
native_same (suc (suc (suc (suc (suc (suc (suc (suc zero)))))))) = refl
native_same (suc (suc (suc (suc (suc (suc (suc (suc (suc zero))))))))) = refl
native_same (suc (suc (suc (suc (suc (suc (suc (suc (suc (suc zero)))))))))) = refl
native_same (suc (suc (suc (suc (suc (suc (suc (suc (suc (suc (suc zero))))))))))) = refl
native_same (suc (suc (suc (suc (suc (suc (suc (suc (suc (suc (suc (suc zero)))))))))))) = refl
native_same (suc (suc (suc (suc (suc (suc (suc (suc (suc (suc (suc (suc (suc zero))))))))))))) = refl
native_same (suc (suc (suc (suc (suc (suc (suc (suc (suc (suc (suc (suc (suc (suc zero)))))))))))))) = refl
native_same (suc (suc (suc (suc (suc (suc (suc (suc (suc (suc (suc (suc (suc (suc (suc zero))))))))))))))) = refl
native_same (suc (suc (suc (suc (suc (suc (suc (suc (suc (suc (suc (suc (suc (suc (suc (suc zero)))))))))))))))) = refl
native_same (suc (suc (suc (suc (suc (suc (suc (suc (suc (suc (suc (suc (suc (suc (suc (suc (suc zero))))))))))))))))) = refl
native_same (suc (suc (suc (suc (suc (suc (suc (suc (suc (suc (suc (suc (suc (suc (suc (suc (suc (suc n)))))))))))))))))) = ap (λ (o : Option NativeRow). unwrap_or (option_map (λ (r : NativeRow). Native r.number) o) Missing) (none_of natives (suc (suc (suc (suc (suc (suc (suc (suc (suc (suc (suc (suc (suc (suc (suc (suc (suc (suc n)))))))))))))))))) (omega arith, (omega arith, (omega arith, (omega arith, (omega arith, (omega arith, (omega arith, (omega arith, (omega arith, (omega arith, (omega arith, (omega arith, (omega arith, (omega arith, (omega arith, (omega arith, (omega arith, tt))))))))))))))))))
