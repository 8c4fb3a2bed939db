-- Arrays as the types of places.
use Rattle.std.proofs.Common.{◌≡◌, ℕ, zero, suc, false, refl, sym, ap}
use Rattle.machine_typed.specs.Typing.{is_number, is_plain}
use Rattle.classes.specs.Classes.{Classes, SigType}
use Rattle.classes.specs.Queries.{type_of}
use Rattle.member_keys.specs.Seen.{arrays}

pub plain_arrays : (cs : Classes) (n : ℕ) (s : SigType) → is_plain (type_of cs s) ≡ is_plain (type_of cs (arrays n s))
plain_arrays cs zero s = refl
plain_arrays cs (suc n) s = plain_arrays cs n s

pub no_ranks : (cs : Classes) (n : ℕ) (s : SigType) → n ≡ 0 → is_number (type_of cs s) ≡ is_number (type_of cs (arrays n s))
no_ranks cs n s e = sym (ap (λ k. is_number (type_of cs (arrays k s))) e)

pub some_ranks : (cs : Classes) (n : ℕ) (s : SigType) → (n ≡ 0 → ⊥) → false ≡ is_number (type_of cs (arrays n s))
some_ranks cs zero s e = absurd (e refl)
some_ranks cs (suc n) s e = refl
