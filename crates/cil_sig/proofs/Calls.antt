-- What the public calls say, from what reading gives.
use Rattle.std.proofs.Common.{◌≡◌, ℕ, List, Ok, Err, sym, ◌∙◌, subst}
use Rattle.cil_sig.specs.Reading.{Part}
use Rattle.cil_sig.proofs.Near.{StopsNear}

-- where a fault stands
pub at_fault : {X : Type 0} (k : ℕ) (bytes : List ℕ) (part : Part X) (left : ℕ) → part ≡ Err left → StopsNear k bytes part → StopsNear {X = X} k bytes (Err left)
at_fault {X = X} k bytes part left e near = subst (StopsNear {X = X} k bytes) e near

-- a part can't be both a value and a fault
pub not_both : {X A : Type 0} (part : Part X) (x : X) (left : ℕ) → part ≡ Ok x → part ≡ Err left → A
not_both {X = X} part x left ok err = absurd (let both : Path (Part X) (Ok x) (Err left) = sym ok ∙ err in cc)

pub same_value : {X : Type 0} (part : Part X) (x y : X) → part ≡ Ok x → part ≡ Ok y → x ≡ y
same_value {X = X} part x y p q = let both : Path (Part X) (Ok x) (Ok y) = sym p ∙ q in cc
