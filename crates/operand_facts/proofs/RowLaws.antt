-- Rows from 1 as rows from 0.
use Rattle.std.proofs.Common.{◌≡◌, ◌∙◌, ℕ, ◌+◌, ◌-◌, Option, Some, None, ap, arith}
use Rattle.std.specs.Option.{option_map}
use Rattle.machine.specs.Data.{Id}

module _ {A : Type 0} (to : Id → A) where
  pub row_back : (o : Option Id) (x : A) (r : Id) → Some x ≡ option_map to o → ((c : Id) → x ≡ to c → r ≡ c) → Some r ≡ o
  row_back None x r e h = absurd (cc e)
  row_back (Some c) x r e h = let same : x ≡ to c = cc e in ap Some (h c same)

pub from_one : (f r : ℕ) (c : Id) → f ≡ c.file → r ≡ c.row + 1 → record { file = f; row = r - 1 } ≡ c
from_one f r c e g = let h : r - 1 ≡ c.row = omega (arith, g) in ap (λ n. record { file = f; row = n }) h ∙ ap (λ n. record { file = n; row = c.row }) e
