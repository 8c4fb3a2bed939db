-- Where the types that stand behind a count are.
use Rattle.std.specs.Prelude.{ℕ, List}
use Rattle.assemblies.specs.Binding.{numbered}
use Rattle.cil_sig.specs.declared.places.Position.{Position}
use Rattle.cil_sig.specs.declared.places.Position.TheVariants as positions
use Rattle.cil_sig.specs.declared.sig.SigType.{SigType}
use Rattle.verdict_rules.specs.Members.{Spelling, spelling}
use Rattle.signature_tests.specs.declared.walk.Listed.{Listed}
use Rattle.signature_tests.specs.declared.walk.Listed.TheVariants.{Parameters, Locals}

abbrev pub position_in : Listed → ℕ → Position
position_in Parameters k = positions.Parameter k
position_in Locals k = positions.Local k

abbrev pub in_list : Listed → ℕ → List SigType → List Spelling
in_list listed first types = numbered (λ k s. spelling (position_in listed k) s) first types
