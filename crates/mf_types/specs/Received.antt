-- What a receive that didn't fail says.
use Rattle.std.specs.Prelude.{ℕ, List}
use Rattle.mf_types.specs.declared.link.Got.{Got}
use Rattle.mf_types.specs.declared.link.Got.TheVariants.{Bytes, Silent}
use Rattle.mf_types.specs.LinkCalls.{LinkState, HasCome, IsSilent}

abbrev pub Receives : Got → List ℕ → LinkState → LinkState → Type 0
Receives (Bytes n) into old new = HasCome n into old new
Receives Silent into old new = IsSilent old new
