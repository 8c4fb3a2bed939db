-- The tokens of a signature by its parts.
use Rattle.std.proofs.Common.{◌≡◌, ℕ, List, Result, Ok, Err, sym, subst, ap}
use Rattle.cil_sig.specs.declared.sig.SigFault.{SigFault}
use Rattle.cil_sig.specs.declared.sig.MethodSig.{MethodSig}
use Rattle.cil_sig.specs.Reading.{Part, answer, whole_method}
use Rattle.world_rows.specs.Looked.{named_by_type, named_by_types, named_by_method}
use Rattle.looked_rows.specs.declared.looked.Looked.{Looked}
use Rattle.looked_rows.specs.Looked.{Looks}
use Rattle.looked_rows.proofs.LookLaws.{looks_after}

was_read : {X : Type 0} (blob : List ℕ) (p : Part X) (x : X) → Path (Result X SigFault) (Ok x) (answer blob p) → p ≡ Ok x
was_read blob (Ok y) x e = let same : x ≡ y = cc in ap Ok (sym same)
was_read blob (Err left) x e = absurd cc

pub method_marked : (blob : List ℕ) (of : MethodSig) (a b c : Looked) → Path (Result MethodSig SigFault) (Ok of) (answer blob (whole_method blob)) → Looks (named_by_type of.returns) a b → Looks (named_by_types of.params) b c → Looks (named_by_method (whole_method blob)) a c
method_marked blob of a b c e first second =
    subst (λ p. Looks (named_by_method p) a c) (sym (was_read blob (whole_method blob) of e)) (looks_after (named_by_type of.returns) (named_by_types of.params) a b c first second)
