use Rattle.std.proofs.Common.{◌≡◌, List, ℕ, subst, sym, None}
use Rattle.std.specs.Prelude.{OnOk, IfOk, IfErr}
use Rattle.code_shrink.specs.Limits.{far_in, wide_in, IsRefused}
use Rattle.code_shrink.specs.Shrunk.{CanShrink, pieces_of, shrunk_bytes}
use Rattle.code_shrink.specs.Starts.{Pairs}
use Rattle.code_shrink.proofs.tiny.shrink.Goals as goal

pub shrink_code-requires-clause-sound : goal.shrink_code-requires-clause-sound
shrink_code-requires-clause-sound g c = subst CanShrink (sym c.code.ensures) c.requires

pub returns-clause-near : goal.returns-clause-near
returns-clause-near g c = subst (λ (l : List ℕ). OnOk c.shrink_code.result (far_in l ≡ None)) c.code.ensures c.shrink_code.ensures.near

pub returns-clause-few : goal.returns-clause-few
returns-clause-few g c = subst (λ (l : List ℕ). OnOk c.shrink_code.result (wide_in l ≡ None)) c.code.ensures c.shrink_code.ensures.few

pub returns-clause-code : goal.returns-clause-code
returns-clause-code g c = subst (λ (l : List ℕ). IfOk c.shrink_code.result (λ tiny. tiny.code ≡ shrunk_bytes (g.N.Renumber.numbered c.args.renumber.now) l)) c.code.ensures c.shrink_code.ensures.code

pub returns-clause-places : goal.returns-clause-places
returns-clause-places g c = subst (λ (l : List ℕ). IfOk c.shrink_code.result (λ tiny. Pairs (pieces_of l) tiny.starts)) c.code.ensures c.shrink_code.ensures.places

pub returns-clause-refused : goal.returns-clause-refused
returns-clause-refused g c = subst (λ (l : List ℕ). IfErr c.shrink_code.result (λ refusal. IsRefused l refusal)) c.code.ensures c.shrink_code.ensures.refused
