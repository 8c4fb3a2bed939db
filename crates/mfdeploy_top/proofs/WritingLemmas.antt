-- One piece more of a text is written.
use Rattle.std.proofs.Common.{◌≡◌, ◌≤◌, ◌+◌, ◌-◌, ℕ, List, ◌++◌, length, take, drop, sym, ap, ◌∙◌, append_assoc, arith, take-add}
use Rattle.std.proofs.lemmas.List.{length-take}
use Rattle.std.proofs.lemmas.List.{take-take}
use Rattle.mf_types.specs.Pieces.{AppendsFront}

pub whole_piece : (old mid new text : List ℕ) (done k : ℕ) → mid ≡ old ++ take done text → new ≡ mid ++ take (done + k - done) (drop done text) → new ≡ old ++ take (done + k) text
whole_piece old mid new text done k before now =
    let size : done + k - done ≡ k = omega arith in
    now
    ∙ ap (λ n. mid ++ take n (drop done text)) size
    ∙ ap (λ (m : List ℕ). m ++ take k (drop done text)) before
    ∙ append_assoc old (take done text) (take k (drop done text))
    ∙ ap (λ (m : List ℕ). old ++ m) (sym (take-add done k text))

pub front_of_piece : (old mid new text : List ℕ) (done k : ℕ) → done + k ≤ length text → mid ≡ old ++ take done text → AppendsFront mid new (take (done + k - done) (drop done text)) → AppendsFront old new text
front_of_piece old mid new text done k within before h =
    let size : done + k - done ≡ k = omega arith in
    let most : h.0 ≤ k = omega (arith, length-take (done + k - done) (drop done text), h.1) in (
      done + h.0,
      omega arith,
      h.2
          ∙ ap (λ n. mid ++ take h.0 (take n (drop done text))) size
          ∙ ap (λ (m : List ℕ). mid ++ m) (take-take h.0 k (drop done text) most)
          ∙ ap (λ (m : List ℕ). m ++ take h.0 (drop done text)) before
          ∙ append_assoc old (take done text) (take h.0 (drop done text))
          ∙ ap (λ (m : List ℕ). old ++ m) (sym (take-add done h.0 text)),
    )
