-- Two stacks place by place, from the lowest place up.
use Rattle.std.proofs.Common.{◌≡◌, ℕ, suc, ◌+◌, ◌-◌, ◌<◌, Bool, true, false, List, [], ◌∷◌, ◌++◌, length, get_or, take, drop, map, Option, Some, None, Ok, Err, refl, sym, ap, ◌∙◌, arith}
use Rattle.std.specs.Prelude.{reverse}
use Rattle.std.proofs.lemmas.List.{map_more, map-append, reverse-append, length-reverse, length-map, length-drop, take-append-drop}
use Rattle.ecma_types.specs.declared.stack.StackType.{StackType as WorldType}
use Rattle.machine_typed.specs.Typing.{StackType}
use Rattle.code_rules.specs.Pass.{Lattice, cons_merged, if_fits, merge_all, fit_all}
use Rattle.forward_pass.specs.Seen.{Agrees, seen_stack}

cons_err : (o : Option StackType) (rule : ℕ) → cons_merged o (Err rule) ≡ Err rule
cons_err None rule = refl
cons_err (Some t) rule = refl

fits_some : (b : Bool) → if_fits b (Some 53) ≡ Some 53
fits_some true = refl
fits_some false = refl

fits_depth : (b : Bool) → if_fits b (Some 52) ≡ Some 52
fits_depth true = refl
fits_depth false = refl

module _ (l : Lattice) where
  -- ---- other depths

  merge_depth : (ts us : List StackType) → (length ts ≡ length us → ⊥) → merge_all l ts us ≡ Err 52
  merge_depth [] [] other = absurd (other refl)
  merge_depth [] (u ∷ us) other = refl
  merge_depth (t ∷ ts) [] other = refl
  merge_depth (t ∷ ts) (u ∷ us) other = ap (cons_merged (l.merge t u)) (merge_depth ts us (λ e. other (ap suc e))) ∙ cons_err (l.merge t u) 52

  fit_depth : (ts us : List StackType) → (length ts ≡ length us → ⊥) → fit_all l ts us ≡ Some 52
  fit_depth [] [] other = absurd (other refl)
  fit_depth [] (u ∷ us) other = refl
  fit_depth (t ∷ ts) [] other = refl
  fit_depth (t ∷ ts) (u ∷ us) other = ap (if_fits (l.assignable t u)) (fit_depth ts us (λ e. other (ap suc e))) ∙ fits_depth (l.assignable t u)

  -- ---- a place that fails, below others

  merge_above : (xs ys ts us : List StackType) → length xs ≡ length ys → merge_all l ts us ≡ Err 53 → merge_all l (xs ++ ts) (ys ++ us) ≡ Err 53
  merge_above [] [] ts us e failed = failed
  merge_above [] (y ∷ ys) ts us e failed = absurd (omega (arith, e))
  merge_above (x ∷ xs) [] ts us e failed = absurd (omega (arith, e))
  merge_above (x ∷ xs) (y ∷ ys) ts us e failed =
      let e' : length xs ≡ length ys = omega (arith, e) in
      ap (cons_merged (l.merge x y)) (merge_above xs ys ts us e' failed) ∙ cons_err (l.merge x y) 53

  fit_above : (xs ys ts us : List StackType) → length xs ≡ length ys → fit_all l ts us ≡ Some 53 → fit_all l (xs ++ ts) (ys ++ us) ≡ Some 53
  fit_above [] [] ts us e failed = failed
  fit_above [] (y ∷ ys) ts us e failed = absurd (omega (arith, e))
  fit_above (x ∷ xs) [] ts us e failed = absurd (omega (arith, e))
  fit_above (x ∷ xs) (y ∷ ys) ts us e failed =
      let e' : length xs ≡ length ys = omega (arith, e) in
      ap (if_fits (l.assignable x y)) (fit_above xs ys ts us e' failed) ∙ fits_some (l.assignable x y)

-- ---- stacks of the code

module _ (seen : WorldType → StackType) where
  stack_more : (ts : List WorldType) (i : ℕ) (d : WorldType) → i < length ts → seen_stack seen (take (i + 1) ts) ≡ seen (get_or ts i d) ∷ seen_stack seen (take i ts)
  stack_more ts i d within = ap (λ xs. reverse xs) (map_more seen ts i d within) ∙ reverse-append (map seen (take i ts)) (seen (get_or ts i d) ∷ [])

  stack_parts : (ts : List WorldType) (i : ℕ) → seen_stack seen ts ≡ seen_stack seen (drop i ts) ++ seen_stack seen (take i ts)
  stack_parts ts i =
      ap (seen_stack seen) (sym (take-append-drop i ts))
      ∙ ap (λ xs. reverse xs) (map-append seen (take i ts) (drop i ts))
      ∙ reverse-append (map seen (take i ts)) (map seen (drop i ts))

  pub stack_length : (ts : List WorldType) → length (seen_stack seen ts) ≡ length ts
  stack_length ts = length-reverse (map seen ts) ∙ length-map ts seen

  rest_length : (ts us : List WorldType) (i : ℕ) → length ts ≡ length us → length (seen_stack seen (drop i ts)) ≡ length (seen_stack seen (drop i us))
  rest_length ts us i e = stack_length (drop i ts) ∙ (length-drop i ts ∙ ap (λ n. n - i) e ∙ sym (length-drop i us)) ∙ sym (stack_length (drop i us))

  module _ (l : Lattice) where
    pub merge_other : (ts us : List WorldType) → (length ts ≡ length us → ⊥) → merge_all l (seen_stack seen ts) (seen_stack seen us) ≡ Err 52
    merge_other ts us other = merge_depth l (seen_stack seen ts) (seen_stack seen us) (λ e. other (sym (stack_length ts) ∙ e ∙ stack_length us))

    pub fit_other : (ts us : List WorldType) → (length ts ≡ length us → ⊥) → fit_all l (seen_stack seen ts) (seen_stack seen us) ≡ Some 52
    fit_other ts us other = fit_depth l (seen_stack seen ts) (seen_stack seen us) (λ e. other (sym (stack_length ts) ∙ e ∙ stack_length us))

    -- two lists that are given by their first places
    merge_same : (ts us ts' us' : List StackType) → ts ≡ ts' → us ≡ us' → merge_all l ts us ≡ merge_all l ts' us'
    merge_same ts us ts' us' e f = ap (λ x. merge_all l x us) e ∙ ap (merge_all l ts') f

    fit_same : (ts us ts' us' : List StackType) → ts ≡ ts' → us ≡ us' → fit_all l ts us ≡ fit_all l ts' us'
    fit_same ts us ts' us' e f = ap (λ x. fit_all l x us) e ∙ ap (fit_all l ts') f

    module _ (assignable : WorldType → WorldType → Bool) (merges : WorldType → WorldType → Option WorldType → Type 0) (agrees : Agrees seen assignable merges l) where
      pub merge_fails : (ts us both : List WorldType) (i : ℕ) (d e : WorldType) → length ts ≡ length us → i < length us → merges (get_or ts i d) (get_or us i e) None → merge_all l (seen_stack seen (take i ts)) (seen_stack seen (take i us)) ≡ Ok (seen_stack seen both) → merge_all l (seen_stack seen ts) (seen_stack seen us) ≡ Err 53
      merge_fails ts us both i d e same in_us apart before =
          let t = get_or ts i d in
          let u = get_or us i e in
          let in_ts : i < length ts = omega arith in
          merge_same _ _ _ _ (stack_parts ts (i + 1)) (stack_parts us (i + 1))
          ∙ merge_above l (seen_stack seen (drop (i + 1) ts)) (seen_stack seen (drop (i + 1) us)) (seen_stack seen (take (i + 1) ts)) (seen_stack seen (take (i + 1) us)) (rest_length ts us (i + 1) same)
          (merge_same _ _ _ _ (stack_more ts i d in_ts) (stack_more us i e in_us)
          ∙ ap (cons_merged (l.merge (seen t) (seen u))) before
          ∙ ap (λ o. cons_merged o (Ok (seen_stack seen both))) (sym (agrees.joins t u None apart)))

      pub fit_fails : (ts us : List WorldType) (i : ℕ) (d e : WorldType) → length ts ≡ length us → i < length us → assignable (get_or ts i d) (get_or us i e) ≡ false → fit_all l (seen_stack seen (take i ts)) (seen_stack seen (take i us)) ≡ None → fit_all l (seen_stack seen ts) (seen_stack seen us) ≡ Some 53
      fit_fails ts us i d e same in_us apart before =
          let t = get_or ts i d in
          let u = get_or us i e in
          let in_ts : i < length ts = omega arith in
          fit_same _ _ _ _ (stack_parts ts (i + 1)) (stack_parts us (i + 1))
          ∙ fit_above l (seen_stack seen (drop (i + 1) ts)) (seen_stack seen (drop (i + 1) us)) (seen_stack seen (take (i + 1) ts)) (seen_stack seen (take (i + 1) us)) (rest_length ts us (i + 1) same)
          (fit_same _ _ _ _ (stack_more ts i d in_ts) (stack_more us i e in_us)
          ∙ ap (if_fits (l.assignable (seen t) (seen u))) before
          ∙ ap (λ b. if_fits b None) (sym (agrees.fits t u) ∙ apart))
