-- The way outwards of the second pass.
use Rattle.std.proofs.Common.{◌≡◌, ℕ, suc, ◌+◌, true, false, ◌≤◌, List, [], ◌∷◌, length, Option, Some, None, refl, sym, ap, ◌∙◌, subst, arith}
use Rattle.std.specs.Prelude.{is_some}
use Rattle.board_types.specs.declared.board.TypeAt.{TypeAt}
use Rattle.tiny_ram.specs.Memory.{RamFrame, Memory, with_frames, callers}
use Rattle.tiny_ram.specs.Region.{Keeps}
use Rattle.tiny_ram.specs.declared.memory.Ram.{Ram}
use Rattle.memory_states.specs.Told.{Told}
use Rattle.tiny_except.specs.declared.clauses.Found.{Found}
use Rattle.tiny_except.specs.declared.clauses.Goal.TheVariants.{Stop}
use Rattle.tiny_except.specs.Unwinding.{stop_in, Landing, landed_in, landing}
use Rattle.tiny_except.specs.Searches.{Landed}
use Rattle.tiny_except.proofs.Walks.{Roomy}

-- some frames have ended, and the stop is looked for in those that are left
pub record Going (t : Told) (class : TypeAt) (m : Memory) (begun : Option Found) (u : Ram) (ended : Option Found) (passed : ℕ) : Type 0 where
  pub left : List RamFrame
  pub keeps : Keeps u (with_frames m left)
  pub same : landing t class ended left ≡ landing t class begun m.frames
  pub count : passed + length left ≤ length m.frames

module _ (t : Told) (class : TypeAt) (m : Memory) (begun : Option Found) (u : Ram) (ended : Option Found) where
  -- no frame is left
  pub none_left : (passed : ℕ) (w : Going t class m begun u ended passed) → w.left ≡ [] → Landed u None m (landing t class begun m.frames)
  none_left passed w e =
      let none : landing t class begun m.frames ≡ None = sym w.same ∙ ap (landing t class ended) e in
      subst (λ (o : Option Landing). Landed u None m o) (sym none) (subst (λ (fs : List RamFrame). Keeps u (with_frames m fs)) e w.keeps)

  pub stops : (passed : ℕ) (w : Going t class m begun u ended passed) (f : RamFrame) (fs : List RamFrame) (x : Found) → w.left ≡ f ∷ fs → stop_in t (Stop class) ended f ≡ Some x → Landed u (Some x) m (landing t class begun m.frames)
  stops passed w f fs x e h =
      let some : landing t class begun m.frames ≡ Some (record { frame = f; callers = fs; stop = x }) =
      sym w.same ∙ ap (landing t class ended) e ∙ ap (λ o. landed_in f fs o (landing t class None fs)) h in
      subst (λ (o : Option Landing). Landed u (Some x) m o) (sym some) (refl, subst (λ (z : List RamFrame). Keeps u (with_frames m z)) e w.keeps)

  -- the innermost frame ends
  pub goes : (passed : ℕ) (w : Going t class m begun u ended passed) (f : RamFrame) (fs : List RamFrame) (v : Ram) → w.left ≡ f ∷ fs → stop_in t (Stop class) ended f ≡ None → Keeps v (with_frames m fs) → Going t class m begun v None (passed + 1)
  goes passed w f fs v e h k = record {
    left = fs;
    keeps = k;
    same = sym (sym w.same ∙ ap (landing t class ended) e ∙ ap (λ o. landed_in f fs o (landing t class None fs)) h);
    count = let more : length w.left ≡ suc (length fs) = ap length e in let before = w.count in omega (arith, more, before);
  }

  some_by : (o : Option Found) → is_some o ≡ true → (x : Found) × (o ≡ Some x)
  some_by None e = absurd (cc e)
  some_by (Some x) e = (x, refl)

  none_by : (o : Option Found) → is_some o ≡ false → o ≡ None
  none_by None e = refl
  none_by (Some x) e = absurd (cc e)

  -- by the test of what was found
  pub stops_by : (passed : ℕ) (w : Going t class m begun u ended passed) (f : RamFrame) (fs : List RamFrame) (o : Option Found) → w.left ≡ f ∷ fs → o ≡ stop_in t (Stop class) ended f → is_some o ≡ true → Landed u o m (landing t class begun m.frames)
  stops_by passed w f fs o e h b =
      let some = some_by o b in
      subst (λ (z : Option Found). Landed u z m (landing t class begun m.frames)) (sym some.1) (stops passed w f fs some.0 e (sym h ∙ some.1))

  pub goes_by : (passed : ℕ) (w : Going t class m begun u ended passed) (f : RamFrame) (fs : List RamFrame) (o : Option Found) (v : Ram) → w.left ≡ f ∷ fs → o ≡ stop_in t (Stop class) ended f → is_some o ≡ false → Keeps v (with_frames m (callers w.left)) → Going t class m begun v None (passed + 1)
  goes_by passed w f fs o v e h b k = goes passed w f fs v e (sym h ∙ none_by o b) (subst (λ (z : List RamFrame). Keeps v (with_frames m z)) (ap callers e) k)

pub too_far : (t : Told) (class : TypeAt) (m : Memory) (begun : Option Found) (u : Ram) (ended : Option Found) (passed : ℕ) → Roomy m → Going t class m begun u ended passed → 4194304 ≤ passed → ⊥
too_far t class m begun u ended passed r w l = omega (arith, w.count, r.count, r.most, l)
