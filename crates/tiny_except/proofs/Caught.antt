-- The walk of the first pass.
use Rattle.std.proofs.Common.{◌≡◌, ◌≢◌, ℕ, suc, ◌+◌, ◌≤◌, Bool, true, false, not, List, ◌∷◌, length, None, refl, sym, ap, ◌∙◌, arith}
use Rattle.std.specs.Prelude.{◌||◌, ◌&&◌, is_some}
use Rattle.board_types.specs.declared.board.TypeAt.{TypeAt}
use Rattle.tiny_ram.specs.Memory.{RamFrame, Memory, innermost, caller_of, IsFrame}
use Rattle.memory_states.specs.Told.{Told}
use Rattle.tiny_except.specs.declared.clauses.Goal.TheVariants.{Catch}
use Rattle.tiny_except.specs.Unwinding.{stop_in, fits}
use Rattle.tiny_except.proofs.Walks.{from_frame, from_top, from_nothing, here, outwards, caller_is, Roomy}
use Rattle.tiny_except.proofs.Tops.{First, first_of}

-- from this frame on a catch is found where one is found at all
pub record Walked (t : Told) (class : TypeAt) (m : Memory) (frame passed : ℕ) : Type 0 where
  pub same : fits t class (from_frame m.room m.frames frame) ≡ fits t class m.frames
  pub number : frame ≡ innermost m.room (from_frame m.room m.frames frame)
  pub count : passed + length (from_frame m.room m.frames frame) ≤ length m.frames

module _ (t : Told) (class : TypeAt) (m : Memory) where
  pub begins : (frame : ℕ) → frame ≡ innermost m.room m.frames → Walked t class m frame 0
  begins frame e =
      let all : from_frame m.room m.frames frame ≡ m.frames = ap (from_frame m.room m.frames) e ∙ from_top m.room m.frames in
      let many = ap length all in
      record { same = ap (fits t class) all; number = e ∙ ap (innermost m.room) (sym all); count = omega (arith, many) }

  pub at_end : (frame passed : ℕ) → Walked t class m frame passed → frame ≡ 0 → false ≡ fits t class m.frames
  at_end frame passed w e = sym (ap (fits t class) (ap (from_frame m.room m.frames) e ∙ from_nothing m.room m.frames)) ∙ w.same

  module _ (frame passed : ℕ) (w : Walked t class m frame passed) (some : frame ≢ 0) where
    -- the frame that the walk has come to
    pub now : First (from_frame m.room m.frames frame)
    now = first_of m.room (from_frame m.room m.frames frame) frame w.number some

    pub is_frame : (g : RamFrame) (gs : List RamFrame) → from_frame m.room m.frames frame ≡ g ∷ gs → IsFrame m frame g
    is_frame g gs e = here m.room m.frames frame g gs e

    parts : (g : RamFrame) (gs : List RamFrame) → from_frame m.room m.frames frame ≡ g ∷ gs → (a b : Bool) → is_some (stop_in t (Catch class) None g) ≡ a → g.initialiser ≡ b → (a || (not b && fits t class gs)) ≡ fits t class m.frames
    parts g gs e a b p q =
        sym (ap (λ z. z || (not g.initialiser && fits t class gs)) p ∙ ap (λ z. a || (not z && fits t class gs)) q)
        ∙ sym (ap (fits t class) e) ∙ w.same

    pub found : (g : RamFrame) (gs : List RamFrame) → from_frame m.room m.frames frame ≡ g ∷ gs → is_some (stop_in t (Catch class) None g) ≡ true → true ≡ fits t class m.frames
    found g gs e p = parts g gs e true g.initialiser p refl

    pub stopped : (g : RamFrame) (gs : List RamFrame) → from_frame m.room m.frames frame ≡ g ∷ gs → is_some (stop_in t (Catch class) None g) ≡ false → g.initialiser ≡ true → false ≡ fits t class m.frames
    stopped g gs e p q = parts g gs e false true p q

    pub goes : (g : RamFrame) (gs : List RamFrame) → from_frame m.room m.frames frame ≡ g ∷ gs → is_some (stop_in t (Catch class) None g) ≡ false → g.initialiser ≡ false → Roomy m → (next : ℕ) → next ≡ caller_of m.room m.frames frame → Walked t class m next (passed + 1)
    goes g gs e p q room next is =
        let left : from_frame m.room m.frames next ≡ gs = ap (from_frame m.room m.frames) is ∙ outwards m.room m.frames frame g gs room.cells e in
        let many : length (from_frame m.room m.frames frame) ≡ suc (length gs) = ap length e in
        let less : length (from_frame m.room m.frames next) ≡ length gs = ap length left in
        let before = w.count in
        record {
          same = ap (fits t class) left ∙ parts g gs e false false p q;
          number = is ∙ caller_is m.room m.frames frame g gs e ∙ ap (innermost m.room) (sym left);
          count = omega (arith, many, less, before);
        }

pub too_far : (t : Told) (class : TypeAt) (m : Memory) (frame passed : ℕ) → Roomy m → Walked t class m frame passed → 4194304 ≤ passed → ⊥
too_far t class m frame passed r w l = omega (arith, w.count, r.count, r.most, l)
