-- A line of a walk over code is found at its place.
use Rattle.std.proofs.Common.{◌≡◌, ℕ, zero, suc, ◌+◌, Bool, true, false, List, [], ◌∷◌, drop, take, Option, Some, None, refl, sym, ap, ◌∙◌, subst, arith, drop-drop}
use Rattle.std.specs.Prelude.{nat_eq, if◌then◌else◌}
use Rattle.std.specs.List.{find}
use Rattle.std.specs.Option.{option_map}
use Rattle.std.proofs.lemmas.Bool.{eqb-true}
use Rattle.cil_opcodes.specs.Rows.{row_of}
use Rattle.little_endian.specs.Numbers.{AreBytes}
use Rattle.assemblies.specs.Rows.{RawLine}
use Rattle.image_form.specs.Codes.{Length, Meaning, Instr, read_instr, read_instrs, met, size, line_of, lines_of}
use Rattle.board_program.proofs.Sizes.{instr_size}

pub bytes_behind : (d : ℕ) (bytes : List ℕ) → AreBytes bytes → AreBytes (drop d bytes)
bytes_behind zero bytes h = h
bytes_behind (suc d) [] h = h
bytes_behind (suc d) (b ∷ bytes) h = bytes_behind d bytes (λ i. h (suc i))

pub bytes_before : (n : ℕ) (bytes : List ℕ) → AreBytes bytes → AreBytes (take n bytes)
bytes_before zero bytes h i = omega arith
bytes_before (suc n) [] h i = omega arith
bytes_before (suc n) (b ∷ bytes) h zero = h 0
bytes_before (suc n) (b ∷ bytes) h (suc i) = bytes_before n bytes (λ k. h (suc k)) i

module _ (m : Meaning) (l : Length) where
  -- what is read from a place of code on, as the line of another place
  abbrev pub raw_from : ℕ → ℕ → List ℕ → Option RawLine
  raw_from at d bytes = option_map (λ (x : Instr × List ℕ). line_of m l at x.0) (read_instr row_of l (drop d bytes))

  pub record Found (from at : ℕ) (bytes : List ℕ) (line : RawLine) : Type 0 where
    pub behind : ℕ
    pub place : at ≡ from + behind
    pub read : raw_from at behind bytes ≡ Some line

  abbrev pub seen_from : ℕ → ℕ → ℕ → List ℕ → Option RawLine
  seen_from n from at bytes = find (λ (x : RawLine). nat_eq x.at at) (lines_of m l from (read_instrs row_of l n bytes))

  -- those behind the first instruction of some bytes are found
  abbrev Rest : ℕ → ℕ → RawLine → Type 0
  Rest n at line = (from : ℕ) (bytes : List ℕ) → AreBytes bytes → seen_from n from at bytes ≡ Some line → Found from at bytes line

  further : (from at : ℕ) (bytes : List ℕ) (line : RawLine) → AreBytes bytes → (x : Instr × List ℕ) → read_instr row_of l bytes ≡ Some x → Found (from + size l x.0) at x.1 line → Found from at bytes line
  further from at bytes line h x is rest =
      let left = instr_size l bytes x h is in
      record {
        behind = size l x.0 + rest.behind;
        place = rest.place ∙ omega arith;
        read = ap (λ bs. option_map (λ (y : Instr × List ℕ). line_of m l at y.0) (read_instr row_of l bs)) (sym (ap (drop rest.behind) left ∙ drop-drop rest.behind (size l x.0) bytes)) ∙ rest.read;
      }

  here : (from at : ℕ) (bytes : List ℕ) (line : RawLine) (x : Instr × List ℕ) → read_instr row_of l bytes ≡ Some x → from ≡ at → line_of m l from x.0 ≡ line → Found from at bytes line
  here from at bytes line x is same made =
      record {
        behind = 0;
        place = omega (arith, same);
        read = ap (option_map (λ (y : Instr × List ℕ). line_of m l at y.0)) is ∙ ap (λ (k : ℕ). Some (line_of m l k x.0)) (sym same) ∙ ap Some made;
      }

  first : (n from at : ℕ) (bytes : List ℕ) (line : RawLine) → AreBytes bytes → Rest n at line → (x : Instr × List ℕ) → read_instr row_of l bytes ≡ Some x → (b : Bool) → nat_eq from at ≡ b
      → (if b then Some (line_of m l from x.0) else seen_from n (from + size l x.0) at x.1) ≡ Some line → Found from at bytes line
  first n from at bytes line h rest x is true same q = here from at bytes line x is (eqb-true from at same) (cc q)
  first n from at bytes line h rest x is false other q =
      further from at bytes line h x is (rest (from + size l x.0) x.1 (subst AreBytes (sym (instr_size l bytes x h is)) (bytes_behind (size l x.0) bytes h)) q)

  next : (n from at : ℕ) (bytes : List ℕ) (line : RawLine) → AreBytes bytes → Rest n at line → (o : Option (Instr × List ℕ)) → read_instr row_of l bytes ≡ o
      → find (λ (x : RawLine). nat_eq x.at at) (lines_of m l from (met row_of l o (read_instrs row_of l n))) ≡ Some line → Found from at bytes line
  next n from at bytes line h rest None is q = cc q
  next n from at bytes line h rest (Some x) is q = first n from at bytes line h rest x is (nat_eq from at) refl q

  pub walked : (n from at : ℕ) (bytes : List ℕ) (line : RawLine) → AreBytes bytes → seen_from n from at bytes ≡ Some line → Found from at bytes line
  walked zero from at bytes line h e = cc e
  walked (suc n) from at bytes line h e = next n from at bytes line h (λ from bytes h e. walked n from at bytes line h e) (read_instr row_of l bytes) refl e
