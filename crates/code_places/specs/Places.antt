-- Where the instructions of code start and go, and where they end (III.1.7.2, III.1.7.5).
use Rattle.std.specs.Prelude.{ℕ, ◌+◌, ℤ, pos, ◌+ℤ◌, unsigned_abs, Bool, not, List, [], ◌∷◌, map, Option, unwrap_or}
use Rattle.std.specs.List.{range_with_len, flat_map, list_all, find}
use Rattle.std.specs.Option.{option_map}
use Rattle.cil_opcodes.specs.declared.shape.Operand.{Operand}
use Rattle.cil_opcodes.specs.declared.shape.Operand.TheVariants.{Nothing, BranchShort, BranchLong, Switch}
use Rattle.cil_opcodes.specs.Rows.{row_of}
use Rattle.cil_code.specs.declared.instructions.Instr.{Instr}
use Rattle.cil_code.specs.Instructions.{target_at}
use Rattle.cil_code.specs.Walk.{Placed, instructions_of, starts_of}
use Rattle.classes.specs.Listed.{target_place}
use Rattle.code_places.specs.Among.{is_among}

-- the kind of an instruction's operand
abbrev pub kind_of : Instr → Operand
kind_of instr = unwrap_or (option_map (λ row. row.operand) (row_of instr.op)) Nothing

-- the distances of targets that an operand of a kind holds
abbrev pub distances : List ℕ → Placed → Operand → List ℤ
distances code p BranchShort = p.instr.operand ∷ []
distances code p BranchLong = p.instr.operand ∷ []
distances code p Switch = map (target_at code p.at) (range_with_len 0 (unsigned_abs p.instr.operand))
distances code p _ = []

abbrev pub distances_of : List ℕ → Placed → List ℤ
distances_of code p = distances code p (kind_of p.instr)

-- the offset behind an instruction
abbrev pub behind : Placed → ℕ
behind p = p.at + p.instr.length

abbrev pub targets_at : List ℕ → Placed → List ℕ
targets_at code p = map (λ d. target_place (pos (behind p) +ℤ d)) (distances_of code p)

-- those of all instructions
abbrev pub all_targets : List ℕ → List ℕ
all_targets code = flat_map (targets_at code) (instructions_of code)

-- the offset behind these, which stand behind an offset
abbrev pub end_from : ℕ → List Placed → ℕ
end_from at [] = at
end_from at (p ∷ ps) = end_from (behind p) ps

-- the offset behind the last instruction
abbrev pub end_of : List ℕ → ℕ
end_of code = end_from 0 (instructions_of code)

-- 43: each target is where an instruction starts
abbrev pub goes_well : List ℕ → Placed → Bool
goes_well code p = list_all (is_among (starts_of code)) (targets_at code p)

-- the first instruction that does otherwise
abbrev pub first_astray : List ℕ → Option ℕ
first_astray code = option_map (λ (p : Placed). p.at) (find (λ p. not (goes_well code p)) (instructions_of code))
