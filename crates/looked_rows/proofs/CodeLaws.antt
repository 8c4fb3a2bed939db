-- The instructions of code one after the other.
use Rattle.std.proofs.Common.{◌≡◌, ℕ, ◌+◌, ◌<◌, ◌≤◌, List, length, Ok, Err, ap, sym, subst}
use Rattle.std.specs.List.{flat_map}
use Rattle.cil_code.specs.declared.fault.CodeFault.{CodeFault}
use Rattle.cil_code.specs.declared.instructions.Instr.{Instr}
use Rattle.cil_code.specs.Instructions.{instruction_at}
use Rattle.cil_code.specs.Walk.{Walk, walk_from}
use Rattle.cil_code.proofs.Walked.{walk_ends, walk_fails, walk_goes}
use Rattle.world_rows.specs.Looked.{named_by_line}
use Rattle.looked_rows.specs.declared.looked.Looked.{Looked}
use Rattle.looked_rows.specs.Looked.{Looks}
use Rattle.looked_rows.proofs.LookLaws.{looks_none, looks_after}

abbrev pub named_from : List ℕ → ℕ → List ℕ
named_from code at = flat_map named_by_line (walk_from code at).met

-- what is still to be marked from an offset on leads from these bits to those that the whole code leads to from the first
abbrev pub LeadsOn : List ℕ → Looked → ℕ → Looked → Type 0
LeadsOn code first at here = (after : Looked) → Looks (named_from code at) here after → Looks (named_from code 0) first after

module _ (code : List ℕ) (first : Looked) (at : ℕ) (here : Looked) (leads : LeadsOn code first at here) where
  abbrev tokens : Walk → List ℕ
  tokens walk = flat_map named_by_line walk.met

  pub line_marked : (instr : Instr) (next : Looked) → instruction_at code at ≡ Ok instr → Looks (named_by_line (record { at = 0; instr = instr })) here next → LeadsOn code first (at + instr.length) next
  line_marked instr next stands line after rest =
      leads after
      (subst (λ ts. Looks ts here after) (sym (ap tokens (walk_goes code at instr stands)))
      (looks_after (named_by_line (record { at = 0; instr = instr })) (named_from code (at + instr.length)) here next after line rest))

  pub faulty_end : (fault : CodeFault) → at < length code → instruction_at code at ≡ Err fault → Looks (named_from code 0) first here
  faulty_end fault inside stands = leads here (subst (λ ts. Looks ts here here) (sym (ap tokens (walk_fails code at fault inside stands))) (looks_none here))

  pub code_end : length code ≤ at → Looks (named_from code 0) first here
  code_end past = leads here (subst (λ ts. Looks ts here here) (sym (ap tokens (walk_ends code at past))) (looks_none here))
