-- The instructions of code one after the other.
use Rattle.std.proofs.Common.{◌≡◌, ℕ, zero, suc, ◌+◌, ◌-◌, ◌<◌, ◌≤◌, Bool, true, false, List, [], ◌∷◌, length, map, get_or, Option, Some, None, Result, Ok, Err, refl, sym, ap, subst, ◌∙◌, arith}
use Rattle.std.specs.Prelude.{◌||◌, ◌&&◌, not, nat_eq, nat_le, replicate, if◌then◌else◌}
use Rattle.std.specs.List.{flat_map, list_all, find}
use Rattle.std.specs.Option.{option_map}
use Rattle.std.proofs.lemmas.Bool.{eqb-true, leb-true, leb-false}
use Rattle.cil_code.specs.declared.fault.CodeFault.{CodeFault}
use Rattle.cil_code.specs.declared.instructions.Instr.{Instr}
use Rattle.cil_code.specs.Instructions.{instruction_at}
use Rattle.cil_code.specs.Walk.{Placed, Walk, met_at, walk_within, walk_from, instructions_of, starts_of}
use Rattle.cil_code.proofs.Parts.{instruction_fits}
use Rattle.cil_code.proofs.Walked.{walk_ends, walk_fails, walk_goes}
use Rattle.code_places.specs.Among.{is_among}
use Rattle.code_places.specs.Marks.{Marks}
use Rattle.code_places.specs.Places.{targets_at, all_targets, end_from, goes_well}
use Rattle.code_places.proofs.MarkLaws.{marks_none, marks_after, marked, marked_past}

abbrev pub rest : List ℕ → ℕ → List Placed
rest code at = (walk_from code at).met

rest_ends : (code : List ℕ) (at : ℕ) → length code ≤ at → rest code at ≡ []
rest_ends code at past = ap (λ (w : Walk). w.met) (walk_ends code at past)

rest_fails : (code : List ℕ) (at : ℕ) (fault : CodeFault) → at < length code → instruction_at code at ≡ Err fault → rest code at ≡ []
rest_fails code at fault lt e = ap (λ (w : Walk). w.met) (walk_fails code at fault lt e)

pub rest_goes : (code : List ℕ) (at : ℕ) (instr : Instr) → instruction_at code at ≡ Ok instr → rest code at ≡ record { at = at; instr = instr } ∷ rest code (at + instr.length)
rest_goes code at instr e = ap (λ (w : Walk). w.met) (walk_goes code at instr e)

-- the walk is at an end
pub record Ends (code : List ℕ) (at : ℕ) : Type 0 where
  pub none : rest code at ≡ []

pub past_end : (code : List ℕ) (at : ℕ) → length code ≤ at → Ends code at
past_end code at past = record { none = rest_ends code at past }

pub at_fault : (code : List ℕ) (at : ℕ) (fault : CodeFault) → at < length code → instruction_at code at ≡ Err fault → Ends code at
at_fault code at fault lt e = record { none = rest_fails code at fault lt e }

-- ---- what instructions add to bits

-- what the rest adds to these bits, all add to the first
pub record Leads (f : Placed → List ℕ) (code : List ℕ) (first : List Bool) (at : ℕ) (here : List Bool) : Type 0 where
  pub then_all : (after : List Bool) → Marks (flat_map f (rest code at)) here after → Marks (flat_map f (instructions_of code)) first after

pub leads_none : (f : Placed → List ℕ) (code : List ℕ) (first : List Bool) → Leads f code first 0 first
leads_none f code first = record { then_all = λ after marks. marks }

pub leads_on : (f : Placed → List ℕ) (code : List ℕ) (first here next : List Bool) (at : ℕ) (instr : Instr) → instruction_at code at ≡ Ok instr → Leads f code first at here → Marks (f (record { at = at; instr = instr })) here next → Leads f code first (at + instr.length) next
leads_on f code first here next at instr stands leads line =
    record {
      then_all = λ after marks.
          leads.then_all after
          (subst (λ ps. Marks (flat_map f ps) here after) (sym (rest_goes code at instr stands))
          (marks_after (f (record { at = at; instr = instr })) (flat_map f (rest code (at + instr.length))) here next after line marks));
    }

pub leads_end : (f : Placed → List ℕ) (code : List ℕ) (first here : List Bool) (at : ℕ) → Ends code at → Leads f code first at here → Marks (flat_map f (instructions_of code)) first here
leads_end f code first here at end leads = leads.then_all here (subst (λ ps. Marks (flat_map f ps) here here) (sym end.none) (marks_none here))

abbrev pub start : Placed → List ℕ
start p = p.at ∷ []

starts_flat : (ps : List Placed) → flat_map start ps ≡ map (λ (p : Placed). p.at) ps
starts_flat [] = refl
starts_flat (p ∷ ps) = ap (λ xs. p.at ∷ xs) (starts_flat ps)

pub starts_end : (code : List ℕ) (first here : List Bool) (at : ℕ) → Ends code at → Leads start code first at here → Marks (starts_of code) first here
starts_end code first here at end leads = subst (λ ps. Marks ps first here) (starts_flat (instructions_of code)) (leads_end start code first here at end leads)

-- ---- where the code ends

pub end_on : (code : List ℕ) (at : ℕ) (instr : Instr) (whole : ℕ) → instruction_at code at ≡ Ok instr → end_from at (rest code at) ≡ whole → end_from (at + instr.length) (rest code (at + instr.length)) ≡ whole
end_on code at instr whole stands e = sym (ap (end_from at) (rest_goes code at instr stands)) ∙ e

pub end_there : (code : List ℕ) (at whole : ℕ) → Ends code at → end_from at (rest code at) ≡ whole → at ≡ whole
end_there code at whole end e = sym (ap (end_from at) end.none) ∙ e

-- ---- the first that goes where none starts

abbrev pub astray_in : List ℕ → List Placed → Option ℕ
astray_in code ps = option_map (λ (p : Placed). p.at) (find (λ p. not (goes_well code p)) ps)

pub all_same : (f g : ℕ → Bool) → ((n : ℕ) → f n ≡ g n) → (ts : List ℕ) → list_all f ts ≡ list_all g ts
all_same f g h [] = refl
all_same f g h (t ∷ ts) = ap (λ b. b && list_all f ts) (h t) ∙ ap (λ b. g t && b) (all_same f g h ts)

module _ (code : List ℕ) (bits : List Bool) (starts : (n : ℕ) → get_or bits n false ≡ is_among (starts_of code) n) (at : ℕ) (instr : Instr) (stands : instruction_at code at ≡ Ok instr) (told : Bool) (tells : told ≡ list_all (λ place. get_or bits place false) (targets_at code (record { at = at; instr = instr }))) where
  abbrev p : Placed
  p = record { at = at; instr = instr }

  tells_well : told ≡ goes_well code p
  tells_well = tells ∙ all_same (λ n. get_or bits n false) (is_among (starts_of code)) starts (targets_at code p)

  here : (b : Bool) → goes_well code p ≡ b → astray_in code (rest code at) ≡ (if b then astray_in code (rest code (at + instr.length)) else Some at)
  here true e = ap (astray_in code) (rest_goes code at instr stands) ∙ ap (λ b. option_map (λ (q : Placed). q.at) (if not b then Some p else find (λ q. not (goes_well code q)) (rest code (at + instr.length)))) e
  here false e = ap (astray_in code) (rest_goes code at instr stands) ∙ ap (λ b. option_map (λ (q : Placed). q.at) (if not b then Some p else find (λ q. not (goes_well code q)) (rest code (at + instr.length)))) e

  pub goes_on_well : (whole : Option ℕ) → told ≡ true → astray_in code (rest code at) ≡ whole → astray_in code (rest code (at + instr.length)) ≡ whole
  goes_on_well whole is e = sym (here true (sym tells_well ∙ is)) ∙ e

  pub goes_astray : (whole : Option ℕ) → told ≡ false → astray_in code (rest code at) ≡ whole → Some at ≡ whole
  goes_astray whole is e = sym (here false (sym tells_well ∙ is)) ∙ e

pub none_astray : (code : List ℕ) (at : ℕ) (whole : Option ℕ) → Ends code at → astray_in code (rest code at) ≡ whole → None ≡ whole
none_astray code at whole end e = sym (ap (astray_in code) end.none) ∙ e

-- ---- instructions start inside the code, where one stands

-- each of these stands
pub record Stand (code : List ℕ) (n : ℕ) : Type 0 where
  pub instr : Instr
  pub stands : instruction_at code n ≡ Ok instr

abbrev pub then_walk : ℕ → List ℕ → ℕ → Instr → Walk
then_walk most code at instr = walk_within most code (at + instr.length)

met_stand : (most : ℕ) (code : List ℕ) (at n : ℕ) → is_among (map (λ (p : Placed). p.at) (walk_within most code at).met) n ≡ true → Stand code n
unfolding walk_within
met_stand zero code at n e = absurd cc
met_stand (suc most) code at n e = by (nat_le (length code) at) (λ instr e. met_stand most code (at + instr.length) n e) e
  where
    here : (instr : Instr) → instruction_at code at ≡ Ok instr → (is_among (map (λ (p : Placed). p.at) (then_walk most code at instr).met) n ≡ true → Stand code n) → (b : Bool) → nat_eq at n ≡ b → (b || is_among (map (λ (p : Placed). p.at) (then_walk most code at instr).met) n) ≡ true → Stand code n
    here instr i later true same e = record { instr = instr; stands = subst (λ m. instruction_at code m ≡ Ok instr) (eqb-true at n same) i }
    here instr i later false same e = later e

    this : ((instr : Instr) → is_among (map (λ (p : Placed). p.at) (then_walk most code at instr).met) n ≡ true → Stand code n) → (r : Result Instr CodeFault) → instruction_at code at ≡ r → is_among (map (λ (p : Placed). p.at) (met_at at r (then_walk most code at)).met) n ≡ true → Stand code n
    this later (Err fault) i e = absurd cc
    this later (Ok instr) i e = here instr i (later instr) (nat_eq at n) refl e

    by : (b : Bool) → ((instr : Instr) → is_among (map (λ (p : Placed). p.at) (then_walk most code at instr).met) n ≡ true → Stand code n) → is_among (map (λ (p : Placed). p.at) (if b then record { met = []; fault = None } else met_at at (instruction_at code at) (then_walk most code at)).met) n ≡ true → Stand code n
    by true later e = absurd cc
    by false later e = this later (instruction_at code at) refl e

pub start_stands : (code : List ℕ) (n : ℕ) → is_among (starts_of code) n ≡ true → Stand code n
unfolding walk_from
start_stands code n e = met_stand (length code - 0) code 0 n e

pub start_inside : (code : List ℕ) (n : ℕ) → is_among (starts_of code) n ≡ true → n < length code
start_inside code n e = let s = start_stands code n e in let fits = instruction_fits code n s.instr s.stands in omega (arith, fits)

pub none_past : (code : List ℕ) (n : ℕ) → length code ≤ n → is_among (starts_of code) n ≡ false
none_past code n past = by (is_among (starts_of code) n) refl where
  by : (b : Bool) → is_among (starts_of code) n ≡ b → b ≡ false
  by false e = refl
  by true e = absurd (omega (arith, past, start_inside code n e))

-- all bits of starts, also those past the end
pub starts_marked : (code : List ℕ) (bits : List Bool) → Marks (starts_of code) (replicate (length code) false) bits → (n : ℕ) → get_or bits n false ≡ is_among (starts_of code) n
starts_marked code bits marks n = by (nat_le (length code) n) refl where
  by : (b : Bool) → nat_le (length code) n ≡ b → get_or bits n false ≡ is_among (starts_of code) n
  by true e = marked_past (starts_of code) (length code) bits marks n (leb-true (length code) n e) ∙ sym (none_past code n (leb-true (length code) n e))
  by false e = marked (starts_of code) (length code) bits marks n (leb-false (length code) n e)

pub no_fault_at : (code here : List ℕ) (n : ℕ) (fault : CodeFault) → is_among (starts_of code) n ≡ true → here ≡ code → instruction_at here n ≡ Err fault → ⊥
no_fault_at code here n fault e same bad =
    let s = start_stands code n e in
    let both : Path (Result Instr CodeFault) (Ok s.instr) (Err fault) = sym s.stands ∙ ap (λ c. instruction_at c n) (sym same) ∙ bad in
    cc

-- ---- a listing that is made

module _ (code here : List ℕ) (old bits : List Bool) (same : here ≡ code) (unset : old ≡ replicate (length here) false) where
  pub new_starts : Marks (starts_of here) old bits → (n : ℕ) → get_or bits n false ≡ is_among (starts_of code) n
  new_starts marks n =
      starts_marked here bits (subst (λ first. Marks (starts_of here) first bits) unset marks) n ∙ ap (λ c. is_among (starts_of c) n) same

  pub new_targets : Marks (all_targets here) old bits → (n : ℕ) → n < length code → get_or bits n false ≡ is_among (all_targets code) n
  new_targets marks n lt =
      marked (all_targets here) (length here) bits (subst (λ first. Marks (all_targets here) first bits) unset marks) n (subst (λ c. n < length c) (sym same) lt)
      ∙ ap (λ c. is_among (all_targets c) n) same
