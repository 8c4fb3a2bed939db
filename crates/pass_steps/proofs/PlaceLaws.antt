-- Where instructions stand, and which is in front of which.
use Rattle.std.proofs.Common.{◌≡◌, ℕ, zero, suc, ◌+◌, ◌-◌, ◌<◌, ◌≤◌, Bool, true, false, cond, List, [], ◌∷◌, length, map, Option, Some, None, Result, Ok, Err, refl, sym, ap, subst, ◌∙◌, arith}
use Rattle.std.specs.Prelude.{◌||◌, ◌&&◌, nat_eq, nat_le, nat_lt, is_some, if◌then◌else◌}
use Rattle.std.specs.List.{list_any, list_all, find, position}
use Rattle.std.specs.Option.{option_map, option_or}
use Rattle.std.proofs.lemmas.Bool.{eqb-true, eq-eqb, ne_eqb, leb-true, lt-leb}
use Rattle.cil_code.specs.declared.clause.Clause.{Clause}
use Rattle.cil_code.specs.declared.fault.CodeFault.{CodeFault}
use Rattle.cil_code.specs.declared.instructions.Instr.{Instr}
use Rattle.cil_code.specs.Instructions.{instruction_at}
use Rattle.cil_code.specs.Walk.{Placed, met_at, walk_within, walk_from, code_fault, instructions_of, starts_of}
use Rattle.cil_code.proofs.Parts.{instruction_fits}
use Rattle.kept_rows.proofs.SelectLaws.{position_step}
use Rattle.classes.specs.Clauses.{is_proper}
use Rattle.classes.specs.Listed.{in_handler}
use Rattle.code_places.specs.Among.{is_among}
use Rattle.code_places.specs.Places.{behind, end_from}
use Rattle.code_places.specs.Clauses.{clause_seen}
use Rattle.code_places.proofs.WalkLaws.{then_walk}
use Rattle.pass_steps.specs.Listed.{in_front}

abbrev pub starts : List Placed → List ℕ
starts ps = map (λ (p : Placed). p.at) ps

-- ---- one behind the other

abbrev pub Up : ℕ → List Placed → Type 0
Up at [] = Unit {0}
Up at (p ∷ ps) = (p.at ≡ at) × (at < behind p) × Up (behind p) ps

walk_up : (most : ℕ) (code : List ℕ) (at : ℕ) → Up at (walk_within most code at).met
unfolding walk_within
walk_up zero code at = tt
walk_up (suc most) code at = by (nat_le (length code) at) (λ instr. walk_up most code (at + instr.length))
  where
    this : ((instr : Instr) → Up (at + instr.length) (then_walk most code at instr).met) → (r : Result Instr CodeFault) → instruction_at code at ≡ r → Up at (met_at at r (then_walk most code at)).met
    this later (Err fault) e = tt
    this later (Ok instr) e =
        let fits = instruction_fits code at instr e in
        let long = fits.0 in
        (refl, omega (arith, long), later instr)

    by : (b : Bool) → ((instr : Instr) → Up (at + instr.length) (then_walk most code at instr).met) → Up at (if b then record { met = []; fault = None } else met_at at (instruction_at code at) (then_walk most code at)).met
    by true later = tt
    by false later = this later (instruction_at code at) refl

pub code_up : (code : List ℕ) → Up 0 (instructions_of code)
unfolding walk_from
code_up code = walk_up (length code - 0) code 0

-- ---- a walk without a fault comes to the end

abbrev WholeLater : ℕ → List ℕ → ℕ → Type 0
WholeLater most code at = (instr : Instr) → length code ≤ at + instr.length + most → at + instr.length ≤ length code → (then_walk most code at instr).fault ≡ None → end_from (at + instr.length) (then_walk most code at instr).met ≡ length code

walk_whole : (most : ℕ) (code : List ℕ) (at : ℕ) → length code ≤ at + most → at ≤ length code → (walk_within most code at).fault ≡ None → end_from at (walk_within most code at).met ≡ length code
unfolding walk_within
walk_whole zero code at far inside e = omega (arith, far, inside)
walk_whole (suc most) code at far inside e = by (nat_le (length code) at) refl (λ instr. walk_whole most code (at + instr.length)) e
  where
    this : WholeLater most code at → (r : Result Instr CodeFault) → instruction_at code at ≡ r → (met_at at r (then_walk most code at)).fault ≡ None → end_from at (met_at at r (then_walk most code at)).met ≡ length code
    this later (Err fault) i e = absurd (cc e)
    this later (Ok instr) i e =
        let fits = instruction_fits code at instr i in
        let long = fits.0 in
        later instr (omega (arith, far, long)) fits.1 e

    by : (b : Bool) → nat_le (length code) at ≡ b → WholeLater most code at → (if b then record { met = []; fault = None } else met_at at (instruction_at code at) (then_walk most code at)).fault ≡ None
        → end_from at (if b then record { met = []; fault = None } else met_at at (instruction_at code at) (then_walk most code at)).met ≡ length code
    by true past later e = let over = leb-true (length code) at past in omega (arith, over, inside)
    by false past later e = this later (instruction_at code at) refl e

own_fault : (o p : Option CodeFault) → option_or o p ≡ None → o ≡ None
own_fault None p e = refl
own_fault (Some fault) p e = absurd (cc e)

pub code_whole : (code : List ℕ) → code_fault code ≡ None → end_from 0 (instructions_of code) ≡ length code
unfolding walk_from code_fault
code_whole code e = walk_whole (length code - 0) code 0 (omega arith) (omega arith) (own_fault (walk_within (length code - 0) code 0).fault _ e)

-- ---- the instruction that is found stands in the code

abbrev FindLater : ℕ → List ℕ → ℕ → ℕ → Placed → Type 0
FindLater most code at n p = (instr : Instr) → find (λ (q : Placed). nat_eq q.at n) (then_walk most code at instr).met ≡ Some p → instruction_at code p.at ≡ Ok p.instr

find_stands : (most : ℕ) (code : List ℕ) (at n : ℕ) (p : Placed) → find (λ (q : Placed). nat_eq q.at n) (walk_within most code at).met ≡ Some p → instruction_at code p.at ≡ Ok p.instr
unfolding walk_within
find_stands zero code at n p e = absurd (cc e)
find_stands (suc most) code at n p e = by (nat_le (length code) at) (λ instr. find_stands most code (at + instr.length) n p) e
  where
    here : FindLater most code at n p → (instr : Instr) → instruction_at code at ≡ Ok instr → (b : Bool) → cond b (Some (record { at = at; instr = instr })) (find (λ (q : Placed). nat_eq q.at n) (then_walk most code at instr).met) ≡ Some p → instruction_at code p.at ≡ Ok p.instr
    here later instr i true e =
        let same : Path Placed (record { at = at; instr = instr }) p = cc e in
        subst (λ (q : Placed). instruction_at code q.at ≡ Ok q.instr) same i
    here later instr i false e = later instr e

    this : FindLater most code at n p → (r : Result Instr CodeFault) → instruction_at code at ≡ r → find (λ (q : Placed). nat_eq q.at n) (met_at at r (then_walk most code at)).met ≡ Some p → instruction_at code p.at ≡ Ok p.instr
    this later (Err fault) i e = absurd (cc e)
    this later (Ok instr) i e = here later instr i (nat_eq at n) e

    by : (b : Bool) → FindLater most code at n p → find (λ (q : Placed). nat_eq q.at n) (if b then record { met = []; fault = None } else met_at at (instruction_at code at) (then_walk most code at)).met ≡ Some p → instruction_at code p.at ≡ Ok p.instr
    by true later e = absurd (cc e)
    by false later e = this later (instruction_at code at) refl e

pub found_stands : (code : List ℕ) (n : ℕ) (p : Placed) → find (λ (q : Placed). nat_eq q.at n) (instructions_of code) ≡ Some p → instruction_at code p.at ≡ Ok p.instr
unfolding walk_from
found_stands code n p e = find_stands (length code - 0) code 0 n p e

-- ---- in front

or_true : (a b : Bool) → a ≡ false → (a || b) ≡ true → b ≡ true
or_true false b h e = e
or_true true b h e = absurd (cc h)

-- none starts before the first
below_by : (p : Placed) (at n : ℕ) (b : Bool) → nat_eq p.at n ≡ b → p.at ≡ at → (nat_eq p.at n ≡ false → at ≤ n) → at ≤ n
below_by p at n true same here later = let is = eqb-true p.at n same in omega (arith, is, here)
below_by p at n false other here later = later other

below : (ps : List Placed) (at n : ℕ) → Up at ps → is_among (starts ps) n ≡ true → at ≤ n
below [] at n up e = absurd (cc e)
below (p ∷ ps) at n up e =
    below_by p at n (nat_eq p.at n) refl up.0
    (λ other. let far = below ps (behind p) n up.2 (or_true (nat_eq p.at n) (is_among (starts ps) n) other e) in let long = up.1 in omega (arith, far, long))

abbrev Between : List Placed → ℕ → ℕ → Type 0
Between ps q n = (k : ℕ) → q < k → k < n → is_among (starts ps) k ≡ false

-- what is in front of the next
front_next : (ps : List Placed) (at q n : ℕ) → Up at ps → q < at → is_among (starts ps) n ≡ true → Between ps q n → in_front (Some q) ps n ≡ Some q
front_next [] at q n up lt e none = absurd (cc e)
front_next (p ∷ ps) at q n up lt e none = by (nat_eq p.at n) refl
  where
    by : (b : Bool) → nat_eq p.at n ≡ b → in_front (Some q) (p ∷ ps) n ≡ Some q
    by true same = ap (λ b. if b then Some q else in_front (Some p.at) ps n) same
    by false other =
        let far = below ps (behind p) n up.2 (or_true (nat_eq p.at n) (is_among (starts ps) n) other e) in
        let here = up.0 in
        let long = up.1 in
        let not_there = none p.at (omega (arith, lt, here)) (omega (arith, far, here, long)) in
        let there : (nat_eq p.at p.at || is_among (starts ps) p.at) ≡ true = ap (λ b. b || is_among (starts ps) p.at) (eq-eqb p.at p.at refl) in
        absurd (cc (sym there ∙ not_there))

or_none : (a b : Bool) → (a || b) ≡ false → b ≡ false
or_none false b h = h
or_none true b h = absurd (cc h)

none_later : (p : Placed) (ps : List Placed) (q n : ℕ) → Between (p ∷ ps) q n → Between ps q n
none_later p ps q n none k more less = or_none (nat_eq p.at k) (is_among (starts ps) k) (none k more less)

-- not yet there
front_on : (before : Option ℕ) (p : Placed) (ps : List Placed) (q n : ℕ) → p.at ≤ q → q < n → in_front before (p ∷ ps) n ≡ in_front (Some p.at) ps n
front_on before p ps q n le lt = ap (λ b. if b then before else in_front (Some p.at) ps n) (ne_eqb p.at n (λ same. absurd (omega (arith, le, same, lt))))

later_starts : (p : Placed) (ps : List Placed) (q n : ℕ) → p.at ≤ q → q < n → is_among (starts (p ∷ ps)) n ≡ true → is_among (starts ps) n ≡ true
later_starts p ps q n le lt f = or_true (nat_eq p.at n) (is_among (starts ps) n) (ne_eqb p.at n (λ same. absurd (omega (arith, le, same, lt)))) f

front_by : (before : Option ℕ) (p : Placed) (ps : List Placed) (at q n : ℕ) → Up at (p ∷ ps) → (b : Bool) → nat_eq p.at q ≡ b → is_among (starts (p ∷ ps)) q ≡ true → is_among (starts (p ∷ ps)) n ≡ true → q < n → Between (p ∷ ps) q n
    → (is_among (starts ps) q ≡ true → is_among (starts ps) n ≡ true → in_front (Some p.at) ps n ≡ Some q) → in_front before (p ∷ ps) n ≡ Some q
front_by before p ps at q n up true same e f lt none later =
    let is : p.at ≡ q = eqb-true p.at q same in
    let here = up.0 in
    let long = up.1 in
    let le : p.at ≤ q = omega (arith, is) in
    front_on before p ps q n le lt
    ∙ (ap (λ k. in_front (Some k) ps n) is ∙ front_next ps (behind p) q n up.2 (omega (arith, is, here, long)) (later_starts p ps q n le lt f) (none_later p ps q n none))
front_by before p ps at q n up false other e f lt none later =
    let there = or_true (nat_eq p.at q) (is_among (starts ps) q) other e in
    let far = below ps (behind p) q up.2 there in
    let here = up.0 in
    let long = up.1 in
    let le : p.at ≤ q = omega (arith, far, here, long) in
    front_on before p ps q n le lt ∙ later there (later_starts p ps q n le lt f)

front_from : (before : Option ℕ) (ps : List Placed) (at q n : ℕ) → Up at ps → is_among (starts ps) q ≡ true → is_among (starts ps) n ≡ true → q < n → Between ps q n → in_front before ps n ≡ Some q
front_from before [] at q n up e f lt none = absurd (cc e)
front_from before (p ∷ ps) at q n up e f lt none =
    front_by before p ps at q n up (nat_eq p.at q) refl e f lt none (λ there here. front_from (Some p.at) ps (behind p) q n up.2 there here lt (none_later p ps q n none))

pub front_nearest : (code : List ℕ) (before at : ℕ) → is_among (starts_of code) before ≡ true → is_among (starts_of code) at ≡ true → before < at → ((k : ℕ) → before < k → k < at → is_among (starts_of code) k ≡ false) → in_front None (instructions_of code) at ≡ Some before
front_nearest code before at e f lt none = front_from None (instructions_of code) 0 before at (code_up code) e f lt none

-- behind the first nothing starts at 0
front_none : (before : Option ℕ) (ps : List Placed) (at : ℕ) → Up at ps → 0 < at → in_front before ps 0 ≡ None
front_none before [] at up lt = refl
front_none before (p ∷ ps) at up lt =
    let here = up.0 in
    let long = up.1 in
    ap (λ b. if b then before else in_front (Some p.at) ps 0) (ne_eqb p.at 0 (λ same. absurd (omega (arith, here, same, lt))))
    ∙ front_none (Some p.at) ps (behind p) up.2 (omega (arith, long))

front_zero : (ps : List Placed) → Up 0 ps → in_front None ps 0 ≡ None
front_zero [] up = refl
front_zero (p ∷ ps) up = ap (λ b. if b then None else in_front (Some p.at) ps 0) (eq-eqb p.at 0 up.0)

pub front_first : (code : List ℕ) → in_front None (instructions_of code) 0 ≡ None
front_first code = front_zero (instructions_of code) (code_up code)

-- ---- a handler at the start of the code

and_both : (a b : Bool) → (a && b) ≡ true → (a ≡ true) × (b ≡ true)
and_both true true e = (refl, refl)
and_both true false e = absurd (cc e)
and_both false b e = absurd (cc e)

some_counts : (o : Option ℕ) → is_some (option_map suc o) ≡ is_some o
some_counts None = refl
some_counts (Some n) = refl

-- a handler with something in it holds 0 where it begins there
holds_first : (from to : ℕ) → nat_lt from to ≡ true → (nat_le from 0 && nat_lt 0 to) ≡ nat_eq from 0
holds_first zero to e = e
holds_first (suc from) to e = ap (λ b. b && nat_lt 0 to) (lt-leb (suc from) 0 (omega arith)) ∙ sym (ne_eqb (suc from) 0 (λ h. absurd (omega (arith, h))))

proper_handler : (c : Clause) → is_proper (clause_seen c) ≡ true → in_handler (clause_seen c) 0 ≡ nat_eq c.start 0
proper_handler c e = holds_first c.start c.end (and_both (nat_lt c.start c.end) _ (and_both (nat_lt c.try_start c.try_end) _ e).1).0

abbrev starts_first : Clause → Bool
starts_first c = nat_eq c.start 0

handled_by : (c : Clause) (cs : List Clause) (b : Bool) → nat_eq c.start 0 ≡ b → in_handler (clause_seen c) 0 ≡ nat_eq c.start 0 → list_any (λ d. in_handler d 0) (map clause_seen cs) ≡ is_some (position starts_first cs)
    → list_any (λ d. in_handler d 0) (map clause_seen (c ∷ cs)) ≡ is_some (cond (nat_eq c.start 0) (Some 0) (option_map suc (position starts_first cs)))
handled_by c cs true h this later =
    ap (λ b. b || list_any (λ d. in_handler d 0) (map clause_seen cs)) (this ∙ h)
    ∙ sym (ap (λ b. is_some (cond b (Some 0) (option_map suc (position starts_first cs)))) h)
handled_by c cs false h this later =
    ap (λ b. b || list_any (λ d. in_handler d 0) (map clause_seen cs)) (this ∙ h)
    ∙ (later
    ∙ (sym (some_counts (position starts_first cs))
    ∙ sym (ap (λ b. is_some (cond b (Some 0) (option_map suc (position starts_first cs)))) h)))

pub first_handled : (cs : List Clause) → list_all is_proper (map clause_seen cs) ≡ true → list_any (λ c. in_handler c 0) (map clause_seen cs) ≡ is_some (position (λ (c : Clause). nat_eq c.start 0) cs)
first_handled [] e = refl
first_handled (c ∷ cs) e =
    let both = and_both (is_proper (clause_seen c)) (list_all is_proper (map clause_seen cs)) e in
    handled_by c cs (nat_eq c.start 0) refl (proper_handler c both.0) (first_handled cs both.1) ∙ sym (ap is_some (position_step starts_first c cs))
