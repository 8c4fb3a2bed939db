-- How the pass goes on from one instruction to the next.
use Rattle.std.proofs.Common.{◌≡◌, ℕ, ◌<◌, ◌≤◌, Bool, cond, List, [], ◌∷◌, ◌++◌, Option, Some, None, Result, Ok, Err, refl, sym, ap, ◌∙◌, arith, subst, append_assoc, true, false, nat_eq}
use Rattle.std.specs.Ordering.{nat_cmp}
use Rattle.std.specs.Global.{Vec}
use Rattle.std.specs.BTreeMap.{BTreeMap, is_at}
use Rattle.std.specs.Map.{lookup}
use Rattle.std.proofs.lemmas.Bool.{eq-eqb, ne_eqb}
use Rattle.ecma_types.specs.declared.stack.StackType.{StackType as WorldType}
use Rattle.machine_typed.specs.Typing.{StackType}
use Rattle.code_rules.specs.Pass.{Lattice, Step, Entry, if_sound, visit, pass}
use Rattle.verdict_rules.specs.Code.{lowest}
use Rattle.forward_pass.specs.declared.steps.StepFacts.{StepFacts}
use Rattle.forward_pass.specs.Seen.{Agrees, Keeps, LieFrom, is_needed, is_target, step_at, seen_stack, seen_falling}
use Rattle.forward_pass.specs.Told.{lowest_of, Tells, Behind, IsRanked, AreRanked}
use Rattle.forward_pass.specs.Answer.{told}

-- ---- instructions behind one another

abbrev pub AreBefore : ℕ → List Step → Type 0
AreBefore at [] = Unit
AreBefore at (s ∷ steps) = (s.at < at) × AreBefore at steps

before_more : (at next : ℕ) (steps : List Step) (s : Step) → at < next → s.at ≡ at → AreBefore at steps → AreBefore next (steps ++ s ∷ [])
before_more at next [] s more here h = (omega arith, tt)
before_more at next (x ∷ xs) s more here h = (omega (arith, h.0), before_more at next xs s more here h.1)

find_next : (older steps : List Step) (s : Step) (at : ℕ) → AreBefore at older → s.at ≡ at → step_at (older ++ s ∷ steps) at ≡ Some s
find_next [] steps s at h here = ap (λ b. cond b (Some s) (step_at steps at)) (eq-eqb s.at at here)
find_next (x ∷ xs) steps s at h here =
    ap (λ b. cond b (Some x) (step_at (xs ++ s ∷ steps) at)) (ne_eqb x.at at (λ e. absurd (omega (arith, h.0, e))))
    ∙ find_next xs steps s at h.1 here

lies_up : (steps : List Step) (at size : ℕ) → LieFrom steps at size → at ≤ size
lies_up [] at size h = omega (arith, h)
lies_up (s ∷ steps) at size h = omega (arith, h.1, h.0, lies_up steps s.next size h.2)

ranked_by : (b : Bool) (x s : Step) (rest : Option Step) → cond b (Some x) rest ≡ Some s → IsRanked x → (rest ≡ Some s → IsRanked s) → IsRanked s
ranked_by true x s rest e h more = let is : x ≡ s = cc e in subst IsRanked is h
ranked_by false x s rest e h more = more e

ranked_at : (steps : List Step) (at : ℕ) (s : Step) → AreRanked steps → step_at steps at ≡ Some s → IsRanked s
ranked_at [] at s h e = cc e
ranked_at (x ∷ xs) at s h e = ranked_by (nat_eq x.at at) x s (step_at xs at) e h.0 (ranked_at xs at s h.1)

-- ---- where the pass is

-- the pass went on to an offset, with what stands in a table and what falls through
pub record Continues (l : Lattice) (steps rest : List Step) (seen : WorldType → StackType) (at : ℕ) (table : BTreeMap ℕ (Vec WorldType)) (falling : Option (Vec WorldType)) : Type 0 where
  pub entries : List Entry
  pub keeps : Keeps seen (is_needed steps at) table entries
  pub same : pass l steps [] (Some []) ≡ pass l rest entries (seen_falling seen falling)

pub record Walks (steps : List Step) (seen : WorldType → StackType) (assignable : WorldType → WorldType → Bool) (merges : WorldType → WorldType → Option WorldType → Type 0) (table : BTreeMap ℕ (Vec WorldType)) (falling : Option (Vec WorldType)) (at size : ℕ) : Type 0 where
  pub older : List Step
  pub rest : List Step
  pub whole : steps ≡ older ++ rest
  pub before : AreBefore at older
  pub lies : LieFrom rest at size
  pub goes : (l : Lattice) → Agrees seen assignable merges l → Continues l steps rest seen at table falling

-- what is met next
pub record Next (steps rest : List Step) (at size : ℕ) : Type 0 where
  pub step : Step
  pub behind : List Step
  pub is : rest ≡ step ∷ behind
  pub found : step_at steps at ≡ Some step
  pub here : step.at ≡ at
  pub up : at < step.next
  pub lies : LieFrom behind step.next size

next_of : (steps older rest : List Step) (at size : ℕ) → steps ≡ older ++ rest → AreBefore at older → LieFrom rest at size → at < size → Next steps rest at size
next_of steps older [] at size whole before lies more = absurd (omega (arith, lies))
next_of steps older (s ∷ ss) at size whole before lies more = record {
  step = s;
  behind = ss;
  is = refl;
  found = ap (λ xs. step_at xs at) whole ∙ find_next older ss s at before lies.0;
  here = lies.0;
  up = omega (arith, lies.1, lies.0);
  lies = lies.2;
}

lowest_is : (rules : List ℕ) (rule : ℕ) → lowest_of rules ≡ Some rule → (at : ℕ) (rest : Result (List Entry) (ℕ × List ℕ)) → told (if_sound at rules rest) ≡ Some (record { offset = at; rule = rule })
lowest_is [] rule e at rest = cc e
lowest_is (r ∷ rs) rule e at rest = let is : lowest (r ∷ rs) ≡ rule = cc e in ap (λ n. Some (record { offset = at; rule = n })) is

sound : (rules : List ℕ) → rules ≡ [] → (at : ℕ) (rest : Result (List Entry) (ℕ × List ℕ)) → if_sound at rules rest ≡ rest
sound rules e at rest = ap (λ rs. if_sound at rs rest) e

none_left : (l : Lattice) (rest : List Step) (at size : ℕ) → size ≤ at → LieFrom rest at size → (entries : List Entry) (us : Option (List StackType)) → told (pass l rest entries us) ≡ None
none_left l [] at size over h entries us = refl
none_left l (s ∷ ss) at size over h entries us = absurd (omega (arith, h.1, h.0, lies_up ss s.next size h.2))

module _ (steps : List Step) (seen : WorldType → StackType) (assignable : WorldType → WorldType → Bool) (merges : WorldType → WorldType → Option WorldType → Type 0) where
  -- what is said of the visit of the instruction at an offset
  abbrev pub Visits : BTreeMap ℕ (Vec WorldType) → Option (Vec WorldType) → ℕ → StepFacts → BTreeMap ℕ (Vec WorldType) → Result (Option (Vec WorldType)) ℕ → Type 0
  Visits table falling at facts table' after =
      (s : Step) (l : Lattice) (entries : List Entry) → step_at steps at ≡ Some s → IsRanked s → at < s.next → Tells seen s (is_target steps at) facts → Agrees seen assignable merges l → Keeps seen (is_needed steps at) table entries → Behind seen (is_needed steps s.next) table' after (visit l s entries (seen_falling seen falling))

  abbrev pub Knows : ℕ → StepFacts → Type 0
  Knows at facts = (s : Step) → step_at steps at ≡ Some s → Tells seen s (is_target steps at) facts

  module _ (table : BTreeMap ℕ (Vec WorldType)) (falling : Option (Vec WorldType)) (at size : ℕ) (w : Walks steps seen assignable merges table falling at size) where
    next_step : at < size → Next steps w.rest at size
    next_step more = next_of steps w.older w.rest at size w.whole w.before w.lies more

    pub goes_up : at < size → (facts : StepFacts) → Knows at facts → at < facts.next
    goes_up more facts knows = let n = next_step more in omega (arith, n.up, (knows n.step n.found).next)

    pub walk_on : AreRanked steps → at < size → (facts : StepFacts) → Knows at facts → (table' : BTreeMap ℕ (Vec WorldType)) (falling' : Option (Vec WorldType)) → Visits table falling at facts table' (Ok falling') → Walks steps seen assignable merges table' falling' facts.next size
    walk_on ranked more facts knows table' falling' visits =
        let n = next_step more in
        let tells = knows n.step n.found in
        subst (λ k. Walks steps seen assignable merges table' falling' k size) (sym tells.next) (record {
          older = w.older ++ n.step ∷ [];
          rest = n.behind;
          whole = w.whole ∙ ap (λ xs. w.older ++ xs) n.is ∙ sym (append_assoc w.older (n.step ∷ []) n.behind);
          before = before_more at n.step.next w.older n.step n.up n.here w.before;
          lies = n.lies;
          goes = λ l agrees.
              let was = w.goes l agrees in
              let after = visits n.step l was.entries n.found (ranked_at steps at n.step ranked n.found) n.up tells agrees was.keeps in
              let a = visit l n.step was.entries (seen_falling seen falling) in
              record {
                entries = a.table;
                keeps = after.1;
                same = was.same
                    ∙ ap (λ xs. pass l xs was.entries (seen_falling seen falling)) n.is
                    ∙ sound a.broken after.0 n.step.at (pass l n.behind a.table a.falling)
                    ∙ ap (pass l n.behind a.table) (sym after.2);
              };
        })

    pub breaks : AreRanked steps → at < size → (facts : StepFacts) → Knows at facts → (table' : BTreeMap ℕ (Vec WorldType)) (rule : ℕ) → Visits table falling at facts table' (Err rule) → (l : Lattice) → Agrees seen assignable merges l → Some (record { offset = at; rule = rule }) ≡ told (pass l steps [] (Some []))
    breaks ranked more facts knows table' rule visits l agrees =
        let n = next_step more in
        let was = w.goes l agrees in
        let after = visits n.step l was.entries n.found (ranked_at steps at n.step ranked n.found) n.up (knows n.step n.found) agrees was.keeps in
        let a = visit l n.step was.entries (seen_falling seen falling) in
        sym (ap told was.same
        ∙ ap (λ xs. told (pass l xs was.entries (seen_falling seen falling))) n.is
        ∙ lowest_is a.broken rule after n.step.at (pass l n.behind a.table a.falling)
        ∙ ap (λ (k : ℕ). Some (record { offset = k; rule = rule })) n.here)

    pub ends : size ≤ at → (l : Lattice) → Agrees seen assignable merges l → None ≡ told (pass l steps [] (Some []))
    ends over l agrees =
        let was = w.goes l agrees in
        sym (ap told was.same ∙ none_left l w.rest at size over w.lies was.entries (seen_falling seen falling))

  pub begins : (size : ℕ) (table : BTreeMap ℕ (Vec WorldType)) (stack : Vec WorldType) → LieFrom steps 0 size → table.entries ≡ [] → stack.items ≡ [] → Walks steps seen assignable merges table (Some stack) 0 size
  begins size table stack lies empty fresh = record {
    older = [];
    rest = steps;
    whole = refl;
    before = tt;
    lies = lies;
    goes = λ l agrees. record {
      entries = [];
      keeps = λ to asked. ap (λ es. seen_falling seen (lookup (is_at (nat_cmp to)) es)) empty;
      same = ap (λ types. pass l steps [] (Some (seen_stack seen types))) (sym fresh);
    };
  }
