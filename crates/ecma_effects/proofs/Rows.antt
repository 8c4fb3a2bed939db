-- Rows that make of a stack with rows from 1 what others make of it with rows from 0.
use Rattle.std.proofs.Common.{◌≡◌, ℕ, zero, suc, ◌+◌, Bool, true, false, ◌||◌, List, [], ◌∷◌, ◌++◌, map, Option, Some, None, refl, sym, ap, ◌∙◌, subst}
use Rattle.std.specs.Prelude.{if◌then◌else◌, nat_lt, Result, Ok, Err}
use Rattle.std.specs.Option.{option_map}
use Rattle.std.specs.List.{list_any}
use Rattle.std.proofs.lemmas.List.{length-map, map-append}
use Rattle.std.proofs.lemmas.List.Folds.{list_any-append}
use Rattle.machine.specs.Data.{PlaceType}
use Rattle.machine.specs.Rows.{take_arguments, Taken}
use Rattle.machine.specs.Throw.{on_some}
use Rattle.machine_typed.specs.Typing.{StackType, when}
use Rattle.code_rules.specs.Rows.{Row, Rest, Keeps, Drops, WantsNone, behind, too_deep, not_alone, wrong, or_broken, over, or_short, judged, none, one, two, three, row, with_place}
use Rattle.place_types.specs.Types.{stack_up, place_up}
use Rattle.verify_ops.specs.Effects.{is_never, loads}
use Rattle.ecma_effects.proofs.Renamed.{never_up}

abbrev pub has_never : List StackType → Bool
has_never ts = list_any is_never ts

pub all_never_up : (ts : List StackType) → has_never (map stack_up ts) ≡ has_never ts
all_never_up [] = refl
all_never_up (t ∷ ts) = ap (λ b. b || has_never (map stack_up ts)) (never_up t) ∙ ap (λ b. is_never t || b) (all_never_up ts)

-- no type is given that no value has
abbrev pub Clean : Option (List StackType) → Type 0
Clean None = Unit {0}
Clean (Some us) = has_never us ≡ false

pub record Maps (o o' : Option (List StackType)) : Type 0 where
  pub same : o' ≡ option_map (map stack_up) o
  pub clean : Clean o

pub maps_none : Maps None None
maps_none = record { same = refl; clean = tt }

pub maps_some : (us : List StackType) → has_never us ≡ false → Maps (Some us) (Some (map stack_up us))
maps_some us h = record { same = refl; clean = h }

pub maps_empty : Maps (Some []) (Some [])
maps_empty = record { same = refl; clean = refl }

-- one type is given
pub maps_single : (t u : StackType) → u ≡ stack_up t → is_never t ≡ false → Maps (Some (t ∷ [])) (Some (u ∷ []))
maps_single t u e h = record { same = ap (λ z. Some (z ∷ [])) e; clean = ap (λ b. b || false) h }

pub maps_when : (b b' : Bool) (o o' : Option (List StackType)) → b' ≡ b → (b ≡ true → Maps o o') → Maps (when b o) (when b' o')
maps_when b b' o o' e f = subst (λ c. Maps (when b o) (when c o')) (sym e) (go b f)
  where
    go : (b : Bool) → (b ≡ true → Maps o o') → Maps (when b o) (when b o')
    go true f = f refl
    go false f = maps_none

pub maps_on : {A A' : Type 0} (h : A → A') (o : Option A) (o' : Option A') (k : A → Option (List StackType)) (k' : A' → Option (List StackType)) → o' ≡ option_map h o → ((x : A) → o ≡ Some x → Maps (k x) (k' (h x))) → Maps (on_some o k) (on_some o' k')
maps_on h o o' k k' e f = subst (λ q. Maps (on_some o k) (on_some q k')) (sym e) (go o f)
  where
    go : (o : Option _) → ((x : _) → o ≡ Some x → Maps (k x) (k' (h x))) → Maps (on_some o k) (on_some (option_map h o) k')
    go None f = maps_none
    go (Some x) f = f x refl

-- what is given for the types that are taken
abbrev pub Gives : (List StackType → Option (List StackType)) → (List StackType → Option (List StackType)) → Type 0
Gives g g' = (vs : List StackType) → has_never vs ≡ false → Maps (g vs) (g' (map stack_up vs))

or_left : (a b : Bool) → (a || b) ≡ false → a ≡ false
or_left false b h = refl
or_left true b h = h

or_right : (a b : Bool) → (a || b) ≡ false → b ≡ false
or_right false b h = h
or_right true b h = absurd (cc h)

pub none_gives : (o o' : Option (List StackType)) → Maps o o' → Gives (none o) (none o')
none_gives o o' m [] h = m
none_gives o o' m (v ∷ vs) h = maps_none

pub one_gives : (g g' : StackType → Option (List StackType)) → ((t : StackType) → is_never t ≡ false → Maps (g t) (g' (stack_up t))) → Gives (one g) (one g')
one_gives g g' f [] h = maps_none
one_gives g g' f (t ∷ []) h = f t (or_left (is_never t) false h)
one_gives g g' f (t ∷ (u ∷ vs)) h = maps_none

pub two_gives : (g g' : StackType → StackType → Option (List StackType)) → ((t u : StackType) → Maps (g t u) (g' (stack_up t) (stack_up u))) → Gives (two g) (two g')
two_gives g g' f [] h = maps_none
two_gives g g' f (t ∷ []) h = maps_none
two_gives g g' f (t ∷ (u ∷ [])) h = f t u
two_gives g g' f (t ∷ (u ∷ (v ∷ vs))) h = maps_none

pub three_gives : (g g' : StackType → StackType → StackType → Option (List StackType)) → ((t u v : StackType) → Maps (g t u v) (g' (stack_up t) (stack_up u) (stack_up v))) → Gives (three g) (three g')
three_gives g g' f [] h = maps_none
three_gives g g' f (t ∷ []) h = maps_none
three_gives g g' f (t ∷ (u ∷ [])) h = maps_none
three_gives g g' f (t ∷ (u ∷ (v ∷ []))) h = f t u v
three_gives g g' f (t ∷ (u ∷ (v ∷ (w ∷ vs)))) h = maps_none

pub record Alike (a b : Row) : Type 0 where
  pub sound : b.sound ≡ a.sound
  pub rule : b.rule ≡ a.rule
  pub pops : b.pops ≡ a.pops
  pub pushes : b.pushes ≡ a.pushes
  pub rest : b.rest ≡ a.rest
  pub gives : Gives a.gives b.gives

pub row_alike : (s s' : Bool) (n n' k : ℕ) (g g' : List StackType → Option (List StackType)) → s' ≡ s → n' ≡ n → Gives g g' → Alike (row s n k g) (row s' n' k g')
row_alike s s' n n' k g g' e h f = record { sound = e; rule = refl; pops = h; pushes = refl; rest = refl; gives = f }

pub place_alike : (o : Option PlaceType) (make make' : PlaceType → Row) → ((k : PlaceType) → o ≡ Some k → Alike (make k) (make' (place_up k))) → Alike (with_place o make) (with_place (option_map place_up o) make')
place_alike None make make' f = record { sound = refl; rule = refl; pops = refl; pushes = refl; rest = refl; gives = λ vs h. maps_none }
place_alike (Some k) make make' f = f k refl

-- ---- judged

abbrev pub judged_up : Result (List StackType) (List ℕ) → Result (List StackType) (List ℕ)
judged_up (Ok us) = Ok (map stack_up us)
judged_up (Err rules) = Err rules

take_up : (n : ℕ) (ts acc : List StackType) → take_arguments n (map stack_up ts) (map stack_up acc) ≡ option_map (λ (t : Taken StackType). record { arguments = map stack_up t.arguments; rest = map stack_up t.rest }) (take_arguments n ts acc)
take_up zero ts acc = refl
take_up (suc n) [] acc = refl
take_up (suc n) (t ∷ ts) acc = take_up n ts (t ∷ acc)

-- what is taken and what is left has values too
abbrev TakesClean : Option (Taken StackType) → Type 0
TakesClean None = Unit {0}
TakesClean (Some t) = (has_never t.arguments ≡ false) × (has_never t.rest ≡ false)

or_false : (a b : Bool) → a ≡ false → b ≡ false → (a || b) ≡ false
or_false a b h k = ap (λ c. c || b) h ∙ k

take_clean : (n : ℕ) (ts acc : List StackType) → has_never ts ≡ false → has_never acc ≡ false → TakesClean (take_arguments n ts acc)
take_clean zero ts acc h k = (k, h)
take_clean (suc n) [] acc h k = tt
take_clean (suc n) (t ∷ ts) acc h k = take_clean n ts (t ∷ acc) (or_right (is_never t) (has_never ts) h) (or_false (is_never t) (has_never acc) (or_left (is_never t) (has_never ts) h) k)

abbrev answer : Row → ℕ → List ℕ → Taken StackType → Result (List StackType) (List ℕ)
answer r most before t = or_broken (before ++ (too_deep r.rest most r.pushes t.rest ++ (wrong (r.gives t.arguments) ++ not_alone r.rest t.rest))) (on_some (r.gives t.arguments) (λ us. behind r.rest us t.rest))

deep_up : (r : Rest) (most pushes : ℕ) (ts : List StackType) → too_deep r most pushes (map stack_up ts) ≡ too_deep r most pushes ts
deep_up Keeps most pushes ts = ap (λ n. if nat_lt most (pushes + n) then 51 ∷ [] else []) (length-map ts stack_up)
deep_up Drops most pushes ts = refl
deep_up WantsNone most pushes ts = refl

alone_up : (r : Rest) (ts : List StackType) → not_alone r (map stack_up ts) ≡ not_alone r ts
alone_up Keeps ts = refl
alone_up Drops ts = refl
alone_up WantsNone [] = refl
alone_up WantsNone (t ∷ ts) = refl

wrong_up : (o : Option (List StackType)) → wrong (option_map (map stack_up) o) ≡ wrong o
wrong_up None = refl
wrong_up (Some us) = refl

behind_up : (r : Rest) (us ts : List StackType) → behind r (map stack_up us) (map stack_up ts) ≡ option_map (map stack_up) (behind r us ts)
behind_up Keeps us ts = ap Some (sym (map-append stack_up us ts))
behind_up Drops us ts = refl
behind_up WantsNone us [] = refl
behind_up WantsNone us (t ∷ ts) = refl

left_up : (r : Rest) (o : Option (List StackType)) (ts : List StackType) → on_some (option_map (map stack_up) o) (λ us. behind r us (map stack_up ts)) ≡ option_map (map stack_up) (on_some o (λ us. behind r us ts))
left_up r None ts = refl
left_up r (Some us) ts = behind_up r us ts

broken_up : (rules : List ℕ) (o : Option (List StackType)) → or_broken rules (option_map (map stack_up) o) ≡ judged_up (or_broken rules o)
broken_up [] None = refl
broken_up [] (Some us) = refl
broken_up (r ∷ rs) o = refl

answer_up : (a b : Row) (most : ℕ) (before : List ℕ) (t : Taken StackType) → Alike a b → has_never t.arguments ≡ false
    → answer b most before (record { arguments = map stack_up t.arguments; rest = map stack_up t.rest }) ≡ judged_up (answer a most before t)
answer_up a b most before t k h =
    let m = (k.gives t.arguments h).same in
    let u : Taken StackType = record { arguments = map stack_up t.arguments; rest = map stack_up t.rest } in
    ap (λ n. or_broken (before ++ (too_deep b.rest most n u.rest ++ (wrong (b.gives u.arguments) ++ not_alone b.rest u.rest))) (on_some (b.gives u.arguments) (λ us. behind b.rest us u.rest))) k.pushes
    ∙ (ap (λ r. or_broken (before ++ (too_deep r most a.pushes u.rest ++ (wrong (b.gives u.arguments) ++ not_alone r u.rest))) (on_some (b.gives u.arguments) (λ us. behind r us u.rest))) k.rest
    ∙ (ap (λ o. or_broken (before ++ (too_deep a.rest most a.pushes u.rest ++ (wrong o ++ not_alone a.rest u.rest))) (on_some o (λ us. behind a.rest us u.rest))) m
    ∙ (ap (λ o. or_broken (before ++ (too_deep a.rest most a.pushes u.rest ++ (wrong (option_map (map stack_up) (a.gives t.arguments)) ++ not_alone a.rest u.rest))) o) (left_up a.rest (a.gives t.arguments) t.rest)
    ∙ (ap (λ rules. or_broken rules (option_map (map stack_up) (on_some (a.gives t.arguments) (λ us. behind a.rest us t.rest))))
    (ap (λ xs. before ++ (xs ++ (wrong (option_map (map stack_up) (a.gives t.arguments)) ++ not_alone a.rest u.rest))) (deep_up a.rest most a.pushes t.rest)
    ∙ (ap (λ xs. before ++ (too_deep a.rest most a.pushes t.rest ++ (xs ++ not_alone a.rest u.rest))) (wrong_up (a.gives t.arguments))
    ∙ ap (λ xs. before ++ (too_deep a.rest most a.pushes t.rest ++ (wrong (a.gives t.arguments) ++ xs))) (alone_up a.rest t.rest)))
    ∙ broken_up _ (on_some (a.gives t.arguments) (λ us. behind a.rest us t.rest))))))

short_up : (a b : Row) (most : ℕ) (before : List ℕ) (o : Option (Taken StackType)) → Alike a b → TakesClean o
    → or_short before (option_map (λ (t : Taken StackType). record { arguments = map stack_up t.arguments; rest = map stack_up t.rest }) o) (answer b most before) ≡ judged_up (or_short before o (answer a most before))
short_up a b most before None k c = refl
short_up a b most before (Some t) k c = answer_up a b most before t k c.0

abbrev full : Row → ℕ → List StackType → Result (List StackType) (List ℕ)
full r most ts = or_short (over most ts) (take_arguments r.pops ts []) (answer r most (over most ts))

over_up : (most : ℕ) (ts : List StackType) → over most (map stack_up ts) ≡ over most ts
over_up most ts = ap (λ n. if nat_lt most n then 51 ∷ [] else []) (length-map ts stack_up)

full_up : (a b : Row) (most : ℕ) (ts : List StackType) → Alike a b → has_never ts ≡ false → full b most (map stack_up ts) ≡ judged_up (full a most ts)
full_up a b most ts k h =
    ap (λ rules. or_short rules (take_arguments b.pops (map stack_up ts) []) (answer b most rules)) (over_up most ts)
    ∙ (ap (λ n. or_short (over most ts) (take_arguments n (map stack_up ts) []) (answer b most (over most ts))) k.pops
    ∙ (ap (λ o. or_short (over most ts) o (answer b most (over most ts))) (take_up a.pops ts [])
    ∙ short_up a b most (over most ts) (take_arguments a.pops ts []) k (take_clean a.pops ts [] h refl)))

-- the judgement by alike rows is the same
pub judged_alike : (a b : Row) (most : ℕ) (ts : List StackType) → Alike a b → has_never ts ≡ false → judged b most (map stack_up ts) ≡ judged_up (judged a most ts)
judged_alike a b most ts k h =
    ap (λ s. if s then full b most (map stack_up ts) else Err (b.rule ∷ [])) k.sound
    ∙ (ap (λ n. if a.sound then full b most (map stack_up ts) else Err (n ∷ [])) k.rule
    ∙ go a.sound)
  where
    go : (s : Bool) → (if s then full b most (map stack_up ts) else Err (a.rule ∷ [])) ≡ judged_up (if s then full a most ts else Err (a.rule ∷ []))
    go true = full_up a b most ts k h
    go false = refl

-- ---- what is left has values

abbrev LeavesClean : Result (List StackType) (List ℕ) → Type 0
LeavesClean (Ok us) = has_never us ≡ false
LeavesClean (Err rules) = Unit {0}

behind_clean : (r : Rest) (us ts : List StackType) → has_never us ≡ false → has_never ts ≡ false → Clean (behind r us ts)
behind_clean Keeps us ts h k = list_any-append is_never us ts ∙ or_false (has_never us) (has_never ts) h k
behind_clean Drops us ts h k = h
behind_clean WantsNone us [] h k = h
behind_clean WantsNone us (t ∷ ts) h k = tt

left_clean : (r : Rest) (o : Option (List StackType)) (ts : List StackType) → Clean o → has_never ts ≡ false → Clean (on_some o (λ us. behind r us ts))
left_clean r None ts h k = tt
left_clean r (Some us) ts h k = behind_clean r us ts h k

broken_clean : (rules : List ℕ) (o : Option (List StackType)) → Clean o → LeavesClean (or_broken rules o)
broken_clean [] None h = tt
broken_clean [] (Some us) h = h
broken_clean (r ∷ rs) o h = tt

short_clean : (a b : Row) (most : ℕ) (before : List ℕ) (o : Option (Taken StackType)) → Alike a b → TakesClean o → LeavesClean (or_short before o (answer a most before))
short_clean a b most before None k c = tt
short_clean a b most before (Some t) k c =
    broken_clean _ _ (left_clean a.rest (a.gives t.arguments) t.rest ((k.gives t.arguments c.0).clean) c.1)

judged_clean : (a b : Row) (most : ℕ) (ts : List StackType) → Alike a b → has_never ts ≡ false → LeavesClean (judged a most ts)
judged_clean a b most ts k h = go a.sound
  where
    go : (s : Bool) → LeavesClean (if s then full a most ts else Err (a.rule ∷ []))
    go true = short_clean a b most (over most ts) (take_arguments a.pops ts []) k (take_clean a.pops ts [] h refl)
    go false = tt

loads_clean : (r : Result (List StackType) (List ℕ)) → LeavesClean r → loads (judged_up r) ≡ judged_up r
loads_clean (Ok us) h = ap (λ b. if b then Err (53 ∷ []) else Ok (map stack_up us)) (all_never_up us ∙ h)
loads_clean (Err rules) h = refl

pub loads_alike : (a b : Row) (most : ℕ) (ts : List StackType) → Alike a b → has_never ts ≡ false → loads (judged b most (map stack_up ts)) ≡ judged_up (judged a most ts)
loads_alike a b most ts k h = ap loads (judged_alike a b most ts k h) ∙ loads_clean (judged a most ts) (judged_clean a b most ts k h)
