-- What the code's judging of types rests on.
use Rattle.std.proofs.Common.{◌≡◌, ℕ, zero, suc, ◌+◌, ◌-◌, ◌<◌, ◌≤◌, Bool, true, false, ◌&&◌, ◌||◌, List, [], ◌∷◌, ◌++◌, map, reverse, length, take, drop, Option, Some, None, refl, sym, ap, ◌∙◌, arith}
use Rattle.std.proofs.lemmas.List.{append_assoc, append-nil, map-append, reverse-append, reverse-reverse, length-reverse, length-map, length-drop, length-take-le, take-append-drop, take_rest}
use Rattle.std.specs.Prelude.{if◌then◌else◌, nat_lt, Result, Ok, Err}
use Rattle.std.specs.List.{list_any}
use Rattle.std.proofs.lemmas.Bool.{ltb-true, ltb-false}
use Rattle.std.proofs.lemmas.List.Folds.{list_any-append}
use Rattle.ecma_types.specs.declared.stack.PlaceType.{PlaceType as WorldPlace}
use Rattle.ecma_types.specs.declared.stack.StackType.{StackType as WorldType}
use Rattle.ecma_types.specs.declared.stack.StackType.TheVariants as world
use Rattle.machine.specs.Program.{Program}
use Rattle.machine.specs.Throw.{on_some}
use Rattle.machine.specs.Rows.{take_arguments}
use Rattle.machine_typed.specs.Typing.{StackType, Never, assignable, all_assignable, loaded}
use Rattle.code_rules.specs.Rows.{Rest, Keeps, Drops, WantsNone, behind, too_deep, not_alone, wrong, or_broken, over, or_short}
use Rattle.stack_acts.specs.declared.row.Rest.{Rest as CodeRest}
use Rattle.stack_acts.specs.declared.row.Rest.TheVariants as rest
use Rattle.stack_acts.specs.declared.row.Row.{Row as CodeRow}
use Rattle.place_types.specs.Types.{stack_of, place_of, from_top}
use Rattle.verify_ops.specs.Effects.{lowest_of, loads, is_never}
use Rattle.verify_ops.specs.Acts.{deeper, passes_max, is_left, kept_by, kept_below, judged_by}
use Rattle.stack_acts.specs.Acts.{rest_by, gives_by}

-- ---- what is taken off a stack

reverse_cons : {A : Type 0} (x : A) (xs : List A) → reverse (x ∷ xs) ≡ reverse xs ++ (x ∷ [])
reverse_cons x xs = reverse-append (x ∷ []) xs

take_all : {A : Type 0} (rs zs acc : List A) → take_arguments (length rs) (rs ++ zs) acc ≡ Some (record { arguments = reverse rs ++ acc; rest = zs })
take_all [] zs acc = refl
take_all (r ∷ rs) zs acc =
    take_all rs zs (r ∷ acc) ∙ ap (λ x. Some (record { arguments = x; rest = zs })) (sym (ap (λ ys. ys ++ acc) (reverse_cons r rs) ∙ append_assoc (reverse rs) (r ∷ []) acc))

take_short : {A : Type 0} (n : ℕ) (ts acc : List A) → length ts < n → take_arguments n ts acc ≡ None
take_short zero ts acc h = absurd (omega arith)
take_short (suc n) [] acc h = refl
take_short (suc n) (t ∷ ts) acc h = take_short n ts (t ∷ acc) (omega arith)

types_split : (k : ℕ) (xs : List WorldType) → from_top xs ≡ reverse (map stack_of (drop k xs)) ++ from_top (take k xs)
types_split k xs =
    let parts : take k xs ++ drop k xs ≡ xs = take-append-drop k xs in
    ap from_top (sym parts) ∙ (ap reverse (map-append stack_of (take k xs) (drop k xs)) ∙ reverse-append (map stack_of (take k xs)) (map stack_of (drop k xs)))

types_count : (xs : List WorldType) → length (from_top xs) ≡ length xs
types_count xs = length-reverse (map stack_of xs) ∙ length-map xs stack_of

taken_count : (n : ℕ) (xs : List WorldType) → n ≤ length xs → length (reverse (map stack_of (drop (length xs - n) xs))) ≡ n
taken_count n xs h =
    let e : length (drop (length xs - n) xs) ≡ length xs - (length xs - n) = length-drop (length xs - n) xs in
    let m : length xs - (length xs - n) ≡ n = omega arith in
    length-reverse (map stack_of (drop (length xs - n) xs)) ∙ (length-map (drop (length xs - n) xs) stack_of ∙ (e ∙ m))

taken : (n : ℕ) (xs : List WorldType) → n ≤ length xs
    → take_arguments n (from_top xs) [] ≡ Some (record { arguments = map stack_of (drop (length xs - n) xs); rest = from_top (take (length xs - n) xs) })
taken n xs h =
    let k = length xs - n in
    let rs = reverse (map stack_of (drop k xs)) in
    let zs = from_top (take k xs) in
    let back : reverse rs ++ [] ≡ map stack_of (drop k xs) = append-nil (reverse rs) ∙ reverse-reverse (map stack_of (drop k xs)) in
    ap (λ m. take_arguments m (from_top xs) []) (sym (taken_count n xs h))
    ∙ (ap (λ ts. take_arguments (length rs) ts []) (types_split k xs)
    ∙ (take_all rs zs []
    ∙ ap (λ x. Some (record { arguments = x; rest = zs })) back))

-- ---- the lowest rule

abbrev flag : Bool → ℕ → List ℕ
flag b r = if b then r ∷ [] else []

is_none : {A : Type 0} → Option A → Bool
is_none None = true
is_none (Some x) = false

wrong_flag : (g : Option (List StackType)) → (w : Bool) × (wrong g ≡ flag w 53)
wrong_flag None = (true, refl)
wrong_flag (Some us) = (false, refl)

alone_flag : (r : Rest) (rs : List StackType) → (a : Bool) × (not_alone r rs ≡ flag a 54)
alone_flag Keeps rs = (false, refl)
alone_flag Drops rs = (false, refl)
alone_flag WantsNone [] = (false, refl)
alone_flag WantsNone (t ∷ ts) = (true, refl)

deep_flag : (r : CodeRest) (most pushes : ℕ) (rs : List StackType) → too_deep (rest_by r) most pushes rs ≡ flag (deeper r most (pushes + length rs)) 51
deep_flag rest.Keeps most pushes rs = refl
deep_flag rest.Drops most pushes rs = refl
deep_flag rest.WantsNone most pushes rs = refl

abbrev outcome : List ℕ → Option (List StackType) → Result (List StackType) ℕ
outcome rules o = lowest_of (loads (or_broken rules o))

first_51 : (d w a : Bool) (o : Option (List StackType)) → outcome (51 ∷ (flag d 51 ++ (flag w 53 ++ flag a 54))) o ≡ Err 51
first_51 true true true o = refl
first_51 true true false o = refl
first_51 true false true o = refl
first_51 true false false o = refl
first_51 false true true o = refl
first_51 false true false o = refl
first_51 false false true o = refl
first_51 false false false o = refl

too_many : (o d w a : Bool) (g : Option (List StackType)) → (o || d) ≡ true → outcome (flag o 51 ++ (flag d 51 ++ (flag w 53 ++ flag a 54))) g ≡ Err 51
too_many true d w a g h = first_51 d w a g
too_many false true w a g h = first_51 false w a g
too_many false false w a g h = absurd (cc h)

flags_rest : (o d : Bool) (g : Option (List StackType)) (r : Rest) (rs : List StackType) (e : Option (List StackType)) → (o || d) ≡ true → outcome (flag o 51 ++ (flag d 51 ++ (wrong g ++ not_alone r rs))) e ≡ Err 51
flags_rest o d g r rs e h =
    let w = wrong_flag g in
    let a = alone_flag r rs in
    ap (λ x. outcome (flag o 51 ++ (flag d 51 ++ (x ++ not_alone r rs))) e) w.1
    ∙ (ap (λ x. outcome (flag o 51 ++ (flag d 51 ++ (flag w.0 53 ++ x))) e) a.1
    ∙ too_many o d w.0 a.0 e h)

no_more : (o d : Bool) (g : Option (List StackType)) (r : Rest) (rs : List StackType) (e : Option (List StackType)) → (o || d) ≡ false → outcome (flag o 51 ++ (flag d 51 ++ (wrong g ++ not_alone r rs))) e ≡ outcome (wrong g ++ not_alone r rs) e
no_more false false g r rs e h = refl
no_more true d g r rs e h = absurd (cc h)
no_more false true g r rs e h = absurd (cc h)

wrong_first : (r : Rest) (rs : List StackType) (e : Option (List StackType)) → outcome (53 ∷ not_alone r rs) e ≡ Err 53
wrong_first Keeps rs e = refl
wrong_first Drops rs e = refl
wrong_first WantsNone [] e = refl
wrong_first WantsNone (t ∷ ts) e = refl

never_no : (t : WorldType) → is_never (stack_of t) ≡ false
never_no world.I = refl
never_no world.L = refl
never_no world.Null = refl
never_no (world.O t) = refl
never_no (world.Pointer t) = refl
never_no world.H = refl

-- what lies on a stack has types that values have
known : (xs : List WorldType) → list_any is_never (from_top xs) ≡ false
known [] = refl
known (x ∷ xs) =
    ap (list_any is_never) (reverse_cons (stack_of x) (map stack_of xs))
    ∙ (list_any-append is_never (from_top xs) (stack_of x ∷ [])
    ∙ (ap (λ b. b || (is_never (stack_of x) || false)) (known xs)
    ∙ ap (λ b. b || false) (never_no x)))

loads_by : (b c : Bool) (us : List StackType) → b ≡ c → lowest_of (if b then Err (53 ∷ []) else Ok us) ≡ (if c then Err 53 else Ok us)
loads_by true true us e = refl
loads_by false false us e = refl
loads_by true false us e = absurd (cc e)
loads_by false true us e = absurd (cc e)

or_false : (b : Bool) → (b || false) ≡ b
or_false true = refl
or_false false = refl

-- the types given over those that are kept
loaded_over : (us : List StackType) (xs : List WorldType) → lowest_of (loads (Ok (us ++ from_top xs))) ≡ (if list_any is_never us then Err 53 else Ok (us ++ from_top xs))
loaded_over us xs =
    loads_by (list_any is_never (us ++ from_top xs)) (list_any is_never us) (us ++ from_top xs)
    (list_any-append is_never us (from_top xs) ∙ (ap (λ b. list_any is_never us || b) (known xs) ∙ or_false (list_any is_never us)))

loaded_alone : (us : List StackType) → lowest_of (loads (Ok us)) ≡ (if list_any is_never us then Err 53 else Ok (us ++ []))
loaded_alone us = loads_by (list_any is_never us) (list_any is_never us) us refl ∙ ap (λ x. if list_any is_never us then Err 53 else Ok x) (sym (append-nil us))

ending_alone : (us : List StackType) (n : ℕ) (xs : List WorldType) → n ≡ 0
    → outcome (not_alone WantsNone (from_top (take n xs))) (behind WantsNone us (from_top (take n xs))) ≡ (if list_any is_never us then Err 53 else Ok (us ++ []))
ending_alone us n xs e = ap (λ m. outcome (not_alone WantsNone (from_top (take m xs))) (behind WantsNone us (from_top (take m xs)))) e ∙ loaded_alone us

ending : (k : CodeRest) (us : List StackType) (n : ℕ) (xs : List WorldType) → is_left k n ≡ false
    → outcome (not_alone (rest_by k) (from_top (take n xs))) (behind (rest_by k) us (from_top (take n xs))) ≡ (if list_any is_never us then Err 53 else Ok (us ++ from_top (take (kept_by k n) xs)))
ending rest.Keeps us n xs h = loaded_over us (take n xs)
ending rest.Drops us n xs h = loaded_alone us
ending rest.WantsNone us n xs h =
    let e : n ≤ 0 = ltb-false 0 n h in
    let z : n ≡ 0 = omega arith in
    ending_alone us n xs z

alone_fails : (us ts : List StackType) → 0 < length ts → outcome (not_alone WantsNone ts) (behind WantsNone us ts) ≡ Err 54
alone_fails us [] h = absurd (omega arith)
alone_fails us (t ∷ ts) h = refl

left_fails : (k : CodeRest) (us : List StackType) (n : ℕ) (ts : List StackType) → is_left k n ≡ true → length ts ≡ n
    → outcome (not_alone (rest_by k) ts) (behind (rest_by k) us ts) ≡ Err 54
left_fails rest.Keeps us n ts h e = absurd (cc h)
left_fails rest.Drops us n ts h e = absurd (cc h)
left_fails rest.WantsNone us n ts h e =
    let l : 0 < n = ltb-true 0 n h in
    let m : 0 < length ts = omega arith in
    alone_fails us ts m

-- a row of the code over a stack that has the types to be taken
module _ (p : Program) (r : CodeRow) (most : ℕ) (xs : List WorldType) where
  abbrev left : List StackType
  left = from_top (take (length xs - r.pops) xs)

  abbrev given : Option (List StackType)
  given = gives_by p r.act (map stack_of (drop (length xs - r.pops) xs))

  abbrev ended : Option (List StackType)
  ended = on_some given (λ us. behind (rest_by r.rest) us left)

  pub too_few : length xs < r.pops → judged_by p r most xs ≡ Err 50
  too_few h =
      let few : length (from_top xs) < r.pops = rw types_count h in
      ap (λ t. lowest_of (loads (or_short (over most (from_top xs)) t (λ t. or_broken (over most (from_top xs) ++ (too_deep (rest_by r.rest) most r.pushes t.rest ++ (wrong (gives_by p r.act t.arguments) ++ not_alone (rest_by r.rest) t.rest))) (on_some (gives_by p r.act t.arguments) (λ us. behind (rest_by r.rest) us t.rest)))))) (take_short r.pops (from_top xs) [] few)
      ∙ fifty (nat_lt most (length (from_top xs)))
    where
      fifty : (b : Bool) → lowest_of (loads (Err (50 ∷ flag b 51))) ≡ Err 50
      fifty true = refl
      fifty false = refl

  taken_so : r.pops ≤ length xs → judged_by p r most xs ≡ outcome (over most (from_top xs) ++ (too_deep (rest_by r.rest) most r.pushes left ++ (wrong given ++ not_alone (rest_by r.rest) left))) ended
  taken_so h =
      ap (λ t. lowest_of (loads (or_short (over most (from_top xs)) t (λ t. or_broken (over most (from_top xs) ++ (too_deep (rest_by r.rest) most r.pushes t.rest ++ (wrong (gives_by p r.act t.arguments) ++ not_alone (rest_by r.rest) t.rest))) (on_some (gives_by p r.act t.arguments) (λ us. behind (rest_by r.rest) us t.rest)))))) (taken r.pops xs h)

  left_count : r.pops ≤ length xs → length left ≡ length xs - r.pops
  left_count h =
      let m : length xs - r.pops ≤ length xs = omega arith in
      types_count (take (length xs - r.pops) xs) ∙ length-take-le (length xs - r.pops) xs m

  flagged : r.pops ≤ length xs → judged_by p r most xs ≡ outcome (flag (nat_lt most (length xs)) 51 ++ (flag (deeper r.rest most (r.pushes + (length xs - r.pops))) 51 ++ (wrong given ++ not_alone (rest_by r.rest) left))) ended
  flagged h =
      taken_so h
      ∙ (ap (λ n. outcome (flag (nat_lt most n) 51 ++ (too_deep (rest_by r.rest) most r.pushes left ++ (wrong given ++ not_alone (rest_by r.rest) left))) ended) (types_count xs)
      ∙ (ap (λ x. outcome (flag (nat_lt most (length xs)) 51 ++ (x ++ (wrong given ++ not_alone (rest_by r.rest) left))) ended) (deep_flag r.rest most r.pushes left)
      ∙ ap (λ n. outcome (flag (nat_lt most (length xs)) 51 ++ (flag (deeper r.rest most (r.pushes + n)) 51 ++ (wrong given ++ not_alone (rest_by r.rest) left))) ended) (left_count h)))

  pub too_deep_there : r.pops ≤ length xs → passes_max r most (length xs) ≡ true → judged_by p r most xs ≡ Err 51
  too_deep_there h e = flagged h ∙ flags_rest (nat_lt most (length xs)) (deeper r.rest most (r.pushes + (length xs - r.pops))) given (rest_by r.rest) left ended e

  unflagged : r.pops ≤ length xs → passes_max r most (length xs) ≡ false → judged_by p r most xs ≡ outcome (wrong given ++ not_alone (rest_by r.rest) left) ended
  unflagged h e = flagged h ∙ no_more (nat_lt most (length xs)) (deeper r.rest most (r.pushes + (length xs - r.pops))) given (rest_by r.rest) left ended e

  pub wrong_there : r.pops ≤ length xs → passes_max r most (length xs) ≡ false → given ≡ None → judged_by p r most xs ≡ Err 53
  wrong_there h e g =
      unflagged h e
      ∙ (ap (λ x. outcome (wrong x ++ not_alone (rest_by r.rest) left) (on_some x (λ us. behind (rest_by r.rest) us left))) g
      ∙ wrong_first (rest_by r.rest) left None)

  given_there : (us : List StackType) → r.pops ≤ length xs → passes_max r most (length xs) ≡ false → given ≡ Some us → judged_by p r most xs ≡ outcome (not_alone (rest_by r.rest) left) (behind (rest_by r.rest) us left)
  given_there us h e g = unflagged h e ∙ ap (λ x. outcome (wrong x ++ not_alone (rest_by r.rest) left) (on_some x (λ us. behind (rest_by r.rest) us left))) g

  pub left_there : (us : List StackType) → r.pops ≤ length xs → passes_max r most (length xs) ≡ false → given ≡ Some us → is_left r.rest (length xs - r.pops) ≡ true → judged_by p r most xs ≡ Err 54
  left_there us h e g l = given_there us h e g ∙ left_fails r.rest us (length xs - r.pops) left l (left_count h)

  ended_there : (us : List StackType) → r.pops ≤ length xs → passes_max r most (length xs) ≡ false → given ≡ Some us → is_left r.rest (length xs - r.pops) ≡ false
      → judged_by p r most xs ≡ (if list_any is_never us then Err 53 else Ok (us ++ from_top (take (kept_below r (length xs)) xs)))
  ended_there us h e g l = given_there us h e g ∙ ending r.rest us (length xs - r.pops) xs l

  pub never_there : (us : List StackType) → r.pops ≤ length xs → passes_max r most (length xs) ≡ false → given ≡ Some us → is_left r.rest (length xs - r.pops) ≡ false → list_any is_never us ≡ true → judged_by p r most xs ≡ Err 53
  never_there us h e g l n = ended_there us h e g l ∙ ap (λ b. if b then Err 53 else Ok (us ++ from_top (take (kept_below r (length xs)) xs))) n

  pub given_so : (us : List StackType) → r.pops ≤ length xs → passes_max r most (length xs) ≡ false → given ≡ Some us → is_left r.rest (length xs - r.pops) ≡ false → list_any is_never us ≡ false
      → judged_by p r most xs ≡ Ok (us ++ from_top (take (kept_below r (length xs)) xs))
  given_so us h e g l n = ended_there us h e g l ∙ ap (λ b. if b then Err 53 else Ok (us ++ from_top (take (kept_below r (length xs)) xs))) n

-- the range from a place on, as code cuts it, is what is left behind the place
pub sliced : (p : Program) (r : CodeRow) (xs : List WorldType) (o : Option (List StackType))
    → o ≡ gives_by p r.act (map stack_of (take (length xs - (length xs - r.pops)) (drop (length xs - r.pops) xs)))
    → gives_by p r.act (map stack_of (drop (length xs - r.pops) xs)) ≡ o
sliced p r xs o e = sym (e ∙ ap (λ ts. gives_by p r.act (map stack_of ts)) (take_rest xs (length xs - r.pops)))
