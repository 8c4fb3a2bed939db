-- What a leave has still to run, searched again from the finally that has ended.
use Rattle.std.proofs.Common.{◌≡◌, ℕ, suc, ◌<◌, ◌≤◌, Bool, true, false, ◌&&◌, not, List, [], ◌∷◌, refl, sym, ap, ◌∙◌, subst, arith}
use Rattle.std.specs.Prelude.{if◌then◌else◌}
use Rattle.machine.specs.Data.{Id}
use Rattle.machine.specs.Program.{Program, Clause}
use Rattle.machine.specs.Throw.{is_final, left}
use Rattle.machine_rename.specs.Again.{after, left_by, left_again, Nested}
use Rattle.machine_rename.proofs.AgainLaws.{after_next}

agrees : (test other : ℕ → Bool) (k : ℕ) → ((j : ℕ) → k < j → other j ≡ test j) → (i : ℕ) → k < i → (cs : List Clause) → left_by other i cs ≡ left_by test i cs
agrees test other k h i lt [] = refl
agrees test other k h i lt (c ∷ cs) =
    ap (λ (b : Bool). let rest = left_by other (suc i) cs in if is_final c.kind && b then i ∷ rest else rest) (h i lt)
    ∙ ap (λ (rest : List ℕ). if is_final c.kind && test i then i ∷ rest else rest) (agrees test other k h (suc i) (omega arith) cs)

record Tail (test : ℕ → Bool) (all : List Clause) (i k : ℕ) (ks : List ℕ) : Type 0 where
  from : i ≤ k
  held : test k ≡ true
  rest : left_by test (suc k) (after (suc k) all) ≡ ks

tail_of : (test : ℕ → Bool) (all : List Clause) (i : ℕ) (cs : List Clause) → after i all ≡ cs → (k : ℕ) (ks : List ℕ) → left_by test i cs ≡ k ∷ ks → Tail test all i k ks
tail_of test all i [] e k ks h = absurd (cc h)
tail_of test all i (c ∷ cs) e k ks h =
    by_test (is_final c.kind) (test i) refl (λ g. tail_of test all (suc i) cs (after_next i all c cs e) k ks g) h
  where
    rest : List ℕ
    rest = left_by test (suc i) cs

    later : (rest ≡ k ∷ ks → Tail test all (suc i) k ks) → rest ≡ k ∷ ks → Tail test all i k ks
    later ih g = let y = ih g in record { from = let z = y.from in omega arith; held = y.held; rest = y.rest }

    by_test : (final b : Bool) → test i ≡ b → (rest ≡ k ∷ ks → Tail test all (suc i) k ks) → (if final && b then i ∷ rest else rest) ≡ k ∷ ks → Tail test all i k ks
    by_test false b t ih g = later ih g
    by_test true false t ih g = later ih g
    by_test true true t ih g =
        let same : i ≡ k = cc g in
        let tails : rest ≡ ks = cc g in
        record {
          from = omega arith;
          held = subst (λ n. test n ≡ true) same t;
          rest = subst (λ n. left_by test (suc n) (after (suc n) all) ≡ ks) same (ap (left_by test (suc i)) (after_next i all c cs e) ∙ tails);
        }

left_same : (p : Program) (m : Id) (from to k : ℕ) (cs : List Clause) → left p m from to k cs ≡ left_by (λ j. p.try_holds m j from && not (p.try_holds m j to)) k cs
left_same p m from to k [] = refl
left_same p m from to k (c ∷ cs) =
    ap (λ (rest : List ℕ). if is_final c.kind && (p.try_holds m k from && not (p.try_holds m k to)) then k ∷ rest else rest) (left_same p m from to (suc k) cs)

first_holds : (a b : Bool) → a && b ≡ true → a ≡ true
first_holds true b e = refl
first_holds false b e = absurd (cc e)

module _ (p : Program) (outer : Id → ℕ → ℕ → Bool) (nested : Nested p outer) (id : Id) (target : ℕ) (all : List Clause) where
  go_on : (near : ℕ → Bool) (i : ℕ) (cs : List Clause) → after i all ≡ cs → ((k : ℕ) → i ≤ k → near k ≡ true → (j : ℕ) → k < j → outer id j k ≡ near j) → (k : ℕ) (ks : List ℕ) → left_by (λ j. near j && not (p.try_holds id j target)) i cs ≡ k ∷ ks → left_again p outer id k target all ≡ ks
  go_on near i cs e same k ks h =
      let y = tail_of (λ j. near j && not (p.try_holds id j target)) all i cs e k ks h in
      agrees (λ j. near j && not (p.try_holds id j target)) (λ j. outer id j k && not (p.try_holds id j target)) k
      (λ j lt. ap (λ b. b && not (p.try_holds id j target)) (same k y.from (first_holds (near k) _ y.held) j lt)) (suc k) (omega arith) (after (suc k) all)
      ∙ y.rest

  -- after the first finally of a leave
  pub leave_first : (from k : ℕ) (ks : List ℕ) → left p id from target 0 all ≡ k ∷ ks → left_again p outer id k target all ≡ ks
  leave_first from k ks h =
      go_on (λ j. p.try_holds id j from) 0 all refl (λ k le held j lt. nested.at id j k from lt held) k ks (sym (left_same p id from target 0 all) ∙ h)

  -- after a later one
  pub leave_next : (k l : ℕ) (ks : List ℕ) → left_again p outer id k target all ≡ l ∷ ks → left_again p outer id l target all ≡ ks
  leave_next k l ks h =
      go_on (λ j. outer id j k) (suc k) (after (suc k) all) refl (λ n le held j lt. nested.up id j n k (omega arith) lt held) l ks h
