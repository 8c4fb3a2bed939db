-- What is told of a body, by what is found of it.
use Rattle.std.proofs.Common.{◌≡◌, ℕ, suc, Bool, true, false, cond, List, [], ◌∷◌, ◌++◌, map, Option, Some, None, refl, sym, ap, ◌∙◌}
use Rattle.std.specs.Prelude.{Result, Ok, Err}
use Rattle.std.specs.Option.{option_map}
use Rattle.plain_types.specs.declared.fault.Fault.{Fault}
use Rattle.file_tables.specs.File.{FilePart}
use Rattle.cil_code.specs.declared.fault.CodeFault.{CodeFault}
use Rattle.cil_code.specs.Bodies.{BodyPart}
use Rattle.cil_code.specs.Walk.{code_fault}
use Rattle.machine.specs.Data.{ClassOf}
use Rattle.machine.specs.Program.{Method}
use Rattle.assemblies.specs.Binding.{numbered}
use Rattle.world_rows.specs.Tokens.{methods}
use Rattle.code_rules.specs.Pass.{Entry}
use Rattle.code_rules.specs.Verdict.{passed}
use Rattle.code_rules.specs.Judgement.{lattice_of, steps_of}
use Rattle.verdict_rules.specs.Order.{Test, test_at, fault_of, first_fault}
use Rattle.verdict_rules.specs.World.{World, exception_of}
use Rattle.verdict_rules.specs.Code.{walk_test, target_test, clause_test, pass_test, body_tests}
use Rattle.code_tests.specs.Tests.{first_broken, test_of, tests_before, code_meant}
use Rattle.forward_pass.specs.declared.code.Broken.{Broken}
use Rattle.forward_pass.specs.Answer.{told}

-- ---- tests one behind the other

module _ (file table row : ℕ) (rest : List Test) where
  kept_on : (is_kept : Bool) (t : Test) (ts : List Test) → (first_broken ts ≡ None → first_fault file table row (ts ++ rest) ≡ first_fault file table row rest) → cond is_kept (first_broken ts) (Some t) ≡ None → cond is_kept (first_fault file table row (ts ++ rest)) (Some (fault_of file table row t)) ≡ first_fault file table row rest
  kept_on true t ts on e = on e
  kept_on false t ts on e = absurd (cc e)

  all_kept : (ts : List Test) → first_broken ts ≡ None → first_fault file table row (ts ++ rest) ≡ first_fault file table row rest
  all_kept [] e = refl
  all_kept (t ∷ ts) e = kept_on t.is_kept t ts (all_kept ts) e

  broken_on : (is_kept : Bool) (t u : Test) (ts : List Test) → (first_broken ts ≡ Some u → first_fault file table row (ts ++ rest) ≡ Some (fault_of file table row u)) → cond is_kept (first_broken ts) (Some t) ≡ Some u → cond is_kept (first_fault file table row (ts ++ rest)) (Some (fault_of file table row t)) ≡ Some (fault_of file table row u)
  broken_on true t u ts on e = on e
  broken_on false t u ts on e = let same : t ≡ u = cc e in ap (λ v. Some (fault_of file table row v)) same

  one_broken : (u : Test) (ts : List Test) → first_broken ts ≡ Some u → first_fault file table row (ts ++ rest) ≡ Some (fault_of file table row u)
  one_broken u [] e = absurd (cc e)
  one_broken u (t ∷ ts) e = broken_on t.is_kept t u ts (one_broken u ts) e

behind : {A : Type 0} (xs ys zs : List A) → xs ++ (ys ++ zs) ≡ (xs ++ ys) ++ zs
behind [] ys zs = refl
behind (x ∷ xs) ys zs = ap (λ rest. x ∷ rest) (behind xs ys zs)

-- ---- a sound body

module _ (w : World) (file n : ℕ) (x : FilePart) (m : Method) (b : BodyPart) where
  abbrev answer : Result (List Entry) (ℕ × List ℕ)
  answer = passed w.sources (lattice_of w.sources) (ClassOf (exception_of w)) m (code_meant w file x b)

  abbrev last : List Test
  last = pass_test answer ∷ []

  in_turn : first_fault file methods (suc n) (body_tests w file x m (Some b)) ≡ first_fault file methods (suc n) (tests_before w file x m b ++ last)
  in_turn =
      let code = code_meant w file x b in
      let steps = steps_of w.sources (ClassOf (exception_of w)) m code in
      ap (λ (ts : List Test). first_fault file methods (suc n) (walk_test (code_fault b.code) ∷ ts)) (behind (map (target_test w code steps) code.lines) (numbered (clause_test w steps code.clauses) 0 code.clauses) last)

  pub before_broken : (broken : Option CodeFault) (fault : CodeFault) (result : Fault) → broken ≡ Some fault → option_map test_of broken ≡ first_broken (tests_before w file x m b) → result ≡ fault_of file methods (suc n) (test_at fault.rule fault.offset false) → Some result ≡ first_fault file methods (suc n) (body_tests w file x m (Some b))
  before_broken broken fault result is told_before e =
      ap Some e
      ∙ sym (in_turn ∙ one_broken file methods (suc n) last (test_of fault) (tests_before w file x m b) (sym told_before ∙ ap (option_map test_of) is))

  pub before_kept : (broken : Option CodeFault) → broken ≡ None → option_map test_of broken ≡ first_broken (tests_before w file x m b) → first_broken (tests_before w file x m b) ≡ None
  before_kept broken is told_before = sym told_before ∙ ap (option_map test_of) is

  by_answer : (r : Result (List Entry) (ℕ × List ℕ)) → first_fault file methods (suc n) (pass_test r ∷ []) ≡ option_map (λ (k : Broken). fault_of file methods (suc n) (test_at k.rule k.offset false)) (told r)
  by_answer (Ok table) = refl
  by_answer (Err broken) = refl

  pass_told : (broken : Option Broken) → broken ≡ told answer → first_broken (tests_before w file x m b) ≡ None → first_fault file methods (suc n) (body_tests w file x m (Some b)) ≡ option_map (λ (k : Broken). fault_of file methods (suc n) (test_at k.rule k.offset false)) broken
  pass_told broken e kept =
      in_turn
      ∙ all_kept file methods (suc n) last (tests_before w file x m b) kept
      ∙ by_answer answer
      ∙ ap (option_map (λ (k : Broken). fault_of file methods (suc n) (test_at k.rule k.offset false))) (sym e)

  pub pass_broken : (broken : Option Broken) (k : Broken) (result : Fault) → broken ≡ Some k → broken ≡ told answer → first_broken (tests_before w file x m b) ≡ None → result ≡ fault_of file methods (suc n) (test_at k.rule k.offset false) → Some result ≡ first_fault file methods (suc n) (body_tests w file x m (Some b))
  pass_broken broken k result is e kept same =
      ap Some same
      ∙ sym (pass_told broken e kept ∙ ap (option_map (λ (k : Broken). fault_of file methods (suc n) (test_at k.rule k.offset false))) is)

  pub pass_kept : (broken : Option Broken) → broken ≡ None → broken ≡ told answer → first_broken (tests_before w file x m b) ≡ None → None ≡ first_fault file methods (suc n) (body_tests w file x m (Some b))
  pass_kept broken is e kept = sym (pass_told broken e kept ∙ ap (option_map (λ (k : Broken). fault_of file methods (suc n) (test_at k.rule k.offset false))) is)
