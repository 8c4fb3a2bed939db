-- The tests before the forward pass, by what a listing tells.
use Rattle.std.proofs.Common.{◌≡◌, ℕ, Bool, true, false, cond, List, [], ◌∷◌, ◌++◌, map, Option, Some, None, refl, sym, ap, ◌∙◌}
use Rattle.std.specs.Option.{option_map, option_or}
use Rattle.cil_code.specs.declared.fault.CodeFault.{CodeFault}
use Rattle.cil_code.specs.Bodies.{BodyPart}
use Rattle.cil_code.specs.Walk.{code_fault, instructions_of, starts_of}
use Rattle.file_tables.specs.File.{FilePart}
use Rattle.machine.specs.Data.{ClassOf}
use Rattle.machine.specs.Program.{Method}
use Rattle.classes.specs.Code.{MethodCode}
use Rattle.assemblies.specs.Binding.{numbered}
use Rattle.world_rows.specs.Lines.{lines_of}
use Rattle.code_rules.specs.Pass.{Step}
use Rattle.code_rules.specs.Judgement as judgement
use Rattle.code_rules.specs.Judgement.{steps_of}
use Rattle.verdict_rules.specs.Order.{Test, test_at}
use Rattle.verdict_rules.specs.World.{World, classes_of, exception_of}
use Rattle.verdict_rules.specs.Code.{walk_test, target_test, clause_test}
use Rattle.code_places.specs.Among.{is_among}
use Rattle.code_places.specs.Places.{end_of, first_astray}
use Rattle.code_tests.specs.Tests.{first_broken, test_of, code_meant, tests_of, tests_before, handles_well, clause_keeps, first_wrong}
use Rattle.code_tests.proofs.LineLaws.{code_rows, starts_law, end_law, astray_test, astray_law}
use Rattle.code_tests.proofs.ClauseLaws.{wrong_test, clause_law}

append_law : (ts us : List Test) → first_broken (ts ++ us) ≡ option_or (first_broken ts) (first_broken us)
append_law [] us = refl
append_law (t ∷ ts) us = by t.is_kept (append_law ts us)
  where
    by : (b : Bool) → first_broken (ts ++ us) ≡ option_or (first_broken ts) (first_broken us) → cond b (first_broken (ts ++ us)) (Some t) ≡ option_or (cond b (first_broken ts) (Some t)) (first_broken us)
    by true later = later
    by false later = refl

-- what is told
abbrev pub told : Option CodeFault → Option ℕ → Option ℕ → Option Test
told (Some fault) astray wrong = Some (test_of fault)
told None astray wrong = option_or (option_map (λ at. test_at 43 at false) astray) (option_map (λ at. test_at 44 at false) wrong)

module _ (w : World) (file : ℕ) (x : FilePart) (method : Method) (b : BodyPart) where
  abbrev code : MethodCode
  code = code_meant w file x b

  abbrev all : List Step
  all = steps_of w.sources (ClassOf (exception_of w)) method code

  pub starts : (n : ℕ) → judgement.is_start all n ≡ is_among (starts_of b.code) n
  unfolding lines_of
  starts n = starts_law x.metadata w.size w.rows file b.code w.sources (ClassOf (exception_of w)) method code None (instructions_of b.code) (code_rows b.code) n

  pub ends : judgement.end_of all ≡ end_of b.code
  unfolding lines_of
  ends = end_law x.metadata w.size w.rows file b.code w.sources (ClassOf (exception_of w)) method code None (instructions_of b.code) (code_rows b.code)

  targets : first_broken (map (target_test w code all) code.lines) ≡ astray_test x.metadata w.size w.rows file b.code (first_astray b.code)
  unfolding lines_of
  targets = astray_law x.metadata w.size w.rows file b.code (classes_of w) code all starts (instructions_of b.code) (code_rows b.code)

  module _ (handled : List Bool) (handles : handled ≡ map (handles_well w file x) b.clauses) where
    abbrev wrong : Option ℕ
    wrong = first_wrong (clause_keeps handled b) 0 b.clauses

    clauses : first_broken (numbered (clause_test w all code.clauses) 0 code.clauses) ≡ wrong_test wrong
    clauses = clause_law w file x b all starts ends handled handles

    later : first_broken (tests_of w code all) ≡ told None (first_astray b.code) wrong
    later =
        append_law (map (target_test w code all) code.lines) (numbered (clause_test w all code.clauses) 0 code.clauses)
        ∙ ap (λ o. option_or o (first_broken (numbered (clause_test w all code.clauses) 0 code.clauses))) targets
        ∙ ap (option_or (option_map (λ at. test_at 43 at false) (first_astray b.code))) clauses

    by_fault : (o : Option CodeFault) → told o (first_astray b.code) wrong ≡ first_broken (walk_test o ∷ tests_of w code all)
    by_fault (Some fault) = refl
    by_fault None = sym later

    pub whole : (fault : Option CodeFault) (astray clause : Option ℕ) → fault ≡ code_fault b.code → astray ≡ first_astray b.code → clause ≡ wrong → told fault astray clause ≡ first_broken (tests_before w file x method b)
    whole fault astray clause f a c = ap (λ o. told fault o clause) a ∙ ap (told fault (first_astray b.code)) c ∙ by_fault fault ∙ ap (λ o. first_broken (walk_test o ∷ tests_of w code all)) f
