-- What the clauses of a file say of offsets, whatever their tokens name.
use Rattle.std.proofs.Common.{◌≡◌, ℕ, Bool, true, false, List, [], ◌∷◌, map, None, refl, ap, ◌∙◌}
use Rattle.std.specs.Prelude.{◌&&◌, ◌||◌, ◌==◌, nat_eq, not, if◌then◌else◌}
use Rattle.std.specs.List.{list_all, list_any}
use Rattle.cil_code.specs.declared.clause.Clause.{Clause}
use Rattle.file_tables.specs.File.{FilePart}
use Rattle.classes.specs.Code.{CodeClause, CatchOf, Finally, OtherKind}
use Rattle.classes.specs.Listed.{in_try, in_handler, is_catch_kind, is_finally_kind}
use Rattle.classes.specs.Clauses as lie
use Rattle.assemblies.specs.Rows.{RawFinally, RawOther, RawCatch}
use Rattle.assemblies.specs.Binding.{kind_with}
use Rattle.world_rows.specs.Tokens.{type_named}
use Rattle.verdict_rules.specs.World.{World}
use Rattle.code_places.specs.Clauses.{clause_seen}
use Rattle.code_tests.specs.Tests.{clause_meant, kind_meant, clauses_meant}

module _ (w : World) (file : ℕ) (x : FilePart) where
  catches : (c : Clause) → is_catch_kind (kind_meant w file x c) ≡ is_catch_kind (clause_seen c).kind
  catches c = by (c.kind == 0) (c.kind == 2)
    where
      by : (a b : Bool) → is_catch_kind (kind_with w.size w.rows file (if a then RawCatch (type_named x.metadata c.token) else if b then RawFinally else RawOther)) ≡ is_catch_kind (if a then CatchOf None else if b then Finally else OtherKind)
      by true b = refl
      by false true = refl
      by false false = refl

  finals : (c : Clause) → is_finally_kind (kind_meant w file x c) ≡ is_finally_kind (clause_seen c).kind
  finals c = by (c.kind == 0) (c.kind == 2)
    where
      by : (a b : Bool) → is_finally_kind (kind_with w.size w.rows file (if a then RawCatch (type_named x.metadata c.token) else if b then RawFinally else RawOther)) ≡ is_finally_kind (if a then CatchOf None else if b then Finally else OtherKind)
      by true b = refl
      by false true = refl
      by false false = refl

  all_alike : (test : CodeClause → Bool) → ((c : Clause) → test (clause_meant w file x c) ≡ test (clause_seen c)) → (cs : List Clause) → list_all test (clauses_meant w file x cs) ≡ list_all test (map clause_seen cs)
  all_alike test same [] = refl
  all_alike test same (c ∷ cs) = ap (λ b. b && list_all test (clauses_meant w file x cs)) (same c) ∙ ap (λ b. test (clause_seen c) && b) (all_alike test same cs)

  any_alike : (test : CodeClause → Bool) → ((c : Clause) → test (clause_meant w file x c) ≡ test (clause_seen c)) → (cs : List Clause) → list_any test (clauses_meant w file x cs) ≡ list_any test (map clause_seen cs)
  any_alike test same [] = refl
  any_alike test same (c ∷ cs) = ap (λ b. b || list_any test (clauses_meant w file x cs)) (same c) ∙ ap (λ b. test (clause_seen c) || b) (any_alike test same cs)

  pub goes_alike : (cs : List Clause) (from to : ℕ) → lie.may_go (clauses_meant w file x cs) from to ≡ lie.may_go (map clause_seen cs) from to
  goes_alike cs from to = all_alike (lie.clause_keeps from to) (λ c. refl) cs

  pub caught_alike : (cs : List Clause) (at : ℕ) → lie.stands_in_catch (clauses_meant w file x cs) at ≡ lie.stands_in_catch (map clause_seen cs) at
  caught_alike cs at = any_alike (λ c. is_catch_kind c.kind && in_handler c at) (λ c. ap (λ b. b && in_handler (clause_seen c) at) (catches c)) cs

  pub final_alike : (cs : List Clause) (at : ℕ) → lie.stands_in_finally (clauses_meant w file x cs) at ≡ lie.stands_in_finally (map clause_seen cs) at
  final_alike cs at = any_alike (λ c. is_finally_kind c.kind && in_handler c at) (λ c. ap (λ b. b && in_handler (clause_seen c) at) (finals c)) cs

  pub none_alike : (cs : List Clause) (at : ℕ) → lie.stands_in_none (clauses_meant w file x cs) at ≡ lie.stands_in_none (map clause_seen cs) at
  none_alike cs at = all_alike (λ c. not (in_try c at) && not (in_handler c at)) (λ c. refl) cs

  pub leaves_alike : (cs : List Clause) (from to : ℕ) → lie.may_leave (clauses_meant w file x cs) from to ≡ lie.may_leave (map clause_seen cs) from to
  leaves_alike cs from to =
      ap (λ b. (b || lie.stands_in_catch (clauses_meant w file x cs) from) && list_all (lie.clause_lets from to) (clauses_meant w file x cs)) (any_alike (λ c. in_try c from) (λ c. refl) cs)
      ∙ ap (λ b. (lie.stands_in_try (map clause_seen cs) from || b) && list_all (lie.clause_lets from to) (clauses_meant w file x cs)) (caught_alike cs from)
      ∙ ap (λ b. (lie.stands_in_try (map clause_seen cs) from || lie.stands_in_catch (map clause_seen cs) from) && b) (all_alike (lie.clause_lets from to) lets cs)
    where
      lets : (c : Clause) → lie.clause_lets from to (clause_meant w file x c) ≡ lie.clause_lets from to (clause_seen c)
      lets c = ap (λ b. lie.is_kept_or_left false (in_try (clause_seen c) from) (in_try (clause_seen c) to) (nat_eq c.try_start to) && lie.is_kept_or_left b (in_handler (clause_seen c) from) (in_handler (clause_seen c) to) false) (finals c)

  pub tries_alike : (cs : List Clause) (at : ℕ) → list_any (λ c. nat_eq c.try_start at) (clauses_meant w file x cs) ≡ list_any (λ (c : Clause). nat_eq c.try_start at) cs
  tries_alike [] at = refl
  tries_alike (c ∷ cs) at = ap (λ b. nat_eq c.try_start at || b) (tries_alike cs at)
