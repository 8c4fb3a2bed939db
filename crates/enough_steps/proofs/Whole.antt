-- A set in which ways end is read alike in as many steps as it has rows.
use Rattle.std.proofs.Common.{◌≡◌, ◌⊎◌, inl, inr, ℕ, ◌+◌, ◌<◌, ◌≤◌, true, List, [], ◌++◌, Option, Some, None, refl, sym, ap, ◌∙◌, subst, arith}
use Rattle.std.specs.Prelude.{slice_get, unwrap_or}
use Rattle.std.specs.Option.{option_map}
use Rattle.std.proofs.Math.Path.{fun_ext}
use Rattle.machine.specs.Data.{Id}
use Rattle.machine.specs.Throw.{on_some}
use Rattle.classes.specs.Classes.{Class, Classes}
use Rattle.classes.specs.Code.{MethodCode, Sources}
use Rattle.classes.specs.Listed.{program_of}
use Rattle.classes.specs.Queries.{listed, ends, above, parents, enclosing_of, find_method, find_field}
use Rattle.assemblies.specs.Rows.{Assembly}
use Rattle.assemblies.specs.Binding.{id_at, resolve_ref, class_with, classes_of, code_of, entry_from, sources_of}
use Rattle.assemblies.specs.Closed.{Each}
use Rattle.assemblies.proofs.Binds.{on_some_back, map_back}
use Rattle.world_rows.specs.World.{type_count, size_of}
use Rattle.enough_steps.specs.Ended.{WaysEnd}
use Rattle.enough_steps.proofs.Rounds.{Same, enough}
use Rattle.enough_steps.proofs.Nodes.{ids, of_id, type_ids}
use Rattle.enough_steps.proofs.References.{same_references}
use Rattle.enough_steps.proofs.Rows.{sized, classes_same}
use Rattle.enough_steps.proofs.Programs.{method_found, field_found, program_same}
use Rattle.enough_steps.proofs.Members.{code_same}

module _ (m : ℕ) (ps : List Assembly) (some : 0 < type_count ps) (room : size_of ps ≤ m) (ways : WaysEnd m ps) where
  abbrev k : ℕ
  k = size_of ps

  abbrev cs : Classes
  cs = classes_of m ps

  abbrev nodes : List Id
  nodes = ids (λ (p : Assembly). p.types) 0 ps

  -- a way on from a type that is there
  module _ (on : Class → List Id) where
    abbrev next : Id → List Id
    next c = unwrap_or (option_map on (cs.class c)) []

    outside : (c : Id) → (next c ≡ []) ⊎ ((n : ℕ) → Each (Same next n) nodes → Same next n c)
    outside c = by (cs.class c) refl
      where
        by : (o : Option Class) → cs.class c ≡ o → (next c ≡ []) ⊎ ((n : ℕ) → Each (Same next n) nodes → Same next n c)
        by None e = inl (ap (λ o. unwrap_or (option_map on o) []) e)
        by (Some z) e =
            let p = on_some_back (slice_get ps c.file) (λ (p : Assembly). option_map (class_with m ps c.file p) (slice_get p.types c.row)) z e in
            let t = map_back (class_with m ps c.file p.0) (slice_get p.0.types c.row) z p.2 in
            inr (λ n h. let same : 0 + c.file ≡ c.file = omega arith in subst (λ f. Same next n (id_at f c.row)) same (of_id (λ (q : Assembly). q.types) (Same next n) 0 ps h c.file c.row p.0 t.0 p.1 t.1))

    ended : ((c : Id) → ends m next c ≡ true) → (c : Id) → ends k next c ≡ true
    ended h c =
        let count = type_ids 0 ps in
        enough next nodes outside k m c (omega (arith, count, some)) (omega (arith, count, some, room)) ∙ h c

  -- ---- ways as they are told

  above_told : above cs ≡ next (λ z. listed z.superclass)
  above_told = fun_ext (λ c. by (cs.class c))
    where
      by : (o : Option Class) → listed (on_some o (λ z. z.superclass)) ≡ unwrap_or (option_map (λ (z : Class). listed z.superclass) o) []
      by None = refl
      by (Some z) = refl

  parents_told : parents cs ≡ next (λ z. listed z.superclass ++ z.interfaces)
  parents_told = fun_ext (λ c. by (cs.class c))
    where
      by : (o : Option Class) → listed (on_some o (λ z. z.superclass)) ++ unwrap_or (option_map (λ (z : Class). z.interfaces) o) [] ≡ unwrap_or (option_map (λ (z : Class). listed z.superclass ++ z.interfaces) o) []
      by None = refl
      by (Some z) = refl

  abbrev outer : Id → List Id
  outer d = listed (enclosing_of cs d)

  outer_told : outer ≡ next (λ z. listed z.enclosing)
  outer_told = fun_ext (λ c. by (cs.class c))
    where
      by : (o : Option Class) → listed (on_some o (λ z. z.enclosing)) ≡ unwrap_or (option_map (λ (z : Class). listed z.enclosing) o) []
      by None = refl
      by (Some z) = refl

  told_ended : (way : Id → List Id) (on : Class → List Id) → way ≡ next on → ((c : Id) → ends m way c ≡ true) → (c : Id) → ends k way c ≡ true
  told_ended way on e h c = ap (λ w. ends k w c) e ∙ ended on (λ d. sym (ap (λ w. ends m w d) e) ∙ h d) c

  ups : (c : Id) → ends k (above cs) c ≡ true
  ups = told_ended (above cs) (λ z. listed z.superclass) above_told ways.ups

  upwards : (c : Id) → ends k (parents cs) c ≡ true
  upwards = told_ended (parents cs) (λ z. listed z.superclass ++ z.interfaces) parents_told ways.parents

  outers : (c : Id) → ends k outer c ≡ true
  outers = told_ended outer (λ z. listed z.enclosing) outer_told ways.outers

  -- ---- the same sources, but for the number of steps

  names : (f n : ℕ) → resolve_ref k ps f n ≡ resolve_ref m ps f n
  names = same_references ps k m (omega (arith, some)) room

  pub classes : classes_of (size_of ps) ps ≡ sized (size_of ps) (classes_of m ps)
  classes = classes_same k m ps names

  pub code : code_of (size_of ps) ps ≡ code_of m ps
  code = code_same k m ps names (ap find_method classes ∙ method_found cs k room ups upwards outers) (ap find_field classes ∙ field_found cs k room ups upwards outers)

  sources : sources_of k ps ≡ record { classes = sized k cs; code = code_of m ps; entry = entry_from 0 ps }
  sources =
      let make : Classes → (Id → Option MethodCode) → Sources = λ z c. record { classes = z; code = c; entry = entry_from 0 ps } in
      ap (λ z. make z (code_of k ps)) classes ∙ ap (make (sized k cs)) code

  pub program : program_of (sources_of (size_of ps) ps) ≡ program_of (sources_of m ps)
  program = ap program_of sources ∙ program_same cs k room ups upwards outers (code_of m ps) (entry_from 0 ps)
