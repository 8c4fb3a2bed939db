-- How handlers begin.
use Rattle.std.proofs.Common.{◌≡◌, ℕ, Bool, true, false, List, [], ◌∷◌, Option, Some, None, refl, sym, ap, ◌∙◌}
use Rattle.std.specs.Prelude.{◌==◌, nat_eq, slice_get, if◌then◌else◌}
use Rattle.std.specs.Option.{option_map}
use Rattle.std.proofs.lemmas.Bool.{ne_eqb}
use Rattle.ecma_types.specs.declared.stack.StackType.TheVariants as world
use Rattle.file_tables.specs.File.{FilePart}
use Rattle.cil_code.specs.declared.clause.Clause.{Clause}
use Rattle.machine.specs.Data.{Id, CliType}
use Rattle.machine.specs.Throw.{on_some}
use Rattle.machine_typed.specs.Typing.{O}
use Rattle.classes.specs.Classes.{Classes}
use Rattle.classes.specs.Code.{CatchOf}
use Rattle.classes.specs.Queries.{type_of_class}
use Rattle.assemblies.specs.Rows.{RawFinally, RawOther, RawCatch}
use Rattle.assemblies.specs.Binding.{kind_with, resolve}
use Rattle.world_rows.specs.Tokens.{type_named}
use Rattle.world_rows.specs.Lines.{raw_kind}
use Rattle.world_rows.specs.World.{assemblies_of, ecma_sources, rows_alone, size_of}
use Rattle.type_names.specs.Resolved.{type_id, type_resolved}
use Rattle.cil_types.specs.Spelt.{AreSpelt, type_spelt}
use Rattle.cil_types.proofs.SpellLaws.{class_spelt}
use Rattle.method_facts.specs.Places.{type_to}
use Rattle.method_facts.proofs.Tells.{type_told}
use Rattle.code_rules.specs.Verdict.{begun_by}
use Rattle.verdict_rules.specs.World.{world_of}
use Rattle.code_tests.specs.Tests.{kind_meant}
use Rattle.pass_steps.specs.Seen.{stack_seen, type_seen}
use Rattle.pass_steps.proofs.SeenLaws.{type_back}

pub lost : (o : Option Id) → None ≡ option_map type_id o → None ≡ o
lost None e = refl
lost (Some c) e = absurd (cc e)

-- a reference to a type with rows from 1, read with rows from 0
pub reference_seen : (t : CliType) → type_spelt t ≡ true → stack_seen (world.O (type_to t)) ≡ O t
reference_seen t h = ap O (ap type_seen (type_told t h) ∙ type_back t)

pub class_begins : (cs : Classes) → AreSpelt cs → (c : Id) → Some (stack_seen (world.O (type_to (type_of_class cs c))) ∷ []) ≡ Some (begun_by cs (CatchOf (Some c)))
class_begins cs spelt c = ap (λ t. Some (t ∷ [])) (reference_seen (type_of_class cs c) (class_spelt cs spelt c))

module _ (files : List FilePart) (file : ℕ) (x : FilePart) (c : Clause) where
  abbrev cs : Classes
  cs = (ecma_sources files).classes

  -- a catch takes what its token names
  pub catch_is : slice_get files file ≡ Some x → c.kind ≡ 0 → begun_by cs (CatchOf (type_resolved files file c.token)) ≡ begun_by cs (kind_meant (world_of files) file x c)
  catch_is here zero =
      ap (λ o. begun_by cs (CatchOf (on_some o (λ f. resolve (size_of (rows_alone files)) (assemblies_of files) file (type_named f.metadata c.token))))) here
      ∙ ap (λ n. begun_by cs (kind_with (size_of (rows_alone files)) (assemblies_of files) file (raw_kind x.metadata n c.token))) (sym zero)

  -- no other clause takes any
  pub other_is : (c.kind ≡ 0 → ⊥) → [] ≡ begun_by cs (kind_meant (world_of files) file x c)
  other_is apart =
      by (nat_eq c.kind 2)
      ∙ ap (λ t. begun_by cs (kind_with (size_of (rows_alone files)) (assemblies_of files) file (if t then RawCatch (type_named x.metadata c.token) else if c.kind == 2 then RawFinally else RawOther))) (sym (ne_eqb c.kind 0 apart))
    where
      by : (t : Bool) → [] ≡ begun_by cs (kind_with (size_of (rows_alone files)) (assemblies_of files) file (if t then RawFinally else RawOther))
      by true = refl
      by false = refl
