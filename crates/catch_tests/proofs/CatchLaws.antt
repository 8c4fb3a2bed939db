-- Classes that tokens name, and what a catch may take.
use Rattle.std.proofs.Common.{◌≡◌, ◌≢◌, ℕ, ◌+◌, ◌-◌, Bool, true, false, List, Option, Some, None, refl, sym, ap, ◌∙◌, arith}
use Rattle.std.specs.Prelude.{◌==◌, nat_eq, slice_get, unwrap_or, if◌then◌else◌}
use Rattle.std.specs.Option.{option_map}
use Rattle.std.proofs.lemmas.Bool.{ne_eqb}
use Rattle.plain_types.specs.declared.elem.Elem.TheVariants as elem
use Rattle.ecma_types.specs.declared.id.TypeId.{TypeId}
use Rattle.cil_code.specs.declared.clause.Clause.{Clause}
use Rattle.file_tables.specs.File.{FilePart}
use Rattle.machine.specs.Data.{Id}
use Rattle.machine.specs.Throw.{on_some}
use Rattle.classes.specs.Code.{CatchOf}
use Rattle.classes.specs.Queries.{basic, exception_class, is_sub, some_eq}
use Rattle.assemblies.specs.Rows.{RawFinally, RawOther, RawCatch}
use Rattle.assemblies.specs.Binding.{id_at, resolve, kind_with}
use Rattle.world_rows.specs.Tokens.{type_named}
use Rattle.world_rows.specs.Lines.{raw_kind}
use Rattle.world_rows.specs.World.{rows_alone, assemblies_of, size_of}
use Rattle.member_keys.specs.declared.keys.ClassId.{ClassId}
use Rattle.member_keys.specs.Seen.{class_seen}
use Rattle.type_names.specs.Resolved.{type_id, type_resolved}
use Rattle.class_table.specs.declared.rows.ClassTable.{ClassTable}
use Rattle.class_table.specs.Seen.{classes_seen}
use Rattle.class_table.specs.Whole.{IsTable}
use Rattle.class_table.proofs.TableLaws.{table_law}
use Rattle.code_rules.specs.Judgement.{catches_well}
use Rattle.verdict_rules.specs.World.{world_of, classes_of, exception_of}
use Rattle.code_tests.specs.Tests.{kind_meant}

pub class_back : (id : TypeId) (c : Id) (row : ℕ) → id ≡ type_id c → row ≡ id.row - 1 → Path Id (record { file = id.file; row = row }) c
class_back id c row e r =
    let less : c.row + 1 - 1 ≡ c.row = omega arith in
    ap (λ n. record { file = id.file; row = n }) r ∙ ap (λ (i : TypeId). record { file = i.file; row = i.row - 1 }) e ∙ ap (λ n. record { file = c.file; row = n }) less

pub no_row : (id : TypeId) (c : Id) → id ≡ type_id c → id.row ≡ 0 → ⊥
no_row id c e r = let same : id.row ≡ c.row + 1 = ap (λ (i : TypeId). i.row) e in omega (arith, same, r)

pub found : (o : Option Id) (id : TypeId) (r : Option ClassId) → Some id ≡ option_map type_id o → ((c : Id) → id ≡ type_id c → option_map class_seen r ≡ Some c) → option_map class_seen r ≡ o
found None id r e h = absurd cc
found (Some c) id r e h = let same : id ≡ type_id c = cc in h c same

pub lost : (o : Option Id) → None ≡ option_map type_id o → None ≡ o
lost None e = refl
lost (Some c) e = absurd cc

module _ (files : List FilePart) (t : ClassTable) (table : IsTable files t) (class : Id) (r : Bool) where
  pub object_law : (known : Option Id) → r ≡ some_eq (Some class) known → known ≡ basic (classes_seen t) elem.Object → r ≡ some_eq (Some class) (basic (classes_of (world_of files)) elem.Object)
  object_law known told same = told ∙ ap (some_eq (Some class)) same ∙ ap (λ cs. some_eq (Some class) (basic cs elem.Object)) (table_law files t table)

  pub exception_law : (exception : Id) → r ≡ is_sub (classes_seen t) class exception → exception ≡ exception_of (world_of files) → r ≡ is_sub (classes_of (world_of files)) class (exception_of (world_of files))
  exception_law exception told same = told ∙ ap (λ cs. is_sub cs class exception) (table_law files t table) ∙ ap (is_sub (classes_of (world_of files)) class) same

module _ (files : List FilePart) (file : ℕ) (x : FilePart) (c : Clause) (r : Bool) where
  pub catch_law : slice_get files file ≡ Some x → c.kind ≡ 0 → r ≡ catches_well (classes_of (world_of files)) (exception_of (world_of files)) (CatchOf (type_resolved files file c.token)) → r ≡ catches_well (classes_of (world_of files)) (exception_of (world_of files)) (kind_meant (world_of files) file x c)
  catch_law here zero told =
      told
      ∙ ap (λ o. catches_well (classes_of (world_of files)) (exception_of (world_of files)) (CatchOf (on_some o (λ f. resolve (size_of (rows_alone files)) (assemblies_of files) file (type_named f.metadata c.token))))) here
      ∙ ap (λ n. catches_well (classes_of (world_of files)) (exception_of (world_of files)) (kind_with (size_of (rows_alone files)) (assemblies_of files) file (raw_kind x.metadata n c.token))) (sym zero)

  pub other_law : c.kind ≢ 0 → r ≡ nat_eq c.kind 2 → r ≡ catches_well (classes_of (world_of files)) (exception_of (world_of files)) (kind_meant (world_of files) file x c)
  other_law apart told = told ∙ by (nat_eq c.kind 2) ∙ ap (λ t. catches_well (classes_of (world_of files)) (exception_of (world_of files)) (kind_with (size_of (rows_alone files)) (assemblies_of files) file (if t then RawCatch (type_named x.metadata c.token) else if c.kind == 2 then RawFinally else RawOther))) (sym (ne_eqb c.kind 0 apart))
    where
      by : (t : Bool) → t ≡ catches_well (classes_of (world_of files)) (exception_of (world_of files)) (kind_with (size_of (rows_alone files)) (assemblies_of files) file (if t then RawFinally else RawOther))
      by true = refl
      by false = refl

module _ (files : List FilePart) (t : ClassTable) (table : IsTable files t) where
  pub exception_there : (r : Option ClassId) (c : ClassId) → option_map class_seen r ≡ exception_class (classes_seen t) → r ≡ Some c → class_seen c ≡ exception_of (world_of files)
  exception_there r c told is = ap (λ o. unwrap_or (option_map class_seen o) (id_at 0 0)) (sym is) ∙ ap (λ o. unwrap_or o (id_at 0 0)) told ∙ ap (λ cs. unwrap_or (exception_class cs) (id_at 0 0)) (table_law files t table)

  pub no_exception : (r : Option ClassId) → option_map class_seen r ≡ exception_class (classes_seen t) → r ≡ None → id_at 0 0 ≡ exception_of (world_of files)
  no_exception r told is = ap (λ o. unwrap_or (option_map class_seen o) (id_at 0 0)) (sym is) ∙ ap (λ o. unwrap_or o (id_at 0 0)) told ∙ ap (λ cs. unwrap_or (exception_class cs) (id_at 0 0)) (table_law files t table)
