-- Which class is that of the fields and methods of no type.
use Rattle.std.proofs.Common.{◌≡◌, ◌∙◌, ℕ, Bool, true, false, [], Option, Some, None, refl, sym, ap}
use Rattle.std.specs.Prelude.{◌||◌, ◌&&◌, codes, is_some, not}
use Rattle.std.specs.Option.{option_map}
use Rattle.machine.specs.Texts.{same_text}
use Rattle.assemblies.specs.Binding.{id_at}
use Rattle.class_table.specs.declared.rows.ClassRow.{ClassRow}
use Rattle.class_table.specs.declared.rows.FileRows.{FileRows}
use Rattle.class_table.specs.Seen.{row_seen}
use Rattle.class_rules.specs.Rules.{is_module}

pub or_true : (b : Bool) → (b || true) ≡ true
or_true true = refl
or_true false = refl

pub or_false : (b : Bool) → (b || false) ≡ b
or_false true = refl
or_false false = refl

and_true : (a b : Bool) → (a && b) ≡ (a && (b && true))
and_true true true = refl
and_true true false = refl
and_true false b = refl

and_false : (a b : Bool) → false ≡ (a && (b && false))
and_false true true = refl
and_false true false = refl
and_false false b = refl

-- the class of the fields and methods that belong to no type is in no type
module _ (file : ℕ) (f : FileRows) (r : ClassRow) where
  module_by : (o : Option ℕ) → r.enclosing ≡ o → is_module (row_seen file f r) ≡ (same_text r.namespace.now [] && (same_text r.name.now (codes "<Module>") && not (is_some (option_map (id_at file) o))))
  module_by o e = ap (λ o. same_text r.namespace.now [] && (same_text r.name.now (codes "<Module>") && not (is_some (option_map (id_at file) o)))) e

  pub module_top : r.enclosing ≡ None → (same_text r.namespace.now [] && same_text r.name.now (codes "<Module>")) ≡ is_module (row_seen file f r)
  module_top e = and_true (same_text r.namespace.now []) (same_text r.name.now (codes "<Module>")) ∙ sym (module_by None e)

  pub module_nested : (n : ℕ) → r.enclosing ≡ Some n → false ≡ is_module (row_seen file f r)
  module_nested n e = and_false (same_text r.namespace.now []) (same_text r.name.now (codes "<Module>")) ∙ sym (module_by (Some n) e)
