-- What is known of an operand tells what the operand names.
use Rattle.std.specs.Prelude.{◌≡◌, true, Some, is_some}
use Rattle.std.specs.Option.{option_map}
use Rattle.ecma_types.specs.declared.stack.PlaceType.{PlaceType as WorldPlace}
use Rattle.classes.specs.Classes.{Classes}
use Rattle.classes.specs.Code.{Operand as CodeOperand, OfType, OfField, OfMethod}
use Rattle.classes.specs.Listed.{type_of_operand, field_of, method_of, text_of}
use Rattle.classes.specs.Queries.{field_at, method_at, type_of as type_in}
use Rattle.class_rules.specs.Rules.{field_signature_fits, holds_some, method_signature_fits}
use Rattle.cil_types.specs.Spelt.{type_spelt}
use Rattle.place_types.specs.Held.{has_arrays}
use Rattle.place_types.specs.Types.{type_of, type_up}
use Rattle.verify_ops.specs.declared.facts.Operand.{Operand}
use Rattle.verify_ops.specs.Facts.{type_named, field_named, method_named, names_text}
use Rattle.ecma_effects.specs.Known.{Both}
use Rattle.ecma_effects.specs.Told.{TellsField, TellsMethod}
use Rattle.method_facts.specs.Places.{type_to}

pub record TellsOperand (cs : Classes) (o : CodeOperand) (p : Operand) : Type 0 where
  pub type : option_map type_of (type_named p) ≡ option_map type_up (type_of_operand cs o)
  pub field : Both (TellsField cs) (field_of o) (field_named p)
  pub method : Both (TellsMethod cs) (method_of o) (method_named p)
  pub text : names_text p ≡ is_some (text_of o)
  pub arrays : (t : WorldPlace) → type_named p ≡ Some t → has_arrays t ≡ true

-- the type that an operand names is spelt, and so are its arrays (27: a signature has at most 255 brackets); the member that it names
-- is one of a class's (II.22.37), with a signature that fits (27)
abbrev pub OperandFits : Classes → CodeOperand → Type 0
OperandFits cs (OfType s) = (type_spelt (type_in cs s) ≡ true) × (has_arrays (type_to (type_in cs s)) ≡ true)
OperandFits cs (OfField id) = holds_some (field_at cs id) (field_signature_fits cs) ≡ true
OperandFits cs (OfMethod id) = holds_some (cs.method_owner id) (λ owner. holds_some (method_at cs id) (method_signature_fits cs owner)) ≡ true
OperandFits cs _ = Unit {0}
