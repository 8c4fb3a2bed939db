-- What is known of the operand of an instruction is all that its effect asks of it.
use Rattle.std.proofs.Common.{◌≡◌, ℕ, ℤ, List, Option, Some, None, refl}
use Rattle.std.specs.Prelude.{slice_get}
use Rattle.cil_opcodes.specs.declared.shape.Operand.{Operand as Kind}
use Rattle.file_tables.specs.File.{FilePart}
use Rattle.machine.specs.Data.{Id}
use Rattle.classes.specs.Classes.{Classes, OwnField, SigType}
use Rattle.classes.specs.Code.{Operand as CodeOperand, OfField, OfMethod, OfType}
use Rattle.classes.specs.Listed.{field_of, method_of}
use Rattle.classes.specs.Queries.{array, field_at, fields_of}
use Rattle.classes.specs.Reading.{IsRead}
use Rattle.class_rules.specs.Rules.{Keeps}
use Rattle.cil_types.specs.Spelt.{AreSpelt}
use Rattle.verify_ops.specs.declared.facts.Operand.{Operand}
use Rattle.verify_ops.specs.declared.facts.FieldOperand.{FieldOperand}
use Rattle.verify_ops.specs.declared.facts.MethodOperand.{MethodOperand}
use Rattle.verify_ops.specs.Facts.{field_named, method_named}
use Rattle.ecma_effects.specs.Known.{Both, IsField, IsMethod, IsOperand}
use Rattle.ecma_effects.specs.Told.{TellsField, TellsMethod}
use Rattle.assemblies.specs.Rows.{Assembly, RawOperand, RawNothing, RawNumber, RawTargets, RawTypeOf, RawField, RawMethod, RawText}
use Rattle.assemblies.specs.Binding.{operand, operand_type, or_unresolved, resolve_field, resolve_method}
use Rattle.world_rows.specs.Lines.{raw_operand}
use Rattle.world_rows.specs.World.{assemblies_of, ecma_sources}
use Rattle.member_reading.specs.Meant.{scopes}
use Rattle.operand_facts.specs.Operands.{OperandTold, operand_of}
use Rattle.operand_facts.specs.Tells.{OperandFits, TellsOperand}
use Rattle.operand_facts.proofs.Known.{operand_known}
use Rattle.operand_laws.proofs.MemberLaws.{field_fits, method_fits, of_field, of_method}
use Rattle.operand_laws.proofs.TypeLaws.{type_fits}

-- what is told of both is what is asked
both_by : {A B : Type 0} (R S : A → B → Type 0) → ((a : A) (b : B) → R a b → S a b) → (o : Option A) (p : Option B) → Both R o p → Both S o p
both_by R S step None None h = tt
both_by R S step (Some a) (Some b) h = step a b h
both_by R S step None (Some b) h = absurd h
both_by R S step (Some a) None h = absurd h

module _ (files : List FilePart) where
  abbrev cs : Classes
  cs = (ecma_sources files).classes

  abbrev k : ℕ
  k = scopes files

  abbrev ps : List Assembly
  ps = assemblies_of files

  module _ (n : ℕ) (read : IsRead n cs) (keeps : Keeps n cs) (spelt : AreSpelt cs) (entry : (c : Id) (i : ℕ) (f : OwnField) → slice_get (fields_of cs c) i ≡ Some f → field_at cs f.id ≡ Some f) where
    module _ (file : ℕ) (f : FilePart) (here : slice_get files file ≡ Some f) where
      -- what an operand names fits (27)
      fits : (raw : RawOperand) → OperandFits cs (operand k ps file raw)
      fits RawNothing = tt
      fits (RawNumber n) = tt
      fits (RawTargets to) = tt
      fits (RawText units) = tt
      fits (RawTypeOf t) = by (operand_type k ps file t) (type_fits files spelt file f here t)
        where
          by : (o : Option SigType) → ((s : SigType) → o ≡ Some s → OperandFits cs (OfType s)) → OperandFits cs (or_unresolved OfType o)
          by None h = tt
          by (Some s) h = h s refl
      fits (RawField t) = by (resolve_field k ps file t) (of_field k ps (λ id. OperandFits cs (OfField id)) (field_fits n cs keeps entry) file t)
        where
          by : (o : Option Id) → ((id : Id) → o ≡ Some id → OperandFits cs (OfField id)) → OperandFits cs (or_unresolved OfField o)
          by None h = tt
          by (Some id) h = h id refl
      fits (RawMethod t) = by (resolve_method k ps file t) (of_method k ps (λ id. OperandFits cs (OfMethod id)) (method_fits n cs keeps read) file t)
        where
          by : (o : Option Id) → ((id : Id) → o ≡ Some id → OperandFits cs (OfMethod id)) → OperandFits cs (or_unresolved OfMethod o)
          by None h = tt
          by (Some id) h = h id refl

    -- what rows tell of a field and a method is what is asked of them
    module _ (fields : (id : Id) (f : FieldOperand) → TellsField cs id f → IsField cs id f) (methods : (id : Id) (m : MethodOperand) → TellsMethod cs id m → IsMethod cs id m) where
      asked : (o : CodeOperand) (known : Operand) → TellsOperand cs o known → IsOperand cs o known
      asked o known t =
          record {
            type = t.type;
            field = both_by (TellsField cs) (IsField cs) fields (field_of o) (field_named known) t.field;
            method = both_by (TellsMethod cs) (IsMethod cs) methods (method_of o) (method_named known) t.method;
            text = t.text;
            arrays = t.arrays;
          }

      pub operands_known : (file : ℕ) (f : FilePart) (code : List ℕ) (at next : ℕ) (kind : Kind) (n : ℤ) → slice_get files file ≡ Some f → (known : Operand) → OperandTold cs (array cs) (operand_of files file f code at next kind n) known → IsOperand cs (operand_of files file f code at next kind n) known
      operands_known file f code at next kind n here known told =
          let o = operand_of files file f code at next kind n in
          asked o known (operand_known cs spelt o known told (fits file f here (raw_operand f.metadata code at next kind n)))
