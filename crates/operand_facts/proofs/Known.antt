-- What is known of operands tells what they name.
use Rattle.std.proofs.Common.{◌≡◌, inl, inr, Bool, true, false, Option, Some, None, refl, sym, ap, ◌∙◌, subst}
use Rattle.std.specs.Prelude.{is_some}
use Rattle.machine.specs.Data.{Id}
use Rattle.classes.specs.Classes.{Classes, OwnField, OwnMethod, SigType}
use Rattle.classes.specs.Code.{Operand as CodeOperand, NoOperand, Number, Targets, OfType, OfField, OfMethod, OfText, Unresolved}
use Rattle.classes.specs.Queries.{array, field_at, method_at, type_of as type_in}
use Rattle.class_rules.specs.Rules.{field_signature_fits, holds_some, method_signature_fits}
use Rattle.cil_types.specs.Spelt.{AreSpelt}
use Rattle.place_types.specs.Held.{has_arrays}
use Rattle.verify_ops.specs.declared.facts.Operand.{Operand}
use Rattle.verify_ops.specs.declared.facts.Operand.TheVariants as known
use Rattle.verify_ops.specs.declared.facts.FieldOperand.{FieldOperand}
use Rattle.verify_ops.specs.declared.facts.MethodOperand.{MethodOperand}
use Rattle.method_facts.specs.Places.{type_to}
use Rattle.method_facts.specs.Members.{FieldTold, MethodTold}
use Rattle.method_facts.proofs.Tells.{field_told, method_told, type_told}
use Rattle.operand_facts.specs.Operands.{OperandTold, field_or_none, method_or_none}
use Rattle.operand_facts.specs.Tells.{OperandFits, TellsOperand}

signed : {A : Type 0} (o : Option A) (test : A → Bool) → holds_some o test ≡ true → is_some o ≡ true
signed None test h = absurd (cc h)
signed (Some x) test h = refl

module _ (cs : Classes) (spelt : AreSpelt cs) where
  field_signed : (o : Option OwnField) → holds_some o (field_signature_fits cs) ≡ true → holds_some o (λ f. is_some f.signature) ≡ false → ⊥
  field_signed None h n = cc h
  field_signed (Some f) h n = let there = signed f.signature _ h in cc (sym there ∙ n)

  method_signed : (c : Id) (o : Option OwnMethod) → holds_some o (method_signature_fits cs c) ≡ true → holds_some o (λ m. is_some m.signature) ≡ false → ⊥
  method_signed c None h n = cc h
  method_signed c (Some m) h n = let there = signed m.signature _ h in cc (sym there ∙ n)

  method_there : (id : Id) (o : Option Id) → holds_some o (λ owner. holds_some (method_at cs id) (method_signature_fits cs owner)) ≡ true → holds_some (method_at cs id) (λ m. is_some m.signature) ≡ false → ⊥
  method_there id None h n = cc h
  method_there id (Some c) h n = method_signed c (method_at cs id) h n

  type_known : (s : SigType) → OperandFits cs (OfType s) → TellsOperand cs (OfType s) (known.OfType (type_to (type_in cs s)))
  type_known s h =
      record {
        type = ap Some (type_told (type_in cs s) h.0);
        field = tt;
        method = tt;
        text = refl;
        arrays = λ t e. let same : type_to (type_in cs s) ≡ t = cc e in subst (λ t. has_arrays t ≡ true) same h.1;
      }

  field_known : (id : Id) → OperandFits cs (OfField id) → (o : Option FieldOperand) → FieldTold cs id o → TellsOperand cs (OfField id) (field_or_none o)
  field_known id h None told = absurd (field_signed (field_at cs id) h told)
  field_known id h (Some f) told =
      record {
        type = refl;
        field = field_told cs spelt id f told (sym (ap (λ o. holds_some o (field_signature_fits cs)) told.own_is) ∙ h);
        method = tt;
        text = refl;
        arrays = λ t e. absurd (cc e);
      }

  method_known : (id : Id) → OperandFits cs (OfMethod id) → (o : Option MethodOperand) → MethodTold cs (array cs) id o → TellsOperand cs (OfMethod id) (method_or_none o)
  method_known id h None told = absurd (method_there id (cs.method_owner id) h told)
  method_known id h (Some m) told =
      record {
        type = refl;
        field = tt;
        method = method_told cs spelt id m told fits;
        text = refl;
        arrays = λ t e. absurd (cc e);
      }
    where
      fits : method_signature_fits cs told.owner told.own ≡ true
      fits =
          sym (ap (λ o. holds_some o (method_signature_fits cs told.owner)) told.own_is)
          ∙ (sym (ap (λ o. holds_some o (λ owner. holds_some (method_at cs id) (method_signature_fits cs owner))) told.owner_is) ∙ h)

  pub operand_known : (o : CodeOperand) (p : Operand) → OperandTold cs (array cs) o p → OperandFits cs o → TellsOperand cs o p
  operand_known NoOperand p (inl e) h = subst (TellsOperand cs NoOperand) (sym e) (record { type = refl; field = tt; method = tt; text = refl; arrays = λ t e. absurd (cc e) })
  operand_known NoOperand p (inr e) h = subst (TellsOperand cs NoOperand) (sym e) (record { type = refl; field = tt; method = tt; text = refl; arrays = λ t e. absurd (cc e) })
  operand_known (Number n) p e h = subst (TellsOperand cs (Number n)) (sym e) (record { type = refl; field = tt; method = tt; text = refl; arrays = λ t e. absurd (cc e) })
  operand_known (Targets to) p e h = subst (TellsOperand cs (Targets to)) (sym e) (record { type = refl; field = tt; method = tt; text = refl; arrays = λ t e. absurd (cc e) })
  operand_known (OfType s) p e h = subst (TellsOperand cs (OfType s)) (sym e) (type_known s h)
  operand_known (OfField id) p e h = subst (TellsOperand cs (OfField id)) (sym e.2) (field_known id h e.0 e.1)
  operand_known (OfMethod id) p e h = subst (TellsOperand cs (OfMethod id)) (sym e.2) (method_known id h e.0 e.1)
  operand_known (OfText units) p e h = subst (TellsOperand cs (OfText units)) (sym e) (record { type = refl; field = tt; method = tt; text = refl; arrays = λ t e. absurd (cc e) })
  operand_known Unresolved p e h = subst (TellsOperand cs Unresolved) (sym e) (record { type = refl; field = tt; method = tt; text = refl; arrays = λ t e. absurd (cc e) })
