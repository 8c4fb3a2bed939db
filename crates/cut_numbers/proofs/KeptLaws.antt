-- The signatures of kept rows are small where few rows are kept of the tables that types are named in.
use Rattle.std.proofs.Common.{◌≡◌, ◌∙◌, ℕ, true, List, map, length, Option, Some, None, sym, ap}
use Rattle.std.specs.Prelude.{slice_get}
use Rattle.std.specs.Option.{option_map}
use Rattle.std.proofs.lemmas.Option.{slice_get-map}
use Rattle.assemblies.specs.Rows.{RawCode, FieldRefRow, MethodRefRow, FieldRow, MethodRow, Assembly}
use Rattle.assemblies.specs.Chosen.{Choice, raw_to, field_ref_to, method_ref_to, field_row_to, code_to, method_row_to, chosen}
use Rattle.assemblies.specs.Closed.{Each}
use Rattle.kept_closure.specs.Named.{InOption, InType, InCode}
use Rattle.kept_closure.specs.Kept.{HasType, HasMethod, HasField, HasNamed}
use Rattle.image_form.specs.Form.{Manner}
use Rattle.image_form.specs.Whole.{Methods}
use Rattle.chosen_image.specs.Spells.{chosen_method, chosen_methods}
use Rattle.fitting_parts.specs.Small.{IsSmall, RawIsSmall, SignatureIsSmall}
use Rattle.fitting_parts.specs.Kept.{AreThere}
use Rattle.fitting_parts.proofs.TokenLaws.{TypesAreFew, each_to, mapped_small, raw_small, signature_small}
use Rattle.fitting_parts.proofs.KeptLaws.{each_at, each_chosen, each_from_first}
use Rattle.cut_numbers.proofs.ColumnLaws.{LocalsSmall, MethodSignaturesSmall, SignaturesSmall}

abbrev pub FewLocals : RawCode → Type 0
FewLocals c = IsSmall (length c.locals)

-- what signatures count
pub record MethodCountsSmall (m : MethodRow) : Type 0 where
  pub parameters : IsSmall (length m.signature.parameters)
  pub locals : InOption FewLocals m.code

module _ (ps : List Assembly) (keep : ℕ → Choice) (f : ℕ) (p : Assembly) (ms : Methods) (at : slice_get ps f ≡ Some p) (named : HasNamed ps keep) (same : map (λ (x : Manner × MethodRow). x.1) ms ≡ p.methods) (there : AreThere (keep f) p) (few : TypesAreFew (keep f) p) (refs : Each (λ (r : MethodRefRow). IsSmall (length r.signature.parameters)) p.method_refs) (methods : Each MethodCountsSmall p.methods) where
  abbrev k : Choice
  k = keep f

  locals_small : (place : ℕ → ℕ) (o : Option RawCode) → InOption (InCode (HasType (keep f)) (HasType (keep f)) (HasMethod (keep f)) (HasField (keep f))) o → InOption FewLocals o → InOption LocalsSmall (option_map (code_to (keep f) place) o)
  locals_small place None h count = tt
  locals_small place (Some c) h count =
      record {
        tokens = each_to (InType (HasType (keep f))) RawIsSmall (raw_to (keep f)) (raw_small k p there few) c.locals h.0;
        count = mapped_small (raw_to (keep f)) c.locals count;
      }

  method_small : (n : ℕ) (x : Manner × MethodRow) → slice_get ms n ≡ Some x → k.methods n ≡ true → MethodSignaturesSmall (method_row_to k n x.1)
  method_small n x row e =
      let own : slice_get p.methods n ≡ Some x.1 = ap (λ ys. slice_get ys n) (sym same) ∙ slice_get-map (λ (x : Manner × MethodRow). x.1) ms n ∙ ap (option_map (λ (x : Manner × MethodRow). x.1)) row in
      let h = named.methods f n p x.1 (at, own) e in
      let counts = each_at MethodCountsSmall p.methods n x.1 methods own in
      record { signature = signature_small k p there few x.1.signature h.0 counts.parameters; locals = locals_small (k.short n) x.1.code h.1 counts.locals }

  pub kept_signatures : SignaturesSmall (chosen (keep f) p) (chosen_methods (keep f) ms)
  kept_signatures =
      record {
        field_refs = each_chosen (λ (r : FieldRefRow). RawIsSmall r.signature) (field_ref_to k) k.field_refs p.field_refs (λ n r row e. raw_small k p there few r.signature (named.field_refs f n p r (at, row) e).1);
        method_refs =
            each_chosen (λ (r : MethodRefRow). SignatureIsSmall r.signature) (method_ref_to k) k.method_refs p.method_refs
            (λ n r row e. signature_small k p there few r.signature (named.method_refs f n p r (at, row) e).1 (each_at (λ (r : MethodRefRow). IsSmall (length r.signature.parameters)) p.method_refs n r refs row));
        fields = each_chosen (λ (r : FieldRow). RawIsSmall r.signature) (field_row_to k) k.fields p.fields (λ n r row e. raw_small k p there few r.signature (named.fields f n p r (at, row) e));
        methods = each_from_first (λ (x : Manner × MethodRow). MethodSignaturesSmall x.1) (chosen_method k) k.methods ms method_small;
        specs = each_chosen RawIsSmall (raw_to k) k.specs p.specs (λ n s row e. raw_small k p there few s (named.specs f n p s (at, row) e));
      }
