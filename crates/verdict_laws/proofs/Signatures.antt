-- Rule 27 kept: each type of a signature is there, and of its kind.
use Rattle.std.proofs.Common.{◌≡◌, ℕ, suc, Bool, true, false, List, [], ◌∷◌, map, Option, Some, None, refl, sym, ap, ◌∙◌, cond}
use Rattle.std.specs.Prelude.{if◌then◌else◌, ◌&&◌, ◌||◌, ◌==◌, Ok, Err}
use Rattle.std.specs.List.{list_all, filter_map, cons_option}
use Rattle.std.specs.Option.{option_map}
use Rattle.std.proofs.lemmas.Bool.{and_from}
use Rattle.file_tables.specs.Metadata.{MetadataPart}
use Rattle.file_tables.specs.File.{FilePart}
use Rattle.cil_sig.specs.declared.places.Position.TheVariants as positions
use Rattle.cil_sig.specs.declared.sig.SigType.{SigType}
use Rattle.cil_sig.specs.Reading.{Part, whole_field, whole_method, whole_locals}
use Rattle.machine.specs.Data.{Id}
use Rattle.classes.specs.Classes.{SigType as NamedType}
use Rattle.classes.specs.Classes.{SigPlace, Direct, ByRef, Signature, Classes, OwnField}
use Rattle.class_rules.specs.Rules.{holds_some, sig_fits, sig_of_place, is_handle, result_fits, signature_fits, field_signature_fits}
use Rattle.class_rules.proofs.Kept.{holds_inv}
use Rattle.assemblies.specs.Rows.{RawDirect, RawByRef, Assembly}
use Rattle.assemblies.specs.Binding.{numbered, both_some, all_some, expanded, expanded_place, expanded_result, expanded_signature}
use Rattle.world_rows.specs.Signatures.{raw_type, raw_place, raw_result, is_void, signature_from, locals_from, method_signature, locals_signature}
use Rattle.world_rows.specs.World.{size_of, rows_alone, assemblies_of, ecma_sources}
use Rattle.verdict_rules.specs.Order.{unless_at}
use Rattle.verdict_rules.specs.World.{World, world_of, field_row}
use Rattle.verdict_rules.specs.Members.{Spelling, spelling, in_locals, first_wrong, wrong_at, type_fits, place_fits, method_place_fits, method_wrong, own_field_fits, field_wrong, locals_wrong}

pub none_wrong : (rule : ℕ) (o : Option ℕ) → (unless_at rule o).is_kept ≡ true → o ≡ None
none_wrong rule None e = refl
none_wrong rule (Some n) e = absurd (cc e)

well_formed : {A : Type 0} (blob : List ℕ) (p : Part A) (types : A → List Spelling) (fits : Spelling → Bool) → wrong_at blob p types fits ≡ None → (s : A) × (p ≡ Ok s) × (first_wrong blob fits (types s) ≡ None)
well_formed blob (Err left) types fits e = absurd (cc e)
well_formed blob (Ok s) types fits e = (s, refl, e)

first_fits : (blob : List ℕ) (fits : Spelling → Bool) (s : Spelling) (ss : List Spelling) → first_wrong blob fits (s ∷ ss) ≡ None → (fits s ≡ true) × (first_wrong blob fits ss ≡ None)
first_fits blob fits s ss e = by _ (fits s) refl e
  where
    by : (n : ℕ) (b : Bool) → fits s ≡ b → cond b (first_wrong blob fits ss) (Some n) ≡ None → (fits s ≡ true) × (first_wrong blob fits ss ≡ None)
    by n true k h = (k, h)
    by n false k h = absurd (cc h)

module _ (files : List FilePart) (file : ℕ) (m : MetadataPart) (blob : List ℕ) where
  abbrev w : World
  w = world_of files

  abbrev size : ℕ
  size = size_of (rows_alone files)

  abbrev ps : List Assembly
  ps = assemblies_of files

  abbrev cs : Classes
  cs = (ecma_sources files).classes

  pub field_fits : (n : ℕ) (f : OwnField) → field_wrong w file n blob ≡ None → field_row w file n ≡ Some f → field_signature_fits cs f ≡ true
  field_fits n f e own =
      let s = well_formed blob (whole_field blob) (λ s. spelling positions.Field s ∷ []) (λ s. own_field_fits w (field_row w file n)) e in
      let h = (first_fits blob (λ s. own_field_fits w (field_row w file n)) (spelling positions.Field s.0) [] s.2).0 in
      sym (ap (own_field_fits w) own) ∙ h

  -- ---- locals

  each_local : (n : ℕ) (ss : List SigType) → first_wrong blob (place_fits w file m) (numbered (λ k s. spelling (positions.Local k) s) n ss) ≡ None → list_all (sig_fits cs) (filter_map (expanded size ps file) (map (raw_type m) ss)) ≡ true
  each_local n [] e = refl
  each_local n (s ∷ ss) e =
      let h = first_fits blob (place_fits w file m) (spelling (positions.Local n) s) (numbered (λ k s. spelling (positions.Local k) s) (suc n) ss) e in
      let t = holds_inv (expanded size ps file (raw_type m s)) (sig_fits cs) h.0 in
      ap (λ o. list_all (sig_fits cs) (cons_option o (filter_map (expanded size ps file) (map (raw_type m) ss)))) t.1
      ∙ and_from (sig_fits cs t.0) (list_all (sig_fits cs) (filter_map (expanded size ps file) (map (raw_type m) ss))) t.2 (each_local (suc n) ss h.1)

  pub locals_fit : locals_wrong w file m blob ≡ None → list_all (sig_fits cs) (filter_map (expanded size ps file) (locals_signature m blob)) ≡ true
  unfolding locals_signature
  locals_fit e =
      let s = well_formed blob (whole_locals blob) in_locals (place_fits w file m) e in
      ap (λ p. list_all (sig_fits cs) (filter_map (expanded size ps file) (locals_from m p))) s.1 ∙ each_local 0 s.0 s.2

  -- ---- methods

  module _ (c : Id) (here : c.file ≡ file) where
    abbrev parameter_fits : SigPlace → Bool
    parameter_fits p = sig_fits cs (sig_of_place p) || ((c.file == 0) && is_handle cs (sig_of_place p))

    abbrev fits : Spelling → Bool
    fits s = method_place_fits w file m (c.file == 0) s.position s.type

    pub record Places (params : List SigType) : Type 0 where
      pub places : List SigPlace
      pub are : all_some (expanded_place size ps file) (map (raw_place m) params) ≡ Some places
      pub fit : list_all parameter_fits places ≡ true

    one : (p : SigType) (t : NamedType) → expanded size ps file (raw_type m p) ≡ Some t → (sig_fits cs t || ((c.file == 0) && is_handle cs t)) ≡ true → (q : SigPlace) × (expanded_place size ps file (raw_place m p) ≡ Some q) × (parameter_fits q ≡ true)
    one p t e h = by p.pointer
      where
        by : (b : Bool) → (q : SigPlace) × (expanded_place size ps file (if b then RawByRef (raw_type m p) else RawDirect (raw_type m p)) ≡ Some q) × (parameter_fits q ≡ true)
        by true = (ByRef t, ap (option_map ByRef) e, h)
        by false = (Direct t, ap (option_map Direct) e, h)

    each_parameter : (n : ℕ) (params : List SigType) → first_wrong blob fits (numbered (λ k p. spelling (positions.Parameter k) p) n params) ≡ None → Places params
    each_parameter n [] e = record { places = []; are = refl; fit = refl }
    each_parameter n (p ∷ params) e =
        let h = first_fits blob fits (spelling (positions.Parameter n) p) (numbered (λ k p. spelling (positions.Parameter k) p) (suc n) params) e in
        let t = holds_inv (expanded size ps file (raw_type m p)) (λ t. sig_fits cs t || ((c.file == 0) && is_handle cs t)) h.0 in
        let q = one p t.0 t.1 t.2 in
        let rest = each_parameter (suc n) params h.1 in
        record {
          places = q.0 ∷ rest.places;
          are = ap (λ o. both_some (λ y ys. y ∷ ys) o (all_some (expanded_place size ps file) (map (raw_place m) params))) q.1 ∙ ap (both_some (λ y ys. y ∷ ys) (Some q.0)) rest.are;
          fit = and_from (parameter_fits q.0) (list_all parameter_fits rest.places) q.2 rest.fit;
        }

    returned : (s : SigType) → fits (spelling positions.Returned s) ≡ true → (r : Option NamedType) × (expanded_result size ps file (raw_result m s) ≡ Some r) × (result_fits cs r ≡ true)
    returned s e = by (is_void s.elem) e
      where
        by : (b : Bool) → (b || type_fits w file m (sig_fits cs) s) ≡ true → (r : Option NamedType) × (expanded_result size ps file (if b then None else Some (raw_type m s)) ≡ Some r) × (result_fits cs r ≡ true)
        by true h = (None, refl, refl)
        by false h = let t = holds_inv (expanded size ps file (raw_type m s)) (sig_fits cs) h in (Some t.0, ap (option_map Some) t.1, t.2)

    pub method_fits : method_wrong w file m (c.file == 0) blob ≡ None → holds_some (expanded_signature size ps file (method_signature m blob)) (signature_fits cs c) ≡ true
    unfolding method_signature
    method_fits e =
        let s = well_formed blob (whole_method blob) (λ s. spelling positions.Returned s.returns ∷ numbered (λ k p. spelling (positions.Parameter k) p) 0 s.params) fits e in
        let h = first_fits blob fits (spelling positions.Returned s.0.returns) (numbered (λ k p. spelling (positions.Parameter k) p) 0 s.0.params) s.2 in
        let r = returned s.0.returns h.0 in
        let ps' = each_parameter 0 s.0.params h.1 in
        ap (λ p. holds_some (expanded_signature size ps file (signature_from m p)) (signature_fits cs c)) s.1
        ∙ (ap (λ o. holds_some (both_some (λ (r : Option NamedType) (p : List SigPlace). let z : Signature = record { has_this = s.0.this; returns = r; parameters = p } in z) o (all_some (expanded_place size ps file) (map (raw_place m) s.0.params))) (signature_fits cs c)) r.1
        ∙ (ap (λ o. holds_some (both_some (λ (r : Option NamedType) (p : List SigPlace). let z : Signature = record { has_this = s.0.this; returns = r; parameters = p } in z) (Some r.0) o) (signature_fits cs c)) ps'.are
        ∙ and_from (result_fits cs r.0) (list_all parameter_fits ps'.places) r.2 ps'.fit))
