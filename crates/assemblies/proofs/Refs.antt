-- Member references bind to the numbers of the members that they name.
use Rattle.std.proofs.Common.{◌≡◌, ℕ, ◌≤◌, Bool, true, ◌&&◌, List, [], ◌∷◌, map, Option, Some, None, refl, sym, ap, ◌∙◌, subst}
use Rattle.std.specs.Prelude.{slice_get}
use Rattle.std.specs.Option.{option_map}
use Rattle.std.specs.List.{filter, find, position}
use Rattle.std.proofs.lemmas.Option.{slice_get-map}
use Rattle.machine.specs.Data.{Id}
use Rattle.machine.specs.Texts.{same_text}
use Rattle.machine.specs.Throw.{on_some}
use Rattle.machine_rename.specs.Rename.{Renaming}
use Rattle.classes.specs.Classes.{SigType, Signature, OwnField, OwnMethod, Classes}
use Rattle.classes.specs.Queries.{or_else, first_some, chain, methods_of, fields_of, find_method, find_field, is_named, is_field_named, field_signature_eq}
use Rattle.alike.specs.Carry as carry
use Rattle.alike.specs.Alike.{ClassesAlike}
use Rattle.alike.proofs.Lists.{find_map, find_none, find_kept}
use Rattle.alike.proofs.Chains.{chain_law}
use Rattle.alike.proofs.Members.{kept_methods, kept_fields, signature_eq_law, sig_eq_law}
use Rattle.alike.proofs.Slots.{none_back, some_back}
use Rattle.kept_rows.specs.Select.{select, below}
use Rattle.kept_rows.proofs.SelectLaws as kept_rows
use Rattle.assemblies.specs.Rows.{MemberToken, Own, Reference, TypeRow, Assembly}
use Rattle.assemblies.specs.Binding.{id_at, holds, method_owner, field_owner, resolve, expanded, expanded_signature, classes_of, resolve_method, resolve_field}
use Rattle.assemblies.specs.Chosen.{Choice, raw_to, signature_to, field_token_to, method_token_to, field_ref_to, method_ref_to, chosen, chosen_set, number, renaming, kept_members}
use Rattle.assemblies.specs.Closed.{FieldNames, MethodNames, Closed}
use Rattle.assemblies.proofs.Binds.{on_some_back, map_back, chosen_at, token_law, token_there}
use Rattle.assemblies.proofs.Signatures.{type_back, expanded_law, signature_law}
use Rattle.assemblies.proofs.ClassLaws.{method_back, field_back}
use Rattle.assemblies.proofs.Owners.{method_owner_law, field_owner_law}

-- the first class upwards with a member that passes, where that member is kept
first_found : {X : Type 0} (up : Id → Id) (high_of low_of : Id → List X) (test' test : X → Bool) (to : X → X) (kept : X → Bool) → ((d : Id) → filter kept (high_of (up d)) ≡ map to (low_of d)) → ((x : X) → test' (to x) ≡ test x) → (ds : List Id) (y : X) → first_some (λ d. find test' (high_of d)) (map up ds) ≡ Some y → kept y ≡ true → option_map to (first_some (λ d. find test (low_of d)) ds) ≡ Some y
first_found up high_of low_of test' test to kept eq same [] y e k = absurd (cc e)
first_found {X} up high_of low_of test' test to kept eq same (d ∷ ds) y e k =
    go (find test' (high_of (up d))) refl e (first_found up high_of low_of test' test to kept eq same ds y)
  where
    low : option_map to (find test (low_of d)) ≡ find test' (filter kept (high_of (up d)))
    low = sym (ap (find test') (eq d) ∙ find_map to test' test (low_of d) same)

    go : (o : Option X) → find test' (high_of (up d)) ≡ o → or_else o (first_some (λ d. find test' (high_of d)) (map up ds)) ≡ Some y → (first_some (λ d. find test' (high_of d)) (map up ds) ≡ Some y → kept y ≡ true → option_map to (first_some (λ d. find test (low_of d)) ds) ≡ Some y) → option_map to (or_else (find test (low_of d)) (first_some (λ d. find test (low_of d)) ds)) ≡ Some y
    go None p e h =
        ap (λ o. option_map to (or_else o (first_some (λ d. find test (low_of d)) ds))) (none_back to (find test (low_of d)) (low ∙ find_none test' kept (high_of (up d)) p))
        ∙ h e k
    go (Some z) p e h =
        let w = some_back to (find test (low_of d)) z (low ∙ find_kept test' kept (high_of (up d)) z p (subst (λ x. kept x ≡ true) (cc e) k)) in
        ap (λ o. option_map to (or_else o (first_some (λ d. find test (low_of d)) ds))) w.1 ∙ ap Some w.2 ∙ e

module _ (keep : ℕ → Choice) (ps : List Assembly) (size more : ℕ) (closed : Closed size keep ps) (grows : size ≤ more) (a : ClassesAlike (renaming keep ps) (kept_members keep) (classes_of more (chosen_set keep ps)) (classes_of size ps)) where
  abbrev cs : List Assembly
  cs = chosen_set keep ps

  abbrev r : Renaming
  r = renaming keep ps

  abbrev low : Classes
  low = classes_of more cs

  abbrev high : Classes
  high = classes_of size ps

  method_found : (c : Id) (name : List ℕ) (s : Option Signature) (y : OwnMethod) → find_method high (r.type c) name (option_map (carry.signature_to r) s) ≡ Some y → (keep y.id.file).methods y.id.row ≡ true → option_map (carry.own_method_to r) (find_method low c name s) ≡ Some y
  method_found c name s y e k =
      first_found r.type (methods_of high) (methods_of low) (is_named name (option_map (carry.signature_to r) s)) (is_named name s) (carry.own_method_to r) (λ (x : OwnMethod). (keep x.id.file).methods x.id.row) (kept_methods r (kept_members keep) low high a)
      (λ x. ap (λ b. same_text x.name name && b) (signature_eq_law r (kept_members keep) low high a x.signature s)) (chain low c) y
      (sym (ap (first_some (λ d. find (is_named name (option_map (carry.signature_to r) s)) (methods_of high d))) (chain_law r (kept_members keep) low high a c)) ∙ e) k

  field_eq_law : (x y : Option SigType) → field_signature_eq (option_map (carry.sig_to r) x) (option_map (carry.sig_to r) y) ≡ field_signature_eq x y
  field_eq_law None None = refl
  field_eq_law None (Some t) = refl
  field_eq_law (Some s) None = refl
  field_eq_law (Some s) (Some t) = sig_eq_law r (kept_members keep) low high a s t

  field_found : (c : Id) (name : List ℕ) (s : Option SigType) (y : OwnField) → find_field high (r.type c) name (option_map (carry.sig_to r) s) ≡ Some y → (keep y.id.file).fields y.id.row ≡ true → option_map (carry.field_to r) (find_field low c name s) ≡ Some y
  field_found c name s y e k =
      first_found r.type (fields_of high) (fields_of low) (is_field_named name (option_map (carry.sig_to r) s)) (is_field_named name s) (carry.field_to r) (λ (x : OwnField). (keep x.id.file).fields x.id.row) (kept_fields r (kept_members keep) low high a)
      (λ x. ap (λ b. same_text x.name name && b) (field_eq_law x.signature s)) (chain low c) y
      (sym (ap (first_some (λ d. find (is_field_named name (option_map (carry.sig_to r) s)) (fields_of high d))) (chain_law r (kept_members keep) low high a c)) ∙ e) k

  pub method_law : (f : ℕ) (t : MemberToken) → MethodNames size keep ps f t → resolve_method size ps f t ≡ option_map r.method (resolve_method more cs f (method_token_to (keep f) t))
  method_law f (Own n) k =
      let v = map_back (λ (owner : Id). id_at f n) (method_owner ps (id_at f n)) k.1.0 k.1.1 in
      let w = on_some_back (slice_get ps f) (λ (p : Assembly). on_some (slice_get p.methods n) (λ x. option_map (id_at f) (position (λ (t : TypeRow). holds t.first_method t.method_count n) p.types))) v.0 v.1 in
      let u = on_some_back (slice_get w.0.methods n) (λ x. option_map (id_at f) (position (λ (t : TypeRow). holds t.first_method t.method_count n) w.0.types)) v.0 w.2 in
      let back = method_back keep ps size more closed grows f n w.0 u.0 w.1 u.1 k.0 in
      let low_owner = id_at f (below (keep f).methods n) in
      let o = some_back r.type (method_owner cs low_owner) v.0 (sym (method_owner_law keep ps size more closed grows low_owner) ∙ ap (method_owner ps) back ∙ v.1) in
      ap (option_map (λ (owner : Id). id_at f n)) v.1
      ∙ ap Some (sym back)
      ∙ sym (ap (λ q. option_map r.method (option_map (λ (owner : Id). low_owner) q)) o.1)
  method_law f (Reference n) k =
      let w = on_some_back (slice_get ps f) (λ (p : Assembly). on_some (slice_get p.method_refs n) (λ x. on_some (resolve size ps f x.parent) (λ c. option_map (λ (m : OwnMethod). m.id) (find_method high c x.name (expanded_signature size ps f x.signature))))) k.1.0 k.1.1 in
      let v = on_some_back (slice_get w.0.method_refs n) (λ x. on_some (resolve size ps f x.parent) (λ c. option_map (λ (m : OwnMethod). m.id) (find_method high c x.name (expanded_signature size ps f x.signature)))) k.1.0 w.2 in
      let u = on_some_back (resolve size ps f v.0.parent) (λ c. option_map (λ (m : OwnMethod). m.id) (find_method high c v.0.name (expanded_signature size ps f v.0.signature))) k.1.0 v.2 in
      let y = map_back (λ (m : OwnMethod). m.id) (find_method high u.0 v.0.name (expanded_signature size ps f v.0.signature)) k.1.0 u.2 in
      let names = closed.method_ref f n w.0 v.0 w.1 v.1 k.0 in
      let at = token_there keep ps size closed f v.0.parent u.0 names.0.0 u.1 in
      let back = type_back keep ps size more closed grows u.0 at.1.0 at.1.1.0 at.1.1.1 at.1.1.2 at.0 in
      let low_sig = expanded_signature more cs f (signature_to (keep f) v.0.signature) in
      let high_found : find_method high (r.type (number keep u.0)) v.0.name (option_map (carry.signature_to r) low_sig) ≡ Some y.0 = ap (λ c. find_method high c v.0.name (option_map (carry.signature_to r) low_sig)) back ∙ sym (ap (find_method high u.0 v.0.name) (signature_law keep ps size more closed grows f v.0.signature names.1)) ∙ y.1 in
      let kept_y : (keep y.0.id.file).methods y.0.id.row ≡ true = ap (λ (i : Id). (keep i.file).methods i.row) y.2 ∙ closed.method_defined f n k.1.0 k.0 k.1.1 in
      let z = some_back (carry.own_method_to r) (find_method low (number keep u.0) v.0.name low_sig) y.0 (method_found (number keep u.0) v.0.name low_sig y.0 high_found kept_y) in
      k.1.1
      ∙ ap Some (sym (ap (λ (m : OwnMethod). m.id) z.2 ∙ y.2))
      ∙ sym (ap (option_map r.method)
      (ap (λ o. on_some o (λ (p : Assembly). on_some (slice_get p.method_refs (below (keep f).method_refs n)) (λ x. on_some (resolve more cs f x.parent) (λ c. option_map (λ (m : OwnMethod). m.id) (find_method low c x.name (expanded_signature more cs f x.signature)))))) (chosen_at keep ps f ∙ ap (option_map (chosen (keep f))) w.1)
      ∙ ap (λ o. on_some o (λ x. on_some (resolve more cs f x.parent) (λ c. option_map (λ (m : OwnMethod). m.id) (find_method low c x.name (expanded_signature more cs f x.signature))))) (slice_get-map (method_ref_to (keep f)) (select (keep f).method_refs w.0.method_refs) (below (keep f).method_refs n) ∙ ap (option_map (method_ref_to (keep f))) (kept_rows.there (keep f).method_refs w.0.method_refs n k.0 ∙ v.1))
      ∙ ap (λ o. on_some o (λ c. option_map (λ (m : OwnMethod). m.id) (find_method low c v.0.name low_sig))) (token_law keep ps size closed more f v.0.parent u.0 grows names.0.0 u.1)
      ∙ ap (option_map (λ (m : OwnMethod). m.id)) z.1))

  pub field_law : (f : ℕ) (t : MemberToken) → FieldNames size keep ps f t → resolve_field size ps f t ≡ option_map r.field (resolve_field more cs f (field_token_to (keep f) t))
  field_law f (Own n) k =
      let v = map_back (λ (owner : Id). id_at f n) (field_owner ps (id_at f n)) k.1.0 k.1.1 in
      let w = on_some_back (slice_get ps f) (λ (p : Assembly). on_some (slice_get p.fields n) (λ x. option_map (id_at f) (position (λ (t : TypeRow). holds t.first_field t.field_count n) p.types))) v.0 v.1 in
      let u = on_some_back (slice_get w.0.fields n) (λ x. option_map (id_at f) (position (λ (t : TypeRow). holds t.first_field t.field_count n) w.0.types)) v.0 w.2 in
      let back = field_back keep ps size more closed grows f n w.0 u.0 w.1 u.1 k.0 in
      let low_owner = id_at f (below (keep f).fields n) in
      let o = some_back r.type (field_owner cs low_owner) v.0 (sym (field_owner_law keep ps size more closed grows low_owner) ∙ ap (field_owner ps) back ∙ v.1) in
      ap (option_map (λ (owner : Id). id_at f n)) v.1
      ∙ ap Some (sym back)
      ∙ sym (ap (λ q. option_map r.field (option_map (λ (owner : Id). low_owner) q)) o.1)
  field_law f (Reference n) k =
      let w = on_some_back (slice_get ps f) (λ (p : Assembly). on_some (slice_get p.field_refs n) (λ x. on_some (resolve size ps f x.parent) (λ c. option_map (λ (m : OwnField). m.id) (find_field high c x.name (expanded size ps f x.signature))))) k.1.0 k.1.1 in
      let v = on_some_back (slice_get w.0.field_refs n) (λ x. on_some (resolve size ps f x.parent) (λ c. option_map (λ (m : OwnField). m.id) (find_field high c x.name (expanded size ps f x.signature)))) k.1.0 w.2 in
      let u = on_some_back (resolve size ps f v.0.parent) (λ c. option_map (λ (m : OwnField). m.id) (find_field high c v.0.name (expanded size ps f v.0.signature))) k.1.0 v.2 in
      let y = map_back (λ (m : OwnField). m.id) (find_field high u.0 v.0.name (expanded size ps f v.0.signature)) k.1.0 u.2 in
      let names = closed.field_ref f n w.0 v.0 w.1 v.1 k.0 in
      let at = token_there keep ps size closed f v.0.parent u.0 names.0.0 u.1 in
      let back = type_back keep ps size more closed grows u.0 at.1.0 at.1.1.0 at.1.1.1 at.1.1.2 at.0 in
      let low_sig = expanded more cs f (raw_to (keep f) v.0.signature) in
      let high_found : find_field high (r.type (number keep u.0)) v.0.name (option_map (carry.sig_to r) low_sig) ≡ Some y.0 = ap (λ c. find_field high c v.0.name (option_map (carry.sig_to r) low_sig)) back ∙ sym (ap (find_field high u.0 v.0.name) (expanded_law keep ps size more closed grows f v.0.signature names.1)) ∙ y.1 in
      let kept_y : (keep y.0.id.file).fields y.0.id.row ≡ true = ap (λ (i : Id). (keep i.file).fields i.row) y.2 ∙ closed.field_defined f n k.1.0 k.0 k.1.1 in
      let z = some_back (carry.field_to r) (find_field low (number keep u.0) v.0.name low_sig) y.0 (field_found (number keep u.0) v.0.name low_sig y.0 high_found kept_y) in
      k.1.1
      ∙ ap Some (sym (ap (λ (m : OwnField). m.id) z.2 ∙ y.2))
      ∙ sym (ap (option_map r.field)
      (ap (λ o. on_some o (λ (p : Assembly). on_some (slice_get p.field_refs (below (keep f).field_refs n)) (λ x. on_some (resolve more cs f x.parent) (λ c. option_map (λ (m : OwnField). m.id) (find_field low c x.name (expanded more cs f x.signature)))))) (chosen_at keep ps f ∙ ap (option_map (chosen (keep f))) w.1)
      ∙ ap (λ o. on_some o (λ x. on_some (resolve more cs f x.parent) (λ c. option_map (λ (m : OwnField). m.id) (find_field low c x.name (expanded more cs f x.signature))))) (slice_get-map (field_ref_to (keep f)) (select (keep f).field_refs w.0.field_refs) (below (keep f).field_refs n) ∙ ap (option_map (field_ref_to (keep f))) (kept_rows.there (keep f).field_refs w.0.field_refs n k.0 ∙ v.1))
      ∙ ap (λ o. on_some o (λ c. option_map (λ (m : OwnField). m.id) (find_field low c v.0.name low_sig))) (token_law keep ps size closed more f v.0.parent u.0 grows names.0.0 u.1)
      ∙ ap (option_map (λ (m : OwnField). m.id)) z.1))
