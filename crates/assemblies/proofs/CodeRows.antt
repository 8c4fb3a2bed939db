-- Code of a choice is that of all, at its own places.
use Rattle.std.proofs.Common.{◌≡◌, ⊎_elim, ℕ, suc, ◌+◌, ◌<◌, ◌≤◌, List, [], ◌∷◌, map, length, Option, Some, None, refl, sym, ap, ◌∙◌, subst, arith}
use Rattle.std.specs.Prelude.{ℤ, pos, unsigned_abs, slice_get}
use Rattle.std.specs.Option.{option_map}
use Rattle.std.specs.List.{filter_map}
use Rattle.std.proofs.lemmas.Option.{slice_get-map}
use Rattle.machine.specs.Data.{Id}
use Rattle.machine.specs.Throw.{on_some}
use Rattle.machine_rename.specs.Rename.{Renaming}
use Rattle.classes.specs.Classes.{SigType}
use Rattle.classes.specs.Code.{Targets, OfType, OfField, OfMethod, CodeLine, CodeClauseKind, CatchOf, CodeClause, MethodCode}
use Rattle.alike.specs.Carry as carry
use Rattle.alike.specs.Alike.{ClassesAlike}
use Rattle.kept_rows.specs.Select.{select, below, rows}
use Rattle.kept_rows.proofs.SelectLaws as kept_rows
use Rattle.assemblies.specs.Rows.{TypeToken, TypeDef, TypeRef, TypeSpec, RawType, RawOperand, RawNothing, RawNumber, RawTargets, RawTypeOf, RawField, RawMethod, RawText, RawLine, RawKind, RawCatch, RawFinally, RawOther, RawClause, RawCode, MethodRow, Assembly}
use Rattle.assemblies.specs.Binding.{id_at, numbered, expanded, classes_of, resolve_method, resolve_field, operand_type, or_unresolved, operand, line_with, kind_with, clause_with, code_with, code_of}
use Rattle.assemblies.specs.Chosen.{Choice, token_to, raw_to, field_token_to, method_token_to, operand_to, line_to, kind_to, clause_to, code_to, method_row_to, chosen, chosen_set, renaming, kept_members, count_of}
use Rattle.assemblies.specs.Closed.{Each, OperandNames, Returns, OperandHolds, LineHolds, KindNames, ClauseHolds, CodeHolds, Closed}
use Rattle.assemblies.proofs.Binds.{chosen_at}
use Rattle.assemblies.proofs.Back.{get_past, get_there, count_law, IsRow, number_view, past_selected}
use Rattle.assemblies.proofs.Signatures.{named, expanded_law, all_there}
use Rattle.assemblies.proofs.Refs.{method_law, field_law}
use Rattle.assemblies.proofs.Numbered.{get_numbered}

-- each of a list
each_law : {A B C : Type 0} (f : A → C) (h : B → C) (g : A → B) (good : A → Type 0) → ((x : A) → good x → f x ≡ h (g x)) → (xs : List A) → Each good xs → map f xs ≡ map h (map g xs)
each_law f h g good e [] k = refl
each_law f h g good e (x ∷ xs) k = ap (λ y. y ∷ map f xs) (e x k.0) ∙ ap (λ ys. h (g x) ∷ ys) (each_law f h g good e xs k.1)

map_twice : {A B C : Type 0} (h : B → C) (g : A → B) (xs : List A) → map h (map g xs) ≡ map (λ x. h (g x)) xs
map_twice h g [] = refl
map_twice h g (x ∷ xs) = ap (λ ys. h (g x) ∷ ys) (map_twice h g xs)

numbered_len : {A B : Type 0} (make : ℕ → A → B) (n : ℕ) (xs : List A) → length (numbered make n xs) ≡ length xs
numbered_len make n [] = refl
numbered_len make n (x ∷ xs) = ap suc (numbered_len make (suc n) xs)

module _ (keep : ℕ → Choice) (ps : List Assembly) (size more : ℕ) (closed : Closed size keep ps) (grows : size ≤ more) (a : ClassesAlike (renaming keep ps) (kept_members keep) (classes_of more (chosen_set keep ps)) (classes_of size ps)) where
  abbrev cs : List Assembly
  cs = chosen_set keep ps

  abbrev r : Renaming
  r = renaming keep ps

  -- a method of number j, whose row is n
  module _ (f n : ℕ) (c : Id) (places : (at : ℕ) → r.place c at ≡ (keep f).long n at) where
    place_law : (at : ℕ) → Returns size keep ps f n at → at ≡ r.place c ((keep f).short n at)
    place_law at k = sym (places ((keep f).short n at) ∙ k)

    target_law : (z : ℤ) → Returns size keep ps f n (unsigned_abs z) × (pos (unsigned_abs z) ≡ z) → z ≡ carry.target_to r c (pos ((keep f).short n (unsigned_abs z)))
    target_law z k = sym k.1 ∙ ap pos (place_law (unsigned_abs z) k.0)

    targets_law : (to : List ℤ) → Each (λ z. Returns size keep ps f n (unsigned_abs z) × (pos (unsigned_abs z) ≡ z)) to → to ≡ map (carry.target_to r c) (map (λ z. pos ((keep f).short n (unsigned_abs z))) to)
    targets_law [] k = refl
    targets_law (z ∷ to) k =
        ap (λ y. y ∷ to) (target_law z k.0) ∙ ap (λ ys. carry.target_to r c (pos ((keep f).short n (unsigned_abs z))) ∷ ys) (targets_law to k.1)

    through_type : (o : Option SigType) → or_unresolved OfType (option_map (carry.sig_to r) o) ≡ carry.operand_to r c (or_unresolved OfType o)
    through_type None = refl
    through_type (Some s) = refl

    through_field : (o : Option Id) → or_unresolved OfField (option_map r.field o) ≡ carry.operand_to r c (or_unresolved OfField o)
    through_field None = refl
    through_field (Some s) = refl

    through_method : (o : Option Id) → or_unresolved OfMethod (option_map r.method o) ≡ carry.operand_to r c (or_unresolved OfMethod o)
    through_method None = refl
    through_method (Some s) = refl

    type_operand_law : (t : TypeToken) → OperandNames size keep ps f t → operand_type size ps f t ≡ option_map (carry.sig_to r) (operand_type more cs f (token_to (keep f) t))
    type_operand_law (TypeDef m) k = expanded_law keep ps size more closed grows f (RawType.RawClass (TypeDef m)) k
    type_operand_law (TypeRef m) k = expanded_law keep ps size more closed grows f (RawType.RawClass (TypeRef m)) k
    type_operand_law (TypeSpec m) k =
        ap (λ o. on_some o (λ (p : Assembly). on_some (slice_get p.specs m) (expanded size ps f))) k.1.1.1
        ∙ ap (λ o. on_some o (expanded size ps f)) k.1.1.2
        ∙ expanded_law keep ps size more closed grows f k.1.1.0 k.1.1.3
        ∙ sym (ap (option_map (carry.sig_to r))
        (ap (λ o. on_some o (λ (p : Assembly). on_some (slice_get p.specs (below (keep f).specs m)) (expanded more cs f))) (chosen_at keep ps f ∙ ap (option_map (chosen (keep f))) k.1.1.1)
        ∙ ap (λ o. on_some o (expanded more cs f)) (slice_get-map (raw_to (keep f)) (select (keep f).specs k.1.0.specs) (below (keep f).specs m) ∙ ap (option_map (raw_to (keep f))) (kept_rows.there (keep f).specs k.1.0.specs m k.0 ∙ k.1.1.2))))

    operand_law : (o : RawOperand) → OperandHolds size keep ps f n o → operand size ps f o ≡ carry.operand_to r c (operand more cs f (operand_to (keep f) ((keep f).short n) o))
    operand_law RawNothing k = refl
    operand_law (RawNumber m) k = refl
    operand_law (RawTargets to) k = ap Targets (targets_law to k)
    operand_law (RawTypeOf t) k = ap (or_unresolved OfType) (type_operand_law t k) ∙ through_type (operand_type more cs f (token_to (keep f) t))
    operand_law (RawField t) k = ap (or_unresolved OfField) (field_law keep ps size more closed grows a f t k) ∙ through_field (resolve_field more cs f (field_token_to (keep f) t))
    operand_law (RawMethod t) k = ap (or_unresolved OfMethod) (method_law keep ps size more closed grows a f t k) ∙ through_method (resolve_method more cs f (method_token_to (keep f) t))
    operand_law (RawText units) k = refl

    line_law : (l : RawLine) → LineHolds size keep ps f n l → line_with size ps f l ≡ carry.code_line_to r c (line_with more cs f (line_to (keep f) ((keep f).short n) l))
    line_law l k =
        ap (λ x. record { at = x; shape = l.shape; operand = operand size ps f l.operand; next = l.next }) (place_law l.at k.0)
        ∙ ap (λ x. record { at = r.place c ((keep f).short n l.at); shape = l.shape; operand = x; next = l.next }) (operand_law l.operand k.2)
        ∙ ap (λ x. record { at = r.place c ((keep f).short n l.at); shape = l.shape; operand = carry.operand_to r c (operand more cs f (operand_to (keep f) ((keep f).short n) l.operand)); next = x }) (place_law l.next k.1)

    kind_law : (x : RawKind) → KindNames size keep ps f x → kind_with size ps f x ≡ carry.code_kind_to r (kind_with more cs f (kind_to (keep f) x))
    kind_law (RawCatch t) k = ap CatchOf (named keep ps size more closed grows f t k)
    kind_law RawFinally k = refl
    kind_law RawOther k = refl

    clause_law : (x : RawClause) → ClauseHolds size keep ps f n x → clause_with size ps f x ≡ carry.code_clause_to r c (clause_with more cs f (clause_to (keep f) ((keep f).short n) x))
    clause_law x k =
        let make : CodeClauseKind → ℕ → ℕ → ℕ → ℕ → CodeClause = λ i b d s e. record { kind = i; try_start = b; try_end = d; start = s; end = e } in
        let new : ℕ → ℕ = λ at. r.place c ((keep f).short n at) in
        let kind = carry.code_kind_to r (kind_with more cs f (kind_to (keep f) x.kind)) in
        ap (λ i. make i x.try_start x.try_end x.start x.end) (kind_law x.kind k.0)
        ∙ ap (λ b. make kind b x.try_end x.start x.end) (place_law x.try_start k.1)
        ∙ ap (λ d. make kind (new x.try_start) d x.start x.end) (place_law x.try_end k.2)
        ∙ ap (λ s. make kind (new x.try_start) (new x.try_end) s x.end) (place_law x.start k.3)
        ∙ ap (make kind (new x.try_start) (new x.try_end) (new x.start)) (place_law x.end k.4)

    code_with_law : (x : RawCode) → CodeHolds size keep ps f n (Some x) → code_with size ps f x ≡ carry.code_to r c (code_with more cs f (code_to (keep f) ((keep f).short n) x))
    code_with_law x k =
        let make : List SigType → List CodeClause → List CodeLine → MethodCode = λ l b d. record { locals = l; max_stack = x.max_stack; clauses = b; lines = d } in
        let locals = map (carry.sig_to r) (filter_map (expanded more cs f) (map (raw_to (keep f)) x.locals)) in
        let clauses = map (carry.code_clause_to r c) (map (clause_with more cs f) (map (clause_to (keep f) ((keep f).short n)) x.clauses)) in
        ap (λ l. make l (map (clause_with size ps f) x.clauses) (map (line_with size ps f) x.lines)) (all_there keep ps size more closed grows (expanded size ps f) (expanded more cs f) (raw_to (keep f)) (carry.sig_to r) _ (expanded_law keep ps size more closed grows f) x.locals k.0)
        ∙ ap (λ b. make locals b (map (line_with size ps f) x.lines)) (each_law (clause_with size ps f) (λ y. carry.code_clause_to r c (clause_with more cs f y)) (clause_to (keep f) ((keep f).short n)) _ clause_law x.clauses k.1 ∙ sym (map_twice (carry.code_clause_to r c) (clause_with more cs f) (map (clause_to (keep f) ((keep f).short n)) x.clauses)))
        ∙ ap (make locals clauses) (each_law (line_with size ps f) (λ y. carry.code_line_to r c (line_with more cs f y)) (line_to (keep f) ((keep f).short n)) _ line_law x.lines k.2 ∙ sym (map_twice (carry.code_line_to r c) (line_with more cs f) (map (line_to (keep f) ((keep f).short n)) x.lines)))

    code_option : (o : Option RawCode) → CodeHolds size keep ps f n o → option_map (code_with size ps f) o ≡ option_map (carry.code_to r c) (option_map (code_with more cs f) (option_map (code_to (keep f) ((keep f).short n)) o))
    code_option None k = refl
    code_option (Some x) k = ap Some (code_with_law x k)

  abbrev in_rows : ℕ → ℕ → List Assembly → List MethodRow → ℕ → Option MethodCode
  in_rows k f qs methods n = on_some (slice_get methods n) (λ (m : MethodRow). option_map (code_with k qs f) m.code)

  pub code_of_law : (c : Id) → code_of size ps (r.method c) ≡ option_map (carry.code_to r c) (code_of more cs c)
  code_of_law c = go (slice_get ps c.file) refl
    where
      low_is : (p : Assembly) → slice_get ps c.file ≡ Some p → code_of more cs c ≡ in_rows more c.file cs (select (keep c.file).methods (numbered (method_row_to (keep c.file)) 0 p.methods)) c.row
      low_is p at = ap (λ o. on_some o (λ (q : Assembly). in_rows more c.file cs q.methods c.row)) (chosen_at keep ps c.file ∙ ap (option_map (chosen (keep c.file))) at)

      there : (p : Assembly) → slice_get ps c.file ≡ Some p → IsRow (keep c.file).methods (count_of (λ (q : Assembly). q.methods) ps c.file) c.row → code_of size ps (r.method c) ≡ option_map (carry.code_to r c) (code_of more cs c)
      there p at w =
          let x = get_there p.methods w.row (subst (λ m. w.row < m) (count_law (λ (q : Assembly). q.methods) ps c.file p at) w.within) in
          let same : 0 + w.row ≡ w.row = omega arith in
          ap (λ j. code_of size ps (id_at c.file j)) w.back
          ∙ ap (λ o. on_some o (λ (q : Assembly). in_rows size c.file ps q.methods w.row)) at
          ∙ ap (λ o. on_some o (λ (m : MethodRow). option_map (code_with size ps c.file) m.code)) x.1
          ∙ code_option c.file w.row c (λ at. ap (λ j. (keep c.file).long j at) w.back) x.0.code (closed.method c.file w.row p x.0 at x.1 w.kept).1
          ∙ sym (ap (option_map (carry.code_to r c))
          (low_is p at
          ∙ ap (in_rows more c.file cs (select (keep c.file).methods (numbered (method_row_to (keep c.file)) 0 p.methods))) (sym w.number)
          ∙ ap (λ o. on_some o (λ (m : MethodRow). option_map (code_with more cs c.file) m.code)) (kept_rows.there (keep c.file).methods (numbered (method_row_to (keep c.file)) 0 p.methods) w.row w.kept ∙ get_numbered (method_row_to (keep c.file)) 0 w.row p.methods ∙ ap (option_map (method_row_to (keep c.file) (0 + w.row))) x.1)
          ∙ ap (λ j. option_map (code_with more cs c.file) (option_map (code_to (keep c.file) ((keep c.file).short j)) x.0.code)) same))

      past : (p : Assembly) → slice_get ps c.file ≡ Some p → (length (rows (keep c.file).methods (count_of (λ (q : Assembly). q.methods) ps c.file)) ≤ c.row) × (count_of (λ (q : Assembly). q.methods) ps c.file ≤ (r.method c).row) → code_of size ps (r.method c) ≡ option_map (carry.code_to r c) (code_of more cs c)
      past p at w =
          let len = count_law (λ (q : Assembly). q.methods) ps c.file p at in
          ap (λ o. on_some o (λ (q : Assembly). in_rows size c.file ps q.methods (r.method c).row)) at
          ∙ ap (λ o. on_some o (λ (m : MethodRow). option_map (code_with size ps c.file) m.code)) (get_past p.methods (r.method c).row (subst (λ m. m ≤ (r.method c).row) len w.1))
          ∙ sym (ap (option_map (carry.code_to r c)) (low_is p at
          ∙ ap (λ o. on_some o (λ (m : MethodRow). option_map (code_with more cs c.file) m.code)) (past_selected (keep c.file).methods (numbered (method_row_to (keep c.file)) 0 p.methods) c.row (subst (λ m. length (rows (keep c.file).methods m) ≤ c.row) (len ∙ sym (numbered_len (method_row_to (keep c.file)) 0 p.methods)) w.0))))

      go : (o : Option Assembly) → slice_get ps c.file ≡ o → code_of size ps (r.method c) ≡ option_map (carry.code_to r c) (code_of more cs c)
      go None e =
          ap (λ o. on_some o (λ (q : Assembly). in_rows size c.file ps q.methods (r.method c).row)) e
          ∙ sym (ap (option_map (carry.code_to r c)) (ap (λ o. on_some o (λ (q : Assembly). in_rows more c.file cs q.methods c.row)) (chosen_at keep ps c.file ∙ ap (option_map (chosen (keep c.file))) e)))
      go (Some p) e = ⊎_elim (there p e) (past p e) (number_view (keep c.file).methods (count_of (λ (q : Assembly). q.methods) ps c.file) c.row)
