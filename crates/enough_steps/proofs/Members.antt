-- Where references and members are found alike in two numbers of steps, so is what code names.
use Rattle.std.proofs.Common.{◌≡◌, ℕ, List, map, Option, refl, ap, ◌∙◌}
use Rattle.std.specs.Prelude.{slice_get}
use Rattle.std.specs.List.{filter_map}
use Rattle.std.specs.Option.{option_map}
use Rattle.std.proofs.Math.Path.{fun_ext}
use Rattle.machine.specs.Data.{Id}
use Rattle.machine.specs.Throw.{on_some}
use Rattle.classes.specs.Classes.{SigType, ClassToken, OwnField, OwnMethod, Signature}
use Rattle.classes.specs.Code.{OfType, OfField, OfMethod, CodeLine, CatchOf, CodeClause, MethodCode}
use Rattle.classes.specs.Queries.{find_method, find_field}
use Rattle.assemblies.specs.Rows.{TypeToken, TypeDef, TypeRef, TypeSpec, MemberToken, Own, Reference, FieldRefRow, MethodRefRow, RawOperand, RawNothing, RawNumber, RawTargets, RawTypeOf, RawField, RawMethod, RawText, RawLine, RawKind, RawCatch, RawFinally, RawOther, RawClause, RawCode, MethodRow, Assembly}
use Rattle.assemblies.specs.Binding.{resolve_ref, resolve, expanded, expanded_signature, classes_of, resolve_method, resolve_field, operand_type, or_unresolved, operand, line_with, kind_with, clause_with, code_with, code_of}
use Rattle.enough_steps.proofs.Rows.{resolve_same, expanded_same, signature_same}

module _ (k m : ℕ) (ps : List Assembly) (same : (f n : ℕ) → resolve_ref k ps f n ≡ resolve_ref m ps f n) (methods : find_method (classes_of k ps) ≡ find_method (classes_of m ps)) (fields : find_field (classes_of k ps) ≡ find_field (classes_of m ps)) where
  method_at : (f : ℕ) (t : MemberToken) → resolve_method k ps f t ≡ resolve_method m ps f t
  method_at f (Own n) = refl
  method_at f (Reference n) =
      let by : (TypeToken → Option Id) → (Id → List ℕ → Option Signature → Option OwnMethod) → (MethodRefRow → Option Signature) → Option Id = λ class found signed.
      on_some (slice_get ps f) (λ p. on_some (slice_get p.method_refs n) (λ r. on_some (class r.parent) (λ c. option_map (λ (x : OwnMethod). x.id) (found c r.name (signed r))))) in
      ap (λ class. by class (find_method (classes_of k ps)) (λ r. expanded_signature k ps f r.signature)) (resolve_same k m ps same f)
      ∙ (ap (λ found. by (resolve m ps f) found (λ r. expanded_signature k ps f r.signature)) methods
      ∙ ap (λ g. by (resolve m ps f) (find_method (classes_of m ps)) (λ r. g r.signature)) (signature_same k m ps same f))

  field_at : (f : ℕ) (t : MemberToken) → resolve_field k ps f t ≡ resolve_field m ps f t
  field_at f (Own n) = refl
  field_at f (Reference n) =
      let by : (TypeToken → Option Id) → (Id → List ℕ → Option SigType → Option OwnField) → (FieldRefRow → Option SigType) → Option Id = λ class found signed.
      on_some (slice_get ps f) (λ p. on_some (slice_get p.field_refs n) (λ r. on_some (class r.parent) (λ c. option_map (λ (x : OwnField). x.id) (found c r.name (signed r))))) in
      ap (λ class. by class (find_field (classes_of k ps)) (λ r. expanded k ps f r.signature)) (resolve_same k m ps same f)
      ∙ (ap (λ found. by (resolve m ps f) found (λ r. expanded k ps f r.signature)) fields
      ∙ ap (λ g. by (resolve m ps f) (find_field (classes_of m ps)) (λ r. g r.signature)) (expanded_same k m ps same f))

  type_at : (f : ℕ) (t : TypeToken) → operand_type k ps f t ≡ operand_type m ps f t
  type_at f (TypeDef n) = refl
  type_at f (TypeRef n) = ap (option_map ClassToken) (same f n)
  type_at f (TypeSpec n) = ap (λ g. on_some (slice_get ps f) (λ p. on_some (slice_get p.specs n) g)) (expanded_same k m ps same f)

  operand_at : (f : ℕ) (o : RawOperand) → operand k ps f o ≡ operand m ps f o
  operand_at f RawNothing = refl
  operand_at f (RawNumber n) = refl
  operand_at f (RawTargets to) = refl
  operand_at f (RawTypeOf t) = ap (or_unresolved OfType) (type_at f t)
  operand_at f (RawField t) = ap (or_unresolved OfField) (field_at f t)
  operand_at f (RawMethod t) = ap (or_unresolved OfMethod) (method_at f t)
  operand_at f (RawText units) = refl

  line_at : (f : ℕ) (l : RawLine) → line_with k ps f l ≡ line_with m ps f l
  line_at f l = ap (λ o. record { at = l.at; shape = l.shape; operand = o; next = l.next }) (operand_at f l.operand)

  kind_at : (f : ℕ) (c : RawKind) → kind_with k ps f c ≡ kind_with m ps f c
  kind_at f (RawCatch t) = ap (λ g. CatchOf (g t)) (resolve_same k m ps same f)
  kind_at f RawFinally = refl
  kind_at f RawOther = refl

  clause_at : (f : ℕ) (c : RawClause) → clause_with k ps f c ≡ clause_with m ps f c
  clause_at f c = ap (λ o. record { kind = o; try_start = c.try_start; try_end = c.try_end; start = c.start; end = c.end }) (kind_at f c.kind)

  code_at : (f : ℕ) (c : RawCode) → code_with k ps f c ≡ code_with m ps f c
  code_at f c =
      let make : List SigType → List CodeClause → List CodeLine → MethodCode = λ l b d. record { locals = l; max_stack = c.max_stack; clauses = b; lines = d } in
      ap (λ g. make (filter_map g c.locals) (map (clause_with k ps f) c.clauses) (map (line_with k ps f) c.lines)) (expanded_same k m ps same f)
      ∙ (ap (λ g. make (filter_map (expanded m ps f) c.locals) (map g c.clauses) (map (line_with k ps f) c.lines)) (fun_ext (clause_at f))
      ∙ ap (λ g. make (filter_map (expanded m ps f) c.locals) (map (clause_with m ps f) c.clauses) (map g c.lines)) (fun_ext (line_at f)))

  pub code_same : code_of k ps ≡ code_of m ps
  code_same = fun_ext (λ (id : Id). ap (λ g. on_some (slice_get ps id.file) (λ p. on_some (slice_get p.methods id.row) (λ (x : MethodRow). option_map g x.code))) (fun_ext (code_at id.file)))
