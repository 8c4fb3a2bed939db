-- What an instruction names resolves where its operand is of the kind that its shape takes (rule 46).
use Rattle.std.proofs.Common.{◌≡◌, ℕ, zero, suc, ◌+◌, ◌-◌, ℤ, Bool, true, false, List, [], ◌∷◌, Option, Some, None, refl, sym, ap, ◌∙◌, subst}
use Rattle.std.specs.Prelude.{◌&&◌, not, nat_lt, is_some, if◌then◌else◌, slice_get, unwrap_or}
use Rattle.std.specs.Option.{option_map}
use Rattle.std.specs.List.{find}
use Rattle.std.proofs.lemmas.Bool.{and_parts}
use Rattle.cil_opcodes.specs.declared.shape.Operand.{Operand as Kind}
use Rattle.cil_opcodes.specs.declared.shape.Operand.TheVariants as kinds
use Rattle.cil_opcodes.specs.declared.shape.Access.TheVariants as access
use Rattle.cil_opcodes.specs.declared.shape.Shape.{Shape}
use Rattle.cil_opcodes.specs.declared.shape.Shape.TheVariants as shape
use Rattle.cil_opcodes.specs.declared.shape.Row.{Row}
use Rattle.cil_opcodes.specs.declared.table.TheConstants.{ONE_BYTE, TWO_BYTES}
use Rattle.cil_opcodes.specs.Rows.{entry_of, row_of}
use Rattle.file_tables.specs.Metadata.{MetadataPart}
use Rattle.machine.specs.Data.{Id, CliType, id_eq}
use Rattle.machine.specs.Throw.{on_some}
use Rattle.machine_typed.specs.Typing.{is_plain, is_number}
use Rattle.machine_typed.proofs.Types.{id_same}
use Rattle.classes.specs.Classes.{Classes, Class, FieldKind, InstanceField, StaticField, LiteralField, DataField, OwnField, OwnMethod, SigType}
use Rattle.classes.specs.Code.{Operand, OfType, OfField, OfMethod}
use Rattle.classes.specs.Queries.{is_instance_kind, is_static_kind, data_of, fields_of, field_at}
use Rattle.classes.specs.Listed.{type_of_operand, field_of, method_of}
use Rattle.class_rules.specs.Rules.{holds_some}
use Rattle.class_rules.proofs.Kept.{holds_inv}
use Rattle.code_rules.specs.Verdict.{names_type, names_field, names_method, is_instance_field, is_callable, is_new, operand_fits}
use Rattle.assemblies.specs.Rows.{TypeToken, MemberToken, RawOperand, RawNothing, RawTypeOf, RawField, RawMethod, FieldRow, Assembly}
use Rattle.assemblies.specs.Binding.{id_at, range, own_field, class_with, or_unresolved, operand, operand_type, resolve_field, resolve_method, classes_of}
use Rattle.assemblies.proofs.Binds.{on_some_back, map_back}
use Rattle.assemblies.proofs.Numbered.{find_row}
use Rattle.kept_closure.specs.Named.{InOperand}
use Rattle.kept_closure.specs.Kept.{is_literal, NamesMethod}
use Rattle.kept_rules.proofs.There.{range_one}
use Rattle.world_rows.specs.Lines.{raw_text, literal, raw_operand}
use Rattle.rows_resolved.specs.Resolved.{is_variable}
use Rattle.rows_resolved.proofs.Choice.{NamesType, NamesVariable}

-- ---- which shapes take what

abbrev takes_type : Shape → Bool
takes_type shape.CastClass = true
takes_type shape.IsInstance = true
takes_type shape.UnboxAny = true
takes_type shape.NewArray = true
takes_type shape.LoadElementAddress = true
takes_type shape.Box = true
takes_type shape.Unbox = true
takes_type (shape.LoadIndirect access.Typed) = true
takes_type (shape.StoreIndirect access.Typed) = true
takes_type (shape.LoadElement access.Typed) = true
takes_type (shape.StoreElement access.Typed) = true
takes_type _ = false

abbrev takes_field : Shape → Bool
takes_field shape.LoadField = true
takes_field shape.LoadFieldAddress = true
takes_field shape.StoreField = true
takes_field shape.LoadStatic = true
takes_field shape.LoadStaticAddress = true
takes_field shape.StoreStatic = true
takes_field shape.LoadToken = true
takes_field _ = false

abbrev takes_method : Shape → Bool
takes_method shape.Call = true
takes_method shape.CallVirtual = true
takes_method shape.NewObject = true
takes_method _ = false

abbrev takes : Kind → Shape → Bool
takes kinds.TypeToken s = takes_type s
takes kinds.FieldToken s = takes_field s
takes kinds.AnyToken s = takes_field s
takes kinds.MethodToken s = takes_method s
takes _ s = true

-- ---- each row of the table does

abbrev row_takes : Option Row → Bool
row_takes None = true
row_takes (Some row) = takes row.operand row.shape

abbrev all_take : List (Option Row) → Bool
all_take [] = true
all_take (row ∷ rows) = row_takes row && all_take rows

one_takes : (n : ℕ) (rows : List (Option Row)) (row : Row) → all_take rows ≡ true → entry_of rows n ≡ Some row → takes row.operand row.shape ≡ true
one_takes n [] row h e = absurd (cc e)
one_takes zero (x ∷ rows) row h e = subst (λ (o : Option Row). row_takes o ≡ true) e (and_parts (row_takes x) (all_take rows) h).0
one_takes (suc n) (x ∷ rows) row h e = one_takes n rows row (and_parts (row_takes x) (all_take rows) h).1 e

one_byte : all_take ONE_BYTE ≡ true
one_byte = refl

two_bytes : all_take TWO_BYTES ≡ true
two_bytes = refl

pub table_takes : (op : ℕ) (row : Row) → row_of op ≡ Some row → takes row.operand row.shape ≡ true
table_takes op row = by (nat_lt op 0xFE00)
  where
    by : (b : Bool) → (if b then entry_of ONE_BYTE op else entry_of TWO_BYTES (op - 0xFE00)) ≡ Some row → takes row.operand row.shape ≡ true
    by true e = one_takes op ONE_BYTE row one_byte e
    by false e = one_takes (op - 0xFE00) TWO_BYTES row two_bytes e

-- ---- what is asked of an operand

module _ (cs : Classes) where
  type_asked : (s : Shape) (o : Operand) → takes_type s ≡ true → operand_fits cs s o ≡ true → (t : CliType) × (type_of_operand cs o ≡ Some t)
  type_asked s o k e = by s k e
    where
      of : (test : CliType → Bool) → names_type cs test o ≡ true → (t : CliType) × (type_of_operand cs o ≡ Some t)
      of test h = let t = holds_inv (type_of_operand cs o) test h in (t.0, t.1)

      by : (s : Shape) → takes_type s ≡ true → operand_fits cs s o ≡ true → (t : CliType) × (type_of_operand cs o ≡ Some t)
      by shape.CastClass k h = of is_plain h
      by shape.IsInstance k h = of is_plain h
      by shape.UnboxAny k h = of is_plain h
      by shape.NewArray k h = of is_plain h
      by shape.LoadElementAddress k h = of is_plain h
      by shape.Box k h = of is_number h
      by shape.Unbox k h = of is_number h
      by (shape.LoadIndirect access.Typed) k h = of is_plain h
      by (shape.StoreIndirect access.Typed) k h = of is_plain h
      by (shape.LoadElement access.Typed) k h = of is_plain h
      by (shape.StoreElement access.Typed) k h = of is_plain h
      by _ k h = absurd (cc k)

  -- a field that isn't literal
  abbrev Asked : Operand → Type 0
  Asked o = (id : Id) × (field_of o ≡ Some id) × ((g : OwnField) × (field_at cs id ≡ Some g) × (is_literal g.kind ≡ false))

  instance_kind : (k : FieldKind) → is_instance_kind k ≡ true → is_literal k ≡ false
  instance_kind InstanceField e = refl
  instance_kind StaticField e = refl
  instance_kind LiteralField e = absurd (cc e)
  instance_kind (DataField bytes) e = refl

  static_kind : (k : FieldKind) → is_static_kind k ≡ true → is_literal k ≡ false
  static_kind InstanceField e = refl
  static_kind StaticField e = refl
  static_kind LiteralField e = absurd (cc e)
  static_kind (DataField bytes) e = refl

  data_kind : (k : FieldKind) → is_some (data_of k) ≡ true → is_literal k ≡ false
  data_kind InstanceField e = refl
  data_kind StaticField e = refl
  data_kind LiteralField e = absurd (cc e)
  data_kind (DataField bytes) e = refl

  field_asked : (s : Shape) (o : Operand) → takes_field s ≡ true → operand_fits cs s o ≡ true → Asked o
  field_asked s o k e = by s k e
    where
      of : (test : Id → OwnField → Bool) → ((owner : Id) (g : OwnField) → test owner g ≡ true → is_literal g.kind ≡ false) → names_field cs test o ≡ true → Asked o
      of test kind h =
          let id = holds_inv (field_of o) (λ id. holds_some (cs.field_owner id) (λ owner. holds_some (field_at cs id) (test owner))) h in
          let owner = holds_inv (cs.field_owner id.0) (λ owner. holds_some (field_at cs id.0) (test owner)) id.2 in
          let g = holds_inv (field_at cs id.0) (test owner.0) owner.2 in
          (id.0, id.1, (g.0, g.1, kind owner.0 g.0 g.2))

      instance : names_field cs (is_instance_field cs) o ≡ true → Asked o
      instance h = of (is_instance_field cs) (λ owner g t. instance_kind g.kind (and_parts (is_instance_kind g.kind) _ t).0) h

      static : names_field cs (λ owner g. is_static_kind g.kind) o ≡ true → Asked o
      static h = of (λ owner g. is_static_kind g.kind) (λ owner g t. static_kind g.kind t) h

      by : (s : Shape) → takes_field s ≡ true → operand_fits cs s o ≡ true → Asked o
      by shape.LoadField k h = instance h
      by shape.LoadFieldAddress k h = instance h
      by shape.StoreField k h = instance h
      by shape.LoadStatic k h = static h
      by shape.LoadStaticAddress k h = static h
      by shape.StoreStatic k h = static h
      by shape.LoadToken k h = of (λ owner g. is_some (data_of g.kind)) (λ owner g t. data_kind g.kind t) h
      by _ k h = absurd (cc k)

  method_asked : (s : Shape) (o : Operand) → takes_method s ≡ true → operand_fits cs s o ≡ true → (id : Id) × (method_of o ≡ Some id)
  method_asked s o k e = by s k e
    where
      of : (test : Id → OwnMethod → Bool) → names_method cs test o ≡ true → (id : Id) × (method_of o ≡ Some id)
      of test h = let id = holds_inv (method_of o) _ h in (id.0, id.1)

      by : (s : Shape) → takes_method s ≡ true → operand_fits cs s o ≡ true → (id : Id) × (method_of o ≡ Some id)
      by shape.Call k h = of (λ owner m. not m.is_abstract) h
      by shape.CallVirtual k h = of (is_callable cs) h
      by shape.NewObject k h = of (is_new cs) h
      by _ k h = absurd (cc k)

-- ---- the field of a class is a row

module _ (size : ℕ) (ps : List Assembly) where
  abbrev cs : Classes
  cs = classes_of size ps

  field_variable : (id : Id) (g : OwnField) → field_at cs id ≡ Some g → is_literal g.kind ≡ false → is_variable ps id ≡ true
  field_variable id g e none = by (cs.class c.0) refl c.2
    where
      c : (owner : Id) × (cs.field_owner id ≡ Some owner) × (find (λ (f : OwnField). id_eq f.id id) (fields_of cs owner) ≡ Some g)
      c = on_some_back (cs.field_owner id) (λ owner. find (λ (f : OwnField). id_eq f.id id) (fields_of cs owner)) g e

      row : (k : Class) → cs.class c.0 ≡ Some k → find (λ (f : OwnField). id_eq f.id id) k.fields ≡ Some g → is_variable ps id ≡ true
      row k there h =
          let p = on_some_back (slice_get ps c.0.file) (λ (p : Assembly). option_map (class_with size ps c.0.file p) (slice_get p.types c.0.row)) k there in
          let t = map_back (class_with size ps c.0.file p.0) (slice_get p.0.types c.0.row) k p.2 in
          let r = find_row (own_field size ps c.0.file) (λ (f : OwnField). id_eq f.id id) t.0.first_field (range t.0.first_field t.0.field_count p.0.fields) g (ap (λ (z : Class). find (λ (f : OwnField). id_eq f.id id) z.fields) t.2 ∙ h) in
          let same : id_at c.0.file (t.0.first_field + r.0) ≡ id = id_same (id_at c.0.file (t.0.first_field + r.0)) id (ap (λ (f : OwnField). id_eq f.id id) r.1.2 ∙ r.1.3) in
          let kind : is_literal r.1.0.kind ≡ false = ap (λ (f : OwnField). is_literal f.kind) r.1.2 ∙ none in
          subst (λ z. is_variable ps z ≡ true) same
          (ap (λ o. holds_some (on_some o (λ (p : Assembly). slice_get p.fields (t.0.first_field + r.0))) (λ (x : FieldRow). not (is_literal x.kind))) p.1
          ∙ (ap (λ o. holds_some o (λ (x : FieldRow). not (is_literal x.kind))) (range_one t.0.first_field t.0.field_count p.0.fields r.0 r.1.0 r.1.1)
          ∙ ap not kind))

      by : (o : Option Class) → cs.class c.0 ≡ o → find (λ (f : OwnField). id_eq f.id id) (unwrap_or (option_map (λ (k : Class). k.fields) o) []) ≡ Some g → is_variable ps id ≡ true
      by None there h = absurd (cc h)
      by (Some k) there h = row k there h

  module _ (f : ℕ) where
    type_means : (t : TypeToken) (z : CliType) → type_of_operand cs (operand size ps f (RawTypeOf t)) ≡ Some z → NamesType size ps f t
    type_means t z e = by (operand_type size ps f t) refl e
      where
        by : (o : Option SigType) → operand_type size ps f t ≡ o → type_of_operand cs (or_unresolved OfType o) ≡ Some z → NamesType size ps f t
        by None h k = absurd (cc k)
        by (Some s) h k = (s, h)

    field_means : (t : MemberToken) → Asked cs (operand size ps f (RawField t)) → NamesVariable size ps f t
    field_means t (id, e, (g, at, kind)) = by (resolve_field size ps f t) refl e
      where
        by : (o : Option Id) → resolve_field size ps f t ≡ o → field_of (or_unresolved OfField o) ≡ Some id → NamesVariable size ps f t
        by None h k = absurd (cc k)
        by (Some c) h k = let same : c ≡ id = cc k in (c, h, subst (λ z. is_variable ps z ≡ true) (sym same) (field_variable id g at kind))

    method_means : (t : MemberToken) (id : Id) → method_of (operand size ps f (RawMethod t)) ≡ Some id → NamesMethod size ps f t
    method_means t id e = by (resolve_method size ps f t) refl e
      where
        by : (o : Option Id) → resolve_method size ps f t ≡ o → method_of (or_unresolved OfMethod o) ≡ Some id → NamesMethod size ps f t
        by None h k = absurd (cc k)
        by (Some c) h k = (c, h)

    module _ (m : MetadataPart) (code : List ℕ) (at next : ℕ) (n : ℤ) (s : Shape) where
      abbrev Meant : RawOperand → Type 0
      Meant o = InOperand (NamesType size ps f) (NamesMethod size ps f) (NamesVariable size ps f) o

      text_means : (token : ℕ) → Meant (literal m token)
      text_means token = by _ _
        where
          text : (o : Option (List ℕ)) → Meant (raw_text o)
          text None = tt
          text (Some bytes) = tt

          by : (b : Bool) (o : Option (List ℕ)) → Meant (if b then raw_text o else RawNothing)
          by true o = text o
          by false o = tt

      pub operand_means : (k : Kind) → takes k s ≡ true → operand_fits cs s (operand size ps f (raw_operand m code at next k n)) ≡ true → Meant (raw_operand m code at next k n)
      operand_means kinds.Nothing t e = tt
      operand_means kinds.Int8 t e = tt
      operand_means kinds.UInt8 t e = tt
      operand_means kinds.UInt16 t e = tt
      operand_means kinds.Int32 t e = tt
      operand_means kinds.Int64 t e = tt
      operand_means kinds.BranchShort t e = tt
      operand_means kinds.BranchLong t e = tt
      operand_means kinds.Switch t e = tt
      operand_means kinds.TypeToken t e = let z = type_asked cs s _ t e in type_means _ z.0 z.1
      operand_means kinds.FieldToken t e = field_means _ (field_asked cs s _ t e)
      operand_means kinds.MethodToken t e = let z = method_asked cs s _ t e in method_means _ z.0 z.1
      operand_means kinds.StringToken t e = text_means _
      operand_means kinds.AnyToken t e = field_means _ (field_asked cs s _ t e)
