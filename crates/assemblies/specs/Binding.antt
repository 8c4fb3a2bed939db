-- What the names of a set mean, and the set's classes and code. An assembly is found by its name and version, a type by namespace,
-- name and enclosing type, a member by its class, name and signature (II.22).
use Rattle.std.specs.Prelude.{codes, ℕ, zero, suc, Bool, true, false, ◌+◌, ◌&&◌, nat_eq, nat_lt, nat_le, if◌then◌else◌, List, [], ◌∷◌, map, take, drop, Option, Some, None, slice_get, unwrap_or}
use Rattle.std.specs.List.{position, filter_map}
use Rattle.std.specs.Option.{option_map}
use Rattle.machine.specs.Data.{Id}
use Rattle.machine.specs.Texts.{same_text}
use Rattle.machine.specs.Throw.{on_some}
use Rattle.classes.specs.Classes.{SigType, Spelt, ClassToken, ValueToken, ArraySig, SigPlace, Direct, ByRef, Signature, OwnField, OwnMethod, Class, Classes}
use Rattle.classes.specs.Code.{Operand, NoOperand, Number, Targets, OfType, OfField, OfMethod, OfText, Unresolved, CodeLine, CodeClauseKind, CatchOf, Finally, OtherKind, CodeClause, MethodCode, Sources}
use Rattle.classes.specs.Queries.{find_method, find_field}
use Rattle.assemblies.specs.Rows.{TypeToken, TypeDef, TypeRef, TypeSpec, MemberToken, Own, Reference, Scope, OfAssembly, Inside, Nowhere, RawType, RawSpelt, RawClass, RawValue, RawArray, RawPlace, RawDirect, RawByRef, RawSignature, AssemblyRow, TypeRefRow, TypeRow, FieldRow, RawOperand, RawNothing, RawNumber, RawTargets, RawTypeOf, RawField, RawMethod, RawText, RawLine, RawKind, RawCatch, RawFinally, RawOther, RawClause, RawCode, MethodRow, Assembly}

abbrev pub same_assembly : AssemblyRow → Assembly → Bool
same_assembly a p = same_text a.name p.name && same_text a.version p.version

-- the number of the first one that passes. Told by the list's cases, so that it computes where only the first assemblies are known
abbrev pub first_number : (Assembly → Bool) → List Assembly → Option ℕ
first_number test [] = None
first_number test (p ∷ ps) = if test p then Some 0 else option_map suc (first_number test ps)

-- the first assembly of the name and version
abbrev pub assembly_of : List Assembly → ℕ → ℕ → Option ℕ
assembly_of ps file n = on_some (slice_get ps file) (λ p. on_some (slice_get p.assemblies n) (λ a. first_number (same_assembly a) ps))

abbrev pub same_row : Option ℕ → Option ℕ → Bool
same_row None None = true
same_row (Some a) (Some b) = nat_eq a b
same_row _ _ = false

abbrev pub is_type : Option ℕ → TypeRefRow → TypeRow → Bool
is_type outer r t = same_row outer t.enclosing && (same_text r.namespace t.namespace && same_text r.name t.name)

abbrev pub id_at : ℕ → ℕ → Id
id_at file row = record { file = file; row = row }

-- the first type of an assembly with the names, inside a type or not
abbrev pub type_in : List Assembly → ℕ → Option ℕ → TypeRefRow → Option Id
type_in ps file outer r = on_some (slice_get ps file) (λ p. option_map (id_at file) (position (is_type outer r) p.types))

abbrev pub in_scope : List Assembly → ℕ → (ℕ → Option Id) → TypeRefRow → Scope → Option Id
in_scope ps file outer r (OfAssembly n) = on_some (assembly_of ps file n) (λ f. type_in ps f None r)
in_scope ps file outer r (Inside n) = on_some (outer n) (λ c. type_in ps c.file (Some c.row) r)
in_scope ps file outer r Nowhere = None

-- with at most so many scopes
abbrev pub resolve_ref : ℕ → List Assembly → ℕ → ℕ → Option Id
resolve_ref zero ps file n = None
resolve_ref (suc k) ps file n =
    on_some (slice_get ps file) (λ p. on_some (slice_get p.refs n) (λ r. in_scope ps file (resolve_ref k ps file) r r.scope))

-- a class; a specification names an array, which is none
abbrev pub resolve : ℕ → List Assembly → ℕ → TypeToken → Option Id
resolve k ps file (TypeDef n) = on_some (slice_get ps file) (λ p. option_map (λ t. id_at file n) (slice_get p.types n))
resolve k ps file (TypeRef n) = resolve_ref k ps file n
resolve k ps file (TypeSpec n) = None

abbrev pub both_some : {A B C : Type 0} → (A → B → C) → Option A → Option B → Option C
both_some make (Some x) (Some y) = Some (make x y)
both_some make _ _ = None

abbrev pub all_some : {A B : Type 0} → (A → Option B) → List A → Option (List B)
all_some f [] = Some []
all_some f (x ∷ xs) = both_some (λ y ys. y ∷ ys) (f x) (all_some f xs)

abbrev pub expanded : ℕ → List Assembly → ℕ → RawType → Option SigType
expanded k ps file (RawSpelt e) = Some (Spelt e)
expanded k ps file (RawClass t) = option_map ClassToken (resolve k ps file t)
expanded k ps file (RawValue t) = option_map ValueToken (resolve k ps file t)
expanded k ps file (RawArray s) = option_map ArraySig (expanded k ps file s)

abbrev pub expanded_place : ℕ → List Assembly → ℕ → RawPlace → Option SigPlace
expanded_place k ps file (RawDirect s) = option_map Direct (expanded k ps file s)
expanded_place k ps file (RawByRef s) = option_map ByRef (expanded k ps file s)

abbrev pub expanded_result : ℕ → List Assembly → ℕ → Option RawType → Option (Option SigType)
expanded_result k ps file None = Some None
expanded_result k ps file (Some s) = option_map Some (expanded k ps file s)

-- none where a type of it doesn't resolve
abbrev pub expanded_signature : ℕ → List Assembly → ℕ → RawSignature → Option Signature
expanded_signature k ps file s =
    both_some (λ r p. record { has_this = s.has_this; returns = r; parameters = p }) (expanded_result k ps file s.returns) (all_some (expanded_place k ps file) s.parameters)

-- ---- classes

abbrev pub own_field : ℕ → List Assembly → ℕ → ℕ → FieldRow → OwnField
own_field k ps file n f = record { id = id_at file n; name = f.name; signature = expanded k ps file f.signature; kind = f.kind }

abbrev pub own_method : ℕ → List Assembly → ℕ → ℕ → MethodRow → OwnMethod
own_method k ps file n m =
    record {
      id = id_at file n;
      name = m.name;
      signature = expanded_signature k ps file m.signature;
      is_static = m.is_static;
      is_virtual = m.is_virtual;
      is_newslot = m.is_newslot;
      is_abstract = m.is_abstract;
      body = m.body;
    }

-- rows with their numbers
abbrev pub numbered : {A B : Type 0} → (ℕ → A → B) → ℕ → List A → List B
numbered make n [] = []
numbered make n (x ∷ xs) = make n x ∷ numbered make (suc n) xs

abbrev pub range : {A : Type 0} → ℕ → ℕ → List A → List A
range first count xs = take count (drop first xs)

abbrev pub class_with : ℕ → List Assembly → ℕ → Assembly → TypeRow → Class
class_with k ps file p t =
    record {
      namespace = t.namespace;
      name = t.name;
      enclosing = option_map (id_at file) t.enclosing;
      superclass = on_some t.extends (resolve k ps file);
      interfaces = filter_map (resolve k ps file) t.interfaces;
      kind = t.kind;
      is_interface = t.is_interface;
      is_abstract = t.is_abstract;
      is_lazy = t.is_lazy;
      fields = numbered (own_field k ps file) t.first_field (range t.first_field t.field_count p.fields);
      methods = numbered (own_method k ps file) t.first_method (range t.first_method t.method_count p.methods);
    }

abbrev pub class_at : ℕ → List Assembly → Id → Option Class
class_at k ps c = on_some (slice_get ps c.file) (λ p. option_map (class_with k ps c.file p) (slice_get p.types c.row))

abbrev pub holds : ℕ → ℕ → ℕ → Bool
holds first count n = nat_le first n && nat_lt n (first + count)

-- the first type in whose range the row lies
abbrev pub owner_of : {A : Type 0} → (Assembly → List A) → (TypeRow → ℕ) → (TypeRow → ℕ) → List Assembly → Id → Option Id
owner_of rows first count ps c =
    on_some (slice_get ps c.file) (λ p.
    on_some (slice_get (rows p) c.row) (λ x. option_map (id_at c.file) (position (λ t. holds (first t) (count t) c.row) p.types)))

abbrev pub method_owner : List Assembly → Id → Option Id
method_owner ps c = owner_of (λ p. p.methods) (λ t. t.first_method) (λ t. t.method_count) ps c

abbrev pub field_owner : List Assembly → Id → Option Id
field_owner ps c = owner_of (λ p. p.fields) (λ t. t.first_field) (λ t. t.field_count) ps c

-- the types of the first assembly of the base library's name
abbrev pub library : List Assembly → List Id
library ps =
    unwrap_or (on_some (first_number (λ (p : Assembly). same_text p.name (codes "mscorlib")) ps) (λ f. option_map (λ (p : Assembly). numbered (λ n t. id_at f n) 0 p.types) (slice_get ps f))) []

abbrev pub classes_of : ℕ → List Assembly → Classes
classes_of k ps = record { size = k; class = class_at k ps; method_owner = method_owner ps; field_owner = field_owner ps; library = library ps }

-- ---- members; a row that no type owns is none

abbrev pub resolve_method : ℕ → List Assembly → ℕ → MemberToken → Option Id
resolve_method k ps file (Own n) = option_map (λ owner. id_at file n) (method_owner ps (id_at file n))
resolve_method k ps file (Reference n) =
    on_some (slice_get ps file) (λ p.
    on_some (slice_get p.method_refs n) (λ r.
    on_some (resolve k ps file r.parent) (λ c. option_map (λ m. m.id) (find_method (classes_of k ps) c r.name (expanded_signature k ps file r.signature)))))

abbrev pub resolve_field : ℕ → List Assembly → ℕ → MemberToken → Option Id
resolve_field k ps file (Own n) = option_map (λ owner. id_at file n) (field_owner ps (id_at file n))
resolve_field k ps file (Reference n) =
    on_some (slice_get ps file) (λ p.
    on_some (slice_get p.field_refs n) (λ r.
    on_some (resolve k ps file r.parent) (λ c. option_map (λ m. m.id) (find_field (classes_of k ps) c r.name (expanded k ps file r.signature)))))

-- ---- code

-- a type as an operand
abbrev pub operand_type : ℕ → List Assembly → ℕ → TypeToken → Option SigType
operand_type k ps file (TypeDef n) = option_map ClassToken (resolve k ps file (TypeDef n))
operand_type k ps file (TypeRef n) = option_map ClassToken (resolve k ps file (TypeRef n))
operand_type k ps file (TypeSpec n) = on_some (slice_get ps file) (λ p. on_some (slice_get p.specs n) (expanded k ps file))

abbrev pub or_unresolved : {A : Type 0} → (A → Operand) → Option A → Operand
or_unresolved make None = Unresolved
or_unresolved make (Some x) = make x

abbrev pub operand : ℕ → List Assembly → ℕ → RawOperand → Operand
operand k ps file RawNothing = NoOperand
operand k ps file (RawNumber n) = Number n
operand k ps file (RawTargets to) = Targets to
operand k ps file (RawTypeOf t) = or_unresolved OfType (operand_type k ps file t)
operand k ps file (RawField t) = or_unresolved OfField (resolve_field k ps file t)
operand k ps file (RawMethod t) = or_unresolved OfMethod (resolve_method k ps file t)
operand k ps file (RawText units) = OfText units

abbrev pub line_with : ℕ → List Assembly → ℕ → RawLine → CodeLine
line_with k ps file l = record { at = l.at; shape = l.shape; operand = operand k ps file l.operand; next = l.next }

abbrev pub kind_with : ℕ → List Assembly → ℕ → RawKind → CodeClauseKind
kind_with k ps file (RawCatch t) = CatchOf (resolve k ps file t)
kind_with k ps file RawFinally = Finally
kind_with k ps file RawOther = OtherKind

abbrev pub clause_with : ℕ → List Assembly → ℕ → RawClause → CodeClause
clause_with k ps file c = record { kind = kind_with k ps file c.kind; try_start = c.try_start; try_end = c.try_end; start = c.start; end = c.end }

abbrev pub code_with : ℕ → List Assembly → ℕ → RawCode → MethodCode
code_with k ps file c =
    record {
      locals = filter_map (expanded k ps file) c.locals;
      max_stack = c.max_stack;
      clauses = map (clause_with k ps file) c.clauses;
      lines = map (line_with k ps file) c.lines;
    }

abbrev pub code_of : ℕ → List Assembly → Id → Option MethodCode
code_of k ps id =
    on_some (slice_get ps id.file) (λ p. on_some (slice_get p.methods id.row) (λ m. option_map (code_with k ps id.file) m.code))

-- the first entry, where it is static
abbrev pub entry_from : ℕ → List Assembly → Option Id
entry_from n [] = None
entry_from n (p ∷ ps) = elim p.entry [ None ↦ entry_from (suc n) ps | Some row ↦ on_some (slice_get p.methods row) (λ m. if m.is_static then Some (id_at n row) else None) ]

abbrev pub sources_of : ℕ → List Assembly → Sources
sources_of k ps = record { classes = classes_of k ps; code = code_of k ps; entry = entry_from 0 ps }
