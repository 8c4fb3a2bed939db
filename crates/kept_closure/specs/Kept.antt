-- Which rows of a set of assemblies are kept: a closed set of rows, and the least one.
use Rattle.std.specs.Prelude.{codes, ◌≡◌, ℕ, pos, ◌+◌, unsigned_abs, Bool, ◌&&◌, true, false, List, ◌∷◌, Some, slice_get}
use Rattle.std.specs.List.{position}
use Rattle.plain_types.specs.declared.elem.Elem.{Elem}
use Rattle.board_types.specs.declared.board.Known.{Known}
use Rattle.machine.specs.Data.{Id}
use Rattle.machine.specs.Program.{Body, NativeName}
use Rattle.machine.specs.Texts.{same_text}
use Rattle.machine_rename.specs.Rename.{by_instructions, throws}
use Rattle.classes.specs.Classes.{FieldKind, OwnMethod, Classes}
use Rattle.classes.specs.Queries.{methods_of, own_virtual, first_some, chain, is_interface, is_instance_kind, is_or_implements, library_class, basic_name, known_name}
use Rattle.assemblies.specs.Rows.{TypeToken, TypeDef, TypeRef, TypeSpec, MemberToken, Own, Reference, Scope, OfAssembly, Inside, Nowhere, RawType, TypeRefRow, TypeRow, FieldRow, RawOperand, RawTargets, RawLine, RawClause, RawCode, MethodRow, Assembly}
use Rattle.assemblies.specs.Binding.{resolve_ref, resolve, resolve_method, resolve_field, method_owner, holds, range, classes_of}
use Rattle.assemblies.specs.Chosen.{Choice}
use Rattle.assemblies.specs.Closed.{Each}
use Rattle.kept_closure.specs.Named.{Stands, InOption, EachName}

-- each row of the one choice is one of the other
pub record IsWithin (a b : ℕ → Choice) : Type 0 where
  pub assemblies : (f n : ℕ) → (a f).assemblies n ≡ true → (b f).assemblies n ≡ true
  pub refs : (f n : ℕ) → (a f).refs n ≡ true → (b f).refs n ≡ true
  pub field_refs : (f n : ℕ) → (a f).field_refs n ≡ true → (b f).field_refs n ≡ true
  pub method_refs : (f n : ℕ) → (a f).method_refs n ≡ true → (b f).method_refs n ≡ true
  pub types : (f n : ℕ) → (a f).types n ≡ true → (b f).types n ≡ true
  pub fields : (f n : ℕ) → (a f).fields n ≡ true → (b f).fields n ≡ true
  pub methods : (f n : ℕ) → (a f).methods n ≡ true → (b f).methods n ≡ true
  pub specs : (f n : ℕ) → (a f).specs n ≡ true → (b f).specs n ≡ true

-- ---- a row that a token names is among those of a choice

module _ (k : Choice) where
  abbrev pub HasType : TypeToken → Type 0
  HasType (TypeDef n) = k.types n ≡ true
  HasType (TypeRef n) = k.refs n ≡ true
  HasType (TypeSpec n) = k.specs n ≡ true

  abbrev pub HasScope : Scope → Type 0
  HasScope (OfAssembly n) = k.assemblies n ≡ true
  HasScope (Inside n) = k.refs n ≡ true
  HasScope Nowhere = Unit {0}

  abbrev pub HasRow : ℕ → Type 0
  HasRow n = k.types n ≡ true

  abbrev pub HasMethod : MemberToken → Type 0
  HasMethod (Own n) = k.methods n ≡ true
  HasMethod (Reference n) = k.method_refs n ≡ true

  abbrev pub HasField : MemberToken → Type 0
  HasField (Own n) = k.fields n ≡ true
  HasField (Reference n) = k.field_refs n ≡ true

-- what its rows name is among them: a method has the types of its signature, locals and clauses and what its code names, a reference its
-- scope or parent and the types of its signature, a specification and a field those of theirs, a type its superclass, interfaces and
-- enclosing type
abbrev pub HasNamed : List Assembly → (ℕ → Choice) → Type 0
HasNamed ps keep =
    EachName ps keep (λ f. HasScope (keep f)) (λ f. HasRow (keep f)) (λ f. HasType (keep f)) (λ f. HasType (keep f)) (λ f. HasMethod (keep f)) (λ f. HasField (keep f))

abbrev pub is_literal : FieldKind → Bool
is_literal FieldKind.LiteralField = true
is_literal _ = false

-- a set that has all rows that a conversion may keep: all types and methods, all fields that aren't literal, and what such rows name
pub record HasAll (ps : List Assembly) (rows : ℕ → Choice) : Type 0 where
  pub types : (f n : ℕ) (p : Assembly) (t : TypeRow) → Stands ps (λ q. q.types) f n p t → (rows f).types n ≡ true
  pub methods : (f n : ℕ) (p : Assembly) (m : MethodRow) → Stands ps (λ q. q.methods) f n p m → (rows f).methods n ≡ true
  pub fields : (f n : ℕ) (p : Assembly) (x : FieldRow) → Stands ps (λ q. q.fields) f n p x → is_literal x.kind ≡ false → (rows f).fields n ≡ true
  pub named : HasNamed ps rows

-- ---- closed sets of rows

module _ (size : ℕ) (ps : List Assembly) where
  abbrev high : Classes
  high = classes_of size ps

  abbrev pub Lists : Id → OwnMethod → Type 0
  Lists c m = (i : ℕ) × (slice_get (methods_of high c) i ≡ Some m)

  -- a class's virtual method without newslot takes the slot of the nearest inherited one of equal name and signature (II.10.3.1)
  pub record Overrides (c : Id) (up : List Id) (m inherited : OwnMethod) : Type 0 where
    pub own : Lists c m
    pub is_virtual : m.is_virtual ≡ true
    pub takes : m.is_newslot ≡ false
    -- of the classes above
    pub above : chain high c ≡ c ∷ up
    pub nearest : first_some (own_virtual high m) up ≡ Some inherited

  -- in a class that implements an interface, the body of a method of it: the first virtual one of its name and signature upwards (II.12.2)
  pub record Fills (c i d : Id) (m body : OwnMethod) : Type 0 where
    pub interface : is_interface high i ≡ true
    pub no_interface : is_interface high c ≡ false
    pub implements : is_or_implements high c i ≡ true
    pub asked : Lists i m
    pub owner : method_owner ps body.id ≡ Some d
    pub found : first_some (own_virtual high m) (chain high c) ≡ Some body

  module _ (keep : ℕ → Choice) where
    abbrev pub KeepsType : Id → Type 0
    KeepsType c = (keep c.file).types c.row ≡ true

    abbrev pub KeepsMethod : Id → Type 0
    KeepsMethod m = (keep m.file).methods m.row ≡ true

    abbrev pub KeepsField : Id → Type 0
    KeepsField m = (keep m.file).fields m.row ≡ true

  -- what is kept of any program
  pub record KeepsRoots (keep : ℕ → Choice) : Type 0 where
    pub entry : (f n : ℕ) (p : Assembly) → slice_get ps f ≡ Some p → p.entry ≡ Some n → KeepsMethod keep (record { file = f; row = n })
    -- Object, String and the primitive types
    pub basics : (e : Elem) (name : List ℕ) (c : Id) → basic_name e ≡ Some name → library_class high name ≡ Some c → KeepsType keep c
    pub array : (c : Id) → library_class high (codes "Array") ≡ Some c → KeepsType keep c
    -- the classes of exceptions that instructions throw, and that of all of them
    pub exceptions : (k : Known) (c : Id) → by_instructions k ≡ true → library_class high (known_name k) ≡ Some c → KeepsType keep c
    pub exception : (c : Id) → library_class high (codes "Exception") ≡ Some c → KeepsType keep c

  -- what a kept row keeps
  pub record Keeps (keep : ℕ → Choice) : Type 0 where
    pub roots : KeepsRoots keep
    pub named : HasNamed ps keep
    -- a member its type
    pub method_type : (f n k : ℕ) (p : Assembly) → slice_get ps f ≡ Some p → (keep f).methods n ≡ true → position (λ (t : TypeRow). holds t.first_method t.method_count n) p.types ≡ Some k → (keep f).types k ≡ true
    pub field_type : (f n k : ℕ) (p : Assembly) → slice_get ps f ≡ Some p → (keep f).fields n ≡ true → position (λ (t : TypeRow). holds t.first_field t.field_count n) p.types ≡ Some k → (keep f).types k ≡ true
    -- a reference its definition
    pub defined : (f n : ℕ) (c : Id) → (keep f).refs n ≡ true → resolve_ref size ps f n ≡ Some c → KeepsType keep c
    pub field_defined : (f n : ℕ) (c : Id) → (keep f).field_refs n ≡ true → resolve_field size ps f (Reference n) ≡ Some c → KeepsField keep c
    pub method_defined : (f n : ℕ) (c : Id) → (keep f).method_refs n ≡ true → resolve_method size ps f (Reference n) ≡ Some c → KeepsMethod keep c
    -- a type its instance fields and its initialiser
    pub instance : (f n i : ℕ) (p : Assembly) (t : TypeRow) (x : FieldRow) → Stands ps (λ q. q.types) f n p t → (keep f).types n ≡ true → slice_get (range t.first_field t.field_count p.fields) i ≡ Some x → is_instance_kind x.kind ≡ true → (keep f).fields (t.first_field + i) ≡ true
    pub initialiser : (f n i : ℕ) (p : Assembly) (t : TypeRow) (m : MethodRow) → Stands ps (λ q. q.types) f n p t → (keep f).types n ≡ true → slice_get (range t.first_method t.method_count p.methods) i ≡ Some m → (m.is_static && same_text m.name (codes ".cctor")) ≡ true → (keep f).methods (t.first_method + i) ≡ true
    -- a native the classes of exceptions that it throws
    pub thrown : (f n : ℕ) (p : Assembly) (m : MethodRow) (name : NativeName) (k : Known) (c : Id) → Stands ps (λ q. q.methods) f n p m → (keep f).methods n ≡ true → m.body ≡ Body.Native name → throws name k ≡ true → library_class high (known_name k) ≡ Some c → KeepsType keep c
    -- a virtual method whose type is kept is kept where the one is whose slot it takes, and then that one is kept with it
    pub takes_slot : (c : Id) (up : List Id) (m u : OwnMethod) → Overrides c up m u → KeepsType keep c → KeepsMethod keep u.id → KeepsMethod keep m.id
    pub slot_taken : (c : Id) (up : List Id) (m u : OwnMethod) → Overrides c up m u → KeepsMethod keep m.id → KeepsMethod keep u.id
    -- and where the interface method is that it fills
    pub fills : (c i d : Id) (m body : OwnMethod) → Fills c i d m body → KeepsType keep d → KeepsMethod keep m.id → KeepsMethod keep body.id

  pub record IsClosed (keep : ℕ → Choice) : Type 0 where
    pub keeps : Keeps keep
    -- no row but those that a conversion may keep
    pub within : (all : ℕ → Choice) → HasAll ps all → IsWithin keep all

  -- the rows that a conversion keeps
  pub record IsNeeded (keep : ℕ → Choice) : Type 0 where
    pub closed : IsClosed keep
    pub least : (other : ℕ → Choice) → IsClosed other → IsWithin keep other

-- ---- the other half: what rows name is there, as a verdict says of all rows that a conversion may keep

module _ (size : ℕ) (ps : List Assembly) where
  abbrev pub NamesClass : ℕ → TypeToken → Type 0
  NamesClass f t = (c : Id) × (resolve size ps f t ≡ Some c)

  -- a specification is read as a type, and is no class
  abbrev pub NamesOperand : ℕ → TypeToken → Type 0
  NamesOperand f (TypeDef n) = NamesClass f (TypeDef n)
  NamesOperand f (TypeRef n) = NamesClass f (TypeRef n)
  NamesOperand f (TypeSpec n) = (p : Assembly) × ((s : RawType) × Stands ps (λ q. q.specs) f n p s)

  abbrev pub NamesScope : ℕ → Scope → Type 0
  NamesScope f s = Unit {0}

  abbrev pub NamesRow : ℕ → ℕ → Type 0
  NamesRow f n = (p : Assembly) × ((t : TypeRow) × Stands ps (λ q. q.types) f n p t)

  abbrev pub NamesMethod : ℕ → MemberToken → Type 0
  NamesMethod f t = (c : Id) × (resolve_method size ps f t ≡ Some c)

  abbrev pub NamesField : ℕ → MemberToken → Type 0
  NamesField f t = (c : Id) × (resolve_field size ps f t ≡ Some c)

  pub record Resolves (rows : ℕ → Choice) : Type 0 where
    pub refs : (f n : ℕ) (p : Assembly) (r : TypeRefRow) → Stands ps (λ q. q.refs) f n p r → (rows f).refs n ≡ true → NamesClass f (TypeRef n)
    pub named : EachName ps rows NamesScope NamesRow NamesClass NamesOperand NamesMethod NamesField
    pub entry : (f n : ℕ) (p : Assembly) → slice_get ps f ≡ Some p → p.entry ≡ Some n → (m : MethodRow) × (slice_get p.methods n ≡ Some m)

-- ---- places in code: of an instruction, behind it, its targets, and the bounds of clauses

module _ (keep : ℕ → Choice) where
  abbrev pub Leads : ℕ → ℕ → ℕ → Type 0
  Leads f n at = (keep f).long n ((keep f).short n at) ≡ at

  abbrev pub TargetsLead : ℕ → ℕ → RawOperand → Type 0
  TargetsLead f n (RawTargets to) = Each (λ z. Leads f n (unsigned_abs z) × (pos (unsigned_abs z) ≡ z)) to
  TargetsLead f n _ = Unit {0}

  abbrev pub LineLeads : ℕ → ℕ → RawLine → Type 0
  LineLeads f n l = Leads f n l.at × Leads f n l.next × TargetsLead f n l.operand

  abbrev pub ClauseLeads : ℕ → ℕ → RawClause → Type 0
  ClauseLeads f n c = Leads f n c.try_start × Leads f n c.try_end × Leads f n c.start × Leads f n c.end

  abbrev pub CodeLeads : ℕ → ℕ → RawCode → Type 0
  CodeLeads f n c = Each (ClauseLeads f n) c.clauses × Each (LineLeads f n) c.lines

-- the way to the image and back leads to each place again
abbrev pub PlacesLead : List Assembly → (ℕ → Choice) → Type 0
PlacesLead ps keep = (f n : ℕ) (p : Assembly) (m : MethodRow) → Stands ps (λ q. q.methods) f n p m → (keep f).methods n ≡ true → InOption (CodeLeads keep f n) m.code
