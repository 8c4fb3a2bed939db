-- Rules 27 to 30 of rows: signatures, fields, methods, and names within a type.
use Rattle.std.specs.Prelude.{ℕ, suc, ◌-◌, ◌%◌, ◌==◌, nat_lt, Bool, true, false, cond, not, ◌&&◌, ◌||◌, if◌then◌else◌, List, [], ◌∷◌, length, slice_get, slice_index, Option, Some, None, unwrap_or, is_some, Ok, Err}
use Rattle.std.specs.List.{list_any, list_all, filter_map}
use Rattle.std.specs.Option.{option_map}
use Rattle.file_tables.specs.declared.schema.Coded.TheVariants.{MemberRefParent}
use Rattle.file_tables.specs.Bytes.{has_bit}
use Rattle.file_tables.specs.Metadata.{MetadataPart}
use Rattle.file_tables.specs.File.{FilePart}
use Rattle.cil_sig.specs.declared.places.Position.{Position}
use Rattle.cil_sig.specs.declared.places.Position.TheVariants as positions
use Rattle.cil_sig.specs.declared.sig.SigType.{SigType}
use Rattle.cil_sig.specs.declared.sig.MethodSig.{MethodSig}
use Rattle.cil_sig.specs.Reading.{Part, whole_field, whole_method, whole_locals, whole_spec}
use Rattle.cil_sig.specs.Places.{place_of}
use Rattle.machine.specs.Data.{Id}
use Rattle.machine.specs.Program.{Code}
use Rattle.machine.specs.Throw.{on_some}
use Rattle.classes.specs.Classes.{Class, OwnField, OwnMethod, Reference}
use Rattle.classes.specs.Classes.{SigType as NamedType}
use Rattle.classes.specs.Queries.{is_named, is_field_named}
use Rattle.class_rules.specs.Rules.{holds_some, only_if, sig_fits, field_signature_fits, is_handle, is_data_kind, field_stands_well, method_stands_well}
use Rattle.assemblies.specs.Rows.{TypeRow, Assembly}
use Rattle.assemblies.specs.Binding.{id_at, numbered, holds}
use Rattle.world_rows.specs.Tokens.{member_refs, type_specs, bytes_at, coded_type, is_field_ref}
use Rattle.world_rows.specs.Signatures.{raw_type, is_void}
use Rattle.world_rows.specs.Rows.{is_internal}
use Rattle.world_rows.specs.Kinds.{data_of}
use Rattle.world_rows.specs.Looked.{is_looked_at}
use Rattle.verdict_rules.specs.Order.{Test, test, unless_at}
use Rattle.verdict_rules.specs.World.{World, classes_of, named_class, named_type, field_row, method_row, no_type}

-- ---- 27: a signature (II.23.2) has a form, and each type in it names one of its kind

-- a type in a signature, and where it stands
pub record Spelling : Type 0 where
  pub position : Position
  pub type : SigType

abbrev pub spelling : Position → SigType → Spelling
spelling position type = record { position = position; type = type }

abbrev pub in_field : SigType → List Spelling
in_field s = spelling positions.Field s ∷ []

abbrev pub in_spec : SigType → List Spelling
in_spec s = spelling positions.Spec s ∷ []

abbrev pub in_locals : List SigType → List Spelling
in_locals ss = numbered (λ k s. spelling (positions.Local k) s) 0 ss

-- from left to right
abbrev pub in_method : MethodSig → List Spelling
in_method s = spelling positions.Returned s.returns ∷ numbered (λ k p. spelling (positions.Parameter k) p) 0 s.params

-- the offset of the byte before the first type that fails
abbrev pub first_wrong : List ℕ → (Spelling → Bool) → List Spelling → Option ℕ
first_wrong blob fits [] = None
first_wrong blob fits (s ∷ ss) = cond (fits s) (first_wrong blob fits ss) (Some (unwrap_or (place_of s.position blob) 0))

-- the offset at which the grammar has no case, else that of the first type that fails
abbrev pub wrong_at : {A : Type 0} → List ℕ → Part A → (A → List Spelling) → (Spelling → Bool) → Option ℕ
wrong_at blob (Err left) types fits = Some (length blob - left)
wrong_at blob (Ok s) types fits = first_wrong blob fits (types s)

abbrev pub type_fits : World → ℕ → MetadataPart → (NamedType → Bool) → SigType → Bool
type_fits w file m fits s = holds_some (named_type w file (raw_type m s)) fits

-- a type of a place
abbrev pub place_fits : World → ℕ → MetadataPart → Spelling → Bool
place_fits w file m s = type_fits w file m (sig_fits (classes_of w)) s.type

-- a result may be void; a parameter in the library may be a handle
abbrev pub method_place_fits : World → ℕ → MetadataPart → Bool → Position → SigType → Bool
method_place_fits w file m handles positions.Returned s = is_void s.elem || type_fits w file m (sig_fits (classes_of w)) s
method_place_fits w file m handles (positions.Parameter k) s =
    type_fits w file m (λ t. sig_fits (classes_of w) t || (handles && is_handle (classes_of w) t)) s
method_place_fits w file m handles _ s = type_fits w file m (sig_fits (classes_of w)) s

abbrev pub method_wrong : World → ℕ → MetadataPart → Bool → List ℕ → Option ℕ
method_wrong w file m handles blob = wrong_at blob (whole_method blob) in_method (λ s. method_place_fits w file m handles s.position s.type)

-- a data field may be of a data type
abbrev pub own_field_fits : World → Option OwnField → Bool
own_field_fits w f = holds_some f (field_signature_fits (classes_of w))

abbrev pub field_wrong : World → ℕ → ℕ → List ℕ → Option ℕ
field_wrong w file n blob = wrong_at blob (whole_field blob) in_field (λ s. own_field_fits w (field_row w file n))

-- a reference to a member, of the library's where its type is
abbrev pub is_of_library : World → ℕ → MetadataPart → List ℕ → Bool
is_of_library w file m row = holds_some (named_class w file (coded_type m MemberRefParent (slice_index row 0))) (λ (c : Id). c.file == 0)

abbrev pub reference_wrong : World → ℕ → MetadataPart → List ℕ → Option ℕ
reference_wrong w file m row =
    if is_field_ref m row then wrong_at (bytes_at m (slice_index row 2)) (whole_field (bytes_at m (slice_index row 2))) in_field (place_fits w file m)
    else method_wrong w file m (is_of_library w file m row) (bytes_at m (slice_index row 2))

-- of a row that is looked at
abbrev pub where_looked_at : FilePart → ℕ → ℕ → Option ℕ → Option ℕ
where_looked_at x table n wrong = if is_looked_at x table (suc n) then wrong else None

abbrev pub reference_tests : World → ℕ → FilePart → ℕ → List ℕ → List Test
reference_tests w file x n row = unless_at 27 (where_looked_at x member_refs n (reference_wrong w file x.metadata row)) ∷ []

abbrev pub locals_wrong : World → ℕ → MetadataPart → List ℕ → Option ℕ
locals_wrong w file m blob = wrong_at blob (whole_locals blob) in_locals (place_fits w file m)

abbrev pub locals_tests : World → ℕ → MetadataPart → ℕ → List ℕ → List Test
locals_tests w file m n row = unless_at 27 (locals_wrong w file m (bytes_at m (slice_index row 0))) ∷ []

abbrev pub spec_wrong : World → ℕ → MetadataPart → List ℕ → Option ℕ
spec_wrong w file m blob = wrong_at blob (whole_spec blob) in_spec (place_fits w file m)

abbrev pub spec_tests : World → ℕ → FilePart → ℕ → List ℕ → List Test
spec_tests w file x n row = unless_at 27 (where_looked_at x type_specs n (spec_wrong w file x.metadata (bytes_at x.metadata (slice_index row 0)))) ∷ []

-- ---- 28: fields (II.22.15)

-- the types in whose list a field is: one at most, as the lists of a file's types don't overlap
abbrev pub lists_field : ℕ → TypeRow → Bool
lists_field n t = holds t.first_field t.field_count n

abbrev pub if_lists : ℕ → ℕ → ℕ → TypeRow → Option Id
if_lists file n row t = if lists_field n t then Some (id_at file row) else None

abbrev pub field_owners : World → ℕ → ℕ → List Id
field_owners w file n = unwrap_or (option_map (λ (p : Assembly). filter_map (λ o. o) (numbered (if_lists file n) 0 p.types)) (slice_get w.rows file)) []

abbrev pub in_class : World → (Id → Class → Bool) → Id → Bool
in_class w holds_of c = holds_some ((classes_of w).class c) (holds_of c)

-- the bytes of a data field are in a section, as many as its type has
abbrev pub has_bytes : World → ℕ → ℕ → OwnField → Bool
has_bytes w file n f = only_if (is_data_kind f.kind) (is_some (data_of w.size w.files w.alone (id_at file n)))

abbrev pub field_well : World → ℕ → ℕ → OwnField → Bool
field_well w file n f = list_all (in_class w (λ c k. field_stands_well c k f)) (field_owners w file n) && has_bytes w file n f

-- 30: no earlier field of its type has the name and the signature
abbrev pub is_before_field : ℕ → OwnField → OwnField → Bool
is_before_field n f e = nat_lt e.id.row n && is_field_named f.name f.signature e

abbrev pub is_field_apart : World → ℕ → ℕ → OwnField → Bool
is_field_apart w file n f = list_all (in_class w (λ c k. not (list_any (is_before_field n f) k.fields))) (field_owners w file n)

abbrev pub of_member : {A : Type 0} → Option A → (A → Bool) → Bool
of_member None holds_of = true
of_member (Some member) holds_of = holds_of member

abbrev pub field_tests : World → ℕ → MetadataPart → ℕ → List ℕ → List Test
field_tests w file m n row =
    unless_at 27 (field_wrong w file n (bytes_at m (slice_index row 2)))
    ∷ test 28 (of_member (field_row w file n) (field_well w file n))
    ∷ test 30 (of_member (field_row w file n) (is_field_apart w file n))
    ∷ []

-- ---- 29: methods (II.22.26)

-- in IL (II.23.1.11), neither unmanaged nor synchronized nor P/Invoke; an internal call in the library alone, and without a body
abbrev pub is_plain_method : ℕ → List ℕ → Bool
is_plain_method file row =
    (slice_index row 1 % 4 == 0)
    && (not (has_bit (slice_index row 1) 2)
    && (not (has_bit (slice_index row 1) 5)
    && (not (has_bit (slice_index row 2) 13)
    && not (is_internal row && (nat_lt 1 file || not (slice_index row 0 == 0))))))

-- of its class nothing is asked where no type has the method
abbrev pub no_class : Class
no_class =
    record {
      namespace = [];
      name = [];
      enclosing = None;
      superclass = None;
      interfaces = [];
      kind = Reference;
      is_interface = true;
      is_abstract = true;
      is_lazy = false;
      fields = [];
      methods = [];
    }

abbrev pub in_owner : {A : Type 0} → World → FilePart → OwnMethod → (Id → Class → A) → A
in_owner w x m of_owner =
    unwrap_or (on_some ((classes_of w).method_owner m.id) (λ c. option_map (of_owner c) ((classes_of w).class c))) (of_owner (no_type m.id.file x) no_class)

-- an internal call stands for a body, whichever it is: that each is a native is asked of the library's files as a whole
abbrev pub with_body : List ℕ → OwnMethod → OwnMethod
with_body row m = if is_internal row then record m { body = Code } else m

abbrev pub method_well : World → FilePart → List ℕ → OwnMethod → Bool
method_well w x row m = is_plain_method m.id.file row && in_owner w x m (λ c k. method_stands_well (classes_of w) c k (with_body row m))

-- 30: no earlier method of its type has the name and the signature
abbrev pub is_before_method : OwnMethod → OwnMethod → Bool
is_before_method m e = nat_lt e.id.row m.id.row && is_named m.name m.signature e

abbrev pub is_method_apart : World → FilePart → OwnMethod → Bool
is_method_apart w x m = in_owner w x m (λ c k. not (list_any (is_before_method m) k.methods))

abbrev pub method_tests : World → ℕ → FilePart → ℕ → List ℕ → List Test
method_tests w file x n row =
    unless_at 27 (method_wrong w file x.metadata (file == 0) (bytes_at x.metadata (slice_index row 4)))
    ∷ test 29 (of_member (method_row w file n) (method_well w x row))
    ∷ test 30 (of_member (method_row w file n) (is_method_apart w x))
    ∷ []
