-- The rows of types and members of an image by their columns.
use Rattle.std.proofs.Common.{◌≡◌, ℕ, ◌<◌, ◌≤◌, ◌&&◌, Bool, true, false, List, [], ◌∷◌, map, length, Option, Some, None, refl, sym, ap, ◌∙◌, arith}
use Rattle.std.specs.Prelude.{IsSome, slice_get, slice_index, nat_eq, nat_lt, if◌then◌else◌}
use Rattle.std.specs.Option.{option_map}
use Rattle.std.proofs.lemmas.Bool.{lt-ltb}
use Rattle.std.proofs.lemmas.Option.{slice_get-map, slice_get-get_or, slice_get_within, slice_get_past}
use Rattle.machine.specs.Throw.{on_some}
use Rattle.machine.specs.Program.{Body, Code, Missing}
use Rattle.classes.specs.Classes.{FieldKind, DataField, TypeKind}
use Rattle.image_bytes.specs.Layout.{Image, rows_of, is_range}
use Rattle.assemblies.specs.Rows.{TypeToken, RawType, RawSignature, RawClause, RawCode, FieldRefRow, MethodRefRow, TypeRow, FieldRow, MethodRow}
use Rattle.image_form.specs.Signatures.{type_token}
use Rattle.image_form.specs.Form.{Held, on_both, all_some, none_or, checked, part, bit, static_kind, kind_of, native_body, name_text, name_at, part_at, field_ref_at, method_ref_at, type_at, field_kind_at, field_at, interface_at, data_at, lines_at, body_with, body_at, locals_at, method_at, make_field_ref, make_method_ref, make_type, make_field, make_method}
use Rattle.image_form.specs.Whole.{table, bytes_at, row_in, token_in, has_row, held, nothing_held, image_rows}
use Rattle.image_pools.specs.Pools.{text_at}
use Rattle.msspot_read.specs.Rows.{row_of, text_in, data_of}
use Rattle.tiny_rows.specs.Rows.{rows_seen, name_in, row_word}
use Rattle.tiny_rows.proofs.Parts.{some_back, map_back, both_back, all_many, rows_are, there, past, Parts, parts_of}
use Rattle.tiny_rows.proofs.RowLaws.{seen_of}
use Rattle.tiny_members.specs.Rows.{token_word, field_type_in, method_type_in, interfaces_seen, field_kind_in, body_told, without_code}

checked_back : {A : Type 0} (b : Bool) (x y : A) → checked b x ≡ Some y → x ≡ y
checked_back true x y e = cc e
checked_back false x y e = cc e

pub is_some_from : {A : Type 0} (o : Option A) (x : A) → o ≡ Some x → IsSome o
is_some_from None x e = cc e
is_some_from (Some y) x e = refl

-- ---- interfaces

interfaces_back : (read : List ℕ → Option TypeToken) → ((r : List ℕ) (z : TypeToken) → read r ≡ Some z → z ≡ type_token (slice_index r 0)) → (xs : List (List ℕ)) (ys : List TypeToken) → all_some read xs ≡ Some ys → ys ≡ map (λ row. type_token (slice_index row 0)) xs
interfaces_back read one [] ys e = cc e
interfaces_back read one (x ∷ xs) ys e =
    let b = both_back (option_map (λ z zs. z ∷ zs) (read x)) (all_some read xs) ys e in
    let m = map_back (λ z (zs : List TypeToken). z ∷ zs) (read x) b.0 b.2 in
    sym (ap (λ k. k b.1) m.2 ∙ b.4) ∙ ap (λ z. z ∷ b.1) (one x m.0 m.1) ∙ ap (λ zs. type_token (slice_index x 0) ∷ zs) (interfaces_back read one xs b.1 b.3)

pub interface_there : (i : Image) (n : ℕ) → n < rows_of i 5 → slice_get (interfaces_seen i) n ≡ Some (type_token (slice_index (row_of i 5 n) 0))
interface_there i n low =
    let size = rows_are i 5 in
    slice_get-map (λ row. type_token (slice_index row 0)) (table i 5) n
    ∙ ap (option_map (λ row. type_token (slice_index row 0))) (slice_get-get_or (table i 5) n [] (omega (arith, low, size)))

pub interface_past : (i : Image) (n : ℕ) → rows_of i 5 ≤ n → None ≡ slice_get (interfaces_seen i) n
interface_past i n high =
    let size = rows_are i 5 in
    sym (slice_get-map (λ row. type_token (slice_index row 0)) (table i 5) n ∙ ap (option_map (λ row. type_token (slice_index row 0))) (slice_get_past (table i 5) n (omega (arith, high, size))))

module _ (i : Image) (rows : IsSome (image_rows i)) where
  parts : Parts i (rows_seen i)
  parts = parts_of i (rows_seen i) (seen_of i rows)

  abbrev h : Held
  h = held i parts.strings parts.signatures parts.interfaces parts.clauses parts.datas

  named : (at : ℕ) (name : List ℕ) → name_at h at ≡ Some name → name_in i at ≡ Some name
  named at name e = ap (λ (o : Option (List (List ℕ))). on_some (on_some o (λ ts. text_at ts at)) name_text) parts.string_texts ∙ e

  signed : (at : ℕ) (b : List ℕ) → h.signature at ≡ Some b → text_in i 1 at ≡ Some b
  signed at b e = ap (λ (o : Option (List (List ℕ))). on_some o (λ ts. text_at ts at)) parts.signature_texts ∙ e

  token_back : (w : ℕ) (t : TypeToken) → token_in i w ≡ Some t → t ≡ type_token w
  token_back w t e = sym (checked_back (has_row i (type_token w)) (type_token w) t e)

  -- ---- how many rows there are
  pub fields_counted : (n : ℕ) → n ≡ rows_of i 6 → n ≡ length (rows_seen i).fields
  fields_counted n e = e ∙ sym (rows_are i 6) ∙ all_many (field_at h) (table i 6) (rows_seen i).fields parts.of_held.fields

  pub methods_counted : (n : ℕ) → n ≡ rows_of i 7 → n ≡ length (rows_seen i).methods
  methods_counted n e = e ∙ sym (rows_are i 7) ∙ all_many (method_at h) (table i 7) (rows_seen i).methods parts.of_held.methods

  pub field_refs_counted : (n : ℕ) → n ≡ rows_of i 2 → n ≡ length (rows_seen i).field_refs
  field_refs_counted n e = e ∙ sym (rows_are i 2) ∙ all_many (field_ref_at h) (table i 2) (rows_seen i).field_refs parts.of_held.field_refs

  pub method_refs_counted : (n : ℕ) → n ≡ rows_of i 3 → n ≡ length (rows_seen i).method_refs
  method_refs_counted n e = e ∙ sym (rows_are i 3) ∙ all_many (method_ref_at h) (table i 3) (rows_seen i).method_refs parts.of_held.method_refs

  -- ---- names and signatures that were joined
  member_back : {S R Z : Type 0} (read : List ℕ → Option S) (make : List ℕ → S → Z → R) (a b : ℕ) (o : Option Z) (y : R) → on_both (on_both (option_map make (name_at h a)) (on_some (h.signature b) read)) o ≡ Some y
      → (name : List ℕ) × (bytes : List ℕ) × (s : S) × (z : Z) × (name_in i a ≡ Some name) × (text_in i 1 b ≡ Some bytes) × (read bytes ≡ Some s) × (o ≡ Some z) × (make name s z ≡ y)
  member_back read make a b o y e =
      let p = both_back (on_both (option_map make (name_at h a)) (on_some (h.signature b) read)) o y e in
      let q = both_back (option_map make (name_at h a)) (on_some (h.signature b) read) p.0 p.2 in
      let m = map_back make (name_at h a) q.0 q.2 in
      let t = some_back (h.signature b) read q.1 q.3 in
      (m.0, t.0, q.1, p.1, named a m.0 m.1, signed b t.0 t.1, t.2, p.3, ap (λ k. k q.1 p.1) m.2 ∙ ap (λ k. k p.1) q.4 ∙ p.4)

  ref_back : {S R : Type 0} (read : List ℕ → Option S) (make : TypeToken → List ℕ → S → R) (a b d : ℕ) (y : R) → on_both (on_both (option_map make (token_in i a)) (name_at h b)) (on_some (h.signature d) read) ≡ Some y
      → (name : List ℕ) × (bytes : List ℕ) × (s : S) × (name_in i b ≡ Some name) × (text_in i 1 d ≡ Some bytes) × (read bytes ≡ Some s) × (make (type_token a) name s ≡ y)
  ref_back read make a b d y e =
      let p = both_back (on_both (option_map make (token_in i a)) (name_at h b)) (on_some (h.signature d) read) y e in
      let q = both_back (option_map make (token_in i a)) (name_at h b) p.0 p.2 in
      let m = map_back make (token_in i a) q.0 q.2 in
      let t = some_back (h.signature d) read p.1 p.3 in
      (q.1, t.0, p.1, named b q.1 q.3, signed d t.0 t.1, t.2, ap (λ k. make k q.1 p.1) (sym (token_back a m.0 m.1)) ∙ ap (λ k. k q.1 p.1) m.2 ∙ ap (λ k. k p.1) q.4 ∙ p.4)

  -- ---- references
  pub record FieldRefRead (r : List ℕ) (y : FieldRefRow) : Type 0 where
    pub name : List ℕ
    pub bytes : List ℕ
    pub type : RawType
    pub named : name_in i (slice_index r 1) ≡ Some name
    pub signed : text_in i 1 (slice_index r 2) ≡ Some bytes
    pub typed : field_type_in i bytes ≡ Some type
    pub is : make_field_ref (type_token (slice_index r 0)) name type ≡ y

  field_ref_read : (r : List ℕ) (y : FieldRefRow) → field_ref_at h r ≡ Some y → FieldRefRead r y
  field_ref_read [] y e = cc e
  field_ref_read (a ∷ []) y e = cc e
  field_ref_read (a ∷ b ∷ []) y e = cc e
  field_ref_read (a ∷ b ∷ d ∷ x ∷ r) y e = cc e
  field_ref_read (a ∷ b ∷ d ∷ []) y e =
      let w = ref_back (field_type_in i) make_field_ref a b d y e in
      record { name = w.0; bytes = w.1; type = w.2; named = w.3; signed = w.4; typed = w.5; is = w.6 }

  pub record FieldRefThere (n : ℕ) : Type 0 where
    pub of : FieldRefRow
    pub read : FieldRefRead (row_of i 2 n) of
    pub row : slice_get (rows_seen i).field_refs n ≡ Some of

  pub field_ref_there : (n : ℕ) → n < rows_of i 2 → FieldRefThere n
  field_ref_there n low = let t = there i 2 n (field_ref_at h) (rows_seen i).field_refs parts.of_held.field_refs low in record { of = t.0; read = field_ref_read (row_of i 2 n) t.0 t.1; row = t.2 }

  pub field_ref_past : (n : ℕ) → rows_of i 2 ≤ n → None ≡ slice_get (rows_seen i).field_refs n
  field_ref_past n high = sym (past i 2 n (field_ref_at h) (rows_seen i).field_refs parts.of_held.field_refs high)

  pub field_ref_made : (n : ℕ) → (t : FieldRefThere n) → (parent : ℕ) (name bytes : List ℕ) → parent ≡ slice_index (row_of i 2 n) 0 → Some name ≡ name_in i (slice_index (row_of i 2 n) 1) → Some bytes ≡ text_in i 1 (slice_index (row_of i 2 n) 2) → option_map (make_field_ref (type_token parent) name) (field_type_in i bytes) ≡ slice_get (rows_seen i).field_refs n
  field_ref_made n t parent name bytes e f g =
      let name_is : name ≡ t.read.name = cc (f ∙ t.read.named) in
      let bytes_are : bytes ≡ t.read.bytes = cc (g ∙ t.read.signed) in
      ap (λ b. option_map (make_field_ref (type_token parent) name) (field_type_in i b)) bytes_are
      ∙ ap (option_map (make_field_ref (type_token parent) name)) t.read.typed
      ∙ ap (λ w. Some (make_field_ref (type_token w) name t.read.type)) e
      ∙ ap (λ x. Some (make_field_ref (type_token (slice_index (row_of i 2 n) 0)) x t.read.type)) name_is
      ∙ ap Some t.read.is
      ∙ sym t.row

  pub record MethodRefRead (r : List ℕ) (y : MethodRefRow) : Type 0 where
    pub name : List ℕ
    pub bytes : List ℕ
    pub type : RawSignature
    pub named : name_in i (slice_index r 1) ≡ Some name
    pub signed : text_in i 1 (slice_index r 2) ≡ Some bytes
    pub typed : method_type_in i bytes ≡ Some type
    pub is : make_method_ref (type_token (slice_index r 0)) name type ≡ y

  method_ref_read : (r : List ℕ) (y : MethodRefRow) → method_ref_at h r ≡ Some y → MethodRefRead r y
  method_ref_read [] y e = cc e
  method_ref_read (a ∷ []) y e = cc e
  method_ref_read (a ∷ b ∷ []) y e = cc e
  method_ref_read (a ∷ b ∷ d ∷ x ∷ r) y e = cc e
  method_ref_read (a ∷ b ∷ d ∷ []) y e =
      let w = ref_back (method_type_in i) make_method_ref a b d y e in
      record { name = w.0; bytes = w.1; type = w.2; named = w.3; signed = w.4; typed = w.5; is = w.6 }

  pub record MethodRefThere (n : ℕ) : Type 0 where
    pub of : MethodRefRow
    pub read : MethodRefRead (row_of i 3 n) of
    pub row : slice_get (rows_seen i).method_refs n ≡ Some of

  pub method_ref_there : (n : ℕ) → n < rows_of i 3 → MethodRefThere n
  method_ref_there n low = let t = there i 3 n (method_ref_at h) (rows_seen i).method_refs parts.of_held.method_refs low in record { of = t.0; read = method_ref_read (row_of i 3 n) t.0 t.1; row = t.2 }

  pub method_ref_past : (n : ℕ) → rows_of i 3 ≤ n → None ≡ slice_get (rows_seen i).method_refs n
  method_ref_past n high = sym (past i 3 n (method_ref_at h) (rows_seen i).method_refs parts.of_held.method_refs high)

  pub method_ref_made : (n : ℕ) → (t : MethodRefThere n) → (parent : ℕ) (name bytes : List ℕ) → parent ≡ slice_index (row_of i 3 n) 0 → Some name ≡ name_in i (slice_index (row_of i 3 n) 1) → Some bytes ≡ text_in i 1 (slice_index (row_of i 3 n) 2) → option_map (make_method_ref (type_token parent) name) (method_type_in i bytes) ≡ slice_get (rows_seen i).method_refs n
  method_ref_made n t parent name bytes e f g =
      let name_is : name ≡ t.read.name = cc (f ∙ t.read.named) in
      let bytes_are : bytes ≡ t.read.bytes = cc (g ∙ t.read.signed) in
      ap (λ b. option_map (make_method_ref (type_token parent) name) (method_type_in i b)) bytes_are
      ∙ ap (option_map (make_method_ref (type_token parent) name)) t.read.typed
      ∙ ap (λ w. Some (make_method_ref (type_token w) name t.read.type)) e
      ∙ ap (λ x. Some (make_method_ref (type_token (slice_index (row_of i 3 n) 0)) x t.read.type)) name_is
      ∙ ap Some t.read.is
      ∙ sym t.row

  -- ---- fields
  data_back : (r y : List ℕ) → data_at (bytes_at i 3) r ≡ Some y → y ≡ part (slice_index r 0) (slice_index r 1) (bytes_at i 3)
  data_back [] y e = cc e
  data_back (a ∷ []) y e = cc e
  data_back (a ∷ b ∷ x ∷ r) y e = cc e
  data_back (a ∷ b ∷ []) y e = sym (checked_back _ (part a b (bytes_at i 3)) y e)

  data_there : (d : ℕ) (y : List ℕ) → slice_get parts.datas d ≡ Some y → checked (nat_lt d (rows_of i 10)) (DataField (data_of i d)) ≡ Some (DataField y)
  data_there d y e =
      let many = all_many (data_at (bytes_at i 3)) (table i 10) parts.datas parts.data_rows in
      let size = rows_are i 10 in
      let within = slice_get_within parts.datas d y e in
      let low : d < rows_of i 10 = omega arith in
      let t = there i 10 d (data_at (bytes_at i 3)) parts.datas parts.data_rows low in
      let same : t.0 ≡ y = cc (sym t.2 ∙ e) in
      ap (λ b. checked b (DataField (data_of i d))) (lt-ltb d (rows_of i 10) low) ∙ ap (λ z. Some (DataField z)) (sym (data_back (row_of i 10 d) t.0 t.1) ∙ same)

  kind_back : (flags d : ℕ) (k : FieldKind) → field_kind_at h flags d ≡ Some k → field_kind_in i flags d ≡ Some k
  kind_back flags d k e = by (nat_eq d 65535) e
    where
      by : (b : Bool) → (if b then Some (static_kind (bit 1 flags)) else option_map DataField (slice_get parts.datas d)) ≡ Some k → (if b then Some (static_kind (bit 1 flags)) else checked (nat_lt d (rows_of i 10)) (DataField (data_of i d))) ≡ Some k
      by true f = f
      by false f = let m = map_back DataField (slice_get parts.datas d) k f in data_there d m.0 m.1 ∙ ap Some m.2

  pub record FieldRead (r : List ℕ) (y : FieldRow) : Type 0 where
    pub name : List ℕ
    pub bytes : List ℕ
    pub type : RawType
    pub kind : FieldKind
    pub named : name_in i (slice_index r 0) ≡ Some name
    pub signed : text_in i 1 (slice_index r 1) ≡ Some bytes
    pub typed : field_type_in i bytes ≡ Some type
    pub kept : field_kind_in i (slice_index r 2) (slice_index r 3) ≡ Some kind
    pub is : make_field name type kind ≡ y

  field_read : (r : List ℕ) (y : FieldRow) → field_at h r ≡ Some y → FieldRead r y
  field_read [] y e = cc e
  field_read (a ∷ []) y e = cc e
  field_read (a ∷ b ∷ []) y e = cc e
  field_read (a ∷ b ∷ flags ∷ []) y e = cc e
  field_read (a ∷ b ∷ flags ∷ d ∷ x ∷ r) y e = cc e
  field_read (a ∷ b ∷ flags ∷ d ∷ []) y e =
      let w = member_back (field_type_in i) make_field a b (field_kind_at h flags d) y e in
      record { name = w.0; bytes = w.1; type = w.2; kind = w.3; named = w.4; signed = w.5; typed = w.6; kept = kind_back flags d w.3 w.7; is = w.8 }

  pub record FieldThere (n : ℕ) : Type 0 where
    pub of : FieldRow
    pub read : FieldRead (row_of i 6 n) of
    pub row : slice_get (rows_seen i).fields n ≡ Some of

  pub field_there : (n : ℕ) → n < rows_of i 6 → FieldThere n
  field_there n low = let t = there i 6 n (field_at h) (rows_seen i).fields parts.of_held.fields low in record { of = t.0; read = field_read (row_of i 6 n) t.0 t.1; row = t.2 }

  pub field_past : (n : ℕ) → rows_of i 6 ≤ n → None ≡ slice_get (rows_seen i).fields n
  field_past n high = sym (past i 6 n (field_at h) (rows_seen i).fields parts.of_held.fields high)

  pub kind_there : (n : ℕ) → FieldThere n → (flags place : ℕ) → flags ≡ slice_index (row_of i 6 n) 2 → place ≡ slice_index (row_of i 6 n) 3 → IsSome (field_kind_in i flags place)
  kind_there n t flags place e g = is_some_from _ t.read.kind (ap (λ w. field_kind_in i w place) e ∙ ap (field_kind_in i (slice_index (row_of i 6 n) 2)) g ∙ t.read.kept)

  abbrev pub with_kind : List ℕ → FieldKind → RawType → FieldRow
  with_kind name kind s = make_field name s kind

  pub field_made : (n : ℕ) → (t : FieldThere n) → (name bytes : List ℕ) (kind : FieldKind) (flags place : ℕ) → Some name ≡ name_in i (slice_index (row_of i 6 n) 0) → Some bytes ≡ text_in i 1 (slice_index (row_of i 6 n) 1)
      → flags ≡ slice_index (row_of i 6 n) 2 → place ≡ slice_index (row_of i 6 n) 3 → Some kind ≡ field_kind_in i flags place → option_map (with_kind name kind) (field_type_in i bytes) ≡ slice_get (rows_seen i).fields n
  field_made n t name bytes kind flags place e g e2 e3 k =
      let name_is : name ≡ t.read.name = cc (e ∙ t.read.named) in
      let bytes_are : bytes ≡ t.read.bytes = cc (g ∙ t.read.signed) in
      let kind_is : kind ≡ t.read.kind = cc (k ∙ ap (λ w. field_kind_in i w place) e2 ∙ ap (field_kind_in i (slice_index (row_of i 6 n) 2)) e3 ∙ t.read.kept) in
      ap (λ b. option_map (with_kind name kind) (field_type_in i b)) bytes_are
      ∙ ap (option_map (with_kind name kind)) t.read.typed
      ∙ ap (λ x. Some (make_field x t.read.type kind)) name_is
      ∙ ap (λ x. Some (make_field t.read.name t.read.type x)) kind_is
      ∙ ap Some t.read.is
      ∙ sym t.row

  -- ---- methods
  body_by : {B C : Type 0} (t u : Bool) (x y z : Bool) (p q r : B × C) (b : B × C) → (if t then checked x p else (if u then checked y q else checked z r)) ≡ Some b → (if t then p.0 else (if u then q.0 else r.0)) ≡ b.0
  body_by true u x y z p q r b e = ap (λ w. w.0) (checked_back x p b e)
  body_by false true x y z p q r b e = ap (λ w. w.0) (checked_back y q b e)
  body_by false false x y z p q r b e = ap (λ w. w.0) (checked_back z r b e)

  body_back : (flags start count most : ℕ) (ts : List RawType) (cs : List RawClause) (b : Body × Option RawCode) → body_with h flags start count most ts cs ≡ Some b → body_told flags start ≡ b.0
  body_back flags start count most ts cs b e = body_by (bit 16 flags) (nat_eq start 65535) _ _ _ (native_body start, None) (Missing, None) (Code, Some (record { locals = ts; max_stack = most; clauses = cs; lines = lines_at h start count })) b e

  pub record MethodRead (r : List ℕ) (y : MethodRow) : Type 0 where
    pub name : List ℕ
    pub bytes : List ℕ
    pub type : RawSignature
    pub runs : Body × Option RawCode
    pub named : name_in i (slice_index r 0) ≡ Some name
    pub signed : text_in i 1 (slice_index r 1) ≡ Some bytes
    pub typed : method_type_in i bytes ≡ Some type
    pub body : body_told (slice_index r 2) (slice_index r 3) ≡ runs.0
    pub is : make_method (slice_index r 2) name type runs ≡ y

  method_read : (r : List ℕ) (y : MethodRow) → method_at h r ≡ Some y → MethodRead r y
  method_read [] y e = cc e
  method_read (a ∷ []) y e = cc e
  method_read (a ∷ b ∷ []) y e = cc e
  method_read (a ∷ b ∷ flags ∷ []) y e = cc e
  method_read (a ∷ b ∷ flags ∷ start ∷ []) y e = cc e
  method_read (a ∷ b ∷ flags ∷ start ∷ count ∷ []) y e = cc e
  method_read (a ∷ b ∷ flags ∷ start ∷ count ∷ locals ∷ []) y e = cc e
  method_read (a ∷ b ∷ flags ∷ start ∷ count ∷ locals ∷ most ∷ []) y e = cc e
  method_read (a ∷ b ∷ flags ∷ start ∷ count ∷ locals ∷ most ∷ first ∷ []) y e = cc e
  method_read (a ∷ b ∷ flags ∷ start ∷ count ∷ locals ∷ most ∷ first ∷ clauses ∷ x ∷ r) y e = cc e
  method_read (a ∷ b ∷ flags ∷ start ∷ count ∷ locals ∷ most ∷ first ∷ clauses ∷ []) y e =
      let w = member_back (method_type_in i) (make_method flags) a b (body_at h flags start count locals most first clauses) y e in
      let ts = some_back (locals_at h locals) (λ ts. on_some (part_at h first clauses h.clauses) (body_with h flags start count most ts)) w.3 w.7 in
      let cs = some_back (part_at h first clauses h.clauses) (body_with h flags start count most ts.0) w.3 ts.2 in
      record { name = w.0; bytes = w.1; type = w.2; runs = w.3; named = w.4; signed = w.5; typed = w.6; body = body_back flags start count most ts.0 cs.0 w.3 cs.2; is = w.8 }

  pub record MethodThere (n : ℕ) : Type 0 where
    pub of : MethodRow
    pub read : MethodRead (row_of i 7 n) of
    pub row : slice_get (rows_seen i).methods n ≡ Some of

  pub method_there : (n : ℕ) → n < rows_of i 7 → MethodThere n
  method_there n low = let t = there i 7 n (method_at h) (rows_seen i).methods parts.of_held.methods low in record { of = t.0; read = method_read (row_of i 7 n) t.0 t.1; row = t.2 }

  pub method_past : (n : ℕ) → rows_of i 7 ≤ n → None ≡ option_map without_code (slice_get (rows_seen i).methods n)
  method_past n high = sym (ap (option_map without_code) (past i 7 n (method_at h) (rows_seen i).methods parts.of_held.methods high))

  abbrev pub headed : List ℕ → Bool → Bool → Bool → Bool → Body → RawSignature → MethodRow
  headed name a b d f body s = record { name = name; signature = s; is_static = a; is_virtual = b; is_newslot = d; is_abstract = f; body = body; code = None }

  pub method_made : (n : ℕ) → (t : MethodThere n) → (name bytes : List ℕ) (a b d f : Bool) (body : Body) (flags start : ℕ) → Some name ≡ name_in i (slice_index (row_of i 7 n) 0) → Some bytes ≡ text_in i 1 (slice_index (row_of i 7 n) 1)
      → flags ≡ slice_index (row_of i 7 n) 2 → start ≡ slice_index (row_of i 7 n) 3 → a ≡ bit 1 flags → b ≡ bit 2 flags → d ≡ bit 4 flags → f ≡ bit 8 flags
      → body ≡ body_told flags start → option_map (headed name a b d f body) (method_type_in i bytes) ≡ option_map without_code (slice_get (rows_seen i).methods n)
  method_made n t name bytes a b d f body flags start e g w x ea eb ed ef k =
      let own = slice_index (row_of i 7 n) 2 in
      let name_is : name ≡ t.read.name = cc (e ∙ t.read.named) in
      let bytes_are : bytes ≡ t.read.bytes = cc (g ∙ t.read.signed) in
      let body_is : body ≡ t.read.runs.0 = k ∙ ap (λ z. body_told z start) w ∙ ap (body_told (slice_index (row_of i 7 n) 2)) x ∙ t.read.body in
      ap (λ z. option_map (headed name a b d f body) (method_type_in i z)) bytes_are
      ∙ ap (option_map (headed name a b d f body)) t.read.typed
      ∙ ap (λ z. Some (headed z a b d f body t.read.type)) name_is
      ∙ ap (λ z. Some (headed t.read.name z b d f body t.read.type)) (ea ∙ ap (bit 1) w)
      ∙ ap (λ z. Some (headed t.read.name (bit 1 own) z d f body t.read.type)) (eb ∙ ap (bit 2) w)
      ∙ ap (λ z. Some (headed t.read.name (bit 1 own) (bit 2 own) z f body t.read.type)) (ed ∙ ap (bit 4) w)
      ∙ ap (λ z. Some (headed t.read.name (bit 1 own) (bit 2 own) (bit 4 own) z body t.read.type)) (ef ∙ ap (bit 8) w)
      ∙ ap (λ z. Some (headed t.read.name (bit 1 own) (bit 2 own) (bit 4 own) (bit 8 own) z t.read.type)) body_is
      ∙ ap (λ z. Some (without_code z)) t.read.is
      ∙ sym (ap (option_map without_code) t.row)

  -- ---- types
  interfaces_are : parts.interfaces ≡ interfaces_seen i
  interfaces_are = interfaces_back (interface_at (nothing_held i parts.strings parts.signatures)) one (table i 5) parts.interfaces parts.interface_rows
    where
      one : (r : List ℕ) (z : TypeToken) → interface_at (nothing_held i parts.strings parts.signatures) r ≡ Some z → z ≡ type_token (slice_index r 0)
      one [] z e = cc e
      one (w ∷ x ∷ r) z e = cc e
      one (w ∷ []) z e = token_back w z e

  row_back : (w : ℕ) (o : Option ℕ) → none_or (row_in i 4) w ≡ Some o → o ≡ row_word w
  row_back w o e = by (nat_eq w 65535) e
    where
      by : (t : Bool) → (if t then Some None else option_map Some (row_in i 4 w)) ≡ Some o → o ≡ (if t then None else Some w)
      by true f = cc f
      by false f = let m = map_back Some (row_in i 4 w) o f in sym m.2 ∙ ap Some (sym (checked_back (nat_lt w (rows_of i 4)) w m.0 m.1))

  up_back : (w : ℕ) (o : Option TypeToken) → none_or (token_in i) w ≡ Some o → o ≡ token_word w
  up_back w o e = by (nat_eq w 65535) e
    where
      by : (t : Bool) → (if t then Some None else option_map Some (token_in i w)) ≡ Some o → o ≡ (if t then None else Some (type_token w))
      by true f = cc f
      by false f = let m = map_back Some (token_in i w) o f in sym m.2 ∙ ap Some (token_back w m.0 m.1)

  abbrev typed : List ℕ → List ℕ → List ℕ → TypeRow
  typed r namespace name = make_type (slice_index r 4) (slice_index r 7) (slice_index r 8) (slice_index r 9) (slice_index r 10) namespace name (row_word (slice_index r 2)) (token_word (slice_index r 3)) (part (slice_index r 5) (slice_index r 6) (interfaces_seen i))

  pub record TypeRead (r : List ℕ) (y : TypeRow) : Type 0 where
    pub namespace : List ℕ
    pub name : List ℕ
    pub spaced : name_in i (slice_index r 0) ≡ Some namespace
    pub named : name_in i (slice_index r 1) ≡ Some name
    pub is : typed r namespace name ≡ y

  type_read : (r : List ℕ) (y : TypeRow) → type_at h r ≡ Some y → TypeRead r y
  type_read [] y e = cc e
  type_read (a ∷ []) y e = cc e
  type_read (a ∷ b ∷ []) y e = cc e
  type_read (a ∷ b ∷ c ∷ []) y e = cc e
  type_read (a ∷ b ∷ c ∷ d ∷ []) y e = cc e
  type_read (a ∷ b ∷ c ∷ d ∷ fl ∷ []) y e = cc e
  type_read (a ∷ b ∷ c ∷ d ∷ fl ∷ fi ∷ []) y e = cc e
  type_read (a ∷ b ∷ c ∷ d ∷ fl ∷ fi ∷ ci ∷ []) y e = cc e
  type_read (a ∷ b ∷ c ∷ d ∷ fl ∷ fi ∷ ci ∷ ff ∷ []) y e = cc e
  type_read (a ∷ b ∷ c ∷ d ∷ fl ∷ fi ∷ ci ∷ ff ∷ cf ∷ []) y e = cc e
  type_read (a ∷ b ∷ c ∷ d ∷ fl ∷ fi ∷ ci ∷ ff ∷ cf ∷ fm ∷ []) y e = cc e
  type_read (a ∷ b ∷ c ∷ d ∷ fl ∷ fi ∷ ci ∷ ff ∷ cf ∷ fm ∷ cm ∷ x ∷ r) y e = cc e
  type_read (a ∷ b ∷ c ∷ d ∷ fl ∷ fi ∷ ci ∷ ff ∷ cf ∷ fm ∷ cm ∷ []) y e = by (is_range (rows_of i 6) ff cf && is_range (rows_of i 7) fm cm) e
    where
      of_made : on_both (on_both (on_both (on_both (option_map (make_type fl ff cf fm cm) (name_at h a)) (name_at h b)) (none_or (row_in i 4) c)) (none_or h.type d)) (part_at h fi ci h.interfaces) ≡ Some y → TypeRead (a ∷ b ∷ c ∷ d ∷ fl ∷ fi ∷ ci ∷ ff ∷ cf ∷ fm ∷ cm ∷ []) y
      of_made e =
          let p5 = both_back (on_both (on_both (on_both (option_map (make_type fl ff cf fm cm) (name_at h a)) (name_at h b)) (none_or (row_in i 4) c)) (none_or h.type d)) (part_at h fi ci h.interfaces) y e in
          let p4 = both_back (on_both (on_both (option_map (make_type fl ff cf fm cm) (name_at h a)) (name_at h b)) (none_or (row_in i 4) c)) (none_or h.type d) p5.0 p5.2 in
          let p3 = both_back (on_both (option_map (make_type fl ff cf fm cm) (name_at h a)) (name_at h b)) (none_or (row_in i 4) c) p4.0 p4.2 in
          let p2 = both_back (option_map (make_type fl ff cf fm cm) (name_at h a)) (name_at h b) p3.0 p3.2 in
          let p1 = map_back (make_type fl ff cf fm cm) (name_at h a) p2.0 p2.2 in
          let whole : make_type fl ff cf fm cm p1.0 p2.1 p3.1 p4.1 p5.1 ≡ y = ap (λ k. k p2.1 p3.1 p4.1 p5.1) p1.2 ∙ ap (λ k. k p3.1 p4.1 p5.1) p2.4 ∙ ap (λ k. k p4.1 p5.1) p3.4 ∙ ap (λ k. k p5.1) p4.4 ∙ p5.4 in
          let interfaces : part fi ci (interfaces_seen i) ≡ p5.1 = ap (part fi ci) (sym interfaces_are) ∙ checked_back (is_range (length h.interfaces) fi ci) (part fi ci h.interfaces) p5.1 p5.3 in
          record {
            namespace = p1.0;
            name = p2.1;
            spaced = named a p1.0 p1.1;
            named = named b p2.1 p2.3;
            is =
                ap (λ o. make_type fl ff cf fm cm p1.0 p2.1 o (token_word d) (part fi ci (interfaces_seen i))) (sym (row_back c p3.1 p3.3))
                ∙ ap (λ o. make_type fl ff cf fm cm p1.0 p2.1 p3.1 o (part fi ci (interfaces_seen i))) (sym (up_back d p4.1 p4.3))
                ∙ ap (λ l. make_type fl ff cf fm cm p1.0 p2.1 p3.1 p4.1 l) interfaces
                ∙ whole;
          }

      by : (t : Bool) → (if t then on_both (on_both (on_both (on_both (option_map (make_type fl ff cf fm cm) (name_at h a)) (name_at h b)) (none_or (row_in i 4) c)) (none_or h.type d)) (part_at h fi ci h.interfaces) else None) ≡ Some y → TypeRead (a ∷ b ∷ c ∷ d ∷ fl ∷ fi ∷ ci ∷ ff ∷ cf ∷ fm ∷ cm ∷ []) y
      by true f = of_made f
      by false f = cc f

  pub record TypeThere (n : ℕ) : Type 0 where
    pub of : TypeRow
    pub read : TypeRead (row_of i 4 n) of
    pub row : slice_get (rows_seen i).types n ≡ Some of

  pub type_there : (n : ℕ) → n < rows_of i 4 → TypeThere n
  type_there n low = let t = there i 4 n (type_at h) (rows_seen i).types parts.of_held.types low in record { of = t.0; read = type_read (row_of i 4 n) t.0 t.1; row = t.2 }

  pub type_past : (n : ℕ) → rows_of i 4 ≤ n → None ≡ slice_get (rows_seen i).types n
  type_past n high = sym (past i 4 n (type_at h) (rows_seen i).types parts.of_held.types high)

  abbrev pub outlined : List ℕ → List ℕ → Option ℕ → Option TypeToken → TypeKind → Bool → Bool → Bool → ℕ → ℕ → ℕ → ℕ → ℕ → ℕ → TypeRow
  outlined namespace name enclosing extends kind a b l fi ci ff cf fm cm =
      record {
        namespace = namespace;
        name = name;
        enclosing = enclosing;
        extends = extends;
        interfaces = part fi ci (interfaces_seen i);
        kind = kind;
        is_interface = a;
        is_abstract = b;
        is_lazy = l;
        first_field = ff;
        field_count = cf;
        first_method = fm;
        method_count = cm;
      }

  abbrev with_ranges : ℕ → List ℕ → List ℕ → ℕ → ℕ → ℕ → ℕ → ℕ → ℕ → Option TypeRow
  with_ranges n namespace name u v w x y z = Some (outlined namespace name (row_word (slice_index (row_of i 4 n) 2)) (token_word (slice_index (row_of i 4 n) 3)) (kind_of (slice_index (row_of i 4 n) 4)) (bit 32 (slice_index (row_of i 4 n) 4)) (bit 64 (slice_index (row_of i 4 n) 4)) (bit 128 (slice_index (row_of i 4 n) 4)) u v w x y z)

  ranged : (n : ℕ) (namespace name : List ℕ) (u v w x y z : ℕ) → u ≡ slice_index (row_of i 4 n) 5 → v ≡ slice_index (row_of i 4 n) 6 → w ≡ slice_index (row_of i 4 n) 7 → x ≡ slice_index (row_of i 4 n) 8 → y ≡ slice_index (row_of i 4 n) 9 → z ≡ slice_index (row_of i 4 n) 10
      → with_ranges n namespace name u v w x y z ≡ with_ranges n namespace name (slice_index (row_of i 4 n) 5) (slice_index (row_of i 4 n) 6) (slice_index (row_of i 4 n) 7) (slice_index (row_of i 4 n) 8) (slice_index (row_of i 4 n) 9) (slice_index (row_of i 4 n) 10)
  ranged n namespace name u v w x y z eu ev ew ex ey ez =
      ap (λ q. with_ranges n namespace name q v w x y z) eu
      ∙ ap (λ q. with_ranges n namespace name (slice_index (row_of i 4 n) 5) q w x y z) ev
      ∙ ap (λ q. with_ranges n namespace name (slice_index (row_of i 4 n) 5) (slice_index (row_of i 4 n) 6) q x y z) ew
      ∙ ap (λ q. with_ranges n namespace name (slice_index (row_of i 4 n) 5) (slice_index (row_of i 4 n) 6) (slice_index (row_of i 4 n) 7) q y z) ex
      ∙ ap (λ q. with_ranges n namespace name (slice_index (row_of i 4 n) 5) (slice_index (row_of i 4 n) 6) (slice_index (row_of i 4 n) 7) (slice_index (row_of i 4 n) 8) q z) ey
      ∙ ap (λ q. with_ranges n namespace name (slice_index (row_of i 4 n) 5) (slice_index (row_of i 4 n) 6) (slice_index (row_of i 4 n) 7) (slice_index (row_of i 4 n) 8) (slice_index (row_of i 4 n) 9) q) ez

  pub type_made : (n : ℕ) → (t : TypeThere n) → (namespace name : List ℕ) (enclosing : Option ℕ) (extends : Option TypeToken) (kind : TypeKind) (a b l : Bool) (c2 c3 c4 c5 c6 c7 c8 c9 c10 : ℕ)
      → Some namespace ≡ name_in i (slice_index (row_of i 4 n) 0) → Some name ≡ name_in i (slice_index (row_of i 4 n) 1)
      → c2 ≡ slice_index (row_of i 4 n) 2 → c3 ≡ slice_index (row_of i 4 n) 3 → c4 ≡ slice_index (row_of i 4 n) 4 → c5 ≡ slice_index (row_of i 4 n) 5 → c6 ≡ slice_index (row_of i 4 n) 6 → c7 ≡ slice_index (row_of i 4 n) 7 → c8 ≡ slice_index (row_of i 4 n) 8 → c9 ≡ slice_index (row_of i 4 n) 9 → c10 ≡ slice_index (row_of i 4 n) 10
      → enclosing ≡ row_word c2 → extends ≡ token_word c3 → kind ≡ kind_of c4 → a ≡ bit 32 c4 → b ≡ bit 64 c4 → l ≡ bit 128 c4
      → Some (outlined namespace name enclosing extends kind a b l c5 c6 c7 c8 c9 c10) ≡ slice_get (rows_seen i).types n
  type_made n t namespace name enclosing extends kind a b l c2 c3 c4 c5 c6 c7 c8 c9 c10 e0 e1 e2 e3 e4 e5 e6 e7 e8 e9 e10 g2 g3 g4 ga gb gl =
      let r = row_of i 4 n in
      let namespace_is : namespace ≡ t.read.namespace = cc (e0 ∙ t.read.spaced) in
      let name_is : name ≡ t.read.name = cc (e1 ∙ t.read.named) in
      ap (λ z. Some (outlined z name enclosing extends kind a b l c5 c6 c7 c8 c9 c10)) namespace_is
      ∙ ap (λ z. Some (outlined t.read.namespace z enclosing extends kind a b l c5 c6 c7 c8 c9 c10)) name_is
      ∙ ap (λ z. Some (outlined t.read.namespace t.read.name z extends kind a b l c5 c6 c7 c8 c9 c10)) (g2 ∙ ap row_word e2)
      ∙ ap (λ z. Some (outlined t.read.namespace t.read.name (row_word (slice_index r 2)) z kind a b l c5 c6 c7 c8 c9 c10)) (g3 ∙ ap token_word e3)
      ∙ ap (λ z. Some (outlined t.read.namespace t.read.name (row_word (slice_index r 2)) (token_word (slice_index r 3)) z a b l c5 c6 c7 c8 c9 c10)) (g4 ∙ ap kind_of e4)
      ∙ ap (λ z. Some (outlined t.read.namespace t.read.name (row_word (slice_index r 2)) (token_word (slice_index r 3)) (kind_of (slice_index r 4)) z b l c5 c6 c7 c8 c9 c10)) (ga ∙ ap (bit 32) e4)
      ∙ ap (λ z. Some (outlined t.read.namespace t.read.name (row_word (slice_index r 2)) (token_word (slice_index r 3)) (kind_of (slice_index r 4)) (bit 32 (slice_index r 4)) z l c5 c6 c7 c8 c9 c10)) (gb ∙ ap (bit 64) e4)
      ∙ ap (λ z. Some (outlined t.read.namespace t.read.name (row_word (slice_index r 2)) (token_word (slice_index r 3)) (kind_of (slice_index r 4)) (bit 32 (slice_index r 4)) (bit 64 (slice_index r 4)) z c5 c6 c7 c8 c9 c10)) (gl ∙ ap (bit 128) e4)
      ∙ ranged n t.read.namespace t.read.name c5 c6 c7 c8 c9 c10 e5 e6 e7 e8 e9 e10
      ∙ ap Some t.read.is
      ∙ sym t.row
