-- Rows that are spelt are read.
use Rattle.std.proofs.Common.{◌≡◌, ℕ, suc, ◌+◌, ◌<◌, ◌≤◌, subst, Bool, true, false, ◌&&◌, List, [], ◌∷◌, ◌++◌, map, length, take, Option, Some, None, refl, sym, ap, ◌∙◌, arith}
use Rattle.std.specs.Prelude.{if◌then◌else◌, nat_eq, nat_le, slice_get}
use Rattle.std.specs.Option.{option_map}
use Rattle.std.proofs.lemmas.Bool.{le-leb, ne_eqb}
use Rattle.std.proofs.lemmas.List.{append_assoc, length-append}
use Rattle.cil_opcodes.specs.Rows.{row_of}
use Rattle.machine.specs.Throw.{on_some}
use Rattle.machine.specs.Program.{Body, native_number}
use Rattle.classes.specs.Classes.{FieldKind, TypeKind}
use Rattle.image_bytes.specs.Layout.{is_range}
use Rattle.assemblies.specs.Chosen.{first_of}
use Rattle.assemblies.specs.Rows.{TypeToken, RawType, RawKind, RawCatch, RawFinally, RawOther, AssemblyRow, TypeRefRow, FieldRefRow, MethodRefRow, TypeRow, FieldRow, RawLine, RawClause, RawCode, MethodRow}
use Rattle.image_form.specs.Codes.{short, instrs_of, lines_of}
use Rattle.image_form.specs.Form.{on_both, all_some, checked, part, bit, type_flags, method_flags, native_body, Held, spec_at, part_at, assembly_at, ref_at, field_ref_at, method_ref_at, type_at, field_kind_at, field_at, interface_at, clause_at, no_code, code_with, body_with, body_at, method_at, lines_at, meaning, make_assembly_row, make_ref, make_field_ref, make_method_ref, make_type, make_field, make_clause, make_method, only_array, clauses_nest, has_room, Offsets, Manner, signature_word, locals_word, assembly_row, ref_row, field_ref_row, method_ref_row, type_row, type_rows, interface_row, field_row, field_rows, clause_row, spec_row, words, code_bytes, method_row, method_rows, bytes_in, clauses_in, data_of, data_rows, data_at}
use Rattle.image_form.specs.Fits.{IsNoLiteral, NameHas, RefHas, FieldRefHas, MethodRefHas, TypeHas, FieldHas, SpecHas, ClauseHas, ClauseKindHas, CodeHas, BodyHas, MethodHas, TokenHas}
use Rattle.image_form.proofs.MeaningLaws.{code_law}
use Rattle.image_form.proofs.FlagLaws.{flags_law, bits_law, native_law}
use Rattle.assemblies.specs.Closed.{Each}
use Rattle.std.specs.List.{flat_map}

if_true : {A : Type 0} (b : Bool) (x y : A) → b ≡ true → (if b then x else y) ≡ x
if_true true x y e = refl
if_true false x y e = absurd (cc e)

if_false : {A : Type 0} (b : Bool) (x y : A) → b ≡ false → (if b then x else y) ≡ y
if_false true x y e = absurd (cc e)
if_false false x y e = refl

both_true : (a b : Bool) → a ≡ true → b ≡ true → (a && b) ≡ true
both_true true b p q = q
both_true false b p q = absurd (cc p)

abbrev with_body : MethodRow → Body → Option RawCode → MethodRow
with_body m b c = record m { body = b; code = c }

abbrev flags_of : MethodRow → Bool → ℕ
flags_of m n = method_flags m.is_static m.is_virtual m.is_newslot m.is_abstract n

-- ---- lists

pub all_law : {A B : Type 0} (read : B → Option A) (spell : A → B) (xs : List A) → Each (λ x. read (spell x) ≡ Some x) xs → all_some read (map spell xs) ≡ Some xs
all_law read spell [] h = refl
all_law read spell (x ∷ xs) h = λ i. on_both (option_map (λ y ys. y ∷ ys) (h.0 i)) (all_law read spell xs h.1 i)

-- what lies between
front : {A : Type 0} (mid post : List A) → take (length mid) (mid ++ post) ≡ mid
front [] post = refl
front (x ∷ xs) post = ap (λ ys. x ∷ ys) (front xs post)

middle : {A : Type 0} (pre mid post : List A) → part (length pre) (length mid) (pre ++ (mid ++ post)) ≡ mid
middle [] mid post = front mid post
middle (x ∷ xs) mid post = middle xs mid post

at_middle : {A : Type 0} (pre : List A) (d : A) (post : List A) → slice_get (pre ++ (d ∷ post)) (length pre) ≡ Some d
at_middle [] d post = refl
at_middle (x ∷ xs) d post = at_middle xs d post

fits_within : {A : Type 0} (pre mid post : List A) → length pre + length mid ≤ length (pre ++ (mid ++ post))
fits_within pre mid post = omega (arith, length-append pre (mid ++ post), length-append mid post)

pub in_range : (rows from n : ℕ) → from + suc n ≤ rows → is_range rows from (suc n) ≡ true
in_range rows from n h =
    if_false (nat_eq (suc n) 0) (nat_eq from 0) (nat_le (from + suc n) rows) (ne_eqb (suc n) 0 (λ z. omega (arith, z))) ∙ le-leb (from + suc n) rows h

module _ (h : Held) where
  range_law : {A : Type 0} (pre mid post : List A) → part_at h (first_of (length pre) (length mid)) (length mid) (pre ++ (mid ++ post)) ≡ Some mid
  range_law pre [] post = refl
  range_law pre (x ∷ xs) post =
      ap (λ b. checked b (part (length pre) (suc (length xs)) (pre ++ ((x ∷ xs) ++ post)))) (in_range (length (pre ++ ((x ∷ xs) ++ post))) (length pre) (length xs) (fits_within pre (x ∷ xs) post))
      ∙ ap Some (middle pre (x ∷ xs) post)

pub data_law : (pre : List ℕ) (ds : List (List ℕ)) (pool : List ℕ) → pool ≡ pre ++ flat_map (λ d. d) ds → all_some (data_at pool) (data_rows (length pre) ds) ≡ Some ds
data_law pre [] pool e = refl
data_law pre (d ∷ ds) pool e =
    let post = flat_map (λ d. d) ds in
    let one : data_at pool (length pre ∷ length d ∷ []) ≡ Some d =
    ap (λ p. data_at p (length pre ∷ length d ∷ [])) e
    ∙ if_true (nat_le (length pre + length d) (length (pre ++ (d ++ post)))) (Some (part (length pre) (length d) (pre ++ (d ++ post)))) None (le-leb (length pre + length d) (length (pre ++ (d ++ post))) (fits_within pre d post))
    ∙ ap Some (middle pre d post) in
    let more : all_some (data_at pool) (data_rows (length pre + length d) ds) ≡ Some ds =
    ap (λ n. all_some (data_at pool) (data_rows n ds)) (sym (length-append pre d)) ∙ data_law (pre ++ d) ds pool (e ∙ sym (append_assoc pre d post)) in
    λ i. on_both (option_map (λ y ys. y ∷ ys) (one i)) (more i)

module _ (h : Held) (o : Offsets) where
  pub assembly_law : (a : AssemblyRow) → NameHas h o a.name → assembly_at h (assembly_row o a) ≡ Some a
  assembly_law a e = ap (option_map (make_assembly_row a.version)) e

  pub ref_law : (r : TypeRefRow) → RefHas h o r → ref_at h (ref_row o r) ≡ Some r
  ref_law r f = λ i. on_both (on_both (option_map make_ref (f.scope i)) (f.namespace i)) (f.name i)

  pub field_ref_law : (r : FieldRefRow) → FieldRefHas h o r → field_ref_at h (field_ref_row o r) ≡ Some r
  field_ref_law r f = λ i. on_both (on_both (option_map make_field_ref (f.parent i)) (f.name i)) (f.signature i)

  pub method_ref_law : (r : MethodRefRow) → MethodRefHas h o r → method_ref_at h (method_ref_row o r) ≡ Some r
  method_ref_law r f = λ i. on_both (on_both (option_map make_method_ref (f.parent i)) (f.name i)) (f.signature i)

  pub spec_law : (s : RawType) → SpecHas h o s → spec_at h (spec_row o s) ≡ Some s
  spec_law s f = ap (λ x. on_some x only_array) f.signature ∙ f.array

  pub interface_law : (t : TypeToken) → TokenHas h o t → interface_at h (interface_row o t) ≡ Some t
  interface_law t f = f

  pub clause_law : (c : RawClause) → ClauseHas h o c → clause_at h (clause_row o c) ≡ Some c
  clause_law c f = go c.kind f
    where
      go : (k : RawKind) → ClauseKindHas h o k → clause_at h (clause_row o (make_clause c.try_start c.try_end c.start c.end k)) ≡ Some (make_clause c.try_start c.try_end c.start c.end k)
      go (RawCatch t) f = ap (λ x. option_map (make_clause c.try_start c.try_end c.start c.end) (option_map (λ t. RawCatch t) x)) f
      go RawFinally f = refl
      go RawOther f = absurd f

  type_law : (pre post : List TypeToken) (t : TypeRow) → h.interfaces ≡ pre ++ (t.interfaces ++ post) → TypeHas h o t → type_at h (type_row o (length pre) t) ≡ Some t
  type_law pre post t e f =
      let flags = type_flags t.kind t.is_interface t.is_abstract t.is_lazy in
      let r = flags_law t.kind t.is_interface t.is_abstract t.is_lazy f.kind in
      let size = length t.interfaces in
      let ifs : part_at h (first_of (length pre) size) size h.interfaces ≡ Some t.interfaces = ap (part_at h (first_of (length pre) size) size) e ∙ range_law h pre t.interfaces post in
      let make : TypeKind → Bool → Bool → Bool → TypeRow = λ k i a z. record t { kind = k; is_interface = i; is_abstract = a; is_lazy = z } in
      if_true (is_range h.fields t.first_field t.field_count && is_range h.methods t.first_method t.method_count) _ None (both_true _ _ f.fields f.methods)
      ∙ (λ i. on_both (on_both (on_both (on_both (option_map (make_type flags t.first_field t.field_count t.first_method t.method_count) (f.namespace i)) (f.name i)) (f.enclosing i)) (f.extends i)) (ifs i))
      ∙ (λ i. Some (make (r.kind i) (r.interface i) (r.abstract i) (r.lazy i)))

  pub types_law : (pre : List TypeToken) (ts : List TypeRow) → h.interfaces ≡ pre ++ flat_map (λ t. t.interfaces) ts → Each (TypeHas h o) ts → all_some (type_at h) (type_rows o (length pre) ts) ≡ Some ts
  types_law pre [] e f = refl
  types_law pre (t ∷ ts) e f =
      let post = flat_map (λ (t : TypeRow). t.interfaces) ts in
      let one = type_law pre post t e f.0 in
      let more : all_some (type_at h) (type_rows o (length pre + length t.interfaces) ts) ≡ Some ts =
      ap (λ n. all_some (type_at h) (type_rows o n ts)) (sym (length-append pre t.interfaces)) ∙ types_law (pre ++ t.interfaces) ts (e ∙ sym (append_assoc pre t.interfaces post)) f.1 in
      λ i. on_both (option_map (λ y ys. y ∷ ys) (one i)) (more i)

  field_law : (pre post : List (List ℕ)) (f : FieldRow) → h.datas ≡ pre ++ (data_of f.kind ++ post) → length pre < 65535 → FieldHas h o f → field_at h (field_row o (length pre) f) ≡ Some f
  field_law pre post f e small has = go f.kind e has.kind
    where
      go : (k : FieldKind) → h.datas ≡ pre ++ (data_of k ++ post) → IsNoLiteral k → field_at h (field_row o (length pre) (make_field f.name f.signature k)) ≡ Some (make_field f.name f.signature k)
      go FieldKind.InstanceField e l = λ i. on_both (on_both (option_map make_field (has.name i)) (has.signature i)) (Some FieldKind.InstanceField)
      go FieldKind.StaticField e l = λ i. on_both (on_both (option_map make_field (has.name i)) (has.signature i)) (Some FieldKind.StaticField)
      go FieldKind.LiteralField e l = absurd l
      go (FieldKind.DataField d) e l =
          let kind : field_kind_at h 1 (length pre) ≡ Some (FieldKind.DataField d) =
          if_false (nat_eq (length pre) 65535) _ _ (ne_eqb (length pre) 65535 (λ z. omega (arith, z, small)))
          ∙ ap (λ ds. option_map FieldKind.DataField (slice_get ds (length pre))) e
          ∙ ap (option_map FieldKind.DataField) (at_middle pre d post) in
          λ i. on_both (on_both (option_map make_field (has.name i)) (has.signature i)) (kind i)

  pub fields_law : (pre : List (List ℕ)) (fs : List FieldRow) → h.datas ≡ pre ++ flat_map (λ f. data_of f.kind) fs → length h.datas < 65535 → Each (FieldHas h o) fs → all_some (field_at h) (field_rows o (length pre) fs) ≡ Some fs
  fields_law pre [] e small has = refl
  fields_law pre (f ∷ fs) e small has =
      let mine = data_of f.kind in
      let post = flat_map (λ (f : FieldRow). data_of f.kind) fs in
      let one = field_law pre post f e (omega (arith, ap (λ (ds : List (List ℕ)). length ds) e, length-append pre (mine ++ post), small)) has.0 in
      let more : all_some (field_at h) (field_rows o (length pre + length mine) fs) ≡ Some fs =
      ap (λ n. all_some (field_at h) (field_rows o n fs)) (sym (length-append pre mine)) ∙ fields_law (pre ++ mine) fs (e ∙ sym (append_assoc pre mine post)) small has.1 in
      λ i. on_both (option_map (λ y ys. y ∷ ys) (one i)) (more i)

  -- a method with code: its lines, its clauses and its locals are read
  code_law_of : (prec postc : List ℕ) (prek postk : List RawClause) (k : Manner) (c : RawCode) → h.code ≡ prec ++ (code_bytes o k c ++ postc) → h.clauses ≡ prek ++ (c.clauses ++ postk) → length h.code ≤ 65535 → CodeHas h o k c → (flags : ℕ) → bit 16 flags ≡ false
      → body_at h flags (length prec) (length (code_bytes o k c)) (locals_word o k.has_locals c.locals) c.max_stack (first_of (length prek) (length c.clauses)) (length c.clauses) ≡ Some (Body.Code, Some c)
  code_law_of prec postc prek postk k c ec ek small has flags native =
      let bytes = code_bytes o k c in
      let start = length prec in
      let count = length bytes in
      let size = length c.clauses in
      let inside : start + count ≤ length h.code = subst (λ cs. start + count ≤ length cs) (sym ec) (fits_within prec bytes postc) in
      let own : part start count h.code ≡ bytes = ap (part start count) ec ∙ middle prec bytes postc in
      let cls : part_at h (first_of (length prek) size) size h.clauses ≡ Some c.clauses = ap (part_at h (first_of (length prek) size) size) ek ∙ range_law h prek c.clauses postk in
      let lines : lines_at h start count ≡ c.lines = ap (λ b. lines_of (meaning h) short 0 (instrs_of row_of short b)) own ∙ code_law row_of short (meaning h) (words o) k.opcodes c.lines has.lines in
      let make : List RawLine → RawCode = λ ls. record { locals = c.locals; max_stack = c.max_stack; clauses = c.clauses; lines = ls } in
      let tests : (nat_le (start + count) (length h.code) && clauses_nest count c.clauses && has_room c.max_stack c.clauses) ≡ true =
      both_true (nat_le (start + count) (length h.code) && clauses_nest count c.clauses) (has_room c.max_stack c.clauses) (both_true (nat_le (start + count) (length h.code)) (clauses_nest count c.clauses) (le-leb (start + count) (length h.code) inside) has.nest) has.room in
      ap (λ x. on_some x (λ ts. on_some (part_at h (first_of (length prek) size) size h.clauses) (body_with h flags start count c.max_stack ts))) has.locals
      ∙ ap (λ x. on_some x (body_with h flags start count c.max_stack c.locals)) cls
      ∙ if_false (bit 16 flags) _ (if nat_eq start 65535 then no_code h count c.clauses Body.Missing else code_with h start count c.max_stack c.locals c.clauses) native
      ∙ if_false (nat_eq start 65535) _ (code_with h start count c.max_stack c.locals c.clauses) (ne_eqb start 65535 (λ z. omega (arith, z, inside, small, has.some)))
      ∙ ap (λ b. checked b (Body.Code, Some (make (lines_at h start count)))) tests
      ∙ ap (λ ls. Some (Body.Code, Some (make ls))) lines

  method_law : (prec postc : List ℕ) (prek postk : List RawClause) (k : Manner) (m : MethodRow) → h.code ≡ prec ++ (bytes_in o k m.code ++ postc) → h.clauses ≡ prek ++ (clauses_in m.code ++ postk) → length h.code ≤ 65535 → MethodHas h o k m → method_at h (method_row o (length prec) (length prek) k m) ≡ Some m
  method_law prec postc prek postk k m ec ek small has = go m.body m.code ec ek has.body
    where
      read : (n : Bool) (b : Body) (c : Option RawCode) (start count locals max first size : ℕ) → body_at h (flags_of m n) start count locals max first size ≡ Some (b, c) → method_at h (o.name m.name ∷ signature_word o m.signature ∷ flags_of m n ∷ start ∷ count ∷ locals ∷ max ∷ first ∷ size ∷ []) ≡ Some (with_body m b c)
      read n b c start count locals max first size e =
          let r = bits_law m.is_static m.is_virtual m.is_newslot m.is_abstract n in
          let make : Bool → Bool → Bool → Bool → MethodRow = λ s v w a. record m { is_static = s; is_virtual = v; is_newslot = w; is_abstract = a; body = b; code = c } in
          (λ i. on_both (on_both (option_map (make_method (flags_of m n)) (has.name i)) (has.signature i)) (e i))
          ∙ (λ i. Some (make (r.static i) (r.virtual i) (r.newslot i) (r.abstract i)))

      native_bit : (n : Bool) → bit 16 (flags_of m n) ≡ n
      native_bit n = (bits_law m.is_static m.is_virtual m.is_newslot m.is_abstract n).native

      go : (b : Body) (c : Option RawCode) → h.code ≡ prec ++ (bytes_in o k c ++ postc) → h.clauses ≡ prek ++ (clauses_in c ++ postk) → BodyHas h o k b c → method_at h (method_row o (length prec) (length prek) k (with_body m b c)) ≡ Some (with_body m b c)
      go Body.Code None ec ek f = absurd f
      go Body.Code (Some c) ec ek f =
          read false Body.Code (Some c) (length prec) (length (code_bytes o k c)) (locals_word o k.has_locals c.locals) c.max_stack (first_of (length prek) (length c.clauses)) (length c.clauses) (code_law_of prec postc prek postk k c ec ek small f (flags_of m false) (native_bit false))
      go (Body.Native name) None ec ek f =
          read true (Body.Native name) None (native_number name) 0 65535 0 0 0
          (if_true (bit 16 (flags_of m true)) (Some (native_body (native_number name), None)) (if nat_eq (native_number name) 65535 then no_code h 0 [] Body.Missing else code_with h (native_number name) 0 0 [] []) (native_bit true) ∙ ap (λ b. Some (b, None)) (native_law name))
      go (Body.Native name) (Some c) ec ek f = absurd f
      go Body.Missing None ec ek f =
          read false Body.Missing None 65535 0 65535 0 0 0 (if_false (bit 16 (flags_of m false)) (no_code h 0 [] (native_body 65535)) (Some (Body.Missing, None)) (native_bit false))
      go Body.Missing (Some c) ec ek f = absurd f

  pub methods_law : (prec : List ℕ) (prek : List RawClause) (ms : List (Manner × MethodRow)) → h.code ≡ prec ++ flat_map (λ x. bytes_in o x.0 x.1.code) ms → h.clauses ≡ prek ++ flat_map (λ x. clauses_in x.1.code) ms → length h.code ≤ 65535 → Each (λ x. MethodHas h o x.0 x.1) ms → all_some (method_at h) (method_rows o (length prec) (length prek) ms) ≡ Some (map (λ x. x.1) ms)
  methods_law prec prek [] ec ek small has = refl
  methods_law prec prek (x ∷ ms) ec ek small has =
      let bytes = bytes_in o x.0 x.1.code in
      let cls = clauses_in x.1.code in
      let postc = flat_map (λ (x : Manner × MethodRow). bytes_in o x.0 x.1.code) ms in
      let postk = flat_map (λ (x : Manner × MethodRow). clauses_in x.1.code) ms in
      let one = method_law prec postc prek postk x.0 x.1 ec ek small has.0 in
      let more : all_some (method_at h) (method_rows o (length prec + length bytes) (length prek + length cls) ms) ≡ Some (map (λ (x : Manner × MethodRow). x.1) ms) =
      ap (λ n. all_some (method_at h) (method_rows o n (length prek + length cls) ms)) (sym (length-append prec bytes))
      ∙ ap (λ n. all_some (method_at h) (method_rows o (length (prec ++ bytes)) n ms)) (sym (length-append prek cls))
      ∙ methods_law (prec ++ bytes) (prek ++ cls) ms (ec ∙ sym (append_assoc prec bytes postc)) (ek ∙ sym (append_assoc prek cls postk)) small has.1 in
      λ i. on_both (option_map (λ y ys. y ∷ ys) (one i)) (more i)
