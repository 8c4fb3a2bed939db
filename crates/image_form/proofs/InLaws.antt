-- What is asked of rows suffices: each part has a spelling that is read as it.
use Rattle.std.proofs.Common.{◌≡◌, ℕ, suc, ◌+◌, ◌-◌, ◌*◌, ◌/◌, ◌%◌, ◌<◌, subst, Bool, true, false, List, [], ◌∷◌, map, length, Option, Some, None, refl, sym, ap, ◌∙◌, arith}
use Rattle.std.specs.Prelude.{if◌then◌else◌, nat_eq, nat_lt}
use Rattle.std.specs.Option.{option_map}
use Rattle.std.proofs.Math.Nat.{mod-add-div}
use Rattle.std.specs.Str.{is_utf8}
use Rattle.std.proofs.lemmas.Bool.{lt-ltb, le-ltb, eqb-true, ltb-false, ne_eqb}
use Rattle.std.proofs.lemmas.List.{length-map}
use Rattle.cil_opcodes.specs.declared.shape.Operand.{Operand}
use Rattle.cil_opcodes.specs.declared.shape.Operand.TheVariants as kinds
use Rattle.cil_opcodes.specs.declared.shape.Row.{Row}
use Rattle.cil_opcodes.specs.Rows.{row_of}
use Rattle.machine.specs.Throw.{on_some}
use Rattle.machine.specs.Program.{Body}
use Rattle.image_bytes.specs.Layout.{rows_of, is_range, all_onto, byte_onto}
use Rattle.image_pools.specs.Pools.{Entry, pool, text_at, entry_size, pool_onto}
use Rattle.assemblies.specs.Rows.{TypeToken, TypeDef, TypeRef, TypeSpec, Scope, OfAssembly, Inside, Nowhere, RawType, RawSpelt, RawClass, RawValue, RawArray, RawPlace, RawDirect, RawByRef, RawSignature, TypeRefRow, FieldRefRow, MethodRefRow, TypeRow, FieldRow, RawOperand, RawText, RawLine, RawKind, RawCatch, RawFinally, RawOther, RawClause, RawCode, MethodRow, Assembly}
use Rattle.image_form.specs.Signatures.{type_word, raw_onto, signature_onto, locals_onto, read_type, read_signature, read_locals, whole, IsNamed, HasSpelling, PlaceHas, ResultHas, SignatureHas}
use Rattle.image_form.specs.Codes.{short, size, instr_of, OperandFits, LinesFit}
use Rattle.image_form.specs.Form.{checked, none_or, or_none, units_onto, units_of, no_spec, name_text, plain_at, signature_at, locals_at, signature_word, locals_word, meaning, words, Offsets, Manner, scope_word, type_rows, field_rows, method_rows, assembly_row, ref_row, spec_row, data_of, bytes_in, clauses_in}
use Rattle.image_form.specs.Fits.{NameHas, RawHas, RefHas, FieldRefHas, MethodRefHas, TypeHas, FieldHas, SpecHas, ClauseHas, ClauseKindHas, BodyHas, MethodHas}
use Rattle.image_form.specs.Whole.{has_row, token_in, scope_in, row_in, name_entry, signature_entry, literals, literals_in, locals_entry, strings_walk, signatures_walk, offsets, Methods, laid}
use Rattle.image_form.specs.Limits.{IsUtf8, TypeIsSmall, Limits, TokenIn, PlainIn, ScopeIn, NamedIn, RawIn, PlaceIn, ResultIn, SignatureIn, RefIn, FieldRefIn, MethodRefIn, BelowOrNone, TokenOrNone, TypeIn, FieldIn, SpecIn, ClauseIn, ClauseKindIn, OperandIn, LinesIn, LocalsIn, BodyIn, MethodIn}
use Rattle.image_form.proofs.SignatureLaws.{type_back, member_back, type_law, signature_law, locals_law, whole_law}
use Rattle.image_form.proofs.Found.{IsFound, each_flat}
use Rattle.image_form.proofs.LaidLaws.{strings_of, signatures_of, laid_held}
use Rattle.image_form.proofs.WholeLaws.{each_of}
use Rattle.assemblies.specs.Closed.{Each}

if_true : {A : Type 0} (b : Bool) (x y : A) → b ≡ true → (if b then x else y) ≡ x
if_true true x y e = refl
if_true false x y e = absurd (cc e)

if_false : {A : Type 0} (b : Bool) (x y : A) → b ≡ false → (if b then x else y) ≡ y
if_false true x y e = absurd (cc e)
if_false false x y e = refl

-- ---- sizes

types_count : (o : Offsets) (n : ℕ) (ts : List TypeRow) → length (type_rows o n ts) ≡ length ts
types_count o n [] = refl
types_count o n (t ∷ ts) = ap suc (types_count o (n + length t.interfaces) ts)

fields_count : (o : Offsets) (n : ℕ) (fs : List FieldRow) → length (field_rows o n fs) ≡ length fs
fields_count o n [] = refl
fields_count o n (f ∷ fs) = ap suc (fields_count o (n + length (data_of f.kind)) fs)

pub methods_count : (o : Offsets) (at clause : ℕ) (ms : Methods) → length (method_rows o at clause ms) ≡ length ms
methods_count o at clause [] = refl
methods_count o at clause (x ∷ ms) = ap suc (methods_count o (at + length (bytes_in o x.0 x.1.code)) (clause + length (clauses_in x.1.code)) ms)

total : List (List ℕ) → ℕ
total [] = 0
total (x ∷ xs) = entry_size x + total xs

text_small : (xs : List (List ℕ)) (at : ℕ) (b : List ℕ) → text_at xs at ≡ Some b → at < total xs
unfolding total
text_small [] at b e = absurd (cc e)
text_small (x ∷ xs) at b e = go (text_small xs (at - entry_size x) b) (nat_eq at 0) refl e
  where
    later : (text_at xs (at - entry_size x) ≡ Some b → at - entry_size x < total xs) → (t : Bool) → nat_lt at (entry_size x) ≡ t → (if t then None else text_at xs (at - entry_size x)) ≡ Some b → at < entry_size x + total xs
    later more true p q = absurd (cc q)
    later more false p q = omega (arith, ltb-false at (entry_size x) p, more q)

    go : (text_at xs (at - entry_size x) ≡ Some b → at - entry_size x < total xs) → (t : Bool) → nat_eq at 0 ≡ t → (if t then Some x else (if nat_lt at (entry_size x) then None else text_at xs (at - entry_size x))) ≡ Some b → at < entry_size x + total xs
    go more true p q = omega (arith, eqb-true at 0 p)
    go more false p q = later more (nat_lt at (entry_size x)) refl q

bytes_size : (bs rest : List ℕ) → length (all_onto byte_onto bs rest) ≡ length bs + length rest
bytes_size [] rest = omega arith
bytes_size (b ∷ bs) rest = omega (arith, bytes_size bs rest)

pool_size : (es : List Entry) → total (map (λ (e : Entry). e.bytes) es) ≡ length (pool_onto es [])
unfolding total
pool_size [] = refl
pool_size (e ∷ es) = omega (arith, pool_size es, bytes_size e.bytes (pool_onto es []))

units_law : (us : List ℕ) → units_of (units_onto us) ≡ Some us
units_law [] = refl
units_law (u ∷ us) = (λ i. option_map (λ vs. (u % 256 + 256 * (u / 256)) ∷ vs) (units_law us i)) ∙ ap (λ n. Some (n ∷ us)) (mod-add-div u 256)

module _ (p : Assembly) (ms : Methods) (lim : Limits p ms) where
  -- ---- tokens

  small : (t : TypeToken) → TokenIn p t → TypeIsSmall t
  small (TypeDef n) h = omega (arith, h, lim.types)
  small (TypeRef n) h = omega (arith, h, lim.refs)
  small (TypeSpec n) h = omega (arith, h, lim.specs)

  row_is_there : (t : TypeToken) → TokenIn p t → has_row (laid p ms) t ≡ true
  row_is_there (TypeDef n) h = ap (nat_lt n) (types_count (offsets p ms) 0 p.types) ∙ lt-ltb n (length p.types) h
  row_is_there (TypeRef n) h = ap (nat_lt n) (length-map p.refs (ref_row (offsets p ms))) ∙ lt-ltb n (length p.refs) h
  row_is_there (TypeSpec n) h = ap (nat_lt n) (length-map p.specs (spec_row (offsets p ms))) ∙ lt-ltb n (length p.specs) h

  pub token_has : (t : TypeToken) → TokenIn p t → token_in (laid p ms) (type_word t) ≡ Some t
  token_has t h = ap (λ x. checked (has_row (laid p ms) x) x) (type_back t (small t h)) ∙ ap (λ b. checked b t) (row_is_there t h)

  plain_has : (t : TypeToken) → PlainIn p t → plain_at (laid_held p ms) (type_word t) ≡ Some t
  plain_has (TypeDef n) h = ap (λ x. on_some x no_spec) (token_has (TypeDef n) h)
  plain_has (TypeRef n) h = ap (λ x. on_some x no_spec) (token_has (TypeRef n) h)
  plain_has (TypeSpec n) h = absurd h

  scope_has : (s : Scope) → ScopeIn p s → scope_in (laid p ms) (scope_word s) ≡ Some s
  scope_has (OfAssembly n) h =
      let there = ap (nat_lt n) (length-map p.assemblies (assembly_row (offsets p ms))) ∙ lt-ltb n (length p.assemblies) h in
      if_true (nat_lt n 16384) (checked (nat_lt n (rows_of (laid p ms) 0)) (OfAssembly n)) _ (lt-ltb n 16384 (omega (arith, h, lim.assemblies))) ∙ ap (λ b. checked b (OfAssembly n)) there
  scope_has (Inside n) h =
      let off : 16384 + n - 16384 ≡ n = omega arith in
      let there = ap (nat_lt n) (length-map p.refs (ref_row (offsets p ms))) ∙ lt-ltb n (length p.refs) h in
      if_false (nat_lt (16384 + n) 16384) _ (checked (nat_lt (16384 + n - 16384) (rows_of (laid p ms) 1)) (Inside (16384 + n - 16384))) (le-ltb (16384 + n) 16384 (omega arith))
      ∙ ap (λ k. checked (nat_lt k (rows_of (laid p ms) 1)) (Inside k)) off
      ∙ ap (λ b. checked b (Inside n)) there
  scope_has Nowhere h = absurd h

  word_is_some : (t : TypeToken) → TokenIn p t → nat_eq (type_word t) 65535 ≡ false
  word_is_some (TypeDef n) h = ne_eqb n 65535 (λ z. omega (arith, z, h, lim.types))
  word_is_some (TypeRef n) h = ne_eqb (16384 + n) 65535 (λ z. omega (arith, z, h, lim.refs))
  word_is_some (TypeSpec n) h = ne_eqb (32768 + n) 65535 (λ z. omega (arith, z, h, lim.specs))

  token_or_none : (t : Option TypeToken) → TokenOrNone p t → none_or (token_in (laid p ms)) (or_none type_word t) ≡ Some t
  token_or_none None h = refl
  token_or_none (Some t) h = if_false (nat_eq (type_word t) 65535) _ (option_map Some (token_in (laid p ms) (type_word t))) (word_is_some t h) ∙ ap (option_map Some) (token_has t h)

  pub row_or_none : (k count : ℕ) (r : Option ℕ) → rows_of (laid p ms) k ≡ count → count < 16384 → BelowOrNone p count r → none_or (row_in (laid p ms) k) (or_none (λ n. n) r) ≡ Some r
  row_or_none k count None e c h = refl
  row_or_none k count (Some n) e c h =
      if_false (nat_eq n 65535) _ (option_map Some (row_in (laid p ms) k n)) (ne_eqb n 65535 (λ z. omega (arith, z, h, c)))
      ∙ ap (λ b. option_map Some (checked b n)) (ap (nat_lt n) e ∙ lt-ltb n count h)

  -- ---- signatures

  named : (s : RawType) → NamedIn p s → IsNamed (plain_at (laid_held p ms)) s
  named (RawSpelt e) h = h
  named (RawClass t) h = plain_has t h
  named (RawValue t) h = plain_has t h
  named (RawArray s) h = named s h

  spelling : (s : RawType) → RawIn p s → HasSpelling (plain_at (laid_held p ms)) s
  spelling s h = record { shallow = h.shallow; named = named s h.named }

  place_spelling : (s : RawPlace) → PlaceIn p s → PlaceHas (plain_at (laid_held p ms)) s
  place_spelling (RawDirect s) h = spelling s h
  place_spelling (RawByRef s) h = spelling s h

  result_spelling : (s : Option RawType) → ResultIn p s → ResultHas (plain_at (laid_held p ms)) s
  result_spelling None h = tt
  result_spelling (Some s) h = spelling s h

  signature_spelling : (s : RawSignature) → SignatureIn p s → SignatureHas (plain_at (laid_held p ms)) s
  signature_spelling s h =
      record { returns = result_spelling s.returns h.returns; parameters = each_of (PlaceIn p) (PlaceHas (plain_at (laid_held p ms))) place_spelling s.parameters h.parameters }

  -- ---- texts and signatures by their offsets

  abbrev pub InStrings : Entry → Type 0
  InStrings e = IsFound (strings_walk p ms) e

  abbrev pub InSignatures : Entry → Type 0
  InSignatures e = IsFound (signatures_walk p ms) e

  pub name_has : (n : List ℕ) → InStrings (name_entry n) → IsUtf8 n → NameHas (laid_held p ms) (offsets p ms) n
  name_has n e u = ap (λ x. on_some x name_text) e ∙ if_true (is_utf8 n) (Some n) None u

  raw_has : (s : RawType) → InSignatures (signature_entry (raw_onto s [])) → RawIn p s → RawHas (laid_held p ms) (offsets p ms) s
  raw_has s e h =
      let name = plain_at (laid_held p ms) in
      ap (λ x. on_some x (whole (read_type name))) e ∙ whole_law (read_type name) raw_onto s (type_law name s (spelling s h))

  signature_has : (s : RawSignature) → InSignatures (signature_entry (signature_onto s [])) → SignatureIn p s → signature_at (laid_held p ms) (signature_word (offsets p ms) s) ≡ Some s
  signature_has s e h =
      let name = plain_at (laid_held p ms) in
      ap (λ x. on_some x (whole (read_signature name))) e ∙ whole_law (read_signature name) signature_onto s (signature_law name s (signature_spelling s h))

  locals_has : (b : Bool) (ts : List RawType) → (b ≡ true → InSignatures (signature_entry (locals_onto ts []))) → LocalsIn p b ts → locals_at (laid_held p ms) (locals_word (offsets p ms) b ts) ≡ Some ts
  locals_has false ts e h = ap Some (sym h)
  locals_has true ts e h =
      let name = plain_at (laid_held p ms) in
      let at = (offsets p ms).signature (locals_onto ts []) in
      let found = e refl in
      let below : at < total (signatures_of p ms) = text_small (signatures_of p ms) at (locals_onto ts []) found in
      if_false (nat_eq at 65535) _ (on_some (text_at (signatures_of p ms) at) (whole (read_locals name))) (ne_eqb at 65535 (λ z. omega (arith, z, below, pool_size (pool (signatures_walk p ms)), lim.signatures)))
      ∙ ap (λ x. on_some x (whole (read_locals name))) found
      ∙ whole_law (read_locals name) locals_onto ts (locals_law name ts (each_of (RawIn p) (HasSpelling name) spelling ts h))

  -- ---- rows

  pub ref_has : (r : TypeRefRow) → Each InStrings (name_entry r.namespace ∷ name_entry r.name ∷ []) → RefIn p r → RefHas (laid_held p ms) (offsets p ms) r
  ref_has r e h = record { scope = scope_has r.scope h.scope; namespace = name_has r.namespace e.0 h.namespace; name = name_has r.name (e.1).0 h.name }

  pub field_ref_has : (r : FieldRefRow) → InStrings (name_entry r.name) → InSignatures (signature_entry (raw_onto r.signature [])) → FieldRefIn p r → FieldRefHas (laid_held p ms) (offsets p ms) r
  field_ref_has r e g h = record { parent = token_has r.parent h.parent; name = name_has r.name e h.name; signature = raw_has r.signature g h.signature }

  pub method_ref_has : (r : MethodRefRow) → InStrings (name_entry r.name) → InSignatures (signature_entry (signature_onto r.signature [])) → MethodRefIn p r → MethodRefHas (laid_held p ms) (offsets p ms) r
  method_ref_has r e g h = record { parent = token_has r.parent h.parent; name = name_has r.name e h.name; signature = signature_has r.signature g h.signature }

  pub type_has : (t : TypeRow) → Each InStrings (name_entry t.namespace ∷ name_entry t.name ∷ []) → TypeIn p (length ms) t → TypeHas (laid_held p ms) (offsets p ms) t
  type_has t e h =
      let o = offsets p ms in
      record {
        namespace = name_has t.namespace e.0 h.namespace;
        name = name_has t.name (e.1).0 h.name;
        enclosing = row_or_none 4 (length p.types) t.enclosing (types_count o 0 p.types) lim.types h.enclosing;
        extends = token_or_none t.extends h.extends;
        kind = h.kind;
        fields = ap (λ n. is_range n t.first_field t.field_count) (fields_count o 0 p.fields) ∙ h.own_fields;
        methods = ap (λ n. is_range n t.first_method t.method_count) (methods_count o 0 0 ms) ∙ h.own_methods;
      }

  pub field_has : (f : FieldRow) → InStrings (name_entry f.name) → InSignatures (signature_entry (raw_onto f.signature [])) → FieldIn p f → FieldHas (laid_held p ms) (offsets p ms) f
  field_has f e g h = record { name = name_has f.name e h.name; signature = raw_has f.signature g h.signature; kind = h.kind }

  pub spec_has : (s : RawType) → InSignatures (signature_entry (raw_onto s [])) → SpecIn p s → SpecHas (laid_held p ms) (offsets p ms) s
  spec_has s g h = record { signature = raw_has s g h.signature; array = h.array }

  pub clause_has : (c : RawClause) → ClauseIn p c → ClauseHas (laid_held p ms) (offsets p ms) c
  clause_has c h = go c.kind h
    where
      go : (k : RawKind) → ClauseKindIn p k → ClauseKindHas (laid_held p ms) (offsets p ms) k
      go (RawCatch t) h = token_has t h
      go RawFinally h = tt
      go RawOther h = absurd h

  -- ---- code

  literal_has : (o : RawOperand) (units : List ℕ) → o ≡ RawText units → Each InStrings (literals o) → on_some (text_at (strings_of p ms) ((offsets p ms).literal units)) units_of ≡ Some units
  literal_has o units e h =
      let found : Each InStrings (literals (RawText units)) = subst (λ o. Each InStrings (literals o)) e h in
      ap (λ x. on_some x units_of) found.0 ∙ units_law units

  operand_has : (k : Operand) (next : ℕ) (o : RawOperand) → OperandIn short (words (offsets p ms)) k next o → Each InStrings (literals o) → OperandFits row_of short (meaning (laid_held p ms)) (words (offsets p ms)) k next o
  operand_has kinds.Nothing next o h e = h
  operand_has kinds.Int8 next o h e = h
  operand_has kinds.UInt8 next o h e = h
  operand_has kinds.UInt16 next o h e = h
  operand_has kinds.Int32 next o h e = h
  operand_has kinds.Int64 next o h e = h
  operand_has kinds.BranchShort next o h e = h
  operand_has kinds.BranchLong next o h e = h
  operand_has kinds.Switch next o h e = h
  operand_has kinds.TypeToken next o h e = (h.0, h.1, type_back h.0 h.2)
  operand_has kinds.FieldToken next o h e = (h.0, h.1, member_back h.0 h.2)
  operand_has kinds.MethodToken next o h e = (h.0, h.1, member_back h.0 h.2)
  operand_has kinds.StringToken next o h e = (h.0, h.1, literal_has o h.0 h.1 e)
  operand_has kinds.AnyToken next o h e = (h.0, h.1, member_back h.0 h.2)

  lines_have : (at : ℕ) (rows : List Row) (lines : List RawLine) → LinesIn short (words (offsets p ms)) at rows lines → Each (λ (l : RawLine). Each InStrings (literals l.operand)) lines → LinesFit row_of short (meaning (laid_held p ms)) (words (offsets p ms)) at rows lines
  lines_have at [] [] h e = tt
  lines_have at [] (line ∷ lines) h e = absurd h
  lines_have at (row ∷ rows) [] h e = absurd h
  lines_have at (row ∷ rows) (line ∷ lines) h e =
      (record { known = h.0.known; plain = h.0.plain; shape = h.0.shape; place = h.0.place; next = h.0.next; operand = operand_has row.operand line.next line.operand h.0.operand e.0 }, lines_have (at + size short (instr_of (words (offsets p ms)) row line)) rows lines h.1 e.1)

  locals_entry_is : (k : Manner) (c : RawCode) → Each InSignatures (locals_entry k (Some c)) → k.has_locals ≡ true → InSignatures (signature_entry (locals_onto c.locals []))
  locals_entry_is k c h e =
      let found : Each InSignatures (if true then signature_entry (locals_onto c.locals []) ∷ [] else []) = subst (λ b. Each InSignatures (if b then signature_entry (locals_onto c.locals []) ∷ [] else [])) e h in
      found.0

  body_has : (k : Manner) (b : Body) (c : Option RawCode) → BodyIn p (offsets p ms) k b c → Each InStrings (literals_in c) → Each InSignatures (locals_entry k c) → BodyHas (laid_held p ms) (offsets p ms) k b c
  body_has k Body.Code (Some c) h e g =
      record {
        some = h.some;
        locals = locals_has k.has_locals c.locals (locals_entry_is k c g) h.locals;
        nest = h.nest;
        room = h.room;
        lines = lines_have 0 k.opcodes c.lines h.lines (each_flat InStrings (λ (l : RawLine). literals l.operand) c.lines e);
      }
  body_has k Body.Code None h e g = absurd h
  body_has k (Body.Native name) None h e g = tt
  body_has k (Body.Native name) (Some c) h e g = absurd h
  body_has k Body.Missing None h e g = tt
  body_has k Body.Missing (Some c) h e g = absurd h

  abbrev pub MethodFound : Manner × MethodRow → Type 0
  MethodFound x = InStrings (name_entry x.1.name) × Each InStrings (literals_in x.1.code)

  pub method_has : (x : Manner × MethodRow) → MethodFound x → Each InSignatures (signature_entry (signature_onto x.1.signature []) ∷ locals_entry x.0 x.1.code) → MethodIn p (offsets p ms) x.0 x.1 → MethodHas (laid_held p ms) (offsets p ms) x.0 x.1
  method_has x e g h = record { name = name_has x.1.name e.0 h.name; signature = signature_has x.1.signature g.0 h.signature; body = body_has x.0 x.1.body x.1.code h.body e.1 g.1 }
