-- The kept rows of an assembly have a spelling: each field of what an image asks.
use Rattle.std.proofs.Common.{◌≡◌, ℕ, zero, suc, ◌+◌, ◌<◌, Bool, true, false, List, [], ◌∷◌, ◌++◌, length, map, Option, Some, None, refl, sym, ap, ◌∙◌, subst, arith}
use Rattle.std.specs.Prelude.{if◌then◌else◌, nat_lt, slice_get}
use Rattle.std.specs.List.{flat_map, position}
use Rattle.std.specs.Option.{option_map}
use Rattle.std.proofs.lemmas.List.{length-map}
use Rattle.std.proofs.lemmas.Option.{slice_get-map, slice_get_within}
use Rattle.cil_opcodes.specs.declared.shape.Row.{Row}
use Rattle.cil_opcodes.specs.Rows.{row_of}
use Rattle.machine.specs.Data.{Id}
use Rattle.machine.specs.Program.{Body}
use Rattle.machine.specs.Throw.{on_some}
use Rattle.classes.specs.Queries.{find_method, find_field}
use Rattle.image_bytes.specs.Layout.{is_range}
use Rattle.kept_rows.specs.Select.{select, below, behind}
use Rattle.assemblies.specs.Rows.{TypeToken, TypeDef, TypeRef, TypeSpec, MemberToken, Own, Reference, Scope, OfAssembly, Inside, Nowhere, RawType, RawSpelt, RawClass, RawValue, RawArray, RawPlace, RawDirect, RawByRef, RawSignature, AssemblyRow, TypeRefRow, TypeRow, RawOperand, RawNothing, RawNumber, RawTargets, RawTypeOf, RawField, RawMethod, RawText, RawLine, RawKind, RawCatch, RawFinally, RawOther, RawClause, RawCode, MethodRow, Assembly}
use Rattle.assemblies.specs.Binding.{id_at, numbered, holds, first_number, same_assembly, assembly_of, type_in, in_scope, resolve_ref, resolve, expanded, expanded_signature, classes_of, method_owner, field_owner}
use Rattle.assemblies.specs.Chosen.{Choice, first_of, token_to, scope_to, raw_to, place_to, signature_to, ref_to, field_ref_to, method_ref_to, type_row_to, field_row_to, kind_to, clause_to, code_to, method_row_to, chosen}
use Rattle.assemblies.specs.Closed.{Each}
use Rattle.assemblies.proofs.Binds.{on_some_back, map_back}
use Rattle.image_form.specs.Signatures.{depth}
use Rattle.image_form.specs.Codes.{Meaning, Words, LinesFit, instrs_to, long}
use Rattle.image_form.specs.Form.{only_array, clauses_nest, clauses_in, Offsets, Manner, words}
use Rattle.image_form.specs.Whole.{Methods, offsets}
use Rattle.image_form.specs.Limits.{IsUtf8, TypeIsSmall, TokenIn, PlainIn, ScopeIn, NamedIn, RawIn, PlaceIn, ResultIn, SignatureIn, RefIn, FieldRefIn, MethodRefIn, BelowOrNone, TokenOrNone, TypeIn, FieldIn, SpecIn, ClauseIn, ClauseKindIn, LocalsIn, CodeIn, BodyIn, MethodIn, IsSpelt}
use Rattle.image_form.proofs.ChoiceLaws.{selected_count, kept_below, own_range, token_kept}
use Rattle.image_form.proofs.WholeLaws.{each_of}
use Rattle.short_code.specs.Short.{long_end, short_end}
use Rattle.short_code.specs.Pieces.{pieces}
use Rattle.short_code.proofs.PieceLaws.{are_shorter}
use Rattle.kept_closure.specs.Named.{Stands, InOption, InType, InPlace, InSignature, InKind, InClause, InOperand, InLine, InCode}
use Rattle.kept_closure.specs.Kept.{IsWithin, HasType, HasScope, HasRow, HasMethod, HasField, HasAll, IsClosed, NamesClass, NamesOperand, NamesRow, NamesMethod, NamesField, Resolves}
use Rattle.kept_closure.proofs.ClosedLaws.{ref_row}
use Rattle.chosen_image.specs.Spells.{InElems, TypeSpells, PlaceSpells, SignatureSpells, LocalsSpell, KindSpells, ClauseSpells, CodeSpells, BodySpells, OfKept, Spells, chosen_method, chosen_methods, KeepsLimits}
use Rattle.chosen_image.proofs.PlaceLaws.{end_is}
use Rattle.chosen_image.proofs.ClauseLaws.{room_same, nest_law}
use Rattle.chosen_image.proofs.LineLaws.{SmallType, SmallMethod, SmallField, lines_law, code_bytes_law}

-- ---- facts on each of a list

each_chosen : {A B : Type 0} (Q : B → Type 0) (f : A → B) (keep : ℕ → Bool) (xs : List A) → OfKept keep xs (λ x. Q (f x)) → Each Q (map f (select keep xs))
each_chosen Q f keep [] h = tt
each_chosen Q f keep (x ∷ xs) h = go (keep 0) refl (each_chosen Q f (λ k. keep (suc k)) xs (λ n y at k. h (suc n) y at k))
  where
    go : (b : Bool) → keep 0 ≡ b → Each Q (map f (select (λ k. keep (suc k)) xs)) → Each Q (map f (if b then x ∷ select (λ k. keep (suc k)) xs else select (λ k. keep (suc k)) xs))
    go true e r = (h 0 x refl e, r)
    go false e r = r

each_kept : {A : Type 0} (P : A → Type 0) (keep : ℕ → Bool) (xs : List A) → OfKept keep xs P → Each P (select keep xs)
each_kept P keep [] h = tt
each_kept P keep (x ∷ xs) h = go (keep 0) refl (each_kept P (λ k. keep (suc k)) xs (λ n y at k. h (suc n) y at k))
  where
    go : (b : Bool) → keep 0 ≡ b → Each P (select (λ k. keep (suc k)) xs) → Each P (if b then x ∷ select (λ k. keep (suc k)) xs else select (λ k. keep (suc k)) xs)
    go true e r = (h 0 x refl e, r)
    go false e r = r

each_numbered : {A B : Type 0} (P : B → Type 0) (make : ℕ → A → B) (from : ℕ) (keep : ℕ → Bool) (xs : List A) → ((n : ℕ) (x : A) → slice_get xs n ≡ Some x → keep n ≡ true → P (make (from + n) x)) → Each P (select keep (numbered make from xs))
each_numbered P make from keep [] h = tt
each_numbered P make from keep (x ∷ xs) h =
    go (keep 0) refl (each_numbered P make (suc from) (λ k. keep (suc k)) xs (λ n y at k. let sum : from + suc n ≡ suc from + n = omega arith in subst (λ j. P (make j y)) sum (h (suc n) y at k)))
  where
    go : (b : Bool) → keep 0 ≡ b → Each P (select (λ k. keep (suc k)) (numbered make (suc from) xs)) → Each P (if b then make from x ∷ select (λ k. keep (suc k)) (numbered make (suc from) xs) else select (λ k. keep (suc k)) (numbered make (suc from) xs))
    go true e r = let sum : from + 0 ≡ from = omega arith in (subst (λ j. P (make j x)) sum (h 0 x refl e), r)
    go false e r = r

each_two_to : {A B : Type 0} (P Q : A → Type 0) (R : B → Type 0) (f : A → B) → ((x : A) → P x → Q x → R (f x)) → (xs : List A) → Each P xs → Each Q xs → Each R (map f xs)
each_two_to P Q R f h [] p q = tt
each_two_to P Q R f h (x ∷ xs) p q = (h x p.0 q.0, each_two_to P Q R f h xs p.1 q.1)

each_two : {A : Type 0} (P Q R : A → Type 0) → ((x : A) → P x → Q x → R x) → (xs : List A) → Each P xs → Each Q xs → Each R xs
each_two P Q R h [] p q = tt
each_two P Q R h (x ∷ xs) p q = (h x p.0 q.0, each_two P Q R h xs p.1 q.1)

each_behind : {A : Type 0} (P : A → Type 0) (xs ys : List A) → Each P xs → Each P ys → Each P (xs ++ ys)
each_behind P [] ys h g = g
each_behind P (x ∷ xs) ys h g = (h.0, each_behind P xs ys h.1 g)

each_joined : {A B : Type 0} (P : B → Type 0) (f : A → List B) (xs : List A) → Each (λ x. Each P (f x)) xs → Each P (flat_map f xs)
each_joined P f [] h = tt
each_joined P f (x ∷ xs) h = each_behind P (f x) (flat_map f xs) h.0 (each_joined P f xs h.1)

in_some : {A : Type 0} (P : A → Type 0) (o : Option A) (x : A) → o ≡ Some x → InOption P o → P x
in_some P o x e h = subst (InOption P) e h

map_select : {A B : Type 0} (f : A → B) (keep : ℕ → Bool) (xs : List A) → map f (select keep xs) ≡ select keep (map f xs)
map_select f keep [] = refl
map_select f keep (x ∷ xs) = go (keep 0) (map_select f (λ k. keep (suc k)) xs)
  where
    go : (b : Bool) → map f (select (λ k. keep (suc k)) xs) ≡ select (λ k. keep (suc k)) (map f xs) → map f (if b then x ∷ select (λ k. keep (suc k)) xs else select (λ k. keep (suc k)) xs) ≡ (if b then f x ∷ select (λ k. keep (suc k)) (map f xs) else select (λ k. keep (suc k)) (map f xs))
    go true e = ap (λ ys. f x ∷ ys) e
    go false e = e

numbered_length : {A B : Type 0} (make : ℕ → A → B) (n : ℕ) (xs : List A) → length (numbered make n xs) ≡ length xs
numbered_length make n [] = refl
numbered_length make n (x ∷ xs) = ap suc (numbered_length make (suc n) xs)

methods_numbered : (k : Choice) (n : ℕ) (ms : Methods) → map (λ (x : Manner × MethodRow). x.1) (numbered (chosen_method k) n ms) ≡ numbered (method_row_to k) n (map (λ (x : Manner × MethodRow). x.1) ms)
methods_numbered k n [] = refl
methods_numbered k n (x ∷ ms) = ap (λ ys. method_row_to k n x.1 ∷ ys) (methods_numbered k (suc n) ms)

depth_same : (k : Choice) (s : RawType) → depth (raw_to k s) ≡ depth s
depth_same k (RawSpelt e) = refl
depth_same k (RawClass t) = refl
depth_same k (RawValue t) = refl
depth_same k (RawArray s) = ap (λ n. 1 + n) (depth_same k s)

array_same : (k : Choice) (s : RawType) → only_array s ≡ Some s → only_array (raw_to k s) ≡ Some (raw_to k s)
array_same k (RawSpelt e) h = absurd (cc h)
array_same k (RawClass t) h = absurd (cc h)
array_same k (RawValue t) h = absurd (cc h)
array_same k (RawArray s) h = refl

some_bytes : (m : Meaning) (w : Words) (at : ℕ) (rows : List Row) (lines : List RawLine) → LinesFit row_of long m w at rows lines → 0 < length lines → 0 < short_end (pieces (instrs_to w rows lines))
some_bytes m w at [] [] h some = absurd (omega (arith, some))
some_bytes m w at [] (line ∷ lines) h some = absurd h
some_bytes m w at (row ∷ rows) [] h some = absurd h
some_bytes m w at (row ∷ rows) (line ∷ lines) h some = omega (arith, (are_shorter (instrs_to w (row ∷ rows) (line ∷ lines))).0)

module _ (size : ℕ) (ps : List Assembly) (all keep : ℕ → Choice) (has : HasAll ps all) (there : Resolves size ps all) (closed : IsClosed size ps keep) (f : ℕ) (p : Assembly) (ms : Methods) (at : slice_get ps f ≡ Some p) (s : Spells (keep f) p ms) (lim : KeepsLimits (keep f) p ms) where
  abbrev k : Choice
  k = keep f

  abbrev p' : Assembly
  p' = chosen k p

  abbrev ms' : Methods
  ms' = chosen_methods k ms

  abbrev o : Offsets
  o = offsets p' ms'

  abbrev within : IsWithin keep all
  within = closed.within all has

  abbrev Has : TypeToken → Type 0
  Has = HasType k

  abbrev Is : TypeToken → Type 0
  Is = NamesClass size ps f

  -- ---- what a name names stands in a table of the assembly

  here : {A : Type 0} (table : Assembly → List A) (n : ℕ) (q : Assembly) (x : A) → Stands ps table f n q x → n < length (table p)
  here table n q x h = let same : q ≡ p = cc (sym h.0 ∙ at) in slice_get_within (table p) n x (ap (λ r. slice_get (table r) n) (sym same) ∙ h.1)

  class_in : (t : TypeToken) → Is t → PlainIn p t
  class_in (TypeDef n) r =
      let w = map_back (λ t. id_at f n) (slice_get p.types n) r.0 (sym (ap (λ x. on_some x (λ (q : Assembly). option_map (λ t. id_at f n) (slice_get q.types n))) at) ∙ r.1) in
      slice_get_within p.types n w.0 w.1
  class_in (TypeRef n) r = let w = ref_row ps size f n r.0 r.1 in here (λ q. q.refs) n w.0 w.1.0 w.1.1
  class_in (TypeSpec n) r = absurd (cc r.1)

  operand_type_in : (t : TypeToken) → NamesOperand size ps f t → TokenIn p t
  operand_type_in (TypeDef n) r = class_in (TypeDef n) r
  operand_type_in (TypeRef n) r = class_in (TypeRef n) r
  operand_type_in (TypeSpec n) r = here (λ q. q.specs) n r.0 r.1.0 r.1.1

  plain_kept : (t : TypeToken) → Has t → Is t → PlainIn p' (token_to k t)
  plain_kept (TypeDef n) h r = token_kept k p (TypeDef n) (class_in (TypeDef n) r) h
  plain_kept (TypeRef n) h r = token_kept k p (TypeRef n) (class_in (TypeRef n) r) h
  plain_kept (TypeSpec n) h r = absurd (cc r.1)

  class_kept : (t : TypeToken) → Has t → Is t → TokenIn p' (token_to k t)
  class_kept (TypeDef n) h r = plain_kept (TypeDef n) h r
  class_kept (TypeRef n) h r = plain_kept (TypeRef n) h r
  class_kept (TypeSpec n) h r = absurd (cc r.1)

  type_small : (t : TypeToken) → TokenIn p' t → TypeIsSmall t
  type_small (TypeDef n) h = omega (arith, h, lim.limits.types)
  type_small (TypeRef n) h = omega (arith, h, lim.limits.refs)
  type_small (TypeSpec n) h = omega (arith, h, lim.limits.specs)

  operand_small : (t : TypeToken) → Has t → NamesOperand size ps f t → SmallType k t
  operand_small (TypeDef n) h r = type_small (TypeDef (below k.types n)) (class_kept (TypeDef n) h r)
  operand_small (TypeRef n) h r = type_small (TypeRef (below k.refs n)) (class_kept (TypeRef n) h r)
  operand_small (TypeSpec n) h r = type_small (TypeSpec (below k.specs n)) (token_kept k p (TypeSpec n) (operand_type_in (TypeSpec n) r) h)

  -- ---- methods and fields

  method_count : length ms ≡ length p.methods
  method_count = sym (length-map ms (λ (x : Manner × MethodRow). x.1)) ∙ ap length s.same

  kept_methods : length ms' ≡ below k.methods (length p.methods)
  kept_methods = selected_count k.methods (numbered (chosen_method k) 0 ms) ∙ ap (below k.methods) (numbered_length (chosen_method k) 0 ms ∙ method_count)

  method_below : (n : ℕ) → n < length p.methods → k.methods n ≡ true → below k.methods n < length ms'
  method_below n h e = omega (arith, kept_below k.methods p.methods n h e, selected_count k.methods p.methods, kept_methods)

  own_there : {A : Type 0} (table : Assembly → List A) (n : ℕ) (c : Id) (more : Assembly → A → Option Id) → on_some (slice_get ps f) (λ q. on_some (slice_get (table q) n) (more q)) ≡ Some c → n < length (table p)
  own_there table n c more e =
      let w = on_some_back (slice_get (table p) n) (more p) c (sym (ap (λ x. on_some x (λ q. on_some (slice_get (table q) n) (more q))) at) ∙ e) in
      slice_get_within (table p) n w.0 w.1

  method_small : (t : MemberToken) → HasMethod k t → NamesMethod size ps f t → SmallMethod k t
  method_small (Own n) h r =
      let w = map_back (λ owner. id_at f n) (method_owner ps (id_at f n)) r.0 r.1 in
      omega (arith, method_below n (own_there (λ q. q.methods) n w.0 (λ q x. option_map (id_at f) (position (λ t. holds t.first_method t.method_count n) q.types)) w.1) h, lim.limits.methods)
  method_small (Reference n) h r =
      omega (arith, kept_below k.method_refs p.method_refs n (own_there (λ q. q.method_refs) n r.0 (λ q x. on_some (resolve size ps f x.parent) (λ c. option_map (λ m. m.id) (find_method (classes_of size ps) c x.name (expanded_signature size ps f x.signature)))) r.1) h, lim.method_refs)

  field_small : (t : MemberToken) → HasField k t → NamesField size ps f t → SmallField k t
  field_small (Own n) h r =
      let w = map_back (λ owner. id_at f n) (field_owner ps (id_at f n)) r.0 r.1 in
      omega (arith, kept_below k.fields p.fields n (own_there (λ q. q.fields) n w.0 (λ q x. option_map (id_at f) (position (λ t. holds t.first_field t.field_count n) q.types)) w.1) h, lim.fields)
  field_small (Reference n) h r =
      omega (arith, kept_below k.field_refs p.field_refs n (own_there (λ q. q.field_refs) n r.0 (λ q x. on_some (resolve size ps f x.parent) (λ c. option_map (λ m. m.id) (find_field (classes_of size ps) c x.name (expanded size ps f x.signature)))) r.1) h, lim.field_refs)

  -- ---- scopes

  scope_there : (j : ℕ) (r : TypeRefRow) (x : Scope) (c : Id) → in_scope ps f (resolve_ref j ps f) r x ≡ Some c → ScopeIn p x
  scope_there j r (OfAssembly a) c e =
      let w = on_some_back (assembly_of ps f a) (λ g. type_in ps g None r) c e in
      let v = on_some_back (slice_get p.assemblies a) (λ (b : AssemblyRow). first_number (same_assembly b) ps) w.0 (sym (ap (λ x. on_some x (λ (q : Assembly). on_some (slice_get q.assemblies a) (λ b. first_number (same_assembly b) ps))) at) ∙ w.1) in
      slice_get_within p.assemblies a v.0 v.1
  scope_there j r (Inside m) c e =
      let w = on_some_back (resolve_ref j ps f m) (λ (d : Id). type_in ps d.file (Some d.row) r) c e in
      let v = ref_row ps j f m w.0 w.1 in
      here (λ q. q.refs) m v.0 v.1.0 v.1.1
  scope_there j r Nowhere c e = absurd (cc e)

  ref_scope : (j n : ℕ) (r : TypeRefRow) (c : Id) → slice_get p.refs n ≡ Some r → resolve_ref j ps f n ≡ Some c → ScopeIn p r.scope
  ref_scope zero n r c row e = absurd (cc e)
  ref_scope (suc j) n r c row e =
      scope_there j r r.scope c
      (sym (ap (λ x. on_some x (λ (q : Assembly). on_some (slice_get q.refs n) (λ y. in_scope ps f (resolve_ref j ps f) y y.scope))) at ∙ ap (λ x. on_some x (λ y. in_scope ps f (resolve_ref j ps f) y y.scope)) row) ∙ e)

  scope_kept : (x : Scope) → ScopeIn p x → HasScope k x → ScopeIn p' (scope_to k x)
  scope_kept (OfAssembly a) h e = kept_below k.assemblies p.assemblies a h e
  scope_kept (Inside m) h e = subst (λ c. below k.refs m < c) (sym (length-map (select k.refs p.refs) (ref_to k))) (kept_below k.refs p.refs m h e)
  scope_kept Nowhere h e = absurd h

  -- ---- signatures

  named : (t : RawType) → InElems t → InType Has t → InType Is t → NamedIn p' (raw_to k t)
  named (RawSpelt e) h g r = h
  named (RawClass t) h g r = plain_kept t g r
  named (RawValue t) h g r = plain_kept t g r
  named (RawArray t) h g r = named t h g r

  raw_in : (t : RawType) → TypeSpells t → InType Has t → InType Is t → RawIn p' (raw_to k t)
  raw_in t h g r = record { shallow = ap (nat_lt 255) (depth_same k t) ∙ h.shallow; named = named t h.elements g r }

  place_in : (t : RawPlace) → PlaceSpells t → InPlace Has t → InPlace Is t → PlaceIn p' (place_to k t)
  place_in (RawDirect t) h g r = raw_in t h g r
  place_in (RawByRef t) h g r = raw_in t h g r

  result_in : (t : Option RawType) → InOption TypeSpells t → InOption (InType Has) t → InOption (InType Is) t → ResultIn p' (option_map (raw_to k) t)
  result_in None h g r = tt
  result_in (Some t) h g r = raw_in t h g r

  signature_in : (t : RawSignature) → SignatureSpells t → InSignature Has t → InSignature Is t → SignatureIn p' (signature_to k t)
  signature_in t h g r =
      record {
        returns = result_in t.returns h.returns g.0 r.0;
        parameters =
            each_two_to PlaceSpells (λ x. InPlace Has x × InPlace Is x) (PlaceIn p') (place_to k) (λ x a b. place_in x a b.0 b.1) t.parameters h.parameters
            (each_two (InPlace Has) (InPlace Is) (λ x. InPlace Has x × InPlace Is x) (λ x a b. (a, b)) t.parameters g.1 r.1);
      }

  -- ---- code

  abbrev HasCode : RawCode → Type 0
  HasCode = InCode Has Has (HasMethod k) (HasField k)

  abbrev IsCode : RawCode → Type 0
  IsCode = InCode Is (NamesOperand size ps f) (NamesMethod size ps f) (NamesField size ps f)

  operand_is_small : (x : RawOperand) → InOperand Has (HasMethod k) (HasField k) x → InOperand (NamesOperand size ps f) (NamesMethod size ps f) (NamesField size ps f) x → InOperand (SmallType k) (SmallMethod k) (SmallField k) x
  operand_is_small RawNothing g r = tt
  operand_is_small (RawNumber n) g r = tt
  operand_is_small (RawTargets to) g r = tt
  operand_is_small (RawTypeOf t) g r = operand_small t g r
  operand_is_small (RawField t) g r = field_small t g r
  operand_is_small (RawMethod t) g r = method_small t g r
  operand_is_small (RawText units) g r = tt

  locals_in : (b : Bool) (ts : List RawType) → LocalsSpell b ts → Each (InType Has) ts → Each (InType Is) ts → LocalsIn p' b (map (raw_to k) ts)
  locals_in true ts h g r =
      each_two_to TypeSpells (λ x. InType Has x × InType Is x) (RawIn p') (raw_to k) (λ x a b. raw_in x a b.0 b.1) ts h
      (each_two (InType Has) (InType Is) (λ x. InType Has x × InType Is x) (λ x a b. (a, b)) ts g r)
  locals_in false ts h g r = ap (map (raw_to k)) h

  code_in : (mk : Manner) (place : ℕ → ℕ) (c : RawCode) → CodeSpells mk place c → HasCode c → IsCode c → CodeIn p' o mk (code_to k place c)
  code_in mk place c h g r =
      let is = instrs_to h.words mk.opcodes c.lines in
      let lines = lines_law k h.meaning h.words (words o) place mk.opcodes c.lines h.places h.lines
      (each_two (InLine Has (HasMethod k) (HasField k)) (InLine (NamesOperand size ps f) (NamesMethod size ps f) (NamesField size ps f)) (InLine (SmallType k) (SmallMethod k) (SmallField k)) (λ x a b. operand_is_small x.operand a b) c.lines g.2 r.2) h.targets h.distances in
      let bytes = code_bytes_law k h.meaning h.words (words o) place mk.opcodes c.lines h.places h.lines lines in
      record {
        some = omega (arith, bytes, h.places (long_end (pieces is)), end_is is, some_bytes h.meaning h.words 0 mk.opcodes c.lines h.lines h.some);
        locals = locals_in mk.has_locals c.locals h.locals g.0 r.0;
        nest = ap (λ n. clauses_nest n (map (clause_to k place) c.clauses)) bytes ∙ nest_law k is place h.places c.clauses h.clauses ∙ h.nest;
        room = room_same k place c.max_stack c.clauses ∙ h.room;
        lines = lines;
      }

  body_in : (mk : Manner) (place : ℕ → ℕ) (b : Body) (c : Option RawCode) → BodySpells mk place b c → InOption HasCode c → InOption IsCode c → BodyIn p' o mk b (option_map (code_to k place) c)
  body_in mk place Body.Code (Some c) h g r = code_in mk place c h g r
  body_in mk place Body.Code None h g r = absurd h
  body_in mk place (Body.Native name) None h g r = tt
  body_in mk place (Body.Native name) (Some c) h g r = absurd h
  body_in mk place Body.Missing None h g r = tt
  body_in mk place Body.Missing (Some c) h g r = absurd h

  kind_in : (x : RawKind) → KindSpells x → InKind Has x → InKind Is x → ClauseKindIn p' (kind_to k x)
  kind_in (RawCatch t) h g r = class_kept t g r
  kind_in RawFinally h g r = tt
  kind_in RawOther h g r = absurd h

  clause_kinds : (mk : Manner) (place : ℕ → ℕ) (c : RawCode) → CodeSpells mk place c → Each (λ (x : RawClause). KindSpells x.kind) c.clauses
  clause_kinds mk place c h = each_of (ClauseSpells (pieces (instrs_to h.words mk.opcodes c.lines))) (λ (x : RawClause). KindSpells x.kind) (λ x a. a.kind) c.clauses h.clauses

  code_clauses : (mk : Manner) (place : ℕ → ℕ) (c : RawCode) → CodeSpells mk place c → HasCode c → IsCode c → Each (ClauseIn p') (map (clause_to k place) c.clauses)
  code_clauses mk place c h g r =
      each_two_to (λ x. KindSpells x.kind) (λ x. InClause Has x × InClause Is x) (ClauseIn p') (clause_to k place) (λ x a b. kind_in x.kind a b.0 b.1) c.clauses
      (clause_kinds mk place c h)
      (each_two (InClause Has) (InClause Is) (λ x. InClause Has x × InClause Is x) (λ x a b. (a, b)) c.clauses g.1 r.1)

  body_clauses : (mk : Manner) (place : ℕ → ℕ) (b : Body) (c : Option RawCode) → BodySpells mk place b c → InOption HasCode c → InOption IsCode c → Each (ClauseIn p') (clauses_in (option_map (code_to k place) c))
  body_clauses mk place Body.Code (Some c) h g r = code_clauses mk place c h g r
  body_clauses mk place Body.Code None h g r = absurd h
  body_clauses mk place (Body.Native name) None h g r = tt
  body_clauses mk place (Body.Native name) (Some c) h g r = absurd h
  body_clauses mk place Body.Missing None h g r = tt
  body_clauses mk place Body.Missing (Some c) h g r = absurd h

  -- ---- rows

  method_row : (n : ℕ) (x : Manner × MethodRow) → slice_get ms n ≡ Some x → slice_get p.methods n ≡ Some x.1
  method_row n x row = ap (λ ys. slice_get ys n) (sym s.same) ∙ slice_get-map (λ (x : Manner × MethodRow). x.1) ms n ∙ ap (option_map (λ (x : Manner × MethodRow). x.1)) row

  method_in : (n : ℕ) (x : Manner × MethodRow) → slice_get ms n ≡ Some x → k.methods n ≡ true → MethodIn p' o x.0 (method_row_to k n x.1)
  method_in n x row e =
      let h = s.methods n x row e in
      let g = closed.keeps.named.methods f n p x.1 (at, method_row n x row) e in
      let r = there.named.methods f n p x.1 (at, method_row n x row) (within.methods f n e) in
      record { name = h.name; signature = signature_in x.1.signature h.signature g.0 r.0; body = body_in x.0 (k.short n) x.1.body x.1.code h.body g.1 r.1 }

  method_clauses : (n : ℕ) (x : Manner × MethodRow) → slice_get ms n ≡ Some x → k.methods n ≡ true → Each (ClauseIn p') (clauses_in (method_row_to k n x.1).code)
  method_clauses n x row e =
      let h = s.methods n x row e in
      let g = closed.keeps.named.methods f n p x.1 (at, method_row n x row) e in
      let r = there.named.methods f n p x.1 (at, method_row n x row) (within.methods f n e) in
      body_clauses x.0 (k.short n) x.1.body x.1.code h.body g.1 r.1

  outer_in : (x : Option ℕ) → InOption (HasRow k) x → InOption (NamesRow size ps f) x → BelowOrNone p' (length p'.types) (option_map (below k.types) x)
  outer_in None g r = tt
  outer_in (Some m) g r = subst (λ c. below k.types m < c) (sym (length-map (select k.types p.types) (type_row_to k))) (kept_below k.types p.types m (here (λ q. q.types) m r.0 r.1.0 r.1.1) g)

  extends_in : (x : Option TypeToken) → InOption Has x → InOption Is x → TokenOrNone p' (option_map (token_to k) x)
  extends_in None g r = tt
  extends_in (Some t) g r = class_kept t g r

  type_in_image : (n : ℕ) (t : TypeRow) → slice_get p.types n ≡ Some t → k.types n ≡ true → TypeIn p' (length ms') (type_row_to k t)
  type_in_image n t row e =
      let h = s.types n t row e in
      let g = closed.keeps.named.types f n p t (at, row) e in
      let r = there.named.types f n p t (at, row) (within.types f n e) in
      record {
        namespace = h.namespace;
        name = h.name;
        enclosing = outer_in t.enclosing g.0 r.0;
        extends = extends_in t.extends g.1 r.1;
        kind = h.kind;
        own_fields = ap (λ c. is_range c (first_of (below k.fields t.first_field) (below (behind t.first_field k.fields) t.field_count)) (below (behind t.first_field k.fields) t.field_count)) (length-map (select k.fields p.fields) (field_row_to k)) ∙ own_range k.fields p.fields t.first_field t.field_count h.own_fields;
        own_methods = own_range k.methods (numbered (chosen_method k) 0 ms) t.first_method t.method_count (omega (arith, h.own_methods, numbered_length (chosen_method k) 0 ms, method_count));
      }

  entry_in : (x : Option ℕ) → p.entry ≡ x → BelowOrNone p' (length ms') (option_map (below k.methods) x)
  entry_in None e = tt
  entry_in (Some n) e = let r = there.entry f n p at e in method_below n (slice_get_within p.methods n r.0 r.1) (closed.keeps.roots.entry f n p at e)

  pub spelt : IsSpelt p' ms'
  spelt =
      record {
        limits = lim.limits;
        version = s.version;
        name = s.name;
        entry = entry_in p.entry refl;
        versions = each_kept (λ (a : AssemblyRow). length a.version ≡ 4) k.assemblies p.assemblies s.versions;
        assemblies = each_kept (λ (a : AssemblyRow). IsUtf8 a.name) k.assemblies p.assemblies s.assemblies;
        refs = each_chosen (RefIn p') (ref_to k) k.refs p.refs (λ n r row e.
            let h = s.refs n r row e in
            let named = there.refs f n p r (at, row) (within.refs f n e) in
            record { scope = scope_kept r.scope (ref_scope size n r named.0 row named.1) (closed.keeps.named.refs f n p r (at, row) e); namespace = h.namespace; name = h.name });
        field_refs = each_chosen (FieldRefIn p') (field_ref_to k) k.field_refs p.field_refs (λ n r row e.
            let h = s.field_refs n r row e in
            let g = closed.keeps.named.field_refs f n p r (at, row) e in
            let t = there.named.field_refs f n p r (at, row) (within.field_refs f n e) in
            record { parent = class_kept r.parent g.0 t.0; name = h.name; signature = raw_in r.signature h.signature g.1 t.1 });
        method_refs = each_chosen (MethodRefIn p') (method_ref_to k) k.method_refs p.method_refs (λ n r row e.
            let h = s.method_refs n r row e in
            let g = closed.keeps.named.method_refs f n p r (at, row) e in
            let t = there.named.method_refs f n p r (at, row) (within.method_refs f n e) in
            record { parent = class_kept r.parent g.0 t.0; name = h.name; signature = signature_in r.signature h.signature g.1 t.1 });
        types = each_chosen (TypeIn p' (length ms')) (type_row_to k) k.types p.types type_in_image;
        interfaces = each_joined (TokenIn p') (λ (t : TypeRow). t.interfaces) p'.types (each_chosen (λ (t : TypeRow). Each (TokenIn p') t.interfaces) (type_row_to k) k.types p.types (λ n t row e.
            each_two_to Has Is (TokenIn p') (token_to k) class_kept t.interfaces (closed.keeps.named.types f n p t (at, row) e).2 (there.named.types f n p t (at, row) (within.types f n e)).2));
        fields = each_chosen (FieldIn p') (field_row_to k) k.fields p.fields (λ n x row e.
            let h = s.fields n x row e in
            record { name = h.name; signature = raw_in x.signature h.signature (closed.keeps.named.fields f n p x (at, row) e) (there.named.fields f n p x (at, row) (within.fields f n e)); kind = h.kind });
        methods = each_numbered (λ (x : Manner × MethodRow). MethodIn p' o x.0 x.1) (chosen_method k) 0 k.methods ms (λ n x row e. let same : n ≡ 0 + n = omega arith in subst (λ j. MethodIn p' o x.0 (method_row_to k j x.1)) same (method_in n x row e));
        clauses = each_joined (ClauseIn p') (λ (x : Manner × MethodRow). clauses_in x.1.code) ms' (each_numbered (λ (x : Manner × MethodRow). Each (ClauseIn p') (clauses_in x.1.code)) (chosen_method k) 0 k.methods ms (λ n x row e. let same : n ≡ 0 + n = omega arith in subst (λ j. Each (ClauseIn p') (clauses_in (method_row_to k j x.1).code)) same (method_clauses n x row e)));
        specs = each_chosen (SpecIn p') (raw_to k) k.specs p.specs (λ n x row e.
            let h = s.specs n x row e in
            record { signature = raw_in x h.signature (closed.keeps.named.specs f n p x (at, row) e) (there.named.specs f n p x (at, row) (within.specs f n e)); array = array_same k x h.array });
        same = map_select (λ (x : Manner × MethodRow). x.1) k.methods (numbered (chosen_method k) 0 ms) ∙ ap (select k.methods) (methods_numbered k 0 ms ∙ ap (numbered (method_row_to k) 0) s.same);
      }
