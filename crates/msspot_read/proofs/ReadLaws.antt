-- Rows of which each column stands are read, and no others.
use Rattle.std.proofs.Common.{◌≡◌, ℕ, zero, suc, ◌+◌, ◌<◌, ◌≤◌, Bool, true, false, ◌&&◌, ◌||◌, List, [], ◌∷◌, map, length, drop, Option, Some, None, refl, sym, ap, ◌∙◌, subst, arith, inl, inr, get_or-drop}
use Rattle.std.specs.Prelude.{is_some, nat_eq, nat_lt, nat_le, slice_index, slice_index_or, slice_get, if◌then◌else◌, unwrap_or}
use Rattle.std.specs.Option.{option_map}
use Rattle.std.proofs.lemmas.Bool.{cases_lt, lt-ltb, le-ltb, eq-eqb, ne_eqb}
use Rattle.std.proofs.lemmas.List.{length-map, drop_more, drop_all, drop-drop}
use Rattle.image_bytes.specs.Layout.{Image, widths, is_range, rows_in, rows_of}
use Rattle.classes.specs.Classes.{FieldKind}
use Rattle.assemblies.specs.Rows.{RawFinally, RawCatch, RawOther}
use Rattle.image_form.specs.Signatures.{type_token}
use Rattle.image_form.specs.Form.{on_both, checked, part, none_or, bit, static_kind, make_assembly_row, make_ref, make_field_ref, make_method_ref, make_type, make_field, make_method, make_clause, name_at, raw_at, signature_at, spec_at, part_at, assembly_at, ref_at, field_ref_at, method_ref_at, type_at, field_kind_at, field_at, interface_at, clause_kind_at, clause_at, body_at, method_at, data_at}
use Rattle.image_form.specs.Whole.{table, bytes_at, token_in, scope_in, row_in}
use Rattle.msspot_read.specs.declared.columns.Column.{Column}
use Rattle.msspot_read.specs.declared.columns.Column.TheVariants as columns
use Rattle.msspot_read.specs.Columns.{columns_of}
use Rattle.msspot_read.specs.Held.{clauses, held_of, reads, stands, all_stand, body_stands}

-- ---- whether what is read of several parts is there

pub some_of : {A B : Type 0} (f : A → B) (o : Option A) → is_some (option_map f o) ≡ is_some o
some_of f None = refl
some_of f (Some x) = refl

pub some_both : {A B : Type 0} (f : Option (A → B)) (o : Option A) → is_some (on_both f o) ≡ (is_some f && is_some o)
some_both None o = refl
some_both (Some f) None = refl
some_both (Some f) (Some x) = refl

and_true : (a : Bool) → (a && true) ≡ a
and_true true = refl
and_true false = refl

three : {A B C D : Type 0} (f : A → B → C → D) (a : Option A) (b : Option B) (c : Option C) → is_some (on_both (on_both (option_map f a) b) c) ≡ (is_some a && (is_some b && (is_some c && true)))
three f None b c = refl
three f (Some x) None c = refl
three f (Some x) (Some y) None = refl
three f (Some x) (Some y) (Some z) = refl

five : {A B C D E F : Type 0} (f : A → B → C → D → E → F) (a : Option A) (b : Option B) (c : Option C) (d : Option D) (e : Option E)
    → is_some (on_both (on_both (on_both (on_both (option_map f a) b) c) d) e) ≡ (is_some a && (is_some b && (is_some c && (is_some d && is_some e))))
five f None b c d e = refl
five f (Some x) None c d e = refl
five f (Some x) (Some y) None d e = refl
five f (Some x) (Some y) (Some z) None e = refl
five f (Some x) (Some y) (Some z) (Some u) None = refl
five f (Some x) (Some y) (Some z) (Some u) (Some v) = refl

some_checked : {A : Type 0} (b : Bool) (x : A) → is_some (checked b x) ≡ b
some_checked true x = refl
some_checked false x = refl

none_is : {A : Type 0} (t : Bool) (o : Option A) → is_some (if t then Some None else option_map Some o) ≡ (t || is_some o)
none_is true o = refl
none_is false None = refl
none_is false (Some x) = refl

some_or_none : {A : Type 0} (read : ℕ → Option A) (w : ℕ) → is_some (none_or read w) ≡ (nat_eq w 65535 || is_some (read w))
some_or_none read w = none_is (nat_eq w 65535) (read w)

one_more : (a b : ℕ) → nat_lt a b ≡ nat_lt (suc a) (suc b)
one_more a b =
    elim (cases_lt a b) [
      | inl h ↦ lt-ltb a b h ∙ sym (lt-ltb (suc a) (suc b) (omega arith))
      | inr h ↦ le-ltb a b h ∙ sym (le-ltb (suc a) (suc b) (omega arith))
    ]

some_get : {A : Type 0} (xs : List A) (k : ℕ) → is_some (slice_get xs k) ≡ nat_lt k (length xs)
some_get [] k = sym (le-ltb k 0 (omega arith))
some_get (x ∷ xs) zero = sym (lt-ltb 0 (length (x ∷ xs)) (omega arith))
some_get (x ∷ xs) (suc k) = some_get xs k ∙ one_more k (length xs)

-- ---- a row by its numbers

abbrev cells : ℕ → List ℕ → List ℕ
cells zero r = []
cells (suc n) r = slice_index r 0 ∷ cells n (drop 1 r)

spread : (n : ℕ) (r : List ℕ) → length r ≡ n → cells n r ≡ r
spread zero [] e = refl
spread zero (x ∷ r) e = absurd (omega (arith, e))
spread (suc n) [] e = absurd (omega (arith, e))
spread (suc n) (x ∷ r) e = ap (λ xs. x ∷ xs) (spread n r (omega (arith, e)))

pub rows_long : (i : Image) (t : ℕ) → length (table i t) ≡ rows_of i t
rows_long i t = by (slice_get i.tables t) where
  by : (o : Option (List (List ℕ))) → length (unwrap_or o []) ≡ rows_in o
  by None = refl
  by (Some rows) = refl

pub long_as_table : {A : Type 0} (i : Image) (t : ℕ) (f : List ℕ → A) → length (map f (table i t)) ≡ rows_of i t
long_as_table i t f = length-map (table i t) f ∙ rows_long i t

-- ---- one table after the other

falls : (a b c d e : Bool) → (a && (b && (c && (d && (e && false))))) ≡ false
falls true true true true true = refl
falls true true true true false = refl
falls true true true false e = refl
falls true true false d e = refl
falls true false c d e = refl
falls false b c d e = refl

-- the conditions of a type in another order
turned : (f m a b c d e : Bool) → (a && (b && (c && (d && (true && (e && (true && (f && (true && (m && true)))))))))) ≡ (if f && m then a && (b && (c && (d && e))) else false)
turned true true a b c d e = ap (λ x. a && (b && (c && (d && x)))) (and_true e)
turned true false a b c d e = falls a b c d e
turned false m a b c d e = falls a b c d e

if_some : {A : Type 0} (t : Bool) (o : Option A) → is_some (if t then o else None) ≡ (if t then is_some o else false)
if_some true o = refl
if_some false o = refl

module _ (i : Image) where
  assembly_cells : (a b c d e : ℕ) → all_stand i (columns_of 0) (a ∷ b ∷ c ∷ d ∷ e ∷ []) ≡ is_some (assembly_at (held_of i) (a ∷ b ∷ c ∷ d ∷ e ∷ []))
  assembly_cells a b c d e = and_true (is_some (name_at (held_of i) a)) ∙ sym (some_of (make_assembly_row (b ∷ c ∷ d ∷ e ∷ [])) (name_at (held_of i) a))

  ref_cells : (a b c : ℕ) → all_stand i (columns_of 1) (a ∷ b ∷ c ∷ []) ≡ is_some (ref_at (held_of i) (a ∷ b ∷ c ∷ []))
  ref_cells a b c = sym (three make_ref (scope_in i a) (name_at (held_of i) b) (name_at (held_of i) c))

  field_ref_cells : (a b c : ℕ) → all_stand i (columns_of 2) (a ∷ b ∷ c ∷ []) ≡ is_some (field_ref_at (held_of i) (a ∷ b ∷ c ∷ []))
  field_ref_cells a b c = sym (three make_field_ref (token_in i a) (name_at (held_of i) b) (raw_at (held_of i) c))

  method_ref_cells : (a b c : ℕ) → all_stand i (columns_of 3) (a ∷ b ∷ c ∷ []) ≡ is_some (method_ref_at (held_of i) (a ∷ b ∷ c ∷ []))
  method_ref_cells a b c = sym (three make_method_ref (token_in i a) (name_at (held_of i) b) (signature_at (held_of i) c))

  type_cells : (ns n outer up flags fi ci ff cf fm cm : ℕ) → all_stand i (columns_of 4) (ns ∷ n ∷ outer ∷ up ∷ flags ∷ fi ∷ ci ∷ ff ∷ cf ∷ fm ∷ cm ∷ []) ≡ is_some (type_at (held_of i) (ns ∷ n ∷ outer ∷ up ∷ flags ∷ fi ∷ ci ∷ ff ∷ cf ∷ fm ∷ cm ∷ []))
  type_cells ns n outer up flags fi ci ff cf fm cm =
      let a = is_some (name_at (held_of i) ns) in
      let b = is_some (name_at (held_of i) n) in
      let c = nat_eq outer 65535 || nat_lt outer (rows_of i 4) in
      let d = nat_eq up 65535 || is_some (token_in i up) in
      let e = is_range (rows_of i 5) fi ci in
      let ranges = is_range (rows_of i 6) ff cf && is_range (rows_of i 7) fm cm in
      let interfaces = part_at (held_of i) fi ci (held_of i).interfaces in
      let outer_is : is_some (none_or (row_in i 4) outer) ≡ c = some_or_none (row_in i 4) outer ∙ ap (λ x. nat_eq outer 65535 || x) (some_checked (nat_lt outer (rows_of i 4)) outer) in
      let up_is : is_some (none_or (token_in i) up) ≡ d = some_or_none (token_in i) up in
      let interfaces_are : is_some interfaces ≡ e = some_checked (is_range (length (held_of i).interfaces) fi ci) (part fi ci (held_of i).interfaces) ∙ ap (λ n. is_range n fi ci) (long_as_table i 5 (λ r. type_token (slice_index r 0))) in
      turned (is_range (rows_of i 6) ff cf) (is_range (rows_of i 7) fm cm) a b c d e
      ∙ sym (if_some ranges (on_both (on_both (on_both (on_both (option_map (make_type flags ff cf fm cm) (name_at (held_of i) ns)) (name_at (held_of i) n)) (none_or (row_in i 4) outer)) (none_or (token_in i) up)) interfaces)
      ∙ ap (λ x. if ranges then x else false)
      (five (make_type flags ff cf fm cm) (name_at (held_of i) ns) (name_at (held_of i) n) (none_or (row_in i 4) outer) (none_or (token_in i) up) interfaces
      ∙ ap (λ x. a && (b && (x && (is_some (none_or (token_in i) up) && is_some interfaces)))) outer_is
      ∙ ap (λ x. a && (b && (c && (x && is_some interfaces)))) up_is
      ∙ ap (λ x. a && (b && (c && (d && x)))) interfaces_are))

  interface_cells : (a : ℕ) → all_stand i (columns_of 5) (a ∷ []) ≡ is_some (interface_at (held_of i) (a ∷ []))
  interface_cells a = and_true (is_some (token_in i a))

  data_kind : (t : Bool) (flags d : ℕ) → is_some (if t then Some (static_kind (bit 1 flags)) else option_map FieldKind.DataField (slice_get (held_of i).datas d)) ≡ (t || nat_lt d (rows_of i 10))
  data_kind true flags d = refl
  data_kind false flags d =
      some_of FieldKind.DataField (slice_get (held_of i).datas d) ∙ some_get (held_of i).datas d ∙ ap (nat_lt d) (long_as_table i 10 (λ r. part (slice_index r 0) (slice_index r 1) (bytes_at i 3)))

  field_cells : (n s flags d : ℕ) → all_stand i (columns_of 6) (n ∷ s ∷ flags ∷ d ∷ []) ≡ is_some (field_at (held_of i) (n ∷ s ∷ flags ∷ d ∷ []))
  field_cells n s flags d =
      sym
      (three make_field (name_at (held_of i) n) (raw_at (held_of i) s) (field_kind_at (held_of i) flags d)
      ∙ ap (λ x. is_some (name_at (held_of i) n) && (is_some (raw_at (held_of i) s) && (x && true))) (data_kind (nat_eq d 65535) flags d))

  method_cells : (n s flags start count locals max_stack first clauses : ℕ)
      → (all_stand i (columns_of 7) (n ∷ s ∷ flags ∷ start ∷ count ∷ locals ∷ max_stack ∷ first ∷ clauses ∷ []) && body_stands i (n ∷ s ∷ flags ∷ start ∷ count ∷ locals ∷ max_stack ∷ first ∷ clauses ∷ []))
      ≡ is_some (method_at (held_of i) (n ∷ s ∷ flags ∷ start ∷ count ∷ locals ∷ max_stack ∷ first ∷ clauses ∷ []))
  method_cells n s flags start count locals max_stack first clauses =
      regrouped (is_some (name_at (held_of i) n)) (is_some (signature_at (held_of i) s)) (is_some (body_at (held_of i) flags start count locals max_stack first clauses))
      ∙ sym (three (make_method flags) (name_at (held_of i) n) (signature_at (held_of i) s) (body_at (held_of i) flags start count locals max_stack first clauses))
    where
      regrouped : (a b c : Bool) → ((a && (b && true)) && c) ≡ (a && (b && (c && true)))
      regrouped true true c = sym (and_true c)
      regrouped true false c = refl
      regrouped false b c = refl

  kind_is : (a b c d k w : ℕ) → is_some (option_map (make_clause a b c d) (clause_kind_at (held_of i) k w)) ≡ (if nat_eq k 2 then nat_eq w 65535 else is_some (token_in i w))
  kind_is a b c d k w = some_of (make_clause a b c d) (clause_kind_at (held_of i) k w) ∙ by (nat_eq k 2) where
    by : (t : Bool) → is_some (if t then checked (nat_eq w 65535) RawFinally else option_map (λ t. if nat_eq k 0 then RawCatch t else RawOther) (token_in i w)) ≡ (if t then nat_eq w 65535 else is_some (token_in i w))
    by true = some_checked (nat_eq w 65535) RawFinally
    by false = some_of (λ t. if nat_eq k 0 then RawCatch t else RawOther) (token_in i w)

  clause_cells : (k w a b c d : ℕ) → all_stand i (columns_of 8) (k ∷ w ∷ a ∷ b ∷ c ∷ d ∷ []) ≡ is_some (clause_at (held_of i) (k ∷ w ∷ a ∷ b ∷ c ∷ d ∷ []))
  clause_cells k w a b c d = and_true (if nat_eq k 2 then nat_eq w 65535 else is_some (token_in i w)) ∙ sym (kind_is a b c d k w)

  spec_cells : (a : ℕ) → all_stand i (columns_of 9) (a ∷ []) ≡ is_some (spec_at (held_of i) (a ∷ []))
  spec_cells a = and_true (is_some (spec_at (held_of i) (a ∷ [])))

  data_cells : (at n : ℕ) → all_stand i (columns_of 10) (at ∷ n ∷ []) ≡ is_some (data_at (bytes_at i 3) (at ∷ n ∷ []))
  data_cells at n = and_true (nat_le (at + n) (length (bytes_at i 3))) ∙ sym (some_checked (nat_le (at + n) (length (bytes_at i 3))) (part at n (bytes_at i 3)))

  -- a row of the table's width stands exactly where it is read
  abbrev pub row_stands : ℕ → List ℕ → Bool
  row_stands t r = if nat_eq t 7 then all_stand i (columns_of t) r && body_stands i r else all_stand i (columns_of t) r

  cells_read : (t : ℕ) → t < 11 → (r : List ℕ) → row_stands t (cells (slice_index widths t) r) ≡ reads i t (cells (slice_index widths t) r)
  cells_read zero h r = assembly_cells (slice_index r 0) (slice_index (drop 1 r) 0) (slice_index (drop 1 (drop 1 r)) 0) (slice_index (drop 1 (drop 1 (drop 1 r))) 0) (slice_index (drop 1 (drop 1 (drop 1 (drop 1 r)))) 0)
  cells_read (suc zero) h r = ref_cells (slice_index r 0) (slice_index (drop 1 r) 0) (slice_index (drop 1 (drop 1 r)) 0)
  cells_read (suc (suc zero)) h r = field_ref_cells (slice_index r 0) (slice_index (drop 1 r) 0) (slice_index (drop 1 (drop 1 r)) 0)
  cells_read (suc (suc (suc zero))) h r = method_ref_cells (slice_index r 0) (slice_index (drop 1 r) 0) (slice_index (drop 1 (drop 1 r)) 0)
  cells_read (suc (suc (suc (suc zero)))) h r = type_cells (slice_index r 0) (slice_index (drop 1 r) 0) (slice_index (drop 1 (drop 1 r)) 0) (slice_index (drop 1 (drop 1 (drop 1 r))) 0) (slice_index (drop 1 (drop 1 (drop 1 (drop 1 r)))) 0) (slice_index (drop 1 (drop 1 (drop 1 (drop 1 (drop 1 r))))) 0) (slice_index (drop 1 (drop 1 (drop 1 (drop 1 (drop 1 (drop 1 r)))))) 0) (slice_index (drop 1 (drop 1 (drop 1 (drop 1 (drop 1 (drop 1 (drop 1 r))))))) 0) (slice_index (drop 1 (drop 1 (drop 1 (drop 1 (drop 1 (drop 1 (drop 1 (drop 1 r)))))))) 0) (slice_index (drop 1 (drop 1 (drop 1 (drop 1 (drop 1 (drop 1 (drop 1 (drop 1 (drop 1 r))))))))) 0) (slice_index (drop 1 (drop 1 (drop 1 (drop 1 (drop 1 (drop 1 (drop 1 (drop 1 (drop 1 (drop 1 r)))))))))) 0)
  cells_read (suc (suc (suc (suc (suc zero))))) h r = interface_cells (slice_index r 0)
  cells_read (suc (suc (suc (suc (suc (suc zero)))))) h r = field_cells (slice_index r 0) (slice_index (drop 1 r) 0) (slice_index (drop 1 (drop 1 r)) 0) (slice_index (drop 1 (drop 1 (drop 1 r))) 0)
  cells_read (suc (suc (suc (suc (suc (suc (suc zero))))))) h r = method_cells (slice_index r 0) (slice_index (drop 1 r) 0) (slice_index (drop 1 (drop 1 r)) 0) (slice_index (drop 1 (drop 1 (drop 1 r))) 0) (slice_index (drop 1 (drop 1 (drop 1 (drop 1 r)))) 0) (slice_index (drop 1 (drop 1 (drop 1 (drop 1 (drop 1 r))))) 0) (slice_index (drop 1 (drop 1 (drop 1 (drop 1 (drop 1 (drop 1 r)))))) 0) (slice_index (drop 1 (drop 1 (drop 1 (drop 1 (drop 1 (drop 1 (drop 1 r))))))) 0) (slice_index (drop 1 (drop 1 (drop 1 (drop 1 (drop 1 (drop 1 (drop 1 (drop 1 r)))))))) 0)
  cells_read (suc (suc (suc (suc (suc (suc (suc (suc zero)))))))) h r = clause_cells (slice_index r 0) (slice_index (drop 1 r) 0) (slice_index (drop 1 (drop 1 r)) 0) (slice_index (drop 1 (drop 1 (drop 1 r))) 0) (slice_index (drop 1 (drop 1 (drop 1 (drop 1 r)))) 0) (slice_index (drop 1 (drop 1 (drop 1 (drop 1 (drop 1 r))))) 0)
  cells_read (suc (suc (suc (suc (suc (suc (suc (suc (suc zero))))))))) h r = spec_cells (slice_index r 0)
  cells_read (suc (suc (suc (suc (suc (suc (suc (suc (suc (suc zero)))))))))) h r = data_cells (slice_index r 0) (slice_index (drop 1 r) 0)
  cells_read (suc (suc (suc (suc (suc (suc (suc (suc (suc (suc (suc t))))))))))) h r = absurd (omega (arith, h))

  pub row_read : (t : ℕ) (r : List ℕ) → t < 11 → length r ≡ slice_index widths t → row_stands t r ≡ reads i t r
  row_read t r h e = let same = spread (slice_index widths t) r e in subst (λ (l : List ℕ). row_stands t l ≡ reads i t l) same (cells_read t h r)

  chosen_false : (t x y : Bool) → x ≡ false → (if t then x && y else x) ≡ false
  chosen_false true x y e = ap (λ b. b && y) e
  chosen_false false x y e = e

  pub row_fails : (t : ℕ) (r : List ℕ) → t < 11 → length r ≡ slice_index widths t → all_stand i (columns_of t) r ≡ false → false ≡ reads i t r
  row_fails t r h e bad = sym (sym (row_read t r h e) ∙ chosen_false (nat_eq t 7) (all_stand i (columns_of t) r) (body_stands i r) bad)

  pub method_row : (t : ℕ) (r : List ℕ) → t < 11 → length r ≡ slice_index widths t → all_stand i (columns_of t) r ≡ true → t ≡ 7 → body_stands i r ≡ reads i t r
  method_row t r h e good is =
      sym
      (sym (row_read t r h e)
      ∙ ap (λ b. if b then all_stand i (columns_of t) r && body_stands i r else all_stand i (columns_of t) r) (eq-eqb t 7 is)
      ∙ ap (λ b. b && body_stands i r) good)

  pub other_row : (t : ℕ) (r : List ℕ) → t < 11 → length r ≡ slice_index widths t → all_stand i (columns_of t) r ≡ true → (t ≡ 7 → ⊥) → true ≡ reads i t r
  other_row t r h e good other =
      sym
      (sym (row_read t r h e)
      ∙ ap (λ b. if b then all_stand i (columns_of t) r && body_stands i r else all_stand i (columns_of t) r) (ne_eqb t 7 other)
      ∙ good)

  entry_is : is_some (none_or (row_in i 7) i.entry) ≡ (nat_eq i.entry 65535 || nat_lt i.entry (rows_of i 7))
  entry_is = some_or_none (row_in i 7) i.entry ∙ ap (λ b. nat_eq i.entry 65535 || b) (some_checked (nat_lt i.entry (rows_of i 7)) i.entry)

  pub entry_none : i.entry ≡ 65535 → true ≡ is_some (none_or (row_in i 7) i.entry)
  entry_none e = sym (entry_is ∙ ap (λ b. b || nat_lt i.entry (rows_of i 7)) (eq-eqb i.entry 65535 e))

  pub entry_row : (i.entry ≡ 65535 → ⊥) → nat_lt i.entry (rows_of i 7) ≡ is_some (none_or (row_in i 7) i.entry)
  entry_row f = sym (entry_is ∙ ap (λ b. b || nat_lt i.entry (rows_of i 7)) (ne_eqb i.entry 65535 f))

-- ---- a loop over columns

step : (i : Image) (cs : List Column) (r : List ℕ) (k : ℕ) → k < length cs → all_stand i (drop k cs) (drop k r) ≡ (stands i (slice_index_or cs k columns.Number) (slice_index r k) (slice_index r (k + 1)) && all_stand i (drop (k + 1) cs) (drop (k + 1) r))
step i cs r k h =
    let here : k + 0 ≡ k = omega arith in
    ap (λ xs. all_stand i xs (drop k r)) (drop_more cs k columns.Number h)
    ∙ ap (λ w. stands i (slice_index_or cs k columns.Number) w (slice_index (drop k r) 1) && all_stand i (drop (k + 1) cs) (drop 1 (drop k r))) (get_or-drop k r 0 0 ∙ ap (slice_index r) here)
    ∙ ap (λ w. stands i (slice_index_or cs k columns.Number) (slice_index r k) w && all_stand i (drop (k + 1) cs) (drop 1 (drop k r))) (get_or-drop k r 1 0)
    ∙ ap (λ xs. stands i (slice_index_or cs k columns.Number) (slice_index r k) (slice_index r (k + 1)) && all_stand i (drop (k + 1) cs) xs) (drop-drop 1 k r)

pub columns_more : (i : Image) (cs : List Column) (r : List ℕ) (k : ℕ) (whole : Bool) → k < length cs → stands i (slice_index_or cs k columns.Number) (slice_index r k) (slice_index r (k + 1)) ≡ true → all_stand i (drop k cs) (drop k r) ≡ whole → all_stand i (drop (k + 1) cs) (drop (k + 1) r) ≡ whole
columns_more i cs r k whole h good e = sym (step i cs r k h ∙ ap (λ b. b && all_stand i (drop (k + 1) cs) (drop (k + 1) r)) good) ∙ e

pub columns_stop : (i : Image) (cs : List Column) (r : List ℕ) (k : ℕ) (whole : Bool) → k < length cs → stands i (slice_index_or cs k columns.Number) (slice_index r k) (slice_index r (k + 1)) ≡ false → all_stand i (drop k cs) (drop k r) ≡ whole → whole ≡ false
columns_stop i cs r k whole h bad e = sym e ∙ step i cs r k h ∙ ap (λ b. b && all_stand i (drop (k + 1) cs) (drop (k + 1) r)) bad

pub columns_done : (i : Image) (cs : List Column) (r : List ℕ) (k : ℕ) (whole : Bool) → length cs ≤ k → all_stand i (drop k cs) (drop k r) ≡ whole → whole ≡ true
columns_done i cs r k whole h e = sym e ∙ ap (λ xs. all_stand i xs (drop k r)) (drop_all k cs h)

-- a row is told by its numbers
pub same_stand : (i : Image) (cs : List Column) (r s : List ℕ) → ((k : ℕ) → slice_index r k ≡ slice_index s k) → all_stand i cs r ≡ all_stand i cs s
same_stand i [] r s h = refl
same_stand i (c ∷ cs) r s h =
    ap (λ w. stands i c w (slice_index r 1) && all_stand i cs (drop 1 r)) (h 0)
    ∙ ap (λ w. stands i c (slice_index s 0) w && all_stand i cs (drop 1 r)) (h 1)
    ∙ ap (λ b. stands i c (slice_index s 0) (slice_index s 1) && b) (same_stand i cs (drop 1 r) (drop 1 s) (λ k. get_or-drop 1 r k 0 ∙ h (1 + k) ∙ sym (get_or-drop 1 s k 0)))
