-- What an image's rows were read from.
use Rattle.std.proofs.Common.{◌≡◌, ℕ, zero, suc, ◌<◌, ◌≤◌, List, [], ◌∷◌, length, Option, Some, None, refl, sym, ap, ◌∙◌, arith}
use Rattle.std.specs.Prelude.{slice_get, unwrap_or}
use Rattle.std.specs.Option.{option_map}
use Rattle.std.proofs.lemmas.Option.{slice_get-get_or}
use Rattle.machine.specs.Throw.{on_some}
use Rattle.image_bytes.specs.Layout.{Image, rows_in, rows_of}
use Rattle.assemblies.specs.Rows.{TypeToken, RawClause, Assembly}
use Rattle.image_form.specs.Form.{Held, on_both, all_some, none_or, name_at, assembly_at, ref_at, field_ref_at, method_ref_at, type_at, field_at, interface_at, clause_at, method_at, spec_at, data_at}
use Rattle.image_form.specs.Whole.{table, bytes_at, texts_in, row_in, held, nothing_held, make_assembly, rows_held, with_datas, with_clauses, with_interfaces, rows_with, image_rows}
use Rattle.msspot_read.specs.Rows.{row_of}

-- ---- what was joined

pub some_back : {A B : Type 0} (o : Option A) (go : A → Option B) (y : B) → on_some o go ≡ Some y → (x : A) × (o ≡ Some x) × (go x ≡ Some y)
some_back None go y e = cc e
some_back (Some x) go y e = (x, refl, e)

pub map_back : {A B : Type 0} (f : A → B) (o : Option A) (y : B) → option_map f o ≡ Some y → (x : A) × (o ≡ Some x) × (f x ≡ y)
map_back f None y e = cc e
map_back f (Some x) y e = (x, refl, cc e)

pub both_back : {A B : Type 0} (f : Option (A → B)) (o : Option A) (y : B) → on_both f o ≡ Some y → (g : A → B) × (x : A) × (f ≡ Some g) × (o ≡ Some x) × (g x ≡ y)
both_back None o y e = cc e
both_back (Some g) None y e = cc e
both_back (Some g) (Some x) y e = (g, x, refl, refl, cc e)

-- ---- lists of things that are each read

all_first : {A B : Type 0} (f : A → Option B) (x : A) (xs : List A) (ys : List B) → all_some f (x ∷ xs) ≡ Some ys → (z : B) × (zs : List B) × (f x ≡ Some z) × (all_some f xs ≡ Some zs) × (z ∷ zs ≡ ys)
all_first f x xs ys e =
    let b = both_back (option_map (λ y ys. y ∷ ys) (f x)) (all_some f xs) ys e in
    let m = map_back (λ y ys. y ∷ ys) (f x) b.0 b.2 in
    (m.0, b.1, m.1, b.3, ap (λ k. k b.1) m.2 ∙ b.4)

pub all_back : {A B : Type 0} (f : A → Option B) (xs : List A) (ys : List B) (n : ℕ) (x : A) → all_some f xs ≡ Some ys → slice_get xs n ≡ Some x → (y : B) × (f x ≡ Some y) × (slice_get ys n ≡ Some y)
all_back f [] ys n x e h = cc h
all_back f (z ∷ xs) ys zero x e h =
    let first = all_first f z xs ys e in
    let same : x ≡ z = cc h in
    (first.0, ap f same ∙ first.2, sym (ap (λ l. slice_get l 0) first.4))
all_back f (z ∷ xs) ys (suc n) x e h =
    let first = all_first f z xs ys e in
    let rest = all_back f xs first.1 n x first.3 h in
    (rest.0, rest.1, sym (ap (λ l. slice_get l (suc n)) first.4) ∙ rest.2)

pub all_past : {A B : Type 0} (f : A → Option B) (xs : List A) (ys : List B) (n : ℕ) → all_some f xs ≡ Some ys → length xs ≤ n → slice_get ys n ≡ None
all_past f [] ys n e h = let none : [] ≡ ys = cc e in sym (ap (λ l. slice_get l n) none)
all_past f (z ∷ xs) ys zero e h = absurd (omega arith)
all_past f (z ∷ xs) ys (suc n) e h =
    let first = all_first f z xs ys e in
    sym (ap (λ l. slice_get l (suc n)) first.4) ∙ all_past f xs first.1 n first.3 (omega arith)

pub all_many : {A B : Type 0} (f : A → Option B) (xs : List A) (ys : List B) → all_some f xs ≡ Some ys → length xs ≡ length ys
all_many f [] ys e = let none : [] ≡ ys = cc e in ap length none
all_many f (z ∷ xs) ys e =
    let first = all_first f z xs ys e in
    ap suc (all_many f xs first.1 first.3) ∙ ap length first.4

pub rows_are : (i : Image) (t : ℕ) → length (table i t) ≡ rows_of i t
rows_are i t = go (slice_get i.tables t)
  where
    go : (o : Option (List (List ℕ))) → length (unwrap_or o []) ≡ rows_in o
    go None = refl
    go (Some rows) = refl

pub there : {A : Type 0} (i : Image) (t n : ℕ) (f : List ℕ → Option A) (ys : List A) → all_some f (table i t) ≡ Some ys → n < rows_of i t → (y : A) × (f (row_of i t n) ≡ Some y) × (slice_get ys n ≡ Some y)
there i t n f ys e h =
    let size = rows_are i t in
    all_back f (table i t) ys n (row_of i t n) e (slice_get-get_or (table i t) n [] (omega (arith, h, size)))

pub past : {A : Type 0} (i : Image) (t n : ℕ) (f : List ℕ → Option A) (ys : List A) → all_some f (table i t) ≡ Some ys → rows_of i t ≤ n → slice_get ys n ≡ None
past i t n f ys e h = let size = rows_are i t in all_past f (table i t) ys n e (omega (arith, h, size))

-- ---- the whole

pub record HeldParts (i : Image) (h : Held) (p : Assembly) : Type 0 where
  pub name : name_at h i.name ≡ Some p.name
  pub version : i.version ≡ p.version
  pub assemblies : all_some (assembly_at h) (table i 0) ≡ Some p.assemblies
  pub refs : all_some (ref_at h) (table i 1) ≡ Some p.refs
  pub field_refs : all_some (field_ref_at h) (table i 2) ≡ Some p.field_refs
  pub method_refs : all_some (method_ref_at h) (table i 3) ≡ Some p.method_refs
  pub types : all_some (type_at h) (table i 4) ≡ Some p.types
  pub fields : all_some (field_at h) (table i 6) ≡ Some p.fields
  pub methods : all_some (method_at h) (table i 7) ≡ Some p.methods

held_parts : (i : Image) (s g : List (List ℕ)) (h : Held) (p : Assembly) → rows_held i s g h ≡ Some p → HeldParts i h p
held_parts i s g h p e =
    let r9 = both_back _ (all_some (spec_at h) (table i 9)) p e in
    let r8 = both_back _ (all_some (method_at h) (table i 7)) r9.0 r9.2 in
    let r7 = both_back _ (all_some (field_at h) (table i 6)) r8.0 r8.2 in
    let r6 = both_back _ (all_some (type_at h) (table i 4)) r7.0 r7.2 in
    let r5 = both_back _ (all_some (method_ref_at h) (table i 3)) r6.0 r6.2 in
    let r4 = both_back _ (all_some (field_ref_at h) (table i 2)) r5.0 r5.2 in
    let r3 = both_back _ (all_some (ref_at h) (table i 1)) r4.0 r4.2 in
    let r2 = both_back _ (all_some (assembly_at h) (table i 0)) r3.0 r3.2 in
    let r1 = both_back _ (none_or (row_in i 7) i.entry) r2.0 r2.2 in
    let r0 = map_back (make_assembly i s g) (name_at h i.name) r1.0 r1.2 in
    let q1 = ap (λ k. k r1.1) r0.2 ∙ r1.4 in
    let q2 = ap (λ k. k r2.1) q1 ∙ r2.4 in
    let q3 = ap (λ k. k r3.1) q2 ∙ r3.4 in
    let q4 = ap (λ k. k r4.1) q3 ∙ r4.4 in
    let q5 = ap (λ k. k r5.1) q4 ∙ r5.4 in
    let q6 = ap (λ k. k r6.1) q5 ∙ r6.4 in
    let q7 = ap (λ k. k r7.1) q6 ∙ r7.4 in
    let q8 = ap (λ k. k r8.1) q7 ∙ r8.4 in
    let whole : make_assembly i s g r0.0 r1.1 r2.1 r3.1 r4.1 r5.1 r6.1 r7.1 r8.1 r9.1 ≡ p = ap (λ k. k r9.1) q8 ∙ r9.4 in
    record {
      name = r0.1 ∙ ap (λ (q : Assembly). Some q.name) whole;
      version = ap (λ (q : Assembly). q.version) whole;
      assemblies = r2.3 ∙ ap (λ (q : Assembly). Some q.assemblies) whole;
      refs = r3.3 ∙ ap (λ (q : Assembly). Some q.refs) whole;
      field_refs = r4.3 ∙ ap (λ (q : Assembly). Some q.field_refs) whole;
      method_refs = r5.3 ∙ ap (λ (q : Assembly). Some q.method_refs) whole;
      types = r6.3 ∙ ap (λ (q : Assembly). Some q.types) whole;
      fields = r7.3 ∙ ap (λ (q : Assembly). Some q.fields) whole;
      methods = r8.3 ∙ ap (λ (q : Assembly). Some q.methods) whole;
    }

pub record Parts (i : Image) (p : Assembly) : Type 0 where
  pub strings : List (List ℕ)
  pub signatures : List (List ℕ)
  pub interfaces : List TypeToken
  pub clauses : List RawClause
  pub datas : List (List ℕ)
  pub string_texts : texts_in (bytes_at i 0) ≡ Some strings
  pub signature_texts : texts_in (bytes_at i 1) ≡ Some signatures
  pub interface_rows : all_some (interface_at (nothing_held i strings signatures)) (table i 5) ≡ Some interfaces
  pub data_rows : all_some (data_at (bytes_at i 3)) (table i 10) ≡ Some datas
  pub of_held : HeldParts i (held i strings signatures interfaces clauses datas) p

pub parts_of : (i : Image) (p : Assembly) → image_rows i ≡ Some p → Parts i p
parts_of i p e =
    let a = some_back (texts_in (bytes_at i 0)) (λ strings. on_some (texts_in (bytes_at i 1)) (rows_with i strings)) p e in
    let b = some_back (texts_in (bytes_at i 1)) (rows_with i a.0) p a.2 in
    let c = some_back (all_some (interface_at (nothing_held i a.0 b.0)) (table i 5)) (with_interfaces i a.0 b.0) p b.2 in
    let d = some_back (all_some (clause_at (nothing_held i a.0 b.0)) (table i 8)) (with_clauses i a.0 b.0 c.0) p c.2 in
    let f = some_back (all_some (data_at (bytes_at i 3)) (table i 10)) (with_datas i a.0 b.0 c.0 d.0) p d.2 in
    record {
      strings = a.0;
      signatures = b.0;
      interfaces = c.0;
      clauses = d.0;
      datas = f.0;
      string_texts = a.1;
      signature_texts = b.1;
      interface_rows = c.1;
      data_rows = f.1;
      of_held = held_parts i a.0 b.0 (held i a.0 b.0 c.0 d.0 f.0) p f.2;
    }
