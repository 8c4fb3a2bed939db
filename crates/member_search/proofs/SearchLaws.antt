-- What is found among the members of a class, by keys and by the classes themselves.
use Rattle.std.proofs.Common.{◌≡◌, ℕ, suc, ◌+◌, ◌<◌, Bool, true, false, ◌&&◌, cond, List, [], ◌∷◌, length, map, take, drop, Option, Some, None, refl, sym, ap, ◌∙◌, arith, length-drop}
use Rattle.std.specs.Prelude.{slice_get, unwrap_or}
use Rattle.std.specs.List.{position, find}
use Rattle.std.specs.Option.{option_map}
use Rattle.std.proofs.lemmas.List.{take-map, drop-map, length-take}
use Rattle.std.proofs.lemmas.Option.{slice_get_within}
use Rattle.machine.specs.Data.{Id}
use Rattle.machine.specs.Texts.{same_text}
use Rattle.machine.specs.Throw.{on_some}
use Rattle.classes.specs.Classes.{SigType, Signature}
use Rattle.classes.specs.Queries.{sig_type_eq, field_signature_eq, method_signature_eq, is_named, is_field_named, methods_of, fields_of, or_else, first_some, chain, find_method, find_field}
use Rattle.kept_rows.proofs.SelectLaws.{position_step, passes}
use Rattle.alike.proofs.Lists.{position_map}
use Rattle.assemblies.specs.Binding.{id_at, numbered, range}
use Rattle.member_keys.specs.declared.keys.MemberKey.{MemberKey}
use Rattle.member_keys.specs.declared.keys.SignatureKey.{SignatureKey}
use Rattle.member_keys.specs.declared.keys.TypeKey.{TypeKey}
use Rattle.member_keys.specs.Seen.{type_seen, signature_seen, is_member}
use Rattle.class_table.specs.declared.rows.ClassRow.{ClassRow}
use Rattle.class_table.specs.declared.rows.FileRows.{FileRows}
use Rattle.class_table.specs.declared.rows.ClassTable.{ClassTable}
use Rattle.class_table.specs.Seen.{field_seen, method_seen, row_seen, classes_seen}
use Rattle.member_search.specs.declared.sort.Sort.TheVariants.{Field, Method}
use Rattle.member_search.specs.Shown.{Shown, of_field, field_shown, method_shown, key_shown, is_shown, own_member, member_up}

-- ---- keys

pub own_found : (keys : List MemberKey) (ms : List Shown) (wanted : MemberKey) (s : SignatureKey) → map key_shown keys ≡ ms → wanted.signature ≡ Some s → position (is_member wanted.name.now (Some (signature_seen s))) keys ≡ position (is_shown (key_shown wanted)) ms
own_found keys ms wanted s e f =
    ap (λ o. position (is_member wanted.name.now (option_map signature_seen o)) keys) (sym f)
    ∙ sym (position_map key_shown (is_shown (key_shown wanted)) (is_member wanted.name.now (option_map signature_seen wanted.signature)) keys (λ k. refl))
    ∙ ap (position (is_shown (key_shown wanted))) e

and_false : (b : Bool) → (b && false) ≡ false
and_false true = refl
and_false false = refl

and_true : (b : Bool) → (b && true) ≡ b
and_true true = refl
and_true false = refl

equals_none : (o : Option Signature) → method_signature_eq o None ≡ false
equals_none None = refl
equals_none (Some s) = refl

-- a key without a signature finds nothing
pub none_shown : (wanted : Shown) (ms : List Shown) → wanted.signature ≡ None → position (is_shown wanted) ms ≡ None
none_shown wanted [] e = refl
none_shown wanted (m ∷ ms) e =
    position_step (is_shown wanted) m ms
    ∙ ap (λ b. cond b (Some 0) (option_map suc (position (is_shown wanted) ms))) (ap (λ o. same_text m.name wanted.name && method_signature_eq m.signature o) e ∙ ap (λ b. same_text m.name wanted.name && b) (equals_none m.signature) ∙ and_false (same_text m.name wanted.name))
    ∙ ap (option_map suc) (none_shown wanted ms e)

-- a place among the members of a class is one of a row of the file
pub place_within : (test : Shown → Bool) (first count : ℕ) (ms : List Shown) (n : ℕ) → position test (range first count ms) ≡ Some n → first + n < length ms
place_within test first count ms n e =
    let passed = passes test (range first count ms) n e in
    let within : n < length (range first count ms) = slice_get_within (range first count ms) n passed.0 passed.1 in
    omega (arith, within, length-take count (drop first ms), length-drop first ms)

-- ---- members of the classes themselves

found_numbered : {A B : Type 0} (make : ℕ → A → B) (id : B → Id) (file : ℕ) (test : B → Bool) (shown : A → Shown) (wanted : Shown) → ((n : ℕ) (x : A) → id (make n x) ≡ id_at file n) → ((n : ℕ) (x : A) → test (make n x) ≡ is_shown wanted (shown x)) → (first : ℕ) (xs : List A) → option_map id (find test (numbered make first xs)) ≡ option_map (λ n. id_at file (first + n)) (position (is_shown wanted) (map shown xs))
found_numbered make id file test shown wanted ids tests first [] = refl
found_numbered make id file test shown wanted ids tests first (x ∷ xs) =
    ap (λ b. option_map id (cond b (Some (make first x)) (find test (numbered make (suc first) xs)))) (tests first x)
    ∙ go (is_shown wanted (shown x)) (found_numbered make id file test shown wanted ids tests (suc first) xs)
    ∙ sym (ap (option_map (λ n. id_at file (first + n))) (position_step (is_shown wanted) (shown x) (map shown xs)))
  where
    shift : (o : Option ℕ) → option_map (λ n. id_at file (suc first + n)) o ≡ option_map (λ n. id_at file (first + n)) (option_map suc o)
    shift None = refl
    shift (Some n) = let same : suc first + n ≡ first + suc n = omega arith in ap (λ k. Some (id_at file k)) same

    go : (b : Bool) → option_map id (find test (numbered make (suc first) xs)) ≡ option_map (λ n. id_at file (suc first + n)) (position (is_shown wanted) (map shown xs)) → option_map id (cond b (Some (make first x)) (find test (numbered make (suc first) xs))) ≡ option_map (λ n. id_at file (first + n)) (cond b (Some 0) (option_map suc (position (is_shown wanted) (map shown xs))))
    go true ih = let same : first ≡ first + 0 = omega arith in ap Some (ids first x ∙ ap (id_at file) same)
    go false ih = ih ∙ shift (position (is_shown wanted) (map shown xs))

range_map : {A B : Type 0} (g : A → B) (first count : ℕ) (xs : List A) → range first count (map g xs) ≡ map g (range first count xs)
range_map g first count xs = ap (take count) (drop-map g first xs) ∙ take-map g count (drop first xs)

first_some_map : {A B C : Type 0} (look : A → Option C) (look' : A → Option B) (g : B → C) → ((x : A) → look x ≡ option_map g (look' x)) → (xs : List A) → first_some look xs ≡ option_map g (first_some look' xs)
first_some_map look look' g same [] = refl
first_some_map {A} {B} {C} look look' g same (x ∷ xs) = ap (λ o. or_else o (first_some look xs)) (same x) ∙ ap (or_else (option_map g (look' x))) (first_some_map look look' g same xs) ∙ go (look' x)
  where
    go : (o : Option B) → or_else (option_map g o) (option_map g (first_some look' xs)) ≡ option_map g (or_else o (first_some look' xs))
    go None = refl
    go (Some y) = refl

module _ (t : ClassTable) (name : List ℕ) where
  -- ---- methods

  module _ (signature : Option Signature) where
    abbrev wanted_method : Shown
    wanted_method = record { name = name; signature = signature }

    pub own_method_is : (c : Id) → own_member Method t wanted_method c ≡ option_map (λ m. m.id) (find (is_named name signature) (methods_of (classes_seen t) c))
    own_method_is c = go (slice_get t.files.items c.file)
      where
        of_class : (f : FileRows) (o : Option ClassRow) → on_some o (λ k. option_map (λ n. id_at c.file (k.first_method + n)) (position (is_shown wanted_method) (range k.first_method k.method_count (map method_shown f.methods.items)))) ≡ option_map (λ m. m.id) (find (is_named name signature) (unwrap_or (option_map (λ k. k.methods) (option_map (row_seen c.file f) o)) []))
        of_class f None = refl
        of_class f (Some k) =
            ap (λ ms. option_map (λ n. id_at c.file (k.first_method + n)) (position (is_shown wanted_method) ms)) (range_map method_shown k.first_method k.method_count f.methods.items)
            ∙ sym (found_numbered (method_seen c.file) (λ m. m.id) c.file (is_named name signature) method_shown wanted_method (λ n x. refl) (λ n x. refl) k.first_method (range k.first_method k.method_count f.methods.items))

        go : (o : Option FileRows) → on_some o (λ f. on_some (slice_get f.classes.items c.row) (λ k. option_map (λ n. id_at c.file (k.first_method + n)) (position (is_shown wanted_method) (range k.first_method k.method_count (map method_shown f.methods.items))))) ≡ option_map (λ m. m.id) (find (is_named name signature) (unwrap_or (option_map (λ k. k.methods) (on_some o (λ f. option_map (row_seen c.file f) (slice_get f.classes.items c.row)))) []))
        go None = refl
        go (Some f) = of_class f (slice_get f.classes.items c.row)

    pub method_up : (c : Id) → member_up Method t wanted_method c ≡ option_map (λ m. m.id) (find_method (classes_seen t) c name signature)
    method_up c = first_some_map (own_member Method t wanted_method) (λ d. find (is_named name signature) (methods_of (classes_seen t) d)) (λ m. m.id) own_method_is (chain (classes_seen t) c)

  -- ---- fields

  module _ (of : Option SigType) where
    abbrev wanted_field : Shown
    wanted_field = record { name = name; signature = option_map of_field of }

    same_type : (o : Option TypeKey) → field_signature_eq (option_map type_seen o) of ≡ method_signature_eq (option_map (λ t. of_field (type_seen t)) o) (option_map of_field of)
    same_type o = go o of
      where
        go : (a : Option TypeKey) (b : Option SigType) → field_signature_eq (option_map type_seen a) b ≡ method_signature_eq (option_map (λ t. of_field (type_seen t)) a) (option_map of_field b)
        go None None = refl
        go None (Some u) = refl
        go (Some t) None = refl
        go (Some t) (Some u) = sym (and_true (sig_type_eq (type_seen t) u))

    pub own_field_is : (c : Id) → own_member Field t wanted_field c ≡ option_map (λ m. m.id) (find (is_field_named name of) (fields_of (classes_seen t) c))
    own_field_is c = go (slice_get t.files.items c.file)
      where
        of_class : (f : FileRows) (o : Option ClassRow) → on_some o (λ k. option_map (λ n. id_at c.file (k.first_field + n)) (position (is_shown wanted_field) (range k.first_field k.field_count (map field_shown f.fields.items)))) ≡ option_map (λ m. m.id) (find (is_field_named name of) (unwrap_or (option_map (λ k. k.fields) (option_map (row_seen c.file f) o)) []))
        of_class f None = refl
        of_class f (Some k) =
            ap (λ ms. option_map (λ n. id_at c.file (k.first_field + n)) (position (is_shown wanted_field) ms)) (range_map field_shown k.first_field k.field_count f.fields.items)
            ∙ sym (found_numbered (field_seen c.file) (λ m. m.id) c.file (is_field_named name of) field_shown wanted_field (λ n x. refl) (λ n x. ap (λ b. same_text x.name.now name && b) (same_type x.signature)) k.first_field (range k.first_field k.field_count f.fields.items))

        go : (o : Option FileRows) → on_some o (λ f. on_some (slice_get f.classes.items c.row) (λ k. option_map (λ n. id_at c.file (k.first_field + n)) (position (is_shown wanted_field) (range k.first_field k.field_count (map field_shown f.fields.items))))) ≡ option_map (λ m. m.id) (find (is_field_named name of) (unwrap_or (option_map (λ k. k.fields) (on_some o (λ f. option_map (row_seen c.file f) (slice_get f.classes.items c.row)))) []))
        go None = refl
        go (Some f) = of_class f (slice_get f.classes.items c.row)

    pub field_up : (c : Id) → member_up Field t wanted_field c ≡ option_map (λ m. m.id) (find_field (classes_seen t) c name of)
    field_up c = first_some_map (own_member Field t wanted_field) (λ d. find (is_field_named name of) (fields_of (classes_seen t) d)) (λ m. m.id) own_field_is (chain (classes_seen t) c)
