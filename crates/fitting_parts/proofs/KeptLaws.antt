-- Kept rows of which there are few, and which have what they name, have small numbers.
use Rattle.std.proofs.Common.{◌≡◌, ◌∙◌, ℕ, zero, suc, ◌+◌, ◌<◌, ◌≤◌, Bool, true, false, List, [], ◌∷◌, ◌++◌, map, length, Option, Some, None, refl, sym, ap, subst, arith}
use Rattle.std.specs.Prelude.{if◌then◌else◌, slice_get}
use Rattle.std.specs.List.{flat_map}
use Rattle.std.specs.Option.{option_map}
use Rattle.std.proofs.lemmas.Option.{slice_get-map}
use Rattle.kept_rows.specs.Select.{select, below, behind}
use Rattle.assemblies.specs.Rows.{TypeToken, Scope, OfAssembly, Inside, Nowhere, RawType, RawSignature, RawKind, RawCatch, RawFinally, RawOther, RawClause, RawCode, AssemblyRow, TypeRefRow, FieldRefRow, MethodRefRow, TypeRow, FieldRow, MethodRow, Assembly}
use Rattle.assemblies.specs.Binding.{numbered}
use Rattle.assemblies.specs.Chosen.{Choice, first_of, token_to, scope_to, raw_to, signature_to, ref_to, field_ref_to, method_ref_to, type_row_to, field_row_to, kind_to, clause_to, code_to, method_row_to, chosen}
use Rattle.assemblies.specs.Closed.{Each}
use Rattle.kept_closure.specs.Named.{InOption, InType, InSignature, InKind, InClause, InCode}
use Rattle.kept_closure.specs.Kept.{HasType, HasScope, HasMethod, HasField, HasNamed}
use Rattle.image_form.specs.Form.{Manner, clauses_in}
use Rattle.image_form.specs.Whole.{Methods}
use Rattle.image_form.specs.Limits.{TypeIsSmall}
use Rattle.image_form.proofs.ChoiceLaws.{selected_count, kept_below}
use Rattle.chosen_image.specs.Spells.{OfKept, chosen_method, chosen_methods}
use Rattle.fitting_parts.specs.Small.{IsSmall, ScopeIsSmall, RawIsSmall, SignatureIsSmall, KindIsSmall, ClauseIsSmall, CodeIsSmall, FieldRefIsSmall, MethodRefIsSmall, TypeRowIsSmall, MethodIsSmall, HasSmallNumbers}
use Rattle.fitting_parts.specs.Kept.{AreThere, AreFew, ClauseLiesNear, CodeNumbersSmall, FileNumbersSmall}
use Rattle.fitting_parts.proofs.TokenLaws.{each_to, in_mapped, mapped_small, TypesAreFew}
use Rattle.fitting_parts.proofs.TokenLaws as tokens

-- ---- facts on each of a list

pub each_chosen : {A B : Type 0} (Q : B → Type 0) (f : A → B) (keep : ℕ → Bool) (xs : List A) → OfKept keep xs (λ x. Q (f x)) → Each Q (map f (select keep xs))
each_chosen Q f keep [] h = tt
each_chosen Q f keep (x ∷ xs) h = go (keep 0) refl (each_chosen Q f (λ k. keep (suc k)) xs (λ n y at k. h (suc n) y at k))
  where
    go : (b : Bool) → keep 0 ≡ b → Each Q (map f (select (λ k. keep (suc k)) xs)) → Each Q (map f (if b then x ∷ select (λ k. keep (suc k)) xs else select (λ k. keep (suc k)) xs))
    go true e r = (h 0 x refl e, r)
    go false e r = r

each_selected : {A : Type 0} (P : A → Type 0) (keep : ℕ → Bool) (xs : List A) → Each P xs → Each P (select keep xs)
each_selected P keep [] h = tt
each_selected P keep (x ∷ xs) h = go (keep 0) (each_selected P (λ k. keep (suc k)) xs h.1)
  where
    go : (b : Bool) → Each P (select (λ k. keep (suc k)) xs) → Each P (if b then x ∷ select (λ k. keep (suc k)) xs else select (λ k. keep (suc k)) xs)
    go true r = (h.0, r)
    go false r = r

pub each_at : {A : Type 0} (P : A → Type 0) (xs : List A) (n : ℕ) (x : A) → Each P xs → slice_get xs n ≡ Some x → P x
each_at P [] n x h at = absurd (cc at)
each_at P (y ∷ xs) zero x h at = let same : y ≡ x = cc at in subst P same h.0
each_at P (y ∷ xs) (suc n) x h at = each_at P xs n x h.1 at

each_numbered : {A B : Type 0} (P : B → Type 0) (make : ℕ → A → B) (from : ℕ) (keep : ℕ → Bool) (xs : List A) → ((n : ℕ) (x : A) → slice_get xs n ≡ Some x → keep n ≡ true → P (make (from + n) x)) → Each P (select keep (numbered make from xs))
each_numbered P make from keep [] h = tt
each_numbered P make from keep (x ∷ xs) h =
    go (keep 0) refl (each_numbered P make (suc from) (λ k. keep (suc k)) xs (λ n y at k. let sum : from + suc n ≡ suc from + n = omega arith in subst (λ j. P (make j y)) sum (h (suc n) y at k)))
  where
    go : (b : Bool) → keep 0 ≡ b → Each P (select (λ k. keep (suc k)) (numbered make (suc from) xs)) → Each P (if b then make from x ∷ select (λ k. keep (suc k)) (numbered make (suc from) xs) else select (λ k. keep (suc k)) (numbered make (suc from) xs))
    go true e r = let sum : from + 0 ≡ from = omega arith in (subst (λ j. P (make j x)) sum (h 0 x refl e), r)
    go false e r = r

pub each_from_first : {A B : Type 0} (P : B → Type 0) (make : ℕ → A → B) (keep : ℕ → Bool) (xs : List A) → ((n : ℕ) (x : A) → slice_get xs n ≡ Some x → keep n ≡ true → P (make n x)) → Each P (select keep (numbered make 0 xs))
each_from_first P make keep xs h = each_numbered P make 0 keep xs (λ n x at e. let sum : n ≡ 0 + n = omega arith in subst (λ j. P (make j x)) sum (h n x at e))

each_two_to : {A B : Type 0} (P Q : A → Type 0) (R : B → Type 0) (f : A → B) → ((x : A) → P x → Q x → R (f x)) → (xs : List A) → Each P xs → Each Q xs → Each R (map f xs)
each_two_to P Q R f h [] p q = tt
each_two_to P Q R f h (x ∷ xs) p q = (h x p.0 q.0, each_two_to P Q R f h xs p.1 q.1)

each_behind : {A : Type 0} (P : A → Type 0) (xs ys : List A) → Each P xs → Each P ys → Each P (xs ++ ys)
each_behind P [] ys h g = g
each_behind P (x ∷ xs) ys h g = (h.0, each_behind P xs ys h.1 g)

each_joined : {A B : Type 0} (P : B → Type 0) (f : A → List B) (xs : List A) → Each (λ x. Each P (f x)) xs → Each P (flat_map f xs)
each_joined P f [] h = tt
each_joined P f (x ∷ xs) h = each_behind P (f x) (flat_map f xs) h.0 (each_joined P f xs h.1)

-- ---- how many are kept of the first rows

-- no more than of all
most : (keep : ℕ → Bool) (count n : ℕ) → ((i : ℕ) → keep i ≡ true → i < count) → below keep n ≤ below keep count
most keep count zero there = omega arith
most keep zero (suc n) there = go (keep 0) refl (most (λ k. keep (suc k)) zero n (λ i e. absurd (omega (arith, there (suc i) e))))
  where
    go : (b : Bool) → keep 0 ≡ b → below (λ k. keep (suc k)) n ≤ 0 → (if b then suc (below (λ k. keep (suc k)) n) else below (λ k. keep (suc k)) n) ≤ 0
    go true e h = absurd (omega (arith, there 0 e))
    go false e h = h
most keep (suc count) (suc n) there = go (keep 0) (most (λ k. keep (suc k)) count n (λ i e. omega (arith, there (suc i) e)))
  where
    go : (b : Bool) → below (λ k. keep (suc k)) n ≤ below (λ k. keep (suc k)) count → (if b then suc (below (λ k. keep (suc k)) n) else below (λ k. keep (suc k)) n) ≤ (if b then suc (below (λ k. keep (suc k)) count) else below (λ k. keep (suc k)) count)
    go true h = omega (arith, h)
    go false h = h

in_range : (keep : ℕ → Bool) (from count : ℕ) → below keep from + below (behind from keep) count ≡ below keep (from + count)
in_range keep zero count =
    let none : 0 + below keep count ≡ below keep count = omega arith in
    let sum : count ≡ 0 + count = omega arith in
    none ∙ ap (below keep) sum
in_range keep (suc from) count =
    let sum : suc (from + count) ≡ suc from + count = omega arith in
    go (keep 0) (in_range (λ k. keep (suc k)) from count) ∙ ap (below keep) sum
  where
    go : (b : Bool) → below (λ k. keep (suc k)) from + below (behind from (λ k. keep (suc k))) count ≡ below (λ k. keep (suc k)) (from + count) → (if b then suc (below (λ k. keep (suc k)) from) else below (λ k. keep (suc k)) from) + below (behind from (λ k. keep (suc k))) count ≡ (if b then suc (below (λ k. keep (suc k)) (from + count)) else below (λ k. keep (suc k)) (from + count))
    go true h = omega (arith, h)
    go false h = h

first_below : (first count : ℕ) → first_of first count ≤ first
first_below first zero = omega arith
first_below first (suc n) = omega arith

module _ {A : Type 0} (keep : ℕ → Bool) (xs : List A) (there : (i : ℕ) → keep i ≡ true → i < length xs) (few : length (select keep xs) < 16384) where
  below_small : (n : ℕ) → IsSmall (below keep n)
  below_small n = omega (arith, most keep (length xs) n there, selected_count keep xs, few)

  range_small : (from count : ℕ) → IsSmall (below (behind from keep) count)
  range_small from count = omega (arith, in_range keep from count, below_small (from + count))

  range_first_small : (from count : ℕ) → IsSmall (first_of (below keep from) count)
  range_first_small from count = omega (arith, first_below (below keep from) count, below_small from)

-- ---- of one assembly

module _ (ps : List Assembly) (keep : ℕ → Choice) (f : ℕ) (p : Assembly) (ms : Methods) (at : slice_get ps f ≡ Some p) (named : HasNamed ps keep) (same : map (λ (x : Manner × MethodRow). x.1) ms ≡ p.methods) (there : AreThere (keep f) p) (few : AreFew (keep f) p ms) (told : FileNumbersSmall (keep f) p ms) where
  abbrev k : Choice
  k = keep f

  abbrev Has : TypeToken → Type 0
  Has = HasType k

  -- ---- tokens

  types_are_few : TypesAreFew k p
  types_are_few = record { types = few.types; refs = few.refs; specs = few.specs }

  token_small : (t : TypeToken) → Has t → TypeIsSmall (token_to k t)
  token_small = tokens.token_small k p there types_are_few

  raw_small : (s : RawType) → InType Has s → RawIsSmall (raw_to k s)
  raw_small = tokens.raw_small k p there types_are_few

  signature_small : (s : RawSignature) → InSignature Has s → IsSmall (length s.parameters) → SignatureIsSmall (signature_to k s)
  signature_small = tokens.signature_small k p there types_are_few

  scope_small : (s : Scope) → HasScope k s → ScopeIsSmall (scope_to k s)
  scope_small (OfAssembly n) h = omega (arith, kept_below k.assemblies p.assemblies n (there.assemblies n h) h, few.assemblies)
  scope_small (Inside n) h = omega (arith, kept_below k.refs p.refs n (there.refs n h) h, few.refs)
  scope_small Nowhere h = tt

  -- ---- code

  abbrev HasCode : RawCode → Type 0
  HasCode = InCode Has Has (HasMethod k) (HasField k)

  kind_small : (x : RawKind) → InKind Has x → KindIsSmall (kind_to k x)
  kind_small (RawCatch t) h = token_small t h
  kind_small RawFinally h = tt
  kind_small RawOther h = tt

  module _ (place : ℕ → ℕ) where
    code_small : (c : RawCode) → HasCode c → CodeNumbersSmall place c → CodeIsSmall (code_to k place c)
    code_small c h small =
        record {
          locals = each_to (InType Has) RawIsSmall (raw_to k) raw_small c.locals h.0;
          local_count = mapped_small (raw_to k) c.locals small.locals;
          max_stack = small.max_stack;
        }

    clause_small : (c : RawClause) → InClause Has c → ClauseLiesNear place c → ClauseIsSmall (clause_to k place c)
    clause_small c h near =
        record { kind = kind_small c.kind h; try_start = near.try_start; try_end = near.try_end; start = near.start; end = near.end }

    some_code : (o : Option RawCode) → InOption HasCode o → InOption (CodeNumbersSmall place) o → InOption CodeIsSmall (option_map (code_to k place) o)
    some_code None h small = tt
    some_code (Some c) h small = code_small c h small

    some_clauses : (o : Option RawCode) → InOption HasCode o → InOption (CodeNumbersSmall place) o → Each ClauseIsSmall (clauses_in (option_map (code_to k place) o))
    some_clauses None h small = tt
    some_clauses (Some c) h small = each_two_to (InClause Has) (ClauseLiesNear place) ClauseIsSmall (clause_to k place) clause_small c.clauses h.1 small.clauses

  -- ---- rows

  method_at : (n : ℕ) (x : Manner × MethodRow) → slice_get ms n ≡ Some x → slice_get p.methods n ≡ Some x.1
  method_at n x row = ap (λ ys. slice_get ys n) (sym same) ∙ slice_get-map (λ (x : Manner × MethodRow). x.1) ms n ∙ ap (option_map (λ (x : Manner × MethodRow). x.1)) row

  method_small : (n : ℕ) (x : Manner × MethodRow) → slice_get ms n ≡ Some x → k.methods n ≡ true → MethodIsSmall (method_row_to k n x.1)
  method_small n x row e =
      let h = named.methods f n p x.1 (at, method_at n x row) e in
      let small = told.methods n x row e in
      record { signature = signature_small x.1.signature h.0 small.parameters; code = some_code (k.short n) x.1.code h.1 small.code }

  method_clauses : (n : ℕ) (x : Manner × MethodRow) → slice_get ms n ≡ Some x → k.methods n ≡ true → Each ClauseIsSmall (clauses_in (method_row_to k n x.1).code)
  method_clauses n x row e =
      let h = named.methods f n p x.1 (at, method_at n x row) e in
      some_clauses (k.short n) x.1.code h.1 (told.methods n x row e).code

  any_row_small : (o : Option ℕ) → InOption IsSmall (option_map (below k.types) o)
  any_row_small None = tt
  any_row_small (Some n) = below_small k.types p.types there.types few.types n

  entry_small : (o : Option ℕ) → InOption IsSmall (option_map (below k.methods) o)
  entry_small None = tt
  entry_small (Some n) = below_small k.methods p.methods there.methods few.methods n

  type_small : (n : ℕ) (t : TypeRow) → slice_get p.types n ≡ Some t → k.types n ≡ true → TypeRowIsSmall (type_row_to k t)
  type_small n t row e =
      let h = named.types f n p t (at, row) e in
      record {
        enclosing = any_row_small t.enclosing;
        extends = in_mapped Has TypeIsSmall (token_to k) token_small t.extends h.1;
        first_field = range_first_small k.fields p.fields there.fields few.fields t.first_field (below (behind t.first_field k.fields) t.field_count);
        field_count = range_small k.fields p.fields there.fields few.fields t.first_field t.field_count;
        first_method = range_first_small k.methods p.methods there.methods few.methods t.first_method (below (behind t.first_method k.methods) t.method_count);
        method_count = range_small k.methods p.methods there.methods few.methods t.first_method t.method_count;
      }

  type_interfaces : (n : ℕ) (t : TypeRow) → slice_get p.types n ≡ Some t → k.types n ≡ true → Each TypeIsSmall (map (token_to k) t.interfaces)
  type_interfaces n t row e = each_to Has TypeIsSmall (token_to k) token_small t.interfaces (named.types f n p t (at, row) e).2

  method_ref_small : (n : ℕ) (r : MethodRefRow) → slice_get p.method_refs n ≡ Some r → k.method_refs n ≡ true → MethodRefIsSmall (method_ref_to k r)
  method_ref_small n r row e =
      let h = named.method_refs f n p r (at, row) e in
      record {
        parent = token_small r.parent h.0;
        signature = signature_small r.signature h.1 (each_at (λ (r : MethodRefRow). IsSmall (length r.signature.parameters)) p.method_refs n r told.parameters row);
      }

  field_ref_small : (n : ℕ) (r : FieldRefRow) → slice_get p.field_refs n ≡ Some r → k.field_refs n ≡ true → FieldRefIsSmall (field_ref_to k r)
  field_ref_small n r row e = let h = named.field_refs f n p r (at, row) e in record { parent = token_small r.parent h.0; signature = raw_small r.signature h.1 }

  pub has_small_numbers : HasSmallNumbers (chosen k p) (chosen_methods k ms)
  has_small_numbers =
      record {
        version = told.version;
        entry = entry_small p.entry;
        versions = each_selected (λ (a : AssemblyRow). Each IsSmall a.version) k.assemblies p.assemblies told.versions;
        refs = each_chosen (λ (r : TypeRefRow). ScopeIsSmall r.scope) (ref_to k) k.refs p.refs (λ n r row e. scope_small r.scope (named.refs f n p r (at, row) e));
        field_refs = each_chosen FieldRefIsSmall (field_ref_to k) k.field_refs p.field_refs field_ref_small;
        method_refs = each_chosen MethodRefIsSmall (method_ref_to k) k.method_refs p.method_refs method_ref_small;
        types = each_chosen TypeRowIsSmall (type_row_to k) k.types p.types type_small;
        interfaces =
            each_joined TypeIsSmall (λ (t : TypeRow). t.interfaces) (map (type_row_to k) (select k.types p.types))
            (each_chosen (λ (t : TypeRow). Each TypeIsSmall t.interfaces) (type_row_to k) k.types p.types type_interfaces);
        interface_count = few.interfaces;
        fields = each_chosen (λ (x : FieldRow). RawIsSmall x.signature) (field_row_to k) k.fields p.fields (λ n x row e. raw_small x.signature (named.fields f n p x (at, row) e));
        data_count = few.datas;
        methods = each_from_first (λ (x : Manner × MethodRow). MethodIsSmall x.1) (chosen_method k) k.methods ms method_small;
        clauses =
            each_joined ClauseIsSmall (λ (x : Manner × MethodRow). clauses_in x.1.code) (chosen_methods k ms)
            (each_from_first (λ (x : Manner × MethodRow). Each ClauseIsSmall (clauses_in x.1.code)) (chosen_method k) k.methods ms method_clauses);
        clause_count = few.clauses;
        specs = each_chosen RawIsSmall (raw_to k) k.specs p.specs (λ n s row e. raw_small s (named.specs f n p s (at, row) e));
      }
