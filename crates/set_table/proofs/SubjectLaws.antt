-- What the tokens of an image of a set name, and the interfaces that its rows name.
use Rattle.std.proofs.Common.{◌≡◌, ℕ, zero, suc, ◌+◌, ◌<◌, ◌≤◌, ◌⊎◌, inl, inr, Bool, true, false, List, [], ◌∷◌, ◌++◌, map, length, take, drop, Some, None, refl, sym, ap, ◌∙◌, arith, add-one}
use Rattle.std.specs.Prelude.{IsSome, nat_lt, slice_get, if◌then◌else◌}
use Rattle.std.specs.List.{filter_map, cons_option}
use Rattle.std.specs.Option.{option_map, option_map_or}
use Rattle.std.proofs.lemmas.Bool.{lt-ltb, le-ltb, cases_lt}
use Rattle.std.proofs.lemmas.List.{map-append}
use Rattle.std.proofs.lemmas.List.Elements.{filter_map-append}
use Rattle.std.proofs.lemmas.Option.{slice_get-map, slice_get_past}
use Rattle.machine.specs.Data.{Id}
use Rattle.machine.specs.Throw.{on_some}
use Rattle.assemblies.specs.Rows.{Assembly, TypeToken, TypeDef, TypeRef, TypeSpec}
use Rattle.assemblies.specs.Binding.{id_at}
use Rattle.image_form.specs.Signatures.{type_token}
use Rattle.image_form.specs.Form.{checked, no_spec}
use Rattle.member_keys.specs.declared.keys.ClassId.{ClassId}
use Rattle.member_keys.specs.Seen.{class_seen}
use Rattle.scope_walk.specs.Walk.{value_at}
use Rattle.set_signatures.specs.declared.tokens.Tokens.{Tokens}
use Rattle.set_signatures.specs.Meant.{class_named, own_named, has_row, plain_of}
use Rattle.set_signatures.proofs.ExpandLaws.{tokens_mean}
use Rattle.world_rows.specs.World.{size_of, reference_count}
use Rattle.image_bytes.specs.Layout.{Image, rows_of}
use Rattle.image_form.specs.Whole.{image_rows}
use Rattle.scope_walk.specs.Scopes.{references_in}
use Rattle.set_signatures.specs.Law.{AreTokens}
use Rattle.tiny_rows.specs.Rows.{rows_seen}
use Rattle.tiny_rows.proofs.RowLaws.{types_counted, refs_counted}
use Rattle.set_names.specs.Resolved.{AreTypes}
use Rattle.set_names.specs.Names.{seen_all}
use Rattle.tiny_members.specs.Rows.{interfaces_seen}
use Rattle.set_table.specs.declared.subject.Subject.{Subject}
use Rattle.set_table.specs.Subject.{IsSubject, class_in, listed, named_at}

-- the row of a token is there, where it names a class
named_plainly : (t : Tokens) (u : TypeToken) → on_some (on_some (checked (has_row t u) u) no_spec) (class_named t) ≡ class_named t u
named_plainly t (TypeDef n) = by (nat_lt n t.types) refl
  where
    by : (b : Bool) → nat_lt n t.types ≡ b → on_some (on_some (checked b (TypeDef n)) no_spec) (class_named t) ≡ own_named t n
    by true e = refl
    by false e = sym (ap (λ c. if c then Some (id_at t.file n) else None) e)
named_plainly t (TypeRef n) = by (cases_lt n (length t.references.now))
  where
    by : (n < length t.references.now) ⊎ (length t.references.now ≤ n) → on_some (on_some (checked (nat_lt n (length t.references.now)) (TypeRef n)) no_spec) (class_named t) ≡ value_at t.references.now n
    by (inl lt) = ap (λ b. on_some (on_some (checked b (TypeRef n)) no_spec) (class_named t)) (lt-ltb n (length t.references.now) lt)
    by (inr le) =
        ap (λ b. on_some (on_some (checked b (TypeRef n)) no_spec) (class_named t)) (le-ltb n (length t.references.now) le)
        ∙ sym (ap (λ o. on_some o (option_map class_seen)) (slice_get_past t.references.now n le))
named_plainly t (TypeSpec n) = refl

pub class_is : (s : Subject) → IsSubject s → (w : ℕ) → on_some (plain_of s.tokens w) (class_named s.tokens) ≡ class_in s (type_token w)
class_is s is w = named_plainly s.tokens (type_token w) ∙ tokens_mean s.image.now (size_of (seen_all s.names.now)) (seen_all s.names.now) s.tokens is.tokens (type_token w)

-- ---- interfaces

module _ (s : Subject) (n : ℕ) where
  nothing_more : {A : Type 0} (xs : List A) → xs ≡ xs ++ []
  nothing_more [] = refl
  nothing_more (x ∷ xs) = ap (λ ys. x ∷ ys) (nothing_more xs)

  pub none_added : (xs : List Id) → None ≡ slice_get (interfaces_seen s.image.now) n → xs ≡ xs ++ named_at s n
  none_added xs e = nothing_more xs ∙ ap (λ o. xs ++ filter_map (class_in s) (listed o)) e

  pub unfound_added : (xs : List Id) (u : TypeToken) → Some u ≡ slice_get (interfaces_seen s.image.now) n → None ≡ class_in s u → xs ≡ xs ++ named_at s n
  unfound_added xs u e f = nothing_more xs ∙ ap (λ o. xs ++ cons_option o []) f ∙ ap (λ o. xs ++ filter_map (class_in s) (listed o)) e

  pub found_added : (xs : List ClassId) (u : TypeToken) (c : ClassId) → Some u ≡ slice_get (interfaces_seen s.image.now) n → Some (class_seen c) ≡ class_in s u → map class_seen (xs ++ c ∷ []) ≡ map class_seen xs ++ named_at s n
  found_added xs u c e f = map-append class_seen xs (c ∷ []) ∙ ap (λ o. map class_seen xs ++ cons_option o []) f ∙ ap (λ o. map class_seen xs ++ filter_map (class_in s) (listed o)) e

take_listed : {A : Type 0} (xs : List A) (k : ℕ) → take (suc k) xs ≡ take k xs ++ listed (slice_get xs k)
take_listed [] zero = refl
take_listed [] (suc k) = refl
take_listed (x ∷ xs) zero = refl
take_listed (x ∷ xs) (suc k) = ap (λ ys. x ∷ ys) (take_listed xs k)

get_behind : {A : Type 0} (xs : List A) (first k : ℕ) → slice_get (drop first xs) k ≡ slice_get xs (first + k)
get_behind xs zero k = let same : k ≡ 0 + k = omega arith in ap (slice_get xs) same
get_behind [] (suc first) k = sym (slice_get_past [] (suc first + k) (omega arith))
get_behind (x ∷ xs) (suc first) k = get_behind xs first k ∙ (let same : suc (first + k) ≡ suc first + k = omega arith in ap (slice_get (x ∷ xs)) same)

-- one row more
pub named_more : (s : Subject) (xs more : List Id) (first k n : ℕ) → xs ≡ filter_map (class_in s) (take k (drop first (interfaces_seen s.image.now))) → first + k ≡ n → more ≡ xs ++ named_at s n → more ≡ filter_map (class_in s) (take (k + 1) (drop first (interfaces_seen s.image.now)))
named_more s xs more first k n known place added =
    let behind = drop first (interfaces_seen s.image.now) in
    added
    ∙ ap (λ ys. ys ++ named_at s n) known
    ∙ ap (λ m. filter_map (class_in s) (take k (drop first (interfaces_seen s.image.now))) ++ named_at s m) (sym place)
    ∙ ap (λ o. filter_map (class_in s) (take k (drop first (interfaces_seen s.image.now))) ++ filter_map (class_in s) (listed o)) (sym (get_behind (interfaces_seen s.image.now) first k))
    ∙ sym (filter_map-append (class_in s) (take k behind) (listed (slice_get behind k)))
    ∙ ap (filter_map (class_in s)) (sym (take_listed behind k) ∙ ap (λ m. take m (drop first (interfaces_seen s.image.now))) (sym (add-one k)))

-- ---- the tokens of an image

refs_few : (ps : List Assembly) (file : ℕ) (p : Assembly) → slice_get ps file ≡ Some p → length p.refs ≤ reference_count ps
refs_few [] file p e = cc e
refs_few (q ∷ ps) zero p e = let same : q ≡ p = cc e in let many = ap (λ (x : Assembly). length x.refs) same in omega arith
refs_few (q ∷ ps) (suc file) p e = let few = refs_few ps file p e in omega arith

pub image_there : (images : List Image) (file : ℕ) (i : Image) → Some i ≡ slice_get images file → slice_get (seen_all images) file ≡ Some (rows_seen i)
image_there images file i e = slice_get-map rows_seen images file ∙ ap (option_map rows_seen) (sym e)

pub tokens_are : (images : List Image) (i : Image) → IsSome (image_rows i) → (t : Tokens) → Some i ≡ slice_get images t.file → t.types ≡ length (rows_seen i).types → AreTypes (seen_all images) t.file t.references.now → AreTokens i (size_of (seen_all images)) (seen_all images) t
tokens_are images i rows t here types found =
    let there = image_there images t.file i here in
    let refs : references_in (seen_all images) t.file ≡ length (rows_seen i).refs = ap (λ o. option_map_or (λ (p : Assembly). length p.refs) o 0) there in
    let few = refs_few (seen_all images) t.file (rows_seen i) there in
    record {
      types = types ∙ sym (ap (λ o. option_map_or (λ (p : Assembly). length p.types) o 0) there);
      rows = types ∙ sym (types_counted i rows (rows_of i 4) refl);
      size = found.size ∙ refs ∙ sym (refs_counted i rows (rows_of i 1) refl);
      references = λ n. found.each (size_of (seen_all images)) n (omega (arith, refs, few));
    }
