-- What an index of a set's names finds.
use Rattle.std.proofs.Common.{◌≡◌, ℕ, zero, suc, ◌+◌, ◌≤◌, List, [], ◌∷◌, ◌++◌, length, map, take, Option, Some, None, refl, sym, ap, ◌∙◌, arith, subst}
use Rattle.std.specs.Prelude.{slice_get}
use Rattle.std.specs.List.{position}
use Rattle.std.specs.Option.{option_map}
use Rattle.std.specs.BTreeMap.{BTreeMap, get}
use Rattle.std.proofs.lemmas.Option.{slice_get-map, slice_get_within}
use Rattle.std.proofs.lemmas.List.{map-append}
use Rattle.machine.specs.Data.{Id}
use Rattle.machine.specs.Throw.{on_some}
use Rattle.assemblies.specs.Rows.{Assembly}
use Rattle.assemblies.specs.Binding.{id_at, is_type, type_in}
use Rattle.scope_walk.proofs.Lists.{none_past}
use Rattle.image_bytes.specs.Layout.{Image}
use Rattle.tiny_rows.specs.declared.types.TypeName.{TypeName}
use Rattle.tiny_rows.specs.Rows.{rows_seen}
use Rattle.set_names.specs.declared.names.Names.TheInside.{Inside}
use Rattle.set_names.specs.Names.{ref_of, type_order}
use Rattle.set_names.specs.Inside.{IsIndex}

module _ (n : Inside) (index : IsIndex n) where
  pub type_at : (f : ℕ) (key : TypeName) → type_in (map rows_seen n.images.now) f key.enclosing (ref_of key) ≡ on_some (slice_get n.types.items f) (λ places. option_map (id_at f) (get type_order places key))
  type_at f key = ap (λ o. on_some o found) (slice_get-map rows_seen n.images.now f) ∙ go (slice_get n.images.now f) (slice_get n.types.items f) refl refl
    where
      found : Assembly → Option Id
      found p = option_map (id_at f) (position (is_type key.enclosing (ref_of key)) p.types)

      go : (a : Option Image) (b : Option (BTreeMap TypeName ℕ)) → slice_get n.images.now f ≡ a → slice_get n.types.items f ≡ b → on_some (option_map rows_seen a) found ≡ on_some b (λ places. option_map (id_at f) (get type_order places key))
      go None None e g = refl
      go (Some x) (Some places) e g = ap (option_map (id_at f)) (sym (index.types f x places e g key))
      go None (Some places) e g = let within = slice_get_within n.types.items f places g in let few = none_past n.images.now f e in let same = index.count in absurd (omega arith)
      go (Some x) None e g = let within = slice_get_within n.images.now f x e in let few = none_past n.types.items f g in let same = index.count in absurd (omega arith)

-- the first elements of a list and one more
pub take_next : {A : Type 0} (xs : List A) (n : ℕ) (x : A) → slice_get xs n ≡ Some x → take (n + 1) xs ≡ take n xs ++ x ∷ []
take_next [] n x e = cc e
take_next (y ∷ xs) zero x e = let same : y ≡ x = cc e in let one : 0 + 1 ≡ suc 0 = omega arith in ap (λ m. take m (y ∷ xs)) one ∙ ap (λ z. z ∷ []) same
take_next (y ∷ xs) (suc n) x e = let more : suc n + 1 ≡ suc (n + 1) = omega arith in ap (λ m. take m (y ∷ xs)) more ∙ ap (λ zs. y ∷ zs) (take_next xs n x e)

pub take_none : {A : Type 0} (xs : List A) (n : ℕ) → slice_get xs n ≡ None → take n xs ≡ xs
take_none [] zero e = refl
take_none [] (suc n) e = refl
take_none (y ∷ xs) zero e = cc e
take_none (y ∷ xs) (suc n) e = ap (λ zs. y ∷ zs) (take_none xs n e)

pub take_whole : {A : Type 0} (xs : List A) (n : ℕ) → length xs ≤ n → take n xs ≡ xs
take_whole [] zero e = refl
take_whole [] (suc n) e = refl
take_whole (y ∷ xs) zero e = absurd (omega arith)
take_whole (y ∷ xs) (suc n) e = ap (λ zs. y ∷ zs) (take_whole xs n (omega arith))

-- one more of things seen as the rows of a list
pub seen_more : {A B C : Type 0} (seen : A → C) (name : B → C) (keys : List A) (rows : List B) (n : ℕ) (key : A) → map seen keys ≡ map name (take n rows) → Some (seen key) ≡ option_map name (slice_get rows n) → map seen (keys ++ key ∷ []) ≡ map name (take (n + 1) rows)
seen_more {A} {B} {C} seen name keys rows n key e f = go (slice_get rows n) refl f
  where
    go : (o : Option B) → slice_get rows n ≡ o → Some (seen key) ≡ option_map name o → map seen (keys ++ key ∷ []) ≡ map name (take (n + 1) rows)
    go None g h = cc h
    go (Some row) g h =
        let same : seen key ≡ name row = cc h in
        map-append seen keys (key ∷ [])
        ∙ ap (λ ys. ys ++ seen key ∷ []) e
        ∙ ap (λ y. map name (take n rows) ++ y ∷ []) same
        ∙ sym (ap (map name) (take_next rows n row g) ∙ map-append name (take n rows) (row ∷ []))

-- a fact of what stands at the same places, of one more
pub each_more : {A B : Type 0} (Holds : A → B → Type 0) (xs : List A) (ys : List B) (x : A) (y : B) → slice_get xs (length ys) ≡ Some x → Holds x y
    → ((k : ℕ) (a : A) (b : B) → slice_get xs k ≡ Some a → slice_get ys k ≡ Some b → Holds a b) → (k : ℕ) (a : A) (b : B) → slice_get xs k ≡ Some a → slice_get (ys ++ y ∷ []) k ≡ Some b → Holds a b
each_more Holds xs [] x y at holds each zero a b e f = let same : x ≡ a = cc (sym at ∙ e) in let same_too : y ≡ b = cc f in subst (λ z. Holds z b) same (subst (Holds x) same_too holds)
each_more Holds xs [] x y at holds each (suc k) a b e f = cc f
each_more Holds [] (z ∷ ys) x y at holds each k a b e f = cc e
each_more Holds (w ∷ xs) (z ∷ ys) x y at holds each zero a b e f = each zero a b e f
each_more Holds (w ∷ xs) (z ∷ ys) x y at holds each (suc k) a b e f = each_more Holds xs ys x y at holds (λ j. each (suc j)) k a b e f

-- nothing is left
pub take_end : {A B : Type 0} (name : A → B) (xs : List A) (n : ℕ) → None ≡ option_map name (slice_get xs n) → take n xs ≡ xs
take_end {A} {B} name xs n e = take_none xs n (go (slice_get xs n) e)
  where
    go : (o : Option A) → None ≡ option_map name o → o ≡ None
    go None e = refl
    go (Some x) e = cc e
