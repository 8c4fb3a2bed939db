-- An index made class by class and file by file, and what it finds.
use Rattle.std.proofs.Common.{◌≡◌, ℕ, ◌+◌, ◌<◌, ◌≤◌, ◌^◌, ◌⊎◌, inl, inr, List, [], ◌∷◌, ◌++◌, length, Some, sym, subst, ap, ◌∙◌, get_or, arith}
use Rattle.std.specs.Prelude.{slice_get}
use Rattle.std.specs.Option.{option_map}
use Rattle.std.proofs.lemmas.Bool.{cases_lt}
use Rattle.std.proofs.lemmas.Option.{slice_get-map, slice_get-get_or}
use Rattle.type_names.proofs.Resolving.{got_last}
use Rattle.member_keys.specs.declared.keys.MemberKey.{MemberKey}
use Rattle.class_table.specs.declared.rows.FieldRow.{FieldRow}
use Rattle.class_table.specs.declared.rows.MethodRow.{MethodRow}
use Rattle.class_table.specs.declared.rows.FileRows.{FileRows}
use Rattle.member_search.specs.declared.sort.Sort.{Sort}
use Rattle.member_search.specs.declared.sort.Sort.TheVariants.{Field, Method}
use Rattle.member_search.specs.Shown.{field_shown, method_shown, key_shown, members_in}

-- what holds of the elements of two lists by their places, and of one more of the second
pub pairs_more : {A B : Type 0} (Holds : A → B → Type 0) (xs : List A) (ys : List B) (k : ℕ) (x : A) (y : B) → length ys ≡ k → slice_get xs k ≡ Some x → Holds x y → ((n : ℕ) (a : A) (b : B) → slice_get xs n ≡ Some a → slice_get ys n ≡ Some b → Holds a b) → (n : ℕ) (a : A) (b : B) → slice_get xs n ≡ Some a → slice_get (ys ++ y ∷ []) n ≡ Some b → Holds a b
pairs_more Holds xs ys k x y many here holds each n a b at_a at_b = go (got_last ys y n b at_b)
  where
    go : (slice_get ys n ≡ Some b) ⊎ ((n ≡ length ys) × (y ≡ b)) → Holds a b
    go (inl e) = each n a b at_a e
    go (inr (e, g)) =
        let both : Some x ≡ Some a = sym here ∙ ap (slice_get xs) (sym many ∙ sym e) ∙ at_a in
        let same : x ≡ a = cc both in
        subst (λ z. Holds z b) same (subst (Holds x) g holds)

pub few_more : (sort : Sort) (files : List FileRows) (k : ℕ) (x : FileRows) → slice_get files k ≡ Some x → length (members_in sort x) < 2 ^ 32 → ((n : ℕ) (f : FileRows) → n < k → slice_get files n ≡ Some f → length (members_in sort f) < 2 ^ 32) → (n : ℕ) (f : FileRows) → n < k + 1 → slice_get files n ≡ Some f → length (members_in sort f) < 2 ^ 32
few_more sort files k x here few each n f below at = go (cases_lt n k)
  where
    go : (n < k) ⊎ (k ≤ n) → length (members_in sort f) < 2 ^ 32
    go (inl under) = each n f under at
    go (inr over) =
        let last : n ≡ k = omega arith in
        let both : Some x ≡ Some f = sym here ∙ ap (slice_get files) (sym last) ∙ at in
        let same : x ≡ f = cc both in
        subst (λ y. length (members_in sort y) < 2 ^ 32) same few

module _ (f : FileRows) (n : ℕ) (key : MemberKey) where
  pub field_at : (sort : Sort) (row : FieldRow) → sort ≡ Field → n < length f.fields.items → row ≡ get_or f.fields.items n row → key_shown key ≡ field_shown row → slice_get (members_in sort f) n ≡ Some (key_shown key)
  field_at sort row s h is e =
      ap (λ x. slice_get (members_in x f) n) s
      ∙ slice_get-map field_shown f.fields.items n
      ∙ ap (option_map field_shown) (slice_get-get_or f.fields.items n row h)
      ∙ ap (λ r. Some (field_shown r)) (sym is)
      ∙ ap Some (sym e)

  pub method_at : (sort : Sort) (row : MethodRow) → sort ≡ Method → n < length f.methods.items → row ≡ get_or f.methods.items n row → key_shown key ≡ method_shown row → slice_get (members_in sort f) n ≡ Some (key_shown key)
  method_at sort row s h is e =
      ap (λ x. slice_get (members_in x f) n) s
      ∙ slice_get-map method_shown f.methods.items n
      ∙ ap (option_map method_shown) (slice_get-get_or f.methods.items n row h)
      ∙ ap (λ r. Some (method_shown r)) (sym is)
      ∙ ap Some (sym e)
