-- What the signatures of type specifications mean.
use Rattle.std.proofs.Common.{◌≡◌, ℕ, zero, suc, ◌<◌, ◌≤◌, ◌⊎◌, inl, inr, Bool, true, false, List, [], ◌∷◌, length, Option, Some, None, refl, sym, ap, ◌∙◌, arith}
use Rattle.std.specs.Prelude.{IsSome, nat_eq, nat_lt, slice_get, if◌then◌else◌}
use Rattle.std.specs.Option.{option_map}
use Rattle.std.proofs.lemmas.Bool.{lt-ltb, le-ltb, cases_lt}
use Rattle.std.proofs.lemmas.Option.{slice_get-map, slice_get_past}
use Rattle.machine.specs.Data.{Id}
use Rattle.machine.specs.Throw.{on_some}
use Rattle.classes.specs.Classes.{SigType, ClassToken, ValueToken, ArraySig}
use Rattle.image_bytes.specs.Layout.{Image, rows_of, read_word}
use Rattle.assemblies.specs.Rows.{Assembly, TypeRefRow, TypeToken, TypeDef, TypeRef, TypeSpec, RawType, RawSpelt, RawClass, RawValue, RawArray}
use Rattle.assemblies.specs.Binding.{id_at, in_scope, resolve, resolve_ref, expanded, operand_type}
use Rattle.world_rows.specs.World.{size_of}
use Rattle.image_form.specs.Signatures.{type_token, elem_at, read_named, read_leaf, read_raw, read_type, whole}
use Rattle.image_form.specs.Form.{checked, no_spec}
use Rattle.image_form.specs.Whole.{has_row, image_rows}
use Rattle.board_model.specs.Bound.{named}
use Rattle.member_keys.specs.Seen.{class_seen}
use Rattle.scope_walk.specs.Walk.{value_at}
use Rattle.tiny_rows.specs.Rows.{rows_seen}
use Rattle.tiny_rows.proofs.RowLaws.{refs_counted, types_counted}
use Rattle.tiny_members.specs.Rows.{plain_in, field_type_in}
use Rattle.set_names.specs.Names.{seen_all}
use Rattle.set_signatures.specs.declared.tokens.Tokens.{Tokens}
use Rattle.set_signatures.specs.Meant.{class_named, plain_of, type_meant, then_meant, whole_of, field_told}
use Rattle.set_signatures.specs.Meant as meant
use Rattle.set_signatures.proofs.PartLaws.{made_of, behind_it, mapped}
use Rattle.set_signatures.proofs.MemberLaws.{whole_meant}
use Rattle.set_signatures.proofs.ExpandLaws.{type_expanded}
use Rattle.bound_answers.proofs.SetLaws.{own_there, own_past}

-- ---- one signature read by two readings of its tokens that mean the same

module _ (t : Tokens) (one two : ℕ → Option TypeToken) (same : (w : ℕ) → on_some (one w) (class_named t) ≡ on_some (two w) (class_named t)) where
  abbrev M : Option (RawType × List ℕ) → Option (SigType × List ℕ)
  M o = then_meant (type_meant t) o

  token_meant : (make : TypeToken → RawType) (make' : Id → SigType) → ((u : TypeToken) → type_meant t (make u) ≡ option_map make' (class_named t u)) → (o : Option TypeToken) (rest : List ℕ)
      → M (on_some o (λ u. Some (make u, rest))) ≡ option_map (behind_it {A = SigType} rest) (option_map make' (on_some o (class_named t)))
  token_meant make make' is None rest = refl
  token_meant make make' is (Some u) rest = ap (option_map (behind_it {A = SigType} rest)) (is u)

  named_same : (make : TypeToken → RawType) (make' : Id → SigType) → ((u : TypeToken) → type_meant t (make u) ≡ option_map make' (class_named t u)) → (bytes : List ℕ) → M (read_named one make bytes) ≡ M (read_named two make bytes)
  named_same make make' is bytes = by (read_word bytes)
    where
      by : (o : Option (ℕ × List ℕ)) → M (on_some o (λ w. on_some (one w.0) (λ u. Some (make u, w.1)))) ≡ M (on_some o (λ w. on_some (two w.0) (λ u. Some (make u, w.1))))
      by None = refl
      by (Some w) =
          token_meant make make' is (one w.0) w.1
          ∙ ap (λ (o : Option Id). option_map (behind_it {A = SigType} w.1) (option_map make' o)) (same w.0)
          ∙ sym (token_meant make make' is (two w.0) w.1)

  abbrev leaf_by : (ℕ → Option TypeToken) → Bool → Bool → ℕ → List ℕ → Option (RawType × List ℕ)
  leaf_by name a b code rest = if a then read_named name RawClass rest else (if b then read_named name RawValue rest else on_some (elem_at code) (λ e. Some (RawSpelt e, rest)))

  leaf_same : (code : ℕ) (rest : List ℕ) → M (read_leaf one code rest) ≡ M (read_leaf two code rest)
  leaf_same code rest = by (nat_eq code 18) (nat_eq code 17)
    where
      by : (a b : Bool) → M (leaf_by one a b code rest) ≡ M (leaf_by two a b code rest)
      by true b = named_same RawClass ClassToken (λ u. refl) rest
      by false true = named_same RawValue ValueToken (λ u. refl) rest
      by false false = refl

  raw_same : (n : ℕ) (bytes : List ℕ) → M (read_raw one n bytes) ≡ M (read_raw two n bytes)
  raw_same zero [] = refl
  raw_same zero (b ∷ rest) = leaf_same b rest
  raw_same (suc n) [] = refl
  raw_same (suc n) (b ∷ rest) = by (nat_eq b 29) (raw_same n rest)
    where
      by : (a : Bool) → M (read_raw one n rest) ≡ M (read_raw two n rest) → M (if a then on_some (read_raw one n rest) (λ x. Some (RawArray x.0, x.1)) else read_leaf one b rest) ≡ M (if a then on_some (read_raw two n rest) (λ x. Some (RawArray x.0, x.1)) else read_leaf two b rest)
      by true inside =
          mapped (type_meant t) (type_meant t) RawArray ArraySig (λ x. refl) (read_raw one n rest)
          ∙ ap (option_map (made_of ArraySig)) inside
          ∙ sym (mapped (type_meant t) (type_meant t) RawArray ArraySig (λ x. refl) (read_raw two n rest))
      by false inside = leaf_same b rest

  type_same : (bytes : List ℕ) → on_some (whole (read_type one) bytes) (type_meant t) ≡ on_some (whole (read_type two) bytes) (type_meant t)
  type_same bytes = sym (whole_meant (type_meant t) (read_type one bytes)) ∙ ap whole_of (raw_same 255 bytes) ∙ whole_meant (type_meant t) (read_type two bytes)

-- ---- the tokens of an image of a set

ref_past : (k : ℕ) (ps : List Assembly) (f n : ℕ) (p : Assembly) → slice_get ps f ≡ Some p → length p.refs ≤ n → resolve_ref k ps f n ≡ None
ref_past zero ps f n p here high = refl
ref_past (suc k) ps f n p here high =
    ap (λ o. on_some o (λ (p : Assembly). on_some (slice_get p.refs n) (λ r. in_scope ps f (resolve_ref k ps f) r r.scope))) here
    ∙ ap (λ (o : Option TypeRefRow). on_some o (λ r. in_scope ps f (resolve_ref k ps f) r r.scope)) (slice_get_past p.refs n high)

module _ (i : Image) (rows : IsSome (image_rows i)) (ps : List Assembly) (t : Tokens) (here : Some (rows_seen i) ≡ slice_get ps t.file) (types : t.types ≡ length (rows_seen i).types)
    (references : (n : ℕ) → value_at t.references.now n ≡ named ps t.file 1 n) where
  mean : (u : TypeToken) → class_named t u ≡ resolve (size_of ps) ps t.file u
  mean (TypeDef n) = by (cases_lt n t.types)
    where
      by : (n < t.types) ⊎ (t.types ≤ n) → (if nat_lt n t.types then Some (id_at t.file n) else None) ≡ resolve (size_of ps) ps t.file (TypeDef n)
      by (inl low) = ap (λ b. if b then Some (id_at t.file n) else None) (lt-ltb n t.types low) ∙ own_there ps t.file n t.file n (rows_seen i) here (omega (arith, low, types)) refl refl
      by (inr high) = ap (λ b. if b then Some (id_at t.file n) else None) (le-ltb n t.types high) ∙ own_past ps t.file n (rows_seen i) here (omega (arith, high, types))
  mean (TypeRef n) = references n
  mean (TypeSpec n) = refl

  abbrev checked_as : Bool → TypeToken → Option Id
  checked_as b u = on_some (on_some (checked b u) no_spec) (class_named t)

  refs_there : (n : ℕ) → checked_as (nat_lt n (length t.references.now)) (TypeRef n) ≡ value_at t.references.now n
  refs_there n = by (cases_lt n (length t.references.now))
    where
      by : (n < length t.references.now) ⊎ (length t.references.now ≤ n) → checked_as (nat_lt n (length t.references.now)) (TypeRef n) ≡ value_at t.references.now n
      by (inl low) = ap (λ b. checked_as b (TypeRef n)) (lt-ltb n (length t.references.now) low)
      by (inr high) = ap (λ b. checked_as b (TypeRef n)) (le-ltb n (length t.references.now) high) ∙ sym (ap (λ o. on_some o (option_map class_seen)) (slice_get_past t.references.now n high))

  rows_there : (n : ℕ) → checked_as (nat_lt n (rows_of i 1)) (TypeRef n) ≡ value_at t.references.now n
  rows_there n = by (cases_lt n (rows_of i 1))
    where
      by : (n < rows_of i 1) ⊎ (rows_of i 1 ≤ n) → checked_as (nat_lt n (rows_of i 1)) (TypeRef n) ≡ value_at t.references.now n
      by (inl low) = ap (λ b. checked_as b (TypeRef n)) (lt-ltb n (rows_of i 1) low)
      by (inr high) =
          let many = refs_counted i rows (rows_of i 1) refl in
          ap (λ b. checked_as b (TypeRef n)) (le-ltb n (rows_of i 1) high) ∙ sym (references n ∙ ref_past (size_of ps) ps t.file n (rows_seen i) (sym here) (omega (arith, high, many)))

  token_same : (u : TypeToken) → checked_as (meant.has_row t u) u ≡ checked_as (has_row i u) u
  token_same (TypeDef n) = ap (λ m. checked_as (nat_lt n m) (TypeDef n)) (types ∙ sym (types_counted i rows (rows_of i 4) refl))
  token_same (TypeRef n) = refs_there n ∙ sym (rows_there n)
  token_same (TypeSpec n) = sym (none (nat_lt n (rows_of i 9)))
    where
      none : (b : Bool) → checked_as b (TypeSpec n) ≡ None
      none true = refl
      none false = refl

  on_same : {A B : Type 0} (f g : A → Option B) → ((x : A) → f x ≡ g x) → (o : Option A) → on_some o f ≡ on_some o g
  on_same f g h None = refl
  on_same f g h (Some x) = h x

  pub signature_told : (bytes : List ℕ) → field_told t bytes ≡ on_some (field_type_in i bytes) (expanded (size_of ps) ps t.file)
  unfolding field_told
  signature_told bytes =
      type_same t (plain_of t) (plain_in i) (λ w. token_same (type_token w)) bytes
      ∙ on_same (type_meant t) (expanded (size_of ps) ps t.file) (type_expanded (size_of ps) ps t.file t mean) (field_type_in i bytes)

-- ---- the type of a row of the type specifications

pub image_there : (images : List Image) (file : ℕ) (i : Image) → Some i ≡ slice_get images file → Some (rows_seen i) ≡ slice_get (seen_all images) file
image_there images file i e = sym (slice_get-map rows_seen images file ∙ ap (option_map rows_seen) (sym e))

pub no_image : (images : List Image) (file row : ℕ) → None ≡ slice_get images file → None ≡ operand_type (size_of (seen_all images)) (seen_all images) file (TypeSpec row)
no_image images file row e =
    ap (λ (o : Option Assembly). on_some o (λ p. on_some (slice_get p.specs row) (expanded (size_of (seen_all images)) (seen_all images) file))) (sym (slice_get-map rows_seen images file ∙ ap (option_map rows_seen) (sym e)))

pub spec_is : (images : List Image) (file row : ℕ) (i : Image) → Some i ≡ slice_get images file → (o : Option RawType) → o ≡ slice_get (rows_seen i).specs row
    → on_some o (expanded (size_of (seen_all images)) (seen_all images) file) ≡ operand_type (size_of (seen_all images)) (seen_all images) file (TypeSpec row)
spec_is images file row i here o e =
    ap (λ (o : Option RawType). on_some o (expanded (size_of (seen_all images)) (seen_all images) file)) e
    ∙ ap (λ (o : Option Assembly). on_some o (λ p. on_some (slice_get p.specs row) (expanded (size_of (seen_all images)) (seen_all images) file))) (image_there images file i here)
