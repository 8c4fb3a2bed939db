-- The one instance field of a type, by a walk over its rows.
use Rattle.std.proofs.Common.{◌≡◌, ℕ, zero, suc, ◌+◌, ◌-◌, ◌<◌, ◌≤◌, Bool, true, false, not, cond, List, [], ◌∷◌, ◌++◌, length, take, drop, map, min, Option, Some, None, refl, sym, ap, ◌∙◌, arith, add-one, length-drop}
use Rattle.std.specs.Prelude.{slice_index, is_some, if◌then◌else◌, Ok, Err}
use Rattle.std.specs.List.{filter}
use Rattle.std.proofs.lemmas.List.{take-map, drop-map, take_min, append-nil}
use Rattle.std.proofs.Math.Seq.{drop-cons}
use Rattle.plain_types.specs.declared.elem.Elem.{Elem}
use Rattle.plain_types.specs.declared.elem.Elem.TheVariants as elem
use Rattle.cil_sig.specs.declared.sig.SigType.{SigType}
use Rattle.cil_sig.specs.declared.sig.SigFault.{SigFault}
use Rattle.cil_sig.specs.Reading.{Part, whole_field, answer}
use Rattle.file_tables.specs.Bytes.{has_bit}
use Rattle.file_tables.specs.Metadata.{MetadataPart, rows_of, row_of}
use Rattle.classes.specs.Classes.{InstanceField, StaticField, LiteralField, DataField}
use Rattle.classes.specs.Queries.{is_instance_kind, is_integer}
use Rattle.alike.proofs.Lists.{filter_map}
use Rattle.assemblies.specs.Rows.{FieldRow}
use Rattle.assemblies.specs.Binding.{range}
use Rattle.assemblies.proofs.Numbered.{numbered_map}
use Rattle.world_rows.specs.Tokens.{fields, bytes_at}
use Rattle.world_rows.specs.Signatures.{raw_element, in_brackets, raw_type, type_from, field_signature}
use Rattle.world_rows.specs.Rows.{field_row}
use Rattle.world_rows.specs.Kinds.{integer_of, number_in}
use Rattle.class_reading.specs.Fields.{number_at}

abbrev pub is_own : List ℕ → Bool
is_own row = not (has_bit (slice_index row 0) 4)

-- the signatures of the instance fields among rows
abbrev pub signatures : List (List ℕ) → List ℕ
signatures rows = map (λ row. slice_index row 2) (filter is_own rows)

abbrev pub listed : Option ℕ → List ℕ
listed None = []
listed (Some s) = s ∷ []

abbrev pub number_by : MetadataPart → List ℕ → Option Elem
number_by m [] = None
number_by m (s ∷ []) = integer_of (field_signature m (bytes_at m s))
number_by m (s ∷ t ∷ ss) = None

-- the rows from one place up to another
abbrev pub between : MetadataPart → ℕ → ℕ → List (List ℕ)
between m n end = take (end - n) (drop n (rows_of m fields))

abbrev field : MetadataPart → List ℕ → FieldRow
field m row = field_row m (λ n. []) 0 row

own_field : (m : MetadataPart) (row : List ℕ) → is_instance_kind (field m row).kind ≡ is_own row
own_field m row = go (has_bit (slice_index row 0) 4) (has_bit (slice_index row 0) 8) (has_bit (slice_index row 0) 6)
  where
    go : (a b c : Bool) → is_instance_kind (if not a then InstanceField else if b then DataField [] else if c then LiteralField else StaticField) ≡ not a
    go false b c = refl
    go true true c = refl
    go true false true = refl
    go true false false = refl

number_is : (m : MetadataPart) (rows : List (List ℕ)) → number_in (map (field m) rows) ≡ number_by m (map (λ row. slice_index row 2) rows)
number_is m [] = refl
number_is m (r ∷ []) = refl
number_is m (r ∷ s ∷ rs) = refl

number_of_rows : (m : MetadataPart) (first count : ℕ) → number_at m first count ≡ number_by m (signatures (take count (drop first (rows_of m fields))))
number_of_rows m first count =
    ap (λ fs. number_in (filter (λ (f : FieldRow). is_instance_kind f.kind) (range first count fs))) (numbered_map (field m) 0 (rows_of m fields))
    ∙ ap (λ fs. number_in (filter (λ (f : FieldRow). is_instance_kind f.kind) fs)) (ap (take count) (drop-map (field m) first (rows_of m fields)) ∙ take-map (field m) count (drop first (rows_of m fields)))
    ∙ ap number_in (filter_map (field m) (λ (f : FieldRow). is_instance_kind f.kind) is_own (take count (drop first (rows_of m fields))) (own_field m))
    ∙ number_is m (filter is_own (take count (drop first (rows_of m fields))))

whole : (m : MetadataPart) (first count end : ℕ) → end ≡ min (first + count) (length (rows_of m fields)) → take count (drop first (rows_of m fields)) ≡ between m first end
whole m first count end e = sym (take_min count (drop first (rows_of m fields))) ∙ ap (λ k. take k (drop first (rows_of m fields))) same
  where
    same : min count (length (drop first (rows_of m fields))) ≡ end - first
    same = omega (arith, length-drop first (rows_of m fields))

pub number_walk : (m : MetadataPart) (first count end : ℕ) → end ≡ min (first + count) (length (rows_of m fields)) → number_at m first count ≡ number_by m (signatures (between m first end))
number_walk m first count end e = number_of_rows m first count ∙ ap (λ rows. number_by m (signatures rows)) (whole m first count end e)

module _ (m : MetadataPart) (n end : ℕ) (below : n < end) (within : end ≤ length (rows_of m fields)) where
  first_between : between m n end ≡ row_of m fields (suc n) ∷ between m (suc n) end
  first_between =
      let here : n < length (rows_of m fields) = omega arith in
      let count : end - n ≡ suc (end - suc n) = omega arith in
      ap (take (end - n)) (drop-cons (rows_of m fields) n [] here) ∙ ap (λ k. take k (row_of m fields (suc n) ∷ drop (suc n) (rows_of m fields))) count

  by_flag : (b : Bool) → is_own (row_of m fields (suc n)) ≡ b → signatures (between m n end) ≡ cond b (slice_index (row_of m fields (suc n)) 2 ∷ signatures (between m (suc n) end)) (signatures (between m (suc n) end))
  by_flag b e = ap signatures first_between ∙ ap (λ t. map (λ row. slice_index row 2) (cond t (row_of m fields (suc n) ∷ filter is_own (between m (suc n) end)) (filter is_own (between m (suc n) end)))) e ∙ go b
    where
      go : (t : Bool) → map (λ row. slice_index row 2) (cond t (row_of m fields (suc n) ∷ filter is_own (between m (suc n) end)) (filter is_own (between m (suc n) end))) ≡ cond t (slice_index (row_of m fields (suc n)) 2 ∷ signatures (between m (suc n) end)) (signatures (between m (suc n) end))
      go true = refl
      go false = refl

  pub own_first : (s : ℕ) → is_own (row_of m fields (n + 1)) ≡ true → s ≡ slice_index (row_of m fields (n + 1)) 2 → signatures (between m n end) ≡ s ∷ signatures (between m (n + 1) end)
  own_first s e f =
      by_flag true (ap (λ k. is_own (row_of m fields k)) (sym (add-one n)) ∙ e)
      ∙ ap (λ k. slice_index (row_of m fields k) 2 ∷ signatures (between m k end)) (sym (add-one n))
      ∙ ap (λ x. x ∷ signatures (between m (n + 1) end)) (sym f)

  pub static_first : is_own (row_of m fields (n + 1)) ≡ false → signatures (between m n end) ≡ signatures (between m (n + 1) end)
  static_first e = by_flag false (ap (λ k. is_own (row_of m fields k)) (sym (add-one n)) ∙ e) ∙ ap (λ k. signatures (between m k end)) (sym (add-one n))

pub none_between : (m : MetadataPart) (n end : ℕ) → end ≤ n → signatures (between m n end) ≡ []
none_between m n end h = let none : end - n ≡ 0 = omega arith in ap (λ k. signatures (take k (drop n (rows_of m fields)))) none

module _ (m : MetadataPart) (first count end n : ℕ) (o : Option ℕ) (limit : end ≡ min (first + count) (length (rows_of m fields))) (so_far : signatures (between m first end) ≡ listed o ++ signatures (between m n end)) where
  -- a second one
  pub found_twice : (s : ℕ) (rest : List ℕ) → is_some o ≡ true → signatures (between m n end) ≡ s ∷ rest → None ≡ number_at m first count
  found_twice s rest h e = sym (number_walk m first count end limit ∙ ap (number_by m) (so_far ∙ ap (λ ss. listed o ++ ss) e) ∙ go o h)
    where
      go : (x : Option ℕ) → is_some x ≡ true → number_by m (listed x ++ s ∷ rest) ≡ None
      go None g = cc g
      go (Some t) g = refl

  pub found_once : (s : ℕ) (rest : List ℕ) → is_some o ≡ false → signatures (between m n end) ≡ s ∷ rest → signatures (between m first end) ≡ listed (Some s) ++ rest
  found_once s rest h e = so_far ∙ ap (λ ss. listed o ++ ss) e ∙ go o h
    where
      go : (x : Option ℕ) → is_some x ≡ false → listed x ++ s ∷ rest ≡ s ∷ rest
      go None g = refl
      go (Some t) g = cc g

  pub walk_ends : end ≤ n → number_at m first count ≡ number_by m (listed o)
  walk_ends h = number_walk m first count end limit ∙ ap (number_by m) (so_far ∙ ap (λ ss. listed o ++ ss) (none_between m n end h) ∙ append-nil (listed o))

-- ---- the integer that a signature spells

spelt : (m : MetadataPart) (token : ℕ) (e : Elem) → integer_of (raw_element m e token) ≡ (if is_integer e then Some e else None)
spelt m token elem.Void = refl
spelt m token _ = refl

pub integer_spelt : (m : MetadataPart) (s : SigType) → s.ranks ≡ 0 → is_integer s.elem ≡ true → Some s.elem ≡ integer_of (raw_type m s)
integer_spelt m s e h =
    sym
    (ap (λ n. integer_of (in_brackets n (raw_element m s.elem s.token))) e
    ∙ spelt m s.token s.elem
    ∙ ap (λ b. if b then Some s.elem else None) h)

pub no_integer : (m : MetadataPart) (s : SigType) → s.ranks ≡ 0 → is_integer s.elem ≡ false → None ≡ integer_of (raw_type m s)
no_integer m s e h =
    sym
    (ap (λ n. integer_of (in_brackets n (raw_element m s.elem s.token))) e
    ∙ spelt m s.token s.elem
    ∙ ap (λ b. if b then Some s.elem else None) h)

pub array_no_integer : (m : MetadataPart) (s : SigType) → (s.ranks ≡ 0 → ⊥) → None ≡ integer_of (raw_type m s)
array_no_integer m s h = go s.ranks h
  where
    go : (n : ℕ) → (n ≡ 0 → ⊥) → None ≡ integer_of (in_brackets n (raw_element m s.elem s.token))
    go zero g = absurd (g refl)
    go (suc n) g = refl

pub integer_read : (m : MetadataPart) (blob : List ℕ) (s : SigType) → Ok s ≡ answer blob (whole_field blob) → integer_of (raw_type m s) ≡ integer_of (field_signature m blob)
unfolding field_signature
integer_read m blob s e = go (whole_field blob) e
  where
    go : (p : Part SigType) → Ok s ≡ answer blob p → integer_of (raw_type m s) ≡ integer_of (type_from m p)
    go (Ok t) f = let same : s ≡ t = cc f in ap (λ x. integer_of (raw_type m x)) same
    go (Err left) f = cc f

pub integer_faulty : (m : MetadataPart) (blob : List ℕ) (fault : SigFault) → Err fault ≡ answer blob (whole_field blob) → None ≡ integer_of (field_signature m blob)
unfolding field_signature
integer_faulty m blob fault e = go (whole_field blob) e
  where
    go : (p : Part SigType) → Err fault ≡ answer blob p → None ≡ integer_of (type_from m p)
    go (Ok t) f = cc f
    go (Err left) f = refl
