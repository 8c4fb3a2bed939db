-- Rows and files one after the other.
use Rattle.std.proofs.Common.{◌≡◌, ℕ, ◌+◌, ◌<◌, ◌≤◌, ◌⊎◌, inl, inr, true, false, not, List, [], ◌∷◌, ◌++◌, length, Option, Some, None, refl, sym, ap, ◌∙◌, subst, arith}
use Rattle.std.specs.Prelude.{slice_get}
use Rattle.std.specs.Option.{option_map}
use Rattle.std.proofs.lemmas.Option.{slice_get-get_or}
use Rattle.file_tables.specs.Metadata.{MetadataPart, rows_of, row_of, row_count}
use Rattle.file_tables.specs.File.{FilePart}
use Rattle.machine.specs.Throw.{on_some}
use Rattle.world_rows.specs.Tokens.{member_refs, is_field_ref}
use Rattle.world_rows.specs.Rows.{field_ref, method_ref}
use Rattle.member_keys.specs.declared.keys.ClassId.{ClassId}
use Rattle.member_keys.specs.Seen.{class_seen}
use Rattle.type_names.proofs.IndexLaws.{none_past}
use Rattle.type_names.proofs.Resolving.{got_last}
use Rattle.type_names.proofs.RowLoops.{row_is}
use Rattle.member_references.specs.declared.reference.Reference.{Reference}
use Rattle.member_references.specs.declared.reference.Reference.TheVariants as reference
use Rattle.member_references.specs.Resolved.{field_of, method_of}
use Rattle.member_references.specs.Meant.{field_meant, method_meant, field_in, method_in, IsMeant, AreMeant}
use Rattle.member_references.proofs.TokenLaws.{field_is, field_is_none, field_past, method_is, method_is_none, method_past}

-- a fact of each place of a list that gets one more
pub each_more : {A : Type 0} (P : ℕ → A → Type 0) (xs : List A) (x : A) → ((i : ℕ) (y : A) → slice_get xs i ≡ Some y → P i y) → P (length xs) x → (i : ℕ) (y : A) → slice_get (xs ++ x ∷ []) i ≡ Some y → P i y
each_more {A} P xs x each last i y e = go (got_last xs x i y e)
  where
    go : (slice_get xs i ≡ Some y) ⊎ ((i ≡ length xs) × (x ≡ y)) → P i y
    go (inl f) = each i y f
    go (inr (f, g)) = subst (λ k. P k y) (sym f) (subst (P (length xs)) g last)

module _ (files : List FilePart) (file : ℕ) (m : MetadataPart) (there : option_map (λ (p : FilePart). p.metadata) (slice_get files file) ≡ Some m) where
  pub file_there : (p : FilePart) × (slice_get files file ≡ Some p) × (p.metadata ≡ m)
  file_there = go (slice_get files file) refl there
    where
      go : (o : Option FilePart) → slice_get files file ≡ o → option_map (λ (p : FilePart). p.metadata) o ≡ Some m → (p : FilePart) × (slice_get files file ≡ Some p) × (p.metadata ≡ m)
      go None e f = absurd (cc f)
      go (Some p) e f = (p, e, cc f)

  -- all rows were read
  pub all_meant : (rs : List Reference) → ((n : ℕ) (r : Reference) → slice_get rs n ≡ Some r → IsMeant files file n r) → row_count m member_refs ≤ length rs → AreMeant files file rs
  all_meant rs each all = record { fields = λ n. in_fields n (slice_get rs n) refl; methods = λ n. in_methods n (slice_get rs n) refl }
    where
      past : (n : ℕ) → slice_get rs n ≡ None → row_count file_there.0.metadata member_refs ≤ n
      past n e = let few = none_past rs n e in let same = ap (λ x. row_count x member_refs) file_there.2 in omega (arith, few, all, same)

      in_fields : (n : ℕ) (o : Option Reference) → slice_get rs n ≡ o → on_some (slice_get rs n) field_in ≡ field_of files file member_refs (n + 1)
      in_fields n None e = ap (λ o. on_some o field_in) e ∙ sym (field_past files file file_there.0 file_there.1 n (past n e))
      in_fields n (Some r) e = ap (λ o. on_some o field_in) e ∙ (each n r e).field

      in_methods : (n : ℕ) (o : Option Reference) → slice_get rs n ≡ o → on_some (slice_get rs n) method_in ≡ method_of files file member_refs (n + 1)
      in_methods n None e = ap (λ o. on_some o method_in) e ∙ sym (method_past files file file_there.0 file_there.1 n (past n e))
      in_methods n (Some r) e = ap (λ o. on_some o method_in) e ∙ (each n r e).method

-- ---- one row

row_there : (m : MetadataPart) (n : ℕ) → n < row_count m member_refs → slice_get (rows_of m member_refs) n ≡ Some (row_of m member_refs (n + 1))
row_there m n within = slice_get-get_or (rows_of m member_refs) n [] within ∙ ap Some (sym (row_is m member_refs n))

module _ (files : List FilePart) (file n : ℕ) (c : Option ClassId) where
  MeansField : MetadataPart → Type 0
  MeansField m = n < row_count m member_refs → is_field_ref m (row_of m member_refs (n + 1)) ≡ true → option_map class_seen c ≡ field_meant files file (field_ref m (row_of m member_refs (n + 1))) → IsMeant files file n (reference.Field c)

  of_field : (f : FilePart) → slice_get files file ≡ Some f → MeansField f.metadata
  unfolding MeansField
  of_field f there within kind e =
      let at = row_there f.metadata n within in
      record {
        field = e ∙ sym (field_is files file f there n (row_of f.metadata member_refs (n + 1)) at kind);
        method = sym (method_is_none files file f there n (row_of f.metadata member_refs (n + 1)) at (ap not kind));
      }

  pub field_read : (m : MetadataPart) → option_map (λ (p : FilePart). p.metadata) (slice_get files file) ≡ Some m → n < row_count m member_refs → is_field_ref m (row_of m member_refs (n + 1)) ≡ true → option_map class_seen c ≡ field_meant files file (field_ref m (row_of m member_refs (n + 1))) → IsMeant files file n (reference.Field c)
  unfolding MeansField
  field_read m there = let w = file_there files file m there in subst MeansField w.2 (of_field w.0 w.1)

  MeansMethod : MetadataPart → Type 0
  MeansMethod m = n < row_count m member_refs → is_field_ref m (row_of m member_refs (n + 1)) ≡ false → option_map class_seen c ≡ method_meant files file (method_ref m (row_of m member_refs (n + 1))) → IsMeant files file n (reference.Method c)

  of_method : (f : FilePart) → slice_get files file ≡ Some f → MeansMethod f.metadata
  unfolding MeansMethod
  of_method f there within kind e =
      let at = row_there f.metadata n within in
      record {
        field = sym (field_is_none files file f there n (row_of f.metadata member_refs (n + 1)) at kind);
        method = e ∙ sym (method_is files file f there n (row_of f.metadata member_refs (n + 1)) at (ap not kind));
      }

  pub method_read : (m : MetadataPart) → option_map (λ (p : FilePart). p.metadata) (slice_get files file) ≡ Some m → n < row_count m member_refs → is_field_ref m (row_of m member_refs (n + 1)) ≡ false → option_map class_seen c ≡ method_meant files file (method_ref m (row_of m member_refs (n + 1))) → IsMeant files file n (reference.Method c)
  unfolding MeansMethod
  method_read m there = let w = file_there files file m there in subst MeansMethod w.2 (of_method w.0 w.1)
