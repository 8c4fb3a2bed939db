-- Where the counts of an image pass none of the limits 0 to 14, the rows of the choice keep the limits on which their reading rests.
use Rattle.std.proofs.Common.{◌≡◌, ℕ, zero, suc, ◌+◌, ◌<◌, ◌≤◌, Bool, true, false, List, [], ◌∷◌, length, Option, Some, None, refl, ap, subst, ◌∙◌, arith}
use Rattle.std.specs.Prelude.{nat_lt, if◌then◌else◌, slice_get}
use Rattle.std.specs.Option.{option_map}
use Rattle.std.proofs.lemmas.Bool.{ltb-false}
use Rattle.std.proofs.lemmas.List.{length-map}
use Rattle.plain_types.specs.declared.fault.Limit.{Limit}
use Rattle.kept_rows.specs.Select.{select}
use Rattle.assemblies.specs.Rows.{TypeRow, FieldRow, Assembly}
use Rattle.assemblies.specs.Chosen.{Choice, field_ref_to, method_ref_to, field_row_to, chosen}
use Rattle.image_form.specs.Form.{Offsets, assembly_row, ref_row, field_ref_row, method_ref_row, type_rows, field_rows, spec_row, method_rows, bytes_in, clauses_in, data_of, data_rows}
use Rattle.image_form.specs.Whole.{Methods, offsets, datas_of, laid}
use Rattle.chosen_image.specs.Spells.{chosen_methods, KeepsLimits}
use Rattle.msspot_write.specs.Parts.{most, first_over, counted}
use Rattle.converted.specs.Images.{image_of}
use Rattle.converted.specs.Over.{limit_in, over_counts}

none_over : (limit : ℕ) (xs : List ℕ) → first_over limit xs ≡ None → (i n : ℕ) → slice_get xs i ≡ Some n → n ≤ most (limit + i)
none_over limit [] h i n e = absurd (cc e)
none_over limit (x ∷ xs) h i n e = go (nat_lt (most limit) x) refl h (λ none j at. none_over (limit + 1) xs none j n at) i e
  where
    go : (b : Bool) → nat_lt (most limit) x ≡ b → (if b then Some (record { number = limit; count = x; assembly = 0 }) else first_over (limit + 1) xs) ≡ None → (first_over (limit + 1) xs ≡ None → (j : ℕ) → slice_get xs j ≡ Some n → n ≤ most (limit + 1 + j)) → (i : ℕ) → slice_get (x ∷ xs) i ≡ Some n → n ≤ most (limit + i)
    go true over h rest i e = absurd (cc h)
    go false within h rest zero e =
        let same : x ≡ n = cc e in
        let sum : limit ≡ limit + 0 = omega arith in
        subst (λ l. n ≤ most l) sum (subst (λ y. y ≤ most limit) same (ltb-false (most limit) x within))
    go false within h rest (suc i) e =
        let sum : limit + 1 + i ≡ limit + suc i = omega arith in
        subst (λ l. n ≤ most l) sum (rest h i e)

none_in : (f : ℕ) (o : Option Limit) → option_map (λ (l : Limit). limit_in f l.number l.count) o ≡ None → o ≡ None
none_in f None h = refl
none_in f (Some l) h = absurd (cc h)

-- ---- as many rows as there are of what they spell

module _ (o : Offsets) where
  type_count : (at : ℕ) (ts : List TypeRow) → length (type_rows o at ts) ≡ length ts
  type_count at [] = refl
  type_count at (t ∷ ts) = ap suc (type_count (at + length t.interfaces) ts)

  field_count : (n : ℕ) (fs : List FieldRow) → length (field_rows o n fs) ≡ length fs
  field_count n [] = refl
  field_count n (f ∷ fs) = ap suc (field_count (n + length (data_of f.kind)) fs)

  method_count : (at clause : ℕ) (ms : Methods) → length (method_rows o at clause ms) ≡ length ms
  method_count at clause [] = refl
  method_count at clause (x ∷ xs) = ap suc (method_count (at + length (bytes_in o x.0 x.1.code)) (clause + length (clauses_in x.1.code)) xs)

data_count : (at : ℕ) (ds : List (List ℕ)) → length (data_rows at ds) ≡ length ds
data_count at [] = refl
data_count at (d ∷ ds) = ap suc (data_count (at + length d) ds)

few : (n m : ℕ) → n ≤ 16383 → n ≡ m → m < 16384
few n m small same = omega (arith, small, same)

pub keeps_limits : (f : ℕ) (k : Choice) (p : Assembly) (ms : Methods) → over_counts f (image_of k p ms) ≡ None → KeepsLimits k p ms
keeps_limits f k p ms none =
    let q : Assembly = chosen k p in
    let xs : Methods = chosen_methods k ms in
    let o : Offsets = offsets q xs in
    let within : (i n : ℕ) → slice_get (counted (laid q xs)) i ≡ Some n → n ≤ most (0 + i) = none_over 0 (counted (laid q xs)) (none_in f (first_over 0 (counted (laid q xs))) none) in
    record {
      limits = record {
        assemblies = few _ _ (within 0 _ refl) (length-map q.assemblies (assembly_row o));
        refs = few _ _ (within 1 _ refl) (length-map q.refs (ref_row o));
        types = few _ _ (within 4 _ refl) (type_count o 0 q.types);
        methods = few _ _ (within 7 _ refl) (method_count o 0 0 xs);
        specs = few _ _ (within 9 _ refl) (length-map q.specs (spec_row o));
        datas = few _ _ (within 10 _ refl) (data_count 0 (datas_of q));
        signatures = within 12 _ refl;
        code = within 13 _ refl;
      };
      fields = few _ _ (within 6 _ refl) (field_count o 0 q.fields ∙ length-map (select k.fields p.fields) (field_row_to k));
      field_refs = few _ _ (within 2 _ refl) (length-map q.field_refs (field_ref_row o) ∙ length-map (select k.field_refs p.field_refs) (field_ref_to k));
      method_refs = few _ _ (within 3 _ refl) (length-map q.method_refs (method_ref_row o) ∙ length-map (select k.method_refs p.method_refs) (method_ref_to k));
    }
