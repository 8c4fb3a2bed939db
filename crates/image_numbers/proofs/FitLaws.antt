-- Within the limits of an image the numbers of tokens have two bytes.
use Rattle.std.proofs.Common.{◌≡◌, ℕ, zero, suc, ◌+◌, ◌<◌, ◌≤◌, Bool, true, false, List, [], ◌∷◌, length, map, Option, Some, None, refl, sym, ap, ◌∙◌, subst, arith}
use Rattle.std.specs.Prelude.{◌==◌, nat_lt, if◌then◌else◌, slice_get, slice_index_or, unwrap_or}
use Rattle.std.specs.List.{range_with_len, list_any}
use Rattle.std.specs.Option.{option_map, option_map_or}
use Rattle.std.proofs.lemmas.Bool.{ltb-false}
use Rattle.std.proofs.lemmas.Option.{slice_get-map}
use Rattle.std.proofs.Math.Nat.{mod-eq_of_lt}
use Rattle.std.proofs.lemmas.List.{length-map}
use Rattle.std.proofs.lemmas.Slice.Zip.{length-zip}
use Rattle.plain_types.specs.declared.fault.Limit.{Limit}
use Rattle.file_tables.specs.Heaps.{user_string_at}
use Rattle.file_tables.specs.Metadata.{MetadataPart, rows_of, row_count}
use Rattle.file_tables.specs.File.{FilePart}
use Rattle.kept_rows.specs.Select.{select, below}
use Rattle.assemblies.specs.Rows.{TypeToken, TypeDef, TypeRef, TypeSpec, Assembly}
use Rattle.assemblies.specs.Binding.{numbered}
use Rattle.assemblies.specs.Chosen.{Choice, token_to, ref_to, type_row_to, raw_to, chosen}
use Rattle.image_bytes.specs.Layout.{Image, all_onto, byte_onto}
use Rattle.image_form.specs.Signatures.{type_word}
use Rattle.image_form.specs.Whole.{Methods, strings_walk, laid}
use Rattle.image_pools.specs.Pools.{Entry, same_entry, pool, entry_size, offset, pool_onto}
use Rattle.chosen_image.specs.Spells.{chosen_method, chosen_methods, KeepsLimits}
use Rattle.world_rows.specs.Tokens.{methods, fields, member_refs, literals, from_zero, is_field_ref, type_token, table_of, number_of}
use Rattle.world_rows.specs.World.{assemblies_of}
use Rattle.msspot_write.specs.Parts.{most, first_over, counted, found, literal_of, pools_of}
use Rattle.row_numbers.specs.declared.table.Table.{Table}
use Rattle.row_numbers.specs.declared.table.Table.TheVariants as table
use Rattle.row_numbers.specs.Tables.{table_length}
use Rattle.row_numbers.specs.declared.table.PerTable.{PerTable}
use Rattle.row_counts.specs.Counts.{table_rows, IsCount, AreCountsOf}
use Rattle.row_counts.proofs.CountLaws.{world_counts}
use Rattle.kept_marks.specs.Kept.{is_kept}
use Rattle.kept_marks.specs.Masks.{Masks, choice_of_rows}
use Rattle.converted.specs.Cut.{two_bytes}
use Rattle.converted.specs.Bodies.{body_of, manner_in, methods_of, manners_of}
use Rattle.converted.specs.Choosing.{choice_of}
use Rattle.converted.specs.Images.{parts_at, image_of}
use Rattle.converted.specs.Over.{limit_in, over_counts}
use Rattle.converted.proofs.LimitLaws.{keeps_limits}
use Rattle.image_numbers.specs.Numbers.{uncut, reference_number, reference_at, field_number, method_number, type_number, literal_number, number_for}
use Rattle.image_numbers.proofs.KeptLaws.{kept_past, below_all}
use Rattle.image_numbers.proofs.StringLaws.{strings_law}

-- ---- the tables of an assembly are as long as those of its file

counts_for : MetadataPart → PerTable
counts_for m =
    record {
      assembly_refs = table_rows m table.AssemblyRef;
      type_refs = table_rows m table.TypeRef;
      field_refs = table_rows m table.FieldRef;
      method_refs = table_rows m table.MethodRef;
      types = table_rows m table.TypeDef;
      fields = table_rows m table.Field;
      methods = table_rows m table.MethodDef;
      specs = table_rows m table.TypeSpec;
    }

are_counts : (m : MetadataPart) → IsCount m (counts_for m)
unfolding counts_for
are_counts m table.AssemblyRef = refl
are_counts m table.TypeRef = refl
are_counts m table.FieldRef = refl
are_counts m table.MethodRef = refl
are_counts m table.TypeDef = refl
are_counts m table.Field = refl
are_counts m table.MethodDef = refl
are_counts m table.TypeSpec = refl

counted_for : (files : List FilePart) → AreCountsOf files (map (λ (z : FilePart). counts_for z.metadata) files)
counted_for files =
    record {
      count = length-map files (λ (z : FilePart). counts_for z.metadata);
      each = λ f x c at here.
          let made : Some (counts_for x.metadata) ≡ Some c = sym (slice_get-map (λ (z : FilePart). counts_for z.metadata) files f ∙ ap (option_map (λ (z : FilePart). counts_for z.metadata)) at) ∙ here in
          let same : counts_for x.metadata ≡ c = cc made in
          subst (IsCount x.metadata) same (are_counts x.metadata);
    }

-- ---- the first of the limits that are passed is after those that aren't

within_next : (limit n : ℕ) (ns : List ℕ) → first_over limit (n ∷ ns) ≡ None → (n ≤ most limit) × (first_over (limit + 1) ns ≡ None)
within_next limit n ns e = by (nat_lt (most limit) n) refl e
  where
    by : (b : Bool) → nat_lt (most limit) n ≡ b → (if b then Some (record { number = limit; count = n; assembly = 0 }) else first_over (limit + 1) ns) ≡ None → (n ≤ most limit) × (first_over (limit + 1) ns ≡ None)
    by true over h = absurd (cc h)
    by false within h = (ltb-false (most limit) n within, h)

within_at : (i limit : ℕ) (ns : List ℕ) (n : ℕ) → first_over limit ns ≡ None → slice_get ns i ≡ Some n → n ≤ most (limit + i)
within_at i limit [] n e at = absurd (cc at)
within_at zero limit (m ∷ ns) n e at =
    let same : m ≡ n = cc at in
    let sum : limit ≡ limit + 0 = omega arith in
    subst (λ l. n ≤ most l) sum (subst (λ k. k ≤ most limit) same (within_next limit m ns e).0)
within_at (suc i) limit (m ∷ ns) n e at =
    let sum : limit + 1 + i ≡ limit + suc i = omega arith in
    subst (λ l. n ≤ most l) sum (within_at i (limit + 1) ns n (within_next limit m ns e).1 at)

none_in : (f : ℕ) (o : Option Limit) → option_map (λ (l : Limit). limit_in f l.number l.count) o ≡ None → o ≡ None
none_in f None h = refl
none_in f (Some l) h = absurd (cc h)

-- ---- an entry that a pool has begins within it

bytes_long : (bytes rest : List ℕ) → length (all_onto byte_onto bytes rest) ≡ length bytes + length rest
bytes_long [] rest = omega arith
bytes_long (b ∷ bytes) rest = let h = bytes_long bytes rest in omega (arith, h)

offset_within : (es : List Entry) (e : Entry) → offset es e ≤ length (pool_onto es [])
offset_within [] e = omega arith
offset_within (x ∷ es) e = go (same_entry e x) (offset_within es e) (bytes_long x.bytes (pool_onto es []))
  where
    go : (b : Bool) → offset es e ≤ length (pool_onto es []) → length (all_onto byte_onto x.bytes (pool_onto es [])) ≡ length x.bytes + length (pool_onto es []) → (if b then 0 else entry_size x.bytes + offset es e) ≤ length (pool_onto (x ∷ es) [])
    go true h l = omega arith
    go false h l = omega (arith, h, l)

-- ---- so the numbers fit

module _ (files : List FilePart) (marks : List Bool) (f : ℕ) (x : FilePart) (p : Assembly) (there : slice_get files f ≡ Some x) (at : slice_get (assemblies_of files) f ≡ Some p) where
  abbrev keep : Masks
  keep t = is_kept (assemblies_of files) marks t f

  abbrev k : Choice
  k = choice_of files marks f

  abbrev ms : Methods
  ms = methods_of x p

  abbrev strings : List Entry
  strings = (pools_of (parts_at files marks f x p)).strings

  pub long : (t : Table) → table_length p t ≡ table_rows x.metadata t
  long t =
      let counts = world_counts files (map (λ (z : FilePart). counts_for z.metadata) files) (counted_for files) in
      sym (counts.each f p (counts_for x.metadata) t at (slice_get-map (λ (z : FilePart). counts_for z.metadata) files f ∙ ap (option_map (λ (z : FilePart). counts_for z.metadata)) there))
      ∙ are_counts x.metadata t

  module _ (none : over_counts f (image_of (choice_of files marks f) p (methods_of x p)) ≡ None) where
    limits : KeepsLimits (choice_of files marks f) p (methods_of x p)
    limits = keeps_limits f k p ms none

    -- ---- rows

    few : {A : Type 0} (t : Table) (xs : List A) → length xs ≡ table_length p t → length (select (is_kept (assemblies_of files) marks t f) xs) < 16384 → (n : ℕ) → below (is_kept (assemblies_of files) marks t f) n < 16384
    few t xs same small n =
        let h = below_all (is_kept (assemblies_of files) marks t f) xs (λ j le. kept_past (assemblies_of files) marks t f p at j (omega (arith, le, same))) n in
        omega (arith, h, small)

    few_types : (n : ℕ) → below (is_kept (assemblies_of files) marks table.TypeDef f) n < 16384
    few_types n =
        let same = length-map (select k.types p.types) (type_row_to k) in
        let lim = limits.limits.types in
        few table.TypeDef p.types refl (omega (arith, same, lim)) n

    few_refs : (n : ℕ) → below (is_kept (assemblies_of files) marks table.TypeRef f) n < 16384
    few_refs n =
        let same = length-map (select k.refs p.refs) (ref_to k) in
        let lim = limits.limits.refs in
        few table.TypeRef p.refs refl (omega (arith, same, lim)) n

    few_specs : (n : ℕ) → below (is_kept (assemblies_of files) marks table.TypeSpec f) n < 16384
    few_specs n =
        let same = length-map (select k.specs p.specs) (raw_to k) in
        let lim = limits.limits.specs in
        few table.TypeSpec p.specs refl (omega (arith, same, lim)) n

    few_fields : (n : ℕ) → below (is_kept (assemblies_of files) marks table.Field f) n < 16384
    few_fields n = few table.Field p.fields refl limits.fields n

    few_field_refs : (n : ℕ) → below (is_kept (assemblies_of files) marks table.FieldRef f) n < 16384
    few_field_refs n = few table.FieldRef p.field_refs refl limits.field_refs n

    few_method_refs : (n : ℕ) → below (is_kept (assemblies_of files) marks table.MethodRef f) n < 16384
    few_method_refs n = few table.MethodRef p.method_refs refl limits.method_refs n

    as_many : (n : ℕ) (xs : Methods) → length (numbered (chosen_method k) n xs) ≡ length xs
    as_many n [] = refl
    as_many n (y ∷ xs) = ap suc (as_many (suc n) xs)

    all_methods : length (numbered (chosen_method k) 0 (methods_of x p)) ≡ table_length p table.MethodDef
    all_methods =
        let zipped = length-zip (manners_of x) p.methods in
        let manners = length-map (rows_of x.metadata methods) (λ row. manner_in (body_of x row)) in
        let rows = long table.MethodDef in
        as_many 0 ms ∙ omega (arith, zipped, manners, rows)

    few_methods : (n : ℕ) → below (is_kept (assemblies_of files) marks table.MethodDef f) n < 16384
    few_methods n = few table.MethodDef (numbered (chosen_method k) 0 ms) all_methods limits.limits.methods n

    -- ---- literals

    short_pool : length (pool_onto (pool (strings_walk (chosen k p) (chosen_methods k ms))) []) ≤ 65535
    short_pool =
        let i : Image = laid (chosen k p) (chosen_methods k ms) in
        within_at 11 0 (counted i) _ (none_in f (first_over 0 (counted i)) none) refl

    within : (e : Entry) → offset (pools_of (parts_at files marks f x p)).strings e < 65536
    within e =
        let same = ap (λ walk. length (pool_onto (pool walk) [])) (strings_law (chosen k p) (chosen_methods k ms)) in
        let off = offset_within strings e in
        let short = short_pool in
        omega (arith, same, off, short)

    found_fits : (e : Entry) → option_map_or two_bytes (found (pools_of (parts_at files marks f x p)).strings e) 0 ≡ option_map_or uncut (found (pools_of (parts_at files marks f x p)).strings e) 0
    found_fits e = by (list_any (same_entry e) strings)
      where
        by : (b : Bool) → option_map_or two_bytes (if b then Some (offset (pools_of (parts_at files marks f x p)).strings e) else None) 0 ≡ option_map_or uncut (if b then Some (offset (pools_of (parts_at files marks f x p)).strings e) else None) 0
        by true = mod-eq_of_lt (within e)
        by false = refl

    literal_fits : (row : ℕ) → literal_number two_bytes keep x.metadata strings row ≡ literal_number uncut keep x.metadata strings row
    literal_fits row = by (user_string_at x.metadata.user_strings row)
      where
        by : (o : Option (List ℕ)) → option_map_or (λ text. option_map_or two_bytes (found strings (literal_of text)) 0) o 0 ≡ option_map_or (λ text. option_map_or uncut (found strings (literal_of text)) 0) o 0
        by None = refl
        by (Some text) = found_fits (literal_of text)

    -- ---- tokens

    small_reference : (b : Bool) (i j : ℕ) → 16384 + (if b then below (is_kept (assemblies_of files) marks table.FieldRef f) i else below (is_kept (assemblies_of files) marks table.MethodRef f) j) < 65536
    small_reference true i j = let h = few_field_refs i in omega (arith, h)
    small_reference false i j = let h = few_method_refs j in omega (arith, h)

    reference_fits : (n : ℕ) → reference_number two_bytes keep x.metadata n ≡ reference_number uncut keep x.metadata n
    reference_fits n = mod-eq_of_lt (small_reference (is_field_ref x.metadata (slice_index_or (rows_of x.metadata member_refs) n [])) _ _)

    at_fits : (row : ℕ) → reference_at two_bytes keep x.metadata row ≡ reference_at uncut keep x.metadata row
    at_fits zero = refl
    at_fits (suc n) = ap (λ (number : ℕ → ℕ). unwrap_or (slice_get (map number (range_with_len 0 (row_count x.metadata member_refs))) n) 0) (λ j m. reference_fits m j)

    small_word : (s : TypeToken) → type_word (token_to (choice_of_rows (λ t. is_kept (assemblies_of files) marks t f)) s) < 65536
    small_word (TypeDef n) = let h = few_types n in omega (arith, h)
    small_word (TypeRef n) = let h = few_refs n in omega (arith, h)
    small_word (TypeSpec n) = let h = few_specs n in omega (arith, h)

    small : (n : ℕ) → n < 16384 → n < 65536
    small n h = omega (arith, h)

    abbrev by_table : (ℕ → ℕ) → ℕ → ℕ → Bool → Bool → Bool → Bool → ℕ
    by_table cut t row a b c d =
        if a then literal_number cut keep x.metadata strings row
        else if b then reference_at cut keep x.metadata row
        else if c then field_number cut keep x.metadata row
        else if d then method_number cut keep x.metadata row
        else type_number cut keep x.metadata t row

    pub fits : (token : ℕ) → number_for two_bytes (λ t. is_kept (assemblies_of files) marks t f) x.metadata (pools_of (parts_at files marks f x p)).strings token ≡ number_for uncut (λ t. is_kept (assemblies_of files) marks t f) x.metadata (pools_of (parts_at files marks f x p)).strings token
    fits token = by (table_of token) (number_of token) (table_of token == literals) (table_of token == member_refs) (table_of token == fields) (table_of token == methods)
      where
        by : (t row : ℕ) (a b c d : Bool) → by_table two_bytes t row a b c d ≡ by_table uncut t row a b c d
        by t row true b c d = literal_fits row
        by t row false true c d = at_fits row
        by t row false false true d = mod-eq_of_lt (small _ (few_fields (from_zero (row_count x.metadata fields) row)))
        by t row false false false true = mod-eq_of_lt (small _ (few_methods (from_zero (row_count x.metadata methods) row)))
        by t row false false false false = mod-eq_of_lt (small_word (type_token x.metadata t row))
