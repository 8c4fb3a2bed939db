-- What an accepted file tells by numbers is small in the image of its kept rows, and so all numbers of that have two bytes.
use Rattle.std.proofs.Common.{◌≡◌, ℕ, zero, suc, ◌≤◌, Bool, true, false, List, [], ◌∷◌, ◌++◌, map, length, Option, Some, None, refl, sym, ap, ◌∙◌, subst, arith}
use Rattle.std.specs.Prelude.{if◌then◌else◌, slice_get, slice_index, unwrap_or}
use Rattle.std.specs.List.{filter, flat_map, sum_by}
use Rattle.std.specs.Option.{option_map}
use Rattle.std.proofs.lemmas.List.{length-map}
use Rattle.std.proofs.lemmas.List.Sums.{sum_by-cons}
use Rattle.std.proofs.lemmas.Option.{slice_get-map}
use Rattle.cil_code.specs.Bodies.{BodyPart}
use Rattle.file_tables.specs.Metadata.{rows_of}
use Rattle.file_tables.specs.File.{FilePart}
use Rattle.machine.specs.Throw.{on_some}
use Rattle.kept_rows.specs.Select.{select}
use Rattle.assemblies.specs.Rows.{AssemblyRow, MethodRefRow, MethodRow, Assembly}
use Rattle.assemblies.specs.Chosen.{Choice, chosen}
use Rattle.assemblies.specs.Closed.{Each}
use Rattle.kept_closure.specs.Named.{InOption}
use Rattle.kept_closure.specs.Kept.{HasNamed}
use Rattle.image_form.specs.Form.{Manner, bytes_in}
use Rattle.image_form.specs.Whole.{Methods, offsets}
use Rattle.chosen_image.specs.Spells.{chosen_methods}
use Rattle.short_code.specs.Short.{to_short, short_end}
use Rattle.world_rows.specs.Tokens.{methods, assembly_refs, member_refs, is_method_ref, bytes_at}
use Rattle.world_rows.specs.Lines.{raw_code}
use Rattle.world_rows.specs.Rows.{assembly_ref, method_ref, method_row, code_of, version_at}
use Rattle.world_rows.specs.World.{assemblies_of}
use Rattle.verdict_laws.proofs.Rows.{native, from_zero}
use Rattle.rows_resolved.specs.Resolved.{IsAccepted}
use Rattle.rows_resolved.proofs.Accepted.{bodies}
use Rattle.msspot_write.specs.Parts.{pools_of}
use Rattle.row_numbers.specs.declared.table.Table.{Table}
use Rattle.row_numbers.specs.declared.table.Table.TheVariants as table
use Rattle.row_numbers.specs.declared.table.PerTable.{PerTable}
use Rattle.row_numbers.specs.Tables.{AreCounts, of_table, table_length}
use Rattle.code_shrink.specs.Shrunk.{pieces_of, shrunk_bytes}
use Rattle.converted.specs.Bodies.{body_of, code_in, codes_of, methods_of}
use Rattle.converted.specs.Choosing.{code_at, choice_of}
use Rattle.converted.specs.Images.{NumbersFit, codes_for_kept, parts_at, image_at}
use Rattle.converted.specs.Over.{kept_codes, over_counts}
use Rattle.converted.proofs.LimitLaws.{keeps_limits}
use Rattle.image_numbers.specs.Numbers.{InImage}
use Rattle.image_numbers.specs.Named.{AllNameKept, AreNumbersOf}
use Rattle.image_numbers.proofs.LiteralLaws.{code_is}
use Rattle.image_codes.specs.Bytes.{HasBytes}
use Rattle.image_codes.specs.Codes.{short_length, short_lengths}
use Rattle.fitting_parts.specs.Small.{IsSmall}
use Rattle.fitting_parts.specs.Kept.{ClauseLiesNear, CodeNumbersSmall, MethodNumbersSmall, FileNumbersSmall}
use Rattle.fitting_parts.proofs.RowLaws.{small_fits}
use Rattle.fitting_parts.proofs.KeptLaws.{has_small_numbers}
use Rattle.fitting_files.proofs.SignatureLaws.{parameters_small, body_locals_small}
use Rattle.fitting_files.proofs.HeaderLaws.{LieIn, stack_small, versions_small}
use Rattle.fitting_files.proofs.PlaceLaws.{clauses_near}
use Rattle.fitting_files.proofs.FewLaws.{file_is, are_there, same_methods, are_few}

-- ---- lists

pub made : {A B : Type 0} (P : B → Type 0) (f : A → B) → ((x : A) → P (f x)) → (xs : List A) → Each P (map f xs)
made P f h [] = tt
made P f h (x ∷ xs) = (h x, made P f h xs)

made_of : {A B : Type 0} (P : A → Type 0) (Q : B → Type 0) (f : A → B) → ((x : A) → P x → Q (f x)) → (xs : List A) → Each P xs → Each Q (map f xs)
made_of P Q f h [] each = tt
made_of P Q f h (x ∷ xs) each = (h x each.0, made_of P Q f h xs each.1)

joined : {A B : Type 0} (g : A → List B) (xs : List A) → flat_map (λ c. c) (map g xs) ≡ flat_map g xs
joined g [] = refl
joined g (x ∷ xs) = ap (λ ys. g x ++ ys) (joined g xs)

one_of_kept : {A : Type 0} (g : A → ℕ) (keep : ℕ → Bool) (xs : List A) (n : ℕ) (x : A) → slice_get xs n ≡ Some x → keep n ≡ true → g x ≤ sum_by g (select keep xs)
one_of_kept g keep [] n x at e = absurd (cc at)
one_of_kept g keep (y ∷ ys) zero x at e =
    let same : y ≡ x = cc at in
    let all = ap (λ (b : Bool). sum_by g (if b then y ∷ select (λ k. keep (suc k)) ys else select (λ k. keep (suc k)) ys)) e in
    let head = sum_by-cons g y (select (λ k. keep (suc k)) ys) in
    let here = ap g same in
    omega (arith, all, head, here)
one_of_kept {A} g keep (y ∷ ys) (suc n) x at e = go (keep 0) (one_of_kept g (λ k. keep (suc k)) ys n x at e)
  where
    go : (b : Bool) → g x ≤ sum_by g (select (λ k. keep (suc k)) ys) → g x ≤ sum_by g (if b then y ∷ select (λ k. keep (suc k)) ys else select (λ k. keep (suc k)) ys)
    go true h = let head = sum_by-cons g y (select (λ k. keep (suc k)) ys) in omega (arith, head, h)
    go false h = h

-- ---- the counts of assemblies

counts_in : Assembly → PerTable
counts_in p =
    record {
      assembly_refs = length p.assemblies;
      type_refs = length p.refs;
      field_refs = length p.field_refs;
      method_refs = length p.method_refs;
      types = length p.types;
      fields = length p.fields;
      methods = length p.methods;
      specs = length p.specs;
    }

are_in : (p : Assembly) (t : Table) → of_table (counts_in p) t ≡ table_length p t
unfolding counts_in
are_in p table.AssemblyRef = refl
are_in p table.TypeRef = refl
are_in p table.FieldRef = refl
are_in p table.MethodRef = refl
are_in p table.TypeDef = refl
are_in p table.Field = refl
are_in p table.MethodDef = refl
are_in p table.TypeSpec = refl

counted : (ps : List Assembly) → AreCounts ps (map counts_in ps)
counted ps =
    record {
      files = length-map ps counts_in;
      each = λ f p c t at here.
          let both : Some (counts_in p) ≡ Some c = sym (slice_get-map counts_in ps f ∙ ap (option_map counts_in) at) ∙ here in
          let same : counts_in p ≡ c = cc both in
          subst (λ (d : PerTable). of_table d t ≡ table_length p t) same (are_in p t);
    }

-- numbers of a file's image
pub image_of_file : List FilePart → List Bool → ℕ → FilePart → Assembly → InImage
image_of_file files marks f x p =
    record {
      kept = record { kept = record { counts = map counts_in (assemblies_of files); marks = marks }; file = f };
      metadata = x.metadata;
      strings = (pools_of (parts_at files marks f x p)).strings;
    }

pub are_numbers : (files : List FilePart) (marks : List Bool) (f : ℕ) (x : FilePart) (p : Assembly) → AreNumbersOf files marks f x p (image_of_file files marks f x p)
unfolding image_of_file
are_numbers files marks f x p = record { counted = counted (assemblies_of files); are_marks = refl; is_file = refl; is_metadata = refl; are_strings = refl }

-- ---- of one file

module _ (files : List FilePart) (marks : List Bool) (f : ℕ) (x : FilePart) (p : Assembly) (accepted : IsAccepted files) (there : slice_get files f ≡ Some x) (at : slice_get (assemblies_of files) f ≡ Some p) (lies : LieIn x.metadata) (has : HasBytes x) (names : AllNameKept (choice_of files marks f) x) (token : ℕ → ℕ) (laid : codes_for_kept (choice_of files marks f) p (methods_of x p) ≡ map (shrunk_bytes token) (kept_codes files marks f x)) (long : length (flat_map (λ c. c) (map (shrunk_bytes token) (kept_codes files marks f x))) ≡ short_lengths (kept_codes files marks f x)) (none : over_counts f (image_at files marks f (x, p)) ≡ None) where
  abbrev k : Choice
  k = choice_of files marks f

  abbrev ms : Methods
  ms = methods_of x p

  -- limit 13: the pool of all codes has two bytes' room
  all_short : short_lengths (kept_codes files marks f x) ≤ 65535
  all_short =
      let code = (keeps_limits f k p ms none).limits.code in
      let same : length (flat_map (λ c. c) (codes_for_kept (choice_of files marks f) p (methods_of x p))) ≡ short_lengths (kept_codes files marks f x) = ap (λ (cs : List (List ℕ)). length (flat_map (λ c. c) cs)) laid ∙ long in
      let together = ap (λ (ns : List ℕ). length ns) (joined (λ (y : Manner × MethodRow). bytes_in (offsets (chosen k p) (chosen_methods k ms)) y.0 y.1.code) (chosen_methods k ms)) in
      omega (arith, code, same, together)

  module _ (n : ℕ) (row : List ℕ) (b : BodyPart) (here : slice_get (rows_of x.metadata methods) n ≡ Some row) (kept : (choice_of files marks f).methods n ≡ true) (is : body_of x row ≡ Some b) where
    code_there : slice_get (codes_of x) n ≡ Some b.code
    code_there =
        slice_get-map (λ row. code_in (body_of x row)) (rows_of x.metadata methods) n
        ∙ ap (option_map (λ row. code_in (body_of x row))) here
        ∙ ap (λ o. Some (code_in o)) is

    one_short : IsSmall (short_end (pieces_of b.code))
    one_short =
        let one = one_of_kept short_length (choice_of files marks f).methods (codes_of x) n b.code code_there kept in
        let all = all_short in
        omega (arith, one, all)

    code_found : code_at files marks f n ≡ b.code
    code_found =
        ap (λ o. unwrap_or (on_some o (λ y. slice_get (codes_of y) n)) []) there
        ∙ ap (λ o. unwrap_or o []) code_there

    body_numbers : CodeNumbersSmall ((choice_of files marks f).short n) (raw_code x.metadata b)
    body_numbers =
        let named = names n row b here kept is in
        record {
          locals = body_locals_small x.metadata b.locals_token;
          max_stack = stack_small x row b has.bytes is;
          clauses = subst (λ (code : List ℕ). Each (ClauseLiesNear (λ at. to_short (pieces_of code) at)) (raw_code x.metadata b).clauses) (sym code_found) (clauses_near files f n x b (bodies files accepted f n x row b there here is) named.bytes named.sound.whole one_short);
        }

  row_numbers : (n : ℕ) (row : List ℕ) → slice_get (rows_of x.metadata methods) n ≡ Some row → k.methods n ≡ true → InOption (CodeNumbersSmall (k.short n)) (code_of x row)
  row_numbers n row here kept = subst (InOption (CodeNumbersSmall (k.short n))) (sym (code_is x row)) (by (body_of x row) refl)
    where
      by : (o : Option BodyPart) → body_of x row ≡ o → InOption (CodeNumbersSmall ((choice_of files marks f).short n)) (option_map (raw_code x.metadata) o)
      by None e = tt
      by (Some b) e = body_numbers n row b here kept e

  method_numbers : (n : ℕ) (m : MethodRow) → slice_get p.methods n ≡ Some m → k.methods n ≡ true → MethodNumbersSmall (k.short n) m
  method_numbers n m e kept =
      by (slice_get (rows_of x.metadata methods) n) refl
      (sym (from_zero (method_row x (native files f)) n (rows_of x.metadata methods)) ∙ (ap (λ (q : Assembly). slice_get q.methods n) (file_is files f x p there at) ∙ e))
    where
      by : (o : Option (List ℕ)) → slice_get (rows_of x.metadata methods) n ≡ o → option_map (method_row x (native files f) n) o ≡ Some m → MethodNumbersSmall ((choice_of files marks f).short n) m
      by None here h = absurd (cc h)
      by (Some row) here h =
          let same : method_row x (native files f) n row ≡ m = cc h in
          let small : MethodNumbersSmall ((choice_of files marks f).short n) (method_row x (native files f) n row) =
          record { parameters = parameters_small x.metadata (bytes_at x.metadata (slice_index row 4)); code = row_numbers n row here kept } in
          subst (MethodNumbersSmall ((choice_of files marks f).short n)) same small

  method_at : (n : ℕ) (y : Manner × MethodRow) → slice_get ms n ≡ Some y → slice_get p.methods n ≡ Some y.1
  method_at n y e = ap (λ ys. slice_get ys n) (sym (same_methods files marks f x p there at)) ∙ slice_get-map (λ (y : Manner × MethodRow). y.1) ms n ∙ ap (option_map (λ (y : Manner × MethodRow). y.1)) e

  pub file_numbers : FileNumbersSmall (choice_of files marks f) p (methods_of x p)
  file_numbers =
      let versions = versions_small x.metadata lies in
      let is = file_is files f x p there at in
      record {
        version = subst (λ (q : Assembly). Each IsSmall q.version) is versions.0;
        versions =
            subst (λ (q : Assembly). Each (λ (a : AssemblyRow). Each IsSmall a.version) q.assemblies) is
            (made_of (λ (row : List ℕ). Each IsSmall (version_at 0 row)) (λ (a : AssemblyRow). Each IsSmall a.version) (assembly_ref x.metadata) (λ row small. small) (rows_of x.metadata assembly_refs) versions.1);
        parameters =
            subst (λ (q : Assembly). Each (λ (r : MethodRefRow). IsSmall (length r.signature.parameters)) q.method_refs) is
            (made (λ (r : MethodRefRow). IsSmall (length r.signature.parameters)) (method_ref x.metadata) (λ row. parameters_small x.metadata (bytes_at x.metadata (slice_index row 2))) (filter (is_method_ref x.metadata) (rows_of x.metadata member_refs)));
        methods = λ n y row kept. method_numbers n y.1 (method_at n y row) kept;
      }

  pub numbers_fit : HasNamed (assemblies_of files) (choice_of files marks) → NumbersFit (parts_at files marks f x p)
  numbers_fit named =
      small_fits (chosen k p) (chosen_methods k ms)
      (has_small_numbers (assemblies_of files) (choice_of files marks) f p ms at named (same_methods files marks f x p there at) (are_there files marks f p at) (are_few files marks f x p there at none) file_numbers)
