-- Within the limits of counts few rows are kept, and each that is kept is one of its table.
use Rattle.std.proofs.Common.{◌≡◌, ℕ, suc, ◌+◌, ◌<◌, ◌≤◌, Bool, true, false, List, [], ◌∷◌, map, length, Option, Some, None, refl, sym, ap, ◌∙◌, arith}
use Rattle.std.specs.Prelude.{nat_lt, if◌then◌else◌, slice_get}
use Rattle.std.specs.List.{zip}
use Rattle.std.specs.Option.{option_map, option_map_or}
use Rattle.std.proofs.lemmas.Bool.{ltb-true, ltb-false}
use Rattle.std.proofs.lemmas.List.{length-map}
use Rattle.plain_types.specs.declared.fault.Limit.{Limit}
use Rattle.file_tables.specs.Metadata.{rows_of}
use Rattle.file_tables.specs.File.{FilePart}
use Rattle.machine.specs.Throw.{on_some}
use Rattle.kept_rows.specs.Select.{select, below}
use Rattle.assemblies.specs.Rows.{MethodRow, Assembly}
use Rattle.assemblies.specs.Binding.{numbered}
use Rattle.assemblies.specs.Closed.{Each}
use Rattle.assemblies.specs.Chosen.{Choice, type_row_to, ref_to, raw_to, chosen}
use Rattle.image_form.specs.Form.{Manner, Offsets, interface_row, clause_row}
use Rattle.image_form.specs.Whole.{Methods, interfaces_of, clauses_of, offsets, laid}
use Rattle.image_form.proofs.ChoiceLaws.{selected_count}
use Rattle.chosen_image.specs.Spells.{chosen_method, chosen_methods, KeepsLimits}
use Rattle.world_rows.specs.Tokens.{methods}
use Rattle.world_rows.specs.Rows.{method_row}
use Rattle.world_rows.specs.World.{assemblies_of}
use Rattle.verdict_laws.proofs.Rows.{native, whole, file_at}
use Rattle.msspot_write.specs.Parts.{most, first_over, counted}
use Rattle.row_numbers.specs.declared.table.Table.{Table}
use Rattle.row_numbers.specs.declared.table.Table.TheVariants as table
use Rattle.row_numbers.specs.Tables.{row_in, table_length}
use Rattle.kept_numbers.specs.Numbers.{number_of}
use Rattle.row_closure.specs.Closure.{holds}
use Rattle.kept_marks.specs.Kept.{is_kept}
use Rattle.converted.specs.Bodies.{body_of, manner_in, manners_of, methods_of}
use Rattle.converted.specs.Choosing.{choice_of}
use Rattle.converted.specs.Images.{image_at}
use Rattle.converted.specs.Over.{limit_in, over_counts}
use Rattle.converted.proofs.LimitLaws.{keeps_limits}
use Rattle.fitting_parts.specs.Small.{IsSmall}
use Rattle.fitting_parts.specs.Kept.{AreThere, AreFew}

none_in : (f : ℕ) (o : Option Limit) → option_map (λ (l : Limit). limit_in f l.number l.count) o ≡ None → o ≡ None
none_in f None h = refl
none_in f (Some l) h = absurd (cc h)

most_small : (n : ℕ) → most n ≤ 65535
most_small n = go (nat_lt n 11)
  where
    go : (b : Bool) → (if b then 16383 else 65535) ≤ 65535
    go true = omega arith
    go false = omega arith

all_small : (limit : ℕ) (ns : List ℕ) → first_over limit ns ≡ None → Each IsSmall ns
all_small limit [] e = tt
all_small limit (n ∷ ns) e = go (nat_lt (most limit) n) refl e (all_small (limit + 1) ns)
  where
    go : (b : Bool) → nat_lt (most limit) n ≡ b → (if b then Some (record { number = limit; count = n; assembly = 0 }) else first_over (limit + 1) ns) ≡ None → (first_over (limit + 1) ns ≡ None → Each IsSmall ns) → Each IsSmall (n ∷ ns)
    go true over h later = absurd (cc h)
    go false within h later = let top = most_small limit in let fits = ltb-false (most limit) n within in (omega (arith, fits, top), later h)

as_many : {A B : Type 0} (make : ℕ → A → B) (n : ℕ) (xs : List A) → length (numbered make n xs) ≡ length xs
as_many make n [] = refl
as_many make n (x ∷ xs) = ap suc (as_many make (suc n) xs)

paired : (ks : List Manner) (xs : List MethodRow) → length ks ≡ length xs → map (λ (x : Manner × MethodRow). x.1) (zip ks xs) ≡ xs
paired [] [] e = refl
paired [] (x ∷ xs) e = absurd (omega (arith, e))
paired (k ∷ ks) [] e = absurd (omega (arith, e))
paired (k ∷ ks) (x ∷ xs) e = ap (λ ys. x ∷ ys) (paired ks xs (omega (arith, e)))

-- the assembly of a file has its rows
pub file_is : (files : List FilePart) (f : ℕ) (x : FilePart) (p : Assembly) → slice_get files f ≡ Some x → slice_get (assemblies_of files) f ≡ Some p → whole files f x ≡ p
file_is files f x p there at = let same : Some (whole files f x) ≡ Some p = sym (file_at files f x there) ∙ at in cc same

-- ---- rows that are there

module _ (files : List FilePart) (marks : List Bool) (f : ℕ) (p : Assembly) (at : slice_get (assemblies_of files) f ≡ Some p) where
  row_there : (t : Table) (n : ℕ) → is_kept (assemblies_of files) marks t f n ≡ true → n < table_length p t
  row_there t n e =
      by (nat_lt n (table_length p t)) refl
      (sym (ap (λ o. option_map_or (λ i. holds marks i) (on_some o (λ q. if nat_lt n (table_length q t) then Some (number_of (assemblies_of files) (row_in t f n)) else None)) false) at) ∙ e)
    where
      by : (b : Bool) → nat_lt n (table_length p t) ≡ b → option_map_or (λ i. holds marks i) (if b then Some (number_of (assemblies_of files) (row_in t f n)) else None) false ≡ true → n < table_length p t
      by true lt h = ltb-true n (table_length p t) lt
      by false past h = absurd (cc h)

  pub are_there : AreThere (choice_of files marks f) p
  are_there =
      record {
        assemblies = row_there table.AssemblyRef;
        refs = row_there table.TypeRef;
        types = row_there table.TypeDef;
        fields = row_there table.Field;
        methods = row_there table.MethodDef;
        specs = row_there table.TypeSpec;
      }

module _ (files : List FilePart) (marks : List Bool) (f : ℕ) (x : FilePart) (p : Assembly) (there : slice_get files f ≡ Some x) (at : slice_get (assemblies_of files) f ≡ Some p) where
  abbrev k : Choice
  k = choice_of files marks f

  abbrev ms : Methods
  ms = methods_of x p

  -- ---- the methods of a file are those of its rows

  pub same_methods : map (λ (x : Manner × MethodRow). x.1) (methods_of x p) ≡ p.methods
  same_methods =
      let manners = length-map (rows_of x.metadata methods) (λ row. manner_in (body_of x row)) in
      let rows = as_many (method_row x (native files f)) 0 (rows_of x.metadata methods) in
      let same : length (whole files f x).methods ≡ length p.methods = ap (λ (q : Assembly). length q.methods) (file_is files f x p there at) in
      paired (manners_of x) p.methods (omega (arith, manners, rows, same))

  -- ---- few of them

  pub are_few : over_counts f (image_at files marks f (x, p)) ≡ None → AreFew (choice_of files marks f) p (methods_of x p)
  are_few none =
      let q : Assembly = chosen k p in
      let xs : Methods = chosen_methods k ms in
      let o : Offsets = offsets q xs in
      let keeps : KeepsLimits k p ms = keeps_limits f k p ms none in
      let within = all_small 0 (counted (laid q xs)) (none_in f (first_over 0 (counted (laid q xs))) none) in
      let refs = length-map (select k.refs p.refs) (ref_to k) in
      let types = length-map (select k.types p.types) (type_row_to k) in
      let specs = length-map (select k.specs p.specs) (raw_to k) in
      let chosen_rows = selected_count k.methods (numbered (chosen_method k) 0 ms) in
      let kept_rows = selected_count k.methods p.methods in
      let all = as_many (chosen_method k) 0 ms in
      let as_rows : length ms ≡ length p.methods = sym (length-map ms (λ (x : Manner × MethodRow). x.1)) ∙ ap (λ (rows : List MethodRow). length rows) same_methods in
      let count : length (select k.methods p.methods) ≡ length (chosen_methods k ms) = kept_rows ∙ sym (chosen_rows ∙ ap (below k.methods) (all ∙ as_rows)) in
      let interfaces = length-map (interfaces_of q) (interface_row o) in
      let clauses = length-map (clauses_of xs) (clause_row o) in
      let few_refs = keeps.limits.refs in
      let few_types = keeps.limits.types in
      let few_methods = keeps.limits.methods in
      let few_specs = keeps.limits.specs in
      let few_datas = keeps.limits.datas in
      let few_interfaces : length (map (interface_row o) (interfaces_of q)) < 65536 = within.1.1.1.1.1.0 in
      let few_clauses : length (map (clause_row o) (clauses_of xs)) < 65536 = within.1.1.1.1.1.1.1.1.0 in
      record {
        assemblies = keeps.limits.assemblies;
        refs = omega (arith, refs, few_refs);
        types = omega (arith, types, few_types);
        fields = keeps.fields;
        methods = omega (arith, count, few_methods);
        specs = omega (arith, specs, few_specs);
        interfaces = omega (arith, interfaces, few_interfaces);
        datas = omega (arith, few_datas);
        clauses = omega (arith, clauses, few_clauses);
      }
