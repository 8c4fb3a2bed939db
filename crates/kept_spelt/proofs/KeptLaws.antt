-- The kept rows of an accepted file have a spelling, as far as the bodies of its methods have one.
use Rattle.std.proofs.Common.{◌≡◌, ◌∙◌, ℕ, zero, suc, Bool, true, List, [], ◌∷◌, length, Option, Some, refl, sym, ap, subst, arith}
use Rattle.std.specs.Prelude.{not, is_some, slice_get, slice_index}
use Rattle.std.specs.Option.{option_map}
use Rattle.std.proofs.lemmas.Option.{slice_get-map}
use Rattle.file_tables.specs.Metadata.{MetadataPart, rows_of, row_count}
use Rattle.file_tables.specs.File.{FilePart}
use Rattle.machine.specs.Throw.{on_some}
use Rattle.class_rules.specs.Rules.{holds_some, value_well, Keeps}
use Rattle.assemblies.specs.Rows.{TypeRow, FieldRow, MethodRow, RawType, Assembly}
use Rattle.assemblies.specs.Binding.{id_at, numbered, expanded, class_with}
use Rattle.assemblies.specs.Chosen.{Choice}
use Rattle.assemblies.specs.Closed.{Each}
use Rattle.assemblies.proofs.Binds.{map_back}
use Rattle.kept_closure.specs.Kept.{is_literal, IsWithin, IsClosed}
use Rattle.image_form.specs.Form.{Manner, only_array}
use Rattle.chosen_image.specs.Spells.{OfKept, TypeRowSpells, FieldSpells, SpecSpells, MethodSpells, Spells}
use Rattle.world_rows.specs.Tokens.{type_defs, fields, methods, type_specs, bytes_at}
use Rattle.world_rows.specs.Signatures.{spec_signature}
use Rattle.world_rows.specs.Rows.{type_row, method_row}
use Rattle.world_rows.specs.Kinds.{kind_of}
use Rattle.world_rows.specs.World.{type_count, size_of, rows_alone, assemblies_of, ecma_sources}
use Rattle.verdict_laws.proofs.Rows.{native, from_zero, whole}
use Rattle.rows_resolved.specs.Resolved.{resolved_rows, IsAccepted}
use Rattle.rows_resolved.proofs.Accepted.{all}
use Rattle.converted.specs.Bodies.{methods_of}
use Rattle.converted.specs.Choosing.{choice_of}
use Rattle.fitting_files.proofs.FewLaws.{file_is, same_methods}
use Rattle.kept_spelt.specs.Rows.{RowsSpell, BodiesSpell}
use Rattle.kept_spelt.proofs.RowLaws.{rows_spell}
use Rattle.kept_spelt.proofs.RangeLaws.{fields_within, methods_within}
use Rattle.kept_spelt.proofs.KindLaws.{kind_fits, not_literal, spec_is_array}

each_get : {A : Type 0} (P : A → Type 0) (xs : List A) (n : ℕ) (x : A) → Each P xs → slice_get xs n ≡ Some x → P x
each_get P [] n x each e = absurd (cc e)
each_get P (y ∷ xs) zero x each e = let same : y ≡ x = cc e in subst P same each.0
each_get P (y ∷ xs) (suc n) x each e = each_get P xs n x each.1 e

of_kept : {A : Type 0} (P : A → Type 0) (keep : ℕ → Bool) (xs : List A) → Each P xs → OfKept keep xs P
of_kept P keep xs each n x at kept = each_get P xs n x each at

as_many : {A B : Type 0} (make : ℕ → A → B) (n : ℕ) (xs : List A) → length (numbered make n xs) ≡ length xs
as_many make n [] = refl
as_many make n (x ∷ xs) = ap suc (as_many make (suc n) xs)

module _ (files : List FilePart) (marks : List Bool) (accepted : IsAccepted files) (keeps : Keeps (type_count (rows_alone files)) (ecma_sources files).classes) (closed : IsClosed (size_of (rows_alone files)) (assemblies_of files) (choice_of files marks)) (f : ℕ) (x : FilePart) (p : Assembly) (there : slice_get files f ≡ Some x) (at : slice_get (assemblies_of files) f ≡ Some p) (bodies : BodiesSpell (choice_of files marks f) (methods_of x p)) where
  abbrev size : ℕ
  size = size_of (rows_alone files)

  abbrev ps : List Assembly
  ps = assemblies_of files

  abbrev keep : ℕ → Choice
  keep = choice_of files marks

  abbrev m : MetadataPart
  m = x.metadata

  is : whole files f x ≡ p
  is = file_is files f x p there at

  within : IsWithin keep (resolved_rows size ps)
  within = closed.within (resolved_rows size ps) (all files accepted)

  rows : RowsSpell p
  rows = rows_spell files f p at

  -- ---- types

  field_total : length p.fields ≡ row_count m fields
  field_total = sym (ap (λ (q : Assembly). length q.fields) is) ∙ as_many _ 0 (rows_of m fields)

  method_total : length p.methods ≡ row_count m methods
  method_total = sym (ap (λ (q : Assembly). length q.methods) is) ∙ as_many (method_row x (native files f)) 0 (rows_of m methods)

  type_total : length p.types ≡ row_count m type_defs
  type_total = sym (ap (λ (q : Assembly). length q.types) is) ∙ as_many _ 0 (rows_of m type_defs)

  type_spells : OfKept (keep f).types p.types (TypeRowSpells p)
  type_spells n t here kept =
      let row = map_back (type_row m (λ i. kind_of size (rows_alone files) (id_at f i)) n) (slice_get (rows_of m type_defs) n) t (sym (from_zero (type_row m (λ i. kind_of size (rows_alone files) (id_at f i))) n (rows_of m type_defs)) ∙ (ap (λ (q : Assembly). slice_get q.types n) is ∙ here)) in
      let names = each_get _ p.types n t rows.types here in
      let class : (ecma_sources files).classes.class (id_at f n) ≡ Some (class_with size ps f p t) =
      ap (λ (o : Option Assembly). on_some o (λ q. option_map (class_with size ps f q) (slice_get q.types n))) at ∙ ap (option_map (class_with size ps f p)) here in
      let well : value_well (ecma_sources files).classes (id_at f n) t.kind ≡ true = keeps.values (id_at f n) (class_with size ps f p t) class in
      let kind : t.kind ≡ kind_of size (rows_alone files) (id_at f n) = sym (ap (λ (z : TypeRow). z.kind) row.2) in
      let own_f = fields_within m (accepted.types f x there) n row.0 row.1 in
      let own_m = methods_within m (accepted.types f x there) n row.0 row.1 in
      let first_f = ap (λ (z : TypeRow). z.first_field) row.2 in
      let count_f = ap (λ (z : TypeRow). z.field_count) row.2 in
      let first_m = ap (λ (z : TypeRow). z.first_method) row.2 in
      let count_m = ap (λ (z : TypeRow). z.method_count) row.2 in
      record {
        namespace = names.namespace;
        name = names.name;
        kind = kind_fits size (rows_alone files) (id_at f n) (ecma_sources files).classes (id_at f n) t.kind kind well;
        own_fields = omega (arith, own_f, first_f, count_f, field_total);
        own_methods = omega (arith, own_m, first_m, count_m, method_total);
      }

  -- ---- members

  field_spells : OfKept (keep f).fields p.fields FieldSpells
  field_spells n y here kept =
      let names = each_get _ p.fields n y rows.fields here in
      let named = within.fields f n kept in
      let variable : not (is_literal y.kind) ≡ true =
      sym (ap (λ (o : Option Assembly). holds_some (on_some o (λ q. slice_get q.fields n)) (λ (z : FieldRow). not (is_literal z.kind))) at ∙ ap (λ o. holds_some o (λ (z : FieldRow). not (is_literal z.kind))) here) ∙ named in
      record { name = names.name; signature = names.signature; kind = not_literal y.kind variable }

  method_there : (n : ℕ) (z : Manner × MethodRow) → slice_get (methods_of x p) n ≡ Some z → slice_get p.methods n ≡ Some z.1
  method_there n z here =
      sym (ap (λ (ms : List MethodRow). slice_get ms n) (same_methods files marks f x p there at))
      ∙ slice_get-map (λ (z : Manner × MethodRow). z.1) (methods_of x p) n
      ∙ ap (option_map (λ (z : Manner × MethodRow). z.1)) here

  method_spells : (n : ℕ) (z : Manner × MethodRow) → slice_get (methods_of x p) n ≡ Some z → (keep f).methods n ≡ true → MethodSpells z.0 ((keep f).short n) z.1
  method_spells n z here kept =
      let names = each_get _ p.methods n z.1 rows.methods (method_there n z here) in
      record { name = names.name; signature = names.signature; body = bodies n z here kept }

  spec_spells : OfKept (keep f).specs p.specs SpecSpells
  spec_spells n s here kept =
      let row = map_back (λ row. spec_signature m (bytes_at m (slice_index row 0))) (slice_get (rows_of m type_specs) n) s (sym (slice_get-map (λ row. spec_signature m (bytes_at m (slice_index row 0))) (rows_of m type_specs) n) ∙ (ap (λ (q : Assembly). slice_get q.specs n) is ∙ here)) in
      let named = within.specs f n kept in
      let means : is_some (expanded size ps f s) ≡ true =
      sym (ap (λ (o : Option Assembly). is_some (on_some o (λ q. on_some (slice_get q.specs n) (expanded size ps f)))) at ∙ ap (λ o. is_some (on_some o (expanded size ps f))) here) ∙ named in
      let array = spec_is_array size ps f p at m type_total (bytes_at m (slice_index row.0 0)) (subst (λ (z : RawType). is_some (expanded size ps f z) ≡ true) (sym row.2) means) in
      record { signature = each_get _ p.specs n s rows.specs here; array = subst (λ (z : RawType). only_array z ≡ Some z) row.2 array }

  pub kept_spell : Spells (choice_of files marks f) p (methods_of x p)
  kept_spell =
      record {
        version = rows.version;
        name = rows.name;
        versions = of_kept _ (keep f).assemblies p.assemblies rows.versions;
        assemblies = of_kept _ (keep f).assemblies p.assemblies rows.assemblies;
        refs = of_kept _ (keep f).refs p.refs rows.refs;
        field_refs = of_kept _ (keep f).field_refs p.field_refs rows.field_refs;
        method_refs = of_kept _ (keep f).method_refs p.method_refs rows.method_refs;
        types = type_spells;
        fields = field_spells;
        specs = spec_spells;
        methods = method_spells;
        same = same_methods files marks f x p there at;
      }
