-- The rows of an image that is laid for rows are those rows.
use Rattle.std.proofs.Common.{◌≡◌, ℕ, List, [], ◌∷◌, map, Option, Some, refl, ap, ◌∙◌}
use Rattle.std.specs.Option.{option_map}
use Rattle.machine.specs.Throw.{on_some}
use Rattle.image_bytes.specs.Layout.{Image}
use Rattle.assemblies.specs.Rows.{AssemblyRow, Assembly}
use Rattle.image_form.specs.Form.{on_both, all_some, none_or, Held, name_at, spec_at, assembly_at, ref_at, field_ref_at, method_ref_at, type_at, field_at, interface_at, clause_at, method_at, Offsets, assembly_row, ref_row, field_ref_row, method_ref_row, interface_row, clause_row, spec_row, data_at}
use Rattle.image_form.specs.Fits.{NameHas, RefHas, FieldRefHas, MethodRefHas, SpecHas, ClauseHas, TokenHas}
use Rattle.image_form.specs.Whole.{table, bytes_at, texts_in, row_in, held, make_assembly, rows_held, nothing_held, with_datas, with_clauses, with_interfaces, rows_with, image_rows, interfaces_of, clauses_of, datas_of, Methods, Lies, Has}
use Rattle.image_form.proofs.RowLaws.{all_law, data_law, assembly_law, ref_law, field_ref_law, method_ref_law, spec_law, interface_law, clause_law, types_law, fields_law, methods_law}
use Rattle.assemblies.specs.Closed.{Each}

-- each of a list, by a law
pub each_of : {A : Type 0} (P Q : A → Type 0) → ((x : A) → P x → Q x) → (xs : List A) → Each P xs → Each Q xs
each_of P Q f [] h = tt
each_of P Q f (x ∷ xs) h = (f x h.0, each_of P Q f xs h.1)

-- a table that is spelt row by row
rows_law : {A : Type 0} (read : List ℕ → Option A) (spell : A → List ℕ) (P : A → Type 0) → ((x : A) → P x → read (spell x) ≡ Some x) → (rows : List (List ℕ)) (xs : List A) → rows ≡ map spell xs → Each P xs → all_some read rows ≡ Some xs
rows_law read spell P f rows xs e h = ap (all_some read) e ∙ all_law read spell xs (each_of P (λ x. read (spell x) ≡ Some x) f xs h)

module _ (i : Image) (o : Offsets) (p : Assembly) (ms : Methods) (strings signatures : List (List ℕ)) (l : Lies i o p ms strings signatures) where
  abbrev pub whole_held : Held
  whole_held = held i strings signatures (interfaces_of p) (clauses_of ms) (datas_of p)

  held_law : Has i whole_held o p ms → rows_held i strings signatures whole_held ≡ Some p
  held_law f =
      let h = held i strings signatures (interfaces_of p) (clauses_of ms) (datas_of p) in
      let name = ap (name_at h) l.name ∙ f.name in
      let entry = ap (none_or (row_in i 7)) l.entry ∙ f.entry in
      let assemblies = rows_law (assembly_at h) (assembly_row o) (λ (a : AssemblyRow). NameHas h o a.name) (assembly_law h o) (table i 0) p.assemblies l.assemblies f.assemblies in
      let refs = rows_law (ref_at h) (ref_row o) (RefHas h o) (ref_law h o) (table i 1) p.refs l.refs f.refs in
      let field_refs = rows_law (field_ref_at h) (field_ref_row o) (FieldRefHas h o) (field_ref_law h o) (table i 2) p.field_refs l.field_refs f.field_refs in
      let method_refs = rows_law (method_ref_at h) (method_ref_row o) (MethodRefHas h o) (method_ref_law h o) (table i 3) p.method_refs l.method_refs f.method_refs in
      let types = ap (all_some (type_at h)) l.types ∙ types_law h o [] p.types refl f.types in
      let fields = ap (all_some (field_at h)) l.fields ∙ fields_law h o [] p.fields refl f.datas_fit f.fields in
      let methods = ap (all_some (method_at h)) l.methods ∙ methods_law h o [] [] ms l.code refl f.code_fits f.methods ∙ ap Some f.same in
      let specs = rows_law (spec_at h) (spec_row o) (SpecHas h o) (spec_law h o) (table i 9) p.specs l.specs f.specs in
      (λ j. on_both (on_both (on_both (on_both (on_both (on_both (on_both (on_both (on_both (option_map (make_assembly i strings signatures) (name j)) (entry j)) (assemblies j)) (refs j)) (field_refs j)) (method_refs j)) (types j)) (fields j)) (methods j)) (specs j))
      ∙ ap (λ v. Some (record p { version = v })) l.version

  pub image_law : Has i whole_held o p ms → image_rows i ≡ Some p
  image_law f =
      let h = held i strings signatures (interfaces_of p) (clauses_of ms) (datas_of p) in
      let none = nothing_held i strings signatures in
      ap (λ x. on_some x (λ strings. on_some (texts_in (bytes_at i 1)) (rows_with i strings))) l.string_texts
      ∙ ap (λ x. on_some x (rows_with i strings)) l.signature_texts
      ∙ ap (λ x. on_some x (with_interfaces i strings signatures)) (rows_law (interface_at none) (interface_row o) (TokenHas h o) (interface_law h o) (table i 5) (interfaces_of p) l.interfaces f.interfaces)
      ∙ ap (λ x. on_some x (with_clauses i strings signatures (interfaces_of p))) (rows_law (clause_at none) (clause_row o) (ClauseHas h o) (clause_law h o) (table i 8) (clauses_of ms) l.clauses f.clauses)
      ∙ ap (λ x. on_some x (with_datas i strings signatures (interfaces_of p) (clauses_of ms))) (ap (all_some (data_at (bytes_at i 3))) l.data_table ∙ data_law [] (datas_of p) (bytes_at i 3) l.data_bytes)
      ∙ held_law f
