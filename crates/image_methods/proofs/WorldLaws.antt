-- The methods of a file as the table of classes and the file tell them are those that its parts are made of.
use Rattle.std.proofs.Common.{◌≡◌, ℕ, suc, ◌+◌, Bool, List, [], ◌∷◌, map, Option, Some, refl, sym, ap, ◌∙◌, zero-add, arith}
use Rattle.std.specs.Prelude.{slice_get, slice_index, unwrap_or}
use Rattle.std.specs.Option.{option_map}
use Rattle.file_tables.specs.Metadata.{MetadataPart}
use Rattle.file_tables.specs.File.{FilePart}
use Rattle.machine.specs.Program.{Body}
use Rattle.classes.specs.Classes.{OwnMethod}
use Rattle.kept_rows.specs.Select.{select}
use Rattle.assemblies.specs.Rows.{RawSignature, RawCode, MethodRow, Assembly}
use Rattle.assemblies.specs.Binding.{numbered, own_method}
use Rattle.assemblies.specs.Chosen.{signature_to, method_row_to}
use Rattle.image_form.specs.Form.{Manner}
use Rattle.image_form.specs.Whole.{Methods}
use Rattle.chosen_image.specs.Spells.{chosen_methods}
use Rattle.world_rows.specs.Tokens.{bytes_at}
use Rattle.world_rows.specs.Signatures.{method_signature}
use Rattle.world_rows.specs.Rows.{method_row}
use Rattle.world_rows.specs.World.{size_of, rows_alone, assemblies_of}
use Rattle.class_table.specs.declared.rows.MethodRow.{MethodRow as MethodColumns}
use Rattle.class_table.specs.declared.rows.FileRows.{FileRows}
use Rattle.class_table.specs.declared.rows.ClassTable.{ClassTable}
use Rattle.class_table.specs.Seen.{body_seen, method_seen}
use Rattle.class_table.specs.Whole.{methods_at, IsTable}
use Rattle.msspot_write.specs.Spelt.{method_parts}
use Rattle.msspot_write.specs.Parts as parts
use Rattle.row_numbers.specs.declared.table.Table.TheVariants as table
use Rattle.kept_marks.specs.Masks.{Masks, choice_of_rows}
use Rattle.converted.specs.Bodies.{body_of, manner_in, methods_of}
use Rattle.converted.specs.Choosing.{choice_of}
use Rattle.converted.specs.Images.{row_cut, parts_of, parts_cut}
use Rattle.kept_bodies.specs.Kept.{row_at, body_at, code_kept}
use Rattle.kept_bodies.proofs.TokenLaws.{signature_same}
use Rattle.kept_bodies.proofs.CodeLaws.{native, rows, methods_are, chosen_by, code_is, made, chosen_are}
use Rattle.kept_bodies.proofs.WalkLaws.{row_there}
use Rattle.image_methods.specs.Methods.{signature_at, method_made, methods_made, method_rows}

abbrev method_with : Manner → List ℕ → Bool → Bool → Bool → Bool → Body → RawSignature → Option RawCode → Manner × MethodRow
method_with k name a b c d body s code = (k, record { name = name; signature = s; is_static = a; is_virtual = b; is_newslot = c; is_abstract = d; body = body; code = code })

module _ (files : List FilePart) (f : ℕ) (x : FilePart) (p : Assembly) (at : slice_get files f ≡ Some x) (of : slice_get (assemblies_of files) f ≡ Some p) (kept : Masks) (marks : List Bool) where
  abbrev m : MetadataPart
  m = x.metadata

  abbrev this : ℕ → List ℕ → Manner × MethodRow
  this = made files f x p at of marks kept

  abbrev told : ℕ → MethodColumns → Manner × MethodRow
  told n c = method_made kept m c (signature_at m n) (body_at x n)

  abbrev row_made : ℕ → List ℕ → MethodRow
  row_made n row = method_row x (native files f x p at of) n row

  -- one method
  one : (n : ℕ) (c : MethodColumns) (row : List ℕ) → slice_get (rows files f x p at of) n ≡ Some row → row_at m n ≡ row → method_seen f n c ≡ own_method (size_of (rows_alone files)) (assemblies_of files) f n (row_made n row) → told n c ≡ this n row
  one n c row there is e =
      let y : MethodRow = row_made n row in
      let name : c.name.now ≡ y.name = ap (λ (o : OwnMethod). o.name) e in
      let static : c.is_static ≡ y.is_static = ap (λ (o : OwnMethod). o.is_static) e in
      let virtual : c.is_virtual ≡ y.is_virtual = ap (λ (o : OwnMethod). o.is_virtual) e in
      let newslot : c.is_newslot ≡ y.is_newslot = ap (λ (o : OwnMethod). o.is_newslot) e in
      let abstract : c.is_abstract ≡ y.is_abstract = ap (λ (o : OwnMethod). o.is_abstract) e in
      let body : body_seen c.body ≡ y.body = ap (λ (o : OwnMethod). o.body) e in
      let k = chosen_by files f x p at of marks kept in
      let signature : List ℕ → RawSignature = λ r. signature_to (choice_of_rows kept) (method_signature m (bytes_at m (slice_index r 4))) in
      let s : signature (row_at m n) ≡ (method_row_to k n y).signature = ap signature is ∙ sym (signature_same kept (choice_of files marks f).short (choice_of files marks f).long (method_signature m (bytes_at m (slice_index row 4)))) in
      let code : code_kept kept m (body_at x n) ≡ (method_row_to k n y).code = ap (λ r. code_kept kept m (body_of x r)) is ∙ sym (code_is files f x p at of marks kept n row there) in
      ap (λ r. method_with (manner_in (body_of x r)) c.name.now c.is_static c.is_virtual c.is_newslot c.is_abstract (body_seen c.body) (signature (row_at m n)) (code_kept kept m (body_at x n))) is
      ∙ ap (λ z. method_with (manner_in (body_of x row)) z c.is_static c.is_virtual c.is_newslot c.is_abstract (body_seen c.body) (signature (row_at m n)) (code_kept kept m (body_at x n))) name
      ∙ ap (λ z. method_with (manner_in (body_of x row)) y.name z c.is_virtual c.is_newslot c.is_abstract (body_seen c.body) (signature (row_at m n)) (code_kept kept m (body_at x n))) static
      ∙ ap (λ z. method_with (manner_in (body_of x row)) y.name y.is_static z c.is_newslot c.is_abstract (body_seen c.body) (signature (row_at m n)) (code_kept kept m (body_at x n))) virtual
      ∙ ap (λ z. method_with (manner_in (body_of x row)) y.name y.is_static y.is_virtual z c.is_abstract (body_seen c.body) (signature (row_at m n)) (code_kept kept m (body_at x n))) newslot
      ∙ ap (λ z. method_with (manner_in (body_of x row)) y.name y.is_static y.is_virtual y.is_newslot z (body_seen c.body) (signature (row_at m n)) (code_kept kept m (body_at x n))) abstract
      ∙ ap (λ z. method_with (manner_in (body_of x row)) y.name y.is_static y.is_virtual y.is_newslot y.is_abstract z (signature (row_at m n)) (code_kept kept m (body_at x n))) body
      ∙ ap (λ z. method_with (manner_in (body_of x row)) y.name y.is_static y.is_virtual y.is_newslot y.is_abstract y.body z (code_kept kept m (body_at x n))) s
      ∙ ap (λ z. method_with (manner_in (body_of x row)) y.name y.is_static y.is_virtual y.is_newslot y.is_abstract y.body (method_row_to k n y).signature z) code

  -- those from a number on
  all : (n : ℕ) (cs : List MethodColumns) (ys : List (List ℕ)) → ((i : ℕ) (row : List ℕ) → slice_get ys i ≡ Some row → slice_get (rows files f x p at of) (n + i) ≡ Some row) → numbered (method_seen f) n cs ≡ numbered (own_method (size_of (rows_alone files)) (assemblies_of files) f) n (numbered row_made n ys) → numbered told n cs ≡ numbered this n ys
  all n [] [] there e = refl
  all n [] (y ∷ ys) there e = absurd (cc e)
  all n (c ∷ cs) [] there e = absurd (cc e)
  all n (c ∷ cs) (y ∷ ys) there e =
      let head : method_seen f n c ≡ own_method (size_of (rows_alone files)) (assemblies_of files) f n (row_made n y) = cc e in
      let tail : numbered (method_seen f) (suc n) cs ≡ numbered (own_method (size_of (rows_alone files)) (assemblies_of files) f) (suc n) (numbered row_made (suc n) ys) = cc e in
      let same : n + 0 ≡ n = omega arith in
      let here : slice_get (rows files f x p at of) n ≡ Some y = sym (ap (slice_get (rows files f x p at of)) same) ∙ there 0 y refl in
      ap (λ z. z ∷ numbered told (suc n) cs) (one n c y here (row_there (rows files f x p at of) n y here) head)
      ∙ ap (λ zs. this n y ∷ zs) (all (suc n) cs ys (λ i row h. let next : suc n + i ≡ n + suc i = omega arith in ap (slice_get (rows files f x p at of)) next ∙ there (suc i) row h) tail)

  pub methods_made_are : (t : ClassTable) (rows_told : FileRows) → IsTable files t → slice_get t.files.items f ≡ Some rows_told → chosen_methods (chosen_by files f x p at of marks kept) (methods_of x p) ≡ methods_made kept x rows_told.methods.items
  methods_made_are t rows_told is there =
      let own = own_method (size_of (rows_alone files)) (assemblies_of files) f in
      let table_is : methods_at files f ≡ p.methods = ap (λ o. unwrap_or (option_map (λ (a : Assembly). a.methods) o) []) of in
      let seen : numbered (method_seen f) 0 rows_told.methods.items ≡ numbered own 0 (numbered row_made 0 (rows files f x p at of)) = (is.rows f rows_told there).methods.methods ∙ ap (numbered own 0) (table_is ∙ methods_are files f x p at of) in
      chosen_are files f x p at of marks kept
      ∙ sym (ap (select (kept table.MethodDef)) (all 0 rows_told.methods.items (rows files f x p at of) (λ i row h. ap (slice_get (rows files f x p at of)) (zero-add i) ∙ h) seen))

  pub methods_are_made : (t : ClassTable) (rows_told : FileRows) → IsTable files t → slice_get t.files.items f ≡ Some rows_told → parts.rows_of (parts_cut (parts_of (chosen_by files f x p at of marks kept) p (methods_of x p))) 7 ≡ method_rows kept x rows_told.methods.items
  methods_are_made t rows_told is there = ap (λ (ms : Methods). map row_cut (method_parts 0 ms)) (methods_made_are t rows_told is there)
