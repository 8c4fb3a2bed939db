-- Signatures of a file count few parameters and locals, and so those of few kept rows have whole bytes.
use Rattle.std.proofs.Common.{◌≡◌, ℕ, suc, Bool, List, [], ◌∷◌, length, Option, Some, None, sym, subst}
use Rattle.std.specs.Prelude.{slice_get, slice_index}
use Rattle.std.specs.List.{filter}
use Rattle.std.specs.Option.{option_map}
use Rattle.cil_code.specs.Bodies.{BodyPart}
use Rattle.file_tables.specs.Metadata.{rows_of}
use Rattle.file_tables.specs.File.{FilePart}
use Rattle.assemblies.specs.Rows.{MethodRefRow, Assembly}
use Rattle.assemblies.specs.Binding.{numbered}
use Rattle.assemblies.specs.Closed.{Each}
use Rattle.kept_closure.specs.Named.{InOption}
use Rattle.kept_closure.specs.Kept.{HasNamed}
use Rattle.world_rows.specs.Tokens.{methods, member_refs, is_method_ref, bytes_at}
use Rattle.world_rows.specs.Lines.{raw_code}
use Rattle.world_rows.specs.Rows.{method_ref, method_row, code_of}
use Rattle.world_rows.specs.World.{assemblies_of}
use Rattle.verdict_laws.proofs.Rows.{native}
use Rattle.image_bytes.specs.Layout.{counts_of}
use Rattle.image_numbers.proofs.LiteralLaws.{code_is}
use Rattle.msspot_write.specs.Parts.{first_over, image_of_parts}
use Rattle.converted.specs.Bodies.{body_of, methods_of}
use Rattle.converted.specs.Choosing.{choice_of}
use Rattle.converted.specs.Images.{parts_at}
use Rattle.fitting_parts.specs.Small.{IsSmall}
use Rattle.fitting_files.proofs.SignatureLaws.{parameters_small, body_locals_small}
use Rattle.fitting_files.proofs.FewLaws.{file_is, are_there, same_methods}
use Rattle.fitting_files.proofs.FileLaws.{made}
use Rattle.kept_image.specs.Kept.{SignaturesFit}
use Rattle.cut_numbers.proofs.ColumnLaws.{columns_fit}
use Rattle.cut_numbers.proofs.KeptLaws.{FewLocals, MethodCountsSmall, kept_signatures}
use Rattle.cut_numbers.proofs.CountLaws.{types_are_few}

made_from : {A B : Type 0} (P : B → Type 0) (make : ℕ → A → B) → ((n : ℕ) (x : A) → P (make n x)) → (n : ℕ) (xs : List A) → Each P (numbered make n xs)
made_from P make h n [] = tt
made_from P make h n (x ∷ xs) = (h n x, made_from P make h (suc n) xs)

module _ (files : List FilePart) (marks : List Bool) (f : ℕ) (x : FilePart) (p : Assembly) (there : slice_get files f ≡ Some x) (at : slice_get (assemblies_of files) f ≡ Some p) where
  few_locals : (row : List ℕ) → InOption FewLocals (code_of x row)
  few_locals row = subst (InOption FewLocals) (sym (code_is x row)) (by (body_of x row))
    where
      by : (o : Option BodyPart) → InOption FewLocals (option_map (raw_code x.metadata) o)
      by None = tt
      by (Some b) = body_locals_small x.metadata b.locals_token

  method_counts : Each MethodCountsSmall p.methods
  method_counts =
      subst (λ (q : Assembly). Each MethodCountsSmall q.methods) (file_is files f x p there at)
      (made_from MethodCountsSmall (method_row x (native files f)) (λ n row. record { parameters = parameters_small x.metadata (bytes_at x.metadata (slice_index row 4)); locals = few_locals row }) 0 (rows_of x.metadata methods))

  reference_counts : Each (λ (r : MethodRefRow). IsSmall (length r.signature.parameters)) p.method_refs
  reference_counts =
      subst (λ (q : Assembly). Each (λ (r : MethodRefRow). IsSmall (length r.signature.parameters)) q.method_refs) (file_is files f x p there at)
      (made (λ (r : MethodRefRow). IsSmall (length r.signature.parameters)) (method_ref x.metadata) (λ row. parameters_small x.metadata (bytes_at x.metadata (slice_index row 2))) (filter (is_method_ref x.metadata) (rows_of x.metadata member_refs)))

  pub signatures_fit : HasNamed (assemblies_of files) (choice_of files marks) → (codes : List (List ℕ)) → first_over 0 (counts_of (image_of_parts (parts_at files marks f x p) codes)) ≡ None → SignaturesFit (parts_at files marks f x p)
  signatures_fit named codes none =
      columns_fit _ _
      (kept_signatures (assemblies_of files) (choice_of files marks) f p (methods_of x p) at named (same_methods files marks f x p there at) (are_there files marks f p at)
      (types_are_few (choice_of files marks f) p (methods_of x p) codes none) reference_counts method_counts)
