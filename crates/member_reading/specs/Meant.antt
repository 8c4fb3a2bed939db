-- What the signatures of a world's files mean, each token replaced by the class that it names.
use Rattle.std.specs.Prelude.{ℕ, List, Option, Ok, slice_get}
use Rattle.plain_types.specs.declared.elem.Elem.{Elem}
use Rattle.file_tables.specs.File.{FilePart}
use Rattle.cil_sig.specs.declared.sig.SigType.{SigType}
use Rattle.cil_sig.specs.declared.sig.MethodSig.{MethodSig}
use Rattle.machine.specs.Throw.{on_some}
use Rattle.classes.specs.Classes as classes
use Rattle.assemblies.specs.Binding.{expanded, expanded_place, expanded_result, expanded_signature}
use Rattle.world_rows.specs.Signatures.{raw_element, raw_type, raw_place, raw_result, signature_from, field_signature, method_signature}
use Rattle.world_rows.specs.World.{size_of, rows_alone, assemblies_of}

-- enough scopes for each reference
abbrev pub scopes : List FilePart → ℕ
scopes files = size_of (rows_alone files)

abbrev pub element_meant : List FilePart → ℕ → Elem → ℕ → Option classes.SigType
element_meant files file elem token = on_some (slice_get files file) (λ f. expanded (scopes files) (assemblies_of files) file (raw_element f.metadata elem token))

abbrev pub type_meant : List FilePart → ℕ → SigType → Option classes.SigType
type_meant files file s = on_some (slice_get files file) (λ f. expanded (scopes files) (assemblies_of files) file (raw_type f.metadata s))

abbrev pub place_meant : List FilePart → ℕ → SigType → Option classes.SigPlace
place_meant files file s = on_some (slice_get files file) (λ f. expanded_place (scopes files) (assemblies_of files) file (raw_place f.metadata s))

abbrev pub result_meant : List FilePart → ℕ → SigType → Option (Option classes.SigType)
result_meant files file s = on_some (slice_get files file) (λ f. expanded_result (scopes files) (assemblies_of files) file (raw_result f.metadata s))

abbrev pub signature_meant : List FilePart → ℕ → MethodSig → Option classes.Signature
signature_meant files file s = on_some (slice_get files file) (λ f. expanded_signature (scopes files) (assemblies_of files) file (signature_from f.metadata (Ok s)))

-- of blobs
abbrev pub field_type_meant : List FilePart → ℕ → List ℕ → Option classes.SigType
field_type_meant files file blob = on_some (slice_get files file) (λ f. expanded (scopes files) (assemblies_of files) file (field_signature f.metadata blob))

abbrev pub method_signature_meant : List FilePart → ℕ → List ℕ → Option classes.Signature
method_signature_meant files file blob = on_some (slice_get files file) (λ f. expanded_signature (scopes files) (assemblies_of files) file (method_signature f.metadata blob))
