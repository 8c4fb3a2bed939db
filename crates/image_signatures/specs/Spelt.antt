-- How the image of some rows of a file says the types and signatures of the file.
use Rattle.std.specs.Prelude.{ℕ, if◌then◌else◌, List, [], ◌∷◌, ◌++◌, map, length}
use Rattle.std.specs.List.{flat_map}
use Rattle.std.specs.Option.{option_map}
use Rattle.plain_types.specs.declared.elem.Elem.{Elem}
use Rattle.file_tables.specs.Metadata.{MetadataPart}
use Rattle.cil_sig.specs.declared.sig.SigType.{SigType}
use Rattle.cil_sig.specs.declared.sig.MethodSig.{MethodSig}
use Rattle.image_bytes.specs.Layout.{word_onto}
use Rattle.assemblies.specs.Chosen.{raw_to, place_to, signature_to}
use Rattle.world_rows.specs.Signatures.{raw_element, raw_type, raw_place, raw_result, faulty_type, field_signature, method_signature, spec_signature, locals_signature}
use Rattle.image_form.specs.Signatures.{raw_onto, place_onto, result_onto, signature_onto, locals_onto}
use Rattle.kept_marks.specs.Masks.{Masks, choice_of_rows}
use Rattle.converted.specs.Cut.{bytes_cut}

module _ (kept : Masks) (m : MetadataPart) where
  -- ---- of a type that was read

  abbrev pub element_spelt : Elem → ℕ → List ℕ
  element_spelt e token = bytes_cut (raw_onto (raw_to (choice_of_rows kept) (raw_element m e token)) [])

  abbrev pub type_spelt : SigType → List ℕ
  type_spelt s = bytes_cut (raw_onto (raw_to (choice_of_rows kept) (raw_type m s)) [])

  abbrev pub place_spelt : SigType → List ℕ
  place_spelt s = bytes_cut (place_onto (place_to (choice_of_rows kept) (raw_place m s)) [])

  abbrev pub result_spelt : SigType → List ℕ
  result_spelt s = bytes_cut (result_onto (option_map (raw_to (choice_of_rows kept)) (raw_result m s)) [])

  abbrev pub types_spelt : List SigType → List ℕ
  types_spelt ss = flat_map type_spelt ss

  abbrev pub places_spelt : List SigType → List ℕ
  places_spelt ss = flat_map place_spelt ss

  -- a type that names nothing
  abbrev pub none_spelt : List ℕ
  none_spelt = bytes_cut (raw_onto (raw_to (choice_of_rows kept) (faulty_type m)) [])

  -- ---- of a signature that was read, or had no form

  abbrev pub read_spelt : MethodSig → List ℕ
  read_spelt s = (if s.this then 32 else 0) ∷ (bytes_cut (word_onto (length s.params) []) ++ (result_spelt s.returns ++ places_spelt s.params))

  abbrev pub unread_spelt : List ℕ
  unread_spelt = 0 ∷ (bytes_cut (word_onto 0 []) ++ none_spelt)

  abbrev pub locals_read_spelt : List SigType → List ℕ
  locals_read_spelt ss = bytes_cut (word_onto (length ss) []) ++ types_spelt ss

  -- ---- of a blob (II.23.2)

  abbrev pub field_spelt : List ℕ → List ℕ
  field_spelt blob = bytes_cut (raw_onto (raw_to (choice_of_rows kept) (field_signature m blob)) [])

  abbrev pub spec_spelt : List ℕ → List ℕ
  spec_spelt blob = bytes_cut (raw_onto (raw_to (choice_of_rows kept) (spec_signature m blob)) [])

  abbrev pub method_spelt : List ℕ → List ℕ
  method_spelt blob = bytes_cut (signature_onto (signature_to (choice_of_rows kept) (method_signature m blob)) [])

  abbrev pub locals_spelt : List ℕ → List ℕ
  locals_spelt blob = bytes_cut (locals_onto (map (raw_to (choice_of_rows kept)) (locals_signature m blob)) [])
