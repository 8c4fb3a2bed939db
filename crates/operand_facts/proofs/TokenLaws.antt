-- What tokens of types name.
use Rattle.std.proofs.Common.{◌≡◌, ℕ, ◌+◌, Bool, true, false, List, map, Option, Some, None, Ok, Err, refl, sym, ap, ◌∙◌, subst, arith}
use Rattle.std.specs.Prelude.{slice_get, slice_index, if◌then◌else◌, ◌==◌}
use Rattle.std.specs.Option.{option_map}
use Rattle.std.proofs.lemmas.Bool.{ne_eqb}
use Rattle.std.proofs.lemmas.Option.{slice_get-map}
use Rattle.cil_rows.specs.declared.rows.TypeSpecRow.{TypeSpecRow}
use Rattle.cil_sig.specs.declared.sig.SigType.{SigType as Spelling}
use Rattle.cil_sig.specs.Reading.{whole_spec}
use Rattle.file_tables.specs.Metadata.{MetadataPart, rows_of, row_count}
use Rattle.file_tables.specs.File.{FilePart}
use Rattle.machine.specs.Throw.{on_some}
use Rattle.classes.specs.Classes.{ClassToken}
use Rattle.assemblies.specs.Rows.{Assembly, RawType, TypeToken, TypeDef, TypeRef, TypeSpec}
use Rattle.assemblies.specs.Binding.{expanded, operand_type, resolve}
use Rattle.assemblies.proofs.Numbered.{get_numbered}
use Rattle.world_rows.specs.Tokens.{bytes_at, from_zero, no_type, number_of, table_of, type_defs, type_named, type_refs, type_specs, type_token}
use Rattle.world_rows.specs.Signatures.{faulty_type, spec_signature, type_from}
use Rattle.world_rows.specs.World.{assemblies_of, assembly_with, rows_alone, size_of}
use Rattle.world_rows.proofs.Alone.{faulty_law}
use Rattle.type_names.specs.Resolved.{type_resolved}
use Rattle.member_reading.specs.Meant as reading
use Rattle.operand_facts.specs.Named.{spec_meant, spec_row, type_meant}

module _ (files : List FilePart) (file : ℕ) where
  abbrev k : ℕ
  k = reading.scopes files

  abbrev ps : List Assembly
  ps = assemblies_of files

  -- ---- blobs

  pub spec_formed : (blob : List ℕ) (s : Spelling) → whole_spec blob ≡ Ok s → spec_meant files file blob ≡ reading.type_meant files file s
  unfolding spec_signature
  spec_formed blob s e = ap (λ p. on_some (slice_get files file) (λ f. expanded k ps file (type_from f.metadata p))) e

  pub spec_faulty : (blob : List ℕ) (left : ℕ) → whole_spec blob ≡ Err left → spec_meant files file blob ≡ None
  unfolding spec_signature
  spec_faulty blob left e = ap (λ p. on_some (slice_get files file) (λ f. expanded k ps file (type_from f.metadata p))) e ∙ go (slice_get files file) refl
    where
      go : (o : Option FilePart) → slice_get files file ≡ o → on_some o (λ f. expanded k ps file (faulty_type f.metadata)) ≡ None
      go None there = refl
      go (Some f) there = faulty_law files k file f there

  -- ---- classes

  abbrev chosen : MetadataPart → ℕ → Bool → Bool → Bool → TypeToken
  chosen m row a b d =
      if a then TypeDef (from_zero (row_count m type_defs) row)
      else if b then TypeRef (from_zero (row_count m type_refs) row)
      else if d then TypeSpec (from_zero (row_count m type_specs) row)
      else no_type m

  no_spec : (m : MetadataPart) (row : ℕ) (a b d : Bool) → d ≡ false → operand_type k ps file (chosen m row a b d) ≡ option_map ClassToken (resolve k ps file (chosen m row a b d))
  no_spec m row true b d e = refl
  no_spec m row false true d e = refl
  no_spec m row false false false e = refl
  no_spec m row false false true e = absurd (cc e)

  class_token : (m : MetadataPart) (table row : ℕ) → (table ≡ type_specs → ⊥) → operand_type k ps file (type_token m table row) ≡ option_map ClassToken (resolve k ps file (type_token m table row))
  unfolding type_token
  class_token m table row h = no_spec m row (table == type_defs) (table == type_refs) (table == type_specs) (ne_eqb table type_specs h)

  pub class_named : (token : ℕ) → (table_of token ≡ type_specs → ⊥) → type_meant files file token ≡ option_map ClassToken (type_resolved files file token)
  class_named token h = go (slice_get files file)
    where
      go : (o : Option FilePart) → on_some o (λ f. operand_type k ps file (type_named f.metadata token)) ≡ option_map ClassToken (on_some o (λ f. resolve k ps file (type_named f.metadata token)))
      go None = refl
      go (Some f) = class_token f.metadata (table_of token) (number_of token) h

  -- ---- specifications

  from_none : {A B : Type 0} (make : ℕ → A → B) (n : ℕ) (o : Option A) → option_map (make (0 + n)) o ≡ option_map (make n) o
  from_none make n o = let same : 0 + n ≡ n = omega arith in ap (λ i. option_map (make i) o) same

  pub assembly_at : (f : FilePart) → slice_get files file ≡ Some f → slice_get (assemblies_of files) file ≡ Some (assembly_with (size_of (rows_alone files)) files (rows_alone files) file f)
  unfolding assemblies_of
  assembly_at f e =
      get_numbered (assembly_with (size_of (rows_alone files)) files (rows_alone files)) 0 file files
      ∙ from_none (assembly_with (size_of (rows_alone files)) files (rows_alone files)) file (slice_get files file)
      ∙ ap (option_map (assembly_with (size_of (rows_alone files)) files (rows_alone files) file)) e

  spec_token : (m : MetadataPart) (table row : ℕ) → table ≡ type_specs → type_token m table row ≡ TypeSpec (from_zero (row_count m type_specs) row)
  unfolding type_token
  spec_token m table row e = ap (λ t. chosen m row (t == type_defs) (t == type_refs) (t == type_specs)) e

  abbrev raw_of : MetadataPart → List ℕ → RawType
  raw_of m row = spec_signature m (bytes_at m (slice_index row 0))

  in_spec : (m : MetadataPart) (o : Option (List ℕ)) → on_some (option_map (raw_of m) o) (expanded k ps file) ≡ on_some o (λ row. expanded k ps file (raw_of m row))
  in_spec m None = refl
  in_spec m (Some row) = refl

  module _ (f : FilePart) (here : slice_get files file ≡ Some f) (token : ℕ) (table : table_of token ≡ type_specs) where
    abbrev n : ℕ
    n = from_zero (row_count f.metadata type_specs) (number_of token)

    at_row : type_meant files file token ≡ on_some (slice_get (rows_of f.metadata type_specs) n) (λ row. expanded k ps file (raw_of f.metadata row))
    at_row =
        ap (λ o. on_some o (λ (f : FilePart). operand_type k ps file (type_named f.metadata token))) here
        ∙ ap (operand_type k ps file) (spec_token f.metadata (table_of token) (number_of token) table)
        ∙ ap (λ o. on_some o (λ (p : Assembly). on_some (slice_get p.specs n) (expanded k ps file))) (assembly_at f here)
        ∙ ap (λ o. on_some o (expanded k ps file)) (slice_get-map (raw_of f.metadata) (rows_of f.metadata type_specs) n)
        ∙ in_spec f.metadata (slice_get (rows_of f.metadata type_specs) n)

    blob_there : (blob : List ℕ) → spec_meant files file blob ≡ expanded k ps file (spec_signature f.metadata blob)
    blob_there blob = ap (λ o. on_some o (λ (f : FilePart). expanded k ps file (spec_signature f.metadata blob))) here

    row_there : (o : Option (List ℕ)) → slice_get (rows_of f.metadata type_specs) n ≡ o → spec_row files file n ≡ o
    row_there o e = ap (λ x. on_some x (λ (f : FilePart). slice_get (rows_of f.metadata type_specs) n)) here ∙ e

    by_row : (r : Option TypeSpecRow) → r ≡ option_map (λ row. record { signature = slice_index row 0 }) (spec_row files file n) → type_meant files file token ≡ on_some r (λ r. spec_meant files file (bytes_at f.metadata r.signature))
    by_row r e = go (slice_get (rows_of f.metadata type_specs) n) refl
      where
        go : (o : Option (List ℕ)) → slice_get (rows_of f.metadata type_specs) n ≡ o → type_meant files file token ≡ on_some r (λ r. spec_meant files file (bytes_at f.metadata r.signature))
        go None at =
            at_row ∙ ap (λ o. on_some o (λ row. expanded k ps file (raw_of f.metadata row))) at
            ∙ sym (ap (λ (r : Option TypeSpecRow). on_some r (λ r. spec_meant files file (bytes_at f.metadata r.signature))) (e ∙ ap (option_map (λ row. record { signature = slice_index row 0 })) (row_there None at)))
        go (Some row) at =
            at_row ∙ ap (λ o. on_some o (λ row. expanded k ps file (raw_of f.metadata row))) at
            ∙ sym (blob_there (bytes_at f.metadata (slice_index row 0)))
            ∙ sym (ap (λ (r : Option TypeSpecRow). on_some r (λ r. spec_meant files file (bytes_at f.metadata r.signature))) (e ∙ ap (option_map (λ row. record { signature = slice_index row 0 })) (row_there (Some row) at)))

  at_number : (m : MetadataPart) → option_map (λ (p : FilePart). p.metadata) (slice_get files file) ≡ Some m → (token : ℕ) → table_of token ≡ type_specs → (r : Option TypeSpecRow) → r ≡ option_map (λ row. record { signature = slice_index row 0 }) (spec_row files file (from_zero (row_count m type_specs) (number_of token))) → type_meant files file token ≡ on_some r (λ r. spec_meant files file (bytes_at m r.signature))
  at_number m there token table r e = go (slice_get files file) refl there
    where
      go : (o : Option FilePart) → slice_get files file ≡ o → option_map (λ (p : FilePart). p.metadata) o ≡ Some m → type_meant files file token ≡ on_some r (λ r. spec_meant files file (bytes_at m r.signature))
      go None here t = absurd (cc t)
      go (Some f) here t =
          let same : f.metadata ≡ m = cc t in
          subst (λ (m : MetadataPart). r ≡ option_map (λ row. record { signature = slice_index row 0 }) (spec_row files file (from_zero (row_count m type_specs) (number_of token))) → type_meant files file token ≡ on_some r (λ r. spec_meant files file (bytes_at m r.signature))) same
          (λ e. by_row f here token table r e) e

  pub spec_named : (m : MetadataPart) → option_map (λ (p : FilePart). p.metadata) (slice_get files file) ≡ Some m → (token n : ℕ) → table_of token ≡ type_specs → n ≡ from_zero (row_count m type_specs) (number_of token) → (r : Option TypeSpecRow) → r ≡ option_map (λ row. record { signature = slice_index row 0 }) (spec_row files file n) → type_meant files file token ≡ on_some r (λ r. spec_meant files file (bytes_at m r.signature))
  spec_named m there token n table same r e = at_number m there token table r (subst (λ n. r ≡ option_map (λ row. record { signature = slice_index row 0 }) (spec_row files file n)) same e)
