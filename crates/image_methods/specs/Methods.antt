-- The rows of an image's methods and exception clauses, of the methods of a file that are kept (ECMA-335 II.22.26, II.25.4). Names,
-- flags and natives are told by the table of classes; signatures and bodies by the file.
use Rattle.std.specs.Prelude.{ℕ, List, map, slice_index, Option}
use Rattle.std.specs.List.{flat_map}
use Rattle.file_tables.specs.Metadata.{MetadataPart}
use Rattle.file_tables.specs.File.{FilePart}
use Rattle.cil_code.specs.declared.clause.Clause.{Clause}
use Rattle.cil_code.specs.Bodies.{BodyPart}
use Rattle.kept_rows.specs.Select.{select}
use Rattle.assemblies.specs.Binding.{numbered}
use Rattle.assemblies.specs.Rows.{MethodRow}
use Rattle.assemblies.specs.Chosen.{clause_to, signature_to}
use Rattle.image_form.specs.Form.{Manner, clauses_in}
use Rattle.world_rows.specs.Tokens.{bytes_at}
use Rattle.world_rows.specs.Signatures.{method_signature}
use Rattle.world_rows.specs.Lines.{raw_clause}
use Rattle.class_table.specs.declared.rows.MethodRow.{MethodRow as MethodColumns}
use Rattle.class_table.specs.Seen.{body_seen}
use Rattle.msspot_write.specs.declared.parts.PartRow.{PartRow}
use Rattle.msspot_write.specs.Spelt.{method_part, method_parts, clause_part}
use Rattle.row_numbers.specs.declared.table.Table.TheVariants as table
use Rattle.kept_marks.specs.Masks.{Masks, choice_of_rows}
use Rattle.converted.specs.Bodies.{body_of, manner_in}
use Rattle.converted.specs.Images.{row_cut}
use Rattle.kept_bodies.specs.Kept.{row_at, body_at, code_kept, kept_methods}

-- the blob of a method's signature, by its number from 0
abbrev pub signature_at : MetadataPart → ℕ → List ℕ
signature_at m n = bytes_at m (slice_index (row_at m n) 4)

-- what a method is in the image, with the first row of its clauses
abbrev pub part_made : ℕ → Manner × MethodRow → PartRow
part_made first x = row_cut (method_part first x.0 x.1)

module _ (kept : Masks) (m : MetadataPart) where
  -- ---- of one body

  abbrev pub clause_made : (ℕ → ℕ) → Clause → PartRow
  clause_made short c = row_cut (clause_part (clause_to (choice_of_rows kept) short (raw_clause m c)))

  abbrev pub clauses_made : Option BodyPart → List PartRow
  clauses_made b = map row_cut (map clause_part (clauses_in (code_kept kept m b)))

  -- ---- of one method, with the blob of its signature

  abbrev pub method_made : MethodColumns → List ℕ → Option BodyPart → Manner × MethodRow
  method_made c blob b = (
    manner_in b,
    record {
      name = c.name.now;
      signature = signature_to (choice_of_rows kept) (method_signature m blob);
      is_static = c.is_static;
      is_virtual = c.is_virtual;
      is_newslot = c.is_newslot;
      is_abstract = c.is_abstract;
      body = body_seen c.body;
      code = code_kept kept m b;
    },
  )

-- ---- of those that are kept

module _ (kept : Masks) (x : FilePart) where
  abbrev pub clause_rows : List PartRow
  clause_rows = flat_map (λ row. clauses_made kept x.metadata (body_of x row)) (kept_methods kept x)

  abbrev pub methods_made : List MethodColumns → List (Manner × MethodRow)
  methods_made cs = select (kept table.MethodDef) (numbered (λ n c. method_made kept x.metadata c (signature_at x.metadata n) (body_at x n)) 0 cs)

  abbrev pub method_rows : List MethodColumns → List PartRow
  method_rows cs = map row_cut (method_parts 0 (methods_made cs))
