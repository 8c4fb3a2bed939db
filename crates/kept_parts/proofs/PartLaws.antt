-- The parts that are made of a file's kept rows are the file's parts.
use Rattle.std.proofs.Common.{◌≡◌, ℕ, Bool, List, [], ◌∷◌, Some, sym, ap, ◌∙◌}
use Rattle.std.specs.Prelude.{slice_get}
use Rattle.file_tables.specs.File.{FilePart}
use Rattle.assemblies.specs.Rows.{Assembly}
use Rattle.image_form.specs.Whole.{Methods}
use Rattle.world_rows.specs.World.{assemblies_of}
use Rattle.class_table.specs.declared.rows.FileRows.{FileRows}
use Rattle.class_table.specs.declared.rows.ClassTable.{ClassTable}
use Rattle.class_table.specs.Whole.{IsTable}
use Rattle.msspot_write.specs.declared.parts.PartRow.{PartRow}
use Rattle.msspot_write.specs.declared.parts.Parts.{Parts}
use Rattle.msspot_write.specs.Parts.{rows_of}
use Rattle.row_numbers.specs.declared.table.Table.{Table}
use Rattle.row_numbers.specs.Tables.{AreCounts}
use Rattle.kept_marks.specs.Kept.{Marked, is_kept, marked}
use Rattle.kept_marks.specs.Masks.{Masks, masks_of, choice_with}
use Rattle.converted.specs.Bodies.{methods_of}
use Rattle.converted.specs.Choosing.{keeps, choice_of}
use Rattle.converted.specs.Images.{parts_of, parts_at, parts_cut}
use Rattle.image_rows.specs.Kept.{assembly_rows, reference_rows, field_reference_rows, method_reference_rows, spec_rows}
use Rattle.image_rows.specs.Types.{type_rows, interface_rows}
use Rattle.image_rows.specs.Fields.{field_rows, data_rows}
use Rattle.image_rows.specs.Header.{version_read, name_read, entry_read, entry_kept}
use Rattle.image_methods.specs.Methods.{method_rows, clause_rows}
use Rattle.kept_bodies.specs.Literals.{literal_rows}
use Rattle.kept_parts.specs.Made.{parts_made}

-- ---- how a part goes by the file, by the table of classes too, by the bodies, and by both

module _ {A : Type 0} (read : Parts → A) where
  abbrev ByFile : (Masks → ℕ → FilePart → A) → Type 0
  ByFile made = (files : List FilePart) (f : ℕ) (x : FilePart) (p : Assembly) → slice_get files f ≡ Some x → slice_get (assemblies_of files) f ≡ Some p → (kept : Masks) (short long : ℕ → ℕ → ℕ) (ms : Methods) → read (parts_cut (parts_of (choice_with kept short long) p ms)) ≡ made kept f x

  abbrev ByWorld : (Masks → FilePart → FileRows → A) → Type 0
  ByWorld made = (files : List FilePart) (f : ℕ) (x : FilePart) (p : Assembly) → slice_get files f ≡ Some x → slice_get (assemblies_of files) f ≡ Some p → (kept : Masks) (short long : ℕ → ℕ → ℕ) (ms : Methods) (t : ClassTable) (rows : FileRows) → IsTable files t → slice_get t.files.items f ≡ Some rows → read (parts_cut (parts_of (choice_with kept short long) p ms)) ≡ made kept x rows

  abbrev ByBodies : (Masks → FilePart → A) → Type 0
  ByBodies made = (files : List FilePart) (f : ℕ) (x : FilePart) (p : Assembly) → slice_get files f ≡ Some x → slice_get (assemblies_of files) f ≡ Some p → (kept : Masks) (marks : List Bool) → read (parts_cut (parts_of (choice_with kept (choice_of files marks f).short (choice_of files marks f).long) p (methods_of x p))) ≡ made kept x

  abbrev ByBoth : (Masks → FilePart → FileRows → A) → Type 0
  ByBoth made = (files : List FilePart) (f : ℕ) (x : FilePart) (p : Assembly) → slice_get files f ≡ Some x → slice_get (assemblies_of files) f ≡ Some p → (kept : Masks) (marks : List Bool) (t : ClassTable) (rows : FileRows) → IsTable files t → slice_get t.files.items f ≡ Some rows → read (parts_cut (parts_of (choice_with kept (choice_of files marks f).short (choice_of files marks f).long) p (methods_of x p))) ≡ made kept x rows

abbrev table : ℕ → Parts → List PartRow
table n p = rows_of p n

pub record AreLaws : Type 0 where
  pub marked : (ps : List Assembly) (k : Marked) (t : Table) (f n : ℕ) → AreCounts ps k.counts → marked k t f n ≡ is_kept ps k.marks t f n
  pub version : ByFile (λ (p : Parts). p.version) (λ kept f x. version_read x.metadata)
  pub name : ByFile (λ (p : Parts). p.name) (λ kept f x. name_read x.metadata)
  pub entry : ByFile (λ (p : Parts). p.entry) (λ kept f x. entry_kept kept (entry_read f x))
  pub assemblies : ByFile (table 0) (λ kept f x. assembly_rows kept x.metadata)
  pub references : ByFile (table 1) (λ kept f x. reference_rows kept x.metadata)
  pub field_references : ByFile (table 2) (λ kept f x. field_reference_rows kept x.metadata)
  pub method_references : ByFile (table 3) (λ kept f x. method_reference_rows kept x.metadata)
  pub types : ByWorld (table 4) (λ kept x rows. type_rows kept x.metadata rows.classes.items)
  pub interfaces : ByFile (table 5) (λ kept f x. interface_rows kept x.metadata)
  pub fields : ByWorld (table 6) (λ kept x rows. field_rows kept x.metadata rows.fields.items)
  pub methods : ByBoth (table 7) (λ kept x rows. method_rows kept x rows.methods.items)
  pub clauses : ByBodies (table 8) (λ kept x. clause_rows kept x)
  pub specs : ByFile (table 9) (λ kept f x. spec_rows kept x.metadata)
  pub datas : ByWorld (table 10) (λ kept x rows. data_rows kept x.metadata rows.fields.items)
  pub literals : ByBodies (λ (p : Parts). p.literals) (λ kept x. literal_rows kept x)

module _ (laws : AreLaws) where
  -- the masks that are read are those of the definition
  masks_are : (files : List FilePart) (k : Marked) (f : ℕ) → AreCounts (assemblies_of files) k.counts → masks_of (record { kept = k; file = f }) ≡ keeps files k.marks f
  masks_are files k f counts = λ i t n. laws.marked (assemblies_of files) k t f n counts i

  module _ (files : List FilePart) (f : ℕ) (x : FilePart) (p : Assembly) (at : slice_get files f ≡ Some x) (of : slice_get (assemblies_of files) f ≡ Some p) (t : ClassTable) (rows : FileRows) (is : IsTable files t) (there : slice_get t.files.items f ≡ Some rows) (marks : List Bool) where
    abbrev kept : Masks
    kept = keeps files marks f

    abbrev short : ℕ → ℕ → ℕ
    short = (choice_of files marks f).short

    abbrev long : ℕ → ℕ → ℕ
    long = (choice_of files marks f).long

    abbrev ms : Methods
    ms = methods_of x p

    parts_are : parts_cut (parts_at files marks f x p) ≡ parts_made kept x rows (entry_read f x)
    parts_are = λ i.
        record {
          version = laws.version files f x p at of kept short long ms i;
          name = laws.name files f x p at of kept short long ms i;
          entry = laws.entry files f x p at of kept short long ms i;
          tables =
              laws.assemblies files f x p at of kept short long ms i
              ∷ laws.references files f x p at of kept short long ms i
              ∷ laws.field_references files f x p at of kept short long ms i
              ∷ laws.method_references files f x p at of kept short long ms i
              ∷ laws.types files f x p at of kept short long ms t rows is there i
              ∷ laws.interfaces files f x p at of kept short long ms i
              ∷ laws.fields files f x p at of kept short long ms t rows is there i
              ∷ laws.methods files f x p at of kept marks t rows is there i
              ∷ laws.clauses files f x p at of kept marks i
              ∷ laws.specs files f x p at of kept short long ms i
              ∷ laws.datas files f x p at of kept short long ms t rows is there i
              ∷ [];
          literals = laws.literals files f x p at of kept marks i;
        }

  pub made_are : (files : List FilePart) (f : ℕ) (x : FilePart) (p : Assembly) → slice_get files f ≡ Some x → slice_get (assemblies_of files) f ≡ Some p → (t : ClassTable) (rows : FileRows) → IsTable files t → slice_get t.files.items f ≡ Some rows → (k : Marked) → AreCounts (assemblies_of files) k.counts → parts_made (masks_of (record { kept = k; file = f })) x rows (entry_read f x) ≡ parts_cut (parts_at files k.marks f x p)
  made_are files f x p at of t rows is there k counts =
      ap (λ (m : Masks). parts_made m x rows (entry_read f x)) (masks_are files k f counts)
      ∙ sym (parts_are files f x p at of t rows is there k.marks)
