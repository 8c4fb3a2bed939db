-- A method as the verdict has it, by the row that the table has of it.
use Rattle.std.proofs.Common.{◌≡◌, ℕ, true, List, [], map, length, Option, Some, None, refl, sym, ap, ◌∙◌, arith}
use Rattle.std.specs.Prelude.{slice_get, unwrap_or}
use Rattle.std.specs.List.{position}
use Rattle.std.specs.Option.{option_map}
use Rattle.std.proofs.lemmas.List.{length-map}
use Rattle.std.proofs.lemmas.Option.{slice_get-map}
use Rattle.file_tables.specs.File.{FilePart}
use Rattle.file_tables.specs.Metadata.{rows_of, row_count}
use Rattle.machine.specs.Data.{Id}
use Rattle.machine.specs.Program.{Method}
use Rattle.machine.specs.Throw.{on_some}
use Rattle.machine_typed.proofs.Heaps.{some_inv}
use Rattle.classes.specs.Classes.{Classes, OwnMethod, Signature}
use Rattle.classes.specs.Code.{MethodCode}
use Rattle.classes.specs.Listed.{method, method_with, no_code}
use Rattle.classes.specs.Queries.{method_at, or_else}
use Rattle.assemblies.specs.Rows.{Assembly, TypeRow}
use Rattle.assemblies.specs.Binding.{holds, id_at, own_method}
use Rattle.assemblies.specs.Binding as binding
use Rattle.assemblies.proofs.Back.{get_there, get_within}
use Rattle.assemblies.proofs.Belong.{some_map}
use Rattle.kept_rows.proofs.SelectLaws.{passes}
use Rattle.world_rows.specs.Kinds.{kind_of}
use Rattle.world_rows.specs.Rows.{type_row}
use Rattle.world_rows.specs.Tokens.{type_defs}
use Rattle.world_rows.specs.World.{assemblies_of, ecma_sources, rows_alone, size_of}
use Rattle.member_keys.specs.Seen.{signature_seen}
use Rattle.class_table.specs.declared.rows.ClassRow.{ClassRow}
use Rattle.class_table.specs.declared.rows.ClassTable.{ClassTable}
use Rattle.class_table.specs.declared.rows.FileRows.{FileRows}
use Rattle.class_table.specs.declared.rows.MethodRow.{MethodRow}
use Rattle.class_table.specs.Outlines.{Outline, outline_of, outline_seen}
use Rattle.class_table.specs.Seen.{classes_seen, method_seen}
use Rattle.class_table.specs.Whole.{IsTable}
use Rattle.class_table.proofs.TableLaws.{own_methods, table_law}
use Rattle.class_queries.specs.Found.{found_row}
use Rattle.class_targets.specs.Owned.{method_found}
use Rattle.class_targets.proofs.RowLaws.{listed_at, owner_is}
use Rattle.member_reading.proofs.DataLaws.{numbered_length}
use Rattle.verdict_rules.specs.Code.{method_here, unowned}
use Rattle.verdict_rules.specs.World.{World, method_row, no_type, world_of}
use Rattle.verdict_laws.proofs.Rows.{file_at, from_zero, whole}
use Rattle.method_facts.specs.Members.{owner_or_none}

module _ (files : List FilePart) (file row : ℕ) (x : FilePart) where
  abbrev w : World
  w = world_of files

  abbrev size : ℕ
  size = size_of (rows_alone files)

  abbrev ps : List Assembly
  ps = assemblies_of files

  abbrev cs : Classes
  cs = (ecma_sources files).classes

  abbrev id : Id
  id = id_at file row

  abbrev pub code_here : MethodCode
  code_here = unwrap_or ((ecma_sources files).code (id_at file row)) no_code

  -- what a method of the verdict is made of, whether a class has it or not
  pub record MadeOf (m : Method) : Type 0 where
    pub owner : Id
    pub own : OwnMethod
    pub signature : Signature
    pub is : method_with cs owner own signature code_here ≡ m

  pub made_of : (m : Method) → method_here w file x row ≡ Some m → MadeOf m
  made_of m e = by (method (ecma_sources files) id) refl e
    where
      by : (o : Option Method) → method (ecma_sources files) id ≡ o → or_else o (unowned w file x row) ≡ Some m → MadeOf m
      by (Some n) there h =
          let a = some_inv (cs.method_owner id) (λ owner. on_some (method_at cs id) (λ own. option_map (λ s. method_with cs owner own s code_here) own.signature)) n there in
          let b = some_inv (method_at cs id) (λ own. option_map (λ s. method_with cs a.0 own s code_here) own.signature) n a.2 in
          let c = some_map (λ s. method_with cs a.0 b.0 s code_here) b.0.signature n b.2 in
          let same : n ≡ m = cc h in
          record { owner = a.0; own = b.0; signature = c.0; is = c.2 ∙ same }
      by None there h =
          let b = some_inv (method_row w file row) (λ own. option_map (λ s. method_with cs (no_type file x) own s code_here) own.signature) m h in
          let c = some_map (λ s. method_with cs (no_type file x) b.0 s code_here) b.0.signature m b.2 in
          record { owner = no_type file x; own = b.0; signature = c.0; is = c.2 }

  module _ (t : ClassTable) (table : IsTable files t) (here : slice_get files file ≡ Some x) where
    abbrev p : Assembly
    p = whole files file x

    there : slice_get ps file ≡ Some p
    there = file_at files file x here

    listed : (f : FileRows) × (slice_get t.files.items file ≡ Some f)
    listed = get_there t.files.items file (let within = get_within files file x here in let count = table.count in omega (arith, within, count))

    f : FileRows
    f = listed.0

    f_is : slice_get t.files.items file ≡ Some f
    unfolding f
    f_is = listed.1

    -- ---- the row of the method

    row_found : method_found t id ≡ slice_get f.methods.items row
    row_found = ap (λ o. on_some o (λ (f : FileRows). slice_get f.methods.items row)) f_is

    own_is : option_map (method_seen file row) (slice_get f.methods.items row) ≡ option_map (own_method size ps file row) (slice_get p.methods row)
    own_is =
        sym (from_zero (method_seen file) row f.methods.items)
        ∙ ap (λ xs. slice_get xs row) (own_methods files t table file f p f_is there)
        ∙ from_zero (own_method size ps file) row p.methods

    row_is : method_row w file row ≡ option_map (method_seen file row) (slice_get f.methods.items row)
    row_is = ap (λ o. on_some o (λ (p : Assembly). option_map (own_method size ps file row) (slice_get p.methods row))) there ∙ sym own_is

    -- ---- its class

    outlines : map outline_seen f.classes.items ≡ map (outline_of size ps file) p.types
    outlines = (table.rows file f f_is).classes ∙ ap (λ o. unwrap_or (option_map (λ (q : Assembly). map (outline_of size ps file) q.types) o) []) there

    count_is : length f.classes.items ≡ row_count x.metadata type_defs
    count_is =
        sym (length-map f.classes.items outline_seen) ∙ ap length outlines ∙ length-map p.types (outline_of size ps file)
        ∙ numbered_length (type_row x.metadata (λ n. kind_of size (rows_alone files) (id_at file n))) 0 (rows_of x.metadata type_defs)

    behind : owner_or_none t file None ≡ no_type file x
    behind = ap (λ o. id_at file (unwrap_or (option_map (λ (f : FileRows). length f.classes.items) o) 0)) f_is ∙ ap (id_at file) count_is

    class_there : (owner : ℕ) (ty : TypeRow) → slice_get p.types owner ≡ Some ty → (k : ClassRow) × (slice_get f.classes.items owner ≡ Some k) × (outline_seen k ≡ outline_of size ps file ty)
    class_there owner ty e =
        some_map outline_seen (slice_get f.classes.items owner) (outline_of size ps file ty)
        (sym (slice_get-map outline_seen f.classes.items owner) ∙ ap (λ os. slice_get os owner) outlines ∙ slice_get-map (outline_of size ps file) p.types owner ∙ ap (option_map (outline_of size ps file)) e)

    module _ (r : MethodRow) (found : method_found t id ≡ Some r) where
      at_row : slice_get f.methods.items row ≡ Some r
      at_row = sym row_found ∙ found

      pub seen_is : Some (method_seen file row r) ≡ option_map (own_method size ps file row) (slice_get p.methods row)
      seen_is = sym (ap (option_map (method_seen file row)) at_row) ∙ own_is

      row_seen : method_row w file row ≡ Some (method_seen file row r)
      row_seen = row_is ∙ ap (option_map (method_seen file row)) at_row

      module _ (owner : ℕ) (has : r.owner ≡ Some owner) where
        owned : binding.method_owner ps id ≡ Some (id_at file owner)
        owned =
            sym ((table.rows file f f_is).methods.owners row)
            ∙ ap (λ o. on_some o (λ (x : MethodRow). option_map (id_at file) x.owner)) at_row
            ∙ ap (option_map (id_at file)) has

        in_type : (ty : TypeRow) × (slice_get p.types owner ≡ Some ty) × (holds ty.first_method ty.method_count row ≡ true)
        in_type =
            let a = some_inv (slice_get ps file) (λ (q : Assembly). on_some (slice_get q.methods row) (λ y. option_map (id_at file) (position (λ (ty : TypeRow). holds ty.first_method ty.method_count row) q.types))) (id_at file owner) owned in
            let b = some_inv (slice_get a.0.methods row) (λ y. option_map (id_at file) (position (λ (ty : TypeRow). holds ty.first_method ty.method_count row) a.0.types)) (id_at file owner) a.2 in
            let c = some_map (id_at file) (position (λ (ty : TypeRow). holds ty.first_method ty.method_count row) a.0.types) (id_at file owner) b.2 in
            let number : c.0 ≡ owner = ap (λ (i : Id). i.row) c.2 in
            let both : Some p ≡ Some a.0 = sym there ∙ a.1 in
            let same : p ≡ a.0 = cc both in
            passes (λ (ty : TypeRow). holds ty.first_method ty.method_count row) p.types owner (ap (λ (q : Assembly). position (λ (ty : TypeRow). holds ty.first_method ty.method_count row) q.types) same ∙ c.1 ∙ ap Some number)

        at_class : method_at (classes_seen t) id ≡ Some (method_seen file row r)
        at_class =
            let k = class_there owner in_type.0 in_type.1 in
            let at : found_row t (id_at file owner) ≡ Some k.0 = ap (λ o. on_some o (λ (f : FileRows). slice_get f.classes.items owner)) f_is ∙ k.1 in
            let inside : holds k.0.first_method k.0.method_count row ≡ true = ap (λ (o : Outline). holds o.first_method o.method_count row) k.2 ∙ in_type.2 in
            listed_at t id r found owner has k.0 at inside

    -- ---- the method

    abbrev pub with_owner : MethodRow → Id → Option Signature → Option Method
    with_owner r c s = option_map (λ s. method_with cs c (method_seen file row r) s code_here) s

    -- one that no class has takes a `this` of no class
    abbrev pub made : MethodRow → Option Method
    made r = with_owner r (owner_or_none t file r.owner) (option_map signature_seen r.signature)

    same_classes : classes_seen t ≡ cs
    same_classes = table_law files t table

    no_row : method_found t id ≡ None → method_here w file x row ≡ None
    no_row gone =
        ap (λ o. or_else o (unowned w file x row)) (ap (λ o. on_some o (λ owner. on_some (method_at cs id) (λ own. option_map (λ s. method_with cs owner own s code_here) own.signature))) no_owner)
        ∙ ap (λ o. on_some o (λ own. option_map (λ s. method_with cs (no_type file x) own s code_here) own.signature)) (row_is ∙ ap (option_map (method_seen file row)) (sym row_found ∙ gone))
      where
        no_owner : cs.method_owner id ≡ None
        no_owner =
            ap (λ (c : Classes). c.method_owner id) (sym same_classes)
            ∙ ap (λ o. on_some o (λ (f : FileRows). on_some (slice_get f.methods.items row) (λ (x : MethodRow). option_map (id_at file) x.owner))) f_is
            ∙ ap (λ o. on_some o (λ (x : MethodRow). option_map (id_at file) x.owner)) (sym row_found ∙ gone)

    or_itself : (r : MethodRow) (c : Id) (s : Option Signature) → or_else (with_owner r c s) (with_owner r (no_type file x) s) ≡ with_owner r c s
    or_itself r c None = refl
    or_itself r c (Some s) = refl

    some_row : (r : MethodRow) → method_found t id ≡ Some r → method_here w file x row ≡ made r
    some_row r found = by r.owner refl
      where
        none_has : unowned w file x row ≡ with_owner r (no_type file x) (option_map signature_seen r.signature)
        none_has = ap (λ o. on_some o (λ own. option_map (λ s. method_with cs (no_type file x) own s code_here) own.signature)) (row_seen r found)

        owned_by : cs.method_owner id ≡ option_map (id_at file) r.owner
        owned_by = ap (λ (c : Classes). c.method_owner id) (sym same_classes) ∙ owner_is t id r found

        mine : (owner : ℕ) → r.owner ≡ Some owner → method (ecma_sources files) id ≡ with_owner r (id_at file owner) (option_map signature_seen r.signature)
        mine owner has =
            ap (λ o. on_some o (λ owner. on_some (method_at cs id) (λ own. option_map (λ s. method_with cs owner own s code_here) own.signature))) (owned_by ∙ ap (option_map (id_at file)) has)
            ∙ ap (λ o. on_some o (λ own. option_map (λ s. method_with cs (id_at file owner) own s code_here) own.signature)) (ap (λ (c : Classes). method_at c id) (sym same_classes) ∙ at_class r found owner has)

        by : (o : Option ℕ) → r.owner ≡ o → method_here w file x row ≡ with_owner r (owner_or_none t file r.owner) (option_map signature_seen r.signature)
        by None has =
            ap (λ o. or_else (on_some o (λ owner. on_some (method_at cs id) (λ own. option_map (λ s. method_with cs owner own s code_here) own.signature))) (unowned w file x row)) (owned_by ∙ ap (option_map (id_at file)) has)
            ∙ none_has
            ∙ ap (λ c. with_owner r c (option_map signature_seen r.signature)) (sym behind ∙ ap (owner_or_none t file) (sym has))
        by (Some owner) has =
            ap (λ o. or_else o (unowned w file x row)) (mine owner has)
            ∙ ap (or_else (with_owner r (id_at file owner) (option_map signature_seen r.signature))) none_has
            ∙ or_itself r (id_at file owner) (option_map signature_seen r.signature)
            ∙ ap (λ o. with_owner r (owner_or_none t file o) (option_map signature_seen r.signature)) (sym has)

    pub here_by : (o : Option MethodRow) → method_found t id ≡ o → method_here w file x row ≡ on_some o made
    here_by None found = no_row found
    here_by (Some r) found = some_row r found
