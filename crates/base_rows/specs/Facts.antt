-- Facts of the base library in a world with any other files behind it. Each computes.
use Rattle.std.specs.Prelude.{codes, ℕ, zero, suc, ◌++◌, ◌==◌, ◌+◌, Bool, true, false, ◌&&◌, ◌||◌, not, if◌then◌else◌, List, [], ◌∷◌, map, length, slice_get, is_some}
use Rattle.std.specs.List.{filter, find, list_all, range_with_len}
use Rattle.std.specs.Option.{option_map_or}
use Rattle.base_tables.specs.Shape.{Item}
use Rattle.base_tables.specs.declared.shape.Entry.{Entry}
use Rattle.base_tables.specs.declared.shape.Entry.TheVariants.{Method}
use Rattle.base_tables.specs.declared.shape.Work.{Work}
use Rattle.base_tables.specs.declared.shape.Work.TheVariants as work
use Rattle.file_tables.specs.File.{FilePart}
use Rattle.machine.specs.Data.{Id, elem_number}
use Rattle.machine.specs.Texts.{same_text}
use Rattle.machine.specs.Throw.{on_some}
use Rattle.machine.specs.Program.{Body, Code, Native, Missing, native_number}
use Rattle.classes.specs.Classes.{TypeKind, Reference, Builtin, Enumeration, OtherValue, Class, Classes}
use Rattle.assemblies.specs.Rows.{TypeRow, MethodRow, FieldRow, Assembly}
use Rattle.assemblies.specs.Binding.{id_at, numbered, expanded, expanded_signature, sources_of}
use Rattle.world_rows.specs.Kinds.{superclass_of, type_at}
use Rattle.classes.specs.Queries.{basic_name, known, knowns, elements, basic, array}
use Rattle.classes.specs.Code.{MethodCode, Sources}
use Rattle.classes.specs.Listed.{line_of}
use Rattle.world_rows.specs.World.{size_of, rows_alone, assemblies_of, assembly_with}
use Rattle.file_tables.specs.Metadata.{MetadataPart, row_count, is_row}
use Rattle.world_rows.specs.Tokens.{type_defs}
use Rattle.world_rows.specs.Rows.{alone}
use Rattle.base_rows.specs.Base.{library_file, native_file, is_type_entry}

abbrev pub base : List FilePart → List FilePart
base xs = library_file ∷ native_file ∷ xs

abbrev pub same_numbers : List ℕ → List ℕ → Bool
same_numbers xs ys = same_text xs ys

abbrev pub types_of : List Assembly → ℕ → List TypeRow
types_of ps n = option_map_or (λ (p : Assembly). p.types) (slice_get ps n) []

abbrev pub methods_of : List Assembly → ℕ → List MethodRow
methods_of ps n = option_map_or (λ (p : Assembly). p.methods) (slice_get ps n) []

abbrev pub fields_of : List Assembly → ℕ → List FieldRow
fields_of ps n = option_map_or (λ (p : Assembly). p.fields) (slice_get ps n) []

-- ---- superclasses

abbrev pub name_of : List Assembly → Id → List ℕ
name_of ps c = option_map_or (λ (t : TypeRow). t.name) (type_at ps c) []

abbrev pub superclass_name : List FilePart → ℕ → ℕ → List ℕ
superclass_name files f n =
    option_map_or (name_of (rows_alone files)) (superclass_of (size_of (rows_alone files)) (rows_alone files) (id_at f n)) []

abbrev pub superclass_names : List FilePart → ℕ → List (List ℕ)
superclass_names files f = map (superclass_name files f) (range_with_len 0 (length (types_of (rows_alone files) f)))

-- a type's key is its name; `none` is no key
abbrev pub asked_bases : List Item → List (List ℕ)
asked_bases items = map (λ i. if same_text i.base (codes "none") then [] else i.base) (filter (λ i. is_type_entry i.entry) items)

-- ---- kinds

abbrev pub kind_code : TypeKind → ℕ
kind_code Reference = 0
kind_code (Builtin e) = 1 + elem_number e
kind_code (Enumeration e) = 100
kind_code OtherValue = 200

abbrev pub kind_codes : List FilePart → ℕ → List ℕ
kind_codes files f = map (λ (t : TypeRow). kind_code t.kind) (types_of (assemblies_of files) f)

abbrev pub is_handle : List ℕ → Bool
is_handle name = same_text name (codes "RuntimeFieldHandle") || same_text name (codes "Void")

abbrev pub code_by_name : List ℕ → ℕ
code_by_name name =
    option_map_or (λ e. 1 + elem_number e) (find (λ e. option_map_or (same_text name) (basic_name e) false) elements)
    (if is_handle name then 200 else 0)

abbrev pub asked_kinds : List (List ℕ) → List ℕ
asked_kinds names = map code_by_name names

-- ---- bodies

abbrev pub body_code : Body → ℕ
body_code (Native x) = native_number x
body_code Code = 100
body_code Missing = 200

abbrev pub body_codes : List FilePart → ℕ → List ℕ
body_codes files f = map (λ (m : MethodRow). body_code m.body) (methods_of (assemblies_of files) f)

abbrev pub work_code : Work → ℕ → ℕ
work_code work.Native n = n
work_code work.Code n = 100
work_code work.Abstract n = 200

abbrev pub is_method_entry : Entry → Bool
is_method_entry Method = true
is_method_entry _ = false

abbrev pub asked_bodies : List Item → List ℕ
asked_bodies items = map (λ i. work_code i.body.work i.body.number) (filter (λ i. is_method_entry i.entry) items)

-- ---- signatures and code

abbrev pub all_expand : List FilePart → ℕ → Bool
all_expand files f =
    list_all (λ (m : MethodRow). is_some (expanded_signature (size_of (rows_alone files)) (rows_alone files) f m.signature)) (methods_of (rows_alone files) f)
    && list_all (λ (x : FieldRow). is_some (expanded (size_of (rows_alone files)) (rows_alone files) f x.signature)) (fields_of (rows_alone files) f)

abbrev pub is_code : Body → Bool
is_code Code = true
is_code _ = false

abbrev pub all_sound : List FilePart → ℕ → Bool
all_sound files f = list_all (λ (m : MethodRow). not (is_code m.body) || is_some m.code) (methods_of (assemblies_of files) f)

-- ---- the whole base, with at least eight steps for chains

abbrev pub steps : ℕ → ℕ
steps k = suc (suc (suc (suc (suc (suc (suc (suc k)))))))

abbrev pub whole : ℕ → List FilePart → List Assembly
whole k xs = numbered (assembly_with (steps k) (base xs) (rows_alone (base xs))) 0 (base xs)

abbrev pub sources : ℕ → List FilePart → Sources
sources k xs = sources_of (steps k) (whole k xs)

abbrev pub kind_codes_in : List Assembly → ℕ → List ℕ
kind_codes_in ps f = map (λ (t : TypeRow). kind_code t.kind) (types_of ps f)

abbrev pub body_codes_in : List Assembly → ℕ → List ℕ
body_codes_in ps f = map (λ (m : MethodRow). body_code m.body) (methods_of ps f)

abbrev pub superclass_in : Sources → ℕ → ℕ → List ℕ
superclass_in x f n =
    option_map_or (λ (k : Class). k.name) (on_some (on_some (x.classes.class (id_at f n)) (λ (k : Class). k.superclass)) x.classes.class) []

-- each line of the code of each method gives an instruction of the machine, so each operand names what its instruction takes
abbrev pub gives_code : Sources → List ℕ → MethodCode → Bool
gives_code x unused code = list_all (λ l. is_some (line_of x.classes code l)) code.lines && not (length code.lines == 0)

abbrev pub method_given : Sources → ℕ → ℕ → MethodRow → Bool
method_given x f n m = not (is_code m.body) || option_map_or (gives_code x []) (x.code (id_at f n)) false

abbrev pub all_true : List Bool → Bool
all_true [] = true
all_true (b ∷ bs) = b && all_true bs

abbrev pub all_given : ℕ → List FilePart → ℕ → Bool
all_given k xs f = all_true (numbered (method_given (sources k xs) f) 0 (methods_of (whole k xs) f))

-- the classes that the machine needs by name
abbrev pub has_needed : Classes → Bool
has_needed cs = list_all (λ k. is_some (known cs k)) knowns && (list_all (λ e. is_some (basic cs e)) elements && is_some (array cs))

-- the types of the two files
abbrev pub types_in : FilePart → FilePart → List Id
types_in a b = numbered (λ n (t : TypeRow). id_at 0 n) 0 (alone a).types ++ numbered (λ n (t : TypeRow). id_at 1 n) 0 (alone b).types

abbrev pub base_types : List Id
base_types = types_in library_file native_file

-- rule 12 of the rows of types up to one
abbrev pub stands_to : MetadataPart → ℕ → Bool
stands_to m zero = is_row m type_defs zero
stands_to m (suc n) = is_row m type_defs (suc n) && stands_to m n

abbrev pub types_stand : FilePart → Bool
types_stand f = stands_to f.metadata (row_count f.metadata type_defs)
