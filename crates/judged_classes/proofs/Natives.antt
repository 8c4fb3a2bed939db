-- No constructor is native: an internal call is a native by its name, and none is named as a constructor.
use Rattle.std.proofs.Common.{◌≡◌, ℕ, Bool, true, false, List, Option, Some, None, refl, sym, ap, ◌∙◌, subst}
use Rattle.std.specs.Prelude.{codes, ◌==◌, not, if◌then◌else◌, slice_get, slice_index}
use Rattle.std.specs.List.{find, list_all}
use Rattle.std.specs.Option.{option_map}
use Rattle.std.proofs.lemmas.Bool.{and_parts, both_ways}
use Rattle.std.proofs.lemmas.Option.{slice_get-map}
use Rattle.file_tables.specs.Metadata.{rows_of}
use Rattle.file_tables.specs.File.{FilePart}
use Rattle.machine.specs.Data.{Id}
use Rattle.machine.specs.Program.{Code, Missing}
use Rattle.machine.specs.Texts.{same_text}
use Rattle.machine.specs.Throw.{on_some}
use Rattle.classes.specs.Classes.{Classes, OwnMethod}
use Rattle.classes.specs.Queries.{methods_of}
use Rattle.classes.specs.Listed.{is_constructor}
use Rattle.class_rules.specs.Rules.{is_native}
use Rattle.class_rules.proofs.Ways.{all_at}
use Rattle.class_rules.proofs.Slots.{found}
use Rattle.class_rules.proofs.Kept.{part_of}
use Rattle.assemblies.specs.Rows.{MethodRow, Assembly}
use Rattle.assemblies.specs.Binding.{id_at, method_owner}
use Rattle.assemblies.proofs.Binds.{on_some_back}
use Rattle.world_rows.specs.Tokens.{methods, text_at}
use Rattle.world_rows.specs.Rows as rows
use Rattle.world_rows.specs.Rows.{alone, is_internal}
use Rattle.world_rows.specs.Natives as natives
use Rattle.world_rows.specs.Natives.{NativeRow, native_at, native_body, body_of_native}
use Rattle.world_rows.specs.World.{size_of, rows_alone, ecma_sources}
use Rattle.verdict_laws.proofs.Rows.{native, MethodAt, method_at, from_zero}
use Rattle.world_rows.proofs.Library.{text_same}

-- the names of natives, and of constructors
no_constructor : NativeRow → Bool
no_constructor r = not (same_text (codes ".ctor") r.name)

none_named : list_all no_constructor natives.natives ≡ true
unfolding no_constructor
none_named = refl

module _ (files : List FilePart) where
  abbrev ps : List Assembly
  ps = rows_alone files

  abbrev size : ℕ
  size = size_of (rows_alone files)

  abbrev cs : Classes
  cs = (ecma_sources files).classes

  -- a native has the name of its row in the file
  native_named : (file n : ℕ) (x : FilePart) (row : List ℕ) (r : NativeRow) → slice_get files file ≡ Some x → slice_get (rows_of x.metadata methods) n ≡ Some row → native_at size ps (id_at file n) ≡ Some r → (j : ℕ) × (slice_get natives.natives j ≡ Some r) × (same_text (text_at x.metadata (slice_index row 3)) r.name ≡ true)
  native_named file n x row r is_file is_row h =
      let owner = method_owner ps (id_at file n) in
      let p = on_some_back (slice_get ps file) (λ (p : Assembly). on_some (slice_get p.methods n) (λ m. find (natives.is_native size ps file owner m) natives.natives)) r h in
      let m = on_some_back (slice_get p.0.methods n) (λ (m : MethodRow). find (natives.is_native size ps file owner m) natives.natives) r p.2 in
      let its : alone x ≡ p.0 = (let both : Some (alone x) ≡ Some p.0 = sym (slice_get-map alone files file ∙ ap (option_map alone) is_file) ∙ p.1 in cc both) in
      let there : slice_get (alone x).methods n ≡ Some (rows.method_row x (λ n. Missing) n row) = from_zero (rows.method_row x (λ n. Missing)) n (rows_of x.metadata methods) ∙ ap (option_map (rows.method_row x (λ n. Missing) n)) is_row in
      let mine : rows.method_row x (λ n. Missing) n row ≡ m.0 = (let both : Some (rows.method_row x (λ n. Missing) n row) ≡ Some m.0 = sym there ∙ (ap (λ (q : Assembly). slice_get q.methods n) its ∙ m.1) in cc both) in
      let t = found (natives.is_native size ps file owner m.0) natives.natives r m.2 in
      (t.0, t.1, ap (λ (z : MethodRow). same_text z.name r.name) mine ∙ (and_parts (same_text m.0.name r.name) _ t.2).0)

  internal_body : (file n : ℕ) (x : FilePart) (row : List ℕ) → slice_get files file ≡ Some x → slice_get (rows_of x.metadata methods) n ≡ Some row → same_text (text_at x.metadata (slice_index row 3)) (codes ".ctor") ≡ true → is_native (body_of_native size ps (id_at file n)) ≡ false
  unfolding body_of_native no_constructor
  internal_body file n x row is_file is_row constructs = by (native_at size ps (id_at file n)) refl
    where
      by : (o : Option NativeRow) → native_at size ps (id_at file n) ≡ o → is_native (native_body o) ≡ false
      by None h = refl
      by (Some r) h =
          let t = native_named file n x row r is_file is_row h in
          let name : text_at x.metadata (slice_index row 3) ≡ codes ".ctor" = text_same _ _ constructs in
          let same : same_text (codes ".ctor") r.name ≡ true = sym (ap (λ z. same_text z r.name) name) ∙ t.2 in
          absurd (both_ways (not (same_text (codes ".ctor") r.name)) (ap not same) (all_at no_constructor natives.natives t.0 r none_named t.1))

  own_body : (file n : ℕ) (x : FilePart) (row : List ℕ) → slice_get files file ≡ Some x → slice_get (rows_of x.metadata methods) n ≡ Some row → same_text (text_at x.metadata (slice_index row 3)) (codes ".ctor") ≡ true → is_native (rows.body_of (native files file) n row) ≡ false
  own_body file n x row is_file is_row constructs = by (is_internal row) (slice_index row 0 == 0)
    where
      by : (u v : Bool) → is_native (if u then native files file n else if v then Missing else Code) ≡ false
      by true v = internal_body file n x row is_file is_row constructs
      by false true = refl
      by false false = refl

  pub constructors : (c : Id) (i : ℕ) (m : OwnMethod) → slice_get (methods_of cs c) i ≡ Some m → is_constructor m ≡ true → is_native m.body ≡ false
  constructors c i m e constructs =
      let k = part_of (cs.class c) (λ z. z.methods) i m e in
      let a : MethodAt files c m = method_at files c k.0 i m k.1 k.2 in
      subst (λ (z : OwnMethod). is_native z.body ≡ false) a.is (own_body c.file a.number a.file a.row a.is_file a.is_row (ap is_constructor a.is ∙ constructs))
