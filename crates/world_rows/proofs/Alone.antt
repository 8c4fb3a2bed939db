-- Names mean the same among the rows of each file alone and among the whole rows, so what is told by the first holds of the second.
use Rattle.std.proofs.Common.{◌≡◌, ℕ, zero, suc, ◌+◌, Bool, false, List, [], ◌∷◌, map, Option, Some, None, refl, sym, ap, ◌∙◌, arith, cond}
use Rattle.std.specs.Prelude.{slice_get, if◌then◌else◌}
use Rattle.std.specs.List.{position}
use Rattle.std.specs.Option.{option_map}
use Rattle.std.proofs.lemmas.Option.{slice_get-map}
use Rattle.file_tables.specs.File.{FilePart}
use Rattle.file_tables.specs.Metadata.{MetadataPart, rows_of, row_count}
use Rattle.machine.specs.Data.{Id}
use Rattle.machine.specs.Throw.{on_some}
use Rattle.classes.specs.Classes.{TypeKind, Reference, ClassToken}
use Rattle.kept_rows.proofs.SelectLaws.{position_step}
use Rattle.assemblies.specs.Rows.{TypeToken, TypeDef, TypeRef, TypeSpec, Scope, OfAssembly, Inside, Nowhere, AssemblyRow, TypeRefRow, TypeRow, Assembly}
use Rattle.assemblies.specs.Binding.{first_number, id_at, numbered, same_assembly, assembly_of, is_type, type_in, in_scope, resolve_ref, resolve, both_some, expanded, expanded_signature}
use Rattle.assemblies.proofs.Numbered.{get_numbered}
use Rattle.assemblies.proofs.Back.{get_past}
use Rattle.world_rows.specs.Signatures.{faulty_type, faulty_signature}
use Rattle.world_rows.specs.Tokens.{type_defs, type_refs, assembly_refs, no_type}
use Rattle.world_rows.specs.Rows.{type_row, type_ref, assembly_ref, alone}
use Rattle.world_rows.specs.World.{size_of, assembly_with, rows_alone, assemblies_of}

-- tests that can't tell two lists of rows apart
pub same_position : {A B : Type 0} (test : B → Bool) (make make' : ℕ → A → B) → ((n : ℕ) (x : A) → test (make n x) ≡ test (make' n x)) → (n : ℕ) (xs : List A) → position test (numbered make n xs) ≡ position test (numbered make' n xs)
same_position test make make' same n [] = refl
same_position test make make' same n (x ∷ xs) =
    position_step test (make n x) (numbered make (suc n) xs)
    ∙ ap (λ b. cond b (Some 0) (option_map suc (position test (numbered make (suc n) xs)))) (same n x)
    ∙ ap (λ o. cond (test (make' n x)) (Some 0) (option_map suc o)) (same_position test make make' same (suc n) xs)
    ∙ sym (position_step test (make' n x) (numbered make' (suc n) xs))

pub same_number : (test : Assembly → Bool) (make : ℕ → FilePart → Assembly) (make' : FilePart → Assembly) → ((n : ℕ) (x : FilePart) → test (make n x) ≡ test (make' x)) → (n : ℕ) (xs : List FilePart) → first_number test (numbered make n xs) ≡ first_number test (map make' xs)
same_number test make make' same n [] = refl
same_number test make make' same n (x ∷ xs) =
    ap (λ b. if b then Some 0 else option_map suc (first_number test (numbered make (suc n) xs))) (same n x)
    ∙ ap (λ o. if test (make' x) then Some 0 else option_map suc o) (same_number test make make' same (suc n) xs)

module _ (files : List FilePart) (k : ℕ) where
  abbrev ps : List Assembly
  ps = rows_alone files

  abbrev whole : ℕ → FilePart → Assembly
  whole n f = assembly_with k files ps n f

  abbrev qs : List Assembly
  qs = numbered whole 0 files

  whole_at : (f : ℕ) → slice_get qs f ≡ option_map (whole f) (slice_get files f)
  whole_at f = get_numbered whole 0 f files ∙ ap (λ n. option_map (whole n) (slice_get files f)) (omega_zero f)
    where
      omega_zero : (f : ℕ) → 0 + f ≡ f
      omega_zero f = omega arith

  alone_at : (f : ℕ) → slice_get ps f ≡ option_map alone (slice_get files f)
  alone_at f = slice_get-map alone files f

  assembly_law : (f n : ℕ) → assembly_of qs f n ≡ assembly_of ps f n
  assembly_law f n =
      ap (λ o. on_some o (λ (p : Assembly). on_some (slice_get p.assemblies n) (λ a. first_number (same_assembly a) qs))) (whole_at f)
      ∙ go (slice_get files f)
      ∙ sym (ap (λ o. on_some o (λ (p : Assembly). on_some (slice_get p.assemblies n) (λ a. first_number (same_assembly a) ps))) (alone_at f))
    where
      row : (o : Option AssemblyRow) → on_some o (λ a. first_number (same_assembly a) qs) ≡ on_some o (λ a. first_number (same_assembly a) ps)
      row None = refl
      row (Some a) = same_number (same_assembly a) whole alone (λ n x. refl) 0 files

      go : (o : Option FilePart) → on_some (option_map (whole f) o) (λ (p : Assembly). on_some (slice_get p.assemblies n) (λ a. first_number (same_assembly a) qs)) ≡ on_some (option_map alone o) (λ (p : Assembly). on_some (slice_get p.assemblies n) (λ a. first_number (same_assembly a) ps))
      go None = refl
      go (Some x) = row (slice_get (map (assembly_ref x.metadata) (rows_of x.metadata assembly_refs)) n)

  type_law : (f : ℕ) (outer : Option ℕ) (r : TypeRefRow) → type_in qs f outer r ≡ type_in ps f outer r
  type_law f outer r =
      ap (λ o. on_some o (λ (p : Assembly). option_map (id_at f) (position (is_type outer r) p.types))) (whole_at f)
      ∙ go (slice_get files f)
      ∙ sym (ap (λ o. on_some o (λ (p : Assembly). option_map (id_at f) (position (is_type outer r) p.types))) (alone_at f))
    where
      go : (o : Option FilePart) → on_some (option_map (whole f) o) (λ (p : Assembly). option_map (id_at f) (position (is_type outer r) p.types)) ≡ on_some (option_map alone o) (λ (p : Assembly). option_map (id_at f) (position (is_type outer r) p.types))
      go None = refl
      go (Some x) = ap (option_map (id_at f)) (same_position (is_type outer r) (type_row x.metadata _) (type_row x.metadata (λ n. Reference)) (λ n row. refl) 0 (rows_of x.metadata type_defs))

  scope_law : (f : ℕ) (outer outer' : ℕ → Option Id) (r : TypeRefRow) (s : Scope) → ((m : ℕ) → outer m ≡ outer' m) → in_scope qs f outer r s ≡ in_scope ps f outer' r s
  scope_law f outer outer' r (OfAssembly n) same = ap (λ o. on_some o (λ g. type_in qs g None r)) (assembly_law f n) ∙ go (assembly_of ps f n)
    where
      go : (o : Option ℕ) → on_some o (λ g. type_in qs g None r) ≡ on_some o (λ g. type_in ps g None r)
      go None = refl
      go (Some g) = type_law g None r
  scope_law f outer outer' r (Inside n) same = ap (λ o. on_some o (λ (c : Id). type_in qs c.file (Some c.row) r)) (same n) ∙ go (outer' n)
    where
      go : (o : Option Id) → on_some o (λ (c : Id). type_in qs c.file (Some c.row) r) ≡ on_some o (λ (c : Id). type_in ps c.file (Some c.row) r)
      go None = refl
      go (Some c) = type_law c.file (Some c.row) r
  scope_law f outer outer' r Nowhere same = refl

  ref_law : (j f n : ℕ) → resolve_ref j qs f n ≡ resolve_ref j ps f n
  ref_law zero f n = refl
  ref_law (suc j) f n =
      ap (λ o. on_some o (λ (p : Assembly). on_some (slice_get p.refs n) (λ r. in_scope qs f (resolve_ref j qs f) r r.scope))) (whole_at f)
      ∙ go (slice_get files f) (λ m. ref_law j f m)
      ∙ sym (ap (λ o. on_some o (λ (p : Assembly). on_some (slice_get p.refs n) (λ r. in_scope ps f (resolve_ref j ps f) r r.scope))) (alone_at f))
    where
      row : ((m : ℕ) → resolve_ref j qs f m ≡ resolve_ref j ps f m) → (o : Option TypeRefRow) → on_some o (λ r. in_scope qs f (resolve_ref j qs f) r r.scope) ≡ on_some o (λ r. in_scope ps f (resolve_ref j ps f) r r.scope)
      row ih None = refl
      row ih (Some r) = scope_law f (resolve_ref j qs f) (resolve_ref j ps f) r r.scope ih

      go : (o : Option FilePart) → ((m : ℕ) → resolve_ref j qs f m ≡ resolve_ref j ps f m) → on_some (option_map (whole f) o) (λ (p : Assembly). on_some (slice_get p.refs n) (λ r. in_scope qs f (resolve_ref j qs f) r r.scope)) ≡ on_some (option_map alone o) (λ (p : Assembly). on_some (slice_get p.refs n) (λ r. in_scope ps f (resolve_ref j ps f) r r.scope))
      go None ih = refl
      go (Some x) ih = row ih (slice_get (map (type_ref x.metadata) (rows_of x.metadata type_refs)) n)

  pub resolve_law : (j f : ℕ) (t : TypeToken) → resolve j qs f t ≡ resolve j ps f t
  resolve_law j f (TypeRef n) = ref_law j f n
  resolve_law j f (TypeSpec n) = refl
  resolve_law j f (TypeDef n) =
      ap (λ o. on_some o (λ (p : Assembly). option_map (λ t. id_at f n) (slice_get p.types n))) (whole_at f)
      ∙ go (slice_get files f)
      ∙ sym (ap (λ o. on_some o (λ (p : Assembly). option_map (λ t. id_at f n) (slice_get p.types n))) (alone_at f))
    where
      row : (o : Option (List ℕ)) (make make' : List ℕ → TypeRow) → option_map (λ (t : TypeRow). id_at f n) (option_map make o) ≡ option_map (λ (t : TypeRow). id_at f n) (option_map make' o)
      row None make make' = refl
      row (Some r) make make' = refl

      types : (m : MetadataPart) (kind kind' : ℕ → TypeKind) → option_map (λ (t : TypeRow). id_at f n) (slice_get (numbered (type_row m kind) 0 (rows_of m type_defs)) n) ≡ option_map (λ (t : TypeRow). id_at f n) (slice_get (numbered (type_row m kind') 0 (rows_of m type_defs)) n)
      types m kind kind' =
          ap (option_map (λ (t : TypeRow). id_at f n)) (get_numbered (type_row m kind) 0 n (rows_of m type_defs))
          ∙ row (slice_get (rows_of m type_defs) n) (type_row m kind (0 + n)) (type_row m kind' (0 + n))
          ∙ sym (ap (option_map (λ (t : TypeRow). id_at f n)) (get_numbered (type_row m kind') 0 n (rows_of m type_defs)))

      go : (o : Option FilePart) → on_some (option_map (whole f) o) (λ (p : Assembly). option_map (λ t. id_at f n) (slice_get p.types n)) ≡ on_some (option_map alone o) (λ (p : Assembly). option_map (λ t. id_at f n) (slice_get p.types n))
      go None = refl
      go (Some x) = types x.metadata _ (λ m. Reference)

-- a token names the same class among the assemblies of the files as among the rows alone
pub resolve_alone : (files : List FilePart) (j f : ℕ) (t : TypeToken) → resolve j (assemblies_of files) f t ≡ resolve j (rows_alone files) f t
unfolding assemblies_of
resolve_alone files j f t = resolve_law files (size_of (rows_alone files)) j f t

-- a signature without a form equals none, since its type resolves to nothing
pub faulty_law : (files : List FilePart) (j f : ℕ) (x : FilePart) → slice_get files f ≡ Some x → expanded j (assemblies_of files) f (faulty_type x.metadata) ≡ None
faulty_law files j f x at =
    ap (option_map ClassToken)
    (resolve_alone files j f (no_type x.metadata)
    ∙ ap (λ o. on_some o (λ (p : Assembly). option_map (λ t. id_at f (row_count x.metadata type_defs)) (slice_get p.types (row_count x.metadata type_defs)))) (slice_get-map alone files f ∙ ap (option_map alone) at)
    ∙ ap (option_map (λ (t : TypeRow). id_at f (row_count x.metadata type_defs)))
    (get_numbered (type_row x.metadata (λ n. Reference)) 0 (row_count x.metadata type_defs) (rows_of x.metadata type_defs)
    ∙ ap (option_map (type_row x.metadata (λ n. Reference) (0 + row_count x.metadata type_defs))) (get_past (rows_of x.metadata type_defs) (row_count x.metadata type_defs) (omega arith))))

pub faulty_method_law : (files : List FilePart) (j f : ℕ) (x : FilePart) → slice_get files f ≡ Some x → expanded_signature j (assemblies_of files) f (faulty_signature x.metadata) ≡ None
faulty_method_law files j f x at = ap (λ o. both_some (λ r p. record { has_this = false; returns = r; parameters = p }) (option_map Some o) (Some [])) (faulty_law files j f x at)
