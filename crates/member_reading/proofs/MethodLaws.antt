-- The methods of a file, row by row.
use Rattle.std.proofs.Common.{◌≡◌, ◌⊎◌, inl, inr, ℕ, ◌+◌, ◌<◌, ◌≤◌, Bool, true, false, List, [], ◌∷◌, map, length, take, subst, Option, Some, None, refl, sym, ap, ◌∙◌, arith, cond}
use Rattle.std.specs.Prelude.{◌==◌, slice_get, slice_index, unwrap_or, if◌then◌else◌}
use Rattle.std.specs.List.{find, position}
use Rattle.std.specs.Option.{option_map}
use Rattle.std.proofs.lemmas.Bool.{cases_lt}
use Rattle.std.proofs.lemmas.Option.{slice_get_past}
use Rattle.file_tables.specs.Bytes.{has_bit}
use Rattle.file_tables.specs.Metadata.{MetadataPart, rows_of, row_of, row_count, column_of}
use Rattle.file_tables.specs.File.{FilePart}
use Rattle.machine.specs.Data.{Id}
use Rattle.machine.specs.Program.{Body, Code, Missing}
use Rattle.machine.specs.Throw.{on_some}
use Rattle.classes.specs.Classes.{Signature, OwnMethod, Reference, ClassToken, ValueToken, ArraySig, Direct, ByRef}
use Rattle.assemblies.specs.Rows.{TypeToken, RawType, RawSpelt, RawClass, RawValue, RawArray, RawPlace, RawDirect, RawByRef, RawSignature, Assembly}
use Rattle.assemblies.specs.Binding.{id_at, numbered, holds, own_method, method_owner, resolve, both_some, all_some, expanded, expanded_place, expanded_result, expanded_signature}
use Rattle.assemblies.proofs.Numbered.{get_numbered}
use Rattle.world_rows.specs.Signatures.{method_signature}
use Rattle.world_rows.specs.Tokens.{methods, type_defs, text_at, bytes_at}
use Rattle.world_rows.specs.Rows.{type_row, method_row, alone}
use Rattle.world_rows.specs.Natives as world
use Rattle.world_rows.proofs.Alone.{resolve_alone}
use Rattle.world_rows.specs.World.{assembly_with, rows_alone, assemblies_of}
use Rattle.cil_rows.specs.declared.rows.MethodDefRow.{MethodDefRow}
use Rattle.member_keys.specs.declared.keys.ClassId.{ClassId}
use Rattle.member_keys.specs.declared.keys.SignatureKey.{SignatureKey}
use Rattle.member_keys.specs.Seen.{class_seen, signature_seen}
use Rattle.class_table.specs.declared.rows.ClassRow.{ClassRow}
use Rattle.class_table.specs.Outlines.{outline_seen, outline_of, outlines_at}
use Rattle.member_reading.specs.declared.native.NativeMember.{NativeMember}
use Rattle.member_reading.specs.Owners.{first_span}
use Rattle.member_reading.specs.Meant.{scopes, method_signature_meant}
use Rattle.member_reading.specs.Natives as natives
use Rattle.member_reading.specs.Members.{methods_in, method_meant, method_span, body_meant}
use Rattle.member_reading.proofs.TypeLaws.{whole_at, alone_at, same_position}
use Rattle.member_reading.proofs.DataLaws.{numbered_length}
use Rattle.member_reading.proofs.SearchLaws.{all_taken}
use Rattle.member_reading.proofs.FieldLaws.{with_tables, row_there}
use Rattle.member_reading.proofs.MemberLaws.{numbered_twice, owner_there, owner_past}

find_map : {A B : Type 0} (test : B → Bool) (g : A → B) (xs : List A) → find test (map g xs) ≡ option_map g (find (λ x. test (g x)) xs)
find_map test g [] = refl
find_map {A} {B} test g (x ∷ xs) = go (test (g x)) (find_map test g xs)
  where
    go : (b : Bool) → find test (map g xs) ≡ option_map g (find (λ x. test (g x)) xs) → cond b (Some (g x)) (find test (map g xs)) ≡ option_map g (cond b (Some x) (find (λ x. test (g x)) xs))
    go true ih = refl
    go false ih = ih

module _ (files : List FilePart) (file : ℕ) (f : FilePart) (here : slice_get files file ≡ Some f) where
  abbrev k : ℕ
  k = scopes files

  abbrev qs : List Assembly
  qs = assemblies_of files

  abbrev ps : List Assembly
  ps = rows_alone files

  abbrev native : ℕ → Body
  native n = world.body_of_native k ps (id_at file n)

  abbrev p : Assembly
  p = assembly_with k files ps file f

  at : slice_get qs file ≡ Some p
  at = whole_at files file ∙ ap (option_map (assembly_with k files ps file)) here

  signature_is : (blob : List ℕ) → method_signature_meant files file blob ≡ expanded_signature k qs file (method_signature f.metadata blob)
  signature_is blob = ap (λ o. on_some o (λ (x : FilePart). expanded_signature k qs file (method_signature x.metadata blob))) here

  -- all methods
  pub methods_are : numbered (own_method k qs file) 0 (methods_in files file) ≡ numbered (λ n row. own_method k qs file n (method_row f native n row)) 0 (rows_of f.metadata methods)
  methods_are =
      ap (λ o. numbered (own_method k qs file) 0 (unwrap_or (option_map (λ (q : Assembly). q.methods) o) [])) at
      ∙ numbered_twice (own_method k qs file) (method_row f native) 0 (rows_of f.metadata methods)

  pub methods_done : {A : Type 0} (seen : ℕ → A → OwnMethod) (rows : List A) (n : ℕ) → numbered seen 0 rows ≡ numbered (λ n row. own_method k qs file n (method_row f native n row)) 0 (take n (rows_of f.metadata methods)) → row_count f.metadata methods ≤ n → numbered seen 0 rows ≡ numbered (own_method k qs file) 0 (methods_in files file)
  methods_done seen rows n known past = known ∙ ap (numbered (λ n row. own_method k qs file n (method_row f native n row)) 0) (all_taken (rows_of f.metadata methods) n past) ∙ sym methods_are

  -- the types that have them
  pub method_owners : (classes : List ClassRow) (owners : List (Option ℕ)) → map outline_seen classes ≡ outlines_at files file → length owners ≡ row_count f.metadata methods → ((n : ℕ) → n < row_count f.metadata methods → slice_get owners n ≡ Some (first_span (map method_span classes) n)) → (n : ℕ) → on_some (slice_get owners n) (option_map (id_at file)) ≡ method_owner qs (id_at file n)
  method_owners classes owners read size each n = by (cases_lt n (row_count f.metadata methods))
    where
      types : map outline_seen classes ≡ map (outline_of k qs file) p.types
      types = read ∙ ap (λ o. unwrap_or (option_map (λ (q : Assembly). map (outline_of k qs file) q.types) o) []) at

      count : length p.methods ≡ row_count f.metadata methods
      count = numbered_length (method_row f native) 0 (rows_of f.metadata methods)

      by : (n < row_count f.metadata methods) ⊎ (row_count f.metadata methods ≤ n) → on_some (slice_get owners n) (option_map (id_at file)) ≡ method_owner qs (id_at file n)
      by (inl h) = ap (λ o. on_some o (option_map (id_at file))) (each n h) ∙ sym (owner_there k qs file p at (λ q. q.methods) (λ t. t.first_method) (λ t. t.method_count) (λ o. record { first = o.first_method; count = o.method_count }) method_span classes n types (λ c. refl) (λ t. refl) (omega (arith, h, count)))
      by (inr h) = ap (λ o. on_some o (option_map (id_at file))) (slice_get_past owners n (omega (arith, h, size))) ∙ sym (owner_past k qs file p at (λ q. q.methods) (λ t. t.first_method) (λ t. t.method_count) n (omega (arith, h, count)))

  -- ---- by the rows alone

  type_alone : (t : TypeToken) → resolve k qs file t ≡ resolve k ps file t
  type_alone t = resolve_alone files k file t

  expanded_alone : (raw : RawType) → expanded k qs file raw ≡ expanded k ps file raw
  expanded_alone (RawSpelt e) = refl
  expanded_alone (RawClass t) = ap (option_map ClassToken) (type_alone t)
  expanded_alone (RawValue t) = ap (option_map ValueToken) (type_alone t)
  expanded_alone (RawArray s) = ap (option_map ArraySig) (expanded_alone s)

  place_alone : (raw : RawPlace) → expanded_place k qs file raw ≡ expanded_place k ps file raw
  place_alone (RawDirect s) = ap (option_map Direct) (expanded_alone s)
  place_alone (RawByRef s) = ap (option_map ByRef) (expanded_alone s)

  result_alone : (raw : Option RawType) → expanded_result k qs file raw ≡ expanded_result k ps file raw
  result_alone None = refl
  result_alone (Some s) = ap (option_map Some) (expanded_alone s)

  places_alone : (raw : List RawPlace) → all_some (expanded_place k qs file) raw ≡ all_some (expanded_place k ps file) raw
  places_alone [] = refl
  places_alone (s ∷ ss) = ap (λ o. both_some (λ y ys. y ∷ ys) o (all_some (expanded_place k qs file) ss)) (place_alone s) ∙ ap (both_some (λ y ys. y ∷ ys) (expanded_place k ps file s)) (places_alone ss)

  signature_alone : (raw : RawSignature) → expanded_signature k qs file raw ≡ expanded_signature k ps file raw
  signature_alone raw =
      ap (λ o. both_some (λ r p. record { has_this = raw.has_this; returns = r; parameters = p }) o (all_some (expanded_place k qs file) raw.parameters)) (result_alone raw.returns)
      ∙ ap (both_some (λ r p. record { has_this = raw.has_this; returns = r; parameters = p }) (expanded_result k ps file raw.returns)) (places_alone raw.parameters)

  method_at : (n : ℕ) (row : List ℕ) (q : ℕ → Body) → slice_get (rows_of f.metadata methods) n ≡ Some row → slice_get (numbered (method_row f q) 0 (rows_of f.metadata methods)) n ≡ Some (method_row f q n row)
  method_at n row q there =
      let same : 0 + n ≡ n = omega arith in
      get_numbered (method_row f q) 0 n (rows_of f.metadata methods)
      ∙ ap (λ i. option_map (method_row f q i) (slice_get (rows_of f.metadata methods) n)) same
      ∙ ap (option_map (method_row f q n)) there

  owner_by : Assembly → ℕ → Option Id
  owner_by q n = on_some (slice_get q.methods n) (λ x. option_map (id_at file) (position (λ t. holds t.first_method t.method_count n) q.types))

  owner_alone : (n : ℕ) (row : List ℕ) → slice_get (rows_of f.metadata methods) n ≡ Some row → method_owner qs (id_at file n) ≡ method_owner ps (id_at file n)
  unfolding owner_by
  owner_alone n row there =
      ap (λ o. on_some o (λ q. owner_by q n)) at
      ∙ ap (λ o. on_some o (λ x. option_map (id_at file) (position (λ t. holds t.first_method t.method_count n) p.types))) (method_at n row native there)
      ∙ ap (option_map (id_at file)) (same_position (λ t. holds t.first_method t.method_count n) (type_row f.metadata _) (type_row f.metadata (λ n. Reference)) (λ n x. refl) 0 (rows_of f.metadata type_defs))
      ∙ sym
      (ap (λ o. on_some o (λ q. owner_by q n)) (alone_at files file ∙ ap (option_map alone) here)
      ∙ ap (λ o. on_some o (λ x. option_map (id_at file) (position (λ t. holds t.first_method t.method_count n) (alone f).types))) (method_at n row (λ n. Missing) there))

  -- ---- natives

  body_there : (o : Option world.NativeRow) → natives.body_of (option_map (natives.native_meant files) o) ≡ world.native_body o
  body_there None = refl
  body_there (Some r) = refl

  pub native_is : (members : List NativeMember) (n : ℕ) (row : List ℕ) (name : List ℕ) (owner : Option Id) (signature : Option Signature) → natives.AreNatives files members → slice_get (rows_of f.metadata methods) n ≡ Some row → name ≡ text_at f.metadata (slice_index row 3) → owner ≡ method_owner qs (id_at file n) → signature ≡ method_signature_meant files file (bytes_at f.metadata (slice_index row 4)) → natives.body_of (find (natives.is_native name owner signature) (map natives.native_shown members)) ≡ native n
  unfolding world.body_of_native
  native_is members n row name owner signature known there e g h =
      ap (λ xs. natives.body_of (find (natives.is_native name owner signature) xs)) known
      ∙ ap natives.body_of (find_map (natives.is_native name owner signature) (natives.native_meant files) world.natives)
      ∙ body_there (find (λ r. natives.is_native name owner signature (natives.native_meant files r)) world.natives)
      ∙ ap (λ x. world.native_body (find (λ r. natives.is_native x owner signature (natives.native_meant files r)) world.natives)) e
      ∙ ap (λ x. world.native_body (find (λ r. natives.is_native (text_at f.metadata (slice_index row 3)) x signature (natives.native_meant files r)) world.natives)) (g ∙ owner_alone n row there)
      ∙ ap (λ x. world.native_body (find (λ r. natives.is_native (text_at f.metadata (slice_index row 3)) (method_owner ps (id_at file n)) x (natives.native_meant files r)) world.natives)) (h ∙ signature_is (bytes_at f.metadata (slice_index row 4)) ∙ signature_alone (method_signature f.metadata (bytes_at f.metadata (slice_index row 4))))
      ∙ sym
      (ap (λ o. world.native_body (on_some o (λ (q : Assembly). on_some (slice_get q.methods n) (λ m. find (world.is_native k ps file (method_owner ps (id_at file n)) m) world.natives)))) (alone_at files file ∙ ap (option_map alone) here)
      ∙ ap (λ o. world.native_body (on_some o (λ m. find (world.is_native k ps file (method_owner ps (id_at file n)) m) world.natives))) (method_at n row (λ n. Missing) there))

  -- ---- a row

  abbrev chosen : ℕ → ℕ → Body → Body
  chosen impl_flags rva native = if has_bit impl_flags 12 then native else if rva == 0 then Missing else Code

  abbrev row_at : MetadataPart → ℕ → MethodDefRow
  row_at m n = record { rva = column_of m methods n 0; impl_flags = column_of m methods n 1; flags = column_of m methods n 2; name = column_of m methods n 3; signature = column_of m methods n 4; first_param = column_of m methods n 5 }

  abbrev made : ℕ → List ℕ → Option Signature → ℕ → Body → OwnMethod
  made n name signature flags body =
      record {
        id = id_at file n;
        name = name;
        signature = signature;
        is_static = has_bit flags 4;
        is_virtual = has_bit flags 6;
        is_newslot = has_bit flags 8;
        is_abstract = has_bit flags 10;
        body = body;
      }

  pub method_read : (m : MetadataPart) (members : List NativeMember) (n : ℕ) (row : MethodDefRow) (name : List ℕ) (owner : Option ClassId) (key : Option SignatureKey) → m ≡ f.metadata → natives.AreNatives files members → n < row_count m methods → row ≡ row_at m (n + 1) → name ≡ text_at m row.name → option_map class_seen owner ≡ method_owner qs (id_at file n) → option_map signature_seen key ≡ method_signature_meant files file (bytes_at m row.signature) → made n name (option_map signature_seen key) row.flags (body_meant members row name owner key) ≡ method_meant files file f n
  method_read m members n row name owner key same known within is e g h =
      ap (λ r. made n name (option_map signature_seen key) r.flags (chosen r.impl_flags r.rva found)) here_row
      ∙ ap (λ x. made n x (option_map signature_seen key) cols.flags (chosen cols.impl_flags cols.rva found)) named
      ∙ ap (λ x. made n (text_at f.metadata cols.name) x cols.flags (chosen cols.impl_flags cols.rva found)) (signed ∙ signature_is (bytes_at f.metadata cols.signature))
      ∙ ap (λ x. made n (text_at f.metadata cols.name) (expanded_signature k qs file (method_signature f.metadata (bytes_at f.metadata cols.signature))) cols.flags (chosen cols.impl_flags cols.rva x))
      (native_is members n (row_of f.metadata methods (n + 1)) name (option_map class_seen owner) (option_map signature_seen key) known there named g signed)
    where
      cols : MethodDefRow
      cols = row_at f.metadata (n + 1)

      found : Body
      found = natives.body_of (find (natives.is_native name (option_map class_seen owner) (option_map signature_seen key)) (map natives.native_shown members))

      here_row : row ≡ cols
      here_row = is ∙ ap (λ x. row_at x (n + 1)) same

      named : name ≡ text_at f.metadata cols.name
      named = e ∙ ap (λ x. text_at x row.name) same ∙ ap (λ (r : MethodDefRow). text_at f.metadata r.name) here_row

      signed : option_map signature_seen key ≡ method_signature_meant files file (bytes_at f.metadata cols.signature)
      signed = h ∙ ap (λ x. method_signature_meant files file (bytes_at x row.signature)) same ∙ ap (λ (r : MethodDefRow). method_signature_meant files file (bytes_at f.metadata r.signature)) here_row

      there : slice_get (rows_of f.metadata methods) n ≡ Some (row_of f.metadata methods (n + 1))
      there = row_there f.metadata methods n (omega (arith, within, ap (λ x. row_count x methods) same))

  -- with each flag as it was asked for
  pub seen_is : (n flags : ℕ) (name : List ℕ) (signature : Option Signature) (a b c d : Bool) (x y : Body) → a ≡ has_bit flags 4 → b ≡ has_bit flags 6 → c ≡ has_bit flags 8 → d ≡ has_bit flags 10 → x ≡ y → ◌≡◌ {A = OwnMethod} (record { id = id_at file n; name = name; signature = signature; is_static = a; is_virtual = b; is_newslot = c; is_abstract = d; body = x }) (made n name signature flags y)
  seen_is n flags name signature a b c d x y ea eb ec ed ex =
      ap (λ z. record { id = id_at file n; name = name; signature = signature; is_static = z; is_virtual = b; is_newslot = c; is_abstract = d; body = x }) ea
      ∙ ap (λ z. record { id = id_at file n; name = name; signature = signature; is_static = has_bit flags 4; is_virtual = z; is_newslot = c; is_abstract = d; body = x }) eb
      ∙ ap (λ z. record { id = id_at file n; name = name; signature = signature; is_static = has_bit flags 4; is_virtual = has_bit flags 6; is_newslot = z; is_abstract = d; body = x }) ec
      ∙ ap (λ z. record { id = id_at file n; name = name; signature = signature; is_static = has_bit flags 4; is_virtual = has_bit flags 6; is_newslot = has_bit flags 8; is_abstract = z; body = x }) ed
      ∙ ap (made n name signature flags) ex

pub same_tables : (o : Option FilePart) (m : MetadataPart) (f : FilePart) → option_map (λ (f : FilePart). f.metadata) o ≡ Some m → o ≡ Some f → m ≡ f.metadata
same_tables o m f tables here = cc (sym tables ∙ ap (option_map (λ (f : FilePart). f.metadata)) here)

pub method_owned : (files : List FilePart) (file : ℕ) (m : MetadataPart) → option_map (λ (f : FilePart). f.metadata) (slice_get files file) ≡ Some m → (classes : List ClassRow) (owners : List (Option ℕ)) → map outline_seen classes ≡ outlines_at files file → length owners ≡ row_count m methods → ((n : ℕ) → n < row_count m methods → slice_get owners n ≡ Some (first_span (map method_span classes) n)) → (n : ℕ) → on_some (slice_get owners n) (option_map (id_at file)) ≡ method_owner (assemblies_of files) (id_at file n)
method_owned files file m tables classes owners read size each n = by (with_tables (slice_get files file) m tables)
  where
    by : (f : FilePart) × (slice_get files file ≡ Some f) × (f.metadata ≡ m) → on_some (slice_get owners n) (option_map (id_at file)) ≡ method_owner (assemblies_of files) (id_at file n)
    by (f, here, same) = method_owners files file f here classes owners read (size ∙ ap (λ x. row_count x methods) (sym same)) (λ i h. each i (subst (λ x. i < row_count x methods) same h)) n
