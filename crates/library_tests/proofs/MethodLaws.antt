-- The methods of a file, as the table has them and as the world has them.
use Rattle.std.proofs.Common.{◌≡◌, ℕ, zero, suc, ◌+◌, ◌<◌, Bool, true, false, List, [], ◌∷◌, map, length, get_or, Option, Some, None, refl, sym, ap, ◌∙◌, arith, add-one}
use Rattle.std.specs.Prelude.{slice_get, slice_index, if◌then◌else◌, ◌||◌, ◌&&◌, ◌==◌, is_some}
use Rattle.std.specs.List.{list_all, list_any}
use Rattle.std.specs.Option.{option_map}
use Rattle.std.proofs.lemmas.Option.{slice_get-map, slice_get-get_or}
use Rattle.file_tables.specs.Bytes.{has_bit}
use Rattle.file_tables.specs.Metadata.{MetadataPart, rows_of, row_count, row_of, column_of}
use Rattle.file_tables.specs.File.{FilePart}
use Rattle.machine.specs.Program.{native_number, Body, Native, Missing, Code}
use Rattle.classes.specs.Classes.{OwnMethod}
use Rattle.class_rules.specs.Rules.{holds_some, only_if}
use Rattle.assemblies.specs.Rows.{MethodRow as NamedRow, Assembly}
use Rattle.assemblies.specs.Binding.{id_at, numbered, own_method}
use Rattle.assemblies.proofs.Numbered.{get_numbered, numbered_map}
use Rattle.world_rows.specs.Tokens.{methods}
use Rattle.world_rows.specs.Rows.{is_internal, body_of, method_row}
use Rattle.world_rows.specs.Natives.{NativeRow, natives, native_at, native_body, body_of_native}
use Rattle.world_rows.specs.World.{rows_alone, assemblies_of, assembly_with, size_of}
use Rattle.verdict_rules.specs.World.{World, world_of}
use Rattle.verdict_rules.specs.Library.{is_native_of, has_native, calls_native}
use Rattle.class_table.specs.declared.rows.MethodRow.{MethodRow}
use Rattle.class_table.specs.Seen.{body_seen, method_seen}
use Rattle.class_table.specs.Whole.{AreMethods}
use Rattle.member_reading.proofs.TypeLaws.{whole_at}
use Rattle.member_reading.proofs.DataLaws.{numbered_length}
use Rattle.member_reading.proofs.MemberLaws.{numbered_twice}
use Rattle.member_reading.proofs.MethodLaws.{methods_are}
use Rattle.library_tests.specs.Methods.{is_number, is_native, call_well}

-- ---- lists

mapped : {A B C : Type 0} (g : B → C) (f : ℕ → A → B) (n : ℕ) (xs : List A) → map g (numbered f n xs) ≡ numbered (λ i x. g (f i x)) n xs
mapped g f n xs = sym (numbered_map g n (numbered f n xs)) ∙ numbered_twice (λ i x. g x) f n xs

any_map : {A B : Type 0} (test : B → Bool) (g : A → B) (xs : List A) → list_any (λ x. test (g x)) xs ≡ list_any test (map g xs)
any_map test g [] = refl
any_map test g (x ∷ xs) = ap (λ b. test (g x) || b) (any_map test g xs)

any_same : {A : Type 0} (test test' : A → Bool) → ((x : A) → test x ≡ test' x) → (xs : List A) → list_any test xs ≡ list_any test' xs
any_same test test' same [] = refl
any_same test test' same (x ∷ xs) = ap (λ b. b || list_any test xs) (same x) ∙ ap (λ b. test' x || b) (any_same test test' same xs)

all_same : {A : Type 0} (test test' : A → Bool) → ((x : A) → test x ≡ test' x) → (xs : List A) → list_all test xs ≡ list_all test' xs
all_same test test' same [] = refl
all_same test test' same (x ∷ xs) = ap (λ b. b && list_all test xs) (same x) ∙ ap (λ b. test' x && b) (all_same test test' same xs)

numbered_same : {A B : Type 0} (make make' : ℕ → A → B) (n : ℕ) (xs : List A) → ((i : ℕ) (x : A) → slice_get xs i ≡ Some x → make (n + i) x ≡ make' (n + i) x) → numbered make n xs ≡ numbered make' n xs
numbered_same make make' n [] same = refl
numbered_same {A} {B} make make' n (x ∷ xs) same =
    let here : n + 0 ≡ n = omega arith in
    ap (λ b. b ∷ numbered make (suc n) xs) (ap (λ k. make k x) (sym here) ∙ same zero x refl ∙ ap (λ k. make' k x) here)
    ∙ ap (λ bs. make' n x ∷ bs) (numbered_same make make' (suc n) xs (λ i y e. let there : suc n + i ≡ n + suc i = omega arith in ap (λ k. make k y) there ∙ same (suc i) y e ∙ ap (λ k. make' k y) (sym there)))

-- ---- one file

same_native : (r : NativeRow) (b : Body) → is_native_of r b ≡ is_number (native_number r.number) b
same_native r (Native name) = refl
same_native r Code = refl
same_native r Missing = refl

native_there : (o : Option NativeRow) → is_native (native_body o) ≡ is_some o
native_there None = refl
native_there (Some r) = refl

module _ (files : List FilePart) (file : ℕ) (x : FilePart) (here : slice_get files file ≡ Some x) (rows : List MethodRow) (are : AreMethods files file rows) where
  abbrev w : World
  w = world_of files

  abbrev k : ℕ
  k = size_of (rows_alone files)

  abbrev native : ℕ → Body
  native n = body_of_native k (rows_alone files) (id_at file n)

  abbrev body : MethodRow → Body
  body m = body_seen m.body

  seen : numbered (method_seen file) 0 rows ≡ numbered (λ n row. own_method k (assemblies_of files) file n (method_row x native n row)) 0 (rows_of x.metadata methods)
  seen = are.methods ∙ methods_are files file x here

  pub bodies : map body rows ≡ numbered (body_of native) 0 (rows_of x.metadata methods)
  bodies =
      sym (mapped (λ (o : OwnMethod). o.body) (method_seen file) 0 rows ∙ numbered_map body 0 rows)
      ∙ ap (map (λ (o : OwnMethod). o.body)) seen
      ∙ mapped (λ (o : OwnMethod). o.body) (λ n row. own_method k (assemblies_of files) file n (method_row x native n row)) 0 (rows_of x.metadata methods)

  pub as_many : length rows ≡ row_count x.metadata methods
  as_many = sym (numbered_length (method_seen file) 0 rows) ∙ ap length seen ∙ numbered_length (λ n row. own_method k (assemblies_of files) file n (method_row x native n row)) 0 (rows_of x.metadata methods)

  has_one : (r : NativeRow) → has_native w file r ≡ list_any (λ m. is_number (native_number r.number) (body m)) rows
  has_one r =
      ap (λ o. holds_some o (λ (p : Assembly). list_any (λ (m : NamedRow). is_native_of r m.body) p.methods)) (whole_at files file ∙ ap (option_map (assembly_with k files (rows_alone files) file)) here)
      ∙ any_map (is_native_of r) (λ (m : NamedRow). m.body) (numbered (method_row x native) 0 (rows_of x.metadata methods))
      ∙ ap (list_any (is_native_of r)) (mapped (λ (m : NamedRow). m.body) (method_row x native) 0 (rows_of x.metadata methods) ∙ sym bodies)
      ∙ sym (any_map (is_native_of r) body rows)
      ∙ any_same (λ m. is_native_of r (body m)) (λ m. is_number (native_number r.number) (body m)) (λ m. same_native r (body m)) rows

  pub natives_same : list_all (λ (r : NativeRow). only_if (r.file == file) (has_native w file r)) natives ≡ list_all (λ (r : NativeRow). only_if (r.file == file) (list_any (λ m. is_number (native_number r.number) (body m)) rows)) natives
  natives_same = all_same _ _ (λ r. ap (only_if (r.file == file)) (has_one r)) natives

  call_same : (n : ℕ) (row : List ℕ) → slice_get (rows_of x.metadata methods) n ≡ Some row → calls_native w file n row ≡ call_well rows n row
  unfolding body_of_native
  call_same n row there = go (is_internal row) refl (slice_get rows n) got
    where
      made : (o : Option (List ℕ)) → o ≡ Some row → option_map (body_of native (0 + n)) o ≡ Some (body_of native n row)
      made o e = let same : 0 + n ≡ n = omega arith in ap (option_map (body_of native (0 + n))) e ∙ ap (λ i. Some (body_of native i row)) same

      got : option_map body (slice_get rows n) ≡ Some (body_of native n row)
      got = sym (slice_get-map body rows n) ∙ ap (λ bs. slice_get bs n) bodies ∙ get_numbered (body_of native) 0 n (rows_of x.metadata methods) ∙ made (slice_get (rows_of x.metadata methods) n) there

      go : (b : Bool) → is_internal row ≡ b → (o : Option MethodRow) → option_map body o ≡ Some (body_of native n row) → only_if b (is_some (native_at w.size w.alone (id_at file n))) ≡ only_if b (holds_some o (λ m. is_native (body m)))
      go false e o g = refl
      go true e None g = absurd (cc g)
      go true e (Some m) g =
          let same : body m ≡ body_of native n row = cc g in
          let internal : body_of native n row ≡ native n = ap (λ b. if b then native n else if slice_index row 0 == 0 then Missing else Code) e in
          sym (ap is_native (same ∙ internal) ∙ native_there (native_at k (rows_alone files) (id_at file n)))

  pub calls_same : numbered (calls_native w file) 0 (rows_of x.metadata methods) ≡ numbered (call_well rows) 0 (rows_of x.metadata methods)
  calls_same = numbered_same (calls_native w file) (call_well rows) 0 (rows_of x.metadata methods) (λ n row e. let same : 0 + n ≡ n = omega arith in ap (λ i. calls_native w file i row) same ∙ call_same n row e ∙ ap (λ i. call_well rows i row) (sym same))

-- the next row of a walk
pub call_at : (rows : List MethodRow) (m : MetadataPart) (n : ℕ) → n < row_count m methods → get_or (numbered (call_well rows) 0 (rows_of m methods)) n false ≡ call_well rows n (row_of m methods (n + 1))
call_at rows m n within =
    let long : n < length (numbered (call_well rows) 0 (rows_of m methods)) = omega (arith, within, numbered_length (call_well rows) 0 (rows_of m methods)) in
    some_same _ _
    (sym (slice_get-get_or (numbered (call_well rows) 0 (rows_of m methods)) n false long)
    ∙ get_numbered (call_well rows) 0 n (rows_of m methods)
    ∙ ap (option_map (call_well rows (0 + n))) (slice_get-get_or (rows_of m methods) n [] within)
    ∙ (let same : 0 + n ≡ n = omega arith in ap (λ i. Some (call_well rows i (get_or (rows_of m methods) n []))) same)
    ∙ ap (λ i. Some (call_well rows n (row_of m methods i))) (sym (add-one n)))
  where
    some_same : (a b : Bool) → Path (Option Bool) (Some a) (Some b) → a ≡ b
    some_same a b e = cc

pub call_is : (rows : List MethodRow) (m : MetadataPart) (n flags : ℕ) (found : MethodRow) (well : Bool) → n < row_count m methods → flags ≡ column_of m methods (n + 1) 1 → slice_get rows n ≡ Some found → well ≡ only_if (has_bit flags 12) (is_native (body_seen found.body)) → get_or (numbered (call_well rows) 0 (rows_of m methods)) n false ≡ well
call_is rows m n flags found well within e there g =
    call_at rows m n within
    ∙ ap (λ o. only_if (is_internal (row_of m methods (n + 1))) (holds_some o (λ r. is_native (body_seen r.body)))) there
    ∙ ap (λ f. only_if (has_bit f 12) (is_native (body_seen found.body))) (sym e)
    ∙ sym g

pub walk_long : (rows : List MethodRow) (m : MetadataPart) → length (numbered (call_well rows) 0 (rows_of m methods)) ≡ row_count m methods
walk_long rows m = numbered_length (call_well rows) 0 (rows_of m methods)
