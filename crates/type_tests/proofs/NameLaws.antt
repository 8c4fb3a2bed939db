-- The first file of an assembly's name.
use Rattle.std.proofs.Common.{◌≡◌, ◌∙◌, ℕ, suc, ◌+◌, List, [], ◌∷◌, ◌++◌, length, map, take, Option, Some, None, refl, sym, ap}
use Rattle.std.specs.Prelude.{slice_get, ◌==◌, ◌&&◌}
use Rattle.std.specs.List.{list_any, position}
use Rattle.std.specs.Option.{option_map}
use Rattle.std.specs.Ordering.{eq_by_cmp}
use Rattle.std.specs.Cmp.{nat_eq_equiv}
use Rattle.std.specs.BTreeMap.{BTreeMap, get}
use Rattle.std.proofs.lemmas.List.{length-map, map-append, take_more}
use Rattle.std.proofs.lemmas.Option.{get_or_from_slice_get, slice_get-map, slice_get_within}
use Rattle.file_tables.specs.Metadata.{MetadataPart}
use Rattle.file_tables.specs.File.{FilePart}
use Rattle.machine.specs.Texts.{same_text}
use Rattle.alike.proofs.Lists.{position_map}
use Rattle.assemblies.specs.Rows.{Assembly}
use Rattle.assemblies.specs.Binding.{numbered}
use Rattle.world_rows.specs.World.{rows_alone, size_of, assembly_with, assemblies_of}
use Rattle.first_places.specs.Places.{FindsFirst}
use Rattle.type_names.specs.Names.{assembly_name}
use Rattle.type_names.proofs.KeyLaws.{text_equal}
use Rattle.class_rules.specs.Rules.{holds_some}
use Rattle.verdict_rules.specs.Types.{is_named_before}
use Rattle.type_tests.specs.Columns.{precedes}
use Rattle.type_tests.specs.Names.{name_in, name_order}
use Rattle.type_tests.specs.declared.names.AssemblyName.{AssemblyName}
use Rattle.type_tests.proofs.ListLaws.{any_before}

pub names_found : (files : List FilePart) (keys : List AssemblyName) (places : BTreeMap AssemblyName ℕ) → map (λ (k : AssemblyName). k.name.now) keys ≡ map name_in files → FindsFirst name_order keys places → (wanted : AssemblyName) → get name_order places wanted ≡ position (λ x. same_text wanted.name.now (name_in x)) files
names_found files keys places e finds wanted =
    finds wanted
    ∙ sym (position_map (λ (k : AssemblyName). k.name.now) (same_text wanted.name.now) (eq_by_cmp name_order wanted) keys (λ k. sym (text_equal wanted.name.now k.name.now)))
    ∙ ap (position (same_text wanted.name.now)) e
    ∙ position_map name_in (same_text wanted.name.now) (λ x. same_text wanted.name.now (name_in x)) files (λ x. refl)

pub few_names : (files : List FilePart) (keys : List AssemblyName) → map (λ (k : AssemblyName). k.name.now) keys ≡ map name_in files → length keys ≡ length files
few_names files keys e = sym (length-map keys (λ (k : AssemblyName). k.name.now)) ∙ ap length e ∙ length-map files name_in

-- one name more
pub name_more : (files : List FilePart) (n : ℕ) (m : MetadataPart) → option_map (λ (p : FilePart). p.metadata) (slice_get files n) ≡ Some m → (keys : List AssemblyName) (key : AssemblyName) → map (λ (k : AssemblyName). k.name.now) keys ≡ map name_in (take n files) → key.name.now ≡ (assembly_name m).name → map (λ (k : AssemblyName). k.name.now) (keys ++ key ∷ []) ≡ map name_in (take (n + 1) files)
name_more files n m there keys key so_far e = go (slice_get files n) refl there
  where
    go : (o : Option FilePart) → slice_get files n ≡ o → option_map (λ (p : FilePart). p.metadata) o ≡ Some m → map (λ (k : AssemblyName). k.name.now) (keys ++ key ∷ []) ≡ map name_in (take (n + 1) files)
    go None at f = cc f
    go (Some x) at f =
        let same : x.metadata ≡ m = cc f in
        map-append (λ (k : AssemblyName). k.name.now) keys (key ∷ [])
        ∙ ap (λ (ys : List (List ℕ)). ys ++ key.name.now ∷ []) so_far
        ∙ ap (λ (s : List ℕ). map name_in (take n files) ++ s ∷ []) (e ∙ sym (ap (λ (y : MetadataPart). (assembly_name y).name) same))
        ∙ sym (map-append name_in (take n files) (x ∷ []))
        ∙ sym (ap (map name_in) (take_more files n x (slice_get_within files n x at) ∙ ap (λ y. take n files ++ y ∷ []) (get_or_from_slice_get files n x x at)))

text_flip : (xs ys : List ℕ) → same_text xs ys ≡ same_text ys xs
text_flip [] [] = refl
text_flip [] (y ∷ ys) = refl
text_flip (x ∷ xs) [] = refl
text_flip (x ∷ xs) (y ∷ ys) = ap (λ b. b && same_text xs ys) (nat_eq_equiv.symm x y) ∙ ap (λ b. (y == x) && b) (text_flip xs ys)

same_names : (k : ℕ) (all : List FilePart) (ps : List Assembly) (n : ℕ) (xs : List FilePart) → map (λ (p : Assembly). p.name) (numbered (assembly_with k all ps) n xs) ≡ map name_in xs
same_names k all ps n [] = refl
same_names k all ps n (x ∷ xs) = ap (λ ys. name_in x ∷ ys) (same_names k all ps (suc n) xs)

module _ (files : List FilePart) (file : ℕ) where
  abbrev ps : List Assembly
  ps = assemblies_of files

  names_of : map (λ (p : Assembly). p.name) ps ≡ map name_in files
  unfolding assemblies_of
  names_of = same_names (size_of (rows_alone files)) files (rows_alone files) 0 files

  named_first : (name : List ℕ) → position (λ (q : Assembly). same_text q.name name) ps ≡ position (λ x. same_text name (name_in x)) files
  named_first name =
      sym (position_map (λ (q : Assembly). q.name) (λ s. same_text s name) (λ (q : Assembly). same_text q.name name) ps (λ q. refl))
      ∙ ap (position (λ s. same_text s name)) names_of
      ∙ position_map name_in (λ s. same_text s name) (λ x. same_text name (name_in x)) files (λ x. text_flip (name_in x) name)

  name_at : (x : FilePart) → slice_get files file ≡ Some x → option_map (λ (p : Assembly). p.name) (slice_get ps file) ≡ Some (name_in x)
  name_at x e =
      sym (slice_get-map (λ (p : Assembly). p.name) ps file)
      ∙ ap (λ (ns : List (List ℕ)). slice_get ns file) names_of
      ∙ slice_get-map name_in files file
      ∙ ap (option_map name_in) e

  named_before : (m : MetadataPart) → option_map (λ (p : FilePart). p.metadata) (slice_get files file) ≡ Some m → is_named_before ps file ≡ precedes file (position (λ x. same_text (assembly_name m).name (name_in x)) files)
  named_before m there = go (slice_get files file) refl there
    where
      by_name : (name : List ℕ) (o : Option Assembly) → option_map (λ (p : Assembly). p.name) o ≡ Some name → holds_some o (λ p. list_any (λ (q : Assembly). same_text q.name p.name) (take file ps)) ≡ list_any (λ (q : Assembly). same_text q.name name) (take file ps)
      by_name name None e = cc e
      by_name name (Some p) e = let same : p.name ≡ name = cc e in ap (λ (s : List ℕ). list_any (λ (q : Assembly). same_text q.name s) (take file ps)) same

      go : (o : Option FilePart) → slice_get files file ≡ o → option_map (λ (p : FilePart). p.metadata) o ≡ Some m → is_named_before ps file ≡ precedes file (position (λ x. same_text (assembly_name m).name (name_in x)) files)
      go None at e = cc e
      go (Some x) at e =
          let same : x.metadata ≡ m = cc e in
          by_name (name_in x) (slice_get ps file) (name_at x at)
          ∙ any_before (λ (q : Assembly). same_text q.name (name_in x)) ps file
          ∙ ap (precedes file) (named_first (name_in x))
          ∙ ap (λ (y : MetadataPart). precedes file (position (λ x. same_text (assembly_name y).name (name_in x)) files)) same

  -- by what was looked up
  pub before_by : (m : MetadataPart) → option_map (λ (p : FilePart). p.metadata) (slice_get files file) ≡ Some m → (name : List ℕ) (place : Option ℕ) → name ≡ (assembly_name m).name → place ≡ position (λ x. same_text name (name_in x)) files → is_named_before ps file ≡ precedes file place
  before_by m there name place e found =
      named_before m there
      ∙ ap (λ (s : List ℕ). precedes file (position (λ x. same_text s (name_in x)) files)) (sym e)
      ∙ ap (precedes file) (sym found)
