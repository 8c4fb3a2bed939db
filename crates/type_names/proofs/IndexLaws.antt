-- What an index of names finds.
use Rattle.std.proofs.Common.{◌≡◌, ℕ, zero, suc, ◌≤◌, ◌<◌, List, [], ◌∷◌, length, Option, Some, None, refl, sym, ap, ◌∙◌, arith, get_or}
use Rattle.std.specs.Prelude.{slice_get}
use Rattle.std.specs.List.{position}
use Rattle.std.specs.Option.{option_map}
use Rattle.std.specs.BTreeMap.{BTreeMap, get}
use Rattle.std.proofs.lemmas.Option.{slice_get-map, slice_get_within, slice_get-get_or}
use Rattle.machine.specs.Data.{Id}
use Rattle.machine.specs.Throw.{on_some}
use Rattle.assemblies.specs.Rows.{Assembly}
use Rattle.assemblies.specs.Binding.{id_at, is_type, type_in}
use Rattle.world_rows.specs.Rows.{alone}
use Rattle.world_rows.specs.World.{rows_alone}
use Rattle.type_names.specs.declared.file.File.{File}
use Rattle.type_names.specs.declared.keys.NameKey.{NameKey}
use Rattle.type_names.specs.declared.names.Names.TheInside.{Inside}
use Rattle.type_names.specs.Files.{part_of, parts_of}
use Rattle.type_names.specs.Names.{ref_of, type_order}
use Rattle.type_names.specs.Index.{IsIndex}

pub none_past : {A : Type 0} (xs : List A) (k : ℕ) → slice_get xs k ≡ None → length xs ≤ k
none_past [] k e = omega arith
none_past (x ∷ xs) zero e = cc e
none_past (x ∷ xs) (suc k) e = let few = none_past xs k e in omega arith

-- an element of a list that is another name of it
pub stands_at : {A : Type 0} (xs ys : List A) (i : ℕ) (x : A) → xs ≡ ys → i < length xs → x ≡ get_or xs i x → slice_get ys i ≡ Some x
stands_at xs ys i x same within is = ap (λ zs. slice_get zs i) (sym same) ∙ slice_get-get_or xs i x within ∙ ap Some (sym is)

module _ (n : Inside) (index : IsIndex n) where
  pub type_at : (f : ℕ) (key : NameKey) → type_in (rows_alone (parts_of n.files.now)) f key.enclosing (ref_of key) ≡ on_some (slice_get n.types.items f) (λ places. option_map (id_at f) (get type_order places key))
  type_at f key =
      ap (λ o. on_some o found) (slice_get-map alone (parts_of n.files.now) f ∙ ap (option_map alone) (slice_get-map part_of n.files.now f))
      ∙ go (slice_get n.files.now f) (slice_get n.types.items f) refl refl
    where
      found : Assembly → Option Id
      found p = option_map (id_at f) (position (is_type key.enclosing (ref_of key)) p.types)

      go : (a : Option File) (b : Option (BTreeMap NameKey ℕ)) → slice_get n.files.now f ≡ a → slice_get n.types.items f ≡ b → on_some (option_map alone (option_map part_of a)) found ≡ on_some b (λ places. option_map (id_at f) (get type_order places key))
      go None None e g = refl
      go (Some x) (Some places) e g = ap (option_map (id_at f)) (sym (index.types f x places e g key))
      go None (Some places) e g = let within = slice_get_within n.types.items f places g in let few = none_past n.files.now f e in let same = index.count in absurd (omega arith)
      go (Some x) None e g = let within = slice_get_within n.files.now f x e in let few = none_past n.types.items f g in let same = index.count in absurd (omega arith)
