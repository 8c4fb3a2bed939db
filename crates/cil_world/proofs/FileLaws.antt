-- Files of a table, one after the other.
use Rattle.std.proofs.Common.{◌≡◌, ℕ, zero, suc, ◌⊎◌, inl, inr, List, [], ◌∷◌, ◌++◌, length, map, Some, refl, sym, subst, ap, ◌∙◌}
use Rattle.std.specs.Prelude.{slice_get}
use Rattle.std.specs.Option.{option_map}
use Rattle.std.proofs.lemmas.Option.{slice_get-map}
use Rattle.file_tables.specs.File.{FilePart}
use Rattle.type_names.proofs.Resolving.{got_last}
use Rattle.class_table.specs.declared.rows.ClassRow.{ClassRow}
use Rattle.class_table.specs.declared.rows.FileRows.{FileRows}
use Rattle.class_table.specs.Outlines.{AreRead}
use Rattle.class_table.specs.Whole.{AreFields, AreMethods, IsFile}
use Rattle.cil_world.specs.declared.table.Members.{Members}
use Rattle.cil_world.specs.Members.{IsMembers, AreMembers}

pub members_more : (files : List FilePart) (all : List Members) (m : Members) → AreMembers files all → IsMembers files (length all) m → AreMembers files (all ++ m ∷ [])
members_more files all m each last n y e = go (got_last all m n y e)
  where
    go : (slice_get all n ≡ Some y) ⊎ ((n ≡ length all) × (m ≡ y)) → IsMembers files n y
    go (inl f) = each n y f
    go (inr (f, g)) = subst (λ k. IsMembers files k y) (sym f) (subst (IsMembers files (length all)) g last)

-- ---- what is made of elements taken from one list and put behind another

pub moved : {A B C : Type 0} (f : A → C) (g : B → C) (done : List A) (x : A) (y : B) (before rest : List B) → before ≡ y ∷ rest → f x ≡ g y → map f (done ++ x ∷ []) ++ map g rest ≡ map f done ++ map g before
moved {A} {B} {C} f g done x y before rest e same = go done ∙ ap (λ bs. map f done ++ map g bs) (sym e)
  where
    go : (xs : List A) → map f (xs ++ x ∷ []) ++ map g rest ≡ map f xs ++ map g (y ∷ rest)
    go [] = ap (λ c. c ∷ map g rest) same
    go (z ∷ zs) = ap (λ cs. f z ∷ cs) (go zs)

pub all_moved : {A B C : Type 0} (f : A → C) (g : B → C) (done : List A) (rest : List B) → length rest ≡ 0 → map f done ++ map g rest ≡ map f done
all_moved {A} {B} {C} f g done [] e = nothing (map f done)
  where
    nothing : (xs : List C) → xs ++ [] ≡ xs
    nothing [] = refl
    nothing (x ∷ xs) = ap (λ ys. x ∷ ys) (nothing xs)
all_moved {A} {B} {C} f g done (x ∷ xs) e = cc e

-- ---- each file by its parts

mapped : {A B : Type 0} (g : A → B) (xs : List A) (n : ℕ) (y : B) → slice_get (map g xs) n ≡ Some y → (x : A) × (slice_get xs n ≡ Some x) × (g x ≡ y)
mapped g [] n y e = cc e
mapped g (x ∷ xs) zero y e = let same : g x ≡ y = cc e in (x, refl, same)
mapped g (x ∷ xs) (suc n) y e = mapped g xs n y e

module _ (files : List FilePart) (classes : List (List ClassRow)) (members : List Members) (all : List FileRows) where
  pub files_are : map (λ (f : FileRows). f.classes.items) all ≡ classes → map (λ (f : FileRows). f.fields.items) all ≡ map (λ (m : Members). m.fields.items) members → map (λ (f : FileRows). f.methods.items) all ≡ map (λ (m : Members). m.methods.items) members → AreRead files classes → AreMembers files members → (file : ℕ) (f : FileRows) → slice_get all file ≡ Some f → IsFile files file f
  files_are of_classes of_fields of_methods read have file f here =
      let class_rows = ap (λ xs. slice_get xs file) (sym of_classes) ∙ slice_get-map (λ (x : FileRows). x.classes.items) all file ∙ ap (option_map (λ (x : FileRows). x.classes.items)) here in
      let field_rows = ap (λ xs. slice_get xs file) (sym of_fields) ∙ slice_get-map (λ (x : FileRows). x.fields.items) all file ∙ ap (option_map (λ (x : FileRows). x.fields.items)) here in
      let method_rows = ap (λ xs. slice_get xs file) (sym of_methods) ∙ slice_get-map (λ (x : FileRows). x.methods.items) all file ∙ ap (option_map (λ (x : FileRows). x.methods.items)) here in
      let with_fields = mapped (λ (m : Members). m.fields.items) members file f.fields.items field_rows in
      let with_methods = mapped (λ (m : Members). m.methods.items) members file f.methods.items method_rows in
      record {
        classes = read file f.classes.items class_rows;
        fields = subst (AreFields files file) with_fields.2 (have file with_fields.0 with_fields.1).fields;
        methods = subst (AreMethods files file) with_methods.2 (have file with_methods.0 with_methods.1).methods;
      }
