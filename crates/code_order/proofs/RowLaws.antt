-- What the row of a method says of its code.
use Rattle.std.proofs.Common.{◌≡◌, ◌⊎◌, inl, inr, ℕ, Bool, true, false, ◌&&◌, List, Option, Some, None, refl, sym, ap, ◌∙◌, subst}
use Rattle.std.specs.Prelude.{nat_eq, is_some, if◌then◌else◌, slice_index, unwrap_or}
use Rattle.std.specs.List.{find}
use Rattle.std.specs.Option.{option_map}
use Rattle.std.proofs.lemmas.Bool.{cases_Bool}
use Rattle.cil_code.specs.Bodies.{BodyPart}
use Rattle.cil_rows.specs.declared.rows.MethodDefRow.{MethodDefRow}
use Rattle.file_tables.specs.File.{FilePart}
use Rattle.machine.specs.Data.{Id}
use Rattle.machine.specs.Program.{Method, Native, Missing, native_number}
use Rattle.machine.specs.Throw.{on_some}
use Rattle.classes.specs.Classes.{Classes, OwnMethod, Signature}
use Rattle.classes.specs.Code.{MethodCode}
use Rattle.classes.specs.Listed.{method_with, no_code}
use Rattle.classes.specs.Queries.{method_at, or_else}
use Rattle.class_rules.specs.Rules.{holds_some}
use Rattle.assemblies.specs.Binding.{id_at, holds}
use Rattle.world_rows.specs.Lines.{body_part}
use Rattle.world_rows.specs.Natives.{NativeRow, natives}
use Rattle.world_rows.specs.Rows.{is_internal}
use Rattle.class_table.specs.declared.rows.ClassRow.{ClassRow}
use Rattle.class_table.specs.declared.rows.MethodRow.{MethodRow}
use Rattle.class_table.specs.declared.rows.ClassTable.{ClassTable}
use Rattle.class_table.specs.Seen.{body_seen, native_seen, method_seen, classes_seen}
use Rattle.class_table.specs.Whole.{IsTable}
use Rattle.class_table.proofs.TableLaws.{table_law}
use Rattle.class_queries.specs.Found.{found_row}
use Rattle.class_targets.specs.Owned.{method_found}
use Rattle.class_targets.proofs.RowLaws.{no_row, no_owner, no_class, not_listed, listed_at}
use Rattle.member_tests.specs.Rows.{columns_of, def_of}
use Rattle.member_tests.proofs.MethodLaws.{method_row_is}
use Rattle.verdict_rules.specs.World.{World, world_of, method_row, no_type}
use Rattle.verdict_rules.specs.Code.{body_of, is_code}
use Rattle.code_order.specs.Told.{has_code}

pub native_is_no_code : (n : ℕ) → is_code (native_seen n) ≡ false
native_is_no_code n = go (find (λ (r : NativeRow). nat_eq (native_number r.number) n) natives)
  where
    go : (o : Option NativeRow) → is_code (unwrap_or (option_map (λ (r : NativeRow). Native r.number) o) Missing) ≡ false
    go None = refl
    go (Some r) = refl

-- ---- the body of a row

module _ (d : MethodDefRow) (row : List ℕ) (x : FilePart) (read : d ≡ def_of row) where
  internal_is : is_internal (columns_of d) ≡ is_internal row
  internal_is = ap (λ (e : MethodDefRow). is_internal (columns_of e)) read

  pub no_body : is_internal (columns_of d) ≡ true → None ≡ body_of x row
  no_body internal = sym (ap (λ b. if b then None else body_part x (slice_index row 0)) (sym internal_is ∙ internal))

  pub own_body : (b : Option BodyPart) → is_internal (columns_of d) ≡ false → b ≡ body_part x d.rva → b ≡ body_of x row
  own_body b internal e =
      e
      ∙ ap (λ (e : MethodDefRow). body_part x e.rva) read
      ∙ sym (ap (λ b. if b then None else body_part x (slice_index row 0)) (sym internal_is ∙ internal))

-- ---- whether a class has it or not

abbrev coded : Option Method → Bool
coded o = holds_some o (λ m. is_code m.body)

abbrev signed : OwnMethod → Bool
signed m = is_some m.signature && is_code m.body

module _ (cs : Classes) (code : MethodCode) (none : Id) where
  abbrev made : Id → OwnMethod → Option Signature → Option Method
  made owner m o = option_map (λ s. method_with cs owner m s code) o

  alone : (m : OwnMethod) (o : Option Signature) → coded (made none m o) ≡ (is_some o && is_code m.body)
  alone m None = refl
  alone m (Some s) = refl

  first : (owner : Id) (m : OwnMethod) (o : Option Signature) → coded (or_else (made owner m o) (made none m o)) ≡ (is_some o && is_code m.body)
  first owner m None = refl
  first owner m (Some s) = refl

  unowned_coded : (row : Option OwnMethod) → coded (on_some row (λ m. made none m m.signature)) ≡ holds_some row signed
  unowned_coded None = refl
  unowned_coded (Some m) = alone m m.signature

  either_coded : (owner : Option Id) (at row : Option OwnMethod) → (at ≡ None) ⊎ (at ≡ row) → coded (or_else (on_some owner (λ o. on_some at (λ m. made o m m.signature))) (on_some row (λ m. made none m m.signature))) ≡ holds_some row signed
  either_coded None at row same = unowned_coded row
  either_coded (Some o) None row same = unowned_coded row
  either_coded (Some o) (Some m) row (inl e) = absurd (cc e)
  either_coded (Some o) (Some m) row (inr e) = subst (λ r. coded (or_else (made o m m.signature) (on_some r (λ m. made none m m.signature))) ≡ holds_some r signed) e (first o m m.signature)

-- ---- a row of the table

module _ (t : ClassTable) (file n : ℕ) where
  abbrev id : Id
  id = id_at file n

  listed_or_none : (r : MethodRow) → method_found t id ≡ Some r → (method_at (classes_seen t) id ≡ None) ⊎ (method_at (classes_seen t) id ≡ Some (method_seen file n r))
  listed_or_none r found = by_owner r.owner refl
    where
      by_list : (owner : ℕ) → r.owner ≡ Some owner → (k : ClassRow) → found_row t (id_at file owner) ≡ Some k → (holds k.first_method k.method_count n ≡ true) ⊎ (holds k.first_method k.method_count n ≡ false) → (method_at (classes_seen t) id ≡ None) ⊎ (method_at (classes_seen t) id ≡ Some (method_seen file n r))
      by_list owner has k class (inl within) = inr (listed_at t id r found owner has k class within)
      by_list owner has k class (inr outside) = inl (not_listed t id r found owner has k class outside)

      by_class : (owner : ℕ) → r.owner ≡ Some owner → (o : Option ClassRow) → found_row t (id_at file owner) ≡ o → (method_at (classes_seen t) id ≡ None) ⊎ (method_at (classes_seen t) id ≡ Some (method_seen file n r))
      by_class owner has None class = inl (no_class t id r found owner has class)
      by_class owner has (Some k) class = by_list owner has k class (cases_Bool (holds k.first_method k.method_count n))

      by_owner : (o : Option ℕ) → r.owner ≡ o → (method_at (classes_seen t) id ≡ None) ⊎ (method_at (classes_seen t) id ≡ Some (method_seen file n r))
      by_owner None e = inl (no_owner t id r found e)
      by_owner (Some owner) e = by_class owner e (found_row t (id_at file owner)) refl

  at_row : (o : Option MethodRow) → method_found t id ≡ o → (method_at (classes_seen t) id ≡ None) ⊎ (method_at (classes_seen t) id ≡ option_map (method_seen file n) o)
  at_row None found = inl (no_row t id found)
  at_row (Some r) found = listed_or_none r found

  module _ (files : List FilePart) (table : IsTable files t) (x : FilePart) where
    abbrev w : World
    w = world_of files

    same_at : method_at w.sources.classes id ≡ method_at (classes_seen t) id
    same_at = ap (λ cs. method_at cs id) (sym (table_law files t table))

    here : (o : Option MethodRow) → method_found t id ≡ o → has_code w file x n ≡ holds_some (option_map (method_seen file n) o) signed
    here o found =
        let row : method_row w file n ≡ option_map (method_seen file n) o = method_row_is files t table file n ∙ ap (option_map (method_seen file n)) found in
        either_coded w.sources.classes (unwrap_or (w.sources.code id) no_code) (no_type file x) (w.sources.classes.method_owner id) (method_at w.sources.classes id) (method_row w file n) (go (at_row o found) row)
        ∙ ap (λ r. holds_some r signed) row
      where
        go : (method_at (classes_seen t) id ≡ None) ⊎ (method_at (classes_seen t) id ≡ option_map (method_seen file n) o) → method_row w file n ≡ option_map (method_seen file n) o → (method_at w.sources.classes id ≡ None) ⊎ (method_at w.sources.classes id ≡ method_row w file n)
        go (inl e) row = inl (same_at ∙ e)
        go (inr e) row = inr (same_at ∙ e ∙ sym row)

    pub no_method : method_found t id ≡ None → false ≡ has_code w file x n
    no_method found = sym (here None found)

    pub a_method : (r : MethodRow) (result : Bool) → method_found t id ≡ Some r → result ≡ (is_some r.signature && is_code (body_seen r.body)) → result ≡ has_code w file x n
    a_method r result found e = e ∙ by _ r.signature ∙ sym (here (Some r) found)
      where
        by : {A B : Type 0} (f : A → B) (o : Option A) → (is_some o && is_code (body_seen r.body)) ≡ (is_some (option_map f o) && is_code (body_seen r.body))
        by f None = refl
        by f (Some s) = refl
