-- The machine's questions about classes and code, one by one.
use Rattle.std.proofs.Common.{◌≡◌, ⊎_elim, ℕ, ◌≤◌, ◌<◌, true, false, ◌&&◌, ◌||◌, List, [], ◌∷◌, map, Option, Some, None, refl, sym, ap, ◌∙◌, arith}
use Rattle.std.specs.List.{find, filter}
use Rattle.std.specs.Prelude.{nat_eq, nat_lt, nat_le, unwrap_or, if◌then◌else◌}
use Rattle.std.specs.Option.{option_map}
use Rattle.std.proofs.lemmas.Bool.{lt-ltb, le-ltb, le-leb, lt-leb, eq-eqb, ne_eqb, cases_lt}
use Rattle.plain_types.specs.declared.elem.Elem.TheVariants as elem
use Rattle.machine.specs.Data.{Id, elem_number, type_eq, CliType, Basic, EnumOf, ClassOf, ValueOf, ArrayOf, cell_of}
use Rattle.machine.specs.Throw.{on_some}
use Rattle.machine_rename.specs.Rename.{Renaming, type_to, initialiser_to}
use Rattle.machine_rename.proofs.Base.{cell_law, some_law, some_eq, if_law}
use Rattle.classes.specs.Classes.{SigType, OwnField, OwnMethod, Class, Classes}
use Rattle.classes.specs.Queries as q
use Rattle.classes.specs.Queries.{type_of, place_of, this_of, methods_of, method_at, field_at, instance_fields, cons_some, field_types, is_static_kind, data_of, class_of, is_object, classes_fit, elements_by, initialiser, is_initialiser, is_or_implements}
use Rattle.classes.specs.Listed.{if_eager}
use Rattle.alike.specs.Carry.{sig_to, field_to, own_method_to}
use Rattle.alike.specs.Alike.{Kept, ClassesAlike}
use Rattle.alike.proofs.Lists.{find_map, find_none, find_kept}
use Rattle.alike.proofs.Chains.{both, implements_law, instance_fields_law}
use Rattle.alike.proofs.Members.{type_of_law, field_at_law, kept_methods, is_kept}

-- ---- lists and answers

pub map_over : {A B C D : Type 0} (f : B → D) (g : A → B) (h : C → D) (k : A → C) (xs : List A) → ((x : A) → f (g x) ≡ h (k x)) → map f (map g xs) ≡ map h (map k xs)
map_over f g h k [] e = refl
map_over f g h k (x ∷ xs) e = ap (λ y. y ∷ map f (map g xs)) (e x) ∙ ap (λ ys. h (k x) ∷ ys) (map_over f g h k xs e)

pub same_map : {A C D : Type 0} (f' : A → D) (h : C → D) (f : A → C) (o' o : Option A) → o' ≡ o → ((x : A) → f' x ≡ h (f x)) → option_map f' o' ≡ option_map h (option_map f o)
same_map f' h f o' o e k = ap (option_map f') e ∙ go o
  where
    go : (o : Option _) → option_map f' o ≡ option_map h (option_map f o)
    go None = refl
    go (Some x) = ap Some (k x)

pub other_map : {A B C D : Type 0} (g : A → B) (f' : B → D) (h : C → D) (f : A → C) (o' : Option B) (o : Option A) → o' ≡ option_map g o → ((x : A) → f' (g x) ≡ h (f x)) → option_map f' o' ≡ option_map h (option_map f o)
other_map g f' h f o' o e k = ap (option_map f') e ∙ go o
  where
    go : (o : Option _) → option_map f' (option_map g o) ≡ option_map h (option_map f o)
    go None = refl
    go (Some x) = ap Some (k x)

-- ---- types

module _ (r : Renaming) (kept : Kept) (low high : Classes) (a : ClassesAlike r kept low high) where
  type_eq_law : (t u : CliType) → type_eq (type_to r t) (type_to r u) ≡ type_eq t u
  type_eq_law (Basic e) (Basic g) = refl
  type_eq_law (Basic e) (EnumOf g d) = refl
  type_eq_law (Basic e) (ClassOf d) = refl
  type_eq_law (Basic e) (ValueOf d) = refl
  type_eq_law (Basic e) (ArrayOf u) = refl
  type_eq_law (EnumOf e c) (Basic g) = refl
  type_eq_law (EnumOf e c) (EnumOf g d) = ap (λ b. nat_eq (elem_number e) (elem_number g) && b) (a.types c d)
  type_eq_law (EnumOf e c) (ClassOf d) = refl
  type_eq_law (EnumOf e c) (ValueOf d) = refl
  type_eq_law (EnumOf e c) (ArrayOf u) = refl
  type_eq_law (ClassOf c) (Basic g) = refl
  type_eq_law (ClassOf c) (EnumOf g d) = refl
  type_eq_law (ClassOf c) (ClassOf d) = a.types c d
  type_eq_law (ClassOf c) (ValueOf d) = refl
  type_eq_law (ClassOf c) (ArrayOf u) = refl
  type_eq_law (ValueOf c) (Basic g) = refl
  type_eq_law (ValueOf c) (EnumOf g d) = refl
  type_eq_law (ValueOf c) (ClassOf d) = refl
  type_eq_law (ValueOf c) (ValueOf d) = a.types c d
  type_eq_law (ValueOf c) (ArrayOf u) = refl
  type_eq_law (ArrayOf t) (Basic g) = refl
  type_eq_law (ArrayOf t) (EnumOf g d) = refl
  type_eq_law (ArrayOf t) (ClassOf d) = refl
  type_eq_law (ArrayOf t) (ValueOf d) = refl
  type_eq_law (ArrayOf t) (ArrayOf u) = type_eq_law t u

  class_of_law : (t : CliType) → class_of high (type_to r t) ≡ option_map r.type (class_of low t)
  class_of_law (Basic e) = a.basic e
  class_of_law (EnumOf e c) = refl
  class_of_law (ClassOf c) = refl
  class_of_law (ValueOf c) = refl
  class_of_law (ArrayOf t) = refl

  some_eq_law : (x y : Option Id) → q.some_eq (option_map r.type x) (option_map r.type y) ≡ q.some_eq x y
  some_eq_law None None = refl
  some_eq_law None (Some d) = refl
  some_eq_law (Some c) None = refl
  some_eq_law (Some c) (Some d) = a.types c d

  classes_fit_law : (x y : Option Id) → classes_fit high (option_map r.type x) (option_map r.type y) ≡ classes_fit low x y
  classes_fit_law None None = refl
  classes_fit_law None (Some d) = refl
  classes_fit_law (Some c) None = refl
  classes_fit_law (Some c) (Some d) = implements_law r kept low high a c d

  object_law : (u : CliType) → is_object high (type_to r u) ≡ is_object low u
  object_law u =
      ap (λ b. b || q.some_eq (class_of high (type_to r u)) (q.basic high elem.Object)) (type_eq_law u (Basic elem.Object))
      ∙ ap (λ c. type_eq u (Basic elem.Object) || q.some_eq c (q.basic high elem.Object)) (class_of_law u)
      ∙ ap (λ c. type_eq u (Basic elem.Object) || q.some_eq (option_map r.type (class_of low u)) c) (a.basic elem.Object)
      ∙ ap (λ b. type_eq u (Basic elem.Object) || b) (some_eq_law (class_of low u) (q.basic low elem.Object))

  flat : (t u : CliType) → (type_eq (type_to r t) (type_to r u) || (is_object high (type_to r u) || classes_fit high (class_of high (type_to r t)) (class_of high (type_to r u)))) ≡ (type_eq t u || (is_object low u || classes_fit low (class_of low t) (class_of low u)))
  flat t u =
      ap (λ b. b || (is_object high (type_to r u) || classes_fit high (class_of high (type_to r t)) (class_of high (type_to r u)))) (type_eq_law t u)
      ∙ ap (λ b. type_eq t u || (b || classes_fit high (class_of high (type_to r t)) (class_of high (type_to r u)))) (object_law u)
      ∙ ap (λ c. type_eq t u || (is_object low u || classes_fit high c (class_of high (type_to r u)))) (class_of_law t)
      ∙ ap (λ c. type_eq t u || (is_object low u || classes_fit high (option_map r.type (class_of low t)) c)) (class_of_law u)
      ∙ ap (λ b. type_eq t u || (is_object low u || b)) (classes_fit_law (class_of low t) (class_of low u))

  as_array : (u : CliType) → (is_object high (type_to r u) || q.some_eq (class_of high (type_to r u)) (q.array high)) ≡ (is_object low u || q.some_eq (class_of low u) (q.array low))
  as_array u =
      ap (λ b. b || q.some_eq (class_of high (type_to r u)) (q.array high)) (object_law u)
      ∙ ap (λ c. is_object low u || q.some_eq c (q.array high)) (class_of_law u)
      ∙ ap (λ c. is_object low u || q.some_eq (option_map r.type (class_of low u)) c) a.array
      ∙ ap (λ b. is_object low u || b) (some_eq_law (class_of low u) (q.array low))

  pub fits_law : (t u : CliType) → q.fits high (type_to r t) (type_to r u) ≡ q.fits low t u
  fits_law (ArrayOf t) (ArrayOf u) =
      ap (λ b. b || elements_by (cell_of (type_to r t)) (cell_of (type_to r u)) (q.fits high (type_to r t) (type_to r u))) (type_eq_law t u)
      ∙ ap (λ c. type_eq t u || elements_by c (cell_of (type_to r u)) (q.fits high (type_to r t) (type_to r u))) (cell_law r t)
      ∙ ap (λ c. type_eq t u || elements_by (cell_of t) c (q.fits high (type_to r t) (type_to r u))) (cell_law r u)
      ∙ ap (λ b. type_eq t u || elements_by (cell_of t) (cell_of u) b) (fits_law t u)
  fits_law (ArrayOf t) (Basic g) = as_array (Basic g)
  fits_law (ArrayOf t) (EnumOf g d) = as_array (EnumOf g d)
  fits_law (ArrayOf t) (ClassOf d) = as_array (ClassOf d)
  fits_law (ArrayOf t) (ValueOf d) = as_array (ValueOf d)
  fits_law (Basic e) (ArrayOf u) = refl
  fits_law (EnumOf e c) (ArrayOf u) = refl
  fits_law (ClassOf c) (ArrayOf u) = refl
  fits_law (ValueOf c) (ArrayOf u) = refl
  fits_law (Basic e) (Basic g) = flat (Basic e) (Basic g)
  fits_law (Basic e) (EnumOf g d) = flat (Basic e) (EnumOf g d)
  fits_law (Basic e) (ClassOf d) = flat (Basic e) (ClassOf d)
  fits_law (Basic e) (ValueOf d) = flat (Basic e) (ValueOf d)
  fits_law (EnumOf e c) (Basic g) = flat (EnumOf e c) (Basic g)
  fits_law (EnumOf e c) (EnumOf g d) = flat (EnumOf e c) (EnumOf g d)
  fits_law (EnumOf e c) (ClassOf d) = flat (EnumOf e c) (ClassOf d)
  fits_law (EnumOf e c) (ValueOf d) = flat (EnumOf e c) (ValueOf d)
  fits_law (ClassOf c) (Basic g) = flat (ClassOf c) (Basic g)
  fits_law (ClassOf c) (EnumOf g d) = flat (ClassOf c) (EnumOf g d)
  fits_law (ClassOf c) (ClassOf d) = flat (ClassOf c) (ClassOf d)
  fits_law (ClassOf c) (ValueOf d) = flat (ClassOf c) (ValueOf d)
  fits_law (ValueOf c) (Basic g) = flat (ValueOf c) (Basic g)
  fits_law (ValueOf c) (EnumOf g d) = flat (ValueOf c) (EnumOf g d)
  fits_law (ValueOf c) (ClassOf d) = flat (ValueOf c) (ClassOf d)
  fits_law (ValueOf c) (ValueOf d) = flat (ValueOf c) (ValueOf d)

  -- ---- fields

  cons_law : (x : Option CliType) (xs : Option (List CliType)) → cons_some (option_map (type_to r) x) (option_map (map (type_to r)) xs) ≡ option_map (map (type_to r)) (cons_some x xs)
  cons_law None None = refl
  cons_law None (Some ts) = refl
  cons_law (Some t) None = refl
  cons_law (Some t) (Some ts) = refl

  signed_law : (o : Option SigType) → option_map (type_of high) (option_map (sig_to r) o) ≡ option_map (type_to r) (option_map (type_of low) o)
  signed_law None = refl
  signed_law (Some s) = ap Some (type_of_law r kept low high a s)

  field_types_law : (fs : List OwnField) → field_types high (map (field_to r) fs) ≡ option_map (map (type_to r)) (field_types low fs)
  field_types_law [] = refl
  field_types_law (f ∷ fs) =
      ap (λ o. cons_some o (field_types high (map (field_to r) fs))) (signed_law f.signature)
      ∙ ap (cons_some (option_map (type_to r) (option_map (type_of low) f.signature))) (field_types_law fs)
      ∙ cons_law (option_map (type_of low) f.signature) (field_types low fs)

  pub fields_law : (c : Id) → q.fields high (r.type c) ≡ option_map (map (type_to r)) (q.fields low c)
  fields_law c =
      both r kept low high a (λ l h. on_some h (λ k. field_types high (instance_fields high (r.type c))) ≡ option_map (map (type_to r)) (on_some l (λ k. field_types low (instance_fields low c)))) refl
      (λ l h e. ap (field_types high) (instance_fields_law r kept low high a c) ∙ field_types_law (instance_fields low c)) c

  pub static_law : (f : Id) → q.static high (r.field f) ≡ option_map (type_to r) (q.static low f)
  static_law f =
      some_law (type_to r) (field_to r) _ _ _ _ (field_at_law r kept low high a f) (λ x.
      if_law (type_to r) (is_static_kind x.kind) (is_static_kind x.kind) (option_map (type_of low) x.signature) None (option_map (type_of high) (option_map (sig_to r) x.signature)) None refl (signed_law x.signature) refl)

  pub bytes_law : (f : Id) → q.bytes high (r.field f) ≡ q.bytes low f
  bytes_law f = some_eq (field_to r) _ _ _ _ (field_at_law r kept low high a f) (λ x. refl)

  -- ---- initialisers

  find_start : (c : Id) → find is_initialiser (methods_of high (r.type c)) ≡ option_map (own_method_to r) (find is_initialiser (methods_of low c))
  find_start c =
      kept_start (find is_initialiser (methods_of high (r.type c))) refl
      ∙ ap (find is_initialiser) (kept_methods r kept low high a c)
      ∙ find_map (own_method_to r) is_initialiser is_initialiser (methods_of low c) (λ x. refl)
    where
      starts : (m : OwnMethod) → find is_initialiser (methods_of high (r.type c)) ≡ Some m → kept.method m.id ≡ true
      starts =
          both r kept low high a (λ l h. (m : OwnMethod) → find is_initialiser (unwrap_or (option_map (λ (k : Class). k.methods) h) []) ≡ Some m → kept.method m.id ≡ true) (λ m e. absurd (cc e)) (λ l h e. e.starts) c

      kept_start : (o : Option OwnMethod) → find is_initialiser (methods_of high (r.type c)) ≡ o → find is_initialiser (methods_of high (r.type c)) ≡ find is_initialiser (filter (is_kept r kept low high a) (methods_of high (r.type c)))
      kept_start None e = e ∙ sym (find_none is_initialiser (is_kept r kept low high a) (methods_of high (r.type c)) e)
      kept_start (Some m) e = e ∙ sym (find_kept is_initialiser (is_kept r kept low high a) (methods_of high (r.type c)) m e (starts m e))

  pub initialiser_law : (c : Id) → initialiser high (r.type c) ≡ option_map (initialiser_to r) (initialiser low c)
  initialiser_law c = other_map (own_method_to r) _ (initialiser_to r) _ _ (find is_initialiser (methods_of low c)) (find_start c) (λ m. refl)

  pub if_eager_law : (c : Id) → if_eager high (r.type c) ≡ option_map (initialiser_to r) (if_eager low c)
  if_eager_law c =
      both r kept low high a (λ l h. on_some h (λ (k : Class). if k.is_lazy then None else initialiser high (r.type c)) ≡ option_map (initialiser_to r) (on_some l (λ (k : Class). if k.is_lazy then None else initialiser low c))) refl
      (λ l h e. if_law (initialiser_to r) l.is_lazy h.is_lazy None (initialiser low c) None (initialiser high (r.type c)) e.is_lazy refl (initialiser_law c)) c

-- ---- places

pub nat_eq_law : (x y x' y' : ℕ) → nat_lt x' y' ≡ nat_lt x y → nat_lt y' x' ≡ nat_lt y x → nat_eq x' y' ≡ nat_eq x y
nat_eq_law x y x' y' e f =
    ⊎_elim
    (λ lt. let lt' : x' < y' = below (e ∙ lt-ltb x y lt) in ne_eqb x' y' (λ q. omega arith) ∙ sym (ne_eqb x y (λ q. omega arith)))
    (λ le. ⊎_elim
    (λ gt. let gt' : y' < x' = below (f ∙ lt-ltb y x gt) in ne_eqb x' y' (λ q. omega arith) ∙ sym (ne_eqb x y (λ q. omega arith)))
    (λ ge.
    let le' : y' ≤ x' = over (e ∙ le-ltb x y le) in
    let ge' : x' ≤ y' = over (f ∙ le-ltb y x ge) in
    let same : x ≡ y = omega arith in
    let same' : x' ≡ y' = omega arith in
    eq-eqb x' y' same' ∙ sym (eq-eqb x y same))
    (cases_lt y x))
    (cases_lt x y)
  where
    below : {m n : ℕ} → nat_lt m n ≡ true → m < n
    below {m} {n} e = ⊎_elim (λ lt. lt) (λ le. absurd (cc (sym e ∙ le-ltb m n le))) (cases_lt m n)

    over : {m n : ℕ} → nat_lt m n ≡ false → n ≤ m
    over {m} {n} e = ⊎_elim (λ lt. absurd (cc (sym e ∙ lt-ltb m n lt))) (λ le. le) (cases_lt m n)

-- not above is not below the other way round
pub le_law : (x y x' y' : ℕ) → nat_lt y' x' ≡ nat_lt y x → nat_le x' y' ≡ nat_le x y
le_law x y x' y' e =
    ⊎_elim
    (λ gt. lt-leb x' y' (below y' x' (e ∙ lt-ltb y x gt)) ∙ sym (lt-leb x y gt))
    (λ le. le-leb x' y' (over y' x' (e ∙ le-ltb y x le)) ∙ sym (le-leb x y le))
    (cases_lt y x)
  where
    below : (m n : ℕ) → nat_lt m n ≡ true → m < n
    below m n e = ⊎_elim (λ lt. lt) (λ le. absurd (cc (sym e ∙ le-ltb m n le))) (cases_lt m n)

    over : (m n : ℕ) → nat_lt m n ≡ false → n ≤ m
    over m n e = ⊎_elim (λ lt. absurd (cc (sym e ∙ lt-ltb m n lt))) (λ le. le) (cases_lt m n)
