-- What lies in typed objects.
use Rattle.std.proofs.Common.{◌≡◌, ℕ, zero, suc, ◌<◌, Bool, true, false, List, [], ◌∷◌, ◌++◌, map, length, replicate, take, drop, Option, Some, None, refl, sym, ap, ◌∙◌, subst, arith}
use Rattle.std.proofs.lemmas.Bool.{ltb-true}
use Rattle.std.specs.Prelude.{if◌then◌else◌, nat_lt, slice_get, slice_set}
use Rattle.std.proofs.Math.ListN.{length-set}
use Rattle.board_types.specs.declared.board.Known.{Known}
use Rattle.board_types.specs.declared.board.Known.TheVariants.{NullReference}
use Rattle.plain_types.specs.declared.elem.Elem.{Elem}
use Rattle.plain_types.specs.declared.elem.Elem.TheVariants as elem
use Rattle.machine.specs.Data.{Id, Cell, CliType, Basic, EnumOf, ClassOf, ValueOf, ArrayOf, cell_of, thing_at, type_of, Value, Int, Long, Null, Object, Handle, Pointer, Thing, Instance, Text, Elements, Boxed, StaticCell, Frame, State}
use Rattle.machine.specs.Program.{Program, Method}
use Rattle.machine.specs.Throw.{on_some}
use Rattle.machine.specs.Numbers.{same_width}
use Rattle.machine.specs.Rows.{on_cell, value_in, with_value, on_thing_or, on_instance, on_elements}
use Rattle.machine_typed.specs.Typing.{StackType, O, Nil, of_type, is_plain, is_number, has_width, ArrayKind, NullArray, ArrayWith, array_of}
use Rattle.machine_typed.specs.Accepted.{Typing, HasInstances, is_enum, is_array, elements_fit, Accepted}
use Rattle.machine_typed.proofs.Heaps.{OfClass, OfElements, mould_of, get_map, some_same, some_inv}
use Rattle.machine_typed.proofs.Types.{width_cell}
use Rattle.machine_typed.proofs.Values.{Context, place_in, HasType, Every, get_have, set_have}
use Rattle.machine_typed.proofs.States.{over, ThingFits, There, Goes, some_goes, Now}
use Rattle.machine_typed.proofs.Steps.{test_goes, thing_goes}
use Rattle.machine_typed.proofs.Throws.{raise_fine}

module _ (p : Program) where
  -- ---- lists of values of one type

  pub every_at : (cx : Context) (u : StackType) (vs : List Value) (n : ℕ) (v : Value) → Every p cx u vs → slice_get vs n ≡ Some v → HasType p cx v u
  every_at cx u [] n v h e = absurd (cc e)
  every_at cx u (w ∷ vs) zero v h e = subst (λ z. HasType p cx z u) (some_same w v e) h.0
  every_at cx u (w ∷ vs) (suc n) v h e = every_at cx u vs n v h.1 e

  pub every_set : (cx : Context) (u : StackType) (vs : List Value) (n : ℕ) (v : Value) → Every p cx u vs → HasType p cx v u → Every p cx u (slice_set vs n v)
  every_set cx u [] n v h k = h
  every_set cx u (w ∷ vs) zero v h k = (k, h.1)
  every_set cx u (w ∷ vs) (suc n) v h k = (h.0, every_set cx u vs n v h.1 k)

  pub every_append : (cx : Context) (u : StackType) (vs ws : List Value) → Every p cx u vs → Every p cx u ws → Every p cx u (vs ++ ws)
  every_append cx u [] ws h k = k
  every_append cx u (v ∷ vs) ws h k = (h.0, every_append cx u vs ws h.1 k)

  pub every_take : (cx : Context) (u : StackType) (n : ℕ) (vs : List Value) → Every p cx u vs → Every p cx u (take n vs)
  every_take cx u zero vs h = tt
  every_take cx u (suc n) [] h = tt
  every_take cx u (suc n) (v ∷ vs) h = (h.0, every_take cx u n vs h.1)

  pub every_drop : (cx : Context) (u : StackType) (n : ℕ) (vs : List Value) → Every p cx u vs → Every p cx u (drop n vs)
  every_drop cx u zero vs h = h
  every_drop cx u (suc n) [] h = tt
  every_drop cx u (suc n) (v ∷ vs) h = every_drop cx u n vs h.1

  pub every_replicate : (cx : Context) (u : StackType) (n : ℕ) (v : Value) → HasType p cx v u → Every p cx u (replicate n v)
  every_replicate cx u zero v h = tt
  every_replicate cx u (suc n) v h = (h, every_replicate cx u n v h)

  get_below : (vs : List Value) (n : ℕ) → n < length vs → (v : Value) × (slice_get vs n ≡ Some v)
  get_below [] n h = absurd (omega (arith, h))
  get_below (v ∷ vs) zero h = (v, refl)
  get_below (v ∷ vs) (suc n) h = get_below vs n (omega (arith, h))

  pub get_within : (vs : List Value) (n : ℕ) → nat_lt n (length vs) ≡ true → (v : Value) × (slice_get vs n ≡ Some v)
  get_within vs n e = get_below vs n (ltb-true n (length vs) e)

  within_if : (b : Bool) (x y : CliType) → (if b then Some x else None) ≡ Some y → (b ≡ true) × (x ≡ y)
  within_if true x y e = (refl, some_same x y e)
  within_if false x y e = absurd (cc e)

  module _ (t : Typing) where
    -- a value in an object has the type of its place
    pub value_there : (cx : Context) (x : Thing) → ThingFits p t cx x → (n : ℕ) (own : CliType) → place_in p (mould_of x) n ≡ Some own → (v : Value) × (value_in x n ≡ Some v) × HasType p cx v (of_type own)
    value_there cx (Instance class vs) h n own e =
        let ks = some_inv (p.fields class) (λ types. slice_get types n) own e in
        let at = subst (λ z. slice_get z n ≡ Some own) (some_same ks.0 h.0 (sym ks.1 ∙ h.1)) ks.2 in
        get_have p cx vs (map of_type h.0) n (of_type own) h.2 (get_map of_type h.0 n own at)
    value_there cx (Text units) h n own e = absurd (cc e)
    value_there cx (Elements element vs) h n own e =
        let w = within_if (nat_lt n (length vs)) element own e in
        let v = get_within vs n w.0 in
        (v.0, v.1, subst (λ z. HasType p cx v.0 (of_type z)) w.1 (every_at cx (of_type element) vs n v.0 h.0 v.1))
    value_there cx (Boxed type v) h n own e = (v, refl, subst (λ z. HasType p cx v (of_type z)) (some_same type own e) h.0)
    value_there cx (StaticCell type v) h n own e = (v, refl, subst (λ z. HasType p cx v (of_type z)) (some_same type own e) h)

    -- another value in its place
    pub with_there : (cx : Context) (x : Thing) → ThingFits p t cx x → (n : ℕ) (own : CliType) (v : Value) → place_in p (mould_of x) n ≡ Some own → HasType p cx v (of_type own) → ThingFits p t cx (with_value x n v) × (mould_of (with_value x n v) ≡ mould_of x)
    with_there cx (Instance class vs) h n own v e k =
        let ks = some_inv (p.fields class) (λ types. slice_get types n) own e in
        let at = subst (λ z. slice_get z n ≡ Some own) (some_same ks.0 h.0 (sym ks.1 ∙ h.1)) ks.2 in
        ((h.0, h.1, set_have p cx vs (map of_type h.0) n (of_type own) v h.2 (get_map of_type h.0 n own at) k, h.3), ap (OfClass class) (length-set vs n v))
    with_there cx (Text units) h n own v e k = absurd (cc e)
    with_there cx (Elements element vs) h n own v e k =
        let w = within_if (nat_lt n (length vs)) element own e in
        ((every_set cx (of_type element) vs n v h.0 (subst (λ z. HasType p cx v (of_type z)) (sym w.1) k), h.1, h.2), ap (OfElements element) (length-set vs n v))
    with_there cx (Boxed type w) h n own v e k = ((subst (λ z. HasType p cx v (of_type z)) (sym (some_same type own e)) k, h.1, h.2), refl)
    with_there cx (StaticCell type w) h n own v e k = (subst (λ z. HasType p cx v (of_type z)) (sym (some_same type own e)) k, refl)

    -- places of a type that are as wide
    pub cell_goes : (b : CliType) (wide : Cell) → has_width b wide ≡ true → (go : Cell → Option State) → ((c : Cell) → cell_of b ≡ Some c → same_width c wide ≡ true → Goes p t (go c)) → Goes p t (on_cell b wide go)
    cell_goes b wide e go g =
        let c = width_cell (cell_of b) wide e in
        some_goes p t (cell_of b) c.0 _ c.1 (test_goes p t (same_width c.0 wide) (go c.0) c.2 (g c.0 c.1 c.2))

    -- ---- objects by their types

    pub elements_there : (cx : Context) (x : Thing) → ThingFits p t cx x → (b : CliType) → type_of x ≡ Some (ArrayOf b) → (vs : List Value) × (x ≡ Elements b vs) × Every p cx (of_type b) vs × (is_plain b ≡ true) × (t.made (ArrayOf b) ≡ true)
    elements_there cx (Elements element vs) h b e =
        let same : element ≡ b = cc e in
        (vs, ap (λ z. Elements z vs) same, subst (λ z. Every p cx (of_type z) vs) same h.0, subst (λ z. is_plain z ≡ true) same h.1, subst (λ z. t.made (ArrayOf z) ≡ true) same h.2)
    elements_there cx (Boxed type v) h b e = let no : is_number (ArrayOf b) ≡ true = subst (λ z. is_number z ≡ true) (some_same type (ArrayOf b) e) h.1 in absurd (cc no)
    elements_there cx (Instance class vs) h b e = absurd (cc e)
    elements_there cx (Text units) h b e = absurd (cc e)
    elements_there cx (StaticCell type v) h b e = absurd (cc e)

    pub instance_there : (cx : Context) (x : Thing) → ThingFits p t cx x → (c : Id) → type_of x ≡ Some (ClassOf c) → (vs : List Value) × (x ≡ Instance c vs)
    instance_there cx (Instance class vs) h c e = let same : class ≡ c = cc e in (vs, ap (λ z. Instance z vs) same)
    instance_there cx (Boxed type v) h c e = let no : is_number (ClassOf c) ≡ true = subst (λ z. is_number z ≡ true) (some_same type (ClassOf c) e) h.1 in absurd (cc no)
    instance_there cx (Elements element vs) h c e = absurd (cc e)
    instance_there cx (Text units) h c e = absurd (cc e)
    instance_there cx (StaticCell type v) h c e = absurd (cc e)

    pub text_there : (cx : Context) (x : Thing) → ThingFits p t cx x → type_of x ≡ Some (Basic elem.String) → (units : List ℕ) × (x ≡ Text units)
    text_there cx (Text units) h e = (units, refl)
    text_there cx (Boxed type v) h e = let no : is_number (Basic elem.String) ≡ true = subst (λ z. is_number z ≡ true) (some_same type (Basic elem.String) e) h.1 in absurd (cc no)
    text_there cx (Instance class vs) h e = absurd (cc e)
    text_there cx (Elements element vs) h e = absurd (cc e)
    text_there cx (StaticCell type v) h e = absurd (cc e)

    pub box_there : (cx : Context) (x : Thing) → ThingFits p t cx x → (own : CliType) → is_number own ≡ true → type_of x ≡ Some own → (v : Value) × (x ≡ Boxed own v)
    box_there cx (Boxed type v) h own i e = (v, ap (λ z. Boxed z v) (some_same type own e))
    box_there cx (Instance class vs) h own i e = let no : is_number (ClassOf class) ≡ true = subst (λ z. is_number z ≡ true) (sym (some_same (ClassOf class) own e)) i in absurd (cc no)
    box_there cx (Text units) h own i e = let no : is_number (Basic elem.String) ≡ true = subst (λ z. is_number z ≡ true) (sym (some_same (Basic elem.String) own e)) i in absurd (cc no)
    box_there cx (Elements element vs) h own i e = let no : is_number (ArrayOf element) ≡ true = subst (λ z. is_number z ≡ true) (sym (some_same (ArrayOf element) own e)) i in absurd (cc no)
    box_there cx (StaticCell type v) h own i e = absurd (cc e)

    pub enum_type : (own : CliType) → is_enum own ≡ true → (e : Elem) × (c : Id) × (own ≡ EnumOf e c)
    enum_type (EnumOf e c) h = (e, c, refl)
    enum_type (Basic e) h = absurd (cc h)
    enum_type (ClassOf c) h = absurd (cc h)
    enum_type (ValueOf c) h = absurd (cc h)
    enum_type (ArrayOf b) h = absurd (cc h)

    pub array_type : (own : CliType) → is_array own ≡ true → (b : CliType) × (own ≡ ArrayOf b)
    array_type (ArrayOf b) h = (b, refl)
    array_type (EnumOf e c) h = absurd (cc h)
    array_type (Basic e) h = absurd (cc h)
    array_type (ClassOf c) h = absurd (cc h)
    array_type (ValueOf c) h = absurd (cc h)

    pub enum_there : (cx : Context) (x : Thing) → ThingFits p t cx x → (e : Elem) (c : Id) → type_of x ≡ Some (EnumOf e c) → (v : Value) × (x ≡ Boxed (EnumOf e c) v) × HasType p cx v (of_type (EnumOf e c)) × (is_number (EnumOf e c) ≡ true)
    enum_there cx (Boxed type v) h e c k = let same = some_same type (EnumOf e c) k in (v, ap (λ z. Boxed z v) same, subst (λ z. HasType p cx v (of_type z)) same h.0, subst (λ z. is_number z ≡ true) same h.1)
    enum_there cx (Instance class vs) h e c k = absurd (cc k)
    enum_there cx (Text units) h e c k = absurd (cc k)
    enum_there cx (Elements element vs) h e c k = absurd (cc k)
    enum_there cx (StaticCell type v) h e c k = absurd (cc k)

    module _ (a : Accepted p t) (s : State) (f : Frame) (fs : List Frame) (m : Method) (n : Now p t s f fs m) (fr : s.frames ≡ f ∷ fs) where
      -- an instance with a field
      pub record Field (i : ℕ) (k : CliType) (object : ℕ) (c : Id) (vs : List Value) : Type 0 where
        pub at : thing_at s.heap object ≡ Some (Instance c vs)
        pub fits : ThingFits p t (over s.heap []) (Instance c vs)
        pub place : place_in p (mould_of (Instance c vs)) i ≡ Some k

      pub instance_goes : (owner : Id) → HasInstances p t owner → (i : ℕ) (types : List CliType) (k : CliType) → p.fields owner ≡ Some types → slice_get types i ≡ Some k → (v : Value) → HasType p (over s.heap (f ∷ fs)) v (O (ClassOf owner)) → (go : ℕ → Id → List Value → Option State) → ((object : ℕ) (c : Id) (vs : List Value) → Field i k object c vs → Goes p t (go object c vs)) → Goes p t (on_thing_or p s NullReference v (λ object thing. on_instance p owner thing (go object)))
      instance_goes owner only i types k is at v h go g =
          thing_goes p t a s f fs m n NullReference fr v (ClassOf owner) h (λ object thing. on_instance p owner thing (go object)) (λ object own x below.
          let c = only own types i k x.made below is at in
          let y = instance_there (over s.heap []) x.thing x.fits c.0 (x.type ∙ ap Some c.1) in
          let fits : ThingFits p t (over s.heap []) (Instance c.0 y.0) = subst (ThingFits p t (over s.heap [])) y.1 x.fits in
          let place : on_some (p.fields c.0) (λ ks. slice_get ks i) ≡ Some k = ap (λ o. on_some o (λ ks. slice_get ks i)) fits.1 ∙ a.inherits c.0 owner types fits.0 i k c.2 is fits.1 at in
          subst (λ z. Goes p t (on_instance p owner z (go object))) (sym y.1)
          (test_goes p t (p.is_sub c.0 owner) (go object c.0 y.0) c.2
          (g object c.0 y.0 (record { at = subst (λ z. thing_at s.heap object ≡ Some z) y.1 x.at; fits = fits; place = place }))))

      -- an array
      pub record Array (object : ℕ) (b : CliType) (vs : List Value) : Type 0 where
        pub at : thing_at s.heap object ≡ Some (Elements b vs)
        pub every : Every p (over s.heap []) (of_type b) vs
        pub plain : is_plain b ≡ true
        pub made : t.made (ArrayOf b) ≡ true

      array_here : (object : ℕ) (own : CliType) (x : There p t a s.heap object own) (b : CliType) → own ≡ ArrayOf b → (go : ℕ → CliType → List Value → Option State) → ((vs : List Value) → Array object b vs → Goes p t (go object b vs)) → Goes p t (on_elements x.thing (go object))
      array_here object own x b same go g =
          let y = elements_there (over s.heap []) x.thing x.fits b (x.type ∙ ap Some same) in
          subst (λ z. Goes p t (on_elements z (go object))) (sym y.1)
          (g y.0 (record { at = subst (λ z. thing_at s.heap object ≡ Some z) y.1 x.at; every = y.2; plain = y.3; made = y.4 }))

      -- of an array type, its elements fit; of null there is none
      abbrev pub ElementsOf : ArrayKind → CliType → Type 0
      ElementsOf NullArray b = ⊥
      ElementsOf (ArrayWith element) b = (elements_fit p b element ≡ true) × (p.fits (ArrayOf b) (ArrayOf element) ≡ true)

      pub array_goes : (known : Known) (v : Value) (u : StackType) → HasType p (over s.heap (f ∷ fs)) v u → (array : ArrayKind) → array_of u ≡ Some array → (go : ℕ → CliType → List Value → Option State) → ((object : ℕ) (b : CliType) (vs : List Value) → Array object b vs → ElementsOf array b → Goes p t (go object b vs)) → Goes p t (on_thing_or p s known v (λ object thing. on_elements thing (go object)))
      array_goes known v (O (ArrayOf element)) h array e go g =
          thing_goes p t a s f fs m n known fr v (ArrayOf element) h (λ object thing. on_elements thing (go object)) (λ object own x below.
          let b = a.arrays own element x.made below in
          array_here object own x b.0 b.1 go (λ vs y.
          g object b.0 vs y (subst (λ z. ElementsOf z b.0) (some_same (ArrayWith element) array e) (b.2, subst (λ z. p.fits z (ArrayOf element) ≡ true) b.1 below))))
      array_goes known Null Nil h array e go g = raise_fine p t a s f fs m n fr known
      array_goes known (Int i) Nil h array e go g = absurd h
      array_goes known (Long i) Nil h array e go g = absurd h
      array_goes known (Object i) Nil h array e go g = absurd h
      array_goes known (Handle i) Nil h array e go g = absurd h
      array_goes known (Pointer i x) Nil h array e go g = absurd h
      array_goes known v _ h array e go g = absurd (cc e)

      -- an array of any type, by System.Array
      pub any_array_goes : (known : Known) (c : Id) → ((own : CliType) → t.made own ≡ true → p.fits own (ClassOf c) ≡ true → is_array own ≡ true) → (v : Value) → HasType p (over s.heap (f ∷ fs)) v (O (ClassOf c)) → (go : ℕ → CliType → List Value → Option State) → ((object : ℕ) (b : CliType) (vs : List Value) → Array object b vs → Goes p t (go object b vs)) → Goes p t (on_thing_or p s known v (λ object thing. on_elements thing (go object)))
      any_array_goes known c only v h go g =
          thing_goes p t a s f fs m n known fr v (ClassOf c) h (λ object thing. on_elements thing (go object)) (λ object own x below.
          let b = array_type own (only own x.made below) in
          array_here object own x b.0 b.1 go (λ vs y. g object b.0 vs y))
