-- Typed values, seen from a frame: the heap, and the methods of the frame and its callers.
use Rattle.std.proofs.Common.{◌≡◌, ℕ, zero, suc, ◌+◌, ◌<◌, Bool, true, false, ◌==◌, List, [], ◌∷◌, map, length, Option, Some, None, refl, sym, ap, ◌∙◌, subst, arith}
use Rattle.std.specs.Prelude.{if◌then◌else◌, nat_lt, slice_get, slice_set, pos}
use Rattle.std.specs.Option.{option_map}
use Rattle.cil_opcodes.specs.declared.shape.IntegerType.{IntegerType}
use Rattle.cil_opcodes.specs.declared.shape.IntegerType.TheVariants.{I1, U1, I2, U2, I4, U4, I8, U8}
use Rattle.plain_types.specs.declared.elem.Elem.TheVariants as elem
use Rattle.machine.specs.Data.{Id, CliType, Basic, ClassOf, ArrayOf, PlaceType, Plain, To, Cell, Bits, Refers, cell_of, Spot, InArgument, InLocal, InObject, Value, Int, Long, Null, Object, Handle, Pointer, Thing, Frame}
use Rattle.machine.specs.Program.{Program, Method}
use Rattle.machine.specs.Numbers.{is_long, same_width, PlaceKind, Holds, HoldsPointer, HoldsHandle, kind_of_type, kept, kept_in, kept_by, zero_in, zero_of, zero_place}
use Rattle.machine.specs.Throw.{on_some}
use Rattle.machine.specs.Rows.{Taken, take_arguments, keep_all, total, method_cells, frames_cells}
use Rattle.machine_typed.specs.Typing.{StackType, I, L, Nil, O, H, P, Never, number, held, in_place, of_type, loaded, is_plain, is_plain_place, agrees, assignable, all_assignable, is_reference}
use Rattle.machine_typed.specs.Accepted.{elements_fit}
use Rattle.machine_typed.proofs.Heaps.{Mould, OfClass, OfText, OfElements, OfBox, OfStatic, mould_at, Extends, some_same, some_inv, and_left, and_right}
use Rattle.machine_typed.proofs.Types.{type_held, plain_cell, agree_cell, agree_up, long_width, ElementKinds, NumberElements, ReferenceElements, element_kinds}

pub record Context : Type 0 where
  pub heap : List Thing
  pub chain : List Id

abbrev pub chain_cells : Program → List Id → ℕ
chain_cells p is = total (λ i. method_cells (p.method i)) is

abbrev pub id_at : Program → List Id → ℕ → Option Id
id_at p [] depth = None
id_at p (i ∷ is) depth = if chain_cells p (i ∷ is) == depth then Some i else id_at p is depth

pub chain_law : (p : Program) (fs : List Frame) → chain_cells p (map (λ (f : Frame). f.method) fs) ≡ frames_cells p fs
chain_law p [] = refl
chain_law p (f ∷ fs) = ap (λ n. method_cells (p.method f.method) + n) (chain_law p fs)

pub cells_positive : (o : Option Method) → 0 < method_cells o
cells_positive None = omega arith
cells_positive (Some m) = omega arith

-- the type of an object of the mould
abbrev pub type_of_mould : Mould → Option CliType
type_of_mould (OfClass class count) = Some (ClassOf class)
type_of_mould (OfText count) = Some (Basic elem.String)
type_of_mould (OfElements element count) = Some (ArrayOf element)
type_of_mould (OfBox type) = Some type
type_of_mould (OfStatic type) = None

abbrev pub type_at : List Thing → ℕ → Option CliType
type_at heap n = on_some (mould_at heap n) type_of_mould

-- pointers don't leave the frames over which they were made
abbrev pub is_flat : StackType → Bool
is_flat (P type) = false
is_flat _ = true

flat_number : (b : Bool) → is_flat (number b) ≡ true
flat_number true = refl
flat_number false = refl

flat_in : (o : Option PlaceKind) (t : CliType) → is_flat (in_place o t) ≡ true
flat_in None t = refl
flat_in (Some (Holds (Bits i))) t = flat_number (is_long i)
flat_in (Some (Holds Refers)) t = refl
flat_in (Some (HoldsPointer c)) t = refl
flat_in (Some HoldsHandle) t = refl

pub flat_type : (t : CliType) → is_flat (of_type t) ≡ true
flat_type t = flat_in (kind_of_type t) t

module _ (p : Program) where
  -- a place of a frame
  pub record InFrame (cx : Context) (places : Method → List PlaceType) (own : CliType) (depth n : ℕ) : Type 0 where
    pub id : Id
    pub there : id_at p cx.chain depth ≡ Some id
    pub method : Method
    pub is : p.method id ≡ Some method
    pub at : slice_get (places method) n ≡ Some (Plain own)

  -- the type of the n-th value in an object
  abbrev pub place_in : Mould → ℕ → Option CliType
  place_in (OfClass class count) n = on_some (p.fields class) (λ types. slice_get types n)
  place_in (OfText count) n = None
  place_in (OfElements element count) n = if nat_lt n count then Some element else None
  place_in (OfBox type) n = Some type
  place_in (OfStatic type) n = Some type

  pub record InThing (heap : List Thing) (own : CliType) (object n : ℕ) : Type 0 where
    pub mould : Mould
    pub there : mould_at heap object ≡ Some mould
    pub at : place_in mould n ≡ Some own

  abbrev pub LeadsTo : Context → CliType → Spot → Type 0
  LeadsTo cx own (InArgument depth n) = InFrame cx (λ m. m.arguments) own depth n
  LeadsTo cx own (InLocal depth n) = InFrame cx (λ m. m.locals) own depth n
  LeadsTo cx own (InObject object n) = InThing cx.heap own object n

  -- a pointer to a place whose type agrees
  pub record Points (cx : Context) (type : CliType) (cell : Cell) (spot : Spot) : Type 0 where
    pub own : CliType
    pub leads : LeadsTo cx own spot
    pub is : cell_of own ≡ Some cell
    pub fine : agrees own type ≡ true

  -- an object whose type is assignable
  pub record Names (heap : List Thing) (n : ℕ) (type : CliType) : Type 0 where
    pub own : CliType
    pub at : type_at heap n ≡ Some own
    pub below : p.fits own type ≡ true

  abbrev pub HasType : Context → Value → StackType → Type 0
  HasType cx (Int n) I = Unit {0}
  HasType cx (Long n) L = Unit {0}
  HasType cx Null Nil = Unit {0}
  HasType cx Null (O type) = Unit {0}
  HasType cx (Object n) (O type) = Names cx.heap n type
  HasType cx (Handle f) H = (bytes : List ℕ) × (p.bytes f ≡ Some bytes)
  HasType cx (Pointer cell spot) (P type) = Points cx type cell spot
  HasType cx _ _ = ⊥

  abbrev pub HaveAll : Context → List Value → List StackType → Type 0
  HaveAll cx [] [] = Unit {0}
  HaveAll cx [] (t ∷ ts) = ⊥
  HaveAll cx (v ∷ vs) [] = ⊥
  HaveAll cx (v ∷ vs) (t ∷ ts) = HasType cx v t × HaveAll cx vs ts

  abbrev pub Every : Context → StackType → List Value → Type 0
  Every cx t [] = Unit {0}
  Every cx t (v ∷ vs) = HasType cx v t × Every cx t vs

  -- what is seen from there is seen from here
  pub record Reaches (old new : Context) : Type 0 where
    pub heap : Extends old.heap new.heap
    pub chain : (depth : ℕ) (id : Id) → id_at p old.chain depth ≡ Some id → id_at p new.chain depth ≡ Some id

  leads_more : (old new : Context) → Reaches old new → (c : CliType) (x : Spot) → LeadsTo old c x → LeadsTo new c x
  leads_more old new x c (InArgument depth n) h = record { id = h.id; there = x.chain depth h.id h.there; method = h.method; is = h.is; at = h.at }
  leads_more old new x c (InLocal depth n) h = record { id = h.id; there = x.chain depth h.id h.there; method = h.method; is = h.is; at = h.at }
  leads_more old new x c (InObject object n) h = record { mould = h.mould; there = x.heap.keeps object h.mould h.there; at = h.at }

  pub names_more : (old new : List Thing) → Extends old new → (n : ℕ) (t : CliType) → Names old n t → Names new n t
  names_more old new x n t h =
      let y = some_inv (mould_at old n) type_of_mould h.own h.at in
      record { own = h.own; at = ap (λ o. on_some o type_of_mould) (x.keeps n y.0 y.1) ∙ y.2; below = h.below }

  pub has_more : (old new : Context) → Reaches old new → (v : Value) (t : StackType) → HasType old v t → HasType new v t
  has_more old new x (Int n) I h = h
  has_more old new x (Long n) L h = h
  has_more old new x Null Nil h = h
  has_more old new x Null (O c) h = h
  has_more old new x (Object n) (O c) h = names_more old.heap new.heap x.heap n c h
  has_more old new x (Pointer cell spot) (P c) h = record { own = h.own; leads = leads_more old new x h.own spot h.leads; is = h.is; fine = h.fine }
  has_more old new x (Handle f) H h = h
  has_more old new x _ _ h = absurd h

  pub have_more : (old new : Context) → Reaches old new → (vs : List Value) (ts : List StackType) → HaveAll old vs ts → HaveAll new vs ts
  have_more old new x [] [] h = h
  have_more old new x [] (t ∷ ts) h = h
  have_more old new x (v ∷ vs) [] h = h
  have_more old new x (v ∷ vs) (t ∷ ts) h = (has_more old new x v t h.0, have_more old new x vs ts h.1)

  pub every_more : (old new : Context) → Reaches old new → (t : StackType) (vs : List Value) → Every old t vs → Every new t vs
  every_more old new x t [] h = h
  every_more old new x t (v ∷ vs) h = (has_more old new x v t h.0, every_more old new x t vs h.1)

  -- what is no pointer is seen from anywhere
  pub has_flat : (cx dx : Context) → Extends cx.heap dx.heap → (v : Value) (t : StackType) → is_flat t ≡ true → HasType cx v t → HasType dx v t
  has_flat cx dx x (Int n) I e h = h
  has_flat cx dx x (Long n) L e h = h
  has_flat cx dx x Null Nil e h = h
  has_flat cx dx x Null (O c) e h = h
  has_flat cx dx x (Object n) (O c) e h = names_more cx.heap dx.heap x n c h
  has_flat cx dx x (Handle f) H e h = h
  has_flat cx dx x (Pointer c s) (P d) e h = absurd (cc e)
  has_flat cx dx x _ _ e h = absurd h

  pub get_have : (cx : Context) (vs : List Value) (ts : List StackType) (n : ℕ) (t : StackType) → HaveAll cx vs ts → slice_get ts n ≡ Some t → (v : Value) × (slice_get vs n ≡ Some v) × HasType cx v t
  get_have cx [] [] n t h e = absurd (cc e)
  get_have cx [] (u ∷ ts) n t h e = absurd h
  get_have cx (v ∷ vs) [] n t h e = absurd h
  get_have cx (v ∷ vs) (u ∷ ts) zero t h e = (v, refl, subst (HasType cx v) (some_same u t e) h.0)
  get_have cx (v ∷ vs) (u ∷ ts) (suc n) t h e = get_have cx vs ts n t h.1 e

  pub set_have : (cx : Context) (vs : List Value) (ts : List StackType) (n : ℕ) (t : StackType) (w : Value) → HaveAll cx vs ts → slice_get ts n ≡ Some t → HasType cx w t → HaveAll cx (slice_set vs n w) ts
  set_have cx [] [] n t w h e k = h
  set_have cx [] (u ∷ ts) n t w h e k = absurd h
  set_have cx (v ∷ vs) [] n t w h e k = absurd h
  set_have cx (v ∷ vs) (u ∷ ts) zero t w h e k = (subst (HasType cx w) (sym (some_same u t e)) k, h.1)
  set_have cx (v ∷ vs) (u ∷ ts) (suc n) t w h e k = (h.0, set_have cx vs ts n t w h.1 e k)

  pub length_have : (cx : Context) (vs : List Value) (ts : List StackType) → HaveAll cx vs ts → length vs ≡ length ts
  length_have cx [] [] h = refl
  length_have cx [] (t ∷ ts) h = absurd h
  length_have cx (v ∷ vs) [] h = absurd h
  length_have cx (v ∷ vs) (t ∷ ts) h = ap suc (length_have cx vs ts h.1)

  pub take_have : (cx : Context) (n : ℕ) (vs ws : List Value) (ts us : List StackType) (tt' : Taken StackType) → HaveAll cx vs ts → HaveAll cx ws us → take_arguments n ts us ≡ Some tt' → (tv : Taken Value) × (take_arguments n vs ws ≡ Some tv) × HaveAll cx tv.arguments tt'.arguments × HaveAll cx tv.rest tt'.rest
  take_have cx zero vs ws ts us tt' h k e =
      let same = some_same _ _ e in
      (record { arguments = ws; rest = vs }, refl, subst (λ z. HaveAll cx ws z.arguments) same k, subst (λ z. HaveAll cx vs z.rest) same h)
  take_have cx (suc n) [] ws [] us tt' h k e = absurd (cc e)
  take_have cx (suc n) [] ws (t ∷ ts) us tt' h k e = absurd h
  take_have cx (suc n) (v ∷ vs) ws [] us tt' h k e = absurd h
  take_have cx (suc n) (v ∷ vs) ws (t ∷ ts) us tt' h k e = take_have cx n vs (v ∷ ws) ts (t ∷ us) tt' h.1 (h.0, k) e

  -- a number as a place of its width keeps it
  pub kept_number : (cx : Context) (i : IntegerType) (v : Value) → HasType cx v (number (is_long i)) → (w : Value) × (kept_in (Bits i) v ≡ Some w) × HasType cx w (number (is_long i))
  unfolding kept_in
  kept_number cx I1 (Int n) h = (_, refl, tt)
  kept_number cx U1 (Int n) h = (_, refl, tt)
  kept_number cx I2 (Int n) h = (_, refl, tt)
  kept_number cx U2 (Int n) h = (_, refl, tt)
  kept_number cx I4 (Int n) h = (_, refl, tt)
  kept_number cx U4 (Int n) h = (_, refl, tt)
  kept_number cx I8 (Long n) h = (_, refl, tt)
  kept_number cx U8 (Long n) h = (_, refl, tt)
  kept_number cx I1 _ h = absurd h
  kept_number cx U1 _ h = absurd h
  kept_number cx I2 _ h = absurd h
  kept_number cx U2 _ h = absurd h
  kept_number cx I4 _ h = absurd h
  kept_number cx U4 _ h = absurd h
  kept_number cx I8 _ h = absurd h
  kept_number cx U8 _ h = absurd h

  -- as a cell of places of the type keeps it
  pub kept_cell : (cx : Context) (c : Cell) (t : CliType) (v : Value) → HasType cx v (held c t) → (w : Value) × (kept_in c v ≡ Some w) × HasType cx w (held c t)
  unfolding kept_in
  kept_cell cx (Bits i) t v h = kept_number cx i v h
  kept_cell cx Refers t Null h = (Null, refl, h)
  kept_cell cx Refers t (Object n) h = (Object n, refl, h)
  kept_cell cx Refers t _ h = absurd h

  -- any reference is kept
  pub kept_reference : (cx : Context) (v : Value) (u : StackType) → HasType cx v u → is_reference u ≡ true → kept_in Refers v ≡ Some v
  unfolding kept_in
  kept_reference cx Null Nil h e = refl
  kept_reference cx Null (O t) h e = refl
  kept_reference cx (Object n) (O t) h e = refl
  kept_reference cx (Int n) I h e = absurd (cc e)
  kept_reference cx (Long n) L h e = absurd (cc e)
  kept_reference cx (Handle f) H h e = absurd (cc e)
  kept_reference cx (Pointer c x) (P t) h e = absurd (cc e)
  kept_reference cx _ _ h e = absurd h

  -- a load by another cell of the width
  pub kept_wide : (cx : Context) (c wide : Cell) (t : CliType) (v : Value) → same_width c wide ≡ true → HasType cx v (held c t) → (w : Value) × (kept_in wide v ≡ Some w) × HasType cx w (held wide t)
  kept_wide cx (Bits i) (Bits j) t v e h = kept_number cx j v (subst (λ b. HasType cx v (number b)) (long_width i j e) h)
  kept_wide cx Refers Refers t v e h = kept_cell cx Refers t v h
  kept_wide cx (Bits i) Refers t v e h = absurd (cc e)
  kept_wide cx Refers (Bits j) t v e h = absurd (cc e)

  never_has : (cx : Context) (v : Value) → HasType cx v Never → ⊥
  never_has cx (Int n) h = h
  never_has cx (Long n) h = h
  never_has cx Null h = h
  never_has cx (Object n) h = h
  never_has cx (Handle f) h = h
  never_has cx (Pointer c x) h = h

  kept_in_place : (cx : Context) (o : Option PlaceKind) (t : CliType) (v : Value) → HasType cx v (in_place o t) → (w : Value) × (kept_by o v ≡ Some w) × HasType cx w (in_place o t)
  kept_in_place cx (Some (Holds c)) t v h = kept_cell cx c t v h
  kept_in_place cx (Some HoldsHandle) t (Handle f) h = (Handle f, refl, h)
  kept_in_place cx (Some HoldsHandle) t _ h = absurd h
  kept_in_place cx (Some (HoldsPointer c)) t v h = absurd (never_has cx v h)
  kept_in_place cx None t v h = absurd (never_has cx v h)

  kept_place : (cx : Context) (t : CliType) (v : Value) → HasType cx v (P t) → (w : Value) × (kept_by (option_map HoldsPointer (cell_of t)) v ≡ Some w) × HasType cx w (P t)
  kept_place cx t (Pointer c x) h =
      let d = agree_cell h.own t c h.fine h.is in
      (Pointer c x, ap (λ o. kept_by (option_map HoldsPointer o) (Pointer c x)) d.1 ∙ ap (λ (b : Bool). if b then Some (Pointer c x) else None) d.2, h)
  kept_place cx t (Int n) h = absurd h
  kept_place cx t (Long n) h = absurd h
  kept_place cx t Null h = absurd h
  kept_place cx t (Object n) h = absurd h
  kept_place cx t (Handle f) h = absurd h

  pub kept_has : (cx : Context) (k : PlaceType) (v : Value) → HasType cx v (loaded k) → (w : Value) × (kept k v ≡ Some w) × HasType cx w (loaded k)
  unfolding kept
  kept_has cx (Plain t) v h = kept_in_place cx (kind_of_type t) t v h
  kept_has cx (To t) v h = kept_place cx t v h

  pub keep_all_have : (cx : Context) (ks : List PlaceType) (vs : List Value) → HaveAll cx vs (map loaded ks) → (ws : List Value) × (keep_all ks vs ≡ Some ws) × HaveAll cx ws (map loaded ks)
  keep_all_have cx [] [] h = ([], refl, h)
  keep_all_have cx [] (v ∷ vs) h = absurd h
  keep_all_have cx (k ∷ ks) [] h = absurd h
  keep_all_have cx (k ∷ ks) (v ∷ vs) h =
      let a = kept_has cx k v h.0 in
      let b = keep_all_have cx ks vs h.1 in
      (a.0 ∷ b.0, ap (λ o. on_some o (λ w. option_map (λ ws. w ∷ ws) (keep_all ks vs))) a.1 ∙ ap (option_map (λ ws. a.0 ∷ ws)) b.1, (a.2, b.2))

  -- ---- zeros

  zero_held : (cx : Context) (c : Cell) (t : CliType) → HasType cx (zero_in (Some c)) (held c t)
  zero_held cx (Bits i) t = at (is_long i)
    where
      at : (b : Bool) → HasType cx (if b then Long (pos 0) else Int (pos 0)) (number b)
      at true = tt
      at false = tt
  zero_held cx Refers t = tt

  pub zero_has : (cx : Context) (t : CliType) → is_plain t ≡ true → HasType cx (zero_of t) (of_type t)
  unfolding zero_of
  zero_has cx t e =
      let c = plain_cell t e in
      subst (HasType cx (zero_in (cell_of t))) (sym (type_held t c.0 c.1)) (subst (λ o. HasType cx (zero_in o) (held c.0 t)) (sym c.1) (zero_held cx c.0 t))

  pub zeros_have : (cx : Context) (ts : List CliType) → ((n : ℕ) (t : CliType) → slice_get ts n ≡ Some t → is_plain t ≡ true) → HaveAll cx (map zero_of ts) (map of_type ts)
  zeros_have cx [] h = tt
  zeros_have cx (t ∷ ts) h = (zero_has cx t (h 0 t refl), zeros_have cx ts (λ n j e. h (suc n) j e))

  zero_place_has : (cx : Context) (k : PlaceType) → is_plain_place k ≡ true → HasType cx (zero_place k) (loaded k)
  unfolding zero_place
  zero_place_has cx (Plain t) e = zero_has cx t e
  zero_place_has cx (To t) e = absurd (cc e)

  pub places_have : (cx : Context) (ks : List PlaceType) → ((n : ℕ) (k : PlaceType) → slice_get ks n ≡ Some k → is_plain_place k ≡ true) → HaveAll cx (map zero_place ks) (map loaded ks)
  places_have cx [] h = tt
  places_have cx (k ∷ ks) h = (zero_place_has cx k (h 0 k refl), places_have cx ks (λ n j e. h (suc n) j e))

  -- ---- assignable types

  module _ (up : (a b c : CliType) → p.fits a b ≡ true → p.fits b c ≡ true → p.fits a c ≡ true) where
    pub has_fits : (cx : Context) (v : Value) (t u : StackType) → HasType cx v t → assignable p t u ≡ true → HasType cx v u
    has_fits cx (Int n) I I h e = h
    has_fits cx (Int n) I _ h e = absurd (cc e)
    has_fits cx (Long n) L L h e = h
    has_fits cx (Long n) L _ h e = absurd (cc e)
    has_fits cx Null Nil Nil h e = h
    has_fits cx Null Nil (O d) h e = tt
    has_fits cx Null Nil _ h e = absurd (cc e)
    has_fits cx Null (O c) (O d) h e = tt
    has_fits cx Null (O c) _ h e = absurd (cc e)
    has_fits cx (Object n) (O c) (O d) h e = record { own = h.own; at = h.at; below = up h.own c d h.below e }
    has_fits cx (Object n) (O c) _ h e = absurd (cc e)
    has_fits cx (Handle f) H H h e = h
    has_fits cx (Handle f) H _ h e = absurd (cc e)
    has_fits cx (Pointer cell x) (P c) (P d) h e = record { own = h.own; leads = h.leads; is = h.is; fine = agree_up h.own c d h.fine e }
    has_fits cx (Pointer cell x) (P c) _ h e = absurd (cc e)
    has_fits cx _ _ u h e = absurd h

    pub have_fits : (cx : Context) (vs : List Value) (ts us : List StackType) → HaveAll cx vs ts → all_assignable p ts us ≡ true → HaveAll cx vs us
    have_fits cx [] [] [] h e = h
    have_fits cx [] [] (u ∷ us) h e = absurd (cc e)
    have_fits cx [] (t ∷ ts) us h e = absurd h
    have_fits cx (v ∷ vs) [] us h e = absurd h
    have_fits cx (v ∷ vs) (t ∷ ts) [] h e = absurd (cc e)
    have_fits cx (v ∷ vs) (t ∷ ts) (u ∷ us) h e =
        (has_fits cx v t u h.0 (and_left (assignable p t u) (all_assignable p ts us) e), have_fits cx vs ts us h.1 (and_right (assignable p t u) (all_assignable p ts us) e))

    refers_fits : (cx : Context) (v : Value) (a b : CliType) → p.fits a b ≡ true → HasType cx v (O a) → HasType cx v (O b)
    refers_fits cx v a b e h = has_fits cx v (O a) (O b) h e

    -- an element of the one array is one of the other
    pub has_element : (cx : Context) (v : Value) (a b : CliType) → elements_fit p a b ≡ true → HasType cx v (of_type a) → HasType cx v (of_type b)
    has_element cx v a b e h = by (element_kinds p a b e)
      where
        by : ElementKinds p a b → HasType cx v (of_type b)
        by (NumberElements i j x y w) =
            subst (HasType cx v) (type_held a (Bits i) x ∙ ap number (long_width i j w) ∙ sym (type_held b (Bits j) y)) h
        by (ReferenceElements x y w) =
            subst (HasType cx v) (sym (type_held b Refers y)) (refers_fits cx v a b w (subst (HasType cx v) (type_held a Refers x) h))
