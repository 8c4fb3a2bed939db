-- Casts and boxes.
use Rattle.std.proofs.Common.{◌≡◌, ℕ, Bool, true, false, ◌&&◌, ◌||◌, List, [], ◌∷◌, ◌++◌, Option, Some, None, refl, sym, ap, ◌∙◌, subst}
use Rattle.std.specs.Prelude.{if◌then◌else◌, is_some}
use Rattle.cil_opcodes.specs.declared.shape.IntegerType.{IntegerType}
use Rattle.board_types.specs.declared.board.Known.TheVariants.{NullReference, InvalidCast}
use Rattle.plain_types.specs.declared.elem.Elem.TheVariants as elem
use Rattle.machine.specs.Data.{type_eq, CliType, Basic, EnumOf, ClassOf, ValueOf, ArrayOf, Cell, Bits, Refers, InObject, cell_of, end_of, type_of, Value, Int, Long, Null, Object, Handle, Pointer, Thing, Instance, Text, Elements, Boxed, StaticCell, Frame, State}
use Rattle.machine.specs.Program.{Program, Method, CastClass, IsInstance, Box, Unbox, UnboxAny}
use Rattle.machine.specs.Numbers.{kept_in}
use Rattle.machine.specs.Throw.{on_some, goes, raise}
use Rattle.machine.specs.Rows.{on_top}
use Rattle.machine.specs.Objects.{are_named, elements_named, is_named, fits_named, value_fits, cast_class, is_instance, box_value, number_type, same_number, boxed_number, unbox, unbox_value, unbox_any}
use Rattle.machine.specs.Natives.{class_of_type}
use Rattle.machine_typed.specs.Typing.{StackType, O, Nil, P, of_type, is_plain, is_number, is_reference, agrees, assignable, when, effect}
use Rattle.machine_typed.specs.Accepted.{Typing, Leads, Accepted}
use Rattle.machine_typed.proofs.Heaps.{OfBox, mould_there, grows, some_same, and_left, and_right}
use Rattle.machine_typed.proofs.Types.{type_same, type_held, number_cell, plain_cell, agree_numbers, agree_same, width_here}
use Rattle.machine_typed.proofs.Values.{Context, flat_type, HasType, HaveAll, has_more, has_flat, has_fits, kept_cell, kept_reference}
use Rattle.machine_typed.proofs.States.{over, ThingFits, there_at, Goes, some_goes, Now, leads_fine, now_grown}
use Rattle.machine_typed.proofs.Throws.{raise_fine}
use Rattle.machine_typed.proofs.Steps.{when_inv, top_inv, top_goes, from_heap, have_over, new_has, reference_goes, or_raise_fine}

number_cells : (a : CliType) → cell_of (number_type a) ≡ cell_of a
number_cells (Basic e) = refl
number_cells (EnumOf e c) = refl
number_cells (ClassOf c) = refl
number_cells (ValueOf c) = refl
number_cells (ArrayOf b) = refl

same_number_cell : (a b : CliType) → same_number a b ≡ true → cell_of a ≡ cell_of b
same_number_cell a b e = sym (number_cells a) ∙ ap cell_of (type_same (number_type a) (number_type b) e) ∙ number_cells b

if_some : (b : Bool) (x y : Value) → (if b then Some x else None) ≡ Some y → (b ≡ true) × (x ≡ y)
if_some true x y e = (refl, some_same x y e)
if_some false x y e = absurd (cc e)

-- the box in which a number was found
boxed_there : (type : CliType) (x : Thing) (old : Value) → boxed_number type x ≡ Some old → (own : CliType) × (x ≡ Boxed own old) × (same_number own type ≡ true)
boxed_there type (Boxed own v) old e = let y = if_some (same_number own type) v old e in (own, ap (Boxed own) y.1, y.0)
boxed_there type (Instance c vs) old e = absurd (cc e)
boxed_there type (Text units) old e = absurd (cc e)
boxed_there type (Elements b vs) old e = absurd (cc e)
boxed_there type (StaticCell own v) old e = absurd (cc e)

or_last : (b c : Bool) → c ≡ true → (b || c) ≡ true
or_last true c e = refl
or_last false c e = e

and_both : (b c : Bool) → b ≡ true → c ≡ true → (b && c) ≡ true
and_both true c e g = g
and_both false c e g = absurd (cc e)

elements_there : (c d : Option Cell) (named : Bool) → named ≡ true → elements_named c d named ≡ true
elements_there (Some Refers) (Some Refers) named e = e
elements_there (Some Refers) (Some (Bits j)) named e = refl
elements_there (Some Refers) None named e = refl
elements_there (Some (Bits i)) d named e = refl
elements_there None d named e = refl

module _ (p : Program) (t : Typing) (a : Accepted p t) (s : State) (f : Frame) (fs : List Frame) (m : Method) (n : Now p t s f fs m) (fr : s.frames ≡ f ∷ fs) (next : ℕ) (ts us : List StackType) (l : Leads p t f.method f.place us next) (have : HaveAll p (over s.heap (f ∷ fs)) f.stack ts) where
  abbrev cx : Context
  cx = over s.heap (f ∷ fs)

  -- each class is there by its name
  class_there : (type : CliType) → is_plain type ≡ true → is_some (class_of_type p type) ≡ true
  class_there (Basic e) h = ap is_some (a.basics e h).1
  class_there (EnumOf e class) h = refl
  class_there (ClassOf class) h = refl
  class_there (ArrayOf element) h = ap is_some a.array_class.1
  class_there (ValueOf class) h = absurd (cc h)

  both_there : (own type : CliType) → is_plain own ≡ true → is_plain type ≡ true → are_named p own type ≡ true
  both_there own type g h =
      or_last (type_eq own type) _ (or_last (type_eq type (Basic elem.Object)) _
      (and_both (is_some (class_of_type p own)) (is_some (class_of_type p type)) (class_there own g) (class_there type h)))

  pub named_there : (own type : CliType) → is_plain own ≡ true → is_plain type ≡ true → is_named p own type ≡ true
  named_there (ArrayOf c) (ArrayOf d) g h = elements_there (cell_of c) (cell_of d) _ (named_there c d g h)
  named_there (ArrayOf c) (ClassOf d) g h = ap is_some a.array_class.1
  named_there (ArrayOf c) (Basic e) g h = refl
  named_there (ArrayOf c) (EnumOf e d) g h = refl
  named_there (Basic e) (ArrayOf d) g h = refl
  named_there (EnumOf e c) (ArrayOf d) g h = refl
  named_there (ClassOf c) (ArrayOf d) g h = refl
  named_there (Basic e) (Basic i) g h = both_there (Basic e) (Basic i) g h
  named_there (Basic e) (EnumOf i d) g h = both_there (Basic e) (EnumOf i d) g h
  named_there (Basic e) (ClassOf d) g h = both_there (Basic e) (ClassOf d) g h
  named_there (EnumOf e c) (Basic i) g h = both_there (EnumOf e c) (Basic i) g h
  named_there (EnumOf e c) (EnumOf i d) g h = both_there (EnumOf e c) (EnumOf i d) g h
  named_there (EnumOf e c) (ClassOf d) g h = both_there (EnumOf e c) (ClassOf d) g h
  named_there (ClassOf c) (Basic i) g h = both_there (ClassOf c) (Basic i) g h
  named_there (ClassOf c) (EnumOf i d) g h = both_there (ClassOf c) (EnumOf i d) g h
  named_there (ClassOf c) (ClassOf d) g h = both_there (ClassOf c) (ClassOf d) g h
  named_there (ValueOf c) type g h = absurd (cc g)
  named_there own (ValueOf d) g h = absurd (cc h)

  -- whether a reference is assignable is told, and where it is it has the type
  pub fits_told : (v : Value) (u : StackType) → HasType p cx v u → is_reference u ≡ true → (type : CliType) → is_plain type ≡ true → (ok : Bool) × (value_fits p s.heap type v ≡ Some ok) × (ok ≡ true → HasType p cx v (O type))
  fits_told Null Nil h e type plain = (true, refl, λ ok. tt)
  fits_told Null (O c) h e type plain = (true, refl, λ ok. tt)
  fits_told (Object i) (O c) h e type plain =
      let y = there_at p t a s.heap n.stored.heap i h.own h.at in (
        p.fits h.own type,
        ap (λ o. on_some o (λ x. on_some (type_of x) (λ own. fits_named p own type))) y.at
            ∙ ap (λ o. on_some o (λ own. fits_named p own type)) y.type
            ∙ ap (λ (b : Bool). if b then Some (p.fits h.own type) else None) (named_there h.own type (a.objects h.own y.made) plain),
        λ ok. record { own = h.own; at = h.at; below = ok },
      )
  fits_told (Int i) u h e type plain = absurd (not_int u h e)
    where
      not_int : (u : StackType) → HasType p cx (Int i) u → is_reference u ≡ true → ⊥
      not_int Nil h e = h
      not_int (O c) h e = h
      not_int _ h e = cc e
  fits_told (Long i) u h e type plain = absurd (not_long u h e)
    where
      not_long : (u : StackType) → HasType p cx (Long i) u → is_reference u ≡ true → ⊥
      not_long Nil h e = h
      not_long (O c) h e = h
      not_long _ h e = cc e
  fits_told (Handle i) u h e type plain = absurd (not_handle u h e)
    where
      not_handle : (u : StackType) → HasType p cx (Handle i) u → is_reference u ≡ true → ⊥
      not_handle Nil h e = h
      not_handle (O c) h e = h
      not_handle _ h e = cc e
  fits_told (Pointer i x) u h e type plain = absurd (not_pointer u h e)
    where
      not_pointer : (u : StackType) → HasType p cx (Pointer i x) u → is_reference u ≡ true → ⊥
      not_pointer Nil h e = h
      not_pointer (O c) h e = h
      not_pointer _ h e = cc e
  fits_told _ _ h e type plain = absurd h

  cast_goes : (type : CliType) (z : StackType) → O type ≡ z → on_top ts (λ t rest. when (is_reference t && is_plain type) (Some (z ∷ rest))) ≡ Some us → Goes p t (cast_class p s f fs next type)
  unfolding cast_class
  cast_goes type z same e =
      top_goes p t cx f.stack ts _ _ us have e (λ v rest u types hv hrest e1.
      let w = when_inv (is_reference u && is_plain type) _ us e1 in
      let r = and_left (is_reference u) (is_plain type) w.0 in
      let x = fits_told v u hv r type (and_right (is_reference u) (is_plain type) w.0) in
      some_goes p t (kept_in Refers v) v _ (kept_reference p cx v u hv r)
      (some_goes p t (value_fits p s.heap type v) x.0 _ x.1 (at v rest types hrest w.1 x.0 x.2)))
    where
      at : (v : Value) (rest : List Value) (types : List StackType) → HaveAll p cx rest types → Some (z ∷ types) ≡ Some us → (b : Bool) → (b ≡ true → HasType p cx v (O type)) → Goes p t (if b then goes p s f fs next (v ∷ rest) else raise p s InvalidCast)
      at v rest types h e true g = leads_fine p t a s f fs m n next (v ∷ rest) (z ∷ types) us l e (subst (HasType p cx v) same (g refl), h)
      at v rest types h e false g = raise_fine p t a s f fs m n fr InvalidCast

  pub cast_class_fine : (type : CliType) → effect p t.exception m (CastClass type) ts ≡ Some us → Goes p t (cast_class p s f fs next type)
  cast_class_fine type e = cast_goes type (O type) refl e

  pub is_instance_fine : (type : CliType) → effect p t.exception m (IsInstance type) ts ≡ Some us → Goes p t (is_instance p s f fs next type)
  unfolding is_instance
  is_instance_fine type e =
      top_goes p t cx f.stack ts _ _ us have e (λ v rest u types hv hrest e1.
      let w = when_inv (is_reference u && is_plain type) _ us e1 in
      let r = and_left (is_reference u) (is_plain type) w.0 in
      let x = fits_told v u hv r type (and_right (is_reference u) (is_plain type) w.0) in
      some_goes p t (kept_in Refers v) v _ (kept_reference p cx v u hv r)
      (some_goes p t (value_fits p s.heap type v) x.0 _ x.1
      (leads_fine p t a s f fs m n next ((if x.0 then v else Null) ∷ rest) (O type ∷ types) us l w.1 (at v x.0 x.2, hrest))))
    where
      at : (v : Value) (b : Bool) → (b ≡ true → HasType p cx v (O type)) → HasType p cx (if b then v else Null) (O type)
      at v true g = g refl
      at v false g = tt

  pub box_fine : (type : CliType) → t.made type ≡ true → effect p t.exception m (Box type) ts ≡ Some us → Goes p t (box_value p s f fs next type)
  unfolding box_value
  box_fine type made e =
      let x = top_inv ts _ us e in
      let number = and_left (is_number type) _ (when_inv (is_number type && assignable p x.0 (of_type type)) _ us x.3).0 in
      let c = number_cell (cell_of type) number in
      some_goes p t (cell_of type) (Bits c.0) _ c.1
      (top_goes p t cx f.stack ts _ _ us have e (λ v rest u types hv hrest e1.
      let w = when_inv (is_number type && assignable p u (of_type type)) _ us e1 in
      let held_here = type_held type (Bits c.0) c.1 in
      let z = kept_cell p cx (Bits c.0) type v (subst (HasType p cx v) held_here (has_fits p a.up cx v u (of_type type) hv (and_right (is_number type) _ w.0))) in
      let heap : List Thing = s.heap ++ Boxed type z.0 ∷ [] in
      let in_box : HasType p (over heap []) z.0 (of_type type) = has_flat p cx (over heap []) (grows s.heap (Boxed type z.0)) z.0 (of_type type) (flat_type type) (subst (HasType p cx z.0) (sym held_here) z.2) in
      some_goes p t (kept_in (Bits c.0) v) z.0 _ z.1
      (leads_fine p t a (record s { heap = s.heap ++ Boxed type z.0 ∷ [] }) f fs m (now_grown p t a s f fs m n (Boxed type z.0) (in_box, number, made)) next (Object (end_of s.heap) ∷ rest) (O type ∷ types) us l w.1
      (new_has p t a s.heap (f ∷ fs) (Boxed type z.0) type refl, have_over p t s.heap (s.heap ++ Boxed type z.0 ∷ []) (f ∷ fs) (grows s.heap (Boxed type z.0)) rest types hrest))))

  -- a box of the number's own type agrees
  box_agrees : (own type : CliType) (i : IntegerType) → cell_of type ≡ Some (Bits i) → same_number own type ≡ true → agrees own type ≡ true
  box_agrees own type i c e = agree_numbers own type i i (same_number_cell own type e ∙ c) c (width_here (Bits i))

  pub unbox_fine : (type : CliType) → effect p t.exception m (Unbox type) ts ≡ Some us → Goes p t (unbox p s f fs next type)
  unfolding unbox
  unbox_fine type e =
      let x = top_inv ts _ us e in
      let number = and_right (is_reference x.0) (is_number type) (when_inv (is_reference x.0 && is_number type) _ us x.3).0 in
      let c = number_cell (cell_of type) number in
      some_goes p t (cell_of type) (Bits c.0) _ c.1
      (top_goes p t cx f.stack ts _ _ us have e (λ v rest u types hv hrest e1.
      let w = when_inv (is_reference u && is_number type) _ us e1 in
      reference_goes p t a s f fs m n NullReference fr v u hv (and_left (is_reference u) (is_number type) w.0) _ (λ object own x.
      or_raise_fine p t a s f fs m n InvalidCast (boxed_number type x.thing) _ fr (λ old eo.
      let y = boxed_there type x.thing old eo in
      leads_fine p t a s f fs m n next (Pointer (Bits c.0) (InObject object 0) ∷ rest) (P type ∷ types) us l w.1 (
        record {
          own = y.0;
          leads = record { mould = OfBox y.0; there = mould_there s.heap object (Boxed y.0 old) (x.at ∙ ap Some y.1); at = refl };
          is = same_number_cell y.0 type y.2 ∙ c.1;
          fine = box_agrees y.0 type c.0 c.1 y.2;
        },
        hrest,
      )))))

  unbox_value_goes : (type : CliType) (i : IntegerType) → cell_of type ≡ Some (Bits i) → effect p t.exception m (UnboxAny type) ts ≡ Some us → Goes p t (unbox_value p s f fs next type)
  unfolding unbox_value
  unbox_value_goes type i c e =
      top_goes p t cx f.stack ts _ _ us have e (λ v rest u types hv hrest e1.
      let w = when_inv (is_reference u && is_plain type) _ us e1 in
      reference_goes p t a s f fs m n NullReference fr v u hv (and_left (is_reference u) (is_plain type) w.0) _ (λ object own x.
      or_raise_fine p t a s f fs m n InvalidCast (boxed_number type x.thing) _ fr (λ old eo.
      let y = boxed_there type x.thing old eo in
      let fits : ThingFits p t (over s.heap []) (Boxed y.0 old) = subst (ThingFits p t (over s.heap [])) y.1 x.fits in
      let hold = has_more p (over s.heap []) cx (from_heap p t s.heap (f ∷ fs)) old (of_type y.0) fits.0 in
      leads_fine p t a s f fs m n next (old ∷ rest) (of_type type ∷ types) us l w.1
      (subst (HasType p cx old) (agree_same y.0 type (box_agrees y.0 type i c y.2)) hold, hrest))))

  pub unbox_any_fine : (type : CliType) → effect p t.exception m (UnboxAny type) ts ≡ Some us → Goes p t (on_some (cell_of type) (λ cell. unbox_any p s f fs next type cell))
  unbox_any_fine type e =
      let x = top_inv ts _ us e in
      let c = plain_cell type (and_right (is_reference x.0) (is_plain type) (when_inv (is_reference x.0 && is_plain type) _ us x.3).0) in
      some_goes p t (cell_of type) c.0 _ c.1 (by c.0 c.1)
    where
      by : (c : Cell) → cell_of type ≡ Some c → Goes p t (unbox_any p s f fs next type c)
      by (Bits i) c = unbox_value_goes type i c e
      by Refers c = cast_goes type (of_type type) (sym (type_held type Refers c)) e
