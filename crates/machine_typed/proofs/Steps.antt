-- What rows are made of, on typed stacks.
use Rattle.std.proofs.Common.{◌≡◌, ℕ, suc, ◌≤◌, Bool, true, false, ◌==◌, List, [], ◌∷◌, ◌++◌, map, length, Option, Some, None, refl, sym, subst, arith}
use Rattle.std.specs.Prelude.{if◌then◌else◌, nat_le, nat_lt}
use Rattle.std.proofs.lemmas.Bool.{le-leb, lt-ltb, eqb-true, ne_eqb}
use Rattle.board_types.specs.declared.board.Known.{Known}
use Rattle.machine.specs.Data.{Id, CliType, thing_at, end_of, type_of, Value, Int, Long, Null, Object, Handle, Pointer, PlaceType, Thing, Nothing, Frame, State}
use Rattle.machine.specs.Program.{Program, Line, Method, Code}
use Rattle.machine.specs.Numbers.{Answer, Gives, Raises, NoCase}
use Rattle.machine.specs.Throw.{on_some, goes}
use Rattle.machine.specs.Rows.{on_top, answered, or_raise, on_thing_or}
use Rattle.machine.specs.Calls.{if_room, start_frame, starts}
use Rattle.machine_typed.specs.Typing.{StackType, O, Nil, loaded, when, assignable, all_assignable, with_type, is_reference}
use Rattle.machine_typed.specs.Accepted.{Typing, Leads, MethodFits, BodyFits, Accepted}
use Rattle.machine_typed.proofs.Heaps.{Extends, same_heap, length-replicate, some_same, and_left, and_right, get_seam}
use Rattle.machine_typed.proofs.Values.{Context, chain_cells, id_at, cells_positive, HasType, HaveAll, Reaches, have_more, length_have, have_fits, places_have}
use Rattle.machine_typed.proofs.States.{over, reach, Below, Resumes, FineAt, Goes, some_goes, Now, method_fits, leads_fine, There, there_at, type_there}
use Rattle.machine_typed.proofs.Throws.{raise_fine}
use Rattle.machine_typed.proofs.Operators.{IsFine}

pub when_inv : {A : Type 0} (t : Bool) (o : Option A) (b : A) → when t o ≡ Some b → (t ≡ true) × (o ≡ Some b)
when_inv true o b e = (refl, e)
when_inv false o b e = absurd (cc e)

pub top_inv : {A B : Type 0} (xs : List A) (k : A → List A → Option B) (b : B) → on_top xs k ≡ Some b → (x : A) × (rest : List A) × (xs ≡ x ∷ rest) × (k x rest ≡ Some b)
top_inv [] k b e = absurd (cc e)
top_inv (x ∷ rest) k b e = (x, rest, refl, e)

le_test : (m n : ℕ) → m ≤ n → nat_le m n ≡ true
le_test m n h = le-leb m n h

-- how many values lie on a frame's stack when a call has ended
abbrev pub height : Option PlaceType → List Value → ℕ
height None stack = length stack
height (Some k) stack = suc (length stack)

height_up : (r : Option PlaceType) (stack : List Value) → length stack ≤ height r stack
height_up None stack = omega arith
height_up (Some k) stack = omega arith

module _ (p : Program) (t : Typing) where
  pub test_goes : (b : Bool) (o : Option State) → b ≡ true → Goes p t o → Goes p t (if b then o else None)
  test_goes true o e h = h
  test_goes false o e h = absurd (cc e)

  pub if_goes : (b : Bool) (x y : Option State) → Goes p t x → Goes p t y → Goes p t (if b then x else y)
  if_goes true x y g h = g
  if_goes false x y g h = h

  -- the topmost value has the topmost type
  pub top_goes : {A : Type 0} (cx : Context) (vs : List Value) (ts : List StackType) (kt : StackType → List StackType → Option A) (kv : Value → List Value → Option State) (us : A) → HaveAll p cx vs ts → on_top ts kt ≡ Some us → ((v : Value) (rest : List Value) (u : StackType) (types : List StackType) → HasType p cx v u → HaveAll p cx rest types → kt u types ≡ Some us → Goes p t (kv v rest)) → Goes p t (on_top vs kv)
  top_goes cx [] [] kt kv us h e g = absurd (cc e)
  top_goes cx [] (u ∷ ts) kt kv us h e g = absurd h
  top_goes cx (v ∷ vs) [] kt kv us h e g = absurd h
  top_goes cx (v ∷ vs) (u ∷ ts) kt kv us h e g = g v vs u ts h.0 h.1 e

  -- a frame more changes nothing of what is seen
  pub within_chain : (is : List Id) (d : ℕ) (x : Id) → id_at p is d ≡ Some x → d ≤ chain_cells p is
  within_chain [] d x e = absurd (cc e)
  within_chain (i ∷ is) d x e = at (chain_cells p (i ∷ is) == d) refl e (within_chain is d x)
    where
      at : (b : Bool) → (chain_cells p (i ∷ is) == d) ≡ b → (if b then Some i else id_at p is d) ≡ Some x → (id_at p is d ≡ Some x → d ≤ chain_cells p is) → d ≤ chain_cells p (i ∷ is)
      at true y e ih = let same : chain_cells p (i ∷ is) ≡ d = eqb-true (chain_cells p (i ∷ is)) d y in subst (λ n. n ≤ chain_cells p (i ∷ is)) same (omega arith)
      at false y e ih = omega (arith, ih e)

  pushed : (heap : List Thing) (g : Frame) (fs : List Frame) → Reaches p (over heap fs) (over heap (g ∷ fs))
  pushed heap g fs =
      record {
        heap = same_heap heap;
        chain = λ d id e.
            let is : List Id = map (λ (f : Frame). f.method) fs in
            let le = within_chain is d id e in
            let one = cells_positive (p.method g.method) in
            let no : (chain_cells p (g.method ∷ is) == d) ≡ false = ne_eqb (chain_cells p (g.method ∷ is)) d (λ x. omega (arith, le, one, x)) in
            subst (λ (b : Bool). (if b then Some g.method else id_at p is d) ≡ Some id) (sym no) e;
      }

  pub from_heap : (heap : List Thing) (fs : List Frame) → Reaches p (over heap []) (over heap fs)
  from_heap heap fs = record { heap = same_heap heap; chain = λ d id e. absurd (cc e) }

  -- a new object is an instance of its type
  pub new_has : (a : Accepted p t) (heap : List Thing) (fs : List Frame) (x : Thing) (type : CliType) → type_of x ≡ Some type → HasType p (over (heap ++ x ∷ []) fs) (Object (end_of heap)) (O type)
  new_has a heap fs x type e = record { own = type; at = type_there p t a (heap ++ x ∷ []) (end_of heap) x type (get_seam heap x) e; below = a.same type }

  pub have_over : (old new : List Thing) (fs : List Frame) → Extends old new → (vs : List Value) (ts : List StackType) → HaveAll p (over old fs) vs ts → HaveAll p (over new fs) vs ts
  have_over old new fs x vs ts h = have_more p (over old fs) (over new fs) (reach p t old new x fs) vs ts h

  module _ (a : Accepted p t) (s : State) (f : Frame) (fs : List Frame) (m : Method) (n : Now p t s f fs m) where
    room_goes : (stack : List Value) (r : Option PlaceType) (o : Option State) → height r stack ≤ m.max_stack → Goes p t o → Goes p t (if_room p f stack r o)
    room_goes stack None o e h = h
    room_goes stack (Some k) o e h =
        some_goes p t (p.method f.method) m _ n.base.is (test_goes (nat_lt (length stack) m.max_stack) o (lt-ltb (length stack) m.max_stack e) h)

    -- a frame of a method starts over a frame that waits
    pub starts_fine : (stack : List Value) (id : Id) (c : Method) (arguments : List Value) → p.method id ≡ Some c → c.body ≡ Code → HaveAll p (over s.heap (f ∷ fs)) arguments (map loaded c.arguments) → height c.returns stack ≤ m.max_stack → Resumes p t s.heap c.returns (record f { stack = stack }) fs → Goes p t (starts p s f fs stack id c arguments)
    unfolding starts goes
    starts_fine stack id c arguments is code have high waits =
        let room : length stack ≤ m.max_stack = let below = height_up c.returns stack in omega (arith, high, below) in
        room_goes stack c.returns _ high
        (subst (λ o. Goes p t (on_some (on_some o (λ m. if nat_le (length stack) m.max_stack then Some (record s { frames = record f { place = f.place; stack = stack } ∷ fs }) else None)) (λ z. Some (record z { frames = start_frame false id c arguments ∷ z.frames })))) (sym n.base.is)
        (subst (λ (b : Bool). Goes p t (on_some (if b then Some (record s { frames = record f { place = f.place; stack = stack } ∷ fs }) else None) (λ z. Some (record z { frames = start_frame false id c arguments ∷ z.frames })))) (sym (le_test (length stack) m.max_stack room))
        (subst (FineAt p t (record s { frames = start_frame false id c arguments ∷ record f { stack = stack } ∷ fs })) (sym n.stored.going) (
          record { heap = n.stored.heap; statics = n.stored.statics; literals = n.stored.literals; going = n.stored.going },
          (
            c,
            record { is = is; code = code; arguments = have_more p (over s.heap (f ∷ fs)) (over s.heap (start_frame false id c arguments ∷ f ∷ fs)) (pushed s.heap (start_frame false id c arguments) (f ∷ fs)) arguments (map loaded c.arguments) have; locals = places_have p (over s.heap (start_frame false id c arguments ∷ f ∷ fs)) c.locals callee.locals; count = length-replicate (length c.clauses) Nothing },
            record { at = λ k e. absurd (callee.outside k e) },
            record { types = []; typed = callee.begin; stack = tt },
            (
              m,
              record { is = n.base.is; code = n.base.code; arguments = n.base.arguments; locals = n.base.locals; count = n.base.count },
              record { at = n.slots.at },
              waits,
              n.callers,
            ),
          ),
        ))))
      where
        callee : MethodFits p t id c
        callee = subst (λ b. BodyFits p t id c b) code (a.methods id c is)

    pub answered_fine : (next : ℕ) (rest : List Value) (z : StackType) (types us : List StackType) → s.frames ≡ f ∷ fs → Leads p t f.method f.place us next → Some (z ∷ types) ≡ Some us → HaveAll p (over s.heap (f ∷ fs)) rest types → (o : Answer) → IsFine p (over s.heap (f ∷ fs)) z o → Goes p t (answered p s f fs next rest o)
    answered_fine next rest z types us fr l e have (Gives v) h = leads_fine p t a s f fs m n next (v ∷ rest) (z ∷ types) us l e (h, have)
    answered_fine next rest z types us fr l e have (Raises k) h = raise_fine p t a s f fs m n fr k
    answered_fine next rest z types us fr l e have NoCase h = absurd h

    -- what is not there raises an exception
    pub or_raise_fine : {A : Type 0} (k : Known) (o : Option A) (go : A → Option State) → s.frames ≡ f ∷ fs → ((x : A) → o ≡ Some x → Goes p t (go x)) → Goes p t (or_raise p s k o go)
    or_raise_fine k None go fr h = raise_fine p t a s f fs m n fr k
    or_raise_fine k (Some x) go fr h = h x refl

    -- what a typed reference names
    pub thing_goes : (known : Known) → s.frames ≡ f ∷ fs → (v : Value) (c : CliType) → HasType p (over s.heap (f ∷ fs)) v (O c) → (k : ℕ → Thing → Option State) → ((object : ℕ) (own : CliType) (x : There p t a s.heap object own) → p.fits own c ≡ true → Goes p t (k object x.thing)) → Goes p t (on_thing_or p s known v k)
    thing_goes known fr (Object i) c h k g =
        let y = there_at p t a s.heap n.stored.heap i h.own h.at in
        some_goes p t (thing_at s.heap i) y.thing (k i) y.at (g i h.own y h.below)
    thing_goes known fr Null c h k g = raise_fine p t a s f fs m n fr known
    thing_goes known fr (Int i) c h k g = absurd h
    thing_goes known fr (Long i) c h k g = absurd h
    thing_goes known fr (Handle i) c h k g = absurd h
    thing_goes known fr (Pointer i x) c h k g = absurd h

    -- a reference of any type, or null
    pub reference_goes : (known : Known) → s.frames ≡ f ∷ fs → (v : Value) (u : StackType) → HasType p (over s.heap (f ∷ fs)) v u → is_reference u ≡ true → (k : ℕ → Thing → Option State) → ((object : ℕ) (own : CliType) (x : There p t a s.heap object own) → Goes p t (k object x.thing)) → Goes p t (on_thing_or p s known v k)
    reference_goes known fr v (O c) h e k g = thing_goes known fr v c h k (λ object own x below. g object own x)
    reference_goes known fr Null Nil h e k g = raise_fine p t a s f fs m n fr known
    reference_goes known fr (Int i) Nil h e k g = absurd h
    reference_goes known fr (Long i) Nil h e k g = absurd h
    reference_goes known fr (Object i) Nil h e k g = absurd h
    reference_goes known fr (Handle i) Nil h e k g = absurd h
    reference_goes known fr (Pointer i x) Nil h e k g = absurd h
    reference_goes known fr v _ h e k g = absurd (cc e)

    -- the types behind a call, without its result
    below_types : (r : Option PlaceType) (rest : List Value) (types at : List StackType) → all_assignable p (with_type r types) at ≡ true → HaveAll p (over s.heap (f ∷ fs)) rest types → length at ≤ m.max_stack → (height r rest ≤ m.max_stack) × Below p t (over s.heap (f ∷ fs)) r rest at
    below_types None rest types at e have le =
        let h = have_fits p a.up (over s.heap (f ∷ fs)) rest types at have e in
        let same = length_have p (over s.heap (f ∷ fs)) rest at h in
        (omega arith, h)
    below_types (Some k) rest types [] e have le = absurd (cc e)
    below_types (Some k) rest types (u ∷ at) e have le =
        let h = have_fits p a.up (over s.heap (f ∷ fs)) rest types at have (and_right (assignable p (loaded k) u) (all_assignable p types at) e) in
        let same = length_have p (over s.heap (f ∷ fs)) rest at h in
        (omega arith, (and_left (assignable p (loaded k) u) (all_assignable p types at) e, h))

    pub below_call : (line : Line) (c : Method) (rest : List Value) (types us : List StackType) → p.fetch f.method f.place ≡ Some line → Leads p t f.method f.place us line.next → Some (with_type c.returns types) ≡ Some us → HaveAll p (over s.heap (f ∷ fs)) rest types → (height c.returns rest ≤ m.max_stack) × Resumes p t s.heap c.returns (record f { stack = rest }) fs
    below_call line c rest types us is l e have =
        let h = below_types c.returns rest types l.at (subst (λ z. all_assignable p z l.at ≡ true) (sym (some_same (with_type c.returns types) us e)) l.fitting) have ((method_fits p t a s.heap f fs m n.base).within line.next l.at l.typed) in
        (h.0, record { line = line; is = is; types = l.at; typed = l.typed; below = h.1; stays = l.stays })
