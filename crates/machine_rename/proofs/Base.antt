-- Laws of the combinators that every row is made of.
use Rattle.std.proofs.Common.{◌≡◌, ℕ, suc, ◌+◌, ◌-◌, ◌*◌, ◌/◌, Bool, true, false, List, [], ◌∷◌, map, length, Option, Some, None, refl, sym, ap, ◌∙◌}
use Rattle.std.specs.Prelude.{if◌then◌else◌, nat_le, nat_lt}
use Rattle.std.specs.Option.{option_map}
use Rattle.machine.specs.Data.{thing_size, end_of, thing_at, put_thing, CliType, Basic, EnumOf, ClassOf, ValueOf, ArrayOf, cell_of, element_bytes, Value, Thing, Instance, Text, Elements, Boxed, StaticCell, Frame, State}
use Rattle.machine.specs.Program.{Program}
use Rattle.machine.specs.Throw.{on_some, goes}
use Rattle.machine.specs.Rows.{on_top, on_two, on_three}
use Rattle.machine_rename.specs.Rename.{Renaming, Answers, type_to, value_to, thing_to, frame_to, state_to, method_to}

module _ {B B' : Type 0} (g : B → B') where
  -- goes on with an answer that is the other's, mapped
  pub some_law : {A A' : Type 0} (h : A → A') (o : Option A) (o' : Option A') (k : A → Option B) (k' : A' → Option B') → o' ≡ option_map h o → ((x : A) → k' (h x) ≡ option_map g (k x)) → on_some o' k' ≡ option_map g (on_some o k)
  some_law h o o' k k' e f = ap (λ q. on_some q k') e ∙ go o
    where
      go : (o : Option _) → on_some (option_map h o) k' ≡ option_map g (on_some o k)
      go None = refl
      go (Some x) = f x

  -- the same, where the answer is known
  pub some_law_at : {A A' : Type 0} (h : A → A') (o : Option A) (o' : Option A') (k : A → Option B) (k' : A' → Option B') → o' ≡ option_map h o → ((x : A) → o ≡ Some x → k' (h x) ≡ option_map g (k x)) → on_some o' k' ≡ option_map g (on_some o k)
  some_law_at h o o' k k' e f = ap (λ q. on_some q k') e ∙ go o f
    where
      go : (o : Option _) → ((x : _) → o ≡ Some x → k' (h x) ≡ option_map g (k x)) → on_some (option_map h o) k' ≡ option_map g (on_some o k)
      go None f = refl
      go (Some x) f = f x refl

  -- the same answer
  pub same_law : {A : Type 0} (o o' : Option A) (k : A → Option B) (k' : A → Option B') → o' ≡ o → ((x : A) → k' x ≡ option_map g (k x)) → on_some o' k' ≡ option_map g (on_some o k)
  same_law o o' k k' e f = ap (λ q. on_some q k') e ∙ go o
    where
      go : (o : Option _) → on_some o k' ≡ option_map g (on_some o k)
      go None = refl
      go (Some x) = f x

  pub if_law : (b b' : Bool) (x y : Option B) (x' y' : Option B') → b' ≡ b → x' ≡ option_map g x → y' ≡ option_map g y → (if b' then x' else y') ≡ option_map g (if b then x else y)
  if_law b b' x y x' y' e p q = ap (λ c. if c then x' else y') e ∙ go b
    where
      go : (b : Bool) → (if b then x' else y') ≡ option_map g (if b then x else y)
      go true = p
      go false = q

  pub top_law : {A A' : Type 0} (v : A → A') (stack : List A) (k : A → List A → Option B) (k' : A' → List A' → Option B') → ((x : A) (rest : List A) → k' (v x) (map v rest) ≡ option_map g (k x rest)) → on_top (map v stack) k' ≡ option_map g (on_top stack k)
  top_law v [] k k' f = refl
  top_law v (x ∷ rest) k k' f = f x rest

  pub two_law : {A A' : Type 0} (v : A → A') (stack : List A) (k : A → A → List A → Option B) (k' : A' → A' → List A' → Option B') → ((x y : A) (rest : List A) → k' (v x) (v y) (map v rest) ≡ option_map g (k x y rest)) → on_two (map v stack) k' ≡ option_map g (on_two stack k)
  two_law v [] k k' f = refl
  two_law v (y ∷ []) k k' f = refl
  two_law v (y ∷ x ∷ rest) k k' f = f x y rest

  pub three_law : {A A' : Type 0} (v : A → A') (stack : List A) (k : A → A → A → List A → Option B) (k' : A' → A' → A' → List A' → Option B') → ((x y z : A) (rest : List A) → k' (v x) (v y) (v z) (map v rest) ≡ option_map g (k x y z rest)) → on_three (map v stack) k' ≡ option_map g (on_three stack k)
  three_law v [] k k' f = refl
  three_law v (z ∷ []) k k' f = refl
  three_law v (z ∷ y ∷ []) k k' f = refl
  three_law v (z ∷ y ∷ x ∷ rest) k k' f = f x y z rest

-- the same answer of two programs, with no number of theirs in it
pub some_eq : {A A' B : Type 0} (h : A → A') (o : Option A) (o' : Option A') (k : A → Option B) (k' : A' → Option B) → o' ≡ option_map h o → ((x : A) → k' (h x) ≡ k x) → on_some o' k' ≡ on_some o k
some_eq h o o' k k' e f = ap (λ q. on_some q k') e ∙ go o
  where
    go : (o : Option _) → on_some (option_map h o) k' ≡ on_some o k
    go None = refl
    go (Some x) = f x

pub length-map_lem : {A B : Type 0} (f : A → B) (xs : List A) → length (map f xs) ≡ length xs
length-map_lem f [] = refl
length-map_lem f (x ∷ xs) = ap suc (length-map_lem f xs)

-- objects by their numbers
module _ (r : Renaming) where
  -- how places of a type lie
  pub cell_law : (t : CliType) → cell_of (type_to r t) ≡ cell_of t
  cell_law (Basic e) = refl
  cell_law (EnumOf e class) = refl
  cell_law (ClassOf class) = refl
  cell_law (ValueOf class) = refl
  cell_law (ArrayOf element) = refl

  pub size_law : (x : Thing) → thing_size (thing_to r x) ≡ thing_size x
  size_law (Instance class vs) = ap (λ n. 1 + n) (length-map_lem (value_to r) vs)
  size_law (Text units) = refl
  size_law (Elements element vs) =
      ap (λ n. 1 + (n * element_bytes (cell_of (type_to r element)) + 11) / 12) (length-map_lem (value_to r) vs)
      ∙ ap (λ c. 1 + (length vs * element_bytes c + 11) / 12) (cell_law element)
  size_law (Boxed type value) = refl
  size_law (StaticCell type value) = refl

  pub end_law : (xs : List Thing) → end_of (map (thing_to r) xs) ≡ end_of xs
  end_law [] = refl
  end_law (x ∷ xs) = ap (λ n. n + end_of (map (thing_to r) xs)) (size_law x) ∙ ap (λ n. thing_size x + n) (end_law xs)

  pub thing_at_law : (xs : List Thing) (n : ℕ) → thing_at (map (thing_to r) xs) n ≡ option_map (thing_to r) (thing_at xs n)
  thing_at_law [] n = refl
  thing_at_law (x ∷ xs) n =
      if_law (thing_to r) _ _ _ _ _ _ refl refl
      (if_law (thing_to r) _ _ _ _ _ _ (ap (nat_lt n) (size_law x)) refl (ap (λ k. thing_at (map (thing_to r) xs) (n - k)) (size_law x) ∙ thing_at_law xs (n - thing_size x)))

  if_things : (b b' : Bool) (x y x' y' : List Thing) → b' ≡ b → x' ≡ map (thing_to r) x → y' ≡ map (thing_to r) y → (if b' then x' else y') ≡ map (thing_to r) (if b then x else y)
  if_things b b' x y x' y' e p q = ap (λ c. if c then x' else y') e ∙ go b
    where
      go : (b : Bool) → (if b then x' else y') ≡ map (thing_to r) (if b then x else y)
      go true = p
      go false = q

  pub put_thing_law : (xs : List Thing) (n : ℕ) (y : Thing) → map (thing_to r) (put_thing xs n y) ≡ put_thing (map (thing_to r) xs) n (thing_to r y)
  put_thing_law xs n y = sym (go xs n)
    where
      go : (xs : List Thing) (n : ℕ) → put_thing (map (thing_to r) xs) n (thing_to r y) ≡ map (thing_to r) (put_thing xs n y)
      go [] n = refl
      go (x ∷ xs) n =
          if_things _ _ _ _ _ _ refl refl
          (if_things _ _ _ _ _ _ (ap (nat_lt n) (size_law x)) refl (ap (λ k. thing_to r x ∷ put_thing (map (thing_to r) xs) (n - k) (thing_to r y)) (size_law x) ∙ ap (λ zs. thing_to r x ∷ zs) (go xs (n - thing_size x))))

module _ (r : Renaming) (low high : Program) (a : Answers r low high) where
  pub goes_law : (s : State) (f : Frame) (fs : List Frame) (place : ℕ) (stack : List Value) → goes high (state_to r s) (frame_to r f) (map (frame_to r) fs) (r.place f.method place) (map (value_to r) stack) ≡ option_map (state_to r) (goes low s f fs place stack)
  unfolding goes
  goes_law s f fs place stack =
      some_law (state_to r) (method_to r f.method) _ _ _ _ (a.method f.method) (λ m.
      if_law (state_to r) _ _ _ _ _ _ (ap (λ n. nat_le n m.max_stack) (length-map_lem (value_to r) stack)) refl refl)
