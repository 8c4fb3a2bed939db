-- Pools that grow by what is gathered.
use Rattle.std.proofs.Common.{◌≡◌, ℕ, ◌+◌, ◌<◌, List, [], ◌∷◌, ◌++◌, length, take, get_or, refl, sym, ap, ◌∙◌, append_assoc}
use Rattle.std.specs.List.{flat_map}
use Rattle.std.proofs.lemmas.List.{append-nil, flat_map_more, take_more}
use Rattle.image_pools.specs.Pools.{Entry, pool}
use Rattle.msspot_write.specs.declared.gather.Gathered.{Gathered}
use Rattle.msspot_write.specs.Starts.{added, joined}
use Rattle.msspot_write.specs.Gathers.{IsSound, Grows}
use Rattle.msspot_write.proofs.EntryLaws.{joined_more, joined_pool}

pub grows_none : (g : Gathered) → IsSound g → Grows g g [] [] []
grows_none g sound = record { strings = refl; signatures = refl; data_pool = sym (append-nil g.data_pool.items); sound = sound }

pub grows_both : (a b c : Gathered) (s t u v : List Entry) (x y : List ℕ) → Grows a b s u x → Grows b c t v y → Grows a c (s ++ t) (u ++ v) (x ++ y)
grows_both a b c s t u v x y g h =
    record {
      strings = h.strings ∙ ap (λ es. joined es t) g.strings ∙ joined_more a.strings.entries.items s t;
      signatures = h.signatures ∙ ap (λ es. joined es v) g.signatures ∙ joined_more a.signatures.entries.items u v;
      data_pool = h.data_pool ∙ ap (λ bs. bs ++ y) g.data_pool ∙ append_assoc a.data_pool.items x y;
      sound = h.sound;
    }

one_more : {X A : Type 0} (f : X → List A) (xs : List X) (i : ℕ) (d : X) → i < length xs → flat_map f (take i xs) ++ f (get_or xs i d) ≡ flat_map f (take (i + 1) xs)
one_more f xs i d below = flat_map_more f [] (take i xs) (get_or xs i d) ∙ ap (flat_map f) (sym (take_more xs i d below))

-- one more element of what is gone over
pub grows_step : {X : Type 0} (f g : X → List Entry) (h : X → List ℕ) (xs : List X) (i : ℕ) (d : X) (a b c : Gathered) → i < length xs
    → Grows a b (flat_map f (take i xs)) (flat_map g (take i xs)) (flat_map h (take i xs))
    → Grows b c (f (get_or xs i d)) (g (get_or xs i d)) (h (get_or xs i d))
    → Grows a c (flat_map f (take (i + 1) xs)) (flat_map g (take (i + 1) xs)) (flat_map h (take (i + 1) xs))
grows_step f g h xs i d a b c below old new =
    let x = get_or xs i d in
    let all = grows_both a b c (flat_map f (take i xs)) (f x) (flat_map g (take i xs)) (g x) (flat_map h (take i xs)) (h x) old new in
    record {
      strings = all.strings ∙ ap (joined a.strings.entries.items) (one_more f xs i d below);
      signatures = all.signatures ∙ ap (joined a.signatures.entries.items) (one_more g xs i d below);
      data_pool = all.data_pool ∙ ap (λ bs. a.data_pool.items ++ bs) (one_more h xs i d below);
      sound = all.sound;
    }

-- a name, the entries of the tables, and the literals
pub strings_made : (name : Entry) (ts ls a b c : List Entry) → a ≡ added [] name → b ≡ joined a ts → c ≡ joined b ls → c ≡ pool (name ∷ (ts ++ ls))
strings_made name ts ls a b c d e f =
    f ∙ ap (λ es. joined es ls) (e ∙ ap (λ es. joined es ts) d)
    ∙ joined_more (added [] name) ts ls
    ∙ joined_pool (name ∷ (ts ++ ls))
