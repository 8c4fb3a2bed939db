-- What is known of a class stands at its number.
use Rattle.std.proofs.Common.{◌≡◌, ◌∙◌, ℕ, zero, suc, ◌<◌, ◌⊎◌, inl, inr, Bool, true, false, List, [], ◌∷◌, length, Option, Some, None, refl, sym, ap, arith}
use Rattle.std.specs.Prelude.{is_some, slice_get, slice_set, unwrap_or}
use Rattle.std.proofs.lemmas.Bool.{cases_Bool, cases_eq}
use Rattle.std.proofs.lemmas.List.{length-set}
use Rattle.std.proofs.lemmas.Option.{slice_get_within}
use Rattle.machine.specs.Data.{Id}
use Rattle.classes.specs.Queries.{is_sub}
use Rattle.class_table.specs.declared.rows.ClassTable.{ClassTable}
use Rattle.class_table.specs.Seen.{classes_seen}
use Rattle.class_queries.specs.Found.{found_row}
use Rattle.class_queries.specs.Numbers.{total_of, number_of}
use Rattle.class_queries.specs.Edges.{all_classes}
use Rattle.class_queries.specs.Below.{AreBelow}
use Rattle.class_queries.proofs.NumberLaws.{number_missing}
use Rattle.class_queries.proofs.EndLaws.{class_of_number}

get_set_same : {A : Type 0} (xs : List A) (n : ℕ) (x : A) → n < length xs → slice_get (slice_set xs n x) n ≡ Some x
get_set_same [] n x h = absurd (omega (arith, h))
get_set_same (y ∷ xs) zero x h = refl
get_set_same (y ∷ xs) (suc n) x h = get_set_same xs n x (omega (arith, h))

get_set_other : {A : Type 0} (xs : List A) (n k : ℕ) (x : A) → (k ≡ n → ⊥) → slice_get (slice_set xs n x) k ≡ slice_get xs k
get_set_other [] n k x h = refl
get_set_other (y ∷ xs) zero zero x h = absurd (h refl)
get_set_other (y ∷ xs) zero (suc k) x h = refl
get_set_other (y ∷ xs) (suc n) zero x h = refl
get_set_other (y ∷ xs) (suc n) (suc k) x h = get_set_other xs n k x (λ e. h (ap suc e))

module _ (t : ClassTable) where
  -- a class with a number below that of no class is in the table
  numbered : (c : Id) → number_of t c < total_of t → slice_get (all_classes t) (number_of t c) ≡ Some c
  numbered c low = go (cases_Bool (is_some (found_row t c)))
    where
      go : (is_some (found_row t c) ≡ true) ⊎ (is_some (found_row t c) ≡ false) → slice_get (all_classes t) (number_of t c) ≡ Some c
      go (inl found) = class_of_number t c found
      go (inr missing) = absurd (omega (arith, low, number_missing t c missing))

  module _ (other : Id) (known : List (Option Bool)) (below : AreBelow t other known) (c : Id) where
    pub known_told : (b : Bool) → unwrap_or (slice_get known (number_of t c)) None ≡ Some b → is_sub (classes_seen t) c other ≡ b
    known_told b e = go (slice_get known (number_of t c)) refl e
      where
        go : (o : Option (Option Bool)) → slice_get known (number_of t c) ≡ o → unwrap_or o None ≡ Some b → is_sub (classes_seen t) c other ≡ b
        go None at e = absurd (cc e)
        go (Some x) at e =
            let within = slice_get_within known (number_of t c) x at in
            below.told (number_of t c) c b (numbered c (omega (arith, within, below.count))) (at ∙ ap Some e)

    -- one class more
    pub more_told : (b : Bool) → number_of t c < length known → is_sub (classes_seen t) c other ≡ b → AreBelow t other (slice_set known (number_of t c) (Some b))
    more_told b inside is = record {
      count = length-set known (number_of t c) (Some b) ∙ below.count;
      told = λ n d x at there. go n d x at there (cases_eq n (number_of t c));
    }
      where
        go : (n : ℕ) (d : Id) (x : Bool) → slice_get (all_classes t) n ≡ Some d → slice_get (slice_set known (number_of t c) (Some b)) n ≡ Some (Some x) → (n ≡ number_of t c) ⊎ (n ≡ number_of t c → ⊥) → is_sub (classes_seen t) d other ≡ x
        go n d x at there (inl same) =
            let it : d ≡ c = cc (sym at ∙ ap (slice_get (all_classes t)) same ∙ numbered c (omega (arith, inside, below.count))) in
            let answer : x ≡ b = cc (sym there ∙ ap (slice_get (slice_set known (number_of t c) (Some b))) same ∙ get_set_same known (number_of t c) (Some b) inside) in
            ap (λ d. is_sub (classes_seen t) d other) it ∙ is ∙ sym answer
        go n d x at there (inr apart) = below.told n d x at (sym (get_set_other known (number_of t c) n (Some b) apart) ∙ there)

  -- of no class
  pub none_told : (other : Id) (known : List (Option Bool)) → length known ≡ total_of t → ((n : ℕ) (x : Option Bool) → slice_get known n ≡ Some x → x ≡ None) → AreBelow t other known
  none_told other known count none = record {
    count = count;
    told = λ n c b at there. absurd (cc (sym (none n (Some b) there)));
  }
