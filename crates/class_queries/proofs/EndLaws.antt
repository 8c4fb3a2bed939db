-- A way from a class ends as the way from its number does.
use Rattle.std.proofs.Common.{◌≡◌, ℕ, zero, suc, ◌+◌, ◌<◌, ◌≤◌, ◌⊎◌, inl, inr, true, false, List, [], ◌∷◌, ◌++◌, map, length, Option, Some, None, refl, sym, ap, ◌∙◌, arith, length-append, subst}
use Rattle.std.specs.Prelude.{◌&&◌, nat_le, slice_get, is_some, unwrap_or}
use Rattle.std.specs.List.{list_all}
use Rattle.std.specs.Option.{option_map}
use Rattle.std.proofs.lemmas.Bool.{cases_Bool, cases_eq, cases_lt, le-leb, leb-true}
use Rattle.std.proofs.lemmas.Option.{slice_get_within}
use Rattle.machine.specs.Data.{Id}
use Rattle.machine.specs.Throw.{on_some}
use Rattle.classes.specs.Queries.{listed, ends}
use Rattle.assemblies.specs.Binding.{id_at}
use Rattle.ways.specs.Heights.{HeightFits, AreHeights as OfGraph}
use Rattle.ways.specs.Heights as graph
use Rattle.class_table.specs.declared.rows.ClassRow.{ClassRow}
use Rattle.class_table.specs.declared.rows.ClassTable.{ClassTable}
use Rattle.member_keys.specs.Seen.{class_seen}
use Rattle.class_table.specs.Seen.{classes_seen}
use Rattle.class_queries.specs.declared.chains.Way.{Way}
use Rattle.class_queries.specs.declared.chains.Way.TheVariants as way
use Rattle.class_queries.specs.Found.{found_row}
use Rattle.class_queries.specs.Chains.{nexts}
use Rattle.class_queries.specs.Numbers.{count_at, start_at, total_of, number_of}
use Rattle.class_queries.specs.Edges.{file_classes, first_classes, all_classes, edges_of, graph_next}
use Rattle.class_queries.proofs.RowLaws.{superclass_found, enclosing_found, interfaces_found}
use Rattle.class_queries.proofs.NumberLaws.{row_within, number_found, number_missing, number_inside}

get_left : {A : Type 0} (xs ys : List A) (i : ℕ) → i < length xs → slice_get (xs ++ ys) i ≡ slice_get xs i
get_left [] ys i h = absurd (omega (arith, h))
get_left (x ∷ xs) ys zero h = refl
get_left (x ∷ xs) ys (suc i) h = get_left xs ys i (omega (arith, h))

get_right : {A : Type 0} (xs ys : List A) (i : ℕ) → slice_get (xs ++ ys) (length xs + i) ≡ slice_get ys i
get_right [] ys i = let same : 0 + i ≡ i = omega arith in ap (slice_get ys) same
get_right (x ∷ xs) ys i = let same : suc (length xs) + i ≡ suc (length xs + i) = omega arith in ap (slice_get ((x ∷ xs) ++ ys)) same ∙ get_right xs ys i

file_length : (k n : ℕ) → length (file_classes k n) ≡ n
file_length k zero = refl
file_length k (suc n) = omega (arith, length-append (file_classes k n) (id_at k n ∷ []), file_length k n)

in_file : (k n row : ℕ) → row < n → slice_get (file_classes k n) row ≡ Some (id_at k row)
in_file k zero row h = absurd (omega (arith, h))
in_file k (suc n) row h = go (cases_eq row n) (λ low. in_file k n row low)
  where
    go : (row ≡ n) ⊎ (row ≡ n → ⊥) → (row < n → slice_get (file_classes k n) row ≡ Some (id_at k row)) → slice_get (file_classes k n ++ id_at k n ∷ []) row ≡ Some (id_at k row)
    go (inl same) ih =
        let at : row ≡ length (file_classes k n) + 0 = omega (arith, same, file_length k n) in
        ap (slice_get (file_classes k n ++ id_at k n ∷ [])) at ∙ get_right (file_classes k n) (id_at k n ∷ []) 0 ∙ ap (λ r. Some (id_at k r)) (sym same)
    go (inr apart) ih = let low : row < n = omega (arith, h, apart) in get_left (file_classes k n) (id_at k n ∷ []) row (omega (arith, low, file_length k n)) ∙ ih low

module _ (t : ClassTable) where
  first_length : (k : ℕ) → length (first_classes t k) ≡ start_at t k
  first_length zero = refl
  first_length (suc k) = omega (arith, length-append (first_classes t k) (file_classes k (count_at t k)), first_length k, file_length k (count_at t k))

  in_first : (n k row : ℕ) → k < n → row < count_at t k → slice_get (first_classes t n) (start_at t k + row) ≡ Some (id_at k row)
  in_first zero k row low inside = absurd (omega (arith, low))
  in_first (suc n) k row low inside = go (cases_eq k n) (λ h. in_first n k row h inside)
    where
      go : (k ≡ n) ⊎ (k ≡ n → ⊥) → (k < n → slice_get (first_classes t n) (start_at t k + row) ≡ Some (id_at k row)) → slice_get (first_classes t n ++ file_classes n (count_at t n)) (start_at t k + row) ≡ Some (id_at k row)
      go (inl same) ih =
          let at : start_at t k + row ≡ length (first_classes t n) + row = ap (λ i. start_at t i + row) same ∙ ap (λ i. i + row) (sym (first_length n)) in
          ap (slice_get (first_classes t n ++ file_classes n (count_at t n))) at ∙ get_right (first_classes t n) (file_classes n (count_at t n)) row ∙ in_file n (count_at t n) row (subst (λ i. row < count_at t i) same inside) ∙ ap (λ i. Some (id_at i row)) (sym same)
      go (inr apart) ih =
          let before : k < n = omega (arith, low, apart) in
          let there = ih before in
          let within = slice_get_within (first_classes t n) (start_at t k + row) (id_at k row) there in
          get_left (first_classes t n) (file_classes n (count_at t n)) (start_at t k + row) within ∙ there

  pub class_of_number : (c : Id) → is_some (found_row t c) ≡ true → slice_get (all_classes t) (number_of t c) ≡ Some c
  class_of_number c found =
      let within = row_within t c found in
      ap (slice_get (all_classes t)) (number_found t c found) ∙ in_first (length t.files.items) c.file c.row within.0 within.1

  past_all : (a : ℕ) → length (all_classes t) ≤ a → slice_get (all_classes t) a ≡ None
  past_all a high = go (slice_get (all_classes t) a) refl
    where
      go : (o : Option Id) → slice_get (all_classes t) a ≡ o → slice_get (all_classes t) a ≡ None
      go None e = e
      go (Some c) e = let within = slice_get_within (all_classes t) a c e in absurd (omega (arith, within, high))

  -- a class that isn't there leads nowhere
  nowhere : (w : Way) (c : Id) → is_some (found_row t c) ≡ false → nexts w (classes_seen t) c ≡ []
  nowhere w c e = go (found_row t c) refl e w
    where
      go : (o : Option ClassRow) → found_row t c ≡ o → is_some o ≡ false → (w : Way) → nexts w (classes_seen t) c ≡ []
      go None at e way.Above = ap listed (superclass_found t c ∙ ap (λ o. on_some o (λ (r : ClassRow). option_map class_seen r.superclass)) at)
      go None at e way.Interfaces = interfaces_found t c ∙ ap (λ o. unwrap_or (option_map (λ (r : ClassRow). map class_seen r.interfaces.items) o) []) at
      go None at e way.Around = ap listed (enclosing_found t c ∙ ap (λ o. on_some o (λ (r : ClassRow). option_map (id_at c.file) r.enclosing)) at)
      go (Some r) at e w = absurd (cc e)

  module _ (w : Way) where
    pub next_of_number : (c : Id) → graph_next t w (number_of t c) ≡ edges_of t w c
    next_of_number c = go (cases_Bool (is_some (found_row t c)))
      where
        go : (is_some (found_row t c) ≡ true) ⊎ (is_some (found_row t c) ≡ false) → graph_next t w (number_of t c) ≡ edges_of t w c
        go (inl found) =
            let within = row_within t c found in
            ap (graph_next t w) (number_found t c found) ∙ ap (λ o. unwrap_or (option_map (edges_of t w) o) []) (in_first (length t.files.items) c.file c.row within.0 within.1)
        go (inr missing) =
            ap (graph_next t w) (number_missing t c missing)
            ∙ ap (λ o. unwrap_or (option_map (edges_of t w) o) []) (past_all (total_of t) (omega (arith, first_length (length t.files.items))))
            ∙ sym (ap (map (number_of t)) (nowhere w c missing))

    all_mapped : (n : ℕ) → ((c : Id) → graph.ends n (graph_next t w) (number_of t c) ≡ ends n (nexts w (classes_seen t)) c) → (cs : List Id) → list_all (λ a. graph.ends n (graph_next t w) a) (map (number_of t) cs) ≡ list_all (λ c. ends n (nexts w (classes_seen t)) c) cs
    all_mapped n ih [] = refl
    all_mapped n ih (c ∷ cs) = ap (λ b. b && list_all (λ a. graph.ends n (graph_next t w) a) (map (number_of t) cs)) (ih c) ∙ ap (λ b. ends n (nexts w (classes_seen t)) c && b) (all_mapped n ih cs)

    pub same_ends : (n : ℕ) (c : Id) → graph.ends n (graph_next t w) (number_of t c) ≡ ends n (nexts w (classes_seen t)) c
    same_ends zero c = refl
    same_ends (suc n) c = ap (list_all (λ a. graph.ends n (graph_next t w) a)) (next_of_number c) ∙ all_mapped n (λ d. same_ends n d) (nexts w (classes_seen t) c)

    -- what the height of the number tells
    module _ (hs : List (Option ℕ)) (size : length hs ≡ total_of t + 1) (heights : OfGraph (graph_next t w) hs) (c : Id) (n : ℕ) where
      there : (o : Option (Option ℕ)) → slice_get hs (number_of t c) ≡ o → (h : Option ℕ) → unwrap_or o None ≡ h → HeightFits (graph_next t w) (number_of t c) h
      there None e h f = let inside = number_inside t c in absurd (none_inside hs (number_of t c) (omega (arith, inside, size)) e)
        where
          none_inside : (xs : List (Option ℕ)) (i : ℕ) → i < length xs → slice_get xs i ≡ None → ⊥
          none_inside [] i h e = omega (arith, h)
          none_inside (x ∷ xs) zero h e = cc e
          none_inside (x ∷ xs) (suc i) h e = none_inside xs i (omega (arith, h)) e
      there (Some g) e h f = subst (λ x. HeightFits (graph_next t w) (number_of t c) x) f (heights (number_of t c) g e)

      pub ends_told : (h : ℕ) → unwrap_or (slice_get hs (number_of t c)) None ≡ Some h → nat_le h n ≡ ends n (nexts w (classes_seen t)) c
      ends_told h e = go (cases_lt n h) ∙ same_ends n c
        where
          fits : HeightFits (graph_next t w) (number_of t c) (Some h)
          fits = there (slice_get hs (number_of t c)) refl (Some h) e

          go : (n < h) ⊎ (h ≤ n) → nat_le h n ≡ graph.ends n (graph_next t w) (number_of t c)
          go (inr low) = le-leb h n low ∙ sym ((fits n).0 low)
          go (inl high) = not_low (cases_Bool (nat_le h n)) ∙ sym ((fits n).1 high)
            where
              not_low : (nat_le h n ≡ true) ⊎ (nat_le h n ≡ false) → nat_le h n ≡ false
              not_low (inl below) = let low = leb-true h n below in absurd (omega (arith, low, high))
              not_low (inr no_more) = no_more

      pub endless_told : unwrap_or (slice_get hs (number_of t c)) None ≡ None → false ≡ ends n (nexts w (classes_seen t)) c
      endless_told e = sym ((there (slice_get hs (number_of t c)) refl None e) n) ∙ same_ends n c
