-- The parts of a signature, and what they mean.
use Rattle.std.proofs.Common.{◌≡◌, ℕ, zero, suc, ◌+◌, ◌-◌, ◌*◌, ◌<◌, ◌≤◌, Bool, true, false, List, [], ◌∷◌, ◌++◌, length, take, drop, min, get_or, Option, Some, None, refl, sym, ap, ◌∙◌, arith}
use Rattle.std.specs.Prelude.{nat_eq, if◌then◌else◌}
use Rattle.std.specs.List.{prefix_len}
use Rattle.std.specs.Option.{option_map}
use Rattle.std.proofs.lemmas.Bool.{ne_eqb}
use Rattle.std.proofs.lemmas.List.{length-take, take_min}
use Rattle.std.proofs.lemmas.List.Sums.{prefix_len-le-length}
use Rattle.plain_types.specs.declared.elem.Elem.{Elem}
use Rattle.machine.specs.Data.{Id}
use Rattle.machine.specs.Throw.{on_some}
use Rattle.classes.specs.Classes.{SigType, Spelt, ClassToken, ValueToken, ArraySig, SigPlace, Direct, ByRef}
use Rattle.image_bytes.specs.Layout.{Reader, many}
use Rattle.assemblies.specs.Rows.{TypeToken, RawType, RawSpelt, RawClass, RawValue, RawArray, RawPlace, RawDirect, RawByRef}
use Rattle.assemblies.specs.Binding.{both_some, all_some}
use Rattle.image_form.specs.Signatures.{elem_at, read_named, read_leaf, read_raw, read_type, read_place, read_result}
use Rattle.set_signatures.specs.declared.tokens.Tokens.{Tokens}
use Rattle.set_signatures.specs.Meant.{class_named, plain_of, type_meant, place_meant, result_meant, then_meant, token_read, with_class, with_place, with_result, leaf_told, type_told, place_told, result_told, places_told, brackets, in_brackets, bracketed}

-- ---- brackets

pub brackets_fit : (bytes : List ℕ) → brackets bytes ≤ length bytes
brackets_fit bytes = omega (arith, prefix_len-le-length (λ code. nat_eq code 29) (take 255 bytes), length-take 255 bytes)

pub brackets_few : (bytes : List ℕ) → brackets bytes ≤ 255
brackets_few bytes = omega (arith, prefix_len-le-length (λ code. nat_eq code 29) (take 255 bytes), length-take 255 bytes)

pub few_brackets : (bytes : List ℕ) → prefix_len (λ code. nat_eq code 29) (take (min (length bytes) 255) bytes) ≡ brackets bytes
few_brackets bytes = let swap : min (length bytes) 255 ≡ min 255 (length bytes) = omega arith in ap (λ n. prefix_len (λ code. nat_eq code 29) (take n bytes)) swap ∙ ap (prefix_len (λ code. nat_eq code 29)) (take_min 255 bytes)

-- ---- the rest of bytes

take_whole : {A : Type 0} (xs : List A) (n : ℕ) → length xs ≤ n → take n xs ≡ xs
take_whole [] zero e = refl
take_whole [] (suc n) e = refl
take_whole (y ∷ xs) zero e = absurd (omega arith)
take_whole (y ∷ xs) (suc n) e = ap (λ zs. y ∷ zs) (take_whole xs n (omega arith))

drop_short : {A : Type 0} (k : ℕ) (xs : List A) → length (drop k xs) ≤ length xs - k
drop_short zero xs = omega arith
drop_short (suc k) [] = omega arith
drop_short (suc k) (x ∷ xs) = let less = drop_short k xs in omega (arith, less)

pub rest_is : {A : Type 0} (k : ℕ) (xs : List A) → take (length xs - k) (drop k xs) ≡ drop k xs
rest_is k xs = take_whole (drop k xs) (length xs - k) (drop_short k xs)

-- ---- what is made of what was read

abbrev pub made_of : {A C : Type 0} → (A → C) → A × List ℕ → C × List ℕ
made_of make x = (make x.0, x.1)

abbrev pub behind_it : {A : Type 0} → List ℕ → A → A × List ℕ
behind_it rest y = (y, rest)

pub mapped : {A B C D : Type 0} (meant : A → Option B) (meant' : C → Option D) (make : A → C) (make' : B → D) → ((x : A) → meant' (make x) ≡ option_map make' (meant x)) → (o : Option (A × List ℕ))
    → then_meant meant' (on_some o (λ x. Some (made_of make x))) ≡ option_map (made_of make') (then_meant meant o)
mapped meant meant' make make' same None = refl
mapped {A} {B} {C} {D} meant meant' make make' same (Some x) = ap (option_map (behind_it x.1)) (same x.0) ∙ by (meant x.0)
  where
    by : (o : Option B) → option_map (behind_it {A = D} x.1) (option_map make' o) ≡ option_map (made_of make') (option_map (behind_it {A = B} x.1) o)
    by None = refl
    by (Some y) = refl

module _ (t : Tokens) where
  abbrev M : Option (RawType × List ℕ) → Option (SigType × List ℕ)
  M o = then_meant (type_meant t) o

  -- ---- a type without brackets

  named_meant : (make : TypeToken → RawType) (make' : Id → SigType) → ((u : TypeToken) → type_meant t (make u) ≡ option_map make' (class_named t u)) → (bytes : List ℕ) → M (read_named (plain_of t) make bytes) ≡ with_class make' (token_read t bytes)
  unfolding token_read
  named_meant make make' same [] = refl
  named_meant make make' same (low ∷ []) = refl
  named_meant make make' same (low ∷ high ∷ rest) = by (plain_of t (low + 256 * high))
    where
      inner : (o : Option Id) → option_map (behind_it {A = SigType} rest) (option_map make' o) ≡ with_class make' (option_map (behind_it {A = Id} rest) o)
      inner None = refl
      inner (Some c) = refl

      by : (o : Option TypeToken) → M (on_some o (λ u. Some (make u, rest))) ≡ with_class make' (option_map (behind_it {A = Id} rest) (on_some o (class_named t)))
      by None = refl
      by (Some u) = ap (option_map (behind_it {A = SigType} rest)) (same u) ∙ inner (class_named t u)

  abbrev leaf_by : Bool → Bool → ℕ → List ℕ → Option (RawType × List ℕ)
  leaf_by a b code rest = if a then read_named (plain_of t) RawClass rest else (if b then read_named (plain_of t) RawValue rest else on_some (elem_at code) (λ e. Some (RawSpelt e, rest)))

  abbrev pub spelt_with : List ℕ → Elem → SigType × List ℕ
  spelt_with rest e = (Spelt e, rest)

  pub leaf_class : (code : ℕ) (rest : List ℕ) → code ≡ 18 → with_class ClassToken (token_read t rest) ≡ leaf_told t code rest
  unfolding leaf_told
  leaf_class code rest e = sym (ap (λ c. M (read_leaf (plain_of t) c rest)) e ∙ named_meant RawClass ClassToken (λ u. refl) rest)

  pub leaf_value : (code : ℕ) (rest : List ℕ) → code ≡ 17 → with_class ValueToken (token_read t rest) ≡ leaf_told t code rest
  unfolding leaf_told
  leaf_value code rest e = sym (ap (λ c. M (read_leaf (plain_of t) c rest)) e ∙ named_meant RawValue ValueToken (λ u. refl) rest)

  pub leaf_spelt : (code : ℕ) (rest : List ℕ) → (code ≡ 18 → ⊥) → (code ≡ 17 → ⊥) → option_map (spelt_with rest) (elem_at code) ≡ leaf_told t code rest
  unfolding leaf_told
  leaf_spelt code rest f g = sym (ap (λ a. M (leaf_by a (nat_eq code 17) code rest)) (ne_eqb code 18 f) ∙ ap (λ b. M (leaf_by false b code rest)) (ne_eqb code 17 g) ∙ by (elem_at code))
    where
      by : (o : Option Elem) → M (on_some o (λ e. Some (RawSpelt e, rest))) ≡ option_map (spelt_with rest) o
      by None = refl
      by (Some e) = refl

  -- ---- a type in brackets

  no_brackets : (o : Option (SigType × List ℕ)) → o ≡ in_brackets 0 o
  no_brackets None = refl
  no_brackets (Some x) = refl

  one_more : (n : ℕ) (o : Option (SigType × List ℕ)) → option_map (made_of ArraySig) (in_brackets n o) ≡ in_brackets (suc n) o
  one_more n None = refl
  one_more n (Some x) = refl

  more_brackets : (n : ℕ) (bytes : List ℕ) → option_map (made_of ArraySig) (bracketed t n bytes) ≡ bracketed t (suc n) bytes
  more_brackets n [] = refl
  more_brackets n (code ∷ rest) = one_more n (leaf_told t code rest)

  raw_meant : (n : ℕ) (bytes : List ℕ) → M (read_raw (plain_of t) n bytes) ≡ bracketed t (prefix_len (λ code. nat_eq code 29) (take n bytes)) (drop (prefix_len (λ code. nat_eq code 29) (take n bytes)) bytes)
  unfolding leaf_told
  raw_meant zero [] = refl
  raw_meant zero (b ∷ rest) = no_brackets (M (read_leaf (plain_of t) b rest))
  raw_meant (suc n) [] = refl
  raw_meant (suc n) (b ∷ rest) = by (nat_eq b 29) (prefix_len (λ code. nat_eq code 29) (take n rest)) (raw_meant n rest)
    where
      by : (a : Bool) (k : ℕ) → M (read_raw (plain_of t) n rest) ≡ bracketed t k (drop k rest)
          → M (if a then on_some (read_raw (plain_of t) n rest) (λ x. Some (RawArray x.0, x.1)) else read_leaf (plain_of t) b rest) ≡ bracketed t (if a then 1 + k else 0) (drop (if a then 1 + k else 0) (b ∷ rest))
      by true k ih =
          let more : 1 + k ≡ suc k = omega arith in
          mapped (type_meant t) (type_meant t) RawArray ArraySig (λ x. refl) (read_raw (plain_of t) n rest)
          ∙ ap (option_map (made_of ArraySig)) ih
          ∙ more_brackets k (drop k rest)
          ∙ ap (λ m. bracketed t m (drop m (b ∷ rest))) (sym more)
      by false k ih = no_brackets (M (read_leaf (plain_of t) b rest))

  pub type_is : (bytes : List ℕ) → bracketed t (brackets bytes) (drop (brackets bytes) bytes) ≡ type_told t bytes
  unfolding type_told
  type_is bytes = sym (raw_meant 255 bytes)

  pub no_inner : (n : ℕ) (bytes : List ℕ) → length bytes < 1 → None ≡ bracketed t n bytes
  no_inner n [] h = refl
  no_inner n (b ∷ bytes) h = absurd (omega arith)

  pub inner_is : (n : ℕ) (bytes : List ℕ) → 1 ≤ length bytes → in_brackets n (leaf_told t (get_or bytes 0 0) (drop 1 bytes)) ≡ bracketed t n bytes
  inner_is n [] h = absurd (omega arith)
  inner_is n (b ∷ bytes) h = refl

  -- ---- parameters and results

  pub empty_place : (bytes : List ℕ) → length bytes < 1 → None ≡ place_told t bytes
  unfolding place_told
  empty_place [] h = refl
  empty_place (b ∷ bytes) h = absurd (omega arith)

  abbrev place_by : Bool → ℕ → List ℕ → Option (SigPlace × List ℕ)
  place_by a b rest = then_meant (place_meant t) (if a then on_some (read_type (plain_of t) rest) (λ x. Some (made_of RawByRef x)) else on_some (read_type (plain_of t) (b ∷ rest)) (λ x. Some (made_of RawDirect x)))

  pub pointer_place : (bytes : List ℕ) → 1 ≤ length bytes → get_or bytes 0 0 ≡ 16 → with_place true (type_told t (drop 1 bytes)) ≡ place_told t bytes
  unfolding place_told type_told
  pointer_place [] h e = absurd (omega arith)
  pointer_place (b ∷ rest) h e = sym (ap (λ c. then_meant (place_meant t) (read_place (plain_of t) (c ∷ rest))) e ∙ mapped (type_meant t) (place_meant t) RawByRef ByRef (λ x. refl) (read_type (plain_of t) rest))

  pub direct_place : (bytes : List ℕ) → 1 ≤ length bytes → (get_or bytes 0 0 ≡ 16 → ⊥) → with_place false (type_told t bytes) ≡ place_told t bytes
  unfolding place_told type_told
  direct_place [] h f = absurd (omega arith)
  direct_place (b ∷ rest) h f = sym (ap (λ a. place_by a b rest) (ne_eqb b 16 f) ∙ mapped (type_meant t) (place_meant t) RawDirect Direct (λ x. refl) (read_type (plain_of t) (b ∷ rest)))

  pub empty_result : (bytes : List ℕ) → length bytes < 1 → None ≡ result_told t bytes
  unfolding result_told
  empty_result [] h = refl
  empty_result (b ∷ bytes) h = absurd (omega arith)

  pub void_result : (bytes : List ℕ) → 1 ≤ length bytes → get_or bytes 0 0 ≡ 1 → Some (behind_it {A = Option SigType} (drop 1 bytes) None) ≡ result_told t bytes
  unfolding result_told
  void_result [] h e = absurd (omega arith)
  void_result (b ∷ rest) h e = sym (ap (λ c. then_meant (result_meant t) (read_result (plain_of t) (c ∷ rest))) e)

  abbrev result_by : Bool → ℕ → List ℕ → Option (Option SigType × List ℕ)
  result_by a b rest = then_meant (result_meant t) (if a then Some (behind_it {A = Option RawType} rest None) else on_some (read_type (plain_of t) (b ∷ rest)) (λ x. Some (made_of Some x)))

  pub typed_result : (bytes : List ℕ) → 1 ≤ length bytes → (get_or bytes 0 0 ≡ 1 → ⊥) → with_result (type_told t bytes) ≡ result_told t bytes
  unfolding result_told type_told
  typed_result [] h f = absurd (omega arith)
  typed_result (b ∷ rest) h f = sym (ap (λ a. result_by a b rest) (ne_eqb b 1 f) ∙ mapped (type_meant t) (result_meant t) Some Some (λ x. refl) (read_type (plain_of t) (b ∷ rest)))

  -- ---- so many parameters

  abbrev pub one_place : Reader SigPlace
  one_place bytes = place_told t bytes

  pub many_meant : (n : ℕ) (bytes : List ℕ) → then_meant (all_some (place_meant t)) (many (read_place (plain_of t)) n bytes) ≡ many one_place n bytes
  unfolding place_told
  many_meant zero bytes = refl
  many_meant (suc n) bytes = by (read_place (plain_of t) bytes) (λ more. many_meant n more)
    where
      joined : (s : SigPlace) (ps : List RawPlace) (rest : List ℕ) (o : Option (List SigPlace))
          → option_map (behind_it {A = List SigPlace} rest) (both_some (λ y ys. y ∷ ys) (Some s) o) ≡ on_some (option_map (behind_it {A = List SigPlace} rest) o) (λ ys. Some (s ∷ ys.0, ys.1))
      joined s ps rest None = refl
      joined s ps rest (Some ss) = refl

      none : (o : Option (List RawPlace × List ℕ)) (p : RawPlace) → place_meant t p ≡ None → then_meant (all_some (place_meant t)) (on_some o (λ xs. Some (p ∷ xs.0, xs.1))) ≡ None
      none None p e = refl
      none (Some xs) p e = ap (λ s. option_map (behind_it {A = List SigPlace} xs.1) (both_some (λ y ys. y ∷ ys) s (all_some (place_meant t) xs.0))) e

      some : (o : Option (List RawPlace × List ℕ)) (p : RawPlace) (s : SigPlace) → place_meant t p ≡ Some s → then_meant (all_some (place_meant t)) (on_some o (λ xs. Some (p ∷ xs.0, xs.1))) ≡ on_some (then_meant (all_some (place_meant t)) o) (λ ys. Some (s ∷ ys.0, ys.1))
      some None p s e = refl
      some (Some xs) p s e = ap (λ o. option_map (behind_it {A = List SigPlace} xs.1) (both_some (λ y ys. y ∷ ys) o (all_some (place_meant t) xs.0))) e ∙ joined s xs.0 xs.1 (all_some (place_meant t) xs.0)

      inner : (p : RawPlace) (rest : List ℕ) (o : Option SigPlace) → place_meant t p ≡ o → ((more : List ℕ) → then_meant (all_some (place_meant t)) (many (read_place (plain_of t)) n more) ≡ many one_place n more)
          → then_meant (all_some (place_meant t)) (on_some (many (read_place (plain_of t)) n rest) (λ xs. Some (p ∷ xs.0, xs.1))) ≡ on_some (option_map (behind_it {A = SigPlace} rest) o) (λ y. on_some (many one_place n y.1) (λ ys. Some (y.0 ∷ ys.0, ys.1)))
      inner p rest None e ih = none (many (read_place (plain_of t)) n rest) p e
      inner p rest (Some s) e ih = some (many (read_place (plain_of t)) n rest) p s e ∙ ap (λ o. on_some o (λ ys. Some (s ∷ ys.0, ys.1))) (ih rest)

      by : (o : Option (RawPlace × List ℕ)) → ((more : List ℕ) → then_meant (all_some (place_meant t)) (many (read_place (plain_of t)) n more) ≡ many one_place n more)
          → then_meant (all_some (place_meant t)) (on_some o (λ x. on_some (many (read_place (plain_of t)) n x.1) (λ xs. Some (x.0 ∷ xs.0, xs.1)))) ≡ on_some (then_meant (place_meant t) o) (λ y. on_some (many one_place n y.1) (λ ys. Some (y.0 ∷ ys.0, ys.1)))
      by None ih = refl
      by (Some x) ih = inner x.0 x.1 (place_meant t x.0) refl ih

  -- what was read before
  abbrev pub behind : List SigPlace → Option (List SigPlace × List ℕ) → Option (List SigPlace × List ℕ)
  behind before o = option_map (made_of (λ ys. before ++ ys)) o

  abbrev pub left : ℕ → ℕ → List ℕ → Option (List SigPlace × List ℕ)
  left count k rest = many one_place (count - k) rest

  pub places_stop : (count k : ℕ) (before : List SigPlace) (rest : List ℕ) (whole : Option (List SigPlace × List ℕ)) → k < count → None ≡ one_place rest → behind before (left count k rest) ≡ whole → None ≡ whole
  places_stop count k before rest whole lt e so_far =
      let more : count - k ≡ suc (count - (k + 1)) = omega arith in
      sym (ap (λ n. behind before (many one_place n rest)) more ∙ ap (λ o. behind before (on_some o (λ x. on_some (many one_place (count - (k + 1)) x.1) (λ xs. Some (x.0 ∷ xs.0, xs.1))))) (sym e)) ∙ so_far

  appended : (before : List SigPlace) (s : SigPlace) (o : Option (List SigPlace × List ℕ)) → behind before (on_some o (λ xs. Some (s ∷ xs.0, xs.1))) ≡ behind (before ++ s ∷ []) o
  appended before s None = refl
  appended before s (Some xs) = ap (λ (ys : List SigPlace). Some (behind_it xs.1 ys)) (assoc before)
    where
      assoc : (ps : List SigPlace) → ps ++ s ∷ xs.0 ≡ (ps ++ s ∷ []) ++ xs.0
      assoc [] = refl
      assoc (p ∷ ps) = ap (λ ys. p ∷ ys) (assoc ps)

  pub places_go_on : (count k : ℕ) (before : List SigPlace) (rest : List ℕ) (s : SigPlace) (after : List ℕ) (whole : Option (List SigPlace × List ℕ)) → k < count → Some (behind_it after s) ≡ one_place rest → behind before (left count k rest) ≡ whole → behind (before ++ s ∷ []) (left count (k + 1) after) ≡ whole
  places_go_on count k before rest s after whole lt e so_far =
      let more : count - k ≡ suc (count - (k + 1)) = omega arith in
      sym (appended before s (many one_place (count - (k + 1)) after))
      ∙ sym (ap (λ n. behind before (many one_place n rest)) more ∙ ap (λ o. behind before (on_some o (λ x. on_some (many one_place (count - (k + 1)) x.1) (λ xs. Some (x.0 ∷ xs.0, xs.1))))) (sym e))
      ∙ so_far

  pub places_done : (count k : ℕ) (before : List SigPlace) (rest : List ℕ) (whole : Option (List SigPlace × List ℕ)) → count ≤ k → behind before (left count k rest) ≡ whole → Some (behind_it rest before) ≡ whole
  places_done count k before rest whole le so_far =
      let none : count - k ≡ 0 = omega arith in
      sym (ap (λ n. behind before (many one_place n rest)) none ∙ ap (λ (ys : List SigPlace). Some (behind_it rest ys)) (nothing before)) ∙ so_far
    where
      nothing : (ps : List SigPlace) → ps ++ [] ≡ ps
      nothing [] = refl
      nothing (p ∷ ps) = ap (λ ys. p ∷ ys) (nothing ps)

  pub places_begin : (bytes : List ℕ) (count : ℕ) → behind [] (left count 0 bytes) ≡ places_told t count bytes
  unfolding places_told
  places_begin bytes count = let all : count - 0 ≡ count = omega arith in ap (λ n. behind [] (many one_place n bytes)) all ∙ same (many one_place count bytes) ∙ sym (many_meant count bytes)
    where
      same : (o : Option (List SigPlace × List ℕ)) → behind [] o ≡ o
      same None = refl
      same (Some x) = refl
