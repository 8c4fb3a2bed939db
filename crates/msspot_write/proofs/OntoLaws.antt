-- What is spelt before a rest is what is spelt before nothing, and the rest.
use Rattle.std.proofs.Common.{◌≡◌, ℕ, zero, suc, List, [], ◌∷◌, ◌++◌, length, take, get_or, ◌+◌, ◌<◌, replicate, refl, sym, ap, ◌∙◌, append_assoc}
use Rattle.std.proofs.lemmas.List.{append-nil, take_more, replicate-append-replicate}
use Rattle.image_bytes.specs.Layout.{word_onto, all_onto, words_onto, table_onto, byte_onto, zeros_onto}
use Rattle.image_pools.specs.Pools.{Entry, entry_onto, pool_onto}

abbrev pub Before : (List ℕ → List ℕ) → Type 0
Before spell = (rest : List ℕ) → spell rest ≡ spell [] ++ rest

module _ {A : Type 0} (spell : A → List ℕ → List ℕ) (each : (x : A) → Before (spell x)) where
  pub all_before : (xs : List A) → Before (all_onto spell xs)
  all_before [] rest = refl
  all_before (x ∷ xs) rest =
      each x (all_onto spell xs rest)
      ∙ ap (λ ys. spell x [] ++ ys) (all_before xs rest)
      ∙ sym (append_assoc (spell x []) (all_onto spell xs []) rest)
      ∙ ap (λ ys. ys ++ rest) (sym (each x (all_onto spell xs [])))

  all_append : (xs ys : List A) (rest : List ℕ) → all_onto spell (xs ++ ys) rest ≡ all_onto spell xs (all_onto spell ys rest)
  all_append [] ys rest = refl
  all_append (x ∷ xs) ys rest = ap (spell x) (all_append xs ys rest)

  pub all_both : (xs ys : List A) → all_onto spell (xs ++ ys) [] ≡ all_onto spell xs [] ++ all_onto spell ys []
  all_both xs ys = all_append xs ys [] ∙ all_before xs (all_onto spell ys [])

pub words_before : (ws : List ℕ) → Before (words_onto ws)
words_before ws = all_before word_onto (λ w rest. refl) ws

pub words_both : (vs ws : List ℕ) → words_onto (vs ++ ws) [] ≡ words_onto vs [] ++ words_onto ws []
words_both vs ws = all_both word_onto (λ w rest. refl) vs ws

pub table_before : (rows : List (List ℕ)) → Before (table_onto rows)
table_before rows = all_before words_onto words_before rows

pub tables_before : (ts : List (List (List ℕ))) → Before (all_onto table_onto ts)
tables_before ts = all_before table_onto table_before ts

pub bytes_before : (bs rest : List ℕ) → all_onto byte_onto bs rest ≡ bs ++ rest
bytes_before [] rest = refl
bytes_before (b ∷ bs) rest = ap (λ ys. b ∷ ys) (bytes_before bs rest)

pub entry_before : (e : Entry) → Before (entry_onto e)
entry_before e rest =
    ap (word_onto (length e.bytes)) (bytes_before e.bytes rest ∙ ap (λ bs. bs ++ rest) (sym (bytes_before e.bytes [] ∙ append-nil e.bytes)))

pub pool_before : (es : List Entry) → Before (pool_onto es)
pool_before es = all_before entry_onto entry_before es

pub zeros_are : (n : ℕ) → zeros_onto n [] ≡ replicate n 0
zeros_are zero = refl
zeros_are (suc n) = ap (λ bs. 0 ∷ bs) (zeros_are n)

-- one more push
pub pushed : (spell : List ℕ → List ℕ) → Before spell → (out new rest : List ℕ) → new ≡ out ++ spell [] → new ++ rest ≡ out ++ spell rest
pushed spell before out new rest e = ap (λ ys. ys ++ rest) e ∙ append_assoc out (spell []) rest ∙ ap (λ ys. out ++ ys) (sym (before rest))

pub zeros_more : (xs : List ℕ) (n : ℕ) → (xs ++ replicate n 0) ++ 0 ∷ [] ≡ xs ++ replicate (n + 1) 0
zeros_more xs n = append_assoc xs (replicate n 0) (0 ∷ []) ∙ ap (λ ys. xs ++ ys) (replicate-append-replicate n 1 0)

-- one more element of a list that is pushed
pub more_onto : {A : Type 0} (spell : A → List ℕ → List ℕ) → ((x : A) → Before (spell x)) → (start : List ℕ) (xs : List A) (i : ℕ) (d : A) → i < length xs
    → (start ++ all_onto spell (take i xs) []) ++ spell (get_or xs i d) [] ≡ start ++ all_onto spell (take (i + 1) xs) []
more_onto spell each start xs i d below =
    append_assoc start (all_onto spell (take i xs) []) (spell (get_or xs i d) [])
    ∙ ap (λ ys. start ++ ys) (sym (all_both spell each (take i xs) (get_or xs i d ∷ [])) ∙ ap (λ ys. all_onto spell ys []) (sym (take_more xs i d below)))

pub entry_pushed : (out mid new b : List ℕ) (e : Entry) → b ≡ e.bytes → mid ≡ out ++ word_onto (length b) [] → new ≡ mid ++ b → new ≡ out ++ entry_onto e []
entry_pushed out mid new b e is m n =
    n ∙ ap (λ ys. ys ++ b) m ∙ append_assoc out (word_onto (length b) []) b
    ∙ ap (λ (bs : List ℕ). out ++ word_onto (length bs) bs) is
    ∙ ap (λ bs. out ++ word_onto (length e.bytes) bs) (sym (bytes_before e.bytes [] ∙ append-nil e.bytes))

pub then_before : (f g : List ℕ → List ℕ) → Before f → Before g → Before (λ r. f (g r))
then_before f g bf bg rest =
    bf (g rest) ∙ ap (λ ys. f [] ++ ys) (bg rest) ∙ sym (append_assoc (f []) (g []) rest) ∙ ap (λ ys. ys ++ rest) (sym (bf (g [])))
