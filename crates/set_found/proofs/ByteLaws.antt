-- The code in an image of bytes is made of bytes.
use Rattle.std.proofs.Common.{ℕ, zero, suc, ◌<◌, List, [], ◌∷◌, ◌++◌, arith}
use Rattle.std.specs.Prelude.{slice_get, unwrap_or}
use Rattle.assemblies.specs.Closed.{Each}
use Rattle.little_endian.specs.Numbers.{AreBytes}
use Rattle.image_bytes.specs.Layout as layout
use Rattle.image_bytes.specs.Layout.{all_onto, word_onto, words_onto, table_onto, byte_onto, marker, padding, unpadded, counts_of, lengths_of, body_onto, zeros_onto, onto}
use Rattle.image_form.specs.Whole.{bytes_at}

abbrev IsByte : ℕ → Type 0
IsByte b = b < 256

pub each_byte : (bytes : List ℕ) → AreBytes bytes → Each IsByte bytes
each_byte [] h = tt
each_byte (b ∷ bytes) h = (h 0, each_byte bytes (λ k. h (suc k)))

pub are_bytes : (bytes : List ℕ) → Each IsByte bytes → AreBytes bytes
are_bytes [] h k = omega arith
are_bytes (b ∷ bytes) h zero = h.0
are_bytes (b ∷ bytes) h (suc k) = are_bytes bytes h.1 k

pub front_back : (xs ys : List ℕ) → Each IsByte (xs ++ ys) → Each IsByte xs × Each IsByte ys
front_back [] ys h = (tt, h)
front_back (x ∷ xs) ys h = let rest = front_back xs ys h.1 in ((h.0, rest.0), rest.1)

-- ---- what stands behind a part of an image

behind_all : {A : Type 0} (spell : A → List ℕ → List ℕ) → ((x : A) (rest : List ℕ) → Each IsByte (spell x rest) → Each IsByte rest) → (xs : List A) (rest : List ℕ) → Each IsByte (all_onto spell xs rest) → Each IsByte rest
behind_all spell one [] rest h = h
behind_all spell one (x ∷ xs) rest h = behind_all spell one xs rest (one x (all_onto spell xs rest) h)

behind_word : (w : ℕ) (rest : List ℕ) → Each IsByte (word_onto w rest) → Each IsByte rest
behind_word w rest h = h.1.1

behind_words : (ws rest : List ℕ) → Each IsByte (words_onto ws rest) → Each IsByte rest
behind_words = behind_all word_onto behind_word

behind_table : (rows : List (List ℕ)) (rest : List ℕ) → Each IsByte (table_onto rows rest) → Each IsByte rest
behind_table = behind_all words_onto behind_words

behind_tables : (ts : List (List (List ℕ))) (rest : List ℕ) → Each IsByte (all_onto table_onto ts rest) → Each IsByte rest
behind_tables = behind_all table_onto behind_table

pool_bytes : (bs rest : List ℕ) → Each IsByte (all_onto byte_onto bs rest) → Each IsByte bs × Each IsByte rest
pool_bytes [] rest h = (tt, h)
pool_bytes (b ∷ bs) rest h = let more = pool_bytes bs rest h.1 in ((h.0, more.0), more.1)

all_pools : (ps : List (List ℕ)) (rest : List ℕ) → Each IsByte (all_onto (λ pool more. all_onto byte_onto pool more) ps rest) → Each (Each IsByte) ps
all_pools [] rest h = tt
all_pools (p ∷ ps) rest h =
    let here = pool_bytes p (all_onto (λ pool more. all_onto byte_onto pool more) ps rest) h in
    (here.0, all_pools ps rest here.1)

in_pool : (ps : List (List ℕ)) (k : ℕ) → Each (Each IsByte) ps → Each IsByte (unwrap_or (slice_get ps k) [])
in_pool [] k h = tt
in_pool (p ∷ ps) zero h = h.0
in_pool (p ∷ ps) (suc k) h = in_pool ps k h.1

body_pools : (i : layout.Image) (rest : List ℕ) → Each IsByte (body_onto i rest) → Each (Each IsByte) i.pools
unfolding body_onto
body_pools i rest h =
    let ended = zeros_onto (padding (unpadded (counts_of i) (lengths_of i))) rest in
    all_pools i.pools ended (behind_tables i.tables (all_onto (λ pool more. all_onto byte_onto pool more) i.pools ended) h)

pub code_bytes : (i : layout.Image) → Each IsByte (onto i []) → AreBytes (bytes_at i 2)
code_bytes i h =
    let n = unpadded (counts_of i) (lengths_of i) in
    let b9 = word_onto 0 (body_onto i []) in
    let b7 = words_onto (counts_of i) (words_onto (lengths_of i) b9) in
    let b5 = words_onto i.version (word_onto i.name (word_onto i.entry b7)) in
    let sized : Each IsByte b5 = h.1.1.1.1.1.1.1.1.1.1.1.1 in
    let named = (behind_words i.version (word_onto i.name (word_onto i.entry b7)) sized).1.1.1.1 in
    let counted = behind_words (counts_of i) (words_onto (lengths_of i) b9) named in
    let body = (behind_words (lengths_of i) b9 counted).1.1 in
    are_bytes (bytes_at i 2) (in_pool i.pools 2 (body_pools i [] body))
