-- Places at the starts of blocks.
use Rattle.std.proofs.Common.{◌≡◌, ℕ, ◌+◌, ◌*◌, ◌/◌, ◌%◌, ◌^◌, ◌<◌, ◌≤◌, ⊎_elim, Bool, false, List, length, replicate, get_or, ap, sym, ◌∙◌, arith}
use Rattle.std.proofs.Math.Nat.{div-mul-le_self, div-le_self, lt-div-mul-add}
use Rattle.std.proofs.lemmas.Bool.{cases_lt}
use Rattle.std.proofs.lemmas.List.{get_or-replicate}
use Rattle.std.proofs.lemmas.Nat.{mul-le}
use Rattle.cil_tables.specs.Texts.{KnowsFrom}
use Rattle.cil_tables.specs.declared.text_index.TheConstants.{SHORTEST}
use Rattle.cil_tables.proofs.CharLaws.{none_behind}

-- the number of a block that begins in the heap
pub block_small : (number block len blocks : ℕ) → number * block ≤ len → len < blocks * block → number < blocks
block_small number block len blocks from below =
    ⊎_elim (λ (lower : number < blocks). lower)
    (λ (past : blocks ≤ number).
    let more : blocks * block ≤ number * block = mul-le blocks block number block past (omega arith) in
    absurd (omega arith))
    (cases_lt number blocks)

-- the places of the last block that the heap reaches
pub last_small : (block len places : ℕ) → len < places / 4 * block → 4 * (len / block + 1) ≤ 4 * (places / 4)
last_small block len places below =
    let small : len / block < places / 4 = block_small (len / block) block len (places / 4) (div-mul-le_self len block) below in
    omega arith

-- blocks of so many bytes cover the heap
pub block_covers : (len blocks block : ℕ) → 1 ≤ blocks → len / blocks + 1 ≤ block → len < blocks * block
block_covers len blocks block some long =
    let last : len < len / blocks * blocks + blocks = lt-div-mul-add {a = len} {b = blocks} some in
    let more : (len / blocks + 1) * blocks ≤ block * blocks = mul-le (len / blocks + 1) blocks block blocks long (omega arith) in
    omega arith

pub block_bound : (len blocks : ℕ) → len < 2 ^ 32 → len / blocks + 1 ≤ 2 ^ 32
block_bound len blocks small = let most : len / blocks ≤ len = div-le_self len blocks in omega arith

-- behind the last block that the heap reaches, no text begins
pub knows_none : (heap : List ℕ) (block : ℕ) (known : List Bool) → SHORTEST ≤ block → known ≡ replicate (length known) false → KnowsFrom heap block known (4 * (length heap / block + 1))
knows_none heap block known size blank j from inside =
    let past : length heap / block + 1 ≤ j / 4 = omega arith in
    let more : (length heap / block + 1) * block ≤ j / 4 * block = mul-le (length heap / block + 1) block (j / 4) block past (omega arith) in
    ap (λ l. get_or l j false) blank ∙ get_or-replicate (length known) j false false inside ∙ sym (none_behind heap (j / 4 * block + j % 4) (omega arith))
