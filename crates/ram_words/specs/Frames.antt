-- The first two cells of a frame, and where its parts lie.
use Rattle.std.specs.Prelude.{ℕ, ◌+◌, ◌*◌, ◌/◌, ◌%◌, ◌^◌, List, [], ◌∷◌, slice_index}
use Rattle.board_types.specs.declared.board.TypeAt.{TypeAt}
use Rattle.ram_words.specs.declared.frames.Hot.{Hot}
use Rattle.ram_words.specs.Cells.{row_in}

-- arguments, locals, stack places and clauses: 22 bits each, the clauses in ten, ten and two bits above the others
abbrev pub sizes_in : ℕ → ℕ → ℕ → List ℕ
sizes_in a b c = (a % 2 ^ 22) ∷ (b % 2 ^ 22) ∷ (c % 2 ^ 22) ∷ (a / 2 ^ 22 + 2 ^ 10 * (b / 2 ^ 22) + 2 ^ 20 * (c / 2 ^ 22)) ∷ []

-- of the frame whose header begins at a word
unfoldable pub sizes_at : List ℕ → ℕ → List ℕ
sizes_at ws base = sizes_in (slice_index ws (base + 3)) (slice_index ws (base + 4)) (slice_index ws (base + 5))

abbrev pub method_at : List ℕ → ℕ → TypeAt
method_at ws base = row_in (slice_index ws (base + 1))

-- the parts of a frame of these sizes, with so many values on its stack, at a place in its code
abbrev pub placed : ℕ → List ℕ → ℕ → ℕ → Hot
placed base sizes depth place =
    let locals = base + 6 + 3 * slice_index sizes 0 in
    let stack = locals + 3 * slice_index sizes 1 in
    record { arguments = base + 6; locals = locals; stack = stack; top = stack + 3 * depth; limit = stack + 3 * slice_index sizes 2; place = place }

-- where a waiting frame goes on
unfoldable pub hot_at : List ℕ → ℕ → Hot
hot_at ws base = placed base (sizes_at ws base) (slice_index ws base % 2 ^ 22) (slice_index ws (base + 2))
