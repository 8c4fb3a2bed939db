-- Where the innermost frame's places are.
use Rattle.std.proofs.Common.{◌≡◌, ℕ, ◌+◌, ◌*◌, ◌%◌, ◌^◌, ◌<◌, ◌≤◌, List, ◌∷◌, ap, arith, suc, Bool, true, None}
use Rattle.std.specs.Prelude.{sum, slice_index, nat_lt, if◌then◌else◌}
use Rattle.std.proofs.lemmas.Bool.{le-leb}
use Rattle.memory_states.specs.States.{place_held}
use Rattle.tiny_ram.specs.Memory.{RamFrame, Memory, frames_cells, variables, variable_value}
use Rattle.tiny_ram.specs.Region.{Keeps}
use Rattle.tiny_ram.specs.declared.memory.Ram.{Ram}
use Rattle.tiny_ram.proofs.Stacks.{stacked-end}
use Rattle.tiny_except.proofs.Tops.{four_sizes}

-- the frames fit into the memory
pub frames_fit : (r : Ram) (m : Memory) (f : RamFrame) (fs : List RamFrame) → Keeps r m → m.frames ≡ f ∷ fs → frames_cells (f ∷ fs) ≤ m.room
frames_fit r m f fs k e =
    let fills : k.low + 3 * frames_cells m.frames ≡ 3 * m.room = stacked-end r.words.items (3 * m.room) k.low r.hot m.frames k.stacked in
    let same : frames_cells m.frames ≡ frames_cells (f ∷ fs) = ap frames_cells e in
    omega (arith, fills, same)

pub sizes_fit : (r : Ram) (m : Memory) (f : RamFrame) (fs : List RamFrame) → Keeps r m → m.frames ≡ f ∷ fs → sum f.sizes ≤ 4194304
sizes_fit r m f fs k e =
    let most : m.room ≤ 2 ^ 22 = k.most in
    let fit : frames_cells (f ∷ fs) ≤ m.room = frames_fit r m f fs k e in
    omega (arith, most, fit)

-- a number of arguments and a local's do not wrap
pub no_wrap : (a total n : ℕ) → a ≤ total → total ≤ 4194304 → n < 65536 → (a + n) % 4294967296 ≡ a + n
no_wrap a total n l k b = omega (arith, l, k, b)

pub first_size : (f : RamFrame) → slice_index f.sizes 0 ≤ sum f.sizes
first_size f = let four = four_sizes f.sizes in omega (arith, four)

pub variable_inside : (f : RamFrame) (i : ℕ) → i < variables f → i < sum f.sizes
variable_inside f i l = let four = four_sizes f.sizes in omega (arith, four, l)

pub is_variable : (i n : ℕ) → i < n → nat_lt i n ≡ true
is_variable i n l = le-leb (suc i) n l

-- what is told by position alone
pub variable_held : (f : RamFrame) (i : ℕ) → i < variables f → variable_value f i ≡ place_held f i
variable_held f i l = ap (λ (b : Bool). if b then place_held f i else None) (is_variable i (variables f) l)
