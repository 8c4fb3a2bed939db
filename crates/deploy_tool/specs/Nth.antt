-- The operations of a deployment by their numbers.
use Rattle.std.specs.Prelude.{ℕ, ◌+◌, ◌-◌, ◌*◌, ◌==◌, ◌&&◌, nat_lt, if◌then◌else◌, List, Option, Some, None}
use Rattle.flash_trait.specs.Flash.{Operation, Program, Erase}
use Rattle.deploy_model.specs.Banks.{base, number_bytes}
use Rattle.deploy_model.specs.Deployment.{Plan, eight_zeros, piece, piece_count, last_operation, Next, Asks, command_of, payload_of}

abbrev pub zeroing_count : Plan → ℕ
zeroing_count p = (if p.front then 1 else 0) + (if p.back then 1 else 0)

-- behind the pieces: the number, and the marker
abbrev pub nth_end : Plan → ℕ → Option Operation
nth_end p k = if k == 0 then Some (Program (base p.target + 8) (number_bytes p.number)) else (if k == 1 then Some (last_operation p) else None)

-- behind the erases
abbrev pub nth_piece : Plan → List ℕ → ℕ → Option Operation
nth_piece p set k = if nat_lt k (piece_count set) then Some (piece p.target set k) else nth_end p (k - piece_count set)

-- behind the zeroings
abbrev pub nth_filling : Plan → List ℕ → ℕ → Option Operation
nth_filling p set j = if nat_lt j 15 then Some (Erase (16 * p.target + j)) else nth_piece p set (j - 15)

abbrev pub nth_zeroing : Plan → ℕ → Operation
nth_zeroing p i = Program (if (i == 0) && p.front then 0 else base 1) eight_zeros

unfoldable pub nth : Plan → List ℕ → ℕ → Option Operation
nth p set i = if nat_lt i (zeroing_count p) then Some (nth_zeroing p i) else nth_filling p set (i - zeroing_count p)

-- an operation as a request
abbrev pub asks_of : Operation → Next
asks_of op = Asks (command_of op) (payload_of op)
