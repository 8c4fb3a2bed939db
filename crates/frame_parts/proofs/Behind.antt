-- The parts of a frame.
use Rattle.std.specs.Int.{w32, cast_signed, cast_unsigned}
use Rattle.std.proofs.Common.{◌≡◌, ℕ, pos, ◌+◌, ◌<◌, ◌≤◌, true, sym, ap, subst, arith}
use Rattle.std.specs.Prelude.{sum, slice_index, unwrap_or}
use Rattle.std.proofs.lemmas.Int.{ints}
use Rattle.plain_types.specs.declared.elem.Elem.TheVariants.{Class, I4}
use Rattle.board_types.specs.declared.value.Value.TheVariants.{Int, Ref}
use Rattle.tiny_ram.specs.declared.parts.Part.{Part}
use Rattle.tiny_ram.specs.Memory.{RamFrame, part_value, frame_value, PartTakes, FrameTakes, with_part, with_frame_value, shown}
use Rattle.memory_states.specs.States.{place_held}
use Rattle.tiny_except.specs.Unwinding.{number_in}
use Rattle.tiny_except.proofs.Tops.{slot_part, depth_part, initialiser_part}

pub depth_shown : (f : RamFrame) → cast_unsigned w32 (number_in (shown I4 (frame_value f (sum f.sizes + 1)))) ≡ f.depth
depth_shown f = ap (λ q. cast_unsigned w32 (number_in (shown I4 (part_value f (sum f.sizes + 1) q)))) (depth_part (sum f.sizes))

pub place_shown : (f : RamFrame) (i : ℕ) → i < sum f.sizes → shown Class (frame_value f i) ≡ unwrap_or (place_held f i) (Ref 0)
place_shown f i l = ap (λ q. shown Class (part_value f i q)) (slot_part (sum f.sizes) i l)

pub small_number : (n : ℕ) → n ≤ 4194304 → cast_signed w32 n ≡ pos n
small_number n l = omega (arith, ints)

pub deep_takes : (f : RamFrame) (n : ℕ) → n ≤ slice_index f.sizes 2 → FrameTakes f (sum f.sizes + 1) (Int (pos n))
deep_takes f n l = subst (λ (q : Part). PartTakes f q (Int (pos n))) (sym (depth_part (sum f.sizes))) l

pub deep_put : (f : RamFrame) (n : ℕ) → with_frame_value f (sum f.sizes + 1) I4 (Int (pos n)) ≡ record f { depth = n }
deep_put f n = ap (λ q. with_part f (sum f.sizes + 1) I4 q (Int (pos n))) (depth_part (sum f.sizes))

pub mark_takes : (f : RamFrame) → FrameTakes f (sum f.sizes + 2) (Int (pos 1))
mark_takes f = subst (λ (q : Part). PartTakes f q (Int (pos 1))) (sym (initialiser_part (sum f.sizes))) (omega arith)

pub mark_put : (f : RamFrame) → with_frame_value f (sum f.sizes + 2) I4 (Int (pos 1)) ≡ record f { initialiser = true }
mark_put f = ap (λ q. with_part f (sum f.sizes + 2) I4 q (Int (pos 1))) (initialiser_part (sum f.sizes))
