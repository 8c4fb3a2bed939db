-- The innermost frame, and the parts of a frame.
use Rattle.std.specs.Int.{w32, cast_signed, cast_unsigned}
use Rattle.std.proofs.Common.{◌≡◌, ◌≢◌, inl, inr, ℕ, ℤ, suc, pos, ◌+◌, ◌%◌, ◌<◌, ◌≤◌, Bool, true, false, ◌==◌, List, [], ◌∷◌, Some, refl, sym, ap, ◌∙◌, subst, arith, eq-eqb}
use Rattle.std.specs.Prelude.{◌⊎◌, nat_eq, nat_le, nat_lt, if◌then◌else◌, sum, slice_set, slice_index, unwrap_or}
use Rattle.std.specs.List.{fold}
use Rattle.std.proofs.lemmas.Int.{of_z-to_z}
use Rattle.std.proofs.lemmas.Bool.{le-leb}
use Rattle.std.proofs.lemmas.Bool.Decides.{eqb_tells, leb_tells}
use Rattle.plain_types.specs.declared.elem.Elem.TheVariants.{Class, I4}
use Rattle.board_types.specs.declared.value.Value.{Value}
use Rattle.board_types.specs.declared.value.Value.TheVariants.{Int, Long, Ref, Pointer, Handle}
use Rattle.machine.specs.Data.{Refers}
use Rattle.ram_words.specs.Elements.{cut_by}
use Rattle.tiny_ram.specs.declared.parts.Part.{Part}
use Rattle.tiny_ram.specs.declared.parts.Part.TheVariants.{Slot, CodePlace, Depth, Initialiser, Past}
use Rattle.tiny_ram.specs.declared.memory.Ram.{Ram}
use Rattle.tiny_ram.specs.Memory.{RamFrame, Memory, innermost, frame_at, put_frame, put_in_frame, with_frames, IsFrame, part_of, part_value, frame_value, PartTakes, FrameTakes, with_part, with_frame_value, shown, pushed}
use Rattle.tiny_ram.specs.Region.{Keeps, Done}
use Rattle.tiny_except.specs.Unwinding.{number_in, code_place, slot_index, slot_held, topped, on_top}

lt_false : (i n : ℕ) → n ≤ i → nat_lt i n ≡ false
lt_false i n l = by (leb_tells (suc i) n)
  where
    by : ((nat_le (suc i) n ≡ true) × (suc i ≤ n)) ⊎ ((nat_le (suc i) n ≡ false) × (n < suc i)) → nat_lt i n ≡ false
    by (inl q) = absurd (omega (arith, q.1, l))
    by (inr q) = q.0

ne_false : (i n : ℕ) → i ≢ n → (i == n) ≡ false
ne_false i n l = by (eqb_tells i n)
  where
    by : ((nat_eq i n ≡ true) × (i ≡ n)) ⊎ ((nat_eq i n ≡ false) × (i ≢ n)) → (i == n) ≡ false
    by (inl q) = absurd (l q.1)
    by (inr q) = q.0

abbrev picked : Bool → Bool → Bool → Bool → Part
picked a b d k = if a then Slot else (if b then CodePlace else (if d then Depth else (if k then Initialiser else Past)))

pub slot_part : (n i : ℕ) → i < n → part_of n i ≡ Slot
slot_part n i l = ap (λ a. picked a (i == n) (i == n + 1) (i == n + 2)) (le-leb (suc i) n l)

pub code_part : (n : ℕ) → part_of n (n + 0) ≡ CodePlace
code_part n =
    ap (λ a. picked a (n + 0 == n) (n + 0 == n + 1) (n + 0 == n + 2)) (lt_false (n + 0) n (omega arith))
    ∙ ap (λ b. picked false b (n + 0 == n + 1) (n + 0 == n + 2)) (eq-eqb (n + 0) n (omega arith))

pub depth_part : (n : ℕ) → part_of n (n + 1) ≡ Depth
depth_part n =
    ap (λ a. picked a (n + 1 == n) (n + 1 == n + 1) (n + 1 == n + 2)) (lt_false (n + 1) n (omega arith))
    ∙ ap (λ b. picked false b (n + 1 == n + 1) (n + 1 == n + 2)) (ne_false (n + 1) n (λ e. omega (arith, e)))
    ∙ ap (λ d. picked false false d (n + 1 == n + 2)) (eq-eqb (n + 1) (n + 1) refl)

pub initialiser_part : (n : ℕ) → part_of n (n + 2) ≡ Initialiser
initialiser_part n =
    ap (λ a. picked a (n + 2 == n) (n + 2 == n + 1) (n + 2 == n + 2)) (lt_false (n + 2) n (omega arith))
    ∙ ap (λ b. picked false b (n + 2 == n + 1) (n + 2 == n + 2)) (ne_false (n + 2) n (λ e. omega (arith, e)))
    ∙ ap (λ d. picked false false d (n + 2 == n + 2)) (ne_false (n + 2) (n + 1) (λ e. omega (arith, e)))
    ∙ ap (λ k. picked false false false k) (eq-eqb (n + 2) (n + 2) refl)

pub place_bits : (f : RamFrame) → cast_unsigned w32 (number_in (shown I4 (frame_value f (sum f.sizes + 0)))) ≡ code_place f
place_bits f = ap (λ q. cast_unsigned w32 (number_in (shown I4 (part_value f (sum f.sizes + 0) q)))) (code_part (sum f.sizes))

pub initialiser_bits : (f : RamFrame) → (cast_unsigned w32 (number_in (shown I4 (frame_value f (sum f.sizes + 2)))) == 1) ≡ f.initialiser
initialiser_bits f = ap (λ q. cast_unsigned w32 (number_in (shown I4 (part_value f (sum f.sizes + 2) q))) == 1) (initialiser_part (sum f.sizes)) ∙ by f.initialiser
  where
    by : (b : Bool) → (cast_unsigned w32 (if b then pos 1 else pos 0) == 1) ≡ b
    by true = refl
    by false = refl

-- ---- sizes

sum_from : (zs : List ℕ) (n : ℕ) → n ≤ fold ◌+◌ n zs
sum_from [] n = omega arith
sum_from (z ∷ zs) n = let more : n + z ≤ fold ◌+◌ (n + z) zs = sum_from zs (n + z) in omega (arith, more)

pub four_sizes : (zs : List ℕ) → slice_index zs 0 + slice_index zs 1 + slice_index zs 2 + slice_index zs 3 ≤ sum zs
four_sizes [] = omega arith
four_sizes (a ∷ []) = omega arith
four_sizes (a ∷ b ∷ []) = omega arith
four_sizes (a ∷ b ∷ c ∷ []) = omega arith
four_sizes (a ∷ b ∷ c ∷ d ∷ zs) =
    let most : 0 + a + b + c + d ≤ fold ◌+◌ (0 + a + b + c + d) zs = sum_from zs (0 + a + b + c + d) in
    let all : a + b + c + d ≤ sum (a ∷ b ∷ c ∷ d ∷ zs) = omega (arith, most) in
    all

pub slot_inside : (f : RamFrame) (k : ℕ) → k < slice_index f.sizes 3 → slot_index f k < sum f.sizes
slot_inside f k l = let four = four_sizes f.sizes in omega (arith, four, l)

pub no_wrap : (a b s n : ℕ) → a + b + s + n ≤ 4194304 → (((a + b) % 4294967296 + s) % 4294967296 + n) % 4294967296 ≡ a + b + s + n
no_wrap a b s n l = omega (arith, l)

pub one_wrap : (a n : ℕ) → a ≤ 4194304 → n < 3 → (a + n) % 4294967296 ≡ a + n
one_wrap a n l k = omega (arith, l, k)

pub slot_shown : (f : RamFrame) (k : ℕ) → k < slice_index f.sizes 3 → shown Class (frame_value f (slot_index f k)) ≡ unwrap_or (slot_held f k) (Ref 0)
slot_shown f k l = ap (λ q. shown Class (part_value f (slot_index f k) q)) (slot_part (sum f.sizes) (slot_index f k) (slot_inside f k l))

-- ---- the innermost frame

pub top_is : (m : Memory) (thing : ℕ) (f : RamFrame) (fs : List RamFrame) → m.frames ≡ f ∷ fs → thing ≡ innermost m.room m.frames → IsFrame m thing f
top_is m thing f fs e q =
    ap (frame_at m.room m.frames) q ∙ ap (λ z. frame_at m.room z (innermost m.room z)) e
    ∙ ap (λ (b : Bool). if b then Some f else frame_at m.room fs (innermost m.room (f ∷ fs))) (eq-eqb (innermost m.room (f ∷ fs)) (innermost m.room (f ∷ fs)) refl)

put_first : (m : Memory) (thing : ℕ) (f g : RamFrame) (fs : List RamFrame) → m.frames ≡ f ∷ fs → thing ≡ innermost m.room m.frames → put_frame m.room m.frames thing g ≡ g ∷ fs
put_first m thing f g fs e q =
    ap (λ n. put_frame m.room m.frames n g) q ∙ ap (λ z. put_frame m.room z (innermost m.room z) g) e
    ∙ ap (λ (b : Bool). if b then g ∷ fs else f ∷ put_frame m.room fs (innermost m.room (f ∷ fs)) g) (eq-eqb (innermost m.room (f ∷ fs)) (innermost m.room (f ∷ fs)) refl)

pub put_top : (u : Ram) (m : Memory) (thing : ℕ) (f g : RamFrame) (fs : List RamFrame) → m.frames ≡ f ∷ fs → thing ≡ innermost m.room m.frames → Keeps u (put_in_frame m thing g) → Keeps u (with_frames m (g ∷ fs))
put_top u m thing f g fs e q k = subst (λ (z : List RamFrame). Keeps u (with_frames m z)) (put_first m thing f g fs e q) k

uncut : (v : Value) → cut_by (Some Refers) v ≡ v
uncut (Int n) = refl
uncut (Long n) = refl
uncut (Ref n) = refl
uncut (Pointer at) = refl
uncut (Handle field) = refl

pub slot_takes : (f : RamFrame) (i : ℕ) (v : Value) → i < sum f.sizes → FrameTakes f i v
slot_takes f i v l = subst (λ (q : Part). PartTakes f q v) (sym (slot_part (sum f.sizes) i l)) tt

pub slot_put : (f : RamFrame) (i : ℕ) (v : Value) → i < sum f.sizes → with_frame_value f i Class v ≡ record f { places = slice_set f.places i (Some v) }
slot_put f i v l =
    ap (λ q. with_part f i Class q v) (slot_part (sum f.sizes) i l)
    ∙ ap (λ w. let g : RamFrame = record f { places = slice_set f.places i (Some w) } in g) (uncut v)

pub depth_takes : (f : RamFrame) → FrameTakes f (sum f.sizes + 1) (Int (pos 0))
depth_takes f = subst (λ (q : Part). PartTakes f q (Int (pos 0))) (sym (depth_part (sum f.sizes))) (omega arith)

pub depth_put : (f : RamFrame) → with_frame_value f (sum f.sizes + 1) I4 (Int (pos 0)) ≡ record f { depth = 0 }
depth_put f = ap (λ q. with_part f (sum f.sizes + 1) I4 q (Int (pos 0))) (depth_part (sum f.sizes))

-- there is an innermost frame where it has a number
pub record First (gs : List RamFrame) : Type 0 where
  pub frame : RamFrame
  pub callers : List RamFrame
  pub is : gs ≡ frame ∷ callers

pub first_of : (room : ℕ) (gs : List RamFrame) (n : ℕ) → n ≡ innermost room gs → n ≢ 0 → First gs
first_of room [] n e h = absurd (h e)
first_of room (g ∷ gs) n e h = record { frame = g; callers = gs; is = refl }

pub no_first : (room : ℕ) (gs : List RamFrame) (n : ℕ) → n ≡ innermost room gs → n ≡ 0 → gs ≡ []
no_first room [] n e h = refl
no_first room (g ∷ gs) n e h = absurd (omega (arith, e, h))

pub kept_top : (u : Ram) (m : Memory) (f : RamFrame) (fs : List RamFrame) (go : RamFrame → RamFrame) (g : RamFrame) → m.frames ≡ f ∷ fs → go f ≡ g → Keeps u (with_frames m (g ∷ fs)) → Keeps u (on_top m go)
kept_top u m f fs go g e q k =
    subst (λ (z : List RamFrame). Keeps u (with_frames m z)) (sym (ap (λ z. topped z go) e ∙ ap (λ (z : RamFrame). z ∷ fs) q)) k

-- the push of an exception
pub taken : (r u : Ram) (m : Memory) (f : RamFrame) (fs : List RamFrame) (v : Value) (b : Bool) → b ≡ true → Done r u m (pushed f v) fs b → Keeps u (with_frames m (pushed f v ∷ fs))
taken r u m f fs v true q d = d
taken r u m f fs v false q d = absurd (cc q)

pub there_back : (n : ℕ) (z : ℤ) → n < 4294967296 → z ≡ cast_signed w32 n → cast_signed w32 (cast_unsigned w32 z) ≡ cast_signed w32 n
there_back n z l e = ap (λ z. cast_signed w32 (cast_unsigned w32 z)) e ∙ ap (cast_signed w32) (of_z-to_z w32 n l)
