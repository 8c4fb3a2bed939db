-- A frame starts, or doesn't.
use Rattle.std.proofs.Common.{◌≡◌, ℕ, ◌+◌, ◌<◌, ◌≤◌, List, ◌∷◌, length, Option, None, sym, ap, ◌∙◌, subst, arith}
use Rattle.std.specs.Prelude.{sum, slice_index}
use Rattle.std.proofs.lemmas.List.{length-replicate}
use Rattle.board_types.specs.declared.value.Value.{Value as RamValue}
use Rattle.kept_values.specs.declared.keeping.PlaceKind.{PlaceKind}
use Rattle.tiny_ram.specs.Memory.{RamFrame, Memory, innermost, fresh_frame, frame_cells, frames_cells, used, with_frame, with_frames}
use Rattle.tiny_ram.specs.Region.{Keeps}
use Rattle.tiny_ram.specs.declared.memory.Ram.{Ram}
use Rattle.tiny_except.proofs.Tops.{four_sizes}
use Rattle.step_ends.specs.declared.acted.Acted.{Acted}
use Rattle.step_ends.specs.declared.acted.Acted.TheVariants.{Done, Stuck, Spent, Raises}
use Rattle.step_calls.specs.declared.callee.Callee.{Callee}
use Rattle.step_calls.specs.declared.arguments.Given.{Given}
use Rattle.step_calls.specs.Arguments.{count_in, AreBeside, HandedOver, IsGiven}
use Rattle.step_calls.specs.Starts.{EndsWithout, HaveArguments, IsStarted, Starts}
use Rattle.step_calls.proofs.Handing.{deep}

-- the topmost values of the stack are a method's arguments
pub have : (r : Ram) (m : Memory) (f : RamFrame) (fs : List RamFrame) (c : Callee) (x : Given) → Keeps r m → m.frames ≡ f ∷ fs → IsGiven m f (slice_index c.sizes 0) x → HaveArguments m f c x
have r m f fs c x k e given =
    let d = deep r m f fs k e in
    let most = d.most in
    let places = d.inside in
    let first = given.first in
    let enough = given.enough in
    let below = given.below in
    let within : x.first + slice_index c.sizes 0 ≤ sum f.sizes = omega (arith, most, places, first, enough) in
    record {
      frame = given.frame;
      inside = record { within = subst (λ (o : Option RamValue). x.first + count_in o (slice_index c.sizes 0) ≤ sum f.sizes) (sym given.whole) within };
      deep = omega (arith, most, below);
    }

module _ (m : Memory) (f : RamFrame) (fs : List RamFrame) (c : Callee) (kinds : ℕ → PlaceKind) (x : Given) (e : m.frames ≡ f ∷ fs) (given : HaveArguments m f c x) where
  pub without : (u : Ram) (a : Acted) → EndsWithout f kinds x (slice_index c.sizes 0) a → m.room < used m + frame_cells (fresh_frame c.method c.sizes) → Starts u m f fs c kinds x a
  without u Done h l = absurd h
  without u Stuck h l = h
  without u Spent h l = record { kept = h; more = l }
  without u (Raises known) h l = absurd h

  pub arguments_inside : slice_index c.sizes 0 ≤ sum (fresh_frame c.method c.sizes).sizes
  arguments_inside = let four = four_sizes c.sizes in omega (arith, four)

  pub fresh_count : length (fresh_frame c.method c.sizes).places ≡ sum (fresh_frame c.method c.sizes).sizes
  fresh_count = length-replicate (sum c.sizes) (let o : Option RamValue = None in o)

  module _ (to : ℕ) (fits : used m + frame_cells (fresh_frame c.method c.sizes) ≤ m.room) (number : to ≡ innermost m.room (fresh_frame c.method c.sizes ∷ m.frames)) where
    pub frames_are : (with_frame m (fresh_frame c.method c.sizes)).frames ≡ fresh_frame c.method c.sizes ∷ f ∷ fs
    frames_are = ap (λ (z : List RamFrame). fresh_frame c.method c.sizes ∷ z) e

    pub beside : AreBeside m.room (fresh_frame c.method c.sizes) f fs x.frame to
    beside = record {
      starts = number ∙ ap (λ (z : List RamFrame). innermost m.room (fresh_frame c.method c.sizes ∷ z)) e;
      calls = given.frame ∙ ap (innermost m.room) e;
      fits = let cells = ap frames_cells e in omega (arith, fits, cells);
    }

    pub begun : (q u : Ram) → (h : HandedOver q (with_frame m (fresh_frame c.method c.sizes)) (fresh_frame c.method c.sizes) f fs kinds x (slice_index c.sizes 0)) → Keeps u (with_frames m (record (fresh_frame c.method c.sizes) { places = h.places } ∷ record f { depth = x.below } ∷ fs)) → IsStarted u m f fs c kinds x
    begun q u h kept = record {
      places = h.places;
      keeps = kept;
      count = h.count ∙ fresh_count;
      each = h.each;
      others = h.others;
      fits = fits;
    }
