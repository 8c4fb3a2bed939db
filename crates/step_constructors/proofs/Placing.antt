-- The object is put onto the stack of the frame that waits.
use Rattle.std.proofs.Common.{◌≡◌, ℕ, ◌+◌, ◌-◌, ◌<◌, ◌≤◌, List, ◌∷◌, Some, refl, ap, ◌∙◌, subst, arith}
use Rattle.std.specs.Prelude.{sum, slice_index, slice_set}
use Rattle.board_types.specs.declared.value.Value.TheVariants.{Ref}
use Rattle.kept_values.specs.declared.keeping.PlaceKind.{PlaceKind}
use Rattle.tiny_ram.specs.Memory.{RamFrame, Memory, innermost, variables, fresh_frame, frames_cells, with_frames, put_in_frame, IsFrame}
use Rattle.tiny_ram.specs.Region.{Keeps}
use Rattle.tiny_ram.specs.declared.memory.Ram.{Ram}
use Rattle.step_calls.specs.declared.callee.Callee.{Callee}
use Rattle.step_calls.specs.declared.arguments.Given.{Given}
use Rattle.step_calls.specs.Arguments.{AreBeside, IsGiven}
use Rattle.step_calls.specs.Starts.{HaveArguments, IsStarted}
use Rattle.step_calls.proofs.Handing.{deep, caller_is}
use Rattle.step_calls.proofs.Starting.{put_caller}
use Rattle.step_constructors.specs.Made.{behind_object, IsConstructed}

module _ (r : Ram) (m : Memory) (f : RamFrame) (fs : List RamFrame) (c : Callee) (x : Given) (k : Keeps r m) (e : m.frames ≡ f ∷ fs) (given : IsGiven m f (slice_index c.sizes 0 - 1) x) (object : ℕ) where
  -- all but the object lie on the stack
  pub have : HaveArguments m f c (behind_object x object)
  have =
      let d = deep r m f fs k e in
      let most = d.most in
      let places = d.inside in
      let first = given.first in
      let enough = given.enough in
      let below = given.below in
      record {
        frame = given.frame;
        inside = record { within = omega (arith, most, places, first, enough) };
        deep = omega (arith, most, below);
      }

  module _ (low : x.below < slice_index f.sizes 2) (u : Ram) (kinds : ℕ → PlaceKind) (st : IsStarted u m f fs c kinds (behind_object x object)) where
    waits : RamFrame
    waits = record f { depth = x.below }

    pub beside : AreBeside m.room (record (fresh_frame c.method c.sizes) { places = st.places }) (record f { depth = x.below }) fs x.frame (innermost m.room (record (fresh_frame c.method c.sizes) { places = st.places } ∷ record f { depth = x.below } ∷ fs))
    beside = record {
      starts = refl;
      calls = given.frame ∙ ap (innermost m.room) e;
      fits = let all = st.fits in let cells = ap frames_cells e in omega (arith, all, cells);
    }

    pub first_inside : x.first < sum f.sizes
    first_inside =
        let d = deep r m f fs k e in
        let places = d.inside in
        let first = given.first in
        let below = given.below in
        omega (arith, places, first, below, low)

    pub caller : IsFrame (with_frames m (record (fresh_frame c.method c.sizes) { places = st.places } ∷ record f { depth = x.below } ∷ fs)) x.frame (record f { depth = x.below })
    caller = caller_is (with_frames m (record (fresh_frame c.method c.sizes) { places = st.places } ∷ record f { depth = x.below } ∷ fs)) (record (fresh_frame c.method c.sizes) { places = st.places }) (record f { depth = x.below }) fs x.frame (innermost m.room (record (fresh_frame c.method c.sizes) { places = st.places } ∷ record f { depth = x.below } ∷ fs)) refl beside

    at_top : x.first ≡ variables f + x.below
    at_top = let first = given.first in let below = given.below in omega (arith, first, below)

    module _ (v : Ram) (kept : Keeps v (put_in_frame (with_frames m (record (fresh_frame c.method c.sizes) { places = st.places } ∷ record f { depth = x.below } ∷ fs)) x.frame (record f { depth = x.below; places = slice_set f.places x.first (Some (Ref object)) }))) where
      pub placed : Keeps v (with_frames m (record (fresh_frame c.method c.sizes) { places = st.places } ∷ record f { depth = x.below; places = slice_set f.places x.first (Some (Ref object)) } ∷ fs))
      placed = put_caller v m (record (fresh_frame c.method c.sizes) { places = st.places }) (record f { depth = x.below }) (record f { depth = x.below; places = slice_set f.places x.first (Some (Ref object)) }) fs x.frame beside.calls beside.fits kept

      pub still : IsFrame (with_frames m (record (fresh_frame c.method c.sizes) { places = st.places } ∷ record f { depth = x.below; places = slice_set f.places x.first (Some (Ref object)) } ∷ fs)) x.frame (record f { depth = x.below; places = slice_set f.places x.first (Some (Ref object)) })
      still = caller_is (with_frames m (record (fresh_frame c.method c.sizes) { places = st.places } ∷ record f { depth = x.below; places = slice_set f.places x.first (Some (Ref object)) } ∷ fs)) (record (fresh_frame c.method c.sizes) { places = st.places }) (record f { depth = x.below; places = slice_set f.places x.first (Some (Ref object)) }) fs x.frame (innermost m.room (record (fresh_frame c.method c.sizes) { places = st.places } ∷ record f { depth = x.below; places = slice_set f.places x.first (Some (Ref object)) } ∷ fs)) refl (record { starts = refl; calls = beside.calls; fits = beside.fits })

      pub one_more : (x.below + 1) ≤ slice_index f.sizes 2
      one_more = omega (arith, low)

      pub finished : (w : Ram) → Keeps w (put_in_frame (with_frames m (record (fresh_frame c.method c.sizes) { places = st.places } ∷ record f { depth = x.below; places = slice_set f.places x.first (Some (Ref object)) } ∷ fs)) x.frame (record f { depth = x.below + 1; places = slice_set f.places x.first (Some (Ref object)) })) → IsConstructed w m f fs c kinds x object
      finished w kept = record {
        places = st.places;
        keeps = subst (λ n. Keeps w (with_frames m (record (fresh_frame c.method c.sizes) { places = st.places } ∷ record f { depth = x.below + 1; places = slice_set f.places n (Some (Ref object)) } ∷ fs))) at_top
            (put_caller w m (record (fresh_frame c.method c.sizes) { places = st.places }) (record f { depth = x.below; places = slice_set f.places x.first (Some (Ref object)) }) (record f { depth = x.below + 1; places = slice_set f.places x.first (Some (Ref object)) }) fs x.frame beside.calls beside.fits kept);
        count = st.count;
        each = st.each;
        others = st.others;
        fits = st.fits;
      }
