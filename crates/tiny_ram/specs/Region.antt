-- How a memory lies in a region of words.
use Rattle.std.specs.Int.{w32, cast_signed}
use Rattle.std.specs.Prelude.{◌≡◌, ℕ, ◌+◌, ◌*◌, ◌/◌, ◌^◌, ◌<◌, ◌≤◌, Bool, true, false, if◌then◌else◌, List, [], ◌∷◌, length, sum, Some, slice_get, slice_index, Result, Ok, Err}
use Rattle.ram_words.specs.declared.frames.Hot.{Hot}
use Rattle.ram_words.specs.Cells.{kept_at}
use Rattle.ram_words.specs.Headers.{shape_at}
use Rattle.ram_words.specs.Frames.{sizes_at, method_at, placed, hot_at}
use Rattle.tiny_ram.specs.Things.{Entry, entry_cells, layout_of, place_at}
use Rattle.tiny_ram.specs.Memory.{RamFrame, Memory, heap_cells, frame_cells, used, with_entry, with_frame, with_frames, innermost}
use Rattle.tiny_ram.specs.declared.memory.Ram.{Ram}
use Rattle.tiny_ram.specs.declared.memory.Spent.{Spent}

-- the object lies at a word
pub record Lies (ws : List ℕ) (at : ℕ) (e : Entry) : Type 0 where
  pub shape : shape_at ws at ≡ e.shape
  pub count : length e.places ≡ e.shape.count
  pub places : (i : ℕ) → i < length e.places → slice_get e.places i ≡ Some (place_at (layout_of e.shape) ws at i)

-- objects lie one behind the other from a word on
abbrev pub Laid : List ℕ → ℕ → List Entry → Type 0
Laid ws at [] = Unit {0}
Laid ws at (e ∷ es) = Lies ws at e × Laid ws (at + 3 * entry_cells e) es

-- the frame's header begins at a word, and it goes on as it says itself
pub record Stands (ws : List ℕ) (base : ℕ) (h : Hot) (f : RamFrame) : Type 0 where
  pub sizes : sizes_at ws base ≡ f.sizes
  pub method : method_at ws base ≡ f.method
  pub initialiser : slice_index ws base / 2 ^ 22 ≡ (if f.initialiser then 1 else 0)
  pub hot : h ≡ placed base f.sizes f.depth h.place
  pub place : f.place ≡ cast_signed w32 h.place
  pub depth : f.depth ≤ slice_index f.sizes 2
  pub count : length f.places ≡ sum f.sizes
  pub places : (i : ℕ) → i < length f.places → slice_get f.places i ≡ Some (kept_at ws (base + 6 + 3 * i))

-- frames lie one behind the other from a word on up to the end, the innermost first; the others wait as their headers say
abbrev pub Stacked : List ℕ → ℕ → ℕ → Hot → List RamFrame → Type 0
Stacked ws end base h [] = (base ≡ end) × (h ≡ hot_at ws base)
Stacked ws end base h (f ∷ fs) = Stands ws base h f × Stacked ws end (base + 3 * frame_cells f) (hot_at ws (base + 3 * frame_cells f)) fs

-- the words hold the memory: three a cell, objects from below up to an end, frames from above
pub record Holds (ws : List ℕ) (end : ℕ) (h : Hot) (m : Memory) : Type 0 where
  pub size : length ws ≡ 3 * m.room
  pub most : m.room ≤ 2 ^ 22
  pub heap : end ≡ 3 * heap_cells m.heap
  pub laid : Laid ws 0 m.heap
  pub low : ℕ
  pub low_at : h.arguments ≡ low + 6
  pub stacked : Stacked ws (3 * m.room) low h m.frames
  pub order : end ≤ low

abbrev pub Keeps : Ram → Memory → Type 0
Keeps r m = Holds r.words.items r.heap r.hot m

-- the object is made behind the others, or its cells don't do and nothing has changed
abbrev pub Made : Ram → Ram → Memory → Entry → Result ℕ Spent → Type 0
Made r u m e (Ok thing) = (used m + entry_cells e ≤ m.room) × (thing ≡ 1 + heap_cells m.heap) × Keeps u (with_entry m e)
Made r u m e (Err s) = (m.room < used m + entry_cells e) × (u ≡ r)

-- the frame is made before the others, or its cells don't do and nothing has changed
abbrev pub MadeFrame : Ram → Ram → Memory → RamFrame → Result ℕ Spent → Type 0
MadeFrame r u m f (Ok thing) = (used m + frame_cells f ≤ m.room) × (thing ≡ innermost m.room (f ∷ m.frames)) × Keeps u (with_frame m f)
MadeFrame r u m f (Err s) = (m.room < used m + frame_cells f) × (u ≡ r)

-- the innermost frame gives way to another where something was done, else nothing has changed
abbrev pub Done : Ram → Ram → Memory → RamFrame → List RamFrame → Bool → Type 0
Done r u m g fs true = Keeps u (with_frames m (g ∷ fs))
Done r u m g fs false = u ≡ r
