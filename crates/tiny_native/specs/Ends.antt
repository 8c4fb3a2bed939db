-- What a native's end says of the machine's native.
use Rattle.std.specs.Prelude.{◌≡◌, ℕ, ◌+◌, ◌-◌, ◌<◌, ◌++◌, ◌∷◌, [], List, map, Option, Some, None}
use Rattle.std.specs.Option.{option_map}
use Rattle.board_types.specs.declared.value.Value.{Value as BoardValue}
use Rattle.machine.specs.Data.{put_thing, Value, Thing, Text, Elements, State}
use Rattle.machine.specs.Program.{NativeName}
use Rattle.machine.specs.Texts.{printed}
use Rattle.machine.specs.Throw.{goes, raise}
use Rattle.machine.specs.Natives.{native, new_text, text_at, or_empty}
use Rattle.tiny_ops.specs.Operators.{Leads, stack_value, reference}
use Rattle.tiny_ram.specs.Things.{Entry, entry_cells}
use Rattle.tiny_ram.specs.Memory.{Memory, used, with_entry, put_in}
use Rattle.tiny_ram.specs.Region.{Keeps}
use Rattle.tiny_ram.specs.declared.memory.Ram.{Ram}
use Rattle.board_ids.specs.Ids.{cli_type}
use Rattle.tiny_native.specs.Seen.{Scene, seen, text_entry}
use Rattle.tiny_native.specs.declared.ending.NativeEnd.{NativeEnd}
use Rattle.tiny_native.specs.declared.ending.NativeEnd.TheVariants.{Gives, Prints, Throws, Spent, NoCase}

-- the machine's native on these values, the first argument first
abbrev pub native_by : Scene → NativeName → List Value → Option State
native_by c name values = native c.program c.state c.frame c.callers c.next c.rest name values

abbrev pub native_in : Scene → NativeName → List BoardValue → Option State
native_in c name args = native_by c name (map (stack_value c.leads) args)

-- what a native leaves in the memory: nothing new, a new string, or other elements of an array
pub data Change : Type 0 where
  Same : Change
  NewText : (units : List ℕ) → Change
  NewElements : (thing : ℕ) (entry : Entry) → Change

abbrev pub changed_memory : Memory → Change → Memory
changed_memory m Same = m
changed_memory m (NewText units) = with_entry m (text_entry units)
changed_memory m (NewElements thing entry) = put_in m thing entry

abbrev pub changed_heap : Leads → List Thing → Change → List Thing
changed_heap l heap Same = heap
changed_heap l heap (NewText units) = heap ++ Text units ∷ []
changed_heap l heap (NewElements thing entry) = put_thing heap (thing - 1) (Elements (cli_type entry.shape.of) (map (seen l) entry.places))

abbrev pub pushed : Leads → Option BoardValue → List Value → List Value
pushed l None rest = rest
pushed l (Some v) rest = stack_value l v ∷ rest

-- the frame goes on with the value
pub record Gave (c : Scene) (u : Ram) (wanted : Option State) (v : Option BoardValue) : Type 0 where
  pub change : Change
  pub keeps : Keeps u (changed_memory c.memory change)
  pub outcome : wanted ≡ goes c.program (record c.state { heap = changed_heap c.leads c.state.heap change }) c.frame c.callers c.next (pushed c.leads v c.rest)

-- the string is printed, and null as the empty text
pub record Printed (c : Scene) (u : Ram) (wanted : Option State) (thing : ℕ) : Type 0 where
  pub units : List ℕ
  pub text : option_map or_empty (text_at c.state.heap (reference thing)) ≡ Some units
  pub keeps : Keeps u c.memory
  pub outcome : wanted ≡ goes c.program (record c.state { output = c.state.output ++ printed units }) c.frame c.callers c.next c.rest

-- the cells of the new string are more than there are
pub record Passed (c : Scene) (u : Ram) (wanted : Option State) : Type 0 where
  pub units : List ℕ
  pub cells : c.memory.room < used c.memory + entry_cells (text_entry units)
  pub keeps : Keeps u c.memory
  pub outcome : wanted ≡ new_text c.program c.state c.frame c.callers c.next c.rest units

abbrev pub Meets : Scene → Ram → Option State → NativeEnd → Type 0
Meets c u outcome (Gives v) = Gave c u outcome v
Meets c u outcome (Prints thing) = Printed c u outcome thing
Meets c u outcome (Throws known) = Keeps u c.memory × (outcome ≡ raise c.program c.state known)
Meets c u outcome Spent = Passed c u outcome
Meets c u outcome NoCase = Keeps u c.memory × (outcome ≡ None)
