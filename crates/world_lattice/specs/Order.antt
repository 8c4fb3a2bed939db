-- The order of the code's types by the classes of a world alone.
use Rattle.std.specs.Prelude.{Bool, Option, Some, None}
use Rattle.ecma_types.specs.declared.stack.PlaceType.{PlaceType as WorldPlace}
use Rattle.ecma_types.specs.declared.stack.StackType.{StackType as WorldType}
use Rattle.ecma_types.specs.declared.stack.StackType.TheVariants as world
use Rattle.machine_typed.specs.Typing.{StackType, I, L, Nil, O, H, P, Never, loaded}
use Rattle.classes.specs.Classes.{Classes}
use Rattle.classes.specs.Code.{Sources}
use Rattle.place_types.specs.Types.{place_back, place_of}
use Rattle.cil_types.specs.Spelt.{AreSpelt}
use Rattle.pass_steps.specs.Seen.{assignable_seen, Merges as MergesIn}

-- the classes without code, of which the order of types asks nothing
abbrev pub sources_of : Classes → Sources
sources_of cs = record { classes = cs; code = λ id. None; entry = None }

abbrev pub is_assignable : Classes → WorldType → WorldType → Bool
is_assignable cs from to = assignable_seen (sources_of cs) from to

-- what may stand for two types, in one of its spellings, where the kinds of classes have spellings
abbrev pub Merges : Classes → WorldType → WorldType → Option WorldType → Type 0
Merges cs a b both = AreSpelt cs → MergesIn (sources_of cs) a b both

-- a type as it is spelt, and none where no value has it
abbrev pub stack_spelt : StackType → Option WorldType
stack_spelt I = Some world.I
stack_spelt L = Some world.L
stack_spelt Nil = Some world.Null
stack_spelt (O t) = Some (world.O (place_back t))
stack_spelt (P t) = Some (world.Pointer (place_back t))
stack_spelt H = Some world.H
stack_spelt Never = None

-- the type of a value loaded from a place, as it is spelt
abbrev pub loaded_as : WorldPlace → Option WorldType
loaded_as t = stack_spelt (loaded (place_of t))
