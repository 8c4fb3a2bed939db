-- The table of element codes, read (ECMA-335 II.23.1.16).
use Rattle.std.specs.Prelude.{ℕ, Bool, true, false, Option, None, slice_index_or}
use Rattle.plain_types.specs.declared.elem.Elem.{Elem}
use Rattle.plain_types.specs.declared.elem.Elem.TheVariants.{Class, Value}
use Rattle.cil_sig.specs.declared.elements.TheConstants.{ELEMENTS}

-- the element of a code
unfoldable pub element_of : ℕ → Option Elem
element_of code = slice_index_or ELEMENTS code None

-- the elements whose code a token follows
abbrev pub names_type : Elem → Bool
names_type Class = true
names_type Value = true
names_type _ = false
