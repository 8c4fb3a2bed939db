-- Files of which the profile is computed.
use Rattle.std.specs.Prelude.{ℕ, codes, Bool, false, ◌==◌, ◌&&◌, List, [], ◌∷◌, Option, Some, None}
use Rattle.base_tables.specs.declared.library.TheConstants.{VERSION}
use Rattle.base_rows.specs.Facts.{base}
use Rattle.cil_layout.specs.declared.rows.Row.{Row}
use Rattle.verdict_rules.specs.Order.{file_fault}
use Rattle.verdict_rules.specs.World.{World, world_of}
use Rattle.verdict_rules.specs.Types.{type_rules}
use Rattle.verdict_rules.specs.Verdict.{member_rules}
use Rattle.plain_types.specs.declared.fault.Fault.{Fault}
use Rattle.cil_layout.specs.declared.rows.Row.TheVariants.{TypeDef, Field, MethodDef, AssemblyRef, TypeRef, InterfaceImpl}
use Rattle.cil_layout.specs.Asked.{Asked}
use Rattle.layout_laws.specs.Parts.{parts_of}
use Rattle.file_tables.specs.File.{FilePart}

abbrev pub fault_of : ℕ → ℕ → ℕ → ℕ → Fault
fault_of rule file table row = record { rule = rule; place = record { file = file; table = table; row = row; offset = 0 } }

-- a class that extends itself
abbrev pub circle : Asked
circle = record { name = codes "Circle"; version = 1 ∷ 0 ∷ 0 ∷ 0 ∷ []; entry = 0; rows = TypeDef (record { flags = 0x100001; namespace = []; name = codes "Circle"; extends = 0x02000002 }) ∷ [] }

abbrev pub circle_file : FilePart
circle_file = parts_of circle

-- ---- small changes of a program, each with what is told

abbrev pub fault_at : ℕ → ℕ → ℕ → ℕ → Fault
fault_at rule table row offset = record { rule = rule; place = record { file = 2; table = table; row = row; offset = offset } }

abbrev pub class_of : ℕ → List ℕ → ℕ → Row
class_of flags name extends = TypeDef (record { flags = flags; namespace = []; name = name; extends = extends })

abbrev pub field_of : ℕ → List ℕ → Row
field_of flags signature = Field (record { flags = flags; name = codes "field"; signature = signature; bytes = [] })

-- of a method that returns
abbrev pub method_of : ℕ → List ℕ → List ℕ → Row
method_of flags name signature = MethodDef (record { impl_flags = 0; flags = flags; name = name; signature = signature; body = 0x06 ∷ 0x2A ∷ [] })

abbrev pub reference_to : List ℕ → Row
reference_to name = TypeRef (record { scope = 0x23000001; namespace = codes "System"; name = name })

-- Program, with its Main, and the rows behind it
abbrev pub program_with : List Row → FilePart
program_with rows =
    parts_of
    (record {
      name = codes "App";
      version = 1 ∷ 0 ∷ 0 ∷ 0 ∷ [];
      entry = 0x06000001;
      rows =
          AssemblyRef (record { name = codes "mscorlib"; version = VERSION })
          ∷ reference_to (codes "Object")
          ∷ reference_to (codes "ValueType")
          ∷ reference_to (codes "Enum")
          ∷ reference_to (codes "String")
          ∷ reference_to (codes "Missing")
          ∷ class_of 0x100001 (codes "Program") 0x01000001
          ∷ method_of 0x96 (codes "Main") (0x00 ∷ 0x00 ∷ 0x01 ∷ [])
          ∷ rows;
    })

-- of the file by itself, behind the library
abbrev pub told_in : World → FilePart → Option Fault
told_in w p = elim (file_fault 2 p (type_rules w 2 p)) [ None ↦ file_fault 2 p (member_rules w 2 p) | Some fault ↦ Some fault ]

abbrev pub told_of : FilePart → Option Fault
told_of p = told_in (world_of (base (p ∷ []))) p

abbrev pub is_fault : Option Fault → Fault → Bool
is_fault None g = false
is_fault (Some f) g = (f.rule == g.rule) && ((f.place.file == g.place.file) && ((f.place.table == g.place.table) && ((f.place.row == g.place.row) && (f.place.offset == g.place.offset))))

pub record Change : Type 0 where
  pub rows : List Row
  pub told : Fault

abbrev pub changes : List Change
changes =
    -- a superclass that isn't there; String; one of an interface
    record { rows = class_of 0x100001 (codes "A") 0x01000005 ∷ []; told = fault_at 24 0x02 3 0 }
    ∷ record { rows = class_of 0x100001 (codes "A") 0x01000004 ∷ []; told = fault_at 24 0x02 3 0 }
    ∷ record { rows = class_of 0xA1 (codes "A") 0x01000001 ∷ []; told = fault_at 24 0x02 3 0 }
    -- implements a class
    ∷ record { rows = InterfaceImpl (record { class = 0x02000002; interface = 0x01000001 }) ∷ []; told = fault_at 25 0x09 1 0 }
    -- a value type without a layout; an enum without a number; a second Program
    ∷ record { rows = class_of 0x101 (codes "A") 0x01000002 ∷ []; told = fault_at 26 0x02 3 0 }
    ∷ record { rows = class_of 0x101 (codes "A") 0x01000003 ∷ []; told = fault_at 26 0x02 3 0 }
    ∷ record { rows = class_of 0x100001 (codes "Program") 0x01000001 ∷ []; told = fault_at 26 0x02 3 0 }
    -- a float; a class that isn't there; a class where a value type is said
    ∷ record { rows = field_of 0x16 (0x06 ∷ 0x0C ∷ []) ∷ []; told = fault_at 27 0x04 1 1 }
    ∷ record { rows = field_of 0x16 (0x06 ∷ 0x1D ∷ 0x12 ∷ 0x15 ∷ []) ∷ []; told = fault_at 27 0x04 1 2 }
    ∷ record { rows = field_of 0x16 (0x06 ∷ 0x11 ∷ 0x05 ∷ []) ∷ []; told = fault_at 27 0x04 1 1 }
    ∷ record { rows = method_of 0x96 (codes "A") (0x00 ∷ 0x01 ∷ 0x01 ∷ 0x01 ∷ []) ∷ []; told = fault_at 27 0x06 2 3 }
    -- an instance field of an interface
    ∷ record { rows = class_of 0xA1 (codes "A") 0 ∷ field_of 0x06 (0x06 ∷ 0x08 ∷ []) ∷ []; told = fault_at 28 0x04 1 0 }
    -- static and virtual; a constructor that gives a number; an initialiser with a parameter
    ∷ record { rows = method_of 0xD6 (codes "A") (0x00 ∷ 0x00 ∷ 0x01 ∷ []) ∷ []; told = fault_at 29 0x06 2 0 }
    ∷ record { rows = method_of 0x1886 (codes ".ctor") (0x20 ∷ 0x00 ∷ 0x08 ∷ []) ∷ []; told = fault_at 29 0x06 2 0 }
    ∷ record { rows = method_of 0x1896 (codes ".cctor") (0x00 ∷ 0x01 ∷ 0x01 ∷ 0x08 ∷ []) ∷ []; told = fault_at 29 0x06 2 0 }
    -- two fields, two methods
    ∷ record { rows = field_of 0x16 (0x06 ∷ 0x08 ∷ []) ∷ field_of 0x06 (0x06 ∷ 0x08 ∷ []) ∷ []; told = fault_at 30 0x04 2 0 }
    ∷ record { rows = method_of 0x96 (codes "Main") (0x00 ∷ 0x00 ∷ 0x01 ∷ []) ∷ []; told = fault_at 30 0x06 2 0 }
    ∷ []

abbrev pub is_told : Change → Bool
is_told c = is_fault (told_of (program_with c.rows)) c.told
