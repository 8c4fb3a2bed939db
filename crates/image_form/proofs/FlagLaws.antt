-- Flags are read as they are spelt.
use Rattle.std.proofs.Common.{◌≡◌, Bool, true, false, refl}
use Rattle.plain_types.specs.declared.elem.Elem.TheVariants as elem
use Rattle.machine.specs.Program.{Body, NativeName, ObjectToString, EnumEquals, EnumToString, ArrayLength, ArrayCopy, StringLength, StringChars, StringConcat, StringSubstring, StringEquals, StringCompare, StringFromChars, StringFromChar, NumberSigned, NumberUnsigned, InitializeArray, DebugPrint, native_number}
use Rattle.classes.specs.Classes.{TypeKind}
use Rattle.image_form.specs.Form.{bit, type_flags, kind_of, method_flags, native_body}
use Rattle.image_form.specs.Fits.{KindFits}

pub record FlagsRead (k : TypeKind) (i a z : Bool) : Type 0 where
  pub kind : kind_of (type_flags k i a z) ≡ k
  pub interface : bit 32 (type_flags k i a z) ≡ i
  pub abstract : bit 64 (type_flags k i a z) ≡ a
  pub lazy : bit 128 (type_flags k i a z) ≡ z

of_reference : (i a z : Bool) → FlagsRead (TypeKind.Reference) i a z
of_reference true true true = record { kind = refl; interface = refl; abstract = refl; lazy = refl }
of_reference true true false = record { kind = refl; interface = refl; abstract = refl; lazy = refl }
of_reference true false true = record { kind = refl; interface = refl; abstract = refl; lazy = refl }
of_reference true false false = record { kind = refl; interface = refl; abstract = refl; lazy = refl }
of_reference false true true = record { kind = refl; interface = refl; abstract = refl; lazy = refl }
of_reference false true false = record { kind = refl; interface = refl; abstract = refl; lazy = refl }
of_reference false false true = record { kind = refl; interface = refl; abstract = refl; lazy = refl }
of_reference false false false = record { kind = refl; interface = refl; abstract = refl; lazy = refl }

of_other : (i a z : Bool) → FlagsRead (TypeKind.OtherValue) i a z
of_other true true true = record { kind = refl; interface = refl; abstract = refl; lazy = refl }
of_other true true false = record { kind = refl; interface = refl; abstract = refl; lazy = refl }
of_other true false true = record { kind = refl; interface = refl; abstract = refl; lazy = refl }
of_other true false false = record { kind = refl; interface = refl; abstract = refl; lazy = refl }
of_other false true true = record { kind = refl; interface = refl; abstract = refl; lazy = refl }
of_other false true false = record { kind = refl; interface = refl; abstract = refl; lazy = refl }
of_other false false true = record { kind = refl; interface = refl; abstract = refl; lazy = refl }
of_other false false false = record { kind = refl; interface = refl; abstract = refl; lazy = refl }

of_builtin_Bool : (i a z : Bool) → FlagsRead (TypeKind.Builtin elem.Bool) i a z
of_builtin_Bool true true true = record { kind = refl; interface = refl; abstract = refl; lazy = refl }
of_builtin_Bool true true false = record { kind = refl; interface = refl; abstract = refl; lazy = refl }
of_builtin_Bool true false true = record { kind = refl; interface = refl; abstract = refl; lazy = refl }
of_builtin_Bool true false false = record { kind = refl; interface = refl; abstract = refl; lazy = refl }
of_builtin_Bool false true true = record { kind = refl; interface = refl; abstract = refl; lazy = refl }
of_builtin_Bool false true false = record { kind = refl; interface = refl; abstract = refl; lazy = refl }
of_builtin_Bool false false true = record { kind = refl; interface = refl; abstract = refl; lazy = refl }
of_builtin_Bool false false false = record { kind = refl; interface = refl; abstract = refl; lazy = refl }

of_builtin_Char : (i a z : Bool) → FlagsRead (TypeKind.Builtin elem.Char) i a z
of_builtin_Char true true true = record { kind = refl; interface = refl; abstract = refl; lazy = refl }
of_builtin_Char true true false = record { kind = refl; interface = refl; abstract = refl; lazy = refl }
of_builtin_Char true false true = record { kind = refl; interface = refl; abstract = refl; lazy = refl }
of_builtin_Char true false false = record { kind = refl; interface = refl; abstract = refl; lazy = refl }
of_builtin_Char false true true = record { kind = refl; interface = refl; abstract = refl; lazy = refl }
of_builtin_Char false true false = record { kind = refl; interface = refl; abstract = refl; lazy = refl }
of_builtin_Char false false true = record { kind = refl; interface = refl; abstract = refl; lazy = refl }
of_builtin_Char false false false = record { kind = refl; interface = refl; abstract = refl; lazy = refl }

of_builtin_I1 : (i a z : Bool) → FlagsRead (TypeKind.Builtin elem.I1) i a z
of_builtin_I1 true true true = record { kind = refl; interface = refl; abstract = refl; lazy = refl }
of_builtin_I1 true true false = record { kind = refl; interface = refl; abstract = refl; lazy = refl }
of_builtin_I1 true false true = record { kind = refl; interface = refl; abstract = refl; lazy = refl }
of_builtin_I1 true false false = record { kind = refl; interface = refl; abstract = refl; lazy = refl }
of_builtin_I1 false true true = record { kind = refl; interface = refl; abstract = refl; lazy = refl }
of_builtin_I1 false true false = record { kind = refl; interface = refl; abstract = refl; lazy = refl }
of_builtin_I1 false false true = record { kind = refl; interface = refl; abstract = refl; lazy = refl }
of_builtin_I1 false false false = record { kind = refl; interface = refl; abstract = refl; lazy = refl }

of_enum_I1 : (i a z : Bool) → FlagsRead (TypeKind.Enumeration elem.I1) i a z
of_enum_I1 true true true = record { kind = refl; interface = refl; abstract = refl; lazy = refl }
of_enum_I1 true true false = record { kind = refl; interface = refl; abstract = refl; lazy = refl }
of_enum_I1 true false true = record { kind = refl; interface = refl; abstract = refl; lazy = refl }
of_enum_I1 true false false = record { kind = refl; interface = refl; abstract = refl; lazy = refl }
of_enum_I1 false true true = record { kind = refl; interface = refl; abstract = refl; lazy = refl }
of_enum_I1 false true false = record { kind = refl; interface = refl; abstract = refl; lazy = refl }
of_enum_I1 false false true = record { kind = refl; interface = refl; abstract = refl; lazy = refl }
of_enum_I1 false false false = record { kind = refl; interface = refl; abstract = refl; lazy = refl }

of_builtin_U1 : (i a z : Bool) → FlagsRead (TypeKind.Builtin elem.U1) i a z
of_builtin_U1 true true true = record { kind = refl; interface = refl; abstract = refl; lazy = refl }
of_builtin_U1 true true false = record { kind = refl; interface = refl; abstract = refl; lazy = refl }
of_builtin_U1 true false true = record { kind = refl; interface = refl; abstract = refl; lazy = refl }
of_builtin_U1 true false false = record { kind = refl; interface = refl; abstract = refl; lazy = refl }
of_builtin_U1 false true true = record { kind = refl; interface = refl; abstract = refl; lazy = refl }
of_builtin_U1 false true false = record { kind = refl; interface = refl; abstract = refl; lazy = refl }
of_builtin_U1 false false true = record { kind = refl; interface = refl; abstract = refl; lazy = refl }
of_builtin_U1 false false false = record { kind = refl; interface = refl; abstract = refl; lazy = refl }

of_enum_U1 : (i a z : Bool) → FlagsRead (TypeKind.Enumeration elem.U1) i a z
of_enum_U1 true true true = record { kind = refl; interface = refl; abstract = refl; lazy = refl }
of_enum_U1 true true false = record { kind = refl; interface = refl; abstract = refl; lazy = refl }
of_enum_U1 true false true = record { kind = refl; interface = refl; abstract = refl; lazy = refl }
of_enum_U1 true false false = record { kind = refl; interface = refl; abstract = refl; lazy = refl }
of_enum_U1 false true true = record { kind = refl; interface = refl; abstract = refl; lazy = refl }
of_enum_U1 false true false = record { kind = refl; interface = refl; abstract = refl; lazy = refl }
of_enum_U1 false false true = record { kind = refl; interface = refl; abstract = refl; lazy = refl }
of_enum_U1 false false false = record { kind = refl; interface = refl; abstract = refl; lazy = refl }

of_builtin_I2 : (i a z : Bool) → FlagsRead (TypeKind.Builtin elem.I2) i a z
of_builtin_I2 true true true = record { kind = refl; interface = refl; abstract = refl; lazy = refl }
of_builtin_I2 true true false = record { kind = refl; interface = refl; abstract = refl; lazy = refl }
of_builtin_I2 true false true = record { kind = refl; interface = refl; abstract = refl; lazy = refl }
of_builtin_I2 true false false = record { kind = refl; interface = refl; abstract = refl; lazy = refl }
of_builtin_I2 false true true = record { kind = refl; interface = refl; abstract = refl; lazy = refl }
of_builtin_I2 false true false = record { kind = refl; interface = refl; abstract = refl; lazy = refl }
of_builtin_I2 false false true = record { kind = refl; interface = refl; abstract = refl; lazy = refl }
of_builtin_I2 false false false = record { kind = refl; interface = refl; abstract = refl; lazy = refl }

of_enum_I2 : (i a z : Bool) → FlagsRead (TypeKind.Enumeration elem.I2) i a z
of_enum_I2 true true true = record { kind = refl; interface = refl; abstract = refl; lazy = refl }
of_enum_I2 true true false = record { kind = refl; interface = refl; abstract = refl; lazy = refl }
of_enum_I2 true false true = record { kind = refl; interface = refl; abstract = refl; lazy = refl }
of_enum_I2 true false false = record { kind = refl; interface = refl; abstract = refl; lazy = refl }
of_enum_I2 false true true = record { kind = refl; interface = refl; abstract = refl; lazy = refl }
of_enum_I2 false true false = record { kind = refl; interface = refl; abstract = refl; lazy = refl }
of_enum_I2 false false true = record { kind = refl; interface = refl; abstract = refl; lazy = refl }
of_enum_I2 false false false = record { kind = refl; interface = refl; abstract = refl; lazy = refl }

of_builtin_U2 : (i a z : Bool) → FlagsRead (TypeKind.Builtin elem.U2) i a z
of_builtin_U2 true true true = record { kind = refl; interface = refl; abstract = refl; lazy = refl }
of_builtin_U2 true true false = record { kind = refl; interface = refl; abstract = refl; lazy = refl }
of_builtin_U2 true false true = record { kind = refl; interface = refl; abstract = refl; lazy = refl }
of_builtin_U2 true false false = record { kind = refl; interface = refl; abstract = refl; lazy = refl }
of_builtin_U2 false true true = record { kind = refl; interface = refl; abstract = refl; lazy = refl }
of_builtin_U2 false true false = record { kind = refl; interface = refl; abstract = refl; lazy = refl }
of_builtin_U2 false false true = record { kind = refl; interface = refl; abstract = refl; lazy = refl }
of_builtin_U2 false false false = record { kind = refl; interface = refl; abstract = refl; lazy = refl }

of_enum_U2 : (i a z : Bool) → FlagsRead (TypeKind.Enumeration elem.U2) i a z
of_enum_U2 true true true = record { kind = refl; interface = refl; abstract = refl; lazy = refl }
of_enum_U2 true true false = record { kind = refl; interface = refl; abstract = refl; lazy = refl }
of_enum_U2 true false true = record { kind = refl; interface = refl; abstract = refl; lazy = refl }
of_enum_U2 true false false = record { kind = refl; interface = refl; abstract = refl; lazy = refl }
of_enum_U2 false true true = record { kind = refl; interface = refl; abstract = refl; lazy = refl }
of_enum_U2 false true false = record { kind = refl; interface = refl; abstract = refl; lazy = refl }
of_enum_U2 false false true = record { kind = refl; interface = refl; abstract = refl; lazy = refl }
of_enum_U2 false false false = record { kind = refl; interface = refl; abstract = refl; lazy = refl }

of_builtin_I4 : (i a z : Bool) → FlagsRead (TypeKind.Builtin elem.I4) i a z
of_builtin_I4 true true true = record { kind = refl; interface = refl; abstract = refl; lazy = refl }
of_builtin_I4 true true false = record { kind = refl; interface = refl; abstract = refl; lazy = refl }
of_builtin_I4 true false true = record { kind = refl; interface = refl; abstract = refl; lazy = refl }
of_builtin_I4 true false false = record { kind = refl; interface = refl; abstract = refl; lazy = refl }
of_builtin_I4 false true true = record { kind = refl; interface = refl; abstract = refl; lazy = refl }
of_builtin_I4 false true false = record { kind = refl; interface = refl; abstract = refl; lazy = refl }
of_builtin_I4 false false true = record { kind = refl; interface = refl; abstract = refl; lazy = refl }
of_builtin_I4 false false false = record { kind = refl; interface = refl; abstract = refl; lazy = refl }

of_enum_I4 : (i a z : Bool) → FlagsRead (TypeKind.Enumeration elem.I4) i a z
of_enum_I4 true true true = record { kind = refl; interface = refl; abstract = refl; lazy = refl }
of_enum_I4 true true false = record { kind = refl; interface = refl; abstract = refl; lazy = refl }
of_enum_I4 true false true = record { kind = refl; interface = refl; abstract = refl; lazy = refl }
of_enum_I4 true false false = record { kind = refl; interface = refl; abstract = refl; lazy = refl }
of_enum_I4 false true true = record { kind = refl; interface = refl; abstract = refl; lazy = refl }
of_enum_I4 false true false = record { kind = refl; interface = refl; abstract = refl; lazy = refl }
of_enum_I4 false false true = record { kind = refl; interface = refl; abstract = refl; lazy = refl }
of_enum_I4 false false false = record { kind = refl; interface = refl; abstract = refl; lazy = refl }

of_builtin_U4 : (i a z : Bool) → FlagsRead (TypeKind.Builtin elem.U4) i a z
of_builtin_U4 true true true = record { kind = refl; interface = refl; abstract = refl; lazy = refl }
of_builtin_U4 true true false = record { kind = refl; interface = refl; abstract = refl; lazy = refl }
of_builtin_U4 true false true = record { kind = refl; interface = refl; abstract = refl; lazy = refl }
of_builtin_U4 true false false = record { kind = refl; interface = refl; abstract = refl; lazy = refl }
of_builtin_U4 false true true = record { kind = refl; interface = refl; abstract = refl; lazy = refl }
of_builtin_U4 false true false = record { kind = refl; interface = refl; abstract = refl; lazy = refl }
of_builtin_U4 false false true = record { kind = refl; interface = refl; abstract = refl; lazy = refl }
of_builtin_U4 false false false = record { kind = refl; interface = refl; abstract = refl; lazy = refl }

of_enum_U4 : (i a z : Bool) → FlagsRead (TypeKind.Enumeration elem.U4) i a z
of_enum_U4 true true true = record { kind = refl; interface = refl; abstract = refl; lazy = refl }
of_enum_U4 true true false = record { kind = refl; interface = refl; abstract = refl; lazy = refl }
of_enum_U4 true false true = record { kind = refl; interface = refl; abstract = refl; lazy = refl }
of_enum_U4 true false false = record { kind = refl; interface = refl; abstract = refl; lazy = refl }
of_enum_U4 false true true = record { kind = refl; interface = refl; abstract = refl; lazy = refl }
of_enum_U4 false true false = record { kind = refl; interface = refl; abstract = refl; lazy = refl }
of_enum_U4 false false true = record { kind = refl; interface = refl; abstract = refl; lazy = refl }
of_enum_U4 false false false = record { kind = refl; interface = refl; abstract = refl; lazy = refl }

of_builtin_I8 : (i a z : Bool) → FlagsRead (TypeKind.Builtin elem.I8) i a z
of_builtin_I8 true true true = record { kind = refl; interface = refl; abstract = refl; lazy = refl }
of_builtin_I8 true true false = record { kind = refl; interface = refl; abstract = refl; lazy = refl }
of_builtin_I8 true false true = record { kind = refl; interface = refl; abstract = refl; lazy = refl }
of_builtin_I8 true false false = record { kind = refl; interface = refl; abstract = refl; lazy = refl }
of_builtin_I8 false true true = record { kind = refl; interface = refl; abstract = refl; lazy = refl }
of_builtin_I8 false true false = record { kind = refl; interface = refl; abstract = refl; lazy = refl }
of_builtin_I8 false false true = record { kind = refl; interface = refl; abstract = refl; lazy = refl }
of_builtin_I8 false false false = record { kind = refl; interface = refl; abstract = refl; lazy = refl }

of_enum_I8 : (i a z : Bool) → FlagsRead (TypeKind.Enumeration elem.I8) i a z
of_enum_I8 true true true = record { kind = refl; interface = refl; abstract = refl; lazy = refl }
of_enum_I8 true true false = record { kind = refl; interface = refl; abstract = refl; lazy = refl }
of_enum_I8 true false true = record { kind = refl; interface = refl; abstract = refl; lazy = refl }
of_enum_I8 true false false = record { kind = refl; interface = refl; abstract = refl; lazy = refl }
of_enum_I8 false true true = record { kind = refl; interface = refl; abstract = refl; lazy = refl }
of_enum_I8 false true false = record { kind = refl; interface = refl; abstract = refl; lazy = refl }
of_enum_I8 false false true = record { kind = refl; interface = refl; abstract = refl; lazy = refl }
of_enum_I8 false false false = record { kind = refl; interface = refl; abstract = refl; lazy = refl }

of_builtin_U8 : (i a z : Bool) → FlagsRead (TypeKind.Builtin elem.U8) i a z
of_builtin_U8 true true true = record { kind = refl; interface = refl; abstract = refl; lazy = refl }
of_builtin_U8 true true false = record { kind = refl; interface = refl; abstract = refl; lazy = refl }
of_builtin_U8 true false true = record { kind = refl; interface = refl; abstract = refl; lazy = refl }
of_builtin_U8 true false false = record { kind = refl; interface = refl; abstract = refl; lazy = refl }
of_builtin_U8 false true true = record { kind = refl; interface = refl; abstract = refl; lazy = refl }
of_builtin_U8 false true false = record { kind = refl; interface = refl; abstract = refl; lazy = refl }
of_builtin_U8 false false true = record { kind = refl; interface = refl; abstract = refl; lazy = refl }
of_builtin_U8 false false false = record { kind = refl; interface = refl; abstract = refl; lazy = refl }

of_enum_U8 : (i a z : Bool) → FlagsRead (TypeKind.Enumeration elem.U8) i a z
of_enum_U8 true true true = record { kind = refl; interface = refl; abstract = refl; lazy = refl }
of_enum_U8 true true false = record { kind = refl; interface = refl; abstract = refl; lazy = refl }
of_enum_U8 true false true = record { kind = refl; interface = refl; abstract = refl; lazy = refl }
of_enum_U8 true false false = record { kind = refl; interface = refl; abstract = refl; lazy = refl }
of_enum_U8 false true true = record { kind = refl; interface = refl; abstract = refl; lazy = refl }
of_enum_U8 false true false = record { kind = refl; interface = refl; abstract = refl; lazy = refl }
of_enum_U8 false false true = record { kind = refl; interface = refl; abstract = refl; lazy = refl }
of_enum_U8 false false false = record { kind = refl; interface = refl; abstract = refl; lazy = refl }

of_builtin_String : (i a z : Bool) → FlagsRead (TypeKind.Builtin elem.String) i a z
of_builtin_String true true true = record { kind = refl; interface = refl; abstract = refl; lazy = refl }
of_builtin_String true true false = record { kind = refl; interface = refl; abstract = refl; lazy = refl }
of_builtin_String true false true = record { kind = refl; interface = refl; abstract = refl; lazy = refl }
of_builtin_String true false false = record { kind = refl; interface = refl; abstract = refl; lazy = refl }
of_builtin_String false true true = record { kind = refl; interface = refl; abstract = refl; lazy = refl }
of_builtin_String false true false = record { kind = refl; interface = refl; abstract = refl; lazy = refl }
of_builtin_String false false true = record { kind = refl; interface = refl; abstract = refl; lazy = refl }
of_builtin_String false false false = record { kind = refl; interface = refl; abstract = refl; lazy = refl }

of_builtin_Object : (i a z : Bool) → FlagsRead (TypeKind.Builtin elem.Object) i a z
of_builtin_Object true true true = record { kind = refl; interface = refl; abstract = refl; lazy = refl }
of_builtin_Object true true false = record { kind = refl; interface = refl; abstract = refl; lazy = refl }
of_builtin_Object true false true = record { kind = refl; interface = refl; abstract = refl; lazy = refl }
of_builtin_Object true false false = record { kind = refl; interface = refl; abstract = refl; lazy = refl }
of_builtin_Object false true true = record { kind = refl; interface = refl; abstract = refl; lazy = refl }
of_builtin_Object false true false = record { kind = refl; interface = refl; abstract = refl; lazy = refl }
of_builtin_Object false false true = record { kind = refl; interface = refl; abstract = refl; lazy = refl }
of_builtin_Object false false false = record { kind = refl; interface = refl; abstract = refl; lazy = refl }

pub flags_law : (k : TypeKind) (i a z : Bool) → KindFits k → FlagsRead k i a z
flags_law TypeKind.Reference i a z h = of_reference i a z
flags_law TypeKind.OtherValue i a z h = of_other i a z
flags_law (TypeKind.Builtin elem.Bool) i a z h = of_builtin_Bool i a z
flags_law (TypeKind.Builtin elem.Char) i a z h = of_builtin_Char i a z
flags_law (TypeKind.Builtin elem.I1) i a z h = of_builtin_I1 i a z
flags_law (TypeKind.Builtin elem.U1) i a z h = of_builtin_U1 i a z
flags_law (TypeKind.Builtin elem.I2) i a z h = of_builtin_I2 i a z
flags_law (TypeKind.Builtin elem.U2) i a z h = of_builtin_U2 i a z
flags_law (TypeKind.Builtin elem.I4) i a z h = of_builtin_I4 i a z
flags_law (TypeKind.Builtin elem.U4) i a z h = of_builtin_U4 i a z
flags_law (TypeKind.Builtin elem.I8) i a z h = of_builtin_I8 i a z
flags_law (TypeKind.Builtin elem.U8) i a z h = of_builtin_U8 i a z
flags_law (TypeKind.Builtin elem.String) i a z h = of_builtin_String i a z
flags_law (TypeKind.Builtin elem.Object) i a z h = of_builtin_Object i a z
flags_law (TypeKind.Builtin elem.Void) i a z h = absurd (cc h)
flags_law (TypeKind.Builtin elem.Class) i a z h = absurd (cc h)
flags_law (TypeKind.Builtin elem.Value) i a z h = absurd (cc h)
flags_law (TypeKind.Enumeration elem.Bool) i a z h = absurd (cc h)
flags_law (TypeKind.Enumeration elem.Char) i a z h = absurd (cc h)
flags_law (TypeKind.Enumeration elem.I1) i a z h = of_enum_I1 i a z
flags_law (TypeKind.Enumeration elem.U1) i a z h = of_enum_U1 i a z
flags_law (TypeKind.Enumeration elem.I2) i a z h = of_enum_I2 i a z
flags_law (TypeKind.Enumeration elem.U2) i a z h = of_enum_U2 i a z
flags_law (TypeKind.Enumeration elem.I4) i a z h = of_enum_I4 i a z
flags_law (TypeKind.Enumeration elem.U4) i a z h = of_enum_U4 i a z
flags_law (TypeKind.Enumeration elem.I8) i a z h = of_enum_I8 i a z
flags_law (TypeKind.Enumeration elem.U8) i a z h = of_enum_U8 i a z
flags_law (TypeKind.Enumeration elem.String) i a z h = absurd (cc h)
flags_law (TypeKind.Enumeration elem.Object) i a z h = absurd (cc h)
flags_law (TypeKind.Enumeration elem.Void) i a z h = absurd (cc h)
flags_law (TypeKind.Enumeration elem.Class) i a z h = absurd (cc h)
flags_law (TypeKind.Enumeration elem.Value) i a z h = absurd (cc h)

pub record BitsRead (a b c d e : Bool) : Type 0 where
  pub static : bit 1 (method_flags a b c d e) ≡ a
  pub virtual : bit 2 (method_flags a b c d e) ≡ b
  pub newslot : bit 4 (method_flags a b c d e) ≡ c
  pub abstract : bit 8 (method_flags a b c d e) ≡ d
  pub native : bit 16 (method_flags a b c d e) ≡ e

pub bits_law : (a b c d e : Bool) → BitsRead a b c d e
bits_law true true true true true = record { static = refl; virtual = refl; newslot = refl; abstract = refl; native = refl }
bits_law true true true true false = record { static = refl; virtual = refl; newslot = refl; abstract = refl; native = refl }
bits_law true true true false true = record { static = refl; virtual = refl; newslot = refl; abstract = refl; native = refl }
bits_law true true true false false = record { static = refl; virtual = refl; newslot = refl; abstract = refl; native = refl }
bits_law true true false true true = record { static = refl; virtual = refl; newslot = refl; abstract = refl; native = refl }
bits_law true true false true false = record { static = refl; virtual = refl; newslot = refl; abstract = refl; native = refl }
bits_law true true false false true = record { static = refl; virtual = refl; newslot = refl; abstract = refl; native = refl }
bits_law true true false false false = record { static = refl; virtual = refl; newslot = refl; abstract = refl; native = refl }
bits_law true false true true true = record { static = refl; virtual = refl; newslot = refl; abstract = refl; native = refl }
bits_law true false true true false = record { static = refl; virtual = refl; newslot = refl; abstract = refl; native = refl }
bits_law true false true false true = record { static = refl; virtual = refl; newslot = refl; abstract = refl; native = refl }
bits_law true false true false false = record { static = refl; virtual = refl; newslot = refl; abstract = refl; native = refl }
bits_law true false false true true = record { static = refl; virtual = refl; newslot = refl; abstract = refl; native = refl }
bits_law true false false true false = record { static = refl; virtual = refl; newslot = refl; abstract = refl; native = refl }
bits_law true false false false true = record { static = refl; virtual = refl; newslot = refl; abstract = refl; native = refl }
bits_law true false false false false = record { static = refl; virtual = refl; newslot = refl; abstract = refl; native = refl }
bits_law false true true true true = record { static = refl; virtual = refl; newslot = refl; abstract = refl; native = refl }
bits_law false true true true false = record { static = refl; virtual = refl; newslot = refl; abstract = refl; native = refl }
bits_law false true true false true = record { static = refl; virtual = refl; newslot = refl; abstract = refl; native = refl }
bits_law false true true false false = record { static = refl; virtual = refl; newslot = refl; abstract = refl; native = refl }
bits_law false true false true true = record { static = refl; virtual = refl; newslot = refl; abstract = refl; native = refl }
bits_law false true false true false = record { static = refl; virtual = refl; newslot = refl; abstract = refl; native = refl }
bits_law false true false false true = record { static = refl; virtual = refl; newslot = refl; abstract = refl; native = refl }
bits_law false true false false false = record { static = refl; virtual = refl; newslot = refl; abstract = refl; native = refl }
bits_law false false true true true = record { static = refl; virtual = refl; newslot = refl; abstract = refl; native = refl }
bits_law false false true true false = record { static = refl; virtual = refl; newslot = refl; abstract = refl; native = refl }
bits_law false false true false true = record { static = refl; virtual = refl; newslot = refl; abstract = refl; native = refl }
bits_law false false true false false = record { static = refl; virtual = refl; newslot = refl; abstract = refl; native = refl }
bits_law false false false true true = record { static = refl; virtual = refl; newslot = refl; abstract = refl; native = refl }
bits_law false false false true false = record { static = refl; virtual = refl; newslot = refl; abstract = refl; native = refl }
bits_law false false false false true = record { static = refl; virtual = refl; newslot = refl; abstract = refl; native = refl }
bits_law false false false false false = record { static = refl; virtual = refl; newslot = refl; abstract = refl; native = refl }

pub native_law : (n : NativeName) → native_body (native_number n) ≡ Body.Native n
native_law ObjectToString = refl
native_law EnumEquals = refl
native_law EnumToString = refl
native_law ArrayLength = refl
native_law ArrayCopy = refl
native_law StringLength = refl
native_law StringChars = refl
native_law StringConcat = refl
native_law StringSubstring = refl
native_law StringEquals = refl
native_law StringCompare = refl
native_law StringFromChars = refl
native_law StringFromChar = refl
native_law NumberSigned = refl
native_law NumberUnsigned = refl
native_law InitializeArray = refl
native_law DebugPrint = refl
