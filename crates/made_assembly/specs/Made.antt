-- The generated assembly.
use Rattle.std.specs.Prelude.{ℕ, zero, suc, ◌+◌, ◌-◌, List, [], ◌∷◌, ◌++◌, codes, decimal}
use Rattle.cil_layout.specs.declared.rows.Row.{Row}
use Rattle.cil_layout.specs.declared.rows.Row.TheVariants.{TypeDef, MethodDef, AssemblyRef, TypeRef}
use Rattle.cil_layout.specs.declared.rows.TheConstants.{METHOD_DEF, TYPE_REF, ASSEMBLY_REF}
use Rattle.cil_layout.specs.Asked.{Asked, asked_first, with_row, with_entry, token_of}
use Rattle.cil_layout.specs.Layout.{four}
use Rattle.made_assembly.specs.declared.generator.TheConstants.{STATIC_CLASS, STATIC_METHOD, F_SIGNATURE, MAIN_SIGNATURE, LIBRARY_VERSION}

-- the assembly with a reference to Object
unfoldable pub references : Asked
references =
    with_row (with_row (asked_first (codes "Made") (1 ∷ 0 ∷ 0 ∷ 0 ∷ [])) (AssemblyRef (record { name = codes "mscorlib"; version = LIBRARY_VERSION })))
    (TypeRef (record { scope = token_of ASSEMBLY_REF 1; namespace = codes "System"; name = codes "Object" }))

-- the token of the method of class k
abbrev pub method_token : ℕ → ℕ
method_token k = token_of METHOD_DEF (k + 1)

-- the static class of a name, over Object
abbrev pub class_row : List ℕ → Row
class_row name = TypeDef (record { flags = STATIC_CLASS; namespace = codes "Made"; name = name; extends = token_of TYPE_REF 1 })

-- a static method of a name, a signature and a body
abbrev pub static_method : List ℕ → List ℕ → List ℕ → Row
static_method name signature body = MethodDef (record { impl_flags = 0; flags = STATIC_METHOD; name = name; signature = signature; body = body })

-- Behind a tiny header (II.25.4.2) `ldarg.0 ret` for the first class; for class k: if (x & 1) is 0 then F of class k - 1 at x + k, else F of class k - 1 at x * 3 + k
abbrev pub body_of : ℕ → List ℕ
body_of zero = 0x0A ∷ 0x02 ∷ 0x2A ∷ []
body_of (suc j) =
    0x86 ∷ 0x02 ∷ 0x17 ∷ 0x5F ∷ 0x2D ∷ 0x0D ∷ 0x02 ∷ 0x20 ∷ [] ++ four (suc j) ++ 0x58 ∷ 0x28 ∷ [] ++ four (method_token j) ++ 0x2A ∷ 0x02 ∷ 0x19 ∷ 0x5A ∷ 0x20 ∷ []
    ++ four (suc j) ++ 0x58 ∷ 0x28 ∷ [] ++ four (method_token j) ++ 0x2A ∷ []

-- class k
abbrev pub numbered_row : ℕ → Row
numbered_row k = class_row (codes "C" ++ decimal k)

-- its method
abbrev pub method_row : ℕ → Row
method_row k = static_method (codes "F") F_SIGNATURE (body_of k)

-- the assembly with the classes C0 to C(n-1)
unfoldable pub classes : ℕ → Asked
classes zero = references
classes (suc k) = with_row (with_row (classes k) (numbered_row k)) (method_row k)

-- Main is F of the last class at 1
abbrev pub main_body : ℕ → List ℕ
main_body n = 0x1E ∷ 0x17 ∷ 0x28 ∷ [] ++ four (method_token (n - 1)) ++ 0x2A ∷ []

-- its row
abbrev pub main_row : ℕ → Row
main_row n = static_method (codes "Main") MAIN_SIGNATURE (main_body n)

-- the whole: the classes, the class Program with Main, and Main as the entry method
unfoldable pub made_of : ℕ → Asked
made_of n = with_entry (with_row (with_row (classes n) (class_row (codes "Program"))) (main_row n)) (method_token n)
