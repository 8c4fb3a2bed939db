-- The two files of the base library.
use Rattle.std.specs.Prelude.{ℕ, ◌+◌, ◌%◌, ◌^◌, List, [], ◌∷◌, fold}
use Rattle.base_tables.specs.Shape.{Item, Body, Kind}
use Rattle.base_tables.specs.declared.shape.Entry.{Entry}
use Rattle.base_tables.specs.declared.shape.Entry.TheVariants.{Literal, TypeDef, Field, Method, Implements, Assembly, TypeOf, MethodOf}
use Rattle.base_tables.specs.declared.shape.Work.{Work}
use Rattle.base_tables.specs.declared.shape.Work.TheVariants.{Code, Native, Abstract}
use Rattle.base_tables.specs.declared.library.TheConstants.{VERSION}
use Rattle.cil_layout.specs.declared.rows.Row.TheVariants as row
use Rattle.cil_layout.specs.declared.rows.TheConstants.{STAND_ALONE_SIG}
use Rattle.cil_layout.specs.Asked.{Asked, asked_first, with_row, rows_of, token_of}
use Rattle.base_lib.specs.Keys.{token_of_key}
use Rattle.base_lib.specs.Signatures.{method_signature, field_signature, locals_signature}
use Rattle.base_lib.specs.Code.{body_bytes}

-- a native is an internal call (II.23.1.11)
abbrev pub impl_flags : Work → ℕ
impl_flags Native = 0x1000
impl_flags Code = 0
impl_flags Abstract = 0

-- the signature of its locals stands before the method
abbrev pub with_kinds : List Item → Asked → List Kind → Asked
with_kinds items r [] = r
with_kinds items r (k ∷ ks) = with_row r (row.Locals (locals_signature items (k ∷ ks)))

abbrev pub with_locals : List Item → Asked → Work → Body → Asked
with_locals items r Code body = with_kinds items r body.locals
with_locals items r Native body = r
with_locals items r Abstract body = r

abbrev pub kinds_token : Asked → List Kind → ℕ
kinds_token r [] = 0
kinds_token r (k ∷ ks) = token_of STAND_ALONE_SIG (rows_of r STAND_ALONE_SIG + 1)

-- the bytes of a body; natives and the methods of interfaces have none
abbrev pub work_bytes : List Item → Asked → Work → Body → List ℕ
work_bytes items r Code body = body_bytes items body.number (kinds_token r body.locals) body.lines
work_bytes items r Native body = []
work_bytes items r Abstract body = []

-- what is asked for an item that is an entry of a kind, among all items
abbrev pub with_entry : List Item → Asked → Entry → Item → Asked
with_entry items r Literal i = with_row r (row.Literal i.key)
with_entry items r TypeDef i = with_row r (row.TypeDef (record { flags = i.flags; namespace = i.namespace; name = i.name; extends = token_of_key items i.base }))
with_entry items r Field i = with_row r (row.Field (record { flags = i.flags % 2 ^ 16; name = i.name; signature = field_signature items i.signature.result; bytes = [] }))
with_entry items r Method i =
    with_row (with_locals items r i.body.work i.body)
    (row.MethodDef (record { impl_flags = impl_flags i.body.work; flags = i.flags % 2 ^ 16; name = i.name; signature = method_signature items i.signature; body = work_bytes items r i.body.work i.body }))
with_entry items r Implements i = with_row r (row.InterfaceImpl (record { class = token_of_key items i.name; interface = token_of_key items i.base }))
with_entry items r Assembly i = with_row r (row.AssemblyRef (record { name = i.name; version = VERSION }))
with_entry items r TypeOf i = with_row r (row.TypeRef (record { scope = token_of_key items i.base; namespace = i.namespace; name = i.name }))
with_entry items r MethodOf i = with_row r (row.MemberRef (record { parent = token_of_key items i.base; name = i.name; signature = method_signature items i.signature }))

unfoldable pub with_item : List Item → Asked → Item → Asked
with_item items r i = with_entry items r i.entry i

-- what is asked for an assembly of these items
unfoldable pub library_of : List ℕ → List Item → Asked
library_of name items = fold (with_item items) (asked_first name VERSION) items
