-- The rows that an item adds: one, and before a method's the signature of its locals.
use Rattle.std.proofs.Common.{◌≡◌, ◌%◌, ◌^◌, List, [], ◌∷◌, ◌++◌, refl, ap, sym, ◌∙◌, append_assoc}
use Rattle.std.proofs.lemmas.List.{append-nil}
use Rattle.base_tables.specs.Shape.{Item, Body, Kind}
use Rattle.base_tables.specs.declared.shape.Entry.{Entry}
use Rattle.base_tables.specs.declared.shape.Entry.TheVariants.{Literal, TypeDef, Field, Method, Implements, Assembly, TypeOf, MethodOf}
use Rattle.base_tables.specs.declared.shape.Work.{Work}
use Rattle.base_tables.specs.declared.shape.Work.TheVariants.{Code, Native, Abstract}
use Rattle.base_tables.specs.declared.library.TheConstants.{VERSION}
use Rattle.cil_layout.specs.declared.rows.Row.{Row}
use Rattle.cil_layout.specs.declared.rows.Row.TheVariants as row
use Rattle.cil_layout.specs.Asked.{Asked, with_row}
use Rattle.base_lib.specs.Keys.{token_of_key}
use Rattle.base_lib.specs.Signatures.{method_signature, field_signature, locals_signature}
use Rattle.base_lib.specs.Files.{impl_flags, with_kinds, with_locals, work_bytes, with_entry, with_item}

-- the signature of a method's locals
abbrev pub kinds_rows : List Item → List Kind → List Row
kinds_rows items [] = []
kinds_rows items (k ∷ ks) = row.Locals (locals_signature items (k ∷ ks)) ∷ []

abbrev pub locals_rows : List Item → Work → Body → List Row
locals_rows items Code body = kinds_rows items body.locals
locals_rows items Native body = []
locals_rows items Abstract body = []

-- the method itself
abbrev pub method_row : List Item → Asked → Item → Row
method_row items r i = row.MethodDef (record { impl_flags = impl_flags i.body.work; flags = i.flags % 2 ^ 16; name = i.name; signature = method_signature items i.signature; body = work_bytes items r i.body.work i.body })

-- the rows of an entry of a kind
abbrev pub added : List Item → Asked → Entry → Item → List Row
added items r Literal i = row.Literal i.key ∷ []
added items r TypeDef i = row.TypeDef (record { flags = i.flags; namespace = i.namespace; name = i.name; extends = token_of_key items i.base }) ∷ []
added items r Field i = row.Field (record { flags = i.flags % 2 ^ 16; name = i.name; signature = field_signature items i.signature.result; bytes = [] }) ∷ []
added items r Method i = locals_rows items i.body.work i.body ++ method_row items r i ∷ []
added items r Implements i = row.InterfaceImpl (record { class = token_of_key items i.name; interface = token_of_key items i.base }) ∷ []
added items r Assembly i = row.AssemblyRef (record { name = i.name; version = VERSION }) ∷ []
added items r TypeOf i = row.TypeRef (record { scope = token_of_key items i.base; namespace = i.namespace; name = i.name }) ∷ []
added items r MethodOf i = row.MemberRef (record { parent = token_of_key items i.base; name = i.name; signature = method_signature items i.signature }) ∷ []

-- rows behind those that were asked for
abbrev pub with_rows : Asked → List Row → Asked
with_rows r rows = record r { rows = r.rows ++ rows }

pub with_kinds_rows : (items : List Item) (r : Asked) (kinds : List Kind) → with_kinds items r kinds ≡ with_rows r (kinds_rows items kinds)
with_kinds_rows items r [] = ap (λ rows. record r { rows = rows }) (sym (append-nil r.rows))
with_kinds_rows items r (k ∷ ks) = refl

with_locals_rows : (items : List Item) (r : Asked) (work : Work) (body : Body) → with_locals items r work body ≡ with_rows r (locals_rows items work body)
with_locals_rows items r Code body = with_kinds_rows items r body.locals
with_locals_rows items r Native body = ap (λ rows. record r { rows = rows }) (sym (append-nil r.rows))
with_locals_rows items r Abstract body = ap (λ rows. record r { rows = rows }) (sym (append-nil r.rows))

-- an entry adds its rows, and nothing else
entry_adds : (items : List Item) (r : Asked) (entry : Entry) (i : Item) → with_entry items r entry i ≡ with_rows r (added items r entry i)
entry_adds items r Literal i = refl
entry_adds items r TypeDef i = refl
entry_adds items r Field i = refl
entry_adds items r Method i =
    ap (λ s. with_row s (method_row items r i)) (with_locals_rows items r i.body.work i.body)
    ∙ ap (λ rows. record r { rows = rows }) (append_assoc r.rows (locals_rows items i.body.work i.body) (method_row items r i ∷ []))
entry_adds items r Implements i = refl
entry_adds items r Assembly i = refl
entry_adds items r TypeOf i = refl
entry_adds items r MethodOf i = refl

pub item_adds : (items : List Item) (r : Asked) (i : Item) → with_item items r i ≡ with_rows r (added items r i.entry i)
unfolding with_item
item_adds items r i = entry_adds items r i.entry i
