-- The internal calls of an assembly are the natives of its items.
use Rattle.std.proofs.Common.{◌≡◌, ℕ, List, [], ◌∷◌, ◌++◌, map, fold, Bool, true, false, cond, refl, ap, sym, ◌∙◌, append_assoc}
use Rattle.std.specs.List.{filter}
use Rattle.std.proofs.lemmas.Grind.{flat_map-append}
use Rattle.std.proofs.lemmas.List.{append-nil}
use Rattle.base_tables.specs.Shape.{Item, Body, Kind}
use Rattle.base_tables.specs.declared.shape.Entry.{Entry}
use Rattle.base_tables.specs.declared.shape.Entry.TheVariants.{Literal, TypeDef, Field, Method, Implements, Assembly, TypeOf, MethodOf}
use Rattle.base_tables.specs.declared.shape.Work.{Work}
use Rattle.base_tables.specs.declared.shape.Work.TheVariants.{Code, Native, Abstract}
use Rattle.cil_layout.specs.Asked.{Asked, asked_first}
use Rattle.base_tables.specs.declared.library.TheConstants.{VERSION}
use Rattle.base_lib.specs.Files.{with_item, library_of}
use Rattle.base_lib.specs.Natives.{Call, calls_in, call_of, is_native, native_calls}
use Rattle.base_lib.proofs.Added.{added, kinds_rows, locals_rows, method_row, item_adds}

-- the call of an item that is a native
abbrev one_call : List Item → Bool → Item → List Call
one_call items b i = cond b (call_of items i ∷ []) []

kinds_none : (items : List Item) (kinds : List Kind) → calls_in (kinds_rows items kinds) ≡ []
kinds_none items [] = refl
kinds_none items (k ∷ ks) = refl

locals_none : (items : List Item) (work : Work) (body : Body) → calls_in (locals_rows items work body) ≡ []
locals_none items Code body = kinds_none items body.locals
locals_none items Native body = refl
locals_none items Abstract body = refl

-- a method is an internal call where its work is a native's
method_call : (items : List Item) (r : Asked) (i : Item) (work : Work) → i.body.work ≡ work → calls_in (method_row items r i ∷ []) ≡ one_call items (is_native Method work) i
method_call items r i Code e = rw e refl
method_call items r i Native e = rw e refl
method_call items r i Abstract e = rw e refl

entry_calls : (items : List Item) (r : Asked) (entry : Entry) (i : Item) → calls_in (added items r entry i) ≡ one_call items (is_native entry i.body.work) i
entry_calls items r Literal i = refl
entry_calls items r TypeDef i = refl
entry_calls items r Field i = refl
entry_calls items r Method i =
    flat_map-append _ (locals_rows items i.body.work i.body) (method_row items r i ∷ [])
    ∙ ap (λ xs. xs ++ calls_in (method_row items r i ∷ [])) (locals_none items i.body.work i.body)
    ∙ method_call items r i i.body.work refl
entry_calls items r Implements i = refl
entry_calls items r Assembly i = refl
entry_calls items r TypeOf i = refl
entry_calls items r MethodOf i = refl

-- an item's call stands behind those before
item_calls : (items : List Item) (r : Asked) (i : Item) → calls_in (with_item items r i).rows ≡ calls_in r.rows ++ one_call items (is_native i.entry i.body.work) i
item_calls items r i =
    ap (λ (s : Asked). calls_in s.rows) (item_adds items r i)
    ∙ flat_map-append _ r.rows (added items r i.entry i)
    ∙ ap (λ xs. calls_in r.rows ++ xs) (entry_calls items r i.entry i)

-- the calls of the items that are left
abbrev calls_left : List Item → List Item → List Call
calls_left items left = map (call_of items) (filter (λ i. is_native i.entry i.body.work) left)

next_left : (items : List Item) (i : Item) (left : List Item) (b : Bool) → one_call items b i ++ calls_left items left ≡ map (call_of items) (cond b (i ∷ filter (λ j. is_native j.entry j.body.work) left) (filter (λ j. is_native j.entry j.body.work) left))
next_left items i left true = refl
next_left items i left false = refl

calls_from : (items : List Item) (r : Asked) (left : List Item) → calls_in (fold (with_item items) r left).rows ≡ calls_in r.rows ++ calls_left items left
calls_from items r [] = sym (append-nil (calls_in r.rows))
calls_from items r (i ∷ left) =
    calls_from items (with_item items r i) left
    ∙ ap (λ xs. xs ++ calls_left items left) (item_calls items r i)
    ∙ append_assoc (calls_in r.rows) (one_call items (is_native i.entry i.body.work) i) (calls_left items left)
    ∙ ap (λ xs. calls_in r.rows ++ xs) (next_left items i left (is_native i.entry i.body.work))

-- all of an assembly
pub calls_are : (name : List ℕ) (items : List Item) → calls_in (library_of name items).rows ≡ native_calls items
unfolding library_of
calls_are name items = calls_from items (asked_first name VERSION) items
