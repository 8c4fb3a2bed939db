-- Elements that are read, beside the machine's.
use Rattle.std.proofs.Common.{◌≡◌, ℕ, zero, suc, ◌<◌, ◌≤◌, Bool, true, false, List, [], ◌∷◌, length, Option, Some, None, refl, sym, ap, ◌∙◌, subst, arith}
use Rattle.std.proofs.lemmas.Bool.{false≢true}
use Rattle.std.specs.Prelude.{if◌then◌else◌, slice_get, unwrap_or}
use Rattle.board_types.specs.declared.board.Known.TheVariants.{IndexOutOfRange}
use Rattle.plain_types.specs.declared.elem.Elem.{Elem}
use Rattle.board_types.specs.declared.value.Value.{Value as RamValue}
use Rattle.machine.specs.Data.{CliType, Cell, cell_of, Value, Thing, Elements, State}
use Rattle.machine.specs.Program.{Program}
use Rattle.machine.specs.Numbers.{kept_in, same_width, zero_of}
use Rattle.machine.specs.Throw.{on_some, raise}
use Rattle.machine.specs.Rows.{on_elements, on_cell, or_raise}
use Rattle.ram_words.specs.Elements.{elem_held, type_held}
use Rattle.tiny_ram.specs.Things.{Entry}
use Rattle.tiny_ram.specs.Memory.{shown, entry_value}
use Rattle.memory_states.specs.Values.{IsValue}
use Rattle.memory_states.proofs.Heaps.{type_is_held}
use Rattle.kept_values.specs.Keeping.{is_as_wide}
use Rattle.step_operands.proofs.Places.{ItemAt, item_at, shown_is}
use Rattle.step_arrays.specs.declared.found.Array.{Array}
use Rattle.step_arrays.specs.Elements.{on_element}
use Rattle.step_arrays.proofs.Lengths.{IsElements}

-- an item past the end
pub none_past : {A : Type 0} (xs : List A) (n : ℕ) → length xs ≤ n → slice_get xs n ≡ None
none_past [] n l = refl
none_past (x ∷ xs) zero l = absurd (omega (arith, l))
none_past (x ∷ xs) (suc n) l = none_past xs n (omega (arith, l))

-- elements of a cell that is as wide as wanted, or not
narrow : (wide : Cell) (o : Option Cell) → false ≡ is_as_wide wide o → (go : Cell → Option State) → on_some o (λ cell. if same_width cell wide then go cell else None) ≡ None
narrow wide None e go = refl
narrow wide (Some cell) e go = ap (λ (b : Bool). if b then go cell else None) (sym e)

fitting : (wide : Cell) (o : Option Cell) → true ≡ is_as_wide wide o → (next : Option State) → on_some o (λ cell. if same_width cell wide then next else None) ≡ next
fitting wide None e next = absurd (false≢true (sym e))
fitting wide (Some cell) e next = ap (λ (b : Bool). if b then next else None) (sym e)

module _ (p : Program) (room : ℕ) (e : Entry) (x : Thing) (a : Array) (k : IsElements p room e x a) where
  -- how the elements lie
  pub lie : type_held a.of ≡ cell_of k.element
  lie = ap type_held k.of ∙ type_is_held k.held.of ∙ ap cell_of k.held.element_is

  on_array : (s : State) (n : ℕ) (wide : Cell) (go : Value → Option State) → on_element p s x n wide go ≡ on_cell k.element wide (λ cell. or_raise p s IndexOutOfRange (slice_get k.values n) (λ v. on_some (kept_in wide v) go))
  on_array s n wide go = ap (λ (y : Thing). on_element p s y n wide go) k.is

  pub not_wide : (wide : Cell) → false ≡ is_as_wide wide (type_held a.of) → (s : State) (n : ℕ) (go : Value → Option State) → on_element p s x n wide go ≡ None
  not_wide wide t s n go = on_array s n wide go ∙ narrow wide (cell_of k.element) (t ∙ ap (is_as_wide wide) lie) (λ cell. or_raise p s IndexOutOfRange (slice_get k.values n) (λ v. on_some (kept_in wide v) go))

  module _ (wide : Cell) (t : true ≡ is_as_wide wide (type_held a.of)) (n : ℕ) where
    on_wide : (s : State) (go : Value → Option State) → on_element p s x n wide go ≡ or_raise p s IndexOutOfRange (slice_get k.values n) (λ v. on_some (kept_in wide v) go)
    on_wide s go = on_array s n wide go ∙ fitting wide (cell_of k.element) (t ∙ ap (is_as_wide wide) lie) (or_raise p s IndexOutOfRange (slice_get k.values n) (λ v. on_some (kept_in wide v) go))

    pub past_end : a.count ≤ n → (s : State) (go : Value → Option State) → on_element p s x n wide go ≡ raise p s IndexOutOfRange
    past_end l s go =
        let count = k.count in
        on_wide s go ∙ ap (λ (o : Option Value). or_raise p s IndexOutOfRange o (λ v. on_some (kept_in wide v) go)) (none_past k.values n (omega (arith, l, count)))

    pub item : n < a.count → ItemAt room (zero_of k.element) e.places k.values n
    item l = let count = k.count in item_at room (zero_of k.element) e.places k.values k.held.places n (omega (arith, l, count))

    pub found_value : (l : n < a.count) (elem : Elem) → elem_held elem ≡ type_held a.of → IsValue room [] (shown elem (entry_value e n)) (item l).value
    found_value l elem h = let i = item l in shown_is room [] elem k.element (sym lie ∙ sym h) (entry_value e n) i.value i.held

    pub on_kept : (l : n < a.count) (o : Option Value) → kept_in wide (item l).value ≡ o → (s : State) (go : Value → Option State) → on_element p s x n wide go ≡ on_some o go
    on_kept l o q s go =
        on_wide s go ∙ ap (λ (i : Option Value). or_raise p s IndexOutOfRange i (λ v. on_some (kept_in wide v) go)) (item l).is ∙ ap (λ (i : Option Value). on_some i go) q
