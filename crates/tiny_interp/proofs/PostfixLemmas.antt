-- One item of an expression is taken from the code to the stack.
use Rattle.std.proofs.Common.{◌≡◌, ◌≢◌, suc, ◌+◌, ◌-◌, ◌<◌, ℕ, ℤ, List, ◌∷◌, length, Option, Some, None, option_and_then, option_map, refl, sym, ap, ◌∙◌, arith}
use Rattle.std.specs.Option.{option_map_or}
use Rattle.tiny_interp.specs.Postfix.{item_at, before, items_within, stack_after, evaluated, single}
use Rattle.tiny_interp.specs.declared.postfix.Item.{Item}
use Rattle.tiny_interp.specs.declared.postfix.Item.TheVariants.{Number, Add, Subtract, Multiply, Return}

-- what items make of a stack
abbrev pub value_from : Option (List Item) → List ℤ → Option ℤ
value_from items stack = option_and_then single (option_and_then (λ is. evaluated is stack) items)

-- how many items there are, with this many more
abbrev pub count_from : Option (List Item) → ℕ → ℕ
count_from items more = option_map_or (λ (is : List Item). length is + more + 1) items 0

before_other : (item : Item) (rest : List ℕ) (items : Option (List Item)) → item ≢ Return → before item rest items ≡ option_map (λ is. item ∷ is) items
before_other (Number n) rest items ne = refl
before_other Add rest items ne = refl
before_other Subtract rest items ne = refl
before_other Multiply rest items ne = refl
before_other Return rest items ne = absurd (ne refl)

within : (n : ℕ) (rest behind : List ℕ) (item : Item) → item_at rest ≡ Some (item, behind) → item ≢ Return → items_within (suc n) rest ≡ option_map (λ is. item ∷ is) (items_within n behind)
within n rest behind item e ne =
    ap (λ (o : Option (Item × List ℕ)). option_and_then (λ (p : Item × List ℕ). before p.0 p.1 (items_within n p.1)) o) e
    ∙ before_other item behind (items_within n behind) ne

value_more : (item : Item) (items : Option (List Item)) (stack new : List ℤ) → stack_after item stack ≡ Some new → value_from (option_map (λ is. item ∷ is) items) stack ≡ value_from items new
value_more item None stack new e = refl
value_more item (Some is) stack new e = ap (λ (o : Option (List ℤ)). option_and_then single (option_and_then (evaluated is) o)) e

count_more : (item : Item) (items : Option (List Item)) (k : ℕ) → count_from (option_map (λ is. item ∷ is) items) k ≡ count_from items (k + 1)
count_more item None k = refl
count_more item (Some is) k = let e : length (item ∷ is) + k + 1 ≡ length is + (k + 1) + 1 = omega arith in e

pub value_turn : (code rest behind : List ℕ) (index : ℕ) (item : Item) (stack new : List ℤ) → index < length code → item_at rest ≡ Some (item, behind) → item ≢ Return → stack_after item stack ≡ Some new
    → value_from (items_within (length code - (index + 1)) behind) new ≡ value_from (items_within (length code - index) rest) stack
value_turn code rest behind index item stack new below e ne s =
    let one : length code - index ≡ suc (length code - (index + 1)) = omega arith in
    sym (
    ap (λ n. value_from (items_within n rest) stack) one
    ∙ ap (λ (o : Option (List Item)). value_from o stack) (within (length code - (index + 1)) rest behind item e ne)
    ∙ value_more item (items_within (length code - (index + 1)) behind) stack new s
    )

pub count_turn : (code rest behind : List ℕ) (index : ℕ) (item : Item) → index < length code → item_at rest ≡ Some (item, behind) → item ≢ Return
    → count_from (items_within (length code - (index + 1)) behind) (index + 1) ≡ count_from (items_within (length code - index) rest) index
count_turn code rest behind index item below e ne =
    let one : length code - index ≡ suc (length code - (index + 1)) = omega arith in
    sym (
    ap (λ n. count_from (items_within n rest) index) one
    ∙ ap (λ (o : Option (List Item)). count_from o index) (within (length code - (index + 1)) rest behind item e ne)
    ∙ count_more item (items_within (length code - (index + 1)) behind) index
    )
