use Rattle.std.proofs.Common.{◌≡◌, ◌⊎◌, inl, inr, ℕ, ◌+◌, ◌<◌, ◌≤◌, List, length, drop, sym, ap, ◌∙◌, arith, get_or, w32}
use Rattle.std.specs.Int.{cast_signed, cast_unsigned}
use Rattle.machine.specs.Texts.{compared_texts}
use Rattle.tiny_native.specs.Copies.{number_order}
use Rattle.tiny_native.proofs.Orders.{pick, compared_at, compared_last, pick_same, pick_differ, order_back}
use Rattle.tiny_native.proofs.strings.units_order.Goals as goal
use Rattle.tiny_native.proofs.strings.units_order.Goals.{then-x-y, else-x-y}

-- the first units settle the order of what is left
step : (xs ys : List ℕ) (k a b : ℕ) → k < length xs → k < length ys → a ≡ get_or xs k 0 → b ≡ get_or ys k 0 → compared_texts (drop k xs) (drop k ys) ≡ pick a b (compared_texts (drop (k + 1) xs) (drop (k + 1) ys))
step xs ys k a b hx hy ea eb =
    compared_at xs ys k hx hy
    ∙ ap (λ x. pick x (get_or ys k 0) (compared_texts (drop (k + 1) xs) (drop (k + 1) ys))) (sym ea)
    ∙ ap (λ y. pick a y (compared_texts (drop (k + 1) xs) (drop (k + 1) ys))) (sym eb)

pub returns-then-a-b : goal.returns-then-a-b
returns-then-a-b c m xs ys keeps hx hy cx cy =
    let k : ℕ = c.loop-k.k in
    let inner : k < c.if-x-y.least = c.loop-k-test.true in
    let in_x : c.if-x-y.least ≤ c.args.x.count = elim c.if-x-y.branch [ then-x-y w ↦ omega (arith, w.least-is) | else-x-y w ↦ omega (arith, w.least-is, w.if-x-y.false) ] in
    let in_y : c.if-x-y.least ≤ c.args.y.count = elim c.if-x-y.branch [ then-x-y w ↦ omega (arith, w.least-is, w.if-x-y.true) | else-x-y w ↦ omega (arith, w.least-is) ] in
    let lx : k < length xs = omega (arith, inner, in_x, cx) in
    let ly : k < length ys = omega (arith, inner, in_y, cy) in
    let at = step xs ys k c.unit-a.result c.unit-b.result lx ly (c.unit-a.ensures m xs keeps hx lx) (c.unit-b.ensures m ys keeps hy ly) in
    ap (λ z. cast_signed w32 (cast_unsigned w32 z)) c.order.ensures
    ∙ order_back c.unit-a.result c.unit-b.result
    ∙ sym (pick_differ c.unit-a.result c.unit-b.result (compared_texts (drop (k + 1) xs) (drop (k + 1) ys)) c.if-a-b.true)
    ∙ sym at
    ∙ c.loop-k.invariant m xs ys keeps hx hy cx cy

pub loop-k-preserved : goal.loop-k-preserved
loop-k-preserved c m xs ys keeps hx hy cx cy =
    let k : ℕ = c.loop-k.k in
    let inner : k < c.if-x-y.least = c.loop-k-test.true in
    let in_x : c.if-x-y.least ≤ c.args.x.count = elim c.if-x-y.branch [ then-x-y w ↦ omega (arith, w.least-is) | else-x-y w ↦ omega (arith, w.least-is, w.if-x-y.false) ] in
    let in_y : c.if-x-y.least ≤ c.args.y.count = elim c.if-x-y.branch [ then-x-y w ↦ omega (arith, w.least-is, w.if-x-y.true) | else-x-y w ↦ omega (arith, w.least-is) ] in
    let lx : k < length xs = omega (arith, inner, in_x, cx) in
    let ly : k < length ys = omega (arith, inner, in_y, cy) in
    let at = step xs ys k c.unit-a.result c.unit-b.result lx ly (c.unit-a.ensures m xs keeps hx lx) (c.unit-b.ensures m ys keeps hy ly) in
    sym (pick_same c.unit-a.result c.unit-b.result (compared_texts (drop (k + 1) xs) (drop (k + 1) ys)) c.if-a-b.false)
    ∙ sym at
    ∙ c.loop-k.invariant m xs ys keeps hx hy cx cy

pub returns : goal.returns
returns c m xs ys keeps hx hy cx cy =
    let n : ℕ = c.loop-k.k in
    let end : n ≡ c.if-x-y.least = omega (arith, c.loop-k-test.false, c.loop-k.auto.k-end) in
    let in_x : c.if-x-y.least ≤ c.args.x.count = elim c.if-x-y.branch [ then-x-y w ↦ omega (arith, w.least-is) | else-x-y w ↦ omega (arith, w.least-is, w.if-x-y.false) ] in
    let in_y : c.if-x-y.least ≤ c.args.y.count = elim c.if-x-y.branch [ then-x-y w ↦ omega (arith, w.least-is, w.if-x-y.true) | else-x-y w ↦ omega (arith, w.least-is) ] in
    let which : (n ≡ length xs) ⊎ (n ≡ length ys) = elim c.if-x-y.branch [ then-x-y w ↦ inl (omega (arith, end, cx, w.least-is)) | else-x-y w ↦ inr (omega (arith, end, cy, w.least-is)) ] in
    let last : compared_texts (drop n xs) (drop n ys) ≡ number_order (length xs) (length ys) = compared_last xs ys n (omega (arith, end, in_x, cx)) (omega (arith, end, in_y, cy)) which in
    let counts : number_order c.args.x.count c.args.y.count ≡ number_order (length xs) (length ys) = ap (λ x. number_order x c.args.y.count) cx ∙ ap (number_order (length xs)) cy in
    let done : number_order c.args.x.count c.args.y.count ≡ compared_texts xs ys = counts ∙ sym last ∙ c.loop-k.invariant m xs ys keeps hx hy cx cy in
    let called = c.order-2.ensures in
    ap (λ z. cast_signed w32 (cast_unsigned w32 z)) called ∙ order_back c.args.x.count c.args.y.count ∙ done
