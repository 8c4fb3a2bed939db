-- Headers that were written are read back.
use Rattle.std.proofs.Common.{◌≡◌, ℕ, ◌+◌, ◌*◌, ◌/◌, ◌%◌, ◌^◌, ◌<◌, ◌==◌, refl, ap, ◌∙◌, arith}
use Rattle.std.specs.Prelude.{if◌then◌else◌}
use Rattle.plain_types.specs.declared.elem.Elem.{Elem}
use Rattle.plain_types.specs.declared.elem.Elem.TheVariants.{Void, Bool, Char, I1, U1, I2, U2, I4, U4, I8, U8, String, Object, Class, Value}
use Rattle.board_types.specs.declared.value.Shape.{Shape}
use Rattle.machine.specs.Data.{elem_number}
use Rattle.ram_words.specs.Cells.{elem_named, row_number}
use Rattle.ram_words.specs.Headers.{headed, static_shape}

elem_back : (e : Elem) → elem_named (elem_number e) ≡ e
elem_back Void = refl
elem_back Bool = refl
elem_back Char = refl
elem_back I1 = refl
elem_back U1 = refl
elem_back I2 = refl
elem_back U2 = refl
elem_back I4 = refl
elem_back U4 = refl
elem_back I8 = refl
elem_back U8 = refl
elem_back String = refl
elem_back Object = refl
elem_back Class = refl
elem_back Value = refl

pub shape_back :
    (s : Shape) (elem first second third : ℕ)
    → s.what < 8 → s.of.ranks < 2 ^ 16 → s.of.of.assembly < 2 ^ 16
    → elem ≡ elem_number s.of.elem
    → first ≡ s.of.ranks + 2 ^ 24 * s.what + 2 ^ 28 * elem
    → second ≡ row_number s.of.of
    → third ≡ s.count
    → headed first second third ≡ (if s.what == 5 then static_shape else s)
shape_back s elem first second third w r a e ef es et =
    let what : first / 2 ^ 24 % 8 ≡ s.what = omega (arith, ef, w, r) in
    let ranks : first % 2 ^ 16 ≡ s.of.ranks = omega (arith, ef, r) in
    let named : elem_named (first / 2 ^ 28) ≡ s.of.elem =
    let n : first / 2 ^ 28 ≡ elem = omega (arith, ef, w, r) in
    ap elem_named (n ∙ e) ∙ elem_back s.of.elem in
    let assembly : second % 2 ^ 16 ≡ s.of.of.assembly = omega (arith, es, a) in
    let row : second / 2 ^ 16 ≡ s.of.of.row = omega (arith, es, a) in
    rw (what, ranks, named, assembly, row, et) refl
