-- Types of the world with rows from 0: what they are inside the brackets, and what their places hold.
use Rattle.std.proofs.Common.{◌≡◌, ℕ, zero, suc, ◌+◌, ◌-◌, ◌<◌, false, refl, sym, ap, ◌∙◌, arith}
use Rattle.ecma_types.specs.declared.id.TypeId.{TypeId}
use Rattle.ecma_types.specs.declared.stack.PlaceType.{PlaceType as WorldPlace}
use Rattle.machine.specs.Data.{CliType, Basic, EnumOf, ClassOf, ValueOf, ArrayOf, cell_of, type_eq}
use Rattle.place_types.specs.Types.{arrays, base_type, id_down, id_of, type_down}
use Rattle.class_order.specs.declared.types.BaseType.{BaseType}
use Rattle.class_order.specs.declared.types.BaseType.TheVariants as base
use Rattle.class_order.specs.Types.{base_seen}
use Rattle.cil_types.specs.Rows.{base_in, type_in}

pub row_missing : (t : TypeId) → t.row ≡ 0 → id_down (id_of t) ≡ record { file = t.file + 65536; row = 0 }
row_missing t e = ap (λ r. id_down (record { file = t.file; row = r })) e

pub row_there : (t : TypeId) → 0 < t.row → id_down (id_of t) ≡ record { file = t.file; row = t.row - 1 }
row_there t low = let e : t.row ≡ suc (t.row - 1) = omega arith in ap (λ r. id_down (record { file = t.file; row = r })) e

pub cell_down : (x : CliType) → cell_of (type_down x) ≡ cell_of x
cell_down (Basic e) = refl
cell_down (EnumOf e c) = refl
cell_down (ClassOf c) = refl
cell_down (ValueOf c) = refl
cell_down (ArrayOf x) = refl

arrays_down : (n : ℕ) (x : CliType) → type_down (arrays n x) ≡ arrays n (type_down x)
arrays_down zero x = refl
arrays_down (suc n) x = ap ArrayOf (arrays_down n x)

pub place_in : (t : WorldPlace) (b : BaseType) → base_seen b ≡ base_in t → type_in t ≡ arrays t.ranks (base_seen b)
place_in t b e = arrays_down t.ranks (base_type t.elem t.of) ∙ ap (arrays t.ranks) (sym e)

-- ---- types by their brackets

pub no_array : (b : BaseType) (x : CliType) → type_eq (base_seen b) (ArrayOf x) ≡ false
no_array (base.Basic e) x = refl
no_array (base.EnumOf e c) x = refl
no_array (base.ClassOf c) x = refl
no_array (base.ValueOf c) x = refl

pub array_no : (b : BaseType) (x : CliType) → type_eq (ArrayOf x) (base_seen b) ≡ false
array_no (base.Basic e) x = refl
array_no (base.EnumOf e c) x = refl
array_no (base.ClassOf c) x = refl
array_no (base.ValueOf c) x = refl

apart_by : (m n : ℕ) (a b : BaseType) → (m ≡ n → ⊥) → type_eq (arrays m (base_seen a)) (arrays n (base_seen b)) ≡ false
apart_by zero zero a b h = absurd (h refl)
apart_by zero (suc n) a b h = no_array a (arrays n (base_seen b))
apart_by (suc m) zero a b h = array_no b (arrays m (base_seen a))
apart_by (suc m) (suc n) a b h = apart_by m n a b (λ e. h (ap suc e))

alike_by : (n : ℕ) (a b : CliType) → type_eq (arrays n a) (arrays n b) ≡ type_eq a b
alike_by zero a b = refl
alike_by (suc n) a b = alike_by n a b

pub ranks_apart : (s t : WorldPlace) (a b : BaseType) → base_seen a ≡ base_in s → base_seen b ≡ base_in t → (s.ranks ≡ t.ranks → ⊥) → type_eq (type_in s) (type_in t) ≡ false
ranks_apart s t a b e f h = ap (λ x. type_eq x (type_in t)) (place_in s a e) ∙ ap (type_eq (arrays s.ranks (base_seen a))) (place_in t b f) ∙ apart_by s.ranks t.ranks a b h

pub ranks_alike : (s t : WorldPlace) (a b : BaseType) → base_seen a ≡ base_in s → base_seen b ≡ base_in t → s.ranks ≡ t.ranks → type_eq (type_in s) (type_in t) ≡ type_eq (base_seen a) (base_seen b)
ranks_alike s t a b e f h =
    ap (λ x. type_eq x (type_in t)) (place_in s a e)
    ∙ ap (type_eq (arrays s.ranks (base_seen a))) (place_in t b f)
    ∙ ap (λ n. type_eq (arrays n (base_seen a)) (arrays t.ranks (base_seen b))) h
    ∙ alike_by t.ranks (base_seen a) (base_seen b)
