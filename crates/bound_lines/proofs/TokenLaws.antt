-- What the tokens of code name.
use Rattle.std.proofs.Common.{◌≡◌, ℕ, ◌-◌, ◌<◌, ◌≤◌, Bool, true, false, List, Option, refl, sym, ap, ◌∙◌, arith}
use Rattle.std.specs.Prelude.{nat_lt, if◌then◌else◌}
use Rattle.std.specs.Option.{option_map}
use Rattle.std.proofs.lemmas.Bool.{lt-ltb, le-ltb}
use Rattle.machine.specs.Data.{Id}
use Rattle.classes.specs.Classes.{Classes, ClassToken}
use Rattle.assemblies.specs.Rows.{Assembly, TypeToken, TypeDef, TypeRef, TypeSpec, Own, Reference}
use Rattle.assemblies.specs.Binding.{id_at, resolve, resolve_field, resolve_method, operand_type}
use Rattle.world_rows.specs.World.{size_of}
use Rattle.image_form.specs.Signatures.{type_token, member_token}
use Rattle.board_model.specs.Bound.{bound_classes, named}
use Rattle.class_table.specs.declared.rows.ClassTable.{ClassTable}
use Rattle.class_table.specs.Seen.{classes_seen, field_owner, method_owner}

module _ (ps : List Assembly) (f : ℕ) where
  -- ---- types

  spec_token : (w : ℕ) → 32768 ≤ w → type_token w ≡ TypeSpec (w - 32768)
  spec_token w high =
      ap (λ b. if b then TypeDef w else (if nat_lt w 32768 then TypeRef (w - 16384) else TypeSpec (w - 32768))) (le-ltb w 16384 (omega (arith, high)))
      ∙ ap (λ b. if b then TypeRef (w - 16384) else TypeSpec (w - 32768)) (le-ltb w 32768 high)

  no_spec : (w : ℕ) → w < 32768 → type_token w ≡ (if nat_lt w 16384 then TypeDef w else TypeRef (w - 16384))
  no_spec w low = ap (λ b. if nat_lt w 16384 then TypeDef w else (if b then TypeRef (w - 16384) else TypeSpec (w - 32768))) (lt-ltb w 32768 low)

  class_type : (t : Bool) (w : ℕ) → option_map ClassToken (resolve (size_of ps) ps f (if t then TypeDef w else TypeRef (w - 16384))) ≡ operand_type (size_of ps) ps f (if t then TypeDef w else TypeRef (w - 16384))
  class_type true w = refl
  class_type false w = refl

  pub token_class : (w : ℕ) → w < 32768 → option_map ClassToken (resolve (size_of ps) ps f (type_token w)) ≡ operand_type (size_of ps) ps f (type_token w)
  token_class w low =
      ap (λ (t : TypeToken). option_map ClassToken (resolve (size_of ps) ps f t)) (no_spec w low)
      ∙ class_type (nat_lt w 16384) w
      ∙ sym (ap (operand_type (size_of ps) ps f) (no_spec w low))

  pub token_spec : (w : ℕ) → 32768 ≤ w → operand_type (size_of ps) ps f (TypeSpec (w - 32768)) ≡ operand_type (size_of ps) ps f (type_token w)
  token_spec w high = sym (ap (operand_type (size_of ps) ps f) (spec_token w high))

  -- ---- members

  own_token : (w : ℕ) → w < 16384 → member_token w ≡ Own w
  own_token w low = ap (λ b. if b then Own w else Reference (w - 16384)) (lt-ltb w 16384 low)

  reference_token : (w : ℕ) → 16384 ≤ w → member_token w ≡ Reference (w - 16384)
  reference_token w high = ap (λ b. if b then Own w else Reference (w - 16384)) (le-ltb w 16384 high)

  pub own_field : (t : ClassTable) (w : ℕ) → classes_seen t ≡ bound_classes ps → w < 16384 → option_map (λ (owner : Id). id_at f w) (field_owner t (id_at f w)) ≡ resolve_field (size_of ps) ps f (member_token w)
  own_field t w same low = ap (λ (cs : Classes). option_map (λ (owner : Id). id_at f w) (cs.field_owner (id_at f w))) same ∙ sym (ap (resolve_field (size_of ps) ps f) (own_token w low))

  pub own_method : (t : ClassTable) (w : ℕ) → classes_seen t ≡ bound_classes ps → w < 16384 → option_map (λ (owner : Id). id_at f w) (method_owner t (id_at f w)) ≡ resolve_method (size_of ps) ps f (member_token w)
  own_method t w same low = ap (λ (cs : Classes). option_map (λ (owner : Id). id_at f w) (cs.method_owner (id_at f w))) same ∙ sym (ap (resolve_method (size_of ps) ps f) (own_token w low))

  pub referenced_field : (by : ℕ → ℕ → ℕ → Option Id) (file row w : ℕ) → by ≡ named ps → file ≡ f → row ≡ w - 16384 → 16384 ≤ w → by file 2 row ≡ resolve_field (size_of ps) ps f (member_token w)
  referenced_field by file row w same here at high =
      ap (λ g. g file 2 row) same ∙ ap (λ x. named ps x 2 row) here ∙ ap (named ps f 2) at ∙ sym (ap (resolve_field (size_of ps) ps f) (reference_token w high))

  pub referenced_method : (by : ℕ → ℕ → ℕ → Option Id) (file row w : ℕ) → by ≡ named ps → file ≡ f → row ≡ w - 16384 → 16384 ≤ w → by file 3 row ≡ resolve_method (size_of ps) ps f (member_token w)
  referenced_method by file row w same here at high =
      ap (λ g. g file 3 row) same ∙ ap (λ x. named ps x 3 row) here ∙ ap (named ps f 3) at ∙ sym (ap (resolve_method (size_of ps) ps f) (reference_token w high))
