-- The links of one method.
use Rattle.std.proofs.Common.{◌≡◌, ℕ, ◌+◌, ◌-◌, ◌<◌, ◌≤◌, true, false, List, [], ◌∷◌, ◌++◌, take, Option, Some, None, refl, sym, ap, subst, ◌∙◌, arith}
use Rattle.std.specs.Prelude.{if◌then◌else◌, slice_get, unwrap_or}
use Rattle.std.specs.List.{flat_map}
use Rattle.std.specs.Option.{option_map}
use Rattle.std.proofs.lemmas.List.{append-nil}
use Rattle.machine.specs.Data.{Id}
use Rattle.machine.specs.Throw.{on_some}
use Rattle.classes.specs.Classes.{OwnMethod, Classes}
use Rattle.classes.specs.Queries.{superclass_of, methods_of, own_virtual, first_some, nearest, chain, chain_within, is_interface}
use Rattle.assemblies.specs.Binding.{id_at}
use Rattle.kept_rules.specs.Row.{Row}
use Rattle.kept_rules.specs.Rules.{type_at, method_at}
use Rattle.member_keys.specs.declared.keys.ClassId.{ClassId}
use Rattle.member_keys.specs.Seen.{class_seen}
use Rattle.class_table.specs.declared.rows.MethodRow.{MethodRow}
use Rattle.class_table.specs.declared.rows.FileRows.{FileRows}
use Rattle.class_table.specs.declared.rows.ClassTable.{ClassTable}
use Rattle.class_table.specs.Seen.{classes_seen, method_row}
use Rattle.class_targets.specs.Owned.{method_found}
use Rattle.class_slots.specs.declared.own.OwnRows.{OwnRows}
use Rattle.class_slots.specs.Own.{AreOwn}
use Rattle.class_slots.proofs.OwnLaws.{method_of}
use Rattle.row_rules.specs.declared.rules.RowPlace.{RowPlace}
use Rattle.row_rules.specs.declared.rules.RowRules.{RowRules}
use Rattle.row_rules.specs.Links.{row_at, Link, keeps, Adds}
use Rattle.row_rules.proofs.LinkLaws.{adds_after, adds_none}
use Rattle.slot_links.specs.Slots.{for_some, takes, filled_by, overrides, implements, links_of}
use Rattle.slot_links.proofs.Added.{one_added, all_added}

-- ---- of rows at places

pub takes_added : (c m u : Id) (pc pm pu : RowPlace) (a b d : RowRules) → row_at pc ≡ type_at c → row_at pm ≡ method_at m → row_at pu ≡ method_at u → Adds (record { first = row_at pc; second = row_at pu; then = row_at pm } ∷ []) a b → Adds (keeps (row_at pm) (row_at pu) ∷ []) b d → Adds (takes c m u) a d
takes_added c m u pc pm pu a b d ec em eu first second =
    let links : Row → Row → Row → List Link = λ x y z. record { first = x; second = z; then = y } ∷ keeps y z ∷ [] in
    let same : links (row_at pc) (row_at pm) (row_at pu) ≡ takes c m u =
    ap (λ x. links x (row_at pm) (row_at pu)) ec ∙ ap (λ y. links (type_at c) y (row_at pu)) em ∙ ap (links (type_at c) (method_at m)) eu in
    subst (λ ls. Adds ls a d) same (adds_after (record { first = row_at pc; second = row_at pu; then = row_at pm } ∷ []) (keeps (row_at pm) (row_at pu) ∷ []) a b d first second)

pub filled_is : (m b d : Id) (pm pb pd : RowPlace) → row_at pm ≡ method_at m → row_at pb ≡ method_at b → row_at pd ≡ type_at d → record { first = row_at pd; second = row_at pm; then = row_at pb } ∷ [] ≡ filled_by m b d
filled_is m b d pm pb pd em eb ed =
    let links : Row → Row → Row → List Link = λ x y z. record { first = z; second = x; then = y } ∷ [] in
    ap (λ x. links x (row_at pb) (row_at pd)) em ∙ ap (λ y. links (method_at m) y (row_at pd)) eb ∙ ap (links (method_at m) (method_at b)) ed

-- ---- of a method that is found

pub by_number : (links : Id → List Link) (o : Option OwnMethod) (found : Option ClassId) → option_map class_seen found ≡ option_map (λ (x : OwnMethod). x.id) o → for_some links (option_map class_seen found) ≡ for_some (λ (x : OwnMethod). links x.id) o
by_number links o found e = ap (for_some links) e ∙ go o
  where
    go : (o : Option OwnMethod) → for_some links (option_map (λ (x : OwnMethod). x.id) o) ≡ for_some (λ (x : OwnMethod). links x.id) o
    go None = refl
    go (Some x) = refl

pub none_owns : (t : ClassTable) (id : Id) → method_found t id ≡ None → (classes_seen t).method_owner id ≡ None
none_owns t id e = go (slice_get t.files.items id.file) e
  where
    go : (o : Option FileRows) → on_some o (λ (f : FileRows). slice_get f.methods.items id.row) ≡ None → on_some o (λ (f : FileRows). on_some (slice_get f.methods.items id.row) (λ (x : MethodRow). option_map (id_at id.file) x.owner)) ≡ None
    go None h = refl
    go (Some f) h = ap (λ o. on_some o (λ (x : MethodRow). option_map (id_at id.file) x.owner)) h

-- ---- the methods of a class

module _ (t : ClassTable) (c : Id) (r : OwnRows) (own : AreOwn t c r) (links : OwnMethod → List Link) (a b : RowRules) where
  abbrev ms : List OwnMethod
  ms = methods_of (classes_seen t) c

  pub none_before : (n : ℕ) → n ≡ r.start → Adds (flat_map links (take (n - n) ms)) a a
  none_before n e = let none : 0 ≡ n - n = omega arith in subst (λ k. Adds (flat_map links (take k ms)) a a) none (adds_none a)

  pub method_added : (d : RowRules) (n : ℕ) → r.start ≤ n → n < r.end → Adds (flat_map links (take (n - r.start) ms)) a b → ((m : OwnMethod) → method_row t (record { file = c.file; row = n }) ≡ Some m → Adds (links m) b d) → Adds (flat_map links (take ((n + 1) - r.start) ms)) a d
  method_added d n low high first second =
      let z = method_of t c r n own low high in
      let place : (n - r.start) + 1 ≡ (n + 1) - r.start = omega (arith, low) in
      subst (λ k. Adds (flat_map links (take k ms)) a d) place (one_added links ms a b d (n - r.start) z.method z.listed first (second z.method z.row))

  pub methods_added : (n : ℕ) → r.start ≤ n → r.end ≤ n → Adds (flat_map links (take (n - r.start) ms)) a b → Adds (flat_map links ms) a b
  methods_added n low past adds =
      let count = own.count in
      all_added links ms a b (n - r.start) (omega (arith, low, past, count)) adds

-- ---- above a class

module _ (cs : Classes) (m : OwnMethod) (c : Id) where
  pub none_above : superclass_of cs c ≡ None → nearest cs m c ≡ None
  none_above top = ap (λ (o : Option Id). first_some (own_virtual cs m) (unwrap_or (option_map (chain_within cs.size cs) o) [])) top

  pub found_above : (d : Id) → superclass_of cs c ≡ Some d → nearest cs m c ≡ first_some (own_virtual cs m) (chain cs d)
  found_above d up = ap (λ (o : Option Id). first_some (own_virtual cs m) (unwrap_or (option_map (chain_within cs.size cs) o) [])) up

-- ---- all that a class has

pub no_interfaces : (cs : Classes) (c : Id) (ds : List Id) (a b : RowRules) → is_interface cs c ≡ true → Adds (flat_map (overrides cs c) (methods_of cs c)) a b → Adds (links_of cs c ds) a b
no_interfaces cs c ds a b class adds =
    let own = flat_map (overrides cs c) (methods_of cs c) in
    subst (λ ls. Adds ls a b) (sym (append-nil own) ∙ sym (ap (λ b. own ++ (if b then [] else flat_map (implements cs c) ds)) class)) adds

pub with_interfaces : (cs : Classes) (c : Id) (ds : List Id) (a b d : RowRules) → is_interface cs c ≡ false → Adds (flat_map (overrides cs c) (methods_of cs c)) a b → Adds (flat_map (implements cs c) ds) b d → Adds (links_of cs c ds) a d
with_interfaces cs c ds a b d class first second =
    let own = flat_map (overrides cs c) (methods_of cs c) in
    subst (λ ls. Adds ls a d) (sym (ap (λ b. own ++ (if b then [] else flat_map (implements cs c) ds)) class)) (adds_after own (flat_map (implements cs c) ds) a b d first second)
