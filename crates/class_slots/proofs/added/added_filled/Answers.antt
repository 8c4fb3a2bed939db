use Rattle.std.proofs.Common.{◌≡◌, ◌∙◌, ◌||◌, ◌&&◌, true, false, sym, ap}
use Rattle.std.proofs.lemmas.Result.{IfOk-weaker}
use Rattle.class_rules.specs.Facts.{is_reference_class}
use Rattle.class_slots.specs.Added.{adds_filled}
use Rattle.member_keys.specs.Seen.{class_seen}
use Rattle.class_table.specs.Seen.{classes_seen}
use Rattle.class_slots.proofs.SlotLaws.{none_needed, needed}
use Rattle.class_slots.proofs.added.added_filled.Goals as goal

pub returns-then-needs_none : goal.returns-then-needs_none
returns-then-needs_none c =
    λ file f.
    let cs = classes_seen c.args.methods.now.table in
    let at = class_seen c.args.class in
    let r = c.args.row.now in
    let none : r.is_interface || (r.is_abstract && is_reference_class cs at) ≡ true = ap (λ t. r.is_interface || (r.is_abstract && is_reference_class (classes_seen t) at)) (sym c.table.ensures) ∙ sym c.needs_none.ensures ∙ c.if-needs_none.true in
    sym (none_needed r.is_interface (r.is_abstract && is_reference_class cs at) (adds_filled cs at) none)

pub returns-else-needs_none : goal.returns-else-needs_none
returns-else-needs_none c =
    let cs = classes_seen c.args.methods.now.table in
    let at = class_seen c.args.class in
    let r = c.args.row.now in
    let some : r.is_interface || (r.is_abstract && is_reference_class cs at) ≡ false = ap (λ t. r.is_interface || (r.is_abstract && is_reference_class (classes_seen t) at)) (sym c.table.ensures) ∙ sym c.needs_none.ensures ∙ c.if-needs_none.false in
    IfOk-weaker c.adds_filled.result _ _ (λ b is file f. is ∙ sym (needed r.is_interface (r.is_abstract && is_reference_class cs at) (adds_filled cs at) some)) c.adds_filled.ensures
