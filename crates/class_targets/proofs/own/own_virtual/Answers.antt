use Rattle.std.proofs.Common.{◌∙◌, Some, None, sym, ap, cond}
use Rattle.std.specs.Option.{option_map}
use Rattle.member_keys.specs.Seen.{class_seen}
use Rattle.class_table.specs.Seen.{method_seen}
use Rattle.member_search.specs.Shown.{key_shown, own_member}
use Rattle.class_targets.specs.Owned.{method_found}
use Rattle.class_targets.specs.Virtual.{slot_seen, slot_of}
use Rattle.class_targets.proofs.OwnLaws.{no_own, row_there, some_own}
use Rattle.class_targets.proofs.own.own_virtual.Goals as goal

pub returns-in_err-method : goal.returns-in_err-method
returns-in_err-method c =
    λ m is.
    let t = c.args.methods.now.table in
    let at = class_seen c.args.class in
    let gone = ap (λ s. own_member s t (key_shown c.args.key.now) at) (sym c.requires.sort) ∙ sym c.in_err-method.ensures in
    ap (option_map slot_seen) c.from_residual.ensures ∙ sym (ap (option_map slot_of) (no_own t c.requires.apart m at c.args.key.now is gone))

pub returns-in_err-row : goal.returns-in_err-row
returns-in_err-row c =
    λ m is.
    let t = c.args.methods.now.table in
    let at = class_seen c.args.class in
    let id = class_seen c.in_ok-method.method in
    let there = ap (λ s. own_member s t (key_shown c.args.key.now) at) (sym c.requires.sort) ∙ sym c.in_ok-method.ensures in
    absurd (row_there t c.requires.apart m at c.args.key.now is id there (ap (λ x. method_found x id) (sym c.table.ensures) ∙ sym c.in_err-row.ensures))

pub returns-then-row : goal.returns-then-row
returns-then-row c =
    λ m is.
    let t = c.args.methods.now.table in
    let at = class_seen c.args.class in
    let id = class_seen c.in_ok-method.method in
    let row = c.in_ok-row.row.now in
    let there = ap (λ s. own_member s t (key_shown c.args.key.now) at) (sym c.requires.sort) ∙ sym c.in_ok-method.ensures in
    let here = ap (λ x. method_found x id) (sym c.table.ensures) ∙ sym c.in_ok-row.ensures in
    sym (ap (option_map slot_of) (some_own t c.requires.apart m at c.args.key.now is id row there here ∙ ap (λ b. cond b (Some (method_seen id.file id.row row)) None) c.if-row.true))

pub returns-else-row : goal.returns-else-row
returns-else-row c =
    λ m is.
    let t = c.args.methods.now.table in
    let at = class_seen c.args.class in
    let id = class_seen c.in_ok-method.method in
    let row = c.in_ok-row.row.now in
    let there = ap (λ s. own_member s t (key_shown c.args.key.now) at) (sym c.requires.sort) ∙ sym c.in_ok-method.ensures in
    let here = ap (λ x. method_found x id) (sym c.table.ensures) ∙ sym c.in_ok-row.ensures in
    sym (ap (option_map slot_of) (some_own t c.requires.apart m at c.args.key.now is id row there here ∙ ap (λ b. cond b (Some (method_seen id.file id.row row)) None) c.if-row.false))
