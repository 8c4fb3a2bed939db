use Rattle.std.proofs.Common.{◌≡◌, ◌∙◌, sym, ap, Some, None}
use Rattle.std.specs.Prelude.{nat_le, slice_get, unwrap_or}
use Rattle.member_keys.specs.Seen.{class_seen}
use Rattle.class_queries.specs.Numbers.{number_of}
use Rattle.class_queries.proofs.EndLaws.{ends_told, endless_told}
use Rattle.class_queries.proofs.chains.ends.Goals as goal

pub returns-in-Some : goal.returns-in-Some
returns-in-Some c =
    λ way are.
    let hs = c.args.heights.now.of.items in
    let told : unwrap_or (slice_get hs (number_of c.args.table.now (class_seen c.args.class))) None ≡ Some c.in-Some.height =
    ap (λ n. unwrap_or (slice_get hs n) None) (sym c.number.ensures) ∙ ap (λ xs. unwrap_or (slice_get xs c.number.result) None) (sym c.deref.ensures.value) ∙ sym c.height_at.ensures ∙ c.in-Some.is in
    ap (λ h. nat_le h c.args.most) c.from.ensures ∙ ends_told c.args.table.now way hs are.size are.heights (class_seen c.args.class) c.args.most c.in-Some.height told

pub returns-in-None : goal.returns-in-None
returns-in-None c =
    λ way are.
    let hs = c.args.heights.now.of.items in
    let told : unwrap_or (slice_get hs (number_of c.args.table.now (class_seen c.args.class))) None ≡ None =
    ap (λ n. unwrap_or (slice_get hs n) None) (sym c.number.ensures) ∙ ap (λ xs. unwrap_or (slice_get xs c.number.result) None) (sym c.deref.ensures.value) ∙ sym c.height_at.ensures ∙ c.in-None.is in
    endless_told c.args.table.now way hs are.size are.heights (class_seen c.args.class) c.args.most told
