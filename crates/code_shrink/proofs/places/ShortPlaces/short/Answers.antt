use Rattle.std.proofs.Common.{◌≡◌, ◌+◌, suc, length, ap, arith}
use Rattle.std.specs.Prelude.{get_or}
use Rattle.std.proofs.lemmas.Option.{slice_get-get_or}
use Rattle.code_shrink.specs.declared.starts.Start.{Start}
use Rattle.code_shrink.specs.Starts.{way}
use Rattle.code_shrink.proofs.Ways.{way_within, way_last}
use Rattle.code_shrink.proofs.places.ShortPlaces.short.Goals as goal

pub returns-then-last-starts : goal.returns-then-last-starts
returns-then-last-starts c =
    let starts = c.as_slice-starts.result.now in
    let last = c.last_up_to-last.result in
    let d : Start = record { long = 0; short = 0 } in
    let same : starts ≡ c.args.self.now = cc (c.as_slice-starts.ensures.value, c.self.view_is) in
    let all : suc last ≡ length starts = omega (arith, c.if-last-starts.true) in
    let is = way_last starts c.args.at last (get_or starts last d) (slice_get-get_or starts last d c.last_up_to-last.ensures.inside) c.last_up_to-last.ensures.before all in
    omega (arith, is, ap (λ l. way l c.args.at) same, c.saturating_sub.ensures)

pub returns-else-last-starts : goal.returns-else-last-starts
returns-else-last-starts c =
    let starts = c.as_slice-starts.result.now in
    let last = c.last_up_to-last.result in
    let d : Start = record { long = 0; short = 0 } in
    let same : starts ≡ c.args.self.now = cc (c.as_slice-starts.ensures.value, c.self.view_is) in
    let is = way_within starts c.args.at last (get_or starts last d) (slice_get-get_or starts last d c.last_up_to-last.ensures.inside) c.last_up_to-last.ensures.before c.last_up_to-last.ensures.behind (omega (arith, c.if-last-starts.false, c.last_up_to-last.ensures.inside)) in
    omega (arith, is, ap (λ l. way l c.args.at) same)
