use Rattle.std.proofs.Common.{◌≡◌, ◌<◌, ◌≤◌, length, map, sym, ap, ◌∙◌, arith}
use Rattle.classes.specs.Queries.{elements}
use Rattle.world_rows.specs.World.{rows_alone}
use Rattle.member_keys.specs.Seen.{class_seen}
use Rattle.class_reading.specs.Base.{basic_seen, basic_of}
use Rattle.class_reading.proofs.BaseLaws.{found_here, found_nowhere}
use Rattle.class_reading.proofs.kinds.Kinds.find_element.Goals as goal

pub returns-then-same : goal.returns-then-same
returns-then-same c =
    let basics = c.deref-basic-items.result.now in
    let known : map basic_seen basics ≡ map (basic_of (rows_alone c.args.self.now)) elements = ap (map basic_seen) c.deref-basic-items.ensures.value ∙ c.self.invariant.basics ∙ ap (λ fs. map (basic_of (rows_alone fs)) elements) c.self.view_is in
    let within : c.loop-basic.basic-index < length basics = omega arith in
    found_here (rows_alone c.args.self.now) (class_seen c.args.class) basics c.loop-basic.basic-index known c.loop-basic.invariant _ within (sym c.same.ensures ∙ c.if-same.true)

pub returns : goal.returns
returns c =
    let basics = c.deref-basic-items.result.now in
    let known : map basic_seen basics ≡ map (basic_of (rows_alone c.args.self.now)) elements = ap (map basic_seen) c.deref-basic-items.ensures.value ∙ c.self.invariant.basics ∙ ap (λ fs. map (basic_of (rows_alone fs)) elements) c.self.view_is in
    let past : length basics ≤ c.loop-basic.basic-index = omega arith in
    found_nowhere (rows_alone c.args.self.now) (class_seen c.args.class) basics c.loop-basic.basic-index known c.loop-basic.invariant past
