use Rattle.std.proofs.Common.{◌∷◌, [], Some, ap, sym, map, ◌∙◌}
use Rattle.std.proofs.lemmas.List.{map-append}
use Rattle.std.proofs.lemmas.Option.{slice_get-get_or}
use Rattle.assemblies.specs.Binding.{all_some}
use Rattle.member_keys.specs.Seen.{place_seen}
use Rattle.member_reading.specs.Meant.{place_meant}
use Rattle.member_reading.proofs.SearchLaws.{one_more}
use Rattle.member_reading.proofs.SignatureLaws.{all_some_none, all_some_push}
use Rattle.member_reading.proofs.signature.read_places.Goals as goal

pub returns-in-None : goal.returns-in-None
returns-in-None c =
    sym (all_some_none (place_meant c.args.names.now c.args.file) c.args.parameters.now c.loop-parameter.parameter-index _ (slice_get-get_or c.args.parameters.now c.loop-parameter.parameter-index _ c.loop-parameter-test.true) (sym c.in-None.ensures))

pub loop-parameter-preserved : goal.loop-parameter-preserved
loop-parameter-preserved c =
    ap (all_some (place_meant c.args.names.now c.args.file)) (one_more c.args.parameters.now c.loop-parameter.parameter-index _ (slice_get-get_or c.args.parameters.now c.loop-parameter.parameter-index _ c.loop-parameter-test.true))
    ∙ all_some_push (place_meant c.args.names.now c.args.file) _ _ (map place_seen c.loop-parameter.places.items) (place_seen c.in-Some.place) c.loop-parameter.invariant (sym c.in-Some.ensures)
    ∙ ap Some (sym (ap (map place_seen) c.in_ok-push-in-Some.ensures.items ∙ map-append place_seen c.loop-parameter.places.items (c.in-Some.place ∷ [])))
