use Rattle.std.proofs.Common.{◌∷◌, [], false, Some, ap, sym, map, ◌∙◌}
use Rattle.std.specs.Option.{option_map}
use Rattle.std.proofs.lemmas.List.{map-append}
use Rattle.std.proofs.lemmas.Option.{slice_get-get_or}
use Rattle.classes.specs.Classes.{Direct}
use Rattle.member_keys.specs.Seen.{type_seen, place_seen}
use Rattle.member_reading.specs.Natives.{knows, type_shown, place_of_native}
use Rattle.member_reading.proofs.SignatureLaws.{all_some_none, next_wrapped}
use Rattle.member_reading.proofs.native.native_places.Goals as goal

pub returns-in-None : goal.returns-in-None
returns-in-None c =
    sym (all_some_none (place_of_native (knows c.args.known)) c.args.parameters.now c.loop-parameter.parameter-index _ (slice_get-get_or c.args.parameters.now c.loop-parameter.parameter-index _ c.loop-parameter-test.true) (ap (option_map Direct) (sym c.in-None.ensures)))

pub loop-parameter-preserved : goal.loop-parameter-preserved
loop-parameter-preserved c =
    next_wrapped (type_shown (knows c.args.known)) Direct c.args.parameters.now c.loop-parameter.parameter-index _ (map place_seen c.loop-parameter.places.items) (type_seen c.in-Some.of) c.loop-parameter-test.true c.loop-parameter.invariant c.in-Some.ensures
    ∙ ap Some (sym (ap (map place_seen) c.in_ok-push-in-Some.ensures.items ∙ map-append place_seen c.loop-parameter.places.items (record { by_ref = false; of = c.in-Some.of } ∷ [])))
