use Rattle.mf_convert.proofs.JudgedLaws.{accepted_are_judged, is_converted, marks_are_needed, opened_are_accepted}
use Rattle.mf_convert.proofs.set.convert.Goals as goal

pub needed-requires-clause-judged : goal.needed-requires-clause-judged
needed-requires-clause-judged c =
    let files = c.args.world.now in
    accepted_are_judged files (opened_are_accepted files c.requires.opened c.requires.accepted)

pub set_of-requires-clause-needed : goal.set_of-requires-clause-needed
set_of-requires-clause-needed c =
    let files = c.args.world.now in
    marks_are_needed files c.in_ok-kept.kept (opened_are_accepted files c.requires.opened c.requires.accepted) c.in_ok-kept.ensures.needed

pub returns : goal.returns
returns c =
    let files = c.args.world.now in
    is_converted files c.in_ok-kept.kept.marks c.set_of.result
    (marks_are_needed files c.in_ok-kept.kept (opened_are_accepted files c.requires.opened c.requires.accepted) c.in_ok-kept.ensures.needed)
    c.set_of.ensures
