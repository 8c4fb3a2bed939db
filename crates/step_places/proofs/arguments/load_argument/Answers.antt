use Rattle.std.proofs.Common.{◌∷◌, Option, sym, ap, subst}
use Rattle.machine.specs.Data.{Value}
use Rattle.machine.specs.Throw.{on_some, goes}
use Rattle.kept_values.specs.Keeping.{kind_seen}
use Rattle.step_ends.specs.Ends.{Ends}
use Rattle.step_ends.proofs.Going.{top_of}
use Rattle.step_places.proofs.ArgumentActs.{argument_there, no_argument, argument_below, argument_value}
use Rattle.step_places.proofs.arguments.load_argument.Goals as goal

pub returns-in_default : goal.returns-in_default
returns-in_default c =
    λ p outer m s f fs g gs of b is e.
    let top = top_of p outer m s f fs g gs b.ram_frames b.frames b.alike in
    ap (λ (o : Option Value). on_some o (λ v. goes p s g gs c.args.next (v ∷ g.stack))) (no_argument p outer m s f fs g gs top.frame c.args.n of is c.args.place e c.in_default.is)

pub returns : goal.returns
returns c =
    λ p outer m s f fs g gs of b is e.
    let top = top_of p outer m s f fs g gs b.ram_frames b.frames b.alike in
    let k = top.frame in
    let kind = c.in-Some.kind in
    let there = argument_there p outer m s f fs g gs k c.args.n of is c.args.place e kind c.in-Some.is in
    let unput = c.unput_elem.ensures there.type m.room (f ∷ fs) there.kind_is in
    let below = argument_below p outer m s f fs g gs k c.args.n (kind_seen kind) there in
    let seen = c.value_at-value.ensures m f fs b.keeps b.ram_frames below in
    let value = argument_value p outer m s f fs g gs k c.args.n (kind_seen kind) there c.unput_elem.result c.value_at-value.result unput seen in
    let pushed = c.push_on.ensures p outer m s f fs g gs there.value b value in
    subst (λ (o : Option Value). Ends p outer m s c.push_on.new.ram (on_some o (λ v. goes p s g gs c.args.next (v ∷ g.stack))) c.push_on.result) (sym there.there) pushed
