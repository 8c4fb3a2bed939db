use Rattle.std.proofs.Common.{ap, sym, ◌∙◌}
use Rattle.std.specs.Option.{option_copied, option_map}
use Rattle.assemblies.specs.Binding.{id_at}
use Rattle.member_search.specs.declared.sort.Sort.TheVariants.{Method}
use Rattle.member_search.specs.Shown.{Indexed, key_shown, own_member}
use Rattle.verdict_rules.specs.World.{world_of}
use Rattle.verdict_rules.specs.Members.{of_member, is_method_apart}
use Rattle.member_tests.specs.Rows.{is_not_before}
use Rattle.member_tests.proofs.MethodLaws.{method_is_apart, method_missing}
use Rattle.member_tests.proofs.method.method_apart.Goals as goal

pub returns-in_ok-key-in-Some : goal.returns-in_ok-key-in-Some
returns-in_ok-key-in-Some c =
    λ x here.
    c.is_first.ensures
    ∙ ap (λ (i : Indexed). of_member (option_map (id_at c.args.file) c.in-Some.method.now.owner) (λ d. is_not_before c.args.n (own_member i.sort i.table (key_shown c.in_ok-key-in-Some.key) d))) c.requires.index
    ∙ ap (λ s. of_member (option_map (id_at c.args.file) c.in-Some.method.now.owner) (λ d. is_not_before c.args.n (own_member Method c.args.subject.now.setting.table.now s d))) c.in_ok-key-in-Some.ensures
    ∙ method_is_apart c.args.subject.now.world.now c.args.subject.now.setting.table.now c.requires.subject.table c.args.file c.args.n c.in-Some.method.now (sym c.find_method.ensures ∙ ap option_copied c.in-Some.is) x

pub returns-in-None : goal.returns-in-None
returns-in-None c =
    λ x here.
    method_missing c.args.subject.now.world.now c.args.subject.now.setting.table.now c.requires.subject.table c.args.file c.args.n (is_method_apart (world_of c.args.subject.now.world.now) x)
    (sym c.find_method.ensures ∙ ap option_copied c.in-None.is)
