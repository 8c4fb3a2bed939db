use Rattle.std.proofs.Common.{◌≡◌, sym, ap, ◌∙◌}
use Rattle.std.specs.BTreeMap.{get}
use Rattle.assemblies.specs.Binding.{range}
use Rattle.member_keys.specs.Seen.{member_order}
use Rattle.member_search.specs.Shown.{members_in, first_in, own_members}
use Rattle.member_search.proofs.SearchLaws.{own_found}
use Rattle.member_search.proofs.index.class_places.Goals as goal

pub returns-then-span-le-FEW : goal.returns-then-span-le-FEW
returns-then-span-le-FEW c = record { first = c.span_of-span.ensures.first; finds = λ places e. absurd (cc e) }

pub returns : goal.returns
returns c =
    let ms = members_in c.args.sort c.args.file.now in
    let class = c.args.class.now in
    let keys =
    c.in_ok-keys.ensures.keys
    ∙ ap (λ k. range k c.span_of-span.result.count ms) c.span_of-span.ensures.first
    ∙ ap (λ k. range (first_in c.args.sort class) k ms) c.span_of-span.ensures.count in
    record {
      first = c.span_of-span.ensures.first;
      finds =
          λ places e wanted s spelt.
          let same : c.in_ok-places.places ≡ places = cc e in
          ap (λ m. get member_order m wanted) (sym same)
          ∙ c.in_ok-places.ensures wanted s spelt
          ∙ own_found c.in_ok-keys.keys.items (own_members c.args.sort c.args.file.now class) wanted s keys spelt;
    }
