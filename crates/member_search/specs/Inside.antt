-- What an index holds.
use Rattle.std.specs.Prelude.{map}
use Rattle.member_search.specs.declared.index.MemberIndex.TheInside.{Inside}
use Rattle.member_search.specs.Index.{IsIndex}

pub record IsIndexed (i : Inside) : Type 0 where
  pub index : IsIndex i.sort i.table.now (map (λ places. places.items) i.files.items)
