-- The regions of a clause as the rules of clauses see them.
use Rattle.std.specs.Prelude.{Bool, ◌&&◌}
use Rattle.classes.specs.Code.{CodeClause, Finally}
use Rattle.classes.specs.Clauses as lie
use Rattle.clause_regions.specs.declared.Region.{Region}
use Rattle.clause_regions.specs.declared.Regions.{Regions}

abbrev pub region_of : Region → lie.Region
region_of r = record { from = r.from; to = r.to }

abbrev pub code_clause : Regions → CodeClause
code_clause c = record { kind = Finally; try_start = c.attempt.from; try_end = c.attempt.to; start = c.handler.from; end = c.handler.to }

abbrev pub four_nest : CodeClause → CodeClause → Bool
four_nest b c =
    lie.nest (lie.try_of b) (lie.try_of c) && lie.nest (lie.try_of b) (lie.handler_of c) && lie.nest (lie.handler_of b) (lie.try_of c) && lie.nest (lie.handler_of b) (lie.handler_of c)

abbrev pub four_keep : CodeClause → CodeClause → Bool
four_keep b c =
    lie.try_keeps_whole (lie.try_of b) c && lie.keeps_whole (lie.handler_of b) c && lie.try_keeps_whole (lie.try_of c) b && lie.keeps_whole (lie.handler_of c) b
