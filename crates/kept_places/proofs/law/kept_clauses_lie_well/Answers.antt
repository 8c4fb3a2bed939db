use Rattle.rows_resolved.proofs.Accepted.{bodies}
use Rattle.kept_places.proofs.ClauseLaws.{clauses_spell, clauses_lie_well}
use Rattle.kept_places.proofs.law.kept_clauses_lie_well.Goals as goal

pub returns : goal.returns
returns c =
    record {
      spell = λ files marks f n x row b accepted there has names at kept is.
          let named = c.accepted_codes_name_kept_rows.ensures files marks f x accepted there has names n row b at kept is in
          clauses_spell files f n x b (bodies files accepted f n x row b there at is) named.bytes named.sound.whole;
      nest = λ files marks f n x row b accepted there has names at kept is.
          let named = c.accepted_codes_name_kept_rows.ensures files marks f x accepted there has names n row b at kept is in
          clauses_lie_well files f n x b (bodies files accepted f n x row b there at is) named.bytes named.sound.whole;
    }
