use Rattle.std.proofs.Common.{◌≡◌, ◌+◌, ◌<◌, ◌≤◌, List, [], ◌++◌, drop, get_or, length, subst, sym, ap, ◌∙◌, arith}
use Rattle.image_bytes.specs.Layout.{table_onto}
use Rattle.msspot_write.specs.declared.parts.PartRow.{PartRow}
use Rattle.msspot_write.specs.Parts.{rows_of, tables, in_rows, in_tables, data_bytes, table_words}
use Rattle.msspot_write.specs.Written.{codes_of}
use Rattle.msspot_write.proofs.StepLaws.{less_left, same_default, fits_here, room_next, table_step, tables_done}
use Rattle.msspot_write.proofs.writer.push_tables.Goals as goal

pub push_rows-requires : goal.push_rows-requires
push_rows-requires c =
    let p = c.args.parts.now in
    let i = c.loop-table.table-index in
    let at = c.loop-table.at in
    let t = get_or tables i 0 in
    let below : i < length tables = omega arith in
    let here = length (in_rows data_bytes (rows_of p t)) in
    let rest = length (in_tables data_bytes p (drop (i + 1) tables)) in
    let all = length (in_tables data_bytes p tables) in
    let split : at + (here + rest) ≡ all = ap (λ n. at + n) (sym (less_left (λ u. in_rows data_bytes (rows_of p u)) tables i t below (same_default tables i 0 t below))) ∙ c.loop-table.invariant.room in
    record {
      strings = c.requires.strings;
      signatures = c.requires.signatures;
      codes = c.requires.codes;
      room = subst (λ (rs : List PartRow). at + length (in_rows data_bytes rs) ≤ 65535) (sym c.rows.ensures) (fits_here at here rest all split c.requires.room);
    }

pub loop-table-preserved : goal.loop-table-preserved
loop-table-preserved c =
    let p = c.args.parts.now in
    let ps = c.args.pools.now in
    let codes = codes_of c.args.codes.now in
    let i = c.loop-table.table-index in
    let at = c.loop-table.at in
    let out = c.loop-table.out.items in
    let t = get_or tables i 0 in
    let below : i < length tables = omega arith in
    let is = same_default tables i 0 t below in
    let here = length (in_rows data_bytes (rows_of p t)) in
    let rest = length (in_tables data_bytes p (drop (i + 1) tables)) in
    let all = length (in_tables data_bytes p tables) in
    let split : at + (here + rest) ≡ all = ap (λ n. at + n) (sym (less_left (λ u. in_rows data_bytes (rows_of p u)) tables i t below is)) ∙ c.loop-table.invariant.room in
    let moved : c.in_ok-at.at ≡ at + here = c.in_ok-at.ensures.next ∙ ap (λ (rs : List PartRow). at + length (in_rows data_bytes rs)) c.rows.ensures in
    record {
      done =
          table_step ps p codes i at c.in_ok-at.at tables t out c.push_rows.new.out.items below is moved
          (c.in_ok-at.ensures.out ∙ ap (λ (rs : List PartRow). out ++ table_onto (table_words ps codes 0 at rs) []) c.rows.ensures)
          ∙ c.loop-table.invariant.done;
      room = room_next c.in_ok-at.at at here rest all moved split;
    }

pub returns : goal.returns
returns c =
    let past : length tables ≤ c.loop-table.table-index = omega arith in
    sym (tables_done c.args.pools.now c.args.parts.now (codes_of c.args.codes.now) c.loop-table.table-index c.loop-table.at tables c.loop-table.out.items past) ∙ c.loop-table.invariant.done
