use Rattle.std.proofs.Common.{◌≡◌, ◌+◌, ◌<◌, ◌≤◌, [], ◌++◌, drop, length, sym, ap, ◌∙◌, arith}
use Rattle.std.specs.List.{flat_map}
use Rattle.image_bytes.specs.Layout.{words_onto}
use Rattle.msspot_write.specs.Parts.{in_row, data_bytes, row_words}
use Rattle.msspot_write.specs.Written.{codes_of}
use Rattle.msspot_write.proofs.StepLaws.{less_left, less_code, none_left, row_step, rows_done}
use Rattle.msspot_write.proofs.writer.push_rows.Goals as goal

pub push_row-requires : goal.push_row-requires
push_row-requires c =
    let rows = c.args.rows.now in
    let i = c.loop-index.index in
    let r = c.index-rows-index.result in
    let below : i < length rows = omega arith in
    let most : c.args.at + length (flat_map (in_row data_bytes) rows) ≤ 65535 = c.requires.room in
    record {
      strings = c.requires.strings;
      signatures = c.requires.signatures;
      code = omega (arith, c.loop-index.invariant.code, less_code (codes_of c.args.codes.now) i, c.code_len-count.ensures);
      room = omega (arith, c.loop-index.invariant.room, less_left (in_row data_bytes) rows i r below c.index-rows-index.is, most);
    }

pub overflow_add-start : goal.overflow_add-start
overflow_add-start c =
    let fits : c.loop-index.start + c.code_len-count.result ≤ 65535 = omega (arith, c.loop-index.invariant.code, less_code (codes_of c.args.codes.now) c.loop-index.index, c.code_len-count.ensures) in
    omega (arith, fits)

pub loop-index-preserved : goal.loop-index-preserved
loop-index-preserved c =
    let rows = c.args.rows.now in
    let codes = codes_of c.args.codes.now in
    let ps = c.args.pools.now in
    let i = c.loop-index.index in
    let r = c.index-rows-index.result in
    let s = c.loop-index.start in
    let at = c.loop-index.next in
    let out = c.loop-index.out.items in
    let below : i < length rows = omega arith in
    record {
      done =
          row_step ps codes i s at (s + c.code_len-count.result) c.in_ok-next.next rows r out c.push_row.new.out.items below c.index-rows-index.is
          (ap (λ n. s + n) c.code_len-count.ensures)
          c.in_ok-next.ensures.next
          (c.in_ok-next.ensures.out ∙ ap (λ n. out ++ words_onto (row_words ps s n 0 at r.columns) []) c.code_len-count.ensures)
          ∙ c.loop-index.invariant.done;
      room = omega (arith, c.in_ok-next.ensures.next, c.loop-index.invariant.room, less_left (in_row data_bytes) rows i r below c.index-rows-index.is);
      code = omega (arith, c.loop-index.invariant.code, less_code codes i, c.code_len-count.ensures);
    }

pub returns : goal.returns
returns c =
    let rows = c.args.rows.now in
    let i = c.loop-index.index in
    let past : length rows ≤ i = omega arith in
    let next : c.loop-index.next ≡ c.args.at + length (flat_map (in_row data_bytes) rows) = omega (arith, c.loop-index.invariant.room, none_left (in_row data_bytes) rows i past) in
    record {
      next = next;
      out = sym (rows_done c.args.pools.now (drop i (codes_of c.args.codes.now)) i c.loop-index.start c.loop-index.next rows c.loop-index.out.items past) ∙ c.loop-index.invariant.done;
    }
