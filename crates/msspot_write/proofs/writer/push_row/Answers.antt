use Rattle.std.proofs.Common.{◌≡◌, ◌+◌, ◌<◌, ◌≤◌, length, get_or, sym, ap, ◌∙◌, arith}
use Rattle.std.specs.List.{flat_map}
use Rattle.msspot_write.specs.Parts.{data_bytes}
use Rattle.msspot_write.proofs.StepLaws.{less_left, none_left, column_step, columns_done}
use Rattle.msspot_write.proofs.writer.push_row.Goals as goal

pub push_column-requires : goal.push_column-requires
push_column-requires c =
    let cols = c.args.row.now.columns in
    let slice : c.as_slice-column-items.result.now ≡ cols = c.as_slice-column-items.ensures in
    let i = c.loop-number.number in
    let x = c.column-item.result in
    let below : i < length cols = omega (arith, ap length slice) in
    let is : x ≡ get_or cols i x = cc (c.column-item.is, slice) in
    let most : c.args.at + length (flat_map data_bytes cols) ≤ 65535 = c.requires.room in
    record {
      strings = c.requires.strings;
      signatures = c.requires.signatures;
      code = c.requires.code;
      room = omega (arith, c.loop-number.invariant.room, less_left data_bytes cols i x below is, most);
    }

pub overflow_add-next : goal.overflow_add-next
overflow_add-next c =
    let cols = c.args.row.now.columns in
    let slice : c.as_slice-column-items.result.now ≡ cols = c.as_slice-column-items.ensures in
    let i = c.loop-number.number in
    let x = c.column-item.result in
    let below : i < length cols = omega (arith, ap length slice) in
    let is : x ≡ get_or cols i x = cc (c.column-item.is, slice) in
    let most : c.args.at + length (flat_map data_bytes cols) ≤ 65535 = c.requires.room in
    let fits : c.loop-number.next + c.data_len.result ≤ 65535 = omega (arith, c.data_len.ensures, c.loop-number.invariant.room, less_left data_bytes cols i x below is, most) in
    omega (arith, fits)

pub loop-number-preserved : goal.loop-number-preserved
loop-number-preserved c =
    let cols = c.args.row.now.columns in
    let slice : c.as_slice-column-items.result.now ≡ cols = c.as_slice-column-items.ensures in
    let i = c.loop-number.number in
    let x = c.column-item.result in
    let below : i < length cols = omega (arith, ap length slice) in
    let is : x ≡ get_or cols i x = cc (c.column-item.is, slice) in
    record {
      done =
          column_step c.args.pools.now c.args.code.start c.args.code.count i c.loop-number.next (c.loop-number.next + c.data_len.result) cols x c.loop-number.out.items c.push_column.new.out.items below is
          (ap (λ n. c.loop-number.next + n) c.data_len.ensures) c.in_ok-push_column.ensures
          ∙ c.loop-number.invariant.done;
      room = omega (arith, c.data_len.ensures, c.loop-number.invariant.room, less_left data_bytes cols i x below is);
    }

pub returns : goal.returns
returns c =
    let cols = c.args.row.now.columns in
    let slice : c.as_slice-column-items.result.now ≡ cols = c.as_slice-column-items.ensures in
    let i = c.loop-number.number in
    let past : length cols ≤ i = omega (arith, ap length slice) in
    let next : c.loop-number.next ≡ c.args.at + length (flat_map data_bytes cols) = omega (arith, c.loop-number.invariant.room, none_left data_bytes cols i past) in
    record {
      next = next;
      out = sym (columns_done c.args.pools.now c.args.code.start c.args.code.count i c.loop-number.next cols c.loop-number.out.items past) ∙ c.loop-number.invariant.done;
    }
