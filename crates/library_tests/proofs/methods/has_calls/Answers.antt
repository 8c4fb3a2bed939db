use Rattle.std.proofs.Common.{◌<◌, ◌≤◌, length, get_or, false, ap, ◌∙◌, arith}
use Rattle.file_tables.specs.Metadata.{rows_of, row_count}
use Rattle.assemblies.specs.Binding.{numbered}
use Rattle.cil_rows.specs.declared.rows.MethodDefRow.{MethodDefRow}
use Rattle.world_rows.specs.Tokens.{methods}
use Rattle.std.proofs.lemmas.Option.{slice_get-get_or}
use Rattle.library_tests.specs.Methods.{call_well}
use Rattle.library_tests.proofs.ListLaws.{all_more, not_all, all_passed}
use Rattle.library_tests.proofs.MethodLaws.{call_is, walk_long}
use Rattle.library_tests.proofs.methods.has_calls.Goals as goal

pub loop-n-preserved : goal.loop-n-preserved
loop-n-preserved c =
    let m = c.args.tables.now in
    let rows = c.args.rows.now in
    let within : c.loop-n.n < row_count m methods = omega arith in
    let inside : c.loop-n.n < length rows = omega (arith, within, c.requires) in
    let long : c.loop-n.n < length (numbered (call_well rows) 0 (rows_of m methods)) = omega (arith, within, walk_long rows m) in
    let well = call_is rows m c.loop-n.n c.read_row-row.result.impl_flags (get_or rows c.loop-n.n c.index-rows-n.result) c.calls_native.result within (ap (λ (r : MethodDefRow). r.impl_flags) c.read_row-row.ensures) (slice_get-get_or rows c.loop-n.n c.index-rows-n.result inside) c.calls_native.ensures in
    all_more (λ well. well) (numbered (call_well rows) 0 (rows_of m methods)) c.loop-n.n false long c.loop-n.invariant (well ∙ c.if-not-calls_native.false)

pub returns-then-not-calls_native : goal.returns-then-not-calls_native
returns-then-not-calls_native c =
    let m = c.args.tables.now in
    let rows = c.args.rows.now in
    let within : c.loop-n.n < row_count m methods = omega arith in
    let inside : c.loop-n.n < length rows = omega (arith, within, c.requires) in
    let long : c.loop-n.n < length (numbered (call_well rows) 0 (rows_of m methods)) = omega (arith, within, walk_long rows m) in
    let well = call_is rows m c.loop-n.n c.read_row-row.result.impl_flags (get_or rows c.loop-n.n c.index-rows-n.result) c.calls_native.result within (ap (λ (r : MethodDefRow). r.impl_flags) c.read_row-row.ensures) (slice_get-get_or rows c.loop-n.n c.index-rows-n.result inside) c.calls_native.ensures in
    not_all (λ well. well) (numbered (call_well rows) 0 (rows_of m methods)) c.loop-n.n false long (well ∙ c.if-not-calls_native.true)

pub returns : goal.returns
returns c =
    let m = c.args.tables.now in
    let rows = c.args.rows.now in
    let past : row_count m methods ≤ c.loop-n.n = omega arith in
    let all : length (numbered (call_well rows) 0 (rows_of m methods)) ≤ c.loop-n.n = omega (arith, past, walk_long rows m) in
    all_passed (λ well. well) (numbered (call_well rows) 0 (rows_of m methods)) c.loop-n.n all c.loop-n.invariant
