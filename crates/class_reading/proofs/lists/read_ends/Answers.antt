use Rattle.std.proofs.Common.{◌<◌, ◌≤◌, ◌+◌, ◌-◌, ap, arith}
use Rattle.file_tables.specs.Metadata.{row_count}
use Rattle.world_rows.specs.Tokens.{type_defs, fields, methods}
use Rattle.class_reading.proofs.ListLaws.{end_before, end_last}
use Rattle.class_reading.proofs.lists.read_ends.Goals as goal

pub returns-then-n-count-clause-fields : goal.returns-then-n-count-clause-fields
returns-then-n-count-clause-fields c =
    let within : c.args.n + 1 < row_count c.args.tables.now type_defs = omega arith in
    let first = ap (λ r. r.first_field - 1) c.read_row-next.ensures in
    let end = end_before c.args.tables.now fields 4 c.args.n within in
    cc

pub returns-then-n-count-clause-methods : goal.returns-then-n-count-clause-methods
returns-then-n-count-clause-methods c =
    let within : c.args.n + 1 < row_count c.args.tables.now type_defs = omega arith in
    let first = ap (λ r. r.first_method - 1) c.read_row-next.ensures in
    let end = end_before c.args.tables.now methods 5 c.args.n within in
    cc

pub returns-else-n-count-clause-fields : goal.returns-else-n-count-clause-fields
returns-else-n-count-clause-fields c =
    let past : row_count c.args.tables.now type_defs ≤ c.args.n + 1 = omega arith in
    let end = end_last c.args.tables.now fields 4 c.args.n past in
    cc

pub returns-else-n-count-clause-methods : goal.returns-else-n-count-clause-methods
returns-else-n-count-clause-methods c =
    let past : row_count c.args.tables.now type_defs ≤ c.args.n + 1 = omega arith in
    let end = end_last c.args.tables.now methods 5 c.args.n past in
    cc
